-- The replies to one condition's terms by the letter of its kind. Assumes nothing.
--   coefficients_named, coefficients_unknown      the promise of the coefficients, where the letter names a kind and where it does not
--   misclosure_named, misclosure_unknown          that of the misclosure
use mathlib.Core.Path.{◌≡◌, refl, ◌∙◌}
use mathlib.Core.List.{List}
use lib.IntN.{ℤ}
use Rattle.reply.specs.declared.Refusal.TheVariants.{Malformed}
use Rattle.reply.specs.Reply.{Reply, Figure}
use Rattle.reply.specs.declared.Verdict.{Verdict}
use Rattle.reply.specs.Verdicts.{refused, verdict_of}
use Rattle.condition.specs.declared.Kind.{Kind}
use Rattle.condition.specs.Rules.{Lent, misclosure_figure}
use Rattle.condition.specs.Promise.{Coefficients as Answered}
use Rattle.office.specs.Promises.{Coefficients, Misclosed}
use Rattle.std.specs.Prelude.{Some, None, Option}
use Rattle.reply.specs.Checks.{figure_reply, figure_leaves}

module _ (v : Verdict) (h : Option Kind) (l : Kind → Lent) where
  -- ---- the letter names a kind
  module _ (kind : Kind) (named : h ≡ Some kind) where
    pub coefficients_named : (r : Reply) (before after : List ℤ) → v ≡ verdict_of r → Answered (l kind) before r after → Coefficients h l before v after
    coefficients_named r before after told a = record { verdict = rw named (told ∙ a.verdict); list = rw named a.list }

    pub misclosure_named : (figure : Figure) (before after : ℤ) → v ≡ verdict_of (figure_reply figure) → after ≡ figure_leaves figure before → figure ≡ misclosure_figure (l kind) → Misclosed h l before v after
    misclosure_named figure before after told left answered =
        record { verdict = rw (named, ← answered) told; number = rw (named, ← answered) left }

  -- ---- it names none: 1 at 0
  module _ (unknown : h ≡ None) (told : v ≡ refused (Malformed 0)) where
    pub coefficients_unknown : (before : List ℤ) → Coefficients h l before v before
    coefficients_unknown before = record { verdict = rw unknown told; list = rw unknown refl }

    pub misclosure_unknown : (before : ℤ) → Misclosed h l before v before
    misclosure_unknown before = record { verdict = rw unknown told; number = rw unknown refl }
