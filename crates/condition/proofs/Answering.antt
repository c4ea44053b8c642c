-- The reply of `coefficients` and what it leaves in the lent list, case by case; and the promises, from what the rules say. Assumes nothing.
--   no_room, not_checked, too_large     the three refusals
--   all_right                           the reply where nothing is at fault
--   kept, filled                        what the list holds after a refusal, and after acceptance
--   coefficients_kept, misclosure_kept  the answers of the rules keep the promises
--   refused_kept, filled_kept           so do a refusal that leaves the list as it was, and an acceptance with the coefficients in it
--   misclosure_refused, misclosed       so do a refusal by the checks, and past them w, judged by its range
--   refusal_leaves_list                 and a refusal that keeps the promise leaves the lent list as it was
use mathlib.Core.Path.{◌≡◌, sym, ◌∙◌, ap}
use mathlib.Core.Bool.{true, false}
use mathlib.Core.List.{List}
use Prim.Native.Nat.{ℕ, ◌+◌}
use borrow.Author.Tests.{eq-eqb, ne_eqb}
use lib.IntN.{ℤ}
use lib.ListN.{length}
use Rattle.exact.specs.Tabulate.{tabulate}
use Rattle.reply.specs.declared.Refusal.{Refusal}
use Rattle.reply.specs.declared.Refusal.TheVariants.{Count, Coefficient}
use Rattle.reply.specs.Reply.{Reply}
use Rattle.reply.specs.Reply.{Figure}
use Rattle.reply.specs.Checks.{leaves, figure_of, figure_reply, figure_value}
use Rattle.reply.specs.Verdicts.{verdict_of}
use Rattle.exact.specs.Sum.{sum}
use Rattle.condition.specs.declared.Kind.{Kind}
use Rattle.condition.specs.Terms.{part}
use Rattle.condition.specs.Rules.{Lent, term, checks, coefficient, beyond, coefficients_reply, coefficients_list, w_of, judged, misclosure, misclosure_figure}
use Rattle.condition.specs.Promise.{Coefficients, Misclosed}
use Rattle.std.specs.Prelude.{Ok, Err}

module _ (l : Lent) (room : ℕ) where
  pub no_room : (room ≡ length l.directions → ⊥) → coefficients_reply l room ≡ Err (Count 0)
  unfolding coefficients_reply
  no_room n = rw (ne_eqb room (length l.directions) n)

  module _ (e : room ≡ length l.directions) where
    pub not_checked : (why : Refusal) → checks l ≡ Err why → coefficients_reply l room ≡ Err why
    unfolding coefficients_reply
    not_checked why f = rw (eq-eqb room (length l.directions) e, f)

    pub too_large : checks l ≡ Ok tt → beyond l ≡ true → coefficients_reply l room ≡ Err (Coefficient 1)
    unfolding coefficients_reply
    too_large f g = rw (eq-eqb room (length l.directions) e, f, g)

    pub all_right : checks l ≡ Ok tt → beyond l ≡ false → coefficients_reply l room ≡ Ok tt
    unfolding coefficients_reply
    all_right f g = rw (eq-eqb room (length l.directions) e, f, g)

module _ (l : Lent) (before : List ℤ) where
  pub kept : (why : Refusal) → coefficients_reply l (length before) ≡ Err why → coefficients_list l before ≡ before
  unfolding coefficients_list
  kept why e = ap (λ (r : Reply). leaves r (tabulate (length l.directions) (λ h. coefficient l (h + 1))) before) e

  pub filled : coefficients_reply l (length before) ≡ Ok tt → coefficients_list l before ≡ tabulate (length l.directions) (λ h. coefficient l (h + 1))
  unfolding coefficients_list
  filled e = rw e

-- ---- the promises
pub coefficients_kept : {l : Lent} {before after : List ℤ} {reply : Reply} → reply ≡ coefficients_reply l (length before) → after ≡ coefficients_list l before
    → Coefficients l before reply after
coefficients_kept e f = record { answer = e; verdict = ap verdict_of e; list = f }

pub misclosure_kept : {l : Lent} {figure : Figure} → figure ≡ misclosure_figure l → Misclosed l figure
misclosure_kept e = record { answer = e; verdict = ap (λ (f : Figure). verdict_of (figure_reply f)) e; value = ap figure_value e }

-- a refusal of the coefficients leaves the list as it was
pub refused_kept : {l : Lent} {before : List ℤ} {reply : Reply} {why : Refusal} → reply ≡ Err why → coefficients_reply l (length before) ≡ Err why
    → Coefficients l before reply before
refused_kept {l} {before} {reply} {why} r e = coefficients_kept (r ∙ sym e) (sym (kept l before why e))

pub filled_kept : {l : Lent} {before after : List ℤ} → coefficients_reply l (length before) ≡ Ok tt
    → after ≡ tabulate (length l.directions) (λ h. coefficient l (h + 1)) → Coefficients l before (Ok tt) after
filled_kept {l} {before} e f = coefficients_kept (sym e) (f ∙ sym (filled l before e))

pub misclosure_refused : {l : Lent} {figure : Figure} {why : Refusal} → figure ≡ Err why → checks l ≡ Err why → Misclosed l figure
unfolding misclosure_figure
misclosure_refused r e = misclosure_kept (rw e r)

-- past the checks: w of the rule, and its range
pub misclosed : {l : Lent} {figure : Figure} {kind : Kind} {total : ℤ} → checks l ≡ Ok tt → l.kind ≡ kind
    → total ≡ sum (length l.kinds) (λ j. part l.directions (term l j)) → (let w = w_of kind total l.target in figure ≡ figure_of (judged w) w)
    → Misclosed l figure
unfolding misclosure_figure misclosure
misclosed e k t f = misclosure_kept (rw (e, k, ← t) f)

-- "A refusal returns number and place only; all lent lists stay as they were."
pub refusal_leaves_list : (l : Lent) (before : List ℤ) (why : Refusal) (after : List ℤ) → Coefficients l before (Err why) after → after ≡ before
refusal_leaves_list l before why after x = x.list ∙ kept l before why (sym x.answer)
