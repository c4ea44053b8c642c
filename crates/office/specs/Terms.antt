-- One condition's terms as C lends them: the kind of condition is its letter.
use Rattle.std.specs.Prelude.{cond, List, ℕ, eqb, ℤ, Err, Some, None, Option}
use Rattle.reply.specs.declared.Refusal.TheVariants.{Malformed}
use Rattle.reply.specs.Reply.{Reply, Figure}
use Rattle.condition.specs.declared.Kind.{Kind}
use Rattle.condition.specs.declared.Kind.TheVariants.{Angle, Side}
use Rattle.condition.specs.Rules.{Lent, lent, coefficients_reply, coefficients_list, misclosure_figure}

-- the kind of condition is the letter A (65) or S (83)
abbrev pub heading_of : ℕ → Option Kind
heading_of letter = cond (eqb letter 65) (Some Angle) (cond (eqb letter 83) (Some Side) None)

-- what is lent, but for the kind of condition
abbrev pub terms_of : (directions q : List ℤ) (target : ℤ) (kinds values d i k : List ℤ) → Kind → Lent
terms_of directions q target kinds values d i k kind = lent directions q kind target kinds values d i k

-- any other letter is 1 at 0, before all other checks
abbrev pub coefficients_reply_under : Option Kind → (Kind → Lent) → ℕ → Reply
coefficients_reply_under (Some kind) l room = coefficients_reply (l kind) room
coefficients_reply_under None l room = Err (Malformed 0)

abbrev pub coefficients_list_under : Option Kind → (Kind → Lent) → List ℤ → List ℤ
coefficients_list_under (Some kind) l before = coefficients_list (l kind) before
coefficients_list_under None l before = before

abbrev pub misclosure_under : Option Kind → (Kind → Lent) → Figure
misclosure_under (Some kind) l = misclosure_figure (l kind)
misclosure_under None l = Err (Malformed 0)
