-- A table whose second condition is a multiple of its first, as if both were the same condition in other words, is refused with 6, at row 2 at the
-- latest, unless the second condition is light. Assumes nothing.
--   multiple_table      of a lent table that passes the input checks
use mathlib.Core.Path.{◌≡◌, refl, ◌∙◌}
use mathlib.Core.Bool.{Bool, true, false}
use mathlib.Core.Logic.{◌⊎◌, inl, inr}
use mathlib.Core.List.{List}
use Prim.Native.Nat.{◌<◌}
use native.Mathlib.Omega.{arith}
use lib.ListN.{length}
use lib.IntN.{ℤ, pos}
use lib.Signed.{◌<ℤ◌}
use Rattle.exact.proofs.Searching.{failed_none, failed_more}
use Rattle.reply.specs.declared.Refusal.TheVariants.{WeakRow}
use Rattle.doolittle.specs.Table.{Table, table_of}
use Rattle.doolittle.specs.Solution.{weak}
use Rattle.doolittle.proofs.Multiple.{Multiple, Heavy, multiple_weak}
use Rattle.adjustment.specs.Promise.{Answers, adjust_reply}
use Rattle.adjustment.proofs.Promising.{input, passed_sound, passed_solved}
use Rattle.adjustment.proofs.Solving.{first_weak}
use Rattle.std.specs.Prelude.{Ok, Err}

module _ (ds qs cs ws : List ℤ) (lent : Answers) (passed : input ds qs cs ws lent ≡ Ok tt) (two : 1 < length ws) where
  abbrev t : Table
  t = table_of qs cs ws

  pub multiple_table : (c d : ℤ) → pos 0 <ℤ c → Multiple t c d → Heavy t → (adjust_reply ds qs cs ws lent ≡ Err (WeakRow 1)) ⊎ (adjust_reply ds qs cs ws lent ≡ Err (WeakRow 2))
  multiple_table c d h p heavy = by_test (weak t 0) refl
    where
      by_test : (b : Bool) → weak t 0 ≡ b → (adjust_reply ds qs cs ws lent ≡ Err (WeakRow 1)) ⊎ (adjust_reply ds qs cs ws lent ≡ Err (WeakRow 2))
      by_test true e = inl (passed_solved ds qs cs ws lent passed ∙ first_weak t 0 (omega arith) (failed_none (weak t)) e)
      by_test false e =
          inr
          (passed_solved ds qs cs ws lent passed
          ∙ first_weak t 1 two (failed_more (weak t) 0 (failed_none (weak t)) e) (multiple_weak t c d h p heavy (passed_sound ds qs cs ws lent passed).q_least e))
