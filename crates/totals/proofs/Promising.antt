-- The promise of `add_reports`, from what its checks have said. Assumes nothing.
--   no_array, array                             a lent list that is no array of so many, and one that is
--   amiss_any, none_amiss                       whether the lengths are amiss
--   by_lengths, by_sizes                        the reply, where the checks before have accepted
--   past_nets, within_nets                      and by the number of nets
--   small_at, small                             numbers that are not too large fit, and so does what they make
--   refused_adds, accepted_adds                 a refusal with the third list as it was lent keeps the promise, and so does an acceptance with the sum
--   one_sum                                     two answers that keep the promise are equal, and leave equal lists
use mathlib.Core.Path.{◌≡◌, refl, sym, ◌∙◌, ap}
use mathlib.Core.Bool.{Bool, false, true, not, ◌||◌}
use mathlib.Core.List.{List}
use Prim.Native.Nat.{ℕ, ◌+◌, ◌≤◌, ◌<◌}
use native.Mathlib.Omega.{arith}
use borrow.Author.Tests.{lt-ltb, le-ltb, ltb-false, eq-eqb, eqb-true}
use lib.Dec.{ltb, eqb}
use lib.ListN.{length, get_or}
use Rattle.std.proofs.lemmas.Bool.{or_parts}
use Rattle.exact.proofs.Unique.{only}
use Rattle.reply.specs.declared.Refusal.{Refusal}
use Rattle.reply.specs.declared.Refusal.TheVariants.{Count, OutOfRange, Nets}
use Rattle.reply.specs.Reply.{Reply}
use Rattle.reply.specs.Checks.{leaves}
use Rattle.reply.specs.Verdicts.{verdict_of}
use Rattle.reply.proofs.Checking.{none_refused}
use Rattle.totals.specs.Totals.{sum_of}
use Rattle.totals.specs.Promise.{most_nets, most_total, lengths_amiss, too_large, too_large_at, sizes_reply, sum_reply, Adds}
use Rattle.std.specs.Prelude.{Ok, Err, Some, None, Option, Result, MatchOption}
use Rattle.std.specs.Option.{ok_or}
use Rattle.std.specs.Array.{IsWholeChunk}
use Rattle.std.proofs.Common.{Bor, MutBor}

-- the list that a lent one is
abbrev pub lent : Bor (List ℕ) → List ℕ
lent x = x.now

abbrev pub lent_mut : MutBor (List ℕ) → List ℕ
lent_mut x = x.now

-- a list that is no array of n is refused, and one that is stands as it was
module _ (n : ℕ) {A : Type 0} (of : A → List ℕ) (xs : List ℕ) (x : Option A) (why : Refusal) (is : MatchOption x (length xs ≡ n → ⊥) (λ y. IsWholeChunk xs (of y) n)) where
  refused : (o : Option A) → x ≡ o → {other : Refusal} → ok_or o why ≡ Err other → (other ≡ why) × (length xs ≡ n → ⊥)
  refused (Some y) e f = cc
  refused None e f = (cc, (rw e at is))

  given : (o : Option A) → x ≡ o → {y : A} → ok_or o why ≡ Ok y → (of y ≡ xs) × (length xs ≡ n)
  given (Some z) e {y} f =
      let same : z ≡ y = cc in
      let whole : IsWholeChunk xs (of z) n = (rw e at is) in (ap of (sym same) ∙ whole.same, whole.long)
  given None e f = cc

  module _ {r : Result A Refusal} (told : r ≡ ok_or x why) where
    pub no_array : {other : Refusal} → r ≡ Err other → (other ≡ why) × (length xs ≡ n → ⊥)
    no_array e = refused x refl (sym told ∙ e)

    pub array : {y : A} → r ≡ Ok y → (of y ≡ xs) × (length xs ≡ n)
    array e = given x refl (sym told ∙ e)

pub amiss_any : (a b c : ℕ) → (a ≡ 16 → b ≡ 16 → c ≡ 16 → ⊥) → lengths_amiss a b c ≡ true
unfolding lengths_amiss
amiss_any a b c n = by_tests (eqb a 16) (eqb b 16) (eqb c 16) refl refl refl
  where
    by_tests : (p q r : Bool) → eqb a 16 ≡ p → eqb b 16 ≡ q → eqb c 16 ≡ r → (not p || (not q || not r)) ≡ true
    by_tests false q r e f g = refl
    by_tests true false r e f g = refl
    by_tests true true false e f g = refl
    by_tests true true true e f g = absurd (n (eqb-true a 16 e) (eqb-true b 16 f) (eqb-true c 16 g))

pub none_amiss : {a b c : ℕ} → a ≡ 16 → b ≡ 16 → c ≡ 16 → lengths_amiss a b c ≡ false
unfolding lengths_amiss
none_amiss {a} {b} {c} e f g = rw (eq-eqb a 16 e, eq-eqb b 16 f, eq-eqb c 16 g)

module _ (first second : List ℕ) (room : ℕ) where
  pub by_lengths : lengths_amiss (length first) (length second) room ≡ true → sum_reply first second room ≡ Err (Count 0)
  unfolding sum_reply
  by_lengths e = rw e

  module _ (s : lengths_amiss (length first) (length second) room ≡ false) where
    pub by_sizes : (why : Refusal) → sizes_reply first second ≡ Err why → sum_reply first second room ≡ Err why
    unfolding sum_reply
    by_sizes why e = rw (s, e)

    module _ (a : sizes_reply first second ≡ Ok tt) where
      pub past_nets : most_nets < get_or first 0 0 + get_or second 0 0 → sum_reply first second room ≡ Err (Nets (most_nets + 1))
      unfolding sum_reply
      past_nets l = rw (s, a, lt-ltb most_nets (get_or first 0 0 + get_or second 0 0) l)

      pub within_nets : get_or first 0 0 + get_or second 0 0 ≤ most_nets → sum_reply first second room ≡ Ok tt
      unfolding sum_reply
      within_nets l = rw (s, a, le-ltb most_nets (get_or first 0 0 + get_or second 0 0) l)

pub small_at : (i x y : ℕ) → too_large i x y ≡ false → x + y ≤ 1999999999999999998
unfolding too_large
small_at i x y e =
    let n = or_parts (ltb most_total x) _ e in let m = or_parts (ltb most_total y) _ n.1 in
    omega (arith, ltb-false most_total x n.0, ltb-false most_total y m.0)

pub small : (first second : List ℕ) → sizes_reply first second ≡ Ok tt → (i : ℕ) → i < 16 → get_or first i 0 + get_or second i 0 ≤ 1999999999999999998
small first second a i l =
    small_at i (get_or first i 0) (get_or second i 0) (none_refused 16 (too_large_at first second) (λ i. OutOfRange (i + 1)) a i l)

module _ (first second lent : List ℕ) where
  pub refused_adds : (why : Refusal) → sum_reply first second (length lent) ≡ Err why → Adds first second lent (Err why) lent
  refused_adds why e = record { answer = sym e; verdict = ap verdict_of (sym e); sum = refl }

  pub accepted_adds : sum_reply first second (length lent) ≡ Ok tt → {left : List ℕ} → left ≡ sum_of first second → Adds first second lent (Ok tt) left
  accepted_adds e s = record { answer = sym e; verdict = ap verdict_of (sym e); sum = s }

  pub one_sum : (r r' : Reply) (left left' : List ℕ) → Adds first second lent r left → Adds first second lent r' left' → (r ≡ r') × (left ≡ left')
  one_sum r r' left left' a b =
      let held : Reply → List ℕ = λ x. leaves x (sum_of first second) lent in
      (only a.answer b.answer, only (a.sum ∙ ap held a.answer) (b.sum ∙ ap held b.answer))
