-- Laws of numbers written in decimal. Assumes nothing.
--   digits_small, digits_large      the digits of n: one, or those of n / 10 and one more
--   length_small, length_large      their count
--   written_below, written_above    what is written of a number below 0, and of another, by its size
use mathlib.Core.Path.{◌≡◌, refl, sym, ◌∙◌, ap}
use mathlib.Core.Bool.{Bool, true, false}
use mathlib.Core.List.{List, [], ◌∷◌, ◌++◌}
use Prim.Native.Nat.{ℕ, zero, suc, ◌+◌, ◌/◌, ◌%◌, ◌<◌, ◌≤◌, ◌^◌}
use native.Mathlib.Nat.{pow-succ'}
use native.Mathlib.Omega.{arith}
use borrow.Author.Tests.{lt-ltb, le-ltb, ltb-true, ltb-false}
use lib.Dec.{ltb}
use lib.IntN.{ℤ, pos, negsuc, nat_abs}
use lib.ListN.{length, length-append}
use lib.Signed.{◌≤ℤ◌, ◌<ℤ◌}
use Rattle.exact.proofs.Linear.{orders}
use Rattle.text.specs.Decimal.{digits, digits_of, written}

-- ---- the digits of n
pub one_small : (f n : ℕ) → n < 10 → digits (suc f) n ≡ (48 + n % 10) ∷ []
unfolding digits
one_small f n h = rw (lt-ltb n 10 h)

pub one_large : (f n : ℕ) → 10 ≤ n → digits (suc f) n ≡ digits f (n / 10) ++ ((48 + n % 10) ∷ [])
unfolding digits
one_large f n h = rw (le-ltb n 10 h)

pub tenth : (f n : ℕ) → n < 10 ^ suc f → n / 10 < 10 ^ f
tenth f n h = let e = pow-succ' 10 f in omega arith

-- more room than is needed changes nothing
room_step : (f n : ℕ) (b : Bool) → ltb n 10 ≡ b → digits (suc f) (n / 10) ≡ digits (suc (suc f)) (n / 10)
    → digits (suc (suc f)) n ≡ digits (suc (suc (suc f))) n
room_step f n true t h = let l = ltb-true n 10 t in one_small (suc f) n l ∙ sym (one_small (suc (suc f)) n l)
room_step f n false t h =
    let g = ltb-false n 10 t in
    one_large (suc f) n g ∙ (ap (λ (x : List ℕ). x ++ ((48 + n % 10) ∷ [])) h ∙ sym (one_large (suc (suc f)) n g))

room : (f n : ℕ) → n < 10 ^ suc f → digits (suc f) n ≡ digits (suc (suc f)) n
room zero n h = one_small 0 n (omega arith) ∙ sym (one_small 1 n (omega arith))
room (suc f) n h = room_step f n (ltb n 10) refl (room f (n / 10) (tenth (suc f) n h))

pub digits_small : (n : ℕ) → n < 10 → digits_of n ≡ (48 + n % 10) ∷ []
unfolding digits_of
digits_small n h = one_small 19 n h

pub digits_large : (n : ℕ) → 10 ≤ n → n < 10 ^ 20 → digits_of n ≡ digits_of (n / 10) ++ ((48 + n % 10) ∷ [])
unfolding digits_of
digits_large n g h =
    one_large 19 n g ∙ ap (λ (x : List ℕ). x ++ ((48 + n % 10) ∷ [])) (room 18 (n / 10) (tenth 19 n h))

pub length_small : (n : ℕ) → n < 10 → length (digits_of n) ≡ 1
length_small n h = ap length (digits_small n h)

pub length_large : (n : ℕ) → 10 ≤ n → n < 10 ^ 20 → length (digits_of n) ≡ length (digits_of (n / 10)) + 1
length_large n g h = ap length (digits_large n g h) ∙ length-append (digits_of (n / 10)) ((48 + n % 10) ∷ [])

-- ---- the minus
pub written_below : (z : ℤ) → z <ℤ pos 0 → written z ≡ 45 ∷ digits_of (nat_abs z)
unfolding written
written_below (pos n) h = absurd (omega (arith, orders))
written_below (negsuc n) h = refl

pub written_above : (z : ℤ) → pos 0 ≤ℤ z → written z ≡ digits_of (nat_abs z)
unfolding written
written_above (pos n) h = refl
written_above (negsuc n) h = absurd h.le
