-- Laws of the numbers that the files write. Assumes nothing.
--   small_next, small_18                           i digits have a value below 10 ^ i, 18 digits at most below 10 ^ 18
--   small_fits, minus_fits                         so the value fits a signed number, with and without the minus
--   plus_whole, plus_none, minus-..                the number, with and without the minus
--   unsigned_empty, -long, -zero, -many, -one      the digits, by their count and the first of them
--   number_minus, number_plus                      the number, by the first byte of its text
use mathlib.Core.Path.{◌≡◌, sym, ◌∙◌, ap, subst}
use mathlib.Core.List.{List}
use Prim.Native.Nat.{ℕ, zero, suc, ◌+◌, ◌*◌, ◌<◌, ◌≤◌, ◌^◌}
use native.Mathlib.Numerals.{add-one}
use native.Mathlib.Nat.{pow-succ', pow-le-pow_right}
use native.Mathlib.Omega.{arith}
use borrow.Author.Tests.{lt-ltb, le-ltb, eq-eqb, ne_eqb}
use lib.Dec.{lit<}
use lib.ListN.{length, get_or, drop}
use lib.IntN.{ℤ, pos, neg_ℤ, ◌-ℤ◌, +ℤ_idl}
use mir.Syntax.{w64}
use mir.Val.{SFits, to_z, of_z}
use Rattle.exact.proofs.Bound.{read}
use Rattle.text.specs.Numbers.{read_digits, plus, minus, unsigned_of, numeral_within}
use Rattle.std.specs.Prelude.{Some, None, Option}

-- ---- the size of the value
pub small_next : (v d i : ℕ) → v < 10 ^ i → d ≤ 9 → 10 * v + d < 10 ^ (i + 1)
small_next v d i h k = rw (add-one i, pow-succ' 10 i) (omega arith)

pub small_18 : (v i : ℕ) → v < 10 ^ i → i ≤ 18 → v < 10 ^ 18
small_18 v i h l = omega (arith, pow-le-pow_right {n = 10} (lit< tt) l)

small_fits : (v : ℕ) → v < 10 ^ 18 → SFits w64 (pos v)
small_fits v h = record { sfits = omega arith }

small_read : (v : ℕ) → v < 10 ^ 18 → to_z w64 v ≡ pos v
small_read v h = read (small_fits v h)

neg_fits : (v : ℕ) → v < 10 ^ 18 → SFits w64 (neg_ℤ (pos v))
neg_fits zero h = record { sfits = omega arith }
neg_fits (suc v) h = record { sfits = omega arith }

-- 0 - v, as the machine forms it from the bits of v
minus_is : (v : ℕ) → v < 10 ^ 18 → pos 0 -ℤ to_z w64 v ≡ neg_ℤ (pos v)
minus_is v h = ap (λ (z : ℤ). pos 0 -ℤ z) (small_read v h) ∙ +ℤ_idl (neg_ℤ (pos v))

minus_fits : (v : ℕ) → v < 10 ^ 18 → SFits w64 (pos 0 -ℤ to_z w64 v)
minus_fits v h = subst (SFits w64) (sym (minus_is v h)) (neg_fits v h)

-- ---- with and without the minus
module _ {d : Option ℕ} {v : ℕ} (e : d ≡ Some v) where
  pub plus_whole : v < 10 ^ 18 → plus d ≡ Some (to_z w64 v)
  unfolding plus
  plus_whole h = rw (e, small_read v h)

  pub minus_zero : v ≡ 0 → minus d ≡ None
  unfolding minus
  minus_zero z = rw (e, eq-eqb v 0 z)

  pub minus_whole : (v ≡ 0 → ⊥) → v < 10 ^ 18 → minus d ≡ Some (to_z w64 (of_z w64 (pos 0 -ℤ to_z w64 v)))
  unfolding minus
  minus_whole z h = rw (e, ne_eqb v 0 z, read (minus_fits v h) ∙ minus_is v h)

pub plus_none : {d : Option ℕ} → d ≡ None → plus d ≡ None
unfolding plus
plus_none e = rw e

pub minus_none : {d : Option ℕ} → d ≡ None → minus d ≡ None
unfolding minus
minus_none e = rw e

-- ---- the digits of a text s, and its number
module _ (most : ℕ) (s : List ℕ) where
  pub unsigned_empty : length s ≡ 0 → unsigned_of most s ≡ None
  unfolding unsigned_of
  unsigned_empty e = rw (eq-eqb (length s) 0 e)

  pub unsigned_long : (length s ≡ 0 → ⊥) → most < length s → unsigned_of most s ≡ None
  unfolding unsigned_of
  unsigned_long e l = rw (ne_eqb (length s) 0 e, lt-ltb most (length s) l)

  module _ (e : length s ≡ 0 → ⊥) (l : length s ≤ most) where
    pub unsigned_zero : 1 < length s → get_or s 0 0 ≡ 48 → unsigned_of most s ≡ None
    unfolding unsigned_of
    unsigned_zero m z = rw (ne_eqb (length s) 0 e, le-ltb most (length s) l, lt-ltb 1 (length s) m, eq-eqb (get_or s 0 0) 48 z)

    pub unsigned_many : 1 < length s → (get_or s 0 0 ≡ 48 → ⊥) → unsigned_of most s ≡ read_digits 0 s
    unfolding unsigned_of
    unsigned_many m z = rw (ne_eqb (length s) 0 e, le-ltb most (length s) l, lt-ltb 1 (length s) m, ne_eqb (get_or s 0 0) 48 z)

    pub unsigned_one : length s ≤ 1 → unsigned_of most s ≡ read_digits 0 s
    unfolding unsigned_of
    unsigned_one m = rw (ne_eqb (length s) 0 e, le-ltb most (length s) l, le-ltb 1 (length s) m)

  pub number_minus : get_or s 0 0 ≡ 45 → minus (unsigned_of most (drop 1 s)) ≡ numeral_within most s
  unfolding numeral_within
  number_minus e = rw (eq-eqb (get_or s 0 0) 45 e)

  pub number_plus : (get_or s 0 0 ≡ 45 → ⊥) → plus (unsigned_of most s) ≡ numeral_within most s
  unfolding numeral_within
  number_plus e = rw (ne_eqb (get_or s 0 0) 45 e)
