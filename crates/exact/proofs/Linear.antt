-- Linear facts of ℤ by `omega`. A whole number is a difference of two naturals, z = p − n. `search linear` finds the difference of a sum,
-- a product or a negation, and an order or an equation of ℤ is then one of ℕ, which `omega` reads, products multiplied out. Assumes nothing.
--   Difference                              z = p − n, with what `omega` is to know of z; unknown, unknowns: of one variable, of a list of them
--   linear                                  the set for `search`
--   eq_by, le_by, lt_by, abs_by             a fact of ℤ shown by one of ℕ: `le_by (search linear) (search linear) (omega (arith, orders))`
--   eq_of, le_of, lt_of                     a fact of ℤ about a compound, read as one of ℕ
--   orders                                  the set for `omega`: it then reads each order, equation, range and test of ℤ in scope
--   one_sided                               goes into omega's list where the proof turns on a sign
use mathlib.Core.Path.{◌≡◌, sym, ◌∙◌, ap, subst}
use mathlib.Core.Bool.{Bool, true, false, not, cond}
use mathlib.Core.List.{List, [], ◌∷◌}
use Prim.Native.Nat.{ℕ, zero, suc, ◌+◌, ◌*◌, ◌-◌, ◌<◌, ◌≤◌, ◌^◌, min}
use native.Mathlib.Omega.{arith}
use lib.Dec.{T, ltb, ltb→lt, nltb→le, le→leb, leb→le, lt→ltb}
use lib.IntN.{ℤ, pos, negsuc, neg_ℤ, nat_abs, sub_ℕ, ◌+ℤ◌, ◌-ℤ◌, ◌*ℤ◌, +ℤ_idl}
use lib.Signed.{mag, lt_z, le_z, ◌≤ℤ◌, ◌<ℤ◌, lt_z_no}
use mir.Syntax.{w64}
use mir.Val.{SFits, to_z, of_z}
use mir.ValLaws.{to_z-of_z}
use Rattle.exact.proofs.Ring.{ring}

-- ---- what of z lies above zero, and what below
abbrev pub above : ℤ → ℕ
above (pos n) = n
above (negsuc n) = 0

abbrev pub below : ℤ → ℕ
below (pos n) = 0
below (negsuc n) = suc n

by_bool : (c : Bool) (x y : ℤ) (Q : ℤ → Type 0) → (T c → Q x) → (T (not c) → Q y) → Q (cond c x y)
by_bool true x y Q f g = f tt
by_bool false x y Q f g = g tt

lesser : (a b : ℕ) → a < b → 0 + b ≡ a + suc (b - suc a)
lesser a b h = omega arith

greater : (a b : ℕ) → b ≤ a → (a - b) + b ≡ a + 0
greater a b h = omega arith

sub_balance : (a b : ℕ) → above (sub_ℕ a b) + b ≡ a + below (sub_ℕ a b)
sub_balance a b =
    by_bool (ltb a b) (negsuc (b - suc a)) (pos (a - b)) (λ z. above z + b ≡ a + below z) (λ t. lesser a b (ltb→lt a b t)) (λ t. greater a b (nltb→le a b t))

difference_balance : (a b : ℕ) → above (pos a -ℤ pos b) + b ≡ a + below (pos a -ℤ pos b)
difference_balance a zero = omega arith
difference_balance a (suc b) = sub_balance a (suc b)

pub abs_parts : (z : ℤ) → nat_abs z ≡ above z + below z
abs_parts (pos n) = omega arith
abs_parts (negsuc n) = omega arith

parts_equal : (a b : ℤ) → above a + below b ≡ above b + below a → a ≡ b
parts_equal (pos a) (pos b) e = ap pos (omega arith)
parts_equal (pos a) (negsuc b) e = absurd (omega arith)
parts_equal (negsuc a) (pos b) e = absurd (omega arith)
parts_equal (negsuc a) (negsuc b) e = ap negsuc (omega arith)

-- ---- z = p − n
pub record Difference (z : ℤ) : Type 0 where
  pub p : ℕ
  pub n : ℕ
  pub balance : above z + n ≡ p + below z
  pub size : nat_abs z ≡ above z + below z

pub balanced : {z : ℤ} (p n : ℕ) → z ≡ pos p -ℤ pos n → above z + n ≡ p + below z
balanced p n e = subst (λ (x : ℤ). above x + n ≡ p + below x) (sym e) (difference_balance p n)

abbrev pub difference : {z : ℤ} (p n : ℕ) → z ≡ pos p -ℤ pos n → Difference z
difference {z} p n e = record { p = p; n = n; balance = balanced p n e; size = abs_parts z }

pub is_difference : {z : ℤ} (s : Difference z) → z ≡ pos s.p -ℤ pos s.n
is_difference {z} s = parts_equal z (pos s.p -ℤ pos s.n) (omega (arith, difference_balance s.p s.n))

-- ---- the difference of each form
pub sum_of_differences : (x y u v : ℤ) → (x -ℤ y) +ℤ (u -ℤ v) ≡ (x +ℤ u) -ℤ (y +ℤ v)
sum_of_differences x y u v = simp ring

pub product_of_differences : (x y u v : ℤ) → (x -ℤ y) *ℤ (u -ℤ v) ≡ (x *ℤ u +ℤ y *ℤ v) -ℤ (x *ℤ v +ℤ y *ℤ u)
product_of_differences x y u v = simp ring

pub negated_difference : (x y : ℤ) → neg_ℤ (x -ℤ y) ≡ y -ℤ x
negated_difference x y = simp ring

module _ {a b : ℤ} (s : Difference a) (t : Difference b) where
  abbrev pub difference_add : Difference (a +ℤ b)
  difference_add =
      difference (s.p + t.p) (s.n + t.n)
      ((λ i. is_difference s i +ℤ is_difference t i) ∙ sum_of_differences (pos s.p) (pos s.n) (pos t.p) (pos t.n))

  abbrev pub difference_mul : Difference (a *ℤ b)
  difference_mul =
      difference (s.p * t.p + s.n * t.n) (s.p * t.n + s.n * t.p)
      ((λ i. is_difference s i *ℤ is_difference t i) ∙ product_of_differences (pos s.p) (pos s.n) (pos t.p) (pos t.n))

abbrev pub difference_neg : {a : ℤ} → Difference a → Difference (neg_ℤ a)
difference_neg s = difference s.n s.p (ap neg_ℤ (is_difference s) ∙ negated_difference (pos s.p) (pos s.n))

pub less_nothing : (n : ℕ) → pos n ≡ pos n -ℤ pos 0
less_nothing n = ap pos (omega arith)

pub nothing_less : (n : ℕ) → negsuc n ≡ sub_ℕ 0 (suc n)
nothing_less n = sym (+ℤ_idl (negsuc n))

abbrev pub difference_pos : (n : ℕ) → Difference (pos n)
difference_pos n = difference n 0 (less_nothing n)

abbrev pub difference_negsuc : (n : ℕ) → Difference (negsuc n)
difference_negsuc n = difference 0 (suc n) (nothing_less n)

-- what the machine reads back from the bits of a number that fits is the number
abbrev pub difference_read : {a : ℤ} → SFits w64 a → Difference a → Difference (to_z w64 (of_z w64 a))
difference_read {a} f s = difference s.p s.n (to_z-of_z w64 a f ∙ is_difference s)

pub ruleset linear = (difference_add, difference_mul, difference_neg, difference_pos, difference_negsuc, difference_read)

-- ---- variables
pub unknown_is : (z : ℤ) → z ≡ pos (above z) -ℤ pos (below z)
unknown_is (pos n) = less_nothing n
unknown_is (negsuc n) = nothing_less n

-- a whole number of which nothing is known
abbrev pub unknown : (z : ℤ) → Difference z
unknown z = difference (above z) (below z) (unknown_is z)

-- every variable of a list at once: `let v = unknowns (x ∷ y ∷ []) in ..`
abbrev pub Unknowns : List ℤ → Type 0
Unknowns [] = Unit {0}
Unknowns (x ∷ xs) = Difference x × Unknowns xs

abbrev pub unknowns : (xs : List ℤ) → Unknowns xs
unknowns [] = tt
unknowns (x ∷ xs) = (unknown x, unknowns xs)

pub mag_parts : (z : ℤ) (B : ℕ) → mag z < B → (above z < below z + B) × (below z ≤ above z + B)
mag_parts (pos n) B h = omega arith
mag_parts (negsuc n) B h = omega arith

-- ---- a fact of ℤ shown by one of ℕ (`-by`), and read as one of ℕ (`-of`)
le_in : (a b : ℤ) → above a + below b ≤ above b + below a → T (le_z a b)
le_in (pos a) (pos b) h = le→leb a b (omega arith)
le_in (pos a) (negsuc b) h = absurd (omega arith)
le_in (negsuc a) (pos b) h = tt
le_in (negsuc a) (negsuc b) h = le→leb b a (omega arith)

le_out : (a b : ℤ) → T (le_z a b) → above a + below b ≤ above b + below a
le_out (pos a) (pos b) h = omega (arith, leb→le a b h)
le_out (pos a) (negsuc b) h = absurd h
le_out (negsuc a) (pos b) h = omega arith
le_out (negsuc a) (negsuc b) h = omega (arith, leb→le b a h)

lt_in : (a b : ℤ) → above a + below b < above b + below a → T (lt_z a b)
lt_in (pos a) (pos b) h = lt→ltb a b (omega arith)
lt_in (pos a) (negsuc b) h = absurd (omega arith)
lt_in (negsuc a) (pos b) h = tt
lt_in (negsuc a) (negsuc b) h = lt→ltb b a (omega arith)

lt_out : (a b : ℤ) → T (lt_z a b) → above a + below b < above b + below a
lt_out (pos a) (pos b) h = omega (arith, ltb→lt a b h)
lt_out (pos a) (negsuc b) h = absurd h
lt_out (negsuc a) (pos b) h = omega arith
lt_out (negsuc a) (negsuc b) h = omega (arith, ltb→lt b a h)

abs_in : (z : ℤ) (B : ℕ) → above z ≤ below z + B → below z ≤ above z + B → nat_abs z ≤ B
abs_in (pos n) B h k = omega arith
abs_in (negsuc n) B h k = omega arith

module _ {a b : ℤ} (s : Difference a) (t : Difference b) where
  pub eq_by : s.p + t.n ≡ t.p + s.n → a ≡ b
  eq_by e = parts_equal a b (omega (arith, s.balance, t.balance))

  pub le_by : s.p + t.n ≤ t.p + s.n → a ≤ℤ b
  le_by e = record { le = le_in a b (omega (arith, s.balance, t.balance)) }

  pub lt_by : s.p + t.n < t.p + s.n → a <ℤ b
  lt_by e = record { lt = lt_in a b (omega (arith, s.balance, t.balance)) }

pub abs_by : (a : ℤ) (s : Difference a) {B : ℕ} → (s.p ≤ s.n + B) × (s.n ≤ s.p + B) → nat_abs a ≤ B
abs_by a s {B} h = abs_in a B (omega arith) (omega arith)

pub le_of : {a b : ℤ} → a ≤ℤ b → (s : Difference a) (t : Difference b) → s.p + t.n ≤ t.p + s.n
le_of {a} {b} h s t = omega (arith, le_out a b h.le)

pub lt_of : {a b : ℤ} → a <ℤ b → (s : Difference a) (t : Difference b) → s.p + t.n < t.p + s.n
lt_of {a} {b} h s t = omega (arith, lt_out a b h.lt)

pub eq_of : {a b : ℤ} → a ≡ b → (s : Difference a) (t : Difference b) → s.p + t.n ≡ t.p + s.n
eq_of h s t = omega (arith, ap above h, ap below h)

-- ---- rules for omega's list
pub le_fact : {a b : ℤ} → a ≤ℤ b → above a + below b ≤ above b + below a
le_fact {a} {b} h = le_out a b h.le

pub lt_fact : {a b : ℤ} → a <ℤ b → above a + below b < above b + below a
lt_fact {a} {b} h = lt_out a b h.lt

pub eq_fact : {a b : ℤ} → a ≡ b → above a + below b ≡ above b + below a
eq_fact {a} {b} h = omega (arith, ap above h, ap below h)

pub fits_most : {z : ℤ} → SFits w64 z → above z < below z + 2 ^ 63
fits_most {z} s = (mag_parts z (2 ^ 63) s.sfits).0

pub fits_least : {z : ℤ} → SFits w64 z → below z ≤ above z + 2 ^ 63
fits_least {z} s = (mag_parts z (2 ^ 63) s.sfits).1

-- a test of two signed numbers that passed, or failed
pub lt_passed : (a b : ℤ) → lt_z a b ≡ true → above a + below b < above b + below a
lt_passed a b e = lt_out a b (subst T (sym e) tt)

pub lt_failed : (a b : ℤ) → lt_z a b ≡ false → above b + below a ≤ above a + below b
lt_failed a b e = le_fact {a = b} {b = a} (lt_z_no (subst (λ (t : Bool). T (not t)) (sym e) tt))

pub le_passed : (a b : ℤ) → le_z a b ≡ true → above a + below b ≤ above b + below a
le_passed a b e = le_out a b (subst T (sym e) tt)

pub le_failed : (a b : ℤ) → le_z a b ≡ false → above b + below a < above a + below b
le_failed a b e = not_le a b (λ (t : T (le_z a b)). subst T e t)
  where
    not_le : (a b : ℤ) → (T (le_z a b) → ⊥) → above b + below a < above a + below b
    not_le (pos a) (pos b) f = let g : ¬ (a ≤ b) = λ h. f (le→leb a b h) in omega arith
    not_le (pos a) (negsuc b) f = omega arith
    not_le (negsuc a) (pos b) f = absurd (f tt)
    not_le (negsuc a) (negsuc b) f = let g : ¬ (b ≤ a) = λ h. f (le→leb b a h) in omega arith

pub ruleset orders = (lt_passed, lt_failed, le_passed, le_failed, le_fact, lt_fact, eq_fact, fits_most, fits_least)

-- one of the two parts is 0. `omega` splits the proof at each Difference in scope, so keep the scope small
pub one_sided : {z : ℤ} → Difference z → min (above z) (below z) ≡ 0
one_sided {z} s = one_zero z
  where
    one_zero : (z : ℤ) → min (above z) (below z) ≡ 0
    one_zero (pos n) = omega arith
    one_zero (negsuc n) = omega arith
