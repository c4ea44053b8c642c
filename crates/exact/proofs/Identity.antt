-- Ring identities of ℤ by computation. `Written ρ z` is z as a polynomial in the numbers of ρ, in a normal form: terms in one order, none
-- twice, none with coefficient 0. `search polynomials` finds the polynomial of an expression. Assumes nothing.
--   Written                 z is the value of a polynomial at ρ
--   letters                 every number of ρ as a variable; whatever is no sum or product may be one
--   polynomials             the set for `search`
--   ring_by                 two expressions with one polynomial are equal:
--                           `let ρ = a ∷ b ∷ [] in let e = letters ρ in ring_by ρ (search polynomials) (search polynomials) refl`
use mathlib.Core.Path.{◌≡◌, refl, sym, ◌∙◌, ap}
use mathlib.Core.Bool.{Bool, true, false, cond, ◌&&◌}
use mathlib.Core.List.{List, [], ◌∷◌}
use Prim.Native.Nat.{ℕ, zero, suc}
use lib.Dec.{T, ltb, leb, eqb, eqb→eq}
use lib.IntN.{ℤ, pos, negsuc, neg_ℤ, ◌+ℤ◌, ◌*ℤ◌, +ℤ_idl, +ℤ_idr, +ℤ_assoc, zero-*ℤ, *ℤ-zero}
use Rattle.exact.proofs.Ring.{ring, one_*ℤ, *ℤ_by_one, neg_*ℤ, *ℤ_assoc, *ℤ_left_comm, *ℤ_dist_r, +ℤ_left_comm}

-- a product of variables, each by its place in ρ
abbrev pub Monomial : Type 0
Monomial = List ℕ

pub data Polynomial : Type 0 where
  nil : Polynomial
  term : ℤ → List ℕ → Polynomial → Polynomial

abbrev pub letter : List ℤ → ℕ → ℤ
letter [] i = pos 0
letter (x ∷ xs) zero = x
letter (x ∷ xs) (suc i) = letter xs i

abbrev pub value_m : List ℤ → Monomial → ℤ
value_m ρ [] = pos 1
value_m ρ (i ∷ m) = letter ρ i *ℤ value_m ρ m

abbrev pub value_p : List ℤ → Polynomial → ℤ
value_p ρ nil = pos 0
value_p ρ (term c m p) = c *ℤ value_m ρ m +ℤ value_p ρ p

-- ---- the operations
abbrev pub insert_m : ℕ → Monomial → Monomial
insert_m i [] = i ∷ []
insert_m i (j ∷ m) = cond (leb i j) (i ∷ j ∷ m) (j ∷ insert_m i m)

abbrev pub multiply_m : Monomial → Monomial → Monomial
multiply_m [] k = k
multiply_m (i ∷ m) k = insert_m i (multiply_m m k)

abbrev pub equal_m : Monomial → Monomial → Bool
equal_m [] [] = true
equal_m [] (j ∷ k) = false
equal_m (i ∷ m) [] = false
equal_m (i ∷ m) (j ∷ k) = eqb i j && equal_m m k

abbrev pub less_m : Monomial → Monomial → Bool
less_m [] [] = false
less_m [] (j ∷ k) = true
less_m (i ∷ m) [] = false
less_m (i ∷ m) (j ∷ k) = cond (ltb i j) true (cond (eqb i j) (less_m m k) false)

-- a term whose coefficient is 0 is left out
abbrev pub lead : ℤ → Monomial → Polynomial → Polynomial
lead (pos zero) m p = p
lead (pos (suc n)) m p = term (pos (suc n)) m p
lead (negsuc n) m p = term (negsuc n) m p

abbrev pub choose_p : Bool → Polynomial → Polynomial → Polynomial
choose_p true p q = p
choose_p false p q = q

abbrev pub insert : ℤ → Monomial → Polynomial → Polynomial
insert c m nil = lead c m nil
insert c m (term d k p) = choose_p (equal_m m k) (lead (c +ℤ d) k p) (choose_p (less_m m k) (lead c m (term d k p)) (term d k (insert c m p)))

abbrev pub add : Polynomial → Polynomial → Polynomial
add nil q = q
add (term c m p) q = insert c m (add p q)

abbrev pub scale : ℤ → Monomial → Polynomial → Polynomial
scale c m nil = nil
scale c m (term d k p) = insert (c *ℤ d) (multiply_m m k) (scale c m p)

abbrev pub multiply : Polynomial → Polynomial → Polynomial
multiply nil q = nil
multiply (term c m p) q = add (scale c m q) (multiply p q)

-- ---- each means what it should
either_list : (c : Bool) (x y : Monomial) (Q : Monomial → Type 0) → Q x → Q y → Q (cond c x y)
either_list true x y Q f g = f
either_list false x y Q f g = g

either_polynomial : (c : Bool) (x y : Polynomial) (Q : Polynomial → Type 0) → (T c → Q x) → Q y → Q (choose_p c x y)
either_polynomial true x y Q f g = f tt
either_polynomial false x y Q f g = g

insert_m_value : (ρ : List ℤ) (i : ℕ) (m : Monomial) → value_m ρ (insert_m i m) ≡ letter ρ i *ℤ value_m ρ m
insert_m_value ρ i [] = refl
insert_m_value ρ i (j ∷ m) =
    either_list (leb i j) (i ∷ j ∷ m) (j ∷ insert_m i m) (λ k. value_m ρ k ≡ letter ρ i *ℤ (letter ρ j *ℤ value_m ρ m)) refl
    (ap (λ (x : ℤ). letter ρ j *ℤ x) (insert_m_value ρ i m) ∙ *ℤ_left_comm (letter ρ j) (letter ρ i) (value_m ρ m))

multiply_m_value : (ρ : List ℤ) (m k : Monomial) → value_m ρ (multiply_m m k) ≡ value_m ρ m *ℤ value_m ρ k
multiply_m_value ρ [] k = sym (one_*ℤ (value_m ρ k))
multiply_m_value ρ (i ∷ m) k =
    insert_m_value ρ i (multiply_m m k) ∙ ap (λ (x : ℤ). letter ρ i *ℤ x) (multiply_m_value ρ m k) ∙ sym (*ℤ_assoc (letter ρ i) (value_m ρ m) (value_m ρ k))

and_left : (a b : Bool) → T (a && b) → T a
and_left true b t = tt
and_left false b t = t

and_right : (a b : Bool) → T (a && b) → T b
and_right true b t = t
and_right false b t = absurd t

equal_m_equal : (m k : Monomial) → T (equal_m m k) → m ≡ k
equal_m_equal [] [] t = refl
equal_m_equal [] (j ∷ k) t = absurd t
equal_m_equal (i ∷ m) [] t = absurd t
equal_m_equal (i ∷ m) (j ∷ k) t = λ d. eqb→eq i j (and_left (eqb i j) (equal_m m k) t) d ∷ equal_m_equal m k (and_right (eqb i j) (equal_m m k) t) d

lead_value : (ρ : List ℤ) (c : ℤ) (m : Monomial) (p : Polynomial) → value_p ρ (lead c m p) ≡ c *ℤ value_m ρ m +ℤ value_p ρ p
lead_value ρ (pos zero) m p = sym (ap (λ (x : ℤ). x +ℤ value_p ρ p) (zero-*ℤ (value_m ρ m)) ∙ +ℤ_idl (value_p ρ p))
lead_value ρ (pos (suc n)) m p = refl
lead_value ρ (negsuc n) m p = refl

joined : (c d m p : ℤ) → (c +ℤ d) *ℤ m +ℤ p ≡ c *ℤ m +ℤ (d *ℤ m +ℤ p)
joined c d m p = simp (*ℤ_dist_r, +ℤ_assoc)

insert_value : (ρ : List ℤ) (c : ℤ) (m : Monomial) (p : Polynomial) → value_p ρ (insert c m p) ≡ c *ℤ value_m ρ m +ℤ value_p ρ p
insert_value ρ c m nil = lead_value ρ c m nil
insert_value ρ c m (term d k p) =
    either_polynomial (equal_m m k) (lead (c +ℤ d) k p) (choose_p (less_m m k) (lead c m (term d k p)) (term d k (insert c m p))) (λ q. value_p ρ q ≡ c *ℤ value_m ρ m +ℤ (d *ℤ value_m ρ k +ℤ value_p ρ p))
    (λ t. lead_value ρ (c +ℤ d) k p ∙ joined c d (value_m ρ k) (value_p ρ p) ∙ ap (λ (l : Monomial). c *ℤ value_m ρ l +ℤ (d *ℤ value_m ρ k +ℤ value_p ρ p)) (sym (equal_m_equal m k t)))
    (either_polynomial (less_m m k) (lead c m (term d k p)) (term d k (insert c m p)) (λ q. value_p ρ q ≡ c *ℤ value_m ρ m +ℤ (d *ℤ value_m ρ k +ℤ value_p ρ p))
    (λ t. lead_value ρ c m (term d k p))
    (ap (λ (x : ℤ). d *ℤ value_m ρ k +ℤ x) (insert_value ρ c m p) ∙ +ℤ_left_comm (d *ℤ value_m ρ k) (c *ℤ value_m ρ m) (value_p ρ p)))

add_value : (ρ : List ℤ) (p q : Polynomial) → value_p ρ (add p q) ≡ value_p ρ p +ℤ value_p ρ q
add_value ρ nil q = sym (+ℤ_idl (value_p ρ q))
add_value ρ (term c m p) q =
    insert_value ρ c m (add p q) ∙ ap (λ (x : ℤ). c *ℤ value_m ρ m +ℤ x) (add_value ρ p q) ∙ sym (+ℤ_assoc (c *ℤ value_m ρ m) (value_p ρ p) (value_p ρ q))

factored : (c d m k p : ℤ) → (c *ℤ d) *ℤ (m *ℤ k) +ℤ (c *ℤ m) *ℤ p ≡ (c *ℤ m) *ℤ (d *ℤ k +ℤ p)
factored c d m k p = simp ring

scale_value : (ρ : List ℤ) (c : ℤ) (m : Monomial) (p : Polynomial) → value_p ρ (scale c m p) ≡ (c *ℤ value_m ρ m) *ℤ value_p ρ p
scale_value ρ c m nil = sym (*ℤ-zero (c *ℤ value_m ρ m))
scale_value ρ c m (term d k p) =
    insert_value ρ (c *ℤ d) (multiply_m m k) (scale c m p) ∙ (λ i. (c *ℤ d) *ℤ multiply_m_value ρ m k i +ℤ scale_value ρ c m p i) ∙ factored c d (value_m ρ m) (value_m ρ k) (value_p ρ p)

multiply_value : (ρ : List ℤ) (p q : Polynomial) → value_p ρ (multiply p q) ≡ value_p ρ p *ℤ value_p ρ q
multiply_value ρ nil q = sym (zero-*ℤ (value_p ρ q))
multiply_value ρ (term c m p) q =
    add_value ρ (scale c m q) (multiply p q) ∙ (λ i. scale_value ρ c m q i +ℤ multiply_value ρ p q i) ∙ sym (*ℤ_dist_r (c *ℤ value_m ρ m) (value_p ρ p) (value_p ρ q))

-- ---- the polynomial of an expression
pub record Written (ρ : List ℤ) (z : ℤ) : Type 0 where
  pub polynomial : Polynomial
  pub value : z ≡ value_p ρ polynomial

constant_term : (c : ℤ) → c ≡ c *ℤ pos 1 +ℤ pos 0
constant_term c = sym (+ℤ_idr (c *ℤ pos 1) ∙ *ℤ_by_one c)

pub written_constant : (ρ : List ℤ) (c : ℤ) → c ≡ value_p ρ (lead c [] nil)
written_constant ρ c = constant_term c ∙ sym (lead_value ρ c [] nil)

pub written_letter : (ρ : List ℤ) (i : ℕ) → letter ρ i ≡ value_p ρ (term (pos 1) (i ∷ []) nil)
written_letter ρ i = sym (+ℤ_idr (pos 1 *ℤ (letter ρ i *ℤ pos 1)) ∙ one_*ℤ (letter ρ i *ℤ pos 1) ∙ *ℤ_by_one (letter ρ i))

pub written_sum : (ρ : List ℤ) {a b : ℤ} (p q : Polynomial) → a ≡ value_p ρ p → b ≡ value_p ρ q → a +ℤ b ≡ value_p ρ (add p q)
written_sum ρ p q e f = (λ i. e i +ℤ f i) ∙ sym (add_value ρ p q)

pub written_product : (ρ : List ℤ) {a b : ℤ} (p q : Polynomial) → a ≡ value_p ρ p → b ≡ value_p ρ q → a *ℤ b ≡ value_p ρ (multiply p q)
written_product ρ p q e f = (λ i. e i *ℤ f i) ∙ sym (multiply_value ρ p q)

minus_one : (x : ℤ) → neg_ℤ x ≡ (negsuc 0 *ℤ pos 1) *ℤ x
minus_one x = sym (neg_*ℤ (pos 1) x ∙ ap neg_ℤ (one_*ℤ x))

pub written_negation : (ρ : List ℤ) {a : ℤ} (p : Polynomial) → a ≡ value_p ρ p → neg_ℤ a ≡ value_p ρ (scale (negsuc 0) [] p)
written_negation ρ p e = ap neg_ℤ e ∙ minus_one (value_p ρ p) ∙ sym (scale_value ρ (negsuc 0) [] p)

module _ {ρ : List ℤ} {a b : ℤ} (s : Written ρ a) (t : Written ρ b) where
  abbrev pub written_add : Written ρ (a +ℤ b)
  written_add = record { polynomial = add s.polynomial t.polynomial; value = written_sum ρ s.polynomial t.polynomial s.value t.value }

  abbrev pub written_mul : Written ρ (a *ℤ b)
  written_mul = record { polynomial = multiply s.polynomial t.polynomial; value = written_product ρ s.polynomial t.polynomial s.value t.value }

-- two expressions with one polynomial are equal
pub ring_by : (ρ : List ℤ) {a b : ℤ} (s : Written ρ a) (t : Written ρ b) → s.polynomial ≡ t.polynomial → a ≡ b
ring_by ρ s t e = s.value ∙ ap (value_p ρ) e ∙ sym t.value

abbrev pub written_neg : {ρ : List ℤ} {a : ℤ} → Written ρ a → Written ρ (neg_ℤ a)
written_neg {ρ} s = record { polynomial = scale (negsuc 0) [] s.polynomial; value = written_negation ρ s.polynomial s.value }

abbrev pub written_pos : {ρ : List ℤ} (n : ℕ) → Written ρ (pos n)
written_pos {ρ} n = record { polynomial = lead (pos n) [] nil; value = written_constant ρ (pos n) }

abbrev pub written_negsuc : {ρ : List ℤ} (n : ℕ) → Written ρ (negsuc n)
written_negsuc {ρ} n = record { polynomial = lead (negsuc n) [] nil; value = written_constant ρ (negsuc n) }

-- the variable written_at a place of ρ
abbrev pub written_at : (ρ : List ℤ) (i : ℕ) → Written ρ (letter ρ i)
written_at ρ i = record { polynomial = term (pos 1) (i ∷ []) nil; value = written_letter ρ i }

pub ruleset polynomials = (written_add, written_mul, written_neg, written_pos, written_negsuc)

-- every variable of ρ written_at once: `let v = letters ρ in ring_by ρ (search polynomials) (search polynomials) refl`
abbrev pub Letters : List ℤ → List ℤ → ℕ → Type 0
Letters ρ [] i = Unit {0}
Letters ρ (x ∷ xs) i = Written ρ (letter ρ i) × Letters ρ xs (suc i)

abbrev pub letters_from : (ρ xs : List ℤ) (i : ℕ) → Letters ρ xs i
letters_from ρ [] i = tt
letters_from ρ (x ∷ xs) i = (written_at ρ i, letters_from ρ xs (suc i))

abbrev pub letters : (ρ : List ℤ) → Letters ρ ρ 0
letters ρ = letters_from ρ ρ 0
