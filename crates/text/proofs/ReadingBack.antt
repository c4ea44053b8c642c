-- The written numbers read back as themselves. Assumes nothing.
--   reads_digits      the digits of a number below 10 ^ 20 have its value
--   few_digits        a number below 10 ^ k has at most k of them; few_written: it is written with at most k bytes, where it is not below 0
--   leading           the first digit of a number above 0 is no 0
--   reads_back        a written number of at most so many digits, 20 or fewer, is the number that the files' rule reads
use mathlib.Core.Path.{◌≡◌, refl, sym, ◌∙◌, ap}
use mathlib.Core.Bool.{Bool, true, false, ◌&&◌}
use mathlib.Core.List.{List, [], ◌∷◌, ◌++◌, append_assoc, append-nil}
use Prim.Native.Nat.{ℕ, zero, suc, ◌+◌, ◌*◌, ◌/◌, ◌%◌, ◌<◌, ◌≤◌, ◌^◌}
use native.Mathlib.Nat.{pow-le-pow_right}
use native.Mathlib.Omega.{arith}
use borrow.Author.Tests.{le-ltb, ltb-true, ltb-false, ne_eqb}
use lib.Dec.{ltb, lit<}
use lib.IntN.{ℤ, pos, negsuc, nat_abs}
use lib.ListN.{length, get_or, length-append}
use Rattle.text.specs.Decimal.{digits, digits_of, written}
use Rattle.text.specs.Numbers.{read_digits, unsigned_of, plus, minus, numeral_within}
use Rattle.text.proofs.Writing.{one_small, one_large, tenth}
use Rattle.std.specs.Prelude.{Some}

-- ---- the value of the digits
-- one digit more, after the value v
reads_digit : (v d : ℕ) (rest : List ℕ) → d < 10 → read_digits v ((48 + d) ∷ rest) ≡ read_digits (10 * v + d) rest
unfolding read_digits
reads_digit v d rest h =
    rw (le-ltb (48 + d) 48 (omega arith), le-ltb 57 (48 + d) (omega arith)) (ap (λ (w : ℕ). read_digits (10 * v + w) rest) (omega arith))

reads_one : (f n : ℕ) (rest : List ℕ) → n < 10 → read_digits 0 (digits (suc f) n ++ rest) ≡ read_digits n rest
reads_one f n rest h = rw (one_small f n h) (reads_digit 0 (n % 10) rest (omega arith) ∙ ap (λ (v : ℕ). read_digits v rest) (omega arith))

reads_step : (f n : ℕ) (rest : List ℕ) (b : Bool) → ltb n 10 ≡ b
    → ((rest : List ℕ) → read_digits 0 (digits f (n / 10) ++ rest) ≡ read_digits (n / 10) rest)
    → read_digits 0 (digits (suc f) n ++ rest) ≡ read_digits n rest
reads_step f n rest true t rec = reads_one f n rest (ltb-true n 10 t)
reads_step f n rest false t rec =
    rw (one_large f n (ltb-false n 10 t))
    (ap (read_digits 0) (append_assoc (digits f (n / 10)) ((48 + n % 10) ∷ []) rest)
    ∙ rec ((48 + n % 10) ∷ rest)
    ∙ reads_digit (n / 10) (n % 10) rest (omega arith)
    ∙ ap (λ (v : ℕ). read_digits v rest) (omega arith))

reads_on : (f n : ℕ) → n < 10 ^ suc f → (rest : List ℕ) → read_digits 0 (digits (suc f) n ++ rest) ≡ read_digits n rest
reads_on zero n h rest = reads_one 0 n rest (omega arith)
reads_on (suc f) n h rest = reads_step (suc f) n rest (ltb n 10) refl (reads_on f (n / 10) (tenth (suc f) n h))

pub reads_digits : (n : ℕ) → n < 10 ^ 20 → read_digits 0 (digits_of n) ≡ Some n
unfolding digits_of read_digits
reads_digits n h = ap (read_digits 0) (sym (append-nil (digits 20 n))) ∙ reads_on 19 n h []

-- ---- how many they are
few_step : (f k n : ℕ) (b : Bool) → ltb n 10 ≡ b → n < 10 ^ suc k → (10 ≤ n → length (digits f (n / 10)) ≤ k) → length (digits (suc f) n) ≤ suc k
few_step f k n true t h rec = rw (one_small f n (ltb-true n 10 t)) (omega arith)
few_step f k n false t h rec =
    rw (one_large f n (ltb-false n 10 t), length-append (digits f (n / 10)) ((48 + n % 10) ∷ [])) (omega (arith, rec (ltb-false n 10 t)))

few : (f k n : ℕ) → n < 10 ^ suc k → length (digits f n) ≤ suc k
unfolding digits
few zero k n h = omega arith
few (suc f) zero n h = few_step f zero n (ltb n 10) refl h (λ g. absurd (omega arith))
few (suc f) (suc k) n h = few_step f (suc k) n (ltb n 10) refl h (λ g. few f k (n / 10) (tenth (suc k) n h))

pub few_digits : (k n : ℕ) → n < 10 ^ suc k → length (digits_of n) ≤ suc k
unfolding digits_of
few_digits k n h = few 20 k n h

pub few_written : (k : ℕ) (z : ℤ) → z ≡ pos (nat_abs z) → nat_abs z < 10 ^ suc k → length (written z) ≤ suc k
unfolding written
few_written k z e h = rw e (few_digits k (nat_abs z) h)

-- ---- the first of them
leads : (xs ys : List ℕ) → 49 ≤ get_or xs 0 0 → 49 ≤ get_or (xs ++ ys) 0 0
leads [] ys h = absurd (omega arith)
leads (x ∷ xs) ys h = h

leads_step : (f n : ℕ) (b : Bool) → ltb n 10 ≡ b → 1 ≤ n → (1 ≤ n / 10 → 49 ≤ get_or (digits f (n / 10)) 0 0) → 49 ≤ get_or (digits (suc f) n) 0 0
leads_step f n true t l rec = rw (one_small f n (ltb-true n 10 t)) (omega (arith, ltb-true n 10 t))
leads_step f n false t l rec = rw (one_large f n (ltb-false n 10 t)) (leads (digits f (n / 10)) ((48 + n % 10) ∷ []) (rec (omega (arith, ltb-false n 10 t))))

leads_on : (f n : ℕ) → n < 10 ^ suc f → 1 ≤ n → 49 ≤ get_or (digits (suc f) n) 0 0
leads_on zero n h l = leads_step 0 n (ltb n 10) refl l (λ g. absurd (omega arith))
leads_on (suc f) n h l = leads_step (suc f) n (ltb n 10) refl l (leads_on f (n / 10) (tenth (suc f) n h))

pub leading : (n : ℕ) → n < 10 ^ 20 → 1 ≤ n → 49 ≤ get_or (digits_of n) 0 0
unfolding digits_of
leading n h l = leads_on 19 n h l

-- ---- read by the files' rule
no_text : (s : List ℕ) → length s ≡ 0 → get_or s 0 0 ≡ 0
no_text [] e = refl
no_text (x ∷ s) e = absurd (omega (arith, e))

no_and : (b : Bool) → (b && false) ≡ false
no_and true = refl
no_and false = refl

-- at most so many digits, the first of them no 0
unsigned_led : (most : ℕ) (s : List ℕ) → length s ≤ most → 49 ≤ get_or s 0 0 → unsigned_of most s ≡ read_digits 0 s
unfolding unsigned_of
unsigned_led most s l h =
    rw (
      ne_eqb (length s) 0 (λ e. omega (arith, no_text s e)),
      le-ltb most (length s) l,
      ne_eqb (get_or s 0 0) 48 (λ e. omega arith),
      no_and (ltb 1 (length s)),
    )

module _ (k : ℕ) (l : k < 20) where
  within : (n : ℕ) → n < 10 ^ suc k → n < 10 ^ 20
  within n h = omega (arith, pow-le-pow_right {n = 10} (lit< tt) l)

  unsigned_back : (n : ℕ) → suc n < 10 ^ suc k → unsigned_of (suc k) (digits_of (suc n)) ≡ Some (suc n)
  unsigned_back n h =
      unsigned_led (suc k) (digits_of (suc n)) (few_digits k (suc n) h) (leading (suc n) (within (suc n) h) (omega arith))
      ∙ reads_digits (suc n) (within (suc n) h)

  zero_back : numeral_within (suc k) (written (pos 0)) ≡ Some (pos 0)
  unfolding numeral_within written digits_of digits unsigned_of read_digits plus
  zero_back = rw (le-ltb (suc k) 1 (omega arith))

  pub reads_back : (z : ℤ) → nat_abs z < 10 ^ suc k → numeral_within (suc k) (written z) ≡ Some z
  unfolding numeral_within written plus minus
  reads_back (pos zero) h = zero_back
  reads_back (pos (suc n)) h =
      rw (
        ne_eqb (get_or (digits_of (suc n)) 0 0) 45 (λ e. omega (arith, leading (suc n) (within (suc n) h) (omega arith))),
        unsigned_back n h,
      )
  reads_back (negsuc n) h = rw (unsigned_back n h, ne_eqb (suc n) 0 (λ e. omega arith))
