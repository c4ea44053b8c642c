-- A text that the files' rule reads as a number is that number as it is written. Assumes nothing.
--   digits_on, digits_back               digits behind those of a number above 0; digits without a leading 0 are those of their value
--   value_small                          so many digits have a value below that power of 10
--   Numerals, unsigned_told              what the files' rule asks of digits
--   signed_by                            a number is digits, or a minus and digits whose value is above 0
--   writes_back                          the theorem: the text of a number of at most 20 digits is the number as it is written
--   numeral_small, numeral_short         the number's size, and the text's
use mathlib.Core.Path.{◌≡◌, refl, sym, ◌∙◌, ap}
use mathlib.Core.Bool.{Bool, true, false, ◌||◌, ◌&&◌}
use mathlib.Core.List.{List, [], ◌∷◌, ◌++◌, append_assoc, append-nil}
use Prim.Native.Nat.{ℕ, zero, suc, ◌+◌, ◌*◌, ◌-◌, ◌/◌, ◌%◌, ◌<◌, ◌≤◌, ◌^◌}
use native.Mathlib.Nat.{pow-le-pow_right, add-zero}
use native.Mathlib.Omega.{arith}
use borrow.Author.Tests.{lt-ltb, ne_eqb, ltb-false, eqb-true, eqb-false}
use lib.Dec.{eqb, ltb, lit<}
use lib.IntN.{ℤ, pos, negsuc, nat_abs}
use lib.ListN.{length, get_or, drop}
use Rattle.std.proofs.lemmas.Bool.{or_parts}
use Rattle.text.specs.Decimal.{digits, digits_of, written}
use Rattle.text.specs.Numbers.{read_digits, unsigned_of, plus, minus, numeral_within}
use Rattle.text.proofs.Numerals.{small_next, number_minus, number_plus}
use Rattle.text.proofs.Spanning.{first_by, digit_first, digit_bounds}
use Rattle.text.proofs.Writing.{one_small, one_large}
use Rattle.std.specs.Prelude.{Some, None, Option}

-- ---- digits and their value
whole_is : (v w : ℕ) → Some v ≡ Some w → v ≡ w
whole_is v w e = cc

-- one digit more than those of n
one_on : (f n d : ℕ) → 1 ≤ n → d < 10 → digits (suc f) (10 * n + d) ≡ digits f n ++ ((48 + d) ∷ [])
one_on f n d l h =
    let tenth : (10 * n + d) / 10 ≡ n = omega arith in
    let last : (10 * n + d) % 10 ≡ d = omega arith in
    one_large f (10 * n + d) (omega arith) ∙ rw (tenth, last)

pub digits_on : (f n v : ℕ) (s : List ℕ) → 1 ≤ n → read_digits n s ≡ Some v → digits (length s + f) v ≡ digits f n ++ s
unfolding read_digits
digits_on f n v [] l e = rw (append-nil (digits f n), whole_is n v e) (ap (λ (m : ℕ). digits m v) (omega arith))
digits_on f n v (b ∷ bs) l e =
    let t = digit_first n v b bs e in let r = digit_bounds b t.0 in
    let same : 48 + (b - 48) ≡ b = omega (arith, r.0) in
    let on : length bs + suc f ≡ suc (length bs) + f = omega arith in
    ap (λ (m : ℕ). digits m v) (sym on)
    ∙ digits_on (suc f) (10 * n + (b - 48)) v bs (omega (arith, l)) t.1
    ∙ ap (λ (x : List ℕ). x ++ bs) (one_on f n (b - 48) l (omega (arith, r.0, r.1)) ∙ ap (λ (c : ℕ). digits f n ++ (c ∷ [])) same)
    ∙ append_assoc (digits f n) (b ∷ []) bs

-- the first digit
first_digit : (f b : ℕ) → 48 ≤ b → b ≤ 57 → digits (suc f) (10 * 0 + (b - 48)) ≡ b ∷ []
first_digit f b l m =
    one_small f (10 * 0 + (b - 48)) (omega arith) ∙ ap (λ (c : ℕ). c ∷ []) (omega arith)

pub digits_back : (v : ℕ) (s : List ℕ) → read_digits 0 s ≡ Some v → 0 < length s → length s ≤ 20 → (1 < length s → get_or s 0 0 ≡ 48 → ⊥) → digits_of v ≡ s
unfolding digits_of read_digits
digits_back v [] e some few led = absurd (omega arith)
digits_back v (b ∷ []) e some few led =
    let t = digit_first 0 v b [] e in let r = digit_bounds b t.0 in
    ap (digits 20) (sym (whole_is (10 * 0 + (b - 48)) v t.1)) ∙ first_digit 19 b r.0 r.1
digits_back v (b ∷ c ∷ cs) e some few led =
    let t = digit_first 0 v b (c ∷ cs) e in let r = digit_bounds b t.0 in
    let other : b ≡ 48 → ⊥ = led (omega arith) in
    let above : 1 ≤ 10 * 0 + (b - 48) = omega (arith, r.0, other) in
    let room : 20 ≡ suc (length cs) + suc (18 - length cs) = omega (arith, few) in
    ap (λ (m : ℕ). digits m v) room
    ∙ digits_on (suc (18 - length cs)) (10 * 0 + (b - 48)) v (c ∷ cs) above t.1
    ∙ ap (λ (x : List ℕ). x ++ (c ∷ cs)) (first_digit (18 - length cs) b r.0 r.1)

small_on : (f n v : ℕ) (s : List ℕ) → n < 10 ^ f → read_digits n s ≡ Some v → v < 10 ^ (f + length s)
unfolding read_digits
small_on f n v [] l e = rw (← whole_is n v e, add-zero f) l
small_on f n v (b ∷ bs) l e =
    let t = digit_first n v b bs e in let r = digit_bounds b t.0 in
    let on : f + 1 + length bs ≡ f + suc (length bs) = omega arith in
    rw (← on) (small_on (f + 1) (10 * n + (b - 48)) v bs (small_next n (b - 48) f l (omega (arith, r.0, r.1))) t.1)

pub value_small : (v : ℕ) (s : List ℕ) → read_digits 0 s ≡ Some v → v < 10 ^ length s
value_small v s e = let on : 0 + length s ≡ length s = omega arith in rw (← on) (small_on 0 0 v s (omega arith) e)

-- ---- digits as the files' rule asks for them
pub record Numerals (most : ℕ) (s : List ℕ) (v : ℕ) : Type 0 where
  pub some : 0 < length s
  pub few : length s ≤ most
  pub led : 1 < length s → get_or s 0 0 ≡ 48 → ⊥
  pub reads : read_digits 0 s ≡ Some v

led_by : (a b : Bool) → (a && b) ≡ false → a ≡ true → b ≡ false
led_by true b e t = e
led_by false b e t = cc

module _ (most : ℕ) where
  pub unsigned_told : (s : List ℕ) (v : ℕ) → unsigned_of most s ≡ Some v → Numerals most s v
  unfolding unsigned_of
  unsigned_told s v e =
      let long = ltb most (length s) in let zeros = ltb 1 (length s) && eqb (get_or s 0 0) 48 in
      let t = first_by (eqb (length s) 0 || (long || zeros)) (read_digits 0 s) v e in
      let p = or_parts (eqb (length s) 0) (long || zeros) t.0 in
      let q = or_parts long zeros p.1 in
      let none = eqb-false (length s) 0 p.0 in
      record {
        some = omega (arith, none);
        few = ltb-false most (length s) q.0;
        led = λ l. eqb-false (get_or s 0 0) 48 (led_by (ltb 1 (length s)) (eqb (get_or s 0 0) 48) q.1 (lt-ltb 1 (length s) l));
        reads = t.1;
      }

  module _ {P : Type 0} (z : ℤ) where
    plus_by : (d : Option ℕ) → plus d ≡ Some z → ((v : ℕ) → d ≡ Some v → z ≡ pos v → P) → P
    unfolding plus
    plus_by (Some v) e k = k v refl (cc)
    plus_by None e k = cc

    minus_by : (d : Option ℕ) → minus d ≡ Some z → ((n : ℕ) → d ≡ Some (suc n) → z ≡ negsuc n → P) → P
    unfolding minus
    minus_by (Some zero) e k = cc
    minus_by (Some (suc n)) e k = let q = rw (ne_eqb (suc n) 0 (λ t. omega arith)) at e in k n refl (cc q)
    minus_by None e k = cc

    pub signed_by : (s : List ℕ) → numeral_within most s ≡ Some z
        → ((v : ℕ) → Numerals most s v → z ≡ pos v → P)
        → ((n : ℕ) → s ≡ 45 ∷ drop 1 s → Numerals most (drop 1 s) (suc n) → z ≡ negsuc n → P)
        → P
    signed_by s e with-plus with-minus = by_first s (eqb (get_or s 0 0) 45) refl e with-plus with-minus
      where
        begun : (s : List ℕ) → get_or s 0 0 ≡ 45 → s ≡ 45 ∷ drop 1 s
        begun [] t = absurd (omega (arith, t))
        begun (b ∷ bs) t = ap (λ (c : ℕ). c ∷ bs) t

        by_first : (s : List ℕ) (x : Bool) → eqb (get_or s 0 0) 45 ≡ x → numeral_within most s ≡ Some z
            → ((v : ℕ) → Numerals most s v → z ≡ pos v → P)
            → ((n : ℕ) → s ≡ 45 ∷ drop 1 s → Numerals most (drop 1 s) (suc n) → z ≡ negsuc n → P)
            → P
        by_first s true t e p m =
            let f = eqb-true (get_or s 0 0) 45 t in
            minus_by (unsigned_of most (drop 1 s)) (number_minus most s f ∙ e) (λ n d q. m n (begun s f) (unsigned_told (drop 1 s) (suc n) d) q)
        by_first s false t e p m =
            plus_by (unsigned_of most s) (number_plus most s (eqb-false (get_or s 0 0) 45 t) ∙ e) (λ v d q. p v (unsigned_told s v d) q)

-- ---- a number's text
module _ (most : ℕ) (s : List ℕ) (z : ℤ) (e : numeral_within most s ≡ Some z) where
  digits_of_lem : (v : ℕ) (t : List ℕ) → most ≤ 20 → Numerals most t v → digits_of v ≡ t
  digits_of_lem v t l u = digits_back v t u.reads u.some (omega (arith, u.few)) u.led

  small : (v : ℕ) (t : List ℕ) → Numerals most t v → v < 10 ^ most
  small v t u = omega (arith, value_small v t u.reads, pow-le-pow_right {n = 10} (lit< tt) u.few)

  pub writes_back : most ≤ 20 → written z ≡ s
  unfolding written
  writes_back l =
      signed_by most z s e (λ v u q. rw q (digits_of_lem v s l u))
      (λ n b u q. rw q (ap (λ (x : List ℕ). 45 ∷ x) (digits_of_lem (suc n) (drop 1 s) l u) ∙ sym b))

  pub numeral_small : nat_abs z < 10 ^ most
  numeral_small = signed_by most z s e (λ v u q. rw q (small v s u)) (λ n b u q. rw q (small (suc n) (drop 1 s) u))

  pub numeral_short : length s ≤ most + 1
  numeral_short = signed_by most z s e (λ v u q. omega (arith, u.few)) (λ n b u q. omega (arith, u.few, ap length b))
