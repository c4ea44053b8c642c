-- Laws of digits that stand in a text, and of the number up to a byte. Assumes nothing.
--   digit_bounds, digit_first         a digit is a byte from 48 to 57; the first of digits that have a value
--   no_whole, first_by                no digits have no value; digits that pass a test have theirs
--   High, digits_high, numeral_high   a number has no byte below 45, so neither a tab nor an LF
--   before_high, reads_on             a search for a lower byte goes on behind such bytes; digits, and what follows them
--   not_digit                         a byte that is no ASCII digit is none here
--   span_none, span_more, spans       before the first digit, and one more; where they end
--   span_text, span_other, span_empty, span_zero   no number up to a byte, by what follows the digits and by the digits
--   span_one, span_many               the number, of one digit or of more
--   minus_nothing, minus_naught, minus_reads, plus_nothing, plus_reads   what is read, by the first byte and the digits
--   no_span, by_sign                  what the readers cite
use mathlib.Core.Path.{◌≡◌, refl, sym, ◌∙◌, ap}
use mathlib.Core.Bool.{Bool, true, false, cond, ◌||◌, ◌&&◌}
use mathlib.Core.List.{List, [], ◌∷◌, ◌++◌, append-nil}
use Prim.Native.Nat.{ℕ, zero, suc, ◌+◌, ◌-◌, ◌*◌, ◌<◌, ◌≤◌, ◌^◌}
use native.Mathlib.Nat.{add-zero}
use native.Mathlib.Numerals.{add-one}
use native.Mathlib.Omega.{arith}
use borrow.Author.Tests.{ltb-true, ltb-false, lt-ltb, le-ltb, ne_eqb, eqb-true, eqb-false}
use lib.Dec.{ltb, eqb}
use mathlib.Core.Logic.{◌≢◌}
use lib.IntN.{ℤ, pos, ◌-ℤ◌}
use mir.Syntax.{w64}
use mir.Val.{to_z, of_z}
use lib.ListN.{length, get_or, take, drop, length-drop, length-append, take-append-drop}
use lib.Seq.{take-suc, get_or-drop, get_or-take, drop-drop, drop-cons, length-take-le, take-append-add}
use Rattle.std.proofs.lemmas.Bool.{or_parts}
use Rattle.std.specs.Char.{is_ascii_digit}
use Rattle.std.specs.List.{starts_with, between}
use borrow.Author.Rules.{rules}
use Rattle.text.specs.Parts.{bytes_before, place_from}
use Rattle.text.specs.Numbers.{no_digit, read_digits, unsigned_of, plus, minus, numeral_within, up_to, unsigned_to, number_to, Spans, SpansTo, Reads}
use Rattle.text.specs.declared.number.Span.{Span}
use Rattle.text.proofs.Parting.{led, unled, starts_from, place_here, place_next, place_end}
use Rattle.text.proofs.Numerals.{small_18, unsigned_long, unsigned_empty, unsigned_zero, unsigned_many, unsigned_one}
use Rattle.text.proofs.Numerals.{number_minus, number_plus, minus_none, minus_zero, minus_whole, plus_none, plus_whole}
use Rattle.std.specs.Prelude.{Some, None, Option}

-- ---- digits
pub digit_bounds : (b : ℕ) → no_digit b ≡ false → (48 ≤ b) × (b ≤ 57)
digit_bounds b e = let t = or_parts (ltb b 48) (ltb 57 b) e in (ltb-false b 48 t.0, ltb-false 57 b t.1)

pub not_digit : (b : ℕ) → is_ascii_digit b ≡ false → no_digit b ≡ true
not_digit b e = search (rules, arith)

pub no_whole : {P : Type 0} (v : ℕ) → None ≡ Some v → P
no_whole v e = cc

pub first_by : (x : Bool) (d : Option ℕ) (w : ℕ) → cond x None d ≡ Some w → (x ≡ false) × (d ≡ Some w)
first_by true d w e = no_whole w e
first_by false d w e = (refl, e)

pub digit_first : (v w b : ℕ) (bs : List ℕ) → read_digits v (b ∷ bs) ≡ Some w → (no_digit b ≡ false) × (read_digits (10 * v + (b - 48)) bs ≡ Some w)
unfolding read_digits
digit_first v w b bs e = first_by (no_digit b) (read_digits (10 * v + (b - 48)) bs) w e

-- ---- bytes that a number has
unfoldable pub High : List ℕ → Type 0
High [] = Unit {0}
High (b ∷ bs) = (45 ≤ b) × High bs

pub digits_high : (v w : ℕ) (ds : List ℕ) → read_digits v ds ≡ Some w → High ds
unfolding High
digits_high v w [] e = tt
digits_high v w (b ∷ bs) e =
    let t = digit_first v w b bs e in (omega (arith, (digit_bounds b t.0).0), digits_high (10 * v + (b - 48)) w bs t.1)

pub before_high : (byte : ℕ) (ds rest : List ℕ) → byte < 45 → High ds → bytes_before byte (ds ++ rest) ≡ length ds + bytes_before byte rest
unfolding High bytes_before
before_high byte [] rest l h = omega arith
before_high byte (b ∷ bs) rest l h = rw (ne_eqb b byte (λ e. omega (arith, e, h.0)), before_high byte bs rest l h.1) (omega arith)

pub reads_on : (v w : ℕ) (ds rest : List ℕ) → read_digits v ds ≡ Some w → read_digits v (ds ++ rest) ≡ read_digits w rest
unfolding read_digits
reads_on v w [] rest e = ap (λ (u : ℕ). read_digits u rest) (cc)
reads_on v w (b ∷ bs) rest e =
    let t = digit_first v w b bs e in rw t.0 (reads_on (10 * v + (b - 48)) w bs rest t.1)

-- ---- the digits from a start on, one by one
pub span_none : (text : List ℕ) (start : ℕ) → read_digits 0 (take (start - start) (drop start text)) ≡ Some 0
unfolding read_digits
span_none text start = let none : start - start ≡ 0 = omega arith in rw none

module _ (text : List ℕ) (start end value : ℕ) (from : start ≤ end) (l : end < length text) where
  one_more : take (end + 1 - start) (drop start text) ≡ take (end - start) (drop start text) ++ (get_or text end 0 ∷ [])
  one_more =
      let far : end + 1 - start ≡ suc (end - start) = omega arith in
      let here : start + (end - start) ≡ end = omega arith in
      rw (far, take-suc (drop start text) (end - start) 0 (omega (arith, length-drop start text)), get_or-drop start text (end - start) 0, here)

  pub span_more : read_digits 0 (take (end - start) (drop start text)) ≡ Some value → 48 ≤ get_or text end 0 → get_or text end 0 ≤ 57
      → read_digits 0 (take (end + 1 - start) (drop start text)) ≡ Some (10 * value + (get_or text end 0 - 48))
  unfolding read_digits
  span_more e a b =
      rw one_more
      (reads_on 0 value (take (end - start) (drop start text)) (get_or text end 0 ∷ []) e
      ∙ rw (le-ltb (get_or text end 0) 48 a, le-ltb 57 (get_or text end 0) b))

-- where they end
pub spans : (most : ℕ) (text : List ℕ) (start end value : ℕ) → most ≤ 18 → start ≤ end → end ≤ length text → end ≤ start + most → value < 10 ^ (end - start)
    → read_digits 0 (take (end - start) (drop start text)) ≡ Some value → (end < length text → end < start + most → no_digit (get_or text end 0) ≡ true)
    → Spans most text start (record { value = value; end = end })
spans most text start end value m from within few small read stop = record {
  from = from;
  within = within;
  few = few;
  value = read;
  small = small_18 value (end - start) small (omega (arith, m, few));
  stop = stop;
}

-- ---- the digits up to a byte
either_none : (b : Bool) (d : Option ℕ) → d ≡ None → cond b d None ≡ None
either_none true d e = e
either_none false d e = refl

-- a text that does not read as digits
unread : (most : ℕ) (s : List ℕ) → read_digits 0 s ≡ None → unsigned_of most s ≡ None
unfolding unsigned_of
unread most s e = by_fault (eqb (length s) 0 || (ltb most (length s) || (ltb 1 (length s) && eqb (get_or s 0 0) 48)))
  where
    by_fault : (b : Bool) → cond b None (read_digits 0 s) ≡ None
    by_fault true = refl
    by_fault false = e

module _ (most : ℕ) (text : List ℕ) (start ending : ℕ) (s : Span) (h : Spans most text start s) (low : ending < 45) where
  abbrev digits : List ℕ
  digits = take (s.end - start) (drop start text)

  span_length : length digits ≡ s.end - start
  span_length = length-take-le (s.end - start) (drop start text) (omega (arith, h.within, length-drop start text))

  split : drop start text ≡ digits ++ drop s.end text
  split =
      let here : start + (s.end - start) ≡ s.end = omega (arith, h.from) in
      sym (take-append-drop (s.end - start) (drop start text))
      ∙ ap (λ (rest : List ℕ). digits ++ rest) (drop-drop (s.end - start) start text ∙ ap (λ (n : ℕ). drop n text) here)

  before_on : bytes_before ending (drop start text) ≡ length digits + bytes_before ending (drop s.end text)
  before_on = ap (bytes_before ending) split ∙ before_high ending digits (drop s.end text) low (digits_high 0 s.value digits h.value)

  -- the search for the byte goes on behind the digits
  place_on : place_from ending text start ≡ place_from ending text s.end
  unfolding place_from
  place_on = omega (arith, before_on, span_length, h.from)

  up_to_on : up_to ending text start ≡ digits ++ up_to ending text s.end
  up_to_on =
      ap (λ (n : ℕ). take n (drop start text)) before_on
      ∙ ap (λ (l : List ℕ). take (length digits + bytes_before ending (drop s.end text)) l) split
      ∙ take-append-add digits (drop s.end text) (bytes_before ending (drop s.end text))

  module _ (l : s.end < length text) where
    -- the byte stands right after them
    module _ (e : get_or text s.end 0 ≡ ending) where
      ended_place : place_from ending text start ≡ s.end
      ended_place = place_on ∙ place_here ending text s.end l e

      ended_here : unsigned_to most ending text start ≡ unsigned_of most digits
      unfolding unsigned_to place_from
      ended_here =
          let none : bytes_before ending (drop s.end text) ≡ 0 = omega (arith, place_here ending text s.end l e) in
          rw (ended_place, lt-ltb s.end (length text) l, up_to_on, none, append-nil digits)

    -- another byte does
    module _ (e : get_or text s.end 0 ≡ ending → ⊥) where
      other : List ℕ
      other = take (bytes_before ending (drop (suc s.end) text)) (drop (suc s.end) text)

      up_to_other : up_to ending text start ≡ digits ++ (get_or text s.end 0 ∷ other)
      unfolding bytes_before other
      up_to_other = up_to_on ∙ ap (λ (rest : List ℕ). digits ++ rest) (rw (drop-cons text s.end 0 l, ne_eqb (get_or text s.end 0) ending e))

      other_by : (b : Bool) → ltb s.end (start + most) ≡ b → unsigned_of most (up_to ending text start) ≡ None
      unfolding read_digits
      other_by true t =
          unread most (up_to ending text start)
          (ap (read_digits 0) up_to_other
          ∙ reads_on 0 s.value digits (get_or text s.end 0 ∷ other) h.value
          ∙ rw (h.stop l (ltb-true s.end (start + most) t)))
      other_by false t =
          let far = ltb-false s.end (start + most) t in
          let long : most < length (up_to ending text start) =
          omega (arith, far, ap length up_to_other, length-append digits (get_or text s.end 0 ∷ other), span_length, h.from) in
          unsigned_long most (up_to ending text start) (λ z. omega (arith, z, long)) long

      ended_other : unsigned_to most ending text start ≡ None
      unfolding unsigned_to
      ended_other =
          either_none (ltb (place_from ending text start) (length text)) (unsigned_of most (up_to ending text start)) (other_by (ltb s.end (start + most)) refl)

  -- the first of them
  first : start < s.end → get_or digits 0 0 ≡ get_or text start 0
  first l = get_or-take (s.end - start) (drop start text) 0 0 (omega (arith, l)) ∙ get_or-drop start text 0 0 ∙ ap (λ (n : ℕ). get_or text n 0) (add-zero start)

  -- no number: the text ends there, another byte follows, there is no digit, or more than one and a 0 in front
  pub span_text : s.end ≡ length text → unsigned_to most ending text start ≡ None
  unfolding unsigned_to
  span_text e = let l : length text ≤ s.end = omega (arith, e) in rw (place_on, place_end ending text s.end l, le-ltb s.end (length text) l)

  module _ (n : s.end ≢ length text) where
    within : s.end < length text
    within = omega (arith, n, h.within)

    pub span_other : get_or text s.end 0 ≢ ending → unsigned_to most ending text start ≡ None
    span_other e = ended_other within e

    module _ (e : get_or text s.end 0 ≡ ending) where
      pub span_empty : s.end ≡ start → unsigned_to most ending text start ≡ None
      span_empty z = ended_here within e ∙ unsigned_empty most digits (omega (arith, span_length, z))

      module _ (m : s.end ≢ start) where
        some : length digits ≢ 0
        some z = omega (arith, z, span_length, m, h.from)

        few : length digits ≤ most
        few = omega (arith, span_length, h.few)

        pub span_zero : start + 1 < s.end → get_or text start 0 ≡ 48 → unsigned_to most ending text start ≡ None
        span_zero l z = ended_here within e ∙ unsigned_zero most digits some few (omega (arith, span_length, l)) (first (omega (arith, l)) ∙ z)

        -- a number: of one digit, or of more
        whole : unsigned_of most digits ≡ read_digits 0 digits → SpansTo most ending text start s
        whole r = record { value = ended_here within e ∙ r ∙ h.value; end = sym (ended_place within e); within = within; small = h.small }

        pub span_one : s.end ≤ start + 1 → SpansTo most ending text start s
        span_one l = whole (unsigned_one most digits some few (omega (arith, span_length, l)))

        pub span_many : start + 1 < s.end → get_or text start 0 ≢ 48 → SpansTo most ending text start s
        span_many l f = whole (unsigned_many most digits some few (omega (arith, span_length, l)) (λ z. f (sym (first (omega (arith, l))) ∙ z)))

-- ---- the number up to a byte
minus_either : (b : Bool) (d : Option ℕ) → minus (cond b d None) ≡ cond b (minus d) None
unfolding minus
minus_either true d = refl
minus_either false d = refl

plus_either : (b : Bool) (d : Option ℕ) → plus (cond b d None) ≡ cond b (plus d) None
unfolding plus
plus_either true d = refl
plus_either false d = refl

module _ (most : ℕ) (text : List ℕ) (start ending : ℕ) (low : ending < 45) where
  module _ (l : start < length text) (e : get_or text start 0 ≡ 45) where
    signed_place : place_from ending text start ≡ place_from ending text (start + 1)
    signed_place = place_next ending text start l (λ z. omega (arith, e, z, low))

    up_to_signed : up_to ending text start ≡ 45 ∷ up_to ending text (start + 1)
    unfolding bytes_before
    up_to_signed =
        let other : eqb 45 ending ≡ false = ne_eqb 45 ending (λ z. omega (arith, z, low)) in
        rw (drop-cons text start 0 l, e, other, add-one start)

    minus_to : minus (unsigned_to most ending text (start + 1)) ≡ number_to most ending text start
    unfolding unsigned_to number_to numeral_within
    minus_to =
        minus_either (ltb (place_from ending text (start + 1)) (length text)) (unsigned_of most (up_to ending text (start + 1)))
        ∙ rw (signed_place, up_to_signed)

  first_of : (n : ℕ) (s : List ℕ) → (get_or s 0 0 ≡ 45 → ⊥) → get_or (take n s) 0 0 ≡ 45 → ⊥
  first_of zero s f e = omega (arith, e)
  first_of (suc n) [] f e = f e
  first_of (suc n) (x ∷ s) f e = f e

  plus_to : (get_or text start 0 ≡ 45 → ⊥) → plus (unsigned_to most ending text start) ≡ number_to most ending text start
  unfolding unsigned_to number_to
  plus_to f =
      let here : get_or (drop start text) 0 0 ≡ get_or text start 0 = get_or-drop start text 0 0 ∙ ap (λ (n : ℕ). get_or text n 0) (add-zero start) in
      plus_either (ltb (place_from ending text start) (length text)) (unsigned_of most (up_to ending text start))
      ∙ ap (λ (x : Option ℤ). cond (ltb (place_from ending text start) (length text)) x None)
      (number_plus most (up_to ending text start) (first_of (bytes_before ending (drop start text)) (drop start text) (λ e. f (sym here ∙ e))))

-- ---- what is read, by the digits
module _ (most : ℕ) (text : List ℕ) (start ending : ℕ) (low : ending < 45) where
  module _ (t : starts_with eqb (between start (length text) text) (45 ∷ []) ≡ true) where
    l : start < length text
    l = (led text start 45 (drop 1 (drop start text)) (starts_from text start (45 ∷ []) t)).0

    e : get_or text start 0 ≡ 45
    e = (led text start 45 (drop 1 (drop start text)) (starts_from text start (45 ∷ []) t)).1

    pub minus_nothing : unsigned_to most ending text (start + 1) ≡ None → number_to most ending text start ≡ None
    minus_nothing n = sym (minus_to most text start ending low l e) ∙ minus_none n

    module _ {s : Span} (h : SpansTo most ending text (start + 1) s) where
      pub minus_naught : s.value ≡ 0 → number_to most ending text start ≡ None
      minus_naught z = sym (minus_to most text start ending low l e) ∙ minus_zero h.value z

      pub minus_reads : s.value ≢ 0 → Reads most ending text start (record { value = to_z w64 (of_z w64 (pos 0 -ℤ to_z w64 s.value)); next = s.end + 1 })
      minus_reads n = record {
        number = sym (minus_to most text start ending low l e) ∙ minus_whole h.value n h.small;
        next = ap (λ (n : ℕ). n + 1) (h.end ∙ sym (signed_place most text start ending low l e));
      }

  module _ (t : starts_with eqb (between start (length text) text) (45 ∷ []) ≡ false) where
    f : get_or text start 0 ≢ 45
    f = unled text start 45 (omega arith) t

    pub plus_nothing : unsigned_to most ending text start ≡ None → number_to most ending text start ≡ None
    plus_nothing n = sym (plus_to most text start ending low f) ∙ plus_none n

    pub plus_reads : {s : Span} → SpansTo most ending text start s → Reads most ending text start (record { value = to_z w64 s.value; next = s.end + 1 })
    plus_reads h = record {
      number = sym (plus_to most text start ending low f) ∙ plus_whole h.value h.small;
      next = ap (λ (n : ℕ). n + 1) h.end;
    }

-- a value comes from digits
pub minus_came : {P : Type 0} (d : Option ℕ) (z : ℤ) → minus d ≡ Some z → ((v : ℕ) → d ≡ Some v → P) → P
unfolding minus
minus_came (Some v) z e k = k v refl
minus_came None z e k = cc

pub plus_came : {P : Type 0} (d : Option ℕ) (z : ℤ) → plus d ≡ Some z → ((v : ℕ) → d ≡ Some v → P) → P
unfolding plus
plus_came (Some v) z e k = k v refl
plus_came None z e k = cc

-- ---- a number has no byte below 45
unsigned_high : (most : ℕ) (s : List ℕ) (v : ℕ) → unsigned_of most s ≡ Some v → High s
unfolding unsigned_of
unsigned_high most s v e =
    digits_high 0 v s (first_by (eqb (length s) 0 || (ltb most (length s) || (ltb 1 (length s) && eqb (get_or s 0 0) 48))) (read_digits 0 s) v e).1

pub numeral_high : (most : ℕ) (s : List ℕ) (z : ℤ) → numeral_within most s ≡ Some z → High s
unfolding High
numeral_high most [] z e = tt
numeral_high most (b ∷ bs) z e = by_first (eqb b 45) refl
  where
    by_first : (x : Bool) → eqb b 45 ≡ x → High (b ∷ bs)
    by_first true t =
        minus_came (unsigned_of most bs) z (number_minus most (b ∷ bs) (eqb-true b 45 t) ∙ e)
        (λ v q. (omega (arith, eqb-true b 45 t), unsigned_high most bs v q))
    by_first false t = plus_came (unsigned_of most (b ∷ bs)) z (number_plus most (b ∷ bs) (eqb-false b 45 t) ∙ e) (λ v q. unsigned_high most (b ∷ bs) v q)

-- what the readers of digits and of a number cite
pub ruleset no_span = (span_text, span_other, span_empty, span_zero)

pub ruleset by_sign = (minus_nothing, minus_naught, plus_nothing, plus_reads)
