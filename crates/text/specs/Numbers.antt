-- Numbers as the files write them: "optional minus, no leading zero except "0" itself, no "-0", 1 to 11 digits", and the same with another most of digits,
-- 18 in a report.
use Rattle.std.specs.Prelude.{◌≡◌, Bool, true, cond, ◌||◌, ◌&&◌, List, [], ◌∷◌, ℕ, ◌+◌, ◌*◌, ◌-◌, ◌<◌, ◌≤◌, ◌^◌, length, get_or, take, drop, ℤ, pos, neg_ℤ, eqb, ltb, Some, None, Option}
use Rattle.text.specs.Parts.{bytes_before, place_from}
use Rattle.text.specs.declared.number.Span.{Span}
use Rattle.text.specs.declared.number.Read.{Read}

-- the digits 0 to 9 are the bytes 48 to 57
abbrev pub no_digit : ℕ → Bool
no_digit b = ltb b 48 || ltb 57 b

-- a text of digits alone, after the value v of those before it
unfoldable pub read_digits : ℕ → List ℕ → Option ℕ
read_digits v [] = Some v
read_digits v (b ∷ bs) = cond (no_digit b) None (read_digits (10 * v + (b - 48)) bs)

-- "no leading zero except "0" itself", 1 to `most` digits
unfoldable pub unsigned_of : (most : ℕ) (text : List ℕ) → Option ℕ
unsigned_of most text =
    cond (eqb (length text) 0 || (ltb most (length text) || (ltb 1 (length text) && eqb (get_or text 0 0) 48))) None (read_digits 0 text)

unfoldable pub plus : Option ℕ → Option ℤ
plus (Some v) = Some (pos v)
plus None = None

-- "no "-0""
unfoldable pub minus : Option ℕ → Option ℤ
minus (Some v) = cond (eqb v 0) None (Some (neg_ℤ (pos v)))
minus None = None

-- "optional minus", the byte 45
unfoldable pub numeral_within : (most : ℕ) (text : List ℕ) → Option ℤ
numeral_within most text = cond (eqb (get_or text 0 0) 45) (minus (unsigned_of most (drop 1 text))) (plus (unsigned_of most text))

-- a number of a network file or a sighting book
abbrev pub numeral : List ℕ → Option ℤ
numeral text = numeral_within 11 text

-- ---- what inner functions hand each other: a number that stands in a text from a start on, up to the first byte `ending`; none, where there is no such byte
abbrev pub up_to : (ending : ℕ) (text : List ℕ) (start : ℕ) → List ℕ
up_to ending text start = take (bytes_before ending (drop start text)) (drop start text)

unfoldable pub unsigned_to : (most ending : ℕ) (text : List ℕ) (start : ℕ) → Option ℕ
unsigned_to most ending text start = cond (ltb (place_from ending text start) (length text)) (unsigned_of most (up_to ending text start)) None

unfoldable pub number_to : (most ending : ℕ) (text : List ℕ) (start : ℕ) → Option ℤ
number_to most ending text start = cond (ltb (place_from ending text start) (length text)) (numeral_within most (up_to ending text start)) None

-- what such digits are handed on as, and such a number: the value, and the place of the byte that ends it or the one after that
pub record SpansTo (most ending : ℕ) (text : List ℕ) (start : ℕ) (s : Span) : Type 0 where
  pub value : unsigned_to most ending text start ≡ Some s.value
  pub end : s.end ≡ place_from ending text start
  pub within : s.end < length text
  pub small : s.value < 10 ^ 18

pub record Reads (most ending : ℕ) (text : List ℕ) (start : ℕ) (r : Read) : Type 0 where
  pub number : number_to most ending text start ≡ Some r.value
  pub next : r.next ≡ place_from ending text start + 1

-- the digits that stand at a start: no more than `most`, and where there are fewer, a byte that is none or the text's end follows
pub record Spans (most : ℕ) (text : List ℕ) (start : ℕ) (s : Span) : Type 0 where
  pub from : start ≤ s.end
  pub within : s.end ≤ length text
  pub few : s.end ≤ start + most
  pub value : read_digits 0 (take (s.end - start) (drop start text)) ≡ Some s.value
  pub small : s.value < 10 ^ 18
  pub stop : s.end < length text → s.end < start + most → no_digit (get_or text s.end 0) ≡ true
