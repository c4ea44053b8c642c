-- Laws of a search for a byte in a text, and of the parts into which the byte parts it. Assumes nothing.
--   place_here, place_next, place_end      the search stands on the byte, on another one, at the end
--   place_after, before_le                 it ends at or after its start, and no byte is counted that is not there
--   found_or, rest_from                    what std's search answers, or the whole length; a text from a start on, or from its end
--   parts_more                             the parts from a start: the one there, and those after the byte that ends it
--   parts_dropped, parts_last              the parts of a text without the byte: none, or the text itself
--   onto_none                              no bytes in front of the first part
--   begins_all, begins_short               a text begins with no word's end; and with no word that goes on behind it
--   begins_more, begins_other              one byte more of the word, by what stands there in the text
--   begins_is                              a text begins with a word, as std's test says it
--   starts_from, starts_so, led, unled     such a test of a text from a start on, and the byte there
--   begins_length, begins_split            a word is no longer than a text that begins with it, which is the word and what is left
--   begins_word, begins_cut                a word and a byte, and what stands behind them; the first bytes of a text begin with a word where the text does
use mathlib.Core.Path.{◌≡◌, refl, sym, ◌∙◌, ap, ap₂}
use mathlib.Core.Bool.{Bool, true, false, cond, ◌&&◌}
use mathlib.Core.List.{List, [], ◌∷◌, ◌++◌}
use Prim.Native.Nat.{ℕ, zero, suc, ◌+◌, ◌-◌, ◌<◌, ◌≤◌, min}
use native.Mathlib.Numerals.{add-one}
use native.Mathlib.Nat.{add-zero, add_assoc, min-eq_left, min-eq_right}
use native.Mathlib.Omega.{arith}
use borrow.Author.Tests.{eq-eqb, ne_eqb, eqb-true, eqb-false, ltb-false}
use Rattle.std.specs.Prelude.{Some, None}
use Rattle.std.specs.Option.{unwrap_or}
use Rattle.std.specs.List.{starts_with, between, position_or_len}
use Rattle.std.proofs.lemmas.List.Recursion.{is_position_or_len}
use Rattle.std.proofs.lemmas.Slice.Eq.{starts_is}
use Rattle.std.proofs.lemmas.Slice.{between_to_end}
use Rattle.std.proofs.lemmas.Bool.Decides.{Decides-eqb}
use mathlib.Core.Logic.{◌≢◌}
use native.Mathlib.Decide.{dec_lt}
use lib.Dec.{eqb, ltb}
use lib.ListN.{length, get_or, get_or-eq_default, take, drop, drop_of_length-le, length-drop}
use lib.Seq.{drop-cons, drop-drop, get_or-drop, take_all, take-nil}
use Rattle.exact.proofs.Searching.{not_both}
use Rattle.text.specs.Parts.{bytes_before, place_from, on_first, onto, parted, begins}

-- ---- the search
module _ (byte : ℕ) (s : List ℕ) (i : ℕ) where
  pub place_here : i < length s → get_or s i 0 ≡ byte → place_from byte s i ≡ i
  unfolding place_from bytes_before
  place_here l e = rw (drop-cons s i 0 l, eq-eqb (get_or s i 0) byte e, add-zero)

  pub place_next : i < length s → (get_or s i 0 ≡ byte → ⊥) → place_from byte s i ≡ place_from byte s (i + 1)
  unfolding place_from bytes_before
  place_next l ne = rw (drop-cons s i 0 l, ne_eqb (get_or s i 0) byte ne, add-one i) (omega arith)

  pub place_end : length s ≤ i → place_from byte s i ≡ i
  unfolding place_from bytes_before
  place_end l = rw (drop_of_length-le s l, add-zero)

  pub place_after : i ≤ place_from byte s i
  unfolding place_from
  place_after = omega arith

before_step : (s : List ℕ) (n : ℕ) (b : Bool) → n ≤ length s → cond b 0 (suc n) ≤ suc (length s)
before_step s n true h = omega arith
before_step s n false h = omega arith

pub before_le : (byte : ℕ) (s : List ℕ) → bytes_before byte s ≤ length s
unfolding bytes_before
before_le byte [] = omega arith
before_le byte (x ∷ s) = before_step s (bytes_before byte s) (eqb x byte) (before_le byte s)

-- as std's search says it
module _ (byte : ℕ) where
  abbrev is_byte : ℕ → Bool
  is_byte b = eqb b byte

  before_is : (s : List ℕ) → bytes_before byte s ≡ position_or_len is_byte s
  unfolding bytes_before
  before_is s = is_position_or_len (bytes_before byte) is_byte refl (λ x xs. let e : suc (bytes_before byte xs) ≡ 1 + bytes_before byte xs = omega arith in ap (λ (n : ℕ). cond (is_byte x) 0 n) e) s

  pub found_or : (s : List ℕ) → unwrap_or (cond (ltb (position_or_len is_byte s) (length s)) (Some (position_or_len is_byte s)) None) (length s) ≡ bytes_before byte s
  found_or s = by_place (ltb (position_or_len is_byte s) (length s)) refl
    where
      by_place : (b : Bool) → ltb (position_or_len is_byte s) (length s) ≡ b → unwrap_or (cond b (Some (position_or_len is_byte s)) None) (length s) ≡ bytes_before byte s
      by_place true e = sym (before_is s)
      by_place false e = let far = ltb-false (position_or_len is_byte s) (length s) e in omega (arith, before_is s, before_le byte s)

-- a text from a start on, or from its end
pub rest_from : (start : ℕ) (text : List ℕ) → take (length text - min start (length text)) (drop (min start (length text)) text) ≡ drop start text
rest_from start text = by_place (dec_lt start (length text))
  where
    by_place : Dec (start < length text) → take (length text - min start (length text)) (drop (min start (length text)) text) ≡ drop start text
    by_place (yes l) =
        let e : min start (length text) ≡ start = min-eq_left (omega arith) in
        rw e (take_all (length text - start) (drop start text) (omega (arith, length-drop start text)))
    by_place (no l) =
        let e : min start (length text) ≡ length text = min-eq_right (omega (arith, l)) in
        rw (e, drop_of_length-le text {i = start} (omega (arith, l)), drop_of_length-le text {i = length text} (omega arith)) (take-nil _)

-- ---- the parts
module _ (byte : ℕ) (end : List (List ℕ)) where
  more_step : (x : ℕ) (xs : List ℕ) (b : Bool)
      → (bytes_before byte xs < length xs → parted byte end xs ≡ take (bytes_before byte xs) xs ∷ parted byte end (drop (bytes_before byte xs + 1) xs))
      → cond b 0 (suc (bytes_before byte xs)) < suc (length xs)
      → cond b ([] ∷ parted byte end xs) (on_first x (parted byte end xs))
      ≡ take (cond b 0 (suc (bytes_before byte xs))) (x ∷ xs) ∷ parted byte end (drop (cond b 0 (suc (bytes_before byte xs)) + 1) (x ∷ xs))
  unfolding on_first
  more_step x xs true rec l = refl
  more_step x xs false rec l = rw (rec (omega arith), add-one (suc (bytes_before byte xs)), add-one (bytes_before byte xs))

  more : (r : List ℕ) → bytes_before byte r < length r → parted byte end r ≡ take (bytes_before byte r) r ∷ parted byte end (drop (bytes_before byte r + 1) r)
  unfolding parted bytes_before
  more [] l = absurd (omega arith)
  more (x ∷ xs) l = more_step x xs (eqb x byte) (more xs) l

  pub parts_more : (s : List ℕ) (i : ℕ) → place_from byte s i < length s
      → parted byte end (drop i s) ≡ take (bytes_before byte (drop i s)) (drop i s) ∷ parted byte end (drop (place_from byte s i + 1) s)
  unfolding place_from
  parts_more s i l =
      let far : bytes_before byte (drop i s) < length (drop i s) = omega (arith, length-drop i s) in
      rw (more (drop i s) far, drop-drop, add_assoc)

module _ (byte : ℕ) where
  dropped_step : (x : ℕ) (xs : List ℕ) (b : Bool) → (length xs ≤ bytes_before byte xs → parted byte [] xs ≡ [])
      → suc (length xs) ≤ cond b 0 (suc (bytes_before byte xs)) → cond b ([] ∷ parted byte [] xs) (on_first x (parted byte [] xs)) ≡ []
  unfolding on_first
  dropped_step x xs true rec l = absurd (omega arith)
  dropped_step x xs false rec l = rw (rec (omega arith))

  pub parts_dropped : (r : List ℕ) → length r ≤ bytes_before byte r → parted byte [] r ≡ []
  unfolding parted bytes_before
  parts_dropped [] l = refl
  parts_dropped (x ∷ xs) l = dropped_step x xs (eqb x byte) (parts_dropped xs) l

  last_step : (x : ℕ) (xs : List ℕ) (b : Bool) → (length xs ≤ bytes_before byte xs → parted byte ([] ∷ []) xs ≡ xs ∷ [])
      → suc (length xs) ≤ cond b 0 (suc (bytes_before byte xs))
      → cond b ([] ∷ parted byte ([] ∷ []) xs) (on_first x (parted byte ([] ∷ []) xs)) ≡ (x ∷ xs) ∷ []
  unfolding on_first
  last_step x xs true rec l = absurd (omega arith)
  last_step x xs false rec l = rw (rec (omega arith))

  pub parts_last : (r : List ℕ) → length r ≤ bytes_before byte r → parted byte ([] ∷ []) r ≡ r ∷ []
  unfolding parted bytes_before
  parts_last [] l = refl
  parts_last (x ∷ xs) l = last_step x xs (eqb x byte) (parts_last xs) l

pub onto_none : (parts : List (List ℕ)) → onto [] parts ≡ parts
unfolding onto
onto_none [] = refl
onto_none (part ∷ parts) = refl

-- ---- a word that a text begins with
module _ (word text : List ℕ) (i : ℕ) where
  pub begins_all : length word ≤ i → begins (drop i word) (drop i text) ≡ true
  unfolding begins
  begins_all l = rw (drop_of_length-le word l)

  module _ (w : i < length word) where
    pub begins_short : length text ≤ i → begins (drop i word) (drop i text) ≡ false
    unfolding begins
    begins_short l = rw (drop-cons word i 0 w, drop_of_length-le text l)

    module _ (l : i < length text) where
      pub begins_other : (get_or text i 0 ≡ get_or word i 0 → ⊥) → begins (drop i word) (drop i text) ≡ false
      unfolding begins
      begins_other e = rw (drop-cons word i 0 w, drop-cons text i 0 l, ne_eqb (get_or text i 0) (get_or word i 0) e)

      pub begins_more : get_or text i 0 ≡ get_or word i 0 → begins (drop i word) (drop i text) ≡ begins (drop (i + 1) word) (drop (i + 1) text)
      unfolding begins
      begins_more e = rw (drop-cons word i 0 w, drop-cons text i 0 l, eq-eqb (get_or text i 0) (get_or word i 0) e, add-one i)

begins_step : (x y : ℕ) (b c d : Bool) → eqb x y ≡ b → eqb y x ≡ c → (b && d) ≡ cond c d false
begins_step x y true true d e f = refl
begins_step x y false false d e f = refl
begins_step x y true false d e f = absurd (eqb-false y x f (sym (eqb-true x y e)))
begins_step x y false true d e f = absurd (eqb-false x y e (sym (eqb-true y x f)))

-- as std's test of a slice's first elements says it
pub begins_is : (word text : List ℕ) → starts_with eqb text word ≡ begins word text
unfolding begins
begins_is [] text = refl
begins_is (w ∷ word) [] = refl
begins_is (w ∷ word) (b ∷ text) = rw (← begins_is word text) (begins_step w b (eqb w b) (eqb b w) (starts_with eqb text word) refl refl)

-- what such a test says of the text from a start on
pub starts_from : (text : List ℕ) (start : ℕ) (word : List ℕ) → starts_with eqb (between start (length text) text) word ≡ true
    → drop start text ≡ word ++ drop (length word) (drop start text)
starts_from text start word t = (starts_is Decides-eqb (drop start text) word _ refl).0 (rw (between_to_end text start (length text) (omega arith)) at t)

pub starts_so : (text : List ℕ) (start : ℕ) (word rest : List ℕ) → drop start text ≡ word ++ rest
    → starts_with eqb (between start (length text) text) word ≡ true
starts_so text start word rest e = rw (between_to_end text start (length text) (omega arith)) ((starts_is Decides-eqb (drop start text) word _ refl).1 rest e)

-- ---- the byte at a start
module _ (text : List ℕ) (start : ℕ) where
  pub led : (b : ℕ) (rest : List ℕ) → drop start text ≡ b ∷ rest → (start < length text) × (get_or text start 0 ≡ b) × (drop (start + 1) text ≡ rest)
  led b rest e = (
    omega (arith, ap length e, length-drop start text),
    sym (get_or-drop start text 0 0 ∙ ap (λ (n : ℕ). get_or text n 0) (add-zero start)) ∙ ap (λ (s : List ℕ). get_or s 0 0) e,
    sym (drop-drop 1 start text) ∙ ap (drop 1) e,
  )

  pub unled : (b : ℕ) → 0 < b → starts_with eqb (between start (length text) text) (b ∷ []) ≡ false → get_or text start 0 ≢ b
  unled b some t e = by_place (dec_lt start (length text))
    where
      by_place : Dec (start < length text) → ⊥
      by_place (yes l) =
          let so = starts_so text start (b ∷ []) (drop (suc start) text) (drop-cons text start 0 l ∙ ap (λ (x : ℕ). x ∷ drop (suc start) text) e) in
          not_both (sym so ∙ t)
      by_place (no l) = let far : length text ≤ start = omega (arith, l) in omega (arith, e, some, get_or-eq_default text 0 far)

length_step : (b c : Bool) (m n : ℕ) → (c ≡ true → m ≤ n) → cond b c false ≡ true → suc m ≤ suc n
length_step true c m n rec e = omega (arith, rec e)
length_step false c m n rec e = not_both (sym e)

pub begins_length : (word text : List ℕ) → begins word text ≡ true → length word ≤ length text
unfolding begins
begins_length [] text e = omega arith
begins_length (w ∷ word) [] e = not_both (sym e)
begins_length (w ∷ word) (b ∷ text) e = length_step (eqb b w) (begins word text) (length word) (length text) (begins_length word text) e

pub begins_word : (word : List ℕ) (c : ℕ) (rest : List ℕ) → begins (word ++ (c ∷ [])) (word ++ (c ∷ rest)) ≡ true
unfolding begins
begins_word [] c rest = rw (eq-eqb c c refl)
begins_word (w ∷ word) c rest = rw (eq-eqb w w refl, begins_word word c rest)

split_word : (b w : ℕ) (word text : List ℕ) (t : Bool) → eqb b w ≡ t → (begins word text ≡ true → text ≡ word ++ drop (length word) text)
    → cond t (begins word text) false ≡ true → b ∷ text ≡ w ∷ (word ++ drop (length word) text)
split_word b w word text true t rec e = ap₂ ◌∷◌ (eqb-true b w t) (rec e)
split_word b w word text false t rec e = not_both (sym e)

pub begins_split : (word text : List ℕ) → begins word text ≡ true → text ≡ word ++ drop (length word) text
unfolding begins
begins_split [] text e = refl
begins_split (w ∷ word) [] e = not_both (sym e)
begins_split (w ∷ word) (b ∷ text) e = split_word b w word text (eqb b w) refl (begins_split word text) e

pub begins_cut : (word text : List ℕ) (n : ℕ) → length word ≤ n → begins word (take n text) ≡ begins word text
unfolding begins
begins_cut [] text n l = refl
begins_cut (w ∷ word) text zero l = absurd (omega arith)
begins_cut (w ∷ word) [] (suc n) l = refl
begins_cut (w ∷ word) (b ∷ text) (suc n) l = ap (λ (x : Bool). cond (eqb b w) x false) (begins_cut word text n (omega arith))
