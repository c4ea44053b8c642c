-- Where a byte first stands in a text, the parts into which it parts the text, and whether the text begins with a word.
use Rattle.std.specs.Prelude.{Bool, true, false, cond, List, [], ◌∷◌, ◌++◌, ℕ, suc, ◌+◌, drop, eqb}

-- how many bytes stand before the first `byte`; all of them, where there is none
unfoldable pub bytes_before : ℕ → List ℕ → ℕ
bytes_before byte [] = 0
bytes_before byte (b ∷ bs) = cond (eqb b byte) 0 (suc (bytes_before byte bs))

-- where the first `byte` at or after `start` stands
unfoldable pub place_from : ℕ → List ℕ → ℕ → ℕ
place_from byte text start = start + bytes_before byte (drop start text)

-- the parts of a text, each without the `byte` that ends it. What comes after the last such byte has the parts `end`, with the bytes in front of the
-- first of them: with no part it is dropped, with one empty part it is a part of its own
unfoldable pub on_first : ℕ → List (List ℕ) → List (List ℕ)
on_first b [] = []
on_first b (l ∷ ls) = (b ∷ l) ∷ ls

unfoldable pub parted : ℕ → List (List ℕ) → List ℕ → List (List ℕ)
parted byte end [] = end
parted byte end (b ∷ bs) = cond (eqb b byte) ([] ∷ parted byte end bs) (on_first b (parted byte end bs))

-- bytes in front of the first part
unfoldable pub onto : List ℕ → List (List ℕ) → List (List ℕ)
onto bytes [] = []
onto bytes (part ∷ parts) = (bytes ++ part) ∷ parts

unfoldable pub begins : (word text : List ℕ) → Bool
begins [] text = true
begins (w ∷ word) [] = false
begins (w ∷ word) (b ∷ text) = cond (eqb b w) (begins word text) false
