-- What inner functions hand each other: the touched directions of a condition in one word. No part of the promise.
use Rattle.std.specs.Prelude.{◌≡◌, Bool, not, List, ℕ, zero, suc, ◌+◌, ◌*◌, ◌^◌, ◌<◌, leb, length, get_or, ℤ, pos}
use Rattle.std.specs.Int.Bits.{bit_and}
use Rattle.std.specs.Int.Count.{ones}
use Rattle.exact.specs.First.{some_below}
use Rattle.exact.specs.Same.{same}
use Rattle.touched.specs.Shared.{one_if, touches}

-- the numbers below n that pass a test, as binary digits: the number i is the digit of 2^i
unfoldable pub word : ℕ → (ℕ → Bool) → ℕ
word zero p = 0
word (suc n) p = one_if (p n) * 2 ^ n + word n p

-- "The touched directions of a condition fit one 64-bit number": those of condition j, the first direction lowest
abbrev pub word_of : List ℤ → (m j : ℕ) → ℕ
word_of a m j = word m (touches a m j)

-- the same of one condition's coefficients, in a list of their own: direction i is touched, and the word
abbrev pub touches_in : List ℤ → ℕ → Bool
touches_in row i = not (same (get_or row i (pos 0)) (pos 0))

abbrev pub word_in : List ℤ → ℕ
word_in row = word (length row) (touches_in row)

-- "Shared ones are counted from it"
abbrev pub shared_ones : ℕ → ℕ → ℕ
shared_ones x y = ones (bit_and x y)

-- some word below j has three or more ones in common with word j
abbrev pub shares_before : List ℕ → ℕ → Bool
shares_before words j = some_below j (λ k. leb 3 (shared_ones (get_or words j 0) (get_or words k 0)))

-- a list that holds the words of the first n conditions
abbrev pub WordsOf : List ℤ → (m n : ℕ) → List ℕ → Type 0
WordsOf a m n words = (j : ℕ) → j < n → get_or words j 0 ≡ word_of a m j
