-- The form of another office's listing, and the numbers that it prints. "A listing is malformed at the first line that isn't the ADJ, V or K line due there
-- or lacks its LF, counting by its own ADJ line from 1 to 64 and 1 to 24 in order, with numbers written as in the network file but up to 18 digits; a missing
-- line counts where it was due."
use Rattle.std.specs.Prelude.{Bool, true, cond, ◌||◌, List, [], ◌∷◌, ℕ, ◌+◌, ◌-◌, ltb, ℤ, pos, nat_abs, length, get_or, take, Option, None, Some}
use Rattle.exact.specs.Same.{same}
use Rattle.exact.specs.Outside.{outside}
use Rattle.reply.specs.declared.Refusal.TheVariants.{Sheet}
use Rattle.reply.specs.Reply.{Reply}
use Rattle.reply.specs.Checks.{refuse_if, refuse_first, ◌and_then◌}
use Rattle.text.specs.Parts.{begins}
use Rattle.text.specs.Lines.{lines_of, line_no, bytes_of}
use Rattle.text.specs.Rows.{behind_within, row_within, row_values, missing}

-- ---- the ADJ line: the word and a tab, and behind them m and n
abbrev pub adj_head : List ℕ
adj_head = 65 ∷ 68 ∷ 74 ∷ 9 ∷ []

unfoldable pub heading_of : (listing : List ℕ) → Option (List ℤ)
heading_of listing = cond (begins adj_head listing) (row_within 18 listing 4 2) None

-- "from 1 to 64 and 1 to 24"
unfoldable pub heading_amiss : Option (List ℤ) → Bool
heading_amiss (Some zs) = outside (pos 1) (pos 64) (get_or zs 0 (pos 0)) || outside (pos 1) (pos 24) (get_or zs 1 (pos 0))
heading_amiss None = true

-- the listing's own counts, of directions and of conditions
unfoldable pub count_no : (k : ℕ) (listing : List ℕ) → ℕ
count_no k listing = nat_abs (get_or (row_values (heading_of listing) []) k (pos 0))

abbrev pub directions_in : List ℕ → ℕ
directions_in listing = count_no 0 listing

abbrev pub conditions_in : List ℕ → ℕ
conditions_in listing = count_no 1 listing

-- ---- the lines behind it, counted from 0: m V lines, then the K lines, each kind numbered from 1. "V with number, u, adjusted; K with condition, K, R, Q"
unfoldable pub letter_due : (m i : ℕ) → ℕ
letter_due m i = cond (ltb i m) 86 75

unfoldable pub fields_due : (m i : ℕ) → ℕ
fields_due m i = cond (ltb i m) 3 4

unfoldable pub number_due : (m i : ℕ) → ℕ
number_due m i = cond (ltb i m) (i + 1) (i - m + 1)

-- the numbers of a line, where the first is the one due
unfoldable pub numbered : (number : ℕ) → Option (List ℤ) → Option (List ℤ)
numbered number (Some zs) = cond (same (get_or zs 0 (pos 0)) (pos number)) (Some zs) None
numbered number None = None

-- the numbers of a line that is the one due at place i; none, where it isn't
unfoldable pub due_at : (m i : ℕ) (line : List ℕ) → Option (List ℤ)
due_at m i line = numbered (number_due m i) (behind_within 18 (letter_due m i) (fields_due m i) line)

-- those of the listing's line at place i: a line that is missing is empty, and an empty line is none that can be due
unfoldable pub row_no : (listing : List ℕ) (i : ℕ) → Option (List ℤ)
row_no listing i = due_at (directions_in listing) i (line_no listing (i + 1))

unfoldable pub malformed : (listing : List ℕ) (i : ℕ) → Bool
malformed listing i = missing (row_no listing i)

-- bytes behind so many lines: one line more, with its LF or without
unfoldable pub goes_on : (listing : List ℕ) (lines : ℕ) → Bool
goes_on listing lines = ltb (bytes_of (take lines (lines_of listing))) (length listing)

-- "31 for a malformed listing with its line"
unfoldable pub form_reply : (listing : List ℕ) → Reply
form_reply listing =
    let lines = directions_in listing + conditions_in listing in
    refuse_if (heading_amiss (heading_of listing)) (Sheet 1)
    and_then (refuse_first lines (malformed listing) (λ i. Sheet (i + 2))
    and_then refuse_if (goes_on listing (lines + 1)) (Sheet (lines + 2)))

-- ---- the numbers of a listing that is well formed: number k of the line at place i, counted from 0
unfoldable pub field_no : (k : ℕ) (listing : List ℕ) (i : ℕ) → ℤ
field_no k listing i = get_or (row_values (row_no listing i) []) k (pos 0)

module _ (listing : List ℕ) where
  -- on the V line of direction i
  abbrev pub own_u : ℕ → ℤ
  own_u i = field_no 1 listing i

  abbrev pub own_adjusted : ℕ → ℤ
  own_adjusted i = field_no 2 listing i

  -- on the K line of condition j
  abbrev pub own_k : ℕ → ℤ
  own_k j = field_no 1 listing (directions_in listing + j)

  abbrev pub own_r : ℕ → ℤ
  own_r j = field_no 2 listing (directions_in listing + j)

  abbrev pub own_q : ℕ → ℤ
  own_q j = field_no 3 listing (directions_in listing + j)
