-- A walk through a file from line to line. Assumes nothing.
--   line_split, line_cut                         what is left of a file is the line at its start, an LF, and what is left then
--   bytes_append, bytes_next                     the bytes of lines and others behind them, and of one line more
--   no_line                                      a line that the file has not is empty
--   Reached, reached_none                        n lines lie before a start; none before the first byte
--   line_here, one_more, reached_more            the line at the start has its LF: it is line n, and the next start
--   none_left, line_missing, bytes_reached       it has none: all lines lie before the start
--   end_within                                   where a line is left, it has its LF
--   reached_at, reached_all                      every line's start, and the end of the last one
--   lines_free                                   no line has an LF
use mathlib.Core.Path.{◌≡◌, refl, sym, ◌∙◌, ap, subst}
use mathlib.Core.List.{List, [], ◌∷◌, ◌++◌}
use Prim.Native.Nat.{ℕ, zero, suc, ◌+◌, ◌-◌, ◌<◌, ◌≤◌}
use native.Mathlib.Numerals.{add-one}
use native.Mathlib.Nat.{add-zero, le_refl}
use native.Mathlib.Decide.{dec_lt}
use native.Mathlib.Omega.{arith}
use borrow.Author.Tests.{lt-ltb}
use lib.ListN.{length, get_or, take, drop, length-drop, get_or-eq_default}
use lib.Seq.{get_or-drop, drop-drop, take-suc, take-add, take-append-add, take-length}
use Rattle.text.specs.Parts.{bytes_before, place_from}
use Rattle.text.specs.Lines.{LF, line_at, lines_of, lines_in, line_no, bytes_of}
use Rattle.text.specs.Written.{line_end, in_order}
use Rattle.text.proofs.Parting.{place_after}
use Rattle.text.proofs.Splitting.{line_next, lines_whole, lines_rest}
use Rattle.text.proofs.Sparing.{Free, line_free}
use Rattle.text.proofs.Rowing.{split_at_byte}

-- ---- the line at a start
module _ (file : List ℕ) (start : ℕ) (l : place_from LF file start < length file) where
  pub line_split : drop start file ≡ line_at file start ++ (LF ∷ drop (place_from LF file start + 1) file)
  unfolding line_at place_from
  line_split =
      let left = drop start file in let n = bytes_before LF left in
      let far : n < length left = omega (arith, length-drop start file) in
      let same : start + suc n ≡ start + n + 1 = omega arith in
      rw (lt-ltb (start + n) (length file) l)
      (split_at_byte LF left far ∙ ap (λ (rest : List ℕ). take n left ++ (LF ∷ rest)) (drop-drop (suc n) start file ∙ ap (λ (m : ℕ). drop m file) same))

  pub line_cut : take (place_from LF file start + 1 - start) (drop start file) ≡ line_at file start ++ line_end
  line_cut =
      let line = line_at file start in
      let long : place_from LF file start + 1 - start ≡ length line + 1 = omega (arith, line_next file start l) in
      ap (λ (n : ℕ). take n (drop start file)) long
      ∙ ap (take (length line + 1)) line_split
      ∙ take-append-add line (LF ∷ drop (place_from LF file start + 1) file) 1

-- ---- the bytes of lines
pub bytes_append : (a b : List (List ℕ)) → bytes_of (a ++ b) ≡ bytes_of a + bytes_of b
unfolding bytes_of
bytes_append [] b = omega arith
bytes_append (line ∷ a) b = omega (arith, bytes_append a b)

pub bytes_next : (lines : List (List ℕ)) (n : ℕ) → n < length lines → bytes_of (take (n + 1) lines) ≡ bytes_of (take n lines) + (length (get_or lines n []) + 1)
unfolding bytes_of
bytes_next lines n l =
    let line = get_or lines n [] in
    ap (λ (m : ℕ). bytes_of (take m lines)) (add-one n)
    ∙ ap bytes_of (take-suc lines n [] l)
    ∙ bytes_append (take n lines) (line ∷ [])
    ∙ omega arith

-- a line that the file has not is empty
pub no_line : (file : List ℕ) (h : ℕ) → lines_in file ≤ h → line_no file h ≡ []
unfolding line_no
no_line file h l = get_or-eq_default (lines_of file) [] l

-- ---- the walk
module _ (file : List ℕ) where
  -- n lines have been read, and the next one starts at `start`
  pub record Reached (start n : ℕ) : Type 0 where
    pub within : start ≤ length file
    pub few : n ≤ start
    pub inside : n ≤ lines_in file
    pub lines : drop n (lines_of file) ≡ lines_of (drop start file)
    pub rest : start + bytes_of (lines_of (drop start file)) ≡ bytes_of (lines_of file)
    pub bytes : start ≡ bytes_of (take n (lines_of file))
    pub text : take start file ≡ in_order n (λ h. line_no file h ++ line_end)

  pub reached_none : Reached 0 0
  unfolding bytes_of in_order
  reached_none = record { within = omega arith; few = omega arith; inside = omega arith; lines = refl; rest = omega arith; bytes = refl; text = refl }

  module _ {start n : ℕ} (b : Reached start n) where
    abbrev end : ℕ
    end = place_from LF file start

    -- the line has its LF
    module _ (l : end < length file) where
      abbrev left : drop n (lines_of file) ≡ line_at file start ∷ lines_of (drop (end + 1) file)
      left = b.lines ∙ lines_whole file start l

      pub line_here : line_no file n ≡ line_at file start
      unfolding line_no
      line_here = ap (λ (m : ℕ). get_or (lines_of file) m []) (sym (add-zero n)) ∙ sym (get_or-drop n (lines_of file) 0 [])
          ∙ ap (λ (lines : List (List ℕ)). get_or lines 0 []) left

      pub one_more : n < lines_in file
      one_more = omega (arith, length-drop n (lines_of file), ap length left)

      bytes_more : end + 1 ≡ bytes_of (take (n + 1) (lines_of file))
      unfolding line_no
      bytes_more = omega (arith, bytes_next (lines_of file) n one_more, b.bytes, ap length line_here, line_next file start l)

      text_more : take (end + 1) file ≡ in_order (n + 1) (λ h. line_no file h ++ line_end)
      unfolding in_order
      text_more =
          let far : end + 1 ≡ start + (end + 1 - start) = omega (arith, place_after LF file start) in
          ap (λ (m : ℕ). take m file) far
          ∙ take-add start (end + 1 - start) file
          ∙ rw (line_cut file start l, b.text, add-one n, line_here)

      pub reached_more : Reached (end + 1) (n + 1)
      unfolding bytes_of
      reached_more = record {
        within = omega (arith, l);
        few = omega (arith, b.few, place_after LF file start);
        inside = omega (arith, one_more);
        lines = sym (drop-drop 1 n (lines_of file)) ∙ ap (drop 1) left;
        rest = omega (arith, b.rest, ap bytes_of (lines_whole file start l), line_next file start l);
        bytes = bytes_more;
        text = text_more;
      }

    -- it has none
    module _ (l : length file ≤ end) where
      pub none_left : n ≡ lines_in file
      none_left = omega (arith, b.inside, length-drop n (lines_of file), ap length (b.lines ∙ lines_rest file start l))

      pub line_missing : line_no file n ≡ []
      line_missing = no_line file n (omega (arith, none_left))

      pub bytes_reached : bytes_of (lines_of file) ≡ start
      unfolding bytes_of
      bytes_reached = omega (arith, b.rest, ap bytes_of (lines_rest file start l))

    pub end_within : n < lines_in file → end < length file
    end_within m = by_end (dec_lt end (length file))
      where
        by_end : Dec (end < length file) → end < length file
        by_end (yes l) = l
        by_end (no l) = absurd (omega (arith, m, none_left (omega arith)))

  -- ---- every line
  pub reached_at : (n : ℕ) → n ≤ lines_in file → Reached (bytes_of (take n (lines_of file))) n
  unfolding bytes_of
  reached_at zero l = reached_none
  reached_at (suc n) l =
      let b = reached_at n (omega arith) in let on = reached_more b (end_within b l) in
      rw (← add-one n) (subst (λ (start : ℕ). Reached start (n + 1)) on.bytes on)

  pub reached_all : Reached (bytes_of (lines_of file)) (lines_in file)
  reached_all = rw take-length at (reached_at (lines_in file) (le_refl (lines_in file)))

  pub lines_free : (h : ℕ) → Free LF (line_no file h)
  unfolding bytes_before
  lines_free h = by_count (dec_lt h (lines_in file))
    where
      by_count : Dec (h < lines_in file) → Free LF (line_no file h)
      by_count (yes l) = let b = reached_at h (omega arith) in rw (line_here b (end_within b l)) (line_free file (bytes_of (take h (lines_of file))))
      by_count (no l) = rw (no_line file h (omega arith))
