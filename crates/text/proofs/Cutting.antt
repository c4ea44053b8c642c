-- The first bytes of a file: its lines are those of the file that end within them. Assumes nothing.
--   cut_rest, cut_place          what is left from a start, and where a byte first stands then
--   cut_here, cut_line           the LF stands within the cut: the place and the line are the file's
--   cut_past                     it does not: no LF is left
--   cut_reached, cut_before      a walk that has come no further than the cut; the lines before its start
--   cut_count                    how many lines end within the cut, by a walk that has come to the last of them
--   cut_kept, cut_lost           line h of the cut: the file's where it ends within the cut, and none else
--   cut_at, cut_few              how many they are, by the bytes of the file's first lines
use mathlib.Core.Path.{◌≡◌, sym, ◌∙◌, ap, subst}
use mathlib.Core.List.{List, [], ◌++◌}
use Prim.Native.Nat.{ℕ, zero, suc, ◌+◌, ◌-◌, ◌<◌, ◌≤◌, min}
use native.Mathlib.Numerals.{add-one}
use native.Mathlib.Decide.{dec_lt}
use native.Mathlib.Omega.{arith}
use borrow.Author.Tests.{lt-ltb, le-ltb}
use lib.ListN.{length, take, drop, length-take, take-append-drop}
use lib.Seq.{length-take-le, take-take, take-add, take_all, drop_at}
use Rattle.text.specs.Parts.{bytes_before, place_from}
use Rattle.text.specs.Lines.{LF, line_at, lines_of, lines_in, line_no, bytes_of}
use Rattle.text.specs.Written.{line_end, in_order}
use Rattle.text.proofs.Sparing.{before_cut}
use Rattle.text.proofs.Stepping.{Reached, no_line, none_left, one_more, end_within, reached_at, reached_all, reached_more, lines_free}
use Rattle.text.proofs.Stacking.{line_before, reached_stacked}

module _ (file : List ℕ) (size : ℕ) where
  abbrev part : List ℕ
  part = take size file

  -- ---- from a start within the cut
  module _ (start : ℕ) (l : start ≤ length file) (m : start ≤ size) where
    pub cut_rest : drop start part ≡ take (size - start) (drop start file)
    cut_rest =
        let same : size ≡ start + (size - start) = omega arith in
        ap (λ (n : ℕ). drop start (take n file)) same
        ∙ ap (drop start) (take-add start (size - start) file)
        ∙ drop_at (take start file) (take (size - start) (drop start file)) start (length-take-le start file l)

    pub cut_place : (byte : ℕ) → place_from byte part start ≡ min size (place_from byte file start)
    unfolding place_from
    cut_place byte = omega (arith, ap (bytes_before byte) cut_rest, before_cut byte (size - start) (drop start file), m)

    pub cut_past : (byte : ℕ) → size ≤ place_from byte file start → length part ≤ place_from byte part start
    cut_past byte p = omega (arith, cut_place byte, length-take size file, p)

    module _ (h : place_from LF file start < size) where
      pub cut_here : place_from LF part start ≡ place_from LF file start
      cut_here = omega (arith, cut_place LF, h)

      line_by : Dec (place_from LF file start < length file) → line_at part start ≡ line_at file start
      unfolding line_at place_from
      line_by (yes g) =
          let left = drop start file in let n = bytes_before LF left in
          let same : bytes_before LF (take (size - start) left) ≡ n = omega (arith, before_cut LF (size - start) left, h) in
          rw (cut_rest, same, lt-ltb (start + n) (length part) (omega (arith, length-take size file, g, h)), lt-ltb (start + n) (length file) g)
          (take-take n (size - start) left (omega (arith, h)))
      line_by (no g) =
          let n = bytes_before LF (drop start file) in
          rw (
            le-ltb (start + bytes_before LF (drop start part)) (length part) (omega (arith, cut_here, length-take size file, g)),
            le-ltb (start + n) (length file) (omega arith),
          )

      pub cut_line : line_at part start ≡ line_at file start
      cut_line = line_by (dec_lt (place_from LF file start) (length file))

  -- ---- a walk within the cut
  module _ {start n : ℕ} (b : Reached file start n) (m : start ≤ size) where
    abbrev behind : List ℕ
    behind = drop start part

    abbrev done : List ℕ
    done = in_order n (λ h. line_no file h ++ line_end)

    split : done ++ behind ≡ part
    split = ap (λ (s : List ℕ). s ++ behind) (sym (take-take start size file m ∙ b.text)) ∙ take-append-drop start part

    long : length done ≡ start
    long = sym (ap length b.text) ∙ length-take-le start file b.within

    pub cut_before : (h : ℕ) → h < n → line_no part h ≡ line_no file h
    cut_before h l = ap (λ (s : List ℕ). line_no s h) (sym split) ∙ line_before n (line_no file) (λ h l. lines_free file h) behind h l

    pub cut_reached : Reached part start n
    cut_reached =
        subst (λ (s : List ℕ). Reached s start n) split
        (subst (λ (at : ℕ). Reached (done ++ behind) at n) long (reached_stacked n (line_no file) (λ h l. lines_free file h) behind))

    pub cut_count : size ≤ place_from LF file start → lines_in part ≡ n
    cut_count p = sym (none_left part cut_reached (cut_past start b.within m LF p))

  -- ---- by a line's number
  -- the last line ends within the cut
  all_kept : bytes_of (lines_of file) ≤ size → lines_in part ≡ lines_in file
  all_kept l = by_end (dec_lt (place_from LF file (bytes_of (lines_of file))) (length file))
    where
      b : Reached file (bytes_of (lines_of file)) (lines_in file)
      b = reached_all file

      by_end : Dec (place_from LF file (bytes_of (lines_of file)) < length file) → lines_in part ≡ lines_in file
      by_end (yes g) = absurd (omega (arith, one_more file b g))
      by_end (no g) =
          sym (none_left part (cut_reached b l) (omega (arith, cut_place (bytes_of (lines_of file)) b.within l LF, length-take size file, g)))

  pub cut_kept : (h : ℕ) → bytes_of (take (h + 1) (lines_of file)) ≤ size → line_no part h ≡ line_no file h
  cut_kept h l = by_count (dec_lt h (lines_in file))
    where
      by_count : Dec (h < lines_in file) → line_no part h ≡ line_no file h
      by_count (yes m) = cut_before (reached_at file (h + 1) (omega arith)) l h (omega arith)
      by_count (no m) =
          let all : take (h + 1) (lines_of file) ≡ lines_of file = take_all (h + 1) (lines_of file) (omega arith) in
          no_line part h (omega (arith, all_kept (rw all at l))) ∙ sym (no_line file h (omega arith))

  -- h lines end within the cut, and the next one behind it
  pub cut_at : (h : ℕ) → bytes_of (take h (lines_of file)) ≤ size → size < bytes_of (take (h + 1) (lines_of file)) → lines_in part ≡ h
  cut_at h l m = by_count (dec_lt h (lines_in file))
    where
      by_count : Dec (h < lines_in file) → lines_in part ≡ h
      by_count (yes g) =
          let b = reached_at file h (omega arith) in let on = reached_more file b (end_within file b g) in
          cut_count b l (omega (arith, on.bytes, m))
      by_count (no g) =
          let all = take_all h (lines_of file) (omega arith) in let more = take_all (h + 1) (lines_of file) (omega arith) in
          absurd (omega (arith, ap bytes_of all, ap bytes_of more, l, m))

  pub cut_few : (h : ℕ) → size < bytes_of (take (h + 1) (lines_of file)) → lines_in part ≤ h
  unfolding bytes_of
  cut_few zero m = omega (arith, cut_at 0 (omega arith) m)
  cut_few (suc j) m = by_last (dec_lt size (bytes_of (take (j + 1) (lines_of file)))) (cut_few j)
    where
      by_last : Dec (size < bytes_of (take (j + 1) (lines_of file))) → (size < bytes_of (take (j + 1) (lines_of file)) → lines_in part ≤ j)
          → lines_in part ≤ suc j
      by_last (yes g) rec = omega (arith, rec g)
      by_last (no g) rec = omega (arith, cut_at (suc j) (rw (← add-one j) (omega arith)) m)

  pub cut_lost : (h : ℕ) → size < bytes_of (take (h + 1) (lines_of file)) → line_no part h ≡ []
  cut_lost h l = no_line part h (cut_few h l)
