-- Those lines of a file at which a test holds, in their order, as a text. Assumes nothing.
--   order_some                        of lines in their order, those at which a test holds
--   order_none, order_most            no line is no text; lines that are no longer than others, one by one
--   sifted, sifted_stacked            such lines of a file are a text of as many
--   sifted_count, sifted_no, sifted_ended     how many they are, each by its number, and that no byte stands behind them
--   all_lines, sifted_long            all lines of a file that ends with one are that file; those at which a test holds are no longer
--   sifted_all                        where it holds at each line of such a file, they are that file
use mathlib.Core.Path.{◌≡◌, refl, sym, ◌∙◌, ap}
use mathlib.Core.Bool.{Bool, true, false, cond}
use mathlib.Core.List.{List, [], ◌∷◌, ◌++◌, append-nil}
use Prim.Native.Nat.{ℕ, zero, suc, ◌<◌, ◌≤◌}
use native.Mathlib.Omega.{arith}
use borrow.Author.Tests.{le-ltb, ltb-false}
use lib.ListN.{length, get_or, take, length-append, length-take, get_or-append}
use lib.Seq.{get_or-append_seam, take_all}
use Rattle.exact.specs.Gather.{gather}
use Rattle.exact.proofs.Gathering.{rank, nth, gather_rank, gather_at, rank_more, rank_same}
use Rattle.text.specs.Lines.{lines_of, lines_in, line_no, bytes_of, unended}
use Rattle.text.specs.Written.{line_end, in_order}
use Rattle.text.proofs.Stepping.{reached_all, lines_free}
use Rattle.text.proofs.Stacking.{stacked, order_ext, stacked_count, stacked_no, stacked_bytes}

-- ---- lines in their order
module _ (t : ℕ → Bool) (l : ℕ → List ℕ) where
  abbrev some : ℕ → List ℕ
  some h = cond (t h) (l h) []

  -- the line at place m of those at which the test holds, among the first n
  abbrev at : ℕ → ℕ → List ℕ
  at n m = get_or (gather n t l) m []

  some_at : (n : ℕ) → in_order n some ≡ in_order (rank t n) (at n)
  unfolding in_order gather
  some_at zero = refl
  some_at (suc n) = by_test (some_at n) (t n) refl
    where
      before : (x : List (List ℕ)) → in_order (rank t n) (λ m. get_or (gather n t l ++ x) m []) ≡ in_order (rank t n) (at n)
      before x =
          order_ext (rank t n) (λ m. get_or (gather n t l ++ x) m []) (at n) (λ m k. get_or-append (gather n t l) x [] m (omega (arith, gather_rank t n l)))

      last : get_or (gather n t l ++ (l n ∷ [])) (rank t n) [] ≡ l n
      last = ap (λ (k : ℕ). get_or (gather n t l ++ (l n ∷ [])) k []) (sym (gather_rank t n l)) ∙ get_or-append_seam (gather n t l) (l n) [] []

      by_test : in_order n some ≡ in_order (rank t n) (at n) → (b : Bool) → t n ≡ b
          → in_order n some ++ cond (t n) (l n) [] ≡ in_order (rank t (suc n)) (λ m. get_or (gather n t l ++ cond (t n) (l n ∷ []) []) m [])
      by_test rec true e = rw (rank_more t n e, e, rec, before (l n ∷ []), last)
      by_test rec false e = rw (rank_same t n e, e, rec, before []) (append-nil (in_order (rank t n) (at n)))

  pub order_some : (n : ℕ) → in_order n some ≡ in_order (rank t n) (λ m. l (nth t n m))
  order_some n = some_at n ∙ order_ext (rank t n) (at n) (λ m. l (nth t n m)) (λ m k. gather_at t l [] n m k)

pub order_none : (n : ℕ) → in_order n (λ h. []) ≡ []
unfolding in_order
order_none zero = refl
order_none (suc n) = rw (order_none n)

pub order_most : (n : ℕ) (f g : ℕ → List ℕ) → ((h : ℕ) → h < n → length (f h) ≤ length (g h)) → length (in_order n f) ≤ length (in_order n g)
unfolding in_order
order_most zero f g e = omega arith
order_most (suc n) f g e =
    omega (arith, length-append (in_order n f) (f n), length-append (in_order n g) (g n), order_most n f g (λ h l. e h (omega arith)), e n (omega arith))

-- ---- the lines of a file
abbrev pub sifted : (file : List ℕ) (test : ℕ → Bool) → List ℕ
sifted file test = in_order (lines_in file) (λ h. cond (test h) (line_no file h ++ line_end) [])

module _ (file : List ℕ) where
  to_last : stacked (lines_in file) (line_no file) ≡ take (bytes_of (lines_of file)) file
  to_last = sym (reached_all file).text

  pub all_lines : unended file ≡ false → stacked (lines_in file) (line_no file) ≡ file
  unfolding unended
  all_lines e = to_last ∙ take_all (bytes_of (lines_of file)) file (ltb-false (bytes_of (lines_of file)) (length file) e)

  module _ (t : ℕ → Bool) where
    abbrev many : ℕ
    many = rank t (lines_in file)

    abbrev line : ℕ → List ℕ
    line m = line_no file (nth t (lines_in file) m)

    pub sifted_stacked : sifted file t ≡ stacked many line
    sifted_stacked = order_some t (λ h. line_no file h ++ line_end) (lines_in file)

    pub sifted_count : lines_in (sifted file t) ≡ many
    sifted_count = ap (λ (s : List ℕ). lines_in s) sifted_stacked ∙ stacked_count many line (λ h l. lines_free file (nth t (lines_in file) h))

    pub sifted_no : (m : ℕ) → m < many → line_no (sifted file t) m ≡ line m
    sifted_no m l = ap (λ (s : List ℕ). line_no s m) sifted_stacked ∙ stacked_no many line (λ h k. lines_free file (nth t (lines_in file) h)) m l

    pub sifted_ended : unended (sifted file t) ≡ false
    unfolding unended
    sifted_ended =
        let s = stacked many line in
        rw sifted_stacked
        (le-ltb (bytes_of (lines_of s)) (length s) (omega (arith, stacked_bytes many line (λ h l. lines_free file (nth t (lines_in file) h)))))

    pub sifted_long : length (sifted file t) ≤ length file
    sifted_long =
        omega (
          arith,
          order_most (lines_in file) (λ h. cond (t h) (line_no file h ++ line_end) []) (λ h. line_no file h ++ line_end) (λ h l. by_test h (t h)),
          ap length to_last,
          length-take (bytes_of (lines_of file)) file,
        )
      where
        by_test : (h : ℕ) (b : Bool) → length (cond b (line_no file h ++ line_end) []) ≤ length (line_no file h ++ line_end)
        by_test h true = omega arith
        by_test h false = omega arith

    pub sifted_all : unended file ≡ false → ((h : ℕ) → h < lines_in file → t h ≡ true) → sifted file t ≡ file
    sifted_all e a =
        order_ext (lines_in file) (λ h. cond (t h) (line_no file h ++ line_end) []) (λ h. line_no file h ++ line_end) (λ h l. rw (a h l)) ∙ all_lines e
