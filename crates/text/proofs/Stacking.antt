-- Lines in their order, each with its LF, as a text: its lines are they. Assumes nothing.
--   stacked                              such a text
--   order_ext, order_both                equal lines in their order are the same text; some lines, and others behind them
--   stacked_long, bytes_stacked          such a text has at least a byte to a line, and as many bytes as its lines have
--   lines_first, lines_stacked           the lines of a text that begins with a line, or with lines in their order
--   line_before                          line h of such a text
--   reached_stacked                      a walk that has come to the end of those lines
--   stacked_lines, stacked_count, stacked_no, stacked_bytes   with nothing behind them: the text's lines, how many they are, each by its number, and their
--                                        bytes
use mathlib.Core.Path.{◌≡◌, refl, sym, ◌∙◌, ap}
use mathlib.Core.List.{List, [], ◌∷◌, ◌++◌, append_assoc, append-nil}
use Prim.Native.Nat.{ℕ, zero, suc, ◌+◌, ◌<◌, ◌≤◌}
use native.Mathlib.Nat.{add-zero}
use native.Mathlib.Omega.{arith}
use lib.ListN.{length, get_or, take, drop, length-append, get_or-append}
use lib.Seq.{append_snoc, take-append_seam, drop-append_seam, take_at, drop_at}
use Rattle.exact.specs.Tabulate.{tabulate}
use Rattle.exact.proofs.Filling.{tabulate_length, tabulate_at, tabulate_more}
use Rattle.text.specs.Parts.{parted}
use Rattle.text.specs.Lines.{LF, lines_of, lines_in, line_no, bytes_of}
use Rattle.text.specs.Written.{line_end, in_order}
use Rattle.text.proofs.Sparing.{Free, part_first}
use Rattle.text.proofs.Stepping.{Reached, bytes_append}

-- n lines in their order, each with its LF
abbrev pub stacked : ℕ → (ℕ → List ℕ) → List ℕ
stacked n l = in_order n (λ h. l h ++ line_end)

pub order_ext : (n : ℕ) (f g : ℕ → List ℕ) → ((h : ℕ) → h < n → f h ≡ g h) → in_order n f ≡ in_order n g
unfolding in_order
order_ext zero f g e = refl
order_ext (suc n) f g e = rw (order_ext n f g (λ h l. e h (omega arith)), e n (omega arith))

pub order_both : (a b : ℕ) (f : ℕ → List ℕ) → in_order (a + b) f ≡ in_order a f ++ in_order b (λ i. f (a + i))
unfolding in_order
order_both a zero f = ap (λ (n : ℕ). in_order n f) (add-zero a) ∙ sym (append-nil (in_order a f))
order_both a (suc b) f =
    let on : a + suc b ≡ suc (a + b) = omega arith in
    ap (λ (n : ℕ). in_order n f) on
    ∙ ap (λ (s : List ℕ). s ++ f (a + b)) (order_both a b f)
    ∙ append_assoc (in_order a f) (in_order b (λ i. f (a + i))) (f (a + b))

-- ---- how many bytes they have
pub stacked_long : (n : ℕ) (l : ℕ → List ℕ) → n ≤ length (stacked n l)
unfolding in_order
stacked_long zero l = omega arith
stacked_long (suc n) l =
    omega (arith, length-append (stacked n l) (l n ++ line_end), length-append (l n) line_end, stacked_long n l)

pub bytes_stacked : (n : ℕ) (l : ℕ → List ℕ) → bytes_of (tabulate n l) ≡ length (stacked n l)
unfolding in_order bytes_of tabulate
bytes_stacked zero l = refl
bytes_stacked (suc n) l =
    ap bytes_of (tabulate_more n l)
    ∙ omega (
      arith,
      bytes_append (tabulate n l) (l n ∷ []),
      bytes_stacked n l,
      length-append (stacked n l) (l n ++ line_end),
      length-append (l n) line_end,
    )

-- ---- the lines of a text that begins with them
pub lines_first : (line rest : List ℕ) → Free LF line → lines_of ((line ++ line_end) ++ rest) ≡ line ∷ lines_of rest
unfolding lines_of
lines_first line rest e = rw (append_assoc line line_end rest) (part_first LF [] line rest e)

pub lines_stacked : (n : ℕ) (l : ℕ → List ℕ) (rest : List ℕ) → ((h : ℕ) → h < n → Free LF (l h))
    → lines_of (stacked n l ++ rest) ≡ tabulate n l ++ lines_of rest
unfolding in_order tabulate
lines_stacked zero l rest e = refl
lines_stacked (suc n) l rest e =
    let before = stacked n l in let line = l n ++ line_end in
    ap lines_of (append_assoc before line rest)
    ∙ lines_stacked n l (line ++ rest) (λ h m. e h (omega arith))
    ∙ ap (λ (lines : List (List ℕ)). tabulate n l ++ lines) (lines_first (l n) rest (e n (omega arith)))
    ∙ sym (append_snoc (tabulate n l) (l n) (lines_of rest))
    ∙ ap (λ (lines : List (List ℕ)). lines ++ lines_of rest) (sym (tabulate_more n l))

module _ (n : ℕ) (l : ℕ → List ℕ) (e : (h : ℕ) → h < n → Free LF (l h)) where
  pub line_before : (rest : List ℕ) (h : ℕ) → h < n → line_no (stacked n l ++ rest) h ≡ l h
  unfolding line_no
  line_before rest h m =
      ap (λ (lines : List (List ℕ)). get_or lines h []) (lines_stacked n l rest e)
      ∙ get_or-append (tabulate n l) (lines_of rest) [] h (omega (arith, tabulate_length n l))
      ∙ tabulate_at n l h [] m

  pub reached_stacked : (rest : List ℕ) → Reached (stacked n l ++ rest) (length (stacked n l)) n
  reached_stacked rest =
      let lines = lines_stacked n l rest e in let long = tabulate_length n l in
      record {
        within = omega (arith, length-append (stacked n l) rest);
        few = stacked_long n l;
        inside = omega (arith, ap length lines, length-append (tabulate n l) (lines_of rest), long);
        lines = ap (drop n) lines ∙ drop_at (tabulate n l) (lines_of rest) n long ∙ sym (ap lines_of (drop-append_seam (stacked n l) rest));
        rest = omega (
          arith,
          ap bytes_of lines,
          bytes_append (tabulate n l) (lines_of rest),
          bytes_stacked n l,
          ap (λ (s : List ℕ). bytes_of (lines_of s)) (drop-append_seam (stacked n l) rest),
        );
        bytes = sym (ap bytes_of (ap (take n) lines ∙ take_at (tabulate n l) (lines_of rest) n long) ∙ bytes_stacked n l);
        text = take-append_seam (stacked n l) rest
            ∙ order_ext n (λ h. l h ++ line_end) (λ h. line_no (stacked n l ++ rest) h ++ line_end)
            (λ h m. ap (λ (s : List ℕ). s ++ line_end) (sym (line_before rest h m)));
      }

  -- ---- with nothing behind them
  pub stacked_lines : lines_of (stacked n l) ≡ tabulate n l
  unfolding lines_of parted
  stacked_lines = ap lines_of (sym (append-nil (stacked n l))) ∙ lines_stacked n l [] e ∙ append-nil (tabulate n l)

  pub stacked_count : lines_in (stacked n l) ≡ n
  stacked_count = ap length stacked_lines ∙ tabulate_length n l

  pub stacked_no : (h : ℕ) → h < n → line_no (stacked n l) h ≡ l h
  unfolding line_no
  stacked_no h m = ap (λ (lines : List (List ℕ)). get_or lines h []) stacked_lines ∙ tabulate_at n l h [] m

  pub stacked_bytes : bytes_of (lines_of (stacked n l)) ≡ length (stacked n l)
  stacked_bytes = ap bytes_of stacked_lines ∙ bytes_stacked n l
