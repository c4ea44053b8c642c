-- Laws of the text of a report. Assumes nothing.
--   pair_within                                        where a line has two numbers there are totals for both
--   ending_pair, ending_one                            what stands behind its first number
--   head_most, ending_most, line_most, fourteen_most   how many bytes each takes at most, and the lines together
--   last_most, report_most                             the same of the last line, and of the report
--   no_totals, no_room, reported, nothing_wrote        what is printed, by the totals and the buffer; nothing
use mathlib.Core.Path.{◌≡◌, refl, sym}
use mathlib.Core.Bool.{Bool, true, false, cond}
use mathlib.Core.List.{List, [], ◌++◌}
use Prim.Native.Nat.{ℕ, ◌+◌, ◌-◌, ◌≤◌, ◌<◌}
use native.Mathlib.Omega.{arith}
use borrow.Author.Tests.{eq-eqb, ne_eqb, lt-ltb, le-ltb, eqb-true}
use lib.Dec.{eqb, ltb}
use lib.ListN.{length, get_or, length-append}
use Rattle.exact.proofs.Searching.{not_both}
use Rattle.text.specs.Decimal.{digits_of}
use Rattle.text.specs.Written.{count_field, line_end, in_order, Wrote}
use Rattle.text.proofs.Putting.{count_most, lines_most}
use Rattle.page.specs.Lines.{refused_line}
use Rattle.page.proofs.Composing.{refused_most}
use Rattle.totals.specs.Promise.{most_nets}
use Rattle.totals.specs.Text.{head_of, place_of, pair_on, ending_of, line_of, last_line, report_text, report_in}

-- ---- a line's numbers
module _ (line : ℕ) where
  pub pair_within : pair_on line ≡ true → place_of line + 1 < 16
  unfolding pair_on place_of
  pair_within e = by_line (eqb line 11) refl
    where
      by_sides : (b : Bool) → eqb line 11 ≡ false → eqb line 12 ≡ b → b ≡ true → cond (ltb line 12) line (cond (eqb line 12) 13 15) + 1 < 16
      by_sides true f t p = rw (le-ltb line 12 (omega (arith, eqb-true line 12 t)), t) (omega arith)
      by_sides false f t p = not_both (sym p)

      by_line : (b : Bool) → eqb line 11 ≡ b → cond (ltb line 12) line (cond (eqb line 12) 13 15) + 1 < 16
      by_line true t = rw (lt-ltb line 12 (omega (arith, eqb-true line 11 t))) (omega (arith, eqb-true line 11 t))
      by_line false t = by_sides (eqb line 12) t refl (rw t at e)

  module _ (totals : List ℕ) where
    pub ending_pair : pair_on line ≡ true → count_field (get_or totals (place_of line + 1) 0) ++ line_end ≡ ending_of totals line
    unfolding ending_of
    ending_pair e = rw e

    pub ending_one : pair_on line ≡ false → line_end ≡ ending_of totals line
    unfolding ending_of
    ending_one e = rw e

-- ---- lengths
either_most : (b : Bool) (x y : List ℕ) (most : ℕ) → length x ≤ most → length y ≤ most → length (cond b x y) ≤ most
either_most true x y most h k = h
either_most false x y most h k = k

pub head_most : (line : ℕ) → length (head_of line) ≤ 27
unfolding head_of
head_most line =
    either_most (eqb line 0) _ _ 27 (omega arith)
    (either_most (eqb line 1) _ _ 27 (omega arith)
    (either_most (eqb line 11) _ _ 27 (omega arith)
    (either_most (eqb line 12) _ _ 27 (omega arith)
    (either_most (ltb line 11) _ _ 27 (omega (arith, count_most (line - 1))) (omega arith)))))

module _ (totals : List ℕ) (line : ℕ) where
  pub ending_most : length (ending_of totals line) ≤ 22
  unfolding ending_of
  ending_most =
      let n = get_or totals (place_of line + 1) 0 in
      either_most (pair_on line) (count_field n ++ line_end) line_end 22 (omega (arith, count_most n, length-append (digits_of n) line_end)) (omega arith)

  pub line_most : length (line_of totals line) ≤ 72
  unfolding line_of
  line_most =
      let n = get_or totals (place_of line) 0 in
      omega (
        arith,
        head_most line,
        count_most n,
        ending_most,
        length-append (head_of line) (count_field n ++ ending_of totals line),
        length-append (digits_of n) (ending_of totals line),
      )

pub last_most : (past : Bool) → length (last_line past) ≤ 52
unfolding last_line
last_most past = either_most past (refused_line 30 (most_nets + 1)) [] 52 (refused_most 30 (most_nets + 1)) (omega arith)

pub fourteen_most : (totals : List ℕ) → length (in_order 14 (line_of totals)) ≤ 1008
fourteen_most totals = omega (arith, lines_most 14 72 (line_of totals) (line_most totals))

pub report_most : (totals : List ℕ) (past : Bool) → length (report_text totals past) ≤ 1060
unfolding report_text
report_most totals past = omega (arith, fourteen_most totals, last_most past, length-append (in_order 14 (line_of totals)) (last_line past))

-- ---- what is printed
module _ (room : ℕ) (totals : List ℕ) (past : Bool) where
  pub no_totals : (length totals ≡ 16 → ⊥) → [] ≡ report_in room totals past
  unfolding report_in
  no_totals e = rw (ne_eqb (length totals) 16 e)

  module _ (e : length totals ≡ 16) where
    pub no_room : room < 1060 → [] ≡ report_in room totals past
    unfolding report_in
    no_room l = rw (eq-eqb (length totals) 16 e, lt-ltb room 1060 l)

    pub reported : 1060 ≤ room → report_text totals past ≡ report_in room totals past
    unfolding report_in
    reported l = rw (eq-eqb (length totals) 16 e, le-ltb room 1060 l)

pub nothing_wrote : (a : List ℕ) (at : ℕ) → Wrote a at [] a at
nothing_wrote a at = record { buffer = refl; place = omega arith }
