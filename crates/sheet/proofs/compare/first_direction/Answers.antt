-- `compare::first_direction` meets its contract. Assumes nothing.
use mathlib.Core.Path.{◌≡◌, refl, ◌∙◌, ap}
use mathlib.Core.List.{List, ◌++◌}
use Prim.Native.Nat.{ℕ, ◌≤◌, ◌<◌}
use native.Mathlib.Omega.{arith}
use borrow.Author.Tests.{ltb-false}
use lib.IntN.{ℤ, pos, nat_abs}
use lib.ListN.{length, drop, length-append, get_or-append}
use lib.Seq.{length-take-le}
use Rattle.exact.specs.First.{first}
use Rattle.exact.proofs.Filling.{tabulate_at}
use Rattle.exact.proofs.Searching.{first_before, first_found}
use Rattle.doolittle.specs.Table.{Table, at}
use Rattle.doolittle.specs.Lent.{table_in}
use Rattle.adjustment.specs.Corrections.{V_of, u_of}
use Rattle.adjustment.specs.Inner.{rounding}
use Rattle.adjustment.proofs.Solving.{beyond, V_ext, rounding_is, first_past, turned_is, head_stored, head_first}
use Rattle.sheet.specs.Form.{own_k}
use Rattle.sheet.proofs.Comparing.{v_differs}
use Rattle.sheet.proofs.compare.first_direction.Goals.{After-adjust_directions, After-corrections, After-print_corrections-within, Start}
use Rattle.sheet.proofs.compare.first_direction.Goals as goal

pub corrections-requires : goal.corrections-requires
corrections-requires c = let p = c.requires in record {
  correlates = p.k_small;
  room = omega (arith, c.args.table.sound.m_most, c.told-v);
}

-- what has been formed of the table
module _ (c : After-print_corrections-within) where
  abbrev corrected : After-corrections
  corrected = (goal.at.After-print_corrections-within c).After-corrections

  abbrev start : Start
  start = (goal.at.After-print_corrections-within c).Start

  abbrev t : Table
  t = table_in start.args.table

  abbrev v : List ℤ
  v = corrected.corrections.new.v

  abbrev u : List ℤ
  u = c.print_corrections-within.new.u

  abbrev within : ℕ
  within = c.print_corrections-within.result

  v_room : t.m ≤ length v
  v_room = omega (arith, corrected.corrections.auto.v, start.args.table.sound.m_most, start.told-v)

  -- of the corrections of all directions, which stand at the head of their list
  value : within ≡ first t.m (beyond 60000 (rounding (at v)))
  value = c.print_corrections-within.ensures.value ∙ head_first t.m v v_room

  few : within ≤ t.m
  few = first_found _ value

  u_long : length u ≡ length start.args.u.now
  u_long = c.print_corrections-within.auto.u

  within_most : within ≤ 64
  within_most = omega (arith, few, start.args.table.sound.m_most)

  adjusted_room : within ≤ length start.args.adjusted.now
  adjusted_room = omega (arith, within_most, start.told-adjusted)

  -- of the correlates k of the list, and of any that agree with them
  module _ (k : ℕ → ℤ) (same : (j : ℕ) → j < t.n → at start.args.k.now j ≡ k j) where
    v_is : (i : ℕ) → i < t.m → at v i ≡ V_of t k i
    v_is i l = corrected.corrections.ensures i l ∙ V_ext t (at start.args.k.now) k same i

    past : within ≡ first t.m (beyond 60000 (u_of t k))
    past = first_past t k v v_is within value

    u_is : (i : ℕ) → i < within → at u i ≡ u_of t k i
    u_is i l = c.print_corrections-within.ensures.stored i l ∙ head_stored t.m v v_room i (omega (arith, few)) ∙ rounding_is t k v v_is i (omega (arith, few))

    u_most : (i : ℕ) → i < within → nat_abs (u_of t k i) ≤ 60000
    u_most i l = ltb-false 60000 (nat_abs (u_of t k i)) (first_before t.m (beyond 60000 (u_of t k)) i (omega (arith, past)))

  u_small : (i : ℕ) → i < within → nat_abs (at u i) ≤ 60000
  u_small i l = let k = at start.args.k.now in rw (u_is k (λ j h. refl) i l) (u_most k (λ j h. refl) i l)

pub slice_bounds-adjust_directions-end-2 : goal.slice_bounds-adjust_directions-end-2
slice_bounds-adjust_directions-end-2 c = within_most (goal.at.slice_bounds-adjust_directions-end-2 c).After-print_corrections-within

pub adjust_directions-requires : goal.adjust_directions-requires
adjust_directions-requires c =
    let p = (goal.at.adjust_directions-requires c).After-print_corrections-within in let s = start p in let e = length-take-le (within p) s.args.adjusted.now (adjusted_room p) in record {
      directions = (omega (arith, e, few p, s.requires.in_circle.0), λ i l. s.requires.in_circle.1 i (omega (arith, e, few p)));
      corrections = (omega (arith, e, few p, u_long p, s.args.table.sound.m_most, s.told-u), λ i l. u_small p i (omega (arith, e)));
    }

-- the adjusted directions, and what stands behind them
module _ (c : After-adjust_directions) where
  abbrev printed : After-print_corrections-within
  printed = (goal.at.After-adjust_directions c).After-print_corrections-within

  abbrev turned : List ℤ
  turned = c.adjust_directions.new.adjusted

  abbrev rest : List ℤ
  rest = drop (within printed) (start printed).args.adjusted.now

  turned_long : length turned ≡ within printed
  turned_long = c.adjust_directions.auto.adjusted ∙ length-take-le (within printed) (start printed).args.adjusted.now (adjusted_room printed)

  room : within printed ≤ length (turned ++ rest)
  room = omega (arith, length-append turned rest, turned_long)

pub first_unlike-requires : goal.first_unlike-requires
first_unlike-requires c =
    let a = (goal.at.first_unlike-requires c).After-adjust_directions in let p = printed a in let s = start p in
    (omega (arith, few p, s.args.table.sound.m_most), omega (arith, few p, u_long p, s.args.table.sound.m_most, s.told-u), room a)

pub returns : goal.returns
returns c =
    let a = (goal.at.returns c).After-adjust_directions in let p = printed a in let s = start p in let direction = at s.args.directions.now in record {
      line = (λ listing f same. v_differs f (t p) refl refl direction (u p) (turned a ++ rest a) (within p) c.first_unlike.result (past p (own_k listing) same) (few p)
          (u_is p (own_k listing) same)
          (λ i l. get_or-append (turned a) (rest a) (pos 0) i (omega (arith, l, turned_long a))
          ∙ ap (λ (xs : List ℤ). at xs i) a.adjust_directions.ensures
          ∙ tabulate_at _ _ i (pos 0) (omega (arith, l, length-take-le (within p) s.args.adjusted.now (adjusted_room p)))
          ∙ turned_is (t p) (own_k listing) direction (u p) i (u_is p (own_k listing) same i l))
          c.first_unlike.ensures);
      corrected = λ l. let all : (t p).m ≤ within p = omega (arith, l, first_found _ c.first_unlike.ensures) in let k = at s.args.k.now in
          record { v_is = v_is p k (λ j h. refl); u_is = λ i h. u_is p k (λ j h. refl) i (omega (arith, h, all)); u_most = λ i h. u_most p k (λ j h. refl) i (omega (arith, h, all)) };
    }
