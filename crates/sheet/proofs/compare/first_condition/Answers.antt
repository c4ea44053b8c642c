-- `compare::first_condition` meets its contract. Assumes nothing.
use mathlib.Core.Path.{◌≡◌, refl, ◌∙◌, ap}
use mathlib.Core.List.{List, ◌++◌}
use Prim.Native.Nat.{ℕ, ◌≤◌}
use native.Mathlib.Omega.{arith}
use lib.IntN.{ℤ, pos}
use lib.ListN.{length, drop, length-append, get_or-append}
use lib.Seq.{length-take-le}
use Rattle.exact.proofs.Filling.{tabulate_at}
use Rattle.exact.proofs.Searching.{first_found}
use Rattle.doolittle.specs.Table.{Table, at}
use Rattle.doolittle.specs.Lent.{table_in}
use Rattle.adjustment.proofs.Solving.{closing_is, first_open, missed_is}
use Rattle.sheet.specs.Form.{own_k}
use Rattle.sheet.proofs.Comparing.{k_differs}
use Rattle.sheet.proofs.compare.first_condition.Goals.{After-print_remainders, After-remainders-close, Start}
use Rattle.sheet.proofs.compare.first_condition.Goals as goal

-- what has been formed of the table
module _ (c : After-print_remainders) where
  abbrev left : After-remainders-close
  left = (goal.at.After-print_remainders c).After-remainders-close

  abbrev start : Start
  start = (goal.at.After-print_remainders c).Start

  abbrev t : Table
  t = table_in start.args.table

  abbrev v : List ℤ
  v = start.args.v.now

  abbrev u : List ℤ
  u = start.args.u.now

  abbrev close : ℕ
  close = left.remainders-close.result

  abbrev r : List ℤ
  r = left.remainders-close.new.r

  abbrev misses : List ℤ
  misses = c.print_remainders.new.printed

  few : close ≤ t.n
  few = first_found _ left.remainders-close.ensures.value

  r_long : length r ≡ length start.args.r.now
  r_long = left.remainders-close.auto.r

  misses_long : length misses ≡ t.n
  misses_long = c.print_remainders.auto.printed ∙ length-take-le t.n start.args.misses.now (omega (arith, start.args.table.sound.n_most, start.told-misses))

  -- what stands behind them
  abbrev rest : List ℤ
  rest = drop t.n start.args.misses.now

pub first_unlike-requires : goal.first_unlike-requires
first_unlike-requires c =
    let p = (goal.at.first_unlike-requires c).After-print_remainders in let s = start p in let sound = s.args.table.sound in
    (omega (arith, few p, sound.m_most, sound.n_most), omega (arith, few p, r_long p, s.told-r, sound.n_most), omega (arith, few p, length-append (misses p) (rest p), misses_long p))

pub returns : goal.returns
returns c = λ listing f k.
    let p = (goal.at.returns c).After-print_remainders in
    k_differs f (t p) refl refl (r p) (misses p ++ rest p) (close p) c.first_unlike.result
    (first_open (t p) (own_k listing) (v p) k.v_is (close p) (left p).remainders-close.ensures.value) (few p)
    (λ j l. (left p).remainders-close.ensures.stored j l ∙ closing_is (t p) (own_k listing) (v p) k.v_is j)
    (λ j l. get_or-append (misses p) (rest p) (pos 0) j (omega (arith, l, few p, misses_long p)) ∙ ap (λ (xs : List ℤ). at xs j) p.print_remainders.ensures ∙ tabulate_at (t p).n _ j (pos 0) (omega (arith, l, few p)) ∙ missed_is (t p) (own_k listing) (u p) k.u_is j)
    c.first_unlike.ensures
