-- `compare::opinion` meets its contract. Assumes nothing.
use mathlib.Core.Path.{◌≡◌, sym, ◌∙◌, subst₂}
use mathlib.Core.List.{List}
use Prim.Native.Nat.{ℕ, ◌+◌, ◌≤◌, ◌<◌}
use native.Mathlib.Omega.{arith}
use borrow.Author.Tests.{ltb-false}
use lib.IntN.{ℤ}
use lib.ListN.{length}
use Rattle.exact.specs.First.{first}
use Rattle.exact.proofs.Searching.{first_before}
use Rattle.doolittle.specs.Table.{Table, at}
use Rattle.doolittle.specs.Lent.{table_in}
use Rattle.doolittle.specs.Inner.{Small}
use Rattle.adjustment.proofs.Solving.{beyond, V_size}
use Rattle.sheet.specs.Form.{directions_in, conditions_in, own_k}
use Rattle.sheet.specs.Check.{correlate_too_large, direction_differs, condition_differs}
use Rattle.sheet.specs.Inner.{number_at, WellFormed, Corrected}
use Rattle.sheet.proofs.Comparing.{other_directions, other_conditions, correlates_are, sizes_are, size_line, v_line_lem, k_line_lem, no_line, no_at, corrected_by}
use Rattle.sheet.proofs.compare.opinion.Goals.{After-first_condition-condition, After-first_direction-direction, After-take_correlates-sized, Start, then-m-table-via-then-m-table, then-m-table-via-else-m-table+then-n-table}
use Rattle.sheet.proofs.compare.opinion.Goals as goal

abbrev table : Start → Table
table s = table_in s.args.table

abbrev direction : Start → ℕ → ℤ
direction s = at s.args.directions.now

pub returns-then-m-table : goal.returns-then-m-table
returns-then-m-table c = λ listing f.
    let s = (goal.at.returns-then-m-table c).Start in
    no_at (omega arith)
    (elim c.then-m-table.branch [
      | then-m-table-via-then-m-table w ↦ other_directions (table s) (direction s) listing (λ e. w.if-m-table.true (f.m_is ∙ e))
      | then-m-table-via-else-m-table+then-n-table w ↦ other_conditions (table s) (direction s) listing (λ e. w.if-n-table.true (f.n_is ∙ e))
    ])

-- ---- the counts are the net's, and the correlates have been taken
module _ (c : After-take_correlates-sized) where
  abbrev start : Start
  start = (goal.at.After-take_correlates-sized c).Start

  abbrev t : Table
  t = table start

  m_is : start.args.counts.m ≡ t.m
  m_is = c.if-m-table.false

  n_is : start.args.counts.n ≡ t.n
  n_is = c.if-n-table.false

  abbrev sized : ℕ
  sized = c.take_correlates-sized.result

  abbrev k : List ℤ
  k = c.take_correlates-sized.new.k

  module _ (listing : List ℕ) (f : WellFormed listing start.args.counts.m start.args.counts.n start.args.x.now) where
    directions_same : directions_in listing ≡ t.m
    directions_same = sym f.m_is ∙ m_is

    conditions_same : conditions_in listing ≡ t.n
    conditions_same = sym f.n_is ∙ n_is

    sizes : sized ≡ first t.n (correlate_too_large listing)
    sizes = sizes_are f t m_is n_is sized c.take_correlates-sized.ensures.value

    by_net : WellFormed listing t.m t.n start.args.x.now
    by_net = subst₂ (λ (m n : ℕ). WellFormed listing m n start.args.x.now) m_is n_is f

    k_is : t.n ≤ sized → (j : ℕ) → j < t.n → at k j ≡ own_k listing j
    k_is l j h = correlates_are f k (λ i g. c.take_correlates-sized.ensures.stored i (omega (arith, g, n_is, l))) j (omega (arith, h, n_is))

  k_small : t.n ≤ sized → Small 100000000 k t.n
  k_small l j h =
      rw (c.take_correlates-sized.ensures.stored j (omega (arith, h, l)))
      (ltb-false 100000000 _ (first_before start.args.counts.n (beyond 100000000 (λ i. number_at start.args.x.now (start.args.counts.m + i) 1)) j (omega (arith, h, l, c.take_correlates-sized.ensures.value))))

  k_long : length k ≡ 24
  k_long = c.take_correlates-sized.array_long

pub returns-then-sized-n : goal.returns-then-sized-n
returns-then-sized-n c = λ listing f.
    let b = (goal.at.returns-then-sized-n c).After-take_correlates-sized in
    no_at (omega arith) (rw (m_is b) (size_line (t b) (direction (start b)) listing (directions_same b listing f) (conditions_same b listing f) (sized b) (sizes b listing f) (omega (arith, c.if-sized-n.true, n_is b))))

pub first_direction-direction-requires : goal.first_direction-direction-requires
first_direction-direction-requires c =
    let b = (goal.at.first_direction-direction-requires c).After-take_correlates-sized in let p = (start b).requires in
    record {
      in_circle = p.in_circle;
      k_small = (omega (arith, k_long b, (start b).args.table.sound.n_most), k_small b (omega (arith, c.if-sized-n.false, n_is b)));
    }

-- ---- no correlate is too large, and the V lines have been compared
module _ (d : After-first_direction-direction) where
  abbrev taken : After-take_correlates-sized
  taken = (goal.at.After-first_direction-direction d).After-take_correlates-sized

  all_small : (t taken).n ≤ sized taken
  all_small = omega (arith, d.if-sized-n.false, n_is taken)

  abbrev v_first : ℕ
  v_first = d.first_direction-direction.result

  v_differs_at : (listing : List ℕ) → WellFormed listing (start taken).args.counts.m (start taken).args.counts.n (start taken).args.x.now
      → v_first ≡ first (t taken).m (direction_differs (t taken) (direction (start taken)) listing)
  v_differs_at listing f = d.first_direction-direction.ensures.line listing (by_net taken listing f) (k_is taken listing f all_small)

  abbrev v : List ℤ
  v = d.first_direction-direction.new.v

  abbrev u : List ℤ
  u = d.first_direction-direction.new.u

  v_long : length v ≡ 64
  v_long = d.first_direction-direction.array_long

  u_long : length u ≡ 64
  u_long = d.first_direction-direction.array_long2

  -- where they all agree
  module _ (l : (t taken).m ≤ v_first) where
    corrected : Corrected (t taken) (at (k taken)) v u
    corrected = d.first_direction-direction.ensures.corrected l

    v_small : Small 48000000000000 v (t taken).m
    v_small i h =
        let t = (start taken).args.table in
        rw (corrected.v_is i h) (V_size t.q.now t.a.now t.w.now t.sound (at (k taken)) (k_small taken all_small) i h)

    u_small : Small 60000 u (t taken).m
    u_small i h = rw (corrected.u_is i h) (corrected.u_most i h)

pub returns-then-direction-m : goal.returns-then-direction-m
returns-then-direction-m c = λ listing f.
    let d = (goal.at.returns-then-direction-m c).After-first_direction-direction in let b = taken d in
    no_at (omega arith) (omega (arith, v_line_lem (t b) (direction (start b)) listing (directions_same b listing f) (conditions_same b listing f) (sized b) (sizes b listing f) (all_small d) (v_first d) (v_differs_at d listing f) (omega (arith, c.if-direction-m.true, m_is b))))

pub first_condition-condition-requires : goal.first_condition-condition-requires
first_condition-condition-requires c =
    let d = (goal.at.first_condition-condition-requires c).After-first_direction-direction in let b = taken d in let sound = (start b).args.table.sound in
    let all : (t b).m ≤ v_first d = omega (arith, c.if-direction-m.false, m_is b) in record {
      v_small = (omega (arith, v_long d, sound.m_most), v_small d all);
      u_small = (omega (arith, u_long d, sound.m_most), u_small d all);
    }

-- ---- and the K lines
module _ (c : After-first_condition-condition) where
  abbrev compared : After-first_direction-direction
  compared = (goal.at.After-first_condition-condition c).After-first_direction-direction

  all_alike : (t (taken compared)).m ≤ v_first compared
  all_alike = omega (arith, c.if-direction-m.false, m_is (taken compared))

  abbrev k_first : ℕ
  k_first = c.first_condition-condition.result

  k_differs_at : (listing : List ℕ) → WellFormed listing (start (taken compared)).args.counts.m (start (taken compared)).args.counts.n (start (taken compared)).args.x.now
      → k_first ≡ first (t (taken compared)).n (condition_differs (t (taken compared)) listing)
  k_differs_at listing f =
      let b = taken compared in
      c.first_condition-condition.ensures listing (by_net b listing f)
      (corrected_by (t b) (at (k b)) (own_k listing) (v compared) (u compared) (k_is b listing f (all_small compared)) (corrected compared all_alike))

pub overflow_add-result-then-condition-n : goal.overflow_add-result-then-condition-n
overflow_add-result-then-condition-n c = let b = (goal.at.overflow_add-result-then-condition-n c).After-take_correlates-sized in omega (arith, m_is b, (start b).args.table.sound.m_most)

pub overflow_add-result-then-condition-n-2 : goal.overflow_add-result-then-condition-n-2
overflow_add-result-then-condition-n-2 c = let b = (goal.at.overflow_add-result-then-condition-n-2 c).After-take_correlates-sized in omega (arith, m_is b, (start b).args.table.sound.m_most, c.if-condition-n.true, n_is b, (start b).args.table.sound.n_most)

pub returns-then-condition-n : goal.returns-then-condition-n
returns-then-condition-n c = λ listing f.
    let e = (goal.at.returns-then-condition-n c).After-first_condition-condition in let d = compared e in let b = taken d in
    no_at (omega arith)
    (omega (arith, k_line_lem (t b) (direction (start b)) listing (directions_same b listing f) (conditions_same b listing f) (sized b) (sizes b listing f) (all_small d) (v_first d) (v_differs_at d listing f) (all_alike e) (k_first e) (k_differs_at e listing f) (omega (arith, c.if-condition-n.true, n_is b)), m_is b))

pub returns : goal.returns
returns c = λ listing f.
    let e = (goal.at.returns c).After-first_condition-condition in let d = compared e in let b = taken d in
    rw (no_line (t b) (direction (start b)) listing (directions_same b listing f) (conditions_same b listing f) (sized b) (sizes b listing f) (all_small d) (v_first d) (v_differs_at d listing f) (all_alike e) (k_first e) (k_differs_at e listing f) (omega (arith, c.if-condition-n.false, n_is b)))
