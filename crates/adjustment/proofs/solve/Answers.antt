-- `solve` meets its contract. Assumes nothing.
use Rattle.std.proofs.Common.{◌≡◌, refl, sym, ◌∙◌, ℕ, ◌+◌, ◌≤◌, ◌<◌, ℤ, nat_abs, List, length, ltb, arith, rules, Err}
use Rattle.exact.specs.First.{first}
use Rattle.exact.proofs.Searching.{first_found}
use Rattle.reply.specs.declared.Refusal.{Refusal}
use Rattle.reply.specs.declared.Refusal.TheVariants.{WeakRow, Correlate}
use Rattle.reply.specs.Reply.{Reply}
use Rattle.doolittle.specs.Table.{at}
use Rattle.doolittle.specs.Lent.{table_in}
use Rattle.doolittle.specs.Inner.{Reduced, Correlated, Triangle, Solves}
use Rattle.adjustment.specs.Inner.{rounding}
use Rattle.doolittle.proofs.Correlating.{triangle_within}
use Rattle.adjustment.proofs.Solving.{weak_refused, large_refused, head_stored, head_first}
use Rattle.adjustment.proofs.Finding.{accepted, refused, rows_right, k_small, v_small, open_found, past_found, all_found, solved}
use Rattle.adjustment.proofs.solve.Goals as goal
use Rattle.adjustment.proofs.solve.Goals.{After-correlates, After-corrections, After-print_corrections-within}

pub returns-in_err-map_err-clause-value : goal.returns-in_err-map_err-clause-value
returns-in_err-map_err-clause-value c =
    let e : ◌≡◌ {A = Reply} c.from_residual.result (Err c.in_err-map_err.field-0.0) = search rules in
    let h = refused (Reduced (table_in c.args.table) c.reduce.new.rows) _ c.map_err.ensures.cases c.in_err-map_err.was c.reduce.ensures in
    let known : ◌≡◌ {A = Refusal} c.in_err-map_err.field-0.0 (WeakRow (h.0 + 1)) = search rules in
    rw (e, known) (weak_refused _ _ (sym h.1.1) h.1.0)

pub correlates-requires-clause-rows : goal.correlates-requires-clause-rows
correlates-requires-clause-rows c = triangle_within _ _ (accepted (Reduced (table_in c.args.table) c.reduce.new.rows) c.map_err.ensures.variant c.in_ok-map_err.was c.reduce.ensures)

-- the triangle, once the rows are reduced
module _ (c : After-correlates) where
  triangle : Triangle (table_in c.args.table) c.reduce.new.rows
  triangle = accepted (Reduced (table_in c.args.table) c.reduce.new.rows) c.map_err.ensures.variant c.in_ok-map_err.was c.reduce.ensures

pub returns-in_err-map_err-2-clause-value : goal.returns-in_err-map_err-2-clause-value
returns-in_err-map_err-2-clause-value c =
    let f = triangle (goal.at.returns-in_err-map_err-2-clause-value c).After-correlates in
    let e : ◌≡◌ {A = Reply} c.from_residual-in_err-map_err-2.result (Err c.in_err-map_err-2.field-0.0) = search rules in
    let h = refused (Correlated (table_in c.args.table) c.correlates.new.k) _ c.map_err-2.ensures.cases c.in_err-map_err-2.was (c.correlates.ensures _ refl f) in
    let known : ◌≡◌ {A = Refusal} c.in_err-map_err-2.field-0.0 (Correlate h.0) = search rules in
    rw (e, known) (large_refused _ (rows_right c.args.table f) _ h.1.1.large h.1.1.within h.1.0)

pub corrections-requires-clause-correlates : goal.corrections-requires-clause-correlates
corrections-requires-clause-correlates c =
    let f = triangle (goal.at.corrections-requires-clause-correlates c).After-correlates in
    (omega (arith, c.correlates.auto.k), k_small c.args.table f (accepted (Correlated (table_in c.args.table) c.correlates.new.k) c.map_err-2.ensures.variant c.in_ok-map_err-2.was (c.correlates.ensures _ refl f)))

-- the triangle and its correlates, once both are there
module _ (c : After-corrections) where
  rows : Triangle (table_in c.args.table) c.reduce.new.rows
  rows = accepted (Reduced (table_in c.args.table) c.reduce.new.rows) c.map_err.ensures.variant c.in_ok-map_err.was c.reduce.ensures

  ks : Solves (table_in c.args.table) c.correlates.new.k 0
  ks = accepted (Correlated (table_in c.args.table) c.correlates.new.k) c.map_err-2.ensures.variant c.in_ok-map_err-2.was (c.correlates.ensures _ refl rows)

pub remainders-close-requires-clause-corrections : goal.remainders-close-requires-clause-corrections
remainders-close-requires-clause-corrections c =
    let p = (goal.at.remainders-close-requires-clause-corrections c).After-corrections in
    (omega (arith, c.corrections.auto.v), v_small c.args.table (rows p) (ks p) _ c.corrections.ensures)

pub returns-then-close-n-clause-value : goal.returns-then-close-n-clause-value
returns-then-close-n-clause-value c =
    let p = (goal.at.returns-then-close-n-clause-value c).After-corrections in
    open_found c.args.table (rows p) (ks p) _ c.corrections.ensures c.remainders-close.ensures.value c.if-close-n.true

-- the printed corrections are those of the whole list of corrections
module _ (c : After-print_corrections-within) where
  abbrev vs : List ℤ
  vs = c.corrections.new.v

  long : length c.args.table.q.now ≤ length vs
  long = omega (arith, c.corrections.auto.v, c.requires.by_direction.0)

  value : c.print_corrections-within.result ≡ first (length c.args.table.q.now) (λ i. ltb 60000 (nat_abs (rounding (at vs) i)))
  value = c.print_corrections-within.ensures.value ∙ head_first _ vs long

  stored : (i : ℕ) → i < c.print_corrections-within.result → at c.print_corrections-within.new.u i ≡ rounding (at vs) i
  stored i h = c.print_corrections-within.ensures.stored i h ∙ head_stored _ vs long i (omega (arith, h, value, first_found _ value))

pub returns-then-within-m-clause-value : goal.returns-then-within-m-clause-value
returns-then-within-m-clause-value c =
    let g = goal.at.returns-then-within-m-clause-value c in
    past_found c.args.table (rows g.After-corrections) (ks g.After-corrections) _ c.corrections.ensures c.remainders-close.ensures.value
    c.if-close-n.false (value g.After-print_corrections-within) c.if-within-m.true

pub returns-clause-value : goal.returns-clause-value
returns-clause-value c =
    let g = goal.at.returns-clause-value c in
    all_found c.args.table (rows g.After-corrections) (ks g.After-corrections) _ c.corrections.ensures c.remainders-close.ensures.value
    c.if-close-n.false (value g.After-print_corrections-within) c.if-within-m.false

pub returns-clause-solved : goal.returns-clause-solved
returns-clause-solved c = λ f.
    let g = goal.at.returns-clause-solved c in
    let p = g.After-print_corrections-within in
    solved c.args.table (rows g.After-corrections) (ks g.After-corrections) _ c.corrections.ensures c.remainders-close.ensures.value
    c.if-close-n.false (value p) c.if-within-m.false (stored p) c.remainders-close.ensures.stored
