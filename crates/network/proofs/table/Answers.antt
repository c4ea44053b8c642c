-- `network::table` meets its contract. Assumes nothing.
use mathlib.Core.Path.{refl, sym, ◌∙◌, ap, subst}
use native.Mathlib.Omega.{arith}
use lib.ListN.{length}
use lib.Seq.{length-take-le}
use Rattle.std.proofs.lemmas.Result.{err_from_is_err_and}
use Rattle.network.specs.Gathered.{Fit}
use Rattle.network.proofs.Bounding.{scan_bounds}
use Rattle.network.proofs.Leading.{file_led}
use Rattle.network.proofs.Tables.{directions_long, n_most, each_long, rows_most, table_refused, table_failed, table_formed}
use Rattle.network.proofs.table.Goals as goal

pub returns-in_err-scan : goal.returns-in_err-scan
returns-in_err-scan c =
    let p = err_from_is_err_and c.from_residual.result c.from_residual.ensures.1 in
    rw (p.1, p.2) (table_refused c.args.file.now _ (sym c.scan.ensures.answer ∙ c.in_err-scan.was))

pub read-read-requires : goal.read-read-requires
read-read-requires c =
    let accepted = sym c.scan.ensures.answer ∙ c.in_ok-scan.was in
    (omega (arith, (scan_bounds c.args.file.now accepted).m), file_led c.args.file.now accepted)

pub form_all-requires-clause-first_len_bound : goal.form_all-requires-clause-first_len_bound
form_all-requires-clause-first_len_bound c =
    let d = c.read-read.ensures.directions in let room = scan_bounds c.args.file.now (sym c.scan.ensures.answer ∙ c.in_ok-scan.was) in
    (omega (arith, room.n, ap length d.conditions), subst Fit (sym d.conditions) room.fit, d.opened)

pub returns-in_err-n : goal.returns-in_err-n
returns-in_err-n c =
    let p = err_from_is_err_and c.from_residual-in_err-n.result c.from_residual-in_err-n.ensures.1 in
    rw (p.1, p.2) (table_failed c.args.file.now (sym c.scan.ensures.answer ∙ c.in_ok-scan.was) c.read-read.ensures.directions c.form_all.ensures c.in_err-n.was)

pub overflow_mul-result : goal.overflow_mul-result
overflow_mul-result c =
    record {
      fits = omega (arith, rows_most c.args.file.now (sym c.scan.ensures.answer ∙ c.in_ok-scan.was) c.read-read.ensures.directions c.form_all.ensures c.in_ok-n.was);
    }

pub shared_ref_as_front-result-3 : goal.shared_ref_as_front-result-3
shared_ref_as_front-result-3 c =
    rows_most c.args.file.now (sym c.scan.ensures.answer ∙ c.in_ok-scan.was) c.read-read.ensures.directions c.form_all.ensures c.in_ok-n.was

pub shared_ref_as_front-result-4 : goal.shared_ref_as_front-result-4
shared_ref_as_front-result-4 c =
    n_most c.args.file.now (sym c.scan.ensures.answer ∙ c.in_ok-scan.was) c.read-read.ensures.directions c.form_all.ensures c.in_ok-n.was

pub shared_ref_as_front-result-5 : goal.shared_ref_as_front-result-5
shared_ref_as_front-result-5 c =
    n_most c.args.file.now (sym c.scan.ensures.answer ∙ c.in_ok-scan.was) c.read-read.ensures.directions c.form_all.ensures c.in_ok-n.was

pub invariant_of-result : goal.invariant_of-result
invariant_of-result c =
    let d = c.read-read.ensures.directions in let accepted = sym c.scan.ensures.answer ∙ c.in_ok-scan.was in
    let most = n_most c.args.file.now accepted d c.form_all.ensures c.in_ok-n.was in let long = each_long c.args.file.now accepted d c.form_all.ensures c.in_ok-n.was in
    let qs = length-take-le c.read-read.result.count c.read-read.new.q (omega (arith, d.q_long, d.most)) in
    record { few = (omega (arith, directions_long d, d.most), omega (arith, long.0, most)); paired = (qs ∙ sym (directions_long d), long.1 ∙ sym long.0) }

pub returns : goal.returns
returns c =
    table_formed c.args.file.now (sym c.scan.ensures.answer ∙ c.in_ok-scan.was) c.read-read.ensures.directions c.form_all.ensures c.in_ok-n.was
    _ refl refl refl refl refl
