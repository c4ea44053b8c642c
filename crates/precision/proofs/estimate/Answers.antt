-- `precision::estimate`: what the root asks of n and S, and both errors.
use Rattle.std.proofs.Common.{ap, length, arith}
use Rattle.std.specs.Prelude.{nat_abs}
use Rattle.std.proofs.lemmas.Grind.{common_steps}
use Rattle.doolittle.specs.Table.{at}
use Rattle.precision.specs.Errors.{mean_error, probable_error, errors_of}
use Rattle.precision.proofs.Admitting.{admitted}
use Rattle.precision.proofs.Squaring.{S_most}
use Rattle.precision.proofs.estimate.Goals as goal

pub root-e-requires : goal.root-e-requires
root-e-requires c =
    let a = c.args in let k = admitted a.u.now a.q.now a.n c.requires in
    (omega (arith, k.n_most), omega (arith, ap nat_abs c.sum.ensures, S_most (length a.u.now) (at a.q.now) (at a.u.now) k.m_most k.u_most, k.n_least))

pub returns : goal.returns
unfolding mean_error probable_error errors_of
returns c = grind (arith, common_steps)
