-- A refutation within the bounds raises the lower one.
use Rattle.std.proofs.Common.{subst, arith}
use Rattle.std.specs.Prelude.{IfSome}
use Rattle.flow_solver.specs.Searched.{IsRefutedAlone}
use Rattle.flow_solver.proofs.Halving.{between_raised}
use Rattle.flow_solver.proofs.least_error.raise_by.Goals as goal

pub returns-then-limit-halved-2-clause-between : goal.returns-then-limit-halved-2-clause-between
returns-then-limit-halved-2-clause-between c nodes i valid halving refuted =
    let h = c.args.halved in
    record {
      between = between_raised nodes c.args.k i h.paths h.lower h.upper c.in-Some-limit.limit h.cert c.in-Some.tree valid halving.between (omega (arith, c.if-limit-halved-2.true)) (subst (λ t. IfSome t (IsRefutedAlone nodes i)) c.in-Some.is refuted) (omega (arith, c.if-tree-k.true)) c.in-Some-limit.is;
      spent = tt;
    }
