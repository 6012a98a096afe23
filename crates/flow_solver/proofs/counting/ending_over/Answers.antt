-- A refutation of one path fewer than there are ends the searches.
use Rattle.std.proofs.Common.{◌<◌, arith, subst}
use Rattle.std.specs.Prelude.{IfSome}
use Rattle.report_terms.specs.declared.report.Trail.{Trail}
use Rattle.flow_solver.specs.Searched.{IsRaised, StopsAt, floor_of}
use Rattle.flow_solver.specs.declared.counting.Ending.TheVariants.{Width}
use Rattle.flow_solver.proofs.Floors.{refuted_below}
use Rattle.flow_solver.proofs.counting.ending_over.Goals as goal

pub returns-in-Width : goal.returns-in-Width
returns-in-Width c nodes i width count raised stops =
    let here = subst (λ r. IfSome r (λ (tree : Trail). IsRaised nodes i width tree × (tree.decision.slots < count))) c.in-Some.is raised in
    let ended = subst (λ r. StopsAt nodes i (floor_of width r) count Width) c.in-Some.is (subst (λ e. StopsAt nodes i (floor_of width c.args.raised) count e) c.in-Width.is stops) in
    (omega (arith, here.0.above, here.1), refuted_below nodes i width c.in-Some.tree count here.0 (omega (arith, here.1, ended)))
