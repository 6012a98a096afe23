-- Each finding is right in its own way.
use Rattle.std.proofs.Common.{ℕ, List, Some, None, length, sym, subst, arith}
use Rattle.report_terms.specs.NetFacts.{IsFoundIn}
use Rattle.report_terms.specs.declared.report.Mark.TheVariants.{Bounds}
use Rattle.flow_solver.specs.Right.{SolvedRight}
use Rattle.flow_solver.specs.Searched.{IsSolvedBy}
use Rattle.flow_solver.proofs.CountedRight.{said}
use Rattle.flow_solver.proofs.Solved.{none_in, raised_small, right_by_crowd, right_by_never, right_by_open}
use Rattle.flow_solver.proofs.counted.solved_by.Goals as goal

pub returns-in-Known-clause-found : goal.returns-in-Known-clause-found
returns-in-Known-clause-found c nodes mode i by rising = c.known_by.ensures.found nodes mode i (subst (IsSolvedBy nodes mode i c.args.antichain) c.in-Known.is by) rising

pub returns-in-Crowded-clause-right : goal.returns-in-Crowded-clause-right
returns-in-Crowded-clause-right c s i counts listed by =
    subst (SolvedRight s i) (sym c.without_answer.ensures)
    (right_by_crowd s i c.args.antichain c.in-Crowded.edge c.in-Crowded.rules c.args.safe counts listed (subst (IsSolvedBy s.nodes s.mode i c.args.antichain) c.in-Crowded.is by))

pub returns-in-Never-clause-right : goal.returns-in-Never-clause-right
returns-in-Never-clause-right c s i counts listed by =
    subst (SolvedRight s i) (sym c.without_answer-in-Never.ensures)
    (right_by_never s i c.args.antichain c.in-Never.tree c.args.safe counts listed (subst (IsSolvedBy s.nodes s.mode i c.args.antichain) c.in-Never.is by))

pub returns-in-Open-clause-right : goal.returns-in-Open-clause-right
returns-in-Open-clause-right c s i counts listed by =
    let by' = subst (IsSolvedBy s.nodes s.mode i c.args.antichain) c.in-Open.is by in
    subst (λ (ps : List (List ℕ × ℕ)). SolvedRight s i (said Bounds (Some c.bound_by-bound.result.lower) None ps c.bound_by-bound.result.cert (Some c.in-Open.trail) c.args.safe)) (sym c.new.ensures)
    (right_by_open s i c.args.antichain c.bound_by-bound.result.lower c.bound_by-bound.result.cert c.in-Open.trail c.in-Open.raised c.args.safe counts listed by' c.bound_by-bound.ensures.lower (c.bound_by-bound.ensures.shows s.nodes i by.wide by.antichain by'.finds.2) c.bound_by-bound.ensures.other)

pub returns-in-Open-clause-found : goal.returns-in-Open-clause-found
returns-in-Open-clause-found c nodes mode i by rising =
    let by' = subst (IsSolvedBy nodes mode i c.args.antichain) c.in-Open.is by in
    subst (λ (ps : List (List ℕ × ℕ)). IsFoundIn i.graph (said Bounds (Some c.bound_by-bound.result.lower) None ps c.bound_by-bound.result.cert (Some c.in-Open.trail) c.args.safe)) (sym c.new.ensures)
    (none_in i.graph Bounds (Some c.bound_by-bound.result.lower) c.bound_by-bound.result.cert (Some c.in-Open.trail) c.args.safe rising (omega arith) (c.bound_by-bound.ensures.rising i.graph by.rising (raised_small nodes i (length c.args.antichain) c.in-Open.raised by'.finds.2)) by'.finds.0.small)
