-- A cut, or what the searches found from a first answer.
use Rattle.std.proofs.Common.{sym, subst}
use Rattle.decomposition.specs.declared.Mode.TheVariants.{Interval}
use Rattle.flow_models.specs.Problem.{instance}
use Rattle.flow_solver.specs.Firsts.{IsWithin}
use Rattle.flow_solver.specs.Right.{CountsPaths, SolvedRight}
use Rattle.flow_solver.specs.Searched.{IsSolvedBy}
use Rattle.flow_solver.proofs.Facts.{not_safe, solved_facts}
use Rattle.flow_solver.proofs.Solved.{right_by_cut}
use Rattle.flow_solver.proofs.Widths.{rising_edges}
use Rattle.flow_solver.proofs.interval.solve_interval.Goals as goal
use Rattle.flow_solver.proofs.interval.solve_interval.Goals.{In_ok-finding-in-First}

pub returns-in-Cut-clause-right : goal.returns-in-Cut-clause-right
returns-in-Cut-clause-right c =
    let i = instance c.args.net.now c.args.problem.now in
    let within = subst (IsWithin i) c.in-Cut.is c.in_ok-side.ensures in
    subst (SolvedRight c.args.asked i) (sym c.without_answer.ensures)
    (right_by_cut c.args.asked i c.in-Cut.side c.in-Cut.vertices c.requires.interval (not_safe c.args.asked Interval c.requires.ready c.requires.interval (λ e. let no' : ⊥ = cc in no')) c.requires.valid within.0)

-- what is known when the searches have ended
facts : (c : In_ok-finding-in-First) → IsSolvedBy c.args.asked.nodes Interval (instance c.args.net.now c.args.problem.now) c.in_ok-antichain-in-First.antichain c.in_ok-finding-in-First.finding
facts c =
    let i = instance c.args.net.now c.args.problem.now in
    let es = c.in_ok-antichain-in-First.antichain in
    let within = subst (IsWithin i) c.in-First.is c.in_ok-side.ensures in
    solved_facts c.args.asked.nodes Interval i es c.in-First.first c.in_ok-finding-in-First.finding tt c.requires.valid within.0 c.in_ok-antichain-in-First.ensures.width c.in_ok-antichain-in-First.ensures.antichain
    (rising_edges i.graph _ es c.in_ok-antichain-in-First.ensures.few c.in_ok-antichain-in-First.ensures.antichain c.in_ok-antichain-in-First.ensures.rising)
    c.in_ok-finding-in-First.ensures.finds c.in_ok-finding-in-First.ensures.fewer (λ ranges. within.1)

pub returns-in_ok-finding-in-First-clause-found : goal.returns-in_ok-finding-in-First-clause-found
returns-in_ok-finding-in-First-clause-found c =
    c.solved_by.ensures.found c.args.asked.nodes Interval (instance c.args.net.now c.args.problem.now) (facts (goal.at.returns-in_ok-finding-in-First-clause-found c).In_ok-finding-in-First) tt

pub returns-in_ok-finding-in-First-clause-right : goal.returns-in_ok-finding-in-First-clause-right
returns-in_ok-finding-in-First-clause-right c =
    let i = instance c.args.net.now c.args.problem.now in
    let set = c.args.asked in
    let unsafe = not_safe set Interval c.requires.ready c.requires.interval (λ e. let no' : ⊥ = cc in no') in
    c.solved_by.ensures.right set i (subst CountsPaths (sym c.requires.interval) tt) (sym unsafe, tt)
    (subst (λ m. IsSolvedBy set.nodes m i c.in_ok-antichain-in-First.antichain c.in_ok-finding-in-First.finding) (sym c.requires.interval) (facts (goal.at.returns-in_ok-finding-in-First-clause-right c).In_ok-finding-in-First))
