-- The flow is the list of the lower bounds, which are the weights of the instance.
use Rattle.std.proofs.Common.{◌≤◌, ℕ, List, slice_index, sym, subst, ◌∙◌}
use Rattle.std.specs.Prelude.{All, IfSome}
use Rattle.decomposition.specs.declared.Mode.TheVariants.{Exact}
use Rattle.decomposition.specs.Flow.{IsBalanced}
use Rattle.decomposition.specs.SafeRuns.{AreMaximal, IsSafeFor}
use Rattle.flow_models.specs.Problem.{instance}
use Rattle.greedy_paths.proofs.OneList.{booked_paths_are_one_list}
use Rattle.flow_solver.specs.Right.{CountsPaths}
use Rattle.flow_solver.specs.Searched.{IsSolvedBy}
use Rattle.cert_check.proofs.Lows.{lows_balanced}
use Rattle.flow_solver.proofs.Beginnings.{exact_beginning_of}
use Rattle.flow_solver.proofs.Bounded.{lows_small}
use Rattle.flow_solver.proofs.Facts.{solved_facts}
use Rattle.flow_solver.proofs.SafeLists.{listed_rising, listed_safe}
use Rattle.flow_solver.proofs.Widths.{rising_edges}
use Rattle.flow_solver.proofs.exact.solve_exact.Goals as goal
use Rattle.flow_solver.proofs.exact.solve_exact.Goals.{After-solved_by}

pub safe_runs-requires-clause-small : goal.safe_runs-requires-clause-small
safe_runs-requires-clause-small c =
    subst (λ (ws : List ℕ). All (λ w. w ≤ 1000000000000) ws) (sym (c.deref.ensures.value ∙ c.in_ok-flow.ensures)) (lows_small Exact (instance c.args.net.now c.args.problem.now) c.requires.valid)

pub safe_runs-requires-clause-balanced : goal.safe_runs-requires-clause-balanced
safe_runs-requires-clause-balanced c =
    subst (λ (ws : List ℕ). IsBalanced c.args.net.now (slice_index ws)) (sym (c.deref.ensures.value ∙ c.in_ok-flow.ensures)) (lows_balanced (instance c.args.net.now c.args.problem.now) c.requires.valid)

pub first_answer-requires-clause-small : goal.first_answer-requires-clause-small
first_answer-requires-clause-small c =
    subst (λ (ws : List ℕ). All (λ w. w ≤ 1000000000000) ws) (sym (c.deref-2.ensures.value ∙ c.in_ok-flow.ensures)) (lows_small Exact (instance c.args.net.now c.args.problem.now) c.requires.valid)

pub first_answer-requires-clause-balanced : goal.first_answer-requires-clause-balanced
first_answer-requires-clause-balanced c =
    subst (λ (ws : List ℕ). IsBalanced c.args.net.now (slice_index ws)) (sym (c.deref-2.ensures.value ∙ c.in_ok-flow.ensures)) (lows_balanced (instance c.args.net.now c.args.problem.now) c.requires.valid)

pub find_fewest-requires-clause-known : goal.find_fewest-requires-clause-known
find_fewest-requires-clause-known c =
    let i = instance c.args.net.now c.args.problem.now in
    (exact_beginning_of booked_paths_are_one_list i c.deref-2.result.now c.in_ok-first.first (c.deref-2.ensures.value ∙ c.in_ok-flow.ensures) c.requires.valid c.in_ok-first.ensures).known

-- what is known when the searches have ended
facts : (c : After-solved_by) → IsSolvedBy c.args.asked.nodes Exact (instance c.args.net.now c.args.problem.now) c.in_ok-antichain.antichain c.in_ok-finding.finding
facts c =
    let i = instance c.args.net.now c.args.problem.now in
    let es = c.in_ok-antichain.antichain in
    solved_facts c.args.asked.nodes Exact i es c.in_ok-first.first c.in_ok-finding.finding tt c.requires.valid
    (exact_beginning_of booked_paths_are_one_list i c.deref-2.result.now c.in_ok-first.first (c.deref-2.ensures.value ∙ c.in_ok-flow.ensures) c.requires.valid c.in_ok-first.ensures)
    c.in_ok-antichain.ensures.width c.in_ok-antichain.ensures.antichain
    (rising_edges i.graph _ es c.in_ok-antichain.ensures.few c.in_ok-antichain.ensures.antichain c.in_ok-antichain.ensures.rising)
    c.in_ok-finding.ensures.finds c.in_ok-finding.ensures.fewer (λ ranges. absurd ranges)

pub returns-clause-found : goal.returns-clause-found
returns-clause-found c =
    c.solved_by.ensures.found c.args.asked.nodes Exact (instance c.args.net.now c.args.problem.now) (facts (goal.at.returns-clause-found c).After-solved_by)
    (listed_rising c.args.net.now (slice_index c.deref.result.now) c.in_ok-safe.safe c.in_ok-safe.ensures.maximal c.in_ok-safe.ensures.few)

pub returns-clause-right : goal.returns-clause-right
returns-clause-right c =
    let i = instance c.args.net.now c.args.problem.now in
    let set = c.args.asked in
    let maximal = subst (λ (ws : List ℕ). IfSome c.in_ok-safe.safe (AreMaximal (IsSafeFor i.graph (slice_index ws)))) (c.deref.ensures.value ∙ c.in_ok-flow.ensures) c.in_ok-safe.ensures.maximal in
    c.solved_by.ensures.right set i (subst CountsPaths (sym c.requires.exact) tt) (c.in_ok-safe.ensures.asked, listed_safe i c.in_ok-safe.safe c.requires.valid maximal)
    (subst (λ m. IsSolvedBy set.nodes m i c.in_ok-antichain.antichain c.in_ok-finding.finding) (sym c.requires.exact) (facts (goal.at.returns-clause-right c).After-solved_by))
