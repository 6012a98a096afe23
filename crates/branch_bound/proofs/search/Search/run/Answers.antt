use Rattle.std.proofs.Common.{sym, subst}
use Rattle.branch_bound.specs.Kept.{Agree}
use Rattle.branch_bound.proofs.Ending.{HasEnded, state_of, ended}
use Rattle.branch_bound.proofs.search.Search.run.Goals as goal
use Rattle.branch_bound.proofs.search.Search.run.Goals.{In-Some}

-- the search has ended
has_ended : (c : In-Some) → HasEnded c.loop-self.self c.in-Some.outcome
has_ended c =
    let a = c.self.inside in
    subst (λ s. HasEnded s c.in-Some.outcome) c.self.view_is
    (subst (λ o. HasEnded (state_of a.front a.decision a.nodes a.tokens.items o) c.in-Some.outcome) (sym c.in-Some.is)
    (ended a.front a.decision a.nodes a.tokens.items c.in-Some.outcome (subst (Agree a.front a.decision a.nodes a.tokens.items) c.in-Some.is c.self.invariant.agree)))

pub returns-in-Some-clause-tokens : goal.returns-in-Some-clause-tokens
returns-in-Some-clause-tokens c =
    let ran = c.loop-self.invariant.goes_on in
    rw (← ran.instance, ← ran.decision, ← ran.nodes) (has_ended c).whole

pub returns-in-Some-clause-ends : goal.returns-in-Some-clause-ends
returns-in-Some-clause-ends c =
    let ran = c.loop-self.invariant.goes_on in
    rw (← ran.instance, ← ran.decision, ← ran.nodes) (has_ended c).ends
