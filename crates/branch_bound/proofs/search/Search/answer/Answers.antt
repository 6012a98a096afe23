use Rattle.std.proofs.Common.{◌≡◌, ◌∙◌, ap, subst, List, Some}
use Rattle.decomposition.specs.declared.Mode.{Mode}
use Rattle.decomposition.specs.Instance.{IsInstance}
use Rattle.decomposition.specs.Boxes.{Slot}
use Rattle.decomposition.specs.Held.{box_answer, Settles}
use Rattle.decomposition.specs.Searches.{EndsFound}
use Rattle.branch_bound.specs.Search.{SearchState}
use Rattle.branch_bound.specs.Kept.{Agree}
use Rattle.branch_bound.specs.declared.search.Outcome.TheVariants.{Found}
use Rattle.branch_bound.proofs.Answering.{not_closed, found_at, settles_all}
use Rattle.branch_bound.proofs.search.Search.answer.Goals as goal
use Rattle.branch_bound.proofs.search.Search.answer.Goals.{After-self}

-- the search has found an answer
agree : (c : After-self) → Agree c.self.inside.front c.self.inside.decision c.self.inside.nodes c.self.inside.tokens.items (Some Found)
agree c =
    let a = c.self.inside in
    subst (Agree a.front a.decision a.nodes a.tokens.items) (ap (λ (s : SearchState). s.outcome) c.self.view_is ∙ c.requires) c.self.invariant.agree

pub unreachable-requires : goal.unreachable-requires
unreachable-requires c =
    let a = c.self.inside in
    not_closed a.front a.decision a.nodes a.tokens.items (agree (goal.at.unreachable-requires c).After-self) (c.in_ok-answer.ensures.none c.in-None.is)

pub returns-clause-answer : goal.returns-clause-answer
returns-clause-answer c =
    let a = c.self.inside in
    subst (λ s. (b : List Slot) × EndsFound s.instance s.decision s.nodes b × (c.in-Some.answer ≡ box_answer s.instance b)) c.self.view_is
    (found_at a.front a.decision a.nodes a.tokens.items (agree (goal.at.returns-clause-answer c).After-self) c.in-Some.answer (rw c.in-Some.is at c.in_ok-answer.ensures.found))

pub returns-clause-settles : goal.returns-clause-settles
returns-clause-settles c =
    let a = c.self.inside in
    subst (λ s. (mode : Mode) → IsInstance mode s.instance → Settles s.instance s.decision c.in-Some.answer) c.self.view_is
    (settles_all a.front a.decision a.nodes a.tokens.items (agree (goal.at.returns-clause-settles c).After-self) c.in-Some.answer (rw c.in-Some.is at c.in_ok-answer.ensures.found))
