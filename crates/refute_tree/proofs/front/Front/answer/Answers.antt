use Rattle.std.proofs.Common.{◌<◌, ◌≤◌, subst, List, length, ap, sym, ◌∙◌, arith}
use Rattle.decomposition.specs.Graph.{edge_count}
use Rattle.decomposition.specs.Boxes.{Slot}
use Rattle.decomposition.specs.Held.{box_paths}
use Rattle.refute_tree.specs.Front.{Boxes, AreLeft, IsOpenAnswer}
use Rattle.refute_tree.proofs.Fronts.{has-first, first-is, open-answer, open-empty}
use Rattle.refute_tree.proofs.Applied.{settles_open}
use Rattle.refute_tree.proofs.front.Front.answer.Goals as goal
use Rattle.refute_tree.proofs.front.Front.answer.Goals.{After-self}

pub returns-clause-found : goal.returns-clause-found
returns-clause-found c =
    let a = c.self.inside in
    let f = c.args.self.now in
    let first = c.is_open.ensures.open c.if-not-is_open.false in
    let edges : 0 < edge_count f.instance.graph = omega (arith, ap (λ (x : Boxes). edge_count x.instance.graph) c.self.view_is) in
    open-answer f c.in_ok-answer.answer first edges
    (c.in_ok-answer.ensures ∙ ap (λ (b : List Slot). box_paths b (length b)) (sym (first-is a f c.self.view_is (has-first a f c.self.view_is first.some))))

-- the boxes are those that legal tokens leave
left : (c : After-self) → AreLeft c.args.self.now
left c = subst AreLeft c.self.view_is c.self.invariant.left

pub returns-then-edges-eq0-clause-found : goal.returns-then-edges-eq0-clause-found
returns-then-edges-eq0-clause-found c =
    let f = c.args.self.now in
    let none : edge_count f.instance.graph ≤ 0 = omega (arith, ap (λ (x : Boxes). edge_count x.instance.graph) c.self.view_is) in
    subst (IsOpenAnswer f) (sym c.new.ensures) (open-empty f (c.is_open.ensures.open c.if-not-is_open.false) none)

pub returns-then-edges-eq0-clause-settles : goal.returns-then-edges-eq0-clause-settles
returns-then-edges-eq0-clause-settles c =
    settles_open c.args.self.now c.new.result (left (goal.at.returns-then-edges-eq0-clause-settles c).After-self) (returns-then-edges-eq0-clause-found c)

pub returns-clause-settles : goal.returns-clause-settles
returns-clause-settles c = settles_open c.args.self.now c.in_ok-answer.answer (left (goal.at.returns-clause-settles c).After-self) (returns-clause-found c)
