-- A rule that is taken is behind those before it; one that is not does not go through the edge, or is held back.
use Rattle.std.proofs.Common.{sym, subst, ◌∙◌}
use Rattle.std.proofs.lemmas.Bool.{false≢true}
use Rattle.decomposition.specs.Certificates.{AreRunsApart}
use Rattle.flow_models.specs.Problem.{instance}
use Rattle.flow_solver.specs.Crowds.{IsHeldBack}
use Rattle.flow_solver.proofs.TakenApart.{through-test, taken-pushed, taken-left}
use Rattle.flow_solver.proofs.crowds.take_apart.Goals as goal
use Rattle.flow_solver.proofs.crowds.take_apart.Goals.{else-contains-via-then-contains+else-goes_with_none, else-contains-via-else-contains}

pub returns-then-goes_with_none : goal.returns-then-goes_with_none
returns-then-goes_with_none c =
    let i = instance c.args.net.now c.args.problem.now in
    let tested = through-test i c.args.edge c.args.rule c.run.result.now c.contains.result c.contains.ensures.value c.run.ensures in
    taken-pushed c.push.result i c.args.rule c.args.edge c.args.apart.now c.push.new.self c.push.ensures.ok c.requires.taken
    (sym tested ∙ c.if-contains.true)
    (subst (AreRunsApart i c.args.rule) c.as_slice.ensures (c.goes_with_none.ensures.apart.0 c.if-goes_with_none.true))

pub returns : goal.returns
returns c =
    let i = instance c.args.net.now c.args.problem.now in
    let tested = through-test i c.args.edge c.args.rule c.run.result.now c.contains.result c.contains.ensures.value c.run.ensures in
    taken-left i c.args.rule c.args.edge c.args.apart.now c.requires.taken (λ goes. elim c.else-contains.branch [
      | else-contains-via-then-contains+else-goes_with_none w ↦
          subst (λ others. IsHeldBack i others c.args.rule) w.as_slice.ensures (w.goes_with_none.ensures.held_back w.if-goes_with_none.false)
      | else-contains-via-else-contains w ↦ absurd (false≢true (sym w.if-contains.false ∙ (tested ∙ goes)))
    ])
