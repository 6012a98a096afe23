-- An edge at which no crowd is taken carries what is taken.
use Rattle.std.proofs.Common.{sym, subst, ◌∙◌, arith, below_more}
use Rattle.std.proofs.lemmas.Bool.{false≢true}
use Rattle.decomposition.specs.Certificates.{IsCrowd}
use Rattle.flow_models.specs.Problem.{instance}
use Rattle.flow_solver.specs.Crowds.{CarriesTaken}
use Rattle.flow_solver.proofs.TakenApart.{carries-taken}
use Rattle.flow_solver.proofs.crowds.find_crowd.Goals as goal

pub loop-edge-preserved : goal.loop-edge-preserved
loop-edge-preserved c =
    let i = instance c.args.net.now c.args.problem.now in
    let e = c.loop-edge.edge in
    below_more (CarriesTaken i) e c.loop-edge.invariant
    (carries-taken i e c.in_ok-rules.rules (omega (arith, c.edges-edge-end.ensures.edges)) c.in_ok-rules.ensures.taken
    (λ crowd. false≢true (sym c.if-check_crowd.false ∙ c.check_crowd.ensures.exact.1 (subst (IsCrowd i e) (sym c.as_slice.ensures) crowd))))
