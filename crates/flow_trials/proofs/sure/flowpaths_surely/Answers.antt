use Rattle.flow_trials.proofs.Surely.{paths_surely, paths_may_ask, generated_surely}
use Rattle.flow_trials.proofs.sure.flowpaths_surely.Goals as goal

pub flowpaths-requires : goal.flowpaths-requires
flowpaths-requires c = paths_may_ask _ _ _ c.new-inputs.ensures c.requires

pub returns-clause-read : goal.returns-clause-read
returns-clause-read c =
    paths_surely _ c.flowpaths.result _ _ _ _ c.new-inputs.ensures c.flowpaths.ensures.words c.flowpaths.ensures.fault (λ early. early.0) c.flowpaths.ensures.reads

pub returns-clause-generated : goal.returns-clause-generated
returns-clause-generated c = generated_surely _ c.flowpaths.result _ c.flowpaths.ensures.generated
