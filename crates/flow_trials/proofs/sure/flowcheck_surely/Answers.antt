use Rattle.flow_trials.proofs.Surely.{checks_surely, checks_may_ask}
use Rattle.flow_trials.proofs.sure.flowcheck_surely.Goals as goal

pub flowcheck-requires : goal.flowcheck-requires
flowcheck-requires c = checks_may_ask _ _ _ c.new-inputs.ensures c.requires

pub returns-clause-read : goal.returns-clause-read
returns-clause-read c = checks_surely _ c.flowcheck.result _ _ _ c.new-inputs.ensures c.flowcheck.ensures.words.0 c.flowcheck.ensures.fault c.flowcheck.ensures.reads
