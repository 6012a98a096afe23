use Rattle.slack_terms.proofs.Root.{refutations_refute}
use Rattle.slack_terms.proofs.laws.refutations_refute.Goals as goal

pub returns : goal.returns
returns c = refutations_refute
