use Rattle.flow_trials.proofs.Outputs.{outputs_are_answered_yes}
use Rattle.flow_trials.proofs.answered.outputs_are_answered_yes.Goals as goal

pub returns : goal.returns
returns c = outputs_are_answered_yes
