use Rattle.decomposition.proofs.FirstAnswers.{widest_first_is_first_answer}
use Rattle.decomposition.proofs.laws.widest_first_is_first_answer.Goals as goal

pub returns : goal.returns
returns c = widest_first_is_first_answer
