use Rattle.slack_terms.proofs.Root.{tokens_keep_answers}
use Rattle.slack_terms.proofs.laws.tokens_keep_answers.Goals as goal

pub returns : goal.returns
returns c = tokens_keep_answers
