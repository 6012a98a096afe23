use Rattle.report_texts.proofs.Models.{models_are_told}
use Rattle.report_texts.proofs.laws.models_are_told.Goals as goal

pub returns : goal.returns
returns c = models_are_told
