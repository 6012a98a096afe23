use Rattle.report_texts.proofs.Cutting.{texts_are_cut_back}
use Rattle.report_texts.proofs.laws.texts_are_cut_back.Goals as goal

pub returns : goal.returns
returns c = texts_are_cut_back
