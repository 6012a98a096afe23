use Rattle.report_texts.proofs.Cutting.{first_texts_are_cut_off}
use Rattle.report_texts.proofs.laws.first_texts_are_cut_off.Goals as goal

pub returns : goal.returns
returns c = first_texts_are_cut_off
