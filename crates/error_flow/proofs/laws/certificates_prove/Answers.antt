use Rattle.error_flow.proofs.Bounding.{certificates_prove}
use Rattle.error_flow.proofs.laws.certificates_prove.Goals as goal

pub returns : goal.returns
returns c = certificates_prove
