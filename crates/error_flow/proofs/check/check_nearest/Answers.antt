use Rattle.error_flow.proofs.Bounding.{certificates_prove}
use Rattle.error_flow.proofs.check.check_nearest.Goals as goal

pub returns-clause-nearest : goal.returns-clause-nearest
returns-clause-nearest c met = certificates_prove _ _ _ _ _ c.is_certificate.ensures.net (c.is_certificate.ensures.exact.0 met)
