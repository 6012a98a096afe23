use Rattle.error_flow.proofs.Bounding.{nearest_bounds_errors}
use Rattle.error_flow.proofs.laws.nearest_bounds_errors.Goals as goal

pub returns : goal.returns
returns c = nearest_bounds_errors
