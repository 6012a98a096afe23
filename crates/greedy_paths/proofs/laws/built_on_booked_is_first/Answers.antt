use Rattle.greedy_paths.proofs.Building.{built_on_booked_is_first}
use Rattle.greedy_paths.proofs.laws.built_on_booked_is_first.Goals as goal

pub returns : goal.returns
returns c = built_on_booked_is_first
