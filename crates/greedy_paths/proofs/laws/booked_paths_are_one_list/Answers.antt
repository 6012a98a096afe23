use Rattle.greedy_paths.proofs.OneList.{booked_paths_are_one_list}
use Rattle.greedy_paths.proofs.laws.booked_paths_are_one_list.Goals as goal

pub returns : goal.returns
returns c = booked_paths_are_one_list
