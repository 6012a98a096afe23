-- the names of blocks
use Rattle.report_reading.proofs.BlockNames.{is_name-name_of}
use Rattle.report_reading.proofs.laws.names_of_blocks.Goals as goal

pub returns : goal.returns
returns c = is_name-name_of
