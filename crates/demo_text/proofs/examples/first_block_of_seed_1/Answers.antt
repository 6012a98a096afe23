-- the text of a block, by computation
use Rattle.std.proofs.Common.{refl}
use Rattle.std.specs.Fmt.{digits}
use Rattle.demo_text.proofs.examples.first_block_of_seed_1.Goals as goal

pub returns : goal.returns
unfolding digits
returns c = refl
