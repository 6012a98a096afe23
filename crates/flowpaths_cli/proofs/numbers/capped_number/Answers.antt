use Rattle.std.proofs.Common.{◌+◌, arith}
use Rattle.graph_text.proofs.Weights.{number_of-more}
use Rattle.flowpaths_cli.proofs.WordNumbers.{too_great}
use Rattle.flowpaths_cli.proofs.numbers.capped_number.Goals as goal

pub returns-then-value-most : goal.returns-then-value-most
returns-then-value-most c =
    too_great c.args.digits.now c.args.most (c.loop-digit.digit-index + 1)
    (omega (arith, number_of-more c.args.digits.now c.loop-digit.digit-index c.loop-digit-test.true, c.loop-digit.invariant.0))
