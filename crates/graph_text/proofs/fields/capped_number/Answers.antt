use Rattle.std.proofs.Common.{◌+◌, arith}
use Rattle.graph_text.proofs.Weights.{too_great, number_of-more}
use Rattle.graph_text.proofs.fields.capped_number.Goals as goal

pub returns-then-value-gt-MOST_WEIGHT : goal.returns-then-value-gt-MOST_WEIGHT
returns-then-value-gt-MOST_WEIGHT c =
    too_great c.args.digits.now (c.loop-digit.digit-index + 1)
    (omega (arith, number_of-more c.args.digits.now c.loop-digit.digit-index c.loop-digit-test.true, c.loop-digit.invariant.0))
