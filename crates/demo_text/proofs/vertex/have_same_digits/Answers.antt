-- numbers with the same digits
use Rattle.std.proofs.Common.{arith}
use Rattle.demo_text.proofs.Digits.{same_digits}
use Rattle.demo_text.proofs.vertex.have_same_digits.Goals as goal

pub returns : goal.returns
returns c = same_digits c.args.i c.args.j (omega (arith, c.ranges.i)) (omega (arith, c.ranges.j))
