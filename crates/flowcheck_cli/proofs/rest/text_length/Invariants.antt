use Rattle.std.proofs.Common.{◌≤◌, ◌-◌, length}
use Rattle.flowcheck_cli.proofs.TextCuts.{BeginsText}
use Rattle.flowcheck_cli.proofs.rest.text_length.Given as goal

abbrev pub invariant-loop-length : goal.invariant-loop-length
invariant-loop-length l = (l.length ≤ length l.bytes) × BeginsText l.bytes l.length

abbrev pub decreases-loop-length : goal.decreases-loop-length
decreases-loop-length l = length l.bytes - l.length
