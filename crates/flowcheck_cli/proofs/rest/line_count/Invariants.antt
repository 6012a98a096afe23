use Rattle.std.proofs.Common.{◌≡◌, ◌≤◌, ◌==◌, take}
use Rattle.std.specs.Prelude.{count_by}
use Rattle.flowcheck_cli.proofs.rest.line_count.Given as goal

abbrev pub invariant-loop-byte : goal.invariant-loop-byte
invariant-loop-byte l = (l.count ≡ count_by (λ b. b == 10) (take l.byte-index l.text)) × (l.count ≤ l.byte-index)
