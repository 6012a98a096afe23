use Rattle.std.proofs.Common.{◌≡◌, ◌≤◌, length, take}
use Rattle.std.specs.Prelude.{reverse}
use Rattle.graph_text.specs.Blocks.{after_blanks}
use Rattle.graph_text.proofs.fields.trimmed.Given as goal

abbrev pub invariant-loop-end : goal.invariant-loop-end
invariant-loop-end l = (l.end ≤ length l.rest) × (after_blanks (reverse (take l.end l.rest)) ≡ after_blanks (reverse l.rest))

abbrev pub decreases-loop-end : goal.decreases-loop-end
decreases-loop-end l = l.end
