use Rattle.std.proofs.Common.{◌≡◌, ◌+◌, ◌≤◌, length}
use Rattle.report_reading.specs.BadLines.{read_from, empty_draft, text_lines}
use Rattle.report_reading.proofs.reader.read_lines.Given as goal

abbrev pub invariant-loop-end : goal.invariant-loop-end
invariant-loop-end l =
    (read_from l.labels (text_lines l.fn.text) 1 empty_draft ≡ read_from l.labels (text_lines l.rest) l.number l.draft)
    × (l.number + length l.rest ≤ length l.fn.text + 1)

abbrev pub decreases-loop-end : goal.decreases-loop-end
decreases-loop-end l = length l.rest
