use Rattle.std.proofs.Common.{◌≡◌, ◌++◌, take}
use Rattle.std.specs.Prelude.{flat_map}
use Rattle.text_lines.proofs.LineFields.{spaced_now}
use Rattle.text_lines.proofs.lines.add_line.Given as goal

abbrev pub invariant-loop-field : goal.invariant-loop-field
invariant-loop-field l = l.text.items ≡ (l.fn.text.items ++ l.word) ++ flat_map spaced_now (take l.field-index l.fields)
