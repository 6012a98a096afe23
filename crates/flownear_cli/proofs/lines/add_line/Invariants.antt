use Rattle.std.proofs.Common.{◌≡◌, ◌++◌, take}
use Rattle.std.specs.Prelude.{flat_map}
use Rattle.flownear_cli.proofs.LineFields.{spaced}
use Rattle.flownear_cli.proofs.lines.add_line.Given as goal

abbrev pub invariant-loop-field : goal.invariant-loop-field
invariant-loop-field l = l.text.items ≡ (l.fn.text.items ++ l.word) ++ flat_map spaced (take l.field-index l.fields)
