use Rattle.std.proofs.Common.{◌≡◌, drop}
use Rattle.std.specs.List.{starts_with}
use Rattle.std.specs.Str.{bytes_eq}
use Rattle.report_reading.specs.LineFields.{texts}
use Rattle.report_reading.proofs.fields.begin_with.Given as goal

abbrev pub invariant-loop-i : goal.invariant-loop-i
invariant-loop-i l =
    starts_with bytes_eq (drop l.i (texts l.fields)) (drop l.i (texts l.words)) ≡ starts_with bytes_eq (texts l.fields) (texts l.words)
