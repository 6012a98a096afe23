use Rattle.std.proofs.Common.{◌≡◌, ◌++◌, ◌-◌, drop}
use Rattle.std.specs.Option.{option_map}
use Rattle.report_reading.specs.LineFields.{texts, edges_in}
use Rattle.report_reading.proofs.names.edges_in.Given as goal

abbrev pub invariant-loop-i : goal.invariant-loop-i
invariant-loop-i l =
    edges_in l.labels (texts l.names) ≡ option_map (λ rest. l.edges ++ rest) (edges_in l.labels (drop (l.i - 1) (texts l.names)))
