use Rattle.std.proofs.Common.{◌≡◌, ◌<◌, ℕ, false}
use Rattle.std.specs.Str.{bytes_eq}
use Rattle.decomposition.specs.declared.Mode.TheVariants.{Abs}
use Rattle.report_reading.specs.ReportText.{model_line}
use Rattle.flowcheck_cli.proofs.model.mode_of_line.Given as goal

abbrev pub invariant-loop-k : goal.invariant-loop-k
invariant-loop-k l = (j : ℕ) → j < l.k → bytes_eq l.line (model_line (Abs j)) ≡ false
