-- Reports with few lines, and verdicts whose line is a small number.
use Rattle.std.specs.Prelude.{◌≤◌, ◌<◌, ◌^◌, length}
use Rattle.report_terms.specs.declared.report.Solved.{Solved}
use Rattle.report_terms.specs.declared.report.Body.{Body}
use Rattle.report_terms.specs.declared.report.Body.TheVariants.{Refused, Solved as SolvedBody}
use Rattle.cert_check.specs.Verdict.{item_count, trail_lines}
use Rattle.cert_check.specs.declared.report.Verdict.{Verdict}
use Rattle.cert_check.specs.declared.report.Verdict.TheVariants.{Yes, No}

-- fewer than 2 ^ 32 paths, items of the certificate, and tokens of the trail
pub record HasFewItems (s : Solved) : Type 0 where
  pub paths : length s.paths < 2 ^ 32
  pub items : item_count s.cert < 2 ^ 32
  pub trail : trail_lines s.trail ≤ 2 ^ 32

-- a body has few lines: it is a refusal, or what was found has few paths and items
abbrev pub HasFewLines : Body → Type 0
HasFewLines (Refused refusal) = Unit {0}
HasFewLines (SolvedBody s) = HasFewItems s

-- the line of a no counts from 1, and is below 2 ^ 36
abbrev pub IsSmall : Verdict → Type 0
IsSmall Yes = Unit {0}
IsSmall (No n) = (1 ≤ n) × (n < 2 ^ 36)
