-- What a report counts for: its mark, and the number of its paths.
use Rattle.std.specs.Prelude.{ℕ, Bool, true, false, unwrap_or}
use Rattle.report_terms.specs.declared.report.Body.{Body}
use Rattle.report_terms.specs.declared.report.Body.TheVariants.{Refused, Solved as SolvedBody}
use Rattle.report_terms.specs.declared.report.Mark.{Mark}
use Rattle.report_terms.specs.declared.report.Mark.TheVariants.{Optimal, Infeasible, Bounds}

-- whether a mark says that no answer is better
abbrev pub is_best_mark : Mark → Bool
is_best_mark Optimal = true
is_best_mark Infeasible = false
is_best_mark Bounds = false

-- whether a body is of a graph whose paths are best
abbrev pub is_best : Body → Bool
is_best (Refused r) = false
is_best (SolvedBody s) = is_best_mark s.mark

-- the upper number of a body, which is the number of its paths in the exact model; 0 where there is none
abbrev pub paths_of : Body → ℕ
paths_of (Refused r) = 0
paths_of (SolvedBody s) = unwrap_or s.upper 0
