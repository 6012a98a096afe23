-- Fields and lines that the texts of several programs have.
use Rattle.std.specs.Prelude.{ℕ, List, [], ◌∷◌, codes, decimal}
use Rattle.report_reading.specs.ReportText.{line, why_word}
use Rattle.report_terms.specs.declared.refusal.Refusal.{Refusal}

-- a field with a space before it
abbrev pub spaced : List ℕ → List ℕ
spaced field = 32 ∷ field

-- the line of a refusal
abbrev pub refused_line : Refusal → List ℕ
refused_line r = line (codes "refused" ∷ decimal r.line ∷ why_word r.why ∷ [])
