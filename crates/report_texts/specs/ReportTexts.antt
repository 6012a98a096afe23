-- The texts that a text of reports is cut into, and the model that it names.
use Rattle.std.specs.Prelude.{ℕ, ◌==◌, List, [], ◌∷◌, ◌++◌, count_by, map, if◌then◌else◌, unwrap_or, codes, find}
use Rattle.std.specs.List.{range_with_len}
use Rattle.std.specs.Str.{bytes_eq}
use Rattle.decomposition.specs.declared.Mode.{Mode}
use Rattle.decomposition.specs.declared.Mode.TheVariants.{Exact, Interval, Abs}
use Rattle.graph_text.specs.Lines.{onto_first}
use Rattle.report_reading.specs.ReportText.{line, model_line}

-- the lines of a text, each with the line feed at its end; the last one may end with the text
abbrev pub ended_lines : List ℕ → List (List ℕ)
ended_lines [] = []
ended_lines (b ∷ bytes) = let rest = ended_lines bytes in if b == 10 then (b ∷ []) ∷ rest else onto_first b rest

-- the line that ends a text
abbrev pub end_line : List ℕ
end_line = line (codes "end" ∷ [])

-- a line goes before the first of the texts
abbrev pub before_first_text : List ℕ → List (List ℕ) → List (List ℕ)
before_first_text l [] = l ∷ []
before_first_text l (text ∷ texts) = (l ++ text) ∷ texts

-- the texts of these lines: each ends with a line `end`, and what stands after the last such line is one more
abbrev pub texts_in : List (List ℕ) → List (List ℕ)
texts_in [] = []
texts_in (l ∷ lines) = let rest = texts_in lines in if bytes_eq l end_line then l ∷ rest else before_first_text l rest

-- the texts of a text of reports
abbrev pub report_texts : List ℕ → List (List ℕ)
report_texts reports = texts_in (ended_lines reports)

-- how many lines of a text have a line feed
abbrev pub line_count : List ℕ → ℕ
line_count text = count_by (λ b. b == 10) text

-- the models
abbrev pub models : List Mode
models = Exact ∷ Interval ∷ map (λ k. Abs k) (range_with_len 0 65)

-- the model whose line this is, and else the exact one
abbrev pub mode_of_line : List ℕ → Mode
mode_of_line l = unwrap_or (find (λ mode. bytes_eq l (model_line mode)) models) Exact

-- the first of some lists of bytes, and the second; empty where there is none
abbrev pub first_of : List (List ℕ) → List ℕ
first_of [] = []
first_of (l ∷ lines) = l

abbrev pub second_of : List (List ℕ) → List ℕ
second_of [] = []
second_of (l ∷ lines) = first_of lines

-- the model of line 2 of the first text, where that is the line of a model, and else the exact one
unfoldable pub model_in : List ℕ → Mode
model_in reports = mode_of_line (second_of (ended_lines (first_of (report_texts reports))))
