-- A text of reports has no more texts than bytes.
use Rattle.std.proofs.Common.{◌≤◌, ◌+◌, ◌==◌, ℕ, List, [], ◌∷◌, length, arith}
use Rattle.std.specs.Str.{bytes_eq}
use Rattle.std.proofs.lemmas.Bool.{cond_both}
use Rattle.graph_text.specs.Lines.{onto_first}
use Rattle.flowcheck_cli.specs.ReportTexts.{ended_lines, before_first_text, texts_in, end_line, report_texts}

-- a byte more makes at most one line more
onto_first-few : (b : ℕ) (lines : List (List ℕ)) → length (onto_first b lines) ≤ length lines + 1
onto_first-few b [] = omega arith
onto_first-few b (line ∷ lines) = omega arith

lines-few : (bytes : List ℕ) → length (ended_lines bytes) ≤ length bytes
lines-few [] = omega arith
lines-few (b ∷ bytes) =
    let rest = ended_lines bytes in
    let few = lines-few bytes in
    cond_both (b == 10) ((b ∷ []) ∷ rest) (onto_first b rest) (λ lines. length lines ≤ length (b ∷ bytes)) (λ feed. omega (arith, few)) (λ other. omega (arith, few, onto_first-few b rest))

before_first_text-few : (l : List ℕ) (texts : List (List ℕ)) → length (before_first_text l texts) ≤ length texts + 1
before_first_text-few l [] = omega arith
before_first_text-few l (text ∷ texts) = omega arith

texts_in-few : (lines : List (List ℕ)) → length (texts_in lines) ≤ length lines
texts_in-few [] = omega arith
texts_in-few (l ∷ lines) =
    let rest = texts_in lines in
    let few = texts_in-few lines in
    cond_both (bytes_eq l end_line) (l ∷ rest) (before_first_text l rest) (λ texts. length texts ≤ length (l ∷ lines)) (λ end. omega (arith, few)) (λ other. omega (arith, few, before_first_text-few l rest))

pub report_texts-few : (reports : List ℕ) → length (report_texts reports) ≤ length reports
report_texts-few reports = omega (arith, lines-few reports, texts_in-few (ended_lines reports))
