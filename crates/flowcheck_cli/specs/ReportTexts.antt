-- The texts that a text of reports is cut into, the model that it names, and what is left of it.
pub use Rattle.report_texts.specs.ReportTexts.{ended_lines, end_line, before_first_text, texts_in, report_texts, line_count, models, mode_of_line, first_of, second_of, model_in}
use Rattle.std.specs.Prelude.{ℕ, List}

-- What is left of a text of reports: the number of its first line, and its bytes.
pub record Left : Type 0 where
  pub line : ℕ
  pub bytes : List ℕ
