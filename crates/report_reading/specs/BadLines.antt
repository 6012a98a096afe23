-- The first bad line of a text that is no report.
use Rattle.std.specs.Prelude.{◌≡◌, ℕ, ◌+◌, ◌==◌, List, [], ◌∷◌, length, if◌then◌else◌, Option, Some, None, Result, Ok, Err, IsTrue}
use Rattle.std.specs.List.{slice_split}
use Rattle.decomposition.specs.declared.Mode.TheVariants.{Exact}
use Rattle.report_terms.specs.declared.refusal.Refusal.{Refusal}
use Rattle.graph_text.specs.Labels.{LabelLists}
use Rattle.report_terms.specs.declared.report.Mark.TheVariants.{Optimal}
use Rattle.report_terms.specs.declared.report.Cert.TheVariants.{Zero}
use Rattle.report_terms.specs.declared.report.Solved.{Solved}
use Rattle.report_terms.specs.declared.report.Body.{Body}
use Rattle.report_terms.specs.declared.report.Body.TheVariants.{Refused, Solved as SolvedBody}
use Rattle.report_terms.specs.declared.report.Report.{Report}
use Rattle.report_reading.specs.declared.draft.Draft.{Draft}
use Rattle.report_reading.specs.declared.draft.Place.{Place}
use Rattle.report_reading.specs.declared.draft.Place.TheVariants.{Graph, Model, Third, Lower, Upper, PathOrCert, Item, TrailHead, TrailToken, SafeOrEnd, Run, End, Nothing}
use Rattle.report_reading.specs.declared.read_fault.ReadWhy.{ReadWhy}
use Rattle.report_reading.specs.declared.read_fault.ReadWhy.TheVariants.{BadForm, NoEnd}
use Rattle.report_reading.specs.declared.read_fault.ReadFault.{ReadFault}
use Rattle.report_reading.specs.declared.read_fault.ReadFault.TheVariants.{Refused as RefusedText, Memory}
use Rattle.report_reading.specs.ReportText.{text_of, is_regular}
use Rattle.report_reading.specs.LineFields.{spaced_fields}
use Rattle.report_reading.specs.LineSteps.{graph_step, model_step, third_step, lower_step, upper_step, end_step}
use Rattle.report_reading.specs.ListSteps.{path_or_cert_step, item_step, trail_step, trail_token_step, safe_or_end_step, run_step}

-- what a line gives to a draft, by the place that it has in the text
abbrev pub step_at : LabelLists → Draft → List ℕ → Place → Result Draft ReadWhy
step_at labels d l Graph = graph_step d l
step_at labels d l Model = model_step d (spaced_fields l)
step_at labels d l Third = third_step d (spaced_fields l)
step_at labels d l Lower = lower_step d (spaced_fields l)
step_at labels d l Upper = upper_step d (spaced_fields l)
step_at labels d l PathOrCert = path_or_cert_step labels d (spaced_fields l)
step_at labels d l (Item n) = item_step labels d n (spaced_fields l)
step_at labels d l TrailHead = trail_step d (spaced_fields l)
step_at labels d l (TrailToken n) = trail_token_step d n (spaced_fields l)
step_at labels d l SafeOrEnd = safe_or_end_step d (spaced_fields l)
step_at labels d l (Run n) = run_step labels d n (spaced_fields l)
step_at labels d l End = end_step d (spaced_fields l)
step_at labels d l Nothing = Err BadForm

abbrev pub step : LabelLists → Draft → List ℕ → Result Draft ReadWhy
step labels d l = step_at labels d l d.place

-- the bytes behind the last whole line, which is to be `end`; line n would be the next one
abbrev pub at_last : Draft → List ℕ → ℕ → Place → Result Draft (ℕ × ReadWhy)
at_last d rest n Nothing = if length rest == 0 then Ok d else Err (n, BadForm)
at_last d rest n _ = Err (n, NoEnd)

-- the number of a line that is bad, and why it is
abbrev pub bad_at : ℕ → Result Draft ReadWhy → Option (ℕ × ReadWhy)
bad_at n (Ok d) = None
bad_at n (Err why) = Some (n, why)

-- a line that is bad has its number
abbrev pub numbered : ℕ → (Draft → Result Draft (ℕ × ReadWhy)) → Result Draft ReadWhy → Result Draft (ℕ × ReadWhy)
numbered n rest (Ok d) = rest d
numbered n rest (Err why) = Err (n, why)

-- the draft that lines lead to, or the first of them that is bad; the first has number n, and the last is not ended
abbrev pub read_from : LabelLists → List (List ℕ) → ℕ → Draft → Result Draft (ℕ × ReadWhy)
read_from labels [] n d = at_last d [] n d.place
read_from labels (rest ∷ []) n d = at_last d rest n d.place
read_from labels (l ∷ next ∷ lines) n d = numbered n (read_from labels (next ∷ lines) (n + 1)) (step labels d l)

-- the draft before the first line
abbrev pub nothing_found : Solved
nothing_found = record { mark = Optimal; lower = None; upper = None; paths = []; cert = Zero; trail = None; safe = None }

abbrev pub empty_draft : Draft
empty_draft = record { place = Graph; index = 0; name = []; mode = Exact; refusal = None; solved = nothing_found }

-- the lines of a text; the last of them is not ended, and is empty where the text ends with a line feed
abbrev pub text_lines : List ℕ → List (List ℕ)
text_lines text = slice_split (λ b. b == 10) text

abbrev pub bad_line : Result Draft (ℕ × ReadWhy) → Option (ℕ × ReadWhy)
bad_line (Ok d) = None
bad_line (Err bad) = Some bad

-- the first bad line of a text, counted from 1, and why it is bad; none where the text is that of a regular report
abbrev pub first_bad_line : LabelLists → List ℕ → Option (ℕ × ReadWhy)
first_bad_line labels text = bad_line (read_from labels (text_lines text) 1 empty_draft)

-- the report that was drafted
abbrev pub drafted_body : Option Refusal → Solved → Body
drafted_body None s = SolvedBody s
drafted_body (Some refusal) s = Refused refusal

abbrev pub drafted : Draft → Report
drafted d = record { index = d.index; name = d.name; mode = d.mode; body = drafted_body d.refusal d.solved }

-- the report is regular, and this is its text
pub record IsTextOf (labels : LabelLists) (report : Report) (text : List ℕ) : Type 0 where
  pub regular : IsTrue (is_regular labels report)
  pub text_is : text ≡ text_of labels report

-- the fault is that of the first bad line; want of memory says nothing
abbrev pub RefusesAs : Option (ℕ × ReadWhy) → ReadFault → Type 0
RefusesAs bad (RefusedText r) = bad ≡ Some (r.line, r.why)
RefusesAs bad Memory = Unit {0}
