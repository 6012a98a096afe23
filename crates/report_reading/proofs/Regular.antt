-- The parts of what makes a report regular.
use Rattle.std.proofs.Common.{◌≡◌, true, nat_le, ◌&&◌}
use Rattle.std.specs.List.{list_all}
use Rattle.std.proofs.lemmas.Bool.{and_parts}
use Rattle.decomposition.specs.Answer.{comes_before, is_ordered}
use Rattle.graph_text.specs.Labels.{LabelLists}
use Rattle.report_terms.specs.declared.report.Solved.{Solved}
use Rattle.report_terms.specs.declared.report.Report.{Report}
use Rattle.report_terms.specs.NetFacts.{is_mode}
use Rattle.report_reading.specs.ReportText.{fits, fits_or_none, is_name, is_path_entry, is_cert, has_trail, are_runs_or_none, is_regular_solved, is_regular_body, is_regular}

-- what was found is regular: its bounds, its paths, their order, its certificate, its trail, and its safe runs
pub record SolvedParts (labels : LabelLists) (s : Solved) : Type 0 where
  pub lower : fits_or_none s.lower ≡ true
  pub upper : fits_or_none s.upper ≡ true
  pub paths : list_all (is_path_entry labels) s.paths ≡ true
  pub order : is_ordered comes_before s.paths ≡ true
  pub cert : is_cert labels s.cert ≡ true
  pub trail : has_trail s.mark s.trail ≡ true
  pub safe : are_runs_or_none labels s.safe ≡ true

pub solved-parts : (labels : LabelLists) (s : Solved) → is_regular_solved labels s ≡ true → SolvedParts labels s
solved-parts labels s regular =
    let trail = has_trail s.mark s.trail && are_runs_or_none labels s.safe in
    let cert = is_cert labels s.cert && trail in
    let order = is_ordered comes_before s.paths && cert in
    let paths = list_all (is_path_entry labels) s.paths && order in
    let a = and_parts (fits_or_none s.lower) (fits_or_none s.upper && paths) regular in
    let b = and_parts (fits_or_none s.upper) paths a.1 in
    let c = and_parts (list_all (is_path_entry labels) s.paths) order b.1 in
    let d = and_parts (is_ordered comes_before s.paths) cert c.1 in
    let e = and_parts (is_cert labels s.cert) trail d.1 in
    let f = and_parts (has_trail s.mark s.trail) (are_runs_or_none labels s.safe) e.1 in
    record { lower = a.0; upper = b.0; paths = c.0; order = d.0; cert = e.0; trail = f.0; safe = f.1 }

-- the body of a regular report is regular
pub body-part : (labels : LabelLists) (r : Report) → is_regular labels r ≡ true → is_regular_body labels r.body ≡ true
body-part labels r regular =
    let mode = is_mode r.mode && is_regular_body labels r.body in
    let a = and_parts (nat_le 1 r.index && fits r.index) (is_name r.name && mode) regular in
    let b = and_parts (is_name r.name) mode a.1 in
    (and_parts (is_mode r.mode) (is_regular_body labels r.body) b.1).1
