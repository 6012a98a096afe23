use Rattle.std.proofs.Common.{◌∷◌, [], ◌∙◌, ap, ◌&&◌, length}
use Rattle.std.specs.Prelude.{codes, decimal}
use Rattle.std.specs.List.{list_all}
use Rattle.std.proofs.lemmas.Bool.{and_parts}
use Rattle.decomposition.specs.Graph.{is_run, is_list_before}
use Rattle.decomposition.specs.Answer.{is_ordered}
use Rattle.report_reading.specs.Names.{graph_at}
use Rattle.report_reading.specs.ReportText.{line, fits}
use Rattle.path_report.proofs.Putting.{PutsText-before, PutsText-equal, PutsText-raised, PutsText-then}
use Rattle.path_report.proofs.paths.put_runs.Goals as goal

pub put_each_run-requires : goal.put_each_run-requires
put_each_run-requires g c =
    let runs = c.args.runs.now in
    (and_parts (list_all (is_run (graph_at c.args.labels.now)) runs) (is_ordered is_list_before runs && fits (length runs)) c.requires).0

pub returns-in_err-line : goal.returns-in_err-line
returns-in_err-line g c =
    let digits = c.as_slice.ensures.digits ∙ c.of-count.ensures ∙ ap decimal c.len.ensures in
    let same = ap (λ n. line (codes "safe" ∷ n ∷ [])) digits in
    PutsText-raised c.from_residual.ensures.0 (PutsText-before _ (PutsText-equal same c.in_err-line.ensures))

pub returns : goal.returns
returns g c =
    let digits = c.as_slice.ensures.digits ∙ c.of-count.ensures ∙ ap decimal c.len.ensures in
    let same = ap (λ n. line (codes "safe" ∷ n ∷ [])) digits in
    PutsText-then (PutsText-equal same c.in_ok-line.ensures) c.put_each_run.ensures
