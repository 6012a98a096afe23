use Rattle.std.proofs.Common.{◌∙◌, arith, get_or, sym, subst, [], IsTrue}
use Rattle.std.proofs.lemmas.Bool.{and_parts}
use Rattle.decomposition.specs.Graph.{is_run}
use Rattle.decomposition.proofs.Root.{all-place}
use Rattle.report_reading.specs.Names.{graph_at}
use Rattle.report_reading.specs.ReportText.{path_line, is_path_entry}
use Rattle.path_report.proofs.Lines.{path_line-entry}
use Rattle.path_report.proofs.Putting.{PutsText-equal, PutsText-next, PutsText-raised, PutsText-stopped}
use Rattle.path_report.proofs.paths.put_paths.Goals as goal

pub put_path-requires : goal.put_path-requires
put_path-requires g c =
    let entry = all-place (is_path_entry c.args.labels.now) c.args.paths.now ([], 0) c.loop-k.k c.requires (omega arith) in
    subst (λ path. IsTrue (is_run (graph_at c.args.labels.now) path)) (sym (c.as_slice.ensures ∙ c.path.ensures)) (and_parts _ _ entry).0

pub returns-in_err-put_path : goal.returns-in_err-put_path
returns-in_err-put_path g c =
    let entry = get_or c.args.paths.now c.loop-k.k ([], 0) in
    let same = path_line-entry c.args.labels.now entry _ _ (c.as_slice.ensures ∙ c.path.ensures) c.weight.ensures.value in
    PutsText-raised c.from_residual.ensures.0
    (PutsText-stopped (path_line c.args.labels.now) c.args.paths.now c.loop-k.k ([], 0) (omega arith) c.loop-k.invariant
    (PutsText-equal same c.in_err-put_path.ensures))

pub loop-k-preserved : goal.loop-k-preserved
loop-k-preserved g c =
    let entry = get_or c.args.paths.now c.loop-k.k ([], 0) in
    let same = path_line-entry c.args.labels.now entry _ _ (c.as_slice.ensures ∙ c.path.ensures) c.weight.ensures.value in
    PutsText-next (path_line c.args.labels.now) c.args.paths.now c.loop-k.k ([], 0) (omega arith) c.loop-k.invariant
    (PutsText-equal same c.in_ok-put_path.ensures)
