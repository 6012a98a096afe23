use Rattle.std.proofs.Common.{append-nil}
use Rattle.report_reading.proofs.Regular.{body-part}
use Rattle.path_report.proofs.Putting.{PutsText-before, PutsText-equal, PutsText-then, adds_prefix, adds_text}
use Rattle.path_report.proofs.writer.write_report.Goals as goal

pub put_body-requires : goal.put_body-requires
put_body-requires g c = body-part c.args.labels.now c.args.report.now c.requires

pub returns-in_err-put_graph-clause-err : goal.returns-in_err-put_graph-clause-err
returns-in_err-put_graph-clause-err g c =
    adds_prefix c.from_residual.result c.new-page.ensures (PutsText-before _ (PutsText-before _ (PutsText-before _ c.in_err-put_graph.ensures)))

pub returns-in_err-put_model-clause-err : goal.returns-in_err-put_model-clause-err
returns-in_err-put_model-clause-err g c =
    adds_prefix c.from_residual-in_err-put_model.result c.new-page.ensures
    (PutsText-before _ (PutsText-before _ (PutsText-then c.in_ok-put_graph.ensures c.in_err-put_model.ensures)))

pub returns-in_err-put_body-clause-err : goal.returns-in_err-put_body-clause-err
returns-in_err-put_body-clause-err g c =
    let model = PutsText-then c.in_ok-put_graph.ensures c.in_ok-put_model.ensures in
    adds_prefix c.from_residual-in_err-put_body.result c.new-page.ensures (PutsText-before _ (PutsText-then model c.in_err-put_body.ensures))

pub returns-in_err-line-clause-err : goal.returns-in_err-line-clause-err
returns-in_err-line-clause-err g c =
    let model = PutsText-then c.in_ok-put_graph.ensures c.in_ok-put_model.ensures in
    adds_prefix c.from_residual-in_err-line.result c.new-page.ensures
    (PutsText-then (PutsText-then model c.in_ok-put_body.ensures) c.in_err-line.ensures)

pub returns : goal.returns
returns g c =
    let model = PutsText-then c.in_ok-put_graph.ensures c.in_ok-put_model.ensures in
    let lines = PutsText-then (PutsText-then model c.in_ok-put_body.ensures) c.in_ok-line.ensures in
    let all = PutsText-equal (append-nil _) (PutsText-then lines c.flush.ensures.text) in
    record {
      ok = adds_text c.flush.result c.new-page.ensures all c.flush.ensures.empty;
      err = adds_prefix c.flush.result c.new-page.ensures all;
      cause = all.cause;
    }
