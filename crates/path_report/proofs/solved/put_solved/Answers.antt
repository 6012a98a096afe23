use Rattle.report_reading.proofs.Regular.{solved-parts}
use Rattle.path_report.proofs.Putting.{PutsText-before, PutsText-raised, PutsText-then}
use Rattle.path_report.proofs.solved.put_solved.Goals as goal

pub put_paths-requires : goal.put_paths-requires
put_paths-requires g c = (solved-parts c.args.labels.now c.args.solved.now c.requires).paths

pub put_cert-requires : goal.put_cert-requires
put_cert-requires g c = (solved-parts c.args.labels.now c.args.solved.now c.requires).cert

pub put_safe-requires : goal.put_safe-requires
put_safe-requires g c = (solved-parts c.args.labels.now c.args.solved.now c.requires).safe

pub returns-in_err-put_marks : goal.returns-in_err-put_marks
returns-in_err-put_marks g c =
    PutsText-raised c.from_residual.ensures.0
    (PutsText-before _ (PutsText-before _ (PutsText-before _ (PutsText-before _ c.in_err-put_marks.ensures))))

pub returns-in_err-put_paths : goal.returns-in_err-put_paths
returns-in_err-put_paths g c =
    PutsText-raised c.from_residual-in_err-put_paths.ensures.0
    (PutsText-before _ (PutsText-before _ (PutsText-before _ (PutsText-then c.in_ok-put_marks.ensures c.in_err-put_paths.ensures))))

pub returns-in_err-put_cert : goal.returns-in_err-put_cert
returns-in_err-put_cert g c =
    let paths = PutsText-then c.in_ok-put_marks.ensures c.in_ok-put_paths.ensures in
    PutsText-raised c.from_residual-in_err-put_cert.ensures.0
    (PutsText-before _ (PutsText-before _ (PutsText-then paths c.in_err-put_cert.ensures)))

pub returns-in_err-put_trail_if_any : goal.returns-in_err-put_trail_if_any
returns-in_err-put_trail_if_any g c =
    let paths = PutsText-then c.in_ok-put_marks.ensures c.in_ok-put_paths.ensures in
    let cert = PutsText-then paths c.in_ok-put_cert.ensures in
    PutsText-raised c.from_residual-in_err-put_trail_if_any.ensures.0
    (PutsText-before _ (PutsText-then cert c.in_err-put_trail_if_any.ensures))

pub returns : goal.returns
returns g c =
    let paths = PutsText-then c.in_ok-put_marks.ensures c.in_ok-put_paths.ensures in
    let cert = PutsText-then paths c.in_ok-put_cert.ensures in
    PutsText-then (PutsText-then cert c.in_ok-put_trail_if_any.ensures) c.put_safe.ensures
