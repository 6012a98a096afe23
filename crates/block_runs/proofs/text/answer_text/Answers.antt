use Rattle.std.proofs.Common.{◌≡◌, [], Err, sym, subst}
use Rattle.std.specs.Prelude.{IfOk}
use Rattle.std.proofs.lemmas.Result.{IfOk-weaker, err_from_is_err_and}
use Rattle.flow_io.proofs.Causes.{Rose-before}
use Rattle.graph_text.specs.Blocks.{blocks}
use Rattle.graph_text.specs.Reader.{IsNew}
use Rattle.program_runs.specs.Inputs.{IsDone}
use Rattle.block_runs.specs.declared.stop.Stop.TheVariants.{Memory as OutOfMemory, Fault as Failed}
use Rattle.block_runs.specs.Answering.{IsRightAndMayBeCut}
use Rattle.block_runs.specs.Texts.{Wrote}
use Rattle.block_runs.specs.Underway.{EndsText, status_at}
use Rattle.block_runs.proofs.Endings.{text-stop, text-end, ended-fault}
use Rattle.block_runs.proofs.FewBlocks.{may-text, may-nothing}
use Rattle.block_runs.proofs.Underways.{underway-nothing}
use Rattle.block_runs.proofs.text.answer_text.Goals as goal

pub take_piece-requires : goal.take_piece-requires
take_piece-requires g c =
    let under = underway-nothing (g.W.Worker.model c.args.worker.now) (g.W.Worker.comes c.args.worker.now c.args.worker.now) c.in_ok-reader.reader (g.O.Output.written c.args.out.now)
    (subst (λ m. IsNew m c.in_ok-reader.reader) c.mode.ensures c.in_ok-reader.ensures) c.requires.begun in
    record { underway = (c.args.worker.now, [], g.O.Output.written c.args.out.now, may-text c.args.text.now c.requires.short c.requires.few, under) }

pub returns-in_err-take_piece-clause-right : goal.returns-in_err-take_piece-clause-right
returns-in_err-take_piece-clause-right g c =
    let p = err_from_is_err_and c.from_residual-in_err-take_piece.result c.from_residual-in_err-take_piece.ensures.1 in
    let under = underway-nothing (g.W.Worker.model c.args.worker.now) (g.W.Worker.comes c.args.worker.now c.args.worker.now) c.in_ok-reader.reader (g.O.Output.written c.args.out.now)
    (subst (λ m. IsNew m c.in_ok-reader.reader) c.mode.ensures c.in_ok-reader.ensures) c.requires.begun in
    subst (λ r. EndsText (IsRightAndMayBeCut g.W.Worker.may_be_cut g.W.Worker.is_right c.args.worker.now) (g.W.Worker.is_right c.args.worker.now) (g.W.Worker.is_whole c.args.worker.now) c.args.text.now (status_at r)
    (g.O.Output.written c.args.out.now) (g.O.Output.written c.take_piece.new.out)) (sym p.1)
    (text-stop (IsRightAndMayBeCut g.W.Worker.may_be_cut g.W.Worker.is_right c.args.worker.now) (g.W.Worker.is_right c.args.worker.now) (g.W.Worker.is_whole c.args.worker.now) p.0 c.args.text.now _ _
    (λ is. let stopped : c.take_piece.result ≡ Err OutOfMemory = cc (p.1, p.2, is, c.in_err-take_piece.was) in c.take_piece.ensures.memory stopped c.args.worker.now [] _ under)
    (λ is. let stopped : c.take_piece.result ≡ Err Failed = cc (p.1, p.2, is, c.in_err-take_piece.was) in c.take_piece.ensures.cut stopped c.args.worker.now [] _ under))

pub returns-in_err-take_piece-clause-fault : goal.returns-in_err-take_piece-clause-fault
returns-in_err-take_piece-clause-fault g c faulty =
    let p = err_from_is_err_and c.from_residual-in_err-take_piece.result c.from_residual-in_err-take_piece.ensures.1 in
    let is = ended-fault c.from_residual-in_err-take_piece.result (subst (λ r. IfOk r IsDone) (sym p.1) tt) faulty in
    let stopped : c.take_piece.result ≡ Err Failed = cc (p.1, p.2, is, c.in_err-take_piece.was) in
    c.take_piece.ensures.fault stopped

pub end_run-requires : goal.end_run-requires
end_run-requires g c =
    let under = underway-nothing (g.W.Worker.model c.args.worker.now) (g.W.Worker.comes c.args.worker.now c.args.worker.now) c.in_ok-reader.reader (g.O.Output.written c.args.out.now)
    (subst (λ m. IsNew m c.in_ok-reader.reader) c.mode.ensures c.in_ok-reader.ensures) c.requires.begun in
    record {
      underway = (
        c.args.worker.now,
        c.args.text.now,
        g.O.Output.written c.args.out.now,
        may-nothing c.args.text.now (may-text c.args.text.now c.requires.short c.requires.few),
        c.in_ok-take_piece.ensures.done c.args.worker.now [] _ under,
      );
    }

pub returns-clause-right : goal.returns-clause-right
returns-clause-right g c =
    let under = underway-nothing (g.W.Worker.model c.args.worker.now) (g.W.Worker.comes c.args.worker.now c.args.worker.now) c.in_ok-reader.reader (g.O.Output.written c.args.out.now)
    (subst (λ m. IsNew m c.in_ok-reader.reader) c.mode.ensures c.in_ok-reader.ensures) c.requires.begun in
    let read = c.in_ok-take_piece.ensures.done c.args.worker.now [] (g.O.Output.written c.args.out.now) under in
    text-end (IsRightAndMayBeCut g.W.Worker.may_be_cut g.W.Worker.is_right c.args.worker.now) (g.W.Worker.is_right c.args.worker.now) (g.W.Worker.is_whole c.args.worker.now) c.end_run.result c.args.text.now _ _
    (IfOk-weaker c.end_run.result _ (λ status. IsDone status × Wrote (g.W.Worker.is_whole c.args.worker.now status (blocks c.args.text.now)) (g.O.Output.written c.args.out.now) (g.O.Output.written c.end_run.new.out))
    (λ status done. (done.0, done.1 c.args.worker.now c.args.text.now (g.O.Output.written c.args.out.now) read)) c.end_run.ensures.done)
    (λ is. c.end_run.ensures.memory is c.args.worker.now c.args.text.now _ read)
    (λ is. c.end_run.ensures.cut is c.args.worker.now c.args.text.now _ read)

pub returns-clause-fault : goal.returns-clause-fault
returns-clause-fault g c faulty =
    let stopped : c.end_run.result ≡ Err Failed = ended-fault c.end_run.result (IfOk-weaker c.end_run.result _ IsDone (λ status done. done.0) c.end_run.ensures.done) faulty in
    Rose-before _ _ _ c.in_ok-take_piece.ensures.later (c.end_run.ensures.fault stopped)
