use Rattle.std.proofs.Common.{◌≡◌, ◌<◌, ◌+◌, ◌++◌, [], Err, length, take, refl, sym, ap, subst, ◌∙◌, arith, inr, append-nil, length-append, length-take}
use Rattle.std.proofs.lemmas.List.{length-take-le}
use Rattle.std.proofs.lemmas.Result.{IfOk-weaker}
use Rattle.flow_io.specs.Outside.{Took, Rose}
use Rattle.flow_io.proofs.Reading.{Took-nothing, Took-more}
use Rattle.flow_io.proofs.Causes.{Rose-before}
use Rattle.graph_text.specs.Blocks.{blocks}
use Rattle.graph_text.specs.Reader.{IsNew}
use Rattle.program_runs.proofs.Inputs.{at-end}
use Rattle.block_runs.specs.declared.stop.Stop.TheVariants.{Fault as Failed}
use Rattle.block_runs.specs.Underway.{EndsRight}
use Rattle.program_runs.specs.Inputs.{IsDone}
use Rattle.block_runs.specs.Texts.{Wrote}
use Rattle.block_runs.proofs.FewBlocks.{may-short, may-nothing}
use Rattle.block_runs.proofs.Endings.{right-nothing, right-fault, right-long, right-end, right-stop, ended-fault, stopped-fault}
use Rattle.block_runs.proofs.Underways.{underway-nothing}
use Rattle.block_runs.proofs.Texts.{wrote-as}
use Rattle.block_runs.proofs.reading.run_selected.Goals as goal

pub returns-in_default-clause-right : goal.returns-in_default-clause-right
returns-in_default-clause-right g c = right-nothing (g.W.Worker.is_right c.args.worker.now) (g.W.Worker.is_whole c.args.worker.now) _ _ _ (g.met.W.Worker.right c.args.worker.now c.args.worker.now [] [] c.requires.begun)

pub loop-total-init : goal.loop-total-init
loop-total-init g c = (([], refl, Took-nothing _, underway-nothing (g.W.Worker.model c.args.worker.now) (g.W.Worker.comes c.args.worker.now c.args.worker.now) _ _ (subst (λ m. IsNew m c.in-Ok.reader) c.mode.ensures c.in-Ok.ensures) c.requires.begun), omega arith, omega arith, omega arith, λ any. refl)

pub returns-in_default-read_piece-clause-right : goal.returns-in_default-read_piece-clause-right
returns-in_default-read_piece-clause-right g c =
    let run = c.loop-total.invariant.0 in
    right-fault (g.W.Worker.is_right c.args.worker.now) (g.W.Worker.is_whole c.args.worker.now) run.0 _ _ _ _ _
    (subst (λ selected. Took (g.I.Inputs.selected c.args.inputs.now) selected run.0) (sym c.in_default-read_piece.ensures.err) run.2)
    (omega (arith, run.1, c.loop-total.invariant.1))
    (wrote-as _ _ (λ text. g.met.W.Worker.right c.args.worker.now c.loop-total.worker _ text) run.3.wrote)

pub end_run-requires : goal.end_run-requires
end_run-requires g c =
    let run = c.loop-total.invariant.0 in record { underway = (c.args.worker.now, run.0, _, may-nothing run.0 (may-short run.0 (omega (arith, run.1, c.loop-total.invariant.1))), run.3) }

pub returns-then-count-eq0-clause-right : goal.returns-then-count-eq0-clause-right
returns-then-count-eq0-clause-right g c =
    let run = c.loop-total.invariant.0 in
    let none : c.in-Ok-read_piece.count ≡ 0 = omega (arith, c.if-count-eq0.true) in
    let room : 0 < length c.read_piece.new.into = omega (arith, c.loop-total-test.true, c.min-room.ensures, c.min-room.array_long, c.read_piece.auto.into, length-take c.min-room.result c.loop-total.buffer) in
    let here : run.0 ++ take c.in-Ok-read_piece.count c.read_piece.new.into ≡ run.0 = ap (λ n. run.0 ++ take n c.read_piece.new.into) none ∙ append-nil run.0 in
    subst (λ status. EndsRight (g.W.Worker.is_right c.args.worker.now) (g.W.Worker.is_whole c.args.worker.now) status (g.I.Inputs.selected c.args.inputs.now) (g.I.Inputs.selected c.read_piece.new.inputs)
    (g.O.Output.written c.args.out.now) (g.O.Output.written c.end_run.new.out) (Rose (g.O.Output.faults c.args.out.now) (g.O.Output.faults c.end_run.new.out)))
    (sym c.status_at.ensures)
    (right-end (g.W.Worker.may_be_cut c.args.worker.now) (g.W.Worker.is_right c.args.worker.now) (g.W.Worker.is_whole c.args.worker.now) c.end_run.result run.0 _ _ _ _ _
    (subst (Took (g.I.Inputs.selected c.args.inputs.now) (g.I.Inputs.selected c.read_piece.new.inputs)) here
    (Took-more _ _ _ run.0 c.read_piece.new.into c.in-Ok-read_piece.count run.2 c.in-Ok-read_piece.ensures.count c.in-Ok-read_piece.ensures.bytes c.in-Ok-read_piece.ensures.left))
    (at-end _ _ c.read_piece.new.into c.in-Ok-read_piece.count room none c.in-Ok-read_piece.ensures.bytes c.in-Ok-read_piece.ensures.left)
    (omega (arith, run.1, c.loop-total-test.true))
    (IfOk-weaker c.end_run.result _ (λ status. IsDone status × Wrote (g.W.Worker.is_whole c.args.worker.now status (blocks run.0)) (g.O.Output.written c.args.out.now) (g.O.Output.written c.end_run.new.out))
    (λ status done. (done.0, done.1 c.args.worker.now run.0 (g.O.Output.written c.args.out.now) run.3)) c.end_run.ensures.done)
    (λ is. c.end_run.ensures.memory is c.args.worker.now run.0 _ run.3) (λ is. c.end_run.ensures.cut is c.args.worker.now run.0 _ run.3)
    (λ is. Rose-before _ _ _ c.loop-total.invariant.3 (c.end_run.ensures.fault is)))

pub returns-then-count-eq0-clause-fault : goal.returns-then-count-eq0-clause-fault
returns-then-count-eq0-clause-fault g c faulty =
    let stopped : c.end_run.result ≡ Err Failed = ended-fault c.end_run.result (IfOk-weaker c.end_run.result _ IsDone (λ status done. done.0) c.end_run.ensures.done)
    (sym c.status_at.ensures ∙ faulty) in
    inr (Rose-before _ _ _ c.loop-total.invariant.3 (c.end_run.ensures.fault stopped))

pub take_piece-requires : goal.take_piece-requires
take_piece-requires g c =
    let run = c.loop-total.invariant.0 in
    let room : length c.read_piece.new.into ≡ c.min-room.result = omega (arith, c.min-room.ensures, c.min-room.array_long, c.read_piece.auto.into, length-take c.min-room.result c.loop-total.buffer) in
    record {
      underway = (
        c.args.worker.now,
        run.0,
        _,
        may-short (run.0 ++ take c.in-Ok-read_piece.count c.read_piece.new.into) (omega (
          arith,
          run.1,
          length-append run.0 (take c.in-Ok-read_piece.count c.read_piece.new.into),
          length-take-le c.in-Ok-read_piece.count c.read_piece.new.into c.in-Ok-read_piece.ensures.count,
          c.loop-total-test.true,
          c.min-room.ensures,
          room,
          c.in-Ok-read_piece.ensures.count,
        )),
        run.3,
      );
    }

pub returns-in-Err-clause-right : goal.returns-in-Err-clause-right
returns-in-Err-clause-right g c =
    let run = c.loop-total.invariant.0 in
    let room : length c.read_piece.new.into ≡ c.min-room.result = omega (arith, c.min-room.ensures, c.min-room.array_long, c.read_piece.auto.into, length-take c.min-room.result c.loop-total.buffer) in
    right-stop (g.W.Worker.may_be_cut c.args.worker.now) (g.W.Worker.is_right c.args.worker.now) (g.W.Worker.is_whole c.args.worker.now) c.in-Err.stop c.status.result (run.0 ++ take c.in-Ok-read_piece.count c.read_piece.new.into) _ _ _ _ _
    (Took-more _ _ _ run.0 c.read_piece.new.into c.in-Ok-read_piece.count run.2 c.in-Ok-read_piece.ensures.count c.in-Ok-read_piece.ensures.bytes c.in-Ok-read_piece.ensures.left)
    (omega (
      arith,
      run.1,
      length-append run.0 (take c.in-Ok-read_piece.count c.read_piece.new.into),
      length-take-le c.in-Ok-read_piece.count c.read_piece.new.into c.in-Ok-read_piece.ensures.count,
      c.loop-total-test.true,
      c.min-room.ensures,
      room,
      c.in-Ok-read_piece.ensures.count,
    ))
    c.status.ensures.memory c.status.ensures.fault
    (λ is. c.take_piece.ensures.memory (c.in-Err.is ∙ ap Err is) c.args.worker.now run.0 _ run.3)
    (λ is. c.take_piece.ensures.cut (c.in-Err.is ∙ ap Err is) c.args.worker.now run.0 _ run.3)
    (λ is. Rose-before _ _ _ c.loop-total.invariant.3 (c.take_piece.ensures.fault (c.in-Err.is ∙ ap Err is)))

pub returns-in-Err-clause-fault : goal.returns-in-Err-clause-fault
returns-in-Err-clause-fault g c faulty =
    inr (stopped-fault c.in-Err.stop c.status.result _ c.status.ensures.memory faulty (λ is. Rose-before _ _ _ c.loop-total.invariant.3 (c.take_piece.ensures.fault (c.in-Err.is ∙ ap Err is))))

pub loop-total-preserved : goal.loop-total-preserved
loop-total-preserved g c =
    let run = c.loop-total.invariant.0 in
    let room : length c.read_piece.new.into ≡ c.min-room.result = omega (arith, c.min-room.ensures, c.min-room.array_long, c.read_piece.auto.into, length-take c.min-room.result c.loop-total.buffer) in
    let long : length (run.0 ++ take c.in-Ok-read_piece.count c.read_piece.new.into) ≡ c.loop-total.total + c.in-Ok-read_piece.count =
    omega (arith, run.1, length-append run.0 (take c.in-Ok-read_piece.count c.read_piece.new.into), length-take-le c.in-Ok-read_piece.count c.read_piece.new.into c.in-Ok-read_piece.ensures.count) in (
      (
        run.0 ++ take c.in-Ok-read_piece.count c.read_piece.new.into,
        long,
        Took-more _ _ _ run.0 c.read_piece.new.into c.in-Ok-read_piece.count run.2 c.in-Ok-read_piece.ensures.count c.in-Ok-read_piece.ensures.bytes c.in-Ok-read_piece.ensures.left,
        c.in-Ok-take_piece.ensures.done c.args.worker.now run.0 _ run.3,
      ),
      omega (arith, c.loop-total-test.true, c.in-Ok-read_piece.ensures.count, room, c.min-room.ensures),
      omega (arith, c.loop-total.invariant.2, c.in-Ok-read_piece.ensures.cause.later),
      omega (arith, c.loop-total.invariant.3, c.in-Ok-take_piece.ensures.later),
      λ any. c.in-Ok-read_piece.ensures.holds any ∙ c.loop-total.invariant.4 any,
    )

pub returns-clause-right : goal.returns-clause-right
returns-clause-right g c =
    let run = c.loop-total.invariant.0 in
    right-long (g.W.Worker.is_right c.args.worker.now) (g.W.Worker.is_whole c.args.worker.now) run.0 _ _ _ _ _ run.2 (omega (arith, run.1, c.loop-total.invariant.1, c.loop-total-test.false))
    (wrote-as _ _ (λ text. g.met.W.Worker.right c.args.worker.now c.loop-total.worker _ text) run.3.wrote)
