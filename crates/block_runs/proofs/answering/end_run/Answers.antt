use Rattle.std.proofs.Common.{◌≡◌, [], Err, sym, subst, inl, inr}
use Rattle.std.specs.Prelude.{IfSome}
use Rattle.std.proofs.lemmas.Result.{IfOk-weaker, err_from_is_err_and}
use Rattle.flow_io.proofs.Causes.{Rose-before}
use Rattle.graph_text.specs.Blocks.{TextBlock, blocks, complete}
use Rattle.graph_text.specs.Reader.{waiting_of}
use Rattle.program_runs.specs.HandedBlocks.{IsHandedFor}
use Rattle.block_runs.specs.Answering.{IsRightAndMayBeCut}
use Rattle.block_runs.proofs.FewBlocks.{few-begin}
use Rattle.block_runs.specs.Texts.{Wrote, IsFirst, Begins, BeginsWhole}
use Rattle.block_runs.specs.declared.stop.Stop.TheVariants.{Memory, Fault}
use Rattle.program_runs.proofs.FirstBlocks.{first-all}
use Rattle.program_runs.proofs.HandedBlocks.{grows-end, handed-some}
use Rattle.block_runs.proofs.Texts.{wrote-as, wrote-waiting, cut-then, wrote-end, cut-end}
use Rattle.block_runs.proofs.Underways.{underway-blocks, end-more}
use Rattle.block_runs.proofs.answering.end_run.Goals as goal

pub returns-in_err-finish-clause-memory : goal.returns-in_err-finish-clause-memory
returns-in_err-finish-clause-memory g c stopped first bytes before under =
    underway-blocks _ _ (g.W.Worker.is_right first) _ bytes before _ (g.met.W.Worker.right first c.args.worker.now) under

pub answer_waiting-requires-clause-handed : goal.answer_waiting-requires-clause-handed
answer_waiting-requires-clause-handed g c =
    let first = c.requires.underway.0 in
    let bytes = c.requires.underway.1 in
    let under = c.requires.underway.4 in
    let grown = grows-end (g.W.Worker.model first) c.args.reader.now c.finish.new.self bytes (c.in_ok-finish.ensures.ends bytes under.stands) under.mode_is in
    subst (λ m. IfSome (waiting_of c.finish.new.self) (λ block. (asked : TextBlock) × IsHandedFor m asked block)) (sym (g.met.W.Worker.stays first c.args.worker.now (complete bytes) under.wrote.0 under.wrote.1))
    (handed-some (g.W.Worker.model first) grown.waiting (waiting_of c.finish.new.self) grown.handed)

pub answer_waiting-requires-clause-begun : goal.answer_waiting-requires-clause-begun
answer_waiting-requires-clause-begun g c =
    let under = c.requires.underway.4 in
    (c.requires.underway.0, complete c.requires.underway.1, under.wrote.0, few-begin c.requires.underway.1 [] c.requires.underway.3, under.wrote.1)

pub returns-in_err-answer_waiting-clause-memory : goal.returns-in_err-answer_waiting-clause-memory
returns-in_err-answer_waiting-clause-memory g c stopped first bytes before under =
    let p = err_from_is_err_and c.from_residual-in_err-answer_waiting.result c.from_residual-in_err-answer_waiting.ensures.1 in
    let is : c.answer_waiting.result ≡ Err Memory = cc (p.1, p.2, stopped, c.in_err-answer_waiting.was) in
    subst (Wrote (IsFirst (g.W.Worker.is_right first) (blocks bytes)) before) (sym (c.answer_waiting.ensures.memory is))
    (underway-blocks _ _ (g.W.Worker.is_right first) _ bytes before _ (g.met.W.Worker.right first c.args.worker.now) under)

pub returns-in_err-answer_waiting-clause-cut : goal.returns-in_err-answer_waiting-clause-cut
returns-in_err-answer_waiting-clause-cut g c stopped first bytes before under =
    let p = err_from_is_err_and c.from_residual-in_err-answer_waiting.result c.from_residual-in_err-answer_waiting.ensures.1 in
    let is : c.answer_waiting.result ≡ Err Fault = cc (p.1, p.2, stopped, c.in_err-answer_waiting.was) in
    let begun : Wrote (Begins (IsRightAndMayBeCut g.W.Worker.may_be_cut g.W.Worker.is_right first) (blocks bytes)) before (g.O.Output.written c.answer_waiting.new.out) =
    end-more (g.W.Worker.model first) (g.W.Worker.comes first c.args.worker.now) (Begins (IsRightAndMayBeCut g.W.Worker.may_be_cut g.W.Worker.is_right first)) c.args.reader.now c.finish.new.self bytes before _ _ under
    (c.in_ok-finish.ensures.ends bytes under.stands) (λ waiting handed.
    cut-then (g.W.Worker.model first) (g.W.Worker.model c.args.worker.now) (waiting_of c.finish.new.self) (λ begun. g.W.Worker.comes begun c.args.worker.now) (IsRightAndMayBeCut g.W.Worker.may_be_cut g.W.Worker.is_right) first waiting (complete bytes) before _ _
    (g.met.W.Worker.stays first c.args.worker.now (complete bytes) under.wrote.0 under.wrote.1) handed (c.answer_waiting.ensures.cut is)) in
    (begun.0, inl begun.1, begun.2)

pub returns-in_err-answer_waiting-clause-fault : goal.returns-in_err-answer_waiting-clause-fault
returns-in_err-answer_waiting-clause-fault g c stopped =
    let p = err_from_is_err_and c.from_residual-in_err-answer_waiting.result c.from_residual-in_err-answer_waiting.ensures.1 in
    let is : c.answer_waiting.result ≡ Err Fault = cc (p.1, p.2, stopped, c.in_err-answer_waiting.was) in
    c.answer_waiting.ensures.fault is

pub end-requires : goal.end-requires
end-requires g c =
    let first = c.requires.underway.0 in
    let bytes = c.requires.underway.1 in
    let under = c.requires.underway.4 in
    let wrote : Wrote (g.W.Worker.comes first c.answer_waiting.new.worker (blocks bytes)) c.requires.underway.2 (g.O.Output.written c.answer_waiting.new.out) =
    end-more (g.W.Worker.model first) (g.W.Worker.comes first c.args.worker.now) (g.W.Worker.comes first c.answer_waiting.new.worker) c.args.reader.now c.finish.new.self bytes c.requires.underway.2 _ _ under
    (c.in_ok-finish.ensures.ends bytes under.stands) (λ waiting handed.
    wrote-waiting (g.W.Worker.model first) (g.W.Worker.model c.args.worker.now) (waiting_of c.finish.new.self) (λ begun. g.W.Worker.comes begun c.args.worker.now) (λ begun. g.W.Worker.comes begun c.answer_waiting.new.worker) first waiting (complete bytes) c.requires.underway.2 _ _
    (g.met.W.Worker.stays first c.args.worker.now (complete bytes) under.wrote.0 under.wrote.1) handed c.in_ok-answer_waiting.ensures.done) in
    record { begun = (first, blocks bytes, wrote.0, wrote.1) }

pub returns-clause-done : goal.returns-clause-done
returns-clause-done g c =
    IfOk-weaker c.end.result _ _ (λ status done. (
      done.0,
      λ first bytes before under.
          wrote-end (λ begun. g.W.Worker.comes begun c.answer_waiting.new.worker) (λ begun. g.W.Worker.is_whole begun status) first (blocks bytes) before _ _ done.1
          (end-more (g.W.Worker.model first) (g.W.Worker.comes first c.args.worker.now) (g.W.Worker.comes first c.answer_waiting.new.worker) c.args.reader.now c.finish.new.self bytes before _ _ under
          (c.in_ok-finish.ensures.ends bytes under.stands) (λ waiting handed.
          wrote-waiting (g.W.Worker.model first) (g.W.Worker.model c.args.worker.now) (waiting_of c.finish.new.self) (λ begun. g.W.Worker.comes begun c.args.worker.now) (λ begun. g.W.Worker.comes begun c.answer_waiting.new.worker) first waiting (complete bytes) before _ _
          (g.met.W.Worker.stays first c.args.worker.now (complete bytes) under.wrote.0 under.wrote.1) handed c.in_ok-answer_waiting.ensures.done)),
    )) c.end.ensures.done

pub returns-clause-memory : goal.returns-clause-memory
returns-clause-memory g c stopped first bytes before under =
    let wrote : Wrote (g.W.Worker.comes first c.answer_waiting.new.worker (blocks bytes)) before (g.O.Output.written c.answer_waiting.new.out) =
    end-more (g.W.Worker.model first) (g.W.Worker.comes first c.args.worker.now) (g.W.Worker.comes first c.answer_waiting.new.worker) c.args.reader.now c.finish.new.self bytes before _ _ under
    (c.in_ok-finish.ensures.ends bytes under.stands) (λ waiting handed.
    wrote-waiting (g.W.Worker.model first) (g.W.Worker.model c.args.worker.now) (waiting_of c.finish.new.self) (λ begun. g.W.Worker.comes begun c.args.worker.now) (λ begun. g.W.Worker.comes begun c.answer_waiting.new.worker) first waiting (complete bytes) before _ _
    (g.met.W.Worker.stays first c.args.worker.now (complete bytes) under.wrote.0 under.wrote.1) handed c.in_ok-answer_waiting.ensures.done) in
    subst (Wrote (IsFirst (g.W.Worker.is_right first) (blocks bytes)) before) (sym (c.end.ensures.memory stopped))
    (wrote-as before _ (λ text h. first-all (λ l. g.W.Worker.is_right first l text) (blocks bytes) (g.met.W.Worker.right first c.answer_waiting.new.worker (blocks bytes) text h)) wrote)

pub returns-clause-cut : goal.returns-clause-cut
returns-clause-cut g c stopped first bytes before under =
    let wrote : Wrote (g.W.Worker.comes first c.answer_waiting.new.worker (blocks bytes)) before (g.O.Output.written c.answer_waiting.new.out) =
    end-more (g.W.Worker.model first) (g.W.Worker.comes first c.args.worker.now) (g.W.Worker.comes first c.answer_waiting.new.worker) c.args.reader.now c.finish.new.self bytes before _ _ under
    (c.in_ok-finish.ensures.ends bytes under.stands) (λ waiting handed.
    wrote-waiting (g.W.Worker.model first) (g.W.Worker.model c.args.worker.now) (waiting_of c.finish.new.self) (λ begun. g.W.Worker.comes begun c.args.worker.now) (λ begun. g.W.Worker.comes begun c.answer_waiting.new.worker) first waiting (complete bytes) before _ _
    (g.met.W.Worker.stays first c.args.worker.now (complete bytes) under.wrote.0 under.wrote.1) handed c.in_ok-answer_waiting.ensures.done) in
    let begun : Wrote (BeginsWhole (g.W.Worker.is_whole first) (blocks bytes)) before (g.O.Output.written c.end.new.out) =
    cut-end (λ begun. g.W.Worker.comes begun c.answer_waiting.new.worker) g.W.Worker.is_whole first (blocks bytes) before _ _ (c.end.ensures.cut stopped) wrote in
    (begun.0, inr begun.1, begun.2)

pub returns-clause-fault : goal.returns-clause-fault
returns-clause-fault g c stopped = Rose-before _ _ _ c.in_ok-answer_waiting.ensures.later (c.end.ensures.fault stopped)
