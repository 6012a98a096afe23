use Rattle.std.proofs.Common.{◌≡◌, ◌-◌, ◌++◌, Err, length, take, drop, sym, ap, subst, ◌∙◌, arith, length-append, length-drop}
use Rattle.std.specs.Prelude.{IfSome}
use Rattle.std.proofs.lemmas.List.{length-take-le, take_all, take_rest}
use Rattle.std.proofs.lemmas.Result.{err_from_is_err_and}
use Rattle.graph_text.specs.Blocks.{TextBlock, complete}
use Rattle.graph_text.specs.Reader.{waiting_of}
use Rattle.program_runs.specs.HandedBlocks.{IsHandedFor}
use Rattle.block_runs.specs.Answering.{IsRightAndMayBeCut}
use Rattle.block_runs.proofs.FewBlocks.{few-part}
use Rattle.block_runs.specs.Texts.{Wrote, IsFirst}
use Rattle.block_runs.specs.Underway.{Underway}
use Rattle.block_runs.specs.declared.stop.Stop.TheVariants.{Memory, Fault}
use Rattle.program_runs.proofs.HandedBlocks.{handed-some, grows-feed, feeds-some, line-within}
use Rattle.program_runs.proofs.Parts.{parts-joined, parts-more}
use Rattle.block_runs.proofs.Texts.{wrote-waiting, cut-then}
use Rattle.block_runs.proofs.Underways.{underway-more, underway-first, cut-goes_on}
use Rattle.block_runs.proofs.answering.take_piece.Goals as goal

pub feed-requires-clause-goes_on : goal.feed-requires-clause-goes_on
feed-requires-clause-goes_on g c =
    (c.loop-done.invariant.1 c.requires.underway.0 c.requires.underway.1 c.requires.underway.2 c.requires.underway.4).goes_on

pub feed-requires-clause-lines_fit : goal.feed-requires-clause-lines_fit
feed-requires-clause-lines_fit g c works =
    let bytes = c.requires.underway.1 in
    let under = c.loop-done.invariant.1 c.requires.underway.0 bytes c.requires.underway.2 c.requires.underway.4 in
    omega (
      arith,
      line-within c.loop-done.reader _ under.stands,
      c.requires.underway.3.short,
      length-append bytes c.args.piece.now,
      c.loop-done.invariant.0,
      length-append bytes (take c.loop-done.done c.args.piece.now),
      length-take-le c.loop-done.done c.args.piece.now c.loop-done.invariant.0,
      ap length (take_rest c.args.piece.now c.loop-done.done),
      length-drop c.loop-done.done c.args.piece.now,
    )

pub returns-in_err-done-clause-memory : goal.returns-in_err-done-clause-memory
returns-in_err-done-clause-memory g c stopped first bytes before under =
    underway-first _ _ (g.W.Worker.is_right first) c.loop-done.reader (bytes ++ take c.loop-done.done c.args.piece.now) (drop c.loop-done.done c.args.piece.now) (bytes ++ c.args.piece.now) before _
    (g.met.W.Worker.right first c.loop-done.worker) (parts-joined bytes c.args.piece.now c.loop-done.done) (c.loop-done.invariant.1 first bytes before under)

pub answer_waiting-requires-clause-handed : goal.answer_waiting-requires-clause-handed
answer_waiting-requires-clause-handed g c =
    let first = c.requires.underway.0 in
    let under = c.loop-done.invariant.1 first c.requires.underway.1 c.requires.underway.2 c.requires.underway.4 in
    let grown = grows-feed (g.W.Worker.model first) c.loop-done.reader c.feed.new.self _ _ _ (c.in_ok-done.ensures.feeds under.none_waits _ under.stands) under.mode_is in
    subst (λ m. IfSome (waiting_of c.feed.new.self) (λ block. (asked : TextBlock) × IsHandedFor m asked block)) (sym (g.met.W.Worker.stays first c.loop-done.worker _ under.wrote.0 under.wrote.1))
    (handed-some (g.W.Worker.model first) grown.waiting (waiting_of c.feed.new.self) grown.handed)

pub answer_waiting-requires-clause-begun : goal.answer_waiting-requires-clause-begun
answer_waiting-requires-clause-begun g c =
    let first = c.requires.underway.0 in
    let under = c.loop-done.invariant.1 first c.requires.underway.1 c.requires.underway.2 c.requires.underway.4 in
    (first, _, under.wrote.0, few-part c.requires.underway.1 c.args.piece.now c.loop-done.done c.requires.underway.3, under.wrote.1)

pub returns-in_err-answer_waiting-clause-memory : goal.returns-in_err-answer_waiting-clause-memory
returns-in_err-answer_waiting-clause-memory g c stopped first bytes before under =
    let p = err_from_is_err_and c.from_residual-in_err-answer_waiting.result c.from_residual-in_err-answer_waiting.ensures.1 in
    let is : c.answer_waiting.result ≡ Err Memory = cc (p.1, p.2, stopped, c.in_err-answer_waiting.was) in
    subst (Wrote (IsFirst (g.W.Worker.is_right first) (complete (bytes ++ c.args.piece.now))) before) (sym (c.answer_waiting.ensures.memory is))
    (underway-first _ _ (g.W.Worker.is_right first) c.loop-done.reader (bytes ++ take c.loop-done.done c.args.piece.now) (drop c.loop-done.done c.args.piece.now) (bytes ++ c.args.piece.now) before _
    (g.met.W.Worker.right first c.loop-done.worker) (parts-joined bytes c.args.piece.now c.loop-done.done) (c.loop-done.invariant.1 first bytes before under))

pub returns-in_err-answer_waiting-clause-cut : goal.returns-in_err-answer_waiting-clause-cut
returns-in_err-answer_waiting-clause-cut g c stopped first bytes before under =
    let p = err_from_is_err_and c.from_residual-in_err-answer_waiting.result c.from_residual-in_err-answer_waiting.ensures.1 in
    let is : c.answer_waiting.result ≡ Err Fault = cc (p.1, p.2, stopped, c.in_err-answer_waiting.was) in
    let here = c.loop-done.invariant.1 first bytes before under in
    cut-goes_on (g.W.Worker.model first) (g.W.Worker.comes first c.loop-done.worker) (IsRightAndMayBeCut g.W.Worker.may_be_cut g.W.Worker.is_right first) c.loop-done.reader c.feed.new.self bytes c.args.piece.now c.loop-done.done c.in_ok-done.field-0 before _ _ here
    (c.in_ok-done.ensures.feeds here.none_waits _ here.stands) (λ waiting handed.
    cut-then (g.W.Worker.model first) (g.W.Worker.model c.loop-done.worker) (waiting_of c.feed.new.self) (λ begun. g.W.Worker.comes begun c.loop-done.worker) (IsRightAndMayBeCut g.W.Worker.may_be_cut g.W.Worker.is_right) first waiting (complete (bytes ++ take c.loop-done.done c.args.piece.now)) before _ _
    (g.met.W.Worker.stays first c.loop-done.worker _ here.wrote.0 here.wrote.1) handed (c.answer_waiting.ensures.cut is))

pub loop-done-smaller : goal.loop-done-smaller
loop-done-smaller g c =
    let under = c.loop-done.invariant.1 c.requires.underway.0 c.requires.underway.1 c.requires.underway.2 c.requires.underway.4 in
    let rest : length (take (length c.args.piece.now - c.loop-done.done) (drop c.loop-done.done c.args.piece.now)) ≡ length c.args.piece.now - c.loop-done.done =
    ap length (take_rest c.args.piece.now c.loop-done.done) ∙ length-drop c.loop-done.done c.args.piece.now in
    omega (arith, rest, c.loop-done-test.true, feeds-some c.loop-done.reader c.feed.new.self _ _ _ (c.in_ok-done.ensures.feeds under.none_waits _ under.stands) (omega (arith, rest, c.loop-done-test.true)))

pub loop-done-preserved : goal.loop-done-preserved
loop-done-preserved g c = (
  omega (arith, c.in_ok-done.ensures.count, c.loop-done.invariant.0, ap length (take_rest c.args.piece.now c.loop-done.done), length-drop c.loop-done.done c.args.piece.now),
  λ first bytes before under.
      let here = c.loop-done.invariant.1 first bytes before under in
      subst (λ b. Underway (g.W.Worker.model first) (g.W.Worker.comes first c.answer_waiting.new.worker) c.answer_waiting.new.reader b before (g.O.Output.written c.answer_waiting.new.out))
      (parts-more bytes c.args.piece.now c.loop-done.done c.in_ok-done.field-0)
      (underway-more (g.W.Worker.model first) (g.W.Worker.comes first c.loop-done.worker) (g.W.Worker.comes first c.answer_waiting.new.worker) c.loop-done.reader c.feed.new.self c.answer_waiting.new.reader _ _ _ before _ _ here
      (c.in_ok-done.ensures.feeds here.none_waits _ here.stands) c.in_ok-done.ensures.works c.in_ok-done.ensures.finished c.in_ok-done.ensures.mode
      c.in_ok-answer_waiting.ensures.reader (λ waiting handed.
      wrote-waiting (g.W.Worker.model first) (g.W.Worker.model c.loop-done.worker) (waiting_of c.feed.new.self) (λ begun. g.W.Worker.comes begun c.loop-done.worker) (λ begun. g.W.Worker.comes begun c.answer_waiting.new.worker) first waiting (complete (bytes ++ take c.loop-done.done c.args.piece.now)) before _ _
      (g.met.W.Worker.stays first c.loop-done.worker _ here.wrote.0 here.wrote.1) handed c.in_ok-answer_waiting.ensures.done)),
  omega (arith, c.loop-done.invariant.2, c.in_ok-answer_waiting.ensures.later),
)

pub returns-clause-done : goal.returns-clause-done
returns-clause-done g c first bytes before under =
    subst (λ p. Underway (g.W.Worker.model first) (g.W.Worker.comes first c.loop-done.worker) c.loop-done.reader (bytes ++ p) before (g.O.Output.written c.loop-done.out))
    (take_all c.loop-done.done c.args.piece.now (omega (arith, c.loop-done-test.false)))
    (c.loop-done.invariant.1 first bytes before under)
