use Rattle.std.proofs.Common.{◌∙◌, ◌++◌, ap, arith, subst, take, length, length-drop}
use Rattle.std.proofs.lemmas.List.{take_rest}
use Rattle.graph_text.specs.Cutter.{GoesOn, IsMark}
use Rattle.graph_text.specs.Progress.{left_by}
use Rattle.graph_text.proofs.Holding.{goes-both, Cuts-whole, Cuts-block, IsMark-one_line}
use Rattle.graph_text.proofs.cutter.Cutter.read.Goals as goal

pub returns-in-Some-clause-cuts : goal.returns-in-Some-clause-cuts
returns-in-Some-clause-cuts c = λ bytes held.
    let goes = c.loop-taken.invariant.goes bytes held in
    let before = bytes ++ take c.loop-taken.taken c.args.piece.now in
    let may = c.in-Some.ensures.filled (left_by before) goes.holds in
    Cuts-block c.args.self.now c.loop-taken.self c.begin_next.new.self bytes c.args.piece.now c.in-Some.mark.now c.loop-taken.taken c.in_ok-block.block
    goes c.loop-taken.invariant.mode_kept may (subst (λ rest. IsMark rest c.in-Some.mark.now) (take_rest c.args.piece.now c.loop-taken.taken) c.in-Some.ensures.some.1)
    (c.in_ok-block.ensures.block (left_by before) goes.holds may) (c.in_ok-block.ensures.holds (left_by before) goes.holds)

pub loop-taken-preserved : goal.loop-taken-preserved
loop-taken-preserved c =
    let start = c.loop-taken.invariant in
    let rest = take_rest c.args.piece.now c.loop-taken.taken in
    record {
      within = omega (arith, ap length rest, length-drop c.loop-taken.taken c.args.piece.now, c.in_ok-taken.ensures.count.1);
      counted = c.in_ok-taken.ensures.counted;
      few_lines = omega (arith, c.in_ok-taken.ensures.line);
      mode_kept = c.take_line.ensures.mode ∙ start.mode_kept;
      goes = λ bytes held.
          let goes = start.goes bytes held in
          let before = bytes ++ take c.loop-taken.taken c.args.piece.now in
          goes-both c.take_line.new.self bytes c.args.piece.now c.loop-taken.taken c.in_ok-taken.field-0 goes.same
          (subst (λ r. GoesOn c.take_line.new.self before (take c.in_ok-taken.field-0 r)) rest
          (c.in_ok-taken.ensures.takes before goes.holds (c.in_default.ensures.none (left_by before) goes.holds)));
    }

pub returns-clause-cuts : goal.returns-clause-cuts
returns-clause-cuts c = λ bytes held.
    let start = c.loop-taken.invariant in
    Cuts-whole c.args.self.now c.loop-taken.self bytes c.args.piece.now c.loop-taken.taken (omega arith) start.within (start.goes bytes held)

pub begin_next-requires-clause-one_line : goal.begin_next-requires-clause-one_line
begin_next-requires-clause-one_line c = IsMark-one_line _ _ c.in-Some.ensures.some.1
