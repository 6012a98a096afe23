use Rattle.std.proofs.Common.{sym, ◌∙◌}
use Rattle.std.proofs.lemmas.Result.{on_ok_weaker}
use Rattle.block_runs.specs.Answering.{IsRightAndMayBeCut}
use Rattle.block_runs.proofs.Texts.{answers-waiting, cut-waiting, answers-none}
use Rattle.block_runs.proofs.answering.answer_waiting.Goals as goal

pub returns-in-Some-clause-done : goal.returns-in-Some-clause-done
returns-in-Some-clause-done g c =
    on_ok_weaker c.answer.result (answers-waiting (g.W.Worker.model c.args.worker.now) _ c.in-Some.block (λ first. g.W.Worker.comes first c.args.worker.now) (λ first. g.W.Worker.comes first c.answer.new.self) _ _
    (sym c.take.ensures.waiting ∙ c.in-Some.is)) c.answer.ensures.done

pub returns-in-Some-clause-cut : goal.returns-in-Some-clause-cut
returns-in-Some-clause-cut g c stopped =
    cut-waiting (g.W.Worker.model c.args.worker.now) _ c.in-Some.block (λ first. g.W.Worker.comes first c.args.worker.now) (IsRightAndMayBeCut g.W.Worker.may_be_cut g.W.Worker.is_right) _ _
    (sym c.take.ensures.waiting ∙ c.in-Some.is) (c.answer.ensures.cut stopped)

pub returns-in-None-clause-done : goal.returns-in-None-clause-done
returns-in-None-clause-done g c =
    answers-none (g.W.Worker.model c.args.worker.now) _ (λ first. g.W.Worker.comes first c.args.worker.now) _ (sym c.take.ensures.waiting ∙ c.in-None.is)
