use Rattle.std.proofs.Common.{List, ℕ, subst}
use Rattle.flow_io.specs.Outside.{Adds, AddsPrefix}
use Rattle.program_runs.proofs.HandedBlocks.{handed-accepted}
use Rattle.flowruns_cli.specs.RightTexts.{runs_mode}
use Rattle.flowruns_cli.proofs.Texts.{texts-more, text-for, text-cut}
use Rattle.flowruns_cli.proofs.weighing.WeighingWorker.answer.Goals as goal

pub block_text-requires : goal.block_text-requires
block_text-requires g c = record { valid = handed-accepted runs_mode c.requires.handed.0 c.args.block c.requires.handed.1 }

pub returns-in_err-write_whole-clause-cut : goal.returns-in_err-write_whole-clause-cut
returns-in_err-write_whole-clause-cut g c stopped =
    text-cut c.args.self.now c.args.block c.in_ok-text.text.items _ _ c.in_ok-text.ensures
    (subst (λ (piece : List ℕ). AddsPrefix (g.O.Output.written c.args.out.now) (g.O.Output.written c.write_whole.new.out) piece) c.deref.ensures.value c.in_err-write_whole.ensures.err)

pub returns-clause-done : goal.returns-clause-done
returns-clause-done g c = (
  c.in_ok-text.text.items,
  subst (λ (piece : List ℕ). Adds (g.O.Output.written c.args.out.now) (g.O.Output.written c.write_whole.new.out) piece) c.deref.ensures.value c.in_ok-write_whole.ensures.ok,
  λ asked is first shown text h. (
    texts-more shown text asked c.in_ok-text.text.items h.0 (text-for asked c.args.block c.in_ok-text.text.items is c.in_ok-text.ensures),
    c.status_after-self.ensures shown asked h.1 is.is_handed,
  ),
)
