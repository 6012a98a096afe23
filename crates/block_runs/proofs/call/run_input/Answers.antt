use Rattle.std.proofs.Common.{◌∙◌, []}
use Rattle.program_runs.proofs.Inputs.{told-same}
use Rattle.program_runs.proofs.Results.{ok_at, err_at}
use Rattle.block_runs.proofs.Accounts.{reads-right, writes-right, unselected-reads, unselected-writes}
use Rattle.block_runs.proofs.call.run_input.Goals as goal

pub returns-clause-reads : goal.returns-clause-reads
returns-clause-reads g c =
    reads-right (g.W.Worker.is_right c.args.worker.now) (g.W.Worker.is_whole c.args.worker.now) c.args.name.now _ _ _ _ _ _ _ (ok_at c.select.result c.if-is_err.ensures.value c.select.ensures.ok) c.run_selected.ensures.right

pub returns-clause-writes : goal.returns-clause-writes
returns-clause-writes g c =
    writes-right (g.W.Worker.is_right c.args.worker.now) (g.W.Worker.is_whole c.args.worker.now) c.args.name.now _ _ _ _ _ _ _ (ok_at c.select.result c.if-is_err.ensures.value c.select.ensures.ok) c.run_selected.ensures.right

pub returns-clause-told : goal.returns-clause-told
returns-clause-told g c = told-same _ _ _ c.run_selected.ensures.right.took ∙ c.select.ensures.told

pub returns-clause-not_words : goal.returns-clause-not_words
returns-clause-not_words g c = c.run_selected.ensures.right.not_words

pub returns-then-is_err-clause-reads : goal.returns-then-is_err-clause-reads
returns-then-is_err-clause-reads g c =
    unselected-reads (g.W.Worker.is_whole c.args.worker.now) c.args.name.now _ _ (err_at c.select.result c.if-is_err.ensures.value c.select.ensures.err)

pub returns-then-is_err-clause-writes : goal.returns-then-is_err-clause-writes
returns-then-is_err-clause-writes g c =
    unselected-writes (g.W.Worker.is_right c.args.worker.now) (g.W.Worker.is_whole c.args.worker.now) c.args.name.now _ _ _ _
    (g.met.W.Worker.right c.args.worker.now c.args.worker.now [] [] c.requires.begun) (err_at c.select.result c.if-is_err.ensures.value c.select.ensures.err)
