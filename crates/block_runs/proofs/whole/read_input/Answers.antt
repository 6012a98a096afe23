use Rattle.std.proofs.lemmas.Result.{IfOk-weaker}
use Rattle.program_runs.proofs.Results.{ok_at}
use Rattle.block_runs.proofs.Taken.{takes-count, takes-all}
use Rattle.block_runs.proofs.whole.read_input.Goals as goal

pub returns-clause-long : goal.returns-clause-long
returns-clause-long g c is =
    let long = c.read_to_end.ensures.long is in
    takes-count c.args.name.now _ _ _ long.0 _ (ok_at c.select.result c.if-is_err.ensures.value c.select.ensures.ok) long.2 long.1

pub returns-clause-ended : goal.returns-clause-ended
returns-clause-ended g c =
    IfOk-weaker c.read_to_end.result _ _
    (λ bytes ended. takes-all c.args.name.now _ _ _ bytes.items (ok_at c.select.result c.if-is_err.ensures.value c.select.ensures.ok) ended.2 ended.1 ended.0)
    c.read_to_end.ensures.ended
