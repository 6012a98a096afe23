use Rattle.std.proofs.Common.{◌∙◌, sym}
use Rattle.flownodes_cli.proofs.Outputs.{where_all, reads-answered, writes-answered}
use Rattle.flownodes_cli.proofs.call.run_file.Goals as goal

pub returns-in-Ok-clause-reads : goal.returns-in-Ok-clause-reads
returns-in-Ok-clause-reads g c =
    where_all _ _ _ _ _ _ c.read_input.ensures.first c.in-Ok.ensures.whole c.in-Ok.ensures.ended
    (λ seen first whole ended. reads-answered _ c.answer.result _ _ c.as_slice.result.now seen first (whole ∙ sym c.as_slice.ensures.value) ended c.answer.ensures.written)

pub returns-in-Ok-clause-writes : goal.returns-in-Ok-clause-writes
returns-in-Ok-clause-writes g c =
    where_all _ _ _ _ _ _ c.read_input.ensures.first c.in-Ok.ensures.whole c.in-Ok.ensures.ended
    (λ seen first whole ended. writes-answered _ c.answer.result _ _ c.as_slice.result.now seen (whole ∙ sym c.as_slice.ensures.value) ended c.answer.ensures.written)
