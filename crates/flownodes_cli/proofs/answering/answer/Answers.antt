use Rattle.flownodes_cli.specs.RightTexts.{IsOutput, IsAnswerTo}
use Rattle.flownodes_cli.proofs.Outputs.{answered-in, output-of}
use Rattle.flownodes_cli.proofs.answering.answer.Goals as goal

pub returns-in-Ok-clause-written : goal.returns-in-Ok-clause-written
returns-in-Ok-clause-written g c =
    answered-in (IsAnswerTo c.args.split c.in-Ok.graph) (IsOutput c.args.split c.args.text.now) _ _ _ (output-of c.args.split c.args.text.now c.in-Ok.graph c.in-Ok.ensures.ok)
    c.answer_graph.ensures.written
