use Rattle.std.proofs.Common.{false}
use Rattle.flow_io.specs.declared.status.Status.TheVariants.{Clean}
use Rattle.node_weights.specs.SplitText.{split_text}
use Rattle.flownodes_cli.specs.Answering.{Told}
use Rattle.flownodes_cli.specs.RightTexts.{IsAnswerTo}
use Rattle.flownodes_cli.proofs.Outputs.{answered-in, answer-split, answer-solved}
use Rattle.flownodes_cli.proofs.answering.answer_graph.Goals as goal

pub returns-then-split-clause-written : goal.returns-then-split-clause-written
returns-then-split-clause-written g c =
    answered-in (Told (split_text c.args.graph.now) Clean) (IsAnswerTo c.args.split c.args.graph.now) _ _ _ (answer-split c.args.split c.args.graph.now c.if-split.true) c.write_split.ensures.written

pub returns-else-split-clause-written : goal.returns-else-split-clause-written
returns-else-split-clause-written g c =
    answered-in (IsAnswerTo false c.args.graph.now) (IsAnswerTo c.args.split c.args.graph.now) _ _ _ (answer-solved c.args.split c.args.graph.now c.if-split.false) c.write_routes.ensures.written
