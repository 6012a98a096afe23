use Rattle.report_reading.specs.LineFields.{texts}
use Rattle.report_reading.proofs.LineTexts.{path-positive}
use Rattle.report_reading.proofs.draft.Draft.take_path_or_cert.Goals as goal

pub push-requires : goal.push-requires
push-requires c =
    path-positive c.args.labels.now c.args.self.now.solved.paths (texts c.args.fields.now) (c.in_ok-path.path, c.in_ok-path.weight) c.in_ok-path.ensures.ok
