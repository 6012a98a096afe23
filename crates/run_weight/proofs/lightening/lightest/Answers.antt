use Rattle.std.proofs.Common.{slice_index}
use Rattle.run_weight.proofs.Attaining.{load-lightest}
use Rattle.run_weight.proofs.lightening.lightest.Goals as goal

pub returns-in_ok-light-in-Ok-clause-load : goal.returns-in_ok-light-in-Ok-clause-load
returns-in_ok-light-in-Ok-clause-load c =
    load-lightest c.args.net.now (slice_index c.args.flow.now) c.args.run.now c.in_ok-light-in-Ok.light c.edges.ensures.net c.requires.balanced c.requires.run c.in_ok-light-in-Ok.ensures.lightest
