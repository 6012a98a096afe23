-- A refutation shows one more than it refutes, and an antichain the width.
use Rattle.flow_solver.proofs.Floors.{none_shown}
use Rattle.flow_solver.proofs.counted.bound_by.Goals as goal

pub returns-in-None-clause-shows : goal.returns-in-None-clause-shows
returns-in-None-clause-shows c nodes i wide chain raised = none_shown nodes i c.args.antichain c.args.raised c.cert_of.result c.in-None.is (c.cert_of.ensures.shows nodes i wide chain)

pub returns-in-None-clause-rising : goal.returns-in-None-clause-rising
returns-in-None-clause-rising c g rising small = c.cert_of.ensures.rising g rising
