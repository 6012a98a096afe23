use Rattle.flowruns_cli.proofs.RunTexts.{TellsFirst}
use Rattle.flowruns_cli.proofs.answers.add_runs.Given as goal

abbrev pub invariant-loop-k : goal.invariant-loop-k
invariant-loop-k l = TellsFirst l.graph l.k l.fn.text.items l.text.items
