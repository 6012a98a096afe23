use Rattle.graph_text.proofs.reader.BlockReader.finish.Goals as goal

pub returns-in-Ok-clause-ends : goal.returns-in-Ok-clause-ends
returns-in-Ok-clause-ends c = λ bytes stands. c.in-Ok.ensures.last bytes stands.holds
