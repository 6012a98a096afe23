use Rattle.std.proofs.Common.{length}
use Rattle.refute_tree.specs.Ends.{GoWith}
use Rattle.refute_tree.proofs.Leading.{UndoesSame}
use Rattle.refute_tree.proofs.one_box.OneBox.undo.Given as goal

-- the undo gives from here what it gives from the start
abbrev pub invariant-loop-self : goal.invariant-loop-self
invariant-loop-self l = record {
  same : UndoesSame l.net l.initial.self l.self;
  beside : GoWith l.net l.initial.beside.known.rules.now l.self.links l.beside;
}

abbrev pub decreases-loop-self : goal.decreases-loop-self
decreases-loop-self l = length l.self.choices.items
