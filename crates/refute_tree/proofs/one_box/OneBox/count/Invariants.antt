use Rattle.refute_tree.proofs.Counting.{IsCountedUpTo}
use Rattle.refute_tree.proofs.one_box.OneBox.count.Given as goal

abbrev pub invariant-loop-choice : goal.invariant-loop-choice
invariant-loop-choice l = IsCountedUpTo l.net l.self.choices.items l.choice-index l.count
