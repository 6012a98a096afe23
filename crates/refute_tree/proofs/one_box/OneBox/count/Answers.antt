use Rattle.std.proofs.Common.{◌≡◌, ◌<◌, length, take, get_or, sym, ap, subst, arith}
use Rattle.std.specs.Prelude.{sum_by}
use Rattle.std.proofs.lemmas.List.{take_all}
use Rattle.std.proofs.lemmas.List.Elements.{All-get_or}
use Rattle.refute_tree.specs.declared.choice.Choice.TheVariants.{Step}
use Rattle.refute_tree.specs.Choices.{HasEdge, coming, waiting}
use Rattle.refute_tree.specs.OneBox.{place_of}
use Rattle.refute_tree.proofs.Counting.{counted_all}
use Rattle.refute_tree.proofs.one_box.OneBox.count.Goals as goal

pub to_come-count-requires : goal.to_come-count-requires
to_come-count-requires c =
    let g = c.args.net.now in
    let a = c.args.self.now in
    let same = c.deref-choice-items.ensures.value in
    let k = c.loop-choice.choice-index in
    let inside : k < length a.choices.items = omega (arith, c.loop-choice-test.true, ap length same) in
    subst (λ l. HasEdge g (get_or l k (Step 0 0))) (sym same) (All-get_or (HasEdge g) a.choices.items k (Step 0 0) inside (counted_all g a c.requires.kept).edges)

pub returns : goal.returns
returns c =
    let g = c.args.net.now in
    let a = c.args.self.now in
    let k = c.loop-choice.choice-index in
    let all : take k a.choices.items ≡ a.choices.items = take_all k a.choices.items (omega (arith, c.loop-choice-test.false, ap length c.deref-choice-items.ensures.value)) in
    let count : length (waiting g (place_of a).box (place_of a).choices) ≡ sum_by (coming g) a.choices.items = (counted_all g a c.requires.kept).count in
    omega (arith, c.loop-choice.invariant.counted, ap (sum_by (coming g)) all, count)
