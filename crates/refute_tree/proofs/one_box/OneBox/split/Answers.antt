use Rattle.std.proofs.Common.{◌≡◌, ◌+◌, ◌<◌, ◌≤◌, [], ◌∷◌, ◌++◌, length, set, refl, rules, subst}
use Rattle.std.specs.Prelude.{reverse, vec_capacity}
use Rattle.std.proofs.lemmas.List.Elements.{All-cons}
use Rattle.decomposition.specs.declared.Range.{Range}
use Rattle.refute_tree.specs.declared.choice.Choice.{Choice}
use Rattle.refute_tree.specs.declared.choice.Choice.TheVariants.{Lower}
use Rattle.refute_tree.specs.declared.one_box.OneBox.{OneBox}
use Rattle.std.specs.Vec.{with_item}
use Rattle.decomposition.specs.Tokens.{with_hi}
use Rattle.refute_tree.specs.Choices.{slot_of}
use Rattle.refute_tree.specs.OneBox.{box_of, Comes}
use Rattle.refute_tree.proofs.Leading.{range_led, hi_box, comes}
use Rattle.refute_tree.proofs.Placing.{bounds_at}
use Rattle.refute_tree.proofs.one_box.OneBox.split.Goals as goal

pub returns-clause-place : goal.returns-clause-place
returns-clause-place c =
    let old : OneBox = c.args.self.now in
    let g = c.args.net.now in
    let k = c.args.slot in
    let q : Range = record { lo = c.index_mut.result.now.lo; hi = c.args.middle } in
    let ch : Choice = Lower k (c.args.middle + 1) c.index.result.now.hi in
    let new : OneBox = record { ranges = with_item old.ranges k q; links = old.links; choices = c.push.new.self } in
    let items : c.push.new.self.items ≡ old.choices.items ++ ch ∷ [] = search rules in
    let room : old.links.room ≤ vec_capacity c.push.new.self = search rules in
    let ranges : new.ranges.items ≡ set old.ranges.items k q = refl in
    let bounds = bounds_at old.ranges.items old.links.links k c.index.result.now c.requires.slot c.index.ensures in
    let within = All-cons (λ d. slot_of d < length old.ranges.items) ch (reverse old.choices.items) c.requires.slot c.requires.kept.within in
    subst (λ h. Comes g old new (record { box = with_hi (box_of old.ranges.items old.links.links) k c.args.middle; choices = Lower k (c.args.middle + 1) h ∷ reverse old.choices.items })) bounds.1
    (comes g old new old.choices.items ch _ items
    (range_led g (reverse old.choices.items) (ch ∷ reverse old.choices.items) old new k q c.requires.kept c.requires.slot ranges refl room refl within)
    (hi_box g (reverse old.choices.items) (ch ∷ reverse old.choices.items) old new k q c.requires.kept c.requires.slot ranges refl room refl within c.index_mut.result.now c.index_mut.ensures.value refl)
    refl)
