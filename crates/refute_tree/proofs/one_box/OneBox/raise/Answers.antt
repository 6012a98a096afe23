use Rattle.std.proofs.Common.{◌≡◌, ◌<◌, ◌≤◌, [], ◌∷◌, ◌++◌, length, ◌∙◌, sym, refl, arith, rules, subst}
use Rattle.std.specs.Prelude.{reverse, vec_capacity}
use Rattle.std.proofs.lemmas.List.Elements.{All-cons, All-head, All-tail}
use Rattle.std.specs.Vec.{with_item}
use Rattle.decomposition.specs.Boxes.{slot_at}
use Rattle.decomposition.specs.Tokens.{with_hi, with_lo}
use Rattle.decomposition.specs.declared.Range.{Range}
use Rattle.refute_tree.specs.declared.choice.Choice.{Choice}
use Rattle.refute_tree.specs.declared.choice.Choice.TheVariants.{Lower, Upper}
use Rattle.refute_tree.specs.declared.one_box.OneBox.{OneBox}
use Rattle.refute_tree.specs.Choices.{slot_of}
use Rattle.refute_tree.specs.OneBox.{box_of, Comes}
use Rattle.refute_tree.proofs.Leading.{range_led, comes, raised, raised_lo, box-length}
use Rattle.refute_tree.proofs.Placing.{bounds_at, box_of-set}
use Rattle.refute_tree.proofs.one_box.OneBox.raise.Goals as goal

pub returns-clause-place : goal.returns-clause-place
returns-clause-place c =
    let old : OneBox = c.args.self.now in
    let g = c.args.net.now in
    let k = c.args.slot in
    let cs = reverse old.choices.items in
    let lower : Choice = Lower k c.args.lo c.args.hi in
    let upper : Choice = Upper k c.index.result.now.lo in
    let q : Range = record { lo = c.args.lo; hi = c.args.hi } in
    let new : OneBox = record { ranges = with_item old.ranges k q; links = old.links; choices = c.push.new.self } in
    let led = c.requires.led in
    let inside : k < length old.ranges.items = All-head (λ d. slot_of d < length old.ranges.items) lower cs led.within in
    let rest = All-tail (λ d. slot_of d < length old.ranges.items) lower cs led.within in
    let within = All-cons (λ d. slot_of d < length old.ranges.items) upper cs inside rest in
    let items : c.push.new.self.items ≡ old.choices.items ++ upper ∷ [] = search rules in
    let room : old.links.room ≤ vec_capacity c.push.new.self = search rules in
    let b = box_of old.ranges.items old.links.links in
    let in_box : k < length b = omega (arith, inside, box-length old.ranges.items old.links.links) in
    let bounds = bounds_at old.ranges.items old.links.links k c.index.result.now inside c.index.ensures in
    let was : c.index.result.now.lo ≡ (slot_at (with_hi b k c.args.hi) k).lo = bounds.0 ∙ sym (raised_lo b k c.args.hi in_box) in (
      record { box = with_lo (with_hi b k c.args.hi) k c.args.lo; choices = Upper k (slot_at (with_hi b k c.args.hi) k).lo ∷ cs },
      refl,
      subst (λ l. Comes g old new (record { box = with_lo (with_hi b k c.args.hi) k c.args.lo; choices = Upper k l ∷ cs })) was
          (comes g old new old.choices.items upper _ items (range_led g (lower ∷ cs) (upper ∷ cs) old new k q led inside refl refl room refl within)
          (box_of-set old.ranges.items old.links.links k q inside ∙ sym (raised b k c.args.lo c.args.hi in_box)) refl),
    )
