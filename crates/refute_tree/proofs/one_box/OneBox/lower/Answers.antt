use Rattle.std.proofs.Common.{◌<◌, ◌∷◌, length, refl}
use Rattle.std.specs.Prelude.{reverse}
use Rattle.std.proofs.lemmas.List.Elements.{All-head, All-tail}
use Rattle.std.specs.Vec.{with_item}
use Rattle.decomposition.specs.declared.Range.{Range}
use Rattle.refute_tree.specs.declared.choice.Choice.TheVariants.{Upper}
use Rattle.refute_tree.specs.declared.one_box.OneBox.{OneBox}
use Rattle.refute_tree.specs.Choices.{slot_of}
use Rattle.refute_tree.proofs.Leading.{range_led, lo_box, place_is}
use Rattle.refute_tree.proofs.one_box.OneBox.lower.Goals as goal

pub returns-clause-place : goal.returns-clause-place
returns-clause-place c =
    let old : OneBox = c.args.self.now in
    let g = c.args.net.now in
    let k = c.args.slot in
    let cs = reverse old.choices.items in
    let q : Range = record { lo = c.args.lo; hi = c.index_mut.result.now.hi } in
    let new : OneBox = record { ranges = with_item old.ranges k q; links = old.links; choices = old.choices } in
    let led = c.requires.led in
    let inside : k < length old.ranges.items = All-head (λ d. slot_of d < length old.ranges.items) (Upper k c.args.lo) cs led.within in
    let rest = All-tail (λ d. slot_of d < length old.ranges.items) (Upper k c.args.lo) cs led.within in
    record {
      box = range_led g (Upper k c.args.lo ∷ cs) cs old new k q led inside refl refl led.choices refl rest;
      none = refl;
      place = place_is new _ cs (lo_box g (Upper k c.args.lo ∷ cs) cs old new k q led inside refl refl led.choices refl rest c.index_mut.result.now c.index_mut.ensures.value refl) refl;
      room = refl;
    }
