use Rattle.std.proofs.Common.{◌≡◌, ◌≤◌, [], ◌∷◌, ◌++◌, ap, ◌∙◌, refl, rules}
use Rattle.std.specs.Prelude.{vec_capacity}
use Rattle.refute_tree.specs.declared.choice.Choice.TheVariants.{Step, Lower, Upper}
use Rattle.refute_tree.specs.declared.one_box.OneBox.{OneBox}
use Rattle.refute_tree.proofs.Leading.{goes_on, led_popped}
use Rattle.refute_tree.proofs.one_box.OneBox.go_on.Goals as goal

pub next_step-requires-clause-led : goal.next_step-requires-clause-led
next_step-requires-clause-led c =
    let old : OneBox = c.args.self.now in
    let popped : OneBox = record { ranges = old.ranges; links = old.links; choices = c.pop.new.self } in
    let items : old.choices.items ≡ c.pop.new.self.items ++ c.unwrap-choice.result ∷ [] = search rules in
    let room : old.links.room ≤ vec_capacity c.pop.new.self = search rules in
    led_popped c.args.net.now old popped (Step c.in-Step.slot c.in-Step.edge) refl refl (items ∙ ap (λ d. c.pop.new.self.items ++ d ∷ []) c.in-Step.is) room c.requires.kept

pub raise-requires-clause-led : goal.raise-requires-clause-led
raise-requires-clause-led c =
    let old : OneBox = c.args.self.now in
    let popped : OneBox = record { ranges = old.ranges; links = old.links; choices = c.pop.new.self } in
    let items : old.choices.items ≡ c.pop.new.self.items ++ c.unwrap-choice.result ∷ [] = search rules in
    let room : old.links.room ≤ vec_capacity c.pop.new.self = search rules in
    led_popped c.args.net.now old popped (Lower c.in-Lower.slot c.in-Lower.lo c.in-Lower.hi) refl refl (items ∙ ap (λ d. c.pop.new.self.items ++ d ∷ []) c.in-Lower.is) room c.requires.kept

pub lower-requires : goal.lower-requires
lower-requires c =
    let old : OneBox = c.args.self.now in
    let popped : OneBox = record { ranges = old.ranges; links = old.links; choices = c.pop.new.self } in
    let items : old.choices.items ≡ c.pop.new.self.items ++ c.unwrap-choice.result ∷ [] = search rules in
    let room : old.links.room ≤ vec_capacity c.pop.new.self = search rules in
    record { led = led_popped c.args.net.now old popped (Upper c.in-Upper.slot c.in-Upper.lo) refl refl (items ∙ ap (λ d. c.pop.new.self.items ++ d ∷ []) c.in-Upper.is) room c.requires.kept }

pub returns-in-Step-clause-place : goal.returns-in-Step-clause-place
returns-in-Step-clause-place c =
    let old : OneBox = c.args.self.now in
    let popped : OneBox = record { ranges = old.ranges; links = old.links; choices = c.pop.new.self } in
    let items : old.choices.items ≡ c.pop.new.self.items ++ c.unwrap-choice.result ∷ [] = search rules in
    goes_on c.args.net.now (Step c.in-Step.slot c.in-Step.edge) old popped c.next_step.new.self c.next_step.result refl refl (items ∙ ap (λ d. c.pop.new.self.items ++ d ∷ []) c.in-Step.is) c.next_step.ensures.place
