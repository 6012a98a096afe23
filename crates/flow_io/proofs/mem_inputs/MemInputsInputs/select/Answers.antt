use Rattle.std.proofs.Common.{◌≡◌, ◌∙◌, sym, ap, Option, Some, List, ℕ, bytes_eq}
use Rattle.std.specs.List.{position}
use Rattle.flow_io.specs.Outside.{Selected}
use Rattle.flow_io.specs.Store.{Store, input_at, after_call}
use Rattle.flow_io.proofs.Places.{selected_at_place}
use Rattle.flow_io.proofs.mem_inputs.MemInputsInputs.select.Goals as goal

same_inputs : (c : goal.After-self-in-Some-1) → c.self-2.inside.inputs.items ≡ c.args.self.now.inputs
same_inputs c =
    let inputs_of : Store → List (List ℕ × List ℕ) = λ s. s.inputs in
    ap inputs_of c.self-2.view_is ∙ ap inputs_of c.count_call.ensures.counts ∙ ap inputs_of c.self.view_is

found_at : (c : goal.After-self-in-Some-1) →
    position (λ input. bytes_eq input.0 c.args.name.now) c.args.self.now.inputs ≡ Some c.in-Some.input
found_at c =
    let found_in : List (List ℕ × List ℕ) → Option ℕ = λ inputs. position (λ input. bytes_eq input.0 c.args.name.now) inputs in
    sym (ap found_in (c.as_slice.ensures.value ∙ same_inputs c)) ∙ sym c.place_of.ensures ∙ c.in-Some.is

pub returns-in-Some-clause-started : goal.returns-in-Some-clause-started
returns-in-Some-clause-started c =
    let one_in : List (List ℕ × List ℕ) → Selected =
    λ inputs. record { name = (input_at inputs c.in-Some.input).0; left = (input_at inputs c.in-Some.input).1 } in
    let select_in : Store → Store = λ s. record s { selected = Some (one_in c.self-2.inside.inputs.items) } in
    let count_in : Store → Store = λ s. after_call (Some (one_in c.self-2.inside.inputs.items)) s in
    ap select_in c.self-2.view_is ∙ ap select_in c.count_call.ensures.counts ∙ ap count_in c.self.view_is
    ∙ ap (λ (one : Selected). after_call (Some one) c.args.self.now) (ap one_in (same_inputs c) ∙ selected_at_place _ _ _ (found_at c))
