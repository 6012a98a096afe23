use Rattle.std.proofs.Common.{◌-◌, ℕ, List, map, length, ap, ◌∙◌}
use Rattle.std.specs.Borrow.{Bor}
use Rattle.graph_text.proofs.Spelling.{read-back}
use Rattle.graph_text.proofs.constraints.Constraints.add_line.Goals as goal

pub add-requires : goal.add-requires
add-requires c = record {
  fields = read-back c.deref.result.now c.args.text.now (ap (λ (xs : List (Bor (List ℕ))). map (λ (field : Bor (List ℕ)). field.now) xs) c.deref.ensures.value ∙ c.in_ok-fields.ensures) (length c.deref.result.now - 1);
}
