-- The answer of a search that has found one.
use Rattle.std.proofs.Common.{◌≡◌, ℕ, ◌∙◌, sym, true≢false, List, ◌∷◌, Some, None}
use Rattle.decomposition.specs.declared.Mode.{Mode}
use Rattle.decomposition.specs.declared.Token.{Token}
use Rattle.decomposition.specs.declared.Decision.{Decision}
use Rattle.decomposition.specs.Instance.{IsInstance}
use Rattle.decomposition.specs.Boxes.{Slot}
use Rattle.decomposition.specs.Tokens.{rule_token}
use Rattle.decomposition.specs.Held.{box_answer, Settles}
use Rattle.decomposition.specs.Searches.{EndsFound}
use Rattle.decomposition.proofs.Open.{open_boxes_answer}
use Rattle.decomposition.proofs.Rules.{rule_token-None}
use Rattle.refute_tree.specs.Front.{Boxes, IsOpenAnswer, IsClosedOrNone}
use Rattle.branch_bound.specs.Kept.{Agree}
use Rattle.branch_bound.specs.declared.search.Outcome.TheVariants.{Found}
use Rattle.branch_bound.proofs.Going.{whole}
use Rattle.branch_bound.proofs.Ending.{rule_at, left_by}

module _ (f : Boxes) (d : Decision) (nodes : ℕ) (ts : List Token) (agree : Agree f d nodes ts (Some Found)) where
  -- no token may be taken at the first box
  pub not_closed : IsClosedOrNone f → ⊥
  not_closed closed =
      let out = agree.ended in
      let none : rule_token f.instance f.limit out.0 ≡ None = sym (rule_at f (out.0 ∷ out.1) out.2) ∙ out.3 in
      let legal = closed out.0 out.1 out.2 in
      true≢false (sym legal.1 ∙ rule_token-None f.instance f.limit out.0 none legal.0)

  -- the first box is the one that the rule list leaves
  pub found_at : (a : List (List ℕ × ℕ)) → IsOpenAnswer f a → (b : List Slot) × EndsFound f.instance d nodes b × (a ≡ box_answer f.instance b)
  found_at a open' =
      let all = whole f d nodes ts (Some Found) agree agree.ended.3 in (
        open'.first,
        record {
          others = open'.others;
          left = left_by f d nodes ts (Some Found) (open'.first ∷ open'.others) agree all open'.boxes;
          open' = rw (← agree.limit) open'.open';
        },
        open'.answer,
      )

  pub settles_all : (a : List (List ℕ × ℕ)) → IsOpenAnswer f a → (mode : Mode) → IsInstance mode f.instance → Settles f.instance d a
  settles_all a open' mode valid =
      let found = found_at a open' in
      rw found.2 (open_boxes_answer mode f.instance d _ found.0 found.1.others valid found.1.left found.1.open')
