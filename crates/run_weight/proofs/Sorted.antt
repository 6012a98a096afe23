-- Entries sorted one after another.
use Rattle.std.proofs.Common.{◌≡◌, ℕ, List, [], ◌∷◌, ◌++◌, length, sym, ap, ◌∙◌, subst, arith, inr}
use Rattle.std.specs.Prelude.{All}
use Rattle.std.proofs.lemmas.List.Elements.{All-push}
use Rattle.decomposition.specs.Graph.{Graph}
use Rattle.decomposition.specs.Answer.{weight_on}
use Rattle.run_weight.specs.Sorting.{IsCarrier, IsOther, IsSorted, Sorts}
use Rattle.run_weight.specs.declared.sorting.Sorting.{Sorting}
use Rattle.run_weight.proofs.Weights.{weight_on-push}

module _ (g : Graph) (r : List ℕ) (a : List (List ℕ × ℕ)) (s t : Sorting) (p : List ℕ) (w : ℕ) (sorts : Sorts g r a s) where
  pub Sorts-carrier : IsCarrier g r (p, w) → t.carriers.items ≡ s.carriers.items ++ (p, w) ∷ [] → t.pending.items ≡ s.pending.items → t.settled.items ≡ s.settled.items → Sorts g r (a ++ (p, w) ∷ []) t
  Sorts-carrier carrier more same settled = record {
    carriers = subst (All (IsCarrier g r)) (sym more) (All-push (IsCarrier g r) s.carriers.items (p, w) sorts.carriers carrier);
    pending = subst (All (IsOther g r)) (sym same) sorts.pending;
    settled = settled ∙ sorts.settled;
    weights = λ e. omega (
      arith,
      sorts.weights e,
      ap (λ l. weight_on l e) more,
      ap (λ l. weight_on l e) same,
      ap (λ l. weight_on l e) settled,
      weight_on-push s.carriers.items p w e,
      weight_on-push a p w e,
    );
  }

  pub Sorts-other : IsOther g r (p, w) → t.carriers.items ≡ s.carriers.items → t.pending.items ≡ s.pending.items ++ (p, w) ∷ [] → t.settled.items ≡ s.settled.items → Sorts g r (a ++ (p, w) ∷ []) t
  Sorts-other other same more settled = record {
    carriers = subst (All (IsCarrier g r)) (sym same) sorts.carriers;
    pending = subst (All (IsOther g r)) (sym more) (All-push (IsOther g r) s.pending.items (p, w) sorts.pending other);
    settled = settled ∙ sorts.settled;
    weights = λ e. omega (
      arith,
      sorts.weights e,
      ap (λ l. weight_on l e) more,
      ap (λ l. weight_on l e) same,
      ap (λ l. weight_on l e) settled,
      weight_on-push s.pending.items p w e,
      weight_on-push a p w e,
    );
  }

pub IsSorted-from : (g : Graph) (r places : List ℕ) (a : List (List ℕ × ℕ)) (s : Sorting) → Sorts g r a s → IsSorted g r places s
IsSorted-from g r places a s sorts =
    let none : length s.settled.items ≡ 0 = ap (λ l. length l) sorts.settled in
    record {
      carriers = sorts.carriers;
      pending = sorts.pending;
      settled = λ k d there. absurd (omega (arith, none, there));
      done = inr (λ k d there. absurd (omega (arith, none, there)));
    }
