-- A weight added on the edges of a path, the units of booked paths, and what they leave of a flow.
use Rattle.std.proofs.Common.{◌≡◌, ◌≢◌, ◌==◌, ℕ, ◌+◌, ◌-◌, ◌<◌, ◌≤◌, ◌&&◌, nat_le, cond, true, List, [], ◌∷◌, ◌++◌, length, take, slice_index, slice_set, get_or-set_same, get_or-set_other, refl, sym, ap, ◌∙◌, ⊎_elim, arith, eqb-true, eq-eqb, ne_eqb}
use Rattle.std.specs.Prelude.{AllPairs}
use Rattle.std.specs.List.{list_all}
use Rattle.std.proofs.lemmas.Bool.{cases_eq, and_parts}
use Rattle.std.proofs.lemmas.List.{take_more}
use Rattle.decomposition.specs.Graph.{Graph, IsPath, is_path, edge_count, has_edge}
use Rattle.decomposition.specs.Answer.{IsAnswer, entry_at, weight_on}
use Rattle.decomposition.proofs.FewPaths.{weight_on-append}
use Rattle.decomposition.proofs.Root.{all-place}
use Rattle.greedy_paths.specs.Units.{AreUnits}
use Rattle.greedy_paths.proofs.TakingOff.{not_before, or-none, has_edge-push}

module _ (old : ℕ → ℕ) (path : List ℕ) (weight i : ℕ) (h : i < length path) where
  -- an edge at the place at hand has still what it had
  pub sums-here : (sums : List ℕ) → AllPairs (λ d e. d ≢ e) path → ((e : ℕ) → slice_index sums e ≡ old e + cond (has_edge (take i path) e) weight 0) → slice_index sums (slice_index path i) ≡ old (slice_index path i)
  sums-here sums once so_far = so_far (slice_index path i) ∙ rw (not_before path i h once) (omega arith)

  -- one more edge
  pub sums-more : (sums : List ℕ) → AllPairs (λ d e. d ≢ e) path → slice_index path i < length sums → ((e : ℕ) → slice_index sums e ≡ old e + cond (has_edge (take i path) e) weight 0)
      → (e : ℕ) → slice_index (slice_set sums (slice_index path i) (slice_index sums (slice_index path i) + weight)) e ≡ old e + cond (has_edge (take (i + 1) path) e) weight 0
  sums-more sums once inside so_far e =
      rw (take_more path i 0 h, has_edge-push (take i path) (slice_index path i) e)
      (⊎_elim
      (λ (same : e ≡ slice_index path i).
      let now : slice_index (slice_set sums (slice_index path i) (slice_index sums (slice_index path i) + weight)) (slice_index path i) ≡ slice_index sums (slice_index path i) + weight
      = get_or-set_same sums (slice_index path i) (slice_index sums (slice_index path i) + weight) 0 inside in
      rw (same, not_before path i h once, eq-eqb (slice_index path i) (slice_index path i) refl) (now ∙ ap (λ n. n + weight) (sums-here sums once so_far)))
      (λ (other : e ≢ slice_index path i).
      rw (ne_eqb e (slice_index path i) other, or-none (has_edge (take i path) e)) (get_or-set_other sums (slice_index path i) e (slice_index sums (slice_index path i) + weight) 0 other ∙ so_far e))
      (cases_eq e (slice_index path i)))

module _ (g : Graph) (booked : List (List ℕ × ℕ)) where
  -- the entry at a place is a path of weight 1
  pub entry-path : (i : ℕ) → IsAnswer g booked → i < length booked → IsPath g (entry_at booked i).0
  entry-path i answer there = (and_parts _ _ (all-place (λ entry. is_path g entry.0 && nat_le 1 entry.1) booked ([], 0) i answer there)).0

  pub entry-unit : (i : ℕ) → list_all (λ entry. entry.1 == 1) booked ≡ true → i < length booked → (entry_at booked i).1 ≡ 1
  entry-unit i units there = eqb-true _ 1 (all-place (λ (entry : List ℕ × ℕ). entry.1 == 1) booked ([], 0) i units there)

  -- the units of the entries before place i
  pub record CountsUnits (i : ℕ) (units : List ℕ) : Type 0 where
    pub of_entries : AreUnits g (take i booked) units
    pub small : (e : ℕ) → slice_index units e ≤ i

  one_more : (b : List ℕ) (e : ℕ) → cond (has_edge b e) 1 0 ≤ 1
  one_more b e = grind arith

  pub CountsUnits-more : (i : ℕ) (path units new : List ℕ) → i < length booked → path ≡ (entry_at booked i).0 → (entry_at booked i).1 ≡ 1 → length new ≡ length units
      → ((e : ℕ) → slice_index new e ≡ slice_index units e + cond (has_edge path e) 1 0) → CountsUnits i units → CountsUnits (i + 1) new
  CountsUnits-more i path units new there is_path unit count more so_far = record {
    of_entries = record {
      count = count ∙ so_far.of_entries.count;
      each = λ e inside.
          let whole : take (i + 1) booked ≡ take i booked ++ entry_at booked i ∷ [] = take_more booked i ([], 0) there in
          let on_entry : cond (has_edge path e) 1 0 ≡ cond (has_edge (entry_at booked i).0 e) (entry_at booked i).1 0
          = ap (λ p. cond (has_edge p e) 1 0) is_path ∙ ap (λ w. cond (has_edge (entry_at booked i).0 e) w 0) (sym unit) in
          omega (arith, more e, so_far.of_entries.each e inside, on_entry, ap (λ a. weight_on a e) whole, weight_on-append (take i booked) (entry_at booked i ∷ []) e);
    };
    small = λ e. omega (arith, more e, so_far.small e, one_more path e);
  }

  module _ (flow : List ℕ) where
    -- the edges before place e have what is left of their flow, the others their units
    pub record LeavesUnits (e : ℕ) (rest : List ℕ) : Type 0 where
      pub count : length rest ≡ edge_count g
      pub fits : (d : ℕ) → d < e → weight_on booked d ≤ slice_index flow d
      pub left : (d : ℕ) → d < e → slice_index rest d ≡ slice_index flow d - weight_on booked d
      pub ahead : (d : ℕ) → e ≤ d → d < edge_count g → slice_index rest d ≡ weight_on booked d
