-- Maximal safe runs found along the paths of an answer, place by place.
use Rattle.std.proofs.Common.{◌≡◌, ◌≤◌, ◌<◌, ℕ, ◌+◌, ◌-◌, List, [], ◌∷◌, ◌++◌, length, slice_index, drop, true, false, refl, sym, ap, ◌∙◌, subst, arith, inl, inr, append-nil}
use Rattle.std.specs.Prelude.{Contains}
use Rattle.std.proofs.lemmas.Bool.{cases_eq, cases_lt, both_ways}
use Rattle.std.proofs.lemmas.List.{map_push}
use Rattle.std.proofs.lemmas.List.Elements.{All-push, Contains-append_left, Contains-push}
use Rattle.decomposition.specs.Graph.{Graph, IsRun, contains_run}
use Rattle.decomposition.specs.Answer.{entry_at}
use Rattle.decomposition.specs.SafeRuns.{IsSafeFor, IsMaximal}
use Rattle.decomposition.proofs.Extremes.{contains_run-middle, safe-part}
use Rattle.safe_paths.specs.Windows.{part}
use Rattle.safe_paths.specs.Places.{IsPlaceIn, run_at, runs_at, Finds}
use Rattle.safe_paths.specs.declared.places.Place.{Place}
use Rattle.safe_paths.proofs.Parts.{part-longer, part-none, part-cons}

module _ (g : Graph) (flow : ℕ → ℕ) (path : List ℕ) where
  -- a shorter part of a safe part is safe
  safe-front : (i j k : ℕ) → i < j → j ≤ k → k ≤ length path → IsSafeFor g flow (part path i k) → IsSafeFor g flow (part path i j)
  safe-front i j k some longer within safe =
      let cons = part-cons path i j some (omega arith) in
      subst (IsSafeFor g flow) (sym cons)
      (safe-part g flow [] (slice_index path i) (part path (i + 1) j) (drop (j - i) (part path i k))
      (subst (λ r. IsSafeFor g flow (r ++ drop (j - i) (part path i k))) cons (subst (IsSafeFor g flow) (part-longer path i j k longer) safe)))

  pub safe-rest : (i j : ℕ) → i + 1 < j → j ≤ length path → IsSafeFor g flow (part path i j) → IsSafeFor g flow (part path (i + 1) j)
  safe-rest i j some within safe =
      let cons = part-cons path (i + 1) j some within in
      let all : part path i j ≡ (slice_index path i ∷ []) ++ (part path (i + 1) j ++ [])
      = part-cons path i j (omega arith) within ∙ ap (λ r. slice_index path i ∷ r) (sym (append-nil (part path (i + 1) j))) in
      subst (IsSafeFor g flow) (sym cons)
      (safe-part g flow (slice_index path i ∷ []) (slice_index path (i + 1)) (part path (i + 1 + 1) j) []
      (subst (λ r. IsSafeFor g flow ((slice_index path i ∷ []) ++ (r ++ []))) cons (subst (IsSafeFor g flow) all safe)))

  -- a safe part is not empty
  pub safe-some : (i j : ℕ) → i ≤ j → IsSafeFor g flow (part path i j) → i < j
  safe-some i j ordered safe =
      elim (cases_eq i j) [
        | inl same ↦
            let none : part path i j ≡ [] = ap (part path i) (sym same) ∙ part-none path i in
            absurd (both_ways false refl (subst (IsRun g) none safe.run))
        | inr other ↦ omega arith
      ]

  -- a maximal safe part from a place on is the longest safe part from there on
  maximal-longest : (i j k : ℕ) → i < j → j ≤ length path → IsSafeFor g flow (part path i j) → (j < length path → ¬ IsSafeFor g flow (part path i (j + 1)))
      → i ≤ k → k ≤ length path → IsMaximal (IsSafeFor g flow) (part path i k) → part path i k ≡ part path i j
  maximal-longest i j k some within safe longest ordered end maximal =
      elim (cases_lt j k) [
        | inl beyond ↦ absurd (longest (omega arith) (safe-front i (j + 1) k (omega arith) (omega arith) end maximal.holds))
        | inr before ↦
            let contains : contains_run (part path i j) (part path i k) ≡ true
            = subst (λ l. contains_run l (part path i k) ≡ true) (sym (part-longer path i k j before)) (contains_run-middle [] (part path i k) (drop (k - i) (part path i j))) in
            sym (maximal.maximal (part path i j) safe contains)
      ]

-- a maximal safe run at a place of a path is the longest safe part from there on
pub only-longest : (g : Graph) (flow : ℕ → ℕ) (a : List (List ℕ × ℕ)) (k : ℕ) (path : List ℕ) (i j : ℕ) → path ≡ (entry_at a k).0 → i < j → j ≤ length path → IsSafeFor g flow (part path i j)
    → (j < length path → ¬ IsSafeFor g flow (part path i (j + 1))) → (p : Place) → IsPlaceIn a p → p.path ≡ k → p.from ≡ i → IsMaximal (IsSafeFor g flow) (run_at a p) → run_at a p ≡ part path i j
only-longest g flow a k path i j is some within safe longest p there same at maximal =
    let list : (entry_at a p.path).0 ≡ path = ap (λ (m : ℕ). (entry_at a m).0) same ∙ sym is in
    let run : run_at a p ≡ part path i p.to = ap (λ (l : List ℕ). part l p.from p.to) list ∙ ap (λ (n : ℕ). part path n p.to) at in
    run
    ∙ maximal-longest g flow path i j p.to some within safe longest (omega (arith, there.ordered)) (omega (arith, there.within, ap (λ (l : List ℕ). length l) list))
    (subst (IsMaximal (IsSafeFor g flow)) run maximal)

module _ (P : List ℕ → Type 0) (a : List (List ℕ × ℕ)) where
  -- no run from this place on has the property
  pub Finds-kept : (k i : ℕ) (places : List Place) → Finds P a k i places → ((p : Place) → IsPlaceIn a p → p.path ≡ k → p.from ≡ i → P (run_at a p) → ⊥) → Finds P a k (i + 1) places
  Finds-kept k i places found none = record {
    within = found.within;
    each = found.each;
    all = λ p there before has. elim before [
      | inl earlier ↦ found.all p there (inl earlier) has
      | inr (same, earlier) ↦ elim (cases_eq p.from i) [ inl here ↦ absurd (none p there same here has) | inr less ↦ found.all p there (inr (same, omega arith)) has ]
    ];
  }

  -- the run at a place is the only one from there on that has it
  pub Finds-push : (k i : ℕ) (places : List Place) (q : Place) → Finds P a k i places → IsPlaceIn a q → P (run_at a q)
      → ((p : Place) → IsPlaceIn a p → p.path ≡ k → p.from ≡ i → P (run_at a p) → run_at a p ≡ run_at a q) → Finds P a k (i + 1) (places ++ q ∷ [])
  Finds-push k i places q found in_place has only = record {
    within = All-push (IsPlaceIn a) places q found.within in_place;
    each = All-push (λ p. P (run_at a p)) places q found.each has;
    all = λ p there before holds.
        let now = map_push (run_at a) places q in
        let old : Contains (runs_at a places) (run_at a p) → Contains (runs_at a (places ++ q ∷ [])) (run_at a p)
        = λ c. subst (λ l. Contains l (run_at a p)) (sym now) (Contains-append_left (runs_at a places) (run_at a q ∷ []) (run_at a p) c) in
        elim before [
          | inl earlier ↦ old (found.all p there (inl earlier) holds)
          | inr (same, earlier) ↦ elim (cases_eq p.from i) [
            | inl here ↦
                subst (λ r. Contains (runs_at a (places ++ q ∷ [])) r) (sym (only p there same here holds))
                (subst (λ l. Contains l (run_at a q)) (sym now) (Contains-push (runs_at a places) (run_at a q)))
            | inr less ↦ old (found.all p there (inr (same, omega arith)) holds)
          ]
        ];
  }

  -- a path is searched to its end
  pub Finds-next : (k n : ℕ) (places : List Place) → Finds P a k n places → n ≡ length (entry_at a k).0 → ((p : Place) → IsPlaceIn a p → P (run_at a p) → p.from < p.to) → Finds P a (k + 1) 0 places
  Finds-next k n places found end some = record {
    within = found.within;
    each = found.each;
    all = λ p there before has. elim before [
      | inr (same, earlier) ↦ absurd (omega arith)
      | inl earlier ↦ elim (cases_eq p.path k) [
        | inl here ↦
            let size : length (entry_at a p.path).0 ≡ length (entry_at a k).0 = ap (λ (m : ℕ). length (entry_at a m).0) here in
            let inside : p.to ≤ length (entry_at a p.path).0 = there.within in
            let more : p.from < p.to = some p there has in
            found.all p there (inr (here, omega arith)) has
        | inr other ↦ found.all p there (inl (omega arith)) has
      ]
    ];
  }
