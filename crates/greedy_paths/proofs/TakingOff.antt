-- A weight taken off the edges of a path, one after the other.
use Rattle.std.proofs.Common.{◌≡◌, ◌≢◌, ℕ, ◌+◌, ◌-◌, ◌<◌, ◌==◌, ◌||◌, Bool, true, false, List, [], ◌∷◌, ◌++◌, length, take, slice_index, slice_set, get_or-set_same, get_or-set_other, get_or-take, length-take, refl, sym, ap, ◌∙◌, ⊎_elim, arith, eqb-true, eq-eqb, ne_eqb}
use Rattle.std.specs.Prelude.{AllPairs}
use Rattle.std.proofs.lemmas.Bool.{cases_eq, cases_Bool}
use Rattle.std.proofs.lemmas.List.{take_more}
use Rattle.decomposition.specs.Graph.{has_edge}
use Rattle.decomposition.specs.Flow.{rest_after}
use Rattle.decomposition.proofs.Members.{any-place}

pub or-none : (b : Bool) → (b || false) ≡ b
or-none true = refl
or-none false = refl

-- one more edge at the end of a list
pub has_edge-push : (es : List ℕ) (f e : ℕ) → has_edge (es ++ f ∷ []) e ≡ (has_edge es e || (e == f))
has_edge-push [] f e = or-none (e == f)
has_edge-push (d ∷ es) f e = rw (has_edge-push es f e) (or-assoc (e == d) (has_edge es e) (e == f)) where
  or-assoc : (a b c : Bool) → (a || (b || c)) ≡ ((a || b) || c)
  or-assoc true b c = refl
  or-assoc false b c = refl

-- an edge at place i does not stand before it
pub not_before : (path : List ℕ) (i : ℕ) → i < length path → AllPairs (λ d e. d ≢ e) path → has_edge (take i path) (slice_index path i) ≡ false
not_before path i h once =
    ⊎_elim
    (λ (hit : has_edge (take i path) (slice_index path i) ≡ true).
    let at = any-place (λ e. slice_index path i == e) (take i path) 0 hit in
    let lt : at.0 < i = omega (arith, at.1, length-take i path) in
    let is : slice_index path i ≡ slice_index path at.0 = eqb-true _ _ at.2 ∙ get_or-take i path at.0 0 lt in
    absurd (once at.0 i 0 lt h (sym is)))
    (λ (free : has_edge (take i path) (slice_index path i) ≡ false). free)
    (cases_Bool (has_edge (take i path) (slice_index path i)))

module _ (old : ℕ → ℕ) (path : List ℕ) (weight i : ℕ) (h : i < length path) where
  -- an edge at the place at hand has still what it had
  pub rest-here : (rest : List ℕ) → AllPairs (λ d e. d ≢ e) path → ((e : ℕ) → slice_index rest e ≡ rest_after old (take i path) weight e) → slice_index rest (slice_index path i) ≡ old (slice_index path i)
  rest-here rest once so_far = so_far (slice_index path i) ∙ rw (not_before path i h once) (omega arith)

  -- one more edge
  pub rest-more : (rest : List ℕ) → AllPairs (λ d e. d ≢ e) path → slice_index path i < length rest → ((e : ℕ) → slice_index rest e ≡ rest_after old (take i path) weight e)
      → (e : ℕ) → slice_index (slice_set rest (slice_index path i) (slice_index rest (slice_index path i) - weight)) e ≡ rest_after old (take (i + 1) path) weight e
  rest-more rest once inside so_far e =
      rw (take_more path i 0 h, has_edge-push (take i path) (slice_index path i) e)
      (⊎_elim
      (λ (same : e ≡ slice_index path i).
      let now : slice_index (slice_set rest (slice_index path i) (slice_index rest (slice_index path i) - weight)) (slice_index path i) ≡ slice_index rest (slice_index path i) - weight
      = get_or-set_same rest (slice_index path i) (slice_index rest (slice_index path i) - weight) 0 inside in
      rw (same, not_before path i h once, eq-eqb (slice_index path i) (slice_index path i) refl) (now ∙ ap (λ n. n - weight) (rest-here rest once so_far)))
      (λ (other : e ≢ slice_index path i).
      rw (ne_eqb e (slice_index path i) other, or-none (has_edge (take i path) e)) (get_or-set_other rest (slice_index path i) e (slice_index rest (slice_index path i) - weight) 0 other ∙ so_far e))
      (cases_eq e (slice_index path i)))
