-- Walks and runs by their places, and the tests of code on lists of edges.
use Rattle.std.proofs.Common.{◌≡◌, ◌==◌, ℕ, zero, suc, ◌+◌, ◌-◌, ◌<◌, ◌∷◌, [], List, true, false, ◌&&◌, ◌||◌, length, take, drop, drop-cons, add-one, get_or, nat_eq, slice_index, refl, sym, ap, subst, ◌∙◌, arith, inl, inr}
use Rattle.std.specs.Cmp.Lexicographic.{pointwise}
use Rattle.std.proofs.lemmas.Bool.{cases_Bool, both_ways}
use Rattle.decomposition.specs.Graph.{Graph, edge_count, tail, head, is_source, is_sink, is_walk_from, walk_end, is_run, is_path, begins_with, contains_run}
use Rattle.decomposition.proofs.Walks.{walk-cons}

-- a walk ends at the head of its last edge
pub walk_end-last : (g : Graph) (v e : ℕ) (es : List ℕ) → walk_end g v (e ∷ es) ≡ head g (slice_index (e ∷ es) (length es))
walk_end-last g v e [] = refl
walk_end-last g v e (f ∷ fs) = walk_end-last g (head g e) f fs

-- a path is a run that leaves a source by its first edge and enters a sink by its last one
pub is_path-by_ends : (g : Graph) (es : List ℕ) → is_run g es ≡ true → is_path g es ≡ (is_source g (tail g (slice_index es 0)) && is_sink g (head g (slice_index es (length es - 1))))
is_path-by_ends g [] run = absurd (both_ways false refl run)
is_path-by_ends g (e ∷ es) run =
    let last : length es ≡ length (e ∷ es) - 1 = omega arith in
    let end : walk_end g (head g e) es ≡ head g (slice_index (e ∷ es) (length (e ∷ es) - 1)) = walk_end-last g (tail g e) e es ∙ ap (λ k. head g (slice_index (e ∷ es) k)) last in
    rw run (ap (λ v. is_source g (tail g e) && is_sink g v) end)

-- what is no run is no path
pub is_path-from_run : (g : Graph) (es : List ℕ) → is_run g es ≡ false → is_path g es ≡ false
is_path-from_run g [] none = refl
is_path-from_run g (e ∷ es) none =
    elim (cases_Bool (is_source g (tail g e))) [ inl source ↦ rw (source, none) refl | inr other ↦ rw other refl ]

-- the entries of a walk are edges
pub walk-place : (g : Graph) (v : ℕ) (es : List ℕ) (k : ℕ) → is_walk_from g v es ≡ true → k < length es → slice_index es k < edge_count g
walk-place g v [] k walk h = absurd (omega arith)
walk-place g v (e ∷ es) zero walk h = (walk-cons g v e es walk).inside
walk-place g v (e ∷ es) (suc k) walk h = walk-place g (head g e) es k (walk-cons g v e es walk).rest (omega arith)

pub run-place : (g : Graph) (es : List ℕ) (k : ℕ) → is_run g es ≡ true → k < length es → slice_index es k < edge_count g
run-place g [] k run h = absurd (omega arith)
run-place g (e ∷ es) k run h = walk-place g (tail g e) (e ∷ es) k run h

pub run-length : (g : Graph) (es : List ℕ) → is_run g es ≡ true → 0 < length es
run-length g [] run = absurd (both_ways false refl run)
run-length g (e ∷ es) run = omega arith

same_flip : (a b : ℕ) → (a == b) ≡ (b == a)
same_flip a b = grind arith

-- what the `starts_with` of slices answers
pub begins_with-pointwise : (es fs : List ℕ) → begins_with es fs ≡ pointwise nat_eq fs (take (length fs) es)
begins_with-pointwise es [] = refl
begins_with-pointwise [] (f ∷ fs) = refl
begins_with-pointwise (e ∷ es) (f ∷ fs) = ap (λ b. b && begins_with es fs) (same_flip e f) ∙ ap (λ b. (f == e) && b) (begins_with-pointwise es fs)

pub begins_with-none : (fs : List ℕ) → (length fs == 0) ≡ begins_with [] fs
begins_with-none [] = refl
begins_with-none (f ∷ fs) = grind arith

-- a list in which a run does not stand at the beginning, and what is left behind its first entry
pub contains_run-step : (path run : List ℕ) (i : ℕ) → i < length path → begins_with (drop i path) run ≡ false → contains_run (drop (i + 1) path) run ≡ contains_run (drop i path) run
contains_run-step path run i there other =
    let cons : drop i path ≡ get_or path i 0 ∷ drop (i + 1) path = rw (add-one) (drop-cons path i 0 there) in
    let here : begins_with (get_or path i 0 ∷ drop (i + 1) path) run ≡ false = subst (λ (xs : List ℕ). begins_with xs run ≡ false) cons other in
    sym (ap (λ (xs : List ℕ). contains_run xs run) cons ∙ ap (λ b. b || contains_run (drop (i + 1) path) run) here)
