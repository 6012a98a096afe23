-- Where a path leaves a run, and what the exchange of ends there makes of it and of a path on the run.
use Rattle.std.proofs.Common.{◌≡◌, ◌≢◌, ℕ, zero, suc, ◌+◌, ◌<◌, ◌&&◌, ◌==◌, List, [], ◌∷◌, ◌++◌, length, take, drop, slice_index, get_or, cond, true, false, not, eqb, eq-eqb, eqb-true, refl, sym, ap, ◌∙◌, subst, arith, inl, inr, append_assoc, true≢false}
use Rattle.std.specs.List.{list_any, list_all}
use Rattle.std.proofs.lemmas.Bool.{cases_Bool, both_ways, false_from_ne_true, or_parts, and_parts, not-true}
use Rattle.std.specs.Prelude.{All}
use Rattle.std.proofs.lemmas.List.Elements.{All-from_get_or}
use Rattle.std.proofs.lemmas.List.{take-append-drop}
use Rattle.decomposition.proofs.Runs.{walk-place}
use Rattle.std.proofs.Math.Seq.{split_at}
use Rattle.decomposition.specs.Graph.{Graph, IsNet, IsPath, IsRun, edge_count, tail, head, is_walk_from, has_edge, contains_run, below}
use Rattle.decomposition.specs.SafeRuns.{inner_vertices, leaves_run}
use Rattle.decomposition.proofs.Members.{any-cons, any-here, any-there, any-append_left, any-append_right, any-place, any-from_place}
use Rattle.decomposition.proofs.Walks.{IsStep, walk-cons}
use Rattle.decomposition.proofs.Crowds.{contains_run-has}
use Rattle.decomposition.proofs.Excess.{same_tail}
use Rattle.decomposition.proofs.Extremes.{Around, contains_run-split}
use Rattle.decomposition.proofs.Exchange.{PathParts, path-parts, parts_apart, Swapped, swap_ends, prefix_to, is_inside, is_free, is_free_path, all-members}
use Rattle.run_weight.specs.Exits.{ArePlacesAlong, EndsWith, IsExit, HasNoExit, joined}

-- a list is split before an edge in one way, where the edge does not stand earlier
pub split-once : (xs us : List ℕ) (f : ℕ) (ys vs : List ℕ) → xs ++ (f ∷ ys) ≡ us ++ (f ∷ vs) → has_edge xs f ≡ false → has_edge us f ≡ false → (xs ≡ us) × (ys ≡ vs)
split-once [] [] f ys vs is a b = (refl, ap (drop 1) is)
split-once [] (u ∷ us) f ys vs is a b = absurd (both_ways _ (or_parts (f == u) (has_edge us f) b).0 (eq-eqb f u (ap (λ l. slice_index l 0) is)))
split-once (x ∷ xs) [] f ys vs is a b = absurd (both_ways _ (or_parts (f == x) (has_edge xs f) a).0 (eq-eqb f x (sym (ap (λ l. slice_index l 0) is))))
split-once (x ∷ xs) (u ∷ us) f ys vs is a b =
    let rest = split-once xs us f ys vs (ap (drop 1) is) (or_parts (f == x) (has_edge xs f) a).1 (or_parts (f == u) (has_edge us f) b).1 in
    let first : x ≡ u = ap (λ l. slice_index l 0) is in
    let whole : x ∷ xs ≡ u ∷ us = subst (λ v. x ∷ xs ≡ v ∷ us) first (ap (λ l. x ∷ l) rest.0) in
    (whole, rest.1)

-- on a walk no edge stands twice
not_before : (g : Graph) → IsNet g → (v : ℕ) (xs : List ℕ) (f : ℕ) (ys : List ℕ) → is_walk_from g v (xs ++ (f ∷ ys)) ≡ true → has_edge xs f ≡ false
not_before g net v xs f ys walk =
    false_from_ne_true (has_edge xs f) (λ has. parts_apart g net v f xs (f ∷ ys) walk has (any-here (λ z. eqb f z) f ys (eq-eqb f f refl)))

pub has-at : (es : List ℕ) (k : ℕ) → k < length es → has_edge es (slice_index es k) ≡ true
has-at es k inside = any-from_place (λ f. eqb (slice_index es k) f) es 0 k inside (eq-eqb (slice_index es k) (slice_index es k) refl)

-- a path has edges of its net
pub path-edges : (g : Graph) (p : List ℕ) → IsPath g p → All (λ e. e < edge_count g) p
path-edges g p path =
    let parts : PathParts g p = path-parts g p path in
    All-from_get_or (λ e. e < edge_count g) p 0 (λ k inside. walk-place g parts.start p k parts.walk inside)

-- ---- the exchange at an exit

-- two paths that do not contain the run, with the edges of a path that does and of one with an exit
pub record IsExchanged (g : Graph) (r p q leaving coming : List ℕ) : Type 0 where
  pub leaving_path : IsPath g leaving
  pub coming_path : IsPath g coming
  pub leaving_lacks : contains_run leaving r ≡ false
  pub coming_lacks : contains_run coming r ≡ false
  pub sums : (y : ℕ) → cond (has_edge leaving y) 1 0 + cond (has_edge coming y) 1 0 ≡ cond (has_edge p y) 1 0 + cond (has_edge q y) 1 0

module _ (g : Graph) (net : IsNet g) (e : ℕ) (es : List ℕ) (run : is_walk_from g (tail g e) (e ∷ es) ≡ true) where
  module _ (p q : List ℕ) (i at along : ℕ) (path_p : IsPath g p) (path_q : IsPath g q) (contains : contains_run p (e ∷ es) ≡ true) (inside : i < length p)
      (is : slice_index p i ≡ slice_index (e ∷ es) along) (exit : IsExit g (e ∷ es) q at along) where
    abbrev f : ℕ
    f = slice_index (e ∷ es) along

    abbrev x : ℕ
    x = slice_index q at

    f_on_run : has_edge (e ∷ es) f ≡ true
    f_on_run = has-at (e ∷ es) along exit.on_run

    swapped : Swapped g p q f x
    swapped = swap_ends g net p q f x path_p path_q (contains_run-has p (e ∷ es) f contains f_on_run) (has-at q at exit.on_path) (sym exit.meets)

    p_parts : (take i p ≡ swapped.p₁) × (drop (suc i) p ≡ swapped.p₂)
    p_parts =
        let pp : PathParts g p = path-parts g p path_p in
        let cut : p ≡ take i p ++ (f ∷ drop (suc i) p) = subst (λ d. p ≡ take i p ++ (d ∷ drop (suc i) p)) is (split_at p i 0 inside) in
        split-once (take i p) swapped.p₁ f (drop (suc i) p) swapped.p₂ (sym cut ∙ swapped.p_is) (not_before g net pp.start (take i p) f (drop (suc i) p) (subst (λ l. is_walk_from g pp.start l ≡ true) cut pp.walk))
        (not_before g net pp.start swapped.p₁ f swapped.p₂ (subst (λ l. is_walk_from g pp.start l ≡ true) swapped.p_is pp.walk))

    q_parts : (take at q ≡ swapped.q₁) × (drop (suc at) q ≡ swapped.q₂)
    q_parts =
        let qq : PathParts g q = path-parts g q path_q in
        let cut : q ≡ take at q ++ (x ∷ drop (suc at) q) = split_at q at 0 exit.on_path in
        split-once (take at q) swapped.q₁ x (drop (suc at) q) swapped.q₂ (sym cut ∙ swapped.q_is) (not_before g net qq.start (take at q) x (drop (suc at) q) (subst (λ l. is_walk_from g qq.start l ≡ true) cut qq.walk))
        (not_before g net qq.start swapped.q₁ x swapped.q₂ (subst (λ l. is_walk_from g qq.start l ≡ true) swapped.q_is qq.walk))

    leaving_lacks : contains_run (swapped.p₁ ++ (x ∷ swapped.q₂)) (e ∷ es) ≡ false
    leaving_lacks =
        false_from_ne_true (contains_run (swapped.p₁ ++ (x ∷ swapped.q₂)) (e ∷ es))
        (λ k.
        let parts : PathParts g (swapped.p₁ ++ (x ∷ swapped.q₂)) = path-parts g (swapped.p₁ ++ (x ∷ swapped.q₂)) swapped.first in
        let has_f = contains_run-has (swapped.p₁ ++ (x ∷ swapped.q₂)) (e ∷ es) f k f_on_run in
        let has_x = any-append_right (λ z. eqb x z) swapped.p₁ (x ∷ swapped.q₂) (any-here (λ z. eqb x z) x swapped.q₂ (eq-eqb x x refl)) in
        exit.other (same_tail g net parts.start x f (swapped.p₁ ++ (x ∷ swapped.q₂)) parts.walk has_x has_f exit.meets))

    coming_lacks : contains_run (swapped.q₁ ++ (f ∷ swapped.p₂)) (e ∷ es) ≡ false
    coming_lacks =
        false_from_ne_true (contains_run (swapped.q₁ ++ (f ∷ swapped.p₂)) (e ∷ es))
        (λ k.
        let coming = swapped.q₁ ++ (f ∷ swapped.p₂) in
        let parts : PathParts g coming = path-parts g coming swapped.second in
        let around : Around coming (e ∷ es) = contains_run-split coming (e ∷ es) k in
        let before = take along (e ∷ es) in
        let behind = drop (suc along) (e ∷ es) in
        let cut : e ∷ es ≡ before ++ (f ∷ behind) = split_at (e ∷ es) along 0 exit.on_run in
        let inner : (before ++ (f ∷ behind)) ++ around.after ≡ before ++ (f ∷ (behind ++ around.after)) = append_assoc before (f ∷ behind) around.after in
        let whole : coming ≡ (around.before ++ before) ++ (f ∷ (behind ++ around.after))
        = around.is ∙ (ap (λ l. around.before ++ (l ++ around.after)) cut ∙ (ap (λ l. around.before ++ l) inner ∙ sym (append_assoc around.before before (f ∷ (behind ++ around.after))))) in
        let same = split-once swapped.q₁ (around.before ++ before) f swapped.p₂ (behind ++ around.after) whole (not_before g net parts.start swapped.q₁ f swapped.p₂ parts.walk)
        (not_before g net parts.start (around.before ++ before) f (behind ++ around.after) (subst (λ l. is_walk_from g parts.start l ≡ true) whole parts.walk)) in
        exit.apart (around.before, q_parts.0 ∙ same.0))

    cut_from : (l : List ℕ) (k d : ℕ) → k < length l → slice_index l k ≡ d → drop k l ≡ d ∷ drop (suc k) l
    cut_from [] k d low at' = absurd (omega arith)
    cut_from (y ∷ l) zero d low at' = ap (λ z. z ∷ l) at'
    cut_from (y ∷ l) (suc k) d low at' = cut_from l k d (omega arith) at'

    leaving-is : joined p i q at ≡ swapped.p₁ ++ (x ∷ swapped.q₂)
    leaving-is = ap (λ l. take i p ++ l) (cut_from q at x exit.on_path refl) ∙ (ap (λ l. l ++ (x ∷ drop (suc at) q)) p_parts.0 ∙ ap (λ l. swapped.p₁ ++ (x ∷ l)) q_parts.1)

    coming-is : joined q at p i ≡ swapped.q₁ ++ (f ∷ swapped.p₂)
    coming-is = ap (λ l. take at q ++ l) (cut_from p i f inside is) ∙ (ap (λ l. l ++ (f ∷ drop (suc i) p)) q_parts.0 ∙ ap (λ l. swapped.q₁ ++ (f ∷ l)) p_parts.1)

    pub IsExchanged-at_exit : IsExchanged g (e ∷ es) p q (joined p i q at) (joined q at p i)
    IsExchanged-at_exit =
        let made : IsExchanged g (e ∷ es) p q (swapped.p₁ ++ (x ∷ swapped.q₂)) (swapped.q₁ ++ (f ∷ swapped.p₂)) = record {
          leaving_path = swapped.first;
          coming_path = swapped.second;
          leaving_lacks = leaving_lacks;
          coming_lacks = coming_lacks;
          sums = swapped.sums;
        } in
        subst (λ l. IsExchanged g (e ∷ es) p q l (joined q at p i)) (sym leaving-is) (subst (λ l. IsExchanged g (e ∷ es) p q (swapped.p₁ ++ (x ∷ swapped.q₂)) l) (sym coming-is) made)

pub IsExchanged-of : (g : Graph) → IsNet g → (r : List ℕ) → IsRun g r → (p q : List ℕ) (i at along : ℕ) → IsPath g p → IsPath g q → contains_run p r ≡ true → i < length p
    → slice_index p i ≡ slice_index r along → IsExit g r q at along → IsExchanged g r p q (joined p i q at) (joined q at p i)
IsExchanged-of g net [] run p q i at along path_p path_q contains inside is exit = absurd (true≢false (sym run))
IsExchanged-of g net (e ∷ es) run p q i at along path_p path_q contains inside is exit = IsExchanged-at_exit g net e es run p q i at along path_p path_q contains inside is exit

-- ---- paths without an exit

-- an inner vertex of a run is left by an edge behind the first
inner-place : (g : Graph) (u : ℕ) (r : List ℕ) (v : ℕ) → is_walk_from g u r ≡ true → list_any (λ w. v == w) (inner_vertices g r) ≡ true
    → (k : ℕ) × (0 < k) × (k < length r) × (tail g (slice_index r k) ≡ v)
inner-place g u [] v walk h = absurd (true≢false (sym h))
inner-place g u (d ∷ []) v walk h = absurd (true≢false (sym h))
inner-place g u (d ∷ (c ∷ r)) v walk h =
    let s : IsStep g u d (c ∷ r) = walk-cons g u d (c ∷ r) walk in
    let t : IsStep g (head g d) c r = walk-cons g (head g d) c r s.rest in
    elim (any-cons (λ w. v == w) (head g d) (inner_vertices g (c ∷ r)) h) [
      | inl here ↦ (1, omega arith, omega arith, t.leaves ∙ sym (eqb-true v (head g d) here))
      | inr there ↦
          let (k, positive, low, is) = inner-place g (head g d) (c ∷ r) v s.rest there in
          (suc k, omega arith, omega arith, is)
    ]

-- the edges of the run up to a vertex stand before the run's edge that leaves it
prefix-before : (g : Graph) (u : ℕ) (r : List ℕ) (x along d : ℕ) → is_walk_from g u r ≡ true → 0 < along → along < length r → tail g x ≡ tail g (slice_index r along)
    → has_edge (prefix_to g r x) d ≡ true → has_edge (take along r) d ≡ true
prefix-before g u [] x along d walk behind low at h = absurd (omega arith)
prefix-before g u (c ∷ r) x zero d walk behind low at h = absurd (omega arith)
prefix-before g u (c ∷ []) x (suc along) d walk behind low at h = absurd (omega arith)
prefix-before g u (c ∷ (b ∷ r)) x (suc zero) d walk behind low at h =
    let s : IsStep g u c (b ∷ r) = walk-cons g u c (b ∷ r) walk in
    let t : IsStep g (head g c) b r = walk-cons g (head g c) b r s.rest in
    let here : (head g c == tail g x) ≡ true = eq-eqb (head g c) (tail g x) (sym t.leaves ∙ sym at) in
    rw here at h
prefix-before g u (c ∷ (b ∷ r)) x (suc (suc along)) d walk behind low at h =
    let s : IsStep g u c (b ∷ r) = walk-cons g u c (b ∷ r) walk in
    elim (any-cons (λ z. eqb d z) c (cond (head g c == tail g x) [] (prefix_to g (b ∷ r) x)) h) [
      | inl first ↦ any-here (λ z. eqb d z) c (take (suc along) (b ∷ r)) first
      | inr there ↦ elim (cases_Bool (head g c == tail g x)) [
        | inl stop ↦ let none : has_edge [] d ≡ true = rw stop at there in absurd (true≢false (sym none))
        | inr on ↦
            let more : has_edge (prefix_to g (b ∷ r) x) d ≡ true = rw on at there in
            any-there (λ z. eqb d z) c (take (suc along) (b ∷ r)) (prefix-before g (head g c) (b ∷ r) x (suc along) d s.rest (omega arith) (omega arith) at more)
      ]
    ]

-- a path without an exit leaves the run nowhere without all of it up to there
pub free-none : (g : Graph) → IsNet g → (e : ℕ) (es : List ℕ) → is_walk_from g (tail g e) (e ∷ es) ≡ true → (places q : List ℕ) → ArePlacesAlong g (e ∷ es) places → HasNoExit g (e ∷ es) places q
    → is_free_path g (e ∷ es) q ≡ false
free-none g net e es run places q listed none =
    false_from_ne_true (is_free_path g (e ∷ es) q) (λ h.
    let found = any-place (λ x. is_free g (e ∷ es) q x) (below (edge_count g)) 0 h in
    let x = get_or (below (edge_count g)) found.0 0 in
    let parts = and_parts (leaves_run g (e ∷ es) x) (has_edge q x && not (list_all (λ d. has_edge q d) (prefix_to g (e ∷ es) x))) found.2 in
    let others = and_parts (has_edge q x) (not (list_all (λ d. has_edge q d) (prefix_to g (e ∷ es) x))) parts.1 in
    let leaves = and_parts (is_inside g (e ∷ es) x) (not (has_edge (e ∷ es) x)) parts.0 in
    let stands = any-place (λ z. eqb x z) q 0 others.0 in
    let at = stands.0 in
    let is : slice_index q at ≡ x = sym (eqb-true x (slice_index q at) stands.2) in
    let inner = inner-place g (tail g e) (e ∷ es) (tail g x) run leaves.0 in
    let along = slice_index places (tail g x) in
    let positive : 0 < along = subst (λ v. 0 < slice_index places v) inner.3 (listed.each inner.0 inner.1 inner.2) in
    let there = listed.there (tail g x) positive in
    let other : x ≢ slice_index (e ∷ es) along = λ same. both_ways _ (not-true _ leaves.1) (subst (λ z. has_edge (e ∷ es) z ≡ true) (sym same) (has-at (e ∷ es) along there.0)) in
    let whole : EndsWith (take at q) (take along (e ∷ es)) → ⊥ = λ ends.
    let all : list_all (λ d. has_edge q d) (prefix_to g (e ∷ es) x) ≡ true
    = all-members (λ d. has_edge q d) (prefix_to g (e ∷ es) x) (λ d in_prefix.
    let in_run : has_edge (take along (e ∷ es)) d ≡ true = prefix-before g (tail g e) (e ∷ es) x along d run positive there.0 (sym there.1) in_prefix in
    let in_start : has_edge (take at q) d ≡ true = subst (λ l. has_edge l d ≡ true) (sym ends.1) (any-append_right (λ z. eqb d z) ends.0 (take along (e ∷ es)) in_run) in
    subst (λ l. has_edge l d ≡ true) (take-append-drop at q) (any-append_left (λ z. eqb d z) (take at q) (drop at q) in_start)) in
    both_ways _ (not-true _ others.1) all in
    let exit : IsExit g (e ∷ es) q at along = record {
      on_path = stands.1;
      behind_first = positive;
      on_run = there.0;
      meets = ap (tail g) is ∙ sym there.1;
      other = λ same. other (sym is ∙ same);
      apart = whole;
    } in
    none at stands.1 (subst (λ v. IsExit g (e ∷ es) q at (slice_index places v)) (sym (ap (tail g) is)) exit))
