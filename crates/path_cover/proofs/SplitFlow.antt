-- A flow is split into paths, one unit after the other.
use Rattle.std.proofs.Common.{◌≡◌, ℕ, ◌+◌, ◌<◌, ◌≤◌, ◌==◌, ◌&&◌, true, false, cond, List, [], ◌∷◌, ◌++◌, length, length-append, Option, None, Some, slice_index, refl, sym, subst, ◌∙◌, arith, inl, inr, eq-eqb, ne_eqb}
use Rattle.std.specs.List.{list_all}
use Rattle.std.proofs.lemmas.Bool.{cases_lt, cases_eq, cases_Bool, both_ways, and_from, and_parts}
use Rattle.decomposition.specs.Graph.{Graph, IsNet, IsPath, edge_count, tail, head, is_source, is_sink, is_path, is_run, is_walk_from, walk_end, has_edge}
use Rattle.decomposition.specs.Answer.{sum_below}
use Rattle.decomposition.specs.Flow.{IsBalanced, flow_out_of}
use Rattle.decomposition.proofs.Sums.{sum_below-lt, sum_below-positive}
use Rattle.decomposition.proofs.FewPaths.{all-append}
use Rattle.decomposition.proofs.Root.{all-cons}
use Rattle.decomposition.proofs.Flows.{walk_end-push, head-no_source, inner_from, term_of, flows_have_emptying_paths}
use Rattle.decomposition.proofs.Members.{any-here}
use Rattle.decomposition.proofs.Walks.{IsStep, walk-cons, walk-from_step, walk-append, walk-length}
use Rattle.path_cover.specs.Carrying.{IsBalancedBut, unit_at}
use Rattle.path_cover.specs.Load.{times, load, IsNextLeft, IsFirstLeft}
use Rattle.path_cover.proofs.Moves.{IsRaised, lower-onward, IsBalancedBut-same, IsBalanced-from_but, source-outer, sink-outer}
use Rattle.path_cover.proofs.Loads.{times-push, load-push}
use Rattle.std.proofs.Common.{eqb-true}

-- what is known of the edge that comes next, where the path so far ends at v
abbrev pub IsNext : Graph → (ℕ → ℕ) → List ℕ → ℕ → Option ℕ → Type 0
IsNext g rest path v None = (1 ≤ length path) × IsNextLeft g rest v None
IsNext g rest path v (Some e) = IsNextLeft g rest v (Some e)

-- a path that is begun, with what it leaves
pub record Takes (g : Graph) (old : ℕ → ℕ) (first : ℕ) (path : List ℕ) (rest : ℕ → ℕ) (coming : Option ℕ) : Type 0 where
  pub walk : is_walk_from g (tail g first) path ≡ true
  pub taken : (e : ℕ) → rest e + times path e ≡ old e
  pub balance : IsBalancedBut g rest (walk_end g (tail g first) path) (tail g first)
  pub next : IsNext g rest path (walk_end g (tail g first) path) coming

module _ (g : Graph) (old : ℕ → ℕ) (first : ℕ) where
  pub Takes-start : first < edge_count g → 1 ≤ old first → IsBalanced g old → Takes g old first [] old (Some first)
  Takes-start h one balanced = record {
    walk = refl;
    taken = λ e. omega arith;
    balance = IsBalancedBut-same g old (tail g first) balanced;
    next = (h, refl, one);
  }

  -- the path with the next edge is a walk
  pub Takes-walk : (path : List ℕ) (rest : ℕ → ℕ) (e : ℕ) → Takes g old first path rest (Some e) → is_walk_from g (tail g first) (path ++ e ∷ []) ≡ true
  Takes-walk path rest e t =
      walk-append g (tail g first) path (e ∷ []) t.walk
      (walk-from_step g (walk_end g (tail g first) path) e [] (record { inside = t.next.0; leaves = t.next.1; rest = refl }))

  pub Takes-length : IsNet g → (path : List ℕ) (rest : ℕ → ℕ) (e : ℕ) → Takes g old first path rest (Some e) → length path + 1 ≤ edge_count g
  Takes-length net path rest e t = omega (arith, walk-length g net (tail g first) (path ++ e ∷ []) (Takes-walk path rest e t), length-append path (e ∷ []))

  pub Takes-more : (path : List ℕ) (rest new : ℕ → ℕ) (e : ℕ) (next : Option ℕ) → Takes g old first path rest (Some e) → IsRaised new rest e → IsNextLeft g new (head g e) next → Takes g old first (path ++ e ∷ []) new next
  Takes-more path rest new e next t r left = record {
    walk = Takes-walk path rest e t;
    taken = λ d. elim (cases_eq d e) [
      | inl same ↦
          let here : rest d ≡ new d + 1 = subst (λ x. rest x ≡ new x + 1) (sym same) r.here in
          let one : (e == d) ≡ true = eq-eqb e d (sym same) in
          let more : times (path ++ e ∷ []) d ≡ times path d + 1 = rw one at (times-push path e d) in
          omega (arith, t.taken d)
      | inr other ↦
          let here : rest d ≡ new d = r.others d other in
          let none : (e == d) ≡ false = ne_eqb e d (λ same. other (sym same)) in
          let more : times (path ++ e ∷ []) d ≡ times path d + 0 = rw none at (times-push path e d) in
          omega (arith, t.taken d)
    ];
    balance = subst (λ v. IsBalancedBut g new v (tail g first)) (sym end)
        (lower-onward g new rest e t.next.0 r (tail g first) (subst (λ v. IsBalancedBut g rest v (tail g first)) (sym t.next.1) t.balance));
    next = go next left;
  } where
    end : walk_end g (tail g first) (path ++ e ∷ []) ≡ head g e
    end = walk_end-push g (tail g first) path e

    go : (next : Option ℕ) → IsNextLeft g new (head g e) next → IsNext g new (path ++ e ∷ []) (walk_end g (tail g first) (path ++ e ∷ [])) next
    go None none = (omega (arith, length-append path (e ∷ [])), subst (λ v. IsNextLeft g new v None) (sym end) none)
    go (Some n) found = subst (λ v. IsNextLeft g new v (Some n)) (sym end) found

  -- the end of a walk is no source
  end-no_source : (v e : ℕ) (es : List ℕ) → is_walk_from g v (e ∷ es) ≡ true → is_source g (walk_end g (head g e) es) ≡ false
  end-no_source v e [] walk = head-no_source g e (walk-cons g v e [] walk).inside
  end-no_source v e (f ∷ es) walk = end-no_source (head g e) f es (walk-cons g v e (f ∷ es) walk).rest

  -- where nothing is left to leave the end of the path, it is a sink
  end-sink : (v : ℕ) (rest : ℕ → ℕ) → is_source g v ≡ false → is_source g (tail g first) ≡ true → IsBalancedBut g rest v (tail g first) → IsNextLeft g rest v None → is_sink g v ≡ true
  end-sink v rest no_source source but none =
      elim (cases_Bool (is_sink g v)) [
        | inl sink ↦ sink
        | inr no_sink ↦
            let apart : (tail g first == v) ≡ false = ne_eqb (tail g first) v (λ same. both_ways _ no_source (subst (λ u. is_source g u ≡ true) same source)) in
            let itself : (v == v) ≡ true = eq-eqb v v refl in
            let none' : unit_at (tail g first) v ≡ 0 = rw apart refl in
            let one : unit_at v v ≡ 1 = rw itself refl in
            let more : 1 ≤ flow_out_of g rest v = omega (arith, but v (inner_from g v no_source no_sink)) in
            let found = sum_below-positive (λ e. cond (tail g e == v) (rest e) 0) (edge_count g) more in
            let what = term_of (tail g found.0 == v) (rest found.0) found.2 in
            absurd (omega (arith, none found.0 found.1 (eqb-true _ _ what.0), what.1))
      ]

  pub record IsTaken (es : List ℕ) (rest : ℕ → ℕ) : Type 0 where
    pub path : IsPath g es
    pub balanced : IsBalanced g rest

  pub Takes-all : (path : List ℕ) (rest : ℕ → ℕ) → is_source g (tail g first) ≡ true → 1 ≤ old first → Takes g old first path rest None → IsTaken path rest
  Takes-all [] rest source one t = let none : 1 ≤ 0 = t.next.0 in absurd (omega arith)
  Takes-all (e ∷ es) rest source one t =
      let s : IsStep g (tail g first) e es = walk-cons g (tail g first) e es t.walk in
      let sink = end-sink (walk_end g (head g e) es) rest (end-no_source (tail g first) e es t.walk) source t.balance t.next.1 in
      let from : is_source g (tail g e) ≡ true = subst (λ v. is_source g v ≡ true) (sym s.leaves) source in
      let run : is_walk_from g (tail g e) (e ∷ es) ≡ true = subst (λ v. is_walk_from g v (e ∷ es) ≡ true) (sym s.leaves) t.walk in
      record {
        path = and_from (is_source g (tail g e)) _ from (and_from (is_run g (e ∷ es)) (is_sink g (walk_end g (head g e) es)) run sink);
        balanced = IsBalanced-from_but g rest (walk_end g (head g e) es) (tail g first) (sink-outer g (walk_end g (head g e) es) sink) (source-outer g (tail g first) source) t.balance;
      }

-- paths that are split off, and what they leave
pub record Splits (g : Graph) (flow : ℕ → ℕ) (cover : List (List ℕ)) (rest : List ℕ) : Type 0 where
  pub count : length rest ≡ edge_count g
  pub paths : list_all (is_path g) cover ≡ true
  pub loads : (e : ℕ) → load cover e + slice_index rest e ≡ flow e
  pub balanced : IsBalanced g (slice_index rest)

module _ (g : Graph) (flow : ℕ → ℕ) where
  pub Splits-more : (cover : List (List ℕ)) (rest new path : List ℕ) → Splits g flow cover rest → length new ≡ length rest → IsPath g path → ((e : ℕ) → slice_index new e + times path e ≡ slice_index rest e)
      → IsBalanced g (slice_index new) → Splits g flow (cover ++ path ∷ []) new
  Splits-more cover rest new path s count is taken balanced = record {
    count = count ∙ s.count;
    paths = all-append (is_path g) cover (path ∷ []) s.paths (all-cons (is_path g) path [] is refl);
    loads = λ e. omega (arith, load-push cover path e, taken e, s.loads e);
    balanced = balanced;
  }

  -- less is left
  pub falls : (rest new : ℕ → ℕ) (path : List ℕ) → IsPath g path → ((e : ℕ) → new e + times path e ≡ rest e) → sum_below new (edge_count g) < sum_below rest (edge_count g)
  falls rest new [] path taken = absurd (both_ways false refl path)
  falls rest new (e ∷ es) path taken =
      let parts : (is_source g (tail g e) ≡ true) × ((is_run g (e ∷ es) && is_sink g (walk_end g (head g e) es)) ≡ true) = and_parts _ _ path in
      let others : (is_walk_from g (tail g e) (e ∷ es) ≡ true) × (is_sink g (walk_end g (head g e) es) ≡ true) = and_parts _ _ parts.1 in
      let inside : e < edge_count g = (walk-cons g (tail g e) e es others.0).inside in
      let one : times (e ∷ es) e ≡ 1 + times es e = rw (eq-eqb e e refl) refl in
      sum_below-lt new rest (edge_count g) e inside (omega (arith, taken e)) (λ d h. omega (arith, taken d))

  -- where no flow leaves a source, none is left
  none_left : (rest : ℕ → ℕ) → IsNet g → IsBalanced g rest → IsFirstLeft g rest None → (e : ℕ) → e < edge_count g → rest e ≡ 0
  none_left rest net balanced none e h =
      elim (cases_lt 0 (rest e)) [
        | inr nothing ↦ omega arith
        | inl more ↦
            let found = flows_have_emptying_paths g rest net balanced e h more in
            absurd (begins found.0 found.3.path (λ f hit. let least : rest found.1 ≤ rest f = found.3.least f hit in let one : 1 ≤ rest found.1 = found.3.positive in omega arith))
      ]
    where
      begins : (p : List ℕ) → IsPath g p → ((f : ℕ) → has_edge p f ≡ true → 1 ≤ rest f) → ⊥
      begins [] path each = both_ways false refl path
      begins (f ∷ fs) path each =
          let parts : (is_source g (tail g f) ≡ true) × ((is_run g (f ∷ fs) && is_sink g (walk_end g (head g f) fs)) ≡ true) = and_parts _ _ path in
          let others : (is_walk_from g (tail g f) (f ∷ fs) ≡ true) × (is_sink g (walk_end g (head g f) fs) ≡ true) = and_parts _ _ parts.1 in
          let inside : f < edge_count g = (walk-cons g (tail g f) f fs others.0).inside in
          let one : 1 ≤ rest f = each f (any-here (λ d. f == d) f fs (eq-eqb f f refl)) in
          omega (arith, none f inside parts.0)

  pub Splits-all : (cover : List (List ℕ)) (rest : List ℕ) → IsNet g → Splits g flow cover rest → IsFirstLeft g (slice_index rest) None → (e : ℕ) → e < edge_count g → load cover e ≡ flow e
  Splits-all cover rest net s none e h = omega (arith, s.loads e, none_left (slice_index rest) net s.balanced none e h)
