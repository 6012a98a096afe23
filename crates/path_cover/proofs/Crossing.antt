-- A closed set of vertices: each path leaves it once, so the needed edges that leave it are an antichain as large as the flow.
use Rattle.std.proofs.Common.{◌≡◌, ◌≢◌, ℕ, ◌+◌, ◌<◌, ◌≤◌, Bool, true, false, not, ◌&&◌, nat_lt, cond, List, [], ◌∷◌, ◌++◌, length, length-append, refl, sym, ap, subst, ◌∙◌, arith, inl, inr, ltb-true, lt-ltb, true≢false}
use Rattle.std.specs.List.{list_all, AllByRecursion}
use Rattle.std.proofs.lemmas.Bool.{cases_Bool, both_ways, and_parts, and_from, not-true}
use Rattle.decomposition.specs.Graph.{Graph, IsPath, edge_count, tail, head, is_source, is_sink, is_run, is_path, is_walk_from, walk_end, EdgesShareAPath}
use Rattle.decomposition.specs.Answer.{is_ordered}
use Rattle.decomposition.specs.Reach.{Reaches}
use Rattle.decomposition.specs.Width.{AreApart, IsApart, IsAntichainOf}
use Rattle.decomposition.proofs.Sums.{sum_below-same, sum_below_more}
use Rattle.decomposition.proofs.Balance.{total}
use Rattle.decomposition.proofs.Root.{all-cons, all-parts}
use Rattle.decomposition.proofs.FewPaths.{all-append}
use Rattle.decomposition.proofs.Walks.{IsStep, walk-cons}
use Rattle.decomposition.proofs.Reach.{share-cases}
use Rattle.decomposition.proofs.Exchange.{PathParts, path-parts}
use Rattle.path_cover.specs.Carrying.{least_flow}
use Rattle.path_cover.specs.Cut.{IsClosed, leaves, AreThose}
use Rattle.path_cover.specs.Load.{load}
use Rattle.path_cover.proofs.Loads.{totals, load-totals, walk-below}

module _ (g : Graph) (needed : ℕ → Bool) (flow : ℕ → ℕ) (inside : ℕ → Bool) (closed : IsClosed g needed flow inside) where
  -- no edge comes back, so a walk from outside stays outside
  stays : (e : ℕ) → e < edge_count g → inside (tail g e) ≡ false → inside (head g e) ≡ false
  stays e h out = elim (cases_Bool (inside (head g e))) [ inl came ↦ absurd (both_ways _ out (closed.back e h came)) | inr no' ↦ no' ]

  stays_outside : (v : ℕ) (es : List ℕ) → is_walk_from g v es ≡ true → inside v ≡ false → inside (walk_end g v es) ≡ false
  stays_outside v [] walk out = out
  stays_outside v (e ∷ es) walk out =
      let s : IsStep g v e es = walk-cons g v e es walk in
      stays_outside (head g e) es s.rest (stays e s.inside (subst (λ u. inside u ≡ false) (sym s.leaves) out))

  never : (v : ℕ) (es : List ℕ) → is_walk_from g v es ≡ true → inside v ≡ false → total (leaves g inside) 1 es ≡ 0
  never v [] walk out = refl
  never v (e ∷ es) walk out =
      let s : IsStep g v e es = walk-cons g v e es walk in
      let at : inside (tail g e) ≡ false = subst (λ u. inside u ≡ false) (sym s.leaves) out in
      rw at (omega (arith, never (head g e) es s.rest (stays e s.inside at)))

  once : (v : ℕ) (es : List ℕ) → is_walk_from g v es ≡ true → inside v ≡ true → inside (walk_end g v es) ≡ false → total (leaves g inside) 1 es ≡ 1
  once v [] walk in' out = absurd (both_ways _ out in')
  once v (e ∷ es) walk in' out =
      let s : IsStep g v e es = walk-cons g v e es walk in
      let at : inside (tail g e) ≡ true = subst (λ u. inside u ≡ true) (sym s.leaves) in' in
      elim (cases_Bool (inside (head g e))) [
        | inl still ↦ rw (at, still) (omega (arith, once (head g e) es s.rest still out))
        | inr gone ↦ rw (at, gone) (omega (arith, never (head g e) es s.rest gone))
      ]

  last_sink : (v e : ℕ) (es : List ℕ) → is_walk_from g v (e ∷ es) ≡ true → is_sink g (walk_end g (head g e) es) ≡ true → inside (walk_end g (head g e) es) ≡ false
  last_sink v e [] walk sink = not-true _ (closed.sinks e (walk-cons g v e [] walk).inside sink)
  last_sink v e (f ∷ es) walk sink = last_sink (head g e) f es (walk-cons g v e (f ∷ es) walk).rest sink

  -- each path leaves the set once
  path_leaves : (p : List ℕ) → IsPath g p → total (leaves g inside) 1 p ≡ 1
  path_leaves [] path = absurd (true≢false (sym path))
  path_leaves (e ∷ es) path =
      let parts : (is_source g (tail g e) ≡ true) × ((is_run g (e ∷ es) && is_sink g (walk_end g (head g e) es)) ≡ true) = and_parts _ _ path in
      let others : (is_walk_from g (tail g e) (e ∷ es) ≡ true) × (is_sink g (walk_end g (head g e) es) ≡ true) = and_parts _ _ parts.1 in
      let s : IsStep g (tail g e) e es = walk-cons g (tail g e) e es others.0 in
      once (tail g e) (e ∷ es) others.0 (closed.sources e s.inside parts.0) (last_sink (tail g e) e es others.0 others.1)

  paths_leave : (ps : List (List ℕ)) → list_all (is_path g) ps ≡ true → totals (leaves g inside) ps ≡ length ps
  paths_leave [] paths = refl
  paths_leave (p ∷ ps) paths =
      let parts = all-parts (is_path g) p ps paths in
      omega (arith, path_leaves p parts.0, paths_leave ps parts.1)

  -- two edges that leave the set do not lie on one path
  leaving-apart : (d e : ℕ) → d ≢ e → leaves g inside d ≡ true → leaves g inside e ≡ true → EdgesShareAPath g d e → ⊥
  leaving-apart d e other d_leaves e_leaves share =
      let pp : PathParts g share.0 = path-parts g share.0 share.1 in
      let dp : (inside (tail g d) ≡ true) × (not (inside (head g d)) ≡ true) = and_parts _ _ d_leaves in
      let ep : (inside (tail g e) ≡ true) × (not (inside (head g e)) ≡ true) = and_parts _ _ e_leaves in
      let apart : (x y : ℕ) → inside (head g x) ≡ false → inside (tail g y) ≡ true → Reaches g (head g x) (tail g y) → ⊥
      = λ x y out in' way. both_ways _ (subst (λ v. inside v ≡ false) way.end (stays_outside (head g x) way.edges way.walk out)) in' in
      elim (share-cases g pp.start d e share.0 pp.walk share.2 share.3) [
        | inl same ↦ other same
        | inr reach ↦ elim reach [ inl ahead ↦ apart d e (not-true _ dp.1) ep.0 ahead | inr behind ↦ apart e d (not-true _ ep.1) dp.0 behind ]
      ]

  -- a rising list has no edge twice
  rising-above : (e : ℕ) (es : List ℕ) → is_ordered nat_lt (e ∷ es) ≡ true → AllByRecursion (λ f. e < f) es
  rising-above e [] rising = tt
  rising-above e (f ∷ es) rising =
      let parts : (nat_lt e f ≡ true) × (is_ordered nat_lt (f ∷ es) ≡ true) = and_parts _ _ rising in
      let lt : e < f = ltb-true e f parts.0 in
      (lt, more es (rising-above f es parts.1) lt)
    where
      more : (xs : List ℕ) → AllByRecursion (λ x. f < x) xs → e < f → AllByRecursion (λ x. e < x) xs
      more [] h lt = tt
      more (x ∷ xs) h lt = (let a : f < x = h.0 in omega arith, more xs h.1 lt)

  rising-rest : (e : ℕ) (es : List ℕ) → is_ordered nat_lt (e ∷ es) ≡ true → is_ordered nat_lt es ≡ true
  rising-rest e [] rising = refl
  rising-rest e (f ∷ es) rising = (and_parts (nat_lt e f) (is_ordered nat_lt (f ∷ es)) rising).1

  test-parts : (n e : ℕ) → (nat_lt e n && (needed e && leaves g inside e)) ≡ true → (nat_lt e n ≡ true) × (needed e ≡ true) × (leaves g inside e ≡ true)
  test-parts n e h =
      let parts = and_parts (nat_lt e n) (needed e && leaves g inside e) h in
      let others = and_parts (needed e) (leaves g inside e) parts.1 in
      (parts.0, others.0, others.1)

  each-apart : (n e : ℕ) (es : List ℕ) → leaves g inside e ≡ true → AllByRecursion (λ f. e < f) es → list_all (λ f. nat_lt f n && (needed f && leaves g inside f)) es ≡ true → AreApart g e es
  each-apart n e [] here above listed = tt
  each-apart n e (f ∷ es) here above listed =
      let parts = all-parts (λ d. nat_lt d n && (needed d && leaves g inside d)) f es listed in
      let lt : e < f = above.0 in
      (leaving-apart e f (omega arith) here (test-parts n f parts.0).2, each-apart n e es here above.1 parts.1)

  all-apart : (n : ℕ) (es : List ℕ) → is_ordered nat_lt es ≡ true → list_all (λ f. nat_lt f n && (needed f && leaves g inside f)) es ≡ true → IsApart g es
  all-apart n [] rising listed = tt
  all-apart n (e ∷ es) rising listed =
      let parts = all-parts (λ d. nat_lt d n && (needed d && leaves g inside d)) e es listed in
      (each-apart n e es (test-parts n e parts.0).2 (rising-above e es rising) parts.1, all-apart n es (rising-rest e es rising) parts.1)

  all-needed : (n : ℕ) (es : List ℕ) → list_all (λ f. nat_lt f n && (needed f && leaves g inside f)) es ≡ true → list_all (λ f. nat_lt f n && needed f) es ≡ true
  all-needed n [] listed = refl
  all-needed n (e ∷ es) listed =
      let parts = all-parts (λ d. nat_lt d n && (needed d && leaves g inside d)) e es listed in
      let here = test-parts n e parts.0 in
      all-cons (λ f. nat_lt f n && needed f) e es (and_from (nat_lt e n) (needed e) here.0 here.1) (all-needed n es parts.1)

  -- the needed edges that leave a closed set are an antichain
  pub IsAntichainOf-leaving : (es : List ℕ) → AreThose (λ e. needed e && leaves g inside e) (edge_count g) es → IsAntichainOf g needed es
  IsAntichainOf-leaving es those = record {
    listed = all-needed (edge_count g) es those.listed;
    apart = all-apart (edge_count g) es those.rising those.listed;
  }

  paths-below : (ps : List (List ℕ)) → list_all (is_path g) ps ≡ true → AllByRecursion (λ p. AllByRecursion (λ e. e < edge_count g) p) ps
  paths-below [] paths = tt
  paths-below (p ∷ ps) paths =
      let parts = all-parts (is_path g) p ps paths in
      let pp : PathParts g p = path-parts g p parts.0 in
      (walk-below g pp.start p pp.walk, paths-below ps parts.1)

  -- an edge that leaves the set has just its least flow
  least_leaves : (e : ℕ) → e < edge_count g → least_flow needed e ≤ flow e → cond (leaves g inside e) (flow e) 0 ≡ cond (needed e && leaves g inside e) 1 0
  least_leaves e h enough =
      elim (cases_Bool (leaves g inside e)) [
        | inr other ↦ rw other (none (needed e))
        | inl out ↦
            let parts : (inside (tail g e) ≡ true) × (not (inside (head g e)) ≡ true) = and_parts _ _ out in
            let most : flow e ≤ least_flow needed e = closed.onward e h parts.0 parts.1 in
            rw out (is (needed e) (omega arith))
      ]
    where
      none : (b : Bool) → ◌≡◌ {A = ℕ} 0 (cond (b && false) 1 0)
      none true = refl
      none false = refl

      is : (b : Bool) → flow e ≡ cond b 1 0 → flow e ≡ cond (b && true) 1 0
      is true same = same
      is false same = same

  -- they are as many as the paths that make up the flow
  pub leaving-count : (ps : List (List ℕ)) (es : List ℕ) → list_all (is_path g) ps ≡ true → ((e : ℕ) → e < edge_count g → load ps e ≡ flow e) → ((e : ℕ) → e < edge_count g → least_flow needed e ≤ flow e)
      → AreThose (λ e. needed e && leaves g inside e) (edge_count g) es → length ps ≡ length es
  leaving-count ps es paths makes enough those =
      sym (paths_leave ps paths) ∙ sym (load-totals (leaves g inside) (edge_count g) ps (paths-below ps paths))
      ∙ sum_below-same (λ e. cond (leaves g inside e) (load ps e) 0) (λ e. cond (needed e && leaves g inside e) 1 0) (edge_count g)
      (λ e h. ap (λ x. cond (leaves g inside e) x 0) (makes e h) ∙ least_leaves e h (enough e h))
      ∙ sym those.count

-- the list stays as it is at an edge that does not pass, and has one that passes at its end
module _ (test : ℕ → Bool) (n : ℕ) (es : List ℕ) (those : AreThose test n es) where
  wider : (xs : List ℕ) → list_all (λ e. nat_lt e n && test e) xs ≡ true → list_all (λ e. nat_lt e (n + 1) && test e) xs ≡ true
  wider [] listed = refl
  wider (x ∷ xs) listed =
      let parts = all-parts (λ e. nat_lt e n && test e) x xs listed in
      let here = and_parts (nat_lt x n) (test x) parts.0 in
      let lt : x < n = ltb-true x n here.0 in
      all-cons (λ e. nat_lt e (n + 1) && test e) x xs (and_from (nat_lt x (n + 1)) (test x) (lt-ltb x (n + 1) (omega arith)) here.1) (wider xs parts.1)

  pub AreThose-other : test n ≡ false → AreThose test (n + 1) es
  AreThose-other other = record {
    listed = wider es those.listed;
    count = rw (sum_below_more (λ e. cond (test e) 1 0) n, other) (omega (arith, those.count));
    rising = those.rising;
  }

  longer : (xs : List ℕ) → list_all (λ e. nat_lt e n && test e) xs ≡ true → is_ordered nat_lt xs ≡ true → is_ordered nat_lt (xs ++ n ∷ []) ≡ true
  longer [] listed rising = refl
  longer (x ∷ []) listed rising = let parts = all-parts (λ e. nat_lt e n && test e) x [] listed in and_from (nat_lt x n) true (and_parts (nat_lt x n) (test x) parts.0).0 refl
  longer (x ∷ y ∷ xs) listed rising =
      let parts = all-parts (λ e. nat_lt e n && test e) x (y ∷ xs) listed in
      let both = and_parts (nat_lt x y) (is_ordered nat_lt (y ∷ xs)) rising in
      and_from (nat_lt x y) (is_ordered nat_lt (y ∷ (xs ++ n ∷ []))) both.0 (longer (y ∷ xs) parts.1 both.1)

  pub AreThose-more : test n ≡ true → AreThose test (n + 1) (es ++ n ∷ [])
  AreThose-more passes = record {
    listed = all-append (λ e. nat_lt e (n + 1) && test e) es (n ∷ []) (wider es those.listed)
        (all-cons (λ e. nat_lt e (n + 1) && test e) n [] (and_from (nat_lt n (n + 1)) (test n) (lt-ltb n (n + 1) (omega arith)) passes) refl);
    count = rw (sum_below_more (λ e. cond (test e) 1 0) n, passes) (omega (arith, those.count, length-append es (n ∷ [])));
    rising = longer es those.listed those.rising;
  }
