-- The path by the first wide edge at each vertex is the widest path that is first by edge list.
use Rattle.std.proofs.Common.{◌≡◌, ℕ, ◌<◌, ◌≤◌, ◌==◌, nat_lt, List, [], ◌∷◌, ◌++◌, Option, None, Some, MatchOption, true, false, length, refl, sym, subst, ◌∙◌, ⊎_elim, append_assoc, arith, eq-eqb, lt-ltb}
use Rattle.std.specs.Prelude.{IsTrue}
use Rattle.std.specs.Option.{option_to_list}
use Rattle.std.proofs.lemmas.Bool.{cases_lt, cases_Bool, both_ways, and_from, or_left, or_right}
use Rattle.std.proofs.lemmas.List.{append-nil}
use Rattle.decomposition.specs.Graph.{Graph, IsNet, IsPath, edge_count, tail, head, is_sink, is_source, is_run, is_walk_from, walk_end, is_list_le}
use Rattle.decomposition.specs.FirstAnswer.{path_width, IsWidest}
use Rattle.decomposition.proofs.Walks.{IsStep, walk-cons, walk-from_step, walk-append, walk-length}
use Rattle.decomposition.proofs.Flows.{walk_end-push, tail-no_sink}
use Rattle.greedy_paths.specs.Widths.{walk_width, LeadsToSink}
use Rattle.greedy_paths.specs.Widest.{IsWide, IsWideFromSource, IsWideOutOf, IsFirstEdge, IsGreatestWidth, IsFirstWalk, IsFirstPath}
use Rattle.greedy_paths.proofs.Widening.{leads-cons, leads-rest}
use Rattle.greedy_paths.proofs.Finding.{IsWide-from_width, path-ends, walk_width-path, path_width-walk}

module _ (g : Graph) (rest : ℕ → ℕ) (width : ℕ) where
  -- the edges that may follow the edge at hand
  abbrev pub Completes : Option ℕ → List ℕ → Type 0
  Completes None es = es ≡ []
  Completes (Some e) es = (fs : List ℕ) × (es ≡ e ∷ fs) × IsFirstWalk g rest width (head g e) fs

  -- a path that is begun, and the edge at hand
  pub record Begins (path : List ℕ) (next : Option ℕ) : Type 0 where
    pub walks : (v : ℕ) × (is_walk_from g v (path ++ option_to_list next) ≡ true)
    pub wide : MatchOption next (Unit {0}) (λ e. (e < edge_count g) × IsWide g rest width e)
    pub completes : (es : List ℕ) → Completes next es → IsFirstPath g rest width (path ++ es)

  pub Begins-start : (next : Option ℕ) → IsFirstEdge g (IsWideFromSource g rest width) next → Begins [] next
  Begins-start None none = record { walks = (0, refl); wide = tt; completes = λ es is. subst (IsFirstPath g rest width) (sym is) none }
  Begins-start (Some e) first = record {
    walks = (tail g e, walk-from_step g (tail g e) e [] (record { inside = first.0; leaves = refl; rest = refl }));
    wide = (first.0, first.1.1);
    completes = λ es c. subst (IsFirstPath g rest width) (sym c.1) (first, c.2);
  }

  -- what completes the next edge is a first walk from the head of the edge at hand
  goes_on : (e : ℕ) (next : Option ℕ) (es : List ℕ) → IsWide g rest width e → IsFirstEdge g (IsWideOutOf g rest width (head g e)) next → Completes next es → IsFirstWalk g rest width (head g e) es
  goes_on e None es wide none is =
      ⊎_elim
      (λ (sink : is_sink g (head g e) ≡ true). subst (IsFirstWalk g rest width (head g e)) (sym is) sink)
      (λ (no_sink : is_sink g (head g e) ≡ false).
      let found = IsWide-from_width g rest (head g e) width no_sink wide.beyond in
      absurd (none found.0 found.1 found.2))
      (cases_Bool (is_sink g (head g e)))
  goes_on e (Some f) es wide first c = subst (IsFirstWalk g rest width (head g e)) (sym c.1) (first, c.2)

  pub Begins-more : (path : List ℕ) (e : ℕ) (next : Option ℕ) → Begins path (Some e) → IsFirstEdge g (IsWideOutOf g rest width (head g e)) next → Begins (path ++ e ∷ []) next
  Begins-more path e next b first = record {
    walks = (b.walks.0, longer next first);
    wide = inside next first;
    completes = λ es c. subst (IsFirstPath g rest width) (sym (append_assoc path (e ∷ []) es)) (b.completes (e ∷ es) (es, refl, goes_on e next es b.wide.1 first c));
  } where
    longer : (next : Option ℕ) → IsFirstEdge g (IsWideOutOf g rest width (head g e)) next → is_walk_from g b.walks.0 ((path ++ e ∷ []) ++ option_to_list next) ≡ true
    longer None none = rw (append-nil (path ++ e ∷ [])) b.walks.1
    longer (Some f) first =
        walk-append g b.walks.0 (path ++ e ∷ []) (f ∷ []) b.walks.1
        (walk-from_step g (walk_end g b.walks.0 (path ++ e ∷ [])) f [] (record { inside = first.0; leaves = first.1.0 ∙ sym (walk_end-push g b.walks.0 path e); rest = refl }))

    inside : (next : Option ℕ) → IsFirstEdge g (IsWideOutOf g rest width (head g e)) next → MatchOption next (Unit {0}) (λ e. (e < edge_count g) × IsWide g rest width e)
    inside None none = tt
    inside (Some f) first = (first.0, first.1.1)

  pub Begins-length : (path : List ℕ) (e : ℕ) → IsNet g → Begins path (Some e) → length (path ++ e ∷ []) ≤ edge_count g
  Begins-length path e net b = walk-length g net b.walks.0 (path ++ e ∷ []) b.walks.1

  pub Begins-all : (path : List ℕ) → Begins path None → IsFirstPath g rest width path
  Begins-all path b = subst (IsFirstPath g rest width) (append-nil path) (b.completes [] refl)

  -- a first walk leads to a sink, and is wide
  IsFirstWalk-leads : (v : ℕ) (es : List ℕ) → IsFirstWalk g rest width v es → LeadsToSink g v es
  IsFirstWalk-leads v [] sink = record { walk = refl; sink = sink }
  IsFirstWalk-leads v (e ∷ es) first =
      subst (λ u. LeadsToSink g u (e ∷ es)) first.0.1.0 (leads-cons g e es first.0.0 (IsFirstWalk-leads (head g e) es first.1))

  IsFirstWalk-wide : (v : ℕ) (es : List ℕ) → width ≤ 18446744073709551615 → IsFirstWalk g rest width v es → width ≤ walk_width rest es
  IsFirstWalk-wide v [] fits sink = fits
  IsFirstWalk-wide v (e ∷ es) fits first =
      let here : width ≤ rest e = first.0.1.1.here in
      omega (arith, IsFirstWalk-wide (head g e) es fits first.1)

  -- an edge list is first by its first entry, or by the others
  is_list_le-cons : (e f : ℕ) (es fs : List ℕ) → e ≤ f → (e ≡ f → is_list_le es fs ≡ true) → is_list_le (e ∷ es) (f ∷ fs) ≡ true
  is_list_le-cons e f es fs le others =
      ⊎_elim
      (λ (lt : e < f). or_left (nat_lt e f) _ (lt-ltb e f lt))
      (λ (ge : f ≤ e).
      let same : e ≡ f = omega arith in
      or_right (nat_lt e f) _ (and_from (e == f) (is_list_le es fs) (eq-eqb e f same) (others same)))
      (cases_lt e f)

  -- no wide walk to a sink comes before a first walk
  IsFirstWalk-first : (v : ℕ) (es q : List ℕ) → IsFirstWalk g rest width v es → LeadsToSink g v q → width ≤ walk_width rest q → is_list_le es q ≡ true
  IsFirstWalk-first v [] q sink leads wide = refl
  IsFirstWalk-first v (e ∷ es) [] first leads wide =
      absurd (both_ways _ (tail-no_sink g e first.0.0) (subst (λ u. is_sink g u ≡ true) (sym first.0.1.0) leads.sink))
  IsFirstWalk-first v (e ∷ es) (f ∷ fs) first leads wide =
      let s : IsStep g v f fs = walk-cons g v f fs leads.walk in
      let beyond : LeadsToSink g (head g f) fs = leads-rest g v f fs leads in
      let is : IsWideOutOf g rest width v f = (s.leaves, record { here = omega arith; beyond = record { edges = fs; leads = beyond; wide = omega arith } }) in
      is_list_le-cons e f es fs (⊎_elim (λ (lt : f < e). absurd (first.0.2 f lt is)) (λ (ge : e ≤ f). ge) (cases_lt f e))
      (λ same. IsFirstWalk-first (head g e) es fs first.1 (subst (λ n. LeadsToSink g (head g n) fs) (sym same) beyond) (omega arith))

  -- a first path of the greatest width is the widest path
  pub IsWidest-from_first : (p : List ℕ) → 1 ≤ width → ((d : ℕ) → rest d ≤ 18446744073709551615) → IsGreatestWidth g rest width → IsFirstPath g rest width p → IsWidest g rest p × (width ≡ path_width rest p)
  IsWidest-from_first [] one small greatest none = let some = greatest.reached one in absurd (none some.0 some.1 some.2)
  IsWidest-from_first (e ∷ es) one small greatest first = (
    record {
      path = path;
      positive = omega (arith, same);
      widest = λ q h. omega (arith, greatest.widest q h, same);
      first = least;
    },
    same,
  )
    where
      leads : LeadsToSink g (tail g e) (e ∷ es)
      leads = leads-cons g e es first.0.0 (IsFirstWalk-leads (head g e) es first.1)

      path : IsPath g (e ∷ es)
      path = and_from (is_source g (tail g e)) _ first.0.1.0 (and_from (is_run g (e ∷ es)) (is_sink g (walk_end g (head g e) es)) leads.walk leads.sink)

      same : width ≡ path_width rest (e ∷ es)
      same =
          let here : width ≤ rest e = first.0.1.1.here in
          let fits : width ≤ 18446744073709551615 = omega (arith, small e) in
          let beyond : width ≤ walk_width rest es = IsFirstWalk-wide (head g e) es fits first.1 in
          let le : path_width rest (e ∷ es) ≤ width = greatest.widest (e ∷ es) path in
          omega (arith, walk_width-path g rest e es)

      least : (q : List ℕ) → IsPath g q → path_width rest q ≡ path_width rest (e ∷ es) → IsTrue (is_list_le (e ∷ es) q)
      least [] h as_wide = absurd (both_ways false refl h)
      least (f ∷ fs) h as_wide =
          let ends = path-ends g f fs h in
          let s : IsStep g (tail g f) f fs = walk-cons g (tail g f) f fs ends.leads.walk in
          let beyond : LeadsToSink g (head g f) fs = leads-rest g (tail g f) f fs ends.leads in
          let wide : width ≤ walk_width rest (f ∷ fs) = omega (arith, path_width-walk g rest f fs small, same) in
          let is : IsWideFromSource g rest width f = (ends.source, record { here = omega arith; beyond = record { edges = fs; leads = beyond; wide = omega arith } }) in
          is_list_le-cons e f es fs (⊎_elim (λ (lt : f < e). absurd (first.0.2 f lt is)) (λ (ge : e ≤ f). ge) (cases_lt f e))
          (λ equal. IsFirstWalk-first (head g e) es fs first.1 (subst (λ n. LeadsToSink g (head g n) fs) (sym equal) beyond) (omega arith))
