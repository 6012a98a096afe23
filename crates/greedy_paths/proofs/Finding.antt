-- The greatest width of a path, and the first edge of that width out of a vertex.
use Rattle.std.proofs.Common.{◌≡◌, ℕ, ◌+◌, ◌<◌, ◌≤◌, max, List, [], ◌∷◌, Option, None, Some, MatchOption, true, false, sym, subst, ⊎_elim, arith}
use Rattle.std.specs.Prelude.{IsTrue}
use Rattle.std.proofs.lemmas.Bool.{cases_lt, both_ways, and_parts}
use Rattle.decomposition.specs.Graph.{Graph, IsPath, edge_count, tail, head, is_sink, is_source, is_run, walk_end}
use Rattle.decomposition.specs.FirstAnswer.{path_width}
use Rattle.decomposition.proofs.Walks.{IsStep, walk-cons}
use Rattle.decomposition.proofs.Flows.{tail-no_sink}
use Rattle.dag_net.specs.Chain.{IsFirstOut}
use Rattle.greedy_paths.specs.Widths.{walk_width, LeadsToSink, HasWidth, IsWidthFrom}
use Rattle.greedy_paths.specs.Widest.{IsWide, IsWideFromSource, IsWideOutOf, IsGreatestWidth}
use Rattle.greedy_paths.proofs.Widening.{leads-rest, HasWidth-less}

-- a path begins at a source and leads to a sink
pub record IsFromSource (g : Graph) (e : ℕ) (es : List ℕ) : Type 0 where
  pub source : is_source g (tail g e) ≡ true
  pub leads : LeadsToSink g (tail g e) (e ∷ es)

pub path-ends : (g : Graph) (e : ℕ) (es : List ℕ) → IsPath g (e ∷ es) → IsFromSource g e es
path-ends g e es path =
    let parts = and_parts (is_source g (tail g e)) _ path in
    let others = and_parts (is_run g (e ∷ es)) (is_sink g (walk_end g (head g e) es)) parts.1 in
    record { source = parts.0; leads = record { walk = others.0; sink = others.1 } }

module _ (g : Graph) (rest : ℕ → ℕ) where
  -- a wide walk from a vertex that is no sink begins with a wide edge
  pub IsWide-from_width : (v width : ℕ) → is_sink g v ≡ false → HasWidth g rest v width → (f : ℕ) × (f < edge_count g) × IsWideOutOf g rest width v f
  IsWide-from_width v width no_sink has = go has.edges has.leads has.wide where
    go : (es : List ℕ) → LeadsToSink g v es → width ≤ walk_width rest es → (f : ℕ) × (f < edge_count g) × IsWideOutOf g rest width v f
    go [] leads wide = absurd (both_ways _ no_sink leads.sink)
    go (f ∷ fs) leads wide =
        let s : IsStep g v f fs = walk-cons g v f fs leads.walk in
        (f, s.inside, (s.leaves, record { here = omega arith; beyond = record { edges = fs; leads = leads-rest g v f fs leads; wide = omega arith } }))

  pub IsWide-from : (width e beyond : ℕ) → 1 ≤ width → IsWidthFrom g rest (head g e) beyond → width ≤ rest e → width ≤ beyond → IsWide g rest width e
  IsWide-from width e beyond one from here le = record { here = here; beyond = HasWidth-less g rest (head g e) beyond width le (from.reached (omega arith)) }

  pub IsWide-beyond : (width e beyond : ℕ) → IsWidthFrom g rest (head g e) beyond → IsWide g rest width e → width ≤ beyond
  IsWide-beyond width e beyond from wide =
      let le : walk_width rest wide.beyond.edges ≤ beyond = from.widest wide.beyond.edges wide.beyond.leads in
      let has : width ≤ walk_width rest wide.beyond.edges = wide.beyond.wide in
      omega arith

  -- the greatest width of the paths by the edges before place `to`
  pub record WidestBefore (to width : ℕ) : Type 0 where
    pub reached : 1 ≤ width → (e : ℕ) × (e < edge_count g) × IsWideFromSource g rest width e
    pub edges : (e : ℕ) → e < to → IsTrue (is_source g (tail g e)) → (es : List ℕ) → LeadsToSink g (tail g e) es → walk_width rest es ≤ width

  pub WidestBefore-source : (e old new width : ℕ) → e < edge_count g → is_source g (tail g e) ≡ true → IsWidthFrom g rest (tail g e) width → new ≡ max old width → WidestBefore e old → WidestBefore (e + 1) new
  WidestBefore-source e old new width there source from is w = record {
    reached = λ one.
        ⊎_elim
        (λ (more : old < width).
        let has = HasWidth-less g rest (tail g e) width new (omega arith) (from.reached (omega arith)) in
        let found = IsWide-from_width (tail g e) new (tail-no_sink g e there) has in
        (found.0, found.1, (subst (λ v. is_source g v ≡ true) (sym found.2.0) source, found.2.1)))
        (λ (kept : width ≤ old).
        let same : old ≡ new = omega arith in
        subst (λ n. (e : ℕ) × (e < edge_count g) × IsWideFromSource g rest n e) same (w.reached (omega arith)))
        (cases_lt old width);
    edges = λ d h begins es leads.
        ⊎_elim
        (λ (lt : d < e). let le : walk_width rest es ≤ old = w.edges d lt begins es leads in omega arith)
        (λ (ge : e ≤ d).
        let same : d ≡ e = omega arith in
        let le : walk_width rest es ≤ width = from.widest es (subst (λ n. LeadsToSink g (tail g n) es) same leads) in
        omega arith)
        (cases_lt d e);
  }

  pub WidestBefore-other : (e width : ℕ) → is_source g (tail g e) ≡ false → WidestBefore e width → WidestBefore (e + 1) width
  WidestBefore-other e width other w = record {
    reached = w.reached;
    edges = λ d h begins es leads.
        ⊎_elim
        (λ (lt : d < e). w.edges d lt begins es leads)
        (λ (ge : e ≤ d).
        let same : d ≡ e = omega arith in
        absurd (both_ways _ other (subst (λ n. is_source g (tail g n) ≡ true) same begins)))
        (cases_lt d e);
  }

  -- the width of a path is that of the walk
  pub walk_width-path : (e : ℕ) (es : List ℕ) → walk_width rest (e ∷ es) ≤ path_width rest (e ∷ es)
  walk_width-path e [] = omega arith
  walk_width-path e (f ∷ fs) = omega (arith, walk_width-path f fs)

  pub path_width-walk : (e : ℕ) (es : List ℕ) → ((d : ℕ) → rest d ≤ 18446744073709551615) → path_width rest (e ∷ es) ≤ walk_width rest (e ∷ es)
  path_width-walk e [] small = omega (arith, small e)
  path_width-walk e (f ∷ fs) small = omega (arith, path_width-walk f fs small)

  pub IsGreatestWidth-from : (width : ℕ) → ((d : ℕ) → rest d ≤ 18446744073709551615) → WidestBefore (edge_count g) width → IsGreatestWidth g rest width
  IsGreatestWidth-from width small w = record { widest = go; reached = w.reached } where
    go : (p : List ℕ) → IsPath g p → path_width rest p ≤ width
    go [] path = omega arith
    go (e ∷ es) path =
        let ends = path-ends g e es path in
        let le : walk_width rest (e ∷ es) ≤ width = w.edges e (walk-cons g (tail g e) e es ends.leads.walk).inside ends.source (e ∷ es) ends.leads in
        omega (arith, path_width-walk e es small)

  -- none of the edges before the one at hand is wide
  abbrev pub NoneWideUpTo : ℕ → ℕ → Option ℕ → Type 0
  NoneWideUpTo width v out =
      MatchOption out ((e : ℕ) → e < edge_count g → ¬ IsWideOutOf g rest width v e) (λ e. (e < edge_count g) × (tail g e ≡ v) × ((f : ℕ) → f < e → ¬ IsWideOutOf g rest width v f))

  pub NoneWideUpTo-start : (width v : ℕ) (out : Option ℕ) → IsFirstOut g v 0 out → NoneWideUpTo width v out
  NoneWideUpTo-start width v None first = λ e h wide. first e (omega arith) h wide.0
  NoneWideUpTo-start width v (Some n) first = (first.1, first.2, λ f h wide. first.3 f (omega arith) h wide.0)

  pub NoneWideUpTo-more : (width v e : ℕ) (out : Option ℕ) → NoneWideUpTo width v (Some e) → ¬ IsWide g rest width e → IsFirstOut g (tail g e) (e + 1) out → NoneWideUpTo width v out
  NoneWideUpTo-more width v e out so_far narrow next = go out (subst (λ u. IsFirstOut g u (e + 1) out) so_far.1 next) where
    before : (f : ℕ) → f < e + 1 → ¬ IsWideOutOf g rest width v f
    before f h wide =
        ⊎_elim
        (λ (lt : f < e). so_far.2 f lt wide)
        (λ (ge : e ≤ f). let same : f ≡ e = omega arith in narrow (subst (IsWide g rest width) same wide.1))
        (cases_lt f e)

    go : (out : Option ℕ) → IsFirstOut g v (e + 1) out → NoneWideUpTo width v out
    go None first = λ f h wide. ⊎_elim (λ (lt : f < e + 1). before f lt wide) (λ (ge : e + 1 ≤ f). first f ge h wide.0) (cases_lt f (e + 1))
    go (Some n) first = (first.1, first.2, λ f h wide. ⊎_elim (λ (lt : f < e + 1). before f lt wide) (λ (ge : e + 1 ≤ f). first.3 f ge h wide.0) (cases_lt f (e + 1)))
