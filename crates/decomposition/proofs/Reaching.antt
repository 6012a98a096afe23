-- Reaching, step by step, and the test for it.
use Rattle.std.proofs.Common.{◌≡◌, ℕ, zero, suc, ◌<◌, ◌≤◌, ◌++◌, ◌∷◌, [], List, true, ◌==◌, eqb, length, get_or, take, refl, sym, ap, subst, ◌∙◌, arith, inl, inr, eq-eqb, eqb-true}
use Rattle.std.specs.Prelude.{◌⊎◌, ◌≢◌, ◌+◌, Contains, All, AllPairs}
use Rattle.std.specs.List.{list_any}
use Rattle.std.proofs.lemmas.Bool.{cases_lt, or_cases, or_left, or_right}
use Rattle.std.proofs.lemmas.List.{get_or-take, length-take-le}
use Rattle.decomposition.specs.Graph.{Graph, IsNet, graph_before, edge_count, tail, head, edges_from, is_walk_from, walk_end}
use Rattle.decomposition.specs.Laws.{ReachesByWalks}
use Rattle.decomposition.specs.Reach.{Reaches, reaches_within, reaches}
use Rattle.decomposition.proofs.Members.{any-place, any-from_place}
use Rattle.decomposition.proofs.Nets.{edge_number, in_range-from_inside, simple-from_pairs}
use Rattle.decomposition.proofs.Walks.{IsStep, walk-cons, walk-from_step, walk-append, walk_end-append, walk-length, edges_from-has, edges_from-only}

pub Reaches-self : (g : Graph) (u v : ℕ) → u ≡ v → Reaches g u v
Reaches-self g u v same = record { edges = []; walk = refl; end = same }

-- what the head of an edge reaches, its tail reaches
pub Reaches-along : (g : Graph) (e w : ℕ) → e < edge_count g → Reaches g (head g e) w → Reaches g (tail g e) w
Reaches-along g e w there way = record {
  edges = e ∷ way.edges;
  walk = walk-from_step g (tail g e) e way.edges (record { inside = there; leaves = refl; rest = way.walk });
  end = way.end;
}

pub Reaches-trans : (g : Graph) (u v w : ℕ) → Reaches g u v → Reaches g v w → Reaches g u w
Reaches-trans g u v w first second = record {
  edges = first.edges ++ second.edges;
  walk = walk-append g u first.edges second.edges first.walk (subst (λ x. is_walk_from g x second.edges ≡ true) (sym first.end) second.walk);
  end = walk_end-append g u first.edges second.edges ∙ ap (λ x. walk_end g x second.edges) first.end ∙ second.end;
}

-- a walk goes on along one more edge
pub Reaches-push : (g : Graph) (u v w : ℕ) → Reaches g u v → Contains g.edges (v, w) → Reaches g u w
Reaches-push g u v w way joins =
    let n = edge_number g v w joins in
    Reaches-trans g u v w way (subst (λ x. Reaches g x w) n.2 (Reaches-along g n.0 w n.1 (Reaches-self g (head g n.0) w n.3)))

-- a vertex reaches itself, and what the heads of its edges reach
abbrev pub ReachesByEdge : Graph → ℕ → ℕ → Type 0
ReachesByEdge g v x = (e : ℕ) × (e < edge_count g) × (tail g e ≡ v) × Reaches g (head g e) x

pub Reaches-cases : (g : Graph) (v x : ℕ) → Reaches g v x → (v ≡ x) ⊎ ReachesByEdge g v x
Reaches-cases g v x way = first way.edges way.walk way.end where
  first : (es : List ℕ) → is_walk_from g v es ≡ true → walk_end g v es ≡ x → (v ≡ x) ⊎ ReachesByEdge g v x
  first [] walk end = inl end
  first (e ∷ es) walk end =
      let s : IsStep g v e es = walk-cons g v e es walk in
      inr (e, s.inside, s.leaves, record { edges = es; walk = s.rest; end = end })

-- a walk of so many edges is found
pub reaches_within-from_walk : (n : ℕ) (g : Graph) (u v : ℕ) (es : List ℕ) → is_walk_from g u es ≡ true → walk_end g u es ≡ v → length es ≤ n → reaches_within n g u v ≡ true
reaches_within-from_walk zero g u v [] walk end few = eq-eqb u v end
reaches_within-from_walk zero g u v (e ∷ es) walk end few = absurd (omega arith)
reaches_within-from_walk (suc n) g u v [] walk end few = or_left (u == v) (list_any (λ e. reaches_within n g (head g e) v) (edges_from g u)) (eq-eqb u v end)
reaches_within-from_walk (suc n) g u v (e ∷ es) walk end few =
    let s : IsStep g u e es = walk-cons g u e es walk in
    let at = any-place (λ y. eqb e y) (edges_from g u) 0 (edges_from-has g u e s.inside s.leaves) in
    let rest : reaches_within n g (head g e) v ≡ true = reaches_within-from_walk n g (head g e) v es s.rest end (omega arith) in
    let here : reaches_within n g (head g (get_or (edges_from g u) at.0 0)) v ≡ true
    = subst (λ f. reaches_within n g (head g f) v ≡ true) (eqb-true e (get_or (edges_from g u) at.0 0) at.2) rest in
    or_right (u == v) (list_any (λ f. reaches_within n g (head g f) v) (edges_from g u)) (any-from_place (λ f. reaches_within n g (head g f) v) (edges_from g u) 0 at.0 at.1 here)

-- what is found is a walk
pub Reaches-from_within : (n : ℕ) (g : Graph) (u v : ℕ) → reaches_within n g u v ≡ true → Reaches g u v
Reaches-from_within zero g u v h = Reaches-self g u v (eqb-true u v h)
Reaches-from_within (suc n) g u v h =
    elim (or_cases (u == v) (list_any (λ e. reaches_within n g (head g e) v) (edges_from g u)) h) [
      | inl same ↦ Reaches-self g u v (eqb-true u v same)
      | inr some ↦
          let at = any-place (λ e. reaches_within n g (head g e) v) (edges_from g u) 0 some in
          let e = get_or (edges_from g u) at.0 0 in
          let edge = edges_from-only g u e (any-from_place (λ y. eqb e y) (edges_from g u) 0 at.0 at.1 (eq-eqb e e refl)) in
          subst (λ x. Reaches g x v) edge.1 (Reaches-along g e v edge.0 (Reaches-from_within n g (head g e) v at.2))
    ]

pub reaches_by_walks : ReachesByWalks
reaches_by_walks g u v net = (
  λ found. Reaches-from_within (edge_count g) g u v found,
  λ way. reaches_within-from_walk (edge_count g) g u v way.edges way.walk way.end (walk-length g net u way.edges way.walk),
)

-- the edges before an edge are edges, with the ends that they had
pub IsEdge-before : (g : Graph) (n e : ℕ) → n ≤ edge_count g → e < n → (e < edge_count (graph_before g n)) × (tail (graph_before g n) e ≡ tail g e) × (head (graph_before g n) e ≡ head g e)
IsEdge-before g n e few before =
    let same : get_or (take n g.edges) e (0, 0) ≡ get_or g.edges e (0, 0) = get_or-take n g.edges e (0, 0) before in
    (omega (arith, length-take-le n g.edges few), ap (λ (edge : ℕ × ℕ). edge.0) same, ap (λ (edge : ℕ × ℕ). edge.1) same)

-- a walk of the edges before one edge is a walk of those before a later one
pub walk-later : (g : Graph) (m n : ℕ) → m ≤ n → n ≤ edge_count g → (v : ℕ) (es : List ℕ) → is_walk_from (graph_before g m) v es ≡ true → is_walk_from (graph_before g n) v es ≡ true
walk-later g m n less few v [] walk = refl
walk-later g m n less few v (e ∷ es) walk =
    let s : IsStep (graph_before g m) v e es = walk-cons (graph_before g m) v e es walk in
    let low : e < m = omega (arith, s.inside, length-take-le m g.edges (omega arith)) in
    let old = IsEdge-before g m e (omega arith) low in
    let new = IsEdge-before g n e few (omega arith) in
    let heads : head (graph_before g m) e ≡ head (graph_before g n) e = old.2 ∙ sym new.2 in
    let rest : is_walk_from (graph_before g n) (head (graph_before g m) e) es ≡ true = walk-later g m n less few (head (graph_before g m) e) es s.rest in
    walk-from_step (graph_before g n) v e es (record {
      inside = new.0;
      leaves = new.1 ∙ sym old.1 ∙ s.leaves;
      rest = subst (λ x. is_walk_from (graph_before g n) x es ≡ true) heads rest;
    })

pub walk_end-later : (g : Graph) (m n : ℕ) → m ≤ n → n ≤ edge_count g → (v : ℕ) (es : List ℕ) → is_walk_from (graph_before g m) v es ≡ true → walk_end (graph_before g n) v es ≡ walk_end (graph_before g m) v es
walk_end-later g m n less few v [] walk = refl
walk_end-later g m n less few v (e ∷ es) walk =
    let s : IsStep (graph_before g m) v e es = walk-cons (graph_before g m) v e es walk in
    let low : e < m = omega (arith, s.inside, length-take-le m g.edges (omega arith)) in
    let heads : head (graph_before g n) e ≡ head (graph_before g m) e = (IsEdge-before g n e few (omega arith)).2 ∙ sym (IsEdge-before g m e (omega arith) low).2 in
    ap (λ x. walk_end (graph_before g n) x es) heads ∙ walk_end-later g m n less few (head (graph_before g m) e) es s.rest

pub Reaches-later : (g : Graph) (m n : ℕ) → m ≤ n → n ≤ edge_count g → (u v : ℕ) → Reaches (graph_before g m) u v → Reaches (graph_before g n) u v
Reaches-later g m n less few u v way = record {
  edges = way.edges;
  walk = walk-later g m n less few u way.edges way.walk;
  end = walk_end-later g m n less few u way.edges way.walk ∙ way.end;
}

-- an edge of a net closes no walk of the edges before it
pub closes_no_walk : (g : Graph) (n e : ℕ) → n ≤ edge_count g → IsNet (graph_before g n) → e < n → ¬ Reaches (graph_before g e) (head g e) (tail g e)
closes_no_walk g n e few net before way =
    let is = IsEdge-before g n e few before in
    let later : Reaches (graph_before g n) (head g e) (tail g e) = Reaches-later g e n (omega arith) few (head g e) (tail g e) way in
    let walk : is_walk_from (graph_before g n) (tail g e) (e ∷ later.edges) ≡ true
    = walk-from_step (graph_before g n) (tail g e) e later.edges (record { inside = is.0; leaves = is.1; rest = subst (λ x. is_walk_from (graph_before g n) x later.edges ≡ true) (sym is.2) later.walk }) in
    let closed : walk_end (graph_before g n) (tail g e) (e ∷ later.edges) ≡ tail g e = ap (λ x. walk_end (graph_before g n) x later.edges) is.2 ∙ later.end in
    let none : e ∷ later.edges ≡ [] = net.acyclic (tail g e) (e ∷ later.edges) walk closed in
    cc

pub closes_none : (g : Graph) (n e : ℕ) → n ≤ edge_count g → IsNet (graph_before g n) → e < n → reaches (graph_before g e) (head g e) (tail g e) ≡ true → ⊥
closes_none g n e few net before found =
    closes_no_walk g n e few net before (Reaches-from_within (edge_count (graph_before g e)) (graph_before g e) (head g e) (tail g e) found)

-- a walk that an edge closes is found
pub closes_some : (g : Graph) (e : ℕ) → IsNet (graph_before g e) → Reaches (graph_before g e) (head g e) (tail g e) → reaches (graph_before g e) (head g e) (tail g e) ≡ true
closes_some g e net way = (reaches_by_walks (graph_before g e) (head g e) (tail g e) net).1 way

-- what is reached over one edge more is reached without it, or the way leads over it
pub Reaches-cases_last : (g : Graph) (e : ℕ) → e < edge_count g → (u v : ℕ) → Reaches (graph_before g (e + 1)) u v
    → Reaches (graph_before g e) u v ⊎ (Reaches (graph_before g e) u (tail g e) × Reaches (graph_before g e) (head g e) v)
Reaches-cases_last g e there u v way = go u way.edges way.walk way.end where
  go : (u : ℕ) (es : List ℕ) → is_walk_from (graph_before g (e + 1)) u es ≡ true → walk_end (graph_before g (e + 1)) u es ≡ v
      → Reaches (graph_before g e) u v ⊎ (Reaches (graph_before g e) u (tail g e) × Reaches (graph_before g e) (head g e) v)
  go u [] walk end = inl (Reaches-self (graph_before g e) u v end)
  go u (d ∷ ds) walk end =
      let s : IsStep (graph_before g (e + 1)) u d ds = walk-cons (graph_before g (e + 1)) u d ds walk in
      let low : d < e + 1 = omega (arith, s.inside, length-take-le (e + 1) g.edges (omega arith)) in
      let new = IsEdge-before g (e + 1) d (omega arith) low in
      let from_tail : tail g d ≡ u = sym new.1 ∙ s.leaves in
      let rest = go (head (graph_before g (e + 1)) d) ds s.rest end in
      elim (cases_lt d e) [
        | inl old_edge ↦
            let old = IsEdge-before g e d (omega arith) old_edge in
            let along = λ (x : ℕ) (ahead : Reaches (graph_before g e) (head (graph_before g (e + 1)) d) x).
            subst (λ z. Reaches (graph_before g e) z x) (old.1 ∙ from_tail)
            (Reaches-along (graph_before g e) d x old.0 (subst (λ z. Reaches (graph_before g e) z x) (new.2 ∙ sym old.2) ahead)) in
            elim rest [ inl ahead ↦ inl (along v ahead) | inr over ↦ inr (along (tail g e) over.0, over.1) ]
        | inr last ↦
            let same : d ≡ e = omega arith in
            let here : Reaches (graph_before g e) u (tail g e) = Reaches-self (graph_before g e) u (tail g e) (sym from_tail ∙ ap (tail g) same) in
            let ahead_is : head (graph_before g (e + 1)) d ≡ head g e = new.2 ∙ ap (head g) same in
            elim rest [ inl ahead ↦ inr (here, subst (λ z. Reaches (graph_before g e) z v) ahead_is ahead) | inr over ↦ inr (here, over.1) ]
      ]

-- a net and one edge more, whose head does not reach its tail
pub IsNet-more : (g : Graph) (e : ℕ) → e < edge_count g → All (λ edge. (edge.0 < g.vertices) × (edge.1 < g.vertices)) (take (e + 1) g.edges) → AllPairs (λ a b. a ≢ b) (take (e + 1) g.edges)
    → IsNet (graph_before g e) → ¬ Reaches (graph_before g e) (head g e) (tail g e) → IsNet (graph_before g (e + 1))
IsNet-more g e there inside distinct net apart = record {
  in_range = in_range-from_inside (graph_before g (e + 1)) inside;
  simple = simple-from_pairs (graph_before g (e + 1)) distinct;
  acyclic = no_walk;
} where
  closed_by : (d : ℕ) → d < e + 1 → Reaches (graph_before g (e + 1)) (head g d) (tail g d) → ⊥
  closed_by d low way =
      elim (cases_lt d e) [
        | inl old_edge ↦
            let old = IsEdge-before g e d (omega arith) old_edge in
            elim (Reaches-cases_last g e there (head g d) (tail g d) way) [
              | inl around ↦
                  let walk : is_walk_from (graph_before g e) (tail g d) (d ∷ around.edges) ≡ true
                  = walk-from_step (graph_before g e) (tail g d) d around.edges (record { inside = old.0; leaves = old.1; rest = subst (λ x. is_walk_from (graph_before g e) x around.edges ≡ true) (sym old.2) around.walk }) in
                  let closed : walk_end (graph_before g e) (tail g d) (d ∷ around.edges) ≡ tail g d = ap (λ x. walk_end (graph_before g e) x around.edges) old.2 ∙ around.end in
                  let none : d ∷ around.edges ≡ [] = net.acyclic (tail g d) (d ∷ around.edges) walk closed in
                  cc
              | inr over ↦
                  let step : Reaches (graph_before g e) (tail g d) (tail g e)
                  = subst (λ z. Reaches (graph_before g e) z (tail g e)) old.1 (Reaches-along (graph_before g e) d (tail g e) old.0 (subst (λ z. Reaches (graph_before g e) z (tail g e)) (sym old.2) over.0)) in
                  apart (Reaches-trans (graph_before g e) (head g e) (tail g d) (tail g e) over.1 step)
            ]
        | inr last ↦
            let same : d ≡ e = omega arith in
            let way' : Reaches (graph_before g (e + 1)) (head g e) (tail g e) = subst (λ z. Reaches (graph_before g (e + 1)) (head g z) (tail g z)) same way in
            elim (Reaches-cases_last g e there (head g e) (tail g e) way') [ inl around ↦ apart around | inr over ↦ apart over.0 ]
      ]

  no_walk : (v : ℕ) (es : List ℕ) → is_walk_from (graph_before g (e + 1)) v es ≡ true → walk_end (graph_before g (e + 1)) v es ≡ v → es ≡ []
  no_walk v [] walk closed = refl
  no_walk v (d ∷ ds) walk closed =
      let s : IsStep (graph_before g (e + 1)) v d ds = walk-cons (graph_before g (e + 1)) v d ds walk in
      let low : d < e + 1 = omega (arith, s.inside, length-take-le (e + 1) g.edges (omega arith)) in
      let new = IsEdge-before g (e + 1) d (omega arith) low in
      let way : Reaches (graph_before g (e + 1)) (head (graph_before g (e + 1)) d) v = record { edges = ds; walk = s.rest; end = closed } in
      absurd (closed_by d low (subst (λ z. Reaches (graph_before g (e + 1)) z (tail g d)) new.2 (subst (Reaches (graph_before g (e + 1)) (head (graph_before g (e + 1)) d)) (sym s.leaves ∙ new.1) way)))
