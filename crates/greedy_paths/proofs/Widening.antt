-- The greatest widths of walks to sinks, gathered against the order of the vertices.
use Rattle.std.proofs.Common.{◌≡◌, ◌≢◌, ℕ, ◌+◌, ◌<◌, ◌≤◌, min, max, List, [], ◌∷◌, Option, None, Some, MatchOption, true, false, true≢false, slice_index, slice_set, length-set, get_or-set_same, get_or-set_other, refl, sym, ap, subst, ⊎_elim, arith}
use Rattle.std.specs.Prelude.{Contains}
use Rattle.std.specs.declared.cmp.Ordering.{Ordering}
use Rattle.std.specs.declared.cmp.Ordering.TheVariants.{Less, Equal, Greater}
use Rattle.std.specs.Ordering.{nat_cmp, is_lt, is_le, ord_max, ord_min}
use Rattle.std.proofs.lemmas.Map.Keys.{ge_from_not_lt, le_from_is_le}
use Rattle.std.proofs.lemmas.Bool.{cases_lt, cases_eq, cases_Bool, both_ways}
use Rattle.decomposition.specs.Graph.{Graph, IsNet, edge_count, tail, head, is_sink}
use Rattle.decomposition.proofs.Walks.{IsStep, walk-cons, walk-from_step}
use Rattle.dag_net.specs.Chain.{IsFirstOut}
use Rattle.dag_net.specs.Order.{IsOrder}
use Rattle.decomposition.proofs.Nets.{Contains-edge, inside-from_net}
use Rattle.dag_net.proofs.Ordering.{at_place, same_place}
use Rattle.greedy_paths.specs.Widths.{walk_width, LeadsToSink, HasWidth, IsWidthFrom, HeadsHaveWidths, HaveWidthsFrom, AreWidths}

-- the greater and the lesser number, as code finds them
less_is_le : (o : Ordering) → is_lt o ≡ true → is_le o ≡ true
less_is_le Less lt = refl
less_is_le Equal lt = absurd (true≢false (sym lt))
less_is_le Greater lt = absurd (true≢false (sym lt))

pub max_is : (a b : ℕ) → ord_max nat_cmp a b ≡ max a b
max_is a b =
    ⊎_elim
    (λ (lt : is_lt (nat_cmp b a) ≡ true). let le : b ≤ a = le_from_is_le b a (less_is_le (nat_cmp b a) lt) in rw lt (omega arith))
    (λ (ge : is_lt (nat_cmp b a) ≡ false). let le : a ≤ b = ge_from_not_lt b a ge in rw ge (omega arith))
    (cases_Bool (is_lt (nat_cmp b a)))

pub min_is : (a b : ℕ) → ord_min nat_cmp a b ≡ min a b
min_is a b =
    ⊎_elim
    (λ (lt : is_lt (nat_cmp b a) ≡ true). let le : b ≤ a = le_from_is_le b a (less_is_le (nat_cmp b a) lt) in rw lt (omega arith))
    (λ (ge : is_lt (nat_cmp b a) ≡ false). let le : a ≤ b = ge_from_not_lt b a ge in rw ge (omega arith))
    (cases_Bool (is_lt (nat_cmp b a)))

-- a walk to a sink, with an edge before it and without its first edge
pub leads-cons : (g : Graph) (e : ℕ) (es : List ℕ) → e < edge_count g → LeadsToSink g (head g e) es → LeadsToSink g (tail g e) (e ∷ es)
leads-cons g e es there beyond = record {
  walk = walk-from_step g (tail g e) e es (record { inside = there; leaves = refl; rest = beyond.walk });
  sink = beyond.sink;
}

pub leads-rest : (g : Graph) (v e : ℕ) (es : List ℕ) → LeadsToSink g v (e ∷ es) → LeadsToSink g (head g e) es
leads-rest g v e es leads = record { walk = (walk-cons g v e es leads.walk).rest; sink = leads.sink }

module _ (g : Graph) (rest : ℕ → ℕ) where
  pub HasWidth-less : (v width less : ℕ) → less ≤ width → HasWidth g rest v width → HasWidth g rest v less
  HasWidth-less v width less h has =
      let wide : width ≤ walk_width rest has.edges = has.wide in
      record { edges = has.edges; leads = has.leads; wide = omega arith }

  pub HasWidth-cons : (e width : ℕ) → e < edge_count g → width ≤ rest e → HasWidth g rest (head g e) width → HasWidth g rest (tail g e) width
  HasWidth-cons e width there here has =
      let wide : width ≤ walk_width rest has.edges = has.wide in
      record { edges = e ∷ has.edges; leads = leads-cons g e has.edges there has.leads; wide = omega arith }

  walk_width-le : (es : List ℕ) → walk_width rest es ≤ 18446744073709551615
  walk_width-le [] = omega arith
  walk_width-le (e ∷ es) = omega (arith, walk_width-le es)

  -- the width from a sink is that of the empty walk
  pub IsWidthFrom-sink : (v : ℕ) → is_sink g v ≡ true → IsWidthFrom g rest v 18446744073709551615
  IsWidthFrom-sink v sink = record {
    widest = λ es leads. walk_width-le es;
    reached = λ one. record { edges = []; leads = record { walk = refl; sink = sink }; wide = omega arith };
  }

  -- no walk by an edge of v before place `to` is wider
  abbrev pub IsWidestBefore : ℕ → ℕ → ℕ → Type 0
  IsWidestBefore v to width = (e : ℕ) → e < to → tail g e ≡ v → (es : List ℕ) → LeadsToSink g (head g e) es → min (rest e) (walk_width rest es) ≤ width

  -- the same for the edges before the one at hand
  abbrev pub IsWidestUpTo : ℕ → Option ℕ → ℕ → Type 0
  IsWidestUpTo v out width =
      MatchOption out (IsWidestBefore v (edge_count g) width) (λ e. (e < edge_count g) × (tail g e ≡ v) × IsWidestBefore v e width)

  -- the greatest width of the walks by the edges of v before the one at hand
  pub record Widens (v : ℕ) (out : Option ℕ) (width : ℕ) : Type 0 where
    pub reached : 1 ≤ width → HasWidth g rest v width
    pub edges : IsWidestUpTo v out width

  pub Widens-start : (v : ℕ) (out : Option ℕ) → IsFirstOut g v 0 out → Widens v out 0
  Widens-start v out first = record { reached = λ one. absurd (omega arith); edges = go out first } where
    go : (out : Option ℕ) → IsFirstOut g v 0 out → IsWidestUpTo v out 0
    go None f = λ e h leaves. absurd (f e (omega arith) h leaves)
    go (Some n) f = (f.1, f.2, λ e h leaves. absurd (f.3 e (omega arith) h leaves))

  -- one more edge
  pub Widens-more : (v e : ℕ) (out : Option ℕ) (old new beyond : ℕ) → Widens v (Some e) old → IsWidthFrom g rest (head g e) beyond → new ≡ max old (min (rest e) beyond) → IsFirstOut g (tail g e) (e + 1) out → Widens v out new
  Widens-more v e out old new beyond w from is next = record {
    reached = λ one.
        ⊎_elim
        (λ (more : old < min (rest e) beyond).
        let same : new ≡ min (rest e) beyond = omega arith in
        let has = HasWidth-less (head g e) beyond new (omega arith) (from.reached (omega arith)) in
        subst (λ u. HasWidth g rest u new) w.edges.1 (HasWidth-cons e new w.edges.0 (omega arith) has))
        (λ (kept : min (rest e) beyond ≤ old).
        HasWidth-less v old new (omega arith) (w.reached (omega arith)))
        (cases_lt old (min (rest e) beyond));
    edges = go out (subst (λ u. IsFirstOut g u (e + 1) out) w.edges.1 next);
  } where
    so_far : IsWidestBefore v (e + 1) new
    so_far d h leaves es leads =
        ⊎_elim
        (λ (lt : d < e). let le : min (rest d) (walk_width rest es) ≤ old = w.edges.2 d lt leaves es leads in omega arith)
        (λ (ge : e ≤ d).
        let same : d ≡ e = omega arith in
        let le : walk_width rest es ≤ beyond = from.widest es (subst (λ n. LeadsToSink g (head g n) es) same leads) in
        let here : rest d ≡ rest e = ap rest same in
        omega arith)
        (cases_lt d e)

    go : (out : Option ℕ) → IsFirstOut g v (e + 1) out → IsWidestUpTo v out new
    go None f = λ d h leaves. ⊎_elim (λ (lt : d < e + 1). so_far d lt leaves) (λ (ge : e + 1 ≤ d). absurd (f d ge h leaves)) (cases_lt d (e + 1))
    go (Some n) f = (f.1, f.2, λ d h leaves. ⊎_elim (λ (lt : d < e + 1). so_far d lt leaves) (λ (ge : e + 1 ≤ d). absurd (f.3 d ge h leaves)) (cases_lt d (e + 1)))

  pub Widens-all : (v width : ℕ) → is_sink g v ≡ false → Widens v None width → IsWidthFrom g rest v width
  Widens-all v width no_sink w = record { widest = go; reached = w.reached } where
    go : (es : List ℕ) → LeadsToSink g v es → walk_width rest es ≤ width
    go [] leads = absurd (both_ways _ no_sink leads.sink)
    go (e ∷ es) leads =
        let s : IsStep g v e es = walk-cons g v e es leads.walk in
        w.edges e s.inside s.leaves es (leads-rest g v e es leads)

  module _ (order : List ℕ) (o : IsOrder g order) where
    -- the head of an edge stands behind its tail, so it has its width
    pub HeadsHaveWidths-behind : (p : ℕ) (widths : List ℕ) → IsNet g → p < g.vertices → HaveWidthsFrom g rest order (p + 1) widths → HeadsHaveWidths g rest (slice_index order p) widths
    HeadsHaveWidths-behind p widths net hp have e there leaves =
        let at = at_place order (head g e) o (inside-from_net g net e there).1 in
        let joins : Contains g.edges (slice_index order p, slice_index order at.0)
        = subst (λ x. Contains g.edges (x, slice_index order at.0)) leaves (subst (λ y. Contains g.edges (tail g e, y)) (sym at.2) (Contains-edge g e there)) in
        ⊎_elim
        (λ (behind : p < at.0). subst (λ v. IsWidthFrom g rest v (slice_index widths v)) at.2 (have.each at.0 (omega arith) at.1))
        (λ (ahead : at.0 ≤ p). absurd (o.forward at.0 p ahead hp joins))
        (cases_lt p at.0)

    pub HaveWidthsFrom-more : (p : ℕ) (widths : List ℕ) (width : ℕ) → p < g.vertices → HaveWidthsFrom g rest order (p + 1) widths → IsWidthFrom g rest (slice_index order p) width → HaveWidthsFrom g rest order p (slice_set widths (slice_index order p) width)
    HaveWidthsFrom-more p widths width hp have is = record {
      count = omega (arith, have.count, length-set widths (slice_index order p) width);
      each = λ k from hk.
          ⊎_elim
          (λ (same : k ≡ p).
          let v = slice_index order p in
          let read : slice_index (slice_set widths v width) v ≡ width = get_or-set_same widths v width 0 (omega (arith, o.below p 0 (omega (arith, o.count)), have.count)) in
          subst (λ j. IsWidthFrom g rest (slice_index order j) (slice_index (slice_set widths v width) (slice_index order j))) (sym same) (subst (IsWidthFrom g rest v) (sym read) is))
          (λ (other : k ≢ p).
          let apart : slice_index order k ≢ slice_index order p = λ e. other (same_place order o k p hk hp e) in
          let read = get_or-set_other widths (slice_index order p) (slice_index order k) width 0 apart in
          subst (IsWidthFrom g rest (slice_index order k)) (sym read) (have.each k (omega arith) hk))
          (cases_eq k p);
    }

    pub HaveWidthsFrom-all : (widths : List ℕ) → HaveWidthsFrom g rest order 0 widths → AreWidths g rest widths
    HaveWidthsFrom-all widths have = record {
      count = have.count;
      each = λ v h.
          let at = at_place order v o h in
          subst (λ v. IsWidthFrom g rest v (slice_index widths v)) at.2 (have.each at.0 (omega arith) at.1);
    }
