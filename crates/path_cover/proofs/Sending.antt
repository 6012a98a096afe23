-- One unit more along a path, and so a first flow.
use Rattle.std.proofs.Common.{Option, Some, MatchOption, ◌≡◌, ℕ, ◌+◌, ◌-◌, ◌*◌, ◌<◌, ◌≤◌, Bool, true, List, length, None, slice_index, slice_set, get_or-set_same, get_or-set_other, sym, subst, arith, inl, inr}
use Rattle.std.proofs.lemmas.Bool.{cases_eq, cases_Bool}
use Rattle.decomposition.specs.Graph.{Graph, IsNet, edge_count, tail, head, is_source, is_sink}
use Rattle.decomposition.specs.Flow.{IsBalanced}
use Rattle.decomposition.proofs.Walks.{edge_into, edge_out_of}
use Rattle.decomposition.proofs.Nets.{inside-from_net}
use Rattle.dag_net.specs.Chain.{IsFirstOut}
use Rattle.path_cover.specs.Carrying.{least_flow, IsBalancedBut, IsMore, IsSentOn, IsBroughtIn}
use Rattle.dag_net.specs.Entering.{IsFirstInto}
use Rattle.path_cover.specs.GoingOn.{IsEdgeOut, IsEdgeInto}
use Rattle.path_cover.proofs.Moves.{IsRaised, raise-onward, raise-back, IsBalancedBut-same, IsBalanced-from_but, source-outer, sink-outer}
use Rattle.path_cover.proofs.Depth.{depth, depth-le, depth-rises}

-- a unit put on an edge, or taken off it, in a list
pub IsRaised-set : (flow : List ℕ) (e : ℕ) → e < length flow → IsRaised (slice_index flow) (slice_index (slice_set flow e (slice_index flow e + 1))) e
IsRaised-set flow e h = record {
  here = get_or-set_same flow e (slice_index flow e + 1) 0 h;
  others = λ d other. get_or-set_other flow e d (slice_index flow e + 1) 0 other;
}

pub IsRaised-unset : (flow : List ℕ) (e : ℕ) → e < length flow → 1 ≤ slice_index flow e → IsRaised (slice_index (slice_set flow e (slice_index flow e - 1))) (slice_index flow) e
IsRaised-unset flow e h one = record {
  here = let set : slice_index (slice_set flow e (slice_index flow e - 1)) e ≡ slice_index flow e - 1 = get_or-set_same flow e (slice_index flow e - 1) 0 h in omega arith;
  others = λ d other. sym (get_or-set_other flow e d (slice_index flow e - 1) 0 other);
}

-- a sink is where no edge leaves, a source where none enters
pub is_sink-from_none : (g : Graph) (v : ℕ) → IsFirstOut g v 0 None → is_sink g v ≡ true
is_sink-from_none g v none =
    elim (cases_Bool (is_sink g v)) [
      | inl sink ↦ sink
      | inr other ↦ let out = edge_out_of g v other in absurd (none out.0 (omega arith) out.1 out.2)
    ]

pub is_source-from_none : (g : Graph) (v : ℕ) → IsFirstInto g v 0 None → is_source g v ≡ true
is_source-from_none g v none =
    elim (cases_Bool (is_source g v)) [
      | inl source ↦ source
      | inr other ↦ let into = edge_into g v other in absurd (none into.0 (omega arith) into.1 into.2)
    ]

-- how far a unit was sent on from v
pub record Sends (g : Graph) (old flow : ℕ → ℕ) (v at : ℕ) : Type 0 where
  pub vertex : at < g.vertices
  pub moved : (a : ℕ) → IsBalancedBut g old a v → IsBalancedBut g flow a at
  pub kept : (e : ℕ) → old e ≤ flow e
  pub few : (e : ℕ) → flow e + depth g v ≤ old e + depth g at

-- how far back a unit was brought in to v
pub record Brings (g : Graph) (old flow : ℕ → ℕ) (v at : ℕ) : Type 0 where
  pub vertex : at < g.vertices
  pub moved : (b : ℕ) → IsBalancedBut g old v b → IsBalancedBut g flow at b
  pub kept : (e : ℕ) → old e ≤ flow e
  pub few : (e : ℕ) → flow e + depth g at ≤ old e + depth g v

-- what a raised edge has
raised-bounds : (old new : ℕ → ℕ) (e : ℕ) → IsRaised old new e → (d : ℕ) → (old d ≤ new d) × (new d ≤ old d + 1)
raised-bounds old new e r d =
    elim (cases_eq d e) [
      | inl same ↦ let now : new d ≡ old d + 1 = rw same r.here in (omega arith, omega arith)
      | inr other ↦ let now : new d ≡ old d = r.others d other in (omega arith, omega arith)
    ]

module _ (g : Graph) (net : IsNet g) where
  pub Sends-more : (old flow new : ℕ → ℕ) (v at e : ℕ) → e < edge_count g → tail g e ≡ at → Sends g old flow v at → IsRaised flow new e → Sends g old new v (head g e)
  Sends-more old flow new v at e h leaves s r = record {
    vertex = (inside-from_net g net e h).1;
    moved = λ a but. raise-onward g flow new e h r a (subst (IsBalancedBut g flow a) (sym leaves) (s.moved a but));
    kept = λ d. omega (arith, s.kept d, (raised-bounds flow new e r d).0);
    few = λ d. let rises : depth g at < depth g (head g e) = subst (λ u. depth g u < depth g (head g e)) leaves (depth-rises g net e h) in omega (arith, s.few d, (raised-bounds flow new e r d).1);
  }

  pub Brings-more : (old flow new : ℕ → ℕ) (v at e : ℕ) → e < edge_count g → head g e ≡ at → Brings g old flow v at → IsRaised flow new e → Brings g old new v (tail g e)
  Brings-more old flow new v at e h enters s r = record {
    vertex = (inside-from_net g net e h).0;
    moved = λ b but. raise-back g flow new e h r b (subst (λ u. IsBalancedBut g flow u b) (sym enters) (s.moved b but));
    kept = λ d. omega (arith, s.kept d, (raised-bounds flow new e r d).0);
    few = λ d. let rises : depth g (tail g e) < depth g at = subst (λ u. depth g (tail g e) < depth g u) enters (depth-rises g net e h) in omega (arith, s.few d, (raised-bounds flow new e r d).1);
  }

pub Sends-all : (g : Graph) (old flow : ℕ → ℕ) (v at : ℕ) → is_sink g at ≡ true → Sends g old flow v at → IsSentOn g old flow v
Sends-all g old flow v at sink s a but = (at, sink, s.moved a but)

pub Brings-all : (g : Graph) (old flow : ℕ → ℕ) (v at : ℕ) → is_source g at ≡ true → Brings g old flow v at → IsBroughtIn g old flow v
Brings-all g old flow v at source s b but = (at, source, s.moved b but)

pub Sends-few : (g : Graph) (old flow : ℕ → ℕ) (v at : ℕ) → Sends g old flow v at → IsMore old flow g.vertices
Sends-few g old flow v at s = record { kept = s.kept; few = λ e. omega (arith, s.few e, depth-le g at) }

pub Brings-few : (g : Graph) (old flow : ℕ → ℕ) (v at : ℕ) → Brings g old flow v at → IsMore old flow g.vertices
Brings-few g old flow v at s = record { kept = s.kept; few = λ e. omega (arith, s.few e, depth-le g v) }

-- a unit on an edge, sent on and brought in, is a unit more on a path
pub IsBalanced-through : (g : Graph) (old put sent new : ℕ → ℕ) (e : ℕ) → e < edge_count g → IsRaised old put e → IsSentOn g put sent (head g e) → IsBroughtIn g sent new (tail g e) → IsBalanced g old → IsBalanced g new
IsBalanced-through g old put sent new e h r on in' balanced =
    let start = raise-back g old put e h r (head g e) (IsBalancedBut-same g old (head g e) balanced) in
    let ahead = on (tail g e) start in
    let behind = in' ahead.0 ahead.2 in
    IsBalanced-from_but g new behind.0 ahead.0 (source-outer g behind.0 behind.1) (sink-outer g ahead.0 ahead.1) behind.2

-- a balanced flow that carries the needed edges before place n
pub record CarriesBefore (g : Graph) (needed : ℕ → Bool) (flow : List ℕ) (n : ℕ) : Type 0 where
  pub count : length flow ≡ edge_count g
  pub balanced : IsBalanced g (slice_index flow)
  pub enough : (e : ℕ) → e < n → least_flow needed e ≤ slice_index flow e
  pub small : (e : ℕ) → slice_index flow e ≤ n * 16385

-- the edge at hand, if there is one, enters v
abbrev pub IsOneInto : Graph → ℕ → Option ℕ → Type 0
IsOneInto g v into = MatchOption into (Unit {0}) (λ e. (e < edge_count g) × (head g e ≡ v))

pub IsOneInto-first : (g : Graph) (v from : ℕ) (into : Option ℕ) → IsFirstInto g v from into → IsOneInto g v into
IsOneInto-first g v from None none = tt
IsOneInto-first g v from (Some e) first = (first.1, first.2)

-- the first edge at v is one
pub IsEdgeOut-first : (g : Graph) (v : ℕ) (out : Option ℕ) → IsFirstOut g v 0 out → IsEdgeOut g v out
IsEdgeOut-first g v None none = is_sink-from_none g v none
IsEdgeOut-first g v (Some e) first = (first.1, first.2)

pub IsEdgeInto-first : (g : Graph) (v : ℕ) (into : Option ℕ) → IsFirstInto g v 0 into → IsEdgeInto g v into
IsEdgeInto-first g v None none = is_source-from_none g v none
IsEdgeInto-first g v (Some e) first = (first.1, first.2)
