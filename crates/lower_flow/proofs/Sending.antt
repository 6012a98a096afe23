-- An amount that is sent along the way of a search: edge by edge from the target back to where the way begins.
use Rattle.std.proofs.Common.{◌⊎◌, ◌≡◌, ◌≢◌, ℕ, ◌+◌, ◌-◌, ◌<◌, ◌≤◌, ◌==◌, Bool, true, false, cond, List, length, length-set, None, Some, slice_index, slice_set, get_or-set_same, get_or-set_other, refl, sym, ap, subst, ◌∙◌, arith, inl, inr, eq-eqb, ne_eqb}
use Rattle.std.proofs.lemmas.Bool.{cases_Bool, cases_eq}
use Rattle.decomposition.specs.declared.Range.{Range}
use Rattle.decomposition.specs.declared.Side.{Side}
use Rattle.decomposition.specs.Graph.{Graph, edge_count, is_inner}
use Rattle.decomposition.specs.Instance.{range_at}
use Rattle.decomposition.proofs.Sums.{sum_below-one, sum_below-lt}
use Rattle.lower_flow.specs.Residual.{near, far, flow_at, surplus, deficit, lack, IsRanged, residual}
use Rattle.lower_flow.specs.Search.{entry_at, IsStepFrom, IsReached, IsSearch, IsTarget}
use Rattle.lower_flow.specs.Clearing.{IsSent}
use Rattle.lower_flow.specs.declared.search.Reached.{Reached}
use Rattle.lower_flow.specs.declared.search.Target.{Target}

-- w units more on edge e, and the same elsewhere
record IsRaised (old new : ℕ → ℕ) (e w : ℕ) : Type 0 where
  here : new e ≡ old e + w
  others : (d : ℕ) → d ≢ e → new d ≡ old d

IsRaised-set : (flow : List ℕ) (e w : ℕ) → e < length flow → IsRaised (slice_index flow) (slice_index (slice_set flow e (slice_index flow e + w))) e w
IsRaised-set flow e w h = record {
  here = get_or-set_same flow e (slice_index flow e + w) 0 h;
  others = λ d other. get_or-set_other flow e d (slice_index flow e + w) 0 other;
}

IsRaised-unset : (flow : List ℕ) (e w : ℕ) → e < length flow → w ≤ slice_index flow e → IsRaised (slice_index (slice_set flow e (slice_index flow e - w))) (slice_index flow) e w
IsRaised-unset flow e w h some = record {
  here = let set : slice_index (slice_set flow e (slice_index flow e - w)) e ≡ slice_index flow e - w = get_or-set_same flow e (slice_index flow e - w) 0 h in omega arith;
  others = λ d other. sym (get_or-set_other flow e d (slice_index flow e - w) 0 other);
}

-- w units of what a has too much were sent to b
abbrev IsShift : (g : Graph) (near far old new : ℕ → ℕ) (a b w : ℕ) → Type 0
IsShift g near far old new a b w = (v : ℕ) → flow_at g far new v + flow_at g near old v + cond (a == v) w 0 ≡ flow_at g far old v + flow_at g near new v + cond (b == v) w 0

module _ (g : Graph) (near far : ℕ → ℕ) (old : ℕ → ℕ) (b w : ℕ) (flow new : ℕ → ℕ) (e : ℕ) (h : e < edge_count g) where
  -- what a vertex gains by a raised edge
  at-raised : (end : ℕ → ℕ) (less more : ℕ → ℕ) → IsRaised less more e w → (v : ℕ) → flow_at g end more v ≡ flow_at g end less v + cond (end e == v) w 0
  at-raised end less more r v =
      sum_below-one (λ k. cond (end k == v) (more k) 0) (λ k. cond (end k == v) (less k) 0) (cond (end e == v) w 0) e (edge_count g) h (at (end e == v)) (λ j other. ap (λ x. cond (end j == v) x 0) (r.others j other))
    where
      at : (test : Bool) → cond test (more e) 0 ≡ cond test (less e) 0 + cond test w 0
      at true = r.here
      at false = omega arith

  -- the way begins one edge earlier: onward over the edge, or back over it
  IsShift-onward : IsShift g near far old flow (far e) b w → IsRaised flow new e w → IsShift g near far old new (near e) b w
  IsShift-onward shift r v = omega (arith, shift v, at-raised near flow new r v, at-raised far flow new r v)

  IsShift-back : IsShift g near far old flow (near e) b w → IsRaised new flow e w → IsShift g near far old new (far e) b w
  IsShift-back shift r v = omega (arith, shift v, at-raised near new flow r v, at-raised far new flow r v)

-- how a shift changes the difference of two sums, from which at most as much goes as there is, and to which at most as much as is wanting
numbers : (a b a' b' w out into : ℕ) → a' + b + out ≡ a + b' + into → ((out ≡ 0) ⊎ ((out ≡ w) × (w ≤ a - b))) → ((into ≡ 0) ⊎ ((into ≡ w) × (w ≤ b - a))) → (a' - b' ≤ a - b) × (b' - a' ≤ b - a)
numbers a b a' b' w out into shift (inl x) (inl y) = (omega arith, omega arith)
numbers a b a' b' w out into shift (inl x) (inr y) = let l : into ≡ w = y.0 in let m : w ≤ b - a = y.1 in (omega arith, omega arith)
numbers a b a' b' w out into shift (inr x) (inl y) = let l : out ≡ w = x.0 in let m : w ≤ a - b = x.1 in (omega arith, omega arith)
numbers a b a' b' w out into shift (inr x) (inr y) =
    let l : into ≡ w = y.0 in let m : w ≤ b - a = y.1 in let l' : out ≡ w = x.0 in let m' : w ≤ a - b = x.1 in (omega arith, omega arith)

numbers-less : (a b a' b' w into : ℕ) → a' + b + w ≡ a + b' + into → 0 < w → w ≤ a - b → ((into ≡ 0) ⊎ ((into ≡ w) × (w ≤ b - a))) → a' - b' < a - b
numbers-less a b a' b' w into shift one most (inl y) = omega arith
numbers-less a b a' b' w into shift one most (inr y) = let l : into ≡ w = y.0 in let m : w ≤ b - a = y.1 in omega arith

module _ (g : Graph) (side : Side) (old new : ℕ → ℕ) (a b w : ℕ) (there : a < g.vertices) (one : 0 < w) (most : w ≤ surplus g side old a) (taken : w ≤ lack g side old b)
    (shift : IsShift g (near g side) (far g side) old new a b w) where
  -- what goes out of a vertex is 0 or what it has too much, and what comes into it is 0 or what it lacks
  goes_out : (v : ℕ) → is_inner g v ≡ true → (cond (a == v) w 0 ≡ 0) ⊎ ((cond (a == v) w 0 ≡ w) × (w ≤ flow_at g (far g side) old v - flow_at g (near g side) old v))
  goes_out v inner =
      elim (cases_eq a v) [
        | inl same ↦
            let at : w ≤ surplus g side old v = subst (λ u. w ≤ surplus g side old u) same most in
            inr (rw (eq-eqb a v same) refl, rw inner at at)
        | inr other ↦ inl (rw (ne_eqb a v other) refl)
      ]

  comes_in : (v : ℕ) → is_inner g v ≡ true → (cond (b == v) w 0 ≡ 0) ⊎ ((cond (b == v) w 0 ≡ w) × (w ≤ flow_at g (near g side) old v - flow_at g (far g side) old v))
  comes_in v inner =
      elim (cases_eq b v) [
        | inl same ↦
            let at : w ≤ lack g side old v = subst (λ u. w ≤ lack g side old u) same taken in
            inr (rw (eq-eqb b v same) refl, rw inner at at)
        | inr other ↦ inl (rw (ne_eqb b v other) refl)
      ]

  each : (v : ℕ) → (surplus g side new v ≤ surplus g side old v) × (deficit g side new v ≤ deficit g side old v)
  each v =
      elim (cases_Bool (is_inner g v)) [
        | inl inner ↦ rw inner (numbers (flow_at g (far g side) old v) (flow_at g (near g side) old v) (flow_at g (far g side) new v) (flow_at g (near g side) new v) w (cond (a == v) w 0) (cond (b == v) w 0) (shift v) (goes_out v inner) (comes_in v inner))
        | inr outer ↦ rw outer (omega arith, omega arith)
      ]

  first : surplus g side new a < surplus g side old a
  first =
      elim (cases_Bool (is_inner g a)) [
        | inl inner ↦
            let most' : w ≤ flow_at g (far g side) old a - flow_at g (near g side) old a = rw inner at most in
            let at : flow_at g (far g side) new a + flow_at g (near g side) old a + w ≡ flow_at g (far g side) old a + flow_at g (near g side) new a + cond (b == a) w 0 = rw (eq-eqb a a refl) at (shift a) in
            rw inner (numbers-less (flow_at g (far g side) old a) (flow_at g (near g side) old a) (flow_at g (far g side) new a) (flow_at g (near g side) new a) w (cond (b == a) w 0) at one most' (comes_in a inner))
        | inr outer ↦ let none : w ≤ 0 = rw outer at most in absurd (omega arith)
      ]

  IsSent-shift : IsSent g side old new
  IsSent-shift = record {
    less = sum_below-lt (surplus g side new) (surplus g side old) g.vertices a there first (λ v l. (each v).0);
    kept = λ v. (each v).1;
  }

-- the amount is sent from the entry at place `at` to the target, and the edges on the way to that entry are as they were
pub record Sends (g : Graph) (ranges : List Range) (side : Side) (old : List ℕ) (entries : List Reached) (target : Target) (flow : List ℕ) (at : ℕ) : Type 0 where
  pub within : at ≤ target.place
  pub ranged : IsRanged g ranges flow
  pub shift : IsShift g (near g side) (far g side) (slice_index old) (slice_index flow) (entry_at entries at).vertex (entry_at entries target.place).vertex target.amount
  pub same : (k e from : ℕ) → k ≤ at → (entry_at entries k).way ≡ Some (e, from) → slice_index flow e ≡ slice_index old e
  pub room : target.amount ≤ (entry_at entries at).room

module _ (g : Graph) (ranges : List Range) (side : Side) (old : List ℕ) (entries : List Reached) (marked : List Bool) (search : IsSearch (residual g ranges side (slice_index old)) entries marked) where
  -- the step by which an entry was reached
  step-at : (k e from : ℕ) → k < length entries → (entry_at entries k).way ≡ Some (e, from) → IsStepFrom (residual g ranges side (slice_index old)) entries k (entry_at entries k).vertex (entry_at entries k).room e from
  step-at k e from h way =
      subst (λ w. IsReached (residual g ranges side (slice_index old)) entries k (entry_at entries k).vertex (entry_at entries k).room w) way (search.reached k h)

  -- an entry that was not reached by a step has too much
  start-at : (k : ℕ) → k < length entries → (entry_at entries k).way ≡ None → (entry_at entries k).room ≤ surplus g side (slice_index old) (entry_at entries k).vertex
  start-at k h way =
      subst (λ w. IsReached (residual g ranges side (slice_index old)) entries k (entry_at entries k).vertex (entry_at entries k).room w) way (search.reached k h)

  -- a step onward, and a step back
  onward : (k e from : ℕ) → k < length entries → (entry_at entries k).way ≡ Some (e, from) → far g side e ≡ (entry_at entries k).vertex
      → (near g side e ≡ (entry_at entries from).vertex) × ((entry_at entries k).room ≤ (range_at ranges e).hi - slice_index old e)
  onward k e from h way enters =
      let s = step-at k e from h way in
      let lt : from < k = s.earlier in
      let most : (entry_at entries k).room ≤ s.step.0 = s.step.2 in
      elim s.step.1 [
        | inl step ↦ let wide : s.step.0 ≡ (range_at ranges e).hi - slice_index old e = step.2 in (step.0, omega arith)
        | inr step ↦ absurd (search.distinct from k lt h (sym step.0 ∙ enters))
      ]

  back : (k e from : ℕ) → k < length entries → (entry_at entries k).way ≡ Some (e, from) → far g side e ≢ (entry_at entries k).vertex
      → (far g side e ≡ (entry_at entries from).vertex) × (near g side e ≡ (entry_at entries k).vertex) × ((entry_at entries k).room ≤ slice_index old e - (range_at ranges e).lo)
  back k e from h way other =
      let s = step-at k e from h way in
      let most : (entry_at entries k).room ≤ s.step.0 = s.step.2 in
      elim s.step.1 [
        | inl step ↦ absurd (other step.1)
        | inr step ↦ let wide : s.step.0 ≡ slice_index old e - (range_at ranges e).lo = step.2 in (step.0, step.1, omega arith)
      ]

  -- both ends of the edge of an entry's way stand in entries up to it
  both_ends : (P : ℕ → Type 0) (k e from : ℕ) → k < length entries → (entry_at entries k).way ≡ Some (e, from) → P (entry_at entries from).vertex → P (entry_at entries k).vertex → P (near g side e) × P (far g side e)
  both_ends P k e from h way at_from at_k =
      let s = step-at k e from h way in
      elim s.step.1 [ inl step ↦ (subst P (sym step.0) at_from, subst P (sym step.1) at_k) | inr step ↦ (subst P (sym step.1) at_k, subst P (sym step.0) at_from) ]

  -- the ways of two entries end with different edges
  apart : (j k d e from before : ℕ) → j < k → k < length entries → (entry_at entries j).way ≡ Some (d, before) → (entry_at entries k).way ≡ Some (e, from) → d ≢ e
  apart j k d e from before lt h way way' same =
      let s = step-at j d before (omega arith) way in
      let s' = step-at k e from h way' in
      let earlier : before < j = s.earlier in
      let others = both_ends (λ v. v ≢ (entry_at entries k).vertex) j d before (omega arith) way (search.distinct before k (omega arith) h) (search.distinct j k lt h) in
      elim s'.step.1 [ inl step ↦ others.1 (ap (far g side) same ∙ step.1) | inr step ↦ others.0 (ap (near g side) same ∙ step.1) ]

  module _ (target : Target) (there : IsTarget (residual g ranges side (slice_index old)) entries target) where
    pub Sends-start : IsRanged g ranges old → Sends g ranges side old entries target old target.place
    Sends-start ranged = record {
      within = omega arith;
      ranged = ranged;
      shift = λ v. omega arith;
      same = λ k e from le way. refl;
      room = there.gets_there;
    }

    module _ (flow : List ℕ) (at e from : ℕ) (sends : Sends g ranges side old entries target flow at) (way : (entry_at entries at).way ≡ Some (e, from)) where
      at-below : at < length entries
      at-below = let le : at ≤ target.place = sends.within in let lt : target.place < length entries = there.there in omega arith

      edge-below : e < edge_count g
      edge-below = (step-at at e from at-below way).edge

      -- the edge has room for the amount
      pub onward-room : far g side e ≡ (entry_at entries at).vertex → target.amount ≤ (range_at ranges e).hi - slice_index flow e
      onward-room enters =
          let most : target.amount ≤ (entry_at entries at).room = sends.room in
          let now : slice_index flow e ≡ slice_index old e = sends.same at e from (omega arith) way in
          omega (arith, (onward at e from at-below way enters).1)

      pub back-room : far g side e ≢ (entry_at entries at).vertex → target.amount ≤ slice_index flow e - (range_at ranges e).lo
      back-room other =
          let most : target.amount ≤ (entry_at entries at).room = sends.room in
          let now : slice_index flow e ≡ slice_index old e = sends.same at e from (omega arith) way in
          omega (arith, (back at e from at-below way other).2)

      -- the flow of one edge changes within its range
      ranged-set : (units : ℕ) → (range_at ranges e).lo ≤ units → units ≤ (range_at ranges e).hi → IsRanged g ranges (slice_set flow e units)
      ranged-set units low high = record {
        one_range_each = sends.ranged.one_range_each;
        one_each = length-set flow e units ∙ sends.ranged.one_each;
        low = λ d h. elim (cases_eq d e) [
          | inl same ↦ rw same (omega (arith, set))
          | inr other ↦ omega (arith, get_or-set_other flow e d units 0 other, sends.ranged.low d h)
        ];
        high = λ d h. elim (cases_eq d e) [
          | inl same ↦ rw same (omega (arith, set))
          | inr other ↦ omega (arith, get_or-set_other flow e d units 0 other, sends.ranged.high d h)
        ];
        small = sends.ranged.small;
      } where
        set : slice_index (slice_set flow e units) e ≡ units
        set = let count : length flow ≡ edge_count g = sends.ranged.one_each in get_or-set_same flow e units 0 (omega (arith, edge-below))

      -- and the other parts
      Sends-set : (units : ℕ) → (range_at ranges e).lo ≤ units → units ≤ (range_at ranges e).hi
          → IsShift g (near g side) (far g side) (slice_index old) (slice_index (slice_set flow e units)) (entry_at entries from).vertex (entry_at entries target.place).vertex target.amount
          → Sends g ranges side old entries target (slice_set flow e units) from
      Sends-set units low high shift =
          let s = step-at at e from at-below way in
          let lt : from < at = s.earlier in
          let le : at ≤ target.place = sends.within in
          let most : target.amount ≤ (entry_at entries at).room = sends.room in
          let less : (entry_at entries at).room ≤ (entry_at entries from).room = s.less in
          record {
            within = omega arith;
            ranged = ranged-set units low high;
            shift = shift;
            same = λ k d before le' way'.
                get_or-set_other flow e d units 0 (apart k at d e from before (omega arith) at-below way' way) ∙ sends.same k d before (omega arith) way';
            room = omega arith;
          }

      pub Sends-onward : far g side e ≡ (entry_at entries at).vertex → Sends g ranges side old entries target (slice_set flow e (slice_index flow e + target.amount)) from
      Sends-onward enters =
          let count : length flow ≡ edge_count g = sends.ranged.one_each in
          let shift = subst (λ u. IsShift g (near g side) (far g side) (slice_index old) (slice_index flow) u (entry_at entries target.place).vertex target.amount) (sym enters) sends.shift in
          Sends-set (slice_index flow e + target.amount) (omega (arith, sends.ranged.low e edge-below)) (omega (arith, sends.ranged.high e edge-below, onward-room enters))
          (subst (λ u. IsShift g (near g side) (far g side) (slice_index old) (slice_index (slice_set flow e (slice_index flow e + target.amount))) u (entry_at entries target.place).vertex target.amount)
          (onward at e from at-below way enters).0
          (IsShift-onward g (near g side) (far g side) (slice_index old) (entry_at entries target.place).vertex target.amount (slice_index flow) (slice_index (slice_set flow e (slice_index flow e + target.amount))) e edge-below shift
          (IsRaised-set flow e target.amount (omega (arith, edge-below)))))

      pub Sends-back : far g side e ≢ (entry_at entries at).vertex → Sends g ranges side old entries target (slice_set flow e (slice_index flow e - target.amount)) from
      Sends-back other =
          let count : length flow ≡ edge_count g = sends.ranged.one_each in
          let step = back at e from at-below way other in
          let shift = subst (λ u. IsShift g (near g side) (far g side) (slice_index old) (slice_index flow) u (entry_at entries target.place).vertex target.amount) (sym step.1) sends.shift in
          Sends-set (slice_index flow e - target.amount) (omega (arith, sends.ranged.low e edge-below, back-room other)) (omega (arith, sends.ranged.high e edge-below))
          (subst (λ u. IsShift g (near g side) (far g side) (slice_index old) (slice_index (slice_set flow e (slice_index flow e - target.amount))) u (entry_at entries target.place).vertex target.amount) step.0
          (IsShift-back g (near g side) (far g side) (slice_index old) (entry_at entries target.place).vertex target.amount (slice_index flow) (slice_index (slice_set flow e (slice_index flow e - target.amount))) e edge-below shift
          (IsRaised-unset flow e target.amount (omega (arith, edge-below)) (omega (arith, sends.ranged.low e edge-below, back-room other)))))

    pub Sends-all : (flow : List ℕ) (at : ℕ) → Sends g ranges side old entries target flow at → (entry_at entries at).way ≡ None → (entry_at entries at).vertex < g.vertices → IsSent g side (slice_index old) (slice_index flow)
    Sends-all flow at sends way below =
        let le : at ≤ target.place = sends.within in
        let lt : target.place < length entries = there.there in
        let most : target.amount ≤ (entry_at entries at).room = sends.room in
        IsSent-shift g side (slice_index old) (slice_index flow) (entry_at entries at).vertex (entry_at entries target.place).vertex target.amount below there.positive
        (omega (arith, start-at at (omega arith) way)) there.taken sends.shift
