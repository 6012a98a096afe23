-- What a box says of the line-ups that it holds: the gap is at most their error, and a missed constraint is not covered.
use Rattle.std.proofs.Common.{◌∙◌, Option, ◌≡◌, ℕ, zero, suc, ◌-◌, ◌<◌, ◌≤◌, max, refl, sym, arith, inl, inr, cond, Bool, true, false, not, ◌&&◌, ◌==◌, nat_le, List, [], ◌∷◌, length, IsTrue, le-leb, true≢false}
use Rattle.std.specs.List.{list_any}
use Rattle.std.proofs.lemmas.Bool.{cases_eq, and_parts, and_from, or_cases, or_left, or_right, both_ways, not-true, eqb-true}
use Rattle.decomposition.specs.Graph.{Graph, has_edge, begins_with, contains_run, IsPath, paths, edge_count}
use Rattle.decomposition.specs.Answer.{sum_below, weight_on}
use Rattle.decomposition.specs.Instance.{Instance, error, range, distance}
use Rattle.decomposition.specs.Boxes.{Slot, slot_at, upper_at, lower_at, low_on, high_on, may_have, may_contain, gap_over, misses, misses_over}
use Rattle.decomposition.specs.Certificates.{rule_at}
use Rattle.decomposition.specs.Held.{Holds, Answers}
use Rattle.decomposition.specs.Answer.{entry_at}
use Rattle.std.proofs.lemmas.List.{get_or_past}
use Rattle.decomposition.proofs.Sums.{sum_below-le, sum_below_first, sum_below-longer}

pub le-upper_at : (b : List Slot) (k w : ℕ) → k < length b → ((j : ℕ) → j ≤ k → w ≤ (slot_at b j).hi) → w ≤ upper_at b k
le-upper_at [] k w h each = absurd (omega arith)
le-upper_at (s ∷ b) zero w h each = each 0 (omega arith)
le-upper_at (s ∷ b) (suc k) w h each =
    let first : w ≤ s.hi = each 0 (omega arith) in
    let rest : w ≤ upper_at b k = le-upper_at b k w (omega arith) (λ j l. each (suc j) (omega arith)) in
    omega arith

pub lower_at-le : (b : List Slot) (k w : ℕ) → ((j : ℕ) → k ≤ j → j < length b → (slot_at b j).lo ≤ w) → lower_at b k ≤ w
lower_at-le [] k w each = omega arith
lower_at-le (s ∷ b) zero w each =
    let first : s.lo ≤ w = each 0 (omega arith) (omega arith) in
    let rest : lower_at b zero ≤ w = lower_at-le b zero w (λ j l m. each (suc j) (omega arith) (omega arith)) in
    omega arith
lower_at-le (s ∷ b) (suc k) w each = lower_at-le b k w (λ j l m. each (suc j) (omega arith) (omega arith))

-- the weights of a line-up that a box holds are within the box's bounds
pub le-upper : (g : Graph) (b : List Slot) (line : List (List ℕ × ℕ)) (k : ℕ) → Holds g b line → k < length b → (entry_at line k).1 ≤ upper_at b k
le-upper g b line k held h =
    le-upper_at b k (entry_at line k).1 h (λ j l.
    let first : (entry_at line k).1 ≤ (entry_at line j).1 = held.falling j k l h in
    let next : (entry_at line j).1 ≤ (slot_at b j).hi = held.high j (omega arith) in
    omega arith)

pub lower-le : (g : Graph) (b : List Slot) (line : List (List ℕ × ℕ)) (k : ℕ) → Holds g b line → lower_at b k ≤ (entry_at line k).1
lower-le g b line k held =
    lower_at-le b k (entry_at line k).1 (λ j l m.
    let first : (slot_at b j).lo ≤ (entry_at line j).1 = held.low j m in
    let next : (entry_at line j).1 ≤ (entry_at line k).1 = held.falling k j l m in
    omega arith)

-- the weight on an edge, by places
pub weight_on_is : (a : List (List ℕ × ℕ)) (e : ℕ) → weight_on a e ≡ sum_below (λ k. cond (has_edge (entry_at a k).0 e) (entry_at a k).1 0) (length a)
weight_on_is [] e = refl
weight_on_is (x ∷ a) e =
    omega (arith, weight_on_is a e, sum_below_first (λ k. cond (has_edge (entry_at (x ∷ a) k).0 e) (entry_at (x ∷ a) k).1 0) (length a))

-- the same over the slots of a box, since the entries past the end have no weight
pub weight_on_over : (line : List (List ℕ × ℕ)) (e n : ℕ) → length line ≤ n → weight_on line e ≡ sum_below (λ k. cond (has_edge (entry_at line k).0 e) (entry_at line k).1 0) n
weight_on_over line e n h =
    weight_on_is line e ∙ sym (sum_below-longer (λ k. cond (has_edge (entry_at line k).0 e) (entry_at line k).1 0) (length line) n h
    (λ k past. let none : entry_at line k ≡ ([], 0) = get_or_past line k ([], 0) past in rw none refl))

-- a list has the edges of each list that it begins with
pub has_edge-begins : (p walk : List ℕ) (e : ℕ) → begins_with p walk ≡ true → has_edge walk e ≡ true → has_edge p e ≡ true
has_edge-begins p [] e b h = absurd (true≢false (sym h))
has_edge-begins [] (f ∷ walk) e b h = absurd (true≢false (sym b))
has_edge-begins (d ∷ p) (f ∷ walk) e b h =
    let parts : ((d == f) ≡ true) × (begins_with p walk ≡ true) = and_parts _ _ b in
    elim (or_cases _ _ h) [
      | inl here ↦
          let same : d ≡ f = eqb-true d f parts.0 in
          let now : (e == d) ≡ true = rw same here in
          or_left _ _ now
      | inr there ↦ or_right _ _ (has_edge-begins p walk e parts.1 there)
    ]

-- a list of paths that has every path of the graph
abbrev pub ListsPaths : Graph → List (List ℕ) → Type 0
ListsPaths g all = (p : List ℕ) → IsPath g p → (test : List ℕ → Bool) → test p ≡ true → list_any test all ≡ true

-- a term of a sum over slots, where the weight of the line-up is between the bounds
pub low_term : (here there : Bool) (low w : ℕ) → low ≤ w → (1 ≤ w → here ≡ true → there ≡ true) → cond here low 0 ≤ cond there w 0
low_term false there low w h up = omega arith
low_term true true low w h up = h
low_term true false low zero h up = h
low_term true false low (suc w) h up = absurd (true≢false (sym (up (omega arith) refl)))

pub high_term : (here there : Bool) (high w : ℕ) → w ≤ high → (1 ≤ w → here ≡ true → there ≡ true) → cond here w 0 ≤ cond there high 0
high_term false there high w h up = omega arith
high_term true true high w h up = h
high_term true false high zero h up = omega arith
high_term true false high (suc w) h up = absurd (true≢false (sym (up (omega arith) refl)))

pub low_on-le : (g : Graph) (b : List Slot) (line : List (List ℕ × ℕ)) (e : ℕ) → Holds g b line → low_on b e ≤ weight_on line e
low_on-le g b line e held =
    let terms : low_on b e ≤ sum_below (λ k. cond (has_edge (entry_at line k).0 e) (entry_at line k).1 0) (length b)
    = sum_below-le (λ k. cond (has_edge (slot_at b k).walk e) (lower_at b k) 0) (λ k. cond (has_edge (entry_at line k).0 e) (entry_at line k).1 0) (length b)
    (λ k l. low_term (has_edge (slot_at b k).walk e) (has_edge (entry_at line k).0 e) (lower_at b k) (entry_at line k).1 (lower-le g b line k held)
    (λ one has. has_edge-begins (entry_at line k).0 (slot_at b k).walk e (held.begins k l one) has)) in
    rw (weight_on_over line e (length b) held.long) terms

pub le-high_on : (g : Graph) (all : List (List ℕ)) (b : List Slot) (line : List (List ℕ × ℕ)) (e : ℕ) → ListsPaths g all → Holds g b line → weight_on line e ≤ high_on all b e
le-high_on g all b line e lists held =
    let terms : sum_below (λ k. cond (has_edge (entry_at line k).0 e) (entry_at line k).1 0) (length b) ≤ high_on all b e
    = sum_below-le (λ k. cond (has_edge (entry_at line k).0 e) (entry_at line k).1 0) (λ k. cond (may_have all (slot_at b k).walk e) (upper_at b k) 0) (length b)
    (λ k l. high_term (has_edge (entry_at line k).0 e) (may_have all (slot_at b k).walk e) (upper_at b k) (entry_at line k).1 (le-upper g b line k held l)
    (λ one has. lists (entry_at line k).0 (held.path k l one) (λ p. begins_with p (slot_at b k).walk && has_edge p e)
    (and_from _ _ (held.begins k l one) has))) in
    rw (weight_on_over line e (length b) held.long) terms

-- the gap of a box is at most the error of each line-up that it holds
pub gap_over-le : (i : Instance) (all : List (List ℕ)) (b : List Slot) (line : List (List ℕ × ℕ)) → ListsPaths i.graph all → Holds i.graph b line → gap_over all i b ≤ error i line
gap_over-le i all b line lists held =
    sum_below-le (λ e. max (low_on b e - (range i e).hi) ((range i e).lo - high_on all b e)) (λ e. distance (range i e) (weight_on line e)) (edge_count i.graph)
    (λ e l.
    let low : low_on b e ≤ weight_on line e = low_on-le i.graph b line e held in
    let high : weight_on line e ≤ high_on all b e = le-high_on i.graph all b line e lists held in
    omega arith)

-- a slot with a positive weight whose path contains a run is not missed
pub misses_over-false : (g : Graph) (all : List (List ℕ)) (b : List Slot) (line : List (List ℕ × ℕ)) (r : List ℕ) → ListsPaths g all → Holds g b line
    → (n k : ℕ) → k < n → n ≤ length b → 1 ≤ (entry_at line k).1 → contains_run (entry_at line k).0 r ≡ true → misses_over all b r n ≡ true → ⊥
misses_over-false g all b line r lists held zero k l m one has miss = absurd (omega arith)
misses_over-false g all b line r lists held (suc n) k l m one has miss =
    let parts : (not (nat_le 1 (upper_at b n) && may_contain all (slot_at b n).walk r) ≡ true) × (misses_over all b r n ≡ true) = and_parts _ _ miss in
    elim (cases_eq k n) [
      | inl same ↦
          let inside : k < length b = omega arith in
          let up : (entry_at line k).1 ≤ upper_at b k = le-upper g b line k held inside in
          let may : may_contain all (slot_at b k).walk r ≡ true
          = lists (entry_at line k).0 (held.path k inside one) (λ p. begins_with p (slot_at b k).walk && contains_run p r) (and_from _ _ (held.begins k inside one) has) in
          let both : (nat_le 1 (upper_at b k) && may_contain all (slot_at b k).walk r) ≡ true = and_from _ _ (le-leb 1 (upper_at b k) (omega arith)) may in
          let none : not (nat_le 1 (upper_at b k) && may_contain all (slot_at b k).walk r) ≡ true = rw same parts.0 in
          both_ways _ (not-true _ none) both
      | inr other ↦ misses_over-false g all b line r lists held n k (omega arith) (omega arith) one has parts.1
    ]

pub misses-false : (i : Instance) (b : List Slot) (line : List (List ℕ × ℕ)) (limit : Option ℕ) (c : ℕ) → ListsPaths i.graph (paths i.graph) → Holds i.graph b line → Answers i limit line → c < length i.rules → misses i b c ≡ true → ⊥
misses-false i b line limit c lists held answers inside miss =
    let found : (k : ℕ) × (k < length line) × (1 ≤ (entry_at line k).1) × IsTrue (contains_run (entry_at line k).0 (rule_at i c)) = answers.covers c inside in
    let long : length line ≤ length b = held.long in
    let here : found.0 < length b = omega (arith, found.1) in
    misses_over-false i.graph (paths i.graph) b line (rule_at i c) lists held (length b) found.0 here (omega arith) found.2 found.3 miss
