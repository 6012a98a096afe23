-- What a slack box says of the line-ups that it holds: their slacks cover at least what each edge lacks, and cost at least its least slacks.
use Rattle.std.proofs.Common.{◌≡◌, ℕ, zero, suc, ◌+◌, ◌<◌, ◌≤◌, refl, sym, ◌∙◌, arith, cond, Bool, true, false, ◌&&◌, List, [], ◌∷◌, length, true≢false, ap}
use Rattle.std.specs.Int.{abs_diff}
use Rattle.std.proofs.lemmas.Bool.{and_from}
use Rattle.std.proofs.lemmas.List.{get_or_past}
use Rattle.std.proofs.lemmas.List.Sums.{sum_by-cons}
use Rattle.decomposition.specs.Graph.{Graph, has_edge, begins_with, paths}
use Rattle.decomposition.specs.Answer.{sum_below, weight_on, entry_at as pair_at}
use Rattle.decomposition.specs.Boxes.{slot_at, low_on, high_on}
use Rattle.decomposition.specs.Held.{Holds as HoldsWeights}
use Rattle.decomposition.proofs.Sums.{sum_below-le, sum_below_first, sum_below-longer, sum_below-add}
use Rattle.decomposition.proofs.Bounds.{ListsPaths, high_term, low_on-le, le-high_on}
use Rattle.slack_terms.specs.declared.slack_path.SlackPath.{SlackPath}
use Rattle.slack_terms.specs.Answers.{Weighted, weight_at, entry_at, weights_of, slacks_of, cost}
use Rattle.slack_terms.specs.Boxes.{SlackBox, slack_at, slot_may_have, lack, least_slack, most_slack_on, least_slack_beside}
use Rattle.slack_terms.specs.Held.{Holds}

-- the entries of the weights, by places
pub weights_at : (line : List SlackPath) (k : ℕ) → pair_at (weights_of line) k ≡ ((entry_at line k).path, (entry_at line k).weight)
weights_at [] k = refl
weights_at (x ∷ line) zero = refl
weights_at (x ∷ line) (suc k) = weights_at line k

pub length-weights : (line : List SlackPath) → length (weights_of line) ≡ length line
length-weights [] = refl
length-weights (x ∷ line) = ap suc (length-weights line)

-- a line-up that a slack box holds is held with its weights by the box of its slots
pub HoldsWeights-from : (g : Graph) (b : SlackBox) (line : List SlackPath) → Holds g b line → HoldsWeights g b.slots (weights_of line)
HoldsWeights-from g b line held = record {
  long = rw (length-weights line) held.long;
  falling = λ j k l m. rw (weights_at line k, weights_at line j) (held.falling j k l m);
  low = λ k l. rw (weights_at line k) (held.low k l);
  high = λ k l. rw (weights_at line k) (held.high k l);
  path = λ k l one. let some : 1 ≤ (entry_at line k).weight = rw (weights_at line k) at one in rw (weights_at line k) (held.path k l (omega arith));
  begins = λ k l one. let some : 1 ≤ (entry_at line k).weight = rw (weights_at line k) at one in rw (weights_at line k) (held.begins k l (omega arith));
}

-- what lies outside of a number's range lies as far from it
pub lack-le : (w : Weighted) (b : SlackBox) (line : List SlackPath) (e : ℕ) → ListsPaths w.graph (paths w.graph) → Holds w.graph b line
    → lack w b e ≤ abs_diff (weight_on (weights_of line) e) (weight_at w e)
lack-le w b line e lists held =
    let weights : HoldsWeights w.graph b.slots (weights_of line) = HoldsWeights-from w.graph b line held in
    let low : low_on b.slots e ≤ weight_on (weights_of line) e = low_on-le w.graph b.slots (weights_of line) e weights in
    let high : weight_on (weights_of line) e ≤ high_on (paths w.graph) b.slots e = le-high_on w.graph (paths w.graph) b.slots (weights_of line) e lists weights in
    omega arith

pub cost-cons : (x : SlackPath) (a : List SlackPath) → cost (x ∷ a) ≡ x.slack + cost a
cost-cons x a = sum_by-cons (λ (entry : SlackPath). entry.slack) x a

-- the cost, by places
pub cost_is : (a : List SlackPath) → cost a ≡ sum_below (λ k. (entry_at a k).slack) (length a)
cost_is [] = refl
cost_is (x ∷ a) = omega (arith, cost-cons x a, cost_is a, sum_below_first (λ k. (entry_at (x ∷ a) k).slack) (length a))

pub cost_over : (line : List SlackPath) (n : ℕ) → length line ≤ n → cost line ≡ sum_below (λ k. (entry_at line k).slack) n
cost_over line n h =
    cost_is line ∙ sym (sum_below-longer (λ k. (entry_at line k).slack) (length line) n h
    (λ k past. let none : entry_at line k ≡ record { path = []; weight = 0; slack = 0 } = get_or_past line k (record { path = []; weight = 0; slack = 0 }) past in rw none refl))

-- the slack on an edge, by places
pub slack_on_is : (a : List SlackPath) (e : ℕ) → weight_on (slacks_of a) e ≡ sum_below (λ k. cond (has_edge (entry_at a k).path e) (entry_at a k).slack 0) (length a)
slack_on_is [] e = refl
slack_on_is (x ∷ a) e =
    omega (arith, slack_on_is a e, sum_below_first (λ k. cond (has_edge (entry_at (x ∷ a) k).path e) (entry_at (x ∷ a) k).slack 0) (length a))

pub slack_on_over : (line : List SlackPath) (e n : ℕ) → length line ≤ n → weight_on (slacks_of line) e ≡ sum_below (λ k. cond (has_edge (entry_at line k).path e) (entry_at line k).slack 0) n
slack_on_over line e n h =
    slack_on_is line e ∙ sym (sum_below-longer (λ k. cond (has_edge (entry_at line k).path e) (entry_at line k).slack 0) (length line) n h
    (λ k past. let none : entry_at line k ≡ record { path = []; weight = 0; slack = 0 } = get_or_past line k (record { path = []; weight = 0; slack = 0 }) past in rw none refl))

-- the least slacks cost no more than the line-up
pub least_slack-le : (g : Graph) (b : SlackBox) (line : List SlackPath) → Holds g b line → least_slack b ≤ cost line
least_slack-le g b line held =
    rw (cost_over line (length b.slots) held.long)
    (sum_below-le (λ k. (slack_at b k).lo) (λ k. (entry_at line k).slack) (length b.slots) (λ k l. held.least k l))

-- a path with slack that has an edge is one that the slot may have
pub may : (w : Weighted) (b : SlackBox) (line : List SlackPath) (e k : ℕ) → ListsPaths w.graph (paths w.graph) → Holds w.graph b line → k < length b.slots
    → 1 ≤ (entry_at line k).slack → has_edge (entry_at line k).path e ≡ true → slot_may_have w b k e ≡ true
may w b line e k lists held inside one has =
    lists (entry_at line k).path (held.path k inside (omega arith)) (λ p. begins_with p (slot_at b.slots k).walk && has_edge p e)
    (and_from _ _ (held.begins k inside (omega arith)) has)

-- the slacks on an edge are at most the greatest ones
pub le-most_slack_on : (w : Weighted) (b : SlackBox) (line : List SlackPath) (e : ℕ) → ListsPaths w.graph (paths w.graph) → Holds w.graph b line
    → weight_on (slacks_of line) e ≤ most_slack_on w b e
le-most_slack_on w b line e lists held =
    rw (slack_on_over line e (length b.slots) held.long)
    (sum_below-le (λ k. cond (has_edge (entry_at line k).path e) (entry_at line k).slack 0) (λ k. cond (slot_may_have w b k e) (slack_at b k).hi 0) (length b.slots)
    (λ k l. high_term (has_edge (entry_at line k).path e) (slot_may_have w b k e) (slack_at b k).hi (entry_at line k).slack (held.most k l)
    (λ one has. may w b line e k lists held l one has)))

beside_term : (has may : Bool) (a s : ℕ) → a ≤ s → (1 ≤ s → has ≡ true → may ≡ true) → cond has s 0 + cond may 0 a ≤ s
beside_term false false a s l up = omega arith
beside_term false true a s l up = omega arith
beside_term true true a s l up = omega arith
beside_term true false a zero l up = omega arith
beside_term true false a (suc s) l up = absurd (true≢false (sym (up (omega arith) refl)))

-- the slacks on an edge and the least ones of the other slots cost no more than the line-up
pub beside-le : (w : Weighted) (b : SlackBox) (line : List SlackPath) (e : ℕ) → ListsPaths w.graph (paths w.graph) → Holds w.graph b line
    → weight_on (slacks_of line) e + least_slack_beside w b e ≤ cost line
beside-le w b line e lists held =
    let on : ℕ → ℕ = λ k. cond (has_edge (entry_at line k).path e) (entry_at line k).slack 0 in
    let beside : ℕ → ℕ = λ k. cond (slot_may_have w b k e) 0 (slack_at b k).lo in
    let terms : sum_below (λ k. on k + beside k) (length b.slots) ≤ sum_below (λ k. (entry_at line k).slack) (length b.slots)
    = sum_below-le (λ k. on k + beside k) (λ k. (entry_at line k).slack) (length b.slots)
    (λ k l. beside_term (has_edge (entry_at line k).path e) (slot_may_have w b k e) (slack_at b k).lo (entry_at line k).slack (held.least k l)
    (λ one has. may w b line e k lists held l one has)) in
    omega (arith, terms, sum_below-add on beside (length b.slots), slack_on_over line e (length b.slots) held.long, cost_over line (length b.slots) held.long)
