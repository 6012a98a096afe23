-- The root box holds every answer with few enough entries, once its weights are cut down to the greatest one and sorted; so a refutation refutes.
use Rattle.std.proofs.Common.{◌⊎◌, ◌≡◌, ℕ, zero, suc, ◌+◌, ◌-◌, ◌<◌, ◌≤◌, min, refl, sym, ap, ◌∙◌, arith, inl, inr, cond, Bool, true, ◌&&◌, nat_le, List, [], ◌∷◌, map, length, slice_index, leb-true, leb-false, le-leb, subst}
use Rattle.std.specs.List.{list_all}
use Rattle.std.specs.Int.{abs_diff}
use Rattle.std.proofs.lemmas.Bool.{cases_Bool, cases_lt, and_parts, and_from}
use Rattle.std.proofs.lemmas.List.{get_or_past, length-replicate, get_or-replicate}
use Rattle.decomposition.specs.declared.Range.{Range}
use Rattle.decomposition.specs.Graph.{Graph, has_edge, is_path, begins_with}
use Rattle.decomposition.specs.Answer.{weight_on, entry_at as pair_at}
use Rattle.decomposition.specs.Boxes.{Slot, slot_at}
use Rattle.decomposition.proofs.Root.{AllAtMost, AllAtMost-more, IsFalling, IsFalling-at, all-cons, all-parts, all-place}
use Rattle.slack_terms.specs.declared.slack_path.SlackPath.{SlackPath}
use Rattle.slack_terms.specs.Answers.{Weighted, weight_at, entry_at, weights_of, slacks_of, IsSlackAnswer, CoversError, cost}
use Rattle.slack_terms.specs.Boxes.{slack_at, greatest_weight, root_box}
use Rattle.slack_terms.specs.Held.{Holds, Answers}
use Rattle.slack_terms.specs.Laws.{TokensKeepAnswers, RefutationsRefute, TreesBound}
use Rattle.slack_terms.proofs.Bounds.{weights_at, cost-cons}
use Rattle.slack_terms.proofs.Keeps.{keep_token, keep_tokens}

abbrev pub is_entry : Graph → SlackPath → Bool
is_entry g entry = is_path g entry.path && nat_le 1 (entry.weight + entry.slack)

-- ---- the cap

-- an entry with its weight cut down to m
abbrev pub cut_down : ℕ → SlackPath → SlackPath
cut_down m x = record { path = x.path; weight = min x.weight m; slack = x.slack }

pub cut : ℕ → List SlackPath → List SlackPath
cut m [] = []
cut m (x ∷ a) = cut_down m x ∷ cut m a

pub length-cut : (m : ℕ) (a : List SlackPath) → length (cut m a) ≡ length a
unfolding cut
length-cut m [] = refl
length-cut m (x ∷ a) = ap suc (length-cut m a)

-- a weight on an edge that falls stays at least the cap
weight_on-cut : (m : ℕ) (a : List SlackPath) (e : ℕ)
    → (weight_on (weights_of (cut m a)) e ≤ weight_on (weights_of a) e) × ((weight_on (weights_of (cut m a)) e ≡ weight_on (weights_of a) e) ⊎ (m ≤ weight_on (weights_of (cut m a)) e))
unfolding cut
weight_on-cut m [] e = (omega arith, inl refl)
weight_on-cut m (x ∷ a) e =
    let rest : (weight_on (weights_of (cut m a)) e ≤ weight_on (weights_of a) e) × ((weight_on (weights_of (cut m a)) e ≡ weight_on (weights_of a) e) ⊎ (m ≤ weight_on (weights_of (cut m a)) e)) = weight_on-cut m a e in
    elim (cases_Bool (has_edge x.path e)) [
      | inl hit ↦ rw hit (step x.weight m (weight_on (weights_of a) e) (weight_on (weights_of (cut m a)) e) rest)
      | inr free ↦ rw free (skip m (weight_on (weights_of a) e) (weight_on (weights_of (cut m a)) e) rest)
    ] where
      skip : (m old new : ℕ) → (new ≤ old) × ((new ≡ old) ⊎ (m ≤ new)) → (0 + new ≤ 0 + old) × ((0 + new ≡ 0 + old) ⊎ (m ≤ 0 + new))
      skip m old new (l, inl same) = (omega arith, inl (omega arith))
      skip m old new (l, inr more) = (omega arith, inr (omega arith))

      step : (w m old new : ℕ) → (new ≤ old) × ((new ≡ old) ⊎ (m ≤ new)) → (min w m + new ≤ w + old) × ((min w m + new ≡ w + old) ⊎ (m ≤ min w m + new))
      step w m old new (l, inl same) = (omega arith, elim (cases_lt m w) [ inl more ↦ inr (omega arith) | inr less ↦ inl (omega arith) ])
      step w m old new (l, inr more) = (omega arith, inr (omega arith))

-- and no slack
slacks-cut : (m : ℕ) (a : List SlackPath) → slacks_of (cut m a) ≡ slacks_of a
unfolding cut
slacks-cut m [] = refl
slacks-cut m (x ∷ a) = ap (λ rest. (x.path, x.slack) ∷ rest) (slacks-cut m a)

cost-cut : (m : ℕ) (a : List SlackPath) → cost (cut m a) ≡ cost a
unfolding cut
cost-cut m [] = refl
cost-cut m (x ∷ a) = omega (arith, cost-cons (cut_down m x) (cut m a), cost-cons x a, cost-cut m a)

answer-cut : (g : Graph) (m : ℕ) (a : List SlackPath) → 1 ≤ m → IsSlackAnswer g a → IsSlackAnswer g (cut m a)
unfolding cut
answer-cut g m [] one answer = refl
answer-cut g m (x ∷ a) one answer =
    let parts : (is_entry g x ≡ true) × (list_all (is_entry g) a ≡ true) = all-parts (is_entry g) x a answer in
    let here : (is_path g x.path ≡ true) × (nat_le 1 (x.weight + x.slack) ≡ true) = and_parts _ _ parts.0 in
    let some : 1 ≤ x.weight + x.slack = leb-true 1 (x.weight + x.slack) here.1 in
    all-cons (is_entry g) (cut_down m x) (cut m a) (and_from _ _ here.0 (le-leb 1 (min x.weight m + x.slack) (omega arith))) (answer-cut g m a one parts.1)

light-cut : (m : ℕ) (a : List SlackPath) → list_all (λ entry. nat_le entry.weight m) (cut m a) ≡ true
unfolding cut
light-cut m [] = refl
light-cut m (x ∷ a) = all-cons (λ entry. nat_le entry.weight m) (cut_down m x) (cut m a) (le-leb (min x.weight m) m (omega arith)) (light-cut m a)

weight-le-greatest : (ws : List ℕ) (e : ℕ) → slice_index ws e ≤ greatest_weight ws
weight-le-greatest [] e = omega arith
weight-le-greatest (w ∷ ws) zero = omega arith
weight-le-greatest (w ∷ ws) (suc e) = omega (arith, weight-le-greatest ws e)

one-le-greatest : (ws : List ℕ) → 1 ≤ greatest_weight ws
one-le-greatest [] = omega arith
one-le-greatest (w ∷ ws) = omega (arith, one-le-greatest ws)

-- the cap leaves the error of each edge covered
covers-cut : (w : Weighted) (a : List SlackPath) (e : ℕ) → CoversError w a e → CoversError w (cut (greatest_weight w.weights) a) e
covers-cut w a e covers =
    let m : ℕ = greatest_weight w.weights in
    let low : weight_at w e ≤ m = weight-le-greatest w.weights e in
    let slacks : weight_on (slacks_of (cut m a)) e ≡ weight_on (slacks_of a) e = ap (λ l. weight_on l e) (slacks-cut m a) in
    let is : (weight_on (weights_of (cut m a)) e ≤ weight_on (weights_of a) e) × ((weight_on (weights_of (cut m a)) e ≡ weight_on (weights_of a) e) ⊎ (m ≤ weight_on (weights_of (cut m a)) e))
    = weight_on-cut m a e in
    let less : weight_on (weights_of (cut m a)) e ≤ weight_on (weights_of a) e = is.0 in
    elim is.1 [ inl same ↦ omega arith | inr more ↦ omega arith ]

-- ---- sorting

pub place_in : SlackPath → List SlackPath → List SlackPath
place_in x [] = x ∷ []
place_in x (y ∷ ys) = cond (nat_le y.weight x.weight) (x ∷ y ∷ ys) (y ∷ place_in x ys)

pub by_weight : List SlackPath → List SlackPath
by_weight [] = []
by_weight (x ∷ a) = place_in x (by_weight a)

length-place_in : (x : SlackPath) (a : List SlackPath) → length (place_in x a) ≡ suc (length a)
unfolding place_in
length-place_in x [] = refl
length-place_in x (y ∷ ys) = elim (cases_Bool (nat_le y.weight x.weight)) [ inl l ↦ rw l refl | inr l ↦ rw l (ap suc (length-place_in x ys)) ]

length-by_weight : (a : List SlackPath) → length (by_weight a) ≡ length a
unfolding by_weight
length-by_weight [] = refl
length-by_weight (x ∷ a) = length-place_in x (by_weight a) ∙ ap suc (length-by_weight a)

-- what the entries put on an edge stays
weight_on-place_in : (view : SlackPath → List ℕ × ℕ) (x : SlackPath) (a : List SlackPath) (e : ℕ) → weight_on (map view (place_in x a)) e ≡ weight_on (map view (x ∷ a)) e
unfolding place_in
weight_on-place_in view x [] e = refl
weight_on-place_in view x (y ∷ ys) e =
    elim (cases_Bool (nat_le y.weight x.weight)) [ inl l ↦ rw l refl | inr l ↦ rw l (omega (arith, weight_on-place_in view x ys e)) ]

weight_on-by_weight : (view : SlackPath → List ℕ × ℕ) (a : List SlackPath) (e : ℕ) → weight_on (map view (by_weight a)) e ≡ weight_on (map view a) e
unfolding by_weight
weight_on-by_weight view [] e = refl
weight_on-by_weight view (x ∷ a) e =
    let rest : weight_on (map view (by_weight a)) e ≡ weight_on (map view a) e = weight_on-by_weight view a e in
    weight_on-place_in view x (by_weight a) e ∙ omega arith

cost-place_in : (x : SlackPath) (a : List SlackPath) → cost (place_in x a) ≡ x.slack + cost a
unfolding place_in
cost-place_in x [] = omega (arith, cost-cons x [])
cost-place_in x (y ∷ ys) =
    elim (cases_Bool (nat_le y.weight x.weight)) [
      | inl l ↦ rw l (cost-cons x (y ∷ ys))
      | inr l ↦ rw l (omega (arith, cost-cons y (place_in x ys), cost-cons y ys, cost-place_in x ys))
    ]

cost-by_weight : (a : List SlackPath) → cost (by_weight a) ≡ cost a
unfolding by_weight
cost-by_weight [] = refl
cost-by_weight (x ∷ a) = omega (arith, cost-cons x a, cost-place_in x (by_weight a), cost-by_weight a)

all-place_in : (test : SlackPath → Bool) (x : SlackPath) (a : List SlackPath) → test x ≡ true → list_all test a ≡ true → list_all test (place_in x a) ≡ true
unfolding place_in
all-place_in test x [] h k = all-cons test x [] h k
all-place_in test x (y ∷ ys) h k =
    let parts : (test y ≡ true) × (list_all test ys ≡ true) = all-parts test y ys k in
    elim (cases_Bool (nat_le y.weight x.weight)) [
      | inl l ↦ rw l (all-cons test x (y ∷ ys) h k)
      | inr l ↦ rw l (all-cons test y (place_in x ys) parts.0 (all-place_in test x ys h parts.1))
    ]

all-by_weight : (test : SlackPath → Bool) (a : List SlackPath) → list_all test a ≡ true → list_all test (by_weight a) ≡ true
unfolding by_weight
all-by_weight test [] h = h
all-by_weight test (x ∷ a) h =
    let parts : (test x ≡ true) × (list_all test a ≡ true) = all-parts test x a h in
    all-place_in test x (by_weight a) parts.0 (all-by_weight test a parts.1)

AllAtMost-place_in : (v : ℕ) (x : SlackPath) (a : List SlackPath) → x.weight ≤ v → AllAtMost v (weights_of a) → AllAtMost v (weights_of (place_in x a))
unfolding place_in
AllAtMost-place_in v x [] h k = (h, tt)
AllAtMost-place_in v x (y ∷ ys) h k =
    elim (cases_Bool (nat_le y.weight x.weight)) [ inl l ↦ rw l (h, k) | inr l ↦ rw l (k.0, AllAtMost-place_in v x ys h k.1) ]

IsFalling-place_in : (x : SlackPath) (a : List SlackPath) → IsFalling (weights_of a) → IsFalling (weights_of (place_in x a))
unfolding place_in
IsFalling-place_in x [] h = (tt, tt)
IsFalling-place_in x (y ∷ ys) h =
    elim (cases_Bool (nat_le y.weight x.weight)) [
      | inl l ↦ let le : y.weight ≤ x.weight = leb-true y.weight x.weight l in rw l ((le, AllAtMost-more y.weight x.weight (weights_of ys) le h.0), h)
      | inr l ↦ let lt : x.weight < y.weight = leb-false y.weight x.weight l in rw l (AllAtMost-place_in y.weight x ys (omega arith) h.0, IsFalling-place_in x ys h.1)
    ]

IsFalling-by_weight : (a : List SlackPath) → IsFalling (weights_of (by_weight a))
unfolding by_weight
IsFalling-by_weight [] = tt
IsFalling-by_weight (x ∷ a) = IsFalling-place_in x (by_weight a) (IsFalling-by_weight a)

falling-by_weight : (a : List SlackPath) (j k : ℕ) → j ≤ k → (entry_at (by_weight a) k).weight ≤ (entry_at (by_weight a) j).weight
falling-by_weight a j k l =
    let pairs : (pair_at (weights_of (by_weight a)) k).1 ≤ (pair_at (weights_of (by_weight a)) j).1 = IsFalling-at (weights_of (by_weight a)) j k (IsFalling-by_weight a) l in
    rw (weights_at (by_weight a) k, weights_at (by_weight a) j) at pairs

covers-by_weight : (w : Weighted) (a : List SlackPath) (e : ℕ) → CoversError w a e → CoversError w (by_weight a) e
covers-by_weight w a e covers =
    let weights : weight_on (weights_of (by_weight a)) e ≡ weight_on (weights_of a) e = weight_on-by_weight (λ entry. (entry.path, entry.weight)) a e in
    let slacks : weight_on (slacks_of (by_weight a)) e ≡ weight_on (slacks_of a) e = weight_on-by_weight (λ entry. (entry.path, entry.slack)) a e in
    rw (weights, slacks) covers

-- ---- the root box

root_slot : (P : Slot → Type 0) (n m k : ℕ) → k < n → P (record { lo = 0; hi = m; walk = [] }) → (w : Weighted) (limit : ℕ) → greatest_weight w.weights ≡ m → P (slot_at (root_box w n limit).slots k)
root_slot P n m k l h w limit is =
    rw is (subst P (sym (get_or-replicate n k (record { lo = 0; hi = m; walk = [] }) (record { lo = 0; hi = 0; walk = [] }) l)) h)

root_slack : (P : Range → Type 0) (w : Weighted) (n limit k : ℕ) → k < n → P (record { lo = 0; hi = limit }) → P (slack_at (root_box w n limit) k)
root_slack P w n limit k l h = subst P (sym (get_or-replicate n k (record { lo = 0; hi = limit }) (record { lo = 0; hi = 0 }) l)) h

-- an entry with weight or slack is one of the line-up
inside_line : (line : List SlackPath) (k : ℕ) → 1 ≤ (entry_at line k).weight + (entry_at line k).slack → k < length line
inside_line line k one =
    elim (cases_lt k (length line)) [
      | inl l ↦ l
      | inr past ↦
          let none : entry_at line k ≡ record { path = []; weight = 0; slack = 0 } = get_or_past line k (record { path = []; weight = 0; slack = 0 }) past in
          let no : 1 ≤ 0 + 0 = rw none at one in
          absurd (omega arith)
    ]

-- no slack is above the cost
slack-le-cost : (a : List SlackPath) (k : ℕ) → (entry_at a k).slack ≤ cost a
slack-le-cost [] k = omega arith
slack-le-cost (x ∷ a) zero = omega (arith, cost-cons x a)
slack-le-cost (x ∷ a) (suc k) = omega (arith, cost-cons x a, slack-le-cost a k)

light-at : (m : ℕ) (line : List SlackPath) (k : ℕ) → list_all (λ entry. nat_le entry.weight m) line ≡ true → (entry_at line k).weight ≤ m
light-at m [] k light = omega arith
light-at m (x ∷ line) zero light = leb-true x.weight m (all-parts (λ entry. nat_le entry.weight m) x line light).0
light-at m (x ∷ line) (suc k) light = light-at m line k (all-parts (λ entry. nat_le entry.weight m) x line light).1

root_holds : (w : Weighted) (n limit : ℕ) (line : List SlackPath) → IsSlackAnswer w.graph line → length line ≤ n → ((j k : ℕ) → j ≤ k → (entry_at line k).weight ≤ (entry_at line j).weight)
    → list_all (λ entry. nat_le entry.weight (greatest_weight w.weights)) line ≡ true → cost line ≤ limit → Holds w.graph (root_box w n limit) line
root_holds w n limit line answer few falling light cheap =
    let m : ℕ = greatest_weight w.weights in
    let long : length (root_box w n limit).slots ≡ n = length-replicate n (record { lo = 0; hi = greatest_weight w.weights; walk = [] }) in
    record {
      long = rw long few;
      falling = λ j k l inside. falling j k l;
      low = λ k l. root_slot (λ s. s.lo ≤ (entry_at line k).weight) n m k (rw long at l) (omega arith) w limit refl;
      high = λ k l. root_slot (λ s. (entry_at line k).weight ≤ s.hi) n m k (rw long at l) (light-at m line k light) w limit refl;
      least = λ k l. root_slack (λ r. r.lo ≤ (entry_at line k).slack) w n limit k (rw long at l) (omega arith);
      most = λ k l. root_slack (λ r. (entry_at line k).slack ≤ r.hi) w n limit k (rw long at l) (omega (arith, slack-le-cost line k));
      path = λ k l one. (and_parts _ _ (all-place (is_entry w.graph) line (record { path = []; weight = 0; slack = 0 }) k answer (inside_line line k one))).0;
      begins = λ k l one. root_slot (λ s. begins_with (entry_at line k).path s.walk ≡ true) n m k (rw long at l) refl w limit refl;
    }

pub tokens_keep_answers : TokensKeepAnswers
tokens_keep_answers w limit line t bs left net answers some is = keep_token w net limit line answers t bs left some is

pub refutations_refute : RefutationsRefute
refutations_refute w slots limit ts a net refuted fits cheap =
    let m : ℕ = greatest_weight w.weights in
    let line : List SlackPath = by_weight (cut m a) in
    let answer : IsSlackAnswer w.graph line = all-by_weight (is_entry w.graph) (cut m a) (answer-cut w.graph m a (one-le-greatest w.weights) fits.fits.answer) in
    let light : list_all (λ entry. nat_le entry.weight m) line ≡ true = all-by_weight (λ entry. nat_le entry.weight m) (cut m a) (light-cut m a) in
    let count : length line ≡ length a = length-by_weight (cut m a) ∙ length-cut m a in
    let costs : cost line ≡ cost a = cost-by_weight (cut m a) ∙ cost-cut m a in
    let few : length line ≤ slots = omega (arith, fits.few) in
    let held : Holds w.graph (root_box w slots limit) line = root_holds w slots limit line answer few (falling-by_weight (cut m a)) light (omega arith) in
    let answers : Answers w limit line
    = record { covers = λ e inside. covers-by_weight w (cut m a) e (covers-cut w a e (fits.fits.covers e inside)); within = omega arith } in
    keep_tokens w net limit line answers ts (root_box w slots limit ∷ []) [] (inl held) refuted

pub trees_bound : TreesBound
trees_bound w k lower ts net positive refuted a fits =
    elim (cases_lt (cost a) lower) [
      | inl less ↦ absurd (refutations_refute w k (lower - 1) ts a net refuted fits (omega arith))
      | inr more ↦ more
    ]
