-- The edges that drawn paths use: where they lead, that each stands once, and how few they are.
use Rattle.std.proofs.Common.{◌≡◌, ℕ, zero, suc, ◌+◌, ◌*◌, ◌/◌, ◌<◌, ◌≤◌, Bool, true, false, not, cond, ◌||◌, List, [], ◌∷◌, filter, length, refl, sym, ap, subst, ◌∙◌, ⊎_elim, arith, length-append}
use Rattle.std.specs.Prelude.{All, ◌==◌, nat_lt, flat_map, decimal}
use Rattle.std.specs.List.{list_any, list_all, IsDistinct}
use Rattle.std.proofs.lemmas.Bool.{cases_Bool, cond_both, or_left, and_from, true≢false, not-true, false_from_ne_true}
use Rattle.std.proofs.lemmas.Nat.{mod_below}
use Rattle.std.proofs.lemmas.Fmt.{length-decimal-le}
use Rattle.std.proofs.lemmas.List.Elements.{All-nil, All-cons, All-head, All-tail, All-filter, All-weaker, All-append, All-from_recursion, recursion_from_All, filter_passes}
use Rattle.std.proofs.lemmas.List.Sums.{sum_by-cons}
use Rattle.std.proofs.lemmas.Map.Keys.{IsDistinct-cons, IsDistinct-head, IsDistinct-tail}
use Rattle.demo_text.specs.declared.path.DemoPath.{DemoPath}
use Rattle.demo_text.specs.Demo.{next_state, path_after, after_path, paths_after, edges_along, same_names, first_uses, edges_used, weight_on}
use Rattle.demo_text.proofs.PlainLines.{IsWord, IsWord-decimal}
use Rattle.demo_text.proofs.GatheredUses.{same_names-Decides}

-- a path by vertices of small numbers, with a small weight
pub record IsSmall (p : DemoPath) : Type 0 where
  pub first : p.first < 3
  pub second : p.second < 3
  pub weight : p.weight ≤ 20

path_after-small : (x : ℕ) → IsSmall (path_after x)
path_after-small x =
    let y = next_state x in
    let z = next_state y in
    record {
      first = mod_below (y / 65536) 3 (omega arith);
      second = mod_below (z / 65536) 3 (omega arith);
      weight = omega (arith, mod_below (next_state z / 65536) 20 (omega arith));
    }

pub paths_after-small : (n x : ℕ) → All IsSmall (paths_after n x)
paths_after-small zero x = All-nil IsSmall
paths_after-small (suc n) x = All-cons IsSmall (path_after x) (paths_after n (after_path x)) (path_after-small x) (paths_after-small n (after_path x))

-- how far from the source a vertex of this name stands: its first byte, and 0 at the source
abbrev pub rank : List ℕ → ℕ
rank [] = 0
rank (b ∷ bytes) = cond (b == 115) 0 b

-- an edge leads from a word to a word farther from the source, and both are short
pub record IsDemoEdge (e : List ℕ × List ℕ) : Type 0 where
  pub tail : IsWord e.0
  pub head : IsWord e.1
  pub rises : rank e.0 < rank e.1
  pub before_sink : rank e.0 < 116
  pub short : length e.0 + length e.1 ≤ 4

-- a letter and a digit
letter-word : (b i : ℕ) → nat_lt 35 b ≡ true → i < 3 → IsWord (b ∷ decimal i)
letter-word b i high low =
    record { some = omega arith; bytes = and_from (nat_lt 35 b) (list_all (λ b. nat_lt 35 b) (decimal i)) high (IsWord-decimal i (omega arith)).bytes }

letter-length : (b i : ℕ) → i < 3 → length (b ∷ decimal i) ≤ 2
letter-length b i low = omega (arith, length-decimal-le 1 i (omega arith) (omega arith) (omega arith))

edges_along-each : (p : DemoPath) → IsSmall p → All IsDemoEdge (edges_along p)
edges_along-each p small =
    let a = 97 ∷ decimal p.first in
    let b = 98 ∷ decimal p.second in
    let first : IsDemoEdge (115 ∷ [], a) = record {
      tail = record { some = omega arith; bytes = refl };
      head = letter-word 97 p.first refl small.first;
      rises = omega arith;
      before_sink = omega arith;
      short = omega (arith, letter-length 97 p.first small.first);
    } in
    let second : IsDemoEdge (a, b) = record {
      tail = letter-word 97 p.first refl small.first;
      head = letter-word 98 p.second refl small.second;
      rises = omega arith;
      before_sink = omega arith;
      short = omega (arith, letter-length 97 p.first small.first, letter-length 98 p.second small.second);
    } in
    let third : IsDemoEdge (b, 116 ∷ []) = record {
      tail = letter-word 98 p.second refl small.second;
      head = record { some = omega arith; bytes = refl };
      rises = omega arith;
      before_sink = omega arith;
      short = omega (arith, letter-length 98 p.second small.second);
    } in
    All-cons IsDemoEdge (115 ∷ [], a) ((a, b) ∷ (b, 116 ∷ []) ∷ []) first
    (All-cons IsDemoEdge (a, b) ((b, 116 ∷ []) ∷ []) second (All-cons IsDemoEdge (b, 116 ∷ []) [] third (All-nil IsDemoEdge)))

all_along : (paths : List DemoPath) → All IsSmall paths → All IsDemoEdge (flat_map edges_along paths)
all_along [] each = All-nil IsDemoEdge
all_along (p ∷ paths) each =
    All-append IsDemoEdge (edges_along p) (flat_map edges_along paths) (edges_along-each p (All-head IsSmall p paths each)) (all_along paths (All-tail IsSmall p paths each))

first_uses-All : (P : List ℕ × List ℕ → Type 0) (xs : List (List ℕ × List ℕ)) → All P xs → All P (first_uses xs)
first_uses-All P [] each = each
first_uses-All P (e ∷ xs) each =
    All-cons P e (filter (λ f. not (same_names e f)) (first_uses xs)) (All-head P e xs each)
    (All-filter (λ f. not (same_names e f)) P (first_uses xs) (first_uses-All P xs (All-tail P e xs each)))

pub edges_used-each : (paths : List DemoPath) → All IsSmall paths → All IsDemoEdge (edges_used paths)
edges_used-each paths each = first_uses-All IsDemoEdge (flat_map edges_along paths) (all_along paths each)

-- each edge once
IsDistinct-kept : (p : List ℕ × List ℕ → Bool) (xs : List (List ℕ × List ℕ)) → IsDistinct same_names xs → IsDistinct same_names (filter p xs)
IsDistinct-kept p [] h = h
IsDistinct-kept p (x ∷ xs) h =
    let rest : IsDistinct same_names (filter p xs) = IsDistinct-kept p xs (IsDistinct-tail same_names x xs h) in
    cond_both (p x) (x ∷ filter p xs) (filter p xs) (IsDistinct same_names)
    (λ _. IsDistinct-cons same_names x (filter p xs)
    (recursion_from_All (λ y. same_names x y ≡ false) (filter p xs)
    (All-filter p (λ y. same_names x y ≡ false) xs (All-from_recursion (λ y. same_names x y ≡ false) xs (IsDistinct-head same_names x xs h)))) rest)
    (λ _. rest)

pub first_uses-once : (xs : List (List ℕ × List ℕ)) → IsDistinct same_names (first_uses xs)
unfolding IsDistinct
first_uses-once [] = tt
first_uses-once (e ∷ xs) =
    IsDistinct-cons same_names e (filter (λ f. not (same_names e f)) (first_uses xs))
    (recursion_from_All (λ y. same_names e y ≡ false) (filter (λ f. not (same_names e f)) (first_uses xs))
    (All-weaker (λ y. not (same_names e y) ≡ true) (λ y. same_names e y ≡ false) (λ y t. not-true _ t) _ (filter_passes (λ f. not (same_names e f)) (first_uses xs))))
    (IsDistinct-kept (λ f. not (same_names e f)) (first_uses xs) (first_uses-once xs))

-- a filter keeps an edge that passes
any-kept : (p : List ℕ × List ℕ → Bool) (e : List ℕ × List ℕ) → p e ≡ true → (xs : List (List ℕ × List ℕ))
    → list_any (same_names e) xs ≡ true → list_any (same_names e) (filter p xs) ≡ true
any-kept p e passes [] h = h
any-kept p e passes (x ∷ xs) h =
    ⊎_elim
    (λ t.
    let is : e ≡ x = (same_names-Decides e x).0 t in
    let here : p x ≡ true = ap p (sym is) ∙ passes in
    subst (λ b. list_any (same_names e) (cond b (x ∷ filter p xs) (filter p xs)) ≡ true) (sym here) (or_left (same_names e x) (list_any (same_names e) (filter p xs)) t))
    (λ f.
    let later : list_any (same_names e) xs ≡ true = ap (λ b. b || list_any (same_names e) xs) (sym f) ∙ h in
    let rest = any-kept p e passes xs later in
    cond_both (p x) (x ∷ filter p xs) (filter p xs) (λ ys. list_any (same_names e) ys ≡ true)
    (λ _. ap (λ b. b || list_any (same_names e) (filter p xs)) f ∙ rest) (λ _. rest))
    (cases_Bool (same_names e x))

pub first_uses-has : (e : List ℕ × List ℕ) (xs : List (List ℕ × List ℕ)) → list_any (same_names e) xs ≡ true → list_any (same_names e) (first_uses xs) ≡ true
first_uses-has e [] h = h
first_uses-has e (x ∷ xs) h =
    ⊎_elim
    (λ t. or_left (same_names e x) _ t)
    (λ f.
    let later : list_any (same_names e) xs ≡ true = ap (λ b. b || list_any (same_names e) xs) (sym f) ∙ h in
    let other : same_names x e ≡ false =
    false_from_ne_true (same_names x e) (λ t. true≢false (sym ((same_names-Decides e x).1 (sym ((same_names-Decides x e).0 t))) ∙ f)) in
    ap (λ b. b || list_any (same_names e) (filter (λ f. not (same_names x f)) (first_uses xs))) f
    ∙ any-kept (λ f. not (same_names x f)) e (ap not other) (first_uses xs) (first_uses-has e xs later))
    (cases_Bool (same_names e x))

-- three edges a path at most
few-kept : (p : List ℕ × List ℕ → Bool) (xs : List (List ℕ × List ℕ)) → length (filter p xs) ≤ length xs
few-kept p [] = omega arith
few-kept p (x ∷ xs) =
    let rest = few-kept p xs in
    cond_both (p x) (x ∷ filter p xs) (filter p xs) (λ ys. length ys ≤ length (x ∷ xs)) (λ _. omega (arith, rest)) (λ _. omega (arith, rest))

few-uses : (xs : List (List ℕ × List ℕ)) → length (first_uses xs) ≤ length xs
few-uses [] = omega arith
few-uses (x ∷ xs) = omega (arith, few-uses xs, few-kept (λ f. not (same_names x f)) (first_uses xs))

length-along : (paths : List DemoPath) → length (flat_map edges_along paths) ≡ 3 * length paths
length-along [] = refl
length-along (p ∷ paths) = omega (arith, length-append (edges_along p) (flat_map edges_along paths), length-along paths)

pub edges_used-few : (paths : List DemoPath) → length (edges_used paths) ≤ 3 * length paths
edges_used-few paths = omega (arith, few-uses (flat_map edges_along paths), length-along paths)

-- the weight of an edge is small
pub weight_on-small : (paths : List DemoPath) (e : List ℕ × List ℕ) → All IsSmall paths → weight_on paths e ≤ 20 * length paths
weight_on-small [] e each = omega arith
weight_on-small (p ∷ paths) e each =
    let rest = weight_on-small paths e (All-tail IsSmall p paths each) in
    let here : cond (list_any (same_names e) (edges_along p)) p.weight 0 ≤ 20 =
    cond_both (list_any (same_names e) (edges_along p)) p.weight 0 (λ w. w ≤ 20) (λ _. (All-head IsSmall p paths each).weight) (λ _. omega arith) in
    omega (arith, rest, here, sum_by-cons (λ (q : DemoPath). cond (list_any (same_names e) (edges_along q)) q.weight 0) p paths)
