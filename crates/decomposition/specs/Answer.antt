-- Lists of weighted paths, and what they put on edges.
use Rattle.std.specs.Prelude.{◌≡◌, ℕ, zero, suc, ◌+◌, Bool, true, ◌&&◌, ◌||◌, ◌==◌, nat_le, nat_lt, cond, List, [], ◌∷◌, sum_by, slice_index_or, IsTrue}
use Rattle.std.specs.List.{list_any, list_all, IsDistinct}
use Rattle.std.specs.Cmp.Lexicographic.{pointwise}
use Rattle.decomposition.specs.Graph.{Graph, is_path, has_edge, contains_run, is_list_before}

-- the entry of an answer at a place; past its end stands an entry of weight 0
abbrev pub entry_at : List (List ℕ × ℕ) → ℕ → List ℕ × ℕ
entry_at a k = slice_index_or a k ([], 0)

-- the sum of f over the numbers below n
abbrev pub sum_below : (ℕ → ℕ) → ℕ → ℕ
sum_below f zero = 0
sum_below f (suc n) = sum_below f n + f n

-- the total weight of the paths through an edge
abbrev pub weight_on : List (List ℕ × ℕ) → ℕ → ℕ
weight_on [] e = 0
weight_on (a ∷ rest) e = cond (has_edge a.0 e) a.1 0 + weight_on rest e

-- an answer: paths of the graph, each with a weight of at least 1
abbrev pub IsAnswer : Graph → List (List ℕ × ℕ) → Type 0
IsAnswer g a = IsTrue (list_all (λ entry. is_path g entry.0 && nat_le 1 entry.1) a)

-- each constraint stands in some path of the answer
abbrev pub Covers : List (List ℕ) → List (List ℕ × ℕ) → Type 0
Covers rules a = IsTrue (list_all (λ r. list_any (λ entry. contains_run entry.0 r) a) rules)

-- the weights of all entries together
abbrev pub total_weight : List (List ℕ × ℕ) → ℕ
total_weight a = sum_by (λ entry. entry.1) a

-- whether two entries have the same path
abbrev pub same_path : List ℕ × ℕ → List ℕ × ℕ → Bool
same_path a b = pointwise (λ d e. d == e) a.0 b.0

-- the same paths: where some path of the one passes a test, some path of the other does
abbrev pub HaveSamePaths : List (List ℕ × ℕ) → List (List ℕ × ℕ) → Type 0
HaveSamePaths old new = (test : List ℕ → Bool) → list_any (λ entry. test entry.0) new ≡ list_any (λ entry. test entry.0) old

-- the total weight of a path in a list
abbrev pub weight_of : List (List ℕ × ℕ) → List ℕ → ℕ
weight_of [] p = 0
weight_of (a ∷ rest) p = cond (pointwise (λ d e. d == e) a.0 p) a.1 0 + weight_of rest p

-- the same paths with the same total weights, each path once
pub record IsMerged (old new : List (List ℕ × ℕ)) : Type 0 where
  pub once : IsDistinct (λ a b. pointwise (λ d e. d == e) a.0 b.0) new
  pub positive : IsTrue (list_all (λ a. nat_lt 0 a.1) new)
  pub same : (p : List ℕ) → weight_of new p ≡ weight_of old p

-- whether an entry stands before another in a report: it weighs more, or as much and its path is the earlier edge list
abbrev pub comes_before : List ℕ × ℕ → List ℕ × ℕ → Bool
comes_before a b = nat_lt b.1 a.1 || ((a.1 == b.1) && is_list_before a.0 b.0)

-- whether each entry stands before the next one
abbrev pub is_ordered : {X : Type 0} → (X → X → Bool) → List X → Bool
is_ordered before [] = true
is_ordered before (x ∷ []) = true
is_ordered before (x ∷ y ∷ xs) = before x y && is_ordered before (y ∷ xs)

-- report order: by falling weight, with equal weight by rising edge list, no entry twice
abbrev pub IsInReportOrder : List (List ℕ × ℕ) → Type 0
IsInReportOrder a = IsTrue (is_ordered comes_before a)
