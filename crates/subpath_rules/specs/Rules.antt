-- The rules that a list of runs stands for.
use Rattle.std.specs.Prelude.{◌≡◌, ℕ, Bool, not, ◌==◌, filter, List, [], ◌∷◌, IsTrue}
use Rattle.std.specs.List.{list_all, IsDistinct}
use Rattle.std.specs.Cmp.Lexicographic.{pointwise}
use Rattle.decomposition.specs.Graph.{Graph, is_run}

-- whether two runs have the same edges in the same order
abbrev pub same_run : List ℕ → List ℕ → Bool
same_run r s = pointwise (λ d e. d == e) r s

-- the lists, each once, at its first place
abbrev pub distinct_runs : List (List ℕ) → List (List ℕ)
distinct_runs [] = []
distinct_runs (r ∷ rs) = r ∷ filter (λ s. not (same_run r s)) (distinct_runs rs)

-- the rules of a list: the lists, each once, at its first place; all are runs, and no two are the same
pub record AreRulesOf (g : Graph) (listed rules : List (List ℕ)) : Type 0 where
  pub listed_runs : IsTrue (list_all (is_run g) listed)
  pub rules_are : rules ≡ distinct_runs listed
  pub runs : IsTrue (list_all (is_run g) rules)
  pub distinct : IsDistinct (pointwise (λ d e. d == e)) rules
