-- What the paths of a list put on the edges.
use Rattle.std.proofs.Common.{◌≡◌, ◌≢◌, ℕ, ◌+◌, ◌<◌, ◌≤◌, ◌==◌, Bool, true, false, cond, List, [], ◌∷◌, ◌++◌, refl, sym, ap, arith, inl, inr, eq-eqb, eqb-true, ne_eqb}
use Rattle.std.specs.List.{list_any, list_all, AllByRecursion}
use Rattle.std.proofs.lemmas.Bool.{cases_lt, cases_Bool}
use Rattle.decomposition.specs.Graph.{Graph, edge_count, head, is_walk_from, is_path, has_edge}
use Rattle.decomposition.specs.Width.{IsPathCover}
use Rattle.decomposition.specs.Answer.{sum_below}
use Rattle.decomposition.proofs.Sums.{sum_below-one, sum_below-nil, sum_below-add, sum_below-same}
use Rattle.decomposition.proofs.Balance.{total, cond-zero, cond-add}
use Rattle.decomposition.proofs.Members.{any-here, any-there}
use Rattle.decomposition.proofs.Walks.{IsStep, walk-cons}
use Rattle.path_cover.specs.Carrying.{least_flow}
use Rattle.path_cover.specs.Load.{times, load}

-- an edge that stands in a list
pub times-has : (es : List ℕ) (e : ℕ) → 1 ≤ times es e → has_edge es e ≡ true
times-has [] e h = absurd (omega arith)
times-has (d ∷ es) e h =
    elim (cases_Bool (d == e)) [
      | inl same ↦ any-here (λ f. e == f) d es (eq-eqb e d (sym (eqb-true d e same)))
      | inr other ↦ let now : 1 ≤ 0 + times es e = rw other at h in any-there (λ f. e == f) d es (times-has es e (omega arith))
    ]

pub load-has : (ps : List (List ℕ)) (e : ℕ) → 1 ≤ load ps e → list_any (λ p. has_edge p e) ps ≡ true
load-has [] e h = absurd (omega arith)
load-has (p ∷ ps) e h =
    elim (cases_lt 0 (times p e)) [
      | inl here ↦ any-here (λ q. has_edge q e) p ps (times-has p e here)
      | inr none ↦ any-there (λ q. has_edge q e) p ps (load-has ps e (omega arith))
    ]

pub times-push : (es : List ℕ) (d e : ℕ) → times (es ++ d ∷ []) e ≡ times es e + cond (d == e) 1 0
times-push [] d e = omega arith
times-push (f ∷ es) d e = omega (arith, times-push es d e)

pub load-push : (ps : List (List ℕ)) (p : List ℕ) (e : ℕ) → load (ps ++ p ∷ []) e ≡ load ps e + times p e
load-push [] p e = omega arith
load-push (q ∷ ps) p e = omega (arith, load-push ps p e)

-- the entries of a list that pass a test, by all edges
pub times-total : (test : ℕ → Bool) (m : ℕ) (es : List ℕ) → AllByRecursion (λ e. e < m) es → sum_below (λ e. cond (test e) (times es e) 0) m ≡ total test 1 es
times-total test m [] inside = sum_below-nil (λ e. cond (test e) 0 0) m (λ e l. cond-zero (test e))
times-total test m (d ∷ es) inside =
    omega (
      arith,
      times-total test m es inside.1,
      sum_below-one (λ e. cond (test e) (times (d ∷ es) e) 0) (λ e. cond (test e) (times es e) 0) (cond (test d) 1 0) d m inside.0 here others,
    )
  where
    here : cond (test d) (times (d ∷ es) d) 0 ≡ cond (test d) (times es d) 0 + cond (test d) 1 0
    here = rw (eq-eqb d d refl) (at (test d)) where
      at : (b : Bool) → cond b (1 + times es d) 0 ≡ cond b (times es d) 0 + cond b 1 0
      at true = omega arith
      at false = omega arith

    others : (j : ℕ) → j ≢ d → cond (test j) (times (d ∷ es) j) 0 ≡ cond (test j) (times es j) 0
    others j other = rw (ne_eqb d j (λ same. other (sym same))) (ap (λ x. cond (test j) x 0) (omega arith))

-- the same for all lists together
abbrev pub totals : (ℕ → Bool) → List (List ℕ) → ℕ
totals test [] = 0
totals test (p ∷ ps) = total test 1 p + totals test ps

pub load-totals : (test : ℕ → Bool) (m : ℕ) (ps : List (List ℕ)) → AllByRecursion (λ p. AllByRecursion (λ e. e < m) p) ps → sum_below (λ e. cond (test e) (load ps e) 0) m ≡ totals test ps
load-totals test m [] inside = sum_below-nil (λ e. cond (test e) 0 0) m (λ e l. cond-zero (test e))
load-totals test m (p ∷ ps) inside =
    omega (
      arith,
      load-totals test m ps inside.1,
      times-total test m p inside.0,
      sum_below-add (λ e. cond (test e) (times p e) 0) (λ e. cond (test e) (load ps e) 0) m,
      sum_below-same (λ e. cond (test e) (times p e + load ps e) 0) (λ e. cond (test e) (times p e) 0 + cond (test e) (load ps e) 0) m (λ e l. cond-add (test e) (times p e) (load ps e)),
    )

-- the entries of a walk are edges
pub walk-below : (g : Graph) (v : ℕ) (es : List ℕ) → is_walk_from g v es ≡ true → AllByRecursion (λ e. e < edge_count g) es
walk-below g v [] walk = tt
walk-below g v (e ∷ es) walk = let s : IsStep g v e es = walk-cons g v e es walk in (s.inside, walk-below g (head g e) es s.rest)

-- paths that make up a flow which carries the needed edges have them all
pub IsPathCover-load : (g : Graph) (needed : ℕ → Bool) (flow : ℕ → ℕ) (ps : List (List ℕ)) → list_all (is_path g) ps ≡ true → ((e : ℕ) → e < edge_count g → load ps e ≡ flow e) → ((e : ℕ) → e < edge_count g → least_flow needed e ≤ flow e)
    → IsPathCover g needed ps
IsPathCover-load g needed flow ps paths makes enough = record {
  paths = paths;
  covers = λ e h need. let least : 1 ≤ flow e = rw need at (enough e h) in load-has ps e (omega (arith, makes e h));
}
