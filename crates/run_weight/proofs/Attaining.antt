-- The least load of a run is the greater of 0 and its excess: where the excess is above 0, so many units of paths on the run are set aside, and the rest is lightened.
use Rattle.std.proofs.Common.{◌≡◌, ◌&&◌, ℕ, zero, suc, ◌-◌, ◌<◌, ◌↔◌, List, [], ◌∷◌, cond, true, false, eqb, eq-eqb, nat_le, negsuc, ℤ, pos, ◌-ℤ◌, refl, sym, inl, inr, subst, arith, true≢false}
use Rattle.std.proofs.lemmas.Bool.{cases_Bool, and_from, cond-true, cond-false, false_from_ne_true}
use Rattle.std.proofs.lemmas.Int.{ints}
use Rattle.std.proofs.lemmas.List.Sums.{sum_by-cons}
use Rattle.decomposition.specs.Graph.{Graph, IsNet, IsRun, edge_count, tail, is_path, is_walk_from, has_edge, contains_run}
use Rattle.decomposition.specs.Answer.{weight_on}
use Rattle.decomposition.specs.Flow.{Decomposes, IsBalanced}
use Rattle.decomposition.specs.SafeRuns.{IsSafeFor, leaves_run, leaving, excess}
use Rattle.decomposition.proofs.Sums.{sum_below-same}
use Rattle.decomposition.proofs.Members.{any-here}
use Rattle.decomposition.proofs.Walks.{walk-cons}
use Rattle.decomposition.proofs.Root.{all-cons}
use Rattle.decomposition.proofs.Crowds.{contains_run-has}
use Rattle.decomposition.proofs.Excess.{kept-from_load, excess_is_safe}
use Rattle.decomposition.proofs.Exchange.{take_unit, lighten, safe_is_excess}
use Rattle.decomposition.proofs.Exchange.{no_leaver}
use Rattle.decomposition.proofs.FewPaths.{flows_decompose}
use Rattle.run_weight.specs.Loads.{load, IsLeastLoad, IsLightest, at_least_0}
use Rattle.run_weight.proofs.LoadSums.{weight_over-load, first-le}

module _ (g : Graph) (net : IsNet g) (e : ℕ) (es : List ℕ) (run : is_walk_from g (tail g e) (e ∷ es) ≡ true) where
  -- a decomposition that puts n units more than leave it on the run's first edge has another that puts n on the run
  attain : (n : ℕ) (flow : ℕ → ℕ) (a : List (List ℕ × ℕ)) → (n ≡ flow e - leaving g flow (e ∷ es)) → Decomposes g flow a
      → (b : List (List ℕ × ℕ)) × Decomposes g flow b × (load b (e ∷ es) ≡ n)
  attain zero flow a is d =
      let light = lighten g net e es run (load a (e ∷ es)) flow a (omega arith) d (omega (arith, weight_over-load a (e ∷ es))) in
      (light.0, light.1, omega (arith, light.2, weight_over-load light.0 (e ∷ es)))
  attain (suc n) flow a is d =
      let some = kept-from_load a (e ∷ es) (omega (arith, weight_over-load a (e ∷ es), first-le g net flow e es run a d)) in
      let (p, path, on, taken) = take_unit g (λ l. contains_run l (e ∷ es)) a d.answer some in
      let inside : e < edge_count g = (walk-cons g (tail g e) e es run).inside in
      let first : has_edge p e ≡ true = contains_run-has p (e ∷ es) e on (any-here (λ z. eqb e z) e es (eq-eqb e e refl)) in
      let apart : (x : ℕ) → x < edge_count g → cond (leaves_run g (e ∷ es) x) (weight_on taken.left x) 0 ≡ cond (leaves_run g (e ∷ es) x) (flow x) 0
      = λ x there. elim (cases_Bool (leaves_run g (e ∷ es) x)) [
        | inr other ↦ rw other refl
        | inl leaves ↦
            let free : has_edge p x ≡ false = false_from_ne_true (has_edge p x) (λ has. no_leaver g net e es run p x path on leaves has) in
            rw leaves (omega (arith, taken.sums x, cond-false {A = ℕ} (has_edge p x) 1 0 free, d.sums x there))
      ] in
      let same : leaving g (weight_on taken.left) (e ∷ es) ≡ leaving g flow (e ∷ es)
      = sum_below-same (λ x. cond (leaves_run g (e ∷ es) x) (weight_on taken.left x) 0) (λ x. cond (leaves_run g (e ∷ es) x) (flow x) 0) (edge_count g) apart in
      let less : n ≡ weight_on taken.left e - leaving g (weight_on taken.left) (e ∷ es) = omega (arith, is, same, taken.sums e, cond-true {A = ℕ} (has_edge p e) 1 0 first, d.sums e inside) in
      let (b, made, loads) = attain n (weight_on taken.left) taken.left less (record { answer = taken.answer; sums = λ x there. refl }) in
      let term : List ℕ × ℕ → ℕ = λ entry. cond (contains_run entry.0 (e ∷ es)) entry.1 0 in (
        (p, 1) ∷ b,
        record {
          answer = all-cons (λ entry. is_path g entry.0 && nat_le 1 entry.1) (p, 1) b (and_from (is_path g p) true path refl) made.answer;
          sums = λ x there. omega (arith, made.sums x there, taken.sums x, d.sums x there);
        },
        omega (arith, loads, sum_by-cons term (p, 1) b, cond-true {A = ℕ} (contains_run p (e ∷ es)) 1 0 on),
      )

  pub least-is_excess : (flow : ℕ → ℕ) → IsBalanced g flow → IsLeastLoad g flow (e ∷ es) (flow e - leaving g flow (e ∷ es))
  least-is_excess flow balanced =
      let (a, d, few) = flows_decompose g flow net balanced in
      record {
        reached = attain (flow e - leaving g flow (e ∷ es)) flow a refl d;
        least = λ b made. omega (arith, first-le g net flow e es run b made);
      }

at_least_0-is : (m n : ℕ) (z : ℤ) → z ≡ pos m -ℤ pos n → at_least_0 z ≡ m - n
at_least_0-is m n (pos k) is = omega (arith, ints, is)
at_least_0-is m n (negsuc k) is = omega (arith, ints, is)

excess-at_least_0 : (m n : ℕ) → at_least_0 (pos m -ℤ pos n) ≡ m - n
excess-at_least_0 m n = at_least_0-is m n (pos m -ℤ pos n) refl

-- the least load of a run of a balanced flow
pub IsLeastLoad-excess : (g : Graph) (flow : ℕ → ℕ) (r : List ℕ) → IsNet g → IsBalanced g flow → IsRun g r → IsLeastLoad g flow r (at_least_0 (excess g flow r))
IsLeastLoad-excess g flow [] net balanced run = absurd (true≢false (sym run))
IsLeastLoad-excess g flow (e ∷ es) net balanced run =
    subst (IsLeastLoad g flow (e ∷ es)) (sym (excess-at_least_0 (flow e) (leaving g flow (e ∷ es)))) (least-is_excess g net e es run flow balanced)

-- it is above 0 where the run is safe
pub safe-by_load : (g : Graph) (flow : ℕ → ℕ) (r : List ℕ) → IsNet g → IsBalanced g flow → IsRun g r → (0 < at_least_0 (excess g flow r)) ↔ IsSafeFor g flow r
safe-by_load g flow [] net balanced run = absurd (true≢false (sym run))
safe-by_load g flow (e ∷ es) net balanced run =
    let is = excess-at_least_0 (flow e) (leaving g flow (e ∷ es)) in
    (λ some. excess_is_safe g flow e es net run (omega (arith, is)), λ safe. omega (arith, is, safe_is_excess g flow e es net balanced safe))

-- a lightest decomposition puts just so much on the run
pub load-lightest : (g : Graph) (flow : ℕ → ℕ) (r : List ℕ) (a : List (List ℕ × ℕ)) → IsNet g → IsBalanced g flow → IsRun g r → IsLightest g flow r a → load a r ≡ at_least_0 (excess g flow r)
load-lightest g flow r a net balanced run light =
    let least = IsLeastLoad-excess g flow r net balanced run in
    let (b, made, is) = least.reached in
    omega (arith, is, light.least b made, least.least a light.decomposes)
