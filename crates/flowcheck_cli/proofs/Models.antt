-- The model of a line.
use Rattle.std.proofs.Common.{◌≡◌, ℕ, zero, suc, ◌+◌, ◌<◌, ◌≤◌, List, Bool, true, false, refl, sym, ap, ◌∙◌, subst, arith}
use Rattle.std.specs.Prelude.{Some, map, find, unwrap_or}
use Rattle.std.specs.List.{range_with_len}
use Rattle.std.specs.Str.{bytes_eq}
use Rattle.std.proofs.lemmas.Bool.{cond-true, cond-false}
use Rattle.std.proofs.lemmas.Slice.Eq.{bytes_eq-Decides}
use Rattle.decomposition.specs.declared.Mode.{Mode}
use Rattle.decomposition.specs.declared.Mode.TheVariants.{Exact, Interval, Abs}
use Rattle.report_reading.specs.ReportText.{model_line}
use Rattle.flowcheck_cli.specs.ReportTexts.{mode_of_line}

-- the first number of paths that passes a test
found-at : (p : Mode → Bool) (a n k : ℕ) → k < n → ((j : ℕ) → a ≤ j → j < a + k → p (Abs j) ≡ false) → p (Abs (a + k)) ≡ true →
    find p (map (λ j. Abs j) (range_with_len a n)) ≡ Some (Abs (a + k))
found-at p a zero k within before here = absurd (omega (arith, within))
found-at p a (suc n) zero within before here =
    let e : a + zero ≡ a = omega arith in
    cond-true (p (Abs a)) _ _ (subst (λ j. p (Abs j) ≡ true) e here) ∙ ap (λ j. Some (Abs j)) (sym e)
found-at p a (suc n) (suc k) within before here =
    let e : a + 1 + k ≡ a + suc k = omega arith in
    cond-false (p (Abs a)) _ _ (before a (omega arith) (omega arith))
    ∙ found-at p (a + 1) n k (omega (arith, within)) (λ j from to. before j (omega (arith, from)) (omega (arith, to))) (subst (λ j. p (Abs j) ≡ true) (sym e) here)
    ∙ ap (λ j. Some (Abs j)) e

-- the line of a number of paths is not that of the exact model
not-exact : (l : List ℕ) (k : ℕ) → bytes_eq l (model_line (Abs k)) ≡ true → bytes_eq l (model_line Exact) ≡ false
not-exact l k is = subst (λ m. bytes_eq m (model_line Exact) ≡ false) (sym ((bytes_eq-Decides l (model_line (Abs k))).0 is)) refl

-- the model of the line of a number of paths
pub abs-line : (l : List ℕ) (k : ℕ) → k < 65 → bytes_eq l (model_line Interval) ≡ false → ((j : ℕ) → j < k → bytes_eq l (model_line (Abs j)) ≡ false) →
    bytes_eq l (model_line (Abs k)) ≡ true → mode_of_line l ≡ Abs k
abs-line l k within interval before here =
    let p : Mode → Bool = λ mode. bytes_eq l (model_line mode) in
    let e : 0 + k ≡ k = omega arith in
    let found : find p (map (λ j. Abs j) (range_with_len 0 65)) ≡ Some (Abs k) =
    found-at p 0 65 k within (λ j from to. before j (omega (arith, to))) (subst (λ j. p (Abs j) ≡ true) (sym e) here) ∙ ap (λ j. Some (Abs j)) e in
    ap (λ o. unwrap_or o Exact)
    (cond-false (p Exact) _ _ (not-exact l k here) ∙ cond-false (p Interval) _ _ interval ∙ found)
