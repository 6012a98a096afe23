-- Report order, as a sort of entries with different paths gives it.
use Rattle.std.proofs.Common.{◌≡◌, ◌≢◌, ◌==◌, ℕ, suc, ◌<◌, ◌∷◌, [], List, true, false, not, ◌&&◌, nat_lt, length, get_or, add-one, refl, sym, ap, subst, ◌∙◌, arith, true≢false, eq-eqb, lt-ltb}
use Rattle.std.specs.List.{IsDistinct}
use Rattle.std.specs.Ordering.{nat_cmp, ordering_then, is_lt}
use Rattle.std.specs.Cmp.{IsTotalOrder}
use Rattle.std.specs.Cmp.Lexicographic.{slice_cmp, pointwise}
use Rattle.std.specs.List.Sorted.{IsSortedBy}
use Rattle.std.specs.declared.cmp.Ordering.{Ordering}
use Rattle.std.specs.declared.cmp.Ordering.TheVariants.{Less, Equal, Greater}
use Rattle.std.proofs.lemmas.Bool.{and_from, or_left, or_right, both_ways}
use Rattle.std.proofs.lemmas.Cmp.{nat_cmp_total, on_total, then_total, back_total, nat_list_cmp_total, nat_list_eq_equiv, ranked}
use Rattle.decomposition.specs.Graph.{is_list_before}
use Rattle.decomposition.specs.Answer.{same_path, comes_before, is_ordered, IsInReportOrder}
use Rattle.decomposition.proofs.ReportOrder.{is_list_le-cmp, is_list_before-from_le}

-- by falling weight, and with equal weight by rising edge list
abbrev pub report_cmp : List ℕ × ℕ → List ℕ × ℕ → Ordering
report_cmp a b = ordering_then (nat_cmp b.1 a.1) (slice_cmp nat_cmp a.0 b.0)

pub report_total : IsTotalOrder report_cmp
report_total = then_total (back_total (on_total (λ (e : List ℕ × ℕ). e.1) nat_cmp_total)) (on_total (λ (e : List ℕ × ℕ). e.0) nat_list_cmp_total)

-- of two entries with different paths, the one that is not greater comes before the other
comes_before-from_cmp : (a b : List ℕ × ℕ) → same_path a b ≡ false → is_lt (report_cmp b a) ≡ false → comes_before a b ≡ true
comes_before-from_cmp a b apart = by_weight (nat_cmp a.1 b.1) refl where
  other : a.0 ≢ b.0
  other same = both_ways (same_path a b) apart (subst (λ p. pointwise (λ d e. d == e) a.0 p ≡ true) same (nat_list_eq_equiv.refl a.0))

  by_weight : (o : Ordering) → o ≡ nat_cmp a.1 b.1 → is_lt (ordering_then o (slice_cmp nat_cmp b.0 a.0)) ≡ false → comes_before a b ≡ true
  by_weight Less is h = absurd (true≢false h)
  by_weight Equal is h =
      let before : is_list_before a.0 b.0 ≡ true = is_list_before-from_le a.0 b.0 (sym (is_list_le-cmp b.0 a.0 (slice_cmp nat_cmp b.0 a.0) refl) ∙ ap not h) other in
      or_right (nat_lt b.1 a.1) ((a.1 == b.1) && is_list_before a.0 b.0) (and_from (a.1 == b.1) (is_list_before a.0 b.0) (eq-eqb a.1 b.1 (ranked a.1 b.1 Equal is)) before)
  by_weight Greater is h = or_left (nat_lt b.1 a.1) ((a.1 == b.1) && is_list_before a.0 b.0) (lt-ltb b.1 a.1 (ranked a.1 b.1 Greater is))

in_order : (xs : List (List ℕ × ℕ)) → IsDistinct same_path xs → ((k : ℕ) → suc k < length xs → is_lt (report_cmp (get_or xs (suc k) ([], 0)) (get_or xs k ([], 0))) ≡ false) → is_ordered comes_before xs ≡ true
unfolding IsDistinct
in_order [] once sorted = refl
in_order (x ∷ []) once sorted = refl
in_order (x ∷ y ∷ xs) once sorted =
    and_from (comes_before x y) (is_ordered comes_before (y ∷ xs)) (comes_before-from_cmp x y once.0.0 (sorted 0 (omega arith)))
    (in_order (y ∷ xs) once.1 (λ k h. sorted (suc k) (omega arith)))

pub IsInReportOrder-from_sort : (xs : List (List ℕ × ℕ)) → IsDistinct same_path xs → IsSortedBy (λ x y. is_lt (report_cmp x y)) xs → IsInReportOrder xs
IsInReportOrder-from_sort xs once sorted =
    in_order xs once (λ k h. subst (λ j. is_lt (report_cmp (get_or xs j ([], 0)) (get_or xs k ([], 0))) ≡ false) (add-one k) (sorted k ([], 0) (omega arith) (omega arith)))
