-- Numbers that are brought within ranges, one after the other, and ranges that are not too great for wide ones.
use Rattle.std.proofs.Common.{◌≡◌, ℕ, ◌+◌, ◌&&◌, nat_le, min, max, true, List, [], ◌∷◌, ◌++◌, length-append, slice_index, refl, sym, subst, ◌∙◌, inl, inr, arith, leb-true, le-leb}
use Rattle.std.specs.List.{list_all}
use Rattle.std.proofs.Math.ListN.{get_or-append}
use Rattle.std.proofs.Math.Seq.{get_or-append_seam}
use Rattle.std.proofs.lemmas.Bool.{and_from, and_parts, cases_eq}
use Rattle.decomposition.specs.declared.Range.{Range}
use Rattle.decomposition.specs.Instance.{range_at}
use Rattle.decomposition.proofs.Root.{all-cons, all-parts}
use Rattle.lower_flow.specs.Brought.{AreBroughtBefore}
use Rattle.lower_flow.specs.Limits.{most_units, most_wide_units}

-- one number more
pub brought-more : (n : ℕ) (ranges : List Range) (near flow : List ℕ) (x : ℕ) → AreBroughtBefore n ranges near flow → x ≡ min (max (slice_index near n) (range_at ranges n).lo) (range_at ranges n).hi
    → AreBroughtBefore (n + 1) ranges near (flow ++ x ∷ [])
brought-more n ranges near flow x so_far is = record {
  count = omega (arith, length-append flow (x ∷ []), so_far.count);
  each = λ e there. elim (cases_eq e n) [
    | inl same ↦
        subst (λ m. slice_index (flow ++ x ∷ []) m ≡ min (max (slice_index near m) (range_at ranges m).lo) (range_at ranges m).hi) (sym same)
        (subst (λ m. slice_index (flow ++ x ∷ []) m ≡ x) so_far.count (get_or-append_seam flow x [] 0) ∙ is)
    | inr other ↦ get_or-append flow (x ∷ []) 0 e (omega (arith, there, other, so_far.count)) ∙ so_far.each e (omega (arith, there, other))
  ];
}

-- bounds that are not too great are not too great for wide ranges
pub bounded-wide : (ranges : List Range) → list_all (λ (r : Range). nat_le r.lo r.hi && nat_le r.hi most_units) ranges ≡ true → list_all (λ (r : Range). nat_le r.lo r.hi && nat_le r.hi most_wide_units) ranges ≡ true
bounded-wide [] bounded = refl
bounded-wide (r ∷ rs) bounded =
    let parts = all-parts (λ (r : Range). nat_le r.lo r.hi && nat_le r.hi most_units) r rs bounded in
    let both = and_parts (nat_le r.lo r.hi) (nat_le r.hi most_units) parts.0 in
    all-cons (λ (r : Range). nat_le r.lo r.hi && nat_le r.hi most_wide_units) r rs
    (and_from (nat_le r.lo r.hi) (nat_le r.hi most_wide_units) both.0 (le-leb r.hi most_wide_units (omega (arith, leb-true r.hi most_units both.1)))) (bounded-wide rs parts.1)
