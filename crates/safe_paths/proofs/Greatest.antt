-- The greatest flow of an edge at each vertex, edge by edge.
use Rattle.std.proofs.Common.{◌≡◌, ◌≢◌, ℕ, ◌+◌, ◌<◌, ◌≤◌, max, List, length, slice_index, slice_set, sym, ap, ◌∙◌, subst, arith, inl, inr, get_or-set_same, get_or-set_other}
use Rattle.std.proofs.lemmas.Bool.{cases_eq, cases_lt}
use Rattle.std.proofs.lemmas.List.{length-set}
use Rattle.safe_paths.specs.VertexFlows.{IsGreatest, AreGreatest}

module _ (end flow : ℕ → ℕ) where
  -- an edge with another end changes nothing
  IsGreatest-other : (count v most : ℕ) → end count ≢ v → IsGreatest end flow count v most → IsGreatest end flow (count + 1) v most
  IsGreatest-other count v most other greatest = record {
    above = λ e there at. elim (cases_eq e count) [
      | inl same ↦ absurd (other (ap end (sym same) ∙ at))
      | inr before ↦ greatest.above e (omega arith) at
    ];
    reached = elim greatest.reached [ inl none ↦ inl none | inr (e, there, at, is) ↦ inr (e, omega arith, at, is) ];
  }

  -- an edge with this end
  IsGreatest-more : (count v old most : ℕ) → end count ≡ v → most ≡ max (flow count) old → IsGreatest end flow count v old → IsGreatest end flow (count + 1) v most
  IsGreatest-more count v old most at is greatest = record {
    above = λ e there end_at. elim (cases_eq e count) [
      | inl same ↦ let equal : flow e ≡ flow count = ap flow same in omega arith
      | inr before ↦ let le : flow e ≤ old = greatest.above e (omega arith) end_at in omega arith
    ];
    reached = elim (cases_lt old (flow count)) [
      | inl more ↦ inr (count, omega arith, at, omega arith)
      | inr less ↦ elim greatest.reached [ inl none ↦ inl (omega arith) | inr (e, there, end_at, equal) ↦ inr (e, omega arith, end_at, omega arith) ]
    ];
  }

  -- one more edge is compared with the greatest at its end
  pub AreGreatest-more : (n e h r w most : ℕ) (list : List ℕ) → h ≡ end e → h < length list → r ≡ slice_index list h → w ≡ flow e → w ≤ 1000000000000 → most ≡ max w r
      → AreGreatest end flow n e list → AreGreatest end flow n (e + 1) (slice_set list h most)
  AreGreatest-more n e h r w most list is_end within read units little is so_far = record {
    room = length-set list h most ∙ so_far.room;
    at = λ v there. elim (cases_eq v h) [
      | inl same ↦
          let value : slice_index (slice_set list h most) v ≡ most = ap (slice_index (slice_set list h most)) same ∙ get_or-set_same list h most 0 within in
          let old : IsGreatest end flow e v r = subst (IsGreatest end flow e v) (ap (slice_index list) same ∙ sym read) (so_far.at v there) in
          subst (IsGreatest end flow (e + 1) v) (sym value) (IsGreatest-more e v r most (sym (same ∙ is_end)) (omega arith) old)
      | inr other ↦
          subst (IsGreatest end flow (e + 1) v) (sym (get_or-set_other list h v most 0 other))
          (IsGreatest-other e v (slice_index list v) (λ at. other (sym at ∙ sym is_end)) (so_far.at v there))
    ];
    small = λ v. elim (cases_eq v h) [
      | inl same ↦ omega (arith, ap (slice_index (slice_set list h most)) same, get_or-set_same list h most 0 within, so_far.small h)
      | inr other ↦ omega (arith, get_or-set_other list h v most 0 other, so_far.small v)
    ];
  }
