-- The edge of greatest flow at each vertex, edge by edge.
use Rattle.std.proofs.Common.{◌≡◌, ◌≢◌, ℕ, ◌+◌, ◌<◌, ◌≤◌, List, Option, None, Some, length, replicate, slice_index_or, slice_set, sym, ap, ◌∙◌, subst, arith, inl, inr, get_or-set_same, get_or-set_other}
use Rattle.std.proofs.lemmas.Bool.{cases_eq, cases_lt}
use Rattle.std.proofs.lemmas.List.{length-set, length-replicate, get_or-replicate, get_or_past}
use Rattle.decomposition.specs.Graph.{Graph, edge_count}
use Rattle.greedy_paths.specs.Greatest.{IsAhead, IsGreater, IsGreatestAt, AreGreatestAt}
use Rattle.greedy_paths.specs.Booking.{IsListed}

module _ (end flow : ℕ → ℕ) where
  -- an edge with another end changes nothing
  IsGreatestAt-other : (count v : ℕ) (found : Option ℕ) → end count ≢ v → IsGreatestAt end flow count v found → IsGreatestAt end flow (count + 1) v found
  IsGreatestAt-other count v None other none = λ e there at. elim (cases_eq e count) [
    | inl same ↦ other (ap end (sym same) ∙ at)
    | inr before ↦ none e (omega arith) at
  ]
  IsGreatestAt-other count v (Some e) other greatest = (
    omega (arith, greatest.0),
    greatest.1,
    λ f there at. elim (cases_eq f count) [
      | inl same ↦ absurd (other (ap end (sym same) ∙ at))
      | inr before ↦ greatest.2 f (omega arith) at
    ],
  )

  -- the greater of two edges is ahead of all that the one is ahead of
  IsGreatestAt-kept : (count v d : ℕ) → flow count ≤ flow d → IsGreatestAt end flow count v (Some d) → IsGreatestAt end flow (count + 1) v (Some d)
  IsGreatestAt-kept count v d le greatest = (
    omega (arith, greatest.0),
    greatest.1,
    λ f there at. elim (cases_eq f count) [
      | inl same ↦
          let equal : flow f ≡ flow count = ap flow same in
          let later : d < count = greatest.0 in
          elim (cases_lt (flow f) (flow d)) [ inl less ↦ inl less | inr more ↦ inr (omega arith, omega arith) ]
      | inr before ↦ greatest.2 f (omega arith) at
    ],
  )

  IsGreatestAt-taken : (count v d : ℕ) → end count ≡ v → flow d < flow count → IsGreatestAt end flow count v (Some d) → IsGreatestAt end flow (count + 1) v (Some count)
  IsGreatestAt-taken count v d at less greatest = (
    omega arith,
    at,
    λ f there ends. elim (cases_eq f count) [
      | inl same ↦ inr (ap flow same, omega arith)
      | inr before ↦ elim (greatest.2 f (omega arith) ends) [ inl under ↦ inl (omega arith) | inr tie ↦ inl (omega (arith, tie.0)) ]
    ],
  )

  IsGreatestAt-first : (count v : ℕ) → end count ≡ v → IsGreatestAt end flow count v None → IsGreatestAt end flow (count + 1) v (Some count)
  IsGreatestAt-first count v at none = (
    omega arith,
    at,
    λ f there ends. elim (cases_eq f count) [
      | inl same ↦ inr (ap flow same, omega arith)
      | inr before ↦ absurd (none f (omega arith) ends)
    ],
  )

  -- an edge with this end
  IsGreatestAt-more : (count v now : ℕ) (found : Option ℕ) → end count ≡ v → IsGreater flow found count now → IsGreatestAt end flow count v found → IsGreatestAt end flow (count + 1) v (Some now)
  IsGreatestAt-more count v now None at is none = subst (λ e. IsGreatestAt end flow (count + 1) v (Some e)) (sym is) (IsGreatestAt-first count v at none)
  IsGreatestAt-more count v now (Some d) at is greatest =
      elim is [
        | inl kept ↦ subst (λ e. IsGreatestAt end flow (count + 1) v (Some e)) (sym kept.0) (IsGreatestAt-kept count v d kept.1 greatest)
        | inr taken ↦ subst (λ e. IsGreatestAt end flow (count + 1) v (Some e)) (sym taken.0) (IsGreatestAt-taken count v d at taken.1 greatest)
      ]

  -- before the first edge none is found
  pub AreGreatestAt-none : (n m : ℕ) (found : List (Option ℕ)) → m ≡ n → found ≡ replicate m None → AreGreatestAt end flow n 0 found
  AreGreatestAt-none n m found same is =
      subst (AreGreatestAt end flow n 0) (sym (is ∙ ap (λ k. replicate k None) same)) (record {
        room = length-replicate n None;
        at = λ v there. subst (IsGreatestAt end flow 0 v) (sym (get_or-replicate n v None None there)) (λ e h. absurd (omega arith));
      })

  -- one more edge is compared with the greatest at its end
  pub AreGreatestAt-more : (n count h now : ℕ) (read : Option ℕ) (found : List (Option ℕ)) → h ≡ end count → h < length found → read ≡ slice_index_or found h None → IsGreater flow read count now
      → AreGreatestAt end flow n count found → AreGreatestAt end flow n (count + 1) (slice_set found h (Some now))
  AreGreatestAt-more n count h now read found is_end within reads is so_far = record {
    room = length-set found h (Some now) ∙ so_far.room;
    at = λ v there. elim (cases_eq v h) [
      | inl same ↦
          let value : slice_index_or (slice_set found h (Some now)) v None ≡ Some now
          = ap (λ k. slice_index_or (slice_set found h (Some now)) k None) same ∙ get_or-set_same found h (Some now) None within in
          let old : IsGreatestAt end flow count v read = subst (IsGreatestAt end flow count v) (ap (λ k. slice_index_or found k None) same ∙ sym reads) (so_far.at v there) in
          subst (IsGreatestAt end flow (count + 1) v) (sym value) (IsGreatestAt-more count v now read (sym (same ∙ is_end)) is old)
      | inr other ↦
          subst (IsGreatestAt end flow (count + 1) v) (sym (get_or-set_other found h v (Some now) None other))
          (IsGreatestAt-other count v (slice_index_or found v None) (λ at. other (sym at ∙ sym is_end)) (so_far.at v there))
    ];
  }

-- an edge that is listed for its end is ahead of all others there
pub ahead-from_listed : (g : Graph) (end flow : ℕ → ℕ) (found : List (Option ℕ)) → AreGreatestAt end flow g.vertices (edge_count g) found → (e : ℕ) → IsListed end found e
    → (f : ℕ) → f < edge_count g → end f ≡ end e → IsAhead flow e f
ahead-from_listed g end flow found greatest e listed f there same =
    elim (cases_lt (end e) g.vertices) [
      | inl within ↦ (subst (IsGreatestAt end flow (edge_count g) (end e)) listed (greatest.at (end e) within)).2 f there same
      | inr past ↦
          let none : ◌≡◌ {A = Option ℕ} None (Some e) = sym (get_or_past found (end e) None (omega (arith, greatest.room))) ∙ listed in
          absurd (let no' : ⊥ = cc in no')
    ]
