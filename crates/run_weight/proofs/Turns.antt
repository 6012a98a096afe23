-- What one exchange makes of the sorted entries.
use Rattle.std.proofs.Common.{◌≡◌, ℕ, ◌+◌, ◌-◌, ◌*◌, ◌≤◌, List, [], ◌∷◌, ◌++◌, length, length-append, cond, arith}
use Rattle.std.specs.Prelude.{All}
use Rattle.std.proofs.lemmas.List.Elements.{All-push}
use Rattle.decomposition.specs.Graph.{Graph, has_edge}
use Rattle.decomposition.specs.Answer.{weight_on, total_weight}
use Rattle.run_weight.specs.Sorting.{IsCarrier, IsOther, Adds}
use Rattle.run_weight.proofs.Exchanging.{IsExchanged}
use Rattle.run_weight.proofs.Weights.{weight_on-push, Adds-All, Adds-weight_on, Adds-total_weight, Adds-length, scaled, in_two}

-- an exchange: two new pending entries, and what is left of the two old ones
pub record Turn (g : Graph) (r : List ℕ) (p : List ℕ) (m : ℕ) (q : List ℕ) (w : ℕ) (carriers pending carriers' pending' : List (List ℕ × ℕ)) : Type 0 where
  pub leaving : List ℕ
  pub coming : List ℕ
  pub units : ℕ
  pub exchanged : IsExchanged g r p q leaving coming
  pub positive : 1 ≤ units
  pub in_carrier : units ≤ m
  pub in_entry : units ≤ w
  pub rest : Adds ((pending ++ (leaving, units) ∷ []) ++ (coming, units) ∷ []) q (w - units) pending'
  pub carrier_rest : Adds carriers p (m - units) carriers'

module _ (g : Graph) (r p q : List ℕ) (m w : ℕ) (carriers pending carriers' pending' : List (List ℕ × ℕ)) (t : Turn g r p m q w carriers pending carriers' pending') where
  one : List (List ℕ × ℕ)
  one = pending ++ (t.leaving, t.units) ∷ []

  two : List (List ℕ × ℕ)
  two = (pending ++ (t.leaving, t.units) ∷ []) ++ (t.coming, t.units) ∷ []

  pub turn-carriers : IsCarrier g r (p, m) → All (IsCarrier g r) carriers → All (IsCarrier g r) carriers'
  turn-carriers carrier all =
      Adds-All carriers carriers' p (m - t.units) t.carrier_rest (IsCarrier g r) all (λ some. record { path = carrier.path; positive = omega arith; contains = carrier.contains })

  pub turn-pending : IsOther g r (q, w) → All (IsOther g r) pending → All (IsOther g r) pending'
  turn-pending entry all =
      let first = All-push (IsOther g r) pending (t.leaving, t.units) all (record { path = t.exchanged.leaving_path; positive = t.positive; lacks = t.exchanged.leaving_lacks }) in
      let second = All-push (IsOther g r) (pending ++ (t.leaving, t.units) ∷ []) (t.coming, t.units) first (record { path = t.exchanged.coming_path; positive = t.positive; lacks = t.exchanged.coming_lacks }) in
      Adds-All ((pending ++ (t.leaving, t.units) ∷ []) ++ (t.coming, t.units) ∷ []) pending' q (w - t.units) t.rest (IsOther g r) second (λ some. record { path = entry.path; positive = omega arith; lacks = entry.lacks })

  pub turn-weights : (e s : ℕ) → weight_on carriers' e + (weight_on pending' e + s) ≡ (weight_on carriers e + (weight_on pending e + s)) + (cond (has_edge p e) m 0 + cond (has_edge q e) w 0)
  turn-weights e s =
      omega (
        arith,
        weight_on-push pending t.leaving t.units e,
        weight_on-push (pending ++ (t.leaving, t.units) ∷ []) t.coming t.units e,
        Adds-weight_on ((pending ++ (t.leaving, t.units) ∷ []) ++ (t.coming, t.units) ∷ []) pending' q (w - t.units) t.rest e,
        Adds-weight_on carriers carriers' p (m - t.units) t.carrier_rest e,
        scaled (has_edge t.leaving e) (has_edge t.coming e) (has_edge p e) (has_edge q e) t.units (t.exchanged.sums e),
        in_two (has_edge p e) m t.units t.in_carrier,
        in_two (has_edge q e) w t.units t.in_entry,
      )

  pub turn-less : 3 * total_weight carriers' + length pending' ≤ (3 * total_weight carriers + length pending) + 3 * m
  turn-less =
      omega (
        arith,
        t.positive,
        t.in_carrier,
        Adds-total_weight carriers carriers' p (m - t.units) t.carrier_rest,
        Adds-length ((pending ++ (t.leaving, t.units) ∷ []) ++ (t.coming, t.units) ∷ []) pending' q (w - t.units) t.rest,
        length-append (pending ++ (t.leaving, t.units) ∷ []) ((t.coming, t.units) ∷ []),
        length-append pending ((t.leaving, t.units) ∷ []),
      )
