-- The lines of routes, by their parts.
use Rattle.std.proofs.Common.{◌≡◌, ℕ, zero, suc, ◌<◌, List, [], ◌∷◌, ◌++◌, true, false, nat_lt, length, slice_index, refl, sym, ◌∙◌, ap, subst, arith, inl, inr, append_assoc, ltb-true}
use Rattle.std.specs.Prelude.{flat_map, map, decimal, codes}
use Rattle.std.specs.List.{join_with_byte}
use Rattle.std.proofs.lemmas.Bool.{cases_Bool}
use Rattle.std.proofs.lemmas.List.Folds.{flat_map-map}
use Rattle.node_routes.specs.Split.{route_in}
use Rattle.node_weights.specs.NodeText.{NodeLists}
use Rattle.text_lines.specs.TextLines.{spaced}
use Rattle.text_lines.proofs.LineFields.{join-fields}
use Rattle.node_weights.specs.SplitText.{name_of}
use Rattle.flownodes_cli.specs.RouteText.{route_line}

route-taken : (n e : ℕ) (path : List ℕ) → nat_lt e n ≡ true → route_in n (e ∷ path) ≡ e ∷ route_in n path
route-taken n e path is = rw is refl

route-left : (n e : ℕ) (path : List ℕ) → nat_lt e n ≡ false → route_in n (e ∷ path) ≡ route_in n path
route-left n e path is = rw is refl

-- each vertex of a route is one of the graph
pub route-inside : (n : ℕ) (path : List ℕ) (k : ℕ) → k < length (route_in n path) → slice_index (route_in n path) k < n
route-inside n [] k inside = absurd (omega (arith, inside))
route-inside n (e ∷ path) zero inside =
    elim (cases_Bool (nat_lt e n)) [
      | inl less ↦ subst (λ r. slice_index r 0 < n) (sym (route-taken n e path less)) (ltb-true e n less)
      | inr other ↦
          let is = route-left n e path other in
          subst (λ r. slice_index r 0 < n) (sym is) (route-inside n path 0 (subst (λ r. 0 < length r) is inside))
    ]
route-inside n (e ∷ path) (suc k) inside =
    elim (cases_Bool (nat_lt e n)) [
      | inl less ↦
          let is = route-taken n e path less in
          subst (λ r. slice_index r (suc k) < n) (sym is) (route-inside n path k (omega (arith, inside, ap length is)))
      | inr other ↦
          let is = route-left n e path other in
          subst (λ r. slice_index r (suc k) < n) (sym is) (route-inside n path (suc k) (subst (λ r. suc k < length r) is inside))
    ]

-- the name of a vertex behind a space
abbrev pub spaced_name : NodeLists → ℕ → List ℕ
spaced_name g v = spaced (name_of g v)

-- the line of a route
pub route_line-of : (g : NodeLists) (text : List ℕ) (weight : ℕ) (path : List ℕ) →
    (((text ++ codes "route") ++ spaced (decimal weight)) ++ flat_map (spaced_name g) (route_in (length g.names) path)) ++ 10 ∷ [] ≡ text ++ route_line g (path, weight)
route_line-of g text weight path =
    let route = route_in (length g.names) path in
    let names = flat_map (spaced_name g) route in
    ap (λ x. x ++ 10 ∷ [])
    (ap (λ x. x ++ names) (append_assoc text (codes "route") (spaced (decimal weight)))
    ∙ append_assoc text (codes "route" ++ spaced (decimal weight)) names
    ∙ ap (λ x. text ++ x)
    (append_assoc (codes "route") (spaced (decimal weight)) names
    ∙ ap (λ x. codes "route" ++ (spaced (decimal weight) ++ x)) (sym (flat_map-map spaced (name_of g) route))
    ∙ sym (join-fields (codes "route") (decimal weight ∷ map (name_of g) route))))
    ∙ append_assoc text (join_with_byte 32 (codes "route" ∷ decimal weight ∷ map (name_of g) route)) (10 ∷ [])
