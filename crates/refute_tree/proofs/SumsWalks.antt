-- What a walk may have: the edges that it has, and those that its last edge leads to, and no edge is both.
use Rattle.std.proofs.Common.{◌≡◌, ℕ, ◌+◌, ◌<◌, ◌++◌, ◌∷◌, [], true, false, cond, List, length, length-append, eqb, eqb-true, refl, sym, ap, ◌∙◌, subst, true≢false, inl, inr, arith}
use Rattle.std.specs.List.{IsDistinct}
use Rattle.std.proofs.lemmas.Bool.{cases_Bool, false_from_ne_true}
use Rattle.decomposition.specs.Graph.{Graph, IsNet, edge_count, tail, head, is_walk_from, walk_end, has_edge, paths}
use Rattle.decomposition.specs.Boxes.{may_have}
use Rattle.decomposition.specs.Reach.{Reaches, reaches, IsBegun}
use Rattle.decomposition.proofs.Members.{any-cons}
use Rattle.decomposition.proofs.Walks.{IsStep, walk-cons, walk-distinct, walk-inside, walk_end-append}
use Rattle.decomposition.proofs.Reaching.{Reaches-trans, reaches_by_walks}
use Rattle.decomposition.proofs.Reach.{may_have-from, may_have-to}
use Rattle.dag_net.proofs.Returns.{no_return}
use Rattle.refute_tree.specs.Sums.{leads_to, is_empty}
use Rattle.refute_tree.proofs.SumsWeights.{AreParts}

-- no edge stands twice in a walk that is begun
pub begun-distinct : (g : Graph) → IsNet g → (es : List ℕ) → IsBegun g es → IsDistinct eqb es
unfolding IsDistinct
begun-distinct g net [] begun = tt
begun-distinct g net (e ∷ es) begun = walk-distinct g net (tail g e) (e ∷ es) begun.1

-- and each is an edge of the graph
pub begun-inside : (g : Graph) (es : List ℕ) → IsBegun g es → (f : ℕ) → has_edge es f ≡ true → f < edge_count g
begun-inside g [] begun f has = absurd (true≢false (sym has))
begun-inside g (e ∷ es) begun f has = walk-inside g (tail g e) (e ∷ es) f begun.1 has

-- each edge of a walk leads to the walk's end
leads_to_end : (g : Graph) (v : ℕ) (es : List ℕ) (f : ℕ) → is_walk_from g v es ≡ true → has_edge es f ≡ true → Reaches g (head g f) (walk_end g v es)
leads_to_end g v [] f walk has = absurd (true≢false (sym has))
leads_to_end g v (e ∷ es) f walk has =
    let s : IsStep g v e es = walk-cons g v e es walk in
    elim (any-cons (λ d. eqb f d) e es has) [
      | inl here ↦ subst (λ d. Reaches g (head g d) (walk_end g (head g e) es)) (sym (eqb-true f e here)) (record { edges = es; walk = s.rest; end = refl })
      | inr there ↦ leads_to_end g (head g e) es f s.rest there
    ]

module _ (g : Graph) (net : IsNet g) (d : ℕ) (ds xs : List ℕ) (e : ℕ) (begun : IsBegun g (d ∷ ds)) (is : d ∷ ds ≡ xs ++ e ∷ []) (f : ℕ) (inside : f < edge_count g) where
  -- the walk ends where its last edge leads
  end-is : walk_end g (tail g d) (d ∷ ds) ≡ head g e
  end-is = ap (walk_end g (tail g d)) is ∙ walk_end-append g (tail g d) xs (e ∷ [])

  -- no edge of the walk is one that its end leads to
  not_both : has_edge (d ∷ ds) f ≡ true → reaches g (head g e) (tail g f) ≡ false
  not_both has =
      false_from_ne_true (reaches g (head g e) (tail g f)) (λ way.
      let back : Reaches g (head g e) (tail g f) = (reaches_by_walks g (head g e) (tail g f) net).0 way in
      let on : Reaches g (head g f) (head g e) = subst (λ v. Reaches g (head g f) v) end-is (leads_to_end g (tail g d) (d ∷ ds) f begun.1 has) in
      no_return g net f inside (Reaches-trans g (head g f) (head g e) (tail g f) on back))

  -- what the last edge leads to may follow
  may_from_way : reaches g (head g e) (tail g f) ≡ true → may_have (paths g) (d ∷ ds) f ≡ true
  may_from_way way =
      may_have-from g net (d ∷ ds) f begun inside (inr (subst (λ v. Reaches g v (tail g f)) (sym end-is) ((reaches_by_walks g (head g e) (tail g f) net).0 way)))

  -- nothing else may
  may_not : has_edge (d ∷ ds) f ≡ false → reaches g (head g e) (tail g f) ≡ false → may_have (paths g) (d ∷ ds) f ≡ false
  may_not none away =
      false_from_ne_true (may_have (paths g) (d ∷ ds) f) (λ may. elim (may_have-to g (d ∷ ds) f may) [
        | inl has ↦ true≢false (sym has ∙ none)
        | inr way ↦ true≢false (sym ((reaches_by_walks g (head g e) (tail g f) net).1 (subst (λ v. Reaches g v (tail g f)) end-is way)) ∙ away)
      ])

  -- so each edge counts once
  may_have-parts : (n : ℕ) → cond (may_have (paths g) (d ∷ ds) f) n 0 ≡ cond (reaches g (head g e) (tail g f)) n 0 + cond (has_edge (d ∷ ds) f) n 0
  may_have-parts n =
      elim (cases_Bool (has_edge (d ∷ ds) f)) [
        | inl has ↦ rw (may_have-from g net (d ∷ ds) f begun inside (inl has), not_both has, has) (omega arith)
        | inr none ↦ elim (cases_Bool (reaches g (head g e) (tail g f))) [
          | inl way ↦ rw (may_from_way way, way, none) (omega arith)
          | inr away ↦ rw (may_not none away, away, none) (omega arith)
        ]
      ]

-- what a walk may have counts each edge once
pub may_have-sum : (g : Graph) → IsNet g → (es xs : List ℕ) (e : ℕ) → IsBegun g es → es ≡ xs ++ e ∷ [] → (f : ℕ) → f < edge_count g
    → (n : ℕ) → cond (may_have (paths g) es f) n 0 ≡ cond (reaches g (head g e) (tail g f)) n 0 + cond (has_edge es f) n 0
may_have-sum g net [] xs e begun is = absurd (omega (arith, ap length is, length-append xs (e ∷ [])))
may_have-sum g net (d ∷ ds) xs e begun is = may_have-parts g net d ds xs e begun is

-- the parts of what a walk may have: what lies ahead of it, and what it has
pub walk-parts : (g : Graph) → IsNet g → (es xs : List ℕ) (e n : ℕ) → IsBegun g es → es ≡ xs ++ e ∷ [] → n ≡ edge_count g → AreParts (may_have (paths g) es) (λ f. reaches g (head g e) (tail g f)) (has_edge es) n
walk-parts g net es xs e n begun is edges f l m = may_have-sum g net es xs e begun is f (omega (arith, l, edges)) m

-- each edge of an empty walk, or of one that is not, counts once
pub may_have-either : (g : Graph) → IsNet g → (es : List ℕ) (f : ℕ) → f < edge_count g → (n : ℕ) → cond (may_have (paths g) es f) n 0 ≡ cond (leads_to g es f) n 0 + cond (is_empty es) n 0
may_have-either g net [] f inside n = let may : may_have (paths g) [] f ≡ true = may_have-from g net [] f tt inside tt in omega (arith, ap (λ b. cond b n 0) may)
may_have-either g net (e ∷ es) f inside n = omega arith

-- a walk with a last edge is not empty
pub not_empty : (g : Graph) (es xs : List ℕ) (e : ℕ) → es ≡ xs ++ e ∷ [] → (is_empty es ≡ false) × ((f : ℕ) → leads_to g es f ≡ may_have (paths g) es f)
not_empty g [] xs e is = absurd (omega (arith, ap length is, length-append xs (e ∷ [])))
not_empty g (d ∷ ds) xs e is = (refl, λ f. refl)
