-- An antichain of more edges than paths are allowed shows that no answer fits: each of its edges has weight, so some path must have it.
use Rattle.std.proofs.Common.{◌≡◌, ℕ, suc, ◌+◌, ◌≤◌, refl, ap, arith, inl, inr, true, ◌&&◌, nat_le, nat_lt, List, [], ◌∷◌, map, length, leb-true, ltb-true}
use Rattle.std.specs.List.{list_all}
use Rattle.std.proofs.lemmas.Bool.{cases_Bool, and_parts, and_from}
use Rattle.decomposition.specs.Graph.{Graph, has_edge, is_path, edge_count}
use Rattle.decomposition.specs.Answer.{weight_on, IsAnswer}
use Rattle.decomposition.proofs.Root.{all-cons, all-parts}
use Rattle.decomposition.proofs.Antichains.{count_on, count_all, count_all-le}
use Rattle.slack_terms.specs.declared.slack_path.SlackPath.{SlackPath}
use Rattle.slack_terms.specs.Answers.{Weighted, weight_at, weights_of, slacks_of, IsSlackAnswer, CoversError, Fits}
use Rattle.slack_terms.specs.Laws.{AntichainsRefute}
use Rattle.slack_terms.proofs.Root.{is_entry}

-- the paths of a list, each with weight 1
abbrev pub units_of : List SlackPath → List (List ℕ × ℕ)
units_of a = map (λ entry. (entry.path, 1)) a

length-units : (a : List SlackPath) → length (units_of a) ≡ length a
length-units [] = refl
length-units (x ∷ a) = ap suc (length-units a)

answer-units : (g : Graph) (a : List SlackPath) → IsSlackAnswer g a → IsAnswer g (units_of a)
answer-units g [] answer = refl
answer-units g (x ∷ a) answer =
    let parts : (is_entry g x ≡ true) × (list_all (is_entry g) a ≡ true) = all-parts (is_entry g) x a answer in
    all-cons (λ entry. is_path g entry.0 && nat_le 1 entry.1) (x.path, 1) (units_of a) (and_from _ _ (and_parts _ _ parts.0).0 refl) (answer-units g a parts.1)

-- an edge with weight or slack on it stands in some path
count-positive : (a : List SlackPath) (e : ℕ) → 1 ≤ weight_on (weights_of a) e + weight_on (slacks_of a) e → 1 ≤ count_on (units_of a) e
count-positive [] e h = omega arith
count-positive (x ∷ a) e h =
    elim (cases_Bool (has_edge x.path e)) [
      | inl hit ↦ rw hit (omega arith)
      | inr free ↦
          let rest : 1 ≤ (0 + weight_on (weights_of a) e) + (0 + weight_on (slacks_of a) e) = rw free at h in
          let left : 1 ≤ weight_on (weights_of a) e + weight_on (slacks_of a) e = omega arith in
          rw free (omega (arith, count-positive a e left))
    ]

length-le-count : (w : Weighted) (a : List SlackPath) (es : List ℕ) → Fits w a → list_all (λ e. nat_lt e (edge_count w.graph) && nat_le 1 (weight_at w e)) es ≡ true
    → length es ≤ count_all (units_of a) es
length-le-count w a [] fits listed = omega arith
length-le-count w a (e ∷ es) fits listed =
    let parts : ((nat_lt e (edge_count w.graph) && nat_le 1 (weight_at w e)) ≡ true) × (list_all (λ f. nat_lt f (edge_count w.graph) && nat_le 1 (weight_at w f)) es ≡ true) = and_parts _ _ listed in
    let both : (nat_lt e (edge_count w.graph) ≡ true) × (nat_le 1 (weight_at w e) ≡ true) = and_parts _ _ parts.0 in
    let low : 1 ≤ weight_at w e = leb-true _ _ both.1 in
    let covers : CoversError w a e = fits.covers e (ltb-true _ _ both.0) in
    let one : 1 ≤ count_on (units_of a) e = count-positive a e (omega arith) in
    omega (arith, length-le-count w a es fits parts.1)

pub antichains_refute : AntichainsRefute
antichains_refute w k es chain more a fits =
    omega (arith, length-le-count w a es fits.fits chain.listed, count_all-le w.graph (units_of a) es (answer-units w.graph a fits.fits.answer) chain.apart, length-units a, fits.few)
