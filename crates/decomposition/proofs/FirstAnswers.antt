-- First answers: what is made of a widest-first list by merging has the fewest entries of all lists with the same total weights.
use Rattle.std.proofs.Common.{◌≡◌, ◌==◌, ℕ, ◌-◌, ◌<◌, ◌≤◌, [], ◌∷◌, ◌++◌, List, true, cond, min, length, refl, sym, ap, ap₂, subst, ◌∙◌, inl, inr, arith}
use Rattle.std.specs.List.{IsDistinct, list_all}
use Rattle.std.specs.Cmp.Lexicographic.{pointwise}
use Rattle.std.proofs.Common.{nat_lt, ltb-true}
use Rattle.std.proofs.lemmas.Bool.{cases_Bool, cond-true, cond-false, and_parts}
use Rattle.std.proofs.lemmas.Cmp.{nat_list_eq_equiv}
use Rattle.std.proofs.lemmas.Slice.Eq.{bytes_eq-Decides}
use Rattle.decomposition.specs.Graph.{Graph, has_edge}
use Rattle.decomposition.specs.Answer.{weight_on, weight_of, same_path}
use Rattle.decomposition.specs.Flow.{rest_after}
use Rattle.decomposition.specs.FirstAnswer.{path_width, IsWidest, IsWidestFirst, with_unit}
use Rattle.decomposition.specs.Laws.{MergedIsLeast, WidestFirstIsFirstAnswer}
use Rattle.decomposition.proofs.Merging.{without, weight_of-without, no_weight}
use Rattle.decomposition.proofs.Rules.{widest_first_is_unique}

without-shorter : (p : List ℕ) (xs : List (List ℕ × ℕ)) → length (without p xs) ≤ length xs
without-shorter p [] = omega arith
without-shorter p (x ∷ xs) =
    elim (cases_Bool (pointwise (λ d e. d == e) x.0 p)) [
      | inl h ↦ rw h (omega (arith, without-shorter p xs))
      | inr h ↦ rw h (omega (arith, without-shorter p xs))
    ]

-- a path of positive weight stands in some entry
without-less : (p : List ℕ) (xs : List (List ℕ × ℕ)) → 0 < weight_of xs p → length (without p xs) < length xs
without-less p [] h = absurd (omega (arith, h))
without-less p (x ∷ xs) h =
    elim (cases_Bool (pointwise (λ d e. d == e) x.0 p)) [
      | inl same ↦ rw same (omega (arith, without-shorter p xs))
      | inr other ↦ let rest = rw other at h in rw other (omega (arith, without-less p xs (omega (arith, rest))))
    ]

-- a list without a path twice has no more entries than any other with its total weights
pub merged_least : (a b : List (List ℕ × ℕ)) → IsDistinct same_path a → list_all (λ entry. nat_lt 0 entry.1) a ≡ true → ((p : List ℕ) → weight_of a p ≡ weight_of b p) → length a ≤ length b
unfolding IsDistinct
merged_least [] b once positive same = omega arith
merged_least (x ∷ a) b once positive same =
    let alone : weight_of a x.0 ≡ 0 = no_weight x.0 a x refl once.0 in
    let self : pointwise (λ d e. d == e) x.0 x.0 ≡ true = nat_list_eq_equiv.refl x.0 in
    let parts = and_parts (nat_lt 0 x.1) (list_all (λ (entry : List ℕ × ℕ). nat_lt 0 entry.1) a) positive in
    let there : 0 < weight_of b x.0 = omega (arith, same x.0, cond-true (pointwise (λ d e. d == e) x.0 x.0) x.1 0 self, ltb-true 0 x.1 parts.0) in
    let rest : length a ≤ length (without x.0 b) = merged_least a (without x.0 b) once.1 parts.1
    (λ p. elim (cases_Bool (pointwise (λ d e. d == e) x.0 p)) [
      | inl h ↦
          let here : weight_of a p ≡ 0 = subst (λ q. weight_of a q ≡ 0) ((bytes_eq-Decides x.0 p).0 h) alone in
          omega (arith, here, weight_of-without x.0 p b, cond-true (pointwise (λ d e. d == e) x.0 p) 0 (weight_of b p) h)
      | inr h ↦
          omega (arith, same p, weight_of-without x.0 p b, cond-false (pointwise (λ d e. d == e) x.0 p) 0 (weight_of b p) h, cond-false (pointwise (λ d e. d == e) x.0 p) x.1 0 h)
    ]) in
    omega (arith, rest, without-less x.0 b there)

pub merged_is_least : MergedIsLeast
merged_is_least old new other merged same = merged_least new other merged.once merged.positive (λ p. merged.same p ∙ sym (same p))

path_width-same : (f h : ℕ → ℕ) (p : List ℕ) → ((e : ℕ) → f e ≡ h e) → path_width f p ≡ path_width h p
path_width-same f h [] same = refl
path_width-same f h (e ∷ []) same = same e
path_width-same f h (e ∷ (d ∷ p)) same = ap₂ min (same e) (path_width-same f h (d ∷ p) same)

IsWidest-same : (g : Graph) (f h : ℕ → ℕ) (p : List ℕ) → ((e : ℕ) → f e ≡ h e) → IsWidest g f p → IsWidest g h p
IsWidest-same g f h p same wide = record {
  path = wide.path;
  positive = omega (arith, wide.positive, path_width-same f h p same);
  widest = λ q path. omega (arith, wide.widest q path, path_width-same f h p same, path_width-same f h q same);
  first = λ q path equal. wide.first q path (path_width-same f h q same ∙ (equal ∙ sym (path_width-same f h p same)));
}

-- a widest-first list of a flow is one of each flow with the same numbers
pub IsWidestFirst-same : (g : Graph) (f h : ℕ → ℕ) (a : List (List ℕ × ℕ)) → ((e : ℕ) → f e ≡ h e) → IsWidestFirst g f a → IsWidestFirst g h a
IsWidestFirst-same g f h [] same none = λ p path. omega (arith, none p path, path_width-same f h p same)
IsWidestFirst-same g f h (x ∷ a) same (wide, weighs, rest) = (
  IsWidest-same g f h x.0 same wide,
  weighs ∙ path_width-same f h x.0 same,
  IsWidestFirst-same g (rest_after f x.0 x.1) (rest_after h x.0 x.1) a (λ e. ap (λ w. w - cond (has_edge x.0 e) x.1 0) (same e)) rest,
)

pub widest_first_is_first_answer : WidestFirstIsFirstAnswer
widest_first_is_first_answer g f h wide merged first same is_wide is_merged is_first =
    let none : is_first.booked ≡ [] = is_first.books in
    let units : weight_on (with_unit is_first.booked) ≡ weight_on [] = ap (λ ps. weight_on (with_unit ps)) none in
    let others : IsWidestFirst g h is_first.others
    = IsWidestFirst-same g (λ e. h e - weight_on (with_unit is_first.booked) e) h is_first.others (λ e. let nothing : weight_on (with_unit is_first.booked) e ≡ 0 = ap (λ w. w e) units in omega (arith, nothing)) is_first.widest in
    let equal : wide ≡ is_first.others = widest_first_is_unique g h wide is_first.others (IsWidestFirst-same g f h wide same is_wide) others in
    let whole : with_unit is_first.booked ++ is_first.others ≡ wide = ap (λ ps. with_unit ps ++ is_first.others) none ∙ sym equal in
    merged_least merged first is_merged.once is_merged.positive
    (λ p. is_merged.same p ∙ sym (is_first.merged.same p ∙ ap (λ xs. weight_of xs p) whole))
