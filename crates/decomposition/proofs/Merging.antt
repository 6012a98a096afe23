-- Merging: sums over the entries that pass a test, and what is kept where equal paths are made one.
use Rattle.std.proofs.Common.{◌≡◌, ◌==◌, ℕ, ◌+◌, ◌<◌, ◌≤◌, ◌∷◌, [], List, Bool, true, false, not, ◌&&◌, cond, nat_le, length, get_or, refl, sym, ap, subst, ◌∙◌, inl, inr, arith, le-leb}
use Rattle.std.specs.Prelude.{All, sum_by}
use Rattle.std.specs.List.{IsDistinct, AllByRecursion, list_any}
use Rattle.std.specs.Cmp.Lexicographic.{pointwise}
use Rattle.std.proofs.lemmas.Bool.{cases_Bool, cond-true, cond-false, and_from, and_parts, not_from_false, not-true, both_ways}
use Rattle.std.proofs.lemmas.Cmp.{nat_list_eq_equiv}
use Rattle.std.proofs.lemmas.List.Recursion.{is_sum_by}
use Rattle.std.proofs.lemmas.Slice.Eq.{bytes_eq-Decides}
use Rattle.decomposition.specs.Graph.{Graph, has_edge, is_path}
use Rattle.decomposition.specs.Answer.{weight_on, weight_of, same_path, IsMerged, IsAnswer, Covers, HaveSamePaths}
use Rattle.decomposition.specs.Laws.{MergingKeepsSums}
use Rattle.decomposition.proofs.Members.{any-place, any-from_place}
use Rattle.decomposition.proofs.Root.{all-place, Covers-by}
use Rattle.decomposition.proofs.Open.{all-from_places}

-- the weight on an edge and the weight of a path are sums over the entries that pass a test
pub weight_on-where : (answer : List (List ℕ × ℕ)) (e : ℕ) → weight_on answer e ≡ sum_by (λ entry. cond (has_edge entry.0 e) entry.1 0) answer
weight_on-where answer e = is_sum_by (λ a. weight_on a e) (λ entry. cond (has_edge entry.0 e) entry.1 0) refl (λ _ _. refl) answer

pub weight_of-where : (answer : List (List ℕ × ℕ)) (p : List ℕ) → weight_of answer p ≡ sum_by (λ entry. cond (pointwise (λ d e. d == e) entry.0 p) entry.1 0) answer
weight_of-where answer p = is_sum_by (λ a. weight_of a p) (λ entry. cond (pointwise (λ d e. d == e) entry.0 p) entry.1 0) refl (λ _ _. refl) answer

-- what is made of an answer by merging is an answer
pub IsAnswer-same_paths : (g : Graph) (old new : List (List ℕ × ℕ)) → HaveSamePaths old new → All (λ entry. 1 ≤ entry.1) new → IsAnswer g old → IsAnswer g new
IsAnswer-same_paths g old new same positive answer =
    all-from_places (λ entry. is_path g entry.0 && nat_le 1 entry.1) new ([], 0) (λ k there. and_from (is_path g (get_or new k ([], 0)).0) (nat_le 1 (get_or new k ([], 0)).1) (path k there) (le-leb _ _ (positive k ([], 0) there)))
  where
    path : (k : ℕ) → k < length new → is_path g (get_or new k ([], 0)).0 ≡ true
    path k there =
        elim (cases_Bool (is_path g (get_or new k ([], 0)).0)) [
          | inl yes' ↦ yes'
          | inr other ↦
              let some : list_any (λ (entry : List ℕ × ℕ). not (is_path g entry.0)) new ≡ true
              = any-from_place (λ (entry : List ℕ × ℕ). not (is_path g entry.0)) new ([], 0) k there (not_from_false _ other) in
              let at = any-place (λ (entry : List ℕ × ℕ). not (is_path g entry.0)) old ([], 0) (sym (same (λ p. not (is_path g p))) ∙ some) in
              let parts = and_parts _ _ (all-place (λ entry. is_path g entry.0 && nat_le 1 entry.1) old ([], 0) at.0 answer at.1) in
              absurd (both_ways _ (not-true _ at.2) parts.0)
        ]

-- and it covers what that answer covers
pub Covers-same_paths : (rules : List (List ℕ)) (old new : List (List ℕ × ℕ)) → HaveSamePaths old new → Covers rules old → Covers rules new
Covers-same_paths rules old new same covers = Covers-by rules old new (λ test h. same test ∙ h) covers

-- the entries with other paths
abbrev pub without : List ℕ → List (List ℕ × ℕ) → List (List ℕ × ℕ)
without p [] = []
without p (x ∷ xs) = cond (pointwise (λ d e. d == e) x.0 p) (without p xs) (x ∷ without p xs)

pub weight_of-without : (p q : List ℕ) (xs : List (List ℕ × ℕ)) → weight_of (without p xs) q ≡ cond (pointwise (λ d e. d == e) p q) 0 (weight_of xs q)
weight_of-without p q [] = elim (cases_Bool (pointwise (λ d e. d == e) p q)) [ inl h ↦ rw h refl | inr h ↦ rw h refl ]
weight_of-without p q (x ∷ xs) =
    let rest = weight_of-without p q xs in
    elim (cases_Bool (pointwise (λ d e. d == e) x.0 p)) [
      | inl same ↦
          let is : x.0 ≡ p = (bytes_eq-Decides x.0 p).0 same in
          let here : pointwise (λ d e. d == e) x.0 q ≡ pointwise (λ d e. d == e) p q = ap (λ r. pointwise (λ d e. d == e) r q) is in
          elim (cases_Bool (pointwise (λ d e. d == e) p q)) [
            | inl h ↦ let r = rw h at rest in rw (same, h) r
            | inr h ↦ let r = rw h at rest in rw (same, here, h) (omega arith)
          ]
      | inr other ↦
          elim (cases_Bool (pointwise (λ d e. d == e) p q)) [
            | inl h ↦
                let r = rw h at rest in
                let apart : pointwise (λ d e. d == e) x.0 q ≡ false = subst (λ r. pointwise (λ d e. d == e) x.0 r ≡ false) ((bytes_eq-Decides p q).0 h) other in
                rw (other, h, apart) (omega arith)
            | inr h ↦ let r = rw h at rest in rw (other, h) (omega arith)
          ]
    ]

-- a path that stands in no entry has no weight
pub no_weight : (p : List ℕ) (xs : List (List ℕ × ℕ)) (x : List ℕ × ℕ) → x.0 ≡ p → AllByRecursion (λ y. same_path x y ≡ false) xs → weight_of xs p ≡ 0
no_weight p [] x is h = refl
no_weight p (y ∷ ys) x is h =
    let apart : pointwise (λ d e. d == e) y.0 p ≡ false = nat_list_eq_equiv.symm y.0 p ∙ subst (λ r. pointwise (λ d e. d == e) r y.0 ≡ false) is h.0 in
    let none = no_weight p ys x is h.1 in
    rw apart (omega arith)

-- the weight of the entries whose path passes a test
abbrev weighing : (List ℕ → Bool) → List (List ℕ × ℕ) → ℕ
weighing test [] = 0
weighing test (x ∷ xs) = cond (test x.0) x.1 0 + weighing test xs

weighing-where : (test : List ℕ → Bool) (xs : List (List ℕ × ℕ)) → weighing test xs ≡ sum_by (λ (entry : List ℕ × ℕ). cond (test entry.0) entry.1 0) xs
weighing-where test xs = is_sum_by (weighing test) (λ (entry : List ℕ × ℕ). cond (test entry.0) entry.1 0) refl (λ _ _. refl) xs

weighing-without : (test : List ℕ → Bool) (p : List ℕ) (xs : List (List ℕ × ℕ)) → weighing test xs ≡ cond (test p) (weight_of xs p) 0 + weighing test (without p xs)
weighing-without test p [] = elim (cases_Bool (test p)) [ inl h ↦ rw h refl | inr h ↦ rw h refl ]
weighing-without test p (x ∷ xs) =
    let rest = weighing-without test p xs in
    elim (cases_Bool (pointwise (λ d e. d == e) x.0 p)) [
      | inl same ↦
          let is : x.0 ≡ p = (bytes_eq-Decides x.0 p).0 same in
          let has : test x.0 ≡ test p = ap test is in
          rw same (elim (cases_Bool (test p)) [
            | inl h ↦ let r = rw h at rest in rw (has, h) (omega arith)
            | inr h ↦ let r = rw h at rest in rw (has, h) (omega arith)
          ])
      | inr other ↦
          rw other (elim (cases_Bool (test p)) [
            | inl h ↦ let r = rw h at rest in rw h (omega arith)
            | inr h ↦ let r = rw h at rest in rw h (omega arith)
          ])
    ]

-- where no path has weight, no test finds any
nothing : (test : List ℕ → Bool) (xs : List (List ℕ × ℕ)) → ((p : List ℕ) → weight_of xs p ≡ 0) → weighing test xs ≡ 0
nothing test [] none = refl
nothing test (x ∷ xs) none =
    let here : cond (pointwise (λ d e. d == e) x.0 x.0) x.1 0 + weight_of xs x.0 ≡ 0 = none x.0 in
    let weighs : x.1 ≡ 0 = omega (arith, here, cond-true (pointwise (λ d e. d == e) x.0 x.0) x.1 0 (nat_list_eq_equiv.refl x.0)) in
    let rest : weighing test xs ≡ 0 = nothing test xs (λ p. omega (arith, none p)) in
    elim (cases_Bool (test x.0)) [ inl h ↦ rw h (omega arith) | inr h ↦ rw h (omega arith) ]

same_weights : (test : List ℕ → Bool) (new old : List (List ℕ × ℕ)) → IsDistinct same_path new → ((p : List ℕ) → weight_of new p ≡ weight_of old p) → weighing test new ≡ weighing test old
unfolding IsDistinct
same_weights test [] old once same = sym (nothing test old (λ p. sym (same p)))
same_weights test (x ∷ new) old once same =
    let alone : weight_of new x.0 ≡ 0 = no_weight x.0 new x refl once.0 in
    let self : pointwise (λ d e. d == e) x.0 x.0 ≡ true = nat_list_eq_equiv.refl x.0 in
    let whole : x.1 ≡ weight_of old x.0 = omega (arith, same x.0, alone, cond-true (pointwise (λ d e. d == e) x.0 x.0) x.1 0 self) in
    let rest : weighing test new ≡ weighing test (without x.0 old)
    = same_weights test new (without x.0 old) once.1
    (λ p. elim (cases_Bool (pointwise (λ d e. d == e) x.0 p)) [
      | inl h ↦
          let here : weight_of new p ≡ 0 = subst (λ q. weight_of new q ≡ 0) ((bytes_eq-Decides x.0 p).0 h) alone in
          omega (arith, here, weight_of-without x.0 p old, cond-true (pointwise (λ d e. d == e) x.0 p) 0 (weight_of old p) h)
      | inr h ↦
          omega (arith, same p, weight_of-without x.0 p old, cond-false (pointwise (λ d e. d == e) x.0 p) 0 (weight_of old p) h, cond-false (pointwise (λ d e. d == e) x.0 p) x.1 0 h)
    ]) in
    omega (arith, rest, weighing-without test x.0 old, ap (λ w. cond (test x.0) w 0) whole)

-- merging keeps the weight of the paths that pass a test
pub weighing-IsMerged : (test : List ℕ → Bool) (old new : List (List ℕ × ℕ)) → IsMerged old new
    → sum_by (λ (entry : List ℕ × ℕ). cond (test entry.0) entry.1 0) new ≡ sum_by (λ (entry : List ℕ × ℕ). cond (test entry.0) entry.1 0) old
weighing-IsMerged test old new m = sym (weighing-where test new) ∙ (same_weights test new old m.once m.same ∙ weighing-where test old)

pub weight_on-IsMerged : MergingKeepsSums
weight_on-IsMerged old new m e = weight_on-where new e ∙ (weighing-IsMerged (λ p. has_edge p e) old new m ∙ sym (weight_on-where old e))
