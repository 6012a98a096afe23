-- Entries in the rising order of their paths: no path stands twice.
use Rattle.std.proofs.Common.{◌≡◌, ◌==◌, ℕ, suc, ◌-◌, ◌<◌, ◌++◌, ◌∷◌, [], List, true, false, not, ◌&&◌, nat_lt, length, length-append, get_or, slice_set, add-one, refl, sym, ap, subst, ◌∙◌, inl, inr, arith, eqb-true, eq-eqb, ltb-true, lt-ltb, get_or-set_same, get_or-set_other}
use Rattle.std.specs.List.{IsDistinct, AllByRecursion}
use Rattle.std.specs.Cmp.Lexicographic.{slice_cmp, pointwise}
use Rattle.std.specs.Cmp.{IsTotalOrder}
use Rattle.std.specs.List.Sorted.{IsSortedBy}
use Rattle.std.specs.Ordering.{nat_cmp, is_lt}
use Rattle.std.specs.declared.cmp.Ordering.{Ordering}
use Rattle.std.proofs.lemmas.Bool.{cases_Bool, cases_eq, cases_lt, or_cases, or_left, or_right, and_from, and_parts, both_ways}
use Rattle.std.proofs.lemmas.Cmp.{on_total, nat_list_cmp_total}
use Rattle.std.proofs.lemmas.List.{length-set, get_or_append_left, get_or_default}
use Rattle.std.proofs.lemmas.Slice.Eq.{bytes_eq-Decides}
use Rattle.std.proofs.Math.Seq.{get_or-append_seam}
use Rattle.decomposition.specs.Graph.{is_list_le, is_list_before}
use Rattle.decomposition.specs.Answer.{entry_at, is_ordered, same_path}
use Rattle.decomposition.proofs.ReportOrder.{is_list_le-cmp, is_ordered-place, is_ordered-from_places}
use Rattle.dag_net.specs.Merge.{AreSorted, AreRising}

-- by rising edge list
abbrev pub path_cmp : List ℕ × ℕ → List ℕ × ℕ → Ordering
path_cmp a b = slice_cmp nat_cmp a.0 b.0

pub path_total : IsTotalOrder path_cmp
path_total = on_total (λ (e : List ℕ × ℕ). e.0) nat_list_cmp_total

pub AreSorted-from_sort : (xs : List (List ℕ × ℕ)) → IsSortedBy (λ x y. is_lt (path_cmp x y)) xs → AreSorted xs
AreSorted-from_sort xs sorted =
    is_ordered-from_places (λ a b. is_list_le a.0 b.0) xs ([], 0)
    (λ k h.
    let later : is_lt (path_cmp (get_or xs (suc k) ([], 0)) (get_or xs k ([], 0))) ≡ false = subst (λ j. is_lt (path_cmp (get_or xs j ([], 0)) (get_or xs k ([], 0))) ≡ false) (add-one k) (sorted k ([], 0) (omega arith) (omega arith)) in
    sym (is_list_le-cmp (get_or xs (suc k) ([], 0)).0 (get_or xs k ([], 0)).0 (path_cmp (get_or xs (suc k) ([], 0)) (get_or xs k ([], 0))) refl) ∙ ap not later)

before-itself : (p : List ℕ) → is_list_before p p ≡ false
before-itself [] = refl
before-itself (e ∷ p) =
    elim (cases_Bool (is_list_before (e ∷ p) (e ∷ p))) [
      | inr none ↦ none
      | inl some ↦
          elim (or_cases (nat_lt e e) ((e == e) && is_list_before p p) some) [
            | inl less ↦ absurd (omega (arith, ltb-true e e less))
            | inr rest ↦ absurd (both_ways (is_list_before p p) (before-itself p) (and_parts (e == e) (is_list_before p p) rest).1)
          ]
    ]

before-trans : (p q r : List ℕ) → is_list_before p q ≡ true → is_list_before q r ≡ true → is_list_before p r ≡ true
before-trans p q [] h k = absurd (both_ways false refl k)
before-trans [] q (g ∷ r) h k = refl
before-trans (e ∷ p) [] (g ∷ r) h k = absurd (both_ways false refl h)
before-trans (e ∷ p) (f ∷ q) (g ∷ r) h k =
    elim (or_cases (nat_lt e f) ((e == f) && is_list_before p q) h) [
      | inl first ↦
          elim (or_cases (nat_lt f g) ((f == g) && is_list_before q r) k) [
            | inl second ↦ or_left (nat_lt e g) ((e == g) && is_list_before p r) (lt-ltb e g (omega (arith, ltb-true e f first, ltb-true f g second)))
            | inr second ↦ or_left (nat_lt e g) ((e == g) && is_list_before p r) (lt-ltb e g (omega (arith, ltb-true e f first, eqb-true f g (and_parts (f == g) (is_list_before q r) second).0)))
          ]
      | inr first ↦
          let one = and_parts (e == f) (is_list_before p q) first in
          elim (or_cases (nat_lt f g) ((f == g) && is_list_before q r) k) [
            | inl second ↦ or_left (nat_lt e g) ((e == g) && is_list_before p r) (lt-ltb e g (omega (arith, eqb-true e f one.0, ltb-true f g second)))
            | inr second ↦
                let two = and_parts (f == g) (is_list_before q r) second in
                or_right (nat_lt e g) ((e == g) && is_list_before p r)
                (and_from (e == g) (is_list_before p r) (eq-eqb e g (eqb-true e f one.0 ∙ eqb-true f g two.0)) (before-trans p q r one.1 two.1))
          ]
    ]

before-apart : (p q : List ℕ) → is_list_before p q ≡ true → pointwise (λ d e. d == e) p q ≡ false
before-apart p q before =
    elim (cases_Bool (pointwise (λ d e. d == e) p q)) [
      | inl same ↦ absurd (both_ways (is_list_before p p) (before-itself p) (subst (λ r. is_list_before p r ≡ true) (sym ((bytes_eq-Decides p q).0 same)) before))
      | inr apart ↦ apart
    ]

-- the first path stands nowhere behind
apart-behind : (x : List ℕ × ℕ) (xs : List (List ℕ × ℕ)) → AreRising (x ∷ xs) → AllByRecursion (λ y. same_path x y ≡ false) xs
apart-behind x [] rising = tt
apart-behind x (y ∷ []) rising = (before-apart x.0 y.0 (and_parts (is_list_before x.0 y.0) true rising).0, tt)
apart-behind x (y ∷ z ∷ zs) rising =
    let parts = and_parts (is_list_before x.0 y.0) (is_ordered (λ (a b : List ℕ × ℕ). is_list_before a.0 b.0) (y ∷ z ∷ zs)) rising in
    let rest = and_parts (is_list_before y.0 z.0) (is_ordered (λ (a b : List ℕ × ℕ). is_list_before a.0 b.0) (z ∷ zs)) parts.1 in
    (before-apart x.0 y.0 parts.0, apart-behind x (z ∷ zs) (and_from (is_list_before x.0 z.0) (is_ordered (λ (a b : List ℕ × ℕ). is_list_before a.0 b.0) (z ∷ zs)) (before-trans x.0 y.0 z.0 parts.0 rest.0) rest.1))

pub once-rising : (xs : List (List ℕ × ℕ)) → AreRising xs → IsDistinct same_path xs
unfolding IsDistinct
once-rising [] rising = tt
once-rising (x ∷ []) rising = (tt, tt)
once-rising (x ∷ y ∷ ys) rising =
    (apart-behind x (y ∷ ys) rising, once-rising (y ∷ ys) (and_parts (is_list_before x.0 y.0) (is_ordered (λ (a b : List ℕ × ℕ). is_list_before a.0 b.0) (y ∷ ys)) rising).1)

-- more weight in an entry changes no path
same_paths : (xs : List (List ℕ × ℕ)) (i w : ℕ) (x : List ℕ × ℕ) (j : ℕ) → i < length xs → x ≡ get_or xs i x → (get_or (slice_set xs i (x.0, w)) j ([], 0)).0 ≡ (get_or xs j ([], 0)).0
same_paths xs i w x j there read =
    elim (cases_eq j i) [
      | inl same ↦
          ap (λ (e : List ℕ × ℕ). e.0) (ap (λ k. get_or (slice_set xs i (x.0, w)) k ([], 0)) same ∙ get_or-set_same xs i (x.0, w) ([], 0) there)
          ∙ ap (λ (e : List ℕ × ℕ). e.0) (read ∙ get_or_default xs i x ([], 0) there ∙ ap (λ k. get_or xs k ([], 0)) (sym same))
      | inr other ↦ ap (λ (e : List ℕ × ℕ). e.0) (get_or-set_other xs i j (x.0, w) ([], 0) other)
    ]

pub AreRising-set : (xs : List (List ℕ × ℕ)) (i w : ℕ) (x : List ℕ × ℕ) → i < length xs → x ≡ get_or xs i x → AreRising xs → AreRising (slice_set xs i (x.0, w))
AreRising-set xs i w x there read rising =
    is_ordered-from_places (λ a b. is_list_before a.0 b.0) (slice_set xs i (x.0, w)) ([], 0)
    (λ k h.
    let old = is_ordered-place (λ (a b : List ℕ × ℕ). is_list_before a.0 b.0) xs ([], 0) k rising (omega (arith, length-set xs i (x.0, w))) in
    subst (λ p. is_list_before p (get_or (slice_set xs i (x.0, w)) (suc k) ([], 0)).0 ≡ true) (sym (same_paths xs i w x k there read))
    (subst (λ p. is_list_before (get_or xs k ([], 0)).0 p ≡ true) (sym (same_paths xs i w x (suc k) there read)) old))

-- an entry whose path stands behind the last one
pub AreRising-push : (xs : List (List ℕ × ℕ)) (x : List ℕ × ℕ) → AreRising xs → (0 < length xs → is_list_before (entry_at xs (length xs - 1)).0 x.0 ≡ true) → AreRising (xs ++ x ∷ [])
AreRising-push xs x rising last =
    is_ordered-from_places (λ a b. is_list_before a.0 b.0) (xs ++ x ∷ []) ([], 0)
    (λ k h. elim (cases_lt (suc k) (length xs)) [
      | inl inside ↦
          let old = is_ordered-place (λ (a b : List ℕ × ℕ). is_list_before a.0 b.0) xs ([], 0) k rising inside in
          subst (λ e. is_list_before e.0 (get_or (xs ++ x ∷ []) (suc k) ([], 0)).0 ≡ true) (sym (get_or_append_left xs (x ∷ []) ([], 0) k (omega arith)))
          (subst (λ e. is_list_before (get_or xs k ([], 0)).0 e.0 ≡ true) (sym (get_or_append_left xs (x ∷ []) ([], 0) (suc k) inside)) old)
      | inr end ↦
          let next : suc k ≡ length xs = omega (arith, h, length-append xs (x ∷ [])) in
          let here : length xs - 1 ≡ k = omega arith in
          let before : is_list_before (get_or xs k ([], 0)).0 x.0 ≡ true = subst (λ j. is_list_before (get_or xs j ([], 0)).0 x.0 ≡ true) here (last (omega arith)) in
          subst (λ e. is_list_before e.0 (get_or (xs ++ x ∷ []) (suc k) ([], 0)).0 ≡ true) (sym (get_or_append_left xs (x ∷ []) ([], 0) k (omega arith)))
          (subst (λ e. is_list_before (get_or xs k ([], 0)).0 e.0 ≡ true) (sym (ap (λ j. get_or (xs ++ x ∷ []) j ([], 0)) next ∙ get_or-append_seam xs x [] ([], 0))) before)
    ])

-- of entries in order, the path of one is not before that of the entry before it
pub AreSorted-next : (xs : List (List ℕ × ℕ)) (y : List ℕ × ℕ) (ys : List (List ℕ × ℕ)) → AreSorted (xs ++ y ∷ ys) → 0 < length xs → is_list_le (entry_at xs (length xs - 1)).0 y.0 ≡ true
AreSorted-next xs y ys sorted some =
    let k = length xs - 1 in
    let next : suc k ≡ length xs = omega arith in
    let at = is_ordered-place (λ (a b : List ℕ × ℕ). is_list_le a.0 b.0) (xs ++ y ∷ ys) ([], 0) k sorted (omega (arith, length-append xs (y ∷ ys))) in
    let second : get_or (xs ++ y ∷ ys) (suc k) ([], 0) ≡ y = ap (λ j. get_or (xs ++ y ∷ ys) j ([], 0)) next ∙ get_or-append_seam xs y ys ([], 0) in
    subst (λ (e : List ℕ × ℕ). is_list_le e.0 y.0 ≡ true) (get_or_append_left xs (y ∷ ys) ([], 0) k (omega arith))
    (subst (λ (e : List ℕ × ℕ). is_list_le (get_or (xs ++ y ∷ ys) k ([], 0)).0 e.0 ≡ true) second at)

-- the last of a list with one entry more
pub last-push : (xs : List (List ℕ × ℕ)) (y : List ℕ × ℕ) → entry_at (xs ++ y ∷ []) (length (xs ++ y ∷ []) - 1) ≡ y
last-push xs y =
    let end : length (xs ++ y ∷ []) - 1 ≡ length xs = omega (arith, length-append xs (y ∷ [])) in
    ap (entry_at (xs ++ y ∷ [])) end ∙ get_or-append_seam xs y [] ([], 0)
