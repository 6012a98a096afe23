-- Whether a walk that is known by its tail may contain a run.
use Rattle.std.proofs.Common.{◌≡◌, ◌≢◌, ◌↔◌, ℕ, zero, suc, ◌+◌, ◌-◌, ◌<◌, ◌≤◌, ◌&&◌, ◌==◌, eqb, Bool, true, false, List, [], ◌∷◌, ◌++◌, length, take, drop, drop-cons, get_or, slice_index, add-one, IsTrue, true≢false, eqb-true, eq-eqb, refl, sym, ap, subst, ◌∙◌, arith, inl, inr, append_assoc}
use Rattle.std.specs.List.{IsDistinct}
use Rattle.std.proofs.Math.Seq.{drop-append_seam, take-append_seam}
use Rattle.std.proofs.lemmas.Bool.{cases_Bool, cases_lt, and_parts, and_from, and_left, and_right, both_ways}
use Rattle.std.proofs.lemmas.List.{take-append-drop, drop_all, length_push}
use Rattle.std.proofs.lemmas.Map.Keys.{apart_from_distinct}
use Rattle.decomposition.specs.Graph.{Graph, IsNet, edge_count, tail, head, walk_end, IsRun}
use Rattle.decomposition.proofs.Walks.{walk-cons, walk-right, walk_end-append, walk-distinct, walk-length}
use Rattle.decomposition.specs.Reach.{IsBegun, Reaches}
use Rattle.subpath_rules.specs.Follows.{agree, Overlaps, run_start, run_end}
use Rattle.subpath_rules.proofs.Deciding.{run_start-first}
use Rattle.refute_tree.specs.Misses.{LeadsTo, IsLengthFrom, IsNowhere}

-- a list whose beginning ends with an entry
pub whole_from_take : (walk xs : List ℕ) (e n : ℕ) → xs ++ e ∷ [] ≡ take n walk → walk ≡ xs ++ (e ∷ drop n walk)
whole_from_take walk xs e n is = sym (take-append-drop n walk) ∙ ap (λ l. l ++ drop n walk) (sym is) ∙ append_assoc xs (e ∷ []) (drop n walk)

pub drop-last : (walk xs : List ℕ) (e n : ℕ) → xs ++ e ∷ [] ≡ take n walk → drop (length xs) walk ≡ e ∷ drop n walk
drop-last walk xs e n is = ap (drop (length xs)) (whole_from_take walk xs e n is) ∙ drop-append_seam xs (e ∷ drop n walk)

pub take-front : (walk xs : List ℕ) (e n : ℕ) → xs ++ e ∷ [] ≡ take n walk → xs ≡ take (length xs) walk
take-front walk xs e n is = sym (ap (take (length xs)) (whole_from_take walk xs e n is) ∙ take-append_seam xs (e ∷ drop n walk))

agree-nil : (xs : List ℕ) → agree xs [] ≡ true
agree-nil [] = refl
agree-nil (x ∷ xs) = refl

-- one entry more in front, where the run goes so far, and where it does not
agree-step : (e : ℕ) (rest run : List ℕ) (k : ℕ) → k < length run → agree (e ∷ rest) (drop k run) ≡ ((e == get_or run k 0) && agree rest (drop (k + 1) run))
agree-step e rest run k inside = ap (agree (e ∷ rest)) (drop-cons run k 0 inside) ∙ rw (add-one) refl

agree-past : (xs run : List ℕ) (k : ℕ) → length run ≤ k → agree xs (drop k run) ≡ true
agree-past xs run k past = ap (agree xs) (drop_all k run past) ∙ agree-nil xs

-- what differs from a place on differs
agree-part : (xs run : List ℕ) (k : ℕ) → agree (drop k xs) (drop k run) ≡ false → agree xs run ≡ false
agree-part xs run zero differ = differ
agree-part [] run (suc k) differ = absurd (true≢false differ)
agree-part (x ∷ xs) [] (suc k) differ = absurd (both_ways _ differ (agree-nil (drop k xs)))
agree-part (x ∷ xs) (y ∷ run) (suc k) differ = and_right (x == y) (agree xs run) (agree-part xs run k differ)

agree-part_from : (walk run : List ℕ) (s k m : ℕ) → m ≡ s + k → agree (drop m walk) (drop k run) ≡ false → agree (drop s walk) run ≡ false
agree-part_from walk run zero k m is differ =
    let same : m ≡ k = omega arith in
    agree-part walk run k (subst (λ j. agree (drop j walk) (drop k run) ≡ false) same differ)
agree-part_from walk run (suc s) k zero is differ = absurd (omega arith)
agree-part_from [] run (suc s) k (suc m) is differ = absurd (true≢false differ)
agree-part_from (x ∷ walk) run (suc s) k (suc m) is differ = agree-part_from walk run s k m (omega arith) differ

-- one entry more of the walk, from its end: it is that of the run, or the run does not go so far
pub ends-same : (walk xs run : List ℕ) (e n k m : ℕ) → xs ++ e ∷ [] ≡ take n walk → m ≡ k + 1 → agree (drop n walk) (drop m run) ≡ true
    → (k < length run → e ≡ get_or run k 0) → agree (drop (length xs) walk) (drop k run) ≡ true
ends-same walk xs run e n k m is next same here =
    ap (λ l. agree l (drop k run)) (drop-last walk xs e n is)
    ∙ elim (cases_lt k (length run)) [
      | inl inside ↦
          agree-step e (drop n walk) run k inside
          ∙ and_from (e == get_or run k 0) (agree (drop n walk) (drop (k + 1) run)) (eq-eqb e (get_or run k 0) (here inside))
          (subst (λ j. agree (drop n walk) (drop j run) ≡ true) next same)
      | inr past ↦ agree-past (e ∷ drop n walk) run k past
    ]

pub ends-differ : (walk xs run : List ℕ) (e n k s : ℕ) → xs ++ e ∷ [] ≡ take n walk → length xs ≡ s + k → k < length run → e ≢ get_or run k 0
    → agree (drop s walk) run ≡ false
ends-differ walk xs run e n k s is place inside other =
    agree-part_from walk run s k (length xs) place
    (ap (λ l. agree l (drop k run)) (drop-last walk xs e n is) ∙ agree-step e (drop n walk) run k inside ∙ and_left (e == get_or run k 0) (agree (drop n walk) (drop (k + 1) run)) unlike)
  where
    unlike : (e == get_or run k 0) ≡ false
    unlike = elim (cases_Bool (e == get_or run k 0)) [ inl same ↦ absurd (other (eqb-true e (get_or run k 0) same)) | inr differ ↦ differ ]

-- two lists that agree begin with the same entry
pub agree-first : (walk run : List ℕ) (k : ℕ) → k < length walk → 0 < length run → agree (drop k walk) run ≡ true → slice_index walk k ≡ slice_index run 0
agree-first [] run k inside some same = absurd (omega arith)
agree-first (e ∷ walk) [] k inside some same = absurd (omega arith)
agree-first (e ∷ walk) (f ∷ run) zero inside some same = eqb-true e f (and_parts (e == f) (agree walk run) same).0
agree-first (e ∷ walk) (f ∷ run) (suc k) inside some same = agree-first walk (f ∷ run) k (omega arith) some same

-- an edge stands at one place of a walk in which each edge stands once
one_place : (walk : List ℕ) (i j : ℕ) → IsDistinct eqb walk → i < length walk → j < length walk → slice_index walk i ≡ slice_index walk j → ¬ (i < j)
one_place walk i j once i_in j_in same less = both_ways _ (apart_from_distinct eqb walk i j 0 once less j_in) (eq-eqb _ _ same)

-- so the run begins there, or nowhere within the walk
pub overlaps-decides : (b : Bool) (walk run : List ℕ) (first count : ℕ) → IsDistinct eqb walk → 0 < length run → first ≡ slice_index run 0 → IsLengthFrom walk first count
    → b ≡ agree (drop (length walk - count) walk) run → IsTrue b ↔ Overlaps walk run
overlaps-decides b walk run first count once some is from found =
    let within = from.within in
    let positive = from.positive in
    let place : ℕ = length walk - count in
    let there : place < length walk = omega arith in (
      λ t. (place, there, sym found ∙ t),
      λ over.
          let inside : over.0 < length walk = over.1 in
          let same : slice_index walk over.0 ≡ slice_index walk place = agree-first walk run over.0 over.1 some over.2 ∙ sym is ∙ sym from.first in
          let below = one_place walk over.0 place once over.1 there same in
          let above = one_place walk place over.0 once there over.1 (sym same) in
          let here : over.0 ≡ place = at_once over.0 place below above in
          found ∙ subst (λ k. agree (drop k walk) run ≡ true) here over.2,
    )
  where
    at_once : (i j : ℕ) → ¬ (i < j) → ¬ (j < i) → i ≡ j
    at_once i j no_less no_more = elim (cases_lt i j) [
      | inl less ↦ absurd (no_less less)
      | inr more ↦ elim (cases_lt j i) [ inl less ↦ absurd (no_more less) | inr also ↦ omega arith ]
    ]

pub overlaps-nowhere : (walk run : List ℕ) (first : ℕ) → 0 < length run → first ≡ slice_index run 0 → IsNowhere walk first → ¬ Overlaps walk run
overlaps-nowhere walk run first some is nowhere over = nowhere over.0 over.1 (agree-first walk run over.0 over.1 some over.2 ∙ sym is)

-- the last edge of a walk that is begun is an edge, and the walk ends at its head
pub begun-last : (g : Graph) (before : List ℕ) (e : ℕ) → IsBegun g (before ++ e ∷ []) → (e < edge_count g) × (run_end g (before ++ e ∷ []) ≡ head g e)
begun-last g [] e begun = ((walk-cons g (tail g e) e [] begun.1).inside, refl)
begun-last g (x ∷ xs) e begun = (
  (walk-cons g (walk_end g (tail g x) (x ∷ xs)) e [] (walk-right g (tail g x) (x ∷ xs) (e ∷ []) begun.1)).inside,
  walk_end-append g (tail g x) (x ∷ xs) (e ∷ []),
)

-- a walk that is begun has each edge once, and no more edges than the net
pub begun-once : (g : Graph) (walk : List ℕ) → IsNet g → IsBegun g walk → IsDistinct eqb walk × (length walk ≤ edge_count g)
begun-once g [] net begun = (walk-distinct g net 0 [] refl, omega arith)
begun-once g (e ∷ es) net begun = (walk-distinct g net (tail g e) (e ∷ es) begun.1, walk-length g net (tail g e) (e ∷ es) begun.1)

-- a walk that is not empty leads to a run where the vertex that it ends at reaches the one where the run begins
pub leads-last : (g : Graph) (walk before run : List ℕ) (e u v : ℕ) → IsBegun g walk → IsRun g run → walk ≡ before ++ e ∷ [] → u ≡ head g e → v ≡ tail g (slice_index run 0) → (b : Bool)
    → (IsTrue b ↔ Reaches g u v) → IsTrue b ↔ LeadsTo g walk run
leads-last g walk before run e u v begun is_run is from to b found =
    let end : u ≡ run_end g walk = from ∙ sym (subst (λ w. run_end g w ≡ head g e) (sym is) (begun-last g before e (subst (λ w. IsBegun g w) is begun)).1) in
    let start : v ≡ run_start g run = to ∙ sym (run_start-first g run is_run) in (
      λ t. inr (subst (λ y. Reaches g (run_end g walk) y) start (subst (λ x. Reaches g x v) end (found.0 t))),
      λ leads. elim leads [
        | inl empty ↦ absurd (not_empty before (sym is ∙ empty))
        | inr way ↦ found.1 (subst (λ x. Reaches g x v) (sym end) (subst (λ y. Reaches g (run_end g walk) y) (sym start) way))
      ],
    )
  where
    not_empty : (xs : List ℕ) → xs ++ e ∷ [] ≡ [] → ⊥
    not_empty xs none = let long = ap length none in omega (arith, length_push xs e)
