-- The bounds of the slots of a box, and the rules that it misses.
use Rattle.std.proofs.Common.{◌≡◌, ℕ, zero, suc, ◌+◌, ◌<◌, ◌≤◌, true, false, not, ◌&&◌, nat_le, cond, List, [], ◌∷◌, ◌++◌, length, get_or, vec_len, refl, sym, ap, ap₂, ◌∙◌, arith, inl, inr, le-leb, subst}
use Rattle.std.proofs.lemmas.Bool.{cases_eq, and_from, and_left, and_right}
use Rattle.std.proofs.lemmas.List.{get_or_read, append-nil}
use Rattle.decomposition.specs.Boxes.{Slot, slot_at, upper_at, lower_at, may_contain, misses_over}
use Rattle.decomposition.specs.Held.{box_paths}
use Rattle.refute_tree.specs.Sums.{AreBounds}
use Rattle.refute_tree.specs.declared.sums.Weights.{Weights}

-- a slot that may contain a run, and no slot that may
pub misses-some : (all : List (List ℕ)) (b : List Slot) (r : List ℕ) (k n : ℕ) → k < n → 1 ≤ upper_at b k → may_contain all (slot_at b k).walk r ≡ true → misses_over all b r n ≡ false
misses-some all b r k zero inside one may = absurd (omega arith)
misses-some all b r k (suc n) inside one may =
    elim (cases_eq k n) [
      | inl same ↦
          let here : (nat_le 1 (upper_at b k) && may_contain all (slot_at b k).walk r) ≡ true = and_from (nat_le 1 (upper_at b k)) (may_contain all (slot_at b k).walk r) (le-leb 1 (upper_at b k) one) may in
          let there : (nat_le 1 (upper_at b n) && may_contain all (slot_at b n).walk r) ≡ true = subst (λ m. (nat_le 1 (upper_at b m) && may_contain all (slot_at b m).walk r) ≡ true) same here in
          rw there refl
      | inr other ↦ and_right (not (nat_le 1 (upper_at b n) && may_contain all (slot_at b n).walk r)) (misses_over all b r n) (misses-some all b r k n (omega arith) one may)
    ]

pub misses-none : (all : List (List ℕ)) (b : List Slot) (r : List ℕ) (n : ℕ) → ((k : ℕ) → k < n → 1 ≤ upper_at b k → may_contain all (slot_at b k).walk r ≡ false) → misses_over all b r n ≡ true
misses-none all b r zero none = refl
misses-none all b r (suc n) none =
    and_from (not (nat_le 1 (upper_at b n) && may_contain all (slot_at b n).walk r)) (misses_over all b r n) (ap not last) (misses-none all b r n (λ k inside. none k (omega (arith, inside))))
  where
    last : (nat_le 1 (upper_at b n) && may_contain all (slot_at b n).walk r) ≡ false
    last = elim (cases_eq (upper_at b n) 0) [
      | inl zero' ↦ and_left (nat_le 1 (upper_at b n)) (may_contain all (slot_at b n).walk r) (ap (nat_le 1) zero')
      | inr some ↦ and_right (nat_le 1 (upper_at b n)) (may_contain all (slot_at b n).walk r) (none n (omega arith) (omega (arith, some)))
    ]

-- a bound that is read is that of the slot
pub upper-read : (b : List Slot) (sums : Weights) (k u : ℕ) → length b ≡ vec_len sums.uppers → AreBounds b sums → k < length b → u ≡ get_or sums.uppers.items k u → upper_at b k ≡ u
upper-read b sums k u room bounds inside is =
    let there : k < length sums.uppers.items = omega (arith, sums.uppers.ok.0) in
    sym (get_or_read sums.uppers.items k u there is 0 ∙ bounds.uppers k inside)

pub lower-read : (b : List Slot) (sums : Weights) (k u : ℕ) → length b ≡ vec_len sums.lowers → AreBounds b sums → k < length b → u ≡ get_or sums.lowers.items k u → lower_at b k ≡ u
lower-read b sums k u room bounds inside is =
    let there : k < length sums.lowers.items = omega (arith, sums.lowers.ok.0) in
    sym (get_or_read sums.lowers.items k u there is 0 ∙ bounds.lowers k inside)

-- the paths of a box with those of one slot more
pub box_paths-more : (b : List Slot) (k u : ℕ) (walk : List ℕ) → upper_at b k ≡ u → 1 ≤ u → (slot_at b k).walk ≡ walk → box_paths b (k + 1) ≡ box_paths b k ++ (walk, u) ∷ []
box_paths-more b k u walk upper one is =
    let next : k + 1 ≡ suc k = omega arith in
    ap (box_paths b) next ∙ ap (λ t. box_paths b k ++ cond t (((slot_at b k).walk, upper_at b k) ∷ []) []) (le-leb 1 (upper_at b k) (omega (arith, upper, one)))
    ∙ ap₂ (λ w n. box_paths b k ++ (w, n) ∷ []) is upper

pub box_paths-none : (b : List Slot) (k : ℕ) → upper_at b k ≡ 0 → box_paths b (k + 1) ≡ box_paths b k
box_paths-none b k upper =
    let next : k + 1 ≡ suc k = omega arith in
    ap (box_paths b) next ∙ ap (λ n. box_paths b k ++ cond (nat_le 1 n) (((slot_at b k).walk, upper_at b k) ∷ []) []) upper ∙ append-nil (box_paths b k)
