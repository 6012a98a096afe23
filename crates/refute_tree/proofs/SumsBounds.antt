-- The bounds of a slot by those of its neighbours.
use Rattle.std.proofs.Common.{◌≡◌, ℕ, zero, suc, ◌+◌, ◌-◌, ◌<◌, ◌≤◌, min, max, List, [], ◌∷◌, length, get_or, set, slice_index, get_or-set_same, get_or-set_other, refl, sym, ap, ◌∙◌, add-one, inl, inr, arith}
use Rattle.std.proofs.lemmas.Bool.{cases_eq}
use Rattle.std.proofs.lemmas.List.Edits.{fill_by_more}
use Rattle.decomposition.specs.Boxes.{Slot, slot_at, upper_at, lower_at}
use Rattle.decomposition.specs.declared.Range.{Range}
use Rattle.link_cells.specs.Links.{walk_of}
use Rattle.refute_tree.specs.OneBox.{box_of}
use Rattle.refute_tree.proofs.Placing.{get_or_any, slots_from-length, slots_from-at}

-- the upper bound of the next slot
upper_at-suc : (b : List Slot) (k : ℕ) → suc k < length b → upper_at b (suc k) ≡ min (upper_at b k) (slot_at b (suc k)).hi
upper_at-suc [] k h = absurd (omega arith)
upper_at-suc (s ∷ []) k h = absurd (omega arith)
upper_at-suc (s ∷ t ∷ b) zero h = refl
upper_at-suc (s ∷ t ∷ b) (suc k) h = omega (arith, upper_at-suc (t ∷ b) k (omega arith))

-- the lower bound of a slot by that of the next
lower_at-suc : (b : List Slot) (k : ℕ) → k < length b → lower_at b k ≡ max (slot_at b k).lo (lower_at b (suc k))
lower_at-suc [] k h = absurd (omega arith)
lower_at-suc (s ∷ b) zero h = refl
lower_at-suc (s ∷ b) (suc k) h = lower_at-suc b k (omega arith)

-- a slot past the end has the lower bound 0
pub lower_at-past : (b : List Slot) (k : ℕ) → length b ≤ k → lower_at b k ≡ 0
lower_at-past [] k h = refl
lower_at-past (s ∷ b) zero h = absurd (omega arith)
lower_at-past (s ∷ b) (suc k) h = lower_at-past b k (omega arith)

-- the box of ranges has as many slots
pub length-box : (ranges : List Range) (links : List (ℕ × ℕ)) → length (box_of ranges links) ≡ length ranges
length-box ranges links = slots_from-length 0 ranges links

-- a slot of the box of ranges and links
pub slot_at-box : (ranges : List Range) (links : List (ℕ × ℕ)) (k : ℕ) (r : Range) → k < length ranges
    → slot_at (box_of ranges links) k ≡ record { lo = (get_or ranges k r).lo; hi = (get_or ranges k r).hi; walk = walk_of links k }
slot_at-box ranges links k r h =
    let same : 0 + k ≡ k = omega arith in
    slots_from-at 0 k ranges links (get_or ranges k r) h (get_or_any ranges k r (get_or ranges k r) h)
    ∙ ap (λ n. record { lo = (get_or ranges k r).lo; hi = (get_or ranges k r).hi; walk = walk_of links n }) same

-- the upper bound of the next slot, by the least hi so far
pub upper_at-next : (b : List Slot) (k least : ℕ) → least ≡ upper_at b k → k + 1 < length b → min least (slot_at b (k + 1)).hi ≡ upper_at b (k + 1)
upper_at-next b k least is h = rw (add-one k, is) (sym (upper_at-suc b k (omega arith)))

-- the lower bound of the slot before, by the greatest lo so far
pub lower_at-before : (b : List Slot) (k greatest : ℕ) → greatest ≡ lower_at b k → 0 < k → k ≤ length b → max greatest (slot_at b (k - 1)).lo ≡ lower_at b (k - 1)
lower_at-before b zero greatest is some h = absurd (omega arith)
lower_at-before b (suc k) greatest is some h =
    let e : suc k - 1 ≡ k = omega arith in
    rw e (omega (arith, is, lower_at-suc b k (omega arith)))

-- one value more, after those before it
pub set_next : (f : ℕ → ℕ) (xs : List ℕ) (k v : ℕ) → k < length xs → v ≡ f k → ((j : ℕ) → j < k → slice_index xs j ≡ f j) → (j : ℕ) → j < k + 1 → slice_index (set xs k v) j ≡ f j
set_next f xs k v h is done = rw is (fill_by_more f xs k 0 h done)

-- or before those after it
pub set_before : (f : ℕ → ℕ) (xs : List ℕ) (n i k v : ℕ) → k + 1 ≡ i → k < length xs → v ≡ f k → ((j : ℕ) → i ≤ j → j < n → slice_index xs j ≡ f j) → (j : ℕ) → k ≤ j → j < n → slice_index (set xs k v) j ≡ f j
set_before f xs n i k v next h is done j from to =
    elim (cases_eq j k) [
      | inl same ↦ rw same (get_or-set_same xs k v 0 h ∙ is)
      | inr other ↦ get_or-set_other xs k j v 0 other ∙ done j (omega arith) to
    ]
