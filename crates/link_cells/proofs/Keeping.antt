-- What is read in the fields of cells, and what they show once a cell is added, or the last are dropped.
use Rattle.std.proofs.Common.{◌≡◌, ℕ, ◌+◌, ◌<◌, ◌≤◌, [], ◌∷◌, ◌++◌, length, take, Option, None, Some, get_or, vec_len, vec_capacity, sym, ap, ◌∙◌, subst, arith, inl, inr}
use Rattle.std.proofs.lemmas.Bool.{cases_lt}
use Rattle.std.proofs.lemmas.List.{get_or_read_under, get_or_append_left, get_or_push, length_push}
use Rattle.link_cells.specs.Cells.{CellLists, list_at, IsLive, lists_from, cell_at, shown, IsKept}
use Rattle.link_cells.specs.declared.cells.Cell.{Cell}
use Rattle.link_cells.specs.declared.cells.Cells.TheInside.{Inside}
use Rattle.link_cells.proofs.Growing.{list_of, AreShort, short-lists, lists_from-push, length-lists_from, first_lists, list-of-cell, live-more}

-- there are as many cells as lists
pub cell-count : (a : Inside) (s : CellLists) → shown a ≡ s → length s.lists ≡ vec_len a.cells
cell-count a s shows =
    omega (arith, ap (λ (x : CellLists). length x.lists) shows, length-lists_from [] a.cells.items, a.cells.ok.0)

-- no list has more edges than there are cells
pub no_longer : (a : Inside) (s : CellLists) (tail : Option ℕ) → shown a ≡ s → length (list_at s.lists tail) ≤ vec_len a.cells
no_longer a s tail shows =
    let short = subst (λ (x : CellLists). AreShort x.lists) shows (short-lists a.cells.items) tail in
    omega (arith, cell-count a s shows)

-- the cell of a live tail is in use
pub in_use : (a : Inside) (s : CellLists) (tail : Option ℕ) (k : ℕ) → shown a ≡ s → tail ≡ Some k → IsLive (length s.lists) tail → k < vec_len a.cells
in_use a s tail k shows is live =
    let here : k < length s.lists = subst (IsLive (length s.lists)) is live in
    omega (arith, cell-count a s shows)

-- the cell that is read at a place
cell-read : (a : Inside) (k : ℕ) (c : Cell) → k < vec_len a.cells → c ≡ get_or a.cells.items k c → c ≡ cell_at a.cells.items k
cell-read a k c h read =
    get_or_read_under a.cells.items k (vec_len a.cells) c (record { edge = 0; below = None }) read h a.cells.ok.0

-- the list of a tail is that of the tail below its cell, and then the cell's edge
pub list-read : (a : Inside) (s : CellLists) (tail : Option ℕ) (k : ℕ) (c : Cell) → IsKept a → shown a ≡ s → tail ≡ Some k → k < vec_len a.cells → c ≡ get_or a.cells.items k c
    → list_at s.lists tail ≡ list_of s.lists c
list-read a s tail k c kept shows is h read =
    let own = list-of-cell a.cells.items k (omega (arith, a.cells.ok.0)) (kept.linked k h) in
    ap (list_at s.lists) is
    ∙ subst (λ (x : CellLists). get_or x.lists k [] ≡ list_of x.lists (cell_at a.cells.items k)) shows own
    ∙ ap (list_of s.lists) (sym (cell-read a k c h read))

-- the tail below a cell is live
pub live-read : (a : Inside) (s : CellLists) (k : ℕ) (c : Cell) → IsKept a → shown a ≡ s → k < vec_len a.cells → c ≡ get_or a.cells.items k c → IsLive (length s.lists) c.below
live-read a s k c kept shows h read =
    subst (λ (x : Cell). IsLive (length s.lists) x.below) (sym (cell-read a k c h read))
    (live-more k (length s.lists) (cell_at a.cells.items k).below (omega (arith, cell-count a s shows)) (kept.linked k h))

-- and it stands before the cell
pub before-read : (a : Inside) (k : ℕ) (c : Cell) → IsKept a → k < vec_len a.cells → c ≡ get_or a.cells.items k c → IsLive k c.below
before-read a k c kept h read = subst (λ (x : Cell). IsLive k x.below) (sym (cell-read a k c h read)) (kept.linked k h)

-- the cells after one more: the old ones
old-cell : (a : Inside) (c : Cell) (k : ℕ) → k < vec_len a.cells → cell_at (a.cells.items ++ c ∷ []) k ≡ cell_at a.cells.items k
old-cell a c k h =
    get_or_append_left a.cells.items (c ∷ []) (record { edge = 0; below = None }) k (omega (arith, a.cells.ok.0))

-- and it
new-cell : (a : Inside) (c : Cell) → cell_at (a.cells.items ++ c ∷ []) (vec_len a.cells) ≡ c
new-cell a c = get_or_push a.cells.items c (record { edge = 0; below = None }) (vec_len a.cells) (sym a.cells.ok.0)

-- with one cell more on a live tail, all are linked
linked-push : (a : Inside) (c : Cell) (k : ℕ) → IsKept a → IsLive (vec_len a.cells) c.below → k < vec_len a.cells + 1 → IsLive k (cell_at (a.cells.items ++ c ∷ []) k).below
linked-push a c k kept live h =
    elim (cases_lt k (vec_len a.cells)) [
      | inl old ↦ subst (λ (x : Cell). IsLive k x.below) (sym (old-cell a c k old)) (kept.linked k old)
      | inr new ↦
          subst (λ n. IsLive n (cell_at (a.cells.items ++ c ∷ []) n).below) (omega arith)
          (subst (λ (x : Cell). IsLive (vec_len a.cells) x.below) (sym (new-cell a c)) live)
    ]

-- one cell more on a live tail, in the same room
pub IsKept-push : (a b : Inside) (c : Cell) → IsKept a → b.room ≡ a.room → b.cells.items ≡ a.cells.items ++ c ∷ [] → vec_len a.cells < a.room → a.room ≤ vec_capacity b.cells → IsLive (vec_len a.cells) c.below → IsKept b
IsKept-push a b c kept room items free taken live =
    let count : vec_len b.cells ≡ vec_len a.cells + 1 = omega (arith, a.cells.ok.0, b.cells.ok.0, ap length items, length_push a.cells.items c) in
    record {
      in_word = omega (arith, kept.in_word);
      fits = omega arith;
      taken = omega arith;
      linked = λ k h. subst (λ cells. IsLive k (cell_at cells k).below) (sym items) (linked-push a c k kept live (omega arith));
    }

-- they show one list more
pub shown-push : (a b : Inside) (s : CellLists) (c : Cell) → shown a ≡ s → b.room ≡ a.room → b.cells.items ≡ a.cells.items ++ c ∷ []
    → shown b ≡ record s { lists = s.lists ++ list_of s.lists c ∷ [] }
shown-push a b s c shows room items =
    subst (λ (x : CellLists). shown b ≡ record x { lists = x.lists ++ list_of x.lists c ∷ [] }) shows
    (let lists = ap (lists_from []) items ∙ lists_from-push [] a.cells.items c in cc)

-- without the last cells they show the first lists
pub shown-take : (a b : Inside) (s : CellLists) (n : ℕ) → shown a ≡ s → b.room ≡ a.room → b.cells.items ≡ take n a.cells.items
    → shown b ≡ record s { lists = take n s.lists }
shown-take a b s n shows room items =
    subst (λ (x : CellLists). shown b ≡ record x { lists = take n x.lists }) shows
    (let lists = ap (lists_from []) items ∙ first_lists a.cells.items n in cc)
