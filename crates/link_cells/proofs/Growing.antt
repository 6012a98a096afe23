-- How the lists of cells grow: one list for each cell, and no list changes by later cells.
use Rattle.std.proofs.Common.{◌≡◌, ℕ, zero, suc, ◌+◌, ◌<◌, ◌≤◌, List, [], ◌∷◌, ◌++◌, length, take, Option, None, Some, get_or, refl, sym, ap, ◌∙◌, arith, inl, inr}
use Rattle.std.proofs.lemmas.Bool.{cases_lt, cases_eq}
use Rattle.std.proofs.Math.Seq.{take-append_seam, take-length}
use Rattle.std.proofs.lemmas.List.{take_all, take-take, take_more, get_or-take, get_or_append_left, get_or_push, get_or_past, same_from_push, length_push}
use Rattle.link_cells.specs.Cells.{list_at, IsLive, lists_from, cell_at}
use Rattle.link_cells.specs.declared.cells.Cell.{Cell}

-- the list that a cell adds
abbrev pub list_of : List (List ℕ) → Cell → List ℕ
list_of lists c = list_at lists c.below ++ c.edge ∷ []

-- the last of the cells adds one list
pub lists_from-push : (lists : List (List ℕ)) (cells : List Cell) (c : Cell) → lists_from lists (cells ++ c ∷ []) ≡ lists_from lists cells ++ list_of (lists_from lists cells) c ∷ []
lists_from-push lists [] c = refl
lists_from-push lists (d ∷ cells) c = lists_from-push (lists ++ list_of lists d ∷ []) cells c

-- one list for each cell
pub length-lists_from : (lists : List (List ℕ)) (cells : List Cell) → length (lists_from lists cells) ≡ length lists + length cells
length-lists_from lists [] = omega arith
length-lists_from lists (c ∷ cells) =
    omega (arith, length-lists_from (lists ++ list_of lists c ∷ []) cells, length_push lists (list_of lists c))

-- the lists so far stay the first
lists_from-begin : (lists : List (List ℕ)) (cells : List Cell) → take (length lists) (lists_from lists cells) ≡ lists
lists_from-begin lists [] = take-length lists
lists_from-begin lists (c ∷ cells) =
    let more = lists ++ list_of lists c ∷ [] in
    let all = lists_from more cells in
    sym (take-take (length lists) (length more) all (omega (arith, length_push lists (list_of lists c))))
    ∙ ap (take (length lists)) (lists_from-begin more cells)
    ∙ take-append_seam lists (list_of lists c ∷ [])

-- no list has more edges than there are lists
abbrev pub AreShort : List (List ℕ) → Type 0
AreShort lists = (tail : Option ℕ) → length (list_at lists tail) ≤ length lists

-- the list of one cell more is no longer than that either
short-push : (lists : List (List ℕ)) (c : Cell) → AreShort lists → AreShort (lists ++ list_of lists c ∷ [])
short-push lists c short None = omega arith
short-push lists c short (Some k) =
    let last = list_of lists c in
    let count = length_push lists last in
    elim (cases_lt k (length lists)) [
      | inl old ↦ omega (arith, count, ap length (get_or_append_left lists (last ∷ []) [] k old), short (Some k))
      | inr from ↦ elim (cases_eq k (length lists)) [
        | inl new ↦ omega (arith, count, ap length (get_or_push lists last [] k (sym new)), length_push (list_at lists c.below) c.edge, short c.below)
        | inr past ↦ omega (arith, count, ap length (get_or_past (lists ++ last ∷ []) k [] (omega (arith, count))))
      ]
    ]

-- nor are those of further cells
short-from : (lists : List (List ℕ)) (cells : List Cell) → AreShort lists → AreShort (lists_from lists cells)
short-from lists [] short = short
short-from lists (c ∷ cells) short = short-from (lists ++ list_of lists c ∷ []) cells (short-push lists c short)

-- where there is none, nothing is to show
short-none : AreShort []
short-none None = omega arith
short-none (Some k) = omega arith

-- nor is any list of cells
pub short-lists : (cells : List Cell) → AreShort (lists_from [] cells)
short-lists cells = short-from [] cells short-none

-- after the lists so far, the first cells have the first lists
lists_from-take : (lists : List (List ℕ)) (cells : List Cell) (n : ℕ) → lists_from lists (take n cells) ≡ take (length lists + n) (lists_from lists cells)
lists_from-take lists [] zero = sym (take_all (length lists + 0) lists (omega arith))
lists_from-take lists [] (suc n) = sym (take_all (length lists + suc n) lists (omega arith))
lists_from-take lists (c ∷ cells) zero =
    sym (lists_from-begin lists (c ∷ cells)) ∙ ap (λ k. take k (lists_from lists (c ∷ cells))) (omega arith)
lists_from-take lists (c ∷ cells) (suc n) =
    let more = lists ++ list_of lists c ∷ [] in
    let here : length more + n ≡ length lists + suc n = omega (arith, length_push lists (list_of lists c)) in
    lists_from-take more cells n ∙ ap (λ k. take k (lists_from more cells)) here

-- the first cells have the first lists
pub first_lists : (cells : List Cell) (n : ℕ) → lists_from [] (take n cells) ≡ take n (lists_from [] cells)
first_lists cells n = lists_from-take [] cells n ∙ ap (λ k. take k (lists_from [] cells)) (omega arith)

-- a tail that is live among the first lists has the same list in all
pub list_at-take : (lists : List (List ℕ)) (n : ℕ) (tail : Option ℕ) → IsLive n tail → list_at (take n lists) tail ≡ list_at lists tail
list_at-take lists n None live = refl
list_at-take lists n (Some k) live = get_or-take n lists k [] live

-- a tail that is live among some cells is live among more
pub live-more : (m n : ℕ) (tail : Option ℕ) → m ≤ n → IsLive m tail → IsLive n tail
live-more m n None le live = live
live-more m n (Some k) le live = omega arith

-- each list is that of the tail below its cell, and then the cell's edge
pub list-of-cell : (cells : List Cell) (k : ℕ) → k < length cells → IsLive k (cell_at cells k).below
    → get_or (lists_from [] cells) k [] ≡ list_of (lists_from [] cells) (cell_at cells k)
list-of-cell cells k h live =
    let c = cell_at cells k in
    let all = lists_from [] cells in
    let in_all : k < length all = omega (arith, length-lists_from [] cells) in
    let one_more = sym (take_more all k [] in_all) ∙ sym (first_lists cells (k + 1)) ∙ ap (lists_from []) (take_more cells k (record { edge = 0; below = None }) h)
    ∙ lists_from-push [] (take k cells) c ∙ ap (λ ls. ls ++ list_of ls c ∷ []) (first_lists cells k) in
    (same_from_push (take k all) (take k all) (get_or all k []) (list_of (take k all) c) one_more).1
    ∙ ap (λ xs. xs ++ c.edge ∷ []) (list_at-take all k c.below live)
