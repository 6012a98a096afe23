-- The numbers and the first lines of blocks.
use Rattle.std.specs.Prelude.{◌≡◌, ℕ, suc, ◌+◌, ◌<◌, List, [], ◌∷◌, ◌++◌, length, drop, Bool, true, false, not, ◌&&◌, ◌||◌, if◌then◌else◌, refl}
use Rattle.std.specs.List.{prefix_len}
use Rattle.std.proofs.Common.{sym, ◌∙◌, ap, arith}
use Rattle.std.proofs.lemmas.Bool.{cond-false, cond_both, ne_eqb}
use Rattle.std.proofs.lemmas.List.{length-drop}
use Rattle.std.proofs.lemmas.List.Folds.{prefix_len-append}
use Rattle.std.proofs.lemmas.List.Sums.{prefix_len-le-length}
use Rattle.graph_text.specs.Lines.{lines_of, is_blank_line, is_hash_line, is_content_line}
use Rattle.graph_text.specs.Blocks.{TextBlock, groups, join_first, groups_of, all_but_last, graphs, is_graph, numbered, complete, blocks}
use Rattle.graph_text.specs.Progress.{last_group}
use Rattle.graph_text.proofs.Growing.{past_blank, groups_of-is, lead-is}
use Rattle.graph_text.proofs.Groups.{grouped, begins_at, front-push}

-- how many lines groups have
abbrev pub total : List (List (List ℕ)) → ℕ
total [] = 0
total (group ∷ groups) = length group + total groups

total-join : (line : List ℕ) (gs : List (List (List ℕ))) → total (join_first line gs) ≡ total gs + 1
total-join line [] = omega arith
total-join line (group ∷ gs) = omega arith

total-groups : (filled : Bool) (lines : List (List ℕ)) → total (groups filled lines) ≡ length lines
total-groups filled [] = refl
total-groups filled (line ∷ lines) =
    let begins = is_hash_line line && filled in
    let later = groups (is_content_line line || (filled && not begins)) lines in
    let here : total (join_first line later) ≡ length (line ∷ lines) = omega (arith, total-join line later, total-groups (is_content_line line || (filled && not begins)) lines) in
    cond_both begins ([] ∷ join_first line later) (join_first line later) (λ gs. total gs ≡ length (line ∷ lines)) (λ starts. omega (arith, here)) (λ goes_on. here)

total-parts : (gs : List (List (List ℕ))) → total (all_but_last gs) + length (last_group gs) ≡ total gs
total-parts [] = refl
total-parts (group ∷ []) = omega arith
total-parts (group ∷ next ∷ rest) = omega (arith, total-parts (next ∷ rest))

-- all lines are the blank ones at the beginning, those of all groups but the last, and those of the last
pub lines-parts : (lines : List (List ℕ)) → prefix_len is_blank_line lines + total (all_but_last (grouped lines)) + length (last_group (grouped lines)) ≡ length lines
lines-parts lines =
    let n = prefix_len is_blank_line lines in
    omega (arith, total-parts (grouped lines), total-groups false (drop n lines), length-drop n lines, prefix_len-le-length is_blank_line lines)

-- one group more is numbered behind the others
pub numbered-push : (index line : ℕ) (gs : List (List (List ℕ))) (group : List (List ℕ)) →
    numbered index line (gs ++ group ∷ []) ≡ numbered index line gs ++ record { index = index + length gs; line = line + total gs; lines = group } ∷ []
numbered-push index line [] group =
    let same : index + 0 ≡ index = omega arith in
    let place : line + 0 ≡ line = omega arith in
    rw (same, place) refl
numbered-push index line (g ∷ gs) group =
    let same : index + 1 + length gs ≡ index + suc (length gs) = omega arith in
    let place : line + length g + total gs ≡ line + (length g + total gs) = omega arith in
    ap (λ l. record { index = index; line = line; lines = g } ∷ l) (numbered-push (index + 1) (line + length g) gs group
    ∙ ap (λ n. numbered (index + 1) (line + length g) gs ++ record { index = n; line = line + length g + total gs; lines = group } ∷ []) same
    ∙ ap (λ n. numbered (index + 1) (line + length g) gs ++ record { index = index + suc (length gs); line = n; lines = group } ∷ []) place)

pub length-numbered : (index line : ℕ) (gs : List (List (List ℕ))) → length (numbered index line gs) ≡ length gs
length-numbered index line [] = refl
length-numbered index line (g ∷ gs) = ap suc (length-numbered (index + 1) (line + length g) gs)

-- groups as blocks, in an input with these lines
abbrev pub placed : List (List ℕ) → List (List (List ℕ)) → List TextBlock
placed lines gs = numbered 1 (prefix_len is_blank_line lines + 1) gs

pub complete-is : (bytes : List ℕ) → complete bytes ≡ placed (lines_of bytes) (all_but_last (grouped (lines_of bytes)))
complete-is bytes =
    ap (λ n. numbered 1 (n + 1) (all_but_last (groups_of bytes))) (lead-is bytes)
    ∙ ap (λ gs. placed (lines_of bytes) (all_but_last gs)) (groups_of-is bytes)

-- the blocks are the complete ones and the last group, if that is a graph
abbrev pub graph_in : List (List ℕ) → List (List (List ℕ))
graph_in group = if is_graph group then group ∷ [] else []

graphs-parts : (gs : List (List (List ℕ))) → graphs gs ≡ all_but_last gs ++ graph_in (last_group gs)
graphs-parts [] = refl
graphs-parts (group ∷ []) = refl
graphs-parts (group ∷ next ∷ rest) = ap (λ gs. group ∷ gs) (graphs-parts (next ∷ rest))

pub blocks-is : (bytes : List ℕ) → blocks bytes ≡ placed (lines_of bytes) (all_but_last (grouped (lines_of bytes)) ++ graph_in (last_group (grouped (lines_of bytes))))
blocks-is bytes =
    ap (λ n. numbered 1 (n + 1) (graphs (groups_of bytes))) (lead-is bytes)
    ∙ ap (λ gs. placed (lines_of bytes) (graphs gs)) (groups_of-is bytes)
    ∙ ap (placed (lines_of bytes)) (graphs-parts (grouped (lines_of bytes)))

-- a line more leaves the place of the first line that is not blank
lead-push : (lines more : List (List ℕ)) → prefix_len is_blank_line lines < length lines → prefix_len is_blank_line (lines ++ more) ≡ prefix_len is_blank_line lines
lead-push lines more h =
    prefix_len-append is_blank_line lines more ∙ cond-false _ _ _ (ne_eqb (prefix_len is_blank_line lines) (length lines) (λ e. omega (arith, e, h)))

placed-none : (lines more : List (List ℕ)) → past_blank lines ≡ [] → (gs : List (List (List ℕ))) → gs ≡ [] → placed (lines ++ more) gs ≡ placed lines gs
placed-none lines more h gs e = ap (placed (lines ++ more)) e ∙ ap (placed lines) (sym e)

same_if : {X : Type 0} (b : Bool) (x y z : X) → x ≡ z → y ≡ z → (if b then x else y) ≡ z
same_if true x y z p q = p
same_if false x y z p q = q

placed-more : (lines more : List (List ℕ)) (b : Bool) (rest : List (List ℕ)) → past_blank lines ≡ rest →
    placed (lines ++ more) (if b then grouped lines else all_but_last (grouped lines)) ≡ placed lines (if b then grouped lines else all_but_last (grouped lines))
placed-more lines more b [] h =
    placed-none lines more h _ (same_if b (grouped lines) (all_but_last (grouped lines)) [] (ap (groups false) h) (ap (λ l. all_but_last (groups false l)) h))
placed-more lines more b (line ∷ rest) h =
    let some : length (past_blank lines) ≡ suc (length rest) = ap length h in
    let within : prefix_len is_blank_line lines < length lines = omega (arith, some, length-drop (prefix_len is_blank_line lines) lines) in
    ap (λ n. numbered 1 (n + 1) (if b then grouped lines else all_but_last (grouped lines))) (lead-push lines more within)

-- the complete blocks of an input with one line more
pub placed-push : (lines : List (List ℕ)) (line : List ℕ) →
    placed (lines ++ line ∷ []) (all_but_last (grouped (lines ++ line ∷ []))) ≡ placed lines (if begins_at lines line then grouped lines else all_but_last (grouped lines))
placed-push lines line =
    ap (placed (lines ++ line ∷ [])) (front-push lines line) ∙ placed-more lines (line ∷ []) (begins_at lines line) (past_blank lines) refl

-- groups are those before the last one, and the last one
pub groups-parts : (gs : List (List (List ℕ))) → 0 < length (last_group gs) → gs ≡ all_but_last gs ++ last_group gs ∷ []
groups-parts [] h = absurd (omega (arith, h))
groups-parts (group ∷ []) h = refl
groups-parts (group ∷ next ∷ rest) h = ap (λ gs. group ∷ gs) (groups-parts (next ∷ rest) h)
