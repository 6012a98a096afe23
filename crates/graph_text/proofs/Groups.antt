-- The groups of lines, and how one line more changes them.
use Rattle.std.specs.Prelude.{◌≡◌, ℕ, List, [], ◌∷◌, ◌++◌, Bool, true, false, not, ◌&&◌, ◌||◌, if◌then◌else◌, refl}
use Rattle.std.specs.List.{list_any}
use Rattle.std.proofs.Common.{sym, ◌∙◌, ap, subst, inl, inr, true≢false}
use Rattle.std.proofs.lemmas.Bool.{cond-true, cond-false, cond_both, cases_Bool, and_parts, and_right}
use Rattle.std.proofs.lemmas.List.{append-nil}
use Rattle.std.proofs.lemmas.List.Folds.{list_any-append}
use Rattle.graph_text.specs.Lines.{fields_of, are_no_fields, are_hash_fields, is_blank_line, is_hash_line, is_content_line}
use Rattle.graph_text.specs.Blocks.{groups, join_first, all_but_last}
use Rattle.graph_text.specs.Progress.{last_group, with_line}
use Rattle.graph_text.proofs.Growing.{past_blank, past_true, past_false}
use Rattle.graph_text.proofs.Cutting.{groups-append, glued, filled_after}
use Rattle.graph_text.proofs.OpenLine.{grow}

-- the lines from the first that is not blank on, with one line more
past_blank-push : (lines : List (List ℕ)) (line : List ℕ) → past_blank (lines ++ line ∷ []) ≡ with_line (past_blank lines) line
past_blank-push [] line =
    elim (cases_Bool (is_blank_line line)) [
      | inl blank ↦ past_true line [] blank ∙ sym (cond-true (is_blank_line line) _ _ blank)
      | inr filled ↦ past_false line [] filled ∙ sym (cond-false (is_blank_line line) _ _ filled)
    ]
past_blank-push (x ∷ lines) line =
    elim (cases_Bool (is_blank_line x)) [
      | inl blank ↦ past_true x (lines ++ line ∷ []) blank ∙ past_blank-push lines line ∙ ap (λ l. with_line l line) (sym (past_true x lines blank))
      | inr filled ↦ past_false x (lines ++ line ∷ []) filled ∙ ap (λ l. with_line l line) (sym (past_false x lines filled))
    ]

-- the groups of lines: those of an input with these lines
abbrev pub grouped : List (List ℕ) → List (List (List ℕ))
grouped lines = groups false (past_blank lines)

-- there is a group
abbrev HasGroup : List (List (List ℕ)) → Type 0
HasGroup [] = ⊥
HasGroup (group ∷ rest) = Unit {0}

-- groups whose last one ends with the line before one more
front-begun : (gs : List (List (List ℕ))) (line : List ℕ) → HasGroup gs → all_but_last (glued gs ([] ∷ (line ∷ []) ∷ [])) ≡ gs
front-begun [] line h = absurd h
front-begun (group ∷ []) line h = ap (λ g. g ∷ []) (append-nil group)
front-begun (group ∷ next ∷ []) line h = ap (λ g. group ∷ g ∷ []) (append-nil next)
front-begun (group ∷ next ∷ other ∷ rest) line h = ap (λ gs. group ∷ gs) (front-begun (next ∷ other ∷ rest) line tt)

last-begun : (gs : List (List (List ℕ))) (line : List ℕ) → HasGroup gs → last_group (glued gs ([] ∷ (line ∷ []) ∷ [])) ≡ line ∷ []
last-begun [] line h = absurd h
last-begun (group ∷ []) line h = refl
last-begun (group ∷ next ∷ []) line h = refl
last-begun (group ∷ next ∷ other ∷ rest) line h = last-begun (next ∷ other ∷ rest) line tt

front-longer : (gs : List (List (List ℕ))) (line : List ℕ) → all_but_last (glued gs ((line ∷ []) ∷ [])) ≡ all_but_last gs
front-longer [] line = refl
front-longer (group ∷ []) line = refl
front-longer (group ∷ next ∷ []) line = refl
front-longer (group ∷ next ∷ other ∷ rest) line = ap (λ gs. group ∷ gs) (front-longer (next ∷ other ∷ rest) line)

last-longer : (gs : List (List (List ℕ))) (line : List ℕ) → last_group (glued gs ((line ∷ []) ∷ [])) ≡ last_group gs ++ line ∷ []
last-longer [] line = refl
last-longer (group ∷ []) line = refl
last-longer (group ∷ next ∷ []) line = refl
last-longer (group ∷ next ∷ other ∷ rest) line = last-longer (next ∷ other ∷ rest) line

-- one line more begins a group, or the last group goes on with it
abbrev pushed : Bool → List (List (List ℕ)) → List ℕ → List (List (List ℕ))
pushed filled gs line = glued gs (if is_hash_line line && filled then [] ∷ (line ∷ []) ∷ [] else (line ∷ []) ∷ [])

groups-push : (filled : Bool) (lines : List (List ℕ)) (line : List ℕ) → groups filled (lines ++ line ∷ []) ≡ pushed (filled_after filled lines) (groups filled lines) line
groups-push filled lines line = groups-append filled lines (line ∷ [])

HasGroup-join : (line : List ℕ) (gs : List (List (List ℕ))) → HasGroup (join_first line gs)
HasGroup-join line [] = tt
HasGroup-join line (group ∷ gs) = tt

HasGroup-groups : (filled : Bool) (line : List ℕ) (lines : List (List ℕ)) → HasGroup (groups filled (line ∷ lines))
HasGroup-groups filled line lines =
    cond_both (is_hash_line line && filled) _ _ HasGroup (λ begins. tt)
    (λ goes_on. HasGroup-join line (groups (is_content_line line || (filled && not (is_hash_line line && filled))) lines))

filled_after-push : (filled : Bool) (lines : List (List ℕ)) (line : List ℕ) →
    filled_after filled (lines ++ line ∷ []) ≡ (is_content_line line || (filled_after filled lines && not (is_hash_line line && filled_after filled lines)))
filled_after-push filled [] line = refl
filled_after-push filled (x ∷ lines) line = filled_after-push (is_content_line x || (filled && not (is_hash_line x && filled))) lines line

filled-begun : (content hash filled : Bool) → (hash && filled) ≡ true → (content || false) ≡ (content || (filled && not (hash && filled)))
filled-begun content true true h = refl
filled-begun content true false h = absurd (true≢false (sym h))
filled-begun content false filled h = absurd (true≢false (sym h))

filled-longer : (content hash filled : Bool) → (hash && filled) ≡ false → (filled || (content || false)) ≡ (content || (filled && not (hash && filled)))
filled-longer true hash true h = refl
filled-longer true hash false h = refl
filled-longer false hash false h = refl
filled-longer false false true h = refl
filled-longer false true true h = absurd (true≢false h)

-- the last group, and those before it, where one line more begins a group or not
last-if : (begins : Bool) (gs : List (List (List ℕ))) (line : List ℕ) → (begins ≡ true → HasGroup gs) →
    last_group (glued gs (if begins then [] ∷ (line ∷ []) ∷ [] else (line ∷ []) ∷ [])) ≡ (if begins then line ∷ [] else last_group gs ++ line ∷ [])
last-if true gs line h = last-begun gs line (h refl)
last-if false gs line h = last-longer gs line

front-if : (begins : Bool) (gs : List (List (List ℕ))) (line : List ℕ) → (begins ≡ true → HasGroup gs) →
    all_but_last (glued gs (if begins then [] ∷ (line ∷ []) ∷ [] else (line ∷ []) ∷ [])) ≡ (if begins then gs else all_but_last gs)
front-if true gs line h = front-begun gs line (h refl)
front-if false gs line h = front-longer gs line

HasGroup-filled : (gs : List (List (List ℕ))) → list_any is_content_line (last_group gs) ≡ true → HasGroup gs
HasGroup-filled [] h = absurd (true≢false (sym h))
HasGroup-filled (group ∷ gs) h = tt

any-if : (content hash filled : Bool) (line : List ℕ) (last : List (List ℕ)) → is_content_line line ≡ content → list_any is_content_line last ≡ filled →
    list_any is_content_line (if hash && filled then line ∷ [] else last ++ line ∷ []) ≡ (content || (filled && not (hash && filled)))
any-if content hash filled line last e f =
    cond_both (hash && filled) (line ∷ []) (last ++ line ∷ []) (λ lines. list_any is_content_line lines ≡ (content || (filled && not (hash && filled))))
    (λ begins. ap (λ c. c || false) e ∙ filled-begun content hash filled begins)
    (λ goes_on. list_any-append is_content_line last (line ∷ []) ∙ ap (λ c. c || (is_content_line line || false)) f ∙ ap (λ c. filled || (c || false)) e ∙ filled-longer content hash filled goes_on)

filled-more : (lines : List (List ℕ)) (line : List ℕ) → filled_after false lines ≡ list_any is_content_line (last_group (groups false lines)) →
    filled_after false (lines ++ line ∷ []) ≡ list_any is_content_line (last_group (groups false (lines ++ line ∷ [])))
filled-more lines line h =
    let filled = filled_after false lines in
    let last : last_group (groups false (lines ++ line ∷ [])) ≡ (if is_hash_line line && filled then line ∷ [] else last_group (groups false lines) ++ line ∷ []) =
    ap last_group (groups-push false lines line)
    ∙ last-if (is_hash_line line && filled) (groups false lines) line (λ begins. HasGroup-filled (groups false lines) (sym h ∙ (and_parts (is_hash_line line) filled begins).1)) in
    filled_after-push false lines line
    ∙ sym (any-if (is_content_line line) (is_hash_line line) filled line (last_group (groups false lines)) refl (sym h))
    ∙ ap (list_any is_content_line) (sym last)

-- whether a content line stands in the last group
filled-is : (lines : List (List ℕ)) → filled_after false lines ≡ list_any is_content_line (last_group (groups false lines))
filled-is lines = grow (λ l. filled_after false l ≡ list_any is_content_line (last_group (groups false l))) refl filled-more lines

-- there is a line
abbrev HasLine : List (List ℕ) → Type 0
HasLine [] = ⊥
HasLine (line ∷ lines) = Unit {0}

HasLine-join : (line : List ℕ) (gs : List (List (List ℕ))) → (HasGroup gs → HasLine (last_group gs)) → HasLine (last_group (join_first line gs))
HasLine-join line [] h = tt
HasLine-join line (group ∷ []) h = tt
HasLine-join line (group ∷ next ∷ rest) h = h tt

last-empty : (gs : List (List (List ℕ))) → HasGroup gs → last_group ([] ∷ gs) ≡ last_group gs
last-empty [] h = absurd h
last-empty (group ∷ gs) h = refl

HasLine-groups : (filled : Bool) (lines : List (List ℕ)) → HasGroup (groups filled lines) → HasLine (last_group (groups filled lines))
HasLine-groups filled [] h = absurd h
HasLine-groups filled (line ∷ lines) h =
    let begins = is_hash_line line && filled in
    let later = groups (is_content_line line || (filled && not begins)) lines in
    let here : HasLine (last_group (join_first line later)) = HasLine-join line later (HasLine-groups (is_content_line line || (filled && not begins)) lines) in
    cond_both begins ([] ∷ join_first line later) (join_first line later) (λ gs. HasLine (last_group gs))
    (λ starts. subst HasLine (sym (last-empty (join_first line later) (HasGroup-join line later))) here) (λ goes_on. here)

-- a `#` line is not blank
not_both : (fields : List (List ℕ)) → are_hash_fields fields ≡ true → are_no_fields fields ≡ false
not_both [] h = absurd (true≢false (sym h))
not_both (field ∷ fields) h = refl

with_line-has : (lines : List (List ℕ)) (line : List ℕ) → HasLine lines → with_line lines line ≡ lines ++ line ∷ []
with_line-has [] line h = absurd h
with_line-has (first ∷ lines) line h = refl

with_line-if : (begins : Bool) (lines : List (List ℕ)) (line : List ℕ) → (begins ≡ true → is_blank_line line ≡ false) → HasLine lines →
    (if begins then line ∷ [] else lines ++ line ∷ []) ≡ with_line (if begins then [] else lines) line
with_line-if true lines line h some = sym (cond-false (is_blank_line line) _ _ (h refl))
with_line-if false lines line h some = sym (with_line-has lines line some)

one_group : (line : List ℕ) → groups false (line ∷ []) ≡ (line ∷ []) ∷ []
one_group line = cond-false (is_hash_line line && false) _ _ (and_right (is_hash_line line) false refl)

last-first : (line : List ℕ) → last_group (groups false (with_line [] line)) ≡ with_line [] line
last-first line = cond_both (is_blank_line line) [] (line ∷ []) (λ lines. last_group (groups false lines) ≡ lines) (λ blank. refl) (λ filled. ap last_group (one_group line))

front-first : (line : List ℕ) → all_but_last (groups false (with_line [] line)) ≡ []
front-first line = cond_both (is_blank_line line) [] (line ∷ []) (λ lines. all_but_last (groups false lines) ≡ []) (λ blank. refl) (λ filled. ap all_but_last (one_group line))

same_if : {X : Type 0} (b : Bool) (x : X) → (if b then x else x) ≡ x
same_if true x = refl
same_if false x = refl

-- whether a line begins a group behind these lines
abbrev begins_behind : List (List ℕ) → List ℕ → Bool
begins_behind lines line = is_hash_line line && list_any is_content_line (last_group (groups false lines))

last-line : (lines : List (List ℕ)) (line : List ℕ) →
    last_group (groups false (with_line lines line)) ≡ with_line (if begins_behind lines line then [] else last_group (groups false lines)) line
last-line [] line = last-first line ∙ ap (λ l. with_line l line) (sym (same_if (begins_behind [] line) []))
last-line (x ∷ xs) line =
    let lines = x ∷ xs in
    let some = HasGroup-groups false x xs in
    let begins = is_hash_line line && filled_after false lines in
    let last : last_group (groups false (lines ++ line ∷ [])) ≡ with_line (if begins then [] else last_group (groups false lines)) line =
    ap last_group (groups-push false lines line) ∙ last-if begins (groups false lines) line (λ h. some)
    ∙ with_line-if begins (last_group (groups false lines)) line (λ h. not_both (fields_of line) (and_parts (is_hash_line line) (filled_after false lines) h).0) (HasLine-groups false lines some) in
    last ∙ ap (λ f. with_line (if is_hash_line line && f then [] else last_group (groups false lines)) line) (filled-is lines)

front-line : (lines : List (List ℕ)) (line : List ℕ) →
    all_but_last (groups false (with_line lines line)) ≡ (if begins_behind lines line then groups false lines else all_but_last (groups false lines))
front-line [] line = front-first line ∙ sym (same_if (begins_behind [] line) [])
front-line (x ∷ xs) line =
    let lines = x ∷ xs in
    ap all_but_last (groups-push false lines line) ∙ front-if (is_hash_line line && filled_after false lines) (groups false lines) line (λ h. HasGroup-groups false x xs)
    ∙ ap (λ f. if is_hash_line line && f then groups false lines else all_but_last (groups false lines)) (filled-is lines)

-- the same of all lines of an input
abbrev pub begins_at : List (List ℕ) → List ℕ → Bool
begins_at lines line = is_hash_line line && list_any is_content_line (last_group (grouped lines))

pub last-push : (lines : List (List ℕ)) (line : List ℕ) →
    last_group (grouped (lines ++ line ∷ [])) ≡ with_line (if begins_at lines line then [] else last_group (grouped lines)) line
last-push lines line = ap (λ l. last_group (groups false l)) (past_blank-push lines line) ∙ last-line (past_blank lines) line

pub front-push : (lines : List (List ℕ)) (line : List ℕ) →
    all_but_last (grouped (lines ++ line ∷ [])) ≡ (if begins_at lines line then grouped lines else all_but_last (grouped lines))
front-push lines line = ap (λ l. all_but_last (groups false l)) (past_blank-push lines line) ∙ front-line (past_blank lines) line
