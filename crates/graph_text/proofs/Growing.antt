-- What was complete stays complete when a text goes on.
use Rattle.std.specs.Prelude.{◌≡◌, ℕ, suc, ◌+◌, ◌==◌, List, [], ◌∷◌, ◌++◌, length, drop, map, Bool, true, false, not, ◌&&◌, ◌||◌, if◌then◌else◌, ◌⊎◌, refl}
use Rattle.std.specs.List.{list_all, prefix_len}
use Rattle.std.proofs.Common.{sym, ◌∙◌, ap, subst, arith, true≢false, inl, inr}
use Rattle.std.proofs.lemmas.Bool.{cond-true, cond-false}
use Rattle.std.proofs.lemmas.List.Folds.{length-prefix_len}
use Rattle.graph_text.specs.Lines.{spelled_lines, onto_first, without_return, lines_of, is_blank, fields_from, are_no_fields, are_hash_fields, is_blank_line, is_hash_line, is_content_line}
use Rattle.graph_text.specs.Blocks.{lead, groups, join_first, groups_of, all_but_last, graphs, numbered, complete, blocks, TextBlock}

-- the first byte that is no blank is a `#`
abbrev pub has_hash : List ℕ → Bool
has_hash [] = false
has_hash (b ∷ bytes) = let rest = has_hash bytes in if is_blank b then rest else b == 35

hash_cases : (b : ℕ) (rest : Bool × List (List ℕ)) (blank : Bool) (later : Bool) → are_hash_fields rest.1 ≡ later →
    are_hash_fields (let p : Bool × List (List ℕ) = if blank then (false, rest.1) else (true, if rest.0 then onto_first b rest.1 else (b ∷ []) ∷ rest.1) in p.1)
    ≡ (if blank then later else b == 35)
hash_cases b rest true later h = h
hash_cases b (true, []) false later h = refl
hash_cases b (true, field ∷ fields) false later h = refl
hash_cases b (false, fields) false later h = refl

pub hash-is : (line : List ℕ) → is_hash_line line ≡ has_hash line
hash-is [] = refl
hash-is (b ∷ bytes) = hash_cases b (fields_from bytes) (is_blank b) (has_hash bytes) (hash-is bytes)

blank_cases : (b : ℕ) (rest : Bool × List (List ℕ)) (blank : Bool) (later : Bool) → are_no_fields rest.1 ≡ later →
    are_no_fields (let p : Bool × List (List ℕ) = if blank then (false, rest.1) else (true, if rest.0 then onto_first b rest.1 else (b ∷ []) ∷ rest.1) in p.1)
    ≡ (blank && later)
blank_cases b rest true later h = h
blank_cases b (true, []) false later h = refl
blank_cases b (true, field ∷ fields) false later h = refl
blank_cases b (false, fields) false later h = refl

pub blank-is : (line : List ℕ) → is_blank_line line ≡ list_all is_blank line
blank-is [] = refl
blank-is (b ∷ bytes) = blank_cases b (fields_from bytes) (is_blank b) (list_all is_blank bytes) (blank-is bytes)

-- a `#` line stays one, and a line that is not blank stays so, when it goes on
hash_step : (blank later more : Bool) (b : ℕ) → (later ≡ true → more ≡ true) → (if blank then later else b == 35) ≡ true → (if blank then more else b == 35) ≡ true
hash_step true later more b keeps h = keeps h
hash_step false later more b keeps h = h

hash_last : (r : Bool) (b : ℕ) (more : Bool) → has_hash (if r then [] else b ∷ []) ≡ true → (if is_blank b then more else b == 35) ≡ true
hash_last true b more h = absurd (true≢false (sym h))
hash_last false b more h = hash_step (is_blank b) false more b (λ e. absurd (true≢false (sym e))) h

hash_stays : (x z : List ℕ) → has_hash (without_return x) ≡ true → has_hash (without_return (x ++ z)) ≡ true
hash_stays [] z h = absurd (true≢false (sym h))
hash_stays (b ∷ []) [] h = h
hash_stays (b ∷ []) (c ∷ z) h = hash_last (b == 13) b (has_hash (without_return (c ∷ z))) h
hash_stays (b ∷ c ∷ x) z h = hash_step (is_blank b) (has_hash (without_return (c ∷ x))) (has_hash (without_return ((c ∷ x) ++ z))) b (hash_stays (c ∷ x) z) h

filled_step : (blank later more : Bool) → (later ≡ false → more ≡ false) → (blank && later) ≡ false → (blank && more) ≡ false
filled_step true later more keeps h = keeps h
filled_step false later more keeps h = refl

filled_last : (r : Bool) (b : ℕ) (more : Bool) → list_all is_blank (if r then [] else b ∷ []) ≡ false → (is_blank b && more) ≡ false
filled_last true b more h = absurd (true≢false h)
filled_last false b more h = filled_step (is_blank b) true more (λ e. absurd (true≢false e)) h

filled_stays : (x z : List ℕ) → list_all is_blank (without_return x) ≡ false → list_all is_blank (without_return (x ++ z)) ≡ false
filled_stays [] z h = absurd (true≢false h)
filled_stays (b ∷ []) [] h = h
filled_stays (b ∷ []) (c ∷ z) h = filled_last (b == 13) b (list_all is_blank (without_return (c ∷ z))) h
filled_stays (b ∷ c ∷ x) z h = filled_step (is_blank b) (list_all is_blank (without_return (c ∷ x))) (list_all is_blank (without_return ((c ∷ x) ++ z))) (filled_stays (c ∷ x) z) h

-- the second lines are the first ones, the last of them perhaps longer, and perhaps more
abbrev Longer : List (List ℕ) → List (List ℕ) → Type 0
Longer [] ys = Unit {0}
Longer (x ∷ []) [] = ⊥
Longer (x ∷ []) (y ∷ ys) = (z : List ℕ) × (y ≡ x ++ z)
Longer (x ∷ next ∷ xs) [] = ⊥
Longer (x ∷ next ∷ xs) (y ∷ ys) = (x ≡ y) × Longer (next ∷ xs) ys

longer_feed : (xs ys : List (List ℕ)) → Longer xs ys → Longer ([] ∷ xs) ([] ∷ ys)
longer_feed [] ys h = ([], refl)
longer_feed (x ∷ xs) ys h = (refl, h)

longer_onto : (b : ℕ) (xs ys : List (List ℕ)) → Longer xs ys → Longer (onto_first b xs) (onto_first b ys)
longer_onto b [] [] h = ([], refl)
longer_onto b [] (y ∷ ys) h = (y, refl)
longer_onto b (x ∷ []) [] h = absurd h
longer_onto b (x ∷ []) (y ∷ ys) h = (h.0, ap (λ l. b ∷ l) h.1)
longer_onto b (x ∷ next ∷ xs) [] h = absurd h
longer_onto b (x ∷ next ∷ xs) (y ∷ ys) h = (ap (λ l. b ∷ l) h.0, h.1)

longer_if : (r : Bool) (b : ℕ) (xs ys : List (List ℕ)) → Longer xs ys → Longer (if r then [] ∷ xs else onto_first b xs) (if r then [] ∷ ys else onto_first b ys)
longer_if true b xs ys h = longer_feed xs ys h
longer_if false b xs ys h = longer_onto b xs ys h

longer-spelled : (bytes more : List ℕ) → Longer (spelled_lines bytes) (spelled_lines (bytes ++ more))
longer-spelled [] more = tt
longer-spelled (b ∷ bytes) more = longer_if (b == 10) b _ _ (longer-spelled bytes more)

-- the same of lines without carriage returns: the last one stays a `#` line, and stays not blank
abbrev Extends : List (List ℕ) → List (List ℕ) → Type 0
Extends [] ys = Unit {0}
Extends (x ∷ []) [] = ⊥
Extends (x ∷ []) (y ∷ ys) = (is_hash_line x ≡ true → is_hash_line y ≡ true) × (is_blank_line x ≡ false → is_blank_line y ≡ false)
Extends (x ∷ next ∷ xs) [] = ⊥
Extends (x ∷ next ∷ xs) (y ∷ ys) = (x ≡ y) × Extends (next ∷ xs) ys

extends-map : (xs ys : List (List ℕ)) → Longer xs ys → Extends (map without_return xs) (map without_return ys)
extends-map [] ys h = tt
extends-map (x ∷ []) [] h = absurd h
extends-map (x ∷ []) (y ∷ ys) h =
    let z = h.0 in
    let same : without_return (x ++ z) ≡ without_return y = ap without_return (sym h.1) in (
      λ e. ap is_hash_line (sym same) ∙ hash-is (without_return (x ++ z)) ∙ hash_stays x z (sym (hash-is (without_return x)) ∙ e),
      λ e. ap is_blank_line (sym same) ∙ blank-is (without_return (x ++ z)) ∙ filled_stays x z (sym (blank-is (without_return x)) ∙ e),
    )
extends-map (x ∷ next ∷ xs) [] h = absurd h
extends-map (x ∷ next ∷ xs) (y ∷ ys) h = (ap without_return h.0, extends-map (next ∷ xs) ys h.1)

pub extends-lines : (bytes more : List ℕ) → Extends (lines_of bytes) (lines_of (bytes ++ more))
extends-lines bytes more = extends-map _ _ (longer-spelled bytes more)

abbrev is_nil : {X : Type 0} → List X → Bool
is_nil [] = true
is_nil (x ∷ xs) = false

nil_cons : {X : Type 0} (x : X) (xs : List X) → [] ≡ x ∷ xs → ⊥
nil_cons x xs h = absurd (true≢false (ap is_nil h))

-- the first list is a beginning of the second
abbrev Begins : {X : Type 0} → List X → List X → Type 0
Begins {X} xs ys = (rest : List X) × (ys ≡ xs ++ rest)

begins_nil : {X : Type 0} (ys : List X) → Begins [] ys
begins_nil ys = (ys, refl)

begins_cons : {X : Type 0} (x : X) (xs ys : List X) → Begins xs ys → Begins (x ∷ xs) (x ∷ ys)
begins_cons x xs ys h = (h.0, ap (λ l. x ∷ l) h.1)

-- the list has an entry
abbrev Has : List (List (List ℕ)) → Type 0
Has [] = ⊥
Has (group ∷ groups) = Unit {0}

has_join : (line : List ℕ) (gs : List (List (List ℕ))) → Has (join_first line gs)
has_join line [] = tt
has_join line (group ∷ gs) = tt

front_cons : (group : List (List ℕ)) (gs : List (List (List ℕ))) → Has gs → all_but_last (group ∷ gs) ≡ group ∷ all_but_last gs
front_cons group [] h = absurd h
front_cons group (g ∷ gs) h = refl

begins_front : (group : List (List ℕ)) (xs ys : List (List (List ℕ))) → Has xs → Has ys → Begins (all_but_last xs) (all_but_last ys) →
    Begins (all_but_last (group ∷ xs)) (all_but_last (group ∷ ys))
begins_front group [] ys hx hy h = absurd hx
begins_front group (x ∷ xs) [] hx hy h = absurd hy
begins_front group (x ∷ xs) (y ∷ ys) hx hy h = begins_cons group _ _ h

-- a line before both keeps that
begins_join : (line : List ℕ) (xs ys : List (List (List ℕ))) → Begins (all_but_last xs) (all_but_last ys) →
    Begins (all_but_last (join_first line xs)) (all_but_last (join_first line ys))
begins_join line [] ys h = begins_nil _
begins_join line (x ∷ []) ys h = begins_nil _
begins_join line (x ∷ next ∷ xs) [] h = absurd (nil_cons _ _ h.1)
begins_join line (x ∷ next ∷ xs) (y ∷ []) h = absurd (nil_cons _ _ h.1)
begins_join line (x ∷ next ∷ xs) (y ∷ other ∷ ys) h =
    let heads : y ≡ x = cc in
    let tails : all_but_last (other ∷ ys) ≡ all_but_last (next ∷ xs) ++ h.0 = cc in
    (h.0, ap (λ g. (line ∷ g) ∷ all_but_last (other ∷ ys)) heads ∙ ap (λ l. (line ∷ x) ∷ l) tails)

begins_if : (b : Bool) (xs ys : List (List (List ℕ))) → Has xs → Has ys → Begins (all_but_last xs) (all_but_last ys) →
    Begins (all_but_last (if b then [] ∷ xs else xs)) (all_but_last (if b then [] ∷ ys else ys))
begins_if true xs ys hx hy h = begins_front [] xs ys hx hy h
begins_if false xs ys hx hy h = h

-- the last line begins a group, or it goes on
begins_last : (b c : Bool) (x y : List (List (List ℕ))) (line : List (List ℕ)) → Has y → (b ≡ true → c ≡ true) →
    Begins (all_but_last (if b then [] ∷ line ∷ [] else line ∷ [])) (all_but_last (if c then [] ∷ y else y))
begins_last true true x y line h keeps = subst (Begins ([] ∷ [])) (sym (front_cons [] y h)) (all_but_last y, refl)
begins_last true false x y line h keeps = absurd (true≢false (sym (keeps refl)))
begins_last false c x y line h keeps = begins_nil _

and_keeps : (a b filled : Bool) → (a ≡ true → b ≡ true) → (a && filled) ≡ true → (b && filled) ≡ true
and_keeps true b filled keeps h = ap (λ x. x && filled) (keeps refl) ∙ h
and_keeps false b filled keeps h = absurd (true≢false (sym h))

-- the groups that were complete stay so
groups_grow : (filled : Bool) (xs ys : List (List ℕ)) → Extends xs ys → Begins (all_but_last (groups filled xs)) (all_but_last (groups filled ys))
groups_grow filled [] ys h = begins_nil _
groups_grow filled (x ∷ []) [] h = absurd h
groups_grow filled (x ∷ []) (y ∷ ys) h =
    begins_last (is_hash_line x && filled) (is_hash_line y && filled) [] _ (x ∷ []) (has_join y _) (and_keeps (is_hash_line x) (is_hash_line y) filled h.0)
groups_grow filled (x ∷ next ∷ xs) [] h = absurd h
groups_grow filled (x ∷ next ∷ xs) (y ∷ ys) h =
    let begins = is_hash_line x && filled in
    let later = is_content_line x || (filled && not begins) in
    let here : Begins (all_but_last (groups filled (x ∷ next ∷ xs))) (all_but_last (groups filled (x ∷ ys))) =
    begins_if begins (join_first x (groups later (next ∷ xs))) (join_first x (groups later ys)) (has_join x _) (has_join x _)
    (begins_join x _ _ (groups_grow later (next ∷ xs) ys h.1)) in
    subst (λ l. Begins (all_but_last (groups filled (x ∷ next ∷ xs))) (all_but_last (groups filled (l ∷ ys)))) h.0 here

bool_cases : (b : Bool) → (b ≡ true) ⊎ (b ≡ false)
bool_cases true = inl refl
bool_cases false = inr refl

-- the lines from the first one that is not blank on
abbrev pub past_blank : List (List ℕ) → List (List ℕ)
past_blank lines = drop (prefix_len is_blank_line lines) lines

pub past_true : (x : List ℕ) (xs : List (List ℕ)) → is_blank_line x ≡ true → past_blank (x ∷ xs) ≡ past_blank xs
past_true x xs h =
    let one_more : 1 + prefix_len is_blank_line xs ≡ suc (prefix_len is_blank_line xs) = omega arith in
    ap (λ n. drop n (x ∷ xs)) (cond-true (is_blank_line x) _ _ h ∙ one_more)

pub past_false : (x : List ℕ) (xs : List (List ℕ)) → is_blank_line x ≡ false → past_blank (x ∷ xs) ≡ x ∷ xs
past_false x xs h = ap (λ n. drop n (x ∷ xs)) (cond-false (is_blank_line x) (1 + prefix_len is_blank_line xs) 0 h)

extends_past : (xs ys : List (List ℕ)) → Extends xs ys → Extends (past_blank xs) (past_blank ys)
extends_past [] ys h = tt
extends_past (x ∷ []) [] h = absurd h
extends_past (x ∷ []) (y ∷ ys) h =
    elim (bool_cases (is_blank_line x)) [
      | inl e ↦ subst (λ l. Extends l (past_blank (y ∷ ys))) (sym (past_true x [] e)) tt
      | inr e ↦ subst (λ l. Extends l (past_blank (y ∷ ys))) (sym (past_false x [] e))
          (subst (Extends (x ∷ [])) (sym (past_false y ys (h.1 e))) h)
    ]
extends_past (x ∷ next ∷ xs) [] h = absurd h
extends_past (x ∷ next ∷ xs) (y ∷ ys) h =
    elim (bool_cases (is_blank_line x)) [
      | inl e ↦ subst (λ l. Extends l (past_blank (y ∷ ys))) (sym (past_true x (next ∷ xs) e))
          (subst (Extends (past_blank (next ∷ xs))) (sym (past_true y ys (ap is_blank_line (sym h.0) ∙ e))) (extends_past (next ∷ xs) ys h.1))
      | inr e ↦ subst (λ l. Extends l (past_blank (y ∷ ys))) (sym (past_false x (next ∷ xs) e))
          (subst (Extends (x ∷ next ∷ xs)) (sym (past_false y ys (ap is_blank_line (sym h.0) ∙ e))) h)
    ]

lead_is : (x : List ℕ) (xs : List (List ℕ)) (b : Bool) → is_blank_line x ≡ b →
    prefix_len is_blank_line (x ∷ xs) ≡ (if b then 1 + prefix_len is_blank_line xs else 0)
lead_is x xs b h = ap (λ c. if c then 1 + prefix_len is_blank_line xs else 0) h

-- all lines are blank, or as many blank lines come first in both
same_lead : (xs ys : List (List ℕ)) → Extends xs ys → (past_blank xs ≡ []) ⊎ (prefix_len is_blank_line xs ≡ prefix_len is_blank_line ys)
same_lead [] ys h = inl refl
same_lead (x ∷ []) [] h = absurd h
same_lead (x ∷ []) (y ∷ ys) h =
    elim (bool_cases (is_blank_line x)) [
      | inl e ↦ inl (past_true x [] e)
      | inr e ↦ inr (lead_is x [] false e ∙ sym (lead_is y ys false (h.1 e)))
    ]
same_lead (x ∷ next ∷ xs) [] h = absurd h
same_lead (x ∷ next ∷ xs) (y ∷ ys) h =
    elim (bool_cases (is_blank_line x)) [
      | inl e ↦ elim (same_lead (next ∷ xs) ys h.1) [
        | inl none ↦ inl (past_true x (next ∷ xs) e ∙ none)
        | inr same ↦ inr (lead_is x (next ∷ xs) true e ∙ ap (λ n. 1 + n) same ∙ sym (lead_is y ys true (ap is_blank_line (sym h.0) ∙ e)))
      ]
      | inr e ↦ inr (lead_is x (next ∷ xs) false e ∙ sym (lead_is y ys false (ap is_blank_line (sym h.0) ∙ e)))
    ]

numbered_append : (index line : ℕ) (xs rest : List (List (List ℕ))) → Begins (numbered index line xs) (numbered index line (xs ++ rest))
numbered_append index line [] rest = begins_nil _
numbered_append index line (x ∷ xs) rest = begins_cons _ _ _ (numbered_append (index + 1) (line + length x) xs rest)

numbered_begins : (index line : ℕ) (xs ys : List (List (List ℕ))) → Begins xs ys → Begins (numbered index line xs) (numbered index line ys)
numbered_begins index line xs ys h =
    subst (λ l. Begins (numbered index line xs) (numbered index line l)) (sym h.1) (numbered_append index line xs h.0)

pub groups_of-is : (bytes : List ℕ) → groups_of bytes ≡ groups false (past_blank (lines_of bytes))
groups_of-is bytes = ap (λ n. groups false (drop n (lines_of bytes))) (length-prefix_len is_blank_line (lines_of bytes))

pub lead-is : (bytes : List ℕ) → length (lead bytes) ≡ prefix_len is_blank_line (lines_of bytes)
lead-is bytes = length-prefix_len is_blank_line (lines_of bytes)

-- What was complete stays complete, in order, however a text goes on.
pub complete-grows : (bytes more : List ℕ) → (rest : List TextBlock) × (complete (bytes ++ more) ≡ complete bytes ++ rest)
complete-grows bytes more =
    let extends = extends-lines bytes more in
    let grow : Begins (all_but_last (groups_of bytes)) (all_but_last (groups_of (bytes ++ more))) =
    subst (λ g. Begins (all_but_last g) (all_but_last (groups_of (bytes ++ more)))) (sym (groups_of-is bytes))
    (subst (λ g. Begins (all_but_last (groups false (past_blank (lines_of bytes)))) (all_but_last g)) (sym (groups_of-is (bytes ++ more)))
    (groups_grow false _ _ (extends_past _ _ extends))) in
    elim (same_lead (lines_of bytes) (lines_of (bytes ++ more)) extends) as (λ _. Begins (complete bytes) (complete (bytes ++ more))) [
      | inl none ↦
          let empty : groups_of bytes ≡ [] = groups_of-is bytes ∙ ap (groups false) none in
          subst (λ l. Begins l (complete (bytes ++ more))) (sym (ap (λ g. numbered 1 (length (lead bytes) + 1) (all_but_last g)) empty)) (begins_nil _)
      | inr same ↦
          let leads : length (lead bytes) ≡ length (lead (bytes ++ more)) = lead-is bytes ∙ same ∙ sym (lead-is (bytes ++ more)) in
          subst (λ n. Begins (complete bytes) (numbered 1 (n + 1) (all_but_last (groups_of (bytes ++ more))))) leads
          (numbered_begins 1 (length (lead bytes) + 1) _ _ grow)
    ]

graphs_begin : (gs : List (List (List ℕ))) → Begins (all_but_last gs) (graphs gs)
graphs_begin [] = begins_nil _
graphs_begin (group ∷ []) = begins_nil _
graphs_begin (group ∷ next ∷ rest) = begins_cons group _ _ (graphs_begin (next ∷ rest))

-- The complete blocks are the first ones of all blocks.
pub blocks-begin : (bytes : List ℕ) → (rest : List TextBlock) × (blocks bytes ≡ complete bytes ++ rest)
blocks-begin bytes = numbered_begins 1 (length (lead bytes) + 1) _ _ (graphs_begin (groups_of bytes))
