-- Laws on cutting a text into lines and groups in two parts.
use Rattle.std.specs.Prelude.{◌≡◌, ℕ, List, [], ◌∷◌, ◌++◌, Bool, true, false, not, ◌&&◌, ◌||◌, if◌then◌else◌, refl}
use Rattle.std.proofs.Common.{◌∙◌, ap}
use Rattle.graph_text.specs.Lines.{is_hash_line, is_content_line}
use Rattle.graph_text.specs.Blocks.{groups, join_first}

pub if_same : {A B : Type 0} (b : Bool) (f : A → B) (x y : B) (u v : A) → x ≡ f u → y ≡ f v → (if b then x else y) ≡ f (if b then u else v)
if_same true f x y u v p q = p
if_same false f x y u v p q = q

-- whether a content line of the last group stands before what follows these lines
abbrev pub filled_after : Bool → List (List ℕ) → Bool
filled_after filled [] = filled
filled_after filled (line ∷ lines) = filled_after (is_content_line line || (filled && not (is_hash_line line && filled))) lines

-- the last group of the first list goes on as the first group of the second
abbrev pub glued : List (List (List ℕ)) → List (List (List ℕ)) → List (List (List ℕ))
glued [] others = others
glued (group ∷ []) [] = group ∷ []
glued (group ∷ []) (other ∷ others) = (group ++ other) ∷ others
glued (group ∷ next ∷ rest) others = group ∷ glued (next ∷ rest) others

pub join_first-glued : (line : List ℕ) (gs others : List (List (List ℕ))) → join_first line (glued gs others) ≡ glued (join_first line gs) others
join_first-glued line [] [] = refl
join_first-glued line [] (other ∷ others) = refl
join_first-glued line (group ∷ []) [] = refl
join_first-glued line (group ∷ []) (other ∷ others) = refl
join_first-glued line (group ∷ next ∷ rest) others = refl

empty_glued : (line : List ℕ) (gs others : List (List (List ℕ))) → [] ∷ glued (join_first line gs) others ≡ glued ([] ∷ join_first line gs) others
empty_glued line [] others = refl
empty_glued line (group ∷ gs) others = refl

-- the groups of lines in two parts
pub groups-append : (filled : Bool) (lines more : List (List ℕ)) →
    groups filled (lines ++ more) ≡ glued (groups filled lines) (groups (filled_after filled lines) more)
groups-append filled [] more = refl
groups-append filled (line ∷ lines) more =
    let begins = is_hash_line line && filled in
    let next = is_content_line line || (filled && not begins) in
    let rest : join_first line (groups next (lines ++ more)) ≡ glued (join_first line (groups next lines)) (groups (filled_after next lines) more) =
    ap (join_first line) (groups-append next lines more) ∙ join_first-glued line (groups next lines) _ in
    let others = groups (filled_after next lines) more in
    if_same begins (λ gs. glued gs others) _ _ ([] ∷ join_first line (groups next lines)) (join_first line (groups next lines))
    (ap (λ gs. [] ∷ gs) rest ∙ empty_glued line (groups next lines) others) rest
