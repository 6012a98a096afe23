-- Lines of which the first is a comment and the others are content lines are one block.
use Rattle.std.proofs.Common.{◌≡◌, ℕ, ◌+◌, Bool, true, false, not, ◌||◌, ◌&&◌, List, [], ◌∷◌, length, drop, refl, ap, ◌∙◌}
use Rattle.std.specs.Prelude.{All, take_while}
use Rattle.std.specs.List.{list_any}
use Rattle.std.proofs.lemmas.Bool.{cond-true, cond-false, or_left, or_right}
use Rattle.std.proofs.lemmas.List.Elements.{All-head, All-tail}
use Rattle.std.proofs.lemmas.List.Sums.{take_while-cons}
use Rattle.graph_text.specs.Lines.{lines_of, is_blank_line, is_hash_line, is_content_line}
use Rattle.graph_text.specs.Blocks.{blocks, groups, join_first, is_graph, graphs, numbered}

-- a content line, which is no `#` line
pub record IsContentLine (line : List ℕ) : Type 0 where
  pub content : is_content_line line ≡ true
  pub no_hash : is_hash_line line ≡ false

-- a comment line
pub record IsCommentLine (line : List ℕ) : Type 0 where
  pub filled : is_blank_line line ≡ false
  pub hash : is_hash_line line ≡ true

groups-content : (filled : Bool) (line : List ℕ) (rest : List (List ℕ)) → IsContentLine line → groups filled (line ∷ rest) ≡ join_first line (groups true rest)
groups-content filled line rest is =
    let begins = is_hash_line line && filled in
    cond-false begins ([] ∷ join_first line (groups (is_content_line line || (filled && not begins)) rest)) (join_first line (groups (is_content_line line || (filled && not begins)) rest))
    (ap (λ b. b && filled) is.no_hash)
    ∙ ap (λ b. join_first line (groups b rest)) (or_left (is_content_line line) (filled && not begins) is.content)

-- content lines are one group
groups-contents : (filled : Bool) (line : List ℕ) (lines : List (List ℕ)) → All IsContentLine (line ∷ lines) → groups filled (line ∷ lines) ≡ (line ∷ lines) ∷ []
groups-contents filled line [] each = groups-content filled line [] (All-head IsContentLine line [] each)
groups-contents filled line (next ∷ lines) each =
    groups-content filled line (next ∷ lines) (All-head IsContentLine line (next ∷ lines) each)
    ∙ ap (join_first line) (groups-contents true next lines (All-tail IsContentLine line (next ∷ lines) each))

-- and so they are behind a comment
groups-comment : (comment line : List ℕ) (lines : List (List ℕ)) → IsCommentLine comment → All IsContentLine (line ∷ lines)
    → groups false (comment ∷ line ∷ lines) ≡ (comment ∷ line ∷ lines) ∷ []
groups-comment comment line lines is each =
    cond-false (is_hash_line comment && false) _ _ (and-false (is_hash_line comment))
    ∙ ap (join_first comment) (groups-contents _ line lines each)
  where
    and-false : (b : Bool) → (b && false) ≡ false
    and-false true = refl
    and-false false = refl

-- whose lines are a block
pub blocks-one : (text comment line : List ℕ) (lines : List (List ℕ)) → lines_of text ≡ comment ∷ line ∷ lines → IsCommentLine comment → All IsContentLine (line ∷ lines)
    → blocks text ≡ record { index = 1; line = 1; lines = comment ∷ line ∷ lines } ∷ []
blocks-one text comment line lines are is each =
    let all = comment ∷ line ∷ lines in
    let none : length (take_while is_blank_line all) ≡ 0 =
    ap length (take_while-cons is_blank_line comment (line ∷ lines) ∙ cond-false (is_blank_line comment) (comment ∷ take_while is_blank_line (line ∷ lines)) [] is.filled) in
    ap (λ (ls : List (List ℕ)). numbered 1 (length (take_while is_blank_line ls) + 1) (graphs (groups false (drop (length (take_while is_blank_line ls)) ls)))) are
    ∙ ap (λ n. numbered 1 (n + 1) (graphs (groups false (drop n all)))) none
    ∙ ap (λ gs. numbered 1 1 (graphs gs)) (groups-comment comment line lines is each)
    ∙ ap (numbered 1 1)
    (cond-true (is_graph all) (all ∷ []) []
    (or_left (list_any is_content_line all) _
    (or_right (is_content_line comment) (list_any is_content_line (line ∷ lines))
    (or_left (is_content_line line) (list_any is_content_line lines) (All-head IsContentLine line lines each).content))))
