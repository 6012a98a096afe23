-- The lines of the generated text, cut into the groups of its blocks.
use Rattle.std.proofs.Common.{◌≡◌, ℕ, zero, suc, ◌+◌, Bool, true, false, not, ◌||◌, ◌&&◌, List, [], ◌∷◌, ◌++◌, map, length, refl, ap, ◌∙◌}
use Rattle.std.specs.Prelude.{All, codes, decimal, take_while}
use Rattle.std.specs.List.{list_any}
use Rattle.std.proofs.lemmas.Bool.{cond-true, cond-false, or_left}
use Rattle.std.proofs.lemmas.List.Elements.{All-head, All-tail}
use Rattle.graph_text.specs.Lines.{fields_of, are_no_fields, are_hash_fields, is_blank_line, is_hash_line, is_content_line}
use Rattle.graph_text.specs.Blocks.{groups, join_first, is_graph, graphs}
use Rattle.demo_text.specs.declared.path.DemoPath.{DemoPath}
use Rattle.demo_text.specs.Demo.{next_state, drawn, paths_after, after_paths, edges_used, vertices_used, edge_line, block_lines, lines_from}
use Rattle.demo_text.proofs.PlainLines.{IsWord}
use Rattle.demo_text.proofs.EdgeLines.{word-no_hash}

-- a content line
pub record IsContentLine (line : List ℕ) : Type 0 where
  pub content : is_content_line line ≡ true
  pub no_hash : is_hash_line line ≡ false

-- a line whose first field is a word is a content line
pub content-line : (line first : List ℕ) (others : List (List ℕ)) → fields_of line ≡ first ∷ others → IsWord first → IsContentLine line
content-line line first others fields word = record {
  content = ap (λ fs. not (are_no_fields fs) && not (are_hash_fields fs)) fields ∙ ap not (word-no_hash first word);
  no_hash = ap are_hash_fields fields ∙ word-no_hash first word;
}

-- lines go onto the first group of those behind them
abbrev prepend : List (List ℕ) → List (List (List ℕ)) → List (List (List ℕ))
prepend [] gs = gs
prepend (line ∷ lines) gs = join_first line (prepend lines gs)

prepend-begun : (lines : List (List ℕ)) (gs : List (List (List ℕ))) → prepend lines ([] ∷ gs) ≡ lines ∷ gs
prepend-begun [] gs = refl
prepend-begun (line ∷ lines) gs = ap (join_first line) (prepend-begun lines gs)

prepend-last : (line : List ℕ) (lines : List (List ℕ)) → join_first line (prepend lines []) ≡ (line ∷ lines) ∷ []
prepend-last line [] = refl
prepend-last line (next ∷ lines) = ap (join_first line) (prepend-last next lines)

groups-step : (filled : Bool) (line : List ℕ) (rest : List (List ℕ)) → IsContentLine line → groups filled (line ∷ rest) ≡ join_first line (groups true rest)
groups-step filled line rest is =
    let next = is_content_line line || (filled && not (is_hash_line line && filled)) in
    let gs = join_first line (groups next rest) in
    cond-false (is_hash_line line && filled) ([] ∷ gs) gs (ap (λ b. b && filled) is.no_hash)
    ∙ ap (λ b. join_first line (groups b rest)) (or_left (is_content_line line) (filled && not (is_hash_line line && filled)) is.content)

groups-contents : (lines rest : List (List ℕ)) → All IsContentLine lines → groups true (lines ++ rest) ≡ prepend lines (groups true rest)
groups-contents [] rest each = refl
groups-contents (line ∷ lines) rest each =
    groups-step true line (lines ++ rest) (All-head IsContentLine line lines each)
    ∙ ap (join_first line) (groups-contents lines rest (All-tail IsContentLine line lines each))

-- the groups of so many blocks
abbrev pub groups_from : ℕ → ℕ → ℕ → List (List (List ℕ))
groups_from zero index x = []
groups_from (suc n) index x = let y = next_state x in let count = 2 + drawn 4 y in
    block_lines index (paths_after count y) ∷ groups_from n (index + 1) (after_paths count y)

-- behind a comment the lines of a block are content lines
abbrev pub AreContents : ℕ → Type 0
AreContents x = let y = next_state x in let paths = paths_after (2 + drawn 4 y) y in
    IsContentLine (decimal (length (vertices_used paths))) × All IsContentLine (map (edge_line paths) (edges_used paths))

module _ (contents : (x : ℕ) → AreContents x) where
  groups-begun : (n index x : ℕ) → groups true (lines_from (suc n) index x) ≡ [] ∷ groups false (lines_from (suc n) index x)
  groups-begun n index x = refl

  -- the parts of a block
  module _ (index x : ℕ) where
    abbrev drawn_paths : List DemoPath
    drawn_paths = let y = next_state x in paths_after (2 + drawn 4 y) y

    abbrev header : List ℕ
    header = codes "# demo " ++ decimal index

    abbrev count : List ℕ
    count = decimal (length (vertices_used drawn_paths))

    abbrev edges : List (List ℕ)
    edges = map (edge_line drawn_paths) (edges_used drawn_paths)

    abbrev after : ℕ
    after = let y = next_state x in after_paths (2 + drawn 4 y) y

    front : (n : ℕ) → groups false (lines_from (suc n) index x) ≡ join_first header (join_first count (prepend edges (groups true (lines_from n (index + 1) after))))
    front n =
        ap (join_first header)
        (groups-step false count (edges ++ lines_from n (index + 1) after) (contents x).0
        ∙ ap (join_first count) (groups-contents edges (lines_from n (index + 1) after) (contents x).1))

  pub groups-are : (n index x : ℕ) → groups false (lines_from (suc n) index x) ≡ groups_from (suc n) index x
  groups-are zero index x = front index x zero ∙ ap (join_first (header index x)) (prepend-last (count index x) (edges index x))
  groups-are (suc n) index x =
      let begin : List (List (List ℕ)) → List (List (List ℕ)) = λ gs. join_first (header index x) (join_first (count index x) gs) in
      front index x (suc n)
      ∙ ap (λ gs. begin (prepend (edges index x) gs)) (groups-begun n (index + 1) (after index x) ∙ ap (λ gs. [] ∷ gs) (groups-are n (index + 1) (after index x)))
      ∙ ap begin (prepend-begun (edges index x) (groups_from (suc n) (index + 1) (after index x)))

  group-graph : (index x : ℕ) → is_graph (block_lines index (paths_after (2 + drawn 4 (next_state x)) (next_state x))) ≡ true
  group-graph index x =
      let y = next_state x in
      let paths = paths_after (2 + drawn 4 y) y in
      or_left _ _ (or_left (is_content_line (decimal (length (vertices_used paths)))) (list_any is_content_line (map (edge_line paths) (edges_used paths))) (contents x).0.content)

  pub graphs-are : (n index x : ℕ) → graphs (groups_from n index x) ≡ groups_from n index x
  graphs-are zero index x = refl
  graphs-are (suc zero) index x = cond-true _ _ _ (group-graph index x)
  graphs-are (suc (suc n)) index x =
      let y = next_state x in
      let paths = paths_after (2 + drawn 4 y) y in
      ap (λ gs. block_lines index paths ∷ gs) (graphs-are (suc n) (index + 1) (after_paths (2 + drawn 4 y) y))

-- no blank line stands in front
pub lead-none : (n index x : ℕ) → length (take_while is_blank_line (lines_from (suc n) index x)) ≡ 0
lead-none n index x = refl
