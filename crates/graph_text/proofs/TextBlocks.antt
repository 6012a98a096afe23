-- The blocks of a text: their numbers count from 1, and no line of them has a line feed.
use Rattle.std.specs.Prelude.{◌≡◌, ℕ, ◌+◌, ◌≤◌, ◌==◌, List, [], ◌∷◌, ◌++◌, length, drop, false, ◌&&◌, ◌||◌, not, Bool, All, refl}
use Rattle.std.specs.List.{list_any}
use Rattle.std.proofs.Common.{sym, arith}
use Rattle.std.proofs.lemmas.Bool.{cond_both, or_parts, or_from}
use Rattle.std.proofs.lemmas.List.Elements.{All-nil, All-cons, All-head, All-tail, All-map, All-weaker, All-drop, All-contains, All-same, Contains-push}
use Rattle.graph_text.specs.Lines.{spelled_lines, onto_first, without_return, lines_of, is_hash_line, is_content_line}
use Rattle.graph_text.specs.Blocks.{TextBlock, IsTextBlock, groups, join_first, groups_of, lead, all_but_last, graphs, is_graph, numbered, complete, blocks}

-- no byte of a line is a line feed
abbrev pub NoFeed : List ℕ → Type 0
NoFeed line = list_any (λ b. b == 10) line ≡ false

onto_first-no_feed : (b : ℕ) (lines : List (List ℕ)) → (b == 10) ≡ false → All NoFeed lines → All NoFeed (onto_first b lines)
onto_first-no_feed b [] other each = All-cons NoFeed (b ∷ []) [] (or_from _ _ other refl) (All-nil NoFeed)
onto_first-no_feed b (line ∷ lines) other each =
    All-cons NoFeed (b ∷ line) lines (or_from _ _ other (All-head NoFeed line lines each)) (All-tail NoFeed line lines each)

spelled_lines-no_feed : (bytes : List ℕ) → All NoFeed (spelled_lines bytes)
spelled_lines-no_feed [] = All-nil NoFeed
spelled_lines-no_feed (b ∷ bytes) =
    let rest = spelled_lines bytes in
    cond_both (b == 10) ([] ∷ rest) (onto_first b rest) (All NoFeed)
    (λ feed. All-cons NoFeed [] rest refl (spelled_lines-no_feed bytes)) (λ other. onto_first-no_feed b rest other (spelled_lines-no_feed bytes))

without_return-no_feed : (line : List ℕ) → NoFeed line → NoFeed (without_return line)
without_return-no_feed [] h = refl
without_return-no_feed (b ∷ []) h = cond_both (b == 13) [] (b ∷ []) NoFeed (λ return_. refl) (λ other. h)
without_return-no_feed (b ∷ c ∷ bytes) h =
    let parts = or_parts (b == 10) (list_any (λ b. b == 10) (c ∷ bytes)) h in
    or_from _ _ parts.0 (without_return-no_feed (c ∷ bytes) parts.1)

pub lines_of-no_feed : (bytes : List ℕ) → All NoFeed (lines_of bytes)
lines_of-no_feed bytes =
    All-map NoFeed without_return (spelled_lines bytes)
    (All-weaker NoFeed (λ line. NoFeed (without_return line)) without_return-no_feed (spelled_lines bytes) (spelled_lines-no_feed bytes))

-- groups are made of the lines
module _ (P : List ℕ → Type 0) where
  join_first-each : (line : List ℕ) (gs : List (List (List ℕ))) → P line → All (All P) gs → All (All P) (join_first line gs)
  join_first-each line [] here each = All-cons (All P) (line ∷ []) [] (All-cons P line [] here (All-nil P)) (All-nil (All P))
  join_first-each line (group ∷ gs) here each =
      All-cons (All P) (line ∷ group) gs (All-cons P line group here (All-head (All P) group gs each)) (All-tail (All P) group gs each)

  groups-each : (filled : Bool) (lines : List (List ℕ)) → All P lines → All (All P) (groups filled lines)
  groups-each filled [] each = All-nil (All P)
  groups-each filled (line ∷ lines) each =
      let begins = is_hash_line line && filled in
      let next = is_content_line line || (filled && not begins) in
      let rest = join_first line (groups next lines) in
      let here : All (All P) rest = join_first-each line (groups next lines) (All-head P line lines each) (groups-each next lines (All-tail P line lines each)) in
      cond_both begins ([] ∷ rest) rest (All (All P)) (λ starts. All-cons (All P) [] rest (All-nil P) here) (λ goes_on. here)

-- the complete groups, and the graphs, are some of the groups
module _ (P : List (List ℕ) → Type 0) where
  all_but_last-each : (gs : List (List (List ℕ))) → All P gs → All P (all_but_last gs)
  all_but_last-each [] each = All-nil P
  all_but_last-each (group ∷ []) each = All-nil P
  all_but_last-each (group ∷ next ∷ rest) each =
      All-cons P group (all_but_last (next ∷ rest)) (All-head P group (next ∷ rest) each) (all_but_last-each (next ∷ rest) (All-tail P group (next ∷ rest) each))

  graphs-each : (gs : List (List (List ℕ))) → All P gs → All P (graphs gs)
  graphs-each [] each = All-nil P
  graphs-each (group ∷ []) each = cond_both (is_graph group) (group ∷ []) [] (All P) (λ graph. each) (λ other. All-nil P)
  graphs-each (group ∷ next ∷ rest) each =
      All-cons P group (graphs (next ∷ rest)) (All-head P group (next ∷ rest) each) (graphs-each (next ∷ rest) (All-tail P group (next ∷ rest) each))

numbered-each : (index line : ℕ) (gs : List (List (List ℕ))) → 1 ≤ index → 1 ≤ line → All (All NoFeed) gs → All IsTextBlock (numbered index line gs)
numbered-each index line [] i l each = All-nil IsTextBlock
numbered-each index line (group ∷ gs) i l each =
    All-cons IsTextBlock (record { index = index; line = line; lines = group }) (numbered (index + 1) (line + length group) gs)
    (record { index_from = i; line_from = l; no_feeds = All-head (All NoFeed) group gs each })
    (numbered-each (index + 1) (line + length group) gs (omega arith) (omega arith) (All-tail (All NoFeed) group gs each))

groups_of-no_feed : (bytes : List ℕ) → All (All NoFeed) (groups_of bytes)
groups_of-no_feed bytes =
    let n = length (lead bytes) in
    groups-each NoFeed false (drop n (lines_of bytes)) (All-drop NoFeed n (lines_of bytes) (lines_of-no_feed bytes))

-- every block of a text
pub complete-each : (bytes : List ℕ) → All IsTextBlock (complete bytes)
complete-each bytes =
    numbered-each 1 (length (lead bytes) + 1) (all_but_last (groups_of bytes)) (omega arith) (omega arith)
    (all_but_last-each (All NoFeed) (groups_of bytes) (groups_of-no_feed bytes))

pub blocks-each : (bytes : List ℕ) → All IsTextBlock (blocks bytes)
blocks-each bytes =
    numbered-each 1 (length (lead bytes) + 1) (graphs (groups_of bytes)) (omega arith) (omega arith)
    (graphs-each (All NoFeed) (groups_of bytes) (groups_of-no_feed bytes))

last-each : (all before : List TextBlock) (block : TextBlock) → all ≡ before ++ block ∷ [] → All IsTextBlock all → IsTextBlock block
last-each all before block is each =
    All-contains IsTextBlock (before ++ block ∷ []) block (All-same IsTextBlock (before ++ block ∷ []) all (sym is) each) (Contains-push before block)

-- the last one
pub complete-block : (bytes : List ℕ) (before : List TextBlock) (block : TextBlock) → complete bytes ≡ before ++ block ∷ [] → IsTextBlock block
complete-block bytes before block is = last-each (complete bytes) before block is (complete-each bytes)

pub blocks-block : (bytes : List ℕ) (before : List TextBlock) (block : TextBlock) → blocks bytes ≡ before ++ block ∷ [] → IsTextBlock block
blocks-block bytes before block is = last-each (blocks bytes) before block is (blocks-each bytes)
