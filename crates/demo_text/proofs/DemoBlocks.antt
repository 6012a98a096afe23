-- The blocks of the generated text, and that each is read as a graph.
use Rattle.std.proofs.Common.{◌≡◌, ℕ, zero, suc, ◌+◌, ◌*◌, ◌/◌, ◌<◌, ◌≤◌, Bool, true, false, not, List, [], ◌∷◌, ◌++◌, map, filter, length, drop, get_or, refl, sym, ap, subst, ◌∙◌, arith, length-append, ◌^◌}
use Rattle.std.specs.Prelude.{All, flat_map, codes, decimal, take_while}
use Rattle.std.specs.List.{list_any}
use Rattle.std.specs.Str.{bytes_eq}
use Rattle.std.proofs.lemmas.Bool.{cond_both}
use Rattle.std.proofs.lemmas.Fmt.{length-decimal-le}
use Rattle.std.proofs.lemmas.Nat.{mod_below}
use Rattle.std.proofs.lemmas.List.{length-map, get_or_append_left}
use Rattle.std.proofs.lemmas.List.Elements.{All-nil, All-cons, All-append, All-map, All-weaker, All-head, All-tail}
use Rattle.std.proofs.lemmas.List.Folds.{list_any_at}
use Rattle.graph_text.specs.Lines.{is_blank_line}
use Rattle.graph_text.specs.Blocks.{TextBlock, blocks, groups, graphs, numbered}
use Rattle.graph_text.specs.Reading.{distinct, line_at}
use Rattle.demo_text.specs.declared.path.DemoPath.{DemoPath}
use Rattle.demo_text.specs.Accepted.{IsPlain, BlocksAreAccepted}
use Rattle.demo_text.specs.Demo.{next_state, drawn, paths_after, after_paths, edges_along, same_names, edges_used, weight_on, vertices_used, both_ends, edge_line, block_lines, lines_from, text_of, demo_text}
use Rattle.demo_text.proofs.PlainLines.{IsLine, IsLine-word, IsLine-append, IsWord, IsWord-decimal, fields-one, fields-three, lines_of-text}
use Rattle.demo_text.proofs.PathsDrawn.{length-paths_after}
use Rattle.demo_text.proofs.GatheredUses.{same_names-Decides}
use Rattle.demo_text.proofs.EdgesAlong.{IsSmall, IsDemoEdge, paths_after-small, edges_used-each, edges_used-few, first_uses-once, first_uses-has, weight_on-small}
use Rattle.demo_text.proofs.BalancedUses.{AreThere, balanced}
use Rattle.demo_text.proofs.EdgeLines.{length-of_line}
use Rattle.demo_text.proofs.BlockReads.{IsHeader, IsCount, is-read}
use Rattle.demo_text.proofs.LineGroups.{IsContentLine, content-line, AreContents, groups_from, groups-are, graphs-are, lead-none}

-- the paths of a block
record ArePaths (paths : List DemoPath) : Type 0 where
  few : length paths ≤ 5
  small : All IsSmall paths

paths_after-are : (x : ℕ) → ArePaths (paths_after (2 + drawn 4 x) x)
paths_after-are x = record {
  few = omega (arith, length-paths_after (2 + drawn 4 x) x, mod_below (x / 65536) 4 (omega arith));
  small = paths_after-small (2 + drawn 4 x) x;
}

-- few vertices
few-distinct : (names : List (List ℕ)) → length (distinct names) ≤ length names
few-distinct [] = omega arith
few-distinct (a ∷ names) = omega (arith, few-kept (λ n. not (bytes_eq a n)) (distinct names), few-distinct names)
  where
    few-kept : (p : List ℕ → Bool) (ns : List (List ℕ)) → length (filter p ns) ≤ length ns
    few-kept p [] = omega arith
    few-kept p (n ∷ ns) =
        let rest = few-kept p ns in
        cond_both (p n) (n ∷ filter p ns) (filter p ns) (λ ms. length ms ≤ length (n ∷ ns)) (λ _. omega (arith, rest)) (λ _. omega (arith, rest))

length-ends : (es : List (List ℕ × List ℕ)) → length (flat_map both_ends es) ≡ 2 * length es
length-ends [] = refl
length-ends (e ∷ es) = omega (arith, length-append (both_ends e) (flat_map both_ends es), length-ends es)

-- the edges of the paths are used
all-there : (es : List (List ℕ × List ℕ)) → All (λ e. list_any (same_names e) es ≡ true) es
all-there es k d within = let e = get_or es k d in list_any_at (same_names e) es k d within ((same_names-Decides e e).1 refl)

along-each : (P : List ℕ × List ℕ → Type 0) (paths : List DemoPath) → All P (flat_map edges_along paths) → All (λ p. All P (edges_along p)) paths
along-each P [] each = All-nil (λ p. All P (edges_along p))
along-each P (p ∷ paths) each =
    let xs = edges_along p in
    let ys = flat_map edges_along paths in
    All-cons (λ p. All P (edges_along p)) p paths
    (λ k d within. subst P (get_or_append_left xs ys d k within) (each k d (omega (arith, within, length-append xs ys))))
    (along-each P paths
    (λ k d within. each (suc (suc (suc k))) d (omega (arith, within, length-append xs ys))))

-- a line of few bytes
abbrev IsShort : List ℕ → Type 0
IsShort line = length line ≤ 65536

module _ (paths : List DemoPath) (are : ArePaths paths) where
  abbrev es : List (List ℕ × List ℕ)
  es = edges_used paths

  each : All IsDemoEdge es
  each = edges_used-each paths are.small

  few : length es ≤ 15
  few = omega (arith, edges_used-few paths, are.few)

  small : (e : List ℕ × List ℕ) → weight_on paths e ≤ 1000000000000
  small e = omega (arith, weight_on-small paths e are.small, are.few)

  few-vertices : length (vertices_used paths) ≤ 30
  few-vertices = omega (arith, few-distinct (flat_map both_ends es), length-ends es, few)

  there : All (AreThere es) paths
  there =
      along-each (λ e. list_any (same_names e) es ≡ true) paths
      (All-weaker (λ e. list_any (same_names e) (flat_map edges_along paths) ≡ true) (λ e. list_any (same_names e) es ≡ true)
      (λ e h. first_uses-has e (flat_map edges_along paths) h) (flat_map edges_along paths) (all-there (flat_map edges_along paths)))

  count-word : IsWord (decimal (length (vertices_used paths)))
  count-word = IsWord-decimal (length (vertices_used paths)) (omega (arith, few-vertices))

  weight-word : (e : List ℕ × List ℕ) → IsWord (decimal (weight_on paths e))
  weight-word e = IsWord-decimal (weight_on paths e) (omega (arith, small e))

  edge-is_line : (e : List ℕ × List ℕ) → IsDemoEdge e → IsLine (edge_line paths e)
  edge-is_line e is =
      IsLine-append (e.0 ++ codes " " ++ e.1 ++ codes " ") (decimal (weight_on paths e))
      (IsLine-append (e.0 ++ codes " " ++ e.1) (codes " ")
      (IsLine-append (e.0 ++ codes " ") e.1 (IsLine-append e.0 (codes " ") (IsLine-word e.0 is.tail.bytes) refl) (IsLine-word e.1 is.head.bytes)) refl)
      (IsLine-word (decimal (weight_on paths e)) (weight-word e).bytes)

  block-is_lines : (index : ℕ) → index ≤ 100 → All IsLine (block_lines index paths)
  block-is_lines index low =
      All-cons IsLine (codes "# demo " ++ decimal index) (decimal (length (vertices_used paths)) ∷ map (edge_line paths) es)
      (IsLine-word (decimal index) (IsWord-decimal index (omega arith)).bytes)
      (All-cons IsLine (decimal (length (vertices_used paths))) (map (edge_line paths) es) (IsLine-word (decimal (length (vertices_used paths))) count-word.bytes)
      (All-map IsLine (edge_line paths) es (All-weaker IsDemoEdge (λ e. IsLine (edge_line paths e)) edge-is_line es each)))

  block-contents : IsContentLine (decimal (length (vertices_used paths))) × All IsContentLine (map (edge_line paths) es)
  block-contents = (
    content-line (decimal (length (vertices_used paths))) (decimal (length (vertices_used paths))) [] (fields-one (decimal (length (vertices_used paths))) count-word) count-word,
    All-map IsContentLine (edge_line paths) es
        (All-weaker IsDemoEdge (λ e. IsContentLine (edge_line paths e))
        (λ e is. content-line (edge_line paths e) e.0 (e.1 ∷ decimal (weight_on paths e) ∷ []) (fields-three e.0 e.1 (decimal (weight_on paths e)) is.tail is.head (weight-word e)) is.tail)
        es each),
  )

  block-read : (index number line : ℕ) → number ≤ 100 → IsPlain (record { index = index; line = line; lines = block_lines number paths })
  block-read index number line low =
      let m = length (vertices_used paths) in
      let vertices = few-vertices in
      let header : IsHeader (line_at (line, codes "# demo " ++ decimal number)) = record {
        filled = refl;
        hash = refl;
        no_run = refl;
        few = omega (arith, length-append (codes "# demo ") (decimal number), length-decimal-le 3 number (omega arith) (omega arith) (omega arith));
      } in
      let count : IsCount (line_at (line + 1, decimal m)) = record {
        count = m;
        fields = fields-one (decimal m) count-word;
        small = omega arith;
        few = omega (arith, length-decimal-le 2 m (omega arith) (omega arith) (omega arith));
      } in
      is-read (line_at (line, codes "# demo " ++ decimal number)) (line_at (line + 1, decimal m)) header count (line + 1 + 1) (weight_on paths) small es each
      (λ test source sink. balanced es (first_uses-once (flat_map edges_along paths)) test source sink paths there)
      (omega (arith, few)) (first_uses-once (flat_map edges_along paths))

module _ (paths : List DemoPath) (are : ArePaths paths) where
  -- the lines of a block are few, and short
  few-lines : (index : ℕ) → length (block_lines index paths) ≤ 17
  few-lines index = omega (arith, few paths are, length-map (edges_used paths) (edge_line paths))

  short-lines : (index : ℕ) → index ≤ 100 → All IsShort (block_lines index paths)
  short-lines index low =
      let m = length (vertices_used paths) in
      let vertices = few-vertices paths are in
      All-cons IsShort (codes "# demo " ++ decimal index) (decimal m ∷ map (edge_line paths) (edges_used paths))
      (omega (arith, length-append (codes "# demo ") (decimal index), length-decimal-le 3 index (omega arith) (omega arith) (omega arith)))
      (All-cons IsShort (decimal m) (map (edge_line paths) (edges_used paths)) (omega (arith, length-decimal-le 2 m (omega arith) (omega arith) (omega arith)))
      (All-map IsShort (edge_line paths) (edges_used paths)
      (All-weaker IsDemoEdge (λ e. IsShort (edge_line paths e)) (length-of_line (weight_on paths) (small paths are)) (edges_used paths) (each paths are))))

contents : (x : ℕ) → AreContents x
contents x = block-contents (paths_after (2 + drawn 4 (next_state x)) (next_state x)) (paths_after-are (next_state x))

all-lines : (n index x : ℕ) → n + index ≤ 100 → All IsLine (lines_from n index x)
all-lines zero index x low = All-nil IsLine
all-lines (suc n) index x low =
    let y = next_state x in
    let paths = paths_after (2 + drawn 4 y) y in
    All-append IsLine (block_lines index paths) (lines_from n (index + 1) (after_paths (2 + drawn 4 y) y)) (block-is_lines paths (paths_after-are y) index (omega arith))
    (all-lines n (index + 1) (after_paths (2 + drawn 4 y) y) (omega arith))

numbered-length : (n index x number line : ℕ) → length (numbered number line (groups_from n index x)) ≡ n
numbered-length zero index x number line = refl
numbered-length (suc n) index x number line = ap suc (numbered-length n (index + 1) _ (number + 1) _)

numbered-read : (n index x number line : ℕ) → n + index ≤ 100 → All IsPlain (numbered number line (groups_from n index x))
numbered-read zero index x number line low = All-nil IsPlain
numbered-read (suc n) index x number line low =
    let y = next_state x in
    let paths = paths_after (2 + drawn 4 y) y in
    All-cons IsPlain (record { index = number; line = line; lines = block_lines index paths })
    (numbered (number + 1) (line + length (block_lines index paths)) (groups_from n (index + 1) (after_paths (2 + drawn 4 y) y)))
    (block-read paths (paths_after-are y) number index line (omega arith))
    (numbered-read n (index + 1) (after_paths (2 + drawn 4 y) y) (number + 1) (line + length (block_lines index paths)) (omega arith))

-- the blocks of a text by its lines
abbrev blocks_of_lines : List (List ℕ) → List TextBlock
blocks_of_lines lines =
    let lead = length (take_while is_blank_line lines) in
    numbered 1 (lead + 1) (graphs (groups false (drop lead lines)))

blocks-are : (n x : ℕ) → n < 99 → blocks (text_of (lines_from (suc n) 1 x)) ≡ numbered 1 1 (groups_from (suc n) 1 x)
blocks-are n x low =
    ap blocks_of_lines (lines_of-text (lines_from (suc n) 1 x) (all-lines (suc n) 1 x (omega arith)))
    ∙ ap (λ k. numbered 1 (k + 1) (graphs (groups false (drop k (lines_from (suc n) 1 x))))) (lead-none n 1 x)
    ∙ ap (λ gs. numbered 1 1 (graphs gs)) (groups-are contents n 1 x)
    ∙ ap (numbered 1 1) (graphs-are contents (suc n) 1 x)

so_many_blocks : (n x : ℕ) → n < 99 → (length (blocks (text_of (lines_from (suc n) 1 x))) ≡ suc n) × All IsPlain (blocks (text_of (lines_from (suc n) 1 x)))
so_many_blocks n x low =
    let are = blocks-are n x low in
    (ap length are ∙ numbered-length (suc n) 1 x 1 1, subst (All IsPlain) (sym are) (numbered-read (suc n) 1 x 1 1 (omega arith)))

pub blocks_are_accepted : BlocksAreAccepted
unfolding demo_text
blocks_are_accepted seed = so_many_blocks 39 seed (omega arith)

-- the text is short
short-text : (lines : List (List ℕ)) → All IsShort lines → length (text_of lines) ≤ 65537 * length lines
short-text [] each = omega arith
short-text (line ∷ lines) each =
    omega (arith, length-append (line ++ codes "\n") (text_of lines), length-append line (codes "\n"), All-head IsShort line lines each, short-text lines (All-tail IsShort line lines each))

short-from : (n index x : ℕ) → n + index ≤ 100 → All IsShort (lines_from n index x)
short-from zero index x low = All-nil IsShort
short-from (suc n) index x low =
    let y = next_state x in
    let paths = paths_after (2 + drawn 4 y) y in
    All-append IsShort (block_lines index paths) (lines_from n (index + 1) (after_paths (2 + drawn 4 y) y)) (short-lines paths (paths_after-are y) index (omega arith))
    (short-from n (index + 1) (after_paths (2 + drawn 4 y) y) (omega arith))

few-from : (n index x : ℕ) → length (lines_from n index x) ≤ 17 * n
few-from zero index x = omega arith
few-from (suc n) index x =
    let y = next_state x in
    let paths = paths_after (2 + drawn 4 y) y in
    omega (arith, length-append (block_lines index paths) (lines_from n (index + 1) (after_paths (2 + drawn 4 y) y)), few-lines paths (paths_after-are y) index, few-from n (index + 1) (after_paths (2 + drawn 4 y) y))

-- what is written of a text is short
pub whole-short : (n m index x seed : ℕ) (bytes : List ℕ) → m < 99 → bytes ++ text_of (lines_from n index x) ≡ text_of (lines_from m 1 seed) → length bytes < 2 ^ 62
whole-short n m index x seed bytes low is =
    omega (arith, ap length is, length-append bytes (text_of (lines_from n index x)), short-text (lines_from m 1 seed) (short-from m 1 seed (omega arith)), few-from m 1 seed)
