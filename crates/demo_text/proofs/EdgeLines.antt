-- The lines of edges, as they are read.
use Rattle.std.proofs.Common.{◌≡◌, ℕ, ◌+◌, ◌-◌, ◌<◌, ◌≤◌, Bool, true, false, not, ◌&&◌, List, [], ◌∷◌, ◌++◌, map, filter, length, drop, take, refl, ap, ◌∙◌, arith, length-append}
use Rattle.std.specs.Prelude.{All, ◌==◌, nat_lt, flat_map, codes, decimal, is_some, unwrap_or}
use Rattle.std.specs.List.{list_all, IsDistinct}
use Rattle.std.specs.Str.{bytes_eq}
use Rattle.std.proofs.lemmas.Bool.{and_left, and_parts, cond-true, cond-false, ne_eqb, ltb-true, le-ltb}
use Rattle.std.proofs.lemmas.Fmt.{length-decimal-le}
use Rattle.std.proofs.lemmas.List.Elements.{All-nil, All-cons, All-head, All-tail, All-from_recursion}
use Rattle.std.proofs.lemmas.Map.Keys.{IsDistinct-head, IsDistinct-tail}
use Rattle.decomposition.specs.declared.Mode.TheVariants.{Exact}
use Rattle.graph_text.specs.Lines.{are_no_fields, are_hash_fields, are_run_fields, begins_with_hash}
use Rattle.graph_text.specs.Reading.{Line, line_at, numbered_lines, ends_of, last_fields, same_fields, repeats, is_weight, value_of, range_of, range_in, edge_of}
use Rattle.demo_text.specs.Demo.{same_names, both_ends}
use Rattle.demo_text.proofs.PlainLines.{IsWord, IsWord-decimal, fields-three}
use Rattle.demo_text.proofs.Numerals.{weight_in-decimal}
use Rattle.demo_text.proofs.EdgesAlong.{IsDemoEdge}
use Rattle.demo_text.proofs.DemoGraph.{numbers_of, range_with}

-- lists from which a filter takes all, or nothing
pub filter-all : {X : Type 0} (p : X → Bool) (xs : List X) → All (λ x. p x ≡ true) xs → filter p xs ≡ xs
filter-all p [] each = refl
filter-all p (x ∷ xs) each =
    cond-true (p x) (x ∷ filter p xs) (filter p xs) (All-head (λ x. p x ≡ true) x xs each)
    ∙ ap (λ ys. x ∷ ys) (filter-all p xs (All-tail (λ x. p x ≡ true) x xs each))

pub filter-none : {X : Type 0} (p : X → Bool) (xs : List X) → All (λ x. p x ≡ false) xs → filter p xs ≡ []
filter-none p [] each = refl
filter-none p (x ∷ xs) each =
    cond-false (p x) (x ∷ filter p xs) (filter p xs) (All-head (λ x. p x ≡ false) x xs each)
    ∙ filter-none p xs (All-tail (λ x. p x ≡ false) x xs each)

-- a word does not begin as a comment or a constraint
pub word-no_hash : (word : List ℕ) → IsWord word → begins_with_hash word ≡ false
word-no_hash [] is = refl
word-no_hash (b ∷ word) is =
    let high : 35 < b = ltb-true 35 b (and_parts (nat_lt 35 b) (list_all (λ b. nat_lt 35 b) word) is.bytes).0 in
    ne_eqb b 35 (λ e. omega arith)

pub word-no_run : (word : List ℕ) → IsWord word → bytes_eq word (35 ∷ 83 ∷ []) ≡ false
word-no_run [] is = refl
word-no_run (b ∷ word) is =
    let high : 35 < b = ltb-true 35 b (and_parts (nat_lt 35 b) (list_all (λ b. nat_lt 35 b) word) is.bytes).0 in
    and_left (b == 35) (bytes_eq word (83 ∷ [])) (ne_eqb b 35 (λ e. omega arith))

-- the line of an edge with a weight
abbrev pub line_with : (List ℕ × List ℕ → ℕ) → List ℕ × List ℕ → List ℕ
line_with weight e = e.0 ++ codes " " ++ e.1 ++ codes " " ++ decimal (weight e)

-- a line of three fields: two words and the digits of a weight
pub record IsEdgeLine (l : Line) : Type 0 where
  pub from : List ℕ
  pub to : List ℕ
  pub weight : ℕ
  pub fields : l.fields ≡ from ∷ to ∷ decimal weight ∷ []
  pub word : IsWord from
  pub small : weight ≤ 1000000000000
  pub few : l.bytes ≤ 65536

module _ (weight : List ℕ × List ℕ → ℕ) (small : (e : List ℕ × List ℕ) → weight e ≤ 1000000000000) where
  pub fields-of_line : (n : ℕ) (e : List ℕ × List ℕ) → IsDemoEdge e → (line_at (n, line_with weight e)).fields ≡ e.0 ∷ e.1 ∷ decimal (weight e) ∷ []
  fields-of_line n e is = let low = small e in fields-three e.0 e.1 (decimal (weight e)) is.tail is.head (IsWord-decimal (weight e) (omega arith))

  pub length-of_line : (e : List ℕ × List ℕ) → IsDemoEdge e → length (line_with weight e) ≤ 65536
  length-of_line e is =
      let low = small e in
      omega (
        arith,
        is.short,
        length-append (e.0 ++ codes " " ++ e.1 ++ codes " ") (decimal (weight e)),
        length-append (e.0 ++ codes " " ++ e.1) (codes " "),
        length-append (e.0 ++ codes " ") e.1,
        length-append e.0 (codes " "),
        length-decimal-le 13 (weight e) (omega arith) (omega arith) (omega arith),
      )

  pub edge_lines-each : (n : ℕ) (es : List (List ℕ × List ℕ)) → All IsDemoEdge es → All IsEdgeLine (numbered_lines n (map (line_with weight) es))
  edge_lines-each n [] each = All-nil IsEdgeLine
  edge_lines-each n (e ∷ es) each =
      let is = All-head IsDemoEdge e es each in
      All-cons IsEdgeLine (line_at (n, line_with weight e)) (numbered_lines (n + 1) (map (line_with weight) es))
      (record { from = e.0; to = e.1; weight = weight e; fields = fields-of_line n e is; word = is.tail; small = small e; few = length-of_line e is })
      (edge_lines-each (n + 1) es (All-tail IsDemoEdge e es each))

  -- the names, the edges and the ranges that the lines give
  pub lines-ends : (n : ℕ) (es : List (List ℕ × List ℕ)) → All IsDemoEdge es → flat_map ends_of (numbered_lines n (map (line_with weight) es)) ≡ flat_map both_ends es
  lines-ends n [] each = refl
  lines-ends n (e ∷ es) each =
      (λ i. take 2 (fields-of_line n e (All-head IsDemoEdge e es each) i) ++ lines-ends (n + 1) es (All-tail IsDemoEdge e es each) i)

  pub lines-edges : (names : List (List ℕ)) (n : ℕ) (es : List (List ℕ × List ℕ)) → All IsDemoEdge es
      → map (edge_of names) (numbered_lines n (map (line_with weight) es)) ≡ map (numbers_of names) es
  lines-edges names n [] each = refl
  lines-edges names n (e ∷ es) each =
      let edge : List (List ℕ) → ℕ × ℕ = λ fields. edge_of names (record { number = 0; bytes = 0; fields = fields }) in
      (λ i. edge (fields-of_line n e (All-head IsDemoEdge e es each) i) ∷ lines-edges names (n + 1) es (All-tail IsDemoEdge e es each) i)

  pub lines-ranges : (n : ℕ) (es : List (List ℕ × List ℕ)) → All IsDemoEdge es
      → map (range_of Exact) (numbered_lines n (map (line_with weight) es)) ≡ map (range_with weight) es
  lines-ranges n [] each = refl
  lines-ranges n (e ∷ es) each =
      (λ i. at i ∷ lines-ranges (n + 1) es (All-tail IsDemoEdge e es each) i)
    where
      at : range_of Exact (line_at (n, line_with weight e)) ≡ range_with weight e
      at =
          ap (λ (fields : List (List ℕ)). range_in (drop (length fields - 1) fields)) (fields-of_line n e (All-head IsDemoEdge e es each))
          ∙ ap (λ value. record { lo = value; hi = value }) (ap (λ w. unwrap_or w 0) (weight_in-decimal (weight e) (small e)))

  -- no edge is repeated
  repeats-none : (n : ℕ) (e : List ℕ × List ℕ) (line : Line) → ends_of line ≡ e.0 ∷ e.1 ∷ [] → (es : List (List ℕ × List ℕ)) → All IsDemoEdge es
      → All (λ f. same_names e f ≡ false) es → filter (λ l. same_fields (ends_of line) (ends_of l)) (numbered_lines n (map (line_with weight) es)) ≡ []
  repeats-none n e line ends [] each other = refl
  repeats-none n e line ends (f ∷ es) each other =
      let here : ends_of (line_at (n, line_with weight f)) ≡ f.0 ∷ f.1 ∷ [] = ap (take 2) (fields-of_line n f (All-head IsDemoEdge f es each)) in
      let test : same_fields (ends_of line) (ends_of (line_at (n, line_with weight f))) ≡ false =
      (λ i. same_fields (ends i) (here i)) ∙ and-end (bytes_eq e.0 f.0) (bytes_eq e.1 f.1) ∙ All-head (λ f. same_names e f ≡ false) f es other in
      cond-false _ _ _ test ∙ repeats-none (n + 1) e line ends es (All-tail IsDemoEdge f es each) (All-tail (λ f. same_names e f ≡ false) f es other)
    where
      and-end : (a b : Bool) → (a && (b && true)) ≡ (a && b)
      and-end a true = refl
      and-end a false = refl

  pub lines-once : (n : ℕ) (es : List (List ℕ × List ℕ)) → All IsDemoEdge es → IsDistinct same_names es → repeats (numbered_lines n (map (line_with weight) es)) ≡ []
  lines-once n [] each once = refl
  lines-once n (e ∷ es) each once =
      let ends : ends_of (line_at (n, line_with weight e)) ≡ e.0 ∷ e.1 ∷ [] = ap (take 2) (fields-of_line n e (All-head IsDemoEdge e es each)) in
      let rest = All-tail IsDemoEdge e es each in
      (λ i. repeats-none (n + 1) e (line_at (n, line_with weight e)) ends es rest (All-from_recursion (λ f. same_names e f ≡ false) es (IsDistinct-head same_names e es once)) i
      ++ lines-once (n + 1) es rest (IsDistinct-tail same_names e es once) i)

-- the tests of an edge line
module _ (l : Line) (is : IsEdgeLine l) where
  pub edge-filled : are_no_fields l.fields ≡ false
  edge-filled = ap are_no_fields is.fields

  pub edge-no_hash : are_hash_fields l.fields ≡ false
  edge-no_hash = ap are_hash_fields is.fields ∙ word-no_hash is.from is.word

  pub edge-no_run : are_run_fields l.fields ≡ false
  edge-no_run = ap are_run_fields is.fields ∙ word-no_run is.from is.word

  pub edge-short : nat_lt 65536 l.bytes ≡ false
  edge-short = le-ltb 65536 l.bytes is.few

  pub edge-fields : not (length l.fields == 3) ≡ false
  edge-fields = ap (λ (fields : List (List ℕ)). not (length fields == 3)) is.fields

  pub edge-weights : not (list_all is_weight (last_fields Exact l)) ≡ false
  edge-weights =
      ap (λ (fields : List (List ℕ)). not (list_all is_weight (drop (length fields - 1) fields))) is.fields
      ∙ ap (λ w. not (is_some w && true)) (weight_in-decimal is.weight is.small)

  pub edge-range : (let r = range_of Exact l in nat_lt r.hi r.lo) ≡ false
  edge-range =
      ap (λ (fields : List (List ℕ)). let r = range_in (drop (length fields - 1) fields) in nat_lt r.hi r.lo) is.fields
      ∙ le-ltb (value_of (decimal is.weight)) (value_of (decimal is.weight)) (omega arith)
