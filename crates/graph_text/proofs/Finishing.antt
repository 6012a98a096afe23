-- Finishing a block: the refusals of all of its lines, and those of its graph, from what a builder of nets finds.
use Rattle.std.proofs.Common.{◌≡◌, ◌≢◌, ℕ, zero, suc, ◌+◌, ◌<◌, ◌≤◌, Bool, true, false, not, leb, ◌||◌, List, [], ◌∷◌, ◌++◌, map, filter, length, take, drop, get_or, refl, sym, ap, subst, ◌∙◌, ⊎_elim, arith}
use Rattle.std.specs.Prelude.{All, AllPairs, IsTrue, ◌==◌, Option, Some, None}
use Rattle.std.specs.List.{enumerate_from, list_all}
use Rattle.std.specs.Prelude.{nat_lt}
use Rattle.std.specs.Option.{IfSome}
use Rattle.std.proofs.lemmas.Bool.{cases_Bool, cond-true, cond-false, and_from, and_left, and_right, or_left, or_right, or_from, not-false, false_from_ne_true, ne_eqb, eq-eqb, le-leb, lt-ltb, le-ltb, cases_lt}
use Rattle.std.proofs.lemmas.List.{append-nil, take_all, get_or_default, get_or-take, length-take-le}
use Rattle.std.proofs.lemmas.List.Elements.{All-cons, All-head, All-tail, All-map, All-filter, All-take, All-drop, filter-append}
use Rattle.std.proofs.lemmas.List.Kept.{AllPairs-filter}
use Rattle.decomposition.specs.declared.Mode.{Mode}
use Rattle.decomposition.specs.declared.Mode.TheVariants.{Exact}
use Rattle.decomposition.specs.Graph.{Graph, IsNet, graph_before, edge_count, tail, head, is_inner, below}
use Rattle.decomposition.specs.Flow.{IsFirstUnbalanced, IsBalanced, flow_into, flow_out_of}
use Rattle.decomposition.specs.Instance.{range_at}
use Rattle.decomposition.proofs.Balance.{inner-parts}
use Rattle.decomposition.proofs.Reaching.{closes_none, closes_some}
use Rattle.decomposition.proofs.Walks.{edge_out_of}
use Rattle.dag_net.specs.Build.{FollowsNet, IsRepeated, ClosesCycle, IsInside}
use Rattle.report_terms.specs.declared.refusal.Why.{Why}
use Rattle.report_terms.specs.declared.refusal.Why.TheVariants.{LongLine, BadCount, BadFields, BadWeight, BadRange, RepeatedEdge, TooManyEdges, TooManyConstraints, ShortConstraint, Cycle, Unconserved}
use Rattle.report_terms.specs.declared.refusal.Refusal.{Refusal}
use Rattle.graph_text.specs.declared.block.RawGraph.{RawGraph}
use Rattle.graph_text.specs.Draft.{settled_refusals}
use Rattle.graph_text.specs.LineFaults.{is_of_length, without_count}
use Rattle.graph_text.specs.Reading.{Line, most_edges, most_constraints, run_lines, is_short, short_lines, constraint_lines, filled_lines, content_lines, count_lines, edge_lines, long_lines, last_filled, is_count, weights_of, last_fields, is_weight, range_of, refused, bad_counts, bad_fields, bad_weights, bad_ranges, repeats, line_refusals, earlier, earliest, lines_where, closes_cycle, cycle_lines, is_unbalanced, unconserved_lines, lines_naming, most_bytes}
use Rattle.graph_text.specs.Lines.{are_no_fields, are_hash_fields, are_run_fields}
use Rattle.graph_text.proofs.FirstLists.{first_listed-All, filter_twice}
use Rattle.graph_text.proofs.Earliest.{merge, merge-assoc, merge-IfSome, earlier-first, earlier-second, earliest-append, earliest-All}
use Rattle.graph_text.proofs.KindsOfLines.{no_run-blank}

-- the numbers of lines rise
abbrev pub Rises : List Line → Type 0
Rises lines = AllPairs (λ a b. a.number ≤ b.number) lines

-- With a content line the refusals of all lines are those that stay.
pub line_refusals-content : (mode : Mode) (lines : List Line) → 0 < length (content_lines lines) → line_refusals mode lines ≡ settled_refusals mode lines
line_refusals-content mode lines some =
    let differs : length (content_lines lines) ≡ 0 → ⊥ = λ e. omega arith in
    ap (λ counts. refused LongLine (long_lines lines) ++ refused BadCount counts ++ refused BadFields (bad_fields mode lines)
    ++ refused BadWeight (bad_weights mode lines) ++ refused BadRange (bad_ranges mode lines)
    ++ refused RepeatedEdge (repeats (edge_lines lines)) ++ refused TooManyEdges (take 1 (drop most_edges (edge_lines lines)))
    ++ refused TooManyConstraints (take 1 (drop most_constraints (constraint_lines lines))) ++ refused ShortConstraint (short_lines lines))
    (cond-false (length (content_lines lines) == 0) (last_filled lines) (filter (λ l. not (is_count l.fields)) (count_lines lines)) (ne_eqb (length (content_lines lines)) 0 differs))

-- the refusal that stands, where it counts before that of the last line
stands : (s : Refusal) (n : ℕ) → (nat_lt s.line n || is_of_length s.why) ≡ true → s ≡ without_count (Some s) n
stands s n h = sym (cond-true (nat_lt s.line n || is_of_length s.why) s (record { line = n; why = BadCount }) h)

-- Of the last line `BadCount` is named, unless a line before it is refused or it is too long.
merge-last : (n : ℕ) (l r : Option Refusal) → IfSome l (λ s. (is_of_length s.why ≡ true) × (s.line ≤ n)) → IfSome r (λ s. (is_of_length s.why ≡ false) × (s.line ≤ n))
    → merge (merge l (Some (record { line = n; why = BadCount }))) r ≡ Some (without_count (merge l r) n)
merge-last n None None long other = refl
merge-last n None (Some s) long other =
    let last : Refusal = record { line = n; why = BadCount } in
    ⊎_elim
    (λ less. earlier-second last s less ∙ ap Some (stands s n (or_left (nat_lt s.line n) (is_of_length s.why) (lt-ltb s.line n less))))
    (λ more. earlier-first last s more ∙ ap Some (sym (cond-false (nat_lt s.line n || is_of_length s.why) s last (or_from (nat_lt s.line n) (is_of_length s.why) (le-ltb s.line n more) other.0))))
    (cases_lt s.line n)
merge-last n (Some s) None long other =
    ap (λ o. merge o None) (earlier-first s (record { line = n; why = BadCount }) long.1)
    ∙ ap Some (stands s n (or_right (nat_lt s.line n) (is_of_length s.why) long.0))
merge-last n (Some s) (Some t) long other =
    ap (λ o. merge o (Some t)) (earlier-first s (record { line = n; why = BadCount }) long.1)
    ∙ ⊎_elim
    (λ less.
    earlier-second s t less ∙ ap Some (stands t n (or_left (nat_lt t.line n) (is_of_length t.why) (lt-ltb t.line n (omega arith))))
    ∙ sym (ap (λ o. Some (without_count o n)) (earlier-second s t less)))
    (λ more.
    earlier-first s t more ∙ ap Some (stands s n (or_right (nat_lt s.line n) (is_of_length s.why) long.0))
    ∙ sym (ap (λ o. Some (without_count o n)) (earlier-first s t more)))
    (cases_lt t.line s.line)

-- a `#S` line is not blank
filled-runs : (lines : List Line) → filter (λ l. are_run_fields l.fields) (filled_lines lines) ≡ run_lines lines
filled-runs lines = filter_twice (λ (l : Line). are_run_fields l.fields) (λ l. not (are_no_fields l.fields)) (λ l blank. no_run-blank l.fields (not-false _ blank)) lines

-- Without one each edge line is missing, and the last line that is not blank is refused besides.
module _ (mode : Mode) (lines : List Line) (none : content_lines lines ≡ []) where
  abbrev crowd : List Refusal
  crowd = refused TooManyConstraints (take 1 (drop most_constraints (constraint_lines lines)))

  abbrev short : List Refusal
  short = refused ShortConstraint (short_lines lines)

  with_edges : (counts : List Refusal) (edges : List Line) → List Refusal
  with_edges counts edges =
      refused LongLine (long_lines lines) ++ counts
      ++ refused BadFields (filter (λ l. not (length l.fields == 2 + weights_of mode)) edges)
      ++ refused BadWeight (filter (λ l. not (list_all is_weight (last_fields mode l))) edges)
      ++ refused BadRange (filter (λ l. let r = range_of mode l in nat_lt r.hi r.lo) edges)
      ++ refused RepeatedEdge (repeats edges)
      ++ refused TooManyEdges (take 1 (drop most_edges edges))
      ++ crowd ++ short

  without_edges : (counts : List Refusal) → with_edges counts (edge_lines lines) ≡ refused LongLine (long_lines lines) ++ counts ++ crowd ++ short
  unfolding with_edges
  without_edges counts =
      ap (λ content. with_edges counts (drop 1 content)) none
      ∙ ap (λ front. front ++ crowd ++ short) (five (refused LongLine (long_lines lines) ++ counts))
    where
      five : (front : List Refusal) → front ++ [] ++ [] ++ [] ++ [] ++ [] ≡ front
      five front = append-nil _ ∙ append-nil _ ∙ append-nil _ ∙ append-nil _ ∙ append-nil _

  three : (front : List Refusal) → earliest (front ++ crowd ++ short) ≡ merge (earliest front) (merge (earliest crowd) (earliest short))
  three front =
      earliest-append (front ++ crowd) short ∙ ap (λ o. merge o (earliest short)) (earliest-append front crowd)
      ∙ merge-assoc (earliest front) (earliest crowd) (earliest short)

  settled-none : earliest (settled_refusals mode lines) ≡ merge (earliest (refused LongLine (long_lines lines))) (merge (earliest crowd) (earliest short))
  unfolding with_edges
  settled-none =
      ap earliest
      (without_edges (refused BadCount (filter (λ l. not (is_count l.fields)) (count_lines lines)))
      ∙ ap (λ content. refused LongLine (long_lines lines) ++ refused BadCount (filter (λ l. not (is_count l.fields)) (take 1 content)) ++ crowd ++ short) none
      ∙ ap (λ front. front ++ crowd ++ short) (append-nil (refused LongLine (long_lines lines))))
      ∙ three (refused LongLine (long_lines lines))

  line-none : earliest (line_refusals mode lines) ≡ merge (merge (earliest (refused LongLine (long_lines lines))) (earliest (refused BadCount (last_filled lines)))) (merge (earliest crowd) (earliest short))
  unfolding with_edges
  line-none =
      ap earliest
      (without_edges (refused BadCount (bad_counts lines))
      ∙ ap (λ counts. refused LongLine (long_lines lines) ++ refused BadCount counts ++ crowd ++ short)
      (cond-true (length (content_lines lines) == 0) (last_filled lines) (filter (λ l. not (is_count l.fields)) (count_lines lines)) (eq-eqb (length (content_lines lines)) 0 (ap length none))))
      ∙ three (refused LongLine (long_lines lines) ++ refused BadCount (last_filled lines))
      ∙ ap (λ o. merge o (merge (earliest crowd) (earliest short))) (earliest-append (refused LongLine (long_lines lines)) (refused BadCount (last_filled lines)))

  module _ (n : ℕ) (low : All (λ l. l.number ≤ n) (filled_lines lines)) where
    long-low : IfSome (earliest (refused LongLine (long_lines lines))) (λ s. (is_of_length s.why ≡ true) × (s.line ≤ n))
    long-low =
        earliest-All (λ s. (is_of_length s.why ≡ true) × (s.line ≤ n)) (refused LongLine (long_lines lines))
        (All-map (λ s. (is_of_length s.why ≡ true) × (s.line ≤ n)) (λ (l : Line). record { line = l.number; why = LongLine }) (long_lines lines)
        (λ k d within. (refl, All-filter (λ (l : Line). nat_lt most_bytes l.bytes) (λ l. l.number ≤ n) (filled_lines lines) low k d within)))

    other-low : (why : Why) (ls : List Line) → is_of_length why ≡ false → All (λ l. l.number ≤ n) ls → IfSome (earliest (refused why ls)) (λ s. (is_of_length s.why ≡ false) × (s.line ≤ n))
    other-low why ls other below =
        earliest-All (λ s. (is_of_length s.why ≡ false) × (s.line ≤ n)) (refused why ls)
        (All-map (λ s. (is_of_length s.why ≡ false) × (s.line ≤ n)) (λ (l : Line). record { line = l.number; why = why }) ls (λ k d within. (other, below k d within)))

    runs-low : All (λ l. l.number ≤ n) (run_lines lines)
    runs-low = subst (All (λ l. l.number ≤ n)) (filled-runs lines) (All-filter (λ l. are_run_fields l.fields) (λ l. l.number ≤ n) (filled_lines lines) low)

    -- The last line that is not blank is refused, unless a refusal that stays counts before it.
    pub line_refusals-last : map (λ l. l.number) (last_filled lines) ≡ n ∷ [] → earliest (line_refusals mode lines) ≡ Some (without_count (earliest (settled_refusals mode lines)) n)
    line_refusals-last is =
        line-none
        ∙ ap (λ o. merge (merge (earliest (refused LongLine (long_lines lines))) o) (merge (earliest crowd) (earliest short))) (by (last_filled lines) is)
        ∙ merge-last n (earliest (refused LongLine (long_lines lines))) (merge (earliest crowd) (earliest short)) long-low
        (merge-IfSome (λ s. (is_of_length s.why ≡ false) × (s.line ≤ n)) (earliest crowd) (earliest short)
        (other-low TooManyConstraints (take 1 (drop most_constraints (constraint_lines lines))) refl
        (All-take (λ (l : Line). l.number ≤ n) 1 (drop most_constraints (constraint_lines lines)) (All-drop (λ (l : Line). l.number ≤ n) most_constraints (constraint_lines lines)
        (first_listed-All (λ l. l.number ≤ n) (filter (λ l. not (is_short l)) (run_lines lines)) (All-filter (λ l. not (is_short l)) (λ l. l.number ≤ n) (run_lines lines) runs-low)))))
        (other-low ShortConstraint (short_lines lines) refl (All-filter is_short (λ (l : Line). l.number ≤ n) (run_lines lines) runs-low)))
        ∙ ap (λ o. Some (without_count o n)) (sym settled-none)
      where
        by : (ls : List Line) → map (λ l. l.number) ls ≡ n ∷ [] → earliest (refused BadCount ls) ≡ Some (record { line = n; why = BadCount })
        by [] is = absurd (let e : n ∷ [] ≡ [] = sym is in cc)
        by (l ∷ []) is = let e : l.number ∷ [] ≡ n ∷ [] = is in let same : l.number ≡ n = cc in ap (λ m. Some (record { line = m; why = BadCount })) same
        by (l ∷ k ∷ ls) is = absurd (let e : l.number ∷ (k.number ∷ map (λ l. l.number) ls) ≡ n ∷ [] = is in cc)

-- the earliest refusal of a line and others behind it
pub earliest-least : (why : Why) (l : Line) (lines : List Line) → All (λ k. l.number ≤ k.number) lines → earliest (refused why (l ∷ lines)) ≡ Some (record { line = l.number; why = why })
earliest-least why l lines low =
    by (record { line = l.number; why = why }) (earliest (refused why lines))
    (earliest-All (λ s. l.number ≤ s.line) (refused why lines) (All-map (λ s. l.number ≤ s.line) (λ (k : Line). record { line = k.number; why = why }) lines low))
  where
    by : (r : Refusal) (o : Option Refusal) → IfSome o (λ s. r.line ≤ s.line) → earlier r o ≡ Some r
    by r None h = refl
    by r (Some s) h = cond-true (leb r.line s.line) (Some r) (Some s) (le-leb r.line s.line h)

-- the lines whose numbers, from n on, pass a test
abbrev pub lines_from : (ℕ → Bool) → ℕ → List Line → List Line
lines_from test n lines = map (λ p. p.1) (filter (λ p. test p.0) (enumerate_from n lines))

module _ (test : ℕ → Bool) where
  passes : (n : ℕ) (l : Line) (lines : List Line) → test n ≡ true → lines_from test n (l ∷ lines) ≡ l ∷ lines_from test (n + 1) lines
  passes n l lines t = ap (λ ps. map (λ (p : ℕ × Line). p.1) ps) (cond-true (test n) ((n, l) ∷ filter (λ p. test p.0) (enumerate_from (n + 1) lines)) _ t)

  fails : (n : ℕ) (l : Line) (lines : List Line) → test n ≡ false → lines_from test n (l ∷ lines) ≡ lines_from test (n + 1) lines
  fails n l lines f = ap (λ ps. map (λ (p : ℕ × Line). p.1) ps) (cond-false (test n) ((n, l) ∷ filter (λ p. test p.0) (enumerate_from (n + 1) lines)) _ f)

  from-All : (P : Line → Type 0) (n : ℕ) (lines : List Line) → All P lines → All P (lines_from test n lines)
  from-All P n [] each = each
  from-All P n (l ∷ lines) each =
      ⊎_elim
      (λ t. subst (All P) (sym (passes n l lines t)) (All-cons P l (lines_from test (n + 1) lines) (All-head P l lines each) (from-All P (n + 1) lines (All-tail P l lines each))))
      (λ f. subst (All P) (sym (fails n l lines f)) (from-All P (n + 1) lines (All-tail P l lines each)))
      (cases_Bool (test n))

  from-none : (n : ℕ) (lines : List Line) → ((e : ℕ) → e < length lines → test (n + e) ≡ false) → lines_from test n lines ≡ []
  from-none n [] none = refl
  from-none n (l ∷ lines) none =
      fails n l lines (subst (λ k. test k ≡ false) (omega arith) (none 0 (omega arith)))
      ∙ from-none (n + 1) lines (λ e within. let same : n + suc e ≡ n + 1 + e = omega arith in subst (λ k. test k ≡ false) same (none (suc e) (omega arith)))

  from-empty : (n : ℕ) (lines : List Line) → lines_from test n lines ≡ [] → (e : ℕ) → e < length lines → test (n + e) ≡ false
  from-empty n [] none e within = absurd (omega arith)
  from-empty n (l ∷ lines) none e within =
      ⊎_elim
      (λ t. absurd (let is : l ∷ lines_from test (n + 1) lines ≡ [] = sym (passes n l lines t) ∙ none in cc))
      (λ f. by e within f (from-empty (n + 1) lines (sym (fails n l lines f) ∙ none)))
      (cases_Bool (test n))
    where
      by : (e : ℕ) → e < length (l ∷ lines) → test n ≡ false → ((d : ℕ) → d < length lines → test (n + 1 + d) ≡ false) → test (n + e) ≡ false
      by zero within f rest = let same : n ≡ n + 0 = omega arith in subst (λ k. test k ≡ false) same f
      by (suc e) within f rest = let same : n + 1 + e ≡ n + suc e = omega arith in subst (λ k. test k ≡ false) same (rest e (omega arith))

  from-first : (why : Why) (n : ℕ) (lines : List Line) (e : ℕ) (d : Line) → e < length lines → test (n + e) ≡ true → ((f : ℕ) → f < e → test (n + f) ≡ false) → Rises lines
      → earliest (refused why (lines_from test n lines)) ≡ Some (record { line = (get_or lines e d).number; why = why })
  from-first why n [] e d within t before rises = absurd (omega arith)
  from-first why n (l ∷ lines) zero d within t before rises =
      let same : n + 0 ≡ n = omega arith in
      ap (λ ls. earliest (refused why ls)) (passes n l lines (subst (λ k. test k ≡ true) same t))
      ∙ earliest-least why l (lines_from test (n + 1) lines)
      (from-All (λ k. l.number ≤ k.number) (n + 1) lines (λ k c inside. rises 0 (suc k) c (omega arith) (omega arith)))
  from-first why n (l ∷ lines) (suc e) d within t before rises =
      let same : n + 0 ≡ n = omega arith in
      let next : n + suc e ≡ n + 1 + e = omega arith in
      ap (λ ls. earliest (refused why ls)) (fails n l lines (subst (λ k. test k ≡ false) same (before 0 (omega arith))))
      ∙ from-first why (n + 1) lines e d (omega arith) (subst (λ k. test k ≡ true) next t)
      (λ f low. let at : n + suc f ≡ n + 1 + f = omega arith in subst (λ k. test k ≡ false) at (before (suc f) (omega arith)))
      (λ i j c less inside. rises (suc i) (suc j) c (omega arith) (omega arith))

-- the same for the edge lines of a block
pub lines_where-none : (test : ℕ → Bool) (lines : List Line) → ((e : ℕ) → e < length (edge_lines lines) → test e ≡ false) → lines_where test lines ≡ []
lines_where-none test lines none = from-none test 0 (edge_lines lines) (λ e within. let same : e ≡ 0 + e = omega arith in subst (λ k. test k ≡ false) same (none e within))

pub lines_where-empty : (test : ℕ → Bool) (lines : List Line) → lines_where test lines ≡ [] → (e : ℕ) → e < length (edge_lines lines) → test e ≡ false
lines_where-empty test lines none e within = let same : 0 + e ≡ e = omega arith in subst (λ k. test k ≡ false) same (from-empty test 0 (edge_lines lines) none e within)

pub edge_lines-rise : (lines : List Line) → Rises lines → Rises (edge_lines lines)
edge_lines-rise lines rises = AllPairs-drop1 (content_lines lines) content
  where
    filled : Rises (filled_lines lines)
    filled = AllPairs-filter (λ a b. a.number ≤ b.number) (λ l. not (are_no_fields l.fields)) lines rises

    content : Rises (content_lines lines)
    content = AllPairs-filter (λ a b. a.number ≤ b.number) (λ l. not (are_hash_fields l.fields)) (filled_lines lines) filled

    AllPairs-drop1 : (ls : List Line) → Rises ls → Rises (drop 1 ls)
    AllPairs-drop1 [] h = h
    AllPairs-drop1 (l ∷ ls) h = λ i j d less within. h (suc i) (suc j) d (omega arith) (omega arith)

pub lines_where-first : (test : ℕ → Bool) (why : Why) (lines : List Line) (e : ℕ) (d : Line) → e < length (edge_lines lines) → test e ≡ true → ((f : ℕ) → f < e → test f ≡ false) → Rises (edge_lines lines)
    → earliest (refused why (lines_where test lines)) ≡ Some (record { line = (get_or (edge_lines lines) e d).number; why = why })
lines_where-first test why lines e d within t before rises =
    let same : (k : ℕ) → k ≡ 0 + k = λ k. omega arith in
    from-first test why 0 (edge_lines lines) e d within (subst (λ k. test k ≡ true) (same e) t)
    (λ f low. subst (λ k. test k ≡ false) (same f) (before f low)) rises

module _ (graph : RawGraph) (lines : List Line) (each : edge_count graph.net ≡ length (edge_lines lines)) where
  -- In a net no edge closes a cycle.
  pub cycle_lines-none : IsNet graph.net → cycle_lines graph lines ≡ []
  cycle_lines-none net =
      lines_where-none (closes_cycle graph.net) lines
      (λ e within.
      let whole : IsNet (graph_before graph.net (edge_count graph.net)) =
      subst (λ (edges : List (ℕ × ℕ)). IsNet (record { vertices = graph.net.vertices; edges = edges })) (sym (take_all (length graph.net.edges) graph.net.edges (omega arith))) net in
      false_from_ne_true _ (closes_none graph.net (edge_count graph.net) e (omega arith) whole (omega arith)))

  -- The first edge that closes a cycle is refused by its line.
  pub cycle_lines-first : (e : ℕ) (d : Line) → FollowsNet graph.net e → ClosesCycle graph.net e → Rises (edge_lines lines)
      → earliest (refused Cycle (cycle_lines graph lines)) ≡ Some (record { line = (get_or (edge_lines lines) e d).number; why = Cycle })
  cycle_lines-first e d follows closes rises =
      lines_where-first (closes_cycle graph.net) Cycle lines e d (omega (arith, follows.there)) (closes_some graph.net e follows.before closes)
      (λ f low. false_from_ne_true _ (closes_none graph.net e f (omega (arith, follows.there)) follows.before low)) rises

pub no_repeated : (g : Graph) → AllPairs (λ a b. a ≢ b) g.edges → (e : ℕ) → e < edge_count g → ¬ IsRepeated g e
no_repeated g distinct e there (k, within, is) =
    let before : k < e = omega (arith, within, length-take-le e g.edges (omega arith)) in
    distinct k e (0, 0) before there (sym (get_or-take e g.edges k (0, 0) before) ∙ get_or_default (take e g.edges) k (0, 0) _ within ∙ is)

-- an inner vertex is a vertex
pub inner_inside : (g : Graph) → All (IsInside g.vertices) g.edges → (v : ℕ) → IsTrue (is_inner g v) → v < g.vertices
inner_inside g inside v inner =
    let out = edge_out_of g v (inner-parts g v inner).1 in
    subst (λ u. u < g.vertices) out.2 (inside out.0 (0, 0) out.1).0

-- the numbers below n that pass a test
filter-below_none : (test : ℕ → Bool) (n : ℕ) → ((u : ℕ) → u < n → test u ≡ false) → filter test (below n) ≡ []
filter-below_none test zero none = refl
filter-below_none test (suc n) none =
    filter-append test (below n) (n ∷ [])
    ∙ ap (λ us. us ++ filter test (n ∷ [])) (filter-below_none test n (λ u low. none u (omega arith)))
    ∙ cond-false (test n) (n ∷ []) [] (none n (omega arith))

filter-below_first : (test : ℕ → Bool) (n v : ℕ) → v < n → test v ≡ true → ((u : ℕ) → u < v → test u ≡ false) → (rest : List ℕ) × (filter test (below n) ≡ v ∷ rest)
filter-below_first test zero v within t before = absurd (omega arith)
filter-below_first test (suc n) v within t before =
    ⊎_elim
    (λ less.
    let found = filter-below_first test n v less t before in
    (found.0 ++ filter test (n ∷ []), filter-append test (below n) (n ∷ []) ∙ ap (λ us. us ++ filter test (n ∷ [])) found.1))
    (λ last.
    let same : v ≡ n = omega arith in (
      [],
      filter-append test (below n) (n ∷ []) ∙ ap (λ us. us ++ filter test (n ∷ [])) (filter-below_none test n (λ u low. before u (omega arith)))
          ∙ cond-true (test n) (n ∷ []) [] (subst (λ u. test u ≡ true) same t) ∙ ap (λ u. u ∷ []) (sym same),
    ))
    (cases_lt v n)

module _ (graph : RawGraph) (lines : List Line) where
  -- the weights of the edges
  abbrev pub weight_of : ℕ → ℕ
  weight_of e = (range_at graph.ranges e).lo

  balanced_there : (v : ℕ) → (IsTrue (is_inner graph.net v) → flow_into graph.net weight_of v ≡ flow_out_of graph.net weight_of v) → is_unbalanced graph v ≡ false
  balanced_there v same =
      ⊎_elim
      (λ inner. and_right (is_inner graph.net v) _ (ap not (eq-eqb _ _ (same inner))))
      (λ outer. and_left (is_inner graph.net v) _ outer)
      (cases_Bool (is_inner graph.net v))

  -- A balanced flow leaves no line to refuse.
  pub unconserved_lines-none : IsBalanced graph.net weight_of → unconserved_lines Exact graph lines ≡ []
  unconserved_lines-none balanced =
      ap (λ vs. lines_naming graph lines vs) (filter-below_none (is_unbalanced graph) graph.net.vertices (λ u low. balanced_there u (balanced u)))

  -- whether an edge names a vertex
  abbrev pub names_vertex : ℕ → ℕ → Bool
  names_vertex v e = (tail graph.net e == v) || (head graph.net e == v)

  -- The first inner vertex that is not balanced is refused by the first line that names it.
  pub unconserved_lines-first : (v : ℕ) → v < graph.net.vertices → IsFirstUnbalanced graph.net weight_of v
      → (e : ℕ) (d : Line) → e < length (edge_lines lines) → names_vertex v e ≡ true → ((f : ℕ) → f < e → names_vertex v f ≡ false) → Rises (edge_lines lines)
      → earliest (refused Unconserved (unconserved_lines Exact graph lines)) ≡ Some (record { line = (get_or (edge_lines lines) e d).number; why = Unconserved })
  unconserved_lines-first v vertex first e d within t before rises =
      let unbalanced : is_unbalanced graph v ≡ true =
      and_from (is_inner graph.net v) _ first.inner (ap not (ne_eqb (flow_into graph.net weight_of v) (flow_out_of graph.net weight_of v) first.unbalanced)) in
      let found = filter-below_first (is_unbalanced graph) graph.net.vertices v vertex unbalanced (λ u low. balanced_there u (first.earlier u low)) in
      ap (λ vs. earliest (refused Unconserved (lines_naming graph lines vs))) found.1
      ∙ lines_where-first (names_vertex v) Unconserved lines e d within t before rises
