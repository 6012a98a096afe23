-- The graph of lines of which none is refused for itself: its edges and its ranges.
use Rattle.std.proofs.Common.{◌≡◌, ◌≢◌, ℕ, ◌+◌, ◌-◌, ◌<◌, ◌≤◌, Bool, true, false, not, cond, leb, ltb, ◌&&◌, List, [], ◌∷◌, ◌++◌, map, filter, length, take, drop, get_or, Contains, refl, sym, ap, ◌∙◌, ⊎_elim, arith, length-drop, length-take}
use Rattle.std.specs.Prelude.{All, AllPairs, ◌==◌, nat_le, Option, Some, None}
use Rattle.std.specs.List.{list_all, before_first}
use Rattle.std.specs.Option.{unwrap_or}
use Rattle.std.proofs.lemmas.List.Folds.{list_all-map}
use Rattle.std.specs.Str.{bytes_eq}
use Rattle.std.proofs.lemmas.Bool.{true≢false, cases_Bool, cond-true, cond-false, cond_both, and_parts, and_from, not-false, eqb-true, eq-eqb, ltb-false, leb-true, le-leb}
use Rattle.std.proofs.lemmas.List.{length-map, length-take-le}
use Rattle.std.proofs.lemmas.List.Elements.{All-nil, All-cons, All-head, All-tail, All-map, All-weaker}
use Rattle.std.proofs.lemmas.List.Kept.{AllPairs-cons}
use Rattle.std.proofs.lemmas.Slice.Eq.{bytes_eq-Decides}
use Rattle.decomposition.specs.declared.Mode.{Mode}
use Rattle.decomposition.specs.declared.Range.{Range}
use Rattle.decomposition.proofs.Open.{all-from_places}
use Rattle.report_terms.specs.declared.refusal.Why.{Why}
use Rattle.report_terms.specs.declared.refusal.Why.TheVariants.{BadFields, BadWeight, BadRange, RepeatedEdge, TooManyEdges, TooManyConstraints, ShortConstraint}
use Rattle.report_terms.specs.declared.refusal.Refusal.{Refusal}
use Rattle.graph_text.specs.Draft.{settled_refusals}
use Rattle.graph_text.specs.Reading.{Line, most_edges, most_constraints, constraint_lines, short_lines, most_weight, edge_lines, ends_of, same_fields, last_fields, weights_of, value_of, range_in, range_of, refused, bad_fields, bad_weights, bad_ranges, repeats, line_refusals, earlier, earliest, names_of, edges_of, vertex_of, pair_in, edge_of, is_weight_form, number_of}
use Rattle.graph_text.proofs.Places.{place_of_contained}
use Rattle.graph_text.proofs.Mentions.{ends-Contains}

-- where there is no earliest refusal there is none
pub earliest-none : (rs : List Refusal) → earliest rs ≡ None → rs ≡ []
earliest-none [] h = refl
earliest-none (r ∷ rs) h = absurd (some r (earliest rs) h)
  where
    some : (r : Refusal) (o : Option Refusal) → earlier r o ≡ None → ⊥
    some r None h = cc
    some r (Some s) h = ⊎_elim (λ t. let e : Some r ≡ None = sym (cond-true (leb r.line s.line) (Some r) (Some s) t) ∙ h in cc) (λ f. let e : Some s ≡ None = sym (cond-false (leb r.line s.line) (Some r) (Some s) f) ∙ h in cc) (cases_Bool (leb r.line s.line))

pub append-empty : {X : Type 0} (xs ys : List X) → xs ++ ys ≡ [] → (xs ≡ []) × (ys ≡ [])
append-empty [] ys h = (refl, h)
append-empty (x ∷ xs) ys h = absurd (let e : x ∷ (xs ++ ys) ≡ [] = h in cc)

pub refused-empty : (why : Why) (lines : List Line) → refused why lines ≡ [] → lines ≡ []
refused-empty why [] h = refl
refused-empty why (l ∷ lines) h = absurd (let e : record { line = l.number; why = why } ∷ refused why lines ≡ [] = h in cc)

pub filter-empty : {X : Type 0} (p : X → Bool) (xs : List X) → filter p xs ≡ [] → All (λ x. p x ≡ false) xs
filter-empty p [] h = All-nil (λ x. p x ≡ false)
filter-empty p (x ∷ xs) h =
    ⊎_elim
    (λ t. absurd (let e : x ∷ filter p xs ≡ [] = sym (cond-true (p x) (x ∷ filter p xs) (filter p xs) t) ∙ h in cc))
    (λ f. All-cons (λ x. p x ≡ false) x xs f (filter-empty p xs (sym (cond-false (p x) (x ∷ filter p xs) (filter p xs) f) ∙ h)))
    (cases_Bool (p x))

pub few-from_none : {X : Type 0} (n : ℕ) (xs : List X) → take 1 (drop n xs) ≡ [] → length xs ≤ n
few-from_none n xs h =
    let e : length (take 1 (drop n xs)) ≡ 0 = ap length h in
    omega (arith, length-take 1 (drop n xs), length-drop n xs)

-- no line is refused for its fields, its weights, its range, a repeated edge, or as one edge or one constraint too many
pub record AreSound (mode : Mode) (lines : List Line) : Type 0 where
  pub fields : bad_fields mode lines ≡ []
  pub weights : bad_weights mode lines ≡ []
  pub ranges : bad_ranges mode lines ≡ []
  pub once : repeats (edge_lines lines) ≡ []
  pub few : take 1 (drop most_edges (edge_lines lines)) ≡ []
  pub few_constraints : take 1 (drop most_constraints (constraint_lines lines)) ≡ []

sound-parts : (mode : Mode) (lines : List Line) (front : List Refusal)
    → front ++ refused BadFields (bad_fields mode lines) ++ refused BadWeight (bad_weights mode lines) ++ refused BadRange (bad_ranges mode lines)
    ++ refused RepeatedEdge (repeats (edge_lines lines)) ++ refused TooManyEdges (take 1 (drop most_edges (edge_lines lines)))
    ++ refused TooManyConstraints (take 1 (drop most_constraints (constraint_lines lines))) ++ refused ShortConstraint (short_lines lines) ≡ []
    → AreSound mode lines
sound-parts mode lines front none =
    let short = append-empty _ (refused ShortConstraint (short_lines lines)) none in
    let crowd = append-empty _ (refused TooManyConstraints (take 1 (drop most_constraints (constraint_lines lines)))) short.0 in
    let many = append-empty _ (refused TooManyEdges (take 1 (drop most_edges (edge_lines lines)))) crowd.0 in
    let repeated = append-empty _ (refused RepeatedEdge (repeats (edge_lines lines))) many.0 in
    let ranges = append-empty _ (refused BadRange (bad_ranges mode lines)) repeated.0 in
    let weights = append-empty _ (refused BadWeight (bad_weights mode lines)) ranges.0 in
    let fields = append-empty front (refused BadFields (bad_fields mode lines)) weights.0 in
    record {
      fields = refused-empty BadFields _ fields.1;
      weights = refused-empty BadWeight _ weights.1;
      ranges = refused-empty BadRange _ ranges.1;
      once = refused-empty RepeatedEdge _ repeated.1;
      few = refused-empty TooManyEdges _ many.1;
      few_constraints = refused-empty TooManyConstraints _ crowd.1;
    }

pub AreSound-from_settled : (mode : Mode) (lines : List Line) → earliest (settled_refusals mode lines) ≡ None → AreSound mode lines
AreSound-from_settled mode lines none = sound-parts mode lines _ (earliest-none (settled_refusals mode lines) none)

pub AreSound-from_line : (mode : Mode) (lines : List Line) → earliest (line_refusals mode lines) ≡ None → AreSound mode lines
AreSound-from_line mode lines none = sound-parts mode lines _ (earliest-none (line_refusals mode lines) none)

-- the edge of a line by its two ends
inside-pair : (names xs : List (List ℕ)) → length xs ≡ 2 → All (Contains names) xs
    → ((pair_in (map (vertex_of names) xs)).0 < length names) × ((pair_in (map (vertex_of names) xs)).1 < length names)
inside-pair names [] two named = absurd (omega arith)
inside-pair names (u ∷ []) two named = absurd (omega arith)
inside-pair names (u ∷ v ∷ []) two named =
    ((place_of_contained bytes_eq-Decides names u u (named 0 [] (omega arith))).0, (place_of_contained bytes_eq-Decides names v v (named 1 [] (omega arith))).0)
inside-pair names (u ∷ v ∷ w ∷ ws) two named = absurd (omega arith)

same_name : (names : List (List ℕ)) (a b : List ℕ) → Contains names a → Contains names b → vertex_of names a ≡ vertex_of names b → bytes_eq a b ≡ true
same_name names a b first second e =
    (bytes_eq-Decides a b).1
    (sym (place_of_contained bytes_eq-Decides names a [] first).1 ∙ ap (λ n. get_or names n []) e ∙ (place_of_contained bytes_eq-Decides names b [] second).1)

same-pair : (names xs ys : List (List ℕ)) → length xs ≡ 2 → length ys ≡ 2 → All (Contains names) xs → All (Contains names) ys
    → pair_in (map (vertex_of names) xs) ≡ pair_in (map (vertex_of names) ys) → same_fields xs ys ≡ true
same-pair names [] ys two more named there e = absurd (omega (arith, two))
same-pair names (u ∷ []) ys two more named there e = absurd (omega (arith, two))
same-pair names (u ∷ v ∷ w ∷ ws) ys two more named there e = absurd (omega (arith, two))
same-pair names (u ∷ v ∷ []) [] two more named there e = absurd (omega (arith, more))
same-pair names (u ∷ v ∷ []) (a ∷ []) two more named there e = absurd (omega (arith, more))
same-pair names (u ∷ v ∷ []) (a ∷ b ∷ c ∷ cs) two more named there e = absurd (omega (arith, more))
same-pair names (u ∷ v ∷ []) (a ∷ b ∷ []) two more named there e =
    and_from (bytes_eq u a) (bytes_eq v b && true) (same_name names u a (named 0 [] (omega arith)) (there 0 [] (omega arith)) (ap (λ (p : ℕ × ℕ). p.0) e))
    (and_from (bytes_eq v b) true (same_name names v b (named 1 [] (omega arith)) (there 1 [] (omega arith)) (ap (λ (p : ℕ × ℕ). p.1) e)) refl)

-- a line has two ends, which are among the names
record HasEnds (names : List (List ℕ)) (l : Line) : Type 0 where
  two : length (ends_of l) ≡ 2
  named : All (Contains names) (ends_of l)

distinct-edges : (names : List (List ℕ)) (lines : List Line) → All (HasEnds names) lines → repeats lines ≡ [] → AllPairs (λ a b. a ≢ b) (map (edge_of names) lines)
distinct-edges names [] each once = λ i j d before within. absurd (omega (arith, before, within))
distinct-edges names (l ∷ lines) each once =
    let parts = append-empty (filter (λ k. same_fields (ends_of l) (ends_of k)) lines) (repeats lines) once in
    let here : HasEnds names l = All-head (HasEnds names) l lines each in
    let rest : All (HasEnds names) lines = All-tail (HasEnds names) l lines each in
    let others = filter-empty (λ k. same_fields (ends_of l) (ends_of k)) lines parts.0 in
    AllPairs-cons (λ a b. a ≢ b) (edge_of names l) (map (edge_of names) lines)
    (All-map (λ e. edge_of names l ≢ e) (edge_of names) lines
    (λ k d within same. let there : HasEnds names (get_or lines k d) = rest k d within in
    true≢false (sym (same-pair names (ends_of l) (ends_of (get_or lines k d)) here.two there.two here.named there.named same) ∙ others k d within)))
    (distinct-edges names lines rest parts.1)

-- the value of a weight is never too great
value_of-le : (field : List ℕ) → value_of field ≤ most_weight
value_of-le field = capped (is_weight_form field) (number_of (before_first (λ b. b == 46) field))
  where
    capped : (form : Bool) (value : ℕ) → unwrap_or (cond (form && leb value most_weight) (Some value) None) 0 ≤ most_weight
    capped form value =
        cond_both (form && leb value most_weight) (Some value) None (λ o. unwrap_or o 0 ≤ most_weight)
        (λ t. leb-true value most_weight (and_parts form (leb value most_weight) t).1) (λ _. omega arith)

range-high : (fields : List (List ℕ)) → (range_in fields).hi ≤ most_weight
range-high [] = omega arith
range-high (w ∷ []) = value_of-le w
range-high (lo ∷ hi ∷ fields) = value_of-le hi

range-single : (fields : List (List ℕ)) → length fields ≡ 1 → (range_in fields).lo ≡ (range_in fields).hi
range-single [] one = refl
range-single (w ∷ []) one = refl
range-single (lo ∷ hi ∷ fields) one = absurd (omega arith)

-- a line that stands for none
no_line : Line
no_line = record { number = 0; bytes = 0; fields = [] }

module _ (mode : Mode) (lines : List Line) (sound : AreSound mode lines) where
  -- the number of fields of each edge line
  pub counted : All (λ l. length l.fields ≡ 2 + weights_of mode) (edge_lines lines)
  counted =
      All-weaker (λ l. not (length l.fields == 2 + weights_of mode) ≡ false) (λ l. length l.fields ≡ 2 + weights_of mode)
      (λ l f. eqb-true _ _ (not-false _ f)) (edge_lines lines)
      (filter-empty (λ (l : Line). not (length l.fields == 2 + weights_of mode)) (edge_lines lines) sound.fields)

  with_ends : All (HasEnds (names_of lines)) (edge_lines lines)
  with_ends = λ k d within. record {
    two = length-take-le 2 (get_or (edge_lines lines) k d).fields (omega (arith, counted k d within));
    named = ends-Contains (edge_lines lines) k d within;
  }

  -- the ends of each edge are vertices
  pub edges_inside : All (λ e. (e.0 < length (names_of lines)) × (e.1 < length (names_of lines))) (edges_of lines)
  edges_inside =
      All-map (λ (e : ℕ × ℕ). (e.0 < length (names_of lines)) × (e.1 < length (names_of lines))) (edge_of (names_of lines)) (edge_lines lines)
      (λ k d within. let ends = with_ends k d within in inside-pair (names_of lines) (ends_of (get_or (edge_lines lines) k d)) ends.two ends.named)

  -- no two edges are equal
  pub edges_distinct : AllPairs (λ a b. a ≢ b) (edges_of lines)
  edges_distinct = distinct-edges (names_of lines) (edge_lines lines) with_ends sound.once

  -- there are few
  pub few_edges : length (edges_of lines) ≤ most_edges
  few_edges = omega (arith, few-from_none most_edges (edge_lines lines) sound.few, length-map (edge_lines lines) (edge_of (names_of lines)))

  -- and as many ranges
  pub range_each : length (map (range_of mode) (edge_lines lines)) ≡ length (edges_of lines)
  range_each = length-map (edge_lines lines) (range_of mode) ∙ sym (length-map (edge_lines lines) (edge_of (names_of lines)))

  abbrev ranges_of_lines : List Range
  ranges_of_lines = map (range_of mode) (edge_lines lines)

  -- each range is one, and not too great
  pub ranges_bounded : list_all (λ r. nat_le r.lo r.hi && nat_le r.hi 1000000000000) ranges_of_lines ≡ true
  ranges_bounded =
      list_all-map (λ (r : Range). nat_le r.lo r.hi && nat_le r.hi 1000000000000) (range_of mode) (edge_lines lines)
      ∙ all-from_places (λ l. nat_le (range_of mode l).lo (range_of mode l).hi && nat_le (range_of mode l).hi 1000000000000) (edge_lines lines) no_line
      (λ k within.
      let r = range_of mode (get_or (edge_lines lines) k no_line) in
      let rising : r.lo ≤ r.hi = ltb-false r.hi r.lo (filter-empty (λ (l : Line). ltb (range_of mode l).hi (range_of mode l).lo) (edge_lines lines) sound.ranges k no_line within) in
      and_from _ _ (le-leb r.lo r.hi rising) (le-leb r.hi 1000000000000 (range-high (last_fields mode (get_or (edge_lines lines) k no_line)))))

  -- with one weight a line both bounds are this weight
  pub ranges_single : weights_of mode ≡ 1 → list_all (λ r. r.lo == r.hi) ranges_of_lines ≡ true
  ranges_single one =
      list_all-map (λ (r : Range). r.lo == r.hi) (range_of mode) (edge_lines lines)
      ∙ all-from_places (λ l. (range_of mode l).lo == (range_of mode l).hi) (edge_lines lines) no_line
      (λ k within.
      let fields = (get_or (edge_lines lines) k no_line).fields in
      let last : length (last_fields mode (get_or (edge_lines lines) k no_line)) ≡ 1 = omega (arith, length-drop (length fields - weights_of mode) fields, counted k no_line within, one) in
      eq-eqb _ _ (range-single (last_fields mode (get_or (edge_lines lines) k no_line)) last))
