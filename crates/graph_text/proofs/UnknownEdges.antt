-- The first `#S` line with two neighbours that are no edge is the first among the constraints.
use Rattle.std.proofs.Common.{◌≡◌, ℕ, suc, ◌<◌, ◌≤◌, Bool, false, not, cond, List, [], ◌∷◌, map, filter, length, refl, sym, ap, ◌∙◌, ⊎_elim, arith}
use Rattle.std.specs.Prelude.{Option, Some, None}
use Rattle.std.proofs.lemmas.Bool.{cases_Bool, cond-true, cond-false, not-false, ltb-true}
use Rattle.std.proofs.lemmas.List.Elements.{All-filter}
use Rattle.std.proofs.lemmas.List.Kept.{AllPairs-filter}
use Rattle.report_terms.specs.declared.refusal.Why.TheVariants.{UnknownEdge}
use Rattle.report_terms.specs.declared.refusal.Refusal.{Refusal}
use Rattle.graph_text.specs.declared.block.RawGraph.{RawGraph}
use Rattle.graph_text.specs.Constraints.{listing_of, first_unknown}
use Rattle.graph_text.specs.Labels.{LabelLists}
use Rattle.graph_text.specs.Lines.{are_run_fields}
use Rattle.graph_text.specs.Reading.{Line, refused, earliest, listed, same_fields, is_short, run_lines, first_listed, constraint_lines, has_unknown, unknown_lines}
use Rattle.graph_text.proofs.FirstLists.{same_fields-Decides, filter_twice, others}
use Rattle.graph_text.proofs.Finishing.{Rises, earliest-least}

-- the refusal of the line of this number
abbrev pub unknown_refusal : Option ℕ → Option Refusal
unknown_refusal None = None
unknown_refusal (Some n) = Some (record { line = n; why = UnknownEdge })

module _ (labels : LabelLists) where
  abbrev unknown : Line → Bool
  unknown l = has_unknown labels.names labels.edges (listed l)

  -- a list that is passed over does not count
  first-filter : (q : Line → Bool) → ((l : Line) → q l ≡ false → unknown l ≡ false) → (lines : List Line)
      → first_unknown labels (map listing_of (filter q lines)) ≡ first_unknown labels (map listing_of lines)
  first-filter q passed [] = refl
  first-filter q passed (l ∷ lines) =
      ⊎_elim
      (λ t.
      ap (λ ls. first_unknown labels (map listing_of ls)) (cond-true (q l) (l ∷ filter q lines) (filter q lines) t)
      ∙ ap (cond (unknown l) (Some l.number)) (first-filter q passed lines))
      (λ f.
      ap (λ ls. first_unknown labels (map listing_of ls)) (cond-false (q l) (l ∷ filter q lines) (filter q lines) f)
      ∙ first-filter q passed lines
      ∙ sym (cond-false (unknown l) (Some l.number) (first_unknown labels (map listing_of lines)) (passed l f)))
      (cases_Bool (q l))

  first-listed : (lines : List Line) → Rises lines → earliest (refused UnknownEdge (filter unknown lines)) ≡ unknown_refusal (first_unknown labels (map listing_of (first_listed lines)))
  first-listed [] rises = refl
  first-listed (l ∷ lines) rises =
      ⊎_elim
      (λ t.
      ap (λ ls. earliest (refused UnknownEdge ls)) (cond-true (unknown l) (l ∷ filter unknown lines) (filter unknown lines) t)
      ∙ earliest-least UnknownEdge l (filter unknown lines)
      (All-filter unknown (λ k. l.number ≤ k.number) lines (λ k d within. rises 0 (suc k) d (omega arith) (omega arith)))
      ∙ sym (ap unknown_refusal (cond-true (unknown l) (Some l.number) (first_unknown labels (map listing_of (others l (first_listed lines)))) t)))
      (λ f.
      ap (λ ls. earliest (refused UnknownEdge ls)) (cond-false (unknown l) (l ∷ filter unknown lines) (filter unknown lines) f)
      ∙ first-listed lines (λ i j d less within. rises (suc i) (suc j) d (omega arith) (omega arith))
      ∙ sym (ap unknown_refusal (cond-false (unknown l) (Some l.number) (first_unknown labels (map listing_of (others l (first_listed lines)))) f ∙ first-filter (λ k. not (same_fields (listed l) (listed k))) (alike f) (first_listed lines))))
      (cases_Bool (unknown l))
    where
      alike : unknown l ≡ false → (k : Line) → not (same_fields (listed l) (listed k)) ≡ false → unknown k ≡ false
      alike f k same = ap (has_unknown labels.names labels.edges) (sym ((same_fields-Decides (listed l) (listed k)).0 (not-false _ same))) ∙ f

-- fewer than two vertices have no neighbours
short-known : (names : List (List ℕ)) (edges : List (ℕ × ℕ)) (vertices : List (List ℕ)) → length vertices < 2 → has_unknown names edges vertices ≡ false
short-known names edges [] short = refl
short-known names edges (u ∷ []) short = refl
short-known names edges (u ∷ v ∷ vs) short = absurd (omega arith)

-- The first `#S` line that is refused is the first constraint with two neighbours that are no edge.
pub unknown_lines-first : (graph : RawGraph) (lines : List Line) → Rises lines
    → earliest (refused UnknownEdge (unknown_lines graph lines)) ≡ unknown_refusal (first_unknown graph.labels (map listing_of (constraint_lines lines)))
unknown_lines-first graph lines rises =
    ap (λ ls. earliest (refused UnknownEdge ls))
    (sym (filter_twice (λ (l : Line). has_unknown graph.labels.names graph.labels.edges (listed l)) (λ l. not (is_short l))
    (λ l short. short-known graph.labels.names graph.labels.edges (listed l) (ltb-true (length (listed l)) 2 (not-false _ short))) (run_lines lines)))
    ∙ first-listed graph.labels (filter (λ l. not (is_short l)) (run_lines lines))
    (AllPairs-filter (λ a b. a.number ≤ b.number) (λ l. not (is_short l)) (run_lines lines)
    (AllPairs-filter (λ a b. a.number ≤ b.number) (λ l. are_run_fields l.fields) lines rises))
