-- The line of a run, by its parts, and the runs of a graph that was read.
use Rattle.std.proofs.Common.{◌≡◌, ℕ, ◌<◌, List, [], ◌∷◌, ◌++◌, ◌&&◌, length, get_or, nat_le, true, sym, ◌∙◌, ap, append_assoc, arith}
use Rattle.std.specs.Prelude.{flat_map, map, decimal, All}
use Rattle.std.specs.List.{join_with_byte}
use Rattle.std.proofs.lemmas.Bool.{and_parts}
use Rattle.std.proofs.lemmas.List.Folds.{flat_map-map}
use Rattle.decomposition.specs.Graph.{Graph, tail, head, IsRun, is_source, is_sink, is_run, is_path, walk_end}
use Rattle.decomposition.specs.Answer.{IsAnswer}
use Rattle.decomposition.proofs.Root.{all-place}
use Rattle.graph_text.specs.Accepted.{IsAccepted}
use Rattle.graph_text.specs.Labels.{LabelLists, name_at, tail_at, head_at}
use Rattle.graph_text.specs.declared.block.RawGraph.{RawGraph}
use Rattle.report_reading.specs.Names.{graph_at, names_along}
use Rattle.report_reading.proofs.Lawful.{run-same}
use Rattle.text_lines.specs.TextLines.{spaced}
use Rattle.text_lines.proofs.LineFields.{join-fields}
use Rattle.flowruns_cli.specs.RightTexts.{runs_mode}
use Rattle.flowruns_cli.specs.RunText.{weighted_line}

-- the line of a word, a number and a run
pub weighted_line-of : (labels : LabelLists) (text word : List ℕ) (number : ℕ) (run : List ℕ) →
    (((text ++ word) ++ spaced (decimal number)) ++ flat_map spaced (names_along labels run)) ++ 10 ∷ [] ≡ text ++ weighted_line labels word number run
weighted_line-of labels text word number run =
    let names = flat_map spaced (names_along labels run) in
    ap (λ x. x ++ 10 ∷ [])
    (ap (λ x. x ++ names) (append_assoc text word (spaced (decimal number)))
    ∙ append_assoc text (word ++ spaced (decimal number)) names
    ∙ ap (λ x. text ++ x) (append_assoc word (spaced (decimal number)) names ∙ sym (join-fields word (decimal number ∷ names_along labels run))))
    ∙ append_assoc text (join_with_byte 32 (word ∷ decimal number ∷ names_along labels run)) (10 ∷ [])

-- the name of a vertex behind a space
abbrev pub spaced_name : LabelLists → ℕ → List ℕ
spaced_name labels v = spaced (name_at labels v)

-- the name of the vertex that an edge enters, behind a space
abbrev pub spaced_head : LabelLists → ℕ → List ℕ
spaced_head labels e = spaced_name labels (head_at labels e)

-- the names along a run: that of the first tail, and those of the heads
pub names_along-run : (labels : LabelLists) (run : List ℕ) → 0 < length run →
    spaced_name labels (tail_at labels (get_or run 0 0)) ++ flat_map (spaced_head labels) run ≡ flat_map spaced (names_along labels run)
names_along-run labels [] some = absurd (omega (arith, some))
names_along-run labels (e ∷ run) some =
    ap (λ x. spaced_name labels (tail_at labels e) ++ x)
    (sym (flat_map-map (spaced_name labels) (head_at labels) (e ∷ run))
    ∙ sym (flat_map-map spaced (name_at labels) (map (head_at labels) (e ∷ run))))

-- a path is a run
path-run : (g : Graph) (es : List ℕ) → is_path g es ≡ true → is_run g es ≡ true
path-run g [] path = path
path-run g (e ∷ es) path =
    let rest = is_run g (e ∷ es) && is_sink g (walk_end g (head g e) es) in
    (and_parts (is_run g (e ∷ es)) (is_sink g (walk_end g (head g e) es)) (and_parts (is_source g (tail g e)) rest path).1).0

module _ (graph : RawGraph) (valid : IsAccepted runs_mode graph) where
  -- a run of the net is one of the labels
  pub run_told : (run : List ℕ) → IsRun graph.net run → IsRun (graph_at graph.labels) run
  run_told run is = sym (run-same graph.net (graph_at graph.labels) (sym valid.edges) run) ∙ is

  -- and so is each path of an answer
  pub paths_told : (shown : List (List ℕ × ℕ)) → IsAnswer graph.net shown → All (λ entry. IsRun (graph_at graph.labels) entry.0) shown
  paths_told shown answer k d there =
      let entry = get_or shown k d in
      let parts = and_parts (is_path graph.net entry.0) (nat_le 1 entry.1)
      (all-place (λ (entry : List ℕ × ℕ). is_path graph.net entry.0 && nat_le 1 entry.1) shown d k answer there) in
      run_told entry.0 (path-run graph.net entry.0 parts.0)

  -- the runs that are asked for are runs of the net
  pub run_asked : (k : ℕ) → k < length graph.runs → IsRun graph.net (get_or graph.runs k [])
  run_asked k there = all-place (is_run graph.net) graph.runs [] k valid.instance.runs there
