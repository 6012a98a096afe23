-- Texts that tell of one run after another.
use Rattle.std.proofs.Common.{◌≡◌, ℕ, ◌+◌, ◌<◌, List, [], ◌∷◌, ◌++◌, length, take, get_or, refl, sym, ◌∙◌, ap, subst, append_assoc, append-nil}
use Rattle.std.proofs.lemmas.List.{take_more}
use Rattle.graph_text.specs.declared.block.RawGraph.{RawGraph}
use Rattle.flowruns_cli.specs.RightTexts.{TellsRun, TellsRuns}

-- one run more
tells-more : (graph : RawGraph) (runs : List (List ℕ)) (text run more : List ℕ) →
    TellsRuns graph runs text → TellsRun graph run more → TellsRuns graph (runs ++ run ∷ []) (text ++ more)
tells-more graph [] text run more h one = (more, [], ap (λ t. t ++ more) h ∙ sym (append-nil more), one, refl)
tells-more graph (first ∷ others) text run more h one =
    (h.0, h.1 ++ more, ap (λ t. t ++ more) h.2 ∙ append_assoc h.0 h.1 more, h.3, tells-more graph others h.1 run more h.4 one)

-- the text tells of the first n runs
abbrev pub TellsFirst : RawGraph → ℕ → List ℕ → List ℕ → Type 0
TellsFirst graph n before text = (told : List ℕ) × TellsRuns graph (take n graph.runs) told × (text ≡ before ++ told)

-- and of the next one
pub tells-next : (graph : RawGraph) (n : ℕ) (before text after : List ℕ) → n < length graph.runs → TellsFirst graph n before text →
    ((told : List ℕ) × TellsRun graph (get_or graph.runs n []) told × (after ≡ text ++ told)) → TellsFirst graph (n + 1) before after
tells-next graph n before text after there h one = (
  h.0 ++ one.0,
  subst (λ runs. TellsRuns graph runs (h.0 ++ one.0)) (sym (take_more graph.runs n [] there))
      (tells-more graph (take n graph.runs) h.0 (get_or graph.runs n []) one.0 h.1 one.1),
  one.2 ∙ ap (λ t. t ++ one.0) h.2 ∙ append_assoc before h.0 one.0,
)
