-- What a run over the text of a split graph wrote.
use Rattle.std.proofs.Common.{◌≡◌, ◌<◌, ◌^◌, ℕ, List, [], ◌∷◌, false, length, Option, refl, sym, ap, subst, ◌∙◌, arith, inl, inr}
use Rattle.block_runs.specs.Texts.{Wrote, BeginsEnd}
use Rattle.block_runs.specs.Underway.{EndsText}
use Rattle.flow_io.specs.declared.status.Status.{Status}
use Rattle.graph_text.specs.Blocks.{TextBlock, blocks}
use Rattle.node_weights.specs.NodeText.{NodeLists}
use Rattle.node_weights.specs.Kept.{IsNodeGraph}
use Rattle.node_weights.specs.SplitText.{split_text}
use Rattle.node_weights.specs.SplitLaws.{split_block}
use Rattle.node_weights.proofs.SplitReads.{split_texts_are_one_block}
use Rattle.flownodes_cli.specs.Answering.{Answered, Begins}
use Rattle.flownodes_cli.specs.RightTexts.{IsAnswerTo, IsRoutedText}
use Rattle.flownodes_cli.specs.Routing.{IsToldWith}
use Rattle.flownodes_cli.proofs.Truths.{says-true}

-- what a run over a text tells in which no answer is cut off
abbrev TellsText : NodeLists → List ℕ → Status → Option (List ℕ) → Option (List ℕ) → Type 0
TellsText g bytes status before now =
    EndsText (λ shown text. ⊥ × (text ≡ [])) (λ shown text. text ≡ []) (λ status shown text. IsToldWith g status shown text) bytes status before now

-- the text is one block
pub few-blocks : (g : NodeLists) (bytes : List ℕ) → IsNodeGraph g → bytes ≡ split_text g → length (blocks bytes) < 2 ^ 32
few-blocks g bytes valid is =
    let one = ap length (ap blocks is ∙ split_texts_are_one_block g valid) in subst (λ n. n < 2 ^ 32) (sym one) (omega arith)

module _ (g : NodeLists) (valid : IsNodeGraph g) (bytes : List ℕ) (is : bytes ≡ split_text g) where
  -- the blocks of the text
  one : blocks bytes ≡ split_block g ∷ []
  one = ap blocks is ∙ split_texts_are_one_block g valid

  -- what is told of the one block is an answer
  answers : (status : Status) (text : List ℕ) → IsToldWith g status (blocks bytes) text → IsAnswerTo false g status text
  answers status text told =
      let routed = told (split_block g) one in (split_block g, split_texts_are_one_block g valid, routed, says-true g valid routed.report.body routed.right.body_is)

  begins : (text : List ℕ) → BeginsEnd (λ shown text. ⊥ × (text ≡ [])) (λ status shown text. IsToldWith g status shown text) (blocks bytes) text → Begins (IsAnswerTo false g) text
  begins text (inl cut) = absurd cut.1.1.0
  begins text (inr whole) = (whole.0, whole.1, answers whole.1 _ whole.2)

  pub solved-answered : (status : Status) (before now : Option (List ℕ)) → TellsText g bytes status before now → Answered (IsAnswerTo false g) status before now
  solved-answered status before now ends = record {
    not_words = ends.not_words;
    not_long = ends.not_long;
    done = λ done. let wrote = ends.done done in (wrote.0, answers status wrote.0 wrote.1, wrote.2);
    fault = λ e. let wrote = ends.fault e in (wrote.0, begins wrote.0 wrote.1, wrote.2);
    memory = λ e. let wrote = ends.memory e in (wrote.0, wrote.1.1, wrote.2);
  }
