-- Texts that grow by one right text after another.
use Rattle.std.proofs.Common.{◌≡◌, ℕ, List, [], ◌∷◌, ◌++◌, take, drop, Option, refl, sym, ◌∙◌, ap, subst, append_assoc, append-nil}
use Rattle.std.proofs.lemmas.List.{take-append-drop}
use Rattle.flow_io.specs.Outside.{AddsPrefix}
use Rattle.flow_io.specs.declared.status.Status.{Status}
use Rattle.flow_io.proofs.Adding.{Adds-nothing}
use Rattle.graph_text.specs.Blocks.{TextBlock}
use Rattle.graph_text.specs.declared.block.Block.{Block}
use Rattle.program_runs.specs.HandedBlocks.{IsHandedFor}
use Rattle.block_runs.specs.Answering.{IsRightAndMayBeCut, IsCutOff, Finishes}
use Rattle.flowruns_cli.specs.declared.weighing.Weighing.{Weighing}
use Rattle.flowruns_cli.specs.RightTexts.{runs_mode, IsTextFor, IsRightText, AreRightTexts, AreAllRightTexts}
use Rattle.flowruns_cli.specs.Weighing.{HasAnswered}

-- one text more
pub texts-more : (shown : List TextBlock) (text : List ℕ) (block : TextBlock) (more : List ℕ) →
    AreRightTexts shown text → IsRightText block more → AreRightTexts (shown ++ block ∷ []) (text ++ more)
texts-more [] text block more h one = (more, [], ap (λ t. t ++ more) h ∙ sym (append-nil more), one, refl)
texts-more (first ∷ others) text block more h one =
    (h.0, h.1 ++ more, ap (λ t. t ++ more) h.2 ∙ append_assoc h.0 h.1 more, h.3, texts-more others h.1 block more h.4 one)

-- the text for a block that was handed out is right for the block of the text
pub text-for : (asked : TextBlock) (block : Block) (text : List ℕ) → IsHandedFor runs_mode asked block → IsTextFor block text → IsRightText asked text
text-for asked block text is right = subst (λ b. IsTextFor b text) (sym is.is_handed) right

-- a text that is cut off
pub text-cut : (now : Weighing) (block : Block) (piece : List ℕ) (before after : Option (List ℕ)) → IsTextFor block piece → AddsPrefix before after piece →
    IsCutOff {W = Weighing} runs_mode block (λ first shown text. HasAnswered now shown text)
    (IsRightAndMayBeCut {W = Weighing} (λ _. Unit {0}) (λ _. AreRightTexts)) before after
text-cut now block piece before after right adds = (
  take adds.0 piece,
  drop adds.0 piece,
  adds.2,
  λ asked is first shown text h. (
    tt,
    subst (λ p. AreRightTexts (shown ++ asked ∷ []) (text ++ p)) (sym (take-append-drop adds.0 piece))
        (texts-more shown text asked piece h.0 (text-for asked block piece is right)),
  ),
)

-- nothing is added at the end
pub texts-all : (status : Status) (now : Weighing) (told : Option (List ℕ)) → now.status ≡ status →
    Finishes {W = Weighing} (λ first shown text. HasAnswered now shown text) (λ _. AreAllRightTexts status) told told
texts-all status now told is =
    ([], Adds-nothing told, λ first shown text h. (subst (AreRightTexts shown) (sym (append-nil text)) h.0, sym is ∙ h.1))
