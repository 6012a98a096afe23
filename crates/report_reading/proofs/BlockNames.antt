-- The name of a block of a text may stand in a report.
use Rattle.std.specs.Prelude.{◌≡◌, ℕ, ◌==◌, List, [], ◌∷◌, not, IsTrue, refl}
use Rattle.std.specs.List.{list_any}
use Rattle.std.proofs.Common.{◌∙◌}
use Rattle.std.proofs.lemmas.Bool.{and_from, not_from_false}
use Rattle.graph_text.specs.Blocks.{TextBlock, IsTextBlock, name_of}
use Rattle.graph_text.proofs.BlockNames.{IsTrimmed, name_of-trimmed}
use Rattle.graph_text.proofs.BlockNames as block
use Rattle.report_reading.specs.ReportText.{begins_blank, ends_blank, is_name}

begins_blank-same : (name : List ℕ) → begins_blank name ≡ block.begins_blank name
begins_blank-same [] = refl
begins_blank-same (b ∷ name) = refl

ends_blank-same : (name : List ℕ) → ends_blank name ≡ block.ends_blank name
ends_blank-same [] = refl
ends_blank-same (b ∷ []) = refl
ends_blank-same (b ∷ c ∷ name) = ends_blank-same (c ∷ name)

is_name-trimmed : (name : List ℕ) → IsTrimmed name → IsTrue (is_name name)
is_name-trimmed name h =
    and_from (not (list_any (λ b. b == 10) name)) _ (not_from_false _ h.feeds)
    (and_from _ _ (not_from_false _ (begins_blank-same name ∙ h.begins)) (not_from_false _ (ends_blank-same name ∙ h.ends)))

pub is_name-name_of : (block : TextBlock) → IsTextBlock block → IsTrue (is_name (name_of block))
is_name-name_of block is = is_name-trimmed (name_of block) (name_of-trimmed block is)
