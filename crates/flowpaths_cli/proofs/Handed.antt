-- What holds of a block that is handed out for a block of a text.
use Rattle.std.proofs.Common.{◌≤◌, ◌<◌, ◌^◌, ◌&&◌, IsTrue, subst}
use Rattle.std.specs.Prelude.{IfErr, nat_le}
use Rattle.std.proofs.lemmas.Bool.{and_from, le-leb, lt-ltb}
use Rattle.decomposition.specs.declared.Mode.{Mode}
use Rattle.graph_text.specs.Blocks.{TextBlock}
use Rattle.graph_text.specs.Labels.{LabelLists}
use Rattle.graph_text.specs.Reader.{handed}
use Rattle.graph_text.specs.declared.block.Block.{Block}
use Rattle.graph_text.proofs.RefusedLines.{refusal-line}
use Rattle.program_runs.specs.HandedBlocks.{IsHandedFor}
use Rattle.report_terms.specs.NetFacts.{is_mode}
use Rattle.report_reading.specs.ReportText.{is_regular, is_regular_body, is_name, fits}
use Rattle.report_terms.specs.declared.report.Body.{Body}
use Rattle.report_reading.proofs.BlockNames.{is_name-name_of}

pub handed-refusal : (mode : Mode) (text : TextBlock) (block : Block) → IsHandedFor mode text block → IfErr block.body (λ r. 1 ≤ r.line)
handed-refusal mode text block h =
    let P : Block → Type 0 = λ b. IfErr b.body (λ r. 1 ≤ r.line) in
    let here : P (handed mode text) = refusal-line mode text h.is_block in
    subst P h.is_handed here

handed-index : (mode : Mode) (text : TextBlock) (block : Block) → IsHandedFor mode text block → 1 ≤ block.index
handed-index mode text block h =
    let P : Block → Type 0 = λ b. 1 ≤ b.index in
    let here : P (handed mode text) = h.is_block.index_from in
    subst P h.is_handed here

handed-name : (mode : Mode) (text : TextBlock) (block : Block) → IsHandedFor mode text block → IsTrue (is_name block.name)
handed-name mode text block h =
    let P : Block → Type 0 = λ b. IsTrue (is_name b.name) in
    let here : P (handed mode text) = is_name-name_of text h.is_block in
    subst P h.is_handed here

-- the report on it is regular
pub handed-regular : (mode : Mode) (text : TextBlock) (block : Block) (labels : LabelLists) (body : Body) → IsTrue (is_mode mode) → IsHandedFor mode text block →
    block.index < 2 ^ 64 → IsTrue (is_regular_body labels body) →
    IsTrue (is_regular labels (record { index = block.index; name = block.name; mode = mode; body = body }))
handed-regular mode text block labels body known h small regular =
    let index : IsTrue (nat_le 1 block.index && fits block.index) =
    and_from (nat_le 1 block.index) (fits block.index) (le-leb 1 block.index (handed-index mode text block h)) (lt-ltb block.index (2 ^ 64) small) in
    and_from (nat_le 1 block.index && fits block.index) (is_name block.name && (is_mode mode && is_regular_body labels body)) index
    (and_from (is_name block.name) (is_mode mode && is_regular_body labels body) (handed-name mode text block h)
    (and_from (is_mode mode) (is_regular_body labels body) known regular))
