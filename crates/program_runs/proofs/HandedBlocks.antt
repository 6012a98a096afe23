-- The blocks that a reader hands out, and how they join those that were complete before.
use Rattle.std.proofs.Common.{◌≡◌, ◌≤◌, ◌<◌, ◌+◌, ◌⊎◌, ℕ, List, [], ◌∷◌, ◌++◌, length, take, Option, Some, None, Result, Ok, Err, zero, suc, refl, sym, ap, subst, ◌∙◌, arith, append-nil, length-append, inl, inr}
use Rattle.std.specs.Prelude.{IfOk, IfSome}
use Rattle.std.proofs.lemmas.List.Sums.{count_by-le-length}
use Rattle.decomposition.specs.declared.Mode.{Mode}
use Rattle.graph_text.specs.Accepted.{IsAccepted}
use Rattle.graph_text.specs.Blocks.{TextBlock, IsTextBlock, blocks, complete}
use Rattle.graph_text.specs.Progress.{is_feed}
use Rattle.graph_text.specs.Reader.{StandsFor, Feeds, Ends, Completes, Continues, handed, mode_of, line_of, waiting_of}
use Rattle.graph_text.specs.Reading.{read}
use Rattle.graph_text.specs.declared.block.Block.{Block}
use Rattle.graph_text.specs.declared.block.RawGraph.{RawGraph}
use Rattle.graph_text.specs.declared.reader.BlockReader.{BlockReader}
use Rattle.report_terms.specs.declared.refusal.Refusal.{Refusal}
use Rattle.graph_text.proofs.Accepting.{graphs_are_accepted}
use Rattle.graph_text.proofs.TextBlocks.{complete-block, blocks-block}
use Rattle.program_runs.specs.HandedBlocks.{IsHandedFor, AreHandedFor, blocks_at}
use Rattle.program_runs.specs.Inputs.{left_of, taken}
use Rattle.program_runs.proofs.Inputs.{seen_at, left-at, taken-at}

-- what follows from the equation with Ok holds on Ok
on_ok : (r : Result RawGraph Refusal) (P : RawGraph → Type 0) → ((graph : RawGraph) → r ≡ Ok graph → P graph) → IfOk r P
on_ok (Ok graph) P holds = holds graph refl
on_ok (Err refusal) P holds = tt

-- the graph of a block that is handed out is accepted
pub handed-accepted : (mode : Mode) (text : TextBlock) (block : Block) → IsHandedFor mode text block → IfOk block.body (IsAccepted mode)
handed-accepted mode text block h =
    let P : Block → Type 0 = λ b. IfOk b.body (IsAccepted mode) in
    let here : P (handed mode text) = on_ok (read mode text) (IsAccepted mode) (λ graph e. graphs_are_accepted mode text graph h.is_block.no_feeds e) in
    subst P h.is_handed here

-- a block that waits is handed out for some block
pub handed-some : (mode : Mode) (waiting : List TextBlock) (told : Option Block) → AreHandedFor mode waiting told → IfSome told (λ block. (text : TextBlock) × IsHandedFor mode text block)
handed-some mode waiting None h = tt
handed-some mode waiting (Some block) h = (h.0, h.2)

-- where a block waits, it is handed out for one block
pub one_handed : (mode : Mode) (waiting : List TextBlock) (told : Option Block) (block : Block) → told ≡ Some block → AreHandedFor mode waiting told →
    (text : TextBlock) × (waiting ≡ text ∷ []) × IsHandedFor mode text block
one_handed mode waiting told block is handed = subst (AreHandedFor mode waiting) is handed

-- the second list of blocks is the first one and those that wait
pub record Grows (mode : Mode) (before after : List TextBlock) (told : Option Block) : Type 0 where
  pub waiting : List TextBlock
  pub joined : after ≡ before ++ waiting
  pub handed : AreHandedFor mode waiting told

grows : (mode : Mode) (before after : List TextBlock) (told : Option Block) → ((block : TextBlock) → after ≡ before ++ block ∷ [] → IsTextBlock block) →
    (Continues before after told ⊎ Completes mode before after told) → Grows mode before after told
grows mode before after told each (inl same) = record {
  waiting = [];
  joined = same.same ∙ sym (append-nil before);
  handed = subst (AreHandedFor mode []) (sym same.none) refl;
}
grows mode before after told each (inr more) = record {
  waiting = more.block ∷ [];
  joined = more.one_more;
  handed = subst (AreHandedFor mode (more.block ∷ [])) (sym more.hands)
      (more.block, refl, record { is_block = each more.block more.one_more; is_handed = refl });
}

-- the blocks at the end of the text
pub grows-end : (mode : Mode) (old new : BlockReader) (bytes : List ℕ) → Ends old new bytes → mode_of old ≡ mode → Grows mode (complete bytes) (blocks bytes) (waiting_of new)
grows-end mode old new bytes ends is =
    subst (λ m. Grows m (complete bytes) (blocks bytes) (waiting_of new)) is
    (grows (mode_of old) (complete bytes) (blocks bytes) (waiting_of new) (λ block e. blocks-block bytes (complete bytes) block e) ends)

feeds_end : (old new : BlockReader) (bytes piece : List ℕ) (n : ℕ) → Feeds old new bytes piece n →
    (Continues (complete bytes) (complete (bytes ++ take n piece)) (waiting_of new) ⊎ Completes (mode_of old) (complete bytes) (complete (bytes ++ take n piece)) (waiting_of new))
feeds_end old new bytes piece n feeds = elim feeds.outcome [ inl same ↦ inl same.0 | inr more ↦ inr more ]

-- the blocks after a piece
pub grows-feed : (mode : Mode) (old new : BlockReader) (bytes piece : List ℕ) (n : ℕ) → Feeds old new bytes piece n → mode_of old ≡ mode →
    Grows mode (complete bytes) (complete (bytes ++ take n piece)) (waiting_of new)
grows-feed mode old new bytes piece n feeds is =
    subst (λ m. Grows m (complete bytes) (complete (bytes ++ take n piece)) (waiting_of new)) is
    (grows (mode_of old) (complete bytes) (complete (bytes ++ take n piece)) (waiting_of new) (λ block e. complete-block (bytes ++ take n piece) (complete bytes) block e) (feeds_end old new bytes piece n feeds))

-- a nonempty piece is not left whole
none_completes : (bytes piece : List ℕ) (block : TextBlock) → complete (bytes ++ take 0 piece) ≡ complete bytes ++ block ∷ [] → ⊥
none_completes bytes piece block e =
    let same : length (complete (bytes ++ take 0 piece)) ≡ length (complete bytes) = ap (λ b. length (complete b)) (append-nil bytes) in
    absurd (omega (arith, same, ap length e, length-append (complete bytes) (block ∷ [])))

pub feeds-some : (old new : BlockReader) (bytes piece : List ℕ) (n : ℕ) → Feeds old new bytes piece n → 0 < length piece → 0 < n
feeds-some old new bytes piece zero feeds some = elim feeds.outcome [
  | inl same ↦ omega (arith, same.1)
  | inr more ↦ absurd (none_completes bytes piece more.block more.one_more)
]
feeds-some old new bytes piece (suc n) feeds some = omega arith

-- the line in progress is at most one past the bytes taken
pub line-within : (reader : BlockReader) (bytes : List ℕ) → StandsFor reader bytes → line_of reader ≤ length bytes + 1
line-within reader bytes stands = omega (arith, stands.holds.line_is, count_by-le-length is_feed bytes)

-- the blocks that may be answered, by the bytes taken and those left
pub blocks-seen : (file bytes rest : List ℕ) → blocks_at (taken file (seen_at file bytes rest)) (left_of file (seen_at file bytes rest).last) ≡ blocks_at bytes (Some rest)
blocks-seen file bytes rest =
    ap (λ b. blocks_at b (left_of file (seen_at file bytes rest).last)) (taken-at file bytes rest) ∙ ap (blocks_at bytes) (left-at file bytes rest)
