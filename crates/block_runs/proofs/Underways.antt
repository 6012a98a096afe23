-- A run between two pieces of its input, and how it goes on.
use Rattle.std.proofs.Common.{◌≡◌, ◌+◌, ◌-◌, ℕ, List, [], ◌++◌, length, take, drop, Option, false, sym, subst, ◌∙◌, append-nil}
use Rattle.decomposition.specs.declared.Mode.{Mode}
use Rattle.graph_text.specs.Blocks.{TextBlock, blocks, complete}
use Rattle.graph_text.specs.Reader.{Feeds, Ends, IsTaken, IsNew, mode_of, waiting_of, has_failed, has_finished}
use Rattle.graph_text.specs.declared.reader.BlockReader.{BlockReader}
use Rattle.graph_text.proofs.Growing.{blocks-begin}
use Rattle.flow_io.proofs.Adding.{Adds-nothing}
use Rattle.program_runs.specs.HandedBlocks.{AreHandedFor}
use Rattle.block_runs.specs.Texts.{Wrote, IsFirst, Begins}
use Rattle.block_runs.specs.Underway.{Underway}
use Rattle.program_runs.proofs.FirstBlocks.{first-more, first-goes_on}
use Rattle.program_runs.proofs.HandedBlocks.{grows-end, grows-feed}
use Rattle.program_runs.proofs.Parts.{parts-joined, parts-more}
use Rattle.block_runs.proofs.Texts.{wrote-as, begins-goes_on}

-- a run before its first piece
pub underway-nothing : (mode : Mode) (now : List TextBlock → List ℕ → Type 0) (reader : BlockReader) (told : Option (List ℕ)) → IsNew mode reader → now [] [] → Underway mode now reader [] told told
underway-nothing mode now reader told new begun = record {
  stands = new.empty;
  none_waits = new.none;
  works = new.works;
  goes_on = new.goes_on;
  mode_is = new.mode_is;
  wrote = ([], begun, Adds-nothing told);
}

-- the run goes on after a part of a piece
pub underway-more : (mode : Mode) (old new : List TextBlock → List ℕ → Type 0) (first fed last : BlockReader) (bytes piece : List ℕ) (n : ℕ) (before then now : Option (List ℕ)) →
    Underway mode old first bytes before then → Feeds first fed bytes piece n → has_failed fed ≡ false → has_finished fed ≡ has_finished first →
    mode_of fed ≡ mode_of first → IsTaken fed last →
    ((waiting : List TextBlock) → AreHandedFor mode waiting (waiting_of fed) → Wrote (old (complete bytes)) before then → Wrote (new (complete bytes ++ waiting)) before now) →
    Underway mode new last (bytes ++ take n piece) before now
underway-more mode old new first fed last bytes piece n before then now under feeds works goes same taken done =
    let g = grows-feed mode first fed bytes piece n feeds under.mode_is in
    record {
      stands = taken.stands (bytes ++ take n piece) feeds.stands;
      none_waits = taken.none;
      works = taken.failed_kept ∙ works;
      goes_on = taken.finished_kept ∙ goes ∙ under.goes_on;
      mode_is = taken.mode_kept ∙ same ∙ under.mode_is;
      wrote = subst (λ l. Wrote (new l) before now) (sym g.joined) (done g.waiting g.handed under.wrote);
    }

-- each complete block is answered, so those that are shown begin with what was written
pub underway-first : (mode : Mode) (now right : List TextBlock → List ℕ → Type 0) (reader : BlockReader) (bytes more all : List ℕ) (before written : Option (List ℕ)) →
    ((shown : List TextBlock) (text : List ℕ) → now shown text → right shown text) → all ≡ bytes ++ more →
    Underway mode now reader bytes before written → Wrote (IsFirst right (complete all)) before written
underway-first mode now right reader bytes more all before written is_right is under =
    wrote-as before written (λ text h. first-goes_on (λ l. right l text) bytes more all is
    (subst (λ l. IsFirst right l text) (append-nil (complete bytes)) (first-more (λ l. right l text) (complete bytes) [] (is_right (complete bytes) text h)))) under.wrote

pub underway-blocks : (mode : Mode) (now right : List TextBlock → List ℕ → Type 0) (reader : BlockReader) (bytes : List ℕ) (before written : Option (List ℕ)) →
    ((shown : List TextBlock) (text : List ℕ) → now shown text → right shown text) →
    Underway mode now reader bytes before written → Wrote (IsFirst right (blocks bytes)) before written
underway-blocks mode now right reader bytes before written is_right under =
    let all = blocks-begin bytes in
    wrote-as before written (λ text h. subst (λ l. IsFirst right l text) (sym all.1) (first-more (λ l. right l text) (complete bytes) all.0 (is_right (complete bytes) text h))) under.wrote

-- the last block is answered, or its answer is cut off
pub end-more : (mode : Mode) (old new : List TextBlock → List ℕ → Type 0) (first last : BlockReader) (bytes : List ℕ) (before then now : Option (List ℕ)) →
    Underway mode old first bytes before then → Ends first last bytes →
    ((waiting : List TextBlock) → AreHandedFor mode waiting (waiting_of last) → Wrote (old (complete bytes)) before then → Wrote (new (complete bytes ++ waiting)) before now) →
    Wrote (new (blocks bytes)) before now
end-more mode old new first last bytes before then now under ends done =
    let g = grows-end mode first last bytes ends under.mode_is in
    subst (λ l. Wrote (new l) before now) (sym g.joined) (done g.waiting g.handed under.wrote)

-- an answer that was cut off stands among those of the whole piece
pub cut-goes_on : (mode : Mode) (old right : List TextBlock → List ℕ → Type 0) (first fed : BlockReader) (bytes piece : List ℕ) (d n : ℕ) (before then now : Option (List ℕ)) →
    Underway mode old first (bytes ++ take d piece) before then → Feeds first fed (bytes ++ take d piece) (take (length piece - d) (drop d piece)) n →
    ((waiting : List TextBlock) → AreHandedFor mode waiting (waiting_of fed) → Wrote (old (complete (bytes ++ take d piece))) before then →
    Wrote (Begins right (complete (bytes ++ take d piece) ++ waiting)) before now) →
    Wrote (Begins right (complete (bytes ++ piece))) before now
cut-goes_on mode old right first fed bytes piece d n before then now under feeds cut =
    let rest = take (length piece - d) (drop d piece) in
    let g = grows-feed mode first fed (bytes ++ take d piece) rest n feeds under.mode_is in
    let here : Wrote (Begins right (complete ((bytes ++ take d piece) ++ take n rest))) before now =
    subst (λ l. Wrote (Begins right l) before now) (sym g.joined) (cut g.waiting g.handed under.wrote) in
    let there : Wrote (Begins right (complete (bytes ++ take (d + n) piece))) before now =
    subst (λ b. Wrote (Begins right (complete b)) before now) (parts-more bytes piece d n) here in
    wrote-as before now (λ text. begins-goes_on right (bytes ++ take (d + n) piece) (drop (d + n) piece) (bytes ++ piece) text (parts-joined bytes piece (d + n))) there
