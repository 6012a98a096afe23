-- Texts that grow by a piece.
use Rattle.std.proofs.Common.{◌≡◌, ℕ, List, [], ◌++◌, Option, Some, None, sym, subst, append_assoc, append-nil, inl, inr}
use Rattle.decomposition.specs.declared.Mode.{Mode}
use Rattle.flow_io.specs.Outside.{Adds}
use Rattle.flow_io.specs.declared.status.Status.{Status}
use Rattle.flow_io.proofs.Adding.{Adds-nothing, Adds-then}
use Rattle.graph_text.specs.Blocks.{TextBlock, complete}
use Rattle.graph_text.specs.declared.block.Block.{Block}
use Rattle.program_runs.specs.HandedBlocks.{AreHandedFor}
use Rattle.block_runs.specs.Texts.{Wrote, IsFirst, Begins, BeginsWhole, BeginsEnd}
use Rattle.block_runs.specs.Answering.{Answers, IsCutOff, Finishes, IsCutAtEnd, AnswersWaiting, IsCutWaiting}
use Rattle.program_runs.proofs.FirstBlocks.{first-all, first-goes_on}
use Rattle.program_runs.proofs.HandedBlocks.{one_handed}

-- what was written is so
pub wrote-as : {P Q : List ℕ → Type 0} (before now : Option (List ℕ)) → ((text : List ℕ) → P text → Q text) → Wrote P before now → Wrote Q before now
wrote-as before now f wrote = (wrote.0, f wrote.0 wrote.1, wrote.2)

-- a piece more
pub wrote-then : {P Q : List ℕ → Type 0} (before then now : Option (List ℕ)) (piece : List ℕ) → Adds then now piece → ((text : List ℕ) → P text → Q (text ++ piece)) →
    Wrote P before then → Wrote Q before now
wrote-then before then now piece adds f wrote = (wrote.0 ++ piece, f wrote.0 wrote.1, Adds-then before then now wrote.0 piece wrote.2 adds)

-- a text is a beginning of itself
pub begins-all : (right : List TextBlock → List ℕ → Type 0) (shown : List TextBlock) (text : List ℕ) → IsFirst right shown text → Begins right shown text
begins-all right shown text h = ([], (h.0, subst (right _) (sym (append-nil text)) h.1))

-- a text of which the end is cut off
pub begins-cut : (right : List TextBlock → List ℕ → Type 0) (shown : List TextBlock) (text piece rest : List ℕ) → right shown (text ++ (piece ++ rest)) → Begins right shown (text ++ piece)
begins-cut right shown text piece rest h =
    (rest, first-all (λ l. right l ((text ++ piece) ++ rest)) shown (subst (right shown) (sym (append_assoc text piece rest)) h))

-- a beginning of a text that a fault may cut off is one of a right text
pub begins-right : (may : Type 0) (right : List TextBlock → List ℕ → Type 0) (shown : List TextBlock) (text : List ℕ) → Begins (λ l t. may × right l t) shown text → Begins right shown text
begins-right may right shown text h = (h.0, (h.1.0, h.1.1.1))

pub begins-end_right : (may : Type 0) (right : List TextBlock → List ℕ → Type 0) (whole : Status → List TextBlock → List ℕ → Type 0) (shown : List TextBlock) (text : List ℕ) →
    BeginsEnd (λ l t. may × right l t) whole shown text → BeginsEnd right whole shown text
begins-end_right may right whole shown text (inl h) = inl (begins-right may right shown text h)
begins-end_right may right whole shown text (inr h) = inr h

pub whole-cut : (whole : Status → List TextBlock → List ℕ → Type 0) (status : Status) (shown : List TextBlock) (text piece rest : List ℕ) →
    whole status shown (text ++ (piece ++ rest)) → BeginsWhole whole shown (text ++ piece)
whole-cut whole status shown text piece rest h = (rest, status, subst (whole status shown) (sym (append_assoc text piece rest)) h)

-- what is right for the complete blocks of a text is so for those of one that goes on
pub begins-goes_on : (right : List TextBlock → List ℕ → Type 0) (bytes more all text : List ℕ) → all ≡ bytes ++ more → Begins right (complete bytes) text → Begins right (complete all) text
begins-goes_on right bytes more all text is h = (h.0, first-goes_on (λ l. right l (text ++ h.0)) bytes more all is h.1)

-- what is said of the one block is said of the list of those that wait
pub answers-waiting : {W : Type 0} (mode : Mode) (told : Option Block) (block : Block) (old new : W → List TextBlock → List ℕ → Type 0) (before now : Option (List ℕ)) → told ≡ Some block →
    Answers mode block old new before now → AnswersWaiting mode told old new before now
answers-waiting mode told block old new before now is a = (
  a.0,
  a.1,
  λ waiting handed first shown text h.
      let one = one_handed mode waiting told block is handed in
      subst (λ w. new first (shown ++ w) (text ++ a.0)) (sym one.1) (a.2 one.0 one.2 first shown text h),
)

pub cut-waiting : {W : Type 0} (mode : Mode) (told : Option Block) (block : Block) (old right : W → List TextBlock → List ℕ → Type 0) (before now : Option (List ℕ)) → told ≡ Some block →
    IsCutOff mode block old right before now → IsCutWaiting mode told old right before now
cut-waiting mode told block old right before now is a = (
  a.0,
  a.1,
  a.2,
  λ waiting handed first shown text h.
      let one = one_handed mode waiting told block is handed in
      subst (λ w. right first (shown ++ w) (text ++ (a.0 ++ a.1))) (sym one.1) (a.3 one.0 one.2 first shown text h),
)

none_waits : {W : Type 0} (mode : Mode) (told : Option Block) (old : W → List TextBlock → List ℕ → Type 0) (waiting : List TextBlock) → told ≡ None → AreHandedFor mode waiting told →
    (first : W) (shown : List TextBlock) (text : List ℕ) → old first shown text → old first (shown ++ waiting) (text ++ [])
none_waits mode told old waiting is handed first shown text h =
    let none : waiting ≡ [] = subst (AreHandedFor mode waiting) is handed in
    subst (λ w. old first (shown ++ w) (text ++ [])) (sym none)
    (subst (λ s. old first s (text ++ [])) (sym (append-nil shown)) (subst (old first shown) (sym (append-nil text)) h))

pub answers-none : {W : Type 0} (mode : Mode) (told : Option Block) (old : W → List TextBlock → List ℕ → Type 0) (before : Option (List ℕ)) → told ≡ None →
    AnswersWaiting mode told old old before before
answers-none mode told old before is = ([], Adds-nothing before, λ waiting handed. none_waits mode told old waiting is handed)

-- the text grows by the block that waits
pub wrote-waiting : {W : Type 0} (mode here : Mode) (told : Option Block) (old new : W → List TextBlock → List ℕ → Type 0) (first : W) (waiting shown : List TextBlock) (before then now : Option (List ℕ)) →
    here ≡ mode → AreHandedFor mode waiting told → AnswersWaiting here told old new then now → Wrote (old first shown) before then → Wrote (new first (shown ++ waiting)) before now
wrote-waiting mode here told old new first waiting shown before then now same handed a =
    wrote-then before then now a.0 a.1 (λ text. a.2 waiting (subst (λ m. AreHandedFor m waiting told) (sym same) handed) first shown text)

pub cut-then : {W : Type 0} (mode here : Mode) (told : Option Block) (old right : W → List TextBlock → List ℕ → Type 0) (first : W) (waiting shown : List TextBlock) (before then now : Option (List ℕ)) →
    here ≡ mode → AreHandedFor mode waiting told → IsCutWaiting here told old right then now → Wrote (old first shown) before then → Wrote (Begins (right first) (shown ++ waiting)) before now
cut-then mode here told old right first waiting shown before then now same handed a =
    wrote-then before then now a.0 a.2 (λ text h. begins-cut (right first) (shown ++ waiting) text a.0 a.1
    (a.3 waiting (subst (λ m. AreHandedFor m waiting told) (sym same) handed) first shown text h))

-- the text is finished
pub wrote-end : {W : Type 0} (old whole : W → List TextBlock → List ℕ → Type 0) (first : W) (shown : List TextBlock) (before then now : Option (List ℕ)) →
    Finishes old whole then now → Wrote (old first shown) before then → Wrote (whole first shown) before now
wrote-end old whole first shown before then now a = wrote-then before then now a.0 a.1 (a.2 first shown)

pub cut-end : {W : Type 0} (old : W → List TextBlock → List ℕ → Type 0) (whole : W → Status → List TextBlock → List ℕ → Type 0) (first : W) (shown : List TextBlock) (before then now : Option (List ℕ)) →
    IsCutAtEnd old whole then now → Wrote (old first shown) before then → Wrote (BeginsWhole (whole first) shown) before now
cut-end old whole first shown before then now a =
    wrote-then before then now a.0 a.3 (λ text h. whole-cut (whole first) a.2 shown text a.0 a.1 (a.4 first shown text h))
