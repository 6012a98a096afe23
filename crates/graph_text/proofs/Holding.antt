-- What a cutter holds, step by step.
use Rattle.std.specs.Prelude.{◌≡◌, ℕ, ◌+◌, ◌-◌, ◌<◌, ◌≤◌, List, [], ◌∷◌, ◌++◌, length, take, drop, Bool, true, false, not, ◌&&◌, ◌||◌, if◌then◌else◌, zero, suc, refl, Result, All, nat_le, Some, None}
use Rattle.std.specs.Int.{from_bool}
use Rattle.std.specs.List.{list_all, list_any, position_or_len, take_while}
use Rattle.std.proofs.Common.{sym, ◌∙◌, ap, arith, subst, true≢false, get_or, length-append, append_assoc, append-nil, inl, inr}
use Rattle.std.proofs.lemmas.Bool.{cond-true, cond-false, ltb-true, ltb-false, eqb-true, ne_eqb}
use Rattle.std.proofs.lemmas.Bool.Decides.{nat_tests}
use Rattle.std.proofs.lemmas.List.Folds.{length-prefix_len, list_all-append, list_any-append}
use Rattle.std.proofs.lemmas.List.Sums.{take_while-cons}
use Rattle.std.proofs.Math.Seq.{take-add}
use Rattle.decomposition.specs.declared.Mode.{Mode}
use Rattle.graph_text.specs.declared.block.Block.{Block}
use Rattle.graph_text.specs.declared.block.RawGraph.{RawGraph}
use Rattle.graph_text.specs.declared.draft.Draft.{Draft}
use Rattle.report_terms.specs.declared.refusal.Refusal.{Refusal}
use Rattle.graph_text.specs.declared.cutter.Cutter.{Cutter}
use Rattle.graph_text.specs.Lines.{is_blank, is_blank_line, is_content_line, is_hash_line, is_run_line, begins_with_hash, without_return}
use Rattle.graph_text.specs.Blocks.{name_in, name_of_lines, after_blanks, trimmed, blocks, complete, is_graph}
use Rattle.graph_text.specs.Cutter.{Holds, HoldsBlock, IsCounted, Adds, NoMark, MayComplete, IsMark, GoesOn, Cuts, Completes, Continues, next_begun, handed, name_shown}
use Rattle.graph_text.specs.Draft.{Drafts, ShowsLine, is_content, is_run}
use Rattle.graph_text.specs.Progress.{Progress, left_by, is_feed, with_line, with_open, after_byte, block_in, triggers, completed}
use Rattle.graph_text.specs.Reading.{Line, line_at, numbered_lines, read_lines}
use Rattle.graph_text.proofs.KeptLines.{after_blanks-same, after_blanks-begins, skip_blank, skip_none}
use Rattle.graph_text.proofs.Steps.{numbered_lines-push, numbered_lines-below, not_blank-graph, is_graph-filled, left_by-byte, left_by-span, complete-byte, complete-span, IsQuiet, IsQuiet-hashless, IsQuiet-begun, IsQuiet-unfilled, IsLeft-left_by, IsQuiet-blank, complete-earlier, any_content-numbered_lines, any_run-numbered, blocks-end}
use Rattle.graph_text.proofs.Growing.{has_hash}

-- a block whose name and body are these
pub handed-is : (mode : Mode) (index line : ℕ) (lines : List (List ℕ)) (name : List ℕ) (body : Result RawGraph Refusal) →
    name ≡ name_of_lines lines → body ≡ read_lines mode (numbered_lines line lines) →
    ◌≡◌ {A = Block} (record { index = index; line = line; name = name; body = body }) (handed mode (record { index = index; line = line; lines = lines }))
handed-is mode index line lines name body p q = λ i. record { index = index; line = line; name = p i; body = q i }

-- one more line for a draft
pub Drafts-more : (mode : Mode) (line : ℕ) (ended : List (List ℕ)) (l text : List ℕ) (is_long : Bool) (number : ℕ) (old new : Draft) →
    length ended ≤ line → number ≡ line → Drafts mode (numbered_lines (line - length ended) ended) old → ShowsLine number is_long text (line_at (number, l)) →
    ((m : Mode) (lines : List Line) (shown : Line) → Drafts m lines old → All (λ x. x.number < number) lines → ShowsLine number is_long text shown → Drafts m (lines ++ shown ∷ []) new) →
    Drafts mode (numbered_lines (line - length ended) (ended ++ l ∷ [])) new
Drafts-more mode line ended l text is_long number old new within is_line drafts shows adds =
    let first = line - length ended in
    let place : first + length ended ≡ number = omega arith in
    let more = adds mode (numbered_lines first ended) (line_at (number, l)) drafts (subst (λ n. All (λ x. x.number < n) (numbered_lines first ended)) place (numbered_lines-below first ended)) shows in
    subst (λ lines. Drafts mode lines new) (sym (numbered_lines-push first ended l ∙ ap (λ n. numbered_lines first ended ++ line_at (n, l) ∷ []) place)) more

leb_no : (m n : ℕ) → n < m → nat_le m n ≡ false
leb_no m n h = grind (arith, nat_tests)

leb_yes : (m n : ℕ) → m ≤ n → nat_le m n ≡ true
leb_yes m n h = grind (arith, nat_tests)

-- the name of a first line
and_last : (a b : Bool) → (a && (b && false)) ≡ false
and_last true true = refl
and_last true false = refl
and_last false b = refl

and_true : (a : Bool) → (a && true) ≡ a
and_true true = refl
and_true false = refl

pub name_in-shown : (line text : List ℕ) (is_long : Bool) (number : ℕ) → ShowsLine number is_long text (line_at (number, line)) →
    (is_long ≡ false → text ≡ after_blanks line) → name_shown is_long text ≡ name_in line
name_in-shown line text true number shows same =
    let long : nat_le (length line) 65536 ≡ false = leb_no (length line) 65536 (ltb-true 65536 (length line) shows.long) in
    sym (cond-false (is_hash_line line && (not (is_run_line line) && nat_le (length line) 65536)) _ _
    (ap (λ b. is_hash_line line && (not (is_run_line line) && b)) long ∙ and_last (is_hash_line line) (not (is_run_line line))))
name_in-shown line text false number shows same =
    let short : nat_le (length line) 65536 ≡ true = leb_yes (length line) 65536 (ltb-false 65536 (length line) shows.long) in
    let test : (is_hash_line text && not (is_run_line text)) ≡ (is_hash_line line && (not (is_run_line line) && nat_le (length line) 65536)) =
    (λ i. sym shows.hash i && not (sym shows.run i))
    ∙ ap (λ b. is_hash_line line && b) (sym (and_true (not (is_run_line line))))
    ∙ ap (λ b. is_hash_line line && (not (is_run_line line) && b)) (sym short) in
    let rest : after_blanks text ≡ after_blanks line = ap after_blanks (same refl) ∙ after_blanks-same (after_blanks line) (after_blanks-begins line) in
    λ i. if test i then trimmed (drop 1 (rest i)) else []

pub first_name : (ended : List (List ℕ)) (line text : List ℕ) (is_long : Bool) (number : ℕ) → length ended ≡ 0 → ShowsLine number is_long text (line_at (number, line)) →
    (is_long ≡ false → text ≡ after_blanks line) → name_shown is_long text ≡ name_of_lines (ended ++ line ∷ [])
first_name [] line text is_long number none shows same = name_in-shown line text is_long number shows same
first_name (l ∷ ended) line text is_long number none shows same = absurd (omega arith)

next_first : (blank : Bool) (cutter : Cutter) (line : ℕ) (l : List ℕ) → HoldsBlock cutter (line - 0) (if blank then [] else l ∷ []) →
    HoldsBlock cutter (line + 1 - length (if blank then [] else l ∷ [])) (if blank then [] else l ∷ [])
next_first true cutter line l holds = record { name_is = holds.name_is; drafts = holds.drafts }
next_first false cutter line l holds =
    let place : line - 0 ≡ line + 1 - length (l ∷ []) = omega arith in
    subst (λ n. HoldsBlock cutter n (l ∷ [])) place holds

-- the block in progress, seen from the next line
pub HoldsBlock-next : (cutter : Cutter) (line : ℕ) (ended : List (List ℕ)) (l : List ℕ) → length ended ≤ line → HoldsBlock cutter (line - length ended) (with_line ended l) →
    HoldsBlock cutter (line + 1 - length (with_line ended l)) (with_line ended l)
HoldsBlock-next cutter line [] l within holds = next_first (is_blank_line l) cutter line l holds
HoldsBlock-next cutter line (first ∷ ended) l within holds =
    let place : line - length (first ∷ ended) ≡ line + 1 - length ((first ∷ ended) ++ l ∷ []) = omega (arith, length-append (first ∷ ended) (l ∷ [])) in
    subst (λ n. HoldsBlock cutter n ((first ∷ ended) ++ l ∷ [])) place holds

pub added-count : (ended lines : List (List ℕ)) (l : List ℕ) (is_added : Bool) → lines ≡ (if is_added then ended ++ l ∷ [] else ended) → length lines ≡ length ended + from_bool is_added
added-count ended lines l true e = ap length e ∙ length-append ended (l ∷ [])
added-count ended lines l false e = ap length e ∙ omega arith

pub Adds-from : (new : Cutter) (left : Progress) → with_line left.ended (without_return left.open_line) ≡ left.ended ++ without_return left.open_line ∷ [] →
    new.name ≡ name_of_lines (left.ended ++ without_return left.open_line ∷ []) → Drafts new.mode (numbered_lines (left.line - length left.ended) (left.ended ++ without_return left.open_line ∷ [])) new.draft →
    Adds new left true
Adds-from new left lines name drafts = record {
  lines_are = lines;
  block_is = subst (λ all. HoldsBlock new (left.line - length left.ended) all) (sym lines) (record { name_is = name; drafts = drafts });
}

both_true : (a b : Bool) → (a && b) ≡ true → (a ≡ true) × (b ≡ true)
both_true true b h = (refl, h)
both_true false b h = absurd (true≢false (sym h))

-- what may complete a block has a content line in it, and so a line that is not blank
pub may_complete-filled : (left : Progress) → MayComplete left → list_any is_content_line left.ended ≡ true
may_complete-filled left h = (both_true (list_all is_blank left.open_line) (list_any is_content_line left.ended) h).1

pub may_complete-blank : (left : Progress) → MayComplete left → list_all is_blank left.open_line ≡ true
may_complete-blank left h = (both_true (list_all is_blank left.open_line) (list_any is_content_line left.ended) h).0

pub may_complete-lines : (left : Progress) → MayComplete left → list_all is_blank_line left.ended ≡ false
may_complete-lines left h = not_blank-graph left.ended (is_graph-filled left.ended (may_complete-filled left h))

-- the block that is handed out is the one in progress
pub block-is : (cutter : Cutter) (left : Progress) (lines : List (List ℕ)) (block : Block) →
    cutter.blocks ≡ left.blocks → cutter.line ≡ left.line → cutter.ended ≡ length left.ended →
    HoldsBlock cutter (left.line - length left.ended) lines → list_all is_blank_line lines ≡ false →
    ((ls : List (List ℕ)) → HoldsBlock cutter (cutter.line - cutter.ended) ls → list_all is_blank_line ls ≡ false →
    block ≡ handed cutter.mode (record { index = cutter.blocks + 1; line = cutter.line - cutter.ended; lines = ls })) →
    block ≡ handed cutter.mode (block_in left lines)
block-is cutter left lines block blocks line ended holds filled hands =
    let index : cutter.blocks + 1 ≡ left.blocks + 1 = omega arith in
    let first : cutter.line - cutter.ended ≡ left.line - length left.ended = omega arith in
    hands lines (subst (λ n. HoldsBlock cutter n lines) (sym first) holds) filled
    ∙ (λ i. handed cutter.mode (record { index = index i; line = first i; lines = lines }))

cases : (b : Bool) (P : Type 0) → (b ≡ true → P) → (b ≡ false → P) → P
cases true P is_true is_false = is_true refl
cases false P is_true is_false = is_false refl

-- the first byte that is no blank, told in two ways
hash-after : (bytes : List ℕ) → has_hash bytes ≡ begins_with_hash (after_blanks bytes)
hash-after [] = refl
hash-after (b ∷ bytes) =
    cases (is_blank b) (has_hash (b ∷ bytes) ≡ begins_with_hash (after_blanks (b ∷ bytes)))
    (λ yes. cond-true (is_blank b) _ _ yes ∙ hash-after bytes ∙ ap begins_with_hash (sym (skip_blank b bytes yes)))
    (λ filled. cond-false (is_blank b) _ _ filled ∙ ap begins_with_hash (sym (skip_none b bytes filled)))

has_hash-take : (n : ℕ) (bytes : List ℕ) → has_hash bytes ≡ false → has_hash (take n bytes) ≡ false
has_hash-take zero bytes h = refl
has_hash-take (suc n) [] h = refl
has_hash-take (suc n) (b ∷ bytes) h =
    cases (is_blank b) (has_hash (b ∷ take n bytes) ≡ false)
    (λ yes. cond-true (is_blank b) _ _ yes ∙ has_hash-take n bytes (sym (cond-true (is_blank b) _ _ yes) ∙ h))
    (λ filled. cond-false (is_blank b) _ _ filled ∙ sym (cond-false (is_blank b) _ _ filled) ∙ h)

-- the bytes before the first line feed
pub no_feed : (bytes : List ℕ) → list_any is_feed (take (position_or_len is_feed bytes) bytes) ≡ false
no_feed [] = refl
no_feed (b ∷ bytes) =
    cases (is_feed b) (list_any is_feed (take (position_or_len is_feed (b ∷ bytes)) (b ∷ bytes)) ≡ false)
    (λ yes. ap (λ n. list_any is_feed (take n (b ∷ bytes))) (cond-false (not (is_feed b)) _ _ (ap not yes)))
    (λ other.
    let longer : 1 + position_or_len is_feed bytes ≡ suc (position_or_len is_feed bytes) = omega arith in
    ap (λ n. list_any is_feed (take n (b ∷ bytes))) (cond-true (not (is_feed b)) _ _ (ap not other) ∙ longer)
    ∙ ap (λ t. t || list_any is_feed (take (position_or_len is_feed bytes) bytes)) other ∙ no_feed bytes)

pub feed-there : (bytes : List ℕ) → position_or_len is_feed bytes < length bytes → get_or bytes (position_or_len is_feed bytes) 0 ≡ 10
feed-there [] there = absurd (omega arith)
feed-there (b ∷ bytes) there =
    cases (is_feed b) (get_or (b ∷ bytes) (position_or_len is_feed (b ∷ bytes)) 0 ≡ 10)
    (λ yes. ap (λ n. get_or (b ∷ bytes) n 0) (cond-false (not (is_feed b)) _ _ (ap not yes)) ∙ eqb-true b 10 yes)
    (λ other.
    let longer : position_or_len is_feed (b ∷ bytes) ≡ suc (position_or_len is_feed bytes) = cond-true (not (is_feed b)) _ _ (ap not other) ∙ omega arith in
    ap (λ n. get_or (b ∷ bytes) n 0) longer ∙ feed-there bytes (omega arith))

-- the bytes up to the first line feed complete no block
pub IsQuiet-front : (bytes rest : List ℕ) (n : ℕ) → NoMark (left_by bytes) rest → list_any is_feed (take n rest) ≡ false → IsQuiet (left_by bytes) (take n rest)
IsQuiet-front bytes rest n none feeds =
    let left = left_by bytes in
    let span = take n rest in
    cases (list_any is_content_line left.ended) (IsQuiet left span)
    (λ filled. cases (list_all is_blank left.open_line) (IsQuiet left span)
    (λ blank. IsQuiet-hashless left span (IsLeft-left_by bytes) (has_hash-take n rest (hash-after rest ∙ none ((λ i. blank i && filled i)))) feeds)
    (λ begun. IsQuiet-begun left span (IsLeft-left_by bytes) begun feeds))
    (λ unfilled. IsQuiet-unfilled left span unfilled feeds)

pub goes-span : (new : Cutter) (bytes span : List ℕ) → IsQuiet (left_by bytes) span →
    Holds new (record (left_by bytes) { open_line = (left_by bytes).open_line ++ span }) → GoesOn new bytes span
goes-span new bytes span quiet holds = record {
  holds = subst (λ p. Holds new p) (sym (left_by-span bytes span quiet)) holds;
  same = complete-span bytes span quiet;
}

pub goes-line : (new : Cutter) (bytes span : List ℕ) → IsQuiet (left_by bytes) span →
    Holds new (after_byte (record (left_by bytes) { open_line = (left_by bytes).open_line ++ span }) 10) → GoesOn new bytes (span ++ 10 ∷ [])
goes-line new bytes span quiet holds =
    let step = left_by-byte (bytes ++ span) 10 ∙ ap (λ p. after_byte p 10) (left_by-span bytes span quiet) in
    record {
      holds = subst (λ t. Holds new (left_by t)) (append_assoc bytes span (10 ∷ [])) (subst (λ p. Holds new p) (sym step) holds);
      same = ap complete (sym (append_assoc bytes span (10 ∷ []))) ∙ complete-byte (bytes ++ span) 10 ∙ append-nil (complete (bytes ++ span)) ∙ complete-span bytes span quiet;
    }

-- bytes that go on behind bytes that went on
pub goes-both : (new : Cutter) (bytes piece : List ℕ) (a b : ℕ) → complete (bytes ++ take a piece) ≡ complete bytes →
    GoesOn new (bytes ++ take a piece) (take b (drop a piece)) → GoesOn new bytes (take (a + b) piece)
goes-both new bytes piece a b same goes =
    let whole : (bytes ++ take a piece) ++ take b (drop a piece) ≡ bytes ++ take (a + b) piece =
    append_assoc bytes (take a piece) (take b (drop a piece)) ∙ ap (λ l. bytes ++ l) (sym (take-add a b piece)) in
    record {
      holds = subst (λ t. Holds new (left_by t)) whole goes.holds;
      same = ap complete (sym whole) ∙ goes.same ∙ same;
    }

all_blank : (bytes : List ℕ) → list_all is_blank (take_while is_blank bytes) ≡ true
all_blank [] = refl
all_blank (b ∷ bytes) =
    cases (is_blank b) (list_all is_blank (take_while is_blank (b ∷ bytes)) ≡ true)
    (λ yes. ap (list_all is_blank) (take_while-cons is_blank b bytes ∙ cond-true (is_blank b) _ _ yes) ∙ ap (λ t. t && list_all is_blank (take_while is_blank bytes)) yes ∙ all_blank bytes)
    (λ filled. ap (list_all is_blank) (take_while-cons is_blank b bytes ∙ cond-false (is_blank b) _ _ filled))

abbrev next_with : Progress → List ℕ → Progress
next_with left line = record { blocks = left.blocks + 1; line = left.line; open_line = line; ended = [] }

-- a block that is completed by blanks and a `#`
triggers-mark : (left : Progress) (blanks : List ℕ) → MayComplete left → list_all is_blank blanks ≡ true →
    triggers (record left { open_line = left.open_line ++ blanks }) 35 ≡ true
triggers-mark left blanks may blank =
    ap (λ t. t && list_any is_content_line left.ended) (list_all-append is_blank left.open_line blanks ∙ (λ i. may_complete-blank left may i && blank i))
    ∙ may_complete-filled left may

left_by-mark : (bytes blanks : List ℕ) → MayComplete (left_by bytes) → list_all is_blank blanks ≡ true →
    left_by (bytes ++ (blanks ++ 35 ∷ [])) ≡ next_begun (left_by bytes) (blanks ++ 35 ∷ [])
left_by-mark bytes blanks may blank =
    let left = left_by bytes in
    let quiet = IsQuiet-blank left blanks (IsLeft-left_by bytes) blank in
    ap left_by (sym (append_assoc bytes blanks (35 ∷ []))) ∙ left_by-byte (bytes ++ blanks) 35 ∙ ap (λ p. after_byte p 35) (left_by-span bytes blanks quiet)
    ∙ cond-true (triggers (record left { open_line = left.open_line ++ blanks }) 35) _ _ (triggers-mark left blanks may blank)
    ∙ ap (λ l. next_with left l) (append_assoc left.open_line blanks (35 ∷ []))

complete-mark : (bytes blanks : List ℕ) → MayComplete (left_by bytes) → list_all is_blank blanks ≡ true →
    complete (bytes ++ (blanks ++ 35 ∷ [])) ≡ complete bytes ++ block_in (left_by bytes) (left_by bytes).ended ∷ []
complete-mark bytes blanks may blank =
    let left = left_by bytes in
    let quiet = IsQuiet-blank left blanks (IsLeft-left_by bytes) blank in
    ap complete (sym (append_assoc bytes blanks (35 ∷ []))) ∙ complete-byte (bytes ++ blanks) 35
    ∙ (λ i. complete-span bytes blanks quiet i ++ completed (left_by-span bytes blanks quiet i) 35)
    ∙ ap (λ l. complete bytes ++ l) (cond-true (triggers (record left { open_line = left.open_line ++ blanks }) 35) _ _ (triggers-mark left blanks may blank))

-- a part of the piece was taken, and no block completed
pub record IsPartlyRead (old new : Cutter) (piece : List ℕ) (taken : ℕ) : Type 0 where
  pub within : taken ≤ length piece
  pub counted : IsCounted new
  pub few_lines : new.line ≤ old.line + taken
  pub mode_kept : new.mode ≡ old.mode
  pub goes : (bytes : List ℕ) → Holds old (left_by bytes) → GoesOn new bytes (take taken piece)

-- all of the piece was taken
pub Cuts-whole : (old new : Cutter) (bytes piece : List ℕ) (taken : ℕ) → length piece ≤ taken → taken ≤ length piece → GoesOn new bytes (take taken piece) →
    Cuts old new bytes piece taken None
Cuts-whole old new bytes piece taken all within goes = record {
  holds = goes.holds;
  outcome = inl (record { same = goes.same; none = refl }, omega arith);
  first = λ m before. complete-earlier bytes piece m taken (omega arith) goes.same;
}

-- a block was completed
pub Cuts-block : (old mid new : Cutter) (bytes piece mark : List ℕ) (taken : ℕ) (block : Block) → GoesOn mid bytes (take taken piece) → mid.mode ≡ old.mode →
    MayComplete (left_by (bytes ++ take taken piece)) → IsMark (drop taken piece) mark →
    block ≡ handed mid.mode (block_in (left_by (bytes ++ take taken piece)) (left_by (bytes ++ take taken piece)).ended) →
    Holds new (next_begun (left_by (bytes ++ take taken piece)) mark) →
    Cuts old new bytes piece (taken + length mark) (Some block)
Cuts-block old mid new bytes piece mark taken block goes mode may is_mark hands holds =
    let before = bytes ++ take taken piece in
    let rest = drop taken piece in
    let blanks = take_while is_blank rest in
    let blank = all_blank rest in
    let whole : before ++ (blanks ++ 35 ∷ []) ≡ bytes ++ take (taken + length mark) piece =
    ap (λ l. before ++ l) (sym is_mark.hash ∙ sym is_mark.front) ∙ append_assoc bytes (take taken piece) (take (length mark) rest) ∙ ap (λ l. bytes ++ l) (sym (take-add taken (length mark) piece)) in
    let front : bytes ++ take (taken + length blanks) piece ≡ before ++ blanks =
    ap (λ l. bytes ++ l) (take-add taken (length blanks) piece) ∙ sym (append_assoc bytes (take taken piece) (take (length blanks) rest))
    ∙ ap (λ n. before ++ take n rest) (length-prefix_len is_blank rest) in
    let quiet = complete-span before blanks (IsQuiet-blank (left_by before) blanks (IsLeft-left_by before) blank) in
    let longer : length mark ≡ length blanks + 1 = ap length is_mark.hash ∙ length-append blanks (35 ∷ []) in
    record {
      holds = subst (λ t. Holds new (left_by t)) whole (subst (λ p. Holds new p) (sym (left_by-mark before blanks may blank)) (subst (λ l. Holds new (next_begun (left_by before) l)) is_mark.hash holds));
      outcome = inr (record {
        block = block_in (left_by before) (left_by before).ended;
        one_more = ap complete (sym whole) ∙ complete-mark before blanks may blank ∙ ap (λ l. l ++ block_in (left_by before) (left_by before).ended ∷ []) goes.same;
        hands = ap Some (hands ∙ ap (λ m. handed m (block_in (left_by before) (left_by before).ended)) mode);
      });
      first = λ m early. complete-earlier bytes piece m (taken + length blanks) (omega arith) (ap complete front ∙ quiet ∙ goes.same);
    }

-- whether lines are a graph, as a draft of them tells it
pub graph-is : (n : ℕ) (lines : List (List ℕ)) (r : Bool) →
    r ≡ (list_any is_content (numbered_lines n lines) || list_any is_run (numbered_lines n lines)) → r ≡ is_graph lines
graph-is n lines r e =
    e ∙ (λ i. any_content-numbered_lines n lines i || any_run-numbered n lines i)

-- the end of a text that leaves no graph
pub Continues-end : (bytes : List ℕ) → is_graph (with_open (left_by bytes).open_line (left_by bytes).ended) ≡ false → Continues (complete bytes) (blocks bytes) None
Continues-end bytes none = record {
  same = blocks-end bytes ∙ ap (λ l. complete bytes ++ l) (cond-false (is_graph (with_open (left_by bytes).open_line (left_by bytes).ended)) _ _ none) ∙ append-nil (complete bytes);
  none = refl;
}

-- the end of a text that leaves a graph
pub Completes-end : (mode : Mode) (bytes : List ℕ) (block : Block) → is_graph (with_open (left_by bytes).open_line (left_by bytes).ended) ≡ true →
    block ≡ handed mode (block_in (left_by bytes) (with_open (left_by bytes).open_line (left_by bytes).ended)) → Completes mode (complete bytes) (blocks bytes) (Some block)
Completes-end mode bytes block some hands = record {
  block = block_in (left_by bytes) (with_open (left_by bytes).open_line (left_by bytes).ended);
  one_more = blocks-end bytes ∙ ap (λ l. complete bytes ++ l) (cond-true (is_graph (with_open (left_by bytes).open_line (left_by bytes).ended)) _ _ some);
  hands = ap Some hands;
}

-- blanks and a `#` have no line feed
feedless_blanks : (bytes : List ℕ) → list_all is_blank bytes ≡ true → list_any is_feed bytes ≡ false
feedless_blanks [] h = refl
feedless_blanks (b ∷ bytes) h =
    let parts = both_true (is_blank b) (list_all is_blank bytes) h in
    ap (λ t. t || list_any is_feed bytes) (ne_eqb b 10 (λ e. true≢false (sym parts.0 ∙ ap is_blank e))) ∙ feedless_blanks bytes parts.1

pub IsMark-one_line : (rest mark : List ℕ) → IsMark rest mark → list_any is_feed mark ≡ false
IsMark-one_line rest mark h =
    let blanks = take_while is_blank rest in
    ap (list_any is_feed) h.hash ∙ list_any-append is_feed blanks (35 ∷ []) ∙ ap (λ t. t || false) (feedless_blanks blanks (all_blank rest))
