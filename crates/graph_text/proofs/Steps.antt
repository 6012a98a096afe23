-- How what a text leaves, and its complete blocks, change byte by byte.
use Rattle.std.specs.Prelude.{◌≡◌, ℕ, suc, ◌+◌, ◌<◌, ◌≤◌, ◌==◌, List, [], ◌∷◌, ◌++◌, length, take, drop, filter, Bool, true, false, not, ◌&&◌, ◌||◌, if◌then◌else◌, All, slice_index_or, zero, refl}
use Rattle.std.specs.List.{list_all, list_any}
use Rattle.std.proofs.Common.{sym, ◌∙◌, ap, subst, arith, inl, inr, true≢false}
use Rattle.std.proofs.lemmas.Bool.{cond-true, cond-false, cond_both, cases_Bool, and_parts, and_right, and_from, or_parts, or_from, eqb-true, false_from_ne_true, both_ways}
use Rattle.std.proofs.lemmas.List.{append-nil, append_assoc, length_push, length-append, take-append-drop, take-take, nil_from_length}
use Rattle.std.proofs.lemmas.List.Folds.{list_any-append}
use Rattle.graph_text.specs.Lines.{without_return, is_blank, is_blank_line, is_hash_line, is_content_line, is_run_line, fields_of, are_no_fields, are_run_fields}
use Rattle.graph_text.specs.Blocks.{complete, blocks, is_graph}
use Rattle.graph_text.specs.Progress.{Progress, is_feed, left_by, triggers, with_line, after_byte, block_in, completed, last_block}
use Rattle.graph_text.specs.Reading.{Line, line_at, numbered_lines, filled_lines}
use Rattle.graph_text.specs.Draft.{is_content}
use Rattle.graph_text.proofs.Growing.{has_hash, complete-grows}
use Rattle.graph_text.proofs.OpenLine.{grow}
use Rattle.graph_text.proofs.Left.{quiet_after, begun_after, after-quiet, after-begun, hash-push, some_line, same_progress, left-more, complete-more, blocks-left}

-- one byte more
pub left_by-byte : (bytes : List ℕ) (b : ℕ) → left_by (bytes ++ b ∷ []) ≡ after_byte (left_by bytes) b
left_by-byte bytes b = left-more bytes b

pub complete-byte : (bytes : List ℕ) (b : ℕ) → complete (bytes ++ b ∷ []) ≡ complete bytes ++ completed (left_by bytes) b
complete-byte bytes b = complete-more bytes b

-- the end of the text
pub blocks-end : (bytes : List ℕ) → blocks bytes ≡ complete bytes ++ last_block (left_by bytes)
blocks-end bytes = blocks-left bytes

-- Bytes that neither end a line nor complete a block.
pub record IsQuiet (p : Progress) (span : List ℕ) : Type 0 where
  pub feeds : list_any is_feed span ≡ false
  pub hash : (list_any is_content_line p.ended && has_hash (p.open_line ++ span)) ≡ false

hash-blanks : (line more : List ℕ) → list_all is_blank line ≡ true → has_hash (line ++ more) ≡ has_hash more
hash-blanks [] more h = refl
hash-blanks (b ∷ line) more h =
    let parts = and_parts (is_blank b) (list_all is_blank line) h in
    cond-true (is_blank b) _ _ parts.0 ∙ hash-blanks line more parts.1

hash-first : (b : ℕ) (span : List ℕ) → (b == 35) ≡ true → has_hash (b ∷ span) ≡ true
hash-first b span h = ap (λ c. has_hash (c ∷ span)) (eqb-true b 35 h)

-- the first byte of quiet ones completes no block
quiet-first : (p : Progress) (b : ℕ) (span : List ℕ) → IsQuiet p (b ∷ span) → triggers p b ≡ false
quiet-first p b span h = false_from_ne_true (triggers p b) (λ t.
    let first = and_parts (b == 35) (list_all is_blank p.open_line && list_any is_content_line p.ended) t in
    let rest = and_parts (list_all is_blank p.open_line) (list_any is_content_line p.ended) first.1 in
    both_ways (list_any is_content_line p.ended && has_hash (p.open_line ++ b ∷ span)) h.hash
    (and_from (list_any is_content_line p.ended) (has_hash (p.open_line ++ b ∷ span)) rest.1 (hash-blanks p.open_line (b ∷ span) rest.0 ∙ hash-first b span first.0)))

quiet-rest : (p : Progress) (b : ℕ) (span : List ℕ) → IsQuiet p (b ∷ span) → IsQuiet (quiet_after p b) span
quiet-rest p b span h = record {
  feeds = (or_parts (is_feed b) (list_any is_feed span) h.feeds).1;
  hash = ap (λ l. list_any is_content_line p.ended && has_hash l) (append_assoc p.open_line (b ∷ []) span) ∙ h.hash;
}

quiet-step : (bytes : List ℕ) (b : ℕ) (span : List ℕ) → IsQuiet (left_by bytes) (b ∷ span) → left_by (bytes ++ b ∷ []) ≡ quiet_after (left_by bytes) b
quiet-step bytes b span h =
    left_by-byte bytes b ∙ after-quiet (left_by bytes) b (or_parts (is_feed b) (list_any is_feed span) h.feeds).0 (quiet-first (left_by bytes) b span h)

quiet-next : (bytes : List ℕ) (b : ℕ) (span : List ℕ) → IsQuiet (left_by bytes) (b ∷ span) → IsQuiet (left_by (bytes ++ b ∷ [])) span
quiet-next bytes b span h = subst (λ p. IsQuiet p span) (sym (quiet-step bytes b span h)) (quiet-rest (left_by bytes) b span h)

abbrev longer : Progress → List ℕ → Progress
longer p span = record { blocks = p.blocks; line = p.line; open_line = p.open_line ++ span; ended = p.ended }

pub left_by-span : (bytes span : List ℕ) → IsQuiet (left_by bytes) span → left_by (bytes ++ span) ≡ record (left_by bytes) { open_line = (left_by bytes).open_line ++ span }
left_by-span bytes [] h = ap left_by (append-nil bytes) ∙ same_progress _ _ _ _ _ _ _ _ refl refl (sym (append-nil (left_by bytes).open_line)) refl
left_by-span bytes (b ∷ span) h =
    ap left_by (sym (append_assoc bytes (b ∷ []) span))
    ∙ left_by-span (bytes ++ b ∷ []) span (quiet-next bytes b span h)
    ∙ ap (λ p. longer p span) (quiet-step bytes b span h)
    ∙ same_progress _ _ _ _ _ _ _ _ refl refl (append_assoc (left_by bytes).open_line (b ∷ []) span) refl

pub complete-span : (bytes span : List ℕ) → IsQuiet (left_by bytes) span → complete (bytes ++ span) ≡ complete bytes
complete-span bytes [] h = ap complete (append-nil bytes)
complete-span bytes (b ∷ span) h =
    let p = left_by bytes in
    ap complete (sym (append_assoc bytes (b ∷ []) span))
    ∙ complete-span (bytes ++ b ∷ []) span (quiet-next bytes b span h)
    ∙ complete-byte bytes b
    ∙ ap (λ more. complete bytes ++ more) (cond-false (triggers p b) (block_in p p.ended ∷ []) [] (quiet-first p b span h))
    ∙ append-nil (complete bytes)

-- what holds of all that a text leaves
abbrev pub BeginsFilled : List (List ℕ) → Type 0
BeginsFilled [] = Unit {0}
BeginsFilled (line ∷ lines) = is_blank_line line ≡ false

pub record IsLeft (p : Progress) : Type 0 where
  pub lines : p.blocks + length p.ended < p.line
  pub begins : BeginsFilled p.ended
  pub feeds : list_any is_feed p.open_line ≡ false
  pub hash : (list_any is_content_line p.ended && has_hash p.open_line) ≡ false

with_line-short : (lines : List (List ℕ)) (line : List ℕ) → length (with_line lines line) ≤ length lines + 1
with_line-short [] line = cond_both (is_blank_line line) [] (line ∷ []) (λ l. length l ≤ 1) (λ blank. omega arith) (λ filled. omega arith)
with_line-short (x ∷ lines) line = omega (arith, length_push (x ∷ lines) line)

with_line-begins : (lines : List (List ℕ)) (line : List ℕ) → BeginsFilled lines → BeginsFilled (with_line lines line)
with_line-begins [] line h = cond_both (is_blank_line line) [] (line ∷ []) BeginsFilled (λ blank. tt) (λ filled. filled)
with_line-begins (x ∷ lines) line h = h

hash-quiet : (filled hash here all : Bool) → (filled && hash) ≡ false → (here && (all && filled)) ≡ false → (filled && (hash || (here && all))) ≡ false
hash-quiet false hash here all h q = refl
hash-quiet true true here all h q = h
hash-quiet true false false all h q = refl
hash-quiet true false true false h q = refl
hash-quiet true false true true h q = q

feeds-push : (line : List ℕ) (b : ℕ) → list_any is_feed line ≡ false → is_feed b ≡ false → list_any is_feed (line ++ b ∷ []) ≡ false
feeds-push line b h other = list_any-append is_feed line (b ∷ []) ∙ or_from _ _ h (or_from _ _ other refl)

IsLeft-feed : (p : Progress) → IsLeft p → IsLeft (after_byte p 10)
IsLeft-feed p h = record {
  lines = omega (arith, h.lines, with_line-short p.ended (without_return p.open_line));
  begins = with_line-begins p.ended (without_return p.open_line) h.begins;
  feeds = refl;
  hash = and_right (list_any is_content_line (with_line p.ended (without_return p.open_line))) false refl;
}

IsLeft-begun : (p : Progress) (b : ℕ) → IsLeft p → is_feed b ≡ false → list_any is_content_line p.ended ≡ true → IsLeft (begun_after p b)
IsLeft-begun p b h other filled = record {
  lines = omega (arith, h.lines, some_line p.ended filled);
  begins = tt;
  feeds = feeds-push p.open_line b h.feeds other;
  hash = refl;
}

IsLeft-quiet : (p : Progress) (b : ℕ) → IsLeft p → is_feed b ≡ false → triggers p b ≡ false → IsLeft (quiet_after p b)
IsLeft-quiet p b h other quiet = record {
  lines = h.lines;
  begins = h.begins;
  feeds = feeds-push p.open_line b h.feeds other;
  hash =
      ap (λ x. list_any is_content_line p.ended && x) (hash-push p.open_line b)
      ∙ hash-quiet (list_any is_content_line p.ended) (has_hash p.open_line) (b == 35) (list_all is_blank p.open_line) h.hash quiet;
}

-- a block that is completed has a content line
pub filled-triggers : (p : Progress) (b : ℕ) → triggers p b ≡ true → list_any is_content_line p.ended ≡ true
filled-triggers p b h =
    (and_parts (list_all is_blank p.open_line) (list_any is_content_line p.ended)
    (and_parts (b == 35) (list_all is_blank p.open_line && list_any is_content_line p.ended) h).1).1

pub IsLeft-byte : (p : Progress) (b : ℕ) → IsLeft p → IsLeft (after_byte p b)
IsLeft-byte p b h =
    elim (cases_Bool (is_feed b)) [
      | inl feed ↦ subst (λ c. IsLeft (after_byte p c)) (sym (eqb-true b 10 feed)) (IsLeft-feed p h)
      | inr other ↦ elim (cases_Bool (triggers p b)) [
        | inl begun ↦ subst IsLeft (sym (after-begun p b other begun)) (IsLeft-begun p b h other (filled-triggers p b begun))
        | inr quiet ↦ subst IsLeft (sym (after-quiet p b other quiet)) (IsLeft-quiet p b h other quiet)
      ]
    ]

pub IsLeft-left_by : (bytes : List ℕ) → IsLeft (left_by bytes)
IsLeft-left_by bytes =
    grow (λ l. IsLeft (left_by l)) (record { lines = omega arith; begins = tt; feeds = refl; hash = refl })
    (λ l b h. subst IsLeft (sym (left_by-byte l b)) (IsLeft-byte (left_by l) b h)) bytes

-- no content line has ended
pub IsQuiet-unfilled : (p : Progress) (span : List ℕ) → list_any is_content_line p.ended ≡ false → list_any is_feed span ≡ false → IsQuiet p span
IsQuiet-unfilled p span unfilled feeds = record { feeds = feeds; hash = ap (λ f. f && has_hash (p.open_line ++ span)) unfilled }

later-same : (blank all later more hash : Bool) → (all ≡ false → later ≡ more) → (blank && all) ≡ false → (if blank then later else hash) ≡ (if blank then more else hash)
later-same true all later more hash h e = h e
later-same false all later more hash h e = refl

hash-begun : (line more : List ℕ) → list_all is_blank line ≡ false → has_hash (line ++ more) ≡ has_hash line
hash-begun [] more h = absurd (true≢false h)
hash-begun (b ∷ line) more h =
    later-same (is_blank b) (list_all is_blank line) (has_hash (line ++ more)) (has_hash line) (b == 35) (λ begun. hash-begun line more begun) h

-- the line in progress has a byte that is no blank
pub IsQuiet-begun : (p : Progress) (span : List ℕ) → IsLeft p → list_all is_blank p.open_line ≡ false → list_any is_feed span ≡ false → IsQuiet p span
IsQuiet-begun p span left begun feeds = record {
  feeds = feeds;
  hash = ap (λ x. list_any is_content_line p.ended && x) (hash-begun p.open_line span begun) ∙ left.hash;
}

-- the first byte of the span that is no blank is no `#`
pub IsQuiet-hashless : (p : Progress) (span : List ℕ) → IsLeft p → has_hash span ≡ false → list_any is_feed span ≡ false → IsQuiet p span
IsQuiet-hashless p span left hashless feeds =
    elim (cases_Bool (list_all is_blank p.open_line)) [
      | inl blank ↦ record { feeds = feeds; hash = and_right (list_any is_content_line p.ended) _ (hash-blanks p.open_line span blank ∙ hashless) }
      | inr begun ↦ IsQuiet-begun p span left begun feeds
    ]

feed_no_blank : (b : ℕ) → is_blank b ≡ true → is_feed b ≡ false
feed_no_blank b h = false_from_ne_true (is_feed b) (λ e. true≢false (sym h ∙ ap is_blank (eqb-true b 10 e)))

feeds-blank : (span : List ℕ) → list_all is_blank span ≡ true → list_any is_feed span ≡ false
feeds-blank [] h = refl
feeds-blank (b ∷ span) h =
    let parts = and_parts (is_blank b) (list_all is_blank span) h in
    or_from _ _ (feed_no_blank b parts.0) (feeds-blank span parts.1)

pub IsQuiet-blank : (p : Progress) (span : List ℕ) → IsLeft p → list_all is_blank span ≡ true → IsQuiet p span
IsQuiet-blank p span left blank =
    IsQuiet-hashless p span left (ap has_hash (sym (append-nil span)) ∙ hash-blanks span [] blank) (feeds-blank span blank)

-- where no byte up to a place completes a block, none up to an earlier one does
pub complete-earlier : (bytes piece : List ℕ) (m n : ℕ) → m ≤ n → complete (bytes ++ take n piece) ≡ complete bytes → complete (bytes ++ take m piece) ≡ complete bytes
complete-earlier bytes piece m n h same =
    let more = drop m (take n piece) in
    let first = complete-grows bytes (take m piece) in
    let second = complete-grows (bytes ++ take m piece) more in
    let whole : take m piece ++ more ≡ take n piece = ap (λ l. l ++ more) (sym (take-take m n piece h)) ∙ take-append-drop m (take n piece) in
    let parts : complete bytes ≡ (complete bytes ++ first.0) ++ second.0 =
    sym same ∙ ap (λ l. complete (bytes ++ l)) (sym whole) ∙ ap complete (sym (append_assoc bytes (take m piece) more)) ∙ second.1 ∙ ap (λ l. l ++ second.0) first.1 in
    let none : length first.0 ≡ 0 = omega (arith, ap length parts, length-append (complete bytes ++ first.0) second.0, length-append (complete bytes) first.0) in
    first.1 ∙ ap (λ l. complete bytes ++ l) (nil_from_length first.0 none) ∙ append-nil (complete bytes)

pub is_graph-filled : (lines : List (List ℕ)) → list_any is_content_line lines ≡ true → is_graph lines ≡ true
is_graph-filled lines h = ap (λ x. x || list_any is_run_line lines) h

-- the lines of a block as they are read
pub any_content-numbered_lines : (n : ℕ) (lines : List (List ℕ)) → list_any is_content (numbered_lines n lines) ≡ list_any is_content_line lines
any_content-numbered_lines n [] = refl
any_content-numbered_lines n (line ∷ lines) = ap (λ x. is_content_line line || x) (any_content-numbered_lines (n + 1) lines)

pub numbered_lines-push : (n : ℕ) (lines : List (List ℕ)) (line : List ℕ) → numbered_lines n (lines ++ line ∷ []) ≡ numbered_lines n lines ++ line_at (n + length lines, line) ∷ []
numbered_lines-push n [] line =
    let place : n ≡ n + 0 = omega arith in
    ap (λ k. line_at (k, line) ∷ []) place
numbered_lines-push n (x ∷ lines) line =
    let place : n + 1 + length lines ≡ n + suc (length lines) = omega arith in
    ap (λ l. line_at (n, x) ∷ l) (numbered_lines-push (n + 1) lines line ∙ ap (λ k. numbered_lines (n + 1) lines ++ line_at (k, line) ∷ []) place)

pub numbered_lines-below : (n : ℕ) (lines : List (List ℕ)) → All (λ l. l.number < n + length lines) (numbered_lines n lines)
numbered_lines-below n [] k d h = absurd (omega (arith, h))
numbered_lines-below n (line ∷ lines) zero d h = omega arith
numbered_lines-below n (line ∷ lines) (suc k) d h =
    let later : (slice_index_or (numbered_lines (n + 1) lines) k d).number < n + 1 + length lines = numbered_lines-below (n + 1) lines k d (omega (arith, h)) in
    omega (arith, later)

filter-some : {X : Type 0} (p : X → Bool) (xs : List X) → list_any p xs ≡ true → 0 < length (filter p xs)
filter-some p [] h = absurd (true≢false (sym h))
filter-some p (x ∷ xs) h =
    cond_both (p x) (x ∷ filter p xs) (filter p xs) (λ l. 0 < length l) (λ yes. omega arith)
    (λ other. filter-some p xs (ap (λ b. b || list_any p xs) (sym other) ∙ h))

not_and : (x y : Bool) → (not x || not y) ≡ not (x && y)
not_and true y = refl
not_and false y = refl

any_filled-numbered : (n : ℕ) (lines : List (List ℕ)) → list_any (λ (l : Line). not (are_no_fields l.fields)) (numbered_lines n lines) ≡ not (list_all is_blank_line lines)
any_filled-numbered n [] = refl
any_filled-numbered n (line ∷ lines) = ap (λ x. not (is_blank_line line) || x) (any_filled-numbered (n + 1) lines) ∙ not_and (is_blank_line line) (list_all is_blank_line lines)

pub numbered_lines-filled : (n : ℕ) (lines : List (List ℕ)) → list_all is_blank_line lines ≡ false → 0 < length (filled_lines (numbered_lines n lines))
numbered_lines-filled n lines h = filter-some _ (numbered_lines n lines) (any_filled-numbered n lines ∙ ap not h)

-- a blank line is of no other kind
run-blank : (fields : List (List ℕ)) → are_no_fields fields ≡ true → are_run_fields fields ≡ false
run-blank [] h = refl
run-blank (field ∷ fields) h = absurd (true≢false (sym h))

no_content : (lines : List (List ℕ)) → list_all is_blank_line lines ≡ true → list_any is_content_line lines ≡ false
no_content [] h = refl
no_content (line ∷ lines) h =
    let parts = and_parts (is_blank_line line) (list_all is_blank_line lines) h in
    or_from _ _ (ap (λ x. not x && not (is_hash_line line)) parts.0) (no_content lines parts.1)

no_runs : (lines : List (List ℕ)) → list_all is_blank_line lines ≡ true → list_any is_run_line lines ≡ false
no_runs [] h = refl
no_runs (line ∷ lines) h =
    let parts = and_parts (is_blank_line line) (list_all is_blank_line lines) h in
    or_from _ _ (run-blank (fields_of line) parts.0) (no_runs lines parts.1)

-- a graph has a line that is not blank
pub not_blank-graph : (lines : List (List ℕ)) → is_graph lines ≡ true → list_all is_blank_line lines ≡ false
not_blank-graph lines h =
    false_from_ne_true (list_all is_blank_line lines) (λ blank. true≢false (sym h ∙ or_from _ _ (no_content lines blank) (no_runs lines blank)))

-- the `#S` lines as they are read
pub any_run-numbered : (n : ℕ) (lines : List (List ℕ)) → list_any (λ (l : Line). are_run_fields l.fields) (numbered_lines n lines) ≡ list_any is_run_line lines
any_run-numbered n [] = refl
any_run-numbered n (line ∷ lines) = ap (λ x. is_run_line line || x) (any_run-numbered (n + 1) lines)
