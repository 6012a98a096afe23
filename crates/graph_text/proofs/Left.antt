-- What a text leaves, told by its lines that have ended and the line in progress.
use Rattle.std.specs.Prelude.{◌≡◌, ℕ, ◌+◌, ◌-◌, ◌<◌, ◌==◌, List, [], ◌∷◌, ◌++◌, length, take, Bool, true, false, not, ◌&&◌, ◌||◌, if◌then◌else◌, refl}
use Rattle.std.specs.List.{list_any, list_all, prefix_len, after_last}
use Rattle.std.proofs.Common.{sym, ◌∙◌, ap, subst, arith, inl, inr, true≢false}
use Rattle.std.proofs.lemmas.Bool.{cond-true, cond-false, cond_both, cases_Bool, and_parts, eqb-true, false_from_ne_true}
use Rattle.std.proofs.lemmas.List.{append-nil, length_push, length-append}
use Rattle.std.proofs.Math.Seq.{take-append_seam}
use Rattle.graph_text.specs.Lines.{without_return, is_blank, is_blank_line, is_content_line}
use Rattle.graph_text.specs.Blocks.{TextBlock, groups_of, all_but_last, is_graph, complete, blocks}
use Rattle.graph_text.specs.Progress.{Progress, is_feed, last_group, with_line, without_open, left_by, triggers, after_byte, block_in, completed, with_open, last_block}
use Rattle.graph_text.proofs.Growing.{has_hash, hash-is, groups_of-is}
use Rattle.graph_text.proofs.OpenLine.{open_lines, IsCut, cut-lines, cut-feed, cut-byte, cut, hash-without_return}
use Rattle.graph_text.proofs.Groups.{grouped, begins_at, last-push, front-push}
use Rattle.graph_text.proofs.BlockPlaces.{total, lines-parts, placed, numbered-push, length-numbered, complete-is, blocks-is, graph_in, placed-push, groups-parts}

-- whether the line in progress begins a group behind these lines
abbrev pub starts : List (List ℕ) → List ℕ → Bool
starts lines rest = has_hash rest && list_any is_content_line (last_group (grouped lines))

-- the complete groups, and the ended lines of the last one
abbrev pub fronts : List (List ℕ) → List ℕ → List (List (List ℕ))
fronts lines rest = if starts lines rest then grouped lines else all_but_last (grouped lines)

abbrev pub left_lines : List (List ℕ) → List ℕ → List (List ℕ)
left_lines lines rest = if starts lines rest then [] else last_group (grouped lines)

abbrev pub left_at : List (List ℕ) → List ℕ → Progress
left_at lines rest = record { blocks = length (fronts lines rest); line = length lines + 1; open_line = rest; ended = left_lines lines rest }

begins-starts : (lines : List (List ℕ)) (rest : List ℕ) → begins_at lines (without_return rest) ≡ starts lines rest
begins-starts lines rest = ap (λ h. h && list_any is_content_line (last_group (grouped lines))) (hash-is (without_return rest) ∙ hash-without_return rest)

-- the same where the line in progress ends
last-line : (lines : List (List ℕ)) (rest : List ℕ) → last_group (grouped (lines ++ without_return rest ∷ [])) ≡ with_line (left_lines lines rest) (without_return rest)
last-line lines rest =
    last-push lines (without_return rest) ∙ ap (λ s. with_line (if s then [] else last_group (grouped lines)) (without_return rest)) (begins-starts lines rest)

front-line : (lines : List (List ℕ)) (rest : List ℕ) → all_but_last (grouped (lines ++ without_return rest ∷ [])) ≡ fronts lines rest
front-line lines rest = front-push lines (without_return rest) ∙ ap (λ s. if s then grouped lines else all_but_last (grouped lines)) (begins-starts lines rest)

placed-line : (lines : List (List ℕ)) (rest : List ℕ) →
    placed (lines ++ without_return rest ∷ []) (all_but_last (grouped (lines ++ without_return rest ∷ []))) ≡ placed lines (fronts lines rest)
placed-line lines rest = placed-push lines (without_return rest) ∙ ap (λ s. placed lines (if s then grouped lines else all_but_last (grouped lines))) (begins-starts lines rest)

-- the same where the text ends
placed-open : (lines : List (List ℕ)) (rest : List ℕ) → placed (lines ++ open_lines rest) (all_but_last (grouped (lines ++ open_lines rest))) ≡ placed lines (fronts lines rest)
placed-open lines [] = ap (λ l. placed l (all_but_last (grouped l))) (append-nil lines)
placed-open lines (b ∷ rest) = placed-line lines (b ∷ rest)

last-open : (lines : List (List ℕ)) (rest : List ℕ) → last_group (grouped (lines ++ open_lines rest)) ≡ with_open rest (left_lines lines rest)
last-open lines [] = ap (λ l. last_group (grouped l)) (append-nil lines)
last-open lines (b ∷ rest) = last-line lines (b ∷ rest)

take-line : (lines : List (List ℕ)) (line : List ℕ) → take (length (with_line lines line) - 1) (with_line lines line) ≡ lines
take-line [] line = cond_both (is_blank_line line) [] (line ∷ []) (λ l. take (length l - 1) l ≡ []) (λ blank. refl) (λ filled. refl)
take-line (x ∷ xs) line =
    let all = (x ∷ xs) ++ line ∷ [] in
    let place : length all - 1 ≡ length (x ∷ xs) = omega (arith, length_push (x ∷ xs) line) in
    ap (λ n. take n all) place ∙ take-append_seam (x ∷ xs) (line ∷ [])

without-with_open : (rest : List ℕ) (lines : List (List ℕ)) → without_open rest (with_open rest lines) ≡ lines
without-with_open [] lines = refl
without-with_open (b ∷ rest) lines = take-line lines (without_return (b ∷ rest))

pub same_progress : (a b c d : ℕ) (x y : List ℕ) (v w : List (List ℕ)) → a ≡ b → c ≡ d → x ≡ y → v ≡ w →
    ◌≡◌ {A = Progress} (record { blocks = a; line = c; open_line = x; ended = v }) (record { blocks = b; line = d; open_line = y; ended = w })
same_progress a b c d x y v w e f g h = cc

module _ (bytes : List ℕ) (lines : List (List ℕ)) (rest : List ℕ) (is : IsCut bytes lines rest) where
  pub complete-cut : complete bytes ≡ placed lines (fronts lines rest)
  complete-cut = complete-is bytes ∙ ap (λ l. placed l (all_but_last (grouped l))) (cut-lines bytes lines rest is) ∙ placed-open lines rest

  pub left-cut : left_by bytes ≡ left_at lines rest
  left-cut =
      let ended : without_open (after_last is_feed bytes) (last_group (groups_of bytes)) ≡ left_lines lines rest =
      ap (λ r. without_open r (last_group (groups_of bytes))) is.open_line
      ∙ ap (λ gs. without_open rest (last_group gs)) (groups_of-is bytes)
      ∙ ap (λ l. without_open rest (last_group (grouped l))) (cut-lines bytes lines rest is)
      ∙ ap (without_open rest) (last-open lines rest)
      ∙ without-with_open rest (left_lines lines rest) in
      same_progress _ _ _ _ _ _ _ _ (ap length complete-cut ∙ length-numbered _ _ (fronts lines rest)) (ap (λ n. n + 1) is.count) is.open_line ended

-- a line feed
left-feed : (lines : List (List ℕ)) (rest : List ℕ) → left_at (lines ++ without_return rest ∷ []) [] ≡ after_byte (left_at lines rest) 10
left-feed lines rest =
    same_progress _ _ _ _ _ _ _ _ (ap length (front-line lines rest)) (ap (λ n. n + 1) (length_push lines (without_return rest))) refl (last-line lines rest)

-- another byte: whether the line in progress has a `#` before all other bytes but blanks
hash_no_blank : (b : ℕ) → is_blank b ≡ true → (b == 35) ≡ false
hash_no_blank b h = false_from_ne_true (b == 35) (λ e. true≢false (sym h ∙ ap is_blank (eqb-true b 35 e)))

same_and : (x : Bool) → x ≡ (x && true)
same_and true = refl
same_and false = refl

hash-one : (b : ℕ) → has_hash (b ∷ []) ≡ (false || ((b == 35) && true))
hash-one b = cond_both (is_blank b) false (b == 35) (λ h. h ≡ ((b == 35) && true)) (λ blank. sym (ap (λ x. x && true) (hash_no_blank b blank))) (λ other. same_and (b == 35))

hash-cases : (blank later more hash here all : Bool) → later ≡ (more || (here && all)) → (if blank then later else hash) ≡ ((if blank then more else hash) || (here && (blank && all)))
hash-cases true later more hash here all h = h
hash-cases false later more true here all h = refl
hash-cases false later more false true all h = refl
hash-cases false later more false false all h = refl

pub hash-push : (rest : List ℕ) (b : ℕ) → has_hash (rest ++ b ∷ []) ≡ (has_hash rest || ((b == 35) && list_all is_blank rest))
hash-push [] b = hash-one b
hash-push (c ∷ rest) b = hash-cases (is_blank c) (has_hash (rest ++ b ∷ [])) (has_hash rest) (c == 35) (b == 35) (list_all is_blank rest) (hash-push rest b)

any-left : (s : Bool) (lines : List (List ℕ)) → list_any is_content_line (if s then [] else lines) ≡ (not s && list_any is_content_line lines)
any-left true lines = refl
any-left false lines = refl

quiet-same : (hash here all filled left : Bool) → left ≡ (not (hash && filled) && filled) → (here && (all && left)) ≡ false → ((hash || (here && all)) && filled) ≡ (hash && filled)
quiet-same true here all filled left e h = refl
quiet-same false false all filled left e h = refl
quiet-same false true false filled left e h = refl
quiet-same false true true filled left e h = sym e ∙ h

-- Whether the line in progress begins a group, before and after a byte that completes a block.
record Turns (before after filled : Bool) : Type 0 where
  was : before ≡ false
  is : after ≡ true
  some : filled ≡ true

turns : (hash here all filled left : Bool) → left ≡ (not (hash && filled) && filled) → (here && (all && left)) ≡ true → Turns (hash && filled) ((hash || (here && all)) && filled) filled
turns true here all true left e h = absurd (true≢false (sym (and_parts all left (and_parts here (all && left) h).1).1 ∙ e))
turns true here all false left e h = absurd (true≢false (sym (and_parts all left (and_parts here (all && left) h).1).1 ∙ e))
turns false true true filled left e h = record { was = refl; is = sym e ∙ h; some = sym e ∙ h }
turns false true false filled left e h = absurd (true≢false (sym h))
turns false false all filled left e h = absurd (true≢false (sym h))

-- what a byte that ends no line leaves
abbrev pub quiet_after : Progress → ℕ → Progress
quiet_after p b = record { blocks = p.blocks; line = p.line; open_line = p.open_line ++ b ∷ []; ended = p.ended }

abbrev pub begun_after : Progress → ℕ → Progress
begun_after p b = record { blocks = p.blocks + 1; line = p.line; open_line = p.open_line ++ b ∷ []; ended = [] }

pub after-quiet : (p : Progress) (b : ℕ) → is_feed b ≡ false → triggers p b ≡ false → after_byte p b ≡ quiet_after p b
after-quiet p b other quiet = cond-false (b == 10) _ _ other ∙ cond-false (triggers p b) (begun_after p b) (quiet_after p b) quiet

pub after-begun : (p : Progress) (b : ℕ) → is_feed b ≡ false → triggers p b ≡ true → after_byte p b ≡ begun_after p b
after-begun p b other begun = cond-false (b == 10) _ _ other ∙ cond-true (triggers p b) (begun_after p b) (quiet_after p b) begun

pub some_line : (lines : List (List ℕ)) → list_any is_content_line lines ≡ true → 0 < length lines
some_line [] h = absurd (true≢false (sym h))
some_line (line ∷ lines) h = omega arith

same_block : (a b c d : ℕ) (v w : List (List ℕ)) → a ≡ b → c ≡ d → v ≡ w →
    ◌≡◌ {A = TextBlock} (record { index = a; line = c; lines = v }) (record { index = b; line = d; lines = w })
same_block a b c d v w e f g = cc

module _ (lines : List (List ℕ)) (rest : List ℕ) (b : ℕ) where
  abbrev filled : Bool
  filled = list_any is_content_line (last_group (grouped lines))

  starts-quiet : triggers (left_at lines rest) b ≡ false → starts lines (rest ++ b ∷ []) ≡ starts lines rest
  starts-quiet h =
      ap (λ x. x && filled) (hash-push rest b)
      ∙ quiet-same (has_hash rest) (b == 35) (list_all is_blank rest) filled _ (any-left (starts lines rest) (last_group (grouped lines))) h

  starts-turns : triggers (left_at lines rest) b ≡ true → Turns (starts lines rest) (starts lines (rest ++ b ∷ [])) filled
  starts-turns h =
      subst (λ x. Turns (starts lines rest) (x && filled) filled) (sym (hash-push rest b))
      (turns (has_hash rest) (b == 35) (list_all is_blank rest) filled _ (any-left (starts lines rest) (last_group (grouped lines))) h)

  grouped-parts : filled ≡ true → grouped lines ≡ all_but_last (grouped lines) ++ last_group (grouped lines) ∷ []
  grouped-parts h = groups-parts (grouped lines) (some_line (last_group (grouped lines)) h)

  pub left-byte : is_feed b ≡ false → left_at lines (rest ++ b ∷ []) ≡ after_byte (left_at lines rest) b
  left-byte other =
      elim (cases_Bool (triggers (left_at lines rest) b)) [
        | inl begun ↦
            let t = starts-turns begun in
            let one_more : length (fronts lines (rest ++ b ∷ [])) ≡ length (fronts lines rest) + 1 =
            ap length (cond-true (starts lines (rest ++ b ∷ [])) _ _ t.is ∙ grouped-parts t.some) ∙ length_push (all_but_last (grouped lines)) (last_group (grouped lines))
            ∙ ap (λ gs. length gs + 1) (sym (cond-false (starts lines rest) (grouped lines) _ t.was)) in
            let here : left_at lines (rest ++ b ∷ []) ≡ begun_after (left_at lines rest) b =
            same_progress _ _ _ _ _ _ _ _ one_more refl refl (cond-true (starts lines (rest ++ b ∷ [])) _ _ t.is) in
            here ∙ sym (after-begun (left_at lines rest) b other begun)
        | inr quiet ↦
            let same = starts-quiet quiet in
            let here : left_at lines (rest ++ b ∷ []) ≡ quiet_after (left_at lines rest) b =
            same_progress _ _ _ _ _ _ _ _ (ap (λ s. length (if s then grouped lines else all_but_last (grouped lines))) same) refl refl
            (ap (λ s. if s then [] else last_group (grouped lines)) same) in
            here ∙ sym (after-quiet (left_at lines rest) b other quiet)
      ]

  abbrev block : TextBlock
  block = record { index = 1 + length (all_but_last (grouped lines)); line = prefix_len is_blank_line lines + 1 + total (all_but_last (grouped lines)); lines = last_group (grouped lines) }

  block-begun : starts lines rest ≡ false → block ≡ block_in (left_at lines rest) (left_lines lines rest)
  block-begun was =
      let front : fronts lines rest ≡ all_but_last (grouped lines) = cond-false (starts lines rest) _ _ was in
      let last : left_lines lines rest ≡ last_group (grouped lines) = cond-false (starts lines rest) _ _ was in
      same_block _ _ _ _ _ _ (omega (arith, ap length front)) (omega (arith, ap length last, lines-parts lines)) (sym last)

  pub placed-byte : placed lines (fronts lines (rest ++ b ∷ [])) ≡ placed lines (fronts lines rest) ++ completed (left_at lines rest) b
  placed-byte =
      elim (cases_Bool (triggers (left_at lines rest) b)) [
        | inl begun ↦
            let t = starts-turns begun in
            ap (placed lines) (cond-true (starts lines (rest ++ b ∷ [])) _ _ t.is ∙ grouped-parts t.some)
            ∙ numbered-push 1 (prefix_len is_blank_line lines + 1) (all_but_last (grouped lines)) (last_group (grouped lines))
            ∙ ap (λ gs. placed lines gs ++ block ∷ []) (sym (cond-false (starts lines rest) (grouped lines) _ t.was))
            ∙ ap (λ block. placed lines (fronts lines rest) ++ block ∷ []) (block-begun t.was)
            ∙ ap (λ more. placed lines (fronts lines rest) ++ more) (sym (cond-true (triggers (left_at lines rest) b) _ [] begun))
        | inr quiet ↦
            ap (λ s. placed lines (if s then grouped lines else all_but_last (grouped lines))) (starts-quiet quiet)
            ∙ sym (append-nil (placed lines (fronts lines rest)))
            ∙ ap (λ more. placed lines (fronts lines rest) ++ more) (sym (cond-false (triggers (left_at lines rest) b) (block_in (left_at lines rest) (left_lines lines rest) ∷ []) [] quiet))
      ]

-- the last block of a text
open-length : (rest : List ℕ) (lines : List (List ℕ)) → is_graph (with_open rest lines) ≡ true → length (with_open rest lines) ≡ length lines + length (open_lines rest)
open-length [] lines h = omega arith
open-length (b ∷ rest) [] h =
    let line = without_return (b ∷ rest) in
    cond_both (is_blank_line line) [] (line ∷ []) (λ lines. is_graph lines ≡ true → length lines ≡ 0 + 1) (λ blank e. absurd (true≢false (sym e))) (λ filled e. refl) h
open-length (b ∷ rest) (x ∷ lines) h = length_push (x ∷ lines) (without_return (b ∷ rest))

module _ (lines : List (List ℕ)) (rest : List ℕ) where
  abbrev all : List (List ℕ)
  all = lines ++ open_lines rest

  abbrev ending : TextBlock
  ending = record { index = 1 + length (all_but_last (grouped all)); line = prefix_len is_blank_line all + 1 + total (all_but_last (grouped all)); lines = last_group (grouped all) }

  block-ending : is_graph (with_open rest (left_lines lines rest)) ≡ true → ending ≡ block_in (left_at lines rest) (with_open rest (left_lines lines rest))
  block-ending graph =
      let last = last-open lines rest in
      let front : length (all_but_last (grouped all)) ≡ length (fronts lines rest) =
      sym (length-numbered _ _ (all_but_last (grouped all))) ∙ ap length (placed-open lines rest) ∙ length-numbered _ _ (fronts lines rest) in
      same_block _ _ _ _ _ _ (omega (arith, front))
      (omega (arith, ap length last, lines-parts all, open-length rest (left_lines lines rest) graph, length-append lines (open_lines rest))) last

  placed-end : placed all (all_but_last (grouped all) ++ graph_in (last_group (grouped all))) ≡ placed all (all_but_last (grouped all)) ++ last_block (left_at lines rest)
  placed-end =
      let front = all_but_last (grouped all) in
      let last = last_group (grouped all) in
      let kept = with_open rest (left_lines lines rest) in
      let same : is_graph last ≡ is_graph kept = ap is_graph (last-open lines rest) in
      elim (cases_Bool (is_graph kept)) [
        | inl graph ↦
            ap (λ gs. placed all (front ++ gs)) (cond-true (is_graph last) (last ∷ []) [] (same ∙ graph))
            ∙ numbered-push 1 (prefix_len is_blank_line all + 1) front last
            ∙ ap (λ block. placed all front ++ block ∷ []) (block-ending graph)
            ∙ ap (λ more. placed all front ++ more) (sym (cond-true (is_graph kept) (block_in (left_at lines rest) kept ∷ []) [] graph))
        | inr none ↦
            ap (λ gs. placed all (front ++ gs)) (cond-false (is_graph last) (last ∷ []) [] (same ∙ none))
            ∙ ap (placed all) (append-nil front)
            ∙ sym (append-nil (placed all front))
            ∙ ap (λ more. placed all front ++ more) (sym (cond-false (is_graph kept) (block_in (left_at lines rest) kept ∷ []) [] none))
      ]

-- the laws of one byte more, of any text
pub complete-more : (bytes : List ℕ) (b : ℕ) → complete (bytes ++ b ∷ []) ≡ complete bytes ++ completed (left_by bytes) b
complete-more bytes b =
    let c = cut bytes in
    let was = complete-cut bytes c.ended c.rest c.is in
    let left = left-cut bytes c.ended c.rest c.is in
    elim (cases_Bool (is_feed b)) [
      | inl feed ↦
          let here : complete (bytes ++ 10 ∷ []) ≡ complete bytes ++ completed (left_by bytes) 10 =
          complete-cut (bytes ++ 10 ∷ []) (c.ended ++ without_return c.rest ∷ []) [] (cut-feed bytes c.ended c.rest c.is)
          ∙ placed-line c.ended c.rest ∙ sym was ∙ sym (append-nil (complete bytes)) in
          subst (λ f. complete (bytes ++ f ∷ []) ≡ complete bytes ++ completed (left_by bytes) f) (sym (eqb-true b 10 feed)) here
      | inr other ↦
          complete-cut (bytes ++ b ∷ []) c.ended (c.rest ++ b ∷ []) (cut-byte bytes c.ended c.rest b other c.is)
          ∙ placed-byte c.ended c.rest b
          ∙ ap (λ l. l ++ completed (left_at c.ended c.rest) b) (sym was)
          ∙ ap (λ p. complete bytes ++ completed p b) (sym left)
    ]

pub left-more : (bytes : List ℕ) (b : ℕ) → left_by (bytes ++ b ∷ []) ≡ after_byte (left_by bytes) b
left-more bytes b =
    let c = cut bytes in
    let left = left-cut bytes c.ended c.rest c.is in
    elim (cases_Bool (is_feed b)) [
      | inl feed ↦
          let here : left_by (bytes ++ 10 ∷ []) ≡ after_byte (left_by bytes) 10 =
          left-cut (bytes ++ 10 ∷ []) (c.ended ++ without_return c.rest ∷ []) [] (cut-feed bytes c.ended c.rest c.is)
          ∙ left-feed c.ended c.rest ∙ ap (λ p. after_byte p 10) (sym left) in
          subst (λ f. left_by (bytes ++ f ∷ []) ≡ after_byte (left_by bytes) f) (sym (eqb-true b 10 feed)) here
      | inr other ↦
          left-cut (bytes ++ b ∷ []) c.ended (c.rest ++ b ∷ []) (cut-byte bytes c.ended c.rest b other c.is)
          ∙ left-byte c.ended c.rest b other ∙ ap (λ p. after_byte p b) (sym left)
    ]

pub blocks-left : (bytes : List ℕ) → blocks bytes ≡ complete bytes ++ last_block (left_by bytes)
blocks-left bytes =
    let c = cut bytes in
    let lines = cut-lines bytes c.ended c.rest c.is in
    blocks-is bytes
    ∙ ap (λ l. placed l (all_but_last (grouped l) ++ graph_in (last_group (grouped l)))) lines
    ∙ placed-end c.ended c.rest
    ∙ ap (λ l. l ++ last_block (left_at c.ended c.rest)) (sym (complete-is bytes ∙ ap (λ l. placed l (all_but_last (grouped l))) lines))
    ∙ ap (λ p. complete bytes ++ last_block p) (sym (left-cut bytes c.ended c.rest c.is))
