-- The name of a block of a text: no line feed in it, and no blank at its ends.
use Rattle.std.specs.Prelude.{◌≡◌, ℕ, zero, suc, ◌==◌, List, [], ◌∷◌, ◌++◌, length, drop, reverse, take_while, Bool, false, not, ◌&&◌, nat_le, All, refl}
use Rattle.std.specs.List.{list_any}
use Rattle.std.proofs.Common.{sym, ◌∙◌, ap, inl, inr}
use Rattle.std.proofs.lemmas.Bool.{cond_both, cases_Bool, or_parts, or_from}
use Rattle.std.proofs.lemmas.List.{reverse-append, reverse-reverse}
use Rattle.std.proofs.lemmas.List.Elements.{All-head}
use Rattle.std.proofs.lemmas.List.Folds.{list_any-append}
use Rattle.graph_text.specs.Lines.{is_blank, is_hash_line, is_run_line}
use Rattle.graph_text.specs.Blocks.{TextBlock, IsTextBlock, after_blanks, trimmed, name_in, name_of_lines, name_of}
use Rattle.graph_text.proofs.Splitting.{after_blanks-blank, after_blanks-other}
use Rattle.graph_text.proofs.TextBlocks.{NoFeed}

abbrev pub begins_blank : List ℕ → Bool
begins_blank [] = false
begins_blank (b ∷ bytes) = is_blank b

abbrev pub ends_blank : List ℕ → Bool
ends_blank [] = false
ends_blank (b ∷ []) = is_blank b
ends_blank (b ∷ c ∷ bytes) = ends_blank (c ∷ bytes)

-- a name: no line feed in it, and no blank at its ends
pub record IsTrimmed (name : List ℕ) : Type 0 where
  pub feeds : list_any (λ b. b == 10) name ≡ false
  pub begins : begins_blank name ≡ false
  pub ends : ends_blank name ≡ false

-- a part of a line without a line feed, and such a line from its end
drop-no_feed : (n : ℕ) (line : List ℕ) → NoFeed line → NoFeed (drop n line)
drop-no_feed zero line h = h
drop-no_feed (suc n) [] h = refl
drop-no_feed (suc n) (b ∷ line) h = drop-no_feed n line (or_parts (b == 10) (list_any (λ b. b == 10) line) h).1

reverse-no_feed : (line : List ℕ) → NoFeed line → NoFeed (reverse line)
reverse-no_feed [] h = refl
reverse-no_feed (b ∷ line) h =
    let parts = or_parts (b == 10) (list_any (λ b. b == 10) line) h in
    ap (list_any (λ b. b == 10)) (reverse-append (b ∷ []) line) ∙ list_any-append (λ b. b == 10) (reverse line) (b ∷ [])
    ∙ or_from _ _ (reverse-no_feed line parts.1) (or_from _ _ parts.0 refl)

after_blanks-no_feed : (bytes : List ℕ) → NoFeed bytes → NoFeed (after_blanks bytes)
after_blanks-no_feed bytes h = drop-no_feed (length (take_while is_blank bytes)) bytes h

trimmed-no_feed : (bytes : List ℕ) → NoFeed bytes → NoFeed (trimmed bytes)
trimmed-no_feed bytes h =
    reverse-no_feed (after_blanks (reverse (after_blanks bytes)))
    (after_blanks-no_feed (reverse (after_blanks bytes)) (reverse-no_feed (after_blanks bytes) (after_blanks-no_feed bytes h)))

-- what stands behind the first blanks begins with no blank, and ends as before
after_blanks-begins : (bytes : List ℕ) → begins_blank (after_blanks bytes) ≡ false
after_blanks-begins [] = refl
after_blanks-begins (b ∷ bytes) =
    elim (cases_Bool (is_blank b)) [
      | inl blank ↦ ap begins_blank (after_blanks-blank b bytes blank) ∙ after_blanks-begins bytes
      | inr other ↦ ap begins_blank (after_blanks-other b bytes other) ∙ other
    ]

after_blanks-ends : (bytes : List ℕ) → ends_blank bytes ≡ false → ends_blank (after_blanks bytes) ≡ false
after_blanks-ends [] h = refl
after_blanks-ends (b ∷ []) h =
    elim (cases_Bool (is_blank b)) [
      | inl blank ↦ ap ends_blank (after_blanks-blank b [] blank)
      | inr other ↦ ap ends_blank (after_blanks-other b [] other) ∙ h
    ]
after_blanks-ends (b ∷ c ∷ bytes) h =
    elim (cases_Bool (is_blank b)) [
      | inl blank ↦ ap ends_blank (after_blanks-blank b (c ∷ bytes) blank) ∙ after_blanks-ends (c ∷ bytes) h
      | inr other ↦ ap ends_blank (after_blanks-other b (c ∷ bytes) other) ∙ h
    ]

-- the end of bytes is the beginning of the same bytes from their end
ends_blank-push : (bytes : List ℕ) (b : ℕ) → ends_blank (bytes ++ b ∷ []) ≡ is_blank b
ends_blank-push [] b = refl
ends_blank-push (x ∷ []) b = refl
ends_blank-push (x ∷ y ∷ bytes) b = ends_blank-push (y ∷ bytes) b

ends_blank-reverse : (bytes : List ℕ) → ends_blank (reverse bytes) ≡ begins_blank bytes
ends_blank-reverse [] = refl
ends_blank-reverse (b ∷ bytes) = ap ends_blank (reverse-append (b ∷ []) bytes) ∙ ends_blank-push (reverse bytes) b

begins_blank-reverse : (bytes : List ℕ) → begins_blank (reverse bytes) ≡ ends_blank bytes
begins_blank-reverse bytes = sym (ends_blank-reverse (reverse bytes)) ∙ ap ends_blank (reverse-reverse bytes)

trimmed-begins : (bytes : List ℕ) → begins_blank (trimmed bytes) ≡ false
trimmed-begins bytes =
    let behind = after_blanks bytes in
    begins_blank-reverse (after_blanks (reverse behind))
    ∙ after_blanks-ends (reverse behind) (ends_blank-reverse behind ∙ after_blanks-begins bytes)

trimmed-ends : (bytes : List ℕ) → ends_blank (trimmed bytes) ≡ false
trimmed-ends bytes = let from_end = reverse (after_blanks bytes) in ends_blank-reverse (after_blanks from_end) ∙ after_blanks-begins from_end

IsTrimmed-none : IsTrimmed []
IsTrimmed-none = record { feeds = refl; begins = refl; ends = refl }

name_in-trimmed : (line : List ℕ) → NoFeed line → IsTrimmed (name_in line)
name_in-trimmed line h =
    let bytes = drop 1 (after_blanks line) in
    cond_both (is_hash_line line && (not (is_run_line line) && nat_le (length line) 65536)) (trimmed bytes) [] IsTrimmed
    (λ named. record { feeds = trimmed-no_feed bytes (drop-no_feed 1 (after_blanks line) (after_blanks-no_feed line h)); begins = trimmed-begins bytes; ends = trimmed-ends bytes })
    (λ other. IsTrimmed-none)

name_of_lines-trimmed : (lines : List (List ℕ)) → All NoFeed lines → IsTrimmed (name_of_lines lines)
name_of_lines-trimmed [] each = IsTrimmed-none
name_of_lines-trimmed (line ∷ lines) each = name_in-trimmed line (All-head NoFeed line lines each)

-- the name of a block of a text
pub name_of-trimmed : (block : TextBlock) → IsTextBlock block → IsTrimmed (name_of block)
name_of-trimmed block is = name_of_lines-trimmed block.lines is.no_feeds
