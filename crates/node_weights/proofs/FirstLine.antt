-- The first line of a text, and the lines behind it.
use Rattle.std.proofs.Common.{◌≡◌, ℕ, suc, ◌+◌, ◌<◌, Bool, true, false, not, List, [], ◌∷◌, length, map, take, drop, sym, ap, subst, ◌∙◌, ⊎_elim, arith}
use Rattle.std.specs.Prelude.{◌==◌}
use Rattle.std.specs.List.{position_or_len, list_any}
use Rattle.std.proofs.lemmas.Bool.{cases_Bool, cond-true, cond-false}
use Rattle.std.proofs.lemmas.List.Elements.{All-head}
use Rattle.std.specs.Prelude.{All}
use Rattle.graph_text.specs.Lines.{onto_first, spelled_lines, without_return, lines_of}
use Rattle.graph_text.proofs.TextBlocks.{NoFeed, lines_of-no_feed}

abbrev is_feed : ℕ → Bool
is_feed b = b == 10

-- the lines are what stands before the first line feed, and those of what stands behind it
abbrev Splits : List ℕ → ℕ → Type 0
Splits bytes n = spelled_lines bytes ≡ take n bytes ∷ spelled_lines (drop (n + 1) bytes)

at_feed : (b : ℕ) (bytes : List ℕ) → is_feed b ≡ true → Splits (b ∷ bytes) (position_or_len is_feed (b ∷ bytes))
at_feed b bytes t =
    let none : position_or_len is_feed (b ∷ bytes) ≡ 0 = cond-false (not (is_feed b)) (1 + position_or_len is_feed bytes) 0 (ap not t) in
    subst (Splits (b ∷ bytes)) (sym none) (cond-true (is_feed b) ([] ∷ spelled_lines bytes) (onto_first b (spelled_lines bytes)) t)

behind : (b : ℕ) (bytes : List ℕ) → is_feed b ≡ false → position_or_len is_feed (b ∷ bytes) ≡ suc (position_or_len is_feed bytes)
behind b bytes f = cond-true (not (is_feed b)) (1 + position_or_len is_feed bytes) 0 (ap not f) ∙ omega arith

more : (b : ℕ) (bytes : List ℕ) → is_feed b ≡ false → spelled_lines (b ∷ bytes) ≡ onto_first b (spelled_lines bytes)
more b bytes f = cond-false (is_feed b) ([] ∷ spelled_lines bytes) (onto_first b (spelled_lines bytes)) f

drop_suc : (n : ℕ) (b : ℕ) (bytes : List ℕ) → drop (n + 1) bytes ≡ drop (suc n + 1) (b ∷ bytes)
drop_suc n b bytes = let e : suc n + 1 ≡ suc (n + 1) = omega arith in rw e

spelled-split : (bytes : List ℕ) → 0 < length bytes → Splits bytes (position_or_len is_feed bytes)
spelled-split [] some = absurd (omega arith)
spelled-split (b ∷ []) some =
    ⊎_elim (λ t. at_feed b [] t)
    (λ f. subst (Splits (b ∷ [])) (sym (behind b [] f)) (more b [] f))
    (cases_Bool (is_feed b))
spelled-split (b ∷ c ∷ bytes) some =
    let n = position_or_len is_feed (c ∷ bytes) in
    ⊎_elim (λ t. at_feed b (c ∷ bytes) t)
    (λ f. subst (Splits (b ∷ c ∷ bytes)) (sym (behind b (c ∷ bytes) f))
    (more b (c ∷ bytes) f
    ∙ ap (onto_first b) (spelled-split (c ∷ bytes) (omega arith))
    ∙ ap (λ rest. (b ∷ take n (c ∷ bytes)) ∷ spelled_lines rest) (drop_suc n b (c ∷ bytes))))
    (cases_Bool (is_feed b))

module _ (text front line rest : List ℕ) (end : ℕ) (some : 0 < length text) (end_is : end ≡ position_or_len is_feed text)
    (front_is : front ≡ take end text) (line_is : line ≡ without_return front) (rest_is : rest ≡ drop (end + 1) text) where
  pub lines-split : lines_of text ≡ line ∷ lines_of rest
  lines-split =
      ap (λ ls. map without_return ls) (subst (Splits text) (sym end_is) (spelled-split text some))
      ∙ ap (λ l. without_return l ∷ lines_of (drop (end + 1) text)) (sym front_is)
      ∙ ap (λ l. l ∷ lines_of (drop (end + 1) text)) (sym line_is)
      ∙ ap (λ r. line ∷ lines_of r) (sym rest_is)

  pub line-no_feed : list_any (λ b. b == 10) line ≡ false
  line-no_feed = All-head NoFeed line (lines_of rest) (subst (All NoFeed) lines-split (lines_of-no_feed text))
