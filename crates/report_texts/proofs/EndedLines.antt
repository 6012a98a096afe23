-- Lines that end with a line feed, and bytes without one.
use Rattle.std.proofs.Common.{◌≡◌, ◌+◌, ◌/◌, ◌%◌, ℕ, zero, suc, Bool, true, false, ◌==◌, nat_lt, cond, List, [], ◌∷◌, ◌++◌, refl, ap, ◌∙◌, inl, inr, arith}
use Rattle.std.specs.Prelude.{decimal}
use Rattle.std.specs.Fmt.{digits, digits_onto, digit_glyph}
use Rattle.std.specs.List.{list_any, join_with_byte}
use Rattle.std.proofs.lemmas.Bool.{cases_Bool, cond-false, cond-true, ne_eqb, or_from, or_parts}
use Rattle.std.proofs.lemmas.List.Folds.{list_any-append}
use Rattle.graph_text.specs.Lines.{onto_first}
use Rattle.report_texts.specs.ReportTexts.{ended_lines}

-- whether a line feed stands among the bytes
abbrev pub has_feed : List ℕ → Bool
has_feed bytes = list_any (λ b. b == 10) bytes

-- the first line of a text
pub ended_lines-line : (l rest : List ℕ) → has_feed l ≡ false → ended_lines (l ++ 10 ∷ rest) ≡ (l ++ 10 ∷ []) ∷ ended_lines rest
ended_lines-line [] rest h = refl
ended_lines-line (b ∷ l) rest h =
    let parts = or_parts (b == 10) (has_feed l) h in
    let behind = ended_lines (l ++ 10 ∷ rest) in
    cond-false (b == 10) ((b ∷ []) ∷ behind) (onto_first b behind) parts.0 ∙ ap (onto_first b) (ended_lines-line l rest parts.1)

-- fields without a line feed, joined by spaces, have none
pub join-feed : (fields : List (List ℕ)) → list_any has_feed fields ≡ false → has_feed (join_with_byte 32 fields) ≡ false
join-feed [] h = refl
join-feed (f ∷ []) h = (or_parts (has_feed f) false h).0
join-feed (f ∷ g ∷ fields) h =
    let parts = or_parts (has_feed f) (list_any has_feed (g ∷ fields)) h in
    let behind = join_with_byte 32 (g ∷ fields) in
    list_any-append (λ b. b == 10) f (32 ∷ behind)
    ∙ or_from (has_feed f) (has_feed (32 ∷ behind)) parts.0 (or_from (32 == 10) (has_feed behind) refl (join-feed (g ∷ fields) parts.1))

-- some fields have no line feed where each has none
pub feed-more : (f : List ℕ) (fields : List (List ℕ)) → has_feed f ≡ false → list_any has_feed fields ≡ false → list_any has_feed (f ∷ fields) ≡ false
feed-more f fields h k = or_from (has_feed f) (list_any has_feed fields) h k

pub feed-one : (f : List ℕ) → has_feed f ≡ false → list_any has_feed (f ∷ []) ≡ false
feed-one f h = feed-more f [] h refl

-- digits are no line feeds
glyph-other : (d : ℕ) → (digit_glyph false d == 10) ≡ false
glyph-other d =
    elim (cases_Bool (nat_lt d 10)) [
      | inl low ↦ ap (λ g. g == 10) (cond-true (nat_lt d 10) (48 + d) (87 + d) low) ∙ ne_eqb (48 + d) 10 (λ e. omega arith)
      | inr high ↦ ap (λ g. g == 10) (cond-false (nat_lt d 10) (48 + d) (87 + d) high) ∙ ne_eqb (87 + d) 10 (λ e. omega arith)
    ]

one_of : (test : Bool) (a b : List ℕ) → has_feed a ≡ false → has_feed b ≡ false → has_feed (cond test a b) ≡ false
one_of true a b h k = h
one_of false a b h k = k

digits-no_feed : (k n : ℕ) (behind : List ℕ) → has_feed behind ≡ false → has_feed (digits_onto k 10 false n behind) ≡ false
digits-no_feed zero n behind h = h
digits-no_feed (suc k) n behind h =
    let last = digit_glyph false (n % 10) ∷ behind in
    let none : has_feed last ≡ false = or_from (digit_glyph false (n % 10) == 10) (has_feed behind) (glyph-other (n % 10)) h in
    one_of (n / 10 == 0) last (digits_onto k 10 false (n / 10) last) none (digits-no_feed k (n / 10) last none)

pub decimal-no_feed : (n : ℕ) → has_feed (decimal n) ≡ false
unfolding digits
decimal-no_feed n = digits-no_feed 64 n [] refl
