-- A text is its lines that have ended, and the line in progress.
use Rattle.std.specs.Prelude.{◌≡◌, ℕ, ◌+◌, ◌-◌, ◌==◌, List, [], ◌∷◌, ◌++◌, length, drop, map, count_by, Bool, true, false, not, if◌then◌else◌, refl}
use Rattle.std.specs.List.{list_any, after_last, prefix_len, suffix_len}
use Rattle.std.proofs.Common.{sym, ◌∙◌, ap, subst, arith, inl, inr}
use Rattle.std.proofs.lemmas.Bool.{cond-true, cond-false, cond_both, or_parts, or_from, eqb-true, cases_Bool}
use Rattle.std.proofs.lemmas.List.{append_assoc, append-nil, reverse-append, length_push, drop-append-le}
use Rattle.std.proofs.lemmas.List.Sums.{sum_by_push}
use Rattle.std.proofs.lemmas.List.Folds.{list_any-append}
use Rattle.std.proofs.Math.ListN.{drop_of_length-le}
use Rattle.graph_text.specs.Lines.{spelled_lines, onto_first, without_return, lines_of, is_blank}
use Rattle.graph_text.specs.Progress.{is_feed}
use Rattle.graph_text.proofs.Growing.{has_hash}

-- an induction on how a list grows at its end
grow_from : {X : Type 0} (P : List X → Type 0) → ((xs : List X) (x : X) → P xs → P (xs ++ x ∷ [])) → (xs more : List X) → P xs → P (xs ++ more)
grow_from P step xs [] h = subst P (sym (append-nil xs)) h
grow_from P step xs (x ∷ more) h = subst P (append_assoc xs (x ∷ []) more) (grow_from P step (xs ++ x ∷ []) more (step xs x h))

pub grow : {X : Type 0} (P : List X → Type 0) → P [] → ((xs : List X) (x : X) → P xs → P (xs ++ x ∷ [])) → (xs : List X) → P xs
grow P none step xs = grow_from P step [] xs none

-- what stands after the last line feed, with one byte more
suffix_len-push : {X : Type 0} (q : X → Bool) (xs : List X) (x : X) → suffix_len q (xs ++ x ∷ []) ≡ (if q x then 1 + suffix_len q xs else 0)
suffix_len-push q xs x = ap (prefix_len q) (reverse-append xs (x ∷ []))

after_last-yes : {X : Type 0} (p : X → Bool) (xs : List X) (x : X) → p x ≡ true → after_last p (xs ++ x ∷ []) ≡ []
after_last-yes p xs x h =
    let none : suffix_len (λ y. not (p y)) (xs ++ x ∷ []) ≡ 0 = suffix_len-push (λ y. not (p y)) xs x ∙ cond-false (not (p x)) _ _ (ap not h) in
    drop_of_length-le (xs ++ x ∷ []) (omega (arith, none))

after_last-no : {X : Type 0} (p : X → Bool) (xs : List X) (x : X) → p x ≡ false → after_last p (xs ++ x ∷ []) ≡ after_last p xs ++ x ∷ []
after_last-no p xs x h =
    let more : suffix_len (λ y. not (p y)) (xs ++ x ∷ []) ≡ 1 + suffix_len (λ y. not (p y)) xs = suffix_len-push (λ y. not (p y)) xs x ∙ cond-true (not (p x)) _ _ (ap not h) in
    let same : length (xs ++ x ∷ []) - suffix_len (λ y. not (p y)) (xs ++ x ∷ []) ≡ length xs - suffix_len (λ y. not (p y)) xs = omega (arith, more, length_push xs x) in
    ap (λ n. drop n (xs ++ x ∷ [])) same ∙ drop-append-le (length xs - suffix_len (λ y. not (p y)) xs) xs (x ∷ []) (omega arith)

-- a carriage return at the end of a line makes no difference to its first `#`
pub hash-without_return : (line : List ℕ) → has_hash (without_return line) ≡ has_hash line
hash-without_return [] = refl
hash-without_return (b ∷ []) =
    cond_both (b == 13) [] (b ∷ []) (λ l. has_hash l ≡ has_hash (b ∷ []))
    (λ yes. sym (ap (λ c. has_hash (c ∷ [])) (eqb-true b 13 yes))) (λ no. refl)
hash-without_return (b ∷ c ∷ bytes) = ap (λ rest. if is_blank b then rest else b == 35) (hash-without_return (c ∷ bytes))

-- bytes without a line feed are one line
spelled-feed : (line more : List ℕ) → list_any is_feed line ≡ false → spelled_lines (line ++ 10 ∷ more) ≡ line ∷ spelled_lines more
spelled-feed [] more h = refl
spelled-feed (b ∷ line) more h =
    let parts = or_parts (is_feed b) (list_any is_feed line) h in
    cond-false (b == 10) _ _ parts.0 ∙ ap (onto_first b) (spelled-feed line more parts.1)

-- the line in progress, where it has bytes
abbrev pub open_lines : List ℕ → List (List ℕ)
open_lines [] = []
open_lines (b ∷ bytes) = without_return (b ∷ bytes) ∷ []

spelled-line : (b : ℕ) (line : List ℕ) → list_any is_feed (b ∷ line) ≡ false → spelled_lines (b ∷ line) ≡ (b ∷ line) ∷ []
spelled-line b [] h = cond-false (b == 10) _ _ (or_parts (is_feed b) false h).0
spelled-line b (c ∷ line) h =
    let parts = or_parts (is_feed b) (list_any is_feed (c ∷ line)) h in
    cond-false (b == 10) _ _ parts.0 ∙ ap (onto_first b) (spelled-line c line parts.1)

lines-line : (line : List ℕ) → list_any is_feed line ≡ false → lines_of line ≡ open_lines line
lines-line [] h = refl
lines-line (b ∷ line) h = ap (map without_return) (spelled-line b line h)

-- The lines of a text that have ended, and the bytes of the line in progress.
pub record IsCut (bytes : List ℕ) (ended : List (List ℕ)) (rest : List ℕ) : Type 0 where
  pub feeds : list_any is_feed rest ≡ false
  pub goes_on : (more : List ℕ) → lines_of (bytes ++ more) ≡ ended ++ lines_of (rest ++ more)
  pub open_line : after_last is_feed bytes ≡ rest
  pub count : count_by is_feed bytes ≡ length ended

cut-none : IsCut [] [] []
cut-none = record { feeds = refl; goes_on = λ more. refl; open_line = refl; count = refl }

pub cut-feed : (bytes : List ℕ) (ended : List (List ℕ)) (rest : List ℕ) → IsCut bytes ended rest → IsCut (bytes ++ 10 ∷ []) (ended ++ without_return rest ∷ []) []
cut-feed bytes ended rest h = record {
  feeds = refl;
  goes_on = λ more.
      ap lines_of (append_assoc bytes (10 ∷ []) more) ∙ h.goes_on (10 ∷ more)
      ∙ ap (λ lines. ended ++ map without_return lines) (spelled-feed rest more h.feeds)
      ∙ sym (append_assoc ended (without_return rest ∷ []) (lines_of more));
  open_line = after_last-yes is_feed bytes 10 refl;
  count = sum_by_push (λ x. if is_feed x then 1 else 0) bytes 10 ∙ omega (arith, h.count, length_push ended (without_return rest));
}

pub cut-byte : (bytes : List ℕ) (ended : List (List ℕ)) (rest : List ℕ) (b : ℕ) → is_feed b ≡ false → IsCut bytes ended rest → IsCut (bytes ++ b ∷ []) ended (rest ++ b ∷ [])
cut-byte bytes ended rest b other h = record {
  feeds = list_any-append is_feed rest (b ∷ []) ∙ or_from _ _ h.feeds (or_from _ _ other refl);
  goes_on = λ more.
      ap lines_of (append_assoc bytes (b ∷ []) more) ∙ h.goes_on (b ∷ more)
      ∙ ap (λ l. ended ++ lines_of l) (sym (append_assoc rest (b ∷ []) more));
  open_line = after_last-no is_feed bytes b other ∙ ap (λ l. l ++ b ∷ []) h.open_line;
  count = sum_by_push (λ x. if is_feed x then 1 else 0) bytes b ∙ omega (arith, h.count, cond-false {A = ℕ} (is_feed b) 1 0 other);
}

-- every text is cut
pub record Cut (bytes : List ℕ) : Type 0 where
  pub ended : List (List ℕ)
  pub rest : List ℕ
  pub is : IsCut bytes ended rest

cut-more : (bytes : List ℕ) (b : ℕ) → Cut bytes → Cut (bytes ++ b ∷ [])
cut-more bytes b h =
    elim (cases_Bool (is_feed b)) [
      | inl feed ↦ subst (λ c. Cut (bytes ++ c ∷ [])) (sym (eqb-true b 10 feed)) (record { ended = h.ended ++ without_return h.rest ∷ []; rest = []; is = cut-feed bytes h.ended h.rest h.is })
      | inr other ↦ record { ended = h.ended; rest = h.rest ++ b ∷ []; is = cut-byte bytes h.ended h.rest b other h.is }
    ]

pub cut : (bytes : List ℕ) → Cut bytes
cut bytes = grow Cut (record { ended = []; rest = []; is = cut-none }) cut-more bytes

pub cut-lines : (bytes : List ℕ) (ended : List (List ℕ)) (rest : List ℕ) → IsCut bytes ended rest → lines_of bytes ≡ ended ++ open_lines rest
cut-lines bytes ended rest h =
    ap lines_of (sym (append-nil bytes)) ∙ h.goes_on [] ∙ ap (λ l. ended ++ lines_of l) (append-nil rest) ∙ ap (λ l. ended ++ l) (lines-line rest h.feeds)
