-- What is kept of a line in progress, and what it shows of the line.
use Rattle.std.specs.Prelude.{◌≡◌, ℕ, ◌+◌, ◌-◌, ◌<◌, ◌≤◌, ◌^◌, ◌==◌, List, [], ◌∷◌, ◌++◌, length, take, drop, min, Bool, true, false, ◌≢◌, ◌&&◌, ◌||◌, if◌then◌else◌, zero, suc, refl, nat_lt}
use Rattle.std.specs.List.{list_all, list_any, prefix_len, take_while}
use Rattle.std.specs.Str.{bytes_eq}
use Rattle.std.proofs.Common.{sym, ◌∙◌, ap, arith, true≢false, ne_eqb, eq-eqb, get_or, append-nil, ◌⊎◌, inl, inr, length-drop, subst}
use Rattle.std.proofs.lemmas.Bool.{cond-true, cond-false, lt-ltb, ltb-false, cases_lt}
use Rattle.std.proofs.lemmas.List.{take_all, take_min}
use Rattle.std.proofs.lemmas.Bool.Decides.{nat_tests}
use Rattle.std.proofs.lemmas.List.Folds.{length-prefix_len, list_any-append}
use Rattle.graph_text.specs.Lines.{onto_first, without_return, is_blank, fields_of, fields_from, are_no_fields, are_hash_fields, are_run_fields, is_blank_line, is_hash_line, is_run_line}
use Rattle.graph_text.specs.Blocks.{after_blanks}
use Rattle.graph_text.specs.ShownLine.{ShowsLine}
use Rattle.graph_text.specs.Reading.{line_at}
use Rattle.graph_text.specs.OpenLine.{most_kept}
use Rattle.graph_text.specs.Progress.{is_feed}
use Rattle.graph_text.proofs.Growing.{blank-is, hash-is}

-- a blank in front makes no difference
pub skip_blank : (b : ℕ) (bytes : List ℕ) → is_blank b ≡ true → after_blanks (b ∷ bytes) ≡ after_blanks bytes
skip_blank b bytes h =
    let longer : 1 + prefix_len is_blank bytes ≡ suc (prefix_len is_blank bytes) = omega arith in
    ap (λ n. drop n (b ∷ bytes)) (length-prefix_len is_blank (b ∷ bytes) ∙ cond-true (is_blank b) _ _ h ∙ longer)
    ∙ ap (λ n. drop n bytes) (sym (length-prefix_len is_blank bytes))

pub skip_none : (b : ℕ) (bytes : List ℕ) → is_blank b ≡ false → after_blanks (b ∷ bytes) ≡ b ∷ bytes
skip_none b bytes h = ap (λ n. drop n (b ∷ bytes)) (length-prefix_len is_blank (b ∷ bytes) ∙ cond-false (is_blank b) _ _ h)

-- bytes that begin with a byte that is no blank, if there are any
abbrev pub BeginsFilled : List ℕ → Type 0
BeginsFilled [] = Unit {0}
BeginsFilled (b ∷ bytes) = is_blank b ≡ false

cases : (b : Bool) (P : Type 0) → (b ≡ true → P) → (b ≡ false → P) → P
cases true P is_true is_false = is_true refl
cases false P is_true is_false = is_false refl

pub after_blanks-begins : (bytes : List ℕ) → BeginsFilled (after_blanks bytes)
after_blanks-begins [] = tt
after_blanks-begins (b ∷ bytes) =
    cases (is_blank b) (BeginsFilled (after_blanks (b ∷ bytes)))
    (λ yes. rw (skip_blank b bytes yes) (after_blanks-begins bytes))
    (λ no. rw (skip_none b bytes no) no)

-- more bytes behind blanks
pub after_blanks-blank : (bytes more : List ℕ) → list_all is_blank bytes ≡ true → after_blanks (bytes ++ more) ≡ after_blanks more
after_blanks-blank [] more h = refl
after_blanks-blank (b ∷ bytes) more h =
    cases (is_blank b) (after_blanks (b ∷ (bytes ++ more)) ≡ after_blanks more)
    (λ yes. skip_blank b (bytes ++ more) yes ∙ after_blanks-blank bytes more (sym (ap (λ x. x && list_all is_blank bytes) yes) ∙ h))
    (λ no. absurd (true≢false (sym h ∙ ap (λ x. x && list_all is_blank bytes) no)))

-- more bytes behind a byte that is no blank
pub after_blanks-more : (bytes more : List ℕ) → list_all is_blank bytes ≡ false → after_blanks (bytes ++ more) ≡ after_blanks bytes ++ more
after_blanks-more [] more h = absurd (true≢false h)
after_blanks-more (b ∷ bytes) more h =
    cases (is_blank b) (after_blanks (b ∷ (bytes ++ more)) ≡ after_blanks (b ∷ bytes) ++ more)
    (λ yes. skip_blank b (bytes ++ more) yes ∙ after_blanks-more bytes more (sym (ap (λ x. x && list_all is_blank bytes) yes) ∙ h) ∙ ap (λ x. x ++ more) (sym (skip_blank b bytes yes)))
    (λ no. skip_none b (bytes ++ more) no ∙ ap (λ x. x ++ more) (sym (skip_none b bytes no)))

pub after_blanks-append : (bytes more : List ℕ) → after_blanks (bytes ++ more) ≡ after_blanks bytes ++ (if list_all is_blank bytes then after_blanks more else more)
after_blanks-append bytes more =
    cases (list_all is_blank bytes) (after_blanks (bytes ++ more) ≡ after_blanks bytes ++ (if list_all is_blank bytes then after_blanks more else more))
    (λ yes. after_blanks-blank bytes more yes
    ∙ ap (λ l. l ++ after_blanks more) (sym (ap after_blanks (sym (append-nil bytes)) ∙ after_blanks-blank bytes [] yes))
    ∙ ap (λ l. after_blanks bytes ++ l) (sym (cond-true (list_all is_blank bytes) (after_blanks more) more yes)))
    (λ filled. after_blanks-more bytes more filled
    ∙ ap (λ l. after_blanks bytes ++ l) (sym (cond-false (list_all is_blank bytes) (after_blanks more) more filled)))

-- whether all bytes are blanks
pub after_blanks-empty : (bytes : List ℕ) → (length (after_blanks bytes) == 0) ≡ list_all is_blank bytes
after_blanks-empty [] = refl
after_blanks-empty (b ∷ bytes) =
    cases (is_blank b) ((length (after_blanks (b ∷ bytes)) == 0) ≡ (is_blank b && list_all is_blank bytes))
    (λ yes. ap (λ x. length x == 0) (skip_blank b bytes yes) ∙ after_blanks-empty bytes ∙ sym (ap (λ x. x && list_all is_blank bytes) yes))
    (λ no. ap (λ x. length x == 0) (skip_none b bytes no) ∙ ne_eqb (length (b ∷ bytes)) 0 (λ e. absurd (omega arith)) ∙ sym (ap (λ x. x && list_all is_blank bytes) no))

same_empty : (n : ℕ) (xs : List ℕ) → 0 < n → (length (take n xs) == 0) ≡ (length xs == 0)
same_empty zero xs some = absurd (omega arith)
same_empty (suc n) [] some = refl
same_empty (suc n) (x ∷ xs) some = ne_eqb (length (x ∷ take n xs)) 0 (λ e. absurd (omega arith)) ∙ sym (ne_eqb (length (x ∷ xs)) 0 (λ e. absurd (omega arith)))

pub kept-empty : (n : ℕ) (bytes : List ℕ) → 0 < n → (length (take n (after_blanks bytes)) == 0) ≡ list_all is_blank bytes
kept-empty n bytes some = same_empty n (after_blanks bytes) some ∙ after_blanks-empty bytes

-- the front of two lists, one behind the other
take-append : (n : ℕ) (xs ys : List ℕ) → take n (xs ++ ys) ≡ take n xs ++ take (n - length (take n xs)) ys
take-append zero xs ys = refl
take-append (suc n) [] ys = let all : suc n ≡ suc n - 0 = omega arith in ap (λ k. take k ys) all
take-append (suc n) (x ∷ xs) ys =
    let rest : n - length (take n xs) ≡ suc n - suc (length (take n xs)) = omega arith in
    ap (λ l. x ∷ l) (take-append n xs ys) ∙ ap (λ k. x ∷ (take n xs ++ take k ys)) rest

-- what is kept of a line that has more bytes
pub kept-more : (n : ℕ) (bytes span : List ℕ) → 0 < n →
    take n (after_blanks (bytes ++ span))
    ≡ take n (after_blanks bytes) ++ take (n - length (take n (after_blanks bytes))) (if length (take n (after_blanks bytes)) == 0 then after_blanks span else span)
kept-more n bytes span some =
    let front = take n (after_blanks bytes) in
    ap (λ l. take n l) (after_blanks-append bytes span)
    ∙ take-append n (after_blanks bytes) (if list_all is_blank bytes then after_blanks span else span)
    ∙ ap (λ t. front ++ take (n - length front) (if t then after_blanks span else span)) (sym (kept-empty n bytes some))

-- a carriage return at the end
pub return-last : (bytes : List ℕ) → 0 < length bytes → get_or bytes (length bytes - 1) 0 ≡ 13 → without_return bytes ≡ take (length bytes - 1) bytes
return-last [] some h = absurd (omega arith)
return-last (b ∷ []) some h = cond-true (b == 13) [] (b ∷ []) (eq-eqb b 13 h)
return-last (b ∷ c ∷ bytes) some h =
    let shorter : length (b ∷ c ∷ bytes) - 1 ≡ suc (length (c ∷ bytes) - 1) = omega arith in
    let rest : get_or (c ∷ bytes) (length (c ∷ bytes) - 1) 0 ≡ 13 = sym (ap (λ n. get_or (b ∷ c ∷ bytes) n 0) shorter) ∙ h in
    ap (λ l. b ∷ l) (return-last (c ∷ bytes) (omega arith) rest) ∙ ap (λ n. take n (b ∷ c ∷ bytes)) (sym shorter)

pub return-none : (bytes : List ℕ) → get_or bytes (length bytes - 1) 0 ≢ 13 → without_return bytes ≡ bytes
return-none [] h = refl
return-none (b ∷ []) h = cond-false (b == 13) [] (b ∷ []) (ne_eqb b 13 h)
return-none (b ∷ c ∷ bytes) h =
    let shorter : length (b ∷ c ∷ bytes) - 1 ≡ suc (length (c ∷ bytes) - 1) = omega arith in
    ap (λ l. b ∷ l) (return-none (c ∷ bytes) (λ e. h (ap (λ n. get_or (b ∷ c ∷ bytes) n 0) shorter ∙ e)))

pub return_less : (bytes : List ℕ) → length bytes ≡ 0 → get_or bytes (length bytes - 1) 0 ≢ 13
return_less [] h = λ e. absurd (omega arith)
return_less (b ∷ bytes) h = absurd (omega arith)

pub record IsShorter (less more : ℕ) : Type 0 where
  pub no_longer : less ≤ more
  pub one_less : more ≤ less + 1

pub length-without_return : (bytes : List ℕ) → IsShorter (length (without_return bytes)) (length bytes)
length-without_return [] = record { no_longer = omega arith; one_less = omega arith }
length-without_return (b ∷ []) =
    cases (b == 13) (IsShorter (length (without_return (b ∷ []))) (length (b ∷ [])))
    (λ yes. rw (cond-true (b == 13) [] (b ∷ []) yes) (record { no_longer = omega arith; one_less = omega arith }))
    (λ other. rw (cond-false (b == 13) [] (b ∷ []) other) (record { no_longer = omega arith; one_less = omega arith }))
length-without_return (b ∷ c ∷ bytes) =
    let rest = length-without_return (c ∷ bytes) in
    record { no_longer = omega arith; one_less = omega arith }

-- a blank is no carriage return
blank_return : (b : ℕ) → is_blank b ≡ true → (b == 13) ≡ false
blank_return b h = ne_eqb b 13 (λ e. true≢false (sym h ∙ ap is_blank e))

return_alone : (b : ℕ) → is_blank b ≡ false → after_blanks (without_return (b ∷ [])) ≡ without_return (b ∷ [])
return_alone b filled =
    cases (b == 13) (after_blanks (without_return (b ∷ [])) ≡ without_return (b ∷ []))
    (λ yes. rw (cond-true (b == 13) [] (b ∷ []) yes) refl)
    (λ other. rw (cond-false (b == 13) [] (b ∷ []) other) (skip_none b [] filled))

-- the blanks in front and the carriage return at the end can go in either order
pub after_blanks-return : (bytes : List ℕ) → after_blanks (without_return bytes) ≡ without_return (after_blanks bytes)
after_blanks-return [] = refl
after_blanks-return (b ∷ []) =
    cases (is_blank b) (after_blanks (without_return (b ∷ [])) ≡ without_return (after_blanks (b ∷ [])))
    (λ yes. ap after_blanks (cond-false (b == 13) [] (b ∷ []) (blank_return b yes)) ∙ skip_blank b [] yes ∙ sym (ap without_return (skip_blank b [] yes)))
    (λ filled. return_alone b filled ∙ sym (ap without_return (skip_none b [] filled)))
after_blanks-return (b ∷ c ∷ bytes) =
    cases (is_blank b) (after_blanks (without_return (b ∷ c ∷ bytes)) ≡ without_return (after_blanks (b ∷ c ∷ bytes)))
    (λ yes. skip_blank b (without_return (c ∷ bytes)) yes ∙ after_blanks-return (c ∷ bytes) ∙ sym (ap without_return (skip_blank b (c ∷ bytes) yes)))
    (λ filled. skip_none b (without_return (c ∷ bytes)) filled ∙ sym (ap without_return (skip_none b (c ∷ bytes) filled)))

fields_step : (b : ℕ) (bytes : List ℕ) → is_blank b ≡ true → fields_of (b ∷ bytes) ≡ fields_of bytes
fields_step b bytes h = let second : Bool × List (List ℕ) → List (List ℕ) = λ x. x.1 in ap second (cond-true (is_blank b) _ _ h)

-- the fields are those behind the blanks in front
pub fields-after_blanks : (bytes : List ℕ) → fields_of (after_blanks bytes) ≡ fields_of bytes
fields-after_blanks [] = refl
fields-after_blanks (b ∷ bytes) =
    cases (is_blank b) (fields_of (after_blanks (b ∷ bytes)) ≡ fields_of (b ∷ bytes))
    (λ yes. ap fields_of (skip_blank b bytes yes) ∙ fields-after_blanks bytes ∙ sym (fields_step b bytes yes))
    (λ filled. ap fields_of (skip_none b bytes filled))

pub fields-kept : (bytes : List ℕ) → fields_of (without_return bytes) ≡ fields_of (without_return (after_blanks bytes))
fields-kept bytes = sym (fields-after_blanks (without_return bytes)) ∙ ap fields_of (after_blanks-return bytes)

-- one byte in front of what is known of the fields behind it
abbrev step : Bool → ℕ → Bool × List (List ℕ) → Bool × List (List ℕ)
step blank b rest = if blank then (false, rest.1) else (true, if rest.0 then onto_first b rest.1 else (b ∷ []) ∷ rest.1)

-- whether a line that begins with these three bytes is a `#S` line, the first being no blank
abbrev run_front : Bool → Bool → ℕ → ℕ → Bool
run_front true y a b = bytes_eq (a ∷ []) (35 ∷ 83 ∷ [])
run_front false true a b = bytes_eq (a ∷ b ∷ []) (35 ∷ 83 ∷ [])
run_front false false a b = (a == 35) && ((b == 83) && false)

run_cases : (x y : Bool) (a b c : ℕ) (p : Bool × List (List ℕ)) → are_run_fields (step false a (step x b (step y c p))).1 ≡ run_front x y a b
run_cases true y a b c p = refl
run_cases false true a b c p = refl
run_cases false false a b c (true, []) = refl
run_cases false false a b c (true, field ∷ fields) = refl
run_cases false false a b c (false, fields) = refl

-- lines of the same kind
pub record SameKind (l m : List ℕ) : Type 0 where
  pub blank : are_no_fields (fields_of l) ≡ are_no_fields (fields_of m)
  pub hash : are_hash_fields (fields_of l) ≡ are_hash_fields (fields_of m)
  pub run : are_run_fields (fields_of l) ≡ are_run_fields (fields_of m)

kind_refl : {l m : List ℕ} → l ≡ m → SameKind l m
kind_refl e = record { blank = ap is_blank_line e; hash = ap is_hash_line e; run = ap is_run_line e }

kind_same : (bytes text : List ℕ) → SameKind (without_return (after_blanks bytes)) text → SameKind (without_return bytes) text
kind_same bytes text h = record {
  blank = ap are_no_fields (fields-kept bytes) ∙ h.blank;
  hash = ap are_hash_fields (fields-kept bytes) ∙ h.hash;
  run = ap are_run_fields (fields-kept bytes) ∙ h.run;
}

run-front : (a b c : ℕ) (r : List ℕ) → is_blank a ≡ false → are_run_fields (fields_of (a ∷ b ∷ c ∷ r)) ≡ run_front (is_blank b) (is_blank c) a b
run-front a b c r filled =
    ap (λ x. are_run_fields (step x a (step (is_blank b) b (step (is_blank c) c (fields_from r)))).1) filled
    ∙ run_cases (is_blank b) (is_blank c) a b c (fields_from r)

-- lines that begin with the same three bytes, the first being no blank
pub SameKind-front : (a b c : ℕ) (r s : List ℕ) → is_blank a ≡ false → SameKind (a ∷ b ∷ c ∷ r) (a ∷ b ∷ c ∷ s)
SameKind-front a b c r s filled = record {
  blank = blank-is (a ∷ b ∷ c ∷ r) ∙ ap (λ x. x && list_all is_blank (b ∷ c ∷ r)) filled ∙ sym (blank-is (a ∷ b ∷ c ∷ s) ∙ ap (λ x. x && list_all is_blank (b ∷ c ∷ s)) filled);
  hash = hash-is (a ∷ b ∷ c ∷ r) ∙ cond-false (is_blank a) _ _ filled ∙ sym (hash-is (a ∷ b ∷ c ∷ s) ∙ cond-false (is_blank a) _ _ filled);
  run = run-front a b c r filled ∙ sym (run-front a b c s filled);
}

-- of a long line the front shows the kind
cut_kind : (t : List ℕ) → BeginsFilled t → most_kept < length t → SameKind (without_return t) (without_return (take most_kept t))
cut_kind [] begins long = absurd (omega arith)
cut_kind (a ∷ []) begins long = absurd (omega arith)
cut_kind (a ∷ b ∷ []) begins long = absurd (omega arith)
cut_kind (a ∷ b ∷ c ∷ []) begins long = absurd (omega arith)
cut_kind (a ∷ b ∷ c ∷ d ∷ r) begins long = SameKind-front a b c (without_return (d ∷ r)) (without_return (d ∷ take 65534 r)) begins

-- the bytes that are removed in front do not change what is removed at the end
length-kept : (bytes : List ℕ) → length bytes + length (without_return (after_blanks bytes)) ≡ length (without_return bytes) + length (after_blanks bytes)
length-kept [] = refl
length-kept (b ∷ []) =
    cases (is_blank b) (length (b ∷ []) + length (without_return (after_blanks (b ∷ []))) ≡ length (without_return (b ∷ [])) + length (after_blanks (b ∷ [])))
    (λ yes. rw (skip_blank b [] yes) (ap (λ l. length l + 0) (sym (cond-false (b == 13) [] (b ∷ []) (blank_return b yes)))))
    (λ filled. rw (skip_none b [] filled) (omega arith))
length-kept (b ∷ c ∷ bytes) =
    let rest = length-kept (c ∷ bytes) in
    cases (is_blank b) (length (b ∷ c ∷ bytes) + length (without_return (after_blanks (b ∷ c ∷ bytes))) ≡ length (without_return (b ∷ c ∷ bytes)) + length (after_blanks (b ∷ c ∷ bytes)))
    (λ yes. rw (skip_blank b (c ∷ bytes) yes) (omega arith))
    (λ filled. rw (skip_none b (c ∷ bytes) filled) (omega arith))

length-after_blanks : (bytes : List ℕ) → length (after_blanks bytes) ≤ length bytes
length-after_blanks bytes = omega (arith, length-drop (length (take (prefix_len is_blank bytes) bytes)) bytes)

-- whether a line of w bytes is too long, where n bytes and perhaps a carriage return are counted, and k bytes kept, m without it
long-same : (n w k m : ℕ) → IsShorter m k → IsShorter w n → (n + m ≡ w + k) ⊎ (most_kept < n) → nat_lt 65536 w ≡ nat_lt (65536 + (k - m)) (min n (2 ^ 64 - 1))
long-same n w k m text line h = elim h [
  | inl same ↦ grind (arith, nat_tests)
  | inr long ↦ lt-ltb 65536 w (omega arith) ∙ sym (lt-ltb (65536 + (k - m)) (min n (2 ^ 64 - 1)) (omega arith))
]

pub after_blanks-same : (bytes : List ℕ) → BeginsFilled bytes → after_blanks bytes ≡ bytes
after_blanks-same [] begins = refl
after_blanks-same (b ∷ bytes) begins = skip_none b bytes begins

BeginsFilled-take : (n : ℕ) (bytes : List ℕ) → BeginsFilled bytes → BeginsFilled (take n bytes)
BeginsFilled-take zero bytes begins = tt
BeginsFilled-take (suc n) [] begins = tt
BeginsFilled-take (suc n) (b ∷ bytes) begins = begins

-- the bytes that are kept of a line
abbrev pub kept : List ℕ → List ℕ
kept bytes = take most_kept (after_blanks bytes)

-- what is kept has the kind of the line
kind-kept : (bytes : List ℕ) → SameKind (without_return bytes) (without_return (kept bytes))
kind-kept bytes = elim (cases_lt most_kept (length (after_blanks bytes))) [
  | inl cut ↦ kind_same bytes (without_return (kept bytes)) (cut_kind (after_blanks bytes) (after_blanks-begins bytes) cut)
  | inr whole ↦ kind_same bytes (without_return (kept bytes)) (kind_refl (ap without_return (sym (take_all most_kept (after_blanks bytes) whole))))
]

-- whether the line is too long, as the reader tells it
abbrev pub is_long : List ℕ → Bool
is_long bytes = nat_lt (65536 + (length (kept bytes) - length (without_return (kept bytes)))) (min (length bytes) (2 ^ 64 - 1))

long-kept : (bytes : List ℕ) → nat_lt 65536 (length (without_return bytes)) ≡ is_long bytes
long-kept bytes =
    let k = length (kept bytes) in
    let m = length (without_return (kept bytes)) in
    let line = length-without_return bytes in
    let text = length-without_return (kept bytes) in
    long-same (length bytes) (length (without_return bytes)) k m text line (elim (cases_lt most_kept (length (after_blanks bytes))) [
      | inl cut ↦ inr (omega (arith, length-after_blanks bytes))
      | inr whole ↦ inl (rw (take_all most_kept (after_blanks bytes) whole) (length-kept bytes))
    ])

-- a line that is not too long is kept
pub text-kept : (bytes : List ℕ) → is_long bytes ≡ false → without_return (kept bytes) ≡ after_blanks (without_return bytes)
text-kept bytes short =
    let line = length-without_return bytes in
    let few : length (without_return bytes) ≤ 65536 = ltb-false 65536 (length (without_return bytes)) (long-kept bytes ∙ short) in
    ap without_return (take_all most_kept (after_blanks bytes) (omega (arith, length-after_blanks bytes))) ∙ sym (after_blanks-return bytes)

pub ShowsLine-kept : (number : ℕ) (bytes : List ℕ) → ShowsLine number (is_long bytes) (without_return (kept bytes)) (line_at (number, without_return bytes))
ShowsLine-kept number bytes =
    let kind = kind-kept bytes in
    record {
      number_is = refl;
      long = long-kept bytes;
      fields = λ short. sym (fields-after_blanks (without_return bytes)) ∙ ap fields_of (sym (text-kept bytes short));
      blank = kind.blank;
      hash = kind.hash;
      run = kind.run;
    }

pub blank-kept : (bytes : List ℕ) → (length (without_return (kept bytes)) == 0) ≡ is_blank_line (without_return bytes)
blank-kept bytes =
    let begins = BeginsFilled-take most_kept (after_blanks bytes) (after_blanks-begins bytes) in
    let same = after_blanks-return (kept bytes) ∙ ap without_return (after_blanks-same (kept bytes) begins) in
    let kind = kind-kept bytes in
    ap (λ l. length l == 0) (sym same) ∙ after_blanks-empty (without_return (kept bytes)) ∙ sym (blank-is (without_return (kept bytes))) ∙ sym kind.blank

-- what a line in progress shows, from what it keeps
pub line-shows : (number n : ℕ) (bytes items text : List ℕ) → items ≡ kept bytes → n ≡ min (length bytes) (2 ^ 64 - 1) → text ≡ without_return items →
    ShowsLine number (nat_lt (65536 + (length items - length text)) n) text (line_at (number, without_return bytes))
line-shows number n bytes items text all counted e =
    let line = line_at (number, without_return bytes) in
    subst (λ m. ShowsLine number (nat_lt (65536 + (length items - length text)) m) text line) (sym counted)
    (subst (λ l. ShowsLine number (nat_lt (65536 + (length items - length l)) (min (length bytes) (2 ^ 64 - 1))) l line) (sym e)
    (subst (λ l. ShowsLine number (nat_lt (65536 + (length l - length (without_return l))) (min (length bytes) (2 ^ 64 - 1))) (without_return l) line) (sym all)
    (ShowsLine-kept number bytes)))

pub line-text : (n : ℕ) (bytes items text : List ℕ) → items ≡ kept bytes → n ≡ min (length bytes) (2 ^ 64 - 1) → text ≡ without_return items →
    nat_lt (65536 + (length items - length text)) n ≡ false → text ≡ after_blanks (without_return bytes)
line-text n bytes items text all counted e =
    subst (λ m. nat_lt (65536 + (length items - length text)) m ≡ false → text ≡ after_blanks (without_return bytes)) (sym counted)
    (subst (λ l. nat_lt (65536 + (length items - length l)) (min (length bytes) (2 ^ 64 - 1)) ≡ false → l ≡ after_blanks (without_return bytes)) (sym e)
    (subst (λ l. nat_lt (65536 + (length l - length (without_return l))) (min (length bytes) (2 ^ 64 - 1)) ≡ false → without_return l ≡ after_blanks (without_return bytes)) (sym all)
    (text-kept bytes)))

pub line-blank : (bytes items text : List ℕ) → items ≡ kept bytes → text ≡ without_return items → (length text == 0) ≡ is_blank_line (without_return bytes)
line-blank bytes items text all e = ap (λ l. length l == 0) (e ∙ ap without_return all) ∙ blank-kept bytes

-- a line in progress that takes further bytes
pub kept-longer : (bytes span old begun : List ℕ) (n room : ℕ) → old ≡ kept bytes → n ≡ length old → room ≡ most_kept - n →
    begun ≡ (if n == 0 then after_blanks span else span) → old ++ take (min room (length begun)) begun ≡ kept (bytes ++ span)
kept-longer bytes span old begun n room held n_is room_is begun_is =
    let count : n ≡ length (kept bytes) = n_is ∙ ap length held in
    ap (λ l. old ++ l) (take_min room begun ∙ ap (λ k. take k begun) (room_is ∙ ap (λ k. most_kept - k) count))
    ∙ ap (λ l. l ++ take (most_kept - length (kept bytes)) begun) held
    ∙ ap (λ l. kept bytes ++ take (most_kept - length (kept bytes)) l) (begun_is ∙ ap (λ k. if k == 0 then after_blanks span else span) count)
    ∙ sym (kept-more most_kept bytes span (omega arith))

-- what is kept has no line feed, if the line has none
any_take : (n : ℕ) (bytes : List ℕ) → list_any is_feed bytes ≡ false → list_any is_feed (take n bytes) ≡ false
any_take zero bytes h = refl
any_take (suc n) [] h = refl
any_take (suc n) (b ∷ bytes) h =
    cases (is_feed b) (list_any is_feed (b ∷ take n bytes) ≡ false)
    (λ yes. absurd (true≢false (sym (ap (λ t. t || list_any is_feed bytes) yes) ∙ h)))
    (λ other. ap (λ t. t || list_any is_feed (take n bytes)) other ∙ any_take n bytes (sym (ap (λ t. t || list_any is_feed bytes) other) ∙ h))

any_drop : (n : ℕ) (bytes : List ℕ) → list_any is_feed bytes ≡ false → list_any is_feed (drop n bytes) ≡ false
any_drop zero bytes h = h
any_drop (suc n) [] h = refl
any_drop (suc n) (b ∷ bytes) h =
    cases (is_feed b) (list_any is_feed (drop n bytes) ≡ false)
    (λ yes. absurd (true≢false (sym (ap (λ t. t || list_any is_feed bytes) yes) ∙ h)))
    (λ other. any_drop n bytes (sym (ap (λ t. t || list_any is_feed bytes) other) ∙ h))

one_line-begun : (is_begun : Bool) (span : List ℕ) → list_any is_feed span ≡ false → list_any is_feed (if is_begun then after_blanks span else span) ≡ false
one_line-begun true span h = any_drop (length (take_while is_blank span)) span h
one_line-begun false span h = h

pub one_line-more : (is_taken is_begun : Bool) (old begun span new : List ℕ) (n : ℕ) → new ≡ (if is_taken then old ++ take n begun else old) →
    begun ≡ (if is_begun then after_blanks span else span) → list_any is_feed old ≡ false → list_any is_feed span ≡ false → list_any is_feed new ≡ false
one_line-more true is_begun old begun span new n new_is begun_is old_free span_free =
    let more = any_take n begun (ap (list_any is_feed) begun_is ∙ one_line-begun is_begun span span_free) in
    ap (list_any is_feed) new_is ∙ list_any-append is_feed old (take n begun) ∙ (λ i. old_free i || more i)
one_line-more false is_begun old begun span new n new_is begun_is old_free span_free = ap (list_any is_feed) new_is ∙ old_free
