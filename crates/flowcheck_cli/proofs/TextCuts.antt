-- How the lines and the texts of a text of reports begin.
use Rattle.std.proofs.Common.{◌≡◌, ℕ, zero, suc, ◌+◌, ◌<◌, ◌≤◌, List, [], ◌∷◌, ◌++◌, length, take, drop, get_or, true, false, ◌==◌, refl, sym, ap, ◌∙◌, subst, arith, append_assoc}
use Rattle.std.specs.Str.{bytes_eq}
use Rattle.std.proofs.lemmas.Bool.{cond-true, cond-false}
use Rattle.std.proofs.lemmas.List.{drop-drop, take_all, drop_all, length-take-le}
use Rattle.std.proofs.Math.Seq.{take-add}
use Rattle.graph_text.specs.Lines.{onto_first}
use Rattle.flowcheck_cli.specs.ReportTexts.{ended_lines, end_line, before_first_text, texts_in, report_texts}

-- bytes with their first line feed at place n are a line and the lines behind it
pub line-cut : (bytes : List ℕ) (n : ℕ) → ((k : ℕ) → k < n → (get_or bytes k 0 == 10) ≡ false) → n < length bytes → (get_or bytes n 0 == 10) ≡ true →
    ended_lines bytes ≡ take (n + 1) bytes ∷ ended_lines (drop (n + 1) bytes)
line-cut [] n before within feed = absurd (omega (arith, within))
line-cut (b ∷ bytes) zero before within feed = cond-true (b == 10) _ _ feed
line-cut (b ∷ bytes) (suc n) before within feed =
    let rest = line-cut bytes n (λ k below. before (suc k) (omega (arith, below))) (omega (arith, within)) feed in
    let e : suc (n + 1) ≡ suc n + 1 = omega arith in
    cond-false (b == 10) _ _ (before 0 (omega arith)) ∙ ap (onto_first b) rest ∙ ap (λ k. take k (b ∷ bytes) ∷ ended_lines (drop k (b ∷ bytes))) e

-- bytes without a line feed are one line
line-alone : (bytes : List ℕ) → 0 < length bytes → ((k : ℕ) → k < length bytes → (get_or bytes k 0 == 10) ≡ false) → ended_lines bytes ≡ bytes ∷ []
line-alone [] some none = absurd (omega (arith, some))
line-alone (b ∷ []) some none = cond-false (b == 10) _ _ (none 0 (omega arith))
line-alone (b ∷ c ∷ bytes) some none =
    cond-false (b == 10) _ _ (none 0 (omega arith))
    ∙ ap (onto_first b) (line-alone (c ∷ bytes) (omega arith) (λ k below. none (suc k) (omega (arith, below))))

pub line-whole : (bytes : List ℕ) → 0 < length bytes → ((k : ℕ) → k < length bytes → (get_or bytes k 0 == 10) ≡ false) →
    ended_lines bytes ≡ take (length bytes) bytes ∷ ended_lines (drop (length bytes) bytes)
line-whole bytes some none =
    line-alone bytes some none ∙ ap (λ l. l ∷ []) (sym (take_all (length bytes) bytes (omega arith)))
    ∙ ap (λ r. take (length bytes) bytes ∷ ended_lines r) (sym (drop_all (length bytes) bytes (omega arith)))

-- bytes of whole lines before the first of the texts, where there are any
abbrev pub glued : List ℕ → List (List ℕ) → List (List ℕ)
glued [] texts = texts
glued (b ∷ bytes) texts = before_first_text (b ∷ bytes) texts

glued-before : (front l : List ℕ) (texts : List (List ℕ)) → 0 < length l → glued front (before_first_text l texts) ≡ glued (front ++ l) texts
glued-before [] [] texts some = absurd (omega (arith, some))
glued-before [] (b ∷ l) texts some = refl
glued-before (a ∷ front) l [] some = refl
glued-before (a ∷ front) l (text ∷ texts) some = ap (λ x. x ∷ texts) (sym (append_assoc (a ∷ front) l text))

glued-text : (front text : List ℕ) (texts : List (List ℕ)) → glued front (text ∷ texts) ≡ (front ++ text) ∷ texts
glued-text [] text texts = refl
glued-text (a ∷ front) text texts = refl

-- the texts of bytes of which the first n are whole lines, none of them an `end`
abbrev pub BeginsText : List ℕ → ℕ → Type 0
BeginsText bytes n = report_texts bytes ≡ glued (take n bytes) (report_texts (drop n bytes))

-- the first line of bytes, which is this long
abbrev pub IsLineOf : List ℕ → ℕ → Type 0
IsLineOf bytes n = ended_lines bytes ≡ take n bytes ∷ ended_lines (drop n bytes)

-- one more line that is no `end`
pub begins-more : (bytes : List ℕ) (n m : ℕ) → BeginsText bytes n → IsLineOf (drop n bytes) m → 0 < length (take m (drop n bytes)) →
    bytes_eq (take m (drop n bytes)) end_line ≡ false → BeginsText bytes (n + m)
begins-more bytes n m begins first some other =
    let rest = drop n bytes in
    let texts : report_texts rest ≡ before_first_text (take m rest) (report_texts (drop m rest)) = ap texts_in first ∙ cond-false (bytes_eq (take m rest) end_line) _ _ other in
    begins ∙ ap (glued (take n bytes)) texts ∙ glued-before (take n bytes) (take m rest) (report_texts (drop m rest)) some
    ∙ ap (λ front. glued front (report_texts (drop m rest))) (sym (take-add n m bytes))
    ∙ ap (λ left. glued (take (n + m) bytes) (report_texts left)) (drop-drop m n bytes)

-- a line `end` ends the text
pub ends-text : (bytes : List ℕ) (n m : ℕ) → BeginsText bytes n → IsLineOf (drop n bytes) m → bytes_eq (take m (drop n bytes)) end_line ≡ true →
    report_texts bytes ≡ take (n + m) bytes ∷ report_texts (drop (n + m) bytes)
ends-text bytes n m begins first is =
    let rest = drop n bytes in
    let texts : report_texts rest ≡ take m rest ∷ report_texts (drop m rest) = ap texts_in first ∙ cond-true (bytes_eq (take m rest) end_line) _ _ is in
    begins ∙ ap (glued (take n bytes)) texts ∙ glued-text (take n bytes) (take m rest) (report_texts (drop m rest))
    ∙ ap (λ front. front ∷ report_texts (drop m rest)) (sym (take-add n m bytes))
    ∙ ap (λ left. take (n + m) bytes ∷ report_texts left) (drop-drop m n bytes)

-- the same two steps, with the rest and the length of its first line as they are read
pub begins-after : (bytes rest : List ℕ) (n m k : ℕ) → rest ≡ drop n bytes → k ≡ m → BeginsText bytes n → IsLineOf rest m → 0 < m → m ≤ length rest →
    bytes_eq (take m rest) end_line ≡ false → BeginsText bytes (n + k)
begins-after bytes rest n m k is same begins first some within other =
    let here : length (take m (drop n bytes)) ≡ m = length-take-le m (drop n bytes) (subst (λ r. m ≤ length r) is within) in
    subst (λ j. BeginsText bytes (n + j)) (sym same)
    (begins-more bytes n m begins (subst (λ r. IsLineOf r m) is first) (omega (arith, here, some)) (subst (λ r. bytes_eq (take m r) end_line ≡ false) is other))

pub ends-after : (bytes rest : List ℕ) (n m k : ℕ) → rest ≡ drop n bytes → k ≡ m → BeginsText bytes n → IsLineOf rest m →
    bytes_eq (take m rest) end_line ≡ true → report_texts bytes ≡ take (n + k) bytes ∷ report_texts (drop (n + k) bytes)
ends-after bytes rest n m k is same begins first ends =
    subst (λ j. report_texts bytes ≡ take (n + j) bytes ∷ report_texts (drop (n + j) bytes)) (sym same)
    (ends-text bytes n m begins (subst (λ r. IsLineOf r m) is first) (subst (λ r. bytes_eq (take m r) end_line ≡ true) is ends))
