-- Paths that are seen among the entries of an answer.
use Rattle.std.proofs.Common.{◌≡◌, ◌≢◌, ◌<◌, ◌+◌, ◌||◌, ℕ, List, [], Bool, true, false, cond, length, take, get_or, refl, sym, ap, ◌∙◌, arith}
use Rattle.std.specs.Prelude.{AllPairs}
use Rattle.std.specs.List.{list_any}
use Rattle.std.specs.Cmp.Lexicographic.{slice_cmp}
use Rattle.std.specs.Ordering.{nat_cmp, is_eq}
use Rattle.std.proofs.lemmas.Bool.{both_ways}
use Rattle.std.proofs.lemmas.List.{take_more, get_or-take, length-take}
use Rattle.std.proofs.lemmas.List.Folds.{list_any_more}
use Rattle.std.proofs.lemmas.List.Quantifiers.{all_pairs_push}
use Rattle.std.proofs.lemmas.Map.Text.{is_eq-slice_cmp}
use Rattle.std.proofs.lemmas.Slice.Eq.{bytes_eq-Decides}
use Rattle.std.specs.Str.{bytes_eq}
use Rattle.slack_terms.specs.declared.slack_path.SlackPath.{SlackPath}
use Rattle.slack_terms.specs.Answers.{entry_at}
use Rattle.decomposition.proofs.Members.{any-place, any-from_place}

-- whether a path stands in a list of entries
abbrev pub has_path : List SlackPath → List ℕ → Bool
has_path paths q = list_any (λ entry. bytes_eq entry.path q) paths

either : (a b : Bool) → cond a true b ≡ (b || a)
either true true = refl
either true false = refl
either false true = refl
either false false = refl

-- a path stands among the first i + 1 entries where it is that of the next one, or stands among the first i
pub has_path-more : (paths : List SlackPath) (i : ℕ) → i < length paths → (path q : List ℕ) → path ≡ (entry_at paths i).path
    → cond (is_eq (slice_cmp nat_cmp path q)) true (has_path (take i paths) q) ≡ has_path (take (i + 1) paths) q
has_path-more paths i there path q is =
    ap (λ b. cond b true (has_path (take i paths) q)) (is_eq-slice_cmp path q)
    ∙ either (bytes_eq path q) (has_path (take i paths) q)
    ∙ ap (λ p. has_path (take i paths) q || bytes_eq p q) is
    ∙ sym (list_any_more (λ entry. bytes_eq entry.path q) paths i (record { path = []; weight = 0; slack = 0 }) there)

abbrev pub AreDistinct : List SlackPath → Type 0
AreDistinct paths = AllPairs (λ a b. a.path ≢ b.path) paths

-- an entry whose path stands among those before it
pub not_distinct : (paths : List SlackPath) (i : ℕ) → i < length paths → (path : List ℕ) → path ≡ (entry_at paths i).path → has_path (take i paths) path ≡ true → AreDistinct paths → ⊥
not_distinct paths i inside path is seen distinct =
    let at = any-place (λ (entry : SlackPath). bytes_eq entry.path path) (take i paths) (record { path = []; weight = 0; slack = 0 }) seen in
    let low : at.0 < i = omega (arith, at.1, length-take i paths) in
    let same : (entry_at (take i paths) at.0).path ≡ path = (bytes_eq-Decides (entry_at (take i paths) at.0).path path).0 at.2 in
    distinct at.0 i (record { path = []; weight = 0; slack = 0 }) low inside (ap (λ (e : SlackPath). e.path) (sym (get_or-take i paths at.0 (record { path = []; weight = 0; slack = 0 }) low)) ∙ same ∙ is)

-- one entry more, whose path does not stand among those before it
pub distinct_more : (paths : List SlackPath) (i : ℕ) → i < length paths → (path : List ℕ) → path ≡ (entry_at paths i).path → has_path (take i paths) path ≡ false
    → AreDistinct (take i paths) → AreDistinct (take (i + 1) paths)
distinct_more paths i inside path is new distinct =
    let test : SlackPath → Bool = λ entry. bytes_eq entry.path path in
    rw (take_more paths i (record { path = []; weight = 0; slack = 0 }) inside)
    (all_pairs_push (λ a b. a.path ≢ b.path) (take i paths) (entry_at paths i) distinct
    (λ k d h same.
    both_ways (list_any test (take i paths)) new
    (any-from_place test (take i paths) d k h ((bytes_eq-Decides (get_or (take i paths) k d).path path).1 (same ∙ sym is)))))
