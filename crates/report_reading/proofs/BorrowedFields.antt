-- Fields that are borrowed, and the words that they begin with.
use Rattle.std.proofs.Common.{◌≡◌, ℕ, ◌+◌, ◌<◌, Bool, true, false, ◌||◌, ◌&&◌, List, [], ◌∷◌, length, drop, get_or, refl, sym, ap, ◌∙◌, add-one, drop-cons}
use Rattle.std.specs.Borrow.{Bor}
use Rattle.std.specs.List.{list_any, starts_with}
use Rattle.std.specs.Str.{bytes_eq}
use Rattle.report_reading.specs.LineFields.{texts}

pub list_any-texts : (test : List ℕ → Bool) (fields : List (Bor (List ℕ))) → list_any (λ field. test field.now) fields ≡ list_any test (texts fields)
list_any-texts test [] = refl
list_any-texts test (field ∷ fields) = ap (λ b. test field.now || b) (list_any-texts test fields)

drop-next : (xs : List (List ℕ)) (k : ℕ) → k < length xs → drop k xs ≡ get_or xs k [] ∷ drop (k + 1) xs
drop-next xs k there = drop-cons xs k [] there ∙ ap (λ n. get_or xs k [] ∷ drop n xs) (sym (add-one k))

-- where the next field is the next word, the rest decides
pub starts_with-more : (fields words : List (List ℕ)) (i : ℕ) → i < length fields → i < length words →
    bytes_eq (get_or words i []) (get_or fields i []) ≡ true →
    starts_with bytes_eq (drop (i + 1) fields) (drop (i + 1) words) ≡ starts_with bytes_eq (drop i fields) (drop i words)
starts_with-more fields words i in_fields in_words same =
    sym (ap (λ fs. starts_with bytes_eq fs (drop i words)) (drop-next fields i in_fields)
    ∙ ap (λ ws. starts_with bytes_eq (get_or fields i [] ∷ drop (i + 1) fields) ws) (drop-next words i in_words)
    ∙ ap (λ b. b && starts_with bytes_eq (drop (i + 1) fields) (drop (i + 1) words)) same)

-- where it is another, the fields do not begin with the words
pub starts_with-not : (fields words : List (List ℕ)) (i : ℕ) → i < length fields → i < length words →
    bytes_eq (get_or words i []) (get_or fields i []) ≡ false → starts_with bytes_eq (drop i fields) (drop i words) ≡ false
starts_with-not fields words i in_fields in_words other =
    ap (λ fs. starts_with bytes_eq fs (drop i words)) (drop-next fields i in_fields)
    ∙ ap (λ ws. starts_with bytes_eq (get_or fields i [] ∷ drop (i + 1) fields) ws) (drop-next words i in_words)
    ∙ ap (λ b. b && starts_with bytes_eq (drop (i + 1) fields) (drop (i + 1) words)) other
