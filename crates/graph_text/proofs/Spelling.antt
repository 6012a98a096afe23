-- Names in a row, each with a space behind it: they are read back, and a list is found by how it is spelled.
use Rattle.std.proofs.Common.{◌≡◌, ℕ, ◌+◌, ◌<◌, Bool, true, false, cond, ◌||◌, List, [], ◌∷◌, ◌++◌, map, take, drop, length, get_or, Vec, Global, is_some, Option, Some, None, refl, sym, ap, subst, ◌∙◌, ⊎_elim, append_assoc}
use Rattle.std.specs.Borrow.{Bor}
use Rattle.std.specs.Prelude.{All}
use Rattle.std.specs.List.{list_any}
use Rattle.std.specs.Map.{lookup}
use Rattle.std.specs.Str.{bytes_eq}
use Rattle.std.proofs.lemmas.Bool.{true≢false, cases_Bool, cond-true, cond-false, cond_both, or_parts, or_from, false_from_ne_true}
use Rattle.std.proofs.lemmas.List.{take_more, map_push}
use Rattle.std.proofs.lemmas.List.Elements.{All-nil, All-cons, All-head, All-tail, All-drop, All-take}
use Rattle.std.proofs.lemmas.Slice.Eq.{bytes_eq-Decides}
use Rattle.graph_text.specs.Constraints.{Listing, spelled, has_list}
use Rattle.graph_text.specs.Lines.{is_blank, onto_first, fields_from, fields_of}
use Rattle.graph_text.specs.Reading.{same_fields}
use Rattle.graph_text.proofs.FirstLists.{same_fields-Decides}

-- a name has one byte or more, and no blank
abbrev has_byte : List ℕ → Bool
has_byte [] = false
has_byte (b ∷ name) = true

abbrev IsName : List ℕ → Type 0
IsName name = (has_byte name ≡ true) × (list_any is_blank name ≡ false)

-- a name in front of a space is the first field
read-name : (name rest : List ℕ) → list_any is_blank name ≡ false
    → fields_from (name ++ 32 ∷ rest) ≡ (has_byte name, cond (has_byte name) (name ∷ fields_of rest) (fields_of rest))
read-name [] rest plain = refl
read-name (b ∷ name) rest plain =
    let parts = or_parts (is_blank b) (list_any is_blank name) plain in
    cond-false _ _ _ parts.0
    ∙ ap (λ (r : Bool × List (List ℕ)). (true, cond r.0 (onto_first b r.1) ((b ∷ []) ∷ r.1))) (read-name name rest parts.1)
    ∙ by name
  where
    by : (name : List ℕ) → ◌≡◌ {A = Bool × List (List ℕ)} (true, cond (has_byte name) (onto_first b (cond (has_byte name) (name ∷ fields_of rest) (fields_of rest))) ((b ∷ []) ∷ cond (has_byte name) (name ∷ fields_of rest) (fields_of rest))) (true, (b ∷ name) ∷ fields_of rest)
    by [] = refl
    by (c ∷ name) = refl

fields_of-spelled : (names : List (List ℕ)) → All IsName names → fields_of (spelled names) ≡ names
fields_of-spelled [] each = refl
fields_of-spelled (name ∷ names) each =
    let is = All-head IsName name names each in
    ap (λ (r : Bool × List (List ℕ)). r.1) (read-name name (spelled names) is.1)
    ∙ cond-true _ _ _ is.0
    ∙ ap (λ rest. name ∷ rest) (fields_of-spelled names (All-tail IsName name names each))

-- each field of a text is a name
onto_first-names : (b : ℕ) (fields : List (List ℕ)) → is_blank b ≡ false → All IsName fields → All IsName (onto_first b fields)
onto_first-names b [] other each = All-cons IsName (b ∷ []) [] (refl, or_from _ _ other refl) (All-nil IsName)
onto_first-names b (field ∷ fields) other each =
    All-cons IsName (b ∷ field) fields (refl, or_from _ _ other (All-head IsName field fields each).1) (All-tail IsName field fields each)

fields-names : (text : List ℕ) → All IsName (fields_of text)
fields-names [] = All-nil IsName
fields-names (b ∷ text) =
    ⊎_elim
    (λ t. subst (All IsName) (sym (ap (λ (p : Bool × List (List ℕ)). p.1) (cond-true (is_blank b) (false, fields_of text) _ t))) (fields-names text))
    (λ f. subst (All IsName) (sym (ap (λ (p : Bool × List (List ℕ)). p.1) (cond-false (is_blank b) (false, fields_of text) _ f)))
    (cond_both (fields_from text).0 _ _ (All IsName)
    (λ _. onto_first-names b (fields_of text) f (fields-names text))
    (λ _. All-cons IsName (b ∷ []) (fields_of text) (refl, or_from _ _ f refl) (fields-names text))))
    (cases_Bool (is_blank b))

-- the fields of a line behind its first are read back
pub read-back : (fields : List (Bor (List ℕ))) (text : List ℕ) → map (λ (field : Bor (List ℕ)). field.now) fields ≡ fields_of text
    → (n : ℕ) → let vertices = map (λ (field : Bor (List ℕ)). field.now) (take n (drop 1 fields)) in fields_of (spelled vertices) ≡ vertices
read-back fields text are n =
    let IsField : Bor (List ℕ) → Type 0 = λ field. IsName field.now in
    fields_of-spelled _ (map-All (take n (drop 1 fields)) (All-take IsField n (drop 1 fields) (All-drop IsField 1 fields (All-map fields (subst (All IsName) (sym are) (fields-names text))))))
  where
    map-All : (fields : List (Bor (List ℕ))) → All (λ field. IsName field.now) fields → All IsName (map (λ (field : Bor (List ℕ)). field.now) fields)
    map-All [] each = All-nil IsName
    map-All (field ∷ fields) each = All-cons IsName field.now _ (All-head (λ (field : Bor (List ℕ)). IsName field.now) field fields each) (map-All fields (All-tail (λ (field : Bor (List ℕ)). IsName field.now) field fields each))

    All-map : (fields : List (Bor (List ℕ))) → All IsName (map (λ (field : Bor (List ℕ)). field.now) fields) → All (λ field. IsName field.now) fields
    All-map [] each = All-nil (λ (field : Bor (List ℕ)). IsName field.now)
    All-map (field ∷ fields) each = All-cons (λ (field : Bor (List ℕ)). IsName field.now) field fields (All-head IsName field.now _ each) (All-map fields (All-tail IsName field.now _ each))

-- one name more
spelled-push : (names : List (List ℕ)) (name : List ℕ) → spelled (names ++ name ∷ []) ≡ spelled names ++ name ++ 32 ∷ []
spelled-push [] name = refl
spelled-push (first ∷ names) name =
    let kept = 32 ∷ spelled names in
    ap (λ rest. first ++ 32 ∷ rest) (spelled-push names name)
    ∙ sym (append_assoc first (kept ++ name) (32 ∷ []))
    ∙ ap (λ text. text ++ 32 ∷ []) (sym (append_assoc first kept name))

pub spelled-more : (names : List (Bor (List ℕ))) (i : ℕ) (d : Bor (List ℕ)) → i < length names
    → spelled (map (λ (name : Bor (List ℕ)). name.now) (take (i + 1) names)) ≡ (spelled (map (λ (name : Bor (List ℕ)). name.now) (take i names)) ++ (get_or names i d).now) ++ 32 ∷ []
spelled-more names i d within =
    ap (λ xs. spelled (map (λ (name : Bor (List ℕ)). name.now) xs)) (take_more names i d within)
    ∙ ap spelled (map_push (λ (name : Bor (List ℕ)). name.now) (take i names) (get_or names i d))
    ∙ spelled-push _ (get_or names i d).now

-- what is kept of a constraint: how it is spelled, and the number of its line
abbrev pub Entry : Type 0
Entry = Vec ℕ Global × ℕ

abbrev pub listing_in : Entry → Listing
listing_in entry = record { number = entry.1; names = fields_of entry.0.items }

-- two texts are the same just where they spell the same names
same-text : (text kept : List ℕ) (names : List (List ℕ)) → text ≡ spelled names → fields_of (spelled names) ≡ names → spelled (fields_of kept) ≡ kept
    → bytes_eq text kept ≡ same_fields (fields_of kept) names
same-text text kept names is back same =
    let one = bytes_eq-Decides text kept in
    let two = same_fields-Decides (fields_of kept) names in
    ⊎_elim
    (λ t. t ∙ sym (two.1 (ap fields_of (sym (one.0 t) ∙ is) ∙ back)))
    (λ f. f ∙ sym (false_from_ne_true _ (λ t. true≢false (sym (one.1 (is ∙ ap spelled (sym (two.0 t)) ∙ same)) ∙ f))))
    (cases_Bool (bytes_eq text kept))

-- a list is among those that are kept just where its spelling is
found-spelled : (entries : List Entry) (text : List ℕ) (names : List (List ℕ)) → text ≡ spelled names → fields_of (spelled names) ≡ names
    → All (λ (entry : Entry). spelled (fields_of entry.0.items) ≡ entry.0.items) entries
    → is_some (lookup (λ (kept : Vec ℕ Global). bytes_eq text kept.items) entries) ≡ has_list (map listing_in entries) names
found-spelled [] text names is back each = refl
found-spelled (entry ∷ entries) text names is back each =
    let IsKept : Entry → Type 0 = λ entry. spelled (fields_of entry.0.items) ≡ entry.0.items in
    by (bytes_eq text entry.0.items)
    ∙ (λ i. same-text text entry.0.items names is back (All-head IsKept entry entries each) i || found-spelled entries text names is back (All-tail IsKept entry entries each) i)
  where
    by : (b : Bool) → is_some (cond b (Some entry.1) (lookup (λ (kept : Vec ℕ Global). bytes_eq text kept.items) entries)) ≡ (b || is_some (lookup (λ (kept : Vec ℕ Global). bytes_eq text kept.items) entries))
    by true = refl
    by false = refl

pub found-among : (entries : List Entry) (listings : List Listing) (text : List ℕ) (names : List (List ℕ)) → map listing_in entries ≡ listings
    → text ≡ spelled names → fields_of (spelled names) ≡ names → All (λ (entry : Entry). spelled (fields_of entry.0.items) ≡ entry.0.items) entries
    → is_some (lookup (λ (kept : Vec ℕ Global). bytes_eq text kept.items) entries) ≡ has_list listings names
found-among entries listings text names are is back each = found-spelled entries text names is back each ∙ ap (λ ls. has_list ls names) are

pub not-found : (entries : List Entry) (text key : List ℕ) → text ≡ key → is_some (lookup (λ (kept : Vec ℕ Global). bytes_eq text kept.items) entries) ≡ false
    → lookup (λ (kept : Vec ℕ Global). bytes_eq key kept.items) entries ≡ None
not-found entries text key is none = by _ (ap (λ t. is_some (lookup (λ (kept : Vec ℕ Global). bytes_eq t kept.items) entries)) (sym is) ∙ none)
  where
    by : (found : Option ℕ) → is_some found ≡ false → found ≡ None
    by None e = refl
    by (Some n) e = absurd (true≢false e)
