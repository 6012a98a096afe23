-- The fields of a line of three.
use Rattle.std.proofs.Common.{◌≡◌, ℕ, true, false, List, [], ◌∷◌, length, get_or, refl, sym, ap, subst, ◌∙◌, arith}
use Rattle.std.specs.Borrow.{Bor}
use Rattle.std.specs.Str.{bytes_eq}
use Rattle.std.proofs.lemmas.List.{length-map}
use Rattle.std.proofs.lemmas.Slice.Eq.{bytes_eq-Decides}
use Rattle.node_weights.specs.Draft.{HasFields, texts}
use Rattle.node_weights.specs.NodeText.{is_word_and_two}

three : (fields : List (Bor (List ℕ))) (d : Bor (List ℕ)) → length fields ≡ 3 → texts fields ≡ (get_or fields 0 d).now ∷ (get_or fields 1 d).now ∷ (get_or fields 2 d).now ∷ []
three [] d h = absurd (omega arith)
three (x ∷ []) d h = absurd (omega arith)
three (x ∷ y ∷ []) d h = absurd (omega arith)
three (x ∷ y ∷ z ∷ []) d h = refl
three (x ∷ y ∷ z ∷ a ∷ fields) d h = absurd (omega arith)

not_three : (word : List ℕ) (fields : List (List ℕ)) → (length fields ≡ 3 → ⊥) → is_word_and_two word fields ≡ false
not_three word [] h = refl
not_three word (x ∷ []) h = refl
not_three word (x ∷ y ∷ []) h = refl
not_three word (x ∷ y ∷ z ∷ []) h = absurd (h (omega arith))
not_three word (x ∷ y ∷ z ∷ a ∷ fields) h = refl

-- other fields than three are no word and two
pub other_count : (word : List ℕ) (fields : List (Bor (List ℕ))) → (length fields ≡ 3 → ⊥) → is_word_and_two word (texts fields) ≡ false
other_count word fields h = not_three word (texts fields) (λ e. h (sym (length-map fields (λ (field : Bor (List ℕ)). field.now)) ∙ e))

module _ (word spelled : List ℕ) (fields : List (Bor (List ℕ))) (d : Bor (List ℕ)) (count : length fields ≡ 3) (is : spelled ≡ word) where
  -- the word and two fields
  pub with_word : (line : List ℕ) → bytes_eq (get_or fields 0 d).now spelled ≡ true → HasFields (texts fields) line
      → HasFields (word ∷ (get_or fields 1 d).now ∷ (get_or fields 2 d).now ∷ []) line
  with_word line same has =
      subst (λ fs. HasFields fs line)
      (three fields d count ∙ ap (λ w. w ∷ (get_or fields 1 d).now ∷ (get_or fields 2 d).now ∷ []) ((bytes_eq-Decides (get_or fields 0 d).now spelled).0 same ∙ is)) has

  -- another word
  pub other_word : bytes_eq (get_or fields 0 d).now spelled ≡ false → is_word_and_two word (texts fields) ≡ false
  other_word differs = ap (is_word_and_two word) (three fields d count) ∙ ap (bytes_eq (get_or fields 0 d).now) (sym is) ∙ differs
