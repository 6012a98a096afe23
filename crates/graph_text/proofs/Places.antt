-- Lists through maps, and the first place of an element in a list: through a map, and where a test decides equality.
use Rattle.std.proofs.Common.{◌≡◌, ℕ, ◌+◌, ◌<◌, ◌≤◌, Bool, true, not, cond, ltb, ◌||◌, List, [], ◌∷◌, map, length, get_or, slice_get, position, Option, None, Some, Contains, refl, sym, ap, ◌∙◌, arith}
use Rattle.std.specs.Bool.{Decides}
use Rattle.std.specs.List.{list_any, position_or_len}
use Rattle.std.specs.Option.{MatchOption, option_map}
use Rattle.std.proofs.Common.{⊎_elim}
use Rattle.std.proofs.lemmas.Bool.{true≢false, lt-ltb, cond-true, cases_lt}
use Rattle.std.proofs.lemmas.List.Sums.{fails_before_first, passes_at_first}
use Rattle.std.proofs.lemmas.List.{length-map}
use Rattle.std.proofs.lemmas.List.Quantifiers.{position-Some}
use Rattle.std.proofs.lemmas.Option.{none-some, slice_get-map, get_or_from_slice_get}

pub map-map : {X Y Z : Type 0} (f : Y → Z) (g : X → Y) (xs : List X) → map f (map g xs) ≡ map (λ x. f (g x)) xs
map-map f g [] = refl
map-map f g (x ∷ xs) = ap (λ ys. f (g x) ∷ ys) (map-map f g xs)

module _ {X Y : Type 0} (p : Y → Bool) (f : X → Y) where
  pub list_any-map : (xs : List X) → list_any p (map f xs) ≡ list_any (λ x. p (f x)) xs
  list_any-map [] = refl
  list_any-map (x ∷ xs) = ap (λ b. p (f x) || b) (list_any-map xs)

  pub position_or_len-map : (xs : List X) → position_or_len p (map f xs) ≡ position_or_len (λ x. p (f x)) xs
  position_or_len-map [] = refl
  position_or_len-map (x ∷ xs) = ap (λ n. cond (not (p (f x))) (1 + n) 0) (position_or_len-map xs)

  pub position-map : (xs : List X) → position p (map f xs) ≡ position (λ x. p (f x)) xs
  position-map xs =
      ap (λ n. cond (ltb n (length (map f xs))) (Some n) None) (position_or_len-map xs)
      ∙ ap (λ n. cond (ltb (position_or_len (λ x. p (f x)) xs) n) (Some (position_or_len (λ x. p (f x)) xs)) None) (length-map xs f)

-- an element of a list, read through a map
pub get_or-map_read : {X Y : Type 0} (f : X → Y) (xs : List X) (i : ℕ) (x : X) (d : Y) → slice_get xs i ≡ Some x → get_or (map f xs) i d ≡ f x
get_or-map_read f xs i x d h = get_or_from_slice_get (map f xs) i (f x) d (slice_get-map f xs i ∙ ap (option_map f) h)

-- the first place is not after a place that passes
pub position_or_len-le : {X : Type 0} (p : X → Bool) (xs : List X) (k : ℕ) (d : X) → p (get_or xs k d) ≡ true → position_or_len p xs ≤ k
position_or_len-le p xs k d passes =
    ⊎_elim (λ before. absurd (true≢false (sym passes ∙ fails_before_first p xs k d before))) (λ h. h) (cases_lt k (position_or_len p xs))

module _ {X : Type 0} {e : X → X → Bool} (same : (a b : X) → Decides (e a b) (a ≡ b)) where
  -- the first place of an element that the list has
  pub place_of_contained : (xs : List X) (x d : X) → Contains xs x
      → (position_or_len (e x) xs < length xs) × (get_or xs (position_or_len (e x) xs) d ≡ x)
  place_of_contained xs x d (k, within, is) =
      let here : e x (get_or xs k x) ≡ true = (same x (get_or xs k x)).1 (sym is) in
      let low : position_or_len (e x) xs ≤ k = position_or_len-le (e x) xs k x here in
      let inside : position_or_len (e x) xs < length xs = omega arith in
      (inside, sym ((same x (get_or xs (position_or_len (e x) xs) d)).0 (passes_at_first (e x) xs d inside)))

  -- what the first place says where it is asked for
  pub position-Decides : (xs : List X) (x d : X) (r : Option ℕ) → r ≡ position (e x) xs
      → MatchOption r (¬ Contains xs x) (λ i. (i < length xs) × (get_or xs i d ≡ x))
  position-Decides xs x d None is =
      λ there. none-some _ (is ∙ cond-true _ _ _ (lt-ltb _ _ (place_of_contained xs x d there).0))
  position-Decides xs x d (Some i) is =
      let found = position-Some (e x) xs i d (sym is) in (found.0, sym ((same x (get_or xs i d)).0 found.1))
