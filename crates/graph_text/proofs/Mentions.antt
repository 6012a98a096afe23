-- The names that a list of lines mentions, each once, and how names and edges grow by one more edge line.
use Rattle.std.proofs.Common.{◌≡◌, ℕ, ◌*◌, ◌≤◌, length-append, length-take, Bool, true, false, not, cond, ◌||◌, ◌&&◌, List, [], ◌∷◌, ◌++◌, map, filter, length, get_or, Contains, refl, sym, ap, subst, ◌∙◌, ⊎_elim, arith, append_assoc}
use Rattle.std.specs.Prelude.{All}
use Rattle.std.specs.Cmp.Lexicographic.{nat_list_eq_equiv}
use Rattle.std.specs.List.{list_any, flat_map}
use Rattle.std.specs.Str.{bytes_eq}
use Rattle.std.proofs.lemmas.Bool.{true≢false, cases_Bool, cond_both}
use Rattle.std.proofs.lemmas.Grind.{flat_map-append}
use Rattle.std.proofs.lemmas.List.{append-nil, map_push}
use Rattle.std.proofs.lemmas.List.Elements.{All-head, All-tail, All-weaker, Contains-append_left, Contains-append_right, Contains-get_or, filter-append}
use Rattle.std.proofs.lemmas.Map.Made.{is_member-filter, Contains-tail}
use Rattle.std.proofs.lemmas.Slice.Eq.{bytes_eq-Decides}
use Rattle.graph_text.proofs.Members.{Contains-cons_cases, Contains-filter}
use Rattle.graph_text.specs.Labels.{with_name}
use Rattle.graph_text.specs.Reading.{Line, ends_of, distinct, vertex_of, pair_in, edge_of}
use Rattle.graph_text.proofs.Naming.{Contains-with_name, Contains-with_name_same, vertex_of-kept}

module _ (a : List ℕ) where
  abbrev others : List (List ℕ) → List (List ℕ)
  others names = filter (λ n. not (bytes_eq a n)) names

  -- one more name behind a list, where the first is a: m says whether it is among the rest, t whether it is a
  distinct_step : (x : List ℕ) (names : List (List ℕ)) (m t : Bool) → list_any (bytes_eq x) names ≡ m → bytes_eq a x ≡ t
      → a ∷ others (with_name names x) ≡ with_name (a ∷ others names) x
  distinct_step x names m t among same =
      let alike : (y : List ℕ) → bytes_eq x y ≡ true → not (bytes_eq a x) ≡ not (bytes_eq a y) =
      λ y e. ap (λ n. not (bytes_eq a n)) ((bytes_eq-Decides x y).0 e) in
      let rest : list_any (bytes_eq x) (others names) ≡ (m && not t) =
      is_member-filter nat_list_eq_equiv (λ n. not (bytes_eq a n)) x alike names ∙ ap (λ b. b && not (bytes_eq a x)) among ∙ ap (λ b. m && not b) same in
      let first : bytes_eq x a ≡ t = nat_list_eq_equiv.symm x a ∙ same in
      ap (λ b. a ∷ others (cond b names (names ++ x ∷ []))) among
      ∙ by m t same
      ∙ ap (λ b. cond (b || (m && not t)) (a ∷ others names) (a ∷ others names ++ x ∷ [])) (sym first)
      ∙ ap (λ b. cond (bytes_eq x a || b) (a ∷ others names) (a ∷ others names ++ x ∷ [])) (sym rest)
    where
      last : (b : Bool) → bytes_eq a x ≡ b → others (names ++ x ∷ []) ≡ others names ++ cond (not b) (x ∷ []) []
      last b e = filter-append (λ n. not (bytes_eq a n)) names (x ∷ []) ∙ ap (λ c. others names ++ cond (not c) (x ∷ []) []) e

      by : (m t : Bool) → bytes_eq a x ≡ t → a ∷ others (cond m names (names ++ x ∷ [])) ≡ cond (t || (m && not t)) (a ∷ others names) (a ∷ others names ++ x ∷ [])
      by true true e = refl
      by true false e = refl
      by false true e = ap (λ ns. a ∷ ns) (last true e ∙ append-nil (others names))
      by false false e = ap (λ ns. a ∷ ns) (last false e)

-- one more name behind a list adds it to the distinct ones, unless it is among them
pub distinct-push : (names : List (List ℕ)) (x : List ℕ) → distinct (names ++ x ∷ []) ≡ with_name (distinct names) x
distinct-push [] x = refl
distinct-push (a ∷ names) x =
    ap (λ ns. a ∷ filter (λ n. not (bytes_eq a n)) ns) (distinct-push names x)
    ∙ distinct_step a x (distinct names) (list_any (bytes_eq x) (distinct names)) (bytes_eq a x) refl refl

-- each name of a list is among its distinct ones
pub Contains-distinct : (names : List (List ℕ)) (x : List ℕ) → Contains names x → Contains (distinct names) x
Contains-distinct [] x (k, within, e) = absurd (omega (arith, within))
Contains-distinct (a ∷ names) x there =
    ⊎_elim
    (λ t. subst (Contains (distinct (a ∷ names))) ((bytes_eq-Decides a x).0 t) (Contains-get_or (distinct (a ∷ names)) 0 a (omega arith)))
    (λ f. Contains-append_right (a ∷ []) _ x (kept f (Contains-distinct names x (Contains-tail a names x (λ e. true≢false (sym ((bytes_eq-Decides a x).1 e) ∙ f)) there))))
    (cases_Bool (bytes_eq a x))
  where
    kept : bytes_eq a x ≡ false → Contains (distinct names) x → Contains (filter (λ n. not (bytes_eq a n)) (distinct names)) x
    kept f h = Contains-filter (λ n. not (bytes_eq a n)) (distinct names) x h (ap not f)

-- what f gives for an element of a list is in the joined list
pub Contains-flat_map : {X Y : Type 0} (f : X → List Y) (xs : List X) (x : X) (y : Y) → Contains xs x → Contains (f x) y → Contains (flat_map f xs) y
Contains-flat_map f [] x y (k, within, e) given = absurd (omega (arith, within))
Contains-flat_map f (a ∷ xs) x y there given =
    ⊎_elim
    (λ same. Contains-append_left (f a) (flat_map f xs) y (subst (λ z. Contains (f z) y) (sym same) given))
    (λ rest. Contains-append_right (f a) (flat_map f xs) y (Contains-flat_map f xs x y rest given))
    (Contains-cons_cases a xs x there)

-- a map with two functions that agree on the list
pub map_agree : {X Y : Type 0} (f g : X → Y) (xs : List X) → All (λ x. f x ≡ g x) xs → map f xs ≡ map g xs
map_agree f g [] same = refl
map_agree f g (x ∷ xs) same =
    ap (λ y. y ∷ map f xs) (All-head (λ y. f y ≡ g y) x xs same) ∙ ap (λ ys. g x ∷ ys) (map_agree f g xs (All-tail (λ y. f y ≡ g y) x xs same))

-- there are at most two names for each edge line
length-distinct : (names : List (List ℕ)) → length (distinct names) ≤ length names
length-distinct [] = omega arith
length-distinct (a ∷ names) = omega (arith, length-filter_le (λ n. not (bytes_eq a n)) (distinct names), length-distinct names)
  where
    length-filter_le : (p : List ℕ → Bool) (ns : List (List ℕ)) → length (filter p ns) ≤ length ns
    length-filter_le p [] = omega arith
    length-filter_le p (n ∷ ns) =
        cond_both (p n) (n ∷ filter p ns) (filter p ns) (λ ms. length ms ≤ length (n ∷ ns))
        (λ _. omega (arith, length-filter_le p ns)) (λ _. omega (arith, length-filter_le p ns))

length-ends : (edges : List Line) → length (flat_map ends_of edges) ≤ 2 * length edges
length-ends [] = omega arith
length-ends (l ∷ edges) = omega (arith, length-append (ends_of l) (flat_map ends_of edges), length-take 2 l.fields, length-ends edges)

pub few_names : (edges : List Line) → length (distinct (flat_map ends_of edges)) ≤ 2 * length edges
few_names edges = omega (arith, length-distinct (flat_map ends_of edges), length-ends edges)

-- the ends of some edge lines are among their names
abbrev pub names_in : List Line → List (List ℕ)
names_in edges = distinct (flat_map ends_of edges)

pub ends-Contains : (edges : List Line) → All (λ l. All (Contains (names_in edges)) (ends_of l)) edges
ends-Contains edges = λ i l within j end inside.
    Contains-distinct (flat_map ends_of edges) _ (Contains-flat_map ends_of edges (get_or edges i l) (get_or (ends_of (get_or edges i l)) j end) (Contains-get_or edges i l within) (Contains-get_or (ends_of (get_or edges i l)) j end inside))

-- names and edges after one more edge line from u to v
module _ (edges : List Line) (l : Line) (u v : List ℕ) (ends : ends_of l ≡ u ∷ v ∷ []) where
  pub names_in-push : names_in (edges ++ l ∷ []) ≡ with_name (with_name (names_in edges) u) v
  names_in-push =
      ap distinct (flat_map-append ends_of edges (l ∷ []) ∙ ap (λ ns. flat_map ends_of edges ++ ns) (append-nil (ends_of l) ∙ ends)
      ∙ sym (append_assoc (flat_map ends_of edges) (u ∷ []) (v ∷ [])))
      ∙ distinct-push (flat_map ends_of edges ++ u ∷ []) v
      ∙ ap (λ ns. with_name ns v) (distinct-push (flat_map ends_of edges) u)

  same_number : (x : List ℕ) → Contains (names_in edges) x → vertex_of (names_in (edges ++ l ∷ [])) x ≡ vertex_of (names_in edges) x
  same_number x there =
      ap (λ ns. vertex_of ns x) names_in-push
      ∙ vertex_of-kept (with_name (names_in edges) u) v x (Contains-with_name (names_in edges) u x there)
      ∙ vertex_of-kept (names_in edges) u x there

  -- the number of the tail is the one that it has before the head is named
  pub tail_number : vertex_of (names_in (edges ++ l ∷ [])) u ≡ vertex_of (with_name (names_in edges) u) u
  tail_number = ap (λ ns. vertex_of ns u) names_in-push ∙ vertex_of-kept (with_name (names_in edges) u) v u (Contains-with_name_same (names_in edges) u)

  pub edges_in-push : map (edge_of (names_in (edges ++ l ∷ []))) (edges ++ l ∷ [])
      ≡ map (edge_of (names_in edges)) edges ++ (vertex_of (names_in (edges ++ l ∷ [])) u, vertex_of (names_in (edges ++ l ∷ [])) v) ∷ []
  edges_in-push =
      map_push (edge_of (names_in (edges ++ l ∷ []))) edges l
      ∙ ap (λ es. es ++ edge_of (names_in (edges ++ l ∷ [])) l ∷ []) (map_agree _ _ edges
      (λ i d within. ap pair_in (map_agree (vertex_of (names_in (edges ++ l ∷ []))) (vertex_of (names_in edges)) (ends_of (get_or edges i d))
      (All-weaker _ _ same_number (ends_of (get_or edges i d)) (ends-Contains edges i d within)))))
      ∙ ap (λ ns. map (edge_of (names_in edges)) edges ++ pair_in (map (vertex_of (names_in (edges ++ l ∷ []))) ns) ∷ []) ends
