-- Edges gathered one after another are the edges at their first uses.
use Rattle.std.proofs.Common.{◌≡◌, ℕ, ◌+◌, ◌<◌, Bool, true, false, not, cond, ◌||◌, List, [], ◌∷◌, ◌++◌, map, filter, length, take, get_or, refl, sym, ap, subst, ◌∙◌, ⊎_elim, append_assoc, append-nil}
use Rattle.std.specs.Prelude.{flat_map}
use Rattle.std.specs.Bool.{Decides}
use Rattle.std.specs.List.{list_any}
use Rattle.std.specs.Str.{bytes_eq}
use Rattle.std.proofs.lemmas.Bool.{cases_Bool, cond-true, cond-false, and_parts, and_from}
use Rattle.std.proofs.lemmas.List.{map_push, take_more}
use Rattle.std.proofs.lemmas.Grind.{flat_map-append}
use Rattle.demo_text.specs.declared.path.DemoPath.{DemoPath}
use Rattle.std.proofs.lemmas.List.Folds.{list_any-append}
use Rattle.std.proofs.lemmas.Slice.Eq.{bytes_eq-Decides}
use Rattle.graph_text.proofs.Places.{list_any-map}
use Rattle.graph_text.proofs.FirstLists.{filter_twice}
use Rattle.demo_text.specs.declared.edge.Edge.{Edge}
use Rattle.demo_text.specs.Demo.{ends_of, edges_along, same_names, first_uses}
use Rattle.demo_text.specs.Uses.{with_use, with_uses}

pub same_names-Decides : (e f : List ℕ × List ℕ) → Decides (same_names e f) (e ≡ f)
same_names-Decides e f = (both, λ is. and_from (bytes_eq e.0 f.0) (bytes_eq e.1 f.1) ((bytes_eq-Decides e.0 f.0).1 (λ i. (is i).0)) ((bytes_eq-Decides e.1 f.1).1 (λ i. (is i).1)))
  where
    both : same_names e f ≡ true → e ≡ f
    both h =
        let parts = and_parts (bytes_eq e.0 f.0) (bytes_eq e.1 f.1) h in
        let first = (bytes_eq-Decides e.0 f.0).0 parts.0 in
        let second = (bytes_eq-Decides e.1 f.1).0 parts.1 in
        λ i. (first i, second i)

-- an edge more in a list of edges of the code
pub use_inserted : (used : List Edge) (edge : Edge)
    → map ends_of (cond (list_any (λ known. same_names (ends_of edge) (ends_of known)) used) used (used ++ edge ∷ [])) ≡ with_use (map ends_of used) (ends_of edge)
use_inserted used edge =
    by (list_any (λ known. same_names (ends_of edge) (ends_of known)) used)
    ∙ ap (λ b. cond b (map ends_of used) (map ends_of used ++ ends_of edge ∷ [])) (sym (list_any-map (same_names (ends_of edge)) ends_of used))
  where
    by : (b : Bool) → map ends_of (cond b used (used ++ edge ∷ [])) ≡ cond b (map ends_of used) (map ends_of used ++ ends_of edge ∷ [])
    by true = refl
    by false = map_push ends_of used edge

pub with_uses-append : (used xs ys : List (List ℕ × List ℕ)) → with_uses used (xs ++ ys) ≡ with_uses (with_uses used xs) ys
with_uses-append used [] ys = refl
with_uses-append used (x ∷ xs) ys = with_uses-append (with_use used x) xs ys

-- the first uses that are not among some edges
abbrev others : List (List ℕ × List ℕ) → List (List ℕ × List ℕ) → List (List ℕ × List ℕ)
others used xs = filter (λ x. not (list_any (same_names x) used)) xs

-- an edge that is there
there : (used xs : List (List ℕ × List ℕ)) (e : List ℕ × List ℕ) → list_any (same_names e) used ≡ true
    → others used (e ∷ filter (λ f. not (same_names e f)) xs) ≡ others used xs
there used xs e is =
    cond-false (not (list_any (same_names e) used)) (e ∷ others used (filter (λ f. not (same_names e f)) xs)) _ (ap not is)
    ∙ filter_twice (λ (x : List ℕ × List ℕ). not (list_any (same_names x) used)) (λ f. not (same_names e f)) (λ x same. passes x same) xs
  where
    passes : (x : List ℕ × List ℕ) → not (same_names e x) ≡ false → not (list_any (same_names x) used) ≡ false
    passes x same = ap not (subst (λ (f : List ℕ × List ℕ). list_any (same_names f) used ≡ true) ((same_names-Decides e x).0 (flip (same_names e x) same)) is)
      where
        flip : (b : Bool) → not b ≡ false → b ≡ true
        flip true h = refl
        flip false h = sym h

-- an edge that is new
swapped : (x e : List ℕ × List ℕ) → same_names x e ≡ same_names e x
swapped x e =
    ⊎_elim
    (λ t. let is = (same_names-Decides e x).0 t in (same_names-Decides x e).1 (sym is) ∙ sym t)
    (λ f. ⊎_elim (λ t. (let is = (same_names-Decides x e).0 t in t ∙ sym ((same_names-Decides e x).1 (sym is)))) (λ g. g ∙ sym f) (cases_Bool (same_names x e)))
    (cases_Bool (same_names e x))

one_of_two : {X : Type 0} (a b : Bool) (x : X) (rest : List X) → cond (not (a || (b || false))) (x ∷ rest) rest ≡ cond (not b) (cond (not a) (x ∷ rest) rest) rest
one_of_two true true x rest = refl
one_of_two true false x rest = refl
one_of_two false true x rest = refl
one_of_two false false x rest = refl

others_through : (used kept : List (List ℕ × List ℕ)) (x : List ℕ × List ℕ) (b : Bool)
    → others used (cond (not b) (x ∷ kept) kept) ≡ cond (not b) (cond (not (list_any (same_names x) used)) (x ∷ others used kept) (others used kept)) (others used kept)
others_through used kept x true = refl
others_through used kept x false = refl

new : (used xs : List (List ℕ × List ℕ)) (e : List ℕ × List ℕ)
    → others (used ++ e ∷ []) xs ≡ others used (filter (λ f. not (same_names e f)) xs)
new used [] e = refl
new used (x ∷ xs) e =
    let rest = others (used ++ e ∷ []) xs in
    ap (λ b. cond (not b) (x ∷ rest) rest) (list_any-append (same_names x) used (e ∷ []) ∙ ap (λ c. list_any (same_names x) used || (c || false)) (swapped x e))
    ∙ one_of_two (list_any (same_names x) used) (same_names e x) x rest
    ∙ ap (λ ys. cond (not (same_names e x)) (cond (not (list_any (same_names x) used)) (x ∷ ys) ys) ys) (new used xs e)
    ∙ sym (others_through used (filter (λ f. not (same_names e f)) xs) x (same_names e x))

pub gathered : (used xs : List (List ℕ × List ℕ)) → with_uses used xs ≡ used ++ others used (first_uses xs)
gathered used [] = sym (append-nil used)
gathered used (e ∷ xs) =
    ⊎_elim
    (λ t. ap (λ u. with_uses u xs) (cond-true _ used (used ++ e ∷ []) t) ∙ gathered used xs ∙ ap (λ ys. used ++ ys) (sym (there used (first_uses xs) e t)))
    (λ f.
    ap (λ u. with_uses u xs) (cond-false _ used (used ++ e ∷ []) f) ∙ gathered (used ++ e ∷ []) xs
    ∙ append_assoc used (e ∷ []) (others (used ++ e ∷ []) (first_uses xs))
    ∙ ap (λ ys. used ++ e ∷ ys) (new used (first_uses xs) e)
    ∙ ap (λ ys. used ++ ys) (sym (cond-true _ (e ∷ others used (filter (λ f. not (same_names e f)) (first_uses xs))) _ (ap not f))))
    (cases_Bool (list_any (same_names e) used))

all_pass : (xs : List (List ℕ × List ℕ)) → others [] xs ≡ xs
all_pass [] = refl
all_pass (x ∷ xs) = ap (λ ys. x ∷ ys) (all_pass xs)

-- the edges gathered from nothing are the first uses
pub first_uses_gathered : (xs : List (List ℕ × List ℕ)) → with_uses [] xs ≡ first_uses xs
first_uses_gathered xs = gathered [] xs ∙ all_pass (first_uses xs)

-- what the code finds among the edges
pub use_there : (used slice : List Edge) (edge : Edge) (b : Bool) → slice ≡ used → b ≡ list_any (λ known. same_names (ends_of edge) (ends_of known)) slice → b ≡ true
    → map ends_of used ≡ with_use (map ends_of used) (ends_of edge)
use_there used slice edge b same is true_is =
    ap (λ t. map ends_of (cond t used (used ++ edge ∷ []))) (sym true_is ∙ is ∙ ap (list_any (λ known. same_names (ends_of edge) (ends_of known))) same)
    ∙ use_inserted used edge

pub use_new : (used slice : List Edge) (edge : Edge) (b : Bool) → slice ≡ used → b ≡ list_any (λ known. same_names (ends_of edge) (ends_of known)) slice → b ≡ false
    → map ends_of (used ++ edge ∷ []) ≡ with_use (map ends_of used) (ends_of edge)
use_new used slice edge b same is false_is =
    ap (λ t. map ends_of (cond t used (used ++ edge ∷ []))) (sym false_is ∙ is ∙ ap (list_any (λ known. same_names (ends_of edge) (ends_of known))) same)
    ∙ use_inserted used edge

-- the edges along one more path
pub uses_more : (paths : List DemoPath) (i : ℕ) (d : DemoPath) (old new : List (List ℕ × List ℕ)) → i < length paths
    → old ≡ with_uses [] (flat_map edges_along (take i paths)) → new ≡ with_uses old (edges_along (get_or paths i d))
    → new ≡ with_uses [] (flat_map edges_along (take (i + 1) paths))
uses_more paths i d old new within is more =
    let path = get_or paths i d in
    more ∙ ap (λ used. with_uses used (edges_along path)) is
    ∙ sym (with_uses-append [] (flat_map edges_along (take i paths)) (edges_along path))
    ∙ ap (with_uses [])
    (sym (flat_map-append edges_along (take i paths) (path ∷ [])) ∙ ap (flat_map edges_along) (sym (take_more paths i d within)))
