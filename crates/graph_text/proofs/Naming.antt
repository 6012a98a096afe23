-- Names in order of first mention, their numbers, and how both grow by one more name or one more edge line.
use Rattle.std.proofs.Common.{◌≡◌, ℕ, ◌+◌, ◌<◌, ◌≤◌, Bool, true, false, not, cond, eqb, List, [], ◌∷◌, ◌++◌, map, length, position, Option, Contains, refl, sym, ap, subst, ◌∙◌, ⊎_elim, arith}
use Rattle.std.specs.Prelude.{IsTrue}
use Rattle.std.specs.Bool.{MatchBool}
use Rattle.std.specs.Cmp.Lexicographic.{nat_list_eq_equiv}
use Rattle.std.specs.List.{list_any, IsDistinct}
use Rattle.std.specs.Str.{bytes_eq}
use Rattle.std.proofs.lemmas.Bool.{true≢false, cases_Bool, cond-true, cond-false, ne_eqb, eqb-true, not-false}
use Rattle.std.proofs.lemmas.List.{map_push, length_push}
use Rattle.std.proofs.lemmas.List.Elements.{All-push, All-weaker, Contains-append_left, Contains-push, Contains-get_or}
use Rattle.std.proofs.lemmas.List.Folds.{position_or_len_push}
use Rattle.std.proofs.lemmas.Map.Keys.{IsDistinct-push}
use Rattle.std.proofs.lemmas.Map.Made.{is_member-Decides}
use Rattle.std.proofs.lemmas.Slice.Eq.{bytes_eq-Decides}
use Rattle.decomposition.specs.Graph.{same_ends}
use Rattle.decomposition.proofs.Nets.{same_ends-Decides}
use Rattle.graph_text.specs.Labels.{LabelLists, AreLabels, with_name, is_field, name_at}
use Rattle.graph_text.specs.Reading.{vertex_of}
use Rattle.graph_text.proofs.Places.{list_any-map, position-map, place_of_contained}

-- a name among the names adds nothing
pub with_name-there : (names : List (List ℕ)) (name : List ℕ) → list_any (bytes_eq name) names ≡ true → with_name names name ≡ names
with_name-there names name there = cond-true _ _ _ there

pub with_name-new : (names : List (List ℕ)) (name : List ℕ) → list_any (bytes_eq name) names ≡ false → with_name names name ≡ names ++ name ∷ []
with_name-new names name new = cond-false _ _ _ new

-- one more name keeps a fact that holds with it and without it
pub with_name-cases : (P : List (List ℕ) → Type 0) (names : List (List ℕ)) (name : List ℕ)
    → (list_any (bytes_eq name) names ≡ true → P names) → (list_any (bytes_eq name) names ≡ false → P (names ++ name ∷ [])) → P (with_name names name)
with_name-cases P names name there new =
    ⊎_elim
    (λ t. subst P (sym (with_name-there names name t)) (there t))
    (λ f. subst P (sym (with_name-new names name f)) (new f))
    (cases_Bool (list_any (bytes_eq name) names))

-- the keys of a set of names after an insert
pub names_inserted : {K : Type 0} (bytes : K → List ℕ) (keys : List K) (key : K)
    → map bytes (cond (list_any (λ k. bytes_eq (bytes key) (bytes k)) keys) keys (keys ++ key ∷ [])) ≡ with_name (map bytes keys) (bytes key)
names_inserted bytes keys key =
    by (list_any (λ k. bytes_eq (bytes key) (bytes k)) keys)
    ∙ ap (λ b. cond b (map bytes keys) (map bytes keys ++ bytes key ∷ [])) (sym (list_any-map (bytes_eq (bytes key)) bytes keys))
  where
    by : (b : Bool) → map bytes (cond b keys (keys ++ key ∷ [])) ≡ cond b (map bytes keys) (map bytes keys ++ bytes key ∷ [])
    by true = refl
    by false = map_push bytes keys key

-- names that are there are among the names with one more, and so is this one
pub Contains-with_name : (names : List (List ℕ)) (x y : List ℕ) → Contains names y → Contains (with_name names x) y
Contains-with_name names x y there =
    with_name-cases (λ ns. Contains ns y) names x (λ _. there) (λ _. Contains-append_left names (x ∷ []) y there)

pub Contains-with_name_same : (names : List (List ℕ)) (x : List ℕ) → Contains (with_name names x) x
Contains-with_name_same names x =
    with_name-cases (λ ns. Contains ns x) names x (λ t. (is_member-Decides bytes_eq-Decides names x).0 t) (λ _. Contains-push names x)

-- a name that is there keeps its number
pub vertex_of-kept : (names : List (List ℕ)) (x y : List ℕ) → Contains names y → vertex_of (with_name names x) y ≡ vertex_of names y
vertex_of-kept names x y there =
    let within : vertex_of names y < length names = (place_of_contained bytes_eq-Decides names y y there).0 in
    with_name-cases (λ ns. vertex_of ns y ≡ vertex_of names y) names x (λ _. refl)
    (λ _.
    let differs : vertex_of names y ≡ length names → ⊥ = λ e. omega arith in
    position_or_len_push (bytes_eq y) names x ∙ cond-false _ _ _ (ne_eqb (vertex_of names y) (length names) differs))

-- the number of a name is the place where it stands or is put
pub vertex_of-with_name : (names : List (List ℕ)) (x : List ℕ) → vertex_of (with_name names x) x ≡ vertex_of names x
vertex_of-with_name names x =
    with_name-cases (λ ns. vertex_of ns x ≡ vertex_of names x) names x (λ _. refl)
    (λ _.
    position_or_len_push (bytes_eq x) names x
    ∙ ap (λ b. cond (eqb (vertex_of names x) (length names)) (length names + cond b 0 1) (vertex_of names x)) (nat_list_eq_equiv.refl x)
    ∙ ⊎_elim
    (λ t. cond-true _ _ _ t ∙ (let e : vertex_of names x ≡ length names = eqb-true _ _ t in omega arith))
    (λ f. cond-false _ _ _ f)
    (cases_Bool (eqb (vertex_of names x) (length names))))

pub length-with_name : (names : List (List ℕ)) (x : List ℕ) → length (with_name names x) ≤ length names + 1
length-with_name names x = with_name-cases (λ ns. length ns ≤ length names + 1) names x (λ _. omega arith) (λ _. omega (arith, length_push names x))

-- the place of a name among the keys that stand for the names
pub place_in_names : {K : Type 0} (bytes : K → List ℕ) (keys : List K) (names : List (List ℕ)) (name : List ℕ) (r : Option ℕ)
    → map bytes keys ≡ names → r ≡ position (λ k. bytes_eq name (bytes k)) keys → r ≡ position (bytes_eq name) names
place_in_names bytes keys names name r shown is =
    is ∙ sym (position-map (bytes_eq name) bytes keys) ∙ ap (λ ns. position (bytes_eq name) ns) shown

-- labels that have a name stay as they are
pub same_labels-there : (labels : LabelLists) (name : List ℕ) (v : ℕ) → v < length labels.names → name_at labels v ≡ name
    → labels ≡ record { names = with_name labels.names name; edges = labels.edges }
same_labels-there labels name v within is =
    let there : Contains labels.names name = subst (Contains labels.names) is (Contains-get_or labels.names v [] within) in
    let e : with_name labels.names name ≡ labels.names = with_name-there labels.names name ((is_member-Decides bytes_eq-Decides labels.names name).1 there) in
    λ i. record { names = sym e i; edges = labels.edges }

-- labels with one more name
pub AreLabels-with_name : (labels : LabelLists) (name : List ℕ) → AreLabels labels → IsTrue (is_field name)
    → AreLabels (record { names = with_name labels.names name; edges = labels.edges })
AreLabels-with_name labels name are field =
    with_name-cases (λ ns. AreLabels (record { names = ns; edges = labels.edges })) labels.names name (λ _. are)
    (λ new. record {
      fields = All-push (λ n. IsTrue (is_field n)) labels.names name are.fields field;
      once = IsDistinct-push nat_list_eq_equiv labels.names name are.once new;
      ends = All-weaker (λ (e : ℕ × ℕ). (e.0 < length labels.names) × (e.1 < length labels.names)) (λ (e : ℕ × ℕ). (e.0 < length (labels.names ++ name ∷ [])) × (e.1 < length (labels.names ++ name ∷ [])))
          (λ e h. (omega (arith, h.0, length_push labels.names name), omega (arith, h.1, length_push labels.names name))) labels.edges are.ends;
      simple = are.simple;
    })

-- what an insert says of an edge
pub new_edge : (edges : List (ℕ × ℕ)) (edge : ℕ × ℕ) (is_new : Bool) → is_new ≡ not (list_any (same_ends edge) edges) → MatchBool is_new (¬ Contains edges edge) (Contains edges edge)
new_edge edges edge true is = λ there. true≢false (is ∙ ap not ((is_member-Decides same_ends-Decides edges edge).1 there))
new_edge edges edge false is = (is_member-Decides same_ends-Decides edges edge).0 (not-false _ (sym is))

pub AreLabels-empty : (names : List (List ℕ)) (edges : List (ℕ × ℕ)) → names ≡ [] → edges ≡ [] → AreLabels (record { names = names; edges = edges })
unfolding IsDistinct
AreLabels-empty names edges e f =
    subst (λ (ns : List (List ℕ)). AreLabels (record { names = ns; edges = edges })) (sym e)
    (subst (λ (es : List (ℕ × ℕ)). AreLabels (record { names = []; edges = es })) (sym f)
    (record { fields = λ k d within. absurd (omega (arith, within)); once = tt; ends = λ k d within. absurd (omega (arith, within)); simple = tt }))
