-- The names of entries and exits: each stands once, and by its place it is that of an even or an odd vertex.
use Rattle.std.proofs.Common.{◌≡◌, ℕ, zero, suc, ◌+◌, ◌*◌, ◌<◌, true, false, not, List, [], ◌∷◌, ◌++◌, filter, length, get_or, Contains, refl, sym, ap, ◌∙◌, ⊎_elim, arith, append_assoc}
use Rattle.std.specs.Prelude.{All}
use Rattle.std.specs.List.{IsDistinct}
use Rattle.std.specs.Cmp.Lexicographic.{nat_list_eq_equiv}
use Rattle.std.specs.Str.{bytes_eq}
use Rattle.std.proofs.lemmas.Bool.{cases_Bool}
use Rattle.std.proofs.lemmas.List.{append-nil}
use Rattle.std.proofs.lemmas.List.Elements.{All-nil, All-cons, All-head, All-tail, All-weaker, All-from_recursion, recursion_from_All, Contains-append_left, Contains-append_right}
use Rattle.std.proofs.lemmas.Map.Keys.{IsDistinct-cons, IsDistinct-head, IsDistinct-tail}
use Rattle.std.proofs.lemmas.Map.Made.{is_member-Decides}
use Rattle.std.proofs.lemmas.Slice.Eq.{bytes_eq-Decides}
use Rattle.graph_text.specs.Reading.{distinct, vertex_of}
use Rattle.graph_text.proofs.Mentions.{distinct-push, Contains-distinct}
use Rattle.graph_text.proofs.Naming.{with_name-there}
use Rattle.node_weights.specs.SplitText.{entry_of, exit_of}
use Rattle.node_weights.specs.SplitLaws.{split_names}
use Rattle.node_weights.proofs.SplitEdges.{filter-all}

-- names that differ from another differ from it as entries and exits
entries-differ : (name : List ℕ) (names : List (List ℕ)) → All (λ n. bytes_eq name n ≡ false) names → All (λ n. bytes_eq (entry_of name) n ≡ false) (split_names names)
entries-differ name [] each = All-nil (λ n. bytes_eq (entry_of name) n ≡ false)
entries-differ name (n ∷ names) each =
    let P : List ℕ → Type 0 = λ n. bytes_eq (entry_of name) n ≡ false in
    All-cons P (entry_of n) (exit_of n ∷ split_names names) (All-head (λ n. bytes_eq name n ≡ false) n names each)
    (All-cons P (exit_of n) (split_names names) refl (entries-differ name names (All-tail (λ n. bytes_eq name n ≡ false) n names each)))

exits-differ : (name : List ℕ) (names : List (List ℕ)) → All (λ n. bytes_eq name n ≡ false) names → All (λ n. bytes_eq (exit_of name) n ≡ false) (split_names names)
exits-differ name [] each = All-nil (λ n. bytes_eq (exit_of name) n ≡ false)
exits-differ name (n ∷ names) each =
    let P : List ℕ → Type 0 = λ n. bytes_eq (exit_of name) n ≡ false in
    All-cons P (entry_of n) (exit_of n ∷ split_names names) refl
    (All-cons P (exit_of n) (split_names names) (All-head (λ n. bytes_eq name n ≡ false) n names each) (exits-differ name names (All-tail (λ n. bytes_eq name n ≡ false) n names each)))

-- no entry or exit stands twice
pub split_names-once : (names : List (List ℕ)) → IsDistinct bytes_eq names → IsDistinct bytes_eq (split_names names)
unfolding IsDistinct
split_names-once [] once = tt
split_names-once (name ∷ names) once =
    let others = All-from_recursion (λ n. bytes_eq name n ≡ false) names (IsDistinct-head bytes_eq name names once) in
    let rest = split_names names in
    IsDistinct-cons bytes_eq (entry_of name) (exit_of name ∷ rest)
    (recursion_from_All (λ n. bytes_eq (entry_of name) n ≡ false) (exit_of name ∷ rest)
    (All-cons (λ n. bytes_eq (entry_of name) n ≡ false) (exit_of name) rest refl (entries-differ name names others)))
    (IsDistinct-cons bytes_eq (exit_of name) rest
    (recursion_from_All (λ n. bytes_eq (exit_of name) n ≡ false) rest (exits-differ name names others))
    (split_names-once names (IsDistinct-tail bytes_eq name names once)))

-- names that stand once are distinct as they are
pub distinct-once : (names : List (List ℕ)) → IsDistinct bytes_eq names → distinct names ≡ names
distinct-once [] once = refl
distinct-once (name ∷ names) once =
    ap (λ ns. name ∷ filter (λ n. not (bytes_eq name n)) ns) (distinct-once names (IsDistinct-tail bytes_eq name names once))
    ∙ ap (λ ns. name ∷ ns)
    (filter-all (λ n. not (bytes_eq name n)) names
    (All-weaker (λ n. bytes_eq name n ≡ false) (λ n. not (bytes_eq name n) ≡ true) (λ n other. ap not other) names
    (All-from_recursion (λ n. bytes_eq name n ≡ false) names (IsDistinct-head bytes_eq name names once))))

-- names that were mentioned add nothing
pub distinct-mentioned : (names more : List (List ℕ)) → All (Contains names) more → distinct (names ++ more) ≡ distinct names
distinct-mentioned names [] each = ap distinct (append-nil names)
distinct-mentioned names (name ∷ more) each =
    let there : Contains names name = All-head (Contains names) name more each in
    let later : All (Contains (names ++ name ∷ [])) more =
    All-weaker (Contains names) (Contains (names ++ name ∷ [])) (λ n h. Contains-append_left names (name ∷ []) n h) more (All-tail (Contains names) name more each) in
    ap distinct (sym (append_assoc names (name ∷ []) more))
    ∙ distinct-mentioned (names ++ name ∷ []) more later
    ∙ distinct-push names name
    ∙ with_name-there (distinct names) name ((is_member-Decides bytes_eq-Decides (distinct names) name).1 (Contains-distinct names name there))

-- the place of an entry, and of an exit
pub entry-place : (names : List (List ℕ)) (name : List ℕ) → vertex_of (split_names names) (entry_of name) ≡ 2 * vertex_of names name
entry-place [] name = omega arith
entry-place (n ∷ names) name =
    ⊎_elim
    (λ same. rw same (omega arith))
    (λ other. rw other (omega (arith, entry-place names name)))
    (cases_Bool (bytes_eq name n))

pub exit-place : (names : List (List ℕ)) (name : List ℕ) → vertex_of names name < length names → vertex_of (split_names names) (exit_of name) ≡ 2 * vertex_of names name + 1
exit-place [] name there = absurd (omega (arith, there))
exit-place (n ∷ names) name there =
    ⊎_elim
    (λ same. rw same (omega arith))
    (λ other. let rest : vertex_of names name < length names = omega (arith, rw other at there) in rw other (omega (arith, exit-place names name rest)))
    (cases_Bool (bytes_eq name n))

-- a name is found where it stands
pub vertex-at : (names : List (List ℕ)) (v : ℕ) → IsDistinct bytes_eq names → v < length names → vertex_of names (get_or names v []) ≡ v
vertex-at [] v once within = absurd (omega (arith, within))
vertex-at (name ∷ names) zero once within = rw ((bytes_eq-Decides name name).1 refl) refl
vertex-at (name ∷ names) (suc v) once within =
    let inside : v < length names = omega arith in
    let x = get_or names v [] in
    let differs : bytes_eq name x ≡ false = All-from_recursion (λ n. bytes_eq name n ≡ false) names (IsDistinct-head bytes_eq name names once) v [] inside in
    let other : bytes_eq x name ≡ false = nat_list_eq_equiv.symm x name ∙ differs in
    rw other (omega (arith, vertex-at names v (IsDistinct-tail bytes_eq name names once) inside))

-- the entry and the exit of a name are among them
pub Contains-split : (names : List (List ℕ)) (name : List ℕ) → Contains names name → Contains (split_names names) (entry_of name) × Contains (split_names names) (exit_of name)
Contains-split [] name (k, within, is) = absurd (omega (arith, within))
Contains-split (n ∷ names) name (zero, within, is) =
    ((0, omega arith, ap entry_of is), (1, omega arith, ap exit_of is))
Contains-split (n ∷ names) name (suc k, within, is) =
    let rest = Contains-split names name (k, omega (arith, within), is) in (
      Contains-append_right (entry_of n ∷ exit_of n ∷ []) (split_names names) (entry_of name) rest.0,
      Contains-append_right (entry_of n ∷ exit_of n ∷ []) (split_names names) (exit_of name) rest.1,
    )
