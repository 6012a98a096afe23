-- The edges between neighbours of a list of vertices, found one by one.
use Rattle.std.proofs.Common.{◌≡◌, ℕ, ◌+◌, ◌-◌, ◌<◌, ◌≤◌, ◌⊎◌, Bool, true, false, not, ltb, List, [], ◌∷◌, ◌++◌, drop, length, length-drop, get_or, position, Option, Some, None, refl, sym, ap, ◌∙◌, ⊎_elim, arith, append_assoc}
use Rattle.std.specs.Prelude.{◌==◌}
use Rattle.std.specs.List.{list_any, position_or_len}
use Rattle.std.proofs.lemmas.Bool.{cases_Bool, cond-true, cond-false, false_from_ne_true, ltb-true, ltb-false, or_left, or_right, or_from, eq-eqb, ne_eqb}
use Rattle.std.proofs.lemmas.List.{append-nil, drop_more}
use Rattle.std.proofs.lemmas.List.Folds.{list_any-append}
use Rattle.std.proofs.lemmas.List.Sums.{passes_at_first, prefix_len-le-length}
use Rattle.std.proofs.lemmas.Option.{none-some}
use Rattle.decomposition.specs.Graph.{same_ends}
use Rattle.decomposition.proofs.Nets.{same_ends-Decides}
use Rattle.graph_text.specs.Labels.{LabelLists, AreLabels}
use Rattle.graph_text.specs.Reading.{vertex_of, run_of}

-- what is found is the first place, and where nothing is found this is the length
pub place-found : {X : Type 0} (p : X → Bool) (xs : List X) (i : ℕ) → Some i ≡ position p xs → (i ≡ position_or_len p xs) × (i < length xs)
place-found p xs i is =
    let place = position_or_len p xs in
    ⊎_elim
    (λ (t : ltb place (length xs) ≡ true).
    let e : ◌≡◌ {A = Option ℕ} (Some i) (Some place) = is ∙ cond-true (ltb place (length xs)) (Some place) None t in
    let same : i ≡ place = cc in
    (same, omega (arith, ltb-true place (length xs) t)))
    (λ (f : ltb place (length xs) ≡ false).
    let e : ◌≡◌ {A = Option ℕ} (Some i) None = is ∙ cond-false (ltb place (length xs)) (Some place) None f in cc)
    (cases_Bool (ltb place (length xs)))

pub place-missing : {X : Type 0} (p : X → Bool) (xs : List X) → None ≡ position p xs → length xs ≤ position_or_len p xs
place-missing p xs is =
    let place = position_or_len p xs in
    ltb-false place (length xs) (false_from_ne_true (ltb place (length xs)) (λ t. none-some _ (is ∙ cond-true (ltb place (length xs)) (Some place) None t)))

-- no edge joins a number that is no vertex
pub no_edge : (labels : LabelLists) → AreLabels labels → (u v : ℕ) → (length labels.names ≤ u) ⊎ (length labels.names ≤ v) → None ≡ position (same_ends (u, v)) labels.edges
no_edge labels are u v outside =
    let place = position_or_len (same_ends (u, v)) labels.edges in
    sym (cond-false (ltb place (length labels.edges)) (Some place) None
    (false_from_ne_true (ltb place (length labels.edges))
    (λ t.
    let within : place < length labels.edges = ltb-true place (length labels.edges) t in
    let same = (same_ends-Decides (u, v) (get_or labels.edges place (0, 0))).0 (passes_at_first (same_ends (u, v)) labels.edges (0, 0) within) in
    let inside = are.ends place (0, 0) within in
    ⊎_elim
    (λ low. let e : u ≡ (get_or labels.edges place (0, 0)).0 = ap (λ (p : ℕ × ℕ). p.0) same in omega (arith, inside.0))
    (λ low. let e : v ≡ (get_or labels.edges place (0, 0)).1 = ap (λ (p : ℕ × ℕ). p.1) same in omega (arith, inside.1))
    outside)))

module _ (names : List (List ℕ)) (edges : List (ℕ × ℕ)) where
  abbrev place : List ℕ → List ℕ → ℕ
  place tail head = position_or_len (same_ends (vertex_of names tail, vertex_of names head)) edges

  abbrev misses : List ℕ → Bool
  misses run = list_any (λ e. e == length edges) run

  -- the edge between two neighbours, and those behind them
  run-step : (xs : List (List ℕ)) (i : ℕ) → 1 ≤ i → i < length xs → run_of names edges (drop (i - 1) xs) ≡ place (get_or xs (i - 1) []) (get_or xs i []) ∷ run_of names edges (drop i xs)
  run-step xs i from within =
      let next : i - 1 + 1 ≡ i = omega arith in
      let two = drop_more xs i [] within in
      ap (run_of names edges) (drop_more xs (i - 1) [] (omega arith) ∙ ap (λ n. get_or xs (i - 1) [] ∷ drop n xs) next ∙ ap (λ ys. get_or xs (i - 1) [] ∷ ys) two)
      ∙ ap (λ ys. place (get_or xs (i - 1) []) (get_or xs i []) ∷ run_of names edges ys) (sym two)

  run-short : (xs : List (List ℕ)) → length xs < 2 → run_of names edges xs ≡ []
  run-short [] short = refl
  run-short (x ∷ []) short = refl
  run-short (x ∷ y ∷ ys) short = absurd (omega arith)

  -- The run so far and the edges from vertex i - 1 on are those of the whole list, and none of the run is missing.
  pub record IsRunUpTo (xs : List (List ℕ)) (i : ℕ) (run : List ℕ) : Type 0 where
    pub from : 1 ≤ i
    pub whole : run_of names edges xs ≡ run ++ run_of names edges (drop (i - 1) xs)
    pub known : misses run ≡ false

  pub run-goes_on : (xs : List (List ℕ)) (i : ℕ) (run : List ℕ) (edge : ℕ) → IsRunUpTo xs i run → i < length xs
      → Some edge ≡ position (same_ends (vertex_of names (get_or xs (i - 1) []), vertex_of names (get_or xs i []))) edges → IsRunUpTo xs (i + 1) (run ++ edge ∷ [])
  run-goes_on xs i run edge so within is =
      let found = place-found (same_ends (vertex_of names (get_or xs (i - 1) []), vertex_of names (get_or xs i []))) edges edge is in
      let last : i ≡ i + 1 - 1 = omega arith in
      let other : edge ≡ length edges → ⊥ = λ e. omega (arith, found.1) in
      record {
        from = omega arith;
        whole = so.whole ∙ ap (λ ys. run ++ ys) (run-step xs i so.from within)
            ∙ ap (λ e. run ++ (e ∷ run_of names edges (drop i xs))) (sym found.0)
            ∙ sym (append_assoc run (edge ∷ []) (run_of names edges (drop i xs)))
            ∙ ap (λ n. (run ++ edge ∷ []) ++ run_of names edges (drop n xs)) last;
        known = list_any-append (λ e. e == length edges) run (edge ∷ []) ∙ or_from _ _ so.known (or_from _ _ (ne_eqb edge (length edges) other) refl);
      }

  pub run-breaks : (xs : List (List ℕ)) (i : ℕ) (run : List ℕ) → IsRunUpTo xs i run → i < length xs
      → None ≡ position (same_ends (vertex_of names (get_or xs (i - 1) []), vertex_of names (get_or xs i []))) edges → misses (run_of names edges xs) ≡ true
  run-breaks xs i run so within is =
      let test = same_ends (vertex_of names (get_or xs (i - 1) []), vertex_of names (get_or xs i [])) in
      let low : position_or_len test edges ≤ length edges = prefix_len-le-length (λ e. not (test e)) edges in
      let past : position_or_len test edges ≡ length edges = omega (arith, place-missing test edges is) in
      ap misses (so.whole ∙ ap (λ ys. run ++ ys) (run-step xs i so.from within))
      ∙ list_any-append (λ e. e == length edges) run _
      ∙ or_right (misses run) _ (or_left (position_or_len test edges == length edges) _ (eq-eqb (position_or_len test edges) (length edges) past))

  pub run-ends : (xs : List (List ℕ)) (i : ℕ) (run : List ℕ) → IsRunUpTo xs i run → length xs ≤ i → (run ≡ run_of names edges xs) × (misses (run_of names edges xs) ≡ false)
  run-ends xs i run so past =
      let none : run_of names edges (drop (i - 1) xs) ≡ [] = run-short (drop (i - 1) xs) (omega (arith, length-drop (i - 1) xs, so.from)) in
      let same : run_of names edges xs ≡ run = so.whole ∙ ap (λ ys. run ++ ys) none ∙ append-nil run in
      (sym same, ap misses same ∙ so.known)
