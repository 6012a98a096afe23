-- An edge line repeats an earlier one exactly where its edge stands among the edges.
use Rattle.std.proofs.Common.{◌≡◌, ℕ, ◌<◌, Bool, true, false, not, ◌&&◌, List, [], ◌∷◌, ◌++◌, map, length, get_or, Contains, refl, sym, ap, subst, ◌∙◌, arith}
use Rattle.std.specs.Bool.{MatchBool}
use Rattle.std.specs.List.{All, list_any}
use Rattle.std.specs.Str.{bytes_eq}
use Rattle.std.proofs.lemmas.Bool.{and_parts, false_from_ne_true, false≢true}
use Rattle.std.proofs.lemmas.List.{get_or-map, length-map, get_or_default}
use Rattle.std.proofs.lemmas.List.Folds.{Any-from_list_any, list_any_at}
use Rattle.std.proofs.lemmas.Slice.Eq.{bytes_eq-Decides}
use Rattle.graph_text.specs.Labels.{LabelLists, with_name}
use Rattle.graph_text.specs.DraftGraph.{HasEdge}
use Rattle.graph_text.specs.Reading.{Line, same_fields, ends_of, vertex_of, pair_in, edge_of}
use Rattle.graph_text.proofs.Places.{place_of_contained}
use Rattle.graph_text.proofs.Naming.{Contains-with_name, Contains-with_name_same, vertex_of-kept, vertex_of-with_name}
use Rattle.graph_text.proofs.Mentions.{names_in, ends-Contains, names_in-push, tail_number, edges_in-push}

-- a list of two
two_of : {X : Type 0} (xs : List X) (d : X) → length xs ≡ 2 → xs ≡ get_or xs 0 d ∷ get_or xs 1 d ∷ []
two_of [] d h = absurd (omega arith)
two_of (x ∷ []) d h = absurd (omega arith)
two_of (x ∷ y ∷ []) d h = refl
two_of (x ∷ y ∷ z ∷ zs) d h = absurd (omega arith)

-- names with one number are one name
same_name : (names : List (List ℕ)) (a b : List ℕ) → Contains names a → Contains names b → vertex_of names a ≡ vertex_of names b → a ≡ b
same_name names a b ha hb e =
    let pa = place_of_contained bytes_eq-Decides names a [] ha in
    let pb = place_of_contained bytes_eq-Decides names b [] hb in
    sym pa.1 ∙ ap (λ n. get_or names n []) e ∙ pb.1

fields-same : (a b u v : List ℕ) → same_fields (a ∷ b ∷ []) (u ∷ v ∷ []) ≡ true → (a ≡ u) × (b ≡ v)
fields-same a b u v h =
    let p = and_parts (bytes_eq a u) (bytes_eq b v && true) h in
    let q = and_parts (bytes_eq b v) true p.1 in
    ((bytes_eq-Decides a u).0 p.0, (bytes_eq-Decides b v).0 q.0)

same-fields : (u v : List ℕ) → same_fields (u ∷ v ∷ []) (u ∷ v ∷ []) ≡ true
same-fields u v = rw ((bytes_eq-Decides u u).1 refl, (bytes_eq-Decides v v).1 refl)

-- the numbers of two names, after they were added to others
module _ (names : List (List ℕ)) (u v a b : List ℕ) (tail_there : Contains names a) (head_there : Contains names b) where
  abbrev with_tail : List (List ℕ)
  with_tail = with_name names u

  abbrev with_both : List (List ℕ)
  with_both = with_name (with_name names u) v

  numbers-same : a ≡ u → b ≡ v → (vertex_of names a ≡ vertex_of with_tail u) × (vertex_of names b ≡ vertex_of with_both v)
  numbers-same e f = (
    ap (vertex_of names) e ∙ sym (vertex_of-with_name names u),
    ap (vertex_of names) f ∙ sym (vertex_of-kept names u v (subst (Contains names) f head_there)) ∙ sym (vertex_of-with_name with_tail v),
  )

  same-names : vertex_of names a ≡ vertex_of with_tail u → vertex_of names b ≡ vertex_of with_both v → (a ≡ u) × (b ≡ v)
  same-names e f = (
    same_name with_tail a u (Contains-with_name names u a tail_there) (Contains-with_name_same names u)
        (vertex_of-kept names u a tail_there ∙ e),
    same_name with_both b v (Contains-with_name with_tail v b (Contains-with_name names u b head_there)) (Contains-with_name_same with_tail v)
        (vertex_of-kept with_tail v b (Contains-with_name names u b head_there) ∙ vertex_of-kept names u b head_there ∙ f),
  )

pair_parts : (m n p q : ℕ) → ◌≡◌ {A = ℕ × ℕ} (m, n) (p, q) → (m ≡ p) × (n ≡ q)
pair_parts m n p q e = (ap (λ (x : ℕ × ℕ). x.0) e, ap (λ (x : ℕ × ℕ). x.1) e)

module _ (edges : List Line) (l : Line) (u v : List ℕ) (ends : ends_of l ≡ u ∷ v ∷ []) (shaped : All (λ e. length (ends_of e) ≡ 2) edges) where
  abbrev repeats_it : Line → Bool
  repeats_it e = same_fields (ends_of e) (ends_of l)

  -- the edge of the new line, by the names after it
  abbrev new_edge : ℕ × ℕ
  new_edge = (vertex_of (with_name (names_in edges) u) u, vertex_of (with_name (with_name (names_in edges) u) v) v)

  edge_is : (e : Line) (a b : List ℕ) → ends_of e ≡ a ∷ b ∷ [] → ◌≡◌ {A = ℕ × ℕ} (edge_of (names_in edges) e) (vertex_of (names_in edges) a, vertex_of (names_in edges) b)
  edge_is e a b is = ap (λ x. pair_in (map (vertex_of (names_in edges)) x)) is

  -- the edge of an earlier line is the new one exactly where its ends are
  edge-same : (e : Line) (a b : List ℕ) → ends_of e ≡ a ∷ b ∷ [] → Contains (names_in edges) a → Contains (names_in edges) b → repeats_it e ≡ true → edge_of (names_in edges) e ≡ new_edge
  edge-same e a b is ha hb h =
      let same = fields-same a b u v (sym (ap (λ x. same_fields x (u ∷ v ∷ [])) is) ∙ sym (ap (same_fields (ends_of e)) ends) ∙ h) in
      let numbers = numbers-same (names_in edges) u v a b ha hb same.0 same.1 in
      edge_is e a b is ∙ (λ i. (numbers.0 i, numbers.1 i))

  same-edge : (e : Line) (a b : List ℕ) → ends_of e ≡ a ∷ b ∷ [] → Contains (names_in edges) a → Contains (names_in edges) b → edge_of (names_in edges) e ≡ new_edge → repeats_it e ≡ true
  same-edge e a b is ha hb h =
      let parts = pair_parts (vertex_of (names_in edges) a) (vertex_of (names_in edges) b) new_edge.0 new_edge.1 (sym (edge_is e a b is) ∙ h) in
      let same = same-names (names_in edges) u v a b ha hb parts.0 parts.1 in
      ap (λ x. same_fields x (ends_of l)) is ∙ ap (same_fields (a ∷ b ∷ [])) ends ∙ ap (λ x. same_fields (x ∷ b ∷ []) (u ∷ v ∷ [])) same.0 ∙ ap (λ x. same_fields (u ∷ x ∷ []) (u ∷ v ∷ [])) same.1 ∙ same-fields u v

  -- the ends of the edge line at a place
  ends_at : (k : ℕ) → k < length edges → ends_of (get_or edges k l) ≡ get_or (ends_of (get_or edges k l)) 0 [] ∷ get_or (ends_of (get_or edges k l)) 1 [] ∷ []
  ends_at k h = two_of (ends_of (get_or edges k l)) [] (shaped k l h)

  among : (k j : ℕ) → k < length edges → j < 2 → Contains (names_in edges) (get_or (ends_of (get_or edges k l)) j [])
  among k j h less = ends-Contains edges k l h j [] (omega (arith, shaped k l h))

  forth : list_any repeats_it edges ≡ true → Contains (map (edge_of (names_in edges)) edges) new_edge
  forth t =
      let found = Any-from_list_any repeats_it edges t in
      let k = found.0 in
      let within : k < length edges = found.2 in
      let passes : repeats_it (get_or edges k l) ≡ true = ap repeats_it (get_or_default edges k l found.1 within ∙ found.3) ∙ found.4 in (
        k,
        omega (arith, length-map edges (edge_of (names_in edges))),
        get_or-map (edge_of (names_in edges)) edges k l new_edge within
            ∙ edge-same (get_or edges k l) (get_or (ends_of (get_or edges k l)) 0 []) (get_or (ends_of (get_or edges k l)) 1 []) (ends_at k within)
            (among k 0 within (omega arith)) (among k 1 within (omega arith)) passes,
      )

  back : Contains (map (edge_of (names_in edges)) edges) new_edge → list_any repeats_it edges ≡ true
  back there =
      let k = there.0 in
      let within : k < length edges = omega (arith, there.1, length-map edges (edge_of (names_in edges))) in
      list_any_at repeats_it edges k l within
      (same-edge (get_or edges k l) (get_or (ends_of (get_or edges k l)) 0 []) (get_or (ends_of (get_or edges k l)) 1 []) (ends_at k within)
      (among k 0 within (omega arith)) (among k 1 within (omega arith))
      (sym (get_or-map (edge_of (names_in edges)) edges k l new_edge within) ∙ there.2))

  -- whether an edge is new says whether no line is repeated
  pub repeats-from_new : (is_new : Bool) → MatchBool is_new (¬ Contains (map (edge_of (names_in edges)) edges) new_edge) (Contains (map (edge_of (names_in edges)) edges) new_edge) → list_any repeats_it edges ≡ not is_new
  repeats-from_new true h = false_from_ne_true (list_any repeats_it edges) (λ t. h (forth t))
  repeats-from_new false h = back h

  -- the labels of the lines
  abbrev line_labels : LabelLists
  line_labels = record { names = names_in edges; edges = map (edge_of (names_in edges)) edges }

  has-edge : list_any repeats_it edges ≡ true → HasEdge line_labels u v
  has-edge t =
      let found = Any-from_list_any repeats_it edges t in
      let k = found.0 in
      let within : k < length edges = found.2 in
      let a = get_or (ends_of (get_or edges k l)) 0 [] in
      let b = get_or (ends_of (get_or edges k l)) 1 [] in
      let passes : repeats_it (get_or edges k l) ≡ true = ap repeats_it (get_or_default edges k l found.1 within ∙ found.3) ∙ found.4 in
      let same = fields-same a b u v (sym (ap (λ x. same_fields x (u ∷ v ∷ [])) (ends_at k within)) ∙ sym (ap (same_fields (ends_of (get_or edges k l))) ends) ∙ passes) in
      record {
        tail_named = subst (Contains (names_in edges)) same.0 (among k 0 within (omega arith));
        head_named = subst (Contains (names_in edges)) same.1 (among k 1 within (omega arith));
        joined = (
          k,
          omega (arith, length-map edges (edge_of (names_in edges))),
          get_or-map (edge_of (names_in edges)) edges k l (vertex_of (names_in edges) u, vertex_of (names_in edges) v) within
              ∙ edge_is (get_or edges k l) a b (ends_at k within)
              ∙ (λ i. (vertex_of (names_in edges) (same.0 i), vertex_of (names_in edges) (same.1 i))),
        );
      }

  edge-had : HasEdge line_labels u v → list_any repeats_it edges ≡ true
  edge-had h =
      let k = h.joined.0 in
      let within : k < length edges = omega (arith, h.joined.1, length-map edges (edge_of (names_in edges))) in
      let a = get_or (ends_of (get_or edges k l)) 0 [] in
      let b = get_or (ends_of (get_or edges k l)) 1 [] in
      let parts = pair_parts (vertex_of (names_in edges) a) (vertex_of (names_in edges) b) (vertex_of (names_in edges) u) (vertex_of (names_in edges) v)
      (sym (edge_is (get_or edges k l) a b (ends_at k within)) ∙ sym (get_or-map (edge_of (names_in edges)) edges k l (vertex_of (names_in edges) u, vertex_of (names_in edges) v) within) ∙ h.joined.2) in
      let first = same_name (names_in edges) a u (among k 0 within (omega arith)) h.tail_named parts.0 in
      let second = same_name (names_in edges) b v (among k 1 within (omega arith)) h.head_named parts.1 in
      list_any_at repeats_it edges k l within
      (ap (λ x. same_fields x (ends_of l)) (ends_at k within) ∙ ap (same_fields (a ∷ b ∷ [])) ends ∙ ap (λ x. same_fields (x ∷ b ∷ []) (u ∷ v ∷ [])) first ∙ ap (λ x. same_fields (u ∷ x ∷ []) (u ∷ v ∷ [])) second ∙ same-fields u v)

  same_labels : (labels : LabelLists) → labels.names ≡ names_in edges → labels.edges ≡ map (edge_of (names_in edges)) edges → labels ≡ line_labels
  same_labels labels e f = λ i. record { names = e i; edges = f i }

  -- the line repeats an earlier one where the labels have its edge
  pub repeats-from_edge : (labels : LabelLists) → labels.names ≡ names_in edges → labels.edges ≡ map (edge_of (names_in edges)) edges → HasEdge labels u v → list_any repeats_it edges ≡ true
  repeats-from_edge labels e f h =
      edge-had (subst (λ (x : LabelLists). HasEdge x u v) (same_labels labels e f) h)

  pub repeats-from_no_edge : (labels : LabelLists) → labels.names ≡ names_in edges → labels.edges ≡ map (edge_of (names_in edges)) edges → ¬ HasEdge labels u v → list_any repeats_it edges ≡ false
  repeats-from_no_edge labels e f h =
      false_from_ne_true (list_any repeats_it edges)
      (λ t. h (subst (λ (x : LabelLists). HasEdge x u v) (sym (same_labels labels e f)) (has-edge t)))

  -- the labels after the names and the edge of the line were added
  pub labels-push : (l0 l1 l2 l3 : LabelLists) (un vn : ℕ) (is_new : Bool)
      → l0.names ≡ names_in edges → l0.edges ≡ map (edge_of (names_in edges)) edges → ¬ HasEdge l0 u v
      → l1 ≡ record { names = with_name l0.names u; edges = l0.edges } → un ≡ vertex_of l1.names u
      → l2 ≡ record { names = with_name l1.names v; edges = l1.edges } → vn ≡ vertex_of l2.names v
      → MatchBool is_new (¬ Contains l2.edges (un, vn)) (Contains l2.edges (un, vn))
      → MatchBool is_new (l3 ≡ record { names = l2.names; edges = l2.edges ++ (un, vn) ∷ [] }) (l3 ≡ l2)
      → (l3.names ≡ names_in (edges ++ l ∷ [])) × (l3.edges ≡ map (edge_of (names_in (edges ++ l ∷ []))) (edges ++ l ∷ []))
  labels-push l0 l1 l2 l3 un vn is_new n0 e0 none s1 u1 s2 v2 new added =
      let first : l1.names ≡ with_name (names_in edges) u = ap (λ (x : LabelLists). x.names) s1 ∙ ap (λ x. with_name x u) n0 in
      let second : l2.names ≡ with_name (with_name (names_in edges) u) v = ap (λ (x : LabelLists). x.names) s2 ∙ ap (λ x. with_name x v) first in
      let kept : l2.edges ≡ map (edge_of (names_in edges)) edges = ap (λ (x : LabelLists). x.edges) s2 ∙ ap (λ (x : LabelLists). x.edges) s1 ∙ e0 in
      let third : l2.names ≡ names_in (edges ++ l ∷ []) = second ∙ sym (names_in-push edges l u v ends) in
      let tail_is : un ≡ vertex_of (with_name (names_in edges) u) u = u1 ∙ ap (λ x. vertex_of x u) first in
      let head_is : vn ≡ vertex_of (with_name (with_name (names_in edges) u) v) v = v2 ∙ ap (λ x. vertex_of x v) second in
      by is_new third kept tail_is head_is (v2 ∙ ap (λ x. vertex_of x v) third) new added
    where
      by : (is_new : Bool) → l2.names ≡ names_in (edges ++ l ∷ []) → l2.edges ≡ map (edge_of (names_in edges)) edges
          → un ≡ vertex_of (with_name (names_in edges) u) u → vn ≡ vertex_of (with_name (with_name (names_in edges) u) v) v → vn ≡ vertex_of (names_in (edges ++ l ∷ [])) v
          → MatchBool is_new (¬ Contains l2.edges (un, vn)) (Contains l2.edges (un, vn))
          → MatchBool is_new (l3 ≡ record { names = l2.names; edges = l2.edges ++ (un, vn) ∷ [] }) (l3 ≡ l2)
          → (l3.names ≡ names_in (edges ++ l ∷ [])) × (l3.edges ≡ map (edge_of (names_in (edges ++ l ∷ []))) (edges ++ l ∷ []))
      by true third kept tail_is head_is head_last new added = (
        ap (λ (x : LabelLists). x.names) added ∙ third,
        ap (λ (x : LabelLists). x.edges) added
            ∙ ap (λ x. x ++ (un, vn) ∷ []) kept
            ∙ (λ i. map (edge_of (names_in edges)) edges ++ ((tail_is ∙ sym (tail_number edges l u v ends)) i, head_last i) ∷ [])
            ∙ sym (edges_in-push edges l u v ends),
      )
      by false third kept tail_is head_is head_last new added =
          let there : Contains (map (edge_of (names_in edges)) edges) (un, vn) = subst (λ (x : List (ℕ × ℕ)). Contains x (un, vn)) kept new in
          let same : ◌≡◌ {A = ℕ × ℕ} (un, vn) new_edge = λ i. (tail_is i, head_is i) in
          absurd (false≢true (sym (repeats-from_no_edge l0 n0 e0 none) ∙ repeats-from_new false (subst (Contains (map (edge_of (names_in edges)) edges)) same there)))
