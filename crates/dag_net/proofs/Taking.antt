-- The edges of one vertex taken away, along its chain.
use Rattle.std.proofs.Common.{◌≡◌, ◌==◌, ℕ, ◌+◌, ◌-◌, ◌<◌, ◌≤◌, ◌&&◌, ◌||◌, ◌++◌, ◌∷◌, [], List, Bool, true, false, not, nat_lt, cond, Option, Some, None, MatchOption, lt-ltb, length, length-append, get_or, slice_index, slice_set, take, refl, sym, ap, subst, ◌∙◌, inl, inr, arith, eq-eqb}
use Rattle.std.specs.Prelude.{All}
use Rattle.std.specs.Option.{option_map_or}
use Rattle.std.proofs.lemmas.Bool.{cases_Bool, cases_eq, cases_lt, ne_eqb, cond-true, cond-false, and_from, or_right}
use Rattle.std.proofs.lemmas.List.{get_or_read, get_or_append_left, take-append-le, take_more}
use Rattle.std.proofs.lemmas.List.Folds.{list_any-append}
use Rattle.decomposition.specs.Graph.{Graph, edge_count, tail, head}
use Rattle.decomposition.proofs.Members.{any-from_place}
use Rattle.decomposition.proofs.Sums.{le-sum_below}
use Rattle.dag_net.specs.Build.{IsInside}
use Rattle.dag_net.specs.Chain.{IsFirstOut, ChainFrom}
use Rattle.dag_net.specs.Peeling.{is_listed, Peels, PeelsTo}
use Rattle.dag_net.proofs.PeelingSteps.{not_less, Peels-same, Peels-waits, Peels-lists, fresh-place}

-- the edges that are gone while the edges of v are taken: those of the vertices before v, and those of v before place `to`
abbrev pub gone_to : Graph → List ℕ → ℕ → ℕ → ℕ → Bool
gone_to g done v to d = is_listed done (tail g d) || ((tail g d == v) && nat_lt d to)

-- the edges of v, the vertex at place k, are taken up to the cursor
pub record Takes (g : Graph) (k v : ℕ) (old : List ℕ) (out : Option ℕ) (waiting order : List ℕ) : Type 0 where
  pub front : take k order ≡ take k old
  pub place : slice_index order k ≡ v
  pub longer : length old ≤ length order
  pub peels : Peels g (gone_to g (take k old) v (option_map_or (λ e. e) out (edge_count g))) waiting order
  pub at : MatchOption out (Unit {0}) (λ e. (e < edge_count g) × (tail g e ≡ v))

or_nothing : (a b : Bool) → b ≡ false → a ≡ (a || b)
or_nothing a b none = elim (cases_Bool a) [ inl h ↦ rw h refl | inr h ↦ rw (h, none) refl ]

-- none of the edges of v is taken yet
none_gone : (g : Graph) (v : ℕ) (out : Option ℕ) → IsFirstOut g v 0 out → (d : ℕ) → d < edge_count g → ((tail g d == v) && nat_lt d (option_map_or (λ e. e) out (edge_count g))) ≡ false
none_gone g v None none d there = rw (ne_eqb (tail g d) v (none d (omega arith) there)) refl
none_gone g v (Some e) first d there =
    elim (cases_lt d e) [
      | inl less ↦ rw (ne_eqb (tail g d) v (first.3 d (omega arith) less)) refl
      | inr more ↦ elim (cases_Bool (tail g d == v)) [ inl h ↦ rw (h, not_less d e more) refl | inr h ↦ rw h refl ]
    ]

at_cursor : (g : Graph) (v from : ℕ) (out : Option ℕ) → IsFirstOut g v from out → MatchOption out (Unit {0}) (λ e. (e < edge_count g) × (tail g e ≡ v))
at_cursor g v from None first = tt
at_cursor g v from (Some e) first = (first.1, first.2)

pub Takes-first : (g : Graph) (k : ℕ) (out : Option ℕ) (waiting order : List ℕ) → PeelsTo g k waiting order → IsFirstOut g (slice_index order k) 0 out → Takes g k (slice_index order k) order out waiting order
Takes-first g k out waiting order p first = record {
  front = refl;
  place = refl;
  longer = omega arith;
  peels =
      Peels-same g (λ d. is_listed (take k order) (tail g d)) (gone_to g (take k order) (slice_index order k) (option_map_or (λ e. e) out (edge_count g))) waiting order
      (λ d there. or_nothing (is_listed (take k order) (tail g d)) _ (none_gone g (slice_index order k) out first d there)) p;
  at = at_cursor g (slice_index order k) 0 out first;
}

-- the cursor stands behind the edge before it
past_cursor : (g : Graph) (v e : ℕ) (out : Option ℕ) → e < edge_count g → IsFirstOut g v (e + 1) out → e < option_map_or (λ f. f) out (edge_count g)
past_cursor g v e None there next = there
past_cursor g v e (Some f) there next = omega (arith, next.0)

-- no edge of v stands between them
beyond : (g : Graph) (v e : ℕ) (out : Option ℕ) (d : ℕ) → d < edge_count g → e < d → tail g d ≡ v → IsFirstOut g v (e + 1) out → nat_lt d (option_map_or (λ f. f) out (edge_count g)) ≡ false
beyond g v e None d there less leaves next = absurd (next d (omega arith) there leaves)
beyond g v e (Some f) d there less leaves next =
    elim (cases_lt d f) [ inl between ↦ absurd (next.3 d (omega arith) between leaves) | inr more ↦ not_less d f more ]

-- the edge behind another, as the chain has it
pub IsFirstOut-next : (g : Graph) (v e : ℕ) (first next : List (Option ℕ)) (found : Option ℕ) → ChainFrom g 0 first next → e < edge_count g → tail g e ≡ v → found ≡ get_or next e found → IsFirstOut g v (e + 1) found
IsFirstOut-next g v e first next found chains there leaves read =
    let at : found ≡ get_or next e None = get_or_read next e found (omega (arith, chains.edges_count)) read None in
    subst (λ u. IsFirstOut g u (e + 1) found) leaves (subst (IsFirstOut g (tail g e) (e + 1)) (sym at) (chains.nexts e (omega arith) there))

-- less is left behind the cursor
pub cursor-falls : (g : Graph) (v e : ℕ) (next : Option ℕ) → e < edge_count g → IsFirstOut g v (e + 1) next → option_map_or (λ f. edge_count g - f) next 0 < edge_count g - e
cursor-falls g v e None there next = omega arith
cursor-falls g v e (Some f) there next = omega (arith, next.0)

-- one edge more of v is taken
one_gone : (g : Graph) (v e : ℕ) (out : Option ℕ) → e < edge_count g → tail g e ≡ v → IsFirstOut g v (e + 1) out → (d : ℕ) → d < edge_count g
    → (((tail g d == v) && nat_lt d e) || (d == e)) ≡ ((tail g d == v) && nat_lt d (option_map_or (λ f. f) out (edge_count g)))
one_gone g v e out e_there leaves next d there =
    let cursor = option_map_or (λ f. f) out (edge_count g) in
    let past : e < cursor = past_cursor g v e out e_there next in
    elim (cases_eq d e) [
      | inl same ↦
          or_right ((tail g d == v) && nat_lt d e) (d == e) (eq-eqb d e same)
          ∙ sym (and_from (tail g d == v) (nat_lt d cursor) (eq-eqb (tail g d) v (ap (tail g) same ∙ leaves)) (lt-ltb d cursor (omega (arith, past))))
      | inr other ↦
          sym (or_nothing ((tail g d == v) && nat_lt d e) (d == e) (ne_eqb d e other))
          ∙ elim (cases_eq (tail g d) v) [
            | inl from_v ↦ elim (cases_lt d e) [
              | inl less ↦ ap (λ b. (tail g d == v) && b) (lt-ltb d e less ∙ sym (lt-ltb d cursor (omega (arith, past))))
              | inr more ↦ ap (λ b. (tail g d == v) && b) (not_less d e more ∙ sym (beyond g v e out d there (omega arith) from_v next))
            ]
            | inr apart ↦ rw (ne_eqb (tail g d) v apart) refl
          ]
    ]

or_regroup : (a b c d : Bool) → (b || c) ≡ d → ((a || b) || c) ≡ (a || d)
or_regroup a b c d same = elim (cases_Bool a) [ inl h ↦ rw h refl | inr h ↦ rw h same ]

module _ (g : Graph) (k v e : ℕ) (old waiting order : List ℕ) (within : k < length old) (t : Takes g k v old (Some e) waiting order) (inside : All (IsInside g.vertices) g.edges) where
  free : is_listed (take k old) (tail g e) ≡ false
  free = subst (λ xs. is_listed xs (tail g e) ≡ false) t.front (subst (λ u. is_listed (take k order) u ≡ false) (t.place ∙ sym t.at.1) (fresh-place order k t.peels.distinct (omega (arith, t.longer))))

  left : gone_to g (take k old) v e e ≡ false
  left = rw (free, eq-eqb (tail g e) v t.at.1, not_less e e (omega arith)) refl

  pub Takes-waits : 1 ≤ slice_index waiting (head g e)
  Takes-waits =
      let one : ◌≡◌ {A = ℕ} (cond ((head g e == head g e) && not (gone_to g (take k old) v e e)) 1 0) 1
      = ap (λ b. cond ((head g e == head g e) && not b) 1 0) left ∙ ap (λ b. cond (b && true) 1 0) (eq-eqb (head g e) (head g e) refl) in
      omega (arith, t.peels.counts (head g e) (inside e (0, 0) t.at.0).1, le-sum_below (λ d. cond ((head g d == head g e) && not (gone_to g (take k old) v e d)) 1 0) (edge_count g) e t.at.0, one)

  from_listed : is_listed order (tail g e) ≡ true
  from_listed = any-from_place (λ z. tail g e == z) order 0 k (omega (arith, t.longer)) (eq-eqb (tail g e) (slice_index order k) (t.at.1 ∙ sym t.place))

  step : (next : Option ℕ) (waiting' order' : List ℕ) → IsFirstOut g v (e + 1) next → take k order' ≡ take k old → slice_index order' k ≡ v → length old ≤ length order'
      → Peels g (λ x. gone_to g (take k old) v e x || (x == e)) waiting' order' → Takes g k v old next waiting' order'
  step next waiting' order' first front place longer p = record {
    front = front;
    place = place;
    longer = longer;
    peels =
        Peels-same g (λ x. gone_to g (take k old) v e x || (x == e)) (gone_to g (take k old) v (option_map_or (λ f. f) next (edge_count g))) waiting' order'
        (λ d there. or_regroup (is_listed (take k old) (tail g d)) ((tail g d == v) && nat_lt d e) (d == e) ((tail g d == v) && nat_lt d (option_map_or (λ f. f) next (edge_count g))) (one_gone g v e next t.at.0 t.at.1 first d there)) p;
    at = at_cursor g v (e + 1) next first;
  }

  -- the edge at the cursor is taken
  pub Takes-more : (next : Option ℕ) (waiting' order' : List ℕ) → IsFirstOut g v (e + 1) next → waiting' ≡ slice_set waiting (head g e) (slice_index waiting (head g e) - 1)
      → order' ≡ cond (slice_index waiting (head g e) == 1) (order ++ head g e ∷ []) order → Takes g k v old next waiting' order'
  Takes-more next waiting' order' first waits lists =
      let w = slice_index waiting (head g e) - 1 in
      let one_less : w + 1 ≡ slice_index waiting (head g e) = omega (arith, Takes-waits) in
      let gone = gone_to g (take k old) v e in
      let low : head g e < g.vertices = (inside e (0, 0) t.at.0).1 in
      subst (λ ws. Takes g k v old next ws order') (sym waits)
      (elim (cases_eq (slice_index waiting (head g e)) 1) [
        | inl last ↦
            let now : order' ≡ order ++ head g e ∷ [] = lists ∙ cond-true (slice_index waiting (head g e) == 1) (order ++ head g e ∷ []) order (eq-eqb (slice_index waiting (head g e)) 1 last) in
            subst (λ os. Takes g k v old next (slice_set waiting (head g e) w) os) (sym now)
            (step next (slice_set waiting (head g e) w) (order ++ head g e ∷ []) first
            (take-append-le k order (head g e ∷ []) (omega (arith, t.longer)) ∙ t.front)
            (get_or_append_left order (head g e ∷ []) 0 k (omega (arith, t.longer)) ∙ t.place)
            (omega (arith, t.longer, length-append order (head g e ∷ [])))
            (Peels-lists g gone waiting order t.peels e w t.at.0 left from_listed low one_less (omega arith)))
        | inr more ↦
            let now : order' ≡ order = lists ∙ cond-false (slice_index waiting (head g e) == 1) (order ++ head g e ∷ []) order (ne_eqb (slice_index waiting (head g e)) 1 more) in
            subst (λ os. Takes g k v old next (slice_set waiting (head g e) w) os) (sym now)
            (step next (slice_set waiting (head g e) w) order first t.front t.place t.longer
            (Peels-waits g gone waiting order t.peels e w t.at.0 left from_listed low one_less (λ none. more (omega arith))))
      ])

-- all edges of v are taken
pub Takes-all : (g : Graph) (k v : ℕ) (old waiting order : List ℕ) → k < length old → Takes g k v old None waiting order → PeelsTo g (k + 1) waiting order
Takes-all g k v old waiting order within t =
    Peels-same g (gone_to g (take k old) v (edge_count g)) (λ d. is_listed (take (k + 1) order) (tail g d)) waiting order
    (λ d there.
    let last : ((tail g d == v) && nat_lt d (edge_count g)) ≡ ((tail g d == v) || false) = elim (cases_Bool (tail g d == v)) [ inl h ↦ rw (h, lt-ltb d (edge_count g) there) refl | inr h ↦ rw h refl ] in
    let more : take (k + 1) order ≡ take k old ++ v ∷ [] = take_more order k 0 (omega (arith, t.longer)) ∙ ap (λ xs. xs ++ slice_index order k ∷ []) t.front ∙ ap (λ x. take k old ++ x ∷ []) t.place in
    ap (λ b. is_listed (take k old) (tail g d) || b) last
    ∙ sym (ap (λ xs. is_listed xs (tail g d)) more ∙ list_any-append (λ w. tail g d == w) (take k old) (v ∷ [])))
    t.peels
