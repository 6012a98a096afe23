-- The edges that may follow a walk: as a list that rises, one after the other, and by the walk's last edge.
use Rattle.std.proofs.Common.{◌≡◌, ℕ, zero, suc, ◌+◌, ◌<◌, ◌≤◌, Bool, true, false, ◌&&◌, ◌==◌, nat_lt, eqb, List, [], ◌∷◌, ◌++◌, Option, None, Some, MatchOption, refl, sym, ap, ◌∙◌, subst, arith, inl, inr, ⊎_elim, eq-eqb, ne_eqb, ltb-true, lt-ltb, le-ltb, cond, length}
use Rattle.std.specs.Prelude.{IsTrue, filter}
use Rattle.std.proofs.lemmas.Bool.{cases_Bool, cases_lt, and_from, and_left, and_right}
use Rattle.std.proofs.lemmas.List.Elements.{filter-append, filter_agree}
use Rattle.decomposition.specs.Graph.{Graph, edge_count, tail, head, is_source, is_sink, walk_end, is_walk_from, below, edges_from, edges_from_sources, has_edge}
use Rattle.decomposition.specs.Reach.{IsBegun}
use Rattle.decomposition.specs.Tokens.{next_edges, is_finished}
use Rattle.decomposition.proofs.Members.{any-here, any-from_filter}
use Rattle.decomposition.proofs.Flows.{head-no_source}
use Rattle.decomposition.proofs.Walks.{walk_end-append, walk-right, walk-cons, edges_from-only, edges_from_sources-only}
use Rattle.dag_net.specs.Chain.{IsFirstOut}
use Rattle.refute_tree.specs.Choices.{later, later_of}
use Rattle.refute_tree.specs.Passing.{IsFirstPassing, NonePasses}

-- of the numbers below n, none passes
filter-none : (test : ℕ → Bool) (n : ℕ) → NonePasses test 0 n → filter test (below n) ≡ []
filter-none test zero none = refl
filter-none test (suc n) none =
    let here : test n ≡ false = none n (omega arith) (omega arith) in
    let before : filter test (below n) ≡ [] = filter-none test n (λ e from to. none e from (omega arith)) in
    filter-append test (below n) (n ∷ []) ∙ rw (before, here) refl

filter-one : (test : ℕ → Bool) (e : ℕ) → test e ≡ true → filter test (e ∷ []) ≡ e ∷ []
filter-one test e passes = rw passes refl

-- a test after another
filter-filter : (p q : ℕ → Bool) (xs : List ℕ) → filter q (filter p xs) ≡ filter (λ x. p x && q x) xs
filter-filter p q [] = refl
filter-filter p q (x ∷ xs) =
    elim (cases_Bool (p x)) [
      | inl passes ↦ rw (passes, filter-filter p q xs) refl
      | inr fails ↦ rw (fails, filter-filter p q xs) refl
    ]

-- of the numbers below n + 1, the last is after one that passes
filter-last : (test : ℕ → Bool) (n v : ℕ) → v < n → filter test (below n) ≡ v ∷ filter (λ f. nat_lt v f) (filter test (below n))
    → filter test (below n ++ n ∷ []) ≡ v ∷ filter (λ f. nat_lt v f) (filter test (below n ++ n ∷ []))
filter-last test n v less so_far =
    let parts = filter-append test (below n) (n ∷ []) in
    let rest : filter (λ f. nat_lt v f) (filter test (n ∷ [])) ≡ filter test (n ∷ []) = elim (cases_Bool (test n)) [
      | inl last ↦ rw last (filter-one (λ f. nat_lt v f) n (lt-ltb v n less))
      | inr other ↦ rw other refl
    ] in
    parts ∙ ap (λ l. l ++ filter test (n ∷ [])) so_far
    ∙ ap (λ l. v ∷ (filter (λ f. nat_lt v f) (filter test (below n)) ++ l)) (sym rest)
    ∙ ap (λ l. v ∷ l) (sym (filter-append (λ f. nat_lt v f) (filter test (below n)) (filter test (n ∷ []))))
    ∙ ap (λ l. v ∷ filter (λ f. nat_lt v f) l) (sym parts)

-- of the numbers below v + 1, only v passes
filter-alone : (test : ℕ → Bool) (v : ℕ) → test v ≡ true → NonePasses test 0 v → filter test (below v ++ v ∷ []) ≡ v ∷ filter (λ f. nat_lt v f) (filter test (below v ++ v ∷ []))
filter-alone test v passes none =
    let alone : filter test (below v ++ v ∷ []) ≡ v ∷ [] = filter-append test (below v) (v ∷ []) ∙ rw (filter-none test v none, passes) refl in
    let nothing : filter (λ f. nat_lt v f) (v ∷ []) ≡ [] = rw (le-ltb v v (omega arith)) refl in
    alone ∙ ap (λ l. v ∷ l) (sym nothing ∙ ap (filter (λ f. nat_lt v f)) (sym alone))

-- of the numbers below n, the first that passes, and then those after it
filter-first : (test : ℕ → Bool) (n v : ℕ) → v < n → test v ≡ true → NonePasses test 0 v → filter test (below n) ≡ v ∷ filter (λ f. nat_lt v f) (filter test (below n))
filter-first test zero v inside passes none = absurd (omega arith)
filter-first test (suc n) v inside passes none =
    ⊎_elim
    (λ (less : v < n). filter-last test n v less (filter-first test n v less passes none))
    (λ (last : n ≤ v).
    let same : v ≡ n = omega arith in
    subst (λ m. filter test (below m ++ m ∷ []) ≡ v ∷ filter (λ f. nat_lt v f) (filter test (below m ++ m ∷ []))) same (filter-alone test v passes none))
    (cases_lt v n)

-- the first edge that passes, and the edges after it
pub first_passing : (test : ℕ → Bool) (n : ℕ) (found : Option ℕ) → IsFirstPassing test 0 n found
    → MatchOption found (filter test (below n) ≡ []) (λ e. filter test (below n) ≡ e ∷ filter (λ f. nat_lt e f) (filter test (below n)))
first_passing test n None none = filter-none test n none
first_passing test n (Some e) first = filter-first test n e first.1 first.2 first.3

-- the first edge after another that passes, and the edges after it
pub next_passing : (test : ℕ → Bool) (n d : ℕ) (found : Option ℕ) → IsFirstPassing test (d + 1) n found
    → MatchOption found (filter (λ f. nat_lt d f) (filter test (below n)) ≡ [])
    (λ e. filter (λ f. nat_lt d f) (filter test (below n)) ≡ e ∷ filter (λ f. nat_lt e f) (filter test (below n)))
next_passing test n d None none =
    filter-filter test (λ f. nat_lt d f) (below n)
    ∙ filter-none (λ f. test f && nat_lt d f) n (λ e from to. ⊎_elim
    (λ (more : d < e). and_left (test e) (nat_lt d e) (none e (omega arith) to))
    (λ (less : e ≤ d). and_right (test e) (nat_lt d e) (le-ltb d e less))
    (cases_lt d e))
next_passing test n d (Some e) first =
    let both : ℕ → Bool = λ f. test f && nat_lt d f in
    let joined = filter-filter test (λ f. nat_lt d f) (below n) in
    let more : d < e = omega (arith, first.0) in
    joined ∙ filter-first both n e first.1 (and_from (test e) (nat_lt d e) first.2 (lt-ltb d e more))
    (λ f from to. ⊎_elim
    (λ (more : d < f). and_left (test f) (nat_lt d f) (first.3 f (omega arith) to))
    (λ (less : f ≤ d). and_right (test f) (nat_lt d f) (le-ltb d f less))
    (cases_lt d f))
    ∙ ap (λ l. e ∷ l) (ap (filter (λ f. nat_lt e f)) (sym joined) ∙ later-later d e (filter test (below n)) more)
  where
    later-later : (d e : ℕ) (xs : List ℕ) → d < e → filter (λ f. nat_lt e f) (filter (λ f. nat_lt d f) xs) ≡ filter (λ f. nat_lt e f) xs
    later-later d e xs more = filter-filter (λ f. nat_lt d f) (λ f. nat_lt e f) xs ∙ filter_agree (λ f. nat_lt d f && nat_lt e f) (λ f. nat_lt e f)
        (λ f. elim (cases_Bool (nat_lt e f)) [
          | inl after ↦ and_from (nat_lt d f) (nat_lt e f) (lt-ltb d f (omega (arith, ltb-true e f after))) after ∙ sym after
          | inr before ↦ and_right (nat_lt d f) (nat_lt e f) before ∙ sym before
        ]) xs

-- the first edge that leaves a vertex, as the first that passes a test
pub out_passes : (g : Graph) (v from : ℕ) (found : Option ℕ) → IsFirstOut g v from found → IsFirstPassing (λ e. tail g e == v) from (edge_count g) found
out_passes g v from None none = λ e low inside. ne_eqb (tail g e) v (none e low inside)
out_passes g v from (Some d) first = (first.0, first.1, eq-eqb (tail g d) v first.2, λ e low before. ne_eqb (tail g e) v (first.3 e low before))

-- the edges that may follow a walk, by its last edge
pub next_edges-last : (g : Graph) (before : List ℕ) (e : ℕ) → next_edges g (before ++ e ∷ []) ≡ edges_from g (head g e)
next_edges-last g [] e = refl
next_edges-last g (f ∷ before) e = ap (edges_from g) (walk_end-append g (tail g f) (f ∷ before) (e ∷ []))

pub is_finished-last : (g : Graph) (before : List ℕ) (e : ℕ) → is_finished g (before ++ e ∷ []) ≡ is_sink g (head g e)
is_finished-last g [] e = refl
is_finished-last g (f ∷ before) e = ap (is_sink g) (walk_end-append g (tail g f) (f ∷ before) (e ∷ []))

pub last_inside : (g : Graph) (before : List ℕ) (e : ℕ) → IsBegun g (before ++ e ∷ []) → e < edge_count g
last_inside g [] e begun = (walk-cons g (tail g e) e [] begun.1).inside
last_inside g (f ∷ before) e begun = (walk-cons g _ e [] (walk-right g (tail g f) (f ∷ before) (e ∷ []) begun.1)).inside

-- an edge that may follow a walk is one of the net
pub next_inside : (g : Graph) (walk : List ℕ) (e : ℕ) → IsTrue (has_edge (next_edges g walk) e) → e < edge_count g
next_inside g [] e next = (edges_from_sources-only g e next).0
next_inside g (f ∷ walk) e next = (edges_from-only g (walk_end g (tail g f) (f ∷ walk)) e next).0

-- what the first of some edges is
abbrev IsFirstOf : List ℕ → Option ℕ → Type 0
IsFirstOf es found = MatchOption found (es ≡ []) (λ e. es ≡ e ∷ filter (λ f. nat_lt e f) es)

-- the first edge that may follow the empty walk
pub first-at_sources : (g : Graph) (walk : List ℕ) (to : ℕ) (found : Option ℕ) → walk ≡ [] → to ≡ edge_count g → IsFirstPassing (λ e. is_source g (tail g e)) 0 to found → IsFirstOf (next_edges g walk) found
first-at_sources g walk to found empty all first =
    let test : ℕ → Bool = λ e. is_source g (tail g e) in
    subst (λ w. IsFirstOf (next_edges g w) found) (sym empty) (first_passing test (edge_count g) found (subst (λ n. IsFirstPassing test 0 n found) all first))

-- the first edge that may follow another walk
pub first-at_end : (g : Graph) (walk before : List ℕ) (e v : ℕ) (found : Option ℕ) → walk ≡ before ++ e ∷ [] → v ≡ head g e → IsFirstOut g v 0 found → IsFirstOf (next_edges g walk) found
first-at_end g walk before e v found is end first =
    let edges : next_edges g walk ≡ edges_from g v = ap (next_edges g) is ∙ next_edges-last g before e ∙ ap (edges_from g) (sym end) in
    subst (λ es. IsFirstOf es found) (sym edges) (first_passing (λ e. tail g e == v) (edge_count g) found (out_passes g v 0 found first))

-- the next edge stands after the edge before it, and may follow the same walk
pub later_has : (g : Graph) (walk : List ℕ) (e f : ℕ) (rest : List ℕ) → later g walk e ≡ f ∷ rest → IsTrue (has_edge (next_edges g walk) f) × (e < f)
later_has g walk e f rest is =
    let has : has_edge (later g walk e) f ≡ true = subst (λ l. has_edge l f ≡ true) (sym is) (any-here (λ y. eqb f y) f rest (eq-eqb f f refl)) in
    let parts = any-from_filter (λ x. nat_lt e x) (next_edges g walk) f has in
    (parts.0, ltb-true e f parts.1)

-- ---- the later edges by an edge alone

-- those of an edge that leaves a source, and of another one
later_of-source : (g : Graph) (e : ℕ) → is_source g (tail g e) ≡ true → later_of g e ≡ filter (λ f. nat_lt e f) (edges_from_sources g)
later_of-source g e source = ap (λ b. filter (λ f. nat_lt e f) (cond b (edges_from_sources g) (edges_from g (tail g e)))) source

later_of-other : (g : Graph) (e v : ℕ) → is_source g v ≡ false → tail g e ≡ v → later_of g e ≡ filter (λ f. nat_lt e f) (edges_from g v)
later_of-other g e v other is =
    ap (λ u. filter (λ f. nat_lt e f) (cond (is_source g u) (edges_from_sources g) (edges_from g u))) is
    ∙ ap (λ b. filter (λ f. nat_lt e f) (cond b (edges_from_sources g) (edges_from g v))) other

-- a walk that is not empty ends at no source
end-no_source : (g : Graph) (v e : ℕ) (es : List ℕ) → is_walk_from g v (e ∷ es) ≡ true → is_source g (walk_end g v (e ∷ es)) ≡ false
end-no_source g v e [] walk = head-no_source g e (walk-cons g v e [] walk).inside
end-no_source g v e (f ∷ es) walk = end-no_source g (head g e) f es (walk-cons g v e (f ∷ es) walk).rest

-- the edges after one that may follow a begun walk
pub later_is : (g : Graph) (walk : List ℕ) (e : ℕ) → IsBegun g walk → IsTrue (has_edge (next_edges g walk) e) → later g walk e ≡ later_of g e
later_is g [] e begun next = sym (later_of-source g e (edges_from_sources-only g e next).1)
later_is g (f ∷ walk) e begun next =
    let v = walk_end g (tail g f) (f ∷ walk) in
    sym (later_of-other g e v (end-no_source g (tail g f) f walk begun.1) (edges_from-only g v e next).1)

-- what the next edge after another is
abbrev IsNextOf : Graph → ℕ → Option ℕ → Type 0
IsNextOf g d found = MatchOption found (later_of g d ≡ []) (λ f. later_of g d ≡ f ∷ later_of g f)

pub next-at_source : (g : Graph) (d to : ℕ) (found : Option ℕ) → is_source g (tail g d) ≡ true → to ≡ edge_count g → IsFirstPassing (λ e. is_source g (tail g e)) (d + 1) to found → IsNextOf g d found
next-at_source g d to found source all next = go found (subst (λ n. IsFirstPassing (λ e. is_source g (tail g e)) (d + 1) n found) all next) where
  go : (r : Option ℕ) → IsFirstPassing (λ e. is_source g (tail g e)) (d + 1) (edge_count g) r → IsNextOf g d r
  go None none = later_of-source g d source ∙ next_passing (λ e. is_source g (tail g e)) (edge_count g) d None none
  go (Some f) first = later_of-source g d source ∙ next_passing (λ e. is_source g (tail g e)) (edge_count g) d (Some f) first ∙ ap (λ l. f ∷ l) (sym (later_of-source g f first.2))

pub next-at_vertex : (g : Graph) (d : ℕ) (found : Option ℕ) → is_source g (tail g d) ≡ false → IsFirstOut g (tail g d) (d + 1) found → IsNextOf g d found
next-at_vertex g d found other next = go found next where
  test : ℕ → Bool
  test e = tail g e == tail g d

  go : (r : Option ℕ) → IsFirstOut g (tail g d) (d + 1) r → IsNextOf g d r
  go None none = later_of-other g d (tail g d) other refl ∙ next_passing test (edge_count g) d None (out_passes g (tail g d) (d + 1) None none)
  go (Some f) first =
      later_of-other g d (tail g d) other refl ∙ next_passing test (edge_count g) d (Some f) (out_passes g (tail g d) (d + 1) (Some f) first)
      ∙ ap (λ l. f ∷ l) (sym (later_of-other g f (tail g d) other first.2))

-- the next edge is one of the net, and stands after the edge
pub next_of-inside : (g : Graph) (e f : ℕ) (rest : List ℕ) → later_of g e ≡ f ∷ rest → (f < edge_count g) × (e < f)
next_of-inside g e f rest is =
    let has : has_edge (later_of g e) f ≡ true = subst (λ l. has_edge l f ≡ true) (sym is) (any-here (λ y. eqb f y) f rest (eq-eqb f f refl)) in
    let parts = any-from_filter (λ x. nat_lt e x) (cond (is_source g (tail g e)) (edges_from_sources g) (edges_from g (tail g e))) f has in
    (go (is_source g (tail g e)) parts.0, ltb-true e f parts.1)
  where
    go : (b : Bool) → has_edge (cond b (edges_from_sources g) (edges_from g (tail g e))) f ≡ true → f < edge_count g
    go true has = (edges_from_sources-only g f has).0
    go false has = (edges_from-only g (tail g e) f has).0

-- so many edges are counted, from the first one up to an edge
pub record IsCounted (g : Graph) (first edge count : ℕ) : Type 0 where
  pub inside : edge < edge_count g
  pub counted : count + length (later_of g edge) ≡ length (later_of g first)
  pub few : count ≤ edge

pub counted-more : (g : Graph) (first edge count next : ℕ) → IsCounted g first edge count → later_of g edge ≡ next ∷ later_of g next → IsCounted g first next (count + 1)
counted-more g first edge count next counted is =
    let after = next_of-inside g edge next _ is in
    record { inside = after.0; counted = omega (arith, counted.counted, ap length is); few = omega (arith, counted.few, after.1) }
