-- The widest-first list of a balanced flow decomposes it, with at most one path for each edge that has flow.
use Rattle.std.proofs.Common.{◌≡◌, ◌≢◌, ℕ, ◌+◌, ◌<◌, ◌≤◌, ◌==◌, ◌&&◌, nat_lt, nat_le, eqb, cond, true, false, List, [], ◌∷◌, ◌++◌, length, slice_index, slice_index_or, refl, sym, ap, subst, ◌∙◌, ⊎_elim, append_assoc, arith, eq-eqb, eqb-true, le-leb, true≢false}
use Rattle.std.specs.Prelude.{AllPairs, All}
use Rattle.std.specs.List.{IsDistinct}
use Rattle.std.proofs.lemmas.Bool.Decides.{Decides-eqb}
use Rattle.std.proofs.lemmas.Map.Made.{AllPairs-from_IsDistinct}
use Rattle.std.proofs.lemmas.List.{append-nil}
use Rattle.std.proofs.lemmas.List.Sums.{sum_by-cons}
use Rattle.std.proofs.lemmas.Bool.{cases_lt, both_ways, and_from}
use Rattle.decomposition.specs.Graph.{Graph, IsNet, IsPath, is_path, edge_count, tail, has_edge}
use Rattle.decomposition.specs.Answer.{sum_below}
use Rattle.decomposition.specs.Flow.{IsBalanced, Decomposes, EmptiesEdge, rest_after}
use Rattle.decomposition.specs.FirstAnswer.{path_width, IsWidest, IsWidestFirst}
use Rattle.decomposition.proofs.Sums.{sum_below_first}
use Rattle.decomposition.proofs.Members.{any-cons, any-here, any-there, any-from_place}
use Rattle.decomposition.proofs.Root.{all-cons}
use Rattle.decomposition.proofs.Walks.{walk-inside, walk-distinct}
use Rattle.decomposition.proofs.Flows.{flows_have_emptying_paths}
use Rattle.decomposition.proofs.Balance.{rest_after-balanced}
use Rattle.decomposition.proofs.FewPaths.{positive_count, fewer, sums_more}
use Rattle.greedy_paths.specs.Greedy.{positive_edges}
use Rattle.greedy_paths.specs.Built.{EndsWidestFirst}
use Rattle.greedy_paths.proofs.Finding.{path-ends}

-- the width of a path is at most the rest of each of its edges, and one of them has just that
pub path_width-le : (rest : ℕ → ℕ) (p : List ℕ) (f : ℕ) → has_edge p f ≡ true → path_width rest p ≤ rest f
path_width-le rest [] f hit = absurd (true≢false (sym hit))
path_width-le rest (e ∷ []) f hit = ⊎_elim (λ here. let same : rest f ≡ rest e = ap rest (eqb-true f e here) in omega arith) (λ none. absurd (both_ways false refl none)) (any-cons (λ y. eqb f y) e [] hit)
path_width-le rest (e ∷ (d ∷ es)) f hit =
    ⊎_elim
    (λ here. let same : rest f ≡ rest e = ap rest (eqb-true f e here) in omega arith)
    (λ there. omega (arith, path_width-le rest (d ∷ es) f there))
    (any-cons (λ y. eqb f y) e (d ∷ es) hit)

pub path_width-edge : (rest : ℕ → ℕ) (e : ℕ) (es : List ℕ) → (d : ℕ) × (has_edge (e ∷ es) d ≡ true) × (rest d ≡ path_width rest (e ∷ es))
path_width-edge rest e [] = (e, any-here (λ y. eqb e y) e [] (eq-eqb e e refl), refl)
path_width-edge rest e (f ∷ fs) =
    let other = path_width-edge rest f fs in
    ⊎_elim
    (λ (lt : rest e < path_width rest (f ∷ fs)). (e, any-here (λ y. eqb e y) e (f ∷ fs) (eq-eqb e e refl), omega arith))
    (λ (ge : path_width rest (f ∷ fs) ≤ rest e). (other.0, any-there (λ y. eqb other.0 y) e (f ∷ fs) other.1, omega (arith, other.2)))
    (cases_lt (rest e) (path_width rest (f ∷ fs)))

-- the widest path empties an edge
pub record Emptied (g : Graph) (rest : ℕ → ℕ) (p : List ℕ) : Type 0 where
  pub edge : ℕ
  pub inside : edge < edge_count g
  pub empties : EmptiesEdge g rest p edge
  pub width : rest edge ≡ path_width rest p

pub Emptied-from : (g : Graph) (rest : ℕ → ℕ) (p : List ℕ) → IsWidest g rest p → Emptied g rest p
Emptied-from g rest [] widest = absurd (both_ways false refl widest.path)
Emptied-from g rest (e ∷ es) widest =
    let found = path_width-edge rest e es in
    let ends = path-ends g e es widest.path in
    let one : 1 ≤ path_width rest (e ∷ es) = widest.positive in
    record {
      edge = found.0;
      inside = walk-inside g (tail g e) (e ∷ es) found.0 ends.leads.walk found.1;
      empties = record {
        path = widest.path;
        edge = found.1;
        positive = omega (arith, found.2);
        least = λ f hit. omega (arith, found.2, path_width-le rest (e ∷ es) f hit);
      };
      width = found.2;
    }

-- so fewer edges have flow
pub fewer_left : (g : Graph) (rest new : ℕ → ℕ) (p : List ℕ) (width : ℕ) → IsWidest g rest p → width ≡ path_width rest p → ((e : ℕ) → new e ≡ rest_after rest p width e) → positive_count g new < positive_count g rest
fewer_left g rest new p width widest is after =
    let e = Emptied-from g rest p widest in
    let less : positive_count g (rest_after rest p (rest e.edge)) < positive_count g rest = fewer g rest p e.edge e.inside e.empties in
    let same : rest e.edge ≡ width = e.width ∙ sym is in
    let equal : new ≡ rest_after rest p width = λ i e. after e i in
    rw equal (rw same at less)

-- where no path has width, no edge of a balanced flow has flow
no_flow : (g : Graph) (flow : ℕ → ℕ) → IsNet g → IsBalanced g flow → ((p : List ℕ) → IsPath g p → path_width flow p ≡ 0) → (e : ℕ) → e < edge_count g → 0 ≡ flow e
no_flow g flow net balanced none e there =
    ⊎_elim
    (λ (more : 0 < flow e).
    let found = flows_have_emptying_paths g flow net balanced e there more in
    absurd (narrow found.0 found.1 found.3 (none found.0 found.3.path)))
    (λ (zero' : flow e ≤ 0). omega arith)
    (cases_lt 0 (flow e))
  where
    narrow : (p : List ℕ) (d : ℕ) → EmptiesEdge g flow p d → path_width flow p ≡ 0 → ⊥
    narrow [] d empties zero' = both_ways false refl empties.path
    narrow (f ∷ fs) d empties zero' =
        let at = path_width-edge flow f fs in
        let one : 1 ≤ flow d = empties.positive in
        omega (arith, empties.least at.0 at.1, at.2)

pub Decomposes-widest : (g : Graph) (flow : ℕ → ℕ) (a : List (List ℕ × ℕ)) → IsNet g → IsBalanced g flow → IsWidestFirst g flow a → Decomposes g flow a × (length a ≤ positive_count g flow)
Decomposes-widest g flow [] net balanced none = (record { answer = refl; sums = no_flow g flow net balanced none }, omega arith)
Decomposes-widest g flow (x ∷ a) net balanced (widest, is, more) =
    let enough : (f : ℕ) → has_edge x.0 f ≡ true → x.1 ≤ flow f = λ f hit. omega (arith, is, path_width-le flow x.0 f hit) in
    let one : 1 ≤ path_width flow x.0 = widest.positive in
    let rest = Decomposes-widest g (rest_after flow x.0 x.1) a net (rest_after-balanced g net flow x.0 x.1 widest.path enough balanced) more in (
      record {
        answer = all-cons (λ entry. is_path g entry.0 && nat_le 1 entry.1) x a (and_from (is_path g x.0) (nat_le 1 x.1) widest.path (le-leb 1 x.1 (omega arith))) rest.0.answer;
        sums = λ e there. sums_more flow x.0 x.1 a e enough (rest.0.sums e there);
      },
      omega (arith, rest.1, fewer_left g flow (rest_after flow x.0 x.1) x.0 x.1 widest is (λ e. refl)),
    )

-- the two ways to count the edges that have flow
pub positive_count-list : (g : Graph) (flow : List ℕ) → length flow ≡ edge_count g → positive_count g (slice_index flow) ≡ positive_edges flow
positive_count-list g flow same = ap (sum_below (λ e. cond (nat_lt 0 (slice_index flow e)) 1 0)) (sym same) ∙ go flow where
  go : (flow : List ℕ) → sum_below (λ e. cond (nat_lt 0 (slice_index flow e)) 1 0) (length flow) ≡ positive_edges flow
  go [] = refl
  go (w ∷ ws) =
      sum_below_first (λ e. cond (nat_lt 0 (slice_index (w ∷ ws) e)) 1 0) (length ws) ∙ ap (λ n. cond (nat_lt 0 w) 1 0 + n) (go ws)
      ∙ sym (sum_by-cons (λ v. cond (nat_lt 0 v) 1 0) w ws)

-- a list that goes on with widest paths, and what they leave
pub record LeavesRest (g : Graph) (flow : List ℕ) (begun answer : List (List ℕ × ℕ)) (rest : List ℕ) : Type 0 where
  pub count : length rest ≡ edge_count g
  pub others : List (List ℕ × ℕ)
  pub is : answer ≡ begun ++ others
  pub goes_on : (more : List (List ℕ × ℕ)) → IsWidestFirst g (slice_index rest) more → IsWidestFirst g (slice_index flow) (others ++ more)

pub LeavesRest-start : (g : Graph) (flow : List ℕ) (begun : List (List ℕ × ℕ)) → length flow ≡ edge_count g → LeavesRest g flow begun begun flow
LeavesRest-start g flow begun count = record { count = count; others = []; is = sym (append-nil begun); goes_on = λ more first. first }

pub LeavesRest-more : (g : Graph) (flow : List ℕ) (begun answer : List (List ℕ × ℕ)) (rest new p : List ℕ) (width : ℕ) → LeavesRest g flow begun answer rest → length new ≡ length rest → IsWidest g (slice_index rest) p → width ≡ path_width (slice_index rest) p
    → ((e : ℕ) → slice_index new e ≡ rest_after (slice_index rest) p width e) → LeavesRest g flow begun (answer ++ (p, width) ∷ []) new
LeavesRest-more g flow begun answer rest new p width left count widest is after = record {
  count = count ∙ left.count;
  others = left.others ++ (p, width) ∷ [];
  is = ap (λ xs. xs ++ (p, width) ∷ []) left.is ∙ append_assoc begun left.others ((p, width) ∷ []);
  goes_on = λ more first.
      let equal : slice_index new ≡ rest_after (slice_index rest) p width = λ i e. after e i in
      subst (IsWidestFirst g (slice_index flow)) (sym (append_assoc left.others ((p, width) ∷ []) more))
      (left.goes_on ((p, width) ∷ more) (widest, is, subst (λ f. IsWidestFirst g f more) equal first));
}

pub LeavesRest-all : (g : Graph) (flow : List ℕ) (begun answer : List (List ℕ × ℕ)) (rest : List ℕ) → LeavesRest g flow begun answer rest → ((p : List ℕ) → IsPath g p → path_width (slice_index rest) p ≡ 0) → EndsWidestFirst g (slice_index flow) begun answer
LeavesRest-all g flow begun answer rest left none = (left.others, left.is, subst (IsWidestFirst g (slice_index flow)) (append-nil left.others) (left.goes_on [] none))

-- a list that begins with nothing is widest first as a whole
pub IsWidestFirst-whole : (g : Graph) (flow rest : List ℕ) (begun a : List (List ℕ × ℕ)) → begun ≡ [] → rest ≡ flow → EndsWidestFirst g (slice_index rest) begun a → IsWidestFirst g (slice_index flow) a
IsWidestFirst-whole g flow rest begun a none same (others, is, widest) =
    let whole : a ≡ others = is ∙ ap (λ xs. xs ++ others) none in
    subst (IsWidestFirst g (slice_index flow)) (sym whole) (subst (λ r. IsWidestFirst g (slice_index r) others) same widest)

-- the edges of a path are edges, each once, and have its width left
module _ (g : Graph) (p : List ℕ) where
  stands : (k d : ℕ) → k < length p → has_edge p (slice_index_or p k d) ≡ true
  stands k d h = any-from_place (λ e. slice_index_or p k d == e) p d k h (eq-eqb (slice_index_or p k d) (slice_index_or p k d) refl)

  pub path-inside : IsPath g p → All (λ e. e < edge_count g) p
  path-inside path k d h = go p path (stands k d h) where
    go : (q : List ℕ) → IsPath g q → has_edge q (slice_index_or p k d) ≡ true → slice_index_or p k d < edge_count g
    go [] path hit = absurd (both_ways false refl path)
    go (e ∷ es) path hit = walk-inside g (tail g e) (e ∷ es) (slice_index_or p k d) (path-ends g e es path).leads.walk hit

  pub path-once : IsNet g → IsPath g p → AllPairs (λ d e. d ≢ e) p
  path-once net path = AllPairs-from_IsDistinct Decides-eqb p (go p path) where
    go : (q : List ℕ) → IsPath g q → IsDistinct eqb q
    go [] path = absurd (both_ways false refl path)
    go (e ∷ es) path = walk-distinct g net (tail g e) (e ∷ es) (path-ends g e es path).leads.walk

  pub path-enough : (rest : ℕ → ℕ) (width : ℕ) → width ≡ path_width rest p → All (λ e. width ≤ rest e) p
  path-enough rest width is k d h = omega (arith, is, path_width-le rest p (slice_index_or p k d) (stands k d h))
