-- A run books one path, so runs book one list of paths: there is one way back to a source, and one way forth to a sink, by the edges of greatest flow.
use Rattle.std.proofs.Common.{◌≡◌, ℕ, ◌<◌, true, List, [], ◌∷◌, ◌++◌, refl, sym, ap, ap₂, ◌∙◌, subst, append_assoc, arith, inl, inr}
use Rattle.std.specs.Prelude.{IsTrue, reverse}
use Rattle.std.specs.List.{AllByRecursion, list_any, list_all}
use Rattle.std.proofs.lemmas.Bool.{cases_Bool, both_ways}
use Rattle.std.proofs.lemmas.List.{append-nil, reverse-append, reverse-reverse}
use Rattle.decomposition.specs.Graph.{Graph, IsPath, edge_count, tail, head, is_source, is_sink, is_run, is_walk_from, walk_end, contains_run}
use Rattle.decomposition.specs.FirstAnswer.{IsGreatestInto, IsGreatestOutOf, IsBookedPath, Books, IsBooked}
use Rattle.decomposition.proofs.Root.{all-parts}
use Rattle.decomposition.proofs.Walks.{IsStep, walk-cons, walk-left, walk-right, walk_end-append}
use Rattle.decomposition.proofs.Flows.{head-no_source, tail-no_sink}
use Rattle.greedy_paths.specs.Laws.{BookedPathsAreOneList}
use Rattle.greedy_paths.specs.Greatest.{IsAhead}
use Rattle.greedy_paths.proofs.Finding.{path-ends}
use Rattle.greedy_paths.proofs.BookedLists.{books-contained, books-taken}

-- two edges that are ahead of each other are one
ahead-one : (flow : ℕ → ℕ) (e f : ℕ) → IsAhead flow e f → IsAhead flow f e → e ≡ f
ahead-one flow e f (inl less) (inl more) = absurd (omega arith)
ahead-one flow e f (inl less) (inr tie) = absurd (omega (arith, tie.0))
ahead-one flow e f (inr tie) (inl more) = absurd (omega (arith, tie.0))
ahead-one flow e f (inr tie) (inr also) = omega (arith, tie.1, also.1)

module _ (g : Graph) (flow : ℕ → ℕ) where
  -- the edges of greatest flow back from v to a source, last edge first
  abbrev IsWayBack : ℕ → List ℕ → Type 0
  IsWayBack v [] = IsTrue (is_source g v)
  IsWayBack v (e ∷ es) = (e < edge_count g) × (head g e ≡ v) × IsGreatestInto g flow e × IsWayBack (tail g e) es

  way_back-one : (v : ℕ) (es fs : List ℕ) → IsWayBack v es → IsWayBack v fs → es ≡ fs
  way_back-one v [] [] source way = refl
  way_back-one v [] (f ∷ fs) source way = absurd (both_ways _ (head-no_source g f way.0) (subst (λ u. is_source g u ≡ true) (sym way.1) source))
  way_back-one v (e ∷ es) [] way source = absurd (both_ways _ (head-no_source g e way.0) (subst (λ u. is_source g u ≡ true) (sym way.1) source))
  way_back-one v (e ∷ es) (f ∷ fs) way other =
      let same : e ≡ f = ahead-one flow e f (way.2 f other.0 (other.1 ∙ sym way.1)) (other.2 e way.0 (way.1 ∙ sym other.1)) in
      let rest : es ≡ fs = way_back-one (tail g e) es fs way.3 (subst (λ d. IsWayBack (tail g d) fs) (sym same) other.3) in
      let whole : e ∷ es ≡ f ∷ fs = cc in
      whole

  way_back-from : (u : ℕ) (xs more : List ℕ) → IsWayBack u more → is_walk_from g u xs ≡ true → AllByRecursion (IsGreatestInto g flow) xs → IsWayBack (walk_end g u xs) (reverse xs ++ more)
  way_back-from u [] more way walk greatest = way
  way_back-from u (x ∷ xs) more way walk greatest =
      let s : IsStep g u x xs = walk-cons g u x xs walk in
      let whole : reverse (x ∷ xs) ++ more ≡ reverse xs ++ (x ∷ more) = ap (λ l. l ++ more) (reverse-append (x ∷ []) xs) ∙ append_assoc (reverse xs) (x ∷ []) more in
      subst (IsWayBack (walk_end g (head g x) xs)) (sym whole)
      (way_back-from (head g x) xs (x ∷ more) (s.inside, refl, greatest.0, subst (λ w. IsWayBack w more) (sym s.leaves) way) s.rest greatest.1)

  -- the edges of greatest flow forth from v to a sink
  abbrev IsWayForth : ℕ → List ℕ → Type 0
  IsWayForth v [] = IsTrue (is_sink g v)
  IsWayForth v (e ∷ es) = (e < edge_count g) × (tail g e ≡ v) × IsGreatestOutOf g flow e × IsWayForth (head g e) es

  way_forth-one : (v : ℕ) (es fs : List ℕ) → IsWayForth v es → IsWayForth v fs → es ≡ fs
  way_forth-one v [] [] sink way = refl
  way_forth-one v [] (f ∷ fs) sink way = absurd (both_ways _ (tail-no_sink g f way.0) (subst (λ u. is_sink g u ≡ true) (sym way.1) sink))
  way_forth-one v (e ∷ es) [] way sink = absurd (both_ways _ (tail-no_sink g e way.0) (subst (λ u. is_sink g u ≡ true) (sym way.1) sink))
  way_forth-one v (e ∷ es) (f ∷ fs) way other =
      let same : e ≡ f = ahead-one flow e f (way.2 f other.0 (other.1 ∙ sym way.1)) (other.2 e way.0 (way.1 ∙ sym other.1)) in
      let rest : es ≡ fs = way_forth-one (head g e) es fs way.3 (subst (λ d. IsWayForth (head g d) fs) (sym same) other.3) in
      let whole : e ∷ es ≡ f ∷ fs = cc in
      whole

  way_forth-from : (v : ℕ) (es : List ℕ) → is_walk_from g v es ≡ true → is_sink g (walk_end g v es) ≡ true → AllByRecursion (IsGreatestOutOf g flow) es → IsWayForth v es
  way_forth-from v [] walk sink greatest = sink
  way_forth-from v (e ∷ es) walk sink greatest =
      let s : IsStep g v e es = walk-cons g v e es walk in
      (s.inside, s.leaves, greatest.0, way_forth-from (head g e) es s.rest sink greatest.1)

  -- a path is a walk from a source to a sink
  record IsWhole (p : List ℕ) : Type 0 where
    start : ℕ
    source : is_source g start ≡ true
    walk : is_walk_from g start p ≡ true
    sink : is_sink g (walk_end g start p) ≡ true

  IsWhole-path : (p : List ℕ) → IsPath g p → IsWhole p
  IsWhole-path [] path = absurd (both_ways _ refl path)
  IsWhole-path (e ∷ es) path = let ends = path-ends g e es path in record { start = tail g e; source = ends.source; walk = ends.leads.walk; sink = ends.leads.sink }

  -- the ways to and from the run of a booked path
  record AreWays (e : ℕ) (es before after : List ℕ) : Type 0 where
    back : IsWayBack (tail g e) (reverse before)
    forth : IsWayForth (walk_end g (head g e) es) after

  AreWays-booked : (e : ℕ) (es p : List ℕ) (b : IsBookedPath g flow (e ∷ es) p) → AreWays e es b.before b.after
  AreWays-booked e es p b =
      let w : IsWhole (b.before ++ ((e ∷ es) ++ b.after)) = IsWhole-path (b.before ++ ((e ∷ es) ++ b.after)) (subst (IsPath g) b.is b.path) in
      let v : ℕ = walk_end g w.start b.before in
      let rest : is_walk_from g (walk_end g w.start b.before) ((e ∷ es) ++ b.after) ≡ true = walk-right g w.start b.before ((e ∷ es) ++ b.after) w.walk in
      let s = walk-cons g (walk_end g w.start b.before) e (es ++ b.after) rest in
      let back : IsWayBack (walk_end g w.start b.before) (reverse b.before ++ []) = way_back-from w.start b.before [] w.source (walk-left g w.start b.before ((e ∷ es) ++ b.after) w.walk) b.back in
      let ends : walk_end g w.start (b.before ++ ((e ∷ es) ++ b.after)) ≡ walk_end g (walk_end g (head g e) es) b.after
      = walk_end-append g w.start b.before ((e ∷ es) ++ b.after) ∙ walk_end-append g (head g e) es b.after in
      record {
        back = subst (λ u. IsWayBack u (reverse b.before)) (sym s.leaves) (subst (IsWayBack (walk_end g w.start b.before)) (append-nil (reverse b.before)) back);
        forth = way_forth-from (walk_end g (head g e) es) b.after (walk-right g (head g e) es b.after s.rest) (subst (λ u. is_sink g u ≡ true) ends w.sink) b.forth;
      }

  booked_path-one : (e : ℕ) (es p q : List ℕ) → IsBookedPath g flow (e ∷ es) p → IsBookedPath g flow (e ∷ es) q → p ≡ q
  booked_path-one e es p q a b =
      let ways = AreWays-booked e es p a in
      let others = AreWays-booked e es q b in
      let turned : reverse a.before ≡ reverse b.before = way_back-one (tail g e) (reverse a.before) (reverse b.before) ways.back others.back in
      let before : a.before ≡ b.before = sym (reverse-reverse a.before) ∙ (ap reverse turned ∙ reverse-reverse b.before) in
      let after : a.after ≡ b.after = way_forth-one (walk_end g (head g e) es) a.after b.after ways.forth others.forth in
      a.is ∙ (ap₂ (λ (xs ys : List ℕ). xs ++ ((e ∷ es) ++ ys)) before after ∙ sym b.is)

  books-one : (rules booked a b : List (List ℕ)) → list_all (is_run g) rules ≡ true → Books g flow booked rules a → Books g flow booked rules b → a ≡ b
  books-one [] booked a b runs none also = none ∙ sym also
  books-one ([] ∷ rs) booked a b runs left right = absurd (both_ways _ refl (all-parts (is_run g) [] rs runs).0)
  books-one ((e ∷ es) ∷ rs) booked a b runs left right =
      let others = (all-parts (is_run g) (e ∷ es) rs runs).1 in
      elim (cases_Bool (list_any (λ p. contains_run p (e ∷ es)) booked)) [
        | inl hit ↦ books-one rs booked a b others (books-contained g flow booked (e ∷ es) rs a hit left) (books-contained g flow booked (e ∷ es) rs b hit right)
        | inr free ↦
            let (p, more, is, path, books) = books-taken g flow booked (e ∷ es) rs a free left in
            let (q, rest, also, other, tail_books) = books-taken g flow booked (e ∷ es) rs b free right in
            let same : p ≡ q = booked_path-one e es p q path other in
            let equal : more ≡ rest = books-one rs (booked ++ p ∷ []) more rest others books (subst (λ r. Books g flow (booked ++ r ∷ []) rs rest) (sym same) tail_books) in
            is ∙ (ap₂ (λ (r : List ℕ) (ps : List (List ℕ)). r ∷ ps) same equal ∙ sym also)
      ]

pub booked_paths_are_one_list : BookedPathsAreOneList
booked_paths_are_one_list g f h rules a b same runs booked also =
    let equal : f ≡ h = λ i e. same e i in
    books-one g h rules [] a b runs (subst (λ k. IsBooked g k rules a) equal booked) also
