-- The entries of a search, one after the other.
use Rattle.std.proofs.Common.{◌⊎◌, ◌≡◌, ℕ, ◌+◌, ◌-◌, ◌<◌, ◌≤◌, Bool, true, false, not, cond, List, [], ◌∷◌, ◌++◌, length, length-append, Option, None, Some, get_or, slice_set, length-set, refl, sym, ap, subst, ◌∙◌, arith, inl, inr}
use Rattle.std.specs.Prelude.{IsTrue}
use Rattle.std.proofs.Math.ListN.{get_or-append}
use Rattle.std.proofs.Math.Seq.{get_or-append_seam}
use Rattle.std.proofs.lemmas.Bool.{cases_Bool, cases_lt, cases_eq, both_ways, not-true, not_from_false}
use Rattle.std.proofs.lemmas.List.{get_or_read}
use Rattle.decomposition.specs.Graph.{Graph, edge_count, tail, head, is_sink}
use Rattle.decomposition.specs.Answer.{sum_below}
use Rattle.decomposition.proofs.Sums.{sum_below-one, sum_below-nil}
use Rattle.decomposition.proofs.FewPaths.{sum_below-ones, one_or_none}
use Rattle.path_cover.specs.Carrying.{least_flow}
use Rattle.path_cover.specs.Cut.{IsClosed}
use Rattle.dag_net.specs.Marks.{is_set}
use Rattle.dag_net.proofs.Marks.{set-here, set-other, set-below}
use Rattle.dag_net.proofs.EdgesInTurn.{IsFirstAt, AreDone, AreDone-start, AreDone-more}
use Rattle.path_cover.specs.Search.{entry_at, IsStepOver, IsReached, IsSearch, IsBegun, Enters, Grows, IsFollowed, IsVisited, AreSourcesMarked}
use Rattle.path_cover.specs.declared.search.Reached.{Reached}

-- what is read at a place
pub entry-read : (entries : List Reached) (k : ℕ) (r : Reached) → k < length entries → r ≡ get_or entries k r → r.vertex ≡ (entry_at entries k).vertex
entry-read entries k r h read = ap (λ (x : Reached). x.vertex) (get_or_read entries k r h read (record { vertex = 0; way = None }))

pub way-read : (entries : List Reached) (k : ℕ) (r : Reached) (way : Option (ℕ × ℕ)) → k < length entries → r ≡ get_or entries k r → r.way ≡ way → (entry_at entries k).way ≡ way
way-read entries k r way h read is = sym (ap (λ (x : Reached). x.way) (get_or_read entries k r h read (record { vertex = 0; way = None }))) ∙ is

pub Grows-same : (entries : List Reached) (marked : List Bool) → Grows entries marked entries marked
Grows-same entries marked = record { longer = omega arith; same = λ k h. refl; marks = λ v h. h }

pub Grows-trans : (a : List Reached) (am : List Bool) (b : List Reached) (bm : List Bool) (c : List Reached) (cm : List Bool) → Grows a am b bm → Grows b bm c cm → Grows a am c cm
Grows-trans a am b bm c cm first second = record {
  longer = let x : length a ≤ length b = first.longer in let y : length b ≤ length c = second.longer in omega arith;
  same = λ k h. let x : length a ≤ length b = first.longer in second.same k (omega arith) ∙ first.same k h;
  marks = λ v h. second.marks v (first.marks v h);
}

module _ (g : Graph) (needed : ℕ → Bool) (flow : ℕ → ℕ) where
  module _ (entries : List Reached) (marked : List Bool) (r : Reached) where
    old-entry : (k : ℕ) → k < length entries → entry_at (entries ++ r ∷ []) k ≡ entry_at entries k
    old-entry k h = get_or-append entries (r ∷ []) (record { vertex = 0; way = None }) k h

    new-entry : entry_at (entries ++ r ∷ []) (length entries) ≡ r
    new-entry = get_or-append_seam entries r [] (record { vertex = 0; way = None })

    grown : (k v : ℕ) (way : Option (ℕ × ℕ)) → k ≤ length entries → IsReached g needed flow entries k v way → IsReached g needed flow (entries ++ r ∷ []) k v way
    grown k v None h is = is
    grown k v (Some s) h is =
        let lt : s.1 < k = is.earlier in
        let same : entry_at entries s.1 ≡ entry_at (entries ++ r ∷ []) s.1 = sym (old-entry s.1 (omega arith)) in
        record {
          edge = is.edge;
          earlier = is.earlier;
          goes_on = subst (λ (x : Reached). IsTrue (not (is_sink g x.vertex))) same is.goes_on;
          step = subst (λ (x : Reached). IsStepOver g needed flow s.0 x.vertex v) same is.step;
        }

    -- the place of an entry: an old one, or the new one
    places : (k : ℕ) → k < length (entries ++ r ∷ []) → (k < length entries) ⊎ (k ≡ length entries)
    places k h = elim (cases_lt k (length entries)) [ inl lt ↦ inl lt | inr ge ↦ inr (omega (arith, length-append entries (r ∷ []))) ]

    -- one entry more
    pub IsSearch-more : IsSearch g needed flow entries marked → r.vertex < g.vertices → is_set marked r.vertex ≡ false → IsReached g needed flow entries (length entries) r.vertex r.way
        → IsSearch g needed flow (entries ++ r ∷ []) (slice_set marked r.vertex true)
    IsSearch-more s there free is = record {
      count = length-set marked r.vertex true ∙ s.count;
      reached = λ k h. elim (places k h) [
        | inl lt ↦
            subst (λ (x : Reached). IsReached g needed flow (entries ++ r ∷ []) k x.vertex x.way) (sym (old-entry k lt))
            (grown k (entry_at entries k).vertex (entry_at entries k).way (omega arith) (s.reached k lt))
        | inr last ↦
            subst (λ n. IsReached g needed flow (entries ++ r ∷ []) n (entry_at (entries ++ r ∷ []) n).vertex (entry_at (entries ++ r ∷ []) n).way) (sym last)
            (subst (λ (x : Reached). IsReached g needed flow (entries ++ r ∷ []) (length entries) x.vertex x.way) (sym new-entry)
            (grown (length entries) r.vertex r.way (omega arith) is))
      ];
      distinct = λ j k lt h same. elim (places k h) [
        | inl old ↦ s.distinct j k lt old (ap (λ (x : Reached). x.vertex) (sym (old-entry j (omega arith))) ∙ same ∙ ap (λ (x : Reached). x.vertex) (old-entry k old))
        | inr last ↦
            let below : j < length entries = omega arith in
            let equal : (entry_at entries j).vertex ≡ r.vertex
            = ap (λ (x : Reached). x.vertex) (sym (old-entry j below)) ∙ same ∙ ap (λ n. (entry_at (entries ++ r ∷ []) n).vertex) last ∙ ap (λ (x : Reached). x.vertex) new-entry in
            both_ways _ free (subst (λ v. is_set marked v ≡ true) equal (s.marks j below))
      ];
      marks = λ k h. elim (places k h) [
        | inl lt ↦ kept (entry_at (entries ++ r ∷ []) k).vertex (subst (λ (x : Reached). is_set marked x.vertex ≡ true) (sym (old-entry k lt)) (s.marks k lt))
        | inr last ↦
            subst (λ n. is_set (slice_set marked r.vertex true) (entry_at (entries ++ r ∷ []) n).vertex ≡ true) (sym last)
            (subst (λ (x : Reached). is_set (slice_set marked r.vertex true) x.vertex ≡ true) (sym new-entry) here)
      ];
      listed = λ v h. elim (cases_eq v r.vertex) [
        | inl same ↦ (length entries, omega (arith, length-append entries (r ∷ [])), ap (λ (x : Reached). x.vertex) new-entry ∙ sym same)
        | inr other ↦
            let at = s.listed v (sym (set-other marked r.vertex v other) ∙ h) in
            let lt : at.0 < length entries = at.1 in
            (at.0, omega (arith, length-append entries (r ∷ [])), ap (λ (x : Reached). x.vertex) (old-entry at.0 lt) ∙ at.2)
      ];
      size = let was : sum_below (λ v. cond (is_set marked v) 1 0) g.vertices ≡ length entries = s.size in
          omega (
            arith,
            length-append entries (r ∷ []),
            sum_below-one (λ v. cond (is_set (slice_set marked r.vertex true) v) 1 0) (λ v. cond (is_set marked v) 1 0) 1 r.vertex g.vertices there (rw (here, free) refl)
                (λ v other. ap (λ b. cond b 1 0) (set-other marked r.vertex v other)),
          );
    } where
      here : is_set (slice_set marked r.vertex true) r.vertex ≡ true
      here = let same : length marked ≡ g.vertices = s.count in set-here marked r.vertex (omega arith)

      kept : (v : ℕ) → is_set marked v ≡ true → is_set (slice_set marked r.vertex true) v ≡ true
      kept v h = elim (cases_eq v r.vertex) [ inl same ↦ subst (λ u. is_set (slice_set marked r.vertex true) u ≡ true) (sym same) here | inr other ↦ set-other marked r.vertex v other ∙ h ]

    pub Grows-more : length marked ≡ g.vertices → r.vertex < g.vertices → Grows entries marked (entries ++ r ∷ []) (slice_set marked r.vertex true)
    Grows-more count there = record {
      longer = omega (arith, length-append entries (r ∷ []));
      same = old-entry;
      marks = λ v h. elim (cases_eq v r.vertex) [
        | inl same ↦ subst (λ u. is_set (slice_set marked r.vertex true) u ≡ true) (sym same) (set-here marked r.vertex (omega arith))
        | inr other ↦ set-other marked r.vertex v other ∙ h
      ];
    }

    -- after a vertex was entered, if it was not there
    pub record IsEntered (new : List Reached) (new_marked : List Bool) : Type 0 where
      pub search : IsSearch g needed flow new new_marked
      pub grows : Grows entries marked new new_marked
      pub there : is_set new_marked r.vertex ≡ true

    pub IsEntered-from : (new : List Reached) (new_marked : List Bool) → IsSearch g needed flow entries marked → r.vertex < g.vertices → IsReached g needed flow entries (length entries) r.vertex r.way
        → Enters entries marked r new new_marked → IsEntered new new_marked
    IsEntered-from new new_marked s there is enters =
        let new_is : new ≡ cond (is_set marked r.vertex) entries (entries ++ r ∷ []) = enters.entries in
        let marked_is : new_marked ≡ cond (is_set marked r.vertex) marked (slice_set marked r.vertex true) = enters.marked in
        elim (cases_Bool (is_set marked r.vertex)) [
          | inl old ↦
              let e : new ≡ entries = rw old at new_is in
              let m : new_marked ≡ marked = rw old at marked_is in
              rw (e, m) (record { search = s; grows = Grows-same entries marked; there = old })
          | inr free ↦
              let e : new ≡ entries ++ r ∷ [] = rw free at new_is in
              let m : new_marked ≡ slice_set marked r.vertex true = rw free at marked_is in
              let count : length marked ≡ g.vertices = s.count in
              rw (e, m) (record { search = IsSearch-more s there free is; grows = Grows-more s.count there; there = set-here marked r.vertex (omega arith) })
        ]

  -- no search has more entries than there are vertices
  pub IsSearch-few : (entries : List Reached) (marked : List Bool) → IsSearch g needed flow entries marked → length entries ≤ g.vertices
  IsSearch-few entries marked s =
      let size : sum_below (λ v. cond (is_set marked v) 1 0) g.vertices ≡ length entries = s.size in
      omega (arith, sum_below-ones (λ v. cond (is_set marked v) 1 0) g.vertices (λ v. one_or_none (is_set marked v)))

  pub IsFollowed-grown : (a : List Reached) (am : List Bool) (b : List Reached) (bm : List Bool) (v e : ℕ) → Grows a am b bm → IsFollowed g needed flow am v e → IsFollowed g needed flow bm v e
  IsFollowed-grown a am b bm v e grows f = record { along = λ at spare. grows.marks (head g e) (f.along at spare); against = λ at. grows.marks (tail g e) (f.against at) }

  -- all entries are visited, and none is a sink: the marked vertices are a closed set
  pub IsClosed-visited : (entries : List Reached) (marked : List Bool) → IsSearch g needed flow entries marked → AreSourcesMarked g (edge_count g) marked
      → ((k : ℕ) → k < length entries → IsVisited g needed flow marked (entry_at entries k).vertex) → ((k : ℕ) → k < length entries → is_sink g (entry_at entries k).vertex ≡ false)
      → IsClosed g needed flow (is_set marked)
  IsClosed-visited entries marked s sources visited none = record {
    sources = sources;
    sinks = λ e h sink. elim (cases_Bool (is_set marked (head g e))) [
      | inl came ↦ let at = s.listed (head g e) came in absurd (both_ways _ (none at.0 at.1) (subst (λ v. is_sink g v ≡ true) (sym at.2) sink))
      | inr free ↦ not_from_false _ free
    ];
    onward = λ e h from out. elim (cases_lt (least_flow needed e) (flow e)) [
      | inl spare ↦ let at = s.listed (tail g e) from in absurd (both_ways _ (not-true _ out) ((visited at.0 at.1 e h).along (sym at.2) spare))
      | inr tight ↦ tight
    ];
    back = λ e h came. let at = s.listed (head g e) came in (visited at.0 at.1 e h).against (sym at.2);
  }

-- the edges with one end at v are followed, up to the one at hand
pub record Follows (g : Graph) (needed : ℕ → Bool) (flow : ℕ → ℕ) (end : ℕ → ℕ) (v : ℕ) (old : List Reached) (old_marked : List Bool) (entries : List Reached) (marked : List Bool) (out : Option ℕ) : Type 0 where
  pub search : IsSearch g needed flow entries marked
  pub grows : Grows old old_marked entries marked
  pub done : AreDone (edge_count g) end v (IsFollowed g needed flow marked v) out

-- the first k entries are visited, and none of them is a sink
pub record Runs (g : Graph) (needed : ℕ → Bool) (flow : ℕ → ℕ) (entries : List Reached) (marked : List Bool) (k : ℕ) : Type 0 where
  pub search : IsSearch g needed flow entries marked
  pub sources : AreSourcesMarked g (edge_count g) marked
  pub within : k ≤ length entries
  pub visited : (j : ℕ) → j < k → IsVisited g needed flow marked (entry_at entries j).vertex
  pub none : (j : ℕ) → j < k → is_sink g (entry_at entries j).vertex ≡ false

module _ (g : Graph) (needed : ℕ → Bool) (flow : ℕ → ℕ) where
  pub Follows-start : (end : ℕ → ℕ) (v : ℕ) (entries : List Reached) (marked : List Bool) (out : Option ℕ) → IsSearch g needed flow entries marked → IsFirstAt (edge_count g) end v 0 out
      → Follows g needed flow end v entries marked entries marked out
  Follows-start end v entries marked out s first = record {
    search = s;
    grows = Grows-same entries marked;
    done = AreDone-start (edge_count g) end v (IsFollowed g needed flow marked v) out first;
  }

  pub Follows-more : (end : ℕ → ℕ) (v : ℕ) (old : List Reached) (old_marked : List Bool) (entries : List Reached) (marked : List Bool) (e : ℕ) (new : List Reached) (new_marked : List Bool) (out : Option ℕ)
      → Follows g needed flow end v old old_marked entries marked (Some e) → IsSearch g needed flow new new_marked → Grows entries marked new new_marked → IsFollowed g needed flow new_marked v e
      → IsFirstAt (edge_count g) end v (e + 1) out → Follows g needed flow end v old old_marked new new_marked out
  Follows-more end v old old_marked entries marked e new new_marked out f s grows here next = record {
    search = s;
    grows = Grows-trans old old_marked entries marked new new_marked f.grows grows;
    done = AreDone-more (edge_count g) end v (IsFollowed g needed flow marked v) (IsFollowed g needed flow new_marked v) e out f.done
        (λ d is. IsFollowed-grown g needed flow entries marked new new_marked v d grows is) here next;
  }

  pub IsVisited-from : (old : List Reached) (old_marked : List Bool) (new : List Reached) (new_marked : List Bool) (v : ℕ) → Grows old old_marked new new_marked
      → ((e : ℕ) → e < edge_count g → tail g e ≡ v → IsFollowed g needed flow old_marked v e) → ((e : ℕ) → e < edge_count g → head g e ≡ v → IsFollowed g needed flow new_marked v e)
      → IsVisited g needed flow new_marked v
  IsVisited-from old old_marked new new_marked v grows leaving entering e h = record {
    along = λ at spare. grows.marks (head g e) ((leaving e h at).along at spare);
    against = λ at. (entering e h at).against at;
  }

  pub Runs-more : (old : List Reached) (old_marked : List Bool) (new : List Reached) (new_marked : List Bool) (k : ℕ) → Runs g needed flow old old_marked k → k < length old → is_sink g (entry_at old k).vertex ≡ false
      → IsSearch g needed flow new new_marked → Grows old old_marked new new_marked → IsVisited g needed flow new_marked (entry_at old k).vertex → Runs g needed flow new new_marked (k + 1)
  Runs-more old old_marked new new_marked k r there no_sink s grows here = record {
    search = s;
    sources = λ e h source. grows.marks (tail g e) (r.sources e h source);
    within = let x : length old ≤ length new = grows.longer in omega arith;
    visited = λ j h. elim (cases_eq j k) [
      | inl same ↦ at j (omega arith) (subst (λ n. IsVisited g needed flow new_marked (entry_at old n).vertex) (sym same) here)
      | inr other ↦ at j (omega arith) (λ e l. IsFollowed-grown g needed flow old old_marked new new_marked (entry_at old j).vertex e grows (r.visited j (omega arith) e l))
    ];
    none = λ j h. elim (cases_eq j k) [
      | inl same ↦ subst (λ (x : Reached). is_sink g x.vertex ≡ false) (sym (grows.same j (omega arith))) (subst (λ n. is_sink g (entry_at old n).vertex ≡ false) (sym same) no_sink)
      | inr other ↦ subst (λ (x : Reached). is_sink g x.vertex ≡ false) (sym (grows.same j (omega arith))) (r.none j (omega arith))
    ];
  } where
    at : (j : ℕ) → j < length old → IsVisited g needed flow new_marked (entry_at old j).vertex → IsVisited g needed flow new_marked (entry_at new j).vertex
    at j h is = subst (λ (x : Reached). IsVisited g needed flow new_marked x.vertex) (sym (grows.same j h)) is

  pub Runs-all : (entries : List Reached) (marked : List Bool) (k : ℕ) → Runs g needed flow entries marked k → length entries ≤ k → IsClosed g needed flow (is_set marked)
  Runs-all entries marked k r all =
      IsClosed-visited g needed flow entries marked r.search r.sources (λ j h. r.visited j (omega arith)) (λ j h. r.none j (omega arith))

  pub vertex-below : (entries : List Reached) (marked : List Bool) (k : ℕ) → IsSearch g needed flow entries marked → k < length entries → (entry_at entries k).vertex < g.vertices
  vertex-below entries marked k s h = let count : length marked ≡ g.vertices = s.count in omega (arith, set-below marked (entry_at entries k).vertex (s.marks k h))

pub IsBegun-empty : (g : Graph) (marked : List Bool) → length marked ≡ g.vertices → ((v : ℕ) → is_set marked v ≡ false) → IsBegun g [] marked
IsBegun-empty g marked count none needed flow = record {
  count = count;
  reached = λ k h. absurd (omega arith);
  distinct = λ j k lt h. absurd (omega arith);
  marks = λ k h. absurd (omega arith);
  listed = λ v h. absurd (both_ways _ (none v) h);
  size = sum_below-nil (λ v. cond (is_set marked v) 1 0) g.vertices (λ v h. rw (none v) refl);
}
