-- The entries of a search, one after the other.
use Rattle.std.proofs.Common.{◌⊎◌, ◌≡◌, ℕ, ◌+◌, ◌<◌, ◌≤◌, Bool, true, false, cond, List, [], ◌∷◌, ◌++◌, length, length-append, Option, None, Some, get_or, slice_set, length-set, refl, sym, ap, subst, ◌∙◌, arith, inl, inr}
use Rattle.std.proofs.Math.ListN.{get_or-append}
use Rattle.std.proofs.Math.Seq.{get_or-append_seam}
use Rattle.std.proofs.lemmas.Bool.{cases_Bool, cases_lt, cases_eq, both_ways, not-true}
use Rattle.std.proofs.lemmas.List.{get_or_read}
use Rattle.decomposition.specs.Answer.{sum_below}
use Rattle.decomposition.proofs.Sums.{sum_below-one, sum_below-nil}
use Rattle.decomposition.proofs.FewPaths.{sum_below-ones, one_or_none}
use Rattle.lower_flow.specs.Residual.{Residual}
use Rattle.dag_net.specs.Marks.{is_set}
use Rattle.dag_net.proofs.Marks.{set-here, set-other, set-below}
use Rattle.dag_net.proofs.EdgesInTurn.{IsFirstAt, AreDone, AreDone-start, AreDone-more}
use Rattle.lower_flow.specs.Search.{entry_at, IsStepOver, IsReached, IsSearch, Enters, Grows, IsFollowed, IsVisited, AreStarted, IsClosed}
use Rattle.lower_flow.specs.declared.search.Reached.{Reached}

-- what is read at a place
pub entry-read : (entries : List Reached) (k : ℕ) (x : Reached) → k < length entries → x ≡ get_or entries k x → x ≡ entry_at entries k
entry-read entries k x h read = get_or_read entries k x h read (record { vertex = 0; room = 0; way = None })

Grows-same : (entries : List Reached) (marked : List Bool) → Grows entries marked entries marked
Grows-same entries marked = record { longer = omega arith; same = λ k h. refl; marks = λ v h. h }

Grows-trans : (a : List Reached) (am : List Bool) (b : List Reached) (bm : List Bool) (c : List Reached) (cm : List Bool) → Grows a am b bm → Grows b bm c cm → Grows a am c cm
Grows-trans a am b bm c cm first second = record {
  longer = let x : length a ≤ length b = first.longer in let y : length b ≤ length c = second.longer in omega arith;
  same = λ k h. let x : length a ≤ length b = first.longer in second.same k (omega arith) ∙ first.same k h;
  marks = λ v h. second.marks v (first.marks v h);
}

module _ (r : Residual) (entries : List Reached) (marked : List Bool) (x : Reached) where
  old-entry : (k : ℕ) → k < length entries → entry_at (entries ++ x ∷ []) k ≡ entry_at entries k
  old-entry k h = get_or-append entries (x ∷ []) (record { vertex = 0; room = 0; way = None }) k h

  new-entry : entry_at (entries ++ x ∷ []) (length entries) ≡ x
  new-entry = get_or-append_seam entries x [] (record { vertex = 0; room = 0; way = None })

  grown : (k v room : ℕ) (way : Option (ℕ × ℕ)) → k ≤ length entries → IsReached r entries k v room way → IsReached r (entries ++ x ∷ []) k v room way
  grown k v room None h is = is
  grown k v room (Some s) h is =
      let lt : s.1 < k = is.earlier in
      let same : entry_at entries s.1 ≡ entry_at (entries ++ x ∷ []) s.1 = sym (old-entry s.1 (omega arith)) in
      record {
        edge = is.edge;
        earlier = is.earlier;
        step = subst (λ (y : Reached). (wide : ℕ) × IsStepOver r s.0 y.vertex v wide × (room ≤ wide)) same is.step;
        less = subst (λ (y : Reached). room ≤ y.room) same is.less;
      }

  -- the place of an entry: an old one, or the new one
  places : (k : ℕ) → k < length (entries ++ x ∷ []) → (k < length entries) ⊎ (k ≡ length entries)
  places k h = elim (cases_lt k (length entries)) [ inl lt ↦ inl lt | inr ge ↦ inr (omega (arith, length-append entries (x ∷ []))) ]

  -- what holds of the old entries and of the new one
  each : (P : ℕ → Reached → Type 0) → ((k : ℕ) → k < length entries → P k (entry_at entries k)) → P (length entries) x → (k : ℕ) → k < length (entries ++ x ∷ []) → P k (entry_at (entries ++ x ∷ []) k)
  each P old new k h =
      elim (places k h) [
        | inl lt ↦ subst (P k) (sym (old-entry k lt)) (old k lt)
        | inr last ↦ subst (λ n. P n (entry_at (entries ++ x ∷ []) n)) (sym last) (subst (P (length entries)) (sym new-entry) new)
      ]

  -- one entry more
  IsSearch-more : IsSearch r entries marked → x.vertex < r.vertices → is_set marked x.vertex ≡ false → 0 < x.room → IsReached r entries (length entries) x.vertex x.room x.way
      → IsSearch r (entries ++ x ∷ []) (slice_set marked x.vertex true)
  IsSearch-more s there free room is = record {
    count = length-set marked x.vertex true ∙ s.count;
    reached = each (λ k y. IsReached r (entries ++ x ∷ []) k y.vertex y.room y.way)
        (λ k h. grown k (entry_at entries k).vertex (entry_at entries k).room (entry_at entries k).way (omega arith) (s.reached k h))
        (grown (length entries) x.vertex x.room x.way (omega arith) is);
    positive = each (λ k y. 0 < y.room) s.positive room;
    distinct = λ j k lt h same. elim (places k h) [
      | inl old ↦ s.distinct j k lt old (ap (λ (y : Reached). y.vertex) (sym (old-entry j (omega arith))) ∙ same ∙ ap (λ (y : Reached). y.vertex) (old-entry k old))
      | inr last ↦
          let below : j < length entries = omega arith in
          let equal : (entry_at entries j).vertex ≡ x.vertex
          = ap (λ (y : Reached). y.vertex) (sym (old-entry j below)) ∙ same ∙ ap (λ n. (entry_at (entries ++ x ∷ []) n).vertex) last ∙ ap (λ (y : Reached). y.vertex) new-entry in
          both_ways _ free (subst (λ v. is_set marked v ≡ true) equal (s.marks j below))
    ];
    marks = each (λ k y. is_set (slice_set marked x.vertex true) y.vertex ≡ true) (λ k h. kept (entry_at entries k).vertex (s.marks k h)) here;
    listed = λ v h. elim (cases_eq v x.vertex) [
      | inl same ↦ (length entries, omega (arith, length-append entries (x ∷ [])), ap (λ (y : Reached). y.vertex) new-entry ∙ sym same)
      | inr other ↦
          let at = s.listed v (sym (set-other marked x.vertex v other) ∙ h) in
          let lt : at.0 < length entries = at.1 in
          (at.0, omega (arith, length-append entries (x ∷ [])), ap (λ (y : Reached). y.vertex) (old-entry at.0 lt) ∙ at.2)
    ];
    size = let was : sum_below (λ v. cond (is_set marked v) 1 0) r.vertices ≡ length entries = s.size in
        omega (
          arith,
          length-append entries (x ∷ []),
          sum_below-one (λ v. cond (is_set (slice_set marked x.vertex true) v) 1 0) (λ v. cond (is_set marked v) 1 0) 1 x.vertex r.vertices there (rw (here, free) refl)
              (λ v other. ap (λ b. cond b 1 0) (set-other marked x.vertex v other)),
        );
  } where
    here : is_set (slice_set marked x.vertex true) x.vertex ≡ true
    here = let same : length marked ≡ r.vertices = s.count in set-here marked x.vertex (omega arith)

    kept : (v : ℕ) → is_set marked v ≡ true → is_set (slice_set marked x.vertex true) v ≡ true
    kept v h = elim (cases_eq v x.vertex) [ inl same ↦ subst (λ u. is_set (slice_set marked x.vertex true) u ≡ true) (sym same) here | inr other ↦ set-other marked x.vertex v other ∙ h ]

  Grows-more : length marked ≡ r.vertices → x.vertex < r.vertices → Grows entries marked (entries ++ x ∷ []) (slice_set marked x.vertex true)
  Grows-more count there = record {
    longer = omega (arith, length-append entries (x ∷ []));
    same = old-entry;
    marks = λ v h. elim (cases_eq v x.vertex) [
      | inl same ↦ subst (λ u. is_set (slice_set marked x.vertex true) u ≡ true) (sym same) (set-here marked x.vertex (omega arith))
      | inr other ↦ set-other marked x.vertex v other ∙ h
    ];
  }

  -- after a vertex was entered, if it was not there
  pub record IsEntered (new : List Reached) (new_marked : List Bool) : Type 0 where
    pub search : IsSearch r new new_marked
    pub grows : Grows entries marked new new_marked
    pub there : is_set new_marked x.vertex ≡ true

  pub IsEntered-from : (new : List Reached) (new_marked : List Bool) → IsSearch r entries marked → x.vertex < r.vertices → 0 < x.room → IsReached r entries (length entries) x.vertex x.room x.way
      → Enters entries marked x new new_marked → IsEntered new new_marked
  IsEntered-from new new_marked s there room is enters =
      let new_is : new ≡ cond (is_set marked x.vertex) entries (entries ++ x ∷ []) = enters.entries in
      let marked_is : new_marked ≡ cond (is_set marked x.vertex) marked (slice_set marked x.vertex true) = enters.marked in
      elim (cases_Bool (is_set marked x.vertex)) [
        | inl old ↦
            let e : new ≡ entries = rw old at new_is in
            let m : new_marked ≡ marked = rw old at marked_is in
            rw (e, m) (record { search = s; grows = Grows-same entries marked; there = old })
        | inr free ↦
            let e : new ≡ entries ++ x ∷ [] = rw free at new_is in
            let m : new_marked ≡ slice_set marked x.vertex true = rw free at marked_is in
            let count : length marked ≡ r.vertices = s.count in
            rw (e, m) (record { search = IsSearch-more s there free room is; grows = Grows-more s.count there; there = set-here marked x.vertex (omega arith) })
      ]

module _ (r : Residual) where
  -- no search has more entries than there are vertices
  pub IsSearch-few : (entries : List Reached) (marked : List Bool) → IsSearch r entries marked → length entries ≤ r.vertices
  IsSearch-few entries marked s =
      let size : sum_below (λ v. cond (is_set marked v) 1 0) r.vertices ≡ length entries = s.size in
      omega (arith, sum_below-ones (λ v. cond (is_set marked v) 1 0) r.vertices (λ v. one_or_none (is_set marked v)))

  pub vertex-below : (entries : List Reached) (marked : List Bool) (k : ℕ) → IsSearch r entries marked → k < length entries → (entry_at entries k).vertex < r.vertices
  vertex-below entries marked k s h = let count : length marked ≡ r.vertices = s.count in omega (arith, set-below marked (entry_at entries k).vertex (s.marks k h))

  -- the first entry has too much
  pub first-starts : (entries : List Reached) (marked : List Bool) → IsSearch r entries marked → 0 < length entries → 0 < r.surplus (entry_at entries 0).vertex
  first-starts entries marked s h = go (entry_at entries 0).way (s.reached 0 h) where
    go : (way : Option (ℕ × ℕ)) → IsReached r entries 0 (entry_at entries 0).vertex (entry_at entries 0).room way → 0 < r.surplus (entry_at entries 0).vertex
    go None most = omega (arith, s.positive 0 h)
    go (Some step) from = let lt : step.1 < 0 = from.earlier in absurd (omega arith)

  -- the vertex that is read at a place
  pub read-below : (entries : List Reached) (marked : List Bool) (k : ℕ) (x : Reached) → IsSearch r entries marked → k < length entries → x ≡ get_or entries k x → x.vertex < r.vertices
  read-below entries marked k x s h read = subst (λ (y : Reached). y.vertex < r.vertices) (sym (entry-read entries k x h read)) (vertex-below entries marked k s h)

  IsFollowed-grown : (a : List Reached) (am : List Bool) (b : List Reached) (bm : List Bool) (v e : ℕ) → Grows a am b bm → IsFollowed r am v e → IsFollowed r bm v e
  IsFollowed-grown a am b bm v e grows f = record { onward = λ at room. grows.marks (r.far e) (f.onward at room); back = λ at room. grows.marks (r.near e) (f.back at room) }

  -- the edge is followed once the vertex to which the step leads is marked, or the step has no room
  pub IsFollowed-step : (marked : List Bool) (u v e room : ℕ) → is_set marked u ≡ true → IsStepOver r e u v room → (0 < room → is_set marked v ≡ true) → IsFollowed r marked u e
  IsFollowed-step marked u v e room own (inl onward) there = record {
    onward = λ at more. let wide : room ≡ r.above e = onward.2 in subst (λ w. is_set marked w ≡ true) (sym onward.1) (there (omega arith));
    back = λ at more. subst (λ w. is_set marked w ≡ true) (sym onward.0) own;
  }
  IsFollowed-step marked u v e room own (inr back) there = record {
    onward = λ at more. subst (λ w. is_set marked w ≡ true) (sym back.0) own;
    back = λ at more. let wide : room ≡ r.below e = back.2 in subst (λ w. is_set marked w ≡ true) (sym back.1) (there (omega arith));
  }

  -- all entries are visited, and no vertex of theirs takes up anything: the marked vertices are a closed set
  IsClosed-visited : (entries : List Reached) (marked : List Bool) → IsSearch r entries marked → AreStarted r r.vertices marked → ((k : ℕ) → k < length entries → IsVisited r marked (entry_at entries k).vertex)
      → ((k : ℕ) → k < length entries → r.lack (entry_at entries k).vertex ≡ 0) → IsClosed r (is_set marked)
  IsClosed-visited entries marked s started visited none = record {
    started = started;
    full = λ v h came. let at = s.listed v came in subst (λ u. r.lack u ≡ 0) at.2 (none at.0 at.1);
    onward = λ e h from out. elim (cases_lt 0 (r.above e)) [
      | inl more ↦ let at = s.listed (r.near e) from in absurd (both_ways _ (not-true _ out) ((visited at.0 at.1 e h).onward (sym at.2) more))
      | inr full ↦ omega arith
    ];
    back = λ e h from out. elim (cases_lt 0 (r.below e)) [
      | inl more ↦ let at = s.listed (r.far e) from in absurd (both_ways _ (not-true _ out) ((visited at.0 at.1 e h).back (sym at.2) more))
      | inr full ↦ omega arith
    ];
  }

-- the edges with one end at v are followed, up to the one at hand
pub record Follows (r : Residual) (end : ℕ → ℕ) (v : ℕ) (old : List Reached) (old_marked : List Bool) (entries : List Reached) (marked : List Bool) (out : Option ℕ) : Type 0 where
  pub search : IsSearch r entries marked
  pub grows : Grows old old_marked entries marked
  pub done : AreDone r.edges end v (IsFollowed r marked v) out

-- the first k entries are visited, and the vertices of none of them take up anything
pub record Runs (r : Residual) (entries : List Reached) (marked : List Bool) (k : ℕ) : Type 0 where
  pub search : IsSearch r entries marked
  pub started : AreStarted r r.vertices marked
  pub within : k ≤ length entries
  pub visited : (j : ℕ) → j < k → IsVisited r marked (entry_at entries j).vertex
  pub none : (j : ℕ) → j < k → r.lack (entry_at entries j).vertex ≡ 0

module _ (r : Residual) where
  pub Follows-start : (end : ℕ → ℕ) (v : ℕ) (entries : List Reached) (marked : List Bool) (out : Option ℕ) → IsSearch r entries marked → IsFirstAt r.edges end v 0 out → Follows r end v entries marked entries marked out
  Follows-start end v entries marked out s first = record { search = s; grows = Grows-same entries marked; done = AreDone-start r.edges end v (IsFollowed r marked v) out first }

  pub Follows-more : (end : ℕ → ℕ) (v : ℕ) (old : List Reached) (old_marked : List Bool) (entries : List Reached) (marked : List Bool) (e : ℕ) (new : List Reached) (new_marked : List Bool) (out : Option ℕ)
      → Follows r end v old old_marked entries marked (Some e) → IsSearch r new new_marked → Grows entries marked new new_marked → IsFollowed r new_marked v e → IsFirstAt r.edges end v (e + 1) out
      → Follows r end v old old_marked new new_marked out
  Follows-more end v old old_marked entries marked e new new_marked out f s grows here next = record {
    search = s;
    grows = Grows-trans old old_marked entries marked new new_marked f.grows grows;
    done = AreDone-more r.edges end v (IsFollowed r marked v) (IsFollowed r new_marked v) e out f.done (λ d is. IsFollowed-grown r entries marked new new_marked v d grows is) here next;
  }

  -- an edge that is followed as one of those at its tail or of those at its head is followed
  pub IsVisited-from : (tail head : ℕ → ℕ) (old : List Reached) (old_marked : List Bool) (new : List Reached) (new_marked : List Bool) (v : ℕ) → Grows old old_marked new new_marked
      → ((e : ℕ) → e < r.edges → tail e ≡ v → IsFollowed r old_marked v e) → ((e : ℕ) → e < r.edges → head e ≡ v → IsFollowed r new_marked v e)
      → ((e : ℕ) → ((r.near e ≡ tail e) × (r.far e ≡ head e)) ⊎ ((r.near e ≡ head e) × (r.far e ≡ tail e))) → IsVisited r new_marked v
  IsVisited-from tail head old old_marked new new_marked v grows leaving entering ends e h =
      let by_tail : tail e ≡ v → IsFollowed r new_marked v e = λ at. IsFollowed-grown r old old_marked new new_marked v e grows (leaving e h at) in
      elim (ends e) [
        | inl same ↦ record { onward = λ at. (by_tail (sym same.0 ∙ at)).onward at; back = λ at. (entering e h (sym same.1 ∙ at)).back at }
        | inr same ↦ record { onward = λ at. (entering e h (sym same.0 ∙ at)).onward at; back = λ at. (by_tail (sym same.1 ∙ at)).back at }
      ]

  pub Runs-more : (old : List Reached) (old_marked : List Bool) (new : List Reached) (new_marked : List Bool) (k : ℕ) → Runs r old old_marked k → k < length old → r.lack (entry_at old k).vertex ≡ 0
      → IsSearch r new new_marked → Grows old old_marked new new_marked → IsVisited r new_marked (entry_at old k).vertex → Runs r new new_marked (k + 1)
  Runs-more old old_marked new new_marked k runs there full s grows here = record {
    search = s;
    started = λ v h much. grows.marks v (runs.started v h much);
    within = let x : length old ≤ length new = grows.longer in omega arith;
    visited = λ j h. at (λ (x : Reached). IsVisited r new_marked x.vertex) here
        (λ i l e m. IsFollowed-grown r old old_marked new new_marked (entry_at old i).vertex e grows (runs.visited i l e m)) j h;
    none = λ j h. at (λ (x : Reached). r.lack x.vertex ≡ 0) full runs.none j h;
  } where
    at : (P : Reached → Type 0) → P (entry_at old k) → ((i : ℕ) → i < k → P (entry_at old i)) → (j : ℕ) → j < k + 1 → P (entry_at new j)
    at P last others j h =
        subst P (sym (grows.same j (omega arith))) (elim (cases_eq j k) [ inl same ↦ subst (λ n. P (entry_at old n)) (sym same) last | inr other ↦ others j (omega arith) ])

  pub Runs-all : (entries : List Reached) (marked : List Bool) (k : ℕ) → Runs r entries marked k → length entries ≤ k → IsClosed r (is_set marked)
  Runs-all entries marked k runs all =
      IsClosed-visited r entries marked runs.search runs.started (λ j h. runs.visited j (omega arith)) (λ j h. runs.none j (omega arith))

  pub IsSearch-empty : (marked : List Bool) → length marked ≡ r.vertices → ((v : ℕ) → is_set marked v ≡ false) → IsSearch r [] marked
  IsSearch-empty marked count none = record {
    count = count;
    reached = λ k h. absurd (omega arith);
    positive = λ k h. absurd (omega arith);
    distinct = λ j k lt h. absurd (omega arith);
    marks = λ k h. absurd (omega arith);
    listed = λ v h. absurd (both_ways _ (none v) h);
    size = sum_below-nil (λ v. cond (is_set marked v) 1 0) r.vertices (λ v h. rw (none v) refl);
  }
