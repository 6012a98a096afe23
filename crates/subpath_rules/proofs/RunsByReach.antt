-- Runs on one path: a run that follows on a walk makes one longer walk with it, and such a walk lies on a path.
-- The other way round, a run that stands on a path behind the beginning of a walk begins within the walk, where it
-- goes on as the walk does, or beyond it, and then the walk's end leads to it.
use Rattle.std.proofs.Common.{◌⊎◌, ◌≡◌, ℕ, zero, suc, ◌<◌, refl, sym, ap, ◌∙◌, arith, inl, inr, true, ◌&&◌, List, [], ◌∷◌, ◌++◌, length, drop, true≢false, subst, append_assoc, append-nil}
use Rattle.std.proofs.lemmas.Bool.{and_parts, and_from, or_right}
use Rattle.std.proofs.lemmas.List.{append_cancel_left}
use Rattle.decomposition.specs.Graph.{Graph, IsNet, tail, head, is_source, is_sink, is_walk_from, walk_end, IsRun, IsPath, begins_with, contains_run, paths}
use Rattle.decomposition.specs.Boxes.{may_contain}
use Rattle.decomposition.proofs.Walks.{IsStep, walk-cons, walk-from_step, walk-append, walk-left, walk-right, walk_end-append, paths-has, paths-only}
use Rattle.decomposition.proofs.Keeps.{begins_with-split, begins_with-append}
use Rattle.decomposition.proofs.Exchange.{PathParts, path-parts, path-from_parts}
use Rattle.decomposition.proofs.Extremes.{Around, contains_run-begins, contains_run-split, contains_run-middle, contains_run-part}
use Rattle.decomposition.proofs.Reach.{Onto, to_sink, runs_lie_on_paths}
use Rattle.subpath_rules.specs.Follows.{agree, Follows}
use Rattle.subpath_rules.specs.Laws.{MayContainByReach, RunsShareByReach}
use Rattle.subpath_rules.proofs.Overlaps.{agree-cases, cut, either_first, begins_with-longer, contains_run-longer, contains_run-later, contains_run-self}

-- a run behind the beginning of a walk follows on it
pub follows-from_walk : (g : Graph) (e : ℕ) (es rest before : List ℕ) (f : ℕ) (fs after : List ℕ) → is_walk_from g (tail g e) ((e ∷ es) ++ rest) ≡ true
    → (e ∷ es) ++ rest ≡ before ++ ((f ∷ fs) ++ after) → Follows g (e ∷ es) (f ∷ fs)
follows-from_walk g e es rest before f fs after walk same =
    elim (cut (e ∷ es) rest before (f ∷ fs) after same) [
      | inl within ↦ inl within
      | inr beyond ↦
          let way : List ℕ = beyond.0 in
          let end : ℕ = walk_end g (tail g e) (e ∷ es) in
          let last : List ℕ = (f ∷ fs) ++ after in
          let regroup : (e ∷ es) ++ rest ≡ (e ∷ es) ++ (way ++ last) = same ∙ ap (λ l. l ++ last) beyond.1 ∙ append_assoc (e ∷ es) way last in
          let rest_is : rest ≡ way ++ last = append_cancel_left (e ∷ es) rest (way ++ last) regroup in
          let on : is_walk_from g end (way ++ last) ≡ true = subst (λ l. is_walk_from g end l ≡ true) rest_is (walk-right g (tail g e) (e ∷ es) rest walk) in
          let s : IsStep g (walk_end g end way) f (fs ++ after) = walk-cons g (walk_end g end way) f (fs ++ after) (walk-right g end way last on) in
          inr (record { edges = way; walk = walk-left g end way last on; end = sym s.leaves })
    ]

-- a walk that begins with another one and contains a run
pub record Joined (g : Graph) (u : ℕ) (walk run : List ℕ) : Type 0 where
  pub rest : List ℕ
  pub is_walk : is_walk_from g u (walk ++ rest) ≡ true
  pub contains : contains_run (walk ++ rest) run ≡ true

pub joined-overlap : (g : Graph) (u : ℕ) (walk : List ℕ) (k f : ℕ) (fs : List ℕ) → is_walk_from g u walk ≡ true → IsRun g (f ∷ fs) → k < length walk
    → agree (drop k walk) (f ∷ fs) ≡ true → Joined g u walk (f ∷ fs)
joined-overlap g u [] k f fs walk run low same = absurd (omega arith)
joined-overlap g u (e ∷ es) zero f fs walk run low same =
    elim (agree-cases (e ∷ es) (f ∷ fs) same) [
      | inl more ↦
          record {
            rest = [];
            is_walk = subst (λ l. is_walk_from g u l ≡ true) (sym (append-nil (e ∷ es))) walk;
            contains = contains_run-longer (e ∷ es) [] f fs
                (contains_run-begins (e ∷ es) (f ∷ fs) (subst (λ l. begins_with l (f ∷ fs) ≡ true) (sym more.1) (begins_with-append (f ∷ fs) more.0)));
          }
      | inr more ↦
          let s : IsStep g u e es = walk-cons g u e es walk in
          let heads : f ≡ e = let whole = more.1 in cc in
          record {
            rest = more.0;
            is_walk = subst (λ l. is_walk_from g u l ≡ true) more.1 (subst (λ v. is_walk_from g v (f ∷ fs) ≡ true) (ap (tail g) heads ∙ s.leaves) run);
            contains = subst (λ l. contains_run l (f ∷ fs) ≡ true) more.1 (contains_run-self (f ∷ fs));
          }
    ]
joined-overlap g u (e ∷ es) (suc k) f fs walk run low same =
    let s : IsStep g u e es = walk-cons g u e es walk in
    let j : Joined g (head g e) es (f ∷ fs) = joined-overlap g (head g e) es k f fs s.rest run (omega arith) same in
    record {
      rest = j.rest;
      is_walk = walk-from_step g u e (es ++ j.rest) (record { inside = s.inside; leaves = s.leaves; rest = j.is_walk });
      contains = or_right (begins_with (e ∷ (es ++ j.rest)) (f ∷ fs)) (contains_run (es ++ j.rest) (f ∷ fs)) j.contains;
    }

-- a run that follows on a walk lies on a longer walk with it
pub joined : (g : Graph) (e : ℕ) (es : List ℕ) (f : ℕ) (fs : List ℕ) → IsRun g (e ∷ es) → IsRun g (f ∷ fs) → Follows g (e ∷ es) (f ∷ fs) → Joined g (tail g e) (e ∷ es) (f ∷ fs)
joined g e es f fs walk run (inl over) = joined-overlap g (tail g e) (e ∷ es) over.0 f fs walk run over.1 over.2
joined g e es f fs walk run (inr way) =
    let end : ℕ = walk_end g (tail g e) (e ∷ es) in
    let last : is_walk_from g (walk_end g end way.edges) (f ∷ fs) ≡ true = subst (λ v. is_walk_from g v (f ∷ fs) ≡ true) (sym way.end) run in
    record {
      rest = way.edges ++ (f ∷ fs);
      is_walk = walk-append g (tail g e) (e ∷ es) (way.edges ++ (f ∷ fs)) walk (walk-append g end way.edges (f ∷ fs) way.walk last);
      contains = contains_run-later (e ∷ es) (way.edges ++ (f ∷ fs)) (f ∷ fs) (contains_run-later way.edges (f ∷ fs) (f ∷ fs) (contains_run-self (f ∷ fs)));
    }

-- such a walk from a source goes on to a path
pub may-from_joined : (g : Graph) → IsNet g → (e : ℕ) (es : List ℕ) (f : ℕ) (fs : List ℕ) → is_source g (tail g e) ≡ true → Joined g (tail g e) (e ∷ es) (f ∷ fs)
    → may_contain (paths g) (e ∷ es) (f ∷ fs) ≡ true
may-from_joined g net e es f fs source j =
    let both : List ℕ = (e ∷ es) ++ j.rest in
    let on : Onto g (walk_end g (tail g e) both) = to_sink g net (walk_end g (tail g e) both) in
    let whole : is_walk_from g (tail g e) (both ++ on.edges) ≡ true = walk-append g (tail g e) both on.edges j.is_walk on.walk in
    let sink : is_sink g (walk_end g (tail g e) (both ++ on.edges)) ≡ true = subst (λ v. is_sink g v ≡ true) (sym (walk_end-append g (tail g e) both on.edges)) on.sink in
    let path : IsPath g (both ++ on.edges) = path-from_parts g (tail g e) e ((es ++ j.rest) ++ on.edges) source whole sink in
    paths-has g net (both ++ on.edges) path (λ p. begins_with p (e ∷ es) && contains_run p (f ∷ fs))
    (and_from (begins_with (both ++ on.edges) (e ∷ es)) (contains_run (both ++ on.edges) (f ∷ fs))
    (begins_with-longer both on.edges (e ∷ es) (begins_with-append (e ∷ es) j.rest)) (contains_run-longer both on.edges f fs j.contains))

-- what a walk may contain follows on it
pub follows-from_may : (g : Graph) (e : ℕ) (es : List ℕ) (f : ℕ) (fs : List ℕ) → may_contain (paths g) (e ∷ es) (f ∷ fs) ≡ true → Follows g (e ∷ es) (f ∷ fs)
follows-from_may g e es f fs may =
    let found : (p : List ℕ) × IsPath g p × ((begins_with p (e ∷ es) && contains_run p (f ∷ fs)) ≡ true) = paths-only g (λ p. begins_with p (e ∷ es) && contains_run p (f ∷ fs)) may in
    let parts : (begins_with found.0 (e ∷ es) ≡ true) × (contains_run found.0 (f ∷ fs) ≡ true) = and_parts (begins_with found.0 (e ∷ es)) (contains_run found.0 (f ∷ fs)) found.2 in
    let split : (rest : List ℕ) × (found.0 ≡ (e ∷ es) ++ rest) = begins_with-split found.0 (e ∷ es) parts.0 in
    let around : Around found.0 (f ∷ fs) = contains_run-split found.0 (f ∷ fs) parts.1 in
    let pp : PathParts g (e ∷ (es ++ split.0)) = path-parts g (e ∷ (es ++ split.0)) (subst (λ p. IsPath g p) split.1 found.1) in
    let s : IsStep g pp.start e (es ++ split.0) = walk-cons g pp.start e (es ++ split.0) pp.walk in
    let walk : is_walk_from g (tail g e) ((e ∷ es) ++ split.0) ≡ true = subst (λ v. is_walk_from g v ((e ∷ es) ++ split.0) ≡ true) (sym s.leaves) pp.walk in
    follows-from_walk g e es split.0 around.before f fs around.after walk (sym split.1 ∙ around.is)

pub may_contain_by_reach : MayContainByReach
may_contain_by_reach g walk [] net begun run = absurd (true≢false (sym run))
may_contain_by_reach g [] (f ∷ fs) net begun run = (
  λ _. inl refl,
  λ _.
      let on : (xs : List ℕ) × (ys : List ℕ) × IsPath g (xs ++ ((f ∷ fs) ++ ys)) = runs_lie_on_paths g (f ∷ fs) net run in
      paths-has g net (on.0 ++ ((f ∷ fs) ++ on.1)) on.2 (λ p. begins_with p [] && contains_run p (f ∷ fs)) (contains_run-middle on.0 (f ∷ fs) on.1),
)
may_contain_by_reach g (e ∷ es) (f ∷ fs) net begun run = (
  λ may. inr (follows-from_may g e es f fs may),
  λ way. elim way [
    | inl none ↦ let no' : ⊥ = cc in absurd no'
    | inr follows ↦ may-from_joined g net e es f fs begun.0 (joined g e es f fs begun.1 run follows)
  ],
)

-- a run that follows on another lies on a path with it
pub share-from_follows : (g : Graph) → IsNet g → (e : ℕ) (es : List ℕ) (f : ℕ) (fs : List ℕ) → IsRun g (e ∷ es) → IsRun g (f ∷ fs) → Follows g (e ∷ es) (f ∷ fs)
    → (p : List ℕ) × IsPath g p × (contains_run p (e ∷ es) ≡ true) × (contains_run p (f ∷ fs) ≡ true)
share-from_follows g net e es f fs first second follows =
    let j : Joined g (tail g e) (e ∷ es) (f ∷ fs) = joined g e es f fs first second follows in
    let both : List ℕ = (e ∷ es) ++ j.rest in
    let on : (xs : List ℕ) × (ys : List ℕ) × IsPath g (xs ++ (both ++ ys)) = runs_lie_on_paths g both net j.is_walk in
    let p : List ℕ = on.0 ++ (both ++ on.1) in
    let has : contains_run p both ≡ true = contains_run-middle on.0 both on.1 in
    let around : Around both (f ∷ fs) = contains_run-split both (f ∷ fs) j.contains in
    (p, on.2, contains_run-part p [] (e ∷ es) j.rest has, contains_run-part p around.before (f ∷ fs) around.after (subst (λ r. contains_run p r ≡ true) around.is has))

-- of two runs on a walk, the one that stands later follows on the other
pub follows-on_walk : (g : Graph) (v : ℕ) (before : List ℕ) (e : ℕ) (es rest middle : List ℕ) (f : ℕ) (fs after : List ℕ) → is_walk_from g v (before ++ ((e ∷ es) ++ rest)) ≡ true
    → (e ∷ es) ++ rest ≡ middle ++ ((f ∷ fs) ++ after) → Follows g (e ∷ es) (f ∷ fs)
follows-on_walk g v before e es rest middle f fs after walk same =
    let on : is_walk_from g (walk_end g v before) ((e ∷ es) ++ rest) ≡ true = walk-right g v before ((e ∷ es) ++ rest) walk in
    let s : IsStep g (walk_end g v before) e (es ++ rest) = walk-cons g (walk_end g v before) e (es ++ rest) on in
    follows-from_walk g e es rest middle f fs after (subst (λ u. is_walk_from g u ((e ∷ es) ++ rest) ≡ true) (sym s.leaves) on) same

pub follows-from_share : (g : Graph) (e : ℕ) (es : List ℕ) (f : ℕ) (fs p : List ℕ) → IsPath g p → contains_run p (e ∷ es) ≡ true → contains_run p (f ∷ fs) ≡ true
    → Follows g (e ∷ es) (f ∷ fs) ⊎ Follows g (f ∷ fs) (e ∷ es)
follows-from_share g e es f fs p path first second =
    let r : Around p (e ∷ es) = contains_run-split p (e ∷ es) first in
    let s : Around p (f ∷ fs) = contains_run-split p (f ∷ fs) second in
    let pp : PathParts g p = path-parts g p path in
    let r_walk : is_walk_from g pp.start (r.before ++ ((e ∷ es) ++ r.after)) ≡ true = subst (λ l. is_walk_from g pp.start l ≡ true) r.is pp.walk in
    let s_walk : is_walk_from g pp.start (s.before ++ ((f ∷ fs) ++ s.after)) ≡ true = subst (λ l. is_walk_from g pp.start l ≡ true) s.is pp.walk in
    elim (either_first r.before ((e ∷ es) ++ r.after) s.before ((f ∷ fs) ++ s.after) (sym r.is ∙ s.is)) [
      | inl later ↦ inl (follows-on_walk g pp.start r.before e es r.after later.0 f fs s.after r_walk later.2)
      | inr earlier ↦ inr (follows-on_walk g pp.start s.before f fs s.after earlier.0 e es r.after s_walk earlier.2)
    ]

pub runs_share_by_reach : RunsShareByReach
runs_share_by_reach g [] s net run other = absurd (true≢false (sym run))
runs_share_by_reach g (e ∷ es) [] net run other = absurd (true≢false (sym other))
runs_share_by_reach g (e ∷ es) (f ∷ fs) net run other = (
  λ share. follows-from_share g e es f fs share.0 share.1 share.2 share.3,
  λ way. elim way [
    | inl later ↦ share-from_follows g net e es f fs run other later
    | inr earlier ↦
        let p = share-from_follows g net f fs e es other run earlier in
        (p.0, p.1, p.3, p.2)
  ],
)
