-- The booked path of a run, in its three parts.
use Rattle.std.proofs.Common.{◌≡◌, ℕ, ◌-◌, true, List, [], ◌∷◌, ◌++◌, length, slice_index, refl, sym, ap, ◌∙◌, subst, append_assoc, arith}
use Rattle.std.proofs.lemmas.Bool.{and_from, both_ways}
use Rattle.decomposition.specs.Graph.{Graph, IsRun, IsPath, tail, head, is_source, is_sink, is_run, is_walk_from, walk_end}
use Rattle.decomposition.specs.FirstAnswer.{IsBookedPath}
use Rattle.decomposition.proofs.Walks.{IsStep, walk-cons, walk-from_step, walk-append, walk_end-append}
use Rattle.decomposition.proofs.Flows.{AllByRecursion-more}
use Rattle.decomposition.proofs.Runs.{walk_end-last}
use Rattle.greedy_paths.specs.declared.greatest.GreatestEdges.{GreatestEdges}
use Rattle.greedy_paths.specs.Greatest.{AreGreatest}
use Rattle.greedy_paths.specs.Booking.{IsListed, ComesFromSource, GoesToSink}
use Rattle.greedy_paths.proofs.Ahead.{ahead-from_listed}

-- a walk of at least one edge from a source to a sink is a path
IsPath-from_walk : (g : Graph) (v e : ℕ) (es : List ℕ) → is_source g v ≡ true → is_walk_from g v (e ∷ es) ≡ true → is_sink g (walk_end g v (e ∷ es)) ≡ true → IsPath g (e ∷ es)
IsPath-from_walk g v e es source walk sink =
    let s : IsStep g v e es = walk-cons g v e es walk in
    and_from (is_source g (tail g e)) _ (subst (λ u. is_source g u ≡ true) (sym s.leaves) source)
    (and_from (is_run g (e ∷ es)) (is_sink g (walk_end g (head g e) es)) (walk-from_step g (tail g e) e es (record { inside = s.inside; leaves = refl; rest = s.rest })) sink)

-- the same for a walk in three parts, the one in the middle not empty
IsPath-from_parts : (g : Graph) (v : ℕ) (before : List ℕ) (e : ℕ) (es after : List ℕ) → is_source g v ≡ true → is_walk_from g v before ≡ true
    → is_walk_from g (walk_end g v before) ((e ∷ es) ++ after) ≡ true → is_sink g (walk_end g (walk_end g v before) ((e ∷ es) ++ after)) ≡ true → IsPath g (before ++ ((e ∷ es) ++ after))
IsPath-from_parts g v [] e es after source first rest sink = IsPath-from_walk g v e (es ++ after) source rest sink
IsPath-from_parts g v (d ∷ ds) e es after source first rest sink =
    IsPath-from_walk g v d (ds ++ ((e ∷ es) ++ after)) source (walk-append g v (d ∷ ds) ((e ∷ es) ++ after) first rest)
    (subst (λ u. is_sink g u ≡ true) (sym (walk_end-append g v (d ∷ ds) ((e ∷ es) ++ after))) sink)

module _ (g : Graph) (edges : GreatestEdges) where
  -- the walk from a source to a run, the run, and the walk from it to a sink
  parts-path : (e : ℕ) (es before after : List ℕ) → IsRun g (e ∷ es) → ComesFromSource g edges.into.items (tail g e) before → GoesToSink g edges.out_of.items (walk_end g (tail g e) (e ∷ es)) after
      → IsPath g (before ++ ((e ∷ es) ++ after))
  parts-path e es before after run from to =
      let whole : is_walk_from g (tail g e) ((e ∷ es) ++ after) ≡ true = walk-append g (tail g e) (e ∷ es) after run to.walk in
      let sink : is_sink g (walk_end g (tail g e) ((e ∷ es) ++ after)) ≡ true = subst (λ u. is_sink g u ≡ true) (sym (walk_end-append g (tail g e) (e ∷ es) after)) to.sink in
      IsPath-from_parts g from.start before e es after from.source from.walk
      (subst (λ u. is_walk_from g u ((e ∷ es) ++ after) ≡ true) (sym from.end) whole) (subst (λ u. is_sink g (walk_end g u ((e ∷ es) ++ after)) ≡ true) (sym from.end) sink)

  pub IsBookedPath-from : (u v : ℕ) (r before after p : List ℕ) → IsRun g r → u ≡ tail g (slice_index r 0) → v ≡ head g (slice_index r (length r - 1))
      → ComesFromSource g edges.into.items u before → GoesToSink g edges.out_of.items v after → p ≡ (before ++ r) ++ after
      → (flow : ℕ → ℕ) → AreGreatest g flow edges → IsBookedPath g flow r p
  IsBookedPath-from u v [] before after p run first last from to is flow greatest = absurd (both_ways _ refl run)
  IsBookedPath-from u v (e ∷ es) before after p run first last from to is flow greatest =
      let here : length (e ∷ es) - 1 ≡ length es = omega arith in
      let ends : v ≡ walk_end g (tail g e) (e ∷ es) = last ∙ (ap (λ k. head g (slice_index (e ∷ es) k)) here ∙ sym (walk_end-last g (tail g e) e es)) in
      let joined : p ≡ before ++ ((e ∷ es) ++ after) = is ∙ append_assoc before (e ∷ es) after in
      record {
        before = before;
        after = after;
        is = joined;
        path = subst (IsPath g) (sym joined) (parts-path e es before after run (subst (λ w. ComesFromSource g edges.into.items w before) first from) (subst (λ w. GoesToSink g edges.out_of.items w after) ends to));
        back = AllByRecursion-more (IsListed (head g) edges.into.items) _ (λ d listed. ahead-from_listed g (head g) flow edges.into.items greatest.into d listed) before from.listed;
        forth = AllByRecursion-more (IsListed (tail g) edges.out_of.items) _ (λ d listed. ahead-from_listed g (tail g) flow edges.out_of.items greatest.out_of d listed) after to.listed;
      }
