-- The bound of allowed levels is at most the change of every balanced flow.
--
-- Let the flow f be balanced and the level of each source and sink be 0. The sum over all edges of the rise times f is the sum over all vertices of the level times what
-- enters less what leaves, and so 0. On each edge the share of a rise r of at least -1 is at most |w - f| + r f: where r is above 0, since w <= |w - f| + f; where r is 0; and
-- where r is -1, since f - w <= |w - f|. Sums of that are the claim. Here a level is read as the difference of two numbers of at least 0.
use Rattle.std.proofs.Common.{◌≡◌, ℕ, zero, suc, ◌+◌, ◌*◌, ◌<◌, ◌≤◌, ◌==◌, ◌||◌, ◌&&◌, not, cond, Bool, true, false, length, slice_index, refl, sym, ap, ◌∙◌, arith, inl, inr, eq-eqb, ne_eqb, true≢false, eqb-true}
use Rattle.std.specs.Prelude.{ℤ, pos, negsuc, ◌+ℤ◌, ◌-ℤ◌, ◌≤ℤ◌}
use Rattle.std.specs.List.{list_all}
use Rattle.std.proofs.lemmas.Int.{ints}
use Rattle.std.proofs.lemmas.Bool.{cases_Bool, cases_lt}
use Rattle.std.proofs.Math.Nat.{mul-le-mul_right}
use Rattle.decomposition.specs.Graph.{Graph, IsNet, edge_count, tail, head, is_source, is_sink, is_inner}
use Rattle.decomposition.specs.Answer.{sum_below, weight_on}
use Rattle.decomposition.specs.Instance.{Instance, range, distance, error, lower_bound}
use Rattle.decomposition.specs.Flow.{IsBalanced, flow_into, flow_out_of}
use Rattle.decomposition.proofs.Sums.{sum_below-same, sum_below-one, sum_below-nil}
use Rattle.decomposition.proofs.Balance.{weight_on-balanced}
use Rattle.decomposition.proofs.Root.{all-place}
use Rattle.decomposition.proofs.Nets.{inside-from_net}
use Rattle.error_flow.specs.Nearest.{apart, change}
use Rattle.error_flow.specs.Certificate.{share, bound_before, IsGentle, level_at}
use Rattle.error_flow.proofs.Shares.{share-one, share-zero, share-fall}
use Rattle.error_flow.specs.Laws.{LevelsBound, CertificatesProve, NearestBoundsErrors}
use borrow.Author.Differences.{up, down}

-- on an edge from level c to level a
edge_step : (a c : ℤ) (w f : ℕ) → negsuc 0 ≤ℤ (a -ℤ c)
    → (share (a -ℤ c) w +ℤ pos (down a * f + up c * f)) ≤ℤ pos (apart w f + (up a * f + down c * f))
edge_step a c w f gentle =
    elim (cases_lt (down a + up c) (up a + down c)) [
      | inl rises ↦
          let one : pos 1 ≤ℤ (a -ℤ c) = omega (arith, ints) in
          let more : (down a + up c + 1) * f ≤ (up a + down c) * f = mul-le-mul_right f (omega arith) in
          omega (arith, ints, share-one (a -ℤ c) w one)
      | inr less ↦
          elim (cases_lt (up a + down c) (down a + up c)) [
            | inl falls ↦
                let one : a -ℤ c ≡ negsuc 0 = omega (arith, ints) in
                let more : (up a + down c + 1) * f ≡ (down a + up c) * f = ap (λ x. x * f) (omega (arith, ints)) in
                omega (arith, ints, share-fall (a -ℤ c) w one)
            | inr level ↦
                let none : a -ℤ c ≡ pos 0 = omega (arith, ints) in
                let same : (up a + down c) * f ≡ (down a + up c) * f = ap (λ x. x * f) (omega arith) in
                omega (arith, ints, share-zero (a -ℤ c) w none)
          ]
    ]

-- the flow of the first n edges, each as often as the number at its end says
abbrev pub lifted : (ℕ → ℕ) → (ℕ → ℕ) → (ℕ → ℕ) → ℕ → ℕ
lifted count end flow n = sum_below (λ e. count (end e) * flow e) n

-- and of all edges in turn
edges_step : (g : Graph) (weight : ℕ → ℕ) (level : ℕ → ℤ) (flow : ℕ → ℕ) (n : ℕ) → n ≤ edge_count g → IsGentle g level
    → (bound_before g weight level n +ℤ pos (lifted (λ v. down (level v)) (head g) flow n + lifted (λ v. up (level v)) (tail g) flow n))
    ≤ℤ pos (sum_below (λ e. apart (weight e) (flow e)) n + (lifted (λ v. up (level v)) (head g) flow n + lifted (λ v. down (level v)) (tail g) flow n))
edges_step g weight level flow zero h gentle = omega (arith, ints)
edges_step g weight level flow (suc n) h gentle =
    let before = edges_step g weight level flow n (omega arith) gentle in
    let here = edge_step (level (head g n)) (level (tail g n)) (weight n) (flow n) (gentle n (omega arith)) in
    omega (arith, ints, before, here)

-- a sum over the edges by their ends
by_ends : (count end flow : ℕ → ℕ) (vertices n : ℕ) → ((e : ℕ) → e < n → end e < vertices)
    → lifted count end flow n ≡ sum_below (λ v. count v * sum_below (λ e. cond (end e == v) (flow e) 0) n) vertices
by_ends count end flow vertices zero inside = sym (sum_below-nil (λ v. count v * 0) vertices (λ v h. omega arith))
by_ends count end flow vertices (suc n) inside =
    omega (
      arith,
      by_ends count end flow vertices n (λ e h. inside e (omega arith)),
      sum_below-one (λ v. count v * (so_far v + cond (end n == v) (flow n) 0)) (λ v. count v * so_far v) (count (end n) * flow n) (end n) vertices (inside n (omega arith))
          (rw (eq-eqb (end n) (end n) refl) (omega arith))
          (λ v other. rw (ne_eqb (end n) v (λ same. other (sym same))) (omega arith)),
    )
  where
    so_far : ℕ → ℕ
    so_far v = sum_below (λ e. cond (end e == v) (flow e) 0) n

-- a number for each vertex that is 0 at sources and sinks counts as much at the heads as at the tails
pub as_much : (g : Graph) (count flow : ℕ → ℕ) → IsNet g → IsBalanced g flow
    → ((v : ℕ) → v < g.vertices → (is_source g v || is_sink g v) ≡ true → count v ≡ 0)
    → lifted count (head g) flow (edge_count g) ≡ lifted count (tail g) flow (edge_count g)
as_much g count flow net balanced ends =
    by_ends count (head g) flow g.vertices (edge_count g) (λ e h. (inside-from_net g net e h).1)
    ∙ sum_below-same (λ v. count v * flow_into g flow v) (λ v. count v * flow_out_of g flow v) g.vertices at
    ∙ sym (by_ends count (tail g) flow g.vertices (edge_count g) (λ e h. (inside-from_net g net e h).0))
  where
    at : (v : ℕ) → v < g.vertices → count v * flow_into g flow v ≡ count v * flow_out_of g flow v
    at v h =
        elim (cases_Bool (is_inner g v)) [
          | inl inner ↦ ap (λ x. count v * x) (balanced v inner)
          | inr not_inner ↦
              let none : count v ≡ 0 = ends v h (is_end (is_source g v) (is_sink g v) not_inner) in
              rw none (omega arith)
        ]
      where
        is_end : (s t : Bool) → (not s && not t) ≡ false → (s || t) ≡ true
        is_end true t h = refl
        is_end false true h = refl
        is_end false false h = absurd (true≢false h)

pub levels_bound : LevelsBound
levels_bound g weight level flow net allowed balanced =
    omega (
      arith,
      ints,
      edges_step g weight level flow (edge_count g) (omega arith) allowed.gentle,
      as_much g (λ v. up (level v)) flow net balanced (λ v h end. ap up (allowed.ends v h end)),
      as_much g (λ v. down (level v)) flow net balanced (λ v h end. ap down (allowed.ends v h end)),
    )

pub certificates_prove : CertificatesProve
certificates_prove g weights flow levels total net proof = record {
  balanced = proof.balanced;
  reached = proof.change;
  least = λ other balanced.
      let most = levels_bound g (slice_index weights) (level_at levels) other net (record { ends = proof.ends; gentle = proof.gentle }) balanced in
      omega (arith, ints, most, proof.bound);
}

-- with equal bounds the error of an answer is the change of the weights that it puts on the edges
error-change : (i : Instance) (flow : ℕ → ℕ) → list_all (λ r. r.lo == r.hi) i.ranges ≡ true → (e : ℕ) → e < length i.ranges
    → distance (range i e) (flow e) ≡ apart (lower_bound i e) (flow e)
error-change i flow exact e h =
    let same : (range i e).lo ≡ (range i e).hi = eqb-true _ _ (all-place (λ r. r.lo == r.hi) i.ranges (record { lo = 0; hi = 0 }) e exact h) in
    omega arith

pub nearest_bounds_errors : NearestBoundsErrors
nearest_bounds_errors k i flow total valid nearest a meets =
    let le = nearest.least (weight_on a) (weight_on-balanced i.graph valid.net a meets.0) in
    let same : error i a ≡ change i.graph (lower_bound i) (weight_on a)
    = sum_below-same (λ e. distance (range i e) (weight_on a e)) (λ e. apart (lower_bound i e) (weight_on a e)) (edge_count i.graph)
    (λ e h. error-change i (weight_on a) valid.fits e (omega (arith, valid.ranged))) in
    omega (arith, le, same)
