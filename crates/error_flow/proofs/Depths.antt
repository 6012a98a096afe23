-- Allowed levels are at most as far from 0 as the net has edges: each vertex lies on a walk from a source to a sink, and no edge of it falls by more than 1.
use Rattle.std.proofs.Common.{◌≡◌, ℕ, ◌<◌, true, List, [], ◌∷◌, length, ap, subst, arith}
use Rattle.std.specs.Prelude.{ℤ, pos, ◌+ℤ◌, ◌≤ℤ◌}
use Rattle.std.proofs.lemmas.Int.{ints}
use Rattle.decomposition.specs.Graph.{Graph, IsNet, edge_count, tail, head, is_source, is_sink, is_walk_from, walk_end}
use Rattle.decomposition.proofs.Walks.{IsStep, walk-cons, walk-length}
use Rattle.decomposition.proofs.Nets.{inside-from_net}
use Rattle.decomposition.proofs.Reach.{from_source, to_sink}
use Rattle.std.proofs.lemmas.Bool.{or_left, or_right}
use Rattle.error_flow.specs.Certificate.{AreAllowed, IsGentle}

-- a walk falls by at most 1 an edge
walk-falls : (g : Graph) (level : ℕ → ℤ) → IsGentle g level → (v : ℕ) (es : List ℕ) → is_walk_from g v es ≡ true → level v ≤ℤ (level (walk_end g v es) +ℤ pos (length es))
walk-falls g level gentle v [] walk = omega (arith, ints)
walk-falls g level gentle v (e ∷ es) walk =
    let s : IsStep g v e es = walk-cons g v e es walk in
    let here = gentle e s.inside in
    let same : level (tail g e) ≡ level v = ap level s.leaves in
    omega (arith, ints, walk-falls g level gentle (head g e) es s.rest, here, same)

walk-inside : (g : Graph) → IsNet g → (v : ℕ) (es : List ℕ) → v < g.vertices → is_walk_from g v es ≡ true → walk_end g v es < g.vertices
walk-inside g net v [] h walk = h
walk-inside g net v (e ∷ es) h walk =
    let s : IsStep g v e es = walk-cons g v e es walk in
    walk-inside g net (head g e) es (inside-from_net g net e s.inside).1 s.rest

start-inside : (g : Graph) → IsNet g → (v u : ℕ) (es : List ℕ) → v < g.vertices → is_walk_from g u es ≡ true → walk_end g u es ≡ v → u < g.vertices
start-inside g net v u [] h walk end = omega arith
start-inside g net v u (e ∷ es) h walk end =
    let s : IsStep g u e es = walk-cons g u e es walk in
    subst (λ x. x < g.vertices) s.leaves (inside-from_net g net e s.inside).0

-- how far a level may be from 0
pub record IsNear (n : ℕ) (level : ℤ) : Type 0 where
  pub low : pos 0 ≤ℤ (level +ℤ pos n)
  pub high : level ≤ℤ pos n

pub allowed-near : (g : Graph) (level : ℕ → ℤ) → IsNet g → AreAllowed g level → (v : ℕ) → v < g.vertices → IsNear (edge_count g) (level v)
allowed-near g level net allowed v h =
    let since = from_source g net v in
    let onto = to_sink g net v in
    let begins : level since.start ≡ pos 0
    = allowed.ends since.start (start-inside g net v since.start since.edges h since.walk since.end) (or_left (is_source g since.start) (is_sink g since.start) since.source) in
    let stops : level (walk_end g v onto.edges) ≡ pos 0
    = allowed.ends (walk_end g v onto.edges) (walk-inside g net v onto.edges h onto.walk) (or_right (is_source g (walk_end g v onto.edges)) (is_sink g (walk_end g v onto.edges)) onto.sink) in
    let down = walk-falls g level allowed.gentle since.start since.edges since.walk in
    let there : level (walk_end g since.start since.edges) ≡ level v = ap level since.end in
    let up = walk-falls g level allowed.gentle v onto.edges onto.walk in
    let short = walk-length g net since.start since.edges since.walk in
    let brief = walk-length g net v onto.edges onto.walk in
    record { low = omega (arith, ints, begins, down, there, short); high = omega (arith, ints, stops, up, brief) }
