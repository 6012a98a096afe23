-- Parts of a path: one edge more at the end, one edge less at the beginning, and their sums.
use Rattle.std.proofs.Common.{◌≡◌, ◌≤◌, ◌<◌, ℕ, suc, ◌+◌, ◌-◌, List, [], ◌∷◌, ◌++◌, length, take, drop, slice_index, true, refl, sym, ap, ◌∙◌, subst, arith, length-take-le, length-drop}
use Rattle.std.proofs.lemmas.List.{take_more, drop_more, get_or-drop, take-append-drop, take_at, drop_at, take-take}
use Rattle.std.proofs.lemmas.List.Sums.{sum_by-cons, sum_by_push}
use Rattle.decomposition.specs.Graph.{Graph, IsRun, IsPath, tail, is_walk_from, walk_end, is_run}
use Rattle.decomposition.specs.Flow.{flow_out_of}
use Rattle.decomposition.proofs.Walks.{walk-cons, walk-left, walk-right}
use Rattle.decomposition.proofs.Exchange.{PathParts, path-parts}
use Rattle.safe_paths.specs.Sums.{carried, passed}
use Rattle.safe_paths.specs.Windows.{part}

-- a part ends before the next edge
pub part-push : (p : List ℕ) (i j : ℕ) → i ≤ j → j < length p → part p i (j + 1) ≡ part p i j ++ slice_index p j ∷ []
part-push p i j ordered there =
    let one : j + 1 - i ≡ (j - i) + 1 = omega arith in
    let place : i + (j - i) ≡ j = omega arith in
    ap (λ n. take n (drop i p)) one ∙ take_more (drop i p) (j - i) 0 (omega (arith, length-drop i p))
    ∙ ap (λ e. take (j - i) (drop i p) ++ e ∷ []) (get_or-drop i p (j - i) 0 ∙ ap (slice_index p) place)

-- a part begins with its first edge
pub part-cons : (p : List ℕ) (i j : ℕ) → i < j → j ≤ length p → part p i j ≡ slice_index p i ∷ part p (i + 1) j
part-cons p i j some within =
    let one : j - i ≡ suc (j - (i + 1)) = omega arith in
    ap (take (j - i)) (drop_more p i 0 (omega arith)) ∙ ap (λ n. take n (slice_index p i ∷ drop (i + 1) p)) one

pub part-none : (p : List ℕ) (i : ℕ) → part p i i ≡ []
part-none p i = let none : i - i ≡ 0 = omega arith in ap (λ n. take n (drop i p)) none

pub length-part : (p : List ℕ) (i j : ℕ) → i ≤ j → j ≤ length p → length (part p i j) ≡ j - i
length-part p i j ordered within = length-take-le (j - i) (drop i p) (omega (arith, length-drop i p))

-- a list is a part and what stands around it
part-around : (p : List ℕ) (i j : ℕ) → p ≡ take i p ++ (part p i j ++ drop (j - i) (drop i p))
part-around p i j = sym (take-append-drop i p) ∙ ap (λ l. take i p ++ l) (sym (take-append-drop (j - i) (drop i p)))

-- what stands behind the first entries is a part
pub part-at : (before r after : List ℕ) → part (before ++ (r ++ after)) (length before) (length before + length r) ≡ r
part-at before r after =
    let count : length before + length r - length before ≡ length r = omega arith in
    ap (take (length before + length r - length before)) (drop_at before (r ++ after) (length before) refl)
    ∙ ap (λ n. take n (r ++ after)) count
    ∙ take_at r after (length r) refl

-- a longer part goes on as the shorter one began
pub part-longer : (p : List ℕ) (i j k : ℕ) → j ≤ k → part p i k ≡ part p i j ++ drop (j - i) (part p i k)
part-longer p i j k longer =
    sym (take-append-drop (j - i) (part p i k)) ∙ ap (λ l. l ++ drop (j - i) (part p i k)) (take-take (j - i) (k - i) (drop i p) (omega arith))

run-from_walk : (g : Graph) (v : ℕ) (r : List ℕ) → is_walk_from g v r ≡ true → 0 < length r → is_run g r ≡ true
run-from_walk g v [] walk some = absurd (omega arith)
run-from_walk g v (e ∷ es) walk some = subst (λ u. is_walk_from g u (e ∷ es) ≡ true) (sym (walk-cons g v e es walk).leaves) walk

-- a part of a path is a run
pub part-run : (g : Graph) (p : List ℕ) (i j : ℕ) → IsPath g p → i < j → j ≤ length p → IsRun g (part p i j)
part-run g p i j path some within =
    let parts : PathParts g p = path-parts g p path in
    let whole : is_walk_from g parts.start (take i p ++ (part p i j ++ drop (j - i) (drop i p))) ≡ true
    = subst (λ l. is_walk_from g parts.start l ≡ true) (part-around p i j) parts.walk in
    let from : is_walk_from g (walk_end g parts.start (take i p)) (part p i j ++ drop (j - i) (drop i p)) ≡ true = walk-right g parts.start (take i p) _ whole in
    run-from_walk g (walk_end g parts.start (take i p)) (part p i j) (walk-left g _ (part p i j) (drop (j - i) (drop i p)) from) (omega (arith, length-part p i j (omega arith) within))

module _ (g : Graph) (flow : ℕ → ℕ) (p : List ℕ) (i j : ℕ) where
  pub carried-push : i ≤ j → j < length p → carried flow (part p i (j + 1)) ≡ carried flow (part p i j) + flow (slice_index p j)
  carried-push ordered there = ap (carried flow) (part-push p i j ordered there) ∙ sum_by_push flow (part p i j) (slice_index p j)

  pub passed-push : i ≤ j → j < length p → passed g flow (part p i (j + 1)) ≡ passed g flow (part p i j) + flow_out_of g flow (tail g (slice_index p j))
  passed-push ordered there = ap (passed g flow) (part-push p i j ordered there) ∙ sum_by_push (λ e. flow_out_of g flow (tail g e)) (part p i j) (slice_index p j)

  pub carried-cons : i < j → j ≤ length p → carried flow (part p i j) ≡ flow (slice_index p i) + carried flow (part p (i + 1) j)
  carried-cons some within = ap (carried flow) (part-cons p i j some within) ∙ sum_by-cons flow (slice_index p i) (part p (i + 1) j)

  pub passed-cons : i < j → j ≤ length p → passed g flow (part p i j) ≡ flow_out_of g flow (tail g (slice_index p i)) + passed g flow (part p (i + 1) j)
  passed-cons some within = ap (passed g flow) (part-cons p i j some within) ∙ sum_by-cons (λ e. flow_out_of g flow (tail g e)) (slice_index p i) (part p (i + 1) j)
