-- Whether a box misses a rule, by the walks that lead to its run or overlap it.
use Rattle.std.proofs.Common.{◌⊎◌, ◌≡◌, ◌↔◌, ◌==◌, ℕ, suc, ◌<◌, ◌≤◌, Bool, false, not, List, length, slice_index, Option, Some, None, sym, ap, subst, ◌∙◌, arith, inl, inr, eqb-true, eq-eqb}
use Rattle.std.specs.Prelude.{IsTrue}
use Rattle.std.specs.Option.{option_map_or}
use Rattle.std.proofs.lemmas.Bool.{cases_Bool, cases_lt, iff_false, false_from_ne_true}
use Rattle.decomposition.specs.Graph.{Graph, IsNet, IsRun, is_run, paths}
use Rattle.decomposition.specs.Boxes.{slot_at, upper_at, may_contain, misses_over}
use Rattle.decomposition.specs.Reach.{IsBegun}
use Rattle.subpath_rules.specs.Follows.{Overlaps}
use Rattle.subpath_rules.proofs.RunsByReach.{may_contain_by_reach}
use Rattle.link_cells.specs.Links.{LinkList, slot_in, edge_in, latest_on, walk_of}
use Rattle.link_cells.proofs.Linking.{latest_inside, latest_passes, latest_after, link_at}
use Rattle.refute_tree.specs.Ends.{IsOnWay}
use Rattle.refute_tree.specs.Misses.{LeadsTo, IsAhead}
use Rattle.refute_tree.specs.OneBox.{place_of, IsOneBox}
use Rattle.refute_tree.specs.Sums.{AreBounds}
use Rattle.refute_tree.specs.declared.one_box.OneBox.{OneBox}
use Rattle.refute_tree.specs.declared.sums.Weights.{Weights}
use Rattle.refute_tree.proofs.FirstBoxes.{misses-some, misses-none}
use Rattle.refute_tree.proofs.Overlapping.{agree-first}
use Rattle.refute_tree.proofs.Placing.{slots_from-length, walk_at}
use Rattle.refute_tree.proofs.Taking.{walk_begun}

-- ---- the links of the run's first edge

-- the links of the edge from number `bound` on are passed, `at` is the one before them, and at those passed no slot that may have weight overlaps the run
pub record ArePassed (uppers : List ℕ) (links : List (ℕ × ℕ)) (run : List ℕ) (at : Option ℕ) : Type 0 where
  pub bound : ℕ
  pub within : bound ≤ length links
  pub before : at ≡ latest_on links (slice_index run 0) bound
  pub passed : (p : ℕ) → bound ≤ p → p < length links → edge_in links p ≡ slice_index run 0 → 1 ≤ slice_index uppers (slot_in links p)
      → ¬ Overlaps (walk_of links (slot_in links p)) run

abbrev is_on : List (ℕ × ℕ) → List ℕ → ℕ → Bool
is_on links run p = edge_in links p == slice_index run 0

-- the link that is to be looked at is there, and has the run's first edge
pub next-link : (uppers : List ℕ) (links : List (ℕ × ℕ)) (run : List ℕ) (at : Option ℕ) (cell : ℕ) → ArePassed uppers links run at → at ≡ Some cell
    → (cell < length links) × (edge_in links cell ≡ slice_index run 0)
next-link uppers links run at cell are is =
    let found = sym are.before ∙ is in
    let below = latest_inside (is_on links run) are.bound cell found in
    (omega (arith, below, are.within), eqb-true (edge_in links cell) (slice_index run 0) (latest_passes (is_on links run) are.bound cell found))

-- the one before it has a lower number
pub falls : (links : List (ℕ × ℕ)) (e cell : ℕ) (at before : Option ℕ) → at ≡ Some cell → before ≡ latest_on links e cell → option_map_or suc before 0 < option_map_or suc at 0
falls links e cell at None is next = rw is (omega arith)
falls links e cell at (Some p) is next = rw is (omega (arith, latest_inside (λ q. edge_in links q == e) cell p (sym next)))

-- one link more is passed
pub passed-more : (uppers : List ℕ) (links : List (ℕ × ℕ)) (run : List ℕ) (at before : Option ℕ) (cell : ℕ) → ArePassed uppers links run at → at ≡ Some cell → before ≡ latest_on links (edge_in links cell) cell
    → (1 ≤ slice_index uppers (slot_in links cell) → ¬ Overlaps (walk_of links (slot_in links cell)) run) → ArePassed uppers links run before
passed-more uppers links run at before cell are is next none =
    let here = next-link uppers links run at cell are is in
    record {
      bound = cell;
      within = omega (arith, here.0);
      before = next ∙ ap (λ e. latest_on links e cell) here.1;
      passed = λ p from inside same may. elim (cases_lt p are.bound) [
        | inl left ↦
            let found = latest_after (is_on links run) are.bound p left (eq-eqb (edge_in links p) (slice_index run 0) same) in
            let last : Some cell ≡ Some found.0 = sym is ∙ are.before ∙ found.1 in
            let one : cell ≡ found.0 = cc in
            let this : cell ≡ p = omega (arith, one, found.2, from) in
            subst (λ q. 1 ≤ slice_index uppers (slot_in links q) → ¬ Overlaps (walk_of links (slot_in links q)) run) this none may
        | inr past ↦ are.passed p past inside same may
      ];
    }

-- where all are passed, no slot that may have weight overlaps the run, since its walk would have the run's first edge
pub none-on_way : (uppers : List ℕ) (l : LinkList) (run : List ℕ) (at : Option ℕ) → 0 < length run → ArePassed uppers l.links run at → at ≡ None → ¬ IsOnWay uppers l run
none-on_way uppers l run at some are none way =
    let walk = walk_of l.links way.slot in
    let over : Overlaps walk run = way.overlaps in
    let link = link_at l.links way.slot over.0 over.1 in
    let same : edge_in l.links link.0 ≡ slice_index run 0 = link.3 ∙ agree-first walk run over.0 over.1 some over.2 in
    elim (cases_lt link.0 are.bound) [
      | inl left ↦
          let found = latest_after (is_on l.links run) are.bound link.0 left (eq-eqb (edge_in l.links link.0) (slice_index run 0) same) in
          let no' : None ≡ Some found.0 = sym none ∙ are.before ∙ found.1 in
          absurd (cc)
      | inr past ↦
          are.passed link.0 past link.1 same (subst (λ k. 1 ≤ slice_index uppers k) (sym link.2) way.positive)
          (subst (λ k. Overlaps (walk_of l.links k) run) (sym link.2) over)
    ]

-- ---- the walks of a box

-- a walk may contain a run where it leads to the run, or overlaps it
pub may-contain : (g : Graph) (walk run : List ℕ) → IsNet g → IsBegun g walk → IsRun g run → IsTrue (may_contain (paths g) walk run) ↔ (LeadsTo g walk run ⊎ Overlaps walk run)
may-contain g walk run net begun is_run =
    let law = may_contain_by_reach g walk run net begun is_run in (
      λ may. elim (law.0 may) [
        | inl none ↦ inl (inl none)
        | inr follows ↦ elim follows [ inl over ↦ inr over | inr way ↦ inl (inr way) ]
      ],
      λ either. elim either [
        | inl leads ↦ elim leads [ inl none ↦ law.1 (inl none) | inr way ↦ law.1 (inr (inr way)) ]
        | inr over ↦ law.1 (inr (inl over))
      ],
    )

-- a box, the upper bounds of its slots, and a run
pub record IsAsked (g : Graph) (a : OneBox) (sums : Weights) (run : List ℕ) : Type 0 where
  pub box : IsOneBox g a
  pub bounds : AreBounds (place_of a).box sums
  pub is_run : IsRun g run

-- a slot that may have weight, and leads to the run or overlaps it
pub not-missed : (g : Graph) (a : OneBox) (sums : Weights) (run : List ℕ) (k : ℕ) → IsAsked g a sums run → k < a.links.slots → 1 ≤ slice_index sums.uppers.items k
    → (LeadsTo g (walk_of a.links.links k) run ⊎ Overlaps (walk_of a.links.links k) run) → misses_over (paths g) (place_of a).box run (length (place_of a).box) ≡ false
not-missed g a sums run k asked inside positive either =
    let links = a.links.links in
    let b = (place_of a).box in
    let ranged : k < length a.ranges.items = omega (arith, inside, asked.box.slots) in
    let in_box : k < length b = omega (arith, ranged, slots_from-length 0 a.ranges.items links) in
    let may = (may-contain g (walk_of links k) run asked.box.net (walk_begun g a k asked.box ranged) asked.is_run).1 either in
    misses-some (paths g) b run k (length b) in_box (omega (arith, positive, asked.bounds.uppers k in_box)) (ap (λ w. may_contain (paths g) w run) (walk_at a.ranges.items links k ranged) ∙ may)

pub ahead-not_missed : (g : Graph) (a : OneBox) (sums : Weights) (run : List ℕ) → IsAsked g a sums run → IsAhead g sums.uppers.items a.links run → misses_over (paths g) (place_of a).box run (length (place_of a).box) ≡ false
ahead-not_missed g a sums run asked way = not-missed g a sums run way.slot asked way.inside way.positive (inl way.leads)

-- where no slot that may have weight leads to a run, it is missed unless one overlaps it
pub missed-unless_on_way : (g : Graph) (a : OneBox) (sums : Weights) (run : List ℕ) (b : Bool) → IsAsked g a sums run → ¬ IsAhead g sums.uppers.items a.links run → (IsTrue b ↔ IsOnWay sums.uppers.items a.links run)
    → not b ≡ misses_over (paths g) (place_of a).box run (length (place_of a).box)
missed-unless_on_way g a sums run b asked not_ahead on_way =
    elim (cases_Bool b) [
      | inl yes' ↦ let way = on_way.0 yes' in ap not yes' ∙ sym (not-missed g a sums run way.slot asked way.inside way.positive (inr way.overlaps))
      | inr no' ↦ ap not no' ∙ sym (misses-none (paths g) (place_of a).box run (length (place_of a).box) (none no'))
    ]
  where
    none : b ≡ false → (k : ℕ) → k < length (place_of a).box → 1 ≤ upper_at (place_of a).box k → may_contain (paths g) (slot_at (place_of a).box k).walk run ≡ false
    none no' k in_box positive =
        let links = a.links.links in
        let ranged : k < length a.ranges.items = omega (arith, in_box, slots_from-length 0 a.ranges.items links) in
        let inside : k < a.links.slots = omega (arith, ranged, asked.box.slots) in
        let upper : 1 ≤ slice_index sums.uppers.items k = omega (arith, positive, asked.bounds.uppers k in_box) in
        let law = may-contain g (walk_of links k) run asked.box.net (walk_begun g a k asked.box ranged) asked.is_run in
        ap (λ w. may_contain (paths g) w run) (walk_at a.ranges.items links k ranged)
        ∙ false_from_ne_true (may_contain (paths g) (walk_of links k) run) (λ may. elim (law.0 may) [
          | inl leads ↦ not_ahead (record { slot = k; inside = inside; positive = upper; leads = leads })
          | inr overlaps ↦ iff_false on_way no' (record { slot = k; inside = inside; positive = upper; overlaps = overlaps })
        ])
