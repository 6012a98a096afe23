-- What is known of walks that end with the first edges of a rule, after a link more and after a link less.
use Rattle.std.proofs.Common.{◌≡◌, ℕ, zero, suc, ◌+◌, ◌-◌, ◌<◌, ◌≤◌, ◌==◌, true, false, List, [], ◌∷◌, ◌++◌, map, length, get_or, slice_index, take, drop, Option, Some, None, refl, sym, ap, ap₂, ◌∙◌, subst, arith, inr, eq-eqb, append_assoc, length-append}
use Rattle.std.specs.Prelude.{filter, IfSome, IsTrue}
use Rattle.std.specs.List.{list_all}
use Rattle.std.proofs.Math.Seq.{drop-append_seam, take-append_seam}
use Rattle.std.proofs.lemmas.Bool.{and_from}
use Rattle.std.proofs.lemmas.List.{take_all, take-take, take_more, take-append-drop, get_or-take, length-take-le, map-append, append-nil}
use Rattle.std.proofs.lemmas.List.Elements.{filter-append}
use Rattle.decomposition.specs.Graph.{Graph, is_run}
use Rattle.decomposition.specs.Boxes.{misses}
use Rattle.flow_models.specs.Problem.{instance}
use Rattle.flow_models.specs.declared.problem.Problem.{Problem}
use Rattle.subpath_rules.specs.Follows.{agree, Overlaps}
use Rattle.subpath_rules.proofs.Deciding.{rule-run}
use Rattle.link_cells.specs.Links.{slot_in, edge_in, latest_of, walk_of, walk_to}
use Rattle.link_cells.proofs.Linking.{to_before}
use Rattle.refute_tree.specs.OneBox.{place_of, IsOneBox}
use Rattle.refute_tree.specs.Ends.{IsSeen, AreSeen, IsOnWay, IsSummedUp}
use Rattle.refute_tree.specs.declared.beside.Beside.{Beside}
use Rattle.refute_tree.specs.declared.ends.Known.{Known}
use Rattle.refute_tree.specs.declared.ends.Seen.{Seen}
use Rattle.refute_tree.specs.declared.one_box.OneBox.{OneBox}
use Rattle.refute_tree.proofs.Missing.{IsAsked, not-missed}

-- the walk up to a link is told by the links up to it
walk_to-take : (links : List (ℕ × ℕ)) (n p : ℕ) → p < n → walk_to (take n links) (Some p) ≡ walk_to links (Some p)
walk_to-take links n p less =
    ap₂ (λ (l : List (ℕ × ℕ)) (k : ℕ). walk_of l k) (take-take (p + 1) n links (omega (arith, less))) (ap (λ (x : ℕ × ℕ). x.0) (get_or-take n links p (0, 0) less))

-- ---- one rule

seen-more : (links more : List (ℕ × ℕ)) (run : List ℕ) (s : Seen) → IsSeen links run s → IsSeen (links ++ more) run s
seen-more links more run s is = record {
  cell = omega (arith, is.cell, length-append links more);
  some = is.some;
  within = is.within;
  before = is.before;
  ends = sym (walk_to-take (links ++ more) (length links) s.cell is.cell) ∙ ap (λ l. walk_to l (Some s.cell)) (take-append_seam links more) ∙ is.ends;
}

-- one edge more
extend : (run before walk : List ℕ) (e n : ℕ) → walk ≡ before ++ take n run → n < length run → e ≡ slice_index run n → walk ++ e ∷ [] ≡ before ++ take (n + 1) run
extend run before walk e n is inside same =
    ap (λ w. w ++ e ∷ []) is ∙ append_assoc before (take n run) (e ∷ []) ∙ ap (λ l. before ++ l) (ap (λ d. take n run ++ d ∷ []) same ∙ sym (take_more run n 0 inside))

pub seen-next : (links : List (ℕ × ℕ)) (run : List ℕ) (s : Seen) (newest : ℕ) → newest < length links → IsSeen links run s → latest_of links (slot_in links newest) newest ≡ Some s.cell
    → s.count < length run → edge_in links newest ≡ slice_index run s.count → IsSeen links run (record { cell = newest; count = s.count + 1 })
seen-next links run s newest less is next inside same = record {
  cell = less;
  some = omega arith;
  within = omega (arith, inside);
  before = is.before;
  ends = to_before links newest (Some s.cell) less (sym next) ∙ extend run is.before (walk_to links (Some s.cell)) (edge_in links newest) s.count is.ends inside same;
}

pub seen-first : (links : List (ℕ × ℕ)) (run : List ℕ) (newest : ℕ) → newest < length links → 0 < length run → edge_in links newest ≡ slice_index run 0 → IsSeen links run (record { cell = newest; count = 1 })
seen-first links run newest less some same =
    let walk : List ℕ = walk_to links (latest_of links (slot_in links newest) newest) in
    let one : 0 + 1 ≡ 1 = omega arith in
    record {
      cell = less;
      some = omega arith;
      within = omega (arith, some);
      before = walk;
      ends = to_before links newest (latest_of links (slot_in links newest) newest) less refl ∙ extend run walk walk (edge_in links newest) 0 (sym (append-nil walk)) some same
          ∙ ap (λ n. walk ++ take n run) one;
    }

-- ---- overlapping

agree-whole : (run rest : List ℕ) → agree (run ++ rest) run ≡ true
agree-whole [] [] = refl
agree-whole [] (y ∷ rest) = refl
agree-whole (x ∷ run) rest = and_from (x == x) (agree (run ++ rest) run) (eq-eqb x x refl) (agree-whole run rest)

agree-front : (n : ℕ) (run : List ℕ) → agree (take n run) run ≡ true
agree-front zero run = refl
agree-front (suc n) [] = refl
agree-front (suc n) (x ∷ run) = and_from (x == x) (agree (take n run) run) (eq-eqb x x refl) (agree-front n run)

overlaps-from : (walk before front run : List ℕ) → walk ≡ before ++ front → 0 < length front → agree front run ≡ true → Overlaps walk run
overlaps-from walk before front run is some same = (
  length before,
  omega (arith, ap length is, length-append before front, some),
  ap (λ l. agree l run) (ap (drop (length before)) is ∙ drop-append_seam before front) ∙ same,
)

-- the walk of a slot goes on from each of its links
walk_of-on : (links : List (ℕ × ℕ)) (p : ℕ) → (rest : List ℕ) × (walk_of links (slot_in links p) ≡ walk_to links (Some p) ++ rest)
walk_of-on links p =
    let k : ℕ = slot_in links p in (
      walk_of (drop (p + 1) links) k,
      ap (λ l. walk_of l k) (sym (take-append-drop (p + 1) links))
          ∙ ap (map (λ (l : ℕ × ℕ). l.1)) (filter-append (λ (l : ℕ × ℕ). l.0 == k) (take (p + 1) links) (drop (p + 1) links))
          ∙ map-append (λ (l : ℕ × ℕ). l.1) (filter (λ (l : ℕ × ℕ). l.0 == k) (take (p + 1) links)) (filter (λ (l : ℕ × ℕ). l.0 == k) (drop (p + 1) links)),
    )

pub seen-whole : (links : List (ℕ × ℕ)) (run : List ℕ) (s : Seen) → IsSeen links run s → s.count ≡ length run → Overlaps (walk_of links (slot_in links s.cell)) run
seen-whole links run s is all =
    let on = walk_of-on links s.cell in
    let rest : List ℕ = on.0 in
    let whole : take s.count run ≡ run = take_all s.count run (omega (arith, all)) in
    overlaps-from (walk_of links (slot_in links s.cell)) is.before (run ++ rest) run
    (on.1 ∙ ap (λ w. w ++ rest) (is.ends ∙ ap (λ l. is.before ++ l) whole) ∙ append_assoc is.before run rest)
    (omega (arith, length-append run rest, is.some, all)) (agree-whole run rest)

pub seen-last : (links : List (ℕ × ℕ)) (run : List ℕ) (s : Seen) → IsSeen links run s → walk_to links (Some s.cell) ≡ walk_of links (slot_in links s.cell) → Overlaps (walk_of links (slot_in links s.cell)) run
seen-last links run s is last =
    overlaps-from (walk_of links (slot_in links s.cell)) is.before (take s.count run) run (sym last ∙ is.ends)
    (omega (arith, length-take-le s.count run is.within, is.some)) (agree-front s.count run)

-- ---- all rules

pub seen_all-more : (rules : List (List ℕ)) (links new : List (ℕ × ℕ)) (x : ℕ × ℕ) (k : Known) → new ≡ links ++ x ∷ [] → AreSeen rules links k → AreSeen rules new k
seen_all-more rules links new x k is are = subst (λ l. AreSeen rules l k) (sym is) (record {
  same = are.same;
  each = are.each;
  seen = λ r inside. more r (get_or k.seen.items r None) (are.seen r inside);
}) where
  more : (r : ℕ) (o : Option Seen) → IfSome o (IsSeen links (get_or rules r [])) → IfSome o (IsSeen (links ++ x ∷ []) (get_or rules r []))
  more r None says = tt
  more r (Some s) says = seen-more links (x ∷ []) (get_or rules r []) s says

-- the first rules are set back, and the others are not yet
pub record AreSetBack (rules : List (List ℕ)) (links : List (ℕ × ℕ)) (place : ℕ) (k : Known) : Type 0 where
  pub same : k.rules.now ≡ rules
  pub each : length k.seen.items ≡ length rules
  pub done : (r : ℕ) → r < place → IfSome (get_or k.seen.items r None) (IsSeen (take (length links - 1) links) (get_or rules r []))
  pub left : (r : ℕ) → place ≤ r → r < length rules → IfSome (get_or k.seen.items r None) (IsSeen links (get_or rules r []))

-- a slot that is known to overlap a rule may contain it
pub misses-known : (g : Graph) (p : Problem) (a : OneBox) (kept : Beside) (rule : ℕ) → IsTrue (list_all (is_run g) p.rules) → rule < length p.rules → IsOneBox g a → IsSummedUp (instance g p) a kept
    → IsOnWay kept.sums.uppers.items a.links (get_or p.rules rule []) → misses (instance g p) (place_of a).box rule ≡ false
misses-known g p a kept rule rules is_rule one beside way =
    let run : List ℕ = get_or p.rules rule [] in
    let asked : IsAsked g a kept.sums run = record { box = one; bounds = beside.sums.bounds; is_run = rule-run g p.rules rule run rules is_rule refl } in
    not-missed g a kept.sums run way.slot asked way.inside way.positive (inr way.overlaps)
