use Rattle.std.proofs.Common.{◌≡◌, ◌≢◌, ◌==◌, ◌∷◌, [], ◌||◌, ◌&&◌, ◌<◌, ℕ, Bool, length, take, get_or, cond, true, false, refl, sym, ap, ◌∙◌, arith, eq-eqb}
use Rattle.std.specs.BTreeMap.{is_at}
use Rattle.std.specs.List.{list_any}
use Rattle.std.specs.Ordering.{nat_cmp, ordering_then, is_eq}
use Rattle.std.specs.declared.cmp.Ordering.{Ordering}
use Rattle.std.specs.declared.cmp.Ordering.TheVariants.{Less, Equal, Greater}
use Rattle.std.proofs.lemmas.Bool.{both_ways, not-false, not-true, ne_eqb}
use Rattle.std.proofs.lemmas.Cmp.{ranked}
use Rattle.std.proofs.lemmas.List.{take_more}
use Rattle.std.proofs.lemmas.List.Folds.{list_any-append}
use Rattle.std.proofs.lemmas.List.Quantifiers.{all_pairs_push}
use Rattle.decomposition.specs.Graph.{same_ends}
use Rattle.decomposition.proofs.Members.{any-place, any-from_place}
use Rattle.decomposition.proofs.Nets.{same_ends-Decides}
use Rattle.dag_net.proofs.net.first_repeated.Goals as goal

pub returns-then-not-branch : goal.returns-then-not-branch
returns-then-not-branch c =
    let edges = c.args.edges.now in
    let e = c.loop-e.e in
    let edge = get_or edges e (0, 0) in
    let seen : list_any (same_ends edge) (take e edges) ≡ true = sym (c.loop-e.invariant.0 edge) ∙ not-false _ (sym c.in_ok-insert.ensures.added ∙ c.if-not-branch.true) in
    let at : (k : ℕ) × (k < length (take e edges)) × (same_ends edge (get_or (take e edges) k edge) ≡ true) = any-place (same_ends edge) (take e edges) edge seen in
    record {
      within = omega arith;
      distinct = c.loop-e.invariant.1;
      repeated = λ there. (at.0, at.1, sym ((same_ends-Decides edge (get_or (take e edges) at.0 edge)).0 at.2));
    }

-- two numbers compare as equal where they are
eq_is : (x y : ℕ) (o : Ordering) → o ≡ nat_cmp x y → is_eq o ≡ (y == x)
eq_is x y Less is = sym (ne_eqb y x (λ same. omega (arith, ranked x y Less is)))
eq_is x y Equal is = sym (eq-eqb y x (sym (ranked x y Equal is)))
eq_is x y Greater is = sym (ne_eqb y x (λ same. omega (arith, ranked x y Greater is)))

-- and so do two edges
is_at-ends : (key q : ℕ × ℕ) → is_at (λ y. ordering_then (nat_cmp key.0 y.0) (nat_cmp key.1 y.1)) q ≡ same_ends q key
is_at-ends key q = by_tail (nat_cmp key.0 q.0) refl where
  by_tail : (o : Ordering) → o ≡ nat_cmp key.0 q.0 → is_eq (ordering_then o (nat_cmp key.1 q.1)) ≡ same_ends q key
  by_tail Less is = ap (λ b. b && (q.1 == key.1)) (eq_is key.0 q.0 Less is)
  by_tail Equal is = eq_is key.1 q.1 (nat_cmp key.1 q.1) refl ∙ ap (λ b. b && (q.1 == key.1)) (eq_is key.0 q.0 Equal is)
  by_tail Greater is = ap (λ b. b && (q.1 == key.1)) (eq_is key.0 q.0 Greater is)

either : (a b : Bool) → cond a true b ≡ (b || (a || false))
either true true = refl
either true false = refl
either false true = refl
either false false = refl

pub loop-e-preserved : goal.loop-e-preserved
loop-e-preserved c =
    let edges = c.args.edges.now in
    let e = c.loop-e.e in
    let edge = get_or edges e (0, 0) in
    let more = take_more edges e (0, 0) (omega arith) in
    let new : list_any (same_ends edge) (take e edges) ≡ false = sym (c.loop-e.invariant.0 edge) ∙ not-true _ (sym c.in_ok-insert.ensures.added ∙ c.if-not-branch.false) in (
      λ q.
          c.in_ok-insert.ensures.updates.0 q
          ∙ ap (λ b. cond (is_at (λ y. ordering_then (nat_cmp edge.0 y.0) (nat_cmp edge.1 y.1)) q) true b) (c.loop-e.invariant.0 q)
          ∙ ap (λ b. cond b true (list_any (same_ends q) (take e edges))) (is_at-ends edge q)
          ∙ either (same_ends q edge) (list_any (same_ends q) (take e edges))
          ∙ sym (ap (list_any (same_ends q)) more ∙ list_any-append (same_ends q) (take e edges) (edge ∷ [])),
      rw more
          (all_pairs_push (λ a b. a ≢ b) (take e edges) edge c.loop-e.invariant.1
          (λ k d h same. both_ways (list_any (same_ends edge) (take e edges)) new (any-from_place (same_ends edge) (take e edges) d k h ((same_ends-Decides edge (get_or (take e edges) k d)).1 (sym same))))),
    )
