use Rattle.std.proofs.Common.{◌≡◌, ℕ, ◌<◌, List, length, slice_index, refl, sym, ap, subst, ◌∙◌, arith, rules}
use Rattle.std.specs.Prelude.{ℤ, pos, negsuc, ◌-ℤ◌, ◌<ℤ◌, ◌≤ℤ◌, IfSome, IfNone}
use Rattle.std.proofs.lemmas.Int.{ints}
use Rattle.std.proofs.lemmas.List.{with_items_is, places}
use Rattle.error_flow.specs.Nearest.{change}
use Rattle.error_flow.specs.Certificate.{level_at, bound, AreAllowed, ProvesNearest}
use Rattle.error_flow.specs.Tight.{IsTightFlow, total_of}
use Rattle.error_flow.specs.Climb.{Climbs}
use Rattle.error_flow.proofs.Bounding.{certificates_prove}
use Rattle.error_flow.proofs.Climbing.{tight-proves, tight-most_all, bound-most}
use Rattle.error_flow.proofs.ascent.climb.Goals as goal
use borrow.Author.Differences.{up, down}

-- what is not below 0 is a number
whole : (z : ℤ) → pos 0 ≤ℤ z → down z ≡ 0
whole (pos n) h = refl
whole (negsuc n) h = absurd (omega (arith, ints))

-- a greater bound is less far below the sum
falls : (total : ℕ) (old new : ℤ) → old <ℤ new → new ≤ℤ pos total → up (pos total -ℤ new) < up (pos total -ℤ old)
falls total old new higher most =
    let above : down (pos total -ℤ new) ≡ 0 = whole (pos total -ℤ new) (omega (arith, ints)) in
    let above_old : down (pos total -ℤ old) ≡ 0 = whole (pos total -ℤ old) (omega (arith, ints)) in
    omega (arith, ints)

pub returns-in-Some-clause-proof : goal.returns-in-Some-clause-proof
returns-in-Some-clause-proof c =
    let g = c.args.net.now in
    let weights = c.args.weights.now in
    let at = c.deref_mut.result.now in
    let tight = subst (λ found. IfSome found (IsTightFlow g (slice_index weights) (level_at at))) c.in-Some.is c.in_ok-flow.ensures.found in
    let kept = subst (λ found. IfSome found (λ _. c.step.new.levels ≡ at)) c.in-Some.is c.in_ok-flow.ensures.kept in
    let allowed = subst (λ (xs : List ℤ). AreAllowed g (level_at xs)) (sym c.deref_mut.ensures.value) c.loop-levels.invariant.1 in
    let count = ap (λ (xs : List ℤ). length xs) c.deref_mut.ensures.value ∙ c.loop-levels.invariant.0 in
    let is = c.change-change.ensures ∙ ap (λ (f : List ℕ). change g (slice_index weights) (slice_index f)) c.as_slice.ensures in
    subst (λ (ls : List ℤ). ProvesNearest g weights c.in-Some.flow ls c.change-change.result) (sym (c.of.ensures ∙ with_items_is c.loop-levels.levels c.step.new.levels (search (rules, places)) ∙ kept))
    (tight-proves g weights c.in-Some.flow at c.change-change.result c.in_ok-flow.ensures.net c.in_ok-flow.ensures.few count c.in_ok-flow.ensures.total allowed tight is)

pub returns-in-Some-clause-most : goal.returns-in-Some-clause-most
returns-in-Some-clause-most c =
    tight-most_all c.args.net.now c.args.weights.now c.in-Some.flow c.deref_mut.result.now
    (subst (λ found. IfSome found (IsTightFlow c.args.net.now (slice_index c.args.weights.now) (level_at c.deref_mut.result.now))) c.in-Some.is c.in_ok-flow.ensures.found)

pub returns-in-Some-clause-nearest : goal.returns-in-Some-clause-nearest
returns-in-Some-clause-nearest c =
    certificates_prove c.args.net.now c.args.weights.now c.in-Some.flow c.of.result c.change-change.result c.in_ok-flow.ensures.net (returns-in-Some-clause-proof c)

pub loop-levels-smaller : goal.loop-levels-smaller
loop-levels-smaller c =
    let g = c.args.net.now in
    let weight = slice_index c.args.weights.now in
    let climbs = subst (λ found. IfNone found (Climbs g weight (level_at c.deref_mut.result.now) (level_at c.step.new.levels))) c.in_default.is c.in_ok-flow.ensures.climbs in
    let most = bound-most g weight (level_at c.step.new.levels) c.in_ok-flow.ensures.net climbs.allowed in
    let measure : List ℤ → ℕ = λ xs. up (pos (total_of g weight) -ℤ bound g weight (level_at xs)) in
    let less : measure c.step.new.levels < measure c.deref_mut.result.now = falls (total_of g weight) _ _ climbs.higher most in
    subst (λ (xs : List ℤ). measure xs < measure c.loop-levels.levels.items) (sym (with_items_is c.loop-levels.levels c.step.new.levels (search (rules, places))))
    (subst (λ (xs : List ℤ). measure c.step.new.levels < measure xs) c.deref_mut.ensures.value less)
