use Rattle.std.proofs.Common.{◌≡◌, ◌+◌, ◌<◌, ◌++◌, ◌∷◌, [], ℕ, length, slice_index, sym, ap, subst, arith}
use Rattle.std.specs.Vec.{with_items}
use Rattle.std.proofs.lemmas.List.{with_items_is}
use Rattle.decomposition.specs.Graph.{edge_count}
use Rattle.decomposition.specs.Answer.{sum_below}
use Rattle.path_cover.specs.Load.{times, IsFirstLeft}
use Rattle.path_cover.proofs.SplitFlow.{Splits, Splits-more, Splits-all, falls}
use Rattle.path_cover.proofs.splitting.split.Goals as goal
use Rattle.path_cover.proofs.splitting.split.Goals.{In_ok-path}

-- the path was taken off what was left
taken : (c : In_ok-path) → (e : ℕ) → slice_index c.take_path.new.rest e + times c.in_ok-path.path e ≡ slice_index c.loop-first.rest.items e
taken c = subst (λ rest. (e : ℕ) → slice_index c.take_path.new.rest e + times c.in_ok-path.path e ≡ slice_index rest e) c.deref_mut.ensures.value c.in_ok-path.ensures.taken

pub loop-first-smaller : goal.loop-first-smaller
loop-first-smaller c =
    let g = c.args.net.now in
    let m = edge_count g in
    let rest = c.loop-first.rest.items in
    let items = with_items_is c.loop-first.rest c.take_path.new.rest (omega arith) in
    subst (λ new. sum_below (slice_index new) m < sum_below (slice_index rest) m) (sym items)
    (falls g (slice_index c.args.flow.now) (slice_index rest) (slice_index c.take_path.new.rest) c.in_ok-path.path c.in_ok-path.ensures.path (taken (goal.at.loop-first-smaller c).In_ok-path))

pub loop-first-preserved : goal.loop-first-preserved
loop-first-preserved c =
    let g = c.args.net.now in
    let flow = slice_index c.args.flow.now in
    let rest = c.loop-first.rest.items in
    let new = c.take_path.new.rest in
    let items = with_items_is c.loop-first.rest new (omega arith) in
    subst (λ cover. Splits g flow cover (with_items c.loop-first.rest new).items) (sym c.in_ok-push.ensures.ok)
    (subst (Splits g flow (c.loop-first.cover ++ c.in_ok-path.path ∷ [])) (sym items)
    (Splits-more g flow c.loop-first.cover rest new c.in_ok-path.path c.loop-first.invariant (omega (arith, ap length c.deref_mut.ensures.value)) c.in_ok-path.ensures.path
    (taken (goal.at.loop-first-preserved c).In_ok-path) c.in_ok-path.ensures.balanced))

pub returns-clause-load : goal.returns-clause-load
returns-clause-load c =
    let g = c.args.net.now in
    let rest = c.loop-first.rest.items in
    let none = subst (λ left. IsFirstLeft g (slice_index left) c.first_left.result) c.deref.ensures.value c.first_left.ensures in
    Splits-all g (slice_index c.args.flow.now) c.loop-first.cover rest c.requires.net c.loop-first.invariant (rw c.in_default.is at none)
