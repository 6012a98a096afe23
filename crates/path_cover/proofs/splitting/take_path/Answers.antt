use Rattle.std.proofs.Common.{◌∷◌, [], ◌-◌, length, length-append, slice_index, slice_set, sym, ap, subst, arith}
use Rattle.path_cover.specs.Load.{IsNextLeft}
use Rattle.path_cover.proofs.Sending.{IsRaised-unset}
use Rattle.path_cover.proofs.SplitFlow.{Takes, Takes-length, Takes-more, Takes-all}
use Rattle.path_cover.proofs.splitting.take_path.Goals as goal

pub loop-next-smaller : goal.loop-next-smaller
loop-next-smaller c =
    let path = c.loop-next.path in
    let e = c.in-Some.e in
    let t = rw c.in-Some.is at c.loop-next.invariant in
    omega (arith, Takes-length c.args.net.now (slice_index c.args.rest.now) c.args.first c.requires.net path (slice_index c.loop-next.rest) e t, ap length c.in_ok-push.ensures.ok, length-append path (e ∷ []))

pub loop-next-preserved : goal.loop-next-preserved
loop-next-preserved c =
    let g = c.args.net.now in
    let old = slice_index c.args.rest.now in
    let path = c.loop-next.path in
    let rest = c.loop-next.rest in
    let e = c.in-Some.e in
    let t = rw c.in-Some.is at c.loop-next.invariant in
    let new = slice_set rest e (slice_index rest e - 1) in
    let raised = IsRaised-unset rest e (omega (arith, t.next.0)) (omega (arith, t.next.2)) in
    let left = subst (λ v. IsNextLeft g (slice_index new) v c.next_left-next.result) c.head.ensures.head c.next_left-next.ensures in
    subst (λ p. Takes g old c.args.first p (slice_index new) c.next_left-next.result) (sym c.in_ok-push.ensures.ok)
    (Takes-more g old c.args.first path (slice_index rest) (slice_index new) e c.next_left-next.result t raised left)

pub returns-clause-path : goal.returns-clause-path
returns-clause-path c =
    (Takes-all c.args.net.now (slice_index c.args.rest.now) c.args.first c.loop-next.path (slice_index c.loop-next.rest) c.requires.source c.requires.left (rw c.in_default.is at c.loop-next.invariant)).path

pub returns-clause-balanced : goal.returns-clause-balanced
returns-clause-balanced c =
    (Takes-all c.args.net.now (slice_index c.args.rest.now) c.args.first c.loop-next.path (slice_index c.loop-next.rest) c.requires.source c.requires.left (rw c.in_default.is at c.loop-next.invariant)).balanced
