use Rattle.std.proofs.Common.{◌≡◌, ◌++◌, ◌∷◌, [], length, length-append, slice_index, sym, ap, subst, arith}
use Rattle.greedy_paths.specs.Widest.{IsWideOutOf, IsFirstEdge}
use Rattle.greedy_paths.proofs.Choosing.{Begins, Begins-start, Begins-more, Begins-length}
use Rattle.greedy_paths.proofs.widest.first_path.Goals as goal

pub loop-next-init : goal.loop-next-init
loop-next-init c =
    let g = c.args.net.now in
    let rest = slice_index c.args.rest.now in
    subst (λ path. Begins g rest c.args.width path c.first_wide-next.result) (sym c.new-path.ensures) (Begins-start g rest c.args.width c.first_wide-next.result c.first_wide-next.ensures)

pub loop-next-smaller : goal.loop-next-smaller
loop-next-smaller c =
    let path = c.loop-next.path in
    let e = c.in-Some.e in
    let begun = rw c.in-Some.is at c.loop-next.invariant in
    let is : c.push.new.self ≡ path ++ e ∷ [] = c.in_ok-push.ensures.ok in
    omega (arith, Begins-length c.args.net.now (slice_index c.args.rest.now) c.args.width path e c.requires.net begun, ap length is, length-append path (e ∷ []))

pub loop-next-preserved : goal.loop-next-preserved
loop-next-preserved c =
    let g = c.args.net.now in
    let rest = slice_index c.args.rest.now in
    let path = c.loop-next.path in
    let e = c.in-Some.e in
    let begun = rw c.in-Some.is at c.loop-next.invariant in
    let is : c.push.new.self ≡ path ++ e ∷ [] = c.in_ok-push.ensures.ok in
    let next = subst (λ v. IsFirstEdge g (IsWideOutOf g rest c.args.width v) c.next_wide-next.result) c.head.ensures.head c.next_wide-next.ensures in
    subst (λ p. Begins g rest c.args.width p c.next_wide-next.result) (sym is) (Begins-more g rest c.args.width path e c.next_wide-next.result begun next)
