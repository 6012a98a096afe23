use Rattle.std.proofs.Common.{◌≡◌, ◌++◌, ◌∷◌, [], None, length, length-append, slice_index_or, sym, ap, subst, arith}
use Rattle.greedy_paths.proofs.Following.{LeadsForth, LeadsForth-more, LeadsForth-length, LeadsForth-all}
use Rattle.greedy_paths.proofs.booking.edges_forth.Goals as goal

pub loop-next-smaller : goal.loop-next-smaller
loop-next-smaller c =
    let forth = c.loop-next.forth.items in
    let e = c.in-Some.e in
    let begun = rw c.in-Some.is at c.loop-next.invariant in
    let is : c.push.new.self.items ≡ forth ++ e ∷ [] = c.in_ok-push.ensures.items in
    omega (arith, LeadsForth-length c.args.net.now c.args.out_of.now c.args.v c.requires.net c.requires.listed forth e begun, ap length is, length-append forth (e ∷ []))

pub loop-next-preserved : goal.loop-next-preserved
loop-next-preserved c =
    let g = c.args.net.now in
    let out_of = c.args.out_of.now in
    let begun = rw c.in-Some.is at c.loop-next.invariant in
    let next = slice_index_or out_of c.head.result None in
    subst (λ forth. LeadsForth g out_of c.args.v forth next) (sym c.in_ok-push.ensures.items)
    (LeadsForth-more g out_of c.args.v c.requires.net c.requires.listed c.loop-next.forth.items c.in-Some.e next begun (ap (λ v. slice_index_or out_of v None) (sym c.head.ensures.head)))

pub returns : goal.returns
returns c = LeadsForth-all c.args.net.now c.args.out_of.now c.args.v c.requires.listed c.loop-next.forth.items (rw c.in_default.is at c.loop-next.invariant)
