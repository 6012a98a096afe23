use Rattle.std.proofs.Common.{◌≡◌, ◌≢◌, ◌<◌, ◌≤◌, false, nat_lt, is_none, is_some, [], length, ap, sym, ◌∙◌, le-ltb, arith}
use Rattle.std.proofs.lemmas.Bool.{and_left}
use Rattle.decomposition.specs.Graph.{edge_count}
use Rattle.decomposition.specs.Tokens.{can_branch}
use Rattle.refute_tree.specs.Front.{Boxes, first_of}
use Rattle.refute_tree.proofs.Fronts.{closing-is, may_branch-open, may_branch-some, not_flip, some-boxes, first-length}
use Rattle.refute_tree.proofs.front.Front.can_branch.Goals as goal

pub returns-then-slot-len : goal.returns-then-slot-len
returns-then-slot-len c =
    let a = c.self.inside in
    let f = c.args.self.now in
    let some : f.boxes ≢ [] = some-boxes a f c.self.view_is c.if-not-self.false in
    let edges : 0 < edge_count f.instance.graph = omega (arith, ap (λ (x : Boxes). edge_count x.instance.graph) c.self.view_is) in
    let inside : c.args.slot < length (first_of f.boxes) = omega (arith, first-length a f c.self.view_is c.if-not-self.false, a.one.ranges.ok.0) in
    not_flip (is_some a.closing) c.is_none.result c.is_none.ensures ∙ ap is_none (closing-is a f c.self.view_is c.self.invariant) ∙ may_branch-open f c.args.slot some edges inside

pub returns-else-slot-len : goal.returns-else-slot-len
returns-else-slot-len c =
    let a = c.self.inside in
    let f = c.args.self.now in
    let k = c.args.slot in
    let some : f.boxes ≢ [] = some-boxes a f c.self.view_is c.if-not-self.false in
    let past : c.len.result ≤ k = omega arith in
    let beyond : length (first_of f.boxes) ≤ k = omega (arith, first-length a f c.self.view_is c.if-not-self.false, a.one.ranges.ok.0, past) in
    let fails : nat_lt k (length (first_of f.boxes)) ≡ false = le-ltb k (length (first_of f.boxes)) beyond in
    le-ltb k c.len.result past ∙ sym (may_branch-some f k some ∙ and_left (nat_lt k (length (first_of f.boxes))) (can_branch f.instance f.limit (first_of f.boxes)) fails)
