use Rattle.std.proofs.Common.{◌≡◌, ◌<◌, length, sym, ap, ap₂, ◌∙◌, ◌++◌, ◌∷◌, [], List, ℕ, arith}
use Rattle.decomposition.specs.Boxes.{upper_at}
use Rattle.decomposition.specs.Held.{box_paths}
use Rattle.link_cells.specs.Links.{walk_of}
use Rattle.refute_tree.specs.OneBox.{place_of}
use Rattle.refute_tree.proofs.FirstBoxes.{upper-read, box_paths-more, box_paths-none}
use Rattle.refute_tree.proofs.Placing.{slots_from-length, walk_at}
use Rattle.refute_tree.proofs.answer.first_paths.Goals as goal
use Rattle.refute_tree.proofs.answer.first_paths.Goals.{then-upper-ge1+in_ok-spell+in_ok-push, else-upper-ge1}

pub loop-k-preserved : goal.loop-k-preserved
loop-k-preserved c =
    let a = c.args.one.now in
    let b = (place_of a).box in
    let k = c.loop-k.k in
    let long = slots_from-length 0 a.ranges.items a.links.links in
    let inside : k < length b = omega (arith, long) in
    let upper : upper_at b k ≡ c.index-upper.result.now = upper-read b c.args.sums.now k c.index-upper.result.now (omega (arith, long, c.requires.room)) c.requires.bounds inside c.index-upper.ensures in
    elim c.if-upper-ge1.branch [
      | then-upper-ge1+in_ok-spell+in_ok-push w ↦
          w.answer-is ∙ w.in_ok-push.ensures.ok ∙ ap₂ (λ (entries : List (List ℕ × ℕ)) walk. entries ++ (walk, c.index-upper.result.now) ∷ []) c.loop-k.invariant w.in_ok-spell.ensures
          ∙ sym (box_paths-more b k c.index-upper.result.now (walk_of a.links.links k) upper (omega arith) (walk_at a.ranges.items a.links.links k (omega (arith, inside, long))))
      | else-upper-ge1 w ↦ w.answer-is ∙ c.loop-k.invariant ∙ sym (box_paths-none b k (omega (arith, upper)))
    ]

pub returns : goal.returns
returns c =
    let a = c.args.one.now in
    let all : c.loop-k.k ≡ length (place_of a).box = omega (arith, slots_from-length 0 a.ranges.items a.links.links) in
    c.loop-k.invariant ∙ ap (box_paths (place_of a).box) all
