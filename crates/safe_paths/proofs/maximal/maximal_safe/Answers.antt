use Rattle.std.proofs.Common.{List, slice_index, subst, arith}
use Rattle.std.specs.Prelude.{IfOk}
use Rattle.std.proofs.lemmas.Result.{IfOk-weaker}
use Rattle.decomposition.specs.SafeRuns.{IsSafeFor, AreMaximal}
use Rattle.safe_paths.specs.Places.{runs_at, AreInOrder}
use Rattle.safe_paths.specs.declared.places.Place.{Place}
use Rattle.safe_paths.proofs.Decomposed.{balanced-from_decomposes, IsSearched-from, AreMaximal-from_found}
use Rattle.safe_paths.proofs.maximal.maximal_safe.Goals as goal

pub search-requires : goal.search-requires
search-requires c =
    let g = c.args.net.now in
    IsSearched-from g c.args.flow.now c.in_ok-at.at c.args.answer.now
    (record {
      net = c.edges.ensures.net;
      few = omega arith;
      one_each = c.requires.one_each;
      small = c.requires.small;
      balanced = balanced-from_decomposes g c.edges.ensures.net (slice_index c.args.flow.now) c.args.answer.now c.requires.answer;
      flows = c.in_ok-at.ensures;
    })
    c.requires.answer

pub returns : goal.returns
returns c =
    let g = c.args.net.now in
    let flow = slice_index c.args.flow.now in
    let a = c.args.answer.now in
    let places = c.in_ok-places.places.items in
    IfOk-weaker c.in_order.result (AreInOrder (runs_at a places)) (AreMaximal (IsSafeFor g flow))
    (λ runs ordered. AreMaximal-from_found g flow a places runs c.requires.answer c.in_ok-places.ensures ordered)
    (subst (λ (ps : List Place). IfOk c.in_order.result (AreInOrder (runs_at a ps))) c.deref.ensures.value c.in_order.ensures)
