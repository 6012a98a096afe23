use Rattle.std.proofs.Common.{◌≡◌, ◌+◌, List, ℕ, map, take, get_or, ap, subst, arith, Bor}
use Rattle.std.specs.Prelude.{Contains, ◌↔◌}
use Rattle.std.proofs.lemmas.List.{map_more, take_all}
use Rattle.std.proofs.lemmas.Result.{IfOk-weaker}
use Rattle.safe_paths.specs.Places.{run_at, runs_at, AreInOrder}
use Rattle.safe_paths.proofs.Inserting.{insert-more}
use Rattle.safe_paths.proofs.writing.in_order.Goals as goal

pub loop-place-preserved : goal.loop-place-preserved
loop-place-preserved c =
    let places = c.args.places.now in
    let i = c.loop-place.place-index in
    let d = get_or places i (record { path = 0; from = 0; to = 0 }) in
    insert-more (λ (run : Bor (List ℕ)). run.now) c.loop-place.runs.keys c.insert.new.self.keys c.run_at.result (runs_at c.args.answer.now (take i places)) (runs_at c.args.answer.now (take (i + 1) places))
    (run_at c.args.answer.now d) c.in_ok-insert.ensures.keys (map_more (run_at c.args.answer.now) places i (record { path = 0; from = 0; to = 0 }) (omega arith)) c.run_at.ensures c.loop-place.invariant

pub returns : goal.returns
returns c =
    let all : runs_at c.args.answer.now (take c.loop-place.place-index c.args.places.now) ≡ runs_at c.args.answer.now c.args.places.now
    = ap (runs_at c.args.answer.now) (take_all c.loop-place.place-index c.args.places.now (omega arith)) in
    IfOk-weaker c.written_out.result (AreInOrder (map (λ run. run.now) c.loop-place.runs.keys)) (AreInOrder (runs_at c.args.answer.now c.args.places.now))
    (λ lists ordered. record {
      rising = ordered.rising;
      same = λ r.
          let now : Contains (map (λ run. run.now) c.loop-place.runs.keys) r ↔ Contains (runs_at c.args.answer.now c.args.places.now) r
          = subst (λ l. Contains (map (λ run. run.now) c.loop-place.runs.keys) r ↔ Contains l r) all (c.loop-place.invariant r) in
          (λ h. now.0 ((ordered.same r).0 h), λ h. (ordered.same r).1 (now.1 h));
    })
    c.written_out.ensures
