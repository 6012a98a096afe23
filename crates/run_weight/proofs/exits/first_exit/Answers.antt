use Rattle.std.proofs.Common.{◌∙◌, slice_index, take, sym, subst, arith, inl, inr}
use Rattle.std.proofs.lemmas.Bool.{cases_eq, both_ways}
use Rattle.std.proofs.lemmas.Bool.Decides.{Decides-eqb}
use Rattle.std.proofs.lemmas.Slice.Eq.{ends_is}
use Rattle.decomposition.specs.Graph.{tail}
use Rattle.run_weight.specs.Exits.{IsExit}
use Rattle.run_weight.proofs.exits.first_exit.Goals as goal
use Rattle.run_weight.proofs.exits.first_exit.Goals.{else-along-gt0-via-then-along-gt0+then-path-at+else-not-ends_with, else-along-gt0-via-then-along-gt0+else-path-at, else-along-gt0-via-else-along-gt0}

pub returns-then-not-ends_with-clause-found : goal.returns-then-not-ends_with-clause-found
returns-then-not-ends_with-clause-found c =
    let listed = c.requires.places.there c.tail.result (omega arith) in
    record {
      on_path = omega arith;
      behind_first = omega arith;
      on_run = listed.0;
      meets = sym c.tail.ensures.tail ∙ sym listed.1;
      other = c.if-path-at.true;
      apart = λ ends. both_ways c.ends_with.result c.if-not-ends_with.true ((ends_is Decides-eqb (take c.loop-at.at c.args.path.now) (take (slice_index c.args.places.now c.tail.result) c.args.run.now) c.ends_with.result c.ends_with.ensures.value).1 ends.0 ends.1);
    }

pub loop-at-preserved : goal.loop-at-preserved
loop-at-preserved c = λ k low exit.
    elim (cases_eq k c.loop-at.at) [
      | inr earlier ↦ c.loop-at.invariant k (omega (arith, earlier)) exit
      | inl same ↦
          let g = c.args.net.now in
          let path = c.args.path.now in
          let run = c.args.run.now in
          let here : IsExit g run path c.loop-at.at (slice_index c.args.places.now (tail g (slice_index path c.loop-at.at)))
          = subst (λ n. IsExit g run path n (slice_index c.args.places.now (tail g (slice_index path n)))) same exit in
          let now : IsExit g run path c.loop-at.at (slice_index c.args.places.now c.tail.result)
          = subst (λ v. IsExit g run path c.loop-at.at (slice_index c.args.places.now v)) (sym c.tail.ensures.tail) here in
          elim c.else-along-gt0.branch [
            | else-along-gt0-via-then-along-gt0+then-path-at+else-not-ends_with w ↦
                let ends = (ends_is Decides-eqb (take c.loop-at.at path) (take (slice_index c.args.places.now c.tail.result) run) w.ends_with.result w.ends_with.ensures.value).0 w.if-not-ends_with.false in
                now.apart (_, ends)
            | else-along-gt0-via-then-along-gt0+else-path-at w ↦ now.other w.if-path-at.false
            | else-along-gt0-via-else-along-gt0 w ↦ omega (arith, now.behind_first, w.if-along-gt0.false)
          ]
    ]
