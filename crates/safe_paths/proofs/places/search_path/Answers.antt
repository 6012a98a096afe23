use Rattle.std.proofs.Common.{◌≡◌, ◌+◌, ◌++◌, ◌∷◌, [], ℕ, List, length, slice_index, sym, ap, ap₂, subst, ◌∙◌, arith}
use Rattle.std.proofs.lemmas.Bool.{both_ways}
use Rattle.decomposition.specs.Answer.{entry_at}
use Rattle.decomposition.specs.SafeRuns.{IsSafeFor, IsMaximal}
use Rattle.safe_paths.specs.Windows.{IsWindow, part, window_run}
use Rattle.safe_paths.specs.Places.{run_at, Finds}
use Rattle.safe_paths.specs.declared.places.Place.{Place}
use Rattle.safe_paths.proofs.Finding.{Finds-kept, Finds-push, Finds-next, only-longest, safe-rest, safe-some}
use Rattle.safe_paths.proofs.places.search_path.Goals as goal
use Rattle.safe_paths.proofs.places.search_path.Goals.{then-is_maximal+in_ok-push, else-is_maximal}

pub loop-from-preserved : goal.loop-from-preserved
loop-from-preserved c =
    let g = c.args.net.now in
    let flow = slice_index c.args.flow.now in
    let P : List ℕ → Type 0 = IsMaximal (IsSafeFor g flow) in
    let a = c.args.answer.now in
    let path = c.as_slice-path.result.now in
    let i = c.loop-from.from in
    let wide = c.widen-wide.result in
    let e = c.widen-wide.ensures in
    let next = c.without_first-window.ensures in
    let is : path ≡ (entry_at a c.args.k).0 = c.as_slice-path.ensures ∙ c.path.ensures in
    let here : wide.from ≡ i = e.from ∙ c.loop-from.invariant.1 in
    let window : IsWindow g flow path wide = e.window in
    let only = only-longest g flow a c.args.k path wide.from wide.to is e.some window.within e.safe e.longest in
    let found : Finds P a c.args.k i c.loop-from.places.items = c.loop-from.invariant.3 in (
      next.window,
      next.from ∙ ap (λ n. n + 1) here,
      λ some.
          subst (IsSafeFor g flow) (ap₂ (part path) (sym next.from) (sym next.to))
          (safe-rest g flow path wide.from wide.to (omega (arith, some, next.from, next.to)) window.within e.safe),
      elim c.if-is_maximal.branch [
        | then-is_maximal+in_ok-push w ↦
            let q : Place = record { path = c.args.k; from = i; to = wide.to } in
            let run : run_at a q ≡ window_run path wide = ap (λ (l : List ℕ). part l i wide.to) (sym is) ∙ ap (λ (n : ℕ). part path n wide.to) (sym here) in
            let items : c.if-is_maximal.places.items ≡ c.loop-from.places.items ++ q ∷ [] = ap (λ v. v.items) w.places-is ∙ w.in_ok-push.ensures.items in
            subst (Finds P a c.args.k (i + 1)) (sym items)
            (Finds-push P a c.args.k i c.loop-from.places.items q found
            (record { there = c.requires.path; ordered = omega (arith, window.ordered); within = omega (arith, window.within, ap (λ (l : List ℕ). length l) is) })
            (subst P (sym run) (c.is_maximal.ensures.0 w.if-is_maximal.true))
            (λ p there same at maximal. only p there same (at ∙ sym here) maximal ∙ sym run))
        | else-is_maximal w ↦
            subst (Finds P a c.args.k (i + 1)) (sym (ap (λ v. v.items) w.places-is))
            (Finds-kept P a c.args.k i c.loop-from.places.items found
            (λ p there same at maximal. both_ways c.is_maximal.result w.if-is_maximal.false (c.is_maximal.ensures.1 (subst P (only p there same (at ∙ sym here) maximal) maximal))))
      ],
    )

pub returns : goal.returns
returns c =
    let g = c.args.net.now in
    let flow = slice_index c.args.flow.now in
    let a = c.args.answer.now in
    let size = ap (λ (l : List ℕ). length l) (c.as_slice-path.ensures ∙ c.path.ensures) in
    Finds-next (IsMaximal (IsSafeFor g flow)) a c.args.k c.loop-from.from c.loop-from.places.items c.loop-from.invariant.3
    (omega (arith, size, c.loop-from-test.false, c.loop-from.auto.from-end))
    (λ p there maximal. safe-some g flow (entry_at a p.path).0 p.from p.to there.ordered maximal.holds)
