use Rattle.std.proofs.Common.{◌≡◌, ◌-◌, ◌∙◌, ap, arith, true, length-append, refl, if◌then◌else◌, ◌++◌, take}
use Rattle.std.proofs.lemmas.Bool.{cond-true}
use Rattle.std.specs.Prelude.{Result, Ok, Err, OnOk, is_ok}
use Rattle.graph_text.specs.Blocks.{after_blanks}
use Rattle.graph_text.specs.OpenLine.{most_kept}
use Rattle.graph_text.proofs.KeptLines.{kept-longer, one_line-more}
use Rattle.graph_text.proofs.open_line.OpenLine.extend.Goals as goal

on_ok : {T E P : Type 0} (r : Result T E) → (is_ok r ≡ true → P) → OnOk r P
on_ok (Ok x) h = h refl
on_ok (Err e) h = tt

pub returns : goal.returns
returns c = on_ok c.extend_from_slice.result (λ ok bytes held. record {
  counted = omega (arith, held.counted, length-append bytes c.args.span.now, c.len.ensures, c.saturating_add-self.ensures);
  kept =
      let old = c.args.self.now.text in
      c.extend_from_slice.ensures.items ∙ cond-true _ _ _ ok ∙ ap (λ n. old.items ++ take n c.begun-begun.result.now) c.min.ensures
      ∙ kept-longer bytes c.args.span.now old.items c.begun-begun.result.now _ c.saturating_sub-room.result held.kept old.ok.0
      (c.saturating_sub-room.ensures ∙ ap (λ n. most_kept - n) c.len.ensures)
      (c.begun-begun.ensures ∙ ap (λ b. if b then after_blanks c.args.span.now else c.args.span.now) c.is_empty.ensures);
})

pub invariant_of-self : goal.invariant_of-self
invariant_of-self c = record {
  one_line =
      one_line-more (is_ok c.extend_from_slice.result) c.is_empty.result c.args.self.now.text.items c.begun-begun.result.now c.args.span.now c.extend_from_slice.new.self.items c.min.result
      c.extend_from_slice.ensures.items c.begun-begun.ensures c.args.self.now.one_line c.requires.one_line;
}
