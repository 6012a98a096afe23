use Rattle.std.proofs.Common.{ap, sym, ◌∙◌}
use Rattle.graph_text.specs.Lines.{begins_with_hash}
use Rattle.graph_text.proofs.Splitting.{hash_kind, begins_with_hash-starts_with}
use Rattle.graph_text.proofs.fields.is_hash_text.Goals as goal

pub returns : goal.returns
returns c =
    c.starts_with.ensures.value ∙ begins_with_hash-starts_with c.after_blanks.result.now ∙ ap begins_with_hash c.after_blanks.ensures ∙ sym (hash_kind c.args.text.now)
