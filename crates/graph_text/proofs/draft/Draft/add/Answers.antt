use Rattle.std.proofs.Common.{◌<◌, sym, subst, ◌∙◌}
use Rattle.std.specs.List.{All}
use Rattle.graph_text.specs.Reading.{Line}
use Rattle.std.proofs.lemmas.Result.{on_ok_weaker}
use Rattle.graph_text.proofs.Drafting.{Drafts-blank}
use Rattle.graph_text.proofs.KindsOfLines.{hash-run}
use Rattle.graph_text.proofs.draft.Draft.add.Goals as goal

pub returns-then-is_blank_text : goal.returns-then-is_blank_text
returns-then-is_blank_text c = λ mode lines line drafts below shows.
    Drafts-blank mode lines line c.args.self.now drafts (subst (λ n. All (λ (k : Line). k.number < n) lines) (sym shows.number_is) below) (record { none = shows.blank ∙ sym c.is_blank_text.ensures ∙ c.if-is_blank_text.true })

pub returns-then-is_run_text : goal.returns-then-is_run_text
returns-then-is_run_text c =
    on_ok_weaker c.add_run.result
    (λ adds mode lines line drafts below shows.
    let run = shows.run ∙ sym c.is_run_text.ensures ∙ c.if-is_run_text.true in
    adds mode lines line drafts below shows
    (record {
      is_hash = record {
        some = shows.blank ∙ sym c.is_blank_text.ensures ∙ c.if-is_blank_text.false;
        hash = hash-run line.fields run;
      };
      run = run;
    }))
    c.add_run.ensures

pub returns-then-is_hash_text : goal.returns-then-is_hash_text
returns-then-is_hash_text c = λ mode lines line drafts below shows.
    c.add_comment.ensures mode lines line c.args.text.now drafts below shows
    (record {
      is_hash = record {
        some = shows.blank ∙ sym c.is_blank_text.ensures ∙ c.if-is_blank_text.false;
        hash = shows.hash ∙ sym c.is_hash_text.ensures ∙ c.if-is_hash_text.true;
      };
      no_run = shows.run ∙ sym c.is_run_text.ensures ∙ c.if-is_run_text.false;
    })

pub returns-then-self : goal.returns-then-self
returns-then-self c =
    on_ok_weaker c.add_edge.result
    (λ adds mode lines line drafts below shows.
    adds mode lines line drafts below shows
    (record {
      some = shows.blank ∙ sym c.is_blank_text.ensures ∙ c.if-is_blank_text.false;
      no_hash = shows.hash ∙ sym c.is_hash_text.ensures ∙ c.if-is_hash_text.false;
    }))
    c.add_edge.ensures

pub returns : goal.returns
returns c =
    on_ok_weaker c.add_count.result
    (λ adds mode lines line drafts below shows.
    adds mode lines line drafts below shows
    (record {
      some = shows.blank ∙ sym c.is_blank_text.ensures ∙ c.if-is_blank_text.false;
      no_hash = shows.hash ∙ sym c.is_hash_text.ensures ∙ c.if-is_hash_text.false;
    }))
    c.add_count.ensures
