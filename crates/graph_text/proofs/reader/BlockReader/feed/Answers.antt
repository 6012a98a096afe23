use Rattle.graph_text.proofs.reader.BlockReader.feed.Goals as goal

pub returns-in-Ok-clause-feeds : goal.returns-in-Ok-clause-feeds
returns-in-Ok-clause-feeds c = λ none bytes stands.
    let cuts = c.in-Ok.ensures.cuts bytes stands.holds in
    record {
      stands = record { holds = cuts.holds };
      outcome = cuts.outcome;
      first = cuts.first;
    }
