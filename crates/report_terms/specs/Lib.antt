pub mod NetFacts
