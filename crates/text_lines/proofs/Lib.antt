pub mod LineFields
