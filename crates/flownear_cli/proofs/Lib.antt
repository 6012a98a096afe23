mod LineFields
mod Weights
mod Texts
