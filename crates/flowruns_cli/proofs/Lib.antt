mod Weights
mod Loads
mod RunLines
mod RunTexts
mod Texts
