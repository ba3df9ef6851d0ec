mod Numerals
mod Hex
mod Cuts
mod Words
