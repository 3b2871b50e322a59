mod DigitLemmas
mod Rests
