pub mod MergeLemmas
pub mod MergedLemmas
