pub mod GivenLemmas
pub mod DedupLemmas
pub mod OrderLemmas
pub mod RunLemmas
pub mod SortLemmas
