mod BesideNothing
pub mod EntryKeys
pub mod ExtendingLemmas
pub mod MemberLemmas
pub mod ReplaceLemmas
pub mod SiftLemmas
pub mod SymmetricLemmas
pub mod UnionLemmas
pub mod WalkLemmas
