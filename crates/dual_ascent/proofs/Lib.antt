pub mod EntryLemmas
pub mod OrderLemmas
pub mod TotalLemmas
pub mod WorthLemmas
