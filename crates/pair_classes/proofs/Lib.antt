pub mod WindowLemmas
pub mod ApartLemmas
pub mod GroupLemmas
pub mod PricedLemmas
pub mod ListedLemmas
