pub mod FirstLemmas
pub mod ClashLemmas
pub mod CostLemmas
pub mod RecordLines
pub mod PlanTexts
