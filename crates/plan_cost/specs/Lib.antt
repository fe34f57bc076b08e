pub mod First
pub mod Verdict
pub mod PlanText
pub mod PlanLine
pub mod PlanReading
