pub mod PlanText
pub mod Line
pub mod Draft
pub mod BadLine
pub mod FaultText
