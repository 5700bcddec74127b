pub mod Grouping
pub mod Unique
pub mod InReplies
pub mod Plans
pub mod BindLaws
pub mod OnePlan
pub mod Numbers
