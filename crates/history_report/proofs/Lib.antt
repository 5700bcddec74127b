pub mod KindLaws
pub mod LostLaws
