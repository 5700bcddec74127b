pub mod EscapingLaws
pub mod PageLaws
pub mod ReadingLaws
pub mod TextLaws
