pub mod Times
pub mod NeverLost
pub mod Machine
pub mod Plans
pub mod Spans
pub mod Laws
