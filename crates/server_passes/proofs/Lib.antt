pub mod LeastLaws
pub mod LeastSteps
pub mod LaneSteps
pub mod Apart
pub mod TornLaws
pub mod Covering
pub mod Recorded
