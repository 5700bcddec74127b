pub mod Kept
pub mod NotedEvents
pub mod Fronts
pub mod Forwarding
pub mod Headers
pub mod Turning
pub mod Parts
pub mod RoomLeft
