pub mod Places
pub mod SeenLaws
pub mod StepLaws
