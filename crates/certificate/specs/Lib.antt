pub mod Plan
pub mod CertificateText
pub mod Parts
pub mod Line
pub mod Draft
pub mod BadLine
pub mod FaultText
