pub mod TwoVerifiers
