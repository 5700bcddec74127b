pub mod Exchanges
pub mod Accounts
pub mod Stripping
