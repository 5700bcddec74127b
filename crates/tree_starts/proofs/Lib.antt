pub mod KeySteps
pub mod Growing
pub mod JudgeSteps
