pub mod CallTokens
pub mod Wordings
pub mod GatewayTexts
pub mod AnswerLines
pub mod DrillLines
pub mod BalanceLines
pub mod Spelling
