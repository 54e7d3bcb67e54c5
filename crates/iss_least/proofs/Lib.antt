pub mod EventWeights
pub mod AskedAgain
pub mod FormsAgain
pub mod PartsToldAgain
pub mod LeastSteps
