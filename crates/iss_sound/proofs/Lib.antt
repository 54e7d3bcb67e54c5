pub mod SoundSteps
pub mod Apart
pub mod InParts
