pub mod Objects
pub mod CallTexts
pub mod Bodies
pub mod PlainBodies
pub mod Echoes
pub mod EachOutcome
