pub mod NamedApart
pub mod SoundAlone
pub mod SeenWorth
pub mod Totalled
pub mod Sized
pub mod ListedNames
pub mod SumsDone
