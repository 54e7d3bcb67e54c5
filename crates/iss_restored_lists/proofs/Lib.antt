pub mod EventsAgain
pub mod CallsAgain
pub mod NoticesAgain
pub mod PushedSums
pub mod StandInsAgain
pub mod CountersAgain
