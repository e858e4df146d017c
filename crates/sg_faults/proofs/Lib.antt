pub mod AskingLemmas
pub mod UnarmedLemmas
pub mod QuietLemmas
mod SparedLemmas
mod UnmetLemmas
