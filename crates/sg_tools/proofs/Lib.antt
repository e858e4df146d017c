-- Digits, numbers and lists of numbers.
pub mod DataOutLemmas
pub mod DigitLemmas
pub mod HexWordLemmas
pub mod NumberLemmas
pub mod NumberListLemmas
-- Options, and the requests that they make.
pub mod OptionLemmas
pub mod ActionLemmas
pub mod RequestLemmas
-- Parameter lists.
pub mod UnmapLemmas
pub mod ParameterLemmas
