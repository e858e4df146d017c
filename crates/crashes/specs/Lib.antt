-- A disk in a file that keeps its calls.
pub mod Ready
