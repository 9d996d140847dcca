pub mod WordByWord
