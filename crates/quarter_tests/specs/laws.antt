-- That the rulebook with a reference price keeps the four laws: lemmas, which its `impl` may cite from here alone.
pub mod Keeping
