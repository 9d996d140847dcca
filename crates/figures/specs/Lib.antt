-- What a slot counts, the lowest and the highest of prices, what the slots sum up to in a direction, and whether a source
-- gives figures; then the prices that a rulebook may take of them. Last the refusal. The steps are cited by private
-- functions alone.
pub mod Counting
pub mod Spans
pub mod Sides
pub mod Gathering
pub mod Components
pub mod Refusals
pub mod steps
