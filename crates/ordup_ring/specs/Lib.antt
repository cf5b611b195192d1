pub mod RingRule
pub mod EndsInside
