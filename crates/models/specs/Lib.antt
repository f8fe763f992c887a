pub mod Values
pub mod Equal
pub mod CountAlgebraLemmas
pub mod CostAlgebraLemmas
