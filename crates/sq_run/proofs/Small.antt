-- Small examples, computed by the definitions.
mod Examples
mod SpelledExamples
mod KindExamples
mod ViewExamples
pub mod ComputedRules
pub mod Computed
