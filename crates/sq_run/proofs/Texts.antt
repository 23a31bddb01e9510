-- What texts come to, and what a run writes of it.
pub mod Opened
pub mod Headline
pub mod Reports
pub mod Scripts
pub mod ReadTexts
pub mod Answered
pub mod AcceptedTexts
pub mod Accepts
pub mod OneTree
pub mod FaultLaws
pub mod LawfulTexts
pub mod RefusedLaws
pub mod SpelledExpressions
pub mod SpelledConditions
pub mod SpellingMet
pub mod SpellingOnly
pub mod SteppedRuns
