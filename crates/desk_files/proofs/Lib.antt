pub mod Common
pub mod FieldFacts
pub mod ReaderFacts
pub mod StepFacts
pub mod ImportFacts
pub mod TableFacts
