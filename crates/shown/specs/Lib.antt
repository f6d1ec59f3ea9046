-- What is shown: places, budgets and memory, the garment and the answers, the verdict in the terms of the law.
pub mod Interned
pub mod WorkMemory
pub mod Budgets
pub mod ShownAnswers
pub mod ShownGarment
pub mod ShownFits
pub mod Judgement
pub mod LawfulVerdicts
