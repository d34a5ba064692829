pub mod BitLaws
pub mod SetLaws
pub mod LowestLaws
pub mod WalkLaws
