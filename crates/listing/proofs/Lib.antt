pub mod LinesLaws
pub mod ListingLaws
pub mod PrintLaws
