pub mod Scripts
pub mod Transcripts
pub mod Replays
pub mod Walks
