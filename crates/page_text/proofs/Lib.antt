pub mod SoundLaws
pub mod RegisterLaws
