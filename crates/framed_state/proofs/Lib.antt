pub mod WrittenLaws
pub mod SoundLaws
pub mod DoesLaws
