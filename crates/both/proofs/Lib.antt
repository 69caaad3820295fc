pub mod Views
pub mod FreshLaws
pub mod TablesLaws
pub mod SoundLaws
pub mod WrittenLaws
pub mod DoesLaws
pub mod QuietLaws
