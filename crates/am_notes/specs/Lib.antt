pub mod Groups
pub mod NoteText
