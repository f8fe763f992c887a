pub mod WeighedNote
