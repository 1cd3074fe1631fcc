-- The table of words as rows of bytes, and that a search in it finds the words.
pub mod Rows
pub mod RowsLaws
