-- Which texts are numbers, and which paths are opened and written to.
pub mod Console
