pub mod Edits
pub mod GoodLines
pub mod HeldNames
pub mod LineLemmas
pub mod MeantNames
pub mod Printed
pub mod PrintedWords
pub mod ReadPrinted
