pub mod AccessTexts
pub mod ColumnLemmas
