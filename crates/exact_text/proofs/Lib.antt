pub mod Loops
pub mod Growth
pub mod Exact
pub mod FieldLaws
pub mod WholeLaws
pub mod FormLaws
pub mod FormLengths
