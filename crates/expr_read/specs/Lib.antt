pub mod Marks
pub mod Reading
pub mod Grammar
pub mod GrammarLaws
pub mod First
pub mod FirstLaws
