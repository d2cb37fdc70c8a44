pub mod Grammar
pub mod GrammarLaws
pub mod Sound
pub mod WorkedTexts
pub mod ValueLaws
pub mod OptionLaws
pub mod OperatorLaws
