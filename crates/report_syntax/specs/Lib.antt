pub mod Spells
pub mod Reading
pub mod Reads
pub use Rattle.text_grammar.specs.Texts
pub use Rattle.text_grammar.specs.Grammar
pub mod Sizes
