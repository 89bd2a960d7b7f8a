pub mod NameLaws
mod TokenLaws
pub mod LineLaws
pub mod SymbolLaws
