pub mod SumLaws
pub mod TapeLaws
pub mod WriteLaws
