mod RunLaws
pub mod BackLaws
mod OpenLaws
