mod GatherLaws
mod FixLaws
mod OnLaws
mod PlaceLaws
pub mod HeldLaws
mod CheckLaws
mod FoundLaws
mod StandLaws
mod ProgramLaws
mod NameLaws
mod LawsHold
pub mod PageLaws
