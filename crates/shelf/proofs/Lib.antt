pub mod SliceVecLaws
