pub mod LoopMode
pub mod StaggerPattern
pub mod Cases
