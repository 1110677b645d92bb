pub mod AcceptedPrograms
pub mod RunningImages
