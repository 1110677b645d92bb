pub mod RunningPrograms
