pub mod CountsForgotten
pub mod ReportsBare
pub mod ImageWorlds
pub mod PlacesForgotten
pub mod RunsShown
pub mod WorldWorks
pub mod ProgramWorlds
