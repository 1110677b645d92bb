mod AboveLast
mod Acted
mod PortActs
mod ReplyActs
mod BookActs
mod CellsSeen
mod StampsOfPlaces
pub mod Weighed
