-- Loops of a body: each is entered at its head, so the slots where an edge arrives are those that it does not leave.
pub mod LeadingWithin
pub mod LoopHeads
pub mod OwnLoops
pub mod SelectedSlots
pub mod EnteredSlots
