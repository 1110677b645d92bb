-- When a frame of the code stands for a frame of the model.
use Rattle.std.specs.Prelude.{◌≡◌, ℕ, map, length, ⊤}
use Rattle.herm_forms.specs.Frames.{Loop, Frame}
use Rattle.herm_values.specs.Works.{item_view}
use Rattle.herm_places.specs.Held.{seen_places}
use Rattle.herm_frames.specs.Counts.{cut}
use Rattle.herm_frames.specs.HeldFrames.{HeldLoop, HeldFrame}

abbrev pub loop_view : HeldLoop → Loop ⊤
loop_view l = record { statement = l.slot; rows = seen_places l.rows }

-- All is equal, and the counts of cells are those of the model, cut at 2^63. Code reference, "Processes".
pub record Stands (f : HeldFrame) (b : Frame ⊤) : Type 0 where
  pub number : b.number ≡ f.number
  pub variables : b.variables ≡ seen_places f.variables
  pub loops : b.loops ≡ map loop_view f.loops
  pub work : b.work ≡ map item_view f.work
  pub call : b.call ≡ f.call
  pub calls : b.calls ≡ f.calls
  pub steps : b.steps ≡ f.steps
  pub actions : b.actions ≡ f.actions
  pub made : f.made ≡ cut b.serial
  pub finalised : f.finalised ≡ cut (length b.finalised)
