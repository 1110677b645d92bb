-- What the fields of a world stand for, and what they keep.
use Rattle.std.specs.Prelude.{◌≡◌, ℕ, Bool, false}
use Rattle.herm_journal.specs.NextNumbers.{Limits}
use Rattle.herm_code.specs.View.{CodeImage}
use Rattle.herm_code.specs.View.{image_view}
use Rattle.herm_world.specs.Places.{places_of}
use Rattle.herm_world.specs.Worlds.{WorldState, IsWorld}
use Rattle.herm_world.specs.declared.parts.Parts as declared

abbrev pub world_of : CodeImage → (main : ℕ) → declared.Parts → Bool → WorldState
world_of image main parts is_dead = record { image = image_view image; main = main; processes = parts.processes.items; places = places_of parts.places; ready = parts.ready; is_dead = is_dead }

-- a world that is not dead shows a run, and has the limits of its book
abbrev pub IsKeptWorld : Limits → WorldState → Type 0
IsKeptWorld limits world = world.is_dead ≡ false → (world.places.book.held.limits ≡ limits) × IsWorld world
