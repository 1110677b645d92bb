-- Values that are put at the paths of arguments, and arguments that are left.
use Rattle.std.specs.Prelude.{◌≡◌, List, ◌++◌, Bool, true, false, filter, not, flat_map, slice_get, ℕ, ⊤}
use Rattle.herm_model.specs.Lists.{any_pass}
use Rattle.herm_model.specs.Outcomes.{Outcome}
use Rattle.herm_model.specs.Paths.{Path, same_path}
use Rattle.herm_model.specs.Values.{Value}
use Rattle.herm_forms.specs.Frames.{Frame, putting_all, stuck}
use Rattle.herm_instructions.specs.Instructions.{Argument}
use Rattle.herm_code_machine.specs.CodeActions.{path_in}
use Rattle.herm_frames.specs.HeldFrames.{HeldFrame}
use Rattle.herm_frames.specs.Standing.{Stands}

-- Where a value was put at this path, if it is one, what is left is put at the rest from a frame that the code's stands for; or
-- the whole is stuck.
abbrev pub IsPut : Bool → HeldFrame → (path : List Path) → (old left : List Value) → Frame ⊤ → Type 0
IsPut false f path old left s = (rest : List Path) (o : Outcome) → putting_all (path ++ rest) o old s ≡ stuck
IsPut true f path old left s = (b : Frame ⊤) × Stands f b × ((rest : List Path) (o : Outcome) → putting_all (path ++ rest) o old s ≡ putting_all rest o left b)

-- the paths of the arguments at these places
abbrev pub paths_at : List Argument → List ℕ → List Path
paths_at arguments places = flat_map (λ i. path_in (slice_get arguments i)) places

-- the paths that are none of those that are kept
abbrev pub left_of : (kept paths : List Path) → List Path
left_of kept paths = filter (λ p. not (any_pass (same_path p) kept)) paths
