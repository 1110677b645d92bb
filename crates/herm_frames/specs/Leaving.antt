-- What is finalised where loops are left.
use Rattle.std.specs.Prelude.{ℕ, List, [], ◌∷◌, ◌++◌, Bool, cond, ⊤}
use Rattle.herm_model.specs.Values.{Value}
use Rattle.herm_model.specs.Finalising.{finalised_in, pending_in}
use Rattle.herm_places.specs.Held.{seen_places}
use Rattle.herm_frames.specs.HeldFrames.{HeldLoop}

-- what waits in the rows of loops that are not kept, innermost first
abbrev pub lost_pending : (ℕ → Bool) → List HeldLoop → List Value
lost_pending kept [] = []
lost_pending kept (l ∷ loops) = cond (kept l.slot) [] (pending_in (seen_places l.rows)) ++ lost_pending kept loops

-- what of them is finalised at once
abbrev pub lost_finalised : (ℕ → Bool) → List HeldLoop → List ⊤
lost_finalised kept [] = []
lost_finalised kept (l ∷ loops) = cond (kept l.slot) [] (finalised_in (seen_places l.rows)) ++ lost_finalised kept loops
