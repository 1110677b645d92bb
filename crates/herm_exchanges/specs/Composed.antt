-- Callmessages that are composed of the arguments of calls.
use Rattle.std.specs.Prelude.{◌≡◌, ℕ, List, [], ◌∷◌, Bool, true, false, Option, Some, None, option_map, ⊤}
use Rattle.herm_model.specs.Types.{Mode}
use Rattle.herm_model.specs.Values as model
use Rattle.herm_model.specs.Values.{Parts, gap, part}
use Rattle.herm_forms.specs.Callmessages.{Composed, assemble}
use Rattle.herm_forms.specs.Frames.{Frame}
use Rattle.herm_code_machine.specs.Stacks.{parts_from}
use Rattle.herm_values.specs.View.{value_view}
use Rattle.herm_values.specs.declared.value.Value.{Value}
use Rattle.herm_frames.specs.HeldFrames.{HeldFrame}
use Rattle.herm_frames.specs.Standing.{Stands}

-- This is the callmessage that is composed, and the frame of the code stands for what is left, with the call open; or none is.
abbrev pub IsComposed : Option Value → HeldFrame → Option (Composed ⊤) → Type 0
IsComposed None f x = x ≡ None
IsComposed (Some v) f x = (b : Frame ⊤) × (k : ℕ) × (x ≡ Some (record { message = value_view v; call = k; frame = b })) × Stands f (record b { call = Some k })

-- whether a list is empty
abbrev pub none_left : {X : Type 0} → List X → Bool
none_left [] = true
none_left (x ∷ xs) = false

-- places in front of parts
abbrev pub in_front_of : List (Option model.Value) → Parts ⊤ → Parts ⊤
in_front_of [] ps = ps
in_front_of (None ∷ os) ps = gap (in_front_of os ps)
in_front_of (Some c ∷ os) ps = part c (in_front_of os ps)

-- Where a parameter of this mode was put behind the others, the rest is put together of what is left; or there is none for it.
abbrev pub IsPushed : Bool → Mode → (params new : List (Option model.Value)) → (inputs moved inputs_left moved_left : List model.Value) → Type 0
IsPushed false mode params new inputs moved inputs_left moved_left = (rest : List Mode) → assemble (mode ∷ rest) (parts_from inputs) moved ≡ None
IsPushed true mode params new inputs moved inputs_left moved_left =
    (rest : List Mode) → option_map (in_front_of params) (assemble (mode ∷ rest) (parts_from inputs) moved) ≡ option_map (in_front_of new) (assemble rest (parts_from inputs_left) moved_left)
