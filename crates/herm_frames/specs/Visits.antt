-- The next row of a loop.
use Rattle.std.specs.Prelude.{◌≡◌, ℕ, List, [], ◌∷◌, map, Option, Some, None, ⊤}
use Rattle.herm_model.specs.Values.{Parts, no_parts, gap, part}
use Rattle.herm_forms.specs.LoopForms.{rows_for, set_rows}
use Rattle.herm_values.specs.View.{value_view}
use Rattle.herm_values.specs.Whole.{IsWhole}
use Rattle.herm_values.specs.declared.value.Value.{Value}
use Rattle.herm_frames.specs.HeldFrames.{HeldLoop}
use Rattle.herm_frames.specs.Standing.{loop_view}
use Rattle.herm_frames.specs.declared.rows.NextRow.{NextRow}
use Rattle.herm_frames.specs.declared.rows.NextRow.TheVariants as next

abbrev pub IsWholeRow : NextRow → Type 0
IsWholeRow (next.Row v) = IsWhole v
IsWholeRow r = Unit {0}

-- the first of these places, and those that are left
abbrev pub IsFirst : NextRow → (old new : List (Option Value)) → Type 0
IsFirst next.NoLoop old new = ⊥
IsFirst next.NoRow old new = (old ≡ []) × (new ≡ [])
IsFirst next.Empty old new = old ≡ None ∷ new
IsFirst (next.Row v) old new = old ≡ Some v ∷ new

-- What the innermost loop of a slot has next, and the loops behind it. Code reference, "Instructions".
abbrev pub IsNext : NextRow → (slot : ℕ) → (old new : List HeldLoop) → Type 0
IsNext next.NoLoop slot old new = rows_for slot (map loop_view old) ≡ None
IsNext next.NoRow slot old new = (rows_for slot (map loop_view old) ≡ Some no_parts) × (new ≡ old)
IsNext next.Empty slot old new = (rest : Parts ⊤) × (rows_for slot (map loop_view old) ≡ Some (gap rest))
IsNext (next.Row v) slot old new = (rest : Parts ⊤) × (rows_for slot (map loop_view old) ≡ Some (part (value_view v) rest)) × (map loop_view new ≡ set_rows slot rest (map loop_view old))
