-- Lines and columns of a file (Language reference, "Refusals").
use Rattle.std.specs.Prelude.{◌≡◌, ℕ, suc, Bool, not, ◌==◌, List, [], ◌∷◌, length, take, reverse, if◌then◌else◌, ◌≤◌}
use Rattle.herm_compile.specs.Front.{front}
use Rattle.herm_compile.specs.declared.places.Place.{Place}

abbrev pub is_newline : ℕ → Bool
is_newline byte = byte == 10

abbrev pub no_newline : ℕ → Bool
no_newline byte = not (is_newline byte)

-- how many newlines there are
abbrev pub newlines : List ℕ → ℕ
newlines [] = 0
newlines (byte ∷ bytes) = if is_newline byte then suc (newlines bytes) else newlines bytes

-- one more than the newlines before the place (Language reference, "Refusals")
abbrev pub line_number_at : List ℕ → ℕ → ℕ
line_number_at bytes offset = suc (newlines (take offset bytes))

-- one more than the bytes since the last newline (Language reference, "Refusals")
abbrev pub column_at : List ℕ → ℕ → ℕ
column_at bytes offset = suc (length (front no_newline (reverse (take offset bytes))))

-- the line and column of a place are those of its offset
pub record IsPlace (bytes : List ℕ) (place : Place) : Type 0 where
  pub within : place.offset ≤ length bytes
  pub line_is : place.line ≡ line_number_at bytes place.offset
  pub column_is : place.column ≡ column_at bytes place.offset

-- the place behind a byte
abbrev pub place_behind : Place → ℕ → Place
place_behind place byte = if is_newline byte then record { offset = suc place.offset; line = suc place.line; column = 1 } else record { offset = suc place.offset; line = place.line; column = suc place.column }
