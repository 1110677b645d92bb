-- Faults at places of modules, seen in the file of each module (Language reference, "Refusals").
use Rattle.std.specs.Prelude.{◌≡◌, ℕ, ◌≤◌, None, List, [], length, get_or}
use Rattle.herm_model.specs.Lists.{IsIn}
use Rattle.herm_compile.specs.Places.{IsPlace, line_number_at, column_at}
use Rattle.herm_compile.specs.View.{Seen}
use Rattle.herm_compile.specs.declared.spots.Cursor.{Cursor}
use Rattle.herm_compile.specs.declared.spots.Location.{Location}

-- the file of a module, by the files' numbers of all modules; and the bytes of a file
abbrev pub owner_of : List ℕ → (module' : ℕ) → ℕ
owner_of owners module' = get_or owners module' 0

abbrev pub bytes_of : List (List ℕ) → ℕ → List ℕ
bytes_of files number = get_or files number []

-- a code with its words, at a place in bytes of a module's file
abbrev pub spot_fault : List (List ℕ) → (owners : List ℕ) → (module' start code : ℕ) → (words : List ℕ) → Seen
spot_fault files owners module' start code words = record {
  file = owner_of owners module';
  line = line_number_at (bytes_of files (owner_of owners module')) start;
  column = column_at (bytes_of files (owner_of owners module')) start;
  code = code;
  words = words;
  missing = None;
}

-- no file is longer than the limit of a file
abbrev pub AreShort : List (List ℕ) → Type 0
AreShort files = (bytes : List ℕ) → IsIn bytes files → length bytes ≤ 1048576

-- the place of a cursor is one of its file
abbrev pub IsCursor : List (List ℕ) → Cursor → Type 0
IsCursor files cursor = IsPlace (bytes_of files cursor.file) cursor.place

-- the file of a module, and the line and column there of a place in bytes
pub record IsLocation (files : List (List ℕ)) (owners : List ℕ) (module' start : ℕ) (at : Location) : Type 0 where
  pub file : at.file ≡ owner_of owners module'
  pub line : at.line ≡ line_number_at (bytes_of files (owner_of owners module')) start
  pub column : at.column ≡ column_at (bytes_of files (owner_of owners module')) start
