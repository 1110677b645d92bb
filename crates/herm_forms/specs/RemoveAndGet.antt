-- `remove` and `get`: the row of a table that has a key.
use Rattle.std.specs.Prelude.{ℕ, List, [], Some, None}
use Rattle.herm_model.specs.Paths.{Path}
use Rattle.herm_model.specs.Outcomes.{ok, raised, not_found}
use Rattle.herm_model.specs.Values.{Scalar, Cell, part_at, parts_of}
use Rattle.herm_model.specs.Tables.{place_of_key, without_part}
use Rattle.herm_forms.specs.Frames.{Name, Frame, Completion, goes, if_there, reading, putting, copying}
use Rattle.herm_forms.specs.InsertForm.{change_rows}

-- on with the row that has this key, by its place; NotFound where there is none
abbrev pub finding : {N : Type 0} → (key : List ℕ) → List Scalar → (table : Path) → (ℕ → Cell N → Completion N) → Frame N → Completion N
finding key k t next b =
    reading t (λ table. elim (place_of_key key k (parts_of table)) [ None ↦ goes (raised not_found) b | Some i ↦ if_there (next i) (part_at i (parts_of table)) ]) b

-- `remove r from t [ .. ]`
abbrev pub remove : {N : Type 0} → (key : List ℕ) → List Scalar → (target table : Path) → Frame N → Completion N
remove key k r t b = finding key k t (λ i row. putting r ok row (change_rows t (without_part i) b)) b

-- `get r from t [ .. ]`: the row that it gives is a copy
abbrev pub get : {N : Type 0} → (Name → N) → (key : List ℕ) → List Scalar → (target table : Path) → Frame N → Completion N
get name key k r t b = finding key k t (λ i row. copying name row (putting r ok) b) b
