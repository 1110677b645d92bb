-- `insert`: a row that moves into a table, and the exceptions where it cannot.
use Rattle.std.specs.Prelude.{ℕ, List, cond, nat_lt}
use Rattle.herm_model.specs.Paths.{Path}
use Rattle.herm_model.specs.Outcomes.{ok, raised, depletion, duplicate_key}
use Rattle.herm_model.specs.Values.{Cell, cell, Parts, no_parts, part, size, joined, parts_of, cell_at, change_at}
use Rattle.herm_model.specs.Tables.{has_key, key_of}
use Rattle.herm_model.specs.Typed.{greatest_rows}
use Rattle.herm_forms.specs.Frames.{Frame, Completion, goes, if_there, reading}
use Rattle.herm_forms.specs.Forms.{moving}

-- the cell with its parts changed
abbrev pub with_parts : {N : Type 0} → (Parts N → Parts N) → Cell N → Cell N
with_parts f (cell n k ps) = cell n k (f ps)

-- the rows of the table at a path changed
abbrev pub change_rows : {N : Type 0} → Path → (Parts N → Parts N) → Frame N → Frame N
change_rows t f b = record b { variables = change_at t (with_parts f) b.variables }

-- a row behind the others
abbrev pub add_row : {N : Type 0} → Cell N → Parts N → Parts N
add_row row rows = joined rows (part row no_parts)

-- `insert r into t`, where the fields of the key are these; DuplicateKey where there is a row with the key, else
-- Depletion where the table has no room
abbrev pub insert : {N : Type 0} → (key : List ℕ) → (lost : List Path) → (source table : Path) → Frame N → Completion N
insert key lost r t b =
    if_there
    (λ row. reading t (λ table.
    cond (has_key key (key_of key row) (parts_of table)) (goes (raised duplicate_key) b)
    (cond (nat_lt (size (parts_of table)) greatest_rows)
    (moving lost r (λ row b. reading t (λ table. goes ok (change_rows t (add_row row) b)) b) b)
    (goes (raised depletion) b))) b)
    (cell_at r b.variables)
