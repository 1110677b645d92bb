-- `for`: the rows of a table one after the other.
use Rattle.std.specs.Prelude.{ℕ, List, [], ◌∷◌, cond, nat_eq, Option, Some, None}
use Rattle.herm_model.specs.Paths.{Path}
use Rattle.herm_model.specs.Outcomes.{turn, done}
use Rattle.herm_model.specs.Values.{Parts, no_parts, gap, part, parts_of}
use Rattle.herm_forms.specs.Frames.{Name, Loop, Frame, Completion, goes, stuck, reading, putting, copying_parts}

-- the rows that the loop of this statement has yet to visit
abbrev pub rows_for : {N : Type 0} → ℕ → List (Loop N) → Option (Parts N)
rows_for s [] = None
rows_for s (l ∷ loops) = cond (nat_eq l.statement s) (Some l.rows) (rows_for s loops)

abbrev pub set_rows : {N : Type 0} → ℕ → Parts N → List (Loop N) → List (Loop N)
set_rows s rows [] = []
set_rows s rows (l ∷ loops) = cond (nat_eq l.statement s) (record { statement = s; rows = rows } ∷ loops) (l ∷ set_rows s rows loops)

-- the next row moves into r, or there is none
abbrev pub next_row : {N : Type 0} → (statement : ℕ) → Path → Parts N → Frame N → Completion N
next_row s r no_parts b = goes done b
next_row s r (gap rows) b = stuck
next_row s r (part row rows) b = putting r turn row (record b { loops = set_rows s rows b.loops })

-- A test of `for r in t`: the first one makes a copy of the rows, which the loop holds until it is left.
-- Language reference, "Loops".
abbrev pub visit : {N : Type 0} → (Name → N) → (statement : ℕ) → (target table : Path) → Frame N → Completion N
visit name s r t b =
    elim (rows_for s b.loops) [
      | None ↦ reading t (λ table. copying_parts name (parts_of table) (λ rows b. next_row s r rows (record b { loops = record { statement = s; rows = rows } ∷ b.loops })) b) b
      | Some rows ↦ next_row s r rows b
    ]
