-- The body of a process: all of its state but the point, and the primitives that change it.
use Rattle.std.specs.Prelude.{ℕ, suc, ◌+◌, List, [], ◌∷◌, ◌++◌, cond, Option, Some, None}
use Rattle.herm_model.specs.Paths.{Path}
use Rattle.herm_model.specs.Outcomes.{Outcome}
pub use Rattle.herm_model.specs.Values.{Name}
use Rattle.herm_model.specs.Values.{has_place, Kind, Cell, cell, Parts, cell_at, read_at, put_at, clear_at}
use Rattle.herm_model.specs.CellNames.{count, count_in, copy_from, copy_in}
use Rattle.herm_model.specs.Finalising.{finalised, finalised_in, pending, pending_in}

-- the rows that a `for` has yet to visit, under its statement's number
pub record Loop (N : Type 0) : Type 0 where
  pub statement : ℕ
  pub rows : Parts N

-- All of a process but its module and its point. Language reference, "Processes".
pub record Frame (N : Type 0) : Type 0 where
  -- the process's number, which never changes
  pub number : ℕ
  pub variables : Parts N
  -- the lists of its loops, innermost first
  pub loops : List (Loop N)
  -- the inports and callmessages that wait to be finalised, without parts
  pub work : List (Cell N)
  -- the number of the call whose answer it waits for
  pub call : Option ℕ
  -- how many calls, steps and actions it has made
  pub calls : ℕ
  pub steps : ℕ
  pub actions : ℕ
  -- how many cells it has made, which is the serial of its next one
  pub serial : ℕ
  -- the names that it has finalised, in order
  pub finalised : List N

-- What a statement comes to: an outcome, with the body behind it; or a body that stays at the statement. It is
-- stuck only where something that it needs is not there.
pub data Completion (N : Type 0) : Type 0 where
  goes : Outcome → Frame N → Completion N
  stays : Frame N → Completion N
  stuck : Completion N

-- on with what is there
abbrev pub if_there : {N X : Type 0} → (X → Completion N) → Option X → Completion N
if_there next None = stuck
if_there next (Some x) = next x

-- Finalising a value: inports and callmessages in it go to the end of the work list, its other cells are finalised
-- at once. Language reference, "Finalising".
abbrev pub finalise : {N : Type 0} → Cell N → Frame N → Frame N
finalise c b = record b { work = b.work ++ pending c; finalised = b.finalised ++ finalised c }

-- the same of parts, in order
abbrev pub finalise_parts : {N : Type 0} → Parts N → Frame N → Frame N
finalise_parts ps b = record b { work = b.work ++ pending_in ps; finalised = b.finalised ++ finalised_in ps }

-- the old value of a target, if it had one
abbrev pub finalise_old : {N : Type 0} → Option (Cell N) → Frame N → Frame N
finalise_old None b = b
finalise_old (Some c) b = finalise c b

-- the values, in order
abbrev pub finalise_all : {N : Type 0} → List (Cell N) → Frame N → Frame N
finalise_all [] b = b
finalise_all (c ∷ cs) b = finalise_all cs (finalise c b)

-- the one cell of this name is finalised at once
abbrev pub finalise_name : {N : Type 0} → N → Frame N → Frame N
finalise_name n b = record b { finalised = b.finalised ++ n ∷ [] }

-- a cell is finalised at once, whatever it is, and then what it holds
abbrev pub finalise_at_once : {N : Type 0} → Cell N → Frame N → Frame N
finalise_at_once (cell n k ps) b = finalise_parts ps (finalise_name n b)

-- nothing is left at the path
abbrev pub cleared : {N : Type 0} → Path → Frame N → Frame N
cleared p b = record b { variables = clear_at p b.variables }

-- Finalising what is at a path, if anything is. Language reference, "Finalising".
abbrev pub drop_at : {N : Type 0} → Path → Frame N → Frame N
drop_at p b = finalise_old (cell_at p b.variables) (cleared p b)

-- what is at these paths, in order
abbrev pub drop : {N : Type 0} → List Path → Frame N → Frame N
drop [] b = b
drop (p ∷ paths) b = drop paths (drop_at p b)

-- on with what is read at a path, which may pass through components
abbrev pub reading : {N : Type 0} → Path → (Cell N → Completion N) → Frame N → Completion N
reading p next b = if_there next (read_at p b.variables)

-- on with what is taken out of a path
abbrev pub taking : {N : Type 0} → Path → (Cell N → Frame N → Completion N) → Frame N → Completion N
taking p next b = if_there (λ c. next c (cleared p b)) (cell_at p b.variables)

-- A target gets its value, and its old one is finalised. Language reference, "Finalising".
abbrev pub put : {N : Type 0} → Path → Cell N → Frame N → Frame N
put p c b = finalise_old (cell_at p b.variables) (record b { variables = put_at p c b.variables })

-- the end of a statement with one target
abbrev pub putting : {N : Type 0} → Path → Outcome → Cell N → Frame N → Completion N
putting p o c b = cond (has_place b.variables p) (goes o (put p c b)) stuck

-- the end of a statement with several targets
abbrev pub putting_all : {N : Type 0} → List Path → Outcome → List (Cell N) → Frame N → Completion N
putting_all [] o [] b = goes o b
putting_all [] o (c ∷ cs) b = stuck
putting_all (p ∷ paths) o [] b = stuck
putting_all (p ∷ paths) o (c ∷ cs) b = cond (has_place b.variables p) (putting_all paths o cs (put p c b)) stuck

-- what was taken out of several paths, and the body without it
pub record Taken (N : Type 0) : Type 0 where
  pub cells : List (Cell N)
  pub frame : Frame N

-- a cell in front of more
abbrev pub with_taken : {N : Type 0} → Cell N → Option (Taken N) → Option (Taken N)
with_taken c None = None
with_taken c (Some t) = Some (record { cells = c ∷ t.cells; frame = t.frame })

-- what is at these paths is taken out, in order; none where one of them has nothing
abbrev pub take_all : {N : Type 0} → List Path → Frame N → Option (Taken N)
take_all [] b = Some (record { cells = []; frame = b })
take_all (p ∷ paths) b = elim (cell_at p b.variables) [ None ↦ None | Some c ↦ with_taken c (take_all paths (cleared p b)) ]

-- on with a new cell, which has the next serial; Language reference, "Values"
abbrev pub making : {N : Type 0} → (Name → N) → Kind → Parts N → (Cell N → Frame N → Completion N) → Frame N → Completion N
making name k ps next b = next (cell (name (b.number, b.serial)) k ps) (record b { serial = suc b.serial })

-- on with a copy of a value, whose cells have the next serials in the order of a walk
abbrev pub copying : {N M : Type 0} → (Name → N) → Cell M → (Cell N → Frame N → Completion N) → Frame N → Completion N
copying name c next b =
    next (copy_from (λ s. name (b.number, s)) b.serial c) (record b { serial = b.serial + count c })

-- on with a copy of several values
abbrev pub copying_parts : {N M : Type 0} → (Name → N) → Parts M → (Parts N → Frame N → Completion N) → Frame N → Completion N
copying_parts name ps next b =
    next (copy_in (λ s. name (b.number, s)) b.serial ps) (record b { serial = b.serial + count_in ps })

-- a statement's step is counted before it does anything, and each action
abbrev pub counted_step : {N : Type 0} → Frame N → Frame N
counted_step b = record b { steps = suc b.steps }

abbrev pub counted_action : {N : Type 0} → Frame N → Frame N
counted_action b = record b { actions = suc b.actions }
