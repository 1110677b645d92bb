-- Values as trees of cells, and their parts by path.
use Rattle.std.specs.Prelude.{ℕ, zero, suc, max, List, [], ◌∷◌, Bool, true, false, cond, ℤ, Option, Some, None, is_some, nat_lt, ⊤}
use Rattle.herm_model.specs.Paths.{Path}

-- what a cell without parts holds; a text is its bytes, a tag the place of an enumeration's name
pub data Scalar : Type 0 where
  a_boolean : Bool → Scalar
  an_integer : ℤ → Scalar
  a_text : List ℕ → Scalar
  a_tag : ℕ → Scalar

-- what a cell is, apart from its parts; Language reference, "Values"
pub data Kind : Type 0 where
  a_scalar : Scalar → Kind
  a_record : Kind
  -- with the place of its component, which is the one part
  a_variant : (component : ℕ) → Kind
  -- with its rows as parts, in order of insertion
  a_table : Kind
  -- with its content's type; the content is the one part
  a_polymorph : (type : ℕ) → Kind
  -- with the caller's number and the number of the caller's call; the parameters are the parts
  a_callmessage : (caller : ℕ) → (call : ℕ) → Kind
  -- with the port's number
  an_inport : (port : ℕ) → Kind
  an_outport : (port : ℕ) → Kind

-- Cells with names of any type. With a name of two numbers (maker, serial) they are those of the ledger; with the
-- type of one element for a name they are values. Language reference, "Values".
mutual
  pub data Cell (N : Type 0) : Type 0 where
    cell : N → Kind → Parts N → Cell N

  -- places in order, each with a cell or empty
  pub data Parts (N : Type 0) : Type 0 where
    no_parts : Parts N
    gap : Parts N → Parts N
    part : Cell N → Parts N → Parts N

-- the names of the ledger: the maker's number and a serial number of the maker; Language reference, "Values"
abbrev pub Name : Type 0
Name = ℕ × ℕ

-- a value as code has it
abbrev pub Value : Type 0
Value = Cell ⊤

-- the cell at a place
abbrev pub part_at : {N : Type 0} → ℕ → Parts N → Option (Cell N)
part_at i no_parts = None
part_at zero (gap ps) = None
part_at zero (part c ps) = Some c
part_at (suc i) (gap ps) = part_at i ps
part_at (suc i) (part c ps) = part_at i ps

-- a place with a cell or empty, in front of more
abbrev pub place : {N : Type 0} → Option (Cell N) → Parts N → Parts N
place None ps = gap ps
place (Some c) ps = part c ps

-- the parts with this at a place that is there
abbrev pub set_part : {N : Type 0} → ℕ → Option (Cell N) → Parts N → Parts N
set_part i o no_parts = no_parts
set_part zero o (gap ps) = place o ps
set_part zero o (part c ps) = place o ps
set_part (suc i) o (gap ps) = gap (set_part i o ps)
set_part (suc i) o (part c ps) = part c (set_part i o ps)

-- so many empty places
abbrev pub gaps : {N : Type 0} → ℕ → Parts N
gaps zero = no_parts
gaps (suc n) = gap (gaps n)

-- how many places there are
abbrev pub size : {N : Type 0} → Parts N → ℕ
size no_parts = 0
size (gap ps) = suc (size ps)
size (part c ps) = suc (size ps)

-- the places of both lists, in order
abbrev pub joined : {N : Type 0} → Parts N → Parts N → Parts N
joined no_parts qs = qs
joined (gap ps) qs = gap (joined ps qs)
joined (part c ps) qs = part c (joined ps qs)

abbrev pub name_of : {N : Type 0} → Cell N → N
name_of (cell n k ps) = n

abbrev pub kind_of : {N : Type 0} → Cell N → Kind
kind_of (cell n k ps) = k

abbrev pub parts_of : {N : Type 0} → Cell N → Parts N
parts_of (cell n k ps) = ps

-- records and callmessages, whose parts have facts of their own
abbrev pub opens : Kind → Bool
opens a_record = true
opens (a_callmessage caller call) = true
opens k = false

-- the parts of a record or callmessage, and none of another cell
abbrev pub inside : {N : Type 0} → Option (Cell N) → Parts N
inside None = no_parts
inside (Some (cell n k ps)) = cond (opens k) ps no_parts

-- The cell at a path, reached through records and callmessages alone. The variables of a process are one list of
-- parts, and a path begins with the variable's place. Language reference, "Values".
abbrev pub cell_at : {N : Type 0} → Path → Parts N → Option (Cell N)
cell_at [] ps = None
cell_at (i ∷ []) ps = part_at i ps
cell_at (i ∷ j ∷ p) ps = cell_at (j ∷ p) (inside (part_at i ps))

-- there is a value at the path
abbrev pub has_value : {N : Type 0} → Parts N → Path → Bool
has_value ps p = is_some (cell_at p ps)

-- the cell with its parts changed, where it is a record or callmessage
abbrev pub change_inside : {N : Type 0} → (Parts N → Parts N) → Cell N → Cell N
change_inside f (cell n k ps) = cell n k (cond (opens k) (f ps) ps)

-- the parts with the cell at a place changed
abbrev pub change_part : {N : Type 0} → ℕ → (Cell N → Cell N) → Parts N → Parts N
change_part i f no_parts = no_parts
change_part zero f (gap ps) = gap ps
change_part zero f (part c ps) = part (f c) ps
change_part (suc i) f (gap ps) = gap (change_part i f ps)
change_part (suc i) f (part c ps) = part c (change_part i f ps)

-- the parts with a cell, or nothing, at a path whose parent is there
abbrev pub set_at : {N : Type 0} → Path → Option (Cell N) → Parts N → Parts N
set_at [] o ps = ps
set_at (i ∷ []) o ps = set_part i o ps
set_at (i ∷ j ∷ p) o ps = change_part i (change_inside (set_at (j ∷ p) o)) ps

-- there is a place at the path, with a value or empty: its parent is a record or callmessage that is there
abbrev pub has_place : {N : Type 0} → Parts N → Path → Bool
has_place ps [] = false
has_place ps (i ∷ []) = nat_lt i (size ps)
has_place ps (i ∷ j ∷ p) = has_place (inside (part_at i ps)) (j ∷ p)

-- with this cell at the path, and with nothing there
abbrev pub put_at : {N : Type 0} → Path → Cell N → Parts N → Parts N
put_at p c ps = set_at p (Some c) ps

abbrev pub clear_at : {N : Type 0} → Path → Parts N → Parts N
clear_at p ps = set_at p None ps

-- so many empty places in front
abbrev pub behind_gaps : {N : Type 0} → ℕ → Parts N → Parts N
behind_gaps zero ps = ps
behind_gaps (suc i) ps = gap (behind_gaps i ps)

-- a variant's component stands at its own place; a record's and a callmessage's parts as they are
abbrev pub readable : {N : Type 0} → Kind → Parts N → Parts N
readable (a_variant c) ps = behind_gaps c ps
readable k ps = cond (opens k) ps no_parts

abbrev pub readable_of : {N : Type 0} → Option (Cell N) → Parts N
readable_of None = no_parts
readable_of (Some (cell n k ps)) = readable k ps

-- The cell at a path that may pass through components too, each the one that is there; so is read what a case fact
-- tells of. Language reference, "Values".
abbrev pub read_at : {N : Type 0} → Path → Parts N → Option (Cell N)
read_at [] ps = None
read_at (i ∷ []) ps = part_at i ps
read_at (i ∷ j ∷ p) ps = read_at (j ∷ p) (readable_of (part_at i ps))

-- the cell with its readable parts changed, by a function of the place that the first of them has
abbrev pub change_readable : {N : Type 0} → (ℕ → Parts N → Parts N) → Cell N → Cell N
change_readable f (cell n (a_variant c) ps) = cell n (a_variant c) (f c ps)
change_readable f (cell n k ps) = cell n k (cond (opens k) (f 0 ps) ps)

-- the parts with the cell at a place changed, where the first of them has this place
abbrev pub change_behind : {N : Type 0} → ℕ → ℕ → (Cell N → Cell N) → Parts N → Parts N
change_behind zero j f ps = change_part j f ps
change_behind (suc i) zero f ps = ps
change_behind (suc i) (suc j) f ps = change_behind i j f ps

abbrev pub change_from : {N : Type 0} → Path → (Cell N → Cell N) → ℕ → Parts N → Parts N
change_from [] f i ps = ps
change_from (j ∷ []) f i ps = change_behind i j f ps
change_from (j ∷ k ∷ p) f i ps = change_behind i j (change_readable (change_from (k ∷ p) f)) ps

-- The parts with the cell at a path changed, which may pass through components; so is a table changed that stands
-- in a known component. Language reference, "Values".
abbrev pub change_at : {N : Type 0} → Path → (Cell N → Cell N) → Parts N → Parts N
change_at p f ps = change_from p f 0 ps

-- one more for a polymorph
abbrev pub deeper : Kind → ℕ → ℕ
deeper (a_polymorph t) d = suc d
deeper k d = d

-- How deep polymorphs nest: one more than in a polymorph's content, and the greatest of the parts' elsewhere. What
-- is queued at a port is no part. Language reference, "Polymorphs".
abbrev mutual
  pub polymorph_depth : {N : Type 0} → Cell N → ℕ
  polymorph_depth (cell n k ps) = deeper k (depth_in ps)

  pub depth_in : {N : Type 0} → Parts N → ℕ
  depth_in no_parts = 0
  depth_in (gap ps) = depth_in ps
  depth_in (part c ps) = max (polymorph_depth c) (depth_in ps)
