-- What is proved of values, of their parts and of the names of their cells.
use Rattle.std.specs.Prelude.{◌≡◌, ℕ, ◌+◌, List, [], ◌∷◌, ◌++◌, map, flat_map, Bool, not, ◌&&◌, Option, Some, is_some, option_map, length, IsTrue, IsFalse, ◌↔◌}
use Rattle.herm_model.specs.Lists.{IsIn, total, range, list_of}
use Rattle.herm_model.specs.Paths.{Path, Fact, init, are_apart}
use Rattle.herm_model.specs.Facts.{full_facts}
use Rattle.herm_model.specs.Types.{TypeTable, held_parts, part_paths_within, is_within_depth, greatest_depth}
use Rattle.herm_model.specs.Values.{Value, Scalar, Name, Cell, Parts, inside, part_at, cell_at, read_at, has_place, change_inside, set_at, change_at, joined, polymorph_depth, has_value, part, no_parts}
use Rattle.herm_model.specs.CellNames.{names_of, names_in, count, copy_from, forget, forget_in}
use Rattle.herm_model.specs.FactsOfValues.{satisfies}
use Rattle.herm_model.specs.Tables.{key_of, has_key, place_of_key, has_distinct_keys, without_part}
use Rattle.herm_model.specs.Typed.{Degree, IsOf, IsFull, HasType}
use Rattle.herm_model.specs.Finalising.{finalised, pending, excess_from, cells_at, clear_all}
use Rattle.herm_model.specs.ValueTexts.{text_of}

-- What is at a path behind a change at another. The parts are those of the ledger's cells.
pub record IsChangedAt (p : Path) (o : Option (Cell Name)) (ps : Parts Name) : Type 0 where
  -- at the path, what was set
  pub same : IsTrue (has_place ps p) → cell_at p (set_at p o ps) ≡ o
  -- below it, the parts of what was set
  pub below : (j : ℕ) (r : Path) → IsTrue (has_place ps p) → cell_at (p ++ j ∷ r) (set_at p o ps) ≡ cell_at (j ∷ r) (inside o)
  -- elsewhere, what was there
  pub apart : (q : Path) → IsTrue (are_apart p q) → cell_at q (set_at p o ps) ≡ cell_at q ps

-- above the path, the cell that was there, with the change inside
abbrev pub KeepsCellsAbove : Type 0
KeepsCellsAbove = (i : ℕ) (q : Path) (j : ℕ) (r : Path) (o : Option (Cell Name)) (ps : Parts Name) → cell_at (i ∷ q) (set_at ((i ∷ q) ++ j ∷ r) o ps) ≡ option_map (change_inside (set_at (j ∷ r) o)) (cell_at (i ∷ q) ps)

-- The names that are there and those of what was at the path weigh as much as those before and those of what was set.
abbrev pub WeighsTheChange : Type 0
WeighsTheChange = (w : Name → ℕ) (p : Path) (o : Option (Cell Name)) (ps : Parts Name) → IsTrue (has_place ps p) →
    total w (names_in (set_at p o ps)) + total w (list_of names_of (cell_at p ps)) ≡ total w (names_in ps) + total w (list_of names_of o)

-- A change through components changes what is read at the path, and the names weigh so much more or less as those of
-- what is changed.
pub record IsChangedThrough (j : ℕ) (p : Path) (f : Cell Name → Cell Name) (ps : Parts Name) : Type 0 where
  pub read : read_at (j ∷ p) (change_at (j ∷ p) f ps) ≡ option_map f (read_at (j ∷ p) ps)
  pub names : (w : Name → ℕ) (a b : ℕ) → total w (list_of names_of (option_map f (read_at (j ∷ p) ps))) + a ≡ total w (list_of names_of (read_at (j ∷ p) ps)) + b →
      total w (names_in (change_at (j ∷ p) f ps)) + a ≡ total w (names_in ps) + b

-- The names of a value are those that are finalised at once and those that wait.
abbrev pub WeighsTheFinalised : Type 0
WeighsTheFinalised = (w : Name → ℕ) (c : Cell Name) → total w (names_of c) ≡ total w (finalised c) + total w (flat_map names_of (pending c))

-- A copy is the same value, its names are those of the serials from the first on, and there are as many as cells.
pub record IsCopy (name : ℕ → Name) (s : ℕ) (c : Cell Name) : Type 0 where
  pub value : forget (copy_from name s c) ≡ forget c
  pub names : names_of (copy_from name s c) ≡ map name (range s (count c))
  pub cells : length (names_of c) ≡ count c

-- A key finds a row exactly where there is one, and the row has it; a row behind the others keeps the keys different
-- exactly where its key is new, and a row less keeps them different.
pub record IsKeyed (key : List ℕ) (rows : Parts Name) : Type 0 where
  pub there : (k : List Scalar) → is_some (place_of_key key k rows) ≡ has_key key k rows
  pub found : (k : List Scalar) (i : ℕ) → place_of_key key k rows ≡ Some i → (row : Cell Name) × (part_at i rows ≡ Some row) × (key_of key row ≡ k)
  pub added : (row : Cell Name) → has_distinct_keys key (joined rows (part row no_parts)) ≡ (has_distinct_keys key rows && not (has_key key (key_of key row) rows))
  pub removed : (i : ℕ) → IsTrue (has_distinct_keys key rows) → IsTrue (has_distinct_keys key (without_part i rows))

-- Without names, reading and changing parts are the same.
pub record ForgetsInParts (ps : Parts Name) : Type 0 where
  pub cells : (p : Path) → cell_at p (forget_in ps) ≡ option_map forget (cell_at p ps)
  pub read : (p : Path) → read_at p (forget_in ps) ≡ option_map forget (read_at p ps)
  pub facts : (f : Fact) → satisfies (forget_in ps) f ≡ satisfies ps f
  pub changes : (p : Path) (o : Option (Cell Name)) → forget_in (set_at p o ps) ≡ set_at p (option_map forget o) (forget_in ps)
  pub through : (p : Path) (f : Cell Name → Cell Name) (g : Value → Value) → ((c : Cell Name) → forget (f c) ≡ g (forget c)) → forget_in (change_at p f ps) ≡ change_at p g (forget_in ps)
  pub several : (paths : List Path) → cells_at paths (forget_in ps) ≡ map forget (cells_at paths ps)
  pub cleared : (paths : List Path) → forget_in (clear_all paths ps) ≡ clear_all paths (forget_in ps)
  pub added : (qs : Parts Name) → forget_in (joined ps qs) ≡ joined (forget_in ps) (forget_in qs)
  pub removed : (i : ℕ) → forget_in (without_part i ps) ≡ without_part i (forget_in ps)
  pub keys : (key : List ℕ) (k : List Scalar) → has_key key k (forget_in ps) ≡ has_key key k ps
  pub places : (key : List ℕ) (k : List Scalar) → place_of_key key k (forget_in ps) ≡ place_of_key key k ps

-- Without names, what is finalised is as many names, what waits is the same, and so are a copy, the depth of
-- polymorphs, the key of a row, the type and the text.
pub record ForgetsInCell (c : Cell Name) : Type 0 where
  pub finalised_names : length (finalised (forget c)) ≡ length (finalised c)
  pub waiting : pending (forget c) ≡ map forget (pending c)
  pub cells : count (forget c) ≡ count c
  pub copies : (name : ℕ → Name) (s : ℕ) → copy_from name s (forget c) ≡ copy_from name s c
  pub depth : polymorph_depth (forget c) ≡ polymorph_depth c
  pub key : (key : List ℕ) → key_of key (forget c) ≡ key_of key c
  pub types : (d : Degree) (table : TypeTable) (t : ℕ) → IsOf d table t c ↔ IsOf d table t (forget c)
  pub text : text_of (forget c) ≡ text_of c

-- a full value of a type has the type, where some of the parts may be missing
abbrev pub FullIsTyped : Type 0
FullIsTyped = (table : TypeTable) (t : ℕ) (c : Cell Name) → IsFull table t c → HasType table t c

-- From a path of a type on, the excess has exactly the paths through fields and parameters that are left over and
-- before which no path from there is.
abbrev pub IsTopmost : (Path → Bool) → ℕ → TypeTable → Path → ℕ → Path → Type 0
IsTopmost left n table p t x = (q : List ℕ) × (x ≡ p ++ q) × IsIn q (part_paths_within held_parts n table t) × IsTrue (left x) × ((r : List ℕ) (i : ℕ) (more : List ℕ) → q ≡ r ++ i ∷ more → IsFalse (left (p ++ r)))

abbrev pub ExcessIsTopmost : Type 0
ExcessIsTopmost = (left : Path → Bool) (n : ℕ) (table : TypeTable) (p : Path) (t : ℕ) → IsTrue (is_within_depth n table t) → (x : Path) → IsIn x (excess_from left n table p t) ↔ IsTopmost left n table p t x

-- A full value has a value at each path that full asks for and at no other.
abbrev pub FullHasFullFacts : Type 0
FullHasFullFacts = (table : TypeTable) (t : ℕ) (c : Cell Name) → IsTrue (is_within_depth greatest_depth table t) → IsFull table t c → (q : List ℕ) → IsTrue (has_value (part c no_parts) (0 ∷ q)) ↔ IsIn (init (0 ∷ q)) (full_facts table t (0 ∷ []))

-- A value of the type with values at exactly those paths is full.
abbrev pub FullFactsAreFull : Type 0
FullFactsAreFull = (table : TypeTable) (t : ℕ) (c : Cell Name) → IsTrue (is_within_depth greatest_depth table t) → HasType table t c →
    ((q : List ℕ) → IsTrue (has_value (part c no_parts) (0 ∷ q)) ↔ IsIn (init (0 ∷ q)) (full_facts table t (0 ∷ []))) → IsFull table t c
