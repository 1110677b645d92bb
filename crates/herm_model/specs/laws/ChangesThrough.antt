-- What is proved of a change at a path that may pass through components, beside what is read at the path.
use Rattle.std.specs.Prelude.{◌≡◌, ℕ, ◌∷◌, ◌++◌, option_map, IsTrue, IsFalse}
use Rattle.herm_model.specs.Paths.{Path, Fact, path_of, are_apart, is_at_or_below}
use Rattle.herm_model.specs.Values.{Name, Cell, Parts, cell_at, readable_of, read_at, change_readable, change_from, change_at}
use Rattle.herm_model.specs.FactsOfValues.{satisfies}

-- A change at a path leaves what does not stand there.
pub record LeavesTheRest (j : ℕ) (p : Path) (f : Cell Name → Cell Name) (ps : Parts Name) : Type 0 where
  -- at the path, also as it is reached through records and callmessages alone, the changed cell
  pub cell : cell_at (j ∷ p) (change_at (j ∷ p) f ps) ≡ option_map f (cell_at (j ∷ p) ps)
  -- below it, the parts of the changed cell
  pub below : (i : ℕ) (r : Path) → read_at ((j ∷ p) ++ i ∷ r) (change_at (j ∷ p) f ps) ≡ read_at (i ∷ r) (readable_of (option_map f (read_at (j ∷ p) ps)))
  -- elsewhere, what was there
  pub apart : (q : Path) → IsTrue (are_apart (j ∷ p) q) → read_at q (change_at (j ∷ p) f ps) ≡ read_at q ps
  pub cells_apart : (q : Path) → IsTrue (are_apart (j ∷ p) q) → cell_at q (change_at (j ∷ p) f ps) ≡ cell_at q ps
  -- and every fact that speaks of no path there or below
  pub facts : (g : Fact) → IsFalse (is_at_or_below (j ∷ p) (path_of g)) → satisfies (change_at (j ∷ p) f ps) g ≡ satisfies ps g

-- above the path, the cell that was there, with the change inside
abbrev pub ChangesInside : Type 0
ChangesInside = (i : ℕ) (q : Path) (j : ℕ) (r : Path) (f : Cell Name → Cell Name) (ps : Parts Name) →
    read_at (i ∷ q) (change_at ((i ∷ q) ++ j ∷ r) f ps) ≡ option_map (change_readable (change_from (j ∷ r) f)) (read_at (i ∷ q) ps)
