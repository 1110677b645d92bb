-- Names in a value: how many cells it has, copies with other names, and values without names.
use Rattle.std.specs.Prelude.{ℕ, suc, ◌+◌, List, [], ◌∷◌, ◌++◌, ⊤}
use Rattle.herm_model.specs.Values.{Cell, Parts, cell, no_parts, gap, part, Value}

-- The names of a value's cells in the order of a walk: depth first, its own cell before its parts.
-- Language reference, "Values".
abbrev mutual
  pub names_of : {N : Type 0} → Cell N → List N
  names_of (cell n k ps) = n ∷ names_in ps

  pub names_in : {N : Type 0} → Parts N → List N
  names_in no_parts = []
  names_in (gap ps) = names_in ps
  names_in (part c ps) = names_of c ++ names_in ps

-- how many cells a value has
abbrev mutual
  pub count : {N : Type 0} → Cell N → ℕ
  count (cell n k ps) = suc (count_in ps)

  pub count_in : {N : Type 0} → Parts N → ℕ
  count_in no_parts = 0
  count_in (gap ps) = count_in ps
  count_in (part c ps) = count c + count_in ps

-- A copy: the same tree, whose cells take the names of the serials from s on in the order of a walk.
-- Language reference, "Values".
abbrev mutual
  pub copy_from : {N M : Type 0} → (ℕ → M) → ℕ → Cell N → Cell M
  copy_from name s (cell n k ps) = cell (name s) k (copy_in name (suc s) ps)

  pub copy_in : {N M : Type 0} → (ℕ → M) → ℕ → Parts N → Parts M
  copy_in name s no_parts = no_parts
  copy_in name s (gap ps) = gap (copy_in name s ps)
  copy_in name s (part c ps) = part (copy_from name s c) (copy_in name (s + count c) ps)

-- the same tree with each name changed
abbrev mutual
  pub rename : {N M : Type 0} → (N → M) → Cell N → Cell M
  rename f (cell n k ps) = cell (f n) k (rename_in f ps)

  pub rename_in : {N M : Type 0} → (N → M) → Parts N → Parts M
  rename_in f no_parts = no_parts
  rename_in f (gap ps) = gap (rename_in f ps)
  rename_in f (part c ps) = part (rename f c) (rename_in f ps)

-- the value that a cell is, without names
abbrev pub forget : {N : Type 0} → Cell N → Value
forget c = rename (λ n. tt) c

abbrev pub forget_in : {N : Type 0} → Parts N → Parts ⊤
forget_in ps = rename_in (λ n. tt) ps
