-- Cells that are of certain kinds are of more kinds.
use Rattle.std.proofs.Common.{List, [], ◌∷◌}
use Rattle.herm_model.specs.Values.{Kind, Cell, cell, Parts, no_parts, gap, part}
use Rattle.herm_journal.specs.Kinds.{HasKinds, HaveKinds, AllKinds}

mutual
  pub more-kinds : {N : Type 0} (f g : Kind → Type 0) (more : (k : Kind) → f k → g k) (c : Cell N) → HasKinds f c → HasKinds g c
  more-kinds f g more (cell n k ps) h = (more k h.0, more-kinds_in f g more ps h.1)

  pub more-kinds_in : {N : Type 0} (f g : Kind → Type 0) (more : (k : Kind) → f k → g k) (ps : Parts N) → HaveKinds f ps → HaveKinds g ps
  more-kinds_in f g more no_parts h = tt
  more-kinds_in f g more (gap ps) h = more-kinds_in f g more ps h
  more-kinds_in f g more (part c ps) h = (more-kinds f g more c h.0, more-kinds_in f g more ps h.1)

pub more-kinds_all : {N : Type 0} (f g : Kind → Type 0) (more : (k : Kind) → f k → g k) (cs : List (Cell N)) → AllKinds f cs → AllKinds g cs
more-kinds_all f g more [] h = tt
more-kinds_all f g more (c ∷ cs) h = (more-kinds f g more c h.0, more-kinds_all f g more cs h.1)

-- the cells of some lists are of the kinds
abbrev pub ListKinds : {N X : Type 0} → (Kind → Type 0) → (X → Parts N) → List X → Type 0
ListKinds of rows [] = Unit {0}
ListKinds of rows (x ∷ xs) = HaveKinds of (rows x) × ListKinds of rows xs
