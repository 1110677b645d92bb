-- What is below a value that moves.
use Rattle.std.proofs.Common.{◌≡◌, ℕ, suc, List, [], ◌∷◌, ◌++◌, false, Some, refl, ap, ◌∙◌}
use Rattle.std.proofs.lemmas.List.{append-nil}
use Rattle.std.specs.Prelude.{is_some}
use Rattle.herm_model.specs.Values.{Cell, Parts, no_parts, part, part_at, inside, cell_at, has_value}
use Rattle.herm_model.proofs.NothingThere.{nothing-there}
use Rattle.herm_forms.specs.Frames.{Name}

-- below a cell
pub cell-below : {N : Type 0} (q : List ℕ) (i j : ℕ) (s : List ℕ) (ps : Parts N) → cell_at ((i ∷ q) ++ j ∷ s) ps ≡ cell_at (j ∷ s) (inside (cell_at (i ∷ q) ps))
cell-below [] i j s ps = refl
cell-below (k ∷ q) i j s ps = cell-below q k j s (inside (part_at i ps))

pub value-below : (i : ℕ) (q r : List ℕ) (ps : Parts Name) (d : Cell Name) → cell_at (i ∷ q) ps ≡ Some d → has_value ps ((i ∷ q) ++ r) ≡ has_value (part d no_parts) (0 ∷ r)
value-below i q [] ps d at = ap (λ p. has_value ps (i ∷ p)) (append-nil q) ∙ ap is_some at
value-below i q (j ∷ s) ps d at = ap is_some (cell-below q i j s ps ∙ ap (λ o. cell_at (j ∷ s) (inside o)) at)

pub nothing_after : (j : ℕ) (r : List ℕ) (d : Cell Name) → has_value (part d no_parts) (suc j ∷ r) ≡ false
nothing_after j [] d = refl
nothing_after j (s ∷ r) d = nothing-there Name (s ∷ r)
