-- Tables that get other fields as their key, where they stand.
use Rattle.std.proofs.Common.{◌≡◌, ℕ, List, Option, Some, None, Box, Global, refl, sym, ap, subst, ◌∙◌}
use Rattle.std.specs.Prelude.{⊤}
use Rattle.herm_model.specs.CellNames.{forget}
use Rattle.herm_model.specs.Paths.{Path}
use Rattle.herm_model.specs.Values as model
use Rattle.herm_model.specs.Values.{a_table, Cell, cell, change_at, kind_of, Parts, read_at}
use Rattle.herm_forms.specs.Frames.{Frame}
use Rattle.herm_places.specs.Held.{keyed_places, seen_places}
use Rattle.herm_values.specs.Keyed.{keyed_view, keyed_parts}
use Rattle.herm_values.specs.View.{value_view, table_parts}
use Rattle.herm_values.specs.declared.value.Table.{Table}
use Rattle.herm_values.specs.declared.value.Value.{Value}
use Rattle.herm_values.proofs.Forgotten.{forgotten}
use Rattle.herm_frames.specs.HeldFrames.{HeldFrame}
use Rattle.herm_frames.specs.KeyedTables.{IsTableOf}
use Rattle.herm_frames.specs.Keyings.{CanHaveKey, DiffersBy}
use Rattle.herm_frames.specs.Standing.{Stands}
use Rattle.herm_frames.proofs.ChangedTwice.{same-own}
use Rattle.herm_frames.proofs.Stood.{with_variables}

kind-forgotten : (c : Cell (List ℕ)) → kind_of c ≡ kind_of (forget c)
kind-forgotten (cell n k ps) = refl

can-table : (key : List ℕ) (c : model.Value) → CanHaveKey key (Some c) → kind_of c ≡ a_table
can-table key (cell n k ps) h = h.0

-- what is no table cannot have the key
pub no_table : (key : List ℕ) (v : Value) (o : Option model.Value) → Some (value_view v) ≡ o → (kind_of (keyed_view v) ≡ a_table → ⊥) → CanHaveKey key o → ⊥
no_table key v o at not can = not (kind-forgotten (keyed_view v) ∙ ap kind_of (forgotten v) ∙ can-table key (value_view v) (subst (CanHaveKey key) (sym at) can))

-- nor a table whose rows do not differ by it
pub no_key : (key : List ℕ) (v : Value) (o : Option model.Value) (rows : Parts ⊤) → Some (value_view v) ≡ o → value_view v ≡ cell tt a_table rows → (DiffersBy key rows → ⊥) → CanHaveKey key o → ⊥
no_key key v o rows at is not can = not (subst (CanHaveKey key) (sym at ∙ ap Some is) can).1

pub is_keyed : (key columns : List ℕ) (c : Cell (List ℕ)) (o : Option (Cell (List ℕ))) (rows : Parts (List ℕ)) → Some c ≡ o → c ≡ cell columns a_table rows → columns ≡ key → IsTableOf key o
is_keyed key columns c o rows at is same = subst (IsTableOf key) (sym (ap Some is) ∙ at) (same, refl)

-- a table that has the key keeps it
pub other_key : (key columns : List ℕ) (c : Cell (List ℕ)) (o : Option (Cell (List ℕ))) (rows : Parts (List ℕ)) → Some c ≡ o → c ≡ cell columns a_table rows → IsTableOf key o → columns ≡ key
other_key key columns c o rows at is h = (subst (IsTableOf key) (sym at ∙ ap Some is) h).0

pub not_table : (key : List ℕ) (c : Cell (List ℕ)) (o : Option (Cell (List ℕ))) → Some c ≡ o → IsTableOf key o → kind_of c ≡ a_table
not_table key c o at h = of c (subst (IsTableOf key) (sym at) h)
  where
    of : (c : Cell (List ℕ)) → IsTableOf key (Some c) → kind_of c ≡ a_table
    of (cell n k ps) h = h.1

-- a table of the same rows stands where one stood
pub same_again : (f : HeldFrame) (s : Frame ⊤) (p : Path) (rows : Parts ⊤) (vs : List (Option Value)) → Stands f s → Some (cell tt a_table rows) ≡ read_at p (seen_places f.variables) → seen_places vs ≡ change_at p (λ d. cell tt a_table rows) (seen_places f.variables)
    → Stands (record f { variables = vs }) s
same_again f s p rows vs h at is = with_variables f s vs s.variables h (h.variables ∙ sym (is ∙ same-own p (cell tt a_table rows) (seen_places f.variables) (sym at)))

pub ruleset keyings = (no_table, no_key, is_keyed)
