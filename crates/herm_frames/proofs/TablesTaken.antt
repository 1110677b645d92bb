-- Tables that are taken out of their places.
use Rattle.std.proofs.Common.{◌≡◌, ℕ, List, Option, Some, None, option_map, refl, sym, ap, subst, ◌∙◌, Box, Global}
use Rattle.std.specs.Prelude.{IfSome, IfNone}
use Rattle.herm_model.specs.Values as model
use Rattle.herm_model.specs.Values.{a_table, Cell, cell, kind_of, Parts, read_at, change_at}
use Rattle.herm_model.specs.Paths.{Path}
use Rattle.herm_model.proofs.Places.{read_at-change_at}
use Rattle.herm_values.specs.Keyed.{keyed_view, keyed_parts}
use Rattle.herm_values.specs.View.{value_view, table_parts}
use Rattle.herm_values.specs.declared.value.Value.{Value}
use Rattle.herm_values.specs.declared.value.Table.{Table}
use Rattle.herm_frames.specs.KeyedTables.{IsTableOf}
use Rattle.herm_frames.proofs.TablesSeen.{of_table}

pub taken_seen : (r : Option (Box Table Global)) (v : Value) (o : Option model.Value) → Some (value_view v) ≡ o → IfSome r (λ t. value_view v ≡ cell tt a_table (table_parts t.value)) → IfSome r (λ t. o ≡ Some (cell tt a_table (table_parts t.value)))
taken_seen None v o at h = tt
taken_seen (Some t) v o at h = sym at ∙ ap Some h

pub taken_keyed : (r : Option (Box Table Global)) (v : Value) (o : Option (Cell (List ℕ))) → Some (keyed_view v) ≡ o → IfSome r (λ t. keyed_view v ≡ cell t.value.columns.items a_table (keyed_parts t.value))
    → IfSome r (λ t. o ≡ Some (cell t.value.columns.items a_table (keyed_parts t.value)))
taken_keyed None v o at h = tt
taken_keyed (Some t) v o at h = sym at ∙ ap Some h

pub taken_none : (r : Option (Box Table Global)) (v : Value) (o : Option model.Value) (p : Option (Cell (List ℕ))) → Some (keyed_view v) ≡ p → IfNone r (kind_of (keyed_view v) ≡ a_table → ⊥) → IfNone r ((key : List ℕ) → IsTableOf key p → None ≡ o)
taken_none None v o p at h = λ key is. absurd (h (of_table key (keyed_view v) (subst (IsTableOf key) (sym at) is)))
taken_none (Some t) v o p at h = tt

-- the key of a table that is put at a path is what is read there
pub key_kept : (key columns : List ℕ) (p : Path) (rows mid new : Parts (List ℕ)) → new ≡ change_at p (λ d. cell columns a_table rows) mid → columns ≡ key → IsTableOf key (read_at p new)
key_kept key columns p rows mid new is same = subst (IsTableOf key) (sym (ap (read_at p) is ∙ read_at-change_at p (λ d. cell columns a_table rows) mid)) (of (read_at p mid))
  where
    of : (o : Option (Cell (List ℕ))) → IsTableOf key (option_map (λ d. cell columns a_table rows) o)
    of None = tt
    of (Some c) = (same, refl)

-- nothing is read where nothing was
pub key_gone : (key : List ℕ) (c : Cell (List ℕ)) (p : Path) (ps new : Parts (List ℕ)) → None ≡ read_at p ps → new ≡ change_at p (λ d. c) ps → IsTableOf key (read_at p new)
key_gone key c p ps new none is = subst (IsTableOf key) (sym (ap (read_at p) is ∙ read_at-change_at p (λ d. c) ps ∙ ap (option_map (λ d. c)) (sym none))) tt

pub taken_key : (r : Option (Box Table Global)) (v : Value) (p : Option (Cell (List ℕ))) (q : Option (Cell (List ℕ))) → Some (keyed_view v) ≡ p → IfNone r (kind_of (keyed_view v) ≡ a_table → ⊥) → IfNone r ((key : List ℕ) → IsTableOf key p → IsTableOf key q)
taken_key None v p q at h = λ key is. absurd (h (of_table key (keyed_view v) (subst (IsTableOf key) (sym at) is)))
taken_key (Some t) v p q at h = tt
