-- A record whose fields were lent where it stands.
use borrow.Enum.Known.{ValuesAt}
use borrow.Enum.Total.{values_o, values_o_at}
use mathlib.Core.Option.{Option as Arm, none, some}
use Rattle.std.proofs.Common.{◌≡◌, ◌<◌, ℕ, [], ◌∷◌, Option, Some, length, sym, ap, subst, ◌∙◌, Vec, Global}
use Rattle.std.specs.Prelude.{slice_set}
use Rattle.herm_model.specs.Values.{size, set_at, change_inside}
use Rattle.herm_values.specs.Keyed.{keyed_view}
use Rattle.herm_values.specs.View.{value_view}
use Rattle.herm_values.specs.Whole.{IsWhole, AllWhole}
use Rattle.herm_values.specs.contracts.value.Value as held
use Rattle.herm_values.specs.declared.value.Value.{Value, Fields}
use Rattle.herm_values.proofs.Wholes.{fields-whole, whole-fields}
use Rattle.herm_places.specs.Plain.{fields_in}
use Rattle.herm_places.proofs.Replaced.{a_field, field_put}

-- a value with other fields, where it is a record by what is read of it
abbrev pub with_fields : Arm (ValuesAt held.enum.parts 4) → Value → Vec (Option Value) Global → Value
with_fields none v new = v
with_fields (some w) v new = Fields new

module _ (v : Value) (x y new : Vec (Option Value) Global) (is : v ≡ Fields x) (same : y ≡ x) where
  pub is_put : with_fields (values_o held.enum 4 v) v new ≡ Fields new
  is_put = ap (λ o. with_fields o v new) (ap (values_o held.enum 4) is ∙ values_o_at held.enum 4 (x, tt {0}))

  pub lent_field : (j : ℕ) → j < size (fields_in (Some (value_view v))) → j < length y.items
  lent_field j h = subst (λ (y : Vec (Option Value) Global). j < length y.items) (sym same) (a_field v x j is h)

  pub lent_put : (w : Value) (j : ℕ) → new.items ≡ slice_set y.items j (Some w) → keyed_view (with_fields (values_o held.enum 4 v) v new) ≡ change_inside (set_at (j ∷ []) (Some (keyed_view w))) (keyed_view v)
  lent_put w j put = ap keyed_view is_put ∙ field_put v w x new j is (subst (λ (y : Vec (Option Value) Global). new.items ≡ slice_set y.items j (Some w)) same put)

  pub lent_whole : (AllWhole y.items → AllWhole new.items) → IsWhole v → IsWhole (with_fields (values_o held.enum 4 v) v new)
  lent_whole whole held = subst IsWhole (sym is_put) (whole-fields new (whole (subst (λ (y : Vec (Option Value) Global). AllWhole y.items) (sym same) (fields-whole v x is held))))
