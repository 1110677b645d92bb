-- The test of copyable types that a table has is the one of the definitions.
use Rattle.std.proofs.Common.{◌≡◌, ◌↔◌, ℕ, ◌<◌, length, Bool, true, false, Option, Some, None, slice_get, IsTrue, option_map, refl, sym, ap, ◌∙◌, true≢false}
use Rattle.herm_model.specs.Lists.{map_or}
use Rattle.herm_model.specs.Types.{Shape, TypeTable, greatest_depth}
use Rattle.herm_model.specs.Copyable.{is_copyable_within, IsCopyable}
use Rattle.herm_meaning.specs.Names.{NamedTable, IsWellNamed}
use Rattle.herm_model.proofs.DecidedTables.{copyable-decides}
use Rattle.herm_naming.specs.Copies.{may_copy}

same_test : (a b : Bool) → (IsTrue a ↔ IsTrue b) → a ≡ b
same_test true true h = refl
same_test false false h = refl
same_test true false h = absurd (true≢false (sym (h.0 refl)))
same_test false true h = absurd (true≢false (sym (h.1 refl)))

here : (table : TypeTable) (t : ℕ) (s : Shape) → slice_get table t ≡ Some s → may_copy table (Some t) ≡ is_copyable_within greatest_depth table t
here table t s e = ap (λ (o : Option Shape). map_or true (is_copyable_within greatest_depth table) (option_map (λ s. t) o)) e

pub copy_tested : (known : NamedTable) (t : ℕ) (s : Shape) (b : Bool) → IsWellNamed known → Some s ≡ slice_get known.shapes t → (IsTrue b ↔ IsCopyable known.shapes t) → b ≡ may_copy known.shapes (Some t)
copy_tested known t s b w e h =
    let d = copyable-decides known.shapes w.well_formed.shallow t in
    same_test b _ ((λ x. d.1 (h.0 x)), (λ x. h.1 (d.0 x))) ∙ sym (here known.shapes t s (sym e))
