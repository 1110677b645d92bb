-- A whole value is well made.
use Rattle.std.proofs.Common.{◌≡◌, ℕ, zero, suc, List, [], ◌∷◌, true, Option, Some, None, get_or, IsTrue, refl, sym, subst}
use Rattle.std.specs.Prelude.{⊤}
use Rattle.std.specs.List.{AllByRecursion}
use Rattle.herm_rows.specs.Keys.{rows_of}
use Rattle.herm_model.specs.Values as model
use Rattle.herm_model.specs.Values.{no_parts, gap, part}
use Rattle.herm_model.specs.WellMade.{is_without_gaps, is_well_made, are_well_made}
use Rattle.herm_model.proofs.Lists.{both-and}
use Rattle.herm_values.specs.Parts.{parts_from, rows_at}
use Rattle.herm_values.specs.View.{value_view, held_views, held_view, places_of}
use Rattle.herm_values.specs.Whole.{HasRow, IsWhole, AreWhole, IsHeldWhole}
use Rattle.herm_values.specs.declared.scalar.KeyRow.{KeyRow}
use Rattle.herm_values.specs.declared.value.Value.{Value}
use Rattle.herm_values.specs.declared.value.Value.TheBlock as values

abbrev Made : Option model.Value → Type 0
Made None = ⊤
Made (Some c) = IsTrue (is_well_made c)

abbrev AllMade : List (Option model.Value) → Type 0
AllMade [] = ⊤
AllMade (o ∷ os) = Made o × AllMade os

parts-made : (os : List (Option model.Value)) → AllMade os → IsTrue (are_well_made (parts_from os))
parts-made [] h = refl
parts-made (None ∷ os) h = parts-made os h.1
parts-made (Some c ∷ os) h = both-and (is_well_made c) (are_well_made (parts_from os)) h.0 (parts-made os h.1)

made-at : (os : List (Option model.Value)) (i : ℕ) → AllMade os → Made (get_or os i None)
made-at [] i h = tt
made-at (o ∷ os) zero h = h.0
made-at (o ∷ os) (suc i) h = made-at os i h.1

rows-made : (places : List ℕ) (os : List (Option model.Value)) → AllMade os → AllMade (rows_at places os)
rows-made [] os h = tt
rows-made (i ∷ places) os h = (made-at os i h, rows-made places os h)

no-gap : (o : Option model.Value) (c : model.Value) (os : List (Option model.Value)) → o ≡ Some c → IsTrue (is_without_gaps (parts_from os)) → IsTrue (is_without_gaps (parts_from (o ∷ os)))
no-gap o c os e h = subst (λ o. IsTrue (is_without_gaps (parts_from (o ∷ os)))) (sym e) h

rows-there : (columns : List ℕ) (keys : List KeyRow) (os : List (Option model.Value)) → AllByRecursion (HasRow columns os) keys → IsTrue (is_without_gaps (parts_from (rows_at (places_of keys) os)))
rows-there columns [] os h = refl
rows-there columns (k ∷ keys) os h = no-gap (get_or os k.place None) (h.0).row (rows_at (places_of keys) os) (h.0).there (rows-there columns keys os h.1)

mutual
  pub whole-made : (v : Value) → IsWhole v → IsTrue (is_well_made (value_view v))
  whole-made (values.Bool b) h = refl
  whole-made (values.Int n) h = refl
  whole-made (values.Text t) h = refl
  whole-made (values.Tag i) h = refl
  whole-made (values.Fields' shape fields) h = parts-made (held_views fields) (row-made fields h)
  whole-made (values.Case' component pointer v) h = both-and (is_well_made (value_view v)) true (whole-made v h) refl
  whole-made (values.Table' pointer columns keys shape rows) h =
      both-and (is_without_gaps (parts_from (rows_at (places_of (rows_of keys)) (held_views rows)))) (are_well_made (parts_from (rows_at (places_of (rows_of keys)) (held_views rows))))
      (rows-there columns.items (rows_of keys) (held_views rows) (h.0).found) (parts-made (rows_at (places_of (rows_of keys)) (held_views rows)) (rows-made (places_of (rows_of keys)) (held_views rows) (row-made rows h.1)))
  whole-made (values.Poly' tag depth pointer v) h = both-and (is_well_made (value_view v)) true (whole-made v h.2) refl
  whole-made (values.Call' caller call shape params) h = parts-made (held_views params) (row-made params h)
  whole-made (values.Inport port) h = refl
  whole-made (values.Outport port) h = refl

  row-made : {m : _} (row : values.Row_of-Value-Fields-0-1 m) → AreWhole row → AllMade (held_views row)
  row-made values.end_of-Value-Fields-0-1 h = tt
  row-made (values.more_of-Value-Fields-0-1 held rest) h = (held-made held h.0, row-made rest h.1)

  held-made : (held : values.Held-Value-Fields-0-1) → IsHeldWhole held → Made (held_view held)
  held-made values.None' h = tt
  held-made (values.Some' v) h = whole-made v h
