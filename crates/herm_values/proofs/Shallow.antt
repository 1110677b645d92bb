-- Polymorphs in whole values nest at most 16 deep.
use Rattle.std.proofs.Common.{◌≡◌, ℕ, zero, suc, ◌≤◌, max, List, [], ◌∷◌, Option, Some, None, get_or, sym, subst, arith}
use Rattle.std.proofs.Math.Nat.{max-le, max-eq_left}
use Rattle.herm_rows.specs.Keys.{rows_of}
use Rattle.herm_model.specs.Values as model
use Rattle.herm_model.specs.Values.{polymorph_depth, depth_in}
use Rattle.herm_values.specs.Parts.{parts_from, rows_at}
use Rattle.herm_values.specs.View.{value_view, held_views, places_of}
use Rattle.herm_values.specs.Whole.{IsWhole, AreWhole}
use Rattle.herm_values.specs.declared.value.Value.{Value}
use Rattle.herm_values.specs.declared.value.Value.TheBlock as values

abbrev held-depth : Option model.Value → ℕ
held-depth None = 0
held-depth (Some c) = polymorph_depth c

places-few : (os : List (Option model.Value)) → ((i : ℕ) → held-depth (get_or os i None) ≤ 16) → depth_in (parts_from os) ≤ 16
places-few [] h = omega arith
places-few (None ∷ os) h = places-few os (λ i. h (suc i))
places-few (Some c ∷ os) h = max-le (h 0) (places-few os (λ i. h (suc i)))

rows-few : (places : List ℕ) (os : List (Option model.Value)) → ((i : ℕ) → held-depth (get_or os i None) ≤ 16) → (i : ℕ) → held-depth (get_or (rows_at places os) i None) ≤ 16
rows-few [] os h i = omega arith
rows-few (p ∷ places) os h zero = h p
rows-few (p ∷ places) os h (suc i) = rows-few places os h i

outside-few : (n : ℕ) → suc n ≤ 16 → suc (max n 0) ≤ 16
outside-few n h = subst (λ m. suc m ≤ 16) (sym (max-eq_left (let least : 0 ≤ n = omega arith in least))) h

mutual
  pub depth-few : (v : Value) → IsWhole v → polymorph_depth (value_view v) ≤ 16
  depth-few (values.Bool b) h = omega arith
  depth-few (values.Int n) h = omega arith
  depth-few (values.Text t) h = omega arith
  depth-few (values.Tag i) h = omega arith
  depth-few (values.Fields' shape fields) h = places-few (held_views fields) (places-shallow fields h)
  depth-few (values.Case' component pointer v) h = max-le (depth-few v h) (let least : 0 ≤ 16 = omega arith in least)
  depth-few (values.Table' pointer columns keys shape rows) h = places-few (rows_at (places_of (rows_of keys)) (held_views rows)) (rows-few (places_of (rows_of keys)) (held_views rows) (places-shallow rows h.1))
  depth-few (values.Poly' tag depth pointer v) h = outside-few (polymorph_depth (value_view v)) (subst (λ n. n ≤ 16) h.0 h.1)
  depth-few (values.Call' caller call shape params) h = places-few (held_views params) (places-shallow params h)
  depth-few (values.Inport port) h = omega arith
  depth-few (values.Outport port) h = omega arith

  places-shallow : {m : _} (row : values.Row_of-Value-Fields-0-1 m) → AreWhole row → (i : ℕ) → held-depth (get_or (held_views row) i None) ≤ 16
  places-shallow values.end_of-Value-Fields-0-1 h i = omega arith
  places-shallow (values.more_of-Value-Fields-0-1 values.None' rest) h zero = omega arith
  places-shallow (values.more_of-Value-Fields-0-1 (values.Some' v) rest) h zero = depth-few v h.0
  places-shallow (values.more_of-Value-Fields-0-1 held rest) h (suc i) = places-shallow rest h.1 i

pub shallow-told : (v : Value) (result : ℕ) → IsWhole v → result ≡ polymorph_depth (value_view v) → result ≤ 16
shallow-told v result whole is = subst (λ n. n ≤ 16) (sym is) (depth-few v whole)
