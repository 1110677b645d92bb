-- Scalars and rows that are counted.
use Rattle.std.proofs.Common.{◌≡◌, ℕ, pos, suc, List, [], ◌∷◌, ◌++◌, length, map, Option, Some, None, option_map, append_assoc, refl, sym, ap, ◌∙◌, Box, Global}
use Rattle.std.proofs.lemmas.List.{append-nil, map-append}
use Rattle.herm_model.specs.Values as model
use Rattle.herm_model.specs.Values.{a_scalar, a_record, a_variant, a_table, a_polymorph, a_callmessage, an_inport, an_outport, cell, size, no_parts, gap, part, place}
use Rattle.herm_forms.specs.Evaluate.{rows_there}
use Rattle.herm_code_machine.specs.Stacks.{scalars_of}
use Rattle.herm_values.specs.Parts.{parts_from}
use Rattle.herm_values.specs.View.{value_view, scalar_view, key_view, row_views}
use Rattle.herm_values.specs.declared.scalar.Scalar.{Scalar}
use Rattle.herm_values.specs.declared.value.Value.{Value, Table as a_held_table}
use Rattle.herm_values.specs.declared.value.Table.{Table}
use Rattle.herm_values.proofs.Seen.{table_view}
use Rattle.herm_stack.specs.Answers.{counted}
use Rattle.herm_stack.specs.Operands.{scalar_in}

parts_size : (os : List (Option model.Value)) → size (parts_from os) ≡ length os
parts_size [] = refl
parts_size (None ∷ os) = ap suc (parts_size os)
parts_size (Some c ∷ os) = ap suc (parts_size os)

-- a table has as many rows as are listed
pub rows_counted : (v : Value) (t : Box Table Global) (n : ℕ) → v ≡ a_held_table t → n ≡ length (row_views t.value) → rows_there (Some (value_view v)) ≡ counted (Some (pos n))
rows_counted v t n is rows = ap (λ c. rows_there (Some c)) (table_view v t is) ∙ ap (λ k. counted (Some (pos k))) (parts_size (row_views t.value) ∙ sym rows)

-- a scalar in front of more, and none without it
abbrev scalars_by : Option model.Scalar → Option (List model.Scalar) → Option (List model.Scalar)
scalars_by None more = None
scalars_by (Some s) more = option_map (λ ss. s ∷ ss) more

-- the scalars of values, the first one by itself
scalar_first : (v : model.Value) (vs : List model.Value) → scalars_of (v ∷ vs) ≡ scalars_by (scalar_in v) (scalars_of vs)
scalar_first (cell n (a_scalar s) ps) vs = refl
scalar_first (cell n a_record ps) vs = refl
scalar_first (cell n (a_variant c) ps) vs = refl
scalar_first (cell n a_table ps) vs = refl
scalar_first (cell n (a_polymorph t) ps) vs = refl
scalar_first (cell n (a_callmessage caller call) ps) vs = refl
scalar_first (cell n (an_inport port) ps) vs = refl
scalar_first (cell n (an_outport port) ps) vs = refl

joined_behind : (key : List Scalar) (s : Scalar) (o : Option (List model.Scalar)) → option_map (λ more. key_view (key ++ s ∷ []) ++ more) o ≡ option_map (λ more. key_view key ++ more) (option_map (λ ss. scalar_view s ∷ ss) o)
joined_behind key s None = refl
joined_behind key s (Some more) = ap Some (ap (λ ss. ss ++ more) (map-append scalar_view key (s ∷ [])) ∙ append_assoc (key_view key) (scalar_view s ∷ []) more)

-- one more scalar of the key
pub key_step : (key new : List Scalar) (v : Value) (s : Scalar) (vs : List Value) (whole : Option (List model.Scalar)) → new ≡ key ++ s ∷ [] → Some (scalar_view s) ≡ scalar_in (value_view v) → option_map (λ more. key_view key ++ more) (scalars_of (map value_view (v ∷ vs))) ≡ whole → option_map (λ more. key_view new ++ more) (scalars_of (map value_view vs)) ≡ whole
key_step key new v s vs whole pushed is so =
    ap (λ key. option_map (λ more. key_view key ++ more) (scalars_of (map value_view vs))) pushed
    ∙ joined_behind key s (scalars_of (map value_view vs))
    ∙ ap (λ o. option_map (λ more. key_view key ++ more) (scalars_by o (scalars_of (map value_view vs)))) is
    ∙ ap (option_map (λ more. key_view key ++ more)) (sym (scalar_first (value_view v) (map value_view vs)))
    ∙ so

-- a value that is no scalar
pub key_lost : (key : List Scalar) (v : Value) (vs : List Value) (whole : Option (List model.Scalar)) → None ≡ scalar_in (value_view v) → option_map (λ more. key_view key ++ more) (scalars_of (map value_view (v ∷ vs))) ≡ whole → whole ≡ None
key_lost key v vs whole is so =
    sym so
    ∙ ap (option_map (λ more. key_view key ++ more)) (scalar_first (value_view v) (map value_view vs))
    ∙ ap (λ o. option_map (λ more. key_view key ++ more) (scalars_by o (scalars_of (map value_view vs)))) (sym is)

-- no value is left
pub key_whole : (key : List Scalar) (whole : Option (List model.Scalar)) → option_map (λ more. key_view key ++ more) (scalars_of (map value_view [])) ≡ whole → whole ≡ Some (key_view key)
key_whole key whole so = sym so ∙ ap Some (append-nil (key_view key))

pub ruleset keying = (key_step, key_lost, key_whole)
