-- What rows have at the fields of a key, scalar by scalar.
use Rattle.std.proofs.Common.{◌≡◌, ℕ, zero, suc, List, [], ◌∷◌, ◌++◌, Bool, true, false, ◌&&◌, Option, Some, None, get_or, refl, sym, ap, ap₂, ◌∙◌, Vec, Global}
use Rattle.herm_parcels.specs.declared.call.CallMsg.{CallMsg}
use Rattle.herm_model.specs.Lists.{list_of}
use Rattle.herm_model.specs.Values as model
use Rattle.herm_model.specs.Values.{a_scalar, a_record, a_variant, a_table, a_polymorph, a_callmessage, an_inport, an_outport, Cell, cell, Kind, Parts, part_at, inside}
use Rattle.herm_model.specs.Tables.{key_of, scalars_of, same_scalar, same_key}
use Rattle.herm_values.specs.Keys.{is_plain, is_scalar}
use Rattle.herm_values.specs.Parts.{parts_from}
use Rattle.herm_values.specs.View.{value_view, views_of}
use Rattle.herm_values.specs.declared.value.Value.{Value, Fields, Call}
use Rattle.herm_values.proofs.Seen.{fields_view, call_view}

at-place : (i : ℕ) (os : List (Option model.Value)) → part_at i (parts_from os) ≡ get_or os i None
at-place i [] = refl
at-place zero (None ∷ os) = refl
at-place zero (Some c ∷ os) = refl
at-place (suc i) (None ∷ os) = at-place i os
at-place (suc i) (Some c ∷ os) = at-place i os

pub field-there : (v : Value) (x : Vec (Option Value) Global) (items : List (Option Value)) (i : ℕ) (o : Option model.Value) → v ≡ Fields x → items ≡ x.items → o ≡ get_or (views_of items) i None → o ≡ part_at i (inside (Some (value_view v)))
field-there v x items i o is same e = e ∙ ap (λ items. get_or (views_of items) i None) same ∙ sym (at-place i (views_of x.items)) ∙ sym (ap (λ c. part_at i (inside (Some c))) (fields_view v x is))

pub parameter-there : (v : Value) (x : CallMsg Value) (items : List (Option Value)) (i : ℕ) (o : Option model.Value) → v ≡ Call x → items ≡ x.params.items → o ≡ get_or (views_of items) i None → o ≡ part_at i (inside (Some (value_view v)))
parameter-there v x items i o is same e = e ∙ ap (λ items. get_or (views_of items) i None) same ∙ sym (at-place i (views_of x.params.items)) ∙ sym (ap (λ c. part_at i (inside (Some c))) (call_view v x is))

pub ruleset fields = (field-there, parameter-there)

not-plain : (c : model.Value) → is_plain c ≡ false → scalars_of c ≡ []
not-plain (cell n (a_scalar s) ps) h = cc
not-plain (cell n a_record ps) h = refl
not-plain (cell n (a_variant i) ps) h = refl
not-plain (cell n a_table ps) h = refl
not-plain (cell n (a_polymorph t) ps) h = refl
not-plain (cell n (a_callmessage caller call) ps) h = refl
not-plain (cell n (an_inport p) ps) h = refl
not-plain (cell n (an_outport p) ps) h = refl

-- a field that has a scalar begins the key, and one that has none is passed over
pub key-begins : (row c : model.Value) (i : ℕ) (columns : List ℕ) → Some c ≡ part_at i (inside (Some row)) → key_of (i ∷ columns) row ≡ scalars_of c ++ key_of columns row
key-begins row c i columns e = ap (λ o. list_of scalars_of o ++ key_of columns row) (sym e)

pub key-passes : (row c : model.Value) (i : ℕ) (columns : List ℕ) → Some c ≡ part_at i (inside (Some row)) → is_plain c ≡ false → key_of (i ∷ columns) row ≡ key_of columns row
key-passes row c i columns e h = key-begins row c i columns e ∙ ap (λ k. k ++ key_of columns row) (not-plain c h)

pub key-empty : (row : model.Value) (i : ℕ) (columns : List ℕ) → None ≡ part_at i (inside (Some row)) → key_of (i ∷ columns) row ≡ key_of columns row
key-empty row i columns e = ap (λ o. list_of scalars_of o ++ key_of columns row) (sym e)

pub ruleset next = (key-begins, key-passes, key-empty)

plain-scalar : (c : model.Value) → is_plain c ≡ true → (s : model.Scalar) × (scalars_of c ≡ s ∷ []) × ((t : model.Scalar) → is_scalar t c ≡ same_scalar t s)
plain-scalar (cell n (a_scalar s) ps) h = (s, refl, λ t. refl)
plain-scalar (cell n a_record ps) h = cc
plain-scalar (cell n (a_variant i) ps) h = cc
plain-scalar (cell n a_table ps) h = cc
plain-scalar (cell n (a_polymorph t) ps) h = cc
plain-scalar (cell n (a_callmessage caller call) ps) h = cc
plain-scalar (cell n (an_inport p) ps) h = cc
plain-scalar (cell n (an_outport p) ps) h = cc

-- two keys that begin with scalars
module _ (ka kb la lb : List model.Scalar) (x y : model.Value) (plain_x : is_plain x ≡ true) (plain_y : is_plain y ≡ true) (ea : ka ≡ scalars_of x ++ la) (eb : kb ≡ scalars_of y ++ lb) (same : Bool) (told : (s : model.Scalar) → scalars_of x ≡ s ∷ [] → same ≡ is_scalar s y) where
  both-begin : same_key ka kb ≡ (same && same_key la lb)
  both-begin =
      let p = plain-scalar x plain_x in
      let q = plain-scalar y plain_y in
      ap₂ same_key (ea ∙ ap (λ k. k ++ la) p.1) (eb ∙ ap (λ k. k ++ lb) q.1) ∙ ap (λ b. b && same_key la lb) (sym (told p.0 p.1 ∙ q.2 p.0))

  pub begin-alike : (rest : Bool) → same ≡ true → rest ≡ same_key la lb → rest ≡ same_key ka kb
  begin-alike rest h e = e ∙ sym (both-begin ∙ ap (λ b. b && same_key la lb) h)

  pub begin-apart : same ≡ false → false ≡ same_key ka kb
  begin-apart h = sym (both-begin ∙ ap (λ b. b && same_key la lb) h)

-- one key has ended
begins : (k l : List model.Scalar) (x : model.Value) → is_plain x ≡ true → k ≡ scalars_of x ++ l → (s : model.Scalar) × (k ≡ s ∷ l)
begins k l x h e = let p = plain-scalar x h in (p.0, e ∙ ap (λ s. s ++ l) p.1)

pub first-ended : (ka kb lb : List model.Scalar) (y : model.Value) → ka ≡ [] → is_plain y ≡ true → kb ≡ scalars_of y ++ lb → false ≡ same_key ka kb
first-ended ka kb lb y ea h eb = let q = begins kb lb y h eb in sym (ap₂ same_key ea q.1)

pub second-ended : (ka kb la : List model.Scalar) (x : model.Value) → is_plain x ≡ true → ka ≡ scalars_of x ++ la → kb ≡ [] → false ≡ same_key ka kb
second-ended ka kb la x h ea eb = let p = begins ka la x h ea in sym (ap₂ same_key p.1 eb)

pub both-ended : (ka kb : List model.Scalar) → ka ≡ [] → kb ≡ [] → true ≡ same_key ka kb
both-ended ka kb ea eb = sym (ap₂ same_key ea eb)
