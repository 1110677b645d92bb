-- A value of a type is one of its shape, and what may stand at its places.
use Rattle.std.proofs.Common.{◌≡◌, ℕ, List, map, false, ◌&&◌, Option, Some, None, option_map, slice_get, refl, sym, ap, ◌∙◌, Vec, Global}
use Rattle.herm_model.specs.Lists.{map_or}
use Rattle.herm_model.specs.Types.{Shape, TypeTable}
use Rattle.herm_model.specs.Values.{Cell, cell, Kind, Parts}
use Rattle.herm_model.specs.Typed.{Degree, Content, a_value, unfit, layout, parameter_content, is_bounded}
use Rattle.herm_model.proofs.Lists.{slice_get-map}
use Rattle.herm_types.specs.View.{shape_view, mode_view, param_view}
use Rattle.herm_types.specs.declared.shape.Part.{Part}
use Rattle.herm_types.specs.declared.shape.Param.{Param}
use Rattle.herm_types.specs.declared.shape.RaiseDecl.{RaiseDecl}
use Rattle.herm_types.specs.declared.shape.Shape as declared
use Rattle.herm_types.specs.declared.shape.Shape.TheVariants.{Fields, CallMessage}
use Rattle.herm_suits.specs.Decided.{is_of, fits, is_shaped, contents}

module _ {N : Type 0} (d : Degree) (table : TypeTable) where
  there : (o : Option Shape) (s : Shape) (k : Kind) (ps : Parts N) → o ≡ Some s → fits table (layout d s k) ps && is_bounded s ps ≡ fits table (map_or unfit (λ s. layout d s k) o) ps && map_or false (λ s. is_bounded s ps) o
  there o s k ps e = ap (λ o. fits table (map_or unfit (λ s. layout d s k) o) ps && map_or false (λ s. is_bounded s ps) o) (sym e)

  nowhere : (o : Option Shape) (k : Kind) (ps : Parts N) → o ≡ None → false ≡ fits table (map_or unfit (λ s. layout d s k) o) ps && map_or false (λ s. is_bounded s ps) o
  nowhere o k ps e = ap (λ o. fits table (map_or unfit (λ s. layout d s k) o) ps && map_or false (λ s. is_bounded s ps) o) (sym e)

  pub shaped-is : (t : ℕ) (s : Shape) (c : Cell N) → slice_get table t ≡ Some s → is_shaped d table s c ≡ is_of d table t c
  shaped-is t s (cell n k ps) e = there (slice_get table t) s k ps e

  pub no-type : (t : ℕ) (c : Cell N) → slice_get table t ≡ None → false ≡ is_of d table t c
  no-type t (cell n k ps) e = nowhere (slice_get table t) k ps e

-- what may stand at a field, and at a parameter
pub field-at : (d : Degree) (s : declared.Shape) (fs : Vec Part Global) (items : List Part) (j : ℕ) (r : Option Content) → s ≡ Fields fs → items ≡ fs.items → r ≡ option_map (λ p. a_value d p.of.0) (slice_get items j) → r ≡ slice_get (contents d (shape_view s)) j
field-at d s fs items j r is same e =
    e ∙ ap (λ xs. option_map (λ p. a_value d p.of.0) (slice_get xs j)) same ∙ mapped (slice_get fs.items j)
    ∙ sym (slice_get-map (a_value d) (map (λ f. f.of.0) fs.items) j ∙ ap (option_map (a_value d)) (slice_get-map (λ f. f.of.0) fs.items j))
    ∙ sym (ap (λ s. slice_get (contents d (shape_view s)) j) is)
  where
    mapped : (o : Option Part) → option_map (λ p. a_value d p.of.0) o ≡ option_map (a_value d) (option_map (λ f. f.of.0) o)
    mapped None = refl
    mapped (Some p) = refl

pub parameter-at : (d : Degree) (s : declared.Shape) (params : Vec Param Global) (raises : Vec RaiseDecl Global) (items : List Param) (j : ℕ) (r : Option Content) → s ≡ CallMessage params raises → items ≡ params.items
    → r ≡ option_map (λ p. parameter_content d (mode_view p.mode) p.of.0) (slice_get items j) → r ≡ slice_get (contents d (shape_view s)) j
parameter-at d s params raises items j r is same e =
    e ∙ ap (λ xs. option_map (λ p. parameter_content d (mode_view p.mode) p.of.0) (slice_get xs j)) same ∙ mapped (slice_get params.items j)
    ∙ sym (slice_get-map (λ p. parameter_content d p.mode p.content) (map param_view params.items) j ∙ ap (option_map (λ p. parameter_content d p.mode p.content)) (slice_get-map param_view params.items j))
    ∙ sym (ap (λ s. slice_get (contents d (shape_view s)) j) is)
  where
    mapped : (o : Option Param) → option_map (λ p. parameter_content d (mode_view p.mode) p.of.0) o ≡ option_map (λ p. parameter_content d p.mode p.content) (option_map param_view o)
    mapped None = refl
    mapped (Some p) = refl

pub ruleset shapes = (shaped-is, no-type)

pub ruleset places = (field-at, parameter-at)
