-- What is held of the variables by a test for facts: which facts, in order, and what of it is left over.
use Rattle.std.specs.Prelude.{◌≡◌, Option, ℕ, zero, suc, List, [], ◌∷◌, ◌++◌, flat_map, Bool, true, false, not, ◌&&◌, ◌||◌, cond, slice_get}
use Rattle.herm_base.specs.declared.numbers.TypeNo.{TypeNo}
use Rattle.herm_model.specs.Lists.{list_of, numbered}
use Rattle.herm_model.specs.Paths.{Path, Fact, init, case}
use Rattle.herm_model.specs.Types.{TypeTable, Shape, cases, held_parts, greatest_depth}

abbrev pub part_view : ℕ × TypeNo → ℕ × ℕ
part_view p = (p.0, p.1.0)

-- the components of a variant
abbrev pub component_parts : Shape → List (ℕ × ℕ)
component_parts (cases ts) = numbered 0 ts
component_parts s = []

-- a type with neither parts nor components
pub record IsPlain (shape : Option Shape) : Type 0 where
  pub parts : list_of held_parts shape ≡ []
  pub components : list_of component_parts shape ≡ []

-- there is a value at the path that does not stay
abbrev pub is_value_left : (here kept : Fact → Bool) → Path → Bool
is_value_left here kept p = here (init p) && not (kept (init p))

module _ (table : TypeTable) (has : Fact → Bool) where
  -- The facts that are held at and below a path of a type, each behind those that it needs: a value at the path, where it passes through no
  -- component; then what is held of its parts, and of each component that is known. Down to so many types. Language reference, "Facts".
  abbrev pub held_from : ℕ → (within : Bool) → (t : ℕ) → Path → List Fact
  held_from zero within t p = []
  held_from (suc n) within t p =
      cond (within || has (init p))
      (cond within [] (init p ∷ [])
      ++ (flat_map (λ part. held_from n within part.1 (p ++ part.0 ∷ [])) (list_of held_parts (slice_get table t))
      ++ flat_map (λ part. cond (has (case p part.0)) (case p part.0 ∷ held_from n true part.1 (p ++ part.0 ∷ [])) []) (list_of component_parts (slice_get table t))))
      []

  -- what is held below a path, where it goes on through so many types
  abbrev pub held_inside : ℕ → (within : Bool) → (t : ℕ) → Path → List Fact
  held_inside n within t p =
      flat_map (λ part. held_from n within part.1 (p ++ part.0 ∷ [])) (list_of held_parts (slice_get table t))
      ++ flat_map (λ part. cond (has (case p part.0)) (case p part.0 ∷ held_from n true part.1 (p ++ part.0 ∷ [])) []) (list_of component_parts (slice_get table t))

  -- the same of variables of these types, down to so many types
  abbrev pub held_through : ℕ → (variables : List ℕ) → List Fact
  held_through n variables = flat_map (λ v. held_from n false v.1 (v.0 ∷ [])) (numbered 0 variables)

  -- The facts that are held of variables of these types, by variables and then by parts.
  abbrev pub held_facts : (variables : List ℕ) → List Fact
  held_facts variables = held_through greatest_depth variables
