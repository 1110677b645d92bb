-- Tables that definitions mean: what they are of, and how large.
use Rattle.std.proofs.Common.{◌≡◌, ◌≤◌, ◌<◌, ◌^◌, ℕ, zero, suc, ◌+◌, List, [], ◌∷◌, ◌++◌, map, length, slice_get, Some, inl, inr, refl, sym, ◌∙◌, ap, subst, arith}
use Rattle.herm_model.specs.Lists.{IsIn}
use Rattle.herm_model.proofs.Lists.{slice_get-map, length-map}
use Rattle.herm_model.proofs.Options.{some-injective, none-not_some, map-some}
use Rattle.herm_model.specs.Types as types
use Rattle.herm_syntax.specs.declared.definitions.DefForm.{DefForm}
use Rattle.herm_syntax.specs.declared.definitions.DefForm.TheVariants.{Shaped, Exception}
use Rattle.herm_syntax.specs.declared.definitions.ShapeForm.{ShapeForm}
use Rattle.herm_syntax.specs.declared.definitions.ShapeForm.TheVariants.{Names, Fields, Cases, Rows, Inport, Outport, CallMessage}
use Rattle.herm_syntax.specs.Trees.{Letters, Shape}
use Rattle.herm_syntax.specs.View.{name_view, field_view, param_form_view, shape_form_view}
use Rattle.herm_types.specs.declared.shape.Shape.{Shape as Code}
use Rattle.herm_types.specs.View.{shape_view, parts_view}
use Rattle.herm_types.specs.Table.{defined_table, IsSized}
use Rattle.herm_meaning.specs.Names.{NamedTable, predefined_parts}
use Rattle.herm_meaning.specs.Items.{Placed, types_in, types_by, exceptions_in}
use Rattle.herm_meaning.specs.Meaning.{part_names, numbered_shape, meant_shape, type_names, exception_names, outline, meaning}
use Rattle.herm_defs.specs.Few.{AreFew, form_total, part_total}

map-map : {X Y Z : Type 0} (f : Y → Z) (g : X → Y) (xs : List X) → map f (map g xs) ≡ map (λ x. f (g x)) xs
map-map f g [] = refl
map-map f g (x ∷ xs) = ap (f (g x) ∷◌) (map-map f g xs)

-- a table of these names, shapes and exceptions
pub outline-is : (items : List Placed) (defined : List (Letters × Code)) (exceptions : List Letters) (types exceptions_there : List Letters) → types ≡ type_names items → exceptions_there ≡ exception_names items → map (λ d. d.0) defined ≡ map (λ d. d.0) (types_in items) → map (λ d. shape_view d.1) defined ≡ map (λ d. numbered_shape types exceptions_there d.1) (types_in items) → map (λ d. parts_view d.1) defined ≡ map (λ d. part_names d.1) (types_in items) → exceptions ≡ exceptions_in items → defined_table defined exceptions ≡ outline items
outline-is items defined exceptions types exceptions_there t x n s p e = rw (n, map-map shape_view (λ d. d.1) defined, map-map parts_view (λ d. d.1) defined, s, p, e, t, x) refl

pub meaning-is : (items : List Placed) (defined : List (Letters × Code)) (exceptions : List Letters) (table : NamedTable) → table ≡ outline items → map (λ d. d.0) defined ≡ map (λ d. d.0) (types_in items) → map (λ d. shape_view d.1) defined ≡ map (λ d. meant_shape table d.1) (types_in items) → map (λ d. parts_view d.1) defined ≡ map (λ d. part_names d.1) (types_in items) → exceptions ≡ exceptions_in items → defined_table defined exceptions ≡ meaning items
meaning-is items defined exceptions table t n s p e = rw (n, map-map shape_view (λ d. d.1) defined, map-map parts_view (λ d. d.1) defined, s, p, e, t) refl

-- ---- sizes

few-names : (form : ShapeForm) → part_total form < 2 ^ 31 → length (part_names (shape_form_view form)) < 2 ^ 31
few-names (Names values) l = omega (arith, l, length-map name_view values.items)
few-names (Fields fs) l = omega (arith, l, length-map field_view fs.items, length-map (λ (f : Letters × Letters). f.0) (map field_view fs.items))
few-names (Cases cs) l = omega (arith, l, length-map field_view cs.items, length-map (λ (f : Letters × Letters). f.0) (map field_view cs.items))
few-names (Rows row keys) l = omega arith
few-names (Inport message facts) l = omega arith
few-names (Outport port) l = omega arith
few-names (CallMessage params raises) l = omega (arith, l, length-map param_form_view params.items, length-map (λ p. p.1.0) (map param_form_view params.items))

few-behind : (items : List Placed) → AreFew items → (k : ℕ) (d : Letters × Shape) → slice_get (types_in items) k ≡ Some d → length (part_names d.1) < 2 ^ 31
few-behind [] few k d e = none-not_some e
few-behind (i ∷ items) few k d e = by i.1.form (few i (inl refl)) k e (λ k'. few-behind items (λ j m. few j (inr m)) k' d)
  where
    by : (f : DefForm) → form_total f < 2 ^ 31 → (k : ℕ) → slice_get (types_by (name_view i.1.name) f (types_in items)) k ≡ Some d → ((k' : ℕ) → slice_get (types_in items) k' ≡ Some d → length (part_names d.1) < 2 ^ 31) → length (part_names d.1) < 2 ^ 31
    by (Shaped form) l zero e' again = subst (λ (d' : Letters × Shape). length (part_names d'.1) < 2 ^ 31) (some-injective e') (few-names form l)
    by (Shaped form) l (suc k') e' again = again k' e'
    by Exception l k' e' again = again k' e'

each-few : (rest : List (List Letters)) → ((k : ℕ) (ps : List Letters) → slice_get rest k ≡ Some ps → length ps < 2 ^ 31) → (t : ℕ) (ps : List Letters) → slice_get (predefined_parts ++ rest) t ≡ Some ps → length ps < 2 ^ 32
each-few rest more zero ps e = subst (λ (xs : List Letters). length xs < 2 ^ 32) (some-injective e) (omega arith)
each-few rest more (suc zero) ps e = subst (λ (xs : List Letters). length xs < 2 ^ 32) (some-injective e) (omega arith)
each-few rest more (suc (suc zero)) ps e = subst (λ (xs : List Letters). length xs < 2 ^ 32) (some-injective e) (omega arith)
each-few rest more (suc (suc (suc zero))) ps e = subst (λ (xs : List Letters). length xs < 2 ^ 32) (some-injective e) (omega arith)
each-few rest more (suc (suc (suc (suc zero)))) ps e = subst (λ (xs : List Letters). length xs < 2 ^ 32) (some-injective e) (omega arith)
each-few rest more (suc (suc (suc (suc (suc zero))))) ps e = subst (λ (xs : List Letters). length xs < 2 ^ 32) (some-injective e) (omega arith)
each-few rest more (suc (suc (suc (suc (suc (suc zero)))))) ps e = subst (λ (xs : List Letters). length xs < 2 ^ 32) (some-injective e) (omega arith)
each-few rest more (suc (suc (suc (suc (suc (suc (suc zero))))))) ps e = subst (λ (xs : List Letters). length xs < 2 ^ 32) (some-injective e) (omega arith)
each-few rest more (suc (suc (suc (suc (suc (suc (suc (suc k)))))))) ps e = let l = more k ps e in omega (arith, l)

few-parts : (items : List Placed) → AreFew items → (t : ℕ) (ps : List Letters) → slice_get (outline items).parts t ≡ Some ps → length ps < 2 ^ 32
few-parts items few = each-few (map (λ d. part_names d.1) (types_in items)) by
  where
    by : (k : ℕ) (ps : List Letters) → slice_get (map (λ d. part_names d.1) (types_in items)) k ≡ Some ps → length ps < 2 ^ 31
    by k ps e =
        let from = map-some (λ d. part_names d.1) (slice_get (types_in items) k) ps (sym (slice_get-map (λ d. part_names d.1) (types_in items) k) ∙ e) in
        subst (λ (xs : List Letters). length xs < 2 ^ 31) from.2 (few-behind items few k from.0 from.1)

pub outline-sized : (items : List Placed) → AreFew items → length (type_names items) < 2 ^ 32 → IsSized (outline items)
outline-sized items few l = record {
  few = let n = length-map (λ d. d.0) (types_in items) in let s = length-map (λ d. numbered_shape (type_names items) (exception_names items) d.1) (types_in items) in omega (arith, l, n, s);
  few_parts = few-parts items few;
}

pub meaning-sized : (items : List Placed) → AreFew items → length (type_names items) < 2 ^ 32 → IsSized (meaning items)
meaning-sized items few l = record {
  few = let n = length-map (λ d. d.0) (types_in items) in let s = length-map (λ d. meant_shape (outline items) d.1) (types_in items) in omega (arith, l, n, s);
  few_parts = few-parts items few;
}
