-- A table that begins with what is predefined is that of the definitions behind it.
use Rattle.std.proofs.Common.{◌≡◌, List, [], ◌∷◌, ◌++◌, map, refl, ap}
use Rattle.herm_model.specs.Types.{predefined}
use Rattle.herm_syntax.specs.Trees.{Letters}
use Rattle.herm_meaning.specs.Names.{predefined_names, predefined_parts, predefined_exception_names}
use Rattle.herm_types.specs.declared.shape.Shape.{Shape}
use Rattle.herm_types.specs.View.{shape_view, parts_view}
use Rattle.herm_types.specs.Table.{table_of, defined_table}

pub map-append : {X Y : Type 0} (f : X → Y) (xs ys : List X) → map f (xs ++ ys) ≡ map f xs ++ map f ys
map-append f [] ys = refl
map-append f (x ∷ xs) ys = ap (f x ∷◌) (map-append f xs ys)

pub extended : (defined : List (Letters × Shape)) (exceptions : List Letters) (names : List Letters) (shapes : List Shape) (others : List Letters) (all_names : List Letters) (all_shapes : List Shape) (all_others : List Letters) → names ≡ predefined_names → map shape_view shapes ≡ predefined → map parts_view shapes ≡ predefined_parts → others ≡ predefined_exception_names → all_names ≡ names ++ map (λ d. d.0) defined → all_shapes ≡ shapes ++ map (λ d. d.1) defined → all_others ≡ others ++ exceptions → table_of all_names all_shapes all_others ≡ defined_table defined exceptions
extended defined exceptions names shapes others all_names all_shapes all_others n s p e an as' ao =
    rw (an, as', ao, n, e, map-append shape_view shapes (map (λ d. d.1) defined), map-append parts_view shapes (map (λ d. d.1) defined), s, p) refl
