-- Paths and facts of a well-formed table.
use Rattle.std.proofs.Common.{None, Option, option_map, Vec, Global, ◌≡◌, ◌<◌, ℕ, List, [], ◌∷◌, ◌++◌, map, length, slice_get, is_some, IsTrue, refl, sym, ◌∙◌, ap, ap₂, subst, arith, Some, true, false}
use Rattle.std.specs.Prelude.{◌==◌}
use Rattle.std.proofs.lemmas.Bool.{eqb-true}
use Rattle.std.proofs.lemmas.Option.{slice_get-get_or, slice_get_within, slice_get-map}
use Rattle.herm_model.specs.Paths as model
use Rattle.herm_model.specs.Types as types
use Rattle.herm_model.specs.Types.{TypeTable, part_paths, part_paths_within, all_parts, full_parts, greatest_depth, inport}
use Rattle.herm_model.specs.Facts.{full_facts, said_at, message_of, message_facts, declared_facts}
use Rattle.herm_model.specs.Lists.{map_or, list_of}
use Rattle.herm_model.specs.WellFormedTables.{IsWellFormedTable}
use Rattle.herm_meaning.specs.Names.{NamedTable}
use Rattle.herm_types.specs.declared.fact.Fact.{Fact}
use Rattle.herm_types.specs.declared.shape.Shape.{Shape}
use Rattle.herm_types.specs.View.{fact_view, shape_view}
use Rattle.herm_types.specs.Table.{shapes_view, AreDeclared}
use Rattle.herm_types.specs.Messages.{closed_list, closed_list_of}
use Rattle.herm_types.specs.declared.paths.Choice.{Choice}
use Rattle.herm_types.specs.declared.paths.Choice.TheVariants.{All, Full}
use Rattle.herm_types.specs.Chosen.{chosen, IsShallow, paths_through}
use Rattle.herm_types.proofs.Tables.{map-length}
use Rattle.herm_types.proofs.Walks.{map-map}

known : {X : Type 0} (xs : List X) (t : ℕ) → t < length xs → IsTrue (is_some (slice_get xs t))
known [] t l = absurd (omega (arith, l))
known (x ∷ xs) t l = ap is_some (slice_get-get_or (x ∷ xs) t x l)

pub shallow : (exceptions : ℕ) (table : TypeTable) (t : ℕ) → IsWellFormedTable exceptions table → t < length table → IsShallow table t
unfolding IsShallow
shallow exceptions table t good l = good.shallow t (known table t l)

pub started : (c : Choice) (table : TypeTable) (t : ℕ) (from at : List ℕ) (before out : List (List ℕ)) → at ≡ from → before ≡ [] → out ≡ before ++ map (at ++◌) (part_paths_within (chosen c) greatest_depth table t) → out ≡ map (from ++◌) (paths_through c table t)
unfolding paths_through
started c table t from at before out a b e = e ∙ rw (a, b) refl

map-nothing : (xs : List (List ℕ)) → map ([] ++◌) xs ≡ xs
map-nothing [] = refl
map-nothing (x ∷ xs) = ap (x ∷◌) (map-nothing xs)

pub all-paths : (table : TypeTable) (t : ℕ) (out : List (List ℕ)) → out ≡ map ([] ++◌) (paths_through All table t) → out ≡ part_paths all_parts table t
unfolding paths_through
all-paths table t out e = e ∙ map-nothing (part_paths all_parts table t)

pub full-facts : (table : TypeTable) (t v : ℕ) (from : List ℕ) (facts : List model.Fact) (out : List (List ℕ)) → out ≡ map (from ++◌) (paths_through Full table t) → facts ≡ map (λ q. model.init (v ∷ q)) out → facts ≡ full_facts table t (v ∷ from)
unfolding paths_through
full-facts table t v from facts out e f = f ∙ (ap (map (λ q. model.init (v ∷ q))) e ∙ map-map (λ q. model.init (v ∷ q)) (from ++◌) (λ q. model.init (v ∷ (from ++ q))) (part_paths full_parts table t) (λ q. refl))

-- ---- declared facts

said-full : (table : TypeTable) (t : ℕ) (p : model.Path) → full_facts table t p ≡ map (said_at p) (full_facts table t (0 ∷ []))
said-full table t p = sym (map-map (said_at p) (λ q. model.init ((0 ∷ []) ++ q)) (λ q. model.init (p ++ q)) (part_paths full_parts table t) (λ q. refl))

pub declared-full : (table : TypeTable) (t message : ℕ) (p : model.Path) (declared : List model.Fact) (out : List model.Fact) → slice_get table t ≡ Some (inport message declared) → declared ≡ [] → out ≡ full_facts table message p → out ≡ declared_facts table t p
declared-full table t message p declared out e none o =
    o ∙ (said-full table message p ∙ sym (ap (map_or [] (λ s. list_of (λ m. map (said_at p) (message_facts table m.0 m.1)) (message_of s))) (e ∙ ap (λ ds. Some (inport message ds)) none)))

pub declared-listed : (table : TypeTable) (t message : ℕ) (p : model.Path) (declared : List model.Fact) (out closed : List model.Fact) → slice_get table t ≡ Some (inport message declared) → (declared ≡ [] → ⊥) → closed ≡ closed_list table message declared → out ≡ map (said_at p) closed → out ≡ declared_facts table t p
declared-listed table t message p [] out closed e some d o = absurd (some refl)
declared-listed table t message p (f ∷ declared) out closed e some d o =
    o ∙ (ap (map (said_at p)) d ∙ sym (ap (map_or [] (λ s. list_of (λ m. map (said_at p) (message_facts table m.0 m.1)) (message_of s))) e))

-- an inport type of the table has a list
pub declared-there : (shapes : List Shape) (declared : List (Vec Fact Global)) (t : ℕ) (s : types.Shape) → AreDeclared shapes declared → slice_get (shapes_view shapes) t ≡ Some s → t < length declared
declared-there shapes declared t s all e =
    omega (arith, slice_get_within (shapes_view shapes) t s e, map-length shape_view shapes, ap length all, map-length (λ (v : Vec Fact Global). map fact_view v.items) declared, map-length (λ (s : Shape). closed_list_of (shapes_view shapes) (shape_view s)) shapes)

-- which is what is closed of what it lists
pub declared-at : (shapes : List Shape) (declared : List (Vec Fact Global)) (t message : ℕ) (listed : List model.Fact) (v : Vec Fact Global) → AreDeclared shapes declared → slice_get declared t ≡ Some v → slice_get (shapes_view shapes) t ≡ Some (inport message listed) → map fact_view v.items ≡ closed_list (shapes_view shapes) message listed
declared-at shapes declared t message listed v all there e =
    by (slice_get shapes t)
    (sym (ap (option_map (λ (v : Vec Fact Global). map fact_view v.items)) there) ∙ (sym (slice_get-map (λ (v : Vec Fact Global). map fact_view v.items) declared t) ∙ (ap (λ (fss : List (List model.Fact)). slice_get fss t) all ∙ slice_get-map (λ (s : Shape). closed_list_of (shapes_view shapes) (shape_view s)) shapes t)))
    (sym (slice_get-map shape_view shapes t) ∙ e)
  where
    by : (o : Option Shape) → Some (map fact_view v.items) ≡ option_map (λ (s : Shape). closed_list_of (shapes_view shapes) (shape_view s)) o → option_map shape_view o ≡ Some (inport message listed) → map fact_view v.items ≡ closed_list (shapes_view shapes) message listed
    by None f g = absurd cc
    by (Some s) f g = let same : shape_view s ≡ inport message listed = cc in let is : map fact_view v.items ≡ closed_list_of (shapes_view shapes) (shape_view s) = cc in is ∙ ap (closed_list_of (shapes_view shapes)) same

pub empty-is : {X : Type 0} (f : X → model.Fact) (xs : List X) → true ≡ (length xs == 0) → map f xs ≡ []
empty-is f [] e = refl
empty-is f (x ∷ xs) e = absurd (omega (arith, eqb-true (length (x ∷ xs)) 0 (sym e)))

pub not-empty : {X : Type 0} (f : X → model.Fact) (xs : List X) → false ≡ (length xs == 0) → map f xs ≡ [] → ⊥
not-empty f [] e n = absurd cc
not-empty f (x ∷ xs) e n = absurd cc
