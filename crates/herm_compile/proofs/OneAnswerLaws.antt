-- Files have one answer of the second phase: what it takes from modules is determined by the tokens.
use Rattle.std.proofs.Common.{◌≡◌, ℕ, suc, List, [], ◌∷◌, ◌++◌, Option, Some, None, map, refl, sym, ap, ◌∙◌, subst}
use Rattle.std.proofs.lemmas.List.{map-append}
use Rattle.herm_base.specs.declared.word.Name.{Name}
use Rattle.herm_syntax.specs.declared.definitions.DefForm.{DefForm}
use Rattle.herm_syntax.specs.declared.definitions.DefForm.TheVariants.{Shaped, Exception}
use Rattle.herm_syntax.specs.declared.definitions.DefItem.{DefItem}
use Rattle.herm_syntax.specs.declared.modules.Module.{Module}
use Rattle.herm_syntax.specs.declared.modules.Module.TheVariants.{Definitions, Process}
use Rattle.herm_syntax.specs.Trees.{Letters, Shape}
use Rattle.herm_syntax.specs.View.{module_view, shape_form_view}
use Rattle.herm_meaning.specs.Names.{NamedTable, behind_predefined, predefined_names, predefined_exception_names}
use Rattle.herm_meaning.specs.Items.{Placed, module_items, items_from, items_of, types_by, types_in, exceptions_by, exceptions_in}
use Rattle.herm_naming.specs.Meaning.{meaning as program_meaning, main_number}
use Rattle.herm_meaning.specs.Meaning.{part_names, numbered_shape, outline, meant_shape, meaning}
use Rattle.herm_meaning.specs.Marks.{Mark, a_type, an_exception, mark, shape_marks, Place, places_in, places_by, places_from, places}
use Rattle.herm_meaning.specs.DefinitionFaults.{Fault as Wrong, AreFaults, AreFaultsOf}
use Rattle.herm_meaning.proofs.Unique.{one-list}
use Rattle.herm_compile.specs.FirstPhase.{HaveModules}
use Rattle.herm_compile.specs.SecondPhase.{AreTypesOf, definition_fault}
use Rattle.herm_compile.specs.OneDefinition.{HaveOneTable, AreOneList, TypesOrFaults, HaveOneProgram}
use Rattle.herm_compile.proofs.NamedPlaces.{Core, core_by, core_of, cores_of, module_reads}
use Rattle.herm_compile.proofs.FilesAlike.{same_views, same_read, same_owners}

-- ---- what is taken from items

abbrev Numbered : Type 0
Numbered = ℕ × Core

abbrev numbered : ℕ → Core → Numbered
numbered n c = (n, c)

abbrev placed_core : Placed → Numbered
placed_core p = (p.0, core_of p.1)

abbrev cores_from : ℕ → List (List Core) → List Numbered
cores_from n [] = []
cores_from n (cs ∷ css) = map (numbered n) cs ++ cores_from (suc n) css

items_numbered : (n : ℕ) (list : List DefItem) → map placed_core (map (λ item. (n, item)) list) ≡ map (numbered n) (map core_of list)
items_numbered n [] = refl
items_numbered n (i ∷ list) = ap (λ zs. numbered n (core_of i) ∷ zs) (items_numbered n list)

module_numbered : (n : ℕ) (m : Module) → map placed_core (module_items n m) ≡ map (numbered n) (cores_of m)
module_numbered n (Definitions name list) = items_numbered n list.items
module_numbered n (Process name port vars body) = refl

items_are : (n : ℕ) (modules : List Module) → map placed_core (items_from n modules) ≡ cores_from n (map cores_of modules)
items_are n [] = refl
items_are n (m ∷ modules) =
    map-append placed_core (module_items n m) (items_from (suc n) modules)
    ∙ (ap (λ cs. cs ++ map placed_core (items_from (suc n) modules)) (module_numbered n m) ∙ ap (λ cs. map (numbered n) (cores_of m) ++ cs) (items_are (suc n) modules))

-- ---- types and exceptions

abbrev core_types : Letters → Option (Shape × List Mark) → List (Letters × Shape) → List (Letters × Shape)
core_types name (Some s) others = (name, s.0) ∷ others
core_types name None others = others

abbrev types_of_cores : List Numbered → List (Letters × Shape)
types_of_cores [] = []
types_of_cores (c ∷ cs) = core_types c.1.0.text c.1.1 (types_of_cores cs)

abbrev core_exceptions : Letters → Option (Shape × List Mark) → List Letters → List Letters
core_exceptions name (Some s) others = others
core_exceptions name None others = name ∷ others

abbrev exceptions_of_cores : List Numbered → List Letters
exceptions_of_cores [] = []
exceptions_of_cores (c ∷ cs) = core_exceptions c.1.0.text c.1.1 (exceptions_of_cores cs)

type_is : (name : Name) (form : DefForm) (others : List (Letters × Shape)) → types_by name.text form others ≡ core_types (core_by name form).0.text (core_by name form).1 others
type_is name (Shaped s) others = refl
type_is name Exception others = refl

exception_is : (name : Name) (form : DefForm) (others : List Letters) → exceptions_by name.text form others ≡ core_exceptions (core_by name form).0.text (core_by name form).1 others
exception_is name (Shaped s) others = refl
exception_is name Exception others = refl

types_are : (items : List Placed) → types_in items ≡ types_of_cores (map placed_core items)
types_are [] = refl
types_are (i ∷ items) = ap (λ ts. types_by i.1.name.text i.1.form ts) (types_are items) ∙ type_is i.1.name i.1.form (types_of_cores (map placed_core items))

exceptions_are : (items : List Placed) → exceptions_in items ≡ exceptions_of_cores (map placed_core items)
exceptions_are [] = refl
exceptions_are (i ∷ items) = ap (λ es. exceptions_by i.1.name.text i.1.form es) (exceptions_are items) ∙ exception_is i.1.name i.1.form (exceptions_of_cores (map placed_core items))

-- ---- places

abbrev core_places : ℕ → Name → Option (Shape × List Mark) → ℕ → ℕ → (ℕ → ℕ → List Place) → List Place
core_places n name (Some s) t e behind = places_in n (mark name (a_type t s.0) ++ s.1) ++ behind (suc t) e
core_places n name None t e behind = places_in n (mark name (an_exception e)) ++ behind t (suc e)

abbrev places_of_cores : List Numbered → ℕ → ℕ → List Place
places_of_cores [] t e = []
places_of_cores (c ∷ cs) t e = core_places c.0 c.1.0 c.1.1 t e (places_of_cores cs)

place_is : (n : ℕ) (name : Name) (form : DefForm) (t e : ℕ) (behind others : ℕ → ℕ → List Place) → ((t e : ℕ) → behind t e ≡ others t e) →
    places_by n name form t e behind ≡ core_places n (core_by name form).0 (core_by name form).1 t e others
place_is n name (Shaped s) t e behind others same = ap (λ ps. places_in n (mark name (a_type t (shape_form_view s)) ++ shape_marks s) ++ ps) (same (suc t) e)
place_is n name Exception t e behind others same = ap (λ ps. places_in n (mark name (an_exception e)) ++ ps) (same t (suc e))

places_are : (items : List Placed) (t e : ℕ) → places_from items t e ≡ places_of_cores (map placed_core items) t e
places_are [] t e = refl
places_are (i ∷ items) t e = place_is i.0 i.1.name i.1.form t e (places_from items) (places_of_cores (map placed_core items)) (places_are items)

-- ---- the table

abbrev outline_by : List (Letters × Shape) → List Letters → NamedTable
outline_by types exceptions = behind_predefined (record {
  names = map (λ d. d.0) types;
  shapes = map (λ d. numbered_shape (predefined_names ++ map (λ d. d.0) types) (predefined_exception_names ++ exceptions) d.1) types;
  parts = map (λ d. part_names d.1) types;
  exceptions = exceptions;
})

abbrev meaning_by : List (Letters × Shape) → List Letters → NamedTable
meaning_by types exceptions = behind_predefined (record {
  names = map (λ d. d.0) types;
  shapes = map (λ d. meant_shape (outline_by types exceptions) d.1) types;
  parts = map (λ d. part_names d.1) types;
  exceptions = exceptions;
})

outline_is : (items : List Placed) → outline items ≡ outline_by (types_in items) (exceptions_in items)
outline_is items = refl

meaning_is : (items : List Placed) → meaning items ≡ meaning_by (types_in items) (exceptions_in items)
meaning_is items = refl

module _ (items others : List Placed) (same : map placed_core items ≡ map placed_core others) where
  same_types : types_in items ≡ types_in others
  same_types = types_are items ∙ (ap types_of_cores same ∙ sym (types_are others))

  same_exceptions : exceptions_in items ≡ exceptions_in others
  same_exceptions = exceptions_are items ∙ (ap exceptions_of_cores same ∙ sym (exceptions_are others))

  same_outline : outline items ≡ outline others
  same_outline = outline_is items ∙ (ap (λ ts. outline_by ts (exceptions_in items)) same_types ∙ (ap (λ es. outline_by (types_in others) es) same_exceptions ∙ sym (outline_is others)))

  same_meaning : meaning items ≡ meaning others
  same_meaning = meaning_is items ∙ (ap (λ ts. meaning_by ts (exceptions_in items)) same_types ∙ (ap (λ es. meaning_by (types_in others) es) same_exceptions ∙ sym (meaning_is others)))

  same_places : places items ≡ places others
  same_places = places_are items 8 7 ∙ (ap (λ cs. places_of_cores cs 8 7) same ∙ sym (places_are others 8 7))

  same_faults : (faults : List Wrong) → AreFaultsOf items faults → AreFaultsOf others faults
  same_faults faults are = subst (λ (table : NamedTable). AreFaults table (places others) faults) same_outline (subst (λ (ps : List Place). AreFaults (outline items) ps faults) same_places are)

-- ---- files

same_items : (a b : List Module) → map cores_of a ≡ map cores_of b → map placed_core (items_of a) ≡ map placed_core (items_of b)
same_items a b same = items_are 0 a ∙ (ap (cores_from 0) same ∙ sym (items_are 0 b))

module _ (files : List (List ℕ)) (a b : List Module) (owners others : List ℕ) (of_a : HaveModules 0 files a owners) (of_b : HaveModules 0 files b others) where
  placed_alike : map placed_core (items_of a) ≡ map placed_core (items_of b)
  placed_alike = same_items a b (same_read module_reads 0 files a b owners others of_a of_b)

  pub tables_alike : (table other : NamedTable) → AreTypesOf a table → AreTypesOf b other → table ≡ other
  tables_alike table other x y = x.meant ∙ (same_meaning (items_of a) (items_of b) placed_alike ∙ sym y.meant)

  lists_alike : (list more : List Wrong) → AreFaultsOf (items_of a) list → AreFaultsOf (items_of b) more → list ≡ more
  lists_alike list more x y = one-list (outline (items_of b)) (places (items_of b)) list more (same_faults (items_of a) (items_of b) placed_alike list x) y

pub one_table : HaveOneTable
one_table files table other a b = tables_alike files a.modules b.modules a.owners b.owners a.read b.read table other a.are b.are

pub one_list : AreOneList
one_list files faults others a b =
    let owners = same_owners 0 files a.modules b.modules a.owners b.owners a.read b.read in
    let lists = lists_alike files a.modules b.modules a.owners b.owners a.read b.read a.list b.list a.are b.are in
    a.each ∙ (ap (λ os. map (definition_fault files os) a.list) owners ∙ (ap (λ l. map (definition_fault files b.owners) l) lists ∙ sym b.each))

pub types_or_faults : TypesOrFaults
types_or_faults files table faults a b = b.some (sym (lists_alike files a.modules b.modules a.owners b.owners a.read b.read [] b.list a.are.right b.are))

pub one_program : HaveOneProgram
one_program files table other processes others main number a b =
    let views = same_views 0 files a.modules b.modules a.owners b.owners a.read b.read in
    let tables = tables_alike files a.modules b.modules a.owners b.owners a.read b.read table other a.types b.types in (
      tables,
      a.meant ∙ (ap (λ t. program_meaning t (map module_view a.modules)) tables ∙ (ap (program_meaning other) views ∙ sym b.meant)),
      a.main_is ∙ (ap main_number views ∙ sym b.main_is),
    )
