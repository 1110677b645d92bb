-- Where definitions are faulty: for each code a predicate that says when it holds at a place, and the list of refusals.
use Rattle.std.specs.Prelude.{ℕ, List, [], ◌∷◌, map, length, take, slice_get, Some, ◌≡◌, ◌<◌, ◌≤◌, ◌⊎◌, false, true}
use Rattle.herm_base.specs.declared.word.Span.{Span}
use Rattle.herm_model.specs.Lists.{IsIn}
use Rattle.herm_model.specs.Paths.{Fact}
use Rattle.herm_model.specs.Types as types
use Rattle.herm_model.specs.Types.{named_types}
use Rattle.herm_model.specs.Copyable.{IsCopyable, is_composed}
use Rattle.herm_model.specs.Facts.{component_count}
use Rattle.herm_model.specs.Calls.{is_returned}
use Rattle.herm_model.specs.Outcomes.{disconnected}
use Rattle.herm_model.specs.TypedExpressions.{is_scalar_shape, HasShape}
use Rattle.herm_model.specs.WellFormedTables.{IsType, NamesTypes, RaisesKnown, Reaches, greatest_paths}
use Rattle.herm_syntax.specs.Trees.{Letters, Param, Raising, DeclaredFact, InitFact, FullFact, CaseFact, Shape, Inport, CallMessage}
use Rattle.herm_meaning.specs.Names.{NamedTable}
use Rattle.herm_meaning.specs.Walks.{place_of, parts_of, ended, left_fields, walk}
use Rattle.herm_meaning.specs.Meaning.{parameter_meant, outline}
use Rattle.herm_meaning.specs.Marks.{Role, a_type, an_exception, a_part, an_input, a_content, a_row, a_key, a_port, a_raised, a_kept, Place, places}
use Rattle.herm_meaning.specs.Items.{Placed}

-- The codes of refusals of definitions, F6 to F11. Language reference, "Refusals of definitions".
pub data Code : Type 0 where
  unknown twice cycle deep bad_key bad_state : Code

abbrev pub rank : Code → ℕ
rank unknown = 6
rank twice = 7
rank cycle = 8
rank deep = 9
rank bad_key = 10
rank bad_state = 11

module _ (table : NamedTable) where
  -- the number that a type's name has
  abbrev pub number_of : Letters → ℕ
  number_of name = place_of table.names name

  -- the type itself, or one that it reaches by the names in shapes
  abbrev pub Meets : ℕ → ℕ → Type 0
  Meets t u = (t ≡ u) ⊎ Reaches table.shapes t u

  -- Neither the type nor any that it reaches reaches itself. Language reference, "Refusals of definitions".
  abbrev pub MeetsNoCycle : ℕ → Type 0
  MeetsNoCycle t = (u : ℕ) → Meets t u → Reaches table.shapes u u → ⊥

  -- all names in its shape and in those that it reaches are known, exceptions too
  abbrev pub MeetsNoUnknown : ℕ → Type 0
  MeetsNoUnknown t = (u : ℕ) (s : types.Shape) → Meets t u → HasShape table.shapes u s → NamesTypes table.shapes s × RaisesKnown (length table.exceptions) s

  -- The type is known, and may be judged: it reaches no cycle. Language reference, "Refusals of definitions".
  abbrev pub IsJudged : ℕ → Type 0
  IsJudged t = IsType table.shapes t × MeetsNoCycle t

  -- Whether the first type is copyable depends on the second: it is that type, or comes by parts of copyable shapes.
  pub data DependsOn : ℕ → ℕ → Type 0 where
    itself : (t : ℕ) → DependsOn t t
    by_part : (t v u : ℕ) (s : types.Shape) → HasShape table.shapes t s → is_composed s ≡ true → IsIn v (named_types s) → DependsOn v u → DependsOn t u

  -- every type on which it depends whether this one is copyable is known
  abbrev pub IsSettled : ℕ → Type 0
  IsSettled t = (u : ℕ) → DependsOn t u → IsType table.shapes u

  -- ---- unknown and twice

  abbrev pub IsUnknown : Letters → Role → Type 0
  IsUnknown name a_content = IsType table.shapes (number_of name) → ⊥
  IsUnknown name a_row = IsType table.shapes (number_of name) → ⊥
  IsUnknown name a_port = IsType table.shapes (number_of name) → ⊥
  IsUnknown name (a_raised before) = length table.exceptions ≤ place_of table.exceptions name
  IsUnknown name role = ⊥

  abbrev pub IsTwice : Letters → Role → Type 0
  IsTwice name (a_type number shape) = IsIn name (take number table.names)
  IsTwice name (an_exception number) = IsIn name (take number table.exceptions)
  IsTwice name (a_part before) = IsIn name before
  IsTwice name (an_input before content) = IsIn name before
  IsTwice name (a_key before row) = IsIn name before
  IsTwice name (a_raised before) = IsIn name before
  IsTwice name (a_kept before) = IsIn name before
  IsTwice name role = ⊥

  -- ---- cycles and depth

  abbrev pub IsOnCycle : Role → Type 0
  IsOnCycle (a_type number shape) = Reaches table.shapes number number
  IsOnCycle role = ⊥

  abbrev pub IsDeep : Role → Type 0
  IsDeep (a_type number shape) = MeetsNoUnknown number × MeetsNoCycle number × ((types.is_within_depth types.greatest_depth table.shapes number ≡ false) ⊎ (greatest_paths < length (types.part_paths types.all_parts table.shapes number)))
  IsDeep role = ⊥

  -- ---- keys

  abbrev pub IsNoRecord : ℕ → Type 0
  IsNoRecord t = (ts : List ℕ) → HasShape table.shapes t (types.fields ts) → ⊥

  -- the part is no field, or a field whose type is known and no scalar
  abbrev pub IsNoKey : ℕ → List ℕ → Letters → Type 0
  IsNoKey row ts name =
      (length ts ≤ place_of (parts_of table row) name)
      ⊎ ((t : ℕ) × (s : types.Shape) × (slice_get ts (place_of (parts_of table row) name) ≡ Some t) × HasShape table.shapes t s × (is_scalar_shape s ≡ false))

  abbrev pub IsBadKey : Letters → Role → Type 0
  IsBadKey name a_row = IsJudged (number_of name) × IsNoRecord (number_of name)
  IsBadKey name (a_key before row) = IsJudged (number_of row) × (ts : List ℕ) × HasShape table.shapes (number_of row) (types.fields ts) × IsNoKey (number_of row) ts name
  IsBadKey name role = ⊥

  -- ---- states

  -- the path leaves record fields, or the component is none of a variant there
  abbrev pub IsBadFact : ℕ → DeclaredFact → Type 0
  IsBadFact message (InitFact p) = walk table message p ≡ left_fields
  IsBadFact message (FullFact p) = walk table message p ≡ left_fields
  IsBadFact message (CaseFact p c) =
      (walk table message p ≡ left_fields)
      ⊎ ((ps : List ℕ) × (t : ℕ) × (s : types.Shape) × (walk table message p ≡ ended ps t) × HasShape table.shapes t s × component_count s ≤ place_of (parts_of table t) c)

  -- two different cases of one path, all of which is known
  abbrev pub HasTwoCases : ℕ → List DeclaredFact → Type 0
  HasTwoCases message facts =
      (p : List Letters) × (c : Letters) × (d : Letters) × IsIn (CaseFact p c) facts × IsIn (CaseFact p d) facts × (c ≡ d → ⊥)
      × (ps : List ℕ) × (t : ℕ) × (walk table message p ≡ ended ps t) × IsType table.shapes t

  abbrev pub HasBadFacts : ℕ → List DeclaredFact → Type 0
  HasBadFacts message facts =
      ((facts ≡ [] → ⊥) × IsNoRecord message)
      ⊎ ((f : DeclaredFact) × IsIn f facts × IsBadFact message f)
      ⊎ HasTwoCases message facts

  -- the name is that of no parameter of mode `inout` or `out`, of which the first with a name counts
  abbrev pub IsNotReturned : List Param → Letters → Type 0
  IsNotReturned params name = (p : types.Parameter) → slice_get (map (parameter_meant table.names) params) (place_of (map (λ q. q.1.0) params) name) ≡ Some p → is_returned p.mode ≡ true → ⊥

  abbrev pub KeepsBadly : List Param → Raising → Type 0
  KeepsBadly params r =
      ((k : Letters) × IsIn k r.1 × IsNotReturned params k)
      ⊎ ((place_of table.exceptions r.0 ≡ disconnected) × (r.1 ≡ [] → ⊥))

  abbrev pub HasBadShape : Shape → Type 0
  HasBadShape (Inport message facts) = IsJudged (number_of message) × HasBadFacts (number_of message) facts
  HasBadShape (CallMessage params raises) = (r : Raising) × IsIn r raises × KeepsBadly params r
  HasBadShape s = ⊥

  abbrev pub IsBadState : Letters → Role → Type 0
  IsBadState name (a_type number shape) = HasBadShape shape
  IsBadState name (an_input before content) = IsJudged (number_of content) × IsSettled (number_of content) × (IsCopyable table.shapes (number_of content) → ⊥)
  IsBadState name a_port = IsJudged (number_of name) × ((message : ℕ) (declared : List Fact) → HasShape table.shapes (number_of name) (types.inport message declared) → ⊥)
  IsBadState name role = ⊥

  -- ---- the list

  -- The code holds at a place. Language reference, "Refusals of definitions".
  abbrev pub Holds : Code → Place → Type 0
  Holds unknown p = IsUnknown p.1.name.text p.1.role
  Holds twice p = IsTwice p.1.name.text p.1.role
  Holds cycle p = IsOnCycle p.1.role
  Holds deep p = IsDeep p.1.role
  Holds bad_key p = IsBadKey p.1.name.text p.1.role
  Holds bad_state p = IsBadState p.1.name.text p.1.role

  -- no code holds there
  abbrev pub IsRight : Place → Type 0
  IsRight p = (c : Code) → Holds c p → ⊥

  -- it holds there, and none that comes before it
  abbrev pub IsFirst : Code → Place → Type 0
  IsFirst c p = Holds c p × ((d : Code) → rank d < rank c → Holds d p → ⊥)

-- a code at a name of a module
pub record Fault : Type 0 where
  pub code : Code
  pub module' : ℕ
  pub span : Span

-- The faults of places in order: at each place where some code holds the first of them.
-- Language reference, "Refusals of definitions".
abbrev pub AreFaults : NamedTable → List Place → List Fault → Type 0
AreFaults table [] faults = faults ≡ []
AreFaults table (p ∷ ps) faults =
    (IsRight table p × AreFaults table ps faults)
    ⊎ ((c : Code) × (rest : List Fault) × IsFirst table c p × (faults ≡ record { code = c; module' = p.0; span = p.1.name.span } ∷ rest) × AreFaults table ps rest)

-- the faults of definitions
abbrev pub AreFaultsOf : List Placed → List Fault → Type 0
AreFaultsOf items faults = AreFaults (outline items) (places items) faults
