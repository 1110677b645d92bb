-- Files have one answer in the second phase, one in the third and one in the fourth (Language reference, "Refusals of definitions", "Refusals", "Processes").
use Rattle.std.specs.Prelude.{◌≡◌, ℕ, List, Option, map}
use Rattle.std.specs.Option.{option_map}
use Rattle.herm_model.specs.Lists.{IsIn}
use Rattle.herm_model.specs.MissingFacts.{Refusal, IsAccepted}
use Rattle.herm_model.specs.laws.FlowLaws.{Said}
use Rattle.herm_meaning.specs.Names.{NamedTable}
use Rattle.herm_compile.specs.View.{Seen, fault_view}
use Rattle.herm_model.specs.Statements.{Process}
use Rattle.herm_compile.specs.SecondPhase.{HaveTypes, AreMisdefined}
use Rattle.herm_compile.specs.ThirdPhase.{HaveProgram, AreMisnamed}
use Rattle.herm_compile.specs.FourthPhase.{AreUnaccepted}
use Rattle.herm_compile.specs.Refused.{AreRefused}
use Rattle.herm_refusals.specs.declared.fault.Fault.{Fault}

-- Files mean one table of types at most.
abbrev pub HaveOneTable : Type 0
HaveOneTable = (files : List (List ℕ)) (table other : NamedTable) → HaveTypes files table → HaveTypes files other → table ≡ other

-- The faults of definitions are one list: their files, places, codes and words, in their order.
abbrev pub AreOneList : Type 0
AreOneList = (files : List (List ℕ)) (faults others : List Fault) → AreMisdefined files faults → AreMisdefined files others → map fault_view faults ≡ map fault_view others

-- Files that mean types have no faults of definitions.
abbrev pub TypesOrFaults : Type 0
TypesOrFaults = (files : List (List ℕ)) (table : NamedTable) (faults : List Fault) → HaveTypes files table → AreMisdefined files faults → ⊥

-- Files mean one program at most, over one table of types.
abbrev pub HaveOneProgram : Type 0
HaveOneProgram = (files : List (List ℕ)) (table other : NamedTable) (processes others : List Process) (main number : ℕ) → HaveProgram files table processes main → HaveProgram files other others number
    → (table ≡ other) × (processes ≡ others) × (main ≡ number)

-- The faults of names and types are one list: their files, places, codes and words, in their order.
abbrev pub NameFaultsAreOneList : Type 0
NameFaultsAreOneList = (files : List (List ℕ)) (faults others : List Fault) → AreMisnamed files faults → AreMisnamed files others → map fault_view faults ≡ map fault_view others

-- Files that mean a program have no faults of names and types.
abbrev pub ProgramOrFaults : Type 0
ProgramOrFaults = (files : List (List ℕ)) (table : NamedTable) (processes : List Process) (main : ℕ) (faults : List Fault) → HaveProgram files table processes main → AreMisnamed files faults → ⊥

-- What a fault tells apart from its words: where it stands, its code, and the statement and the fact where one is missing.
pub record PlacedFact : Type 0 where
  pub file : ℕ
  pub line : ℕ
  pub column : ℕ
  pub code : ℕ
  pub said : Option Said

abbrev pub placed_fact : Seen → PlacedFact
placed_fact s = record { file = s.file; line = s.line; column = s.column; code = s.code; said = option_map (λ (r : Refusal). (r.number, r.fact)) s.missing }

abbrev pub told_of : Fault → PlacedFact
told_of f = placed_fact (fault_view f)

-- What the statements of the processes lack is one list of places, statements and facts, in their order; only paths may differ.
abbrev pub FactsAreOneList : Type 0
FactsAreOneList = (files : List (List ℕ)) (faults others : List Fault) → AreUnaccepted files faults → AreUnaccepted files others → map told_of faults ≡ map told_of others

-- Files that mean a program whose processes are accepted lack no facts.
abbrev pub AcceptedOrFaults : Type 0
AcceptedOrFaults = (files : List (List ℕ)) (table : NamedTable) (processes : List Process) (main : ℕ) (faults : List Fault) → HaveProgram files table processes main
    → ((p : Process) → IsIn p processes → IsAccepted table.shapes p) → AreUnaccepted files faults → ⊥

-- Files that mean a program whose processes are accepted have no fault of any phase.
abbrev pub AcceptedOrRefused : Type 0
AcceptedOrRefused = (files : List (List ℕ)) (table : NamedTable) (processes : List Process) (main : ℕ) (faults : List Fault) → HaveProgram files table processes main
    → ((p : Process) → IsIn p processes → IsAccepted table.shapes p) → AreRefused files faults → ⊥
