-- What a phase says of the files.
use Rattle.std.specs.Prelude.{ℕ, List, map, Result, Ok, Err, ⊤}
use Rattle.std.specs.declared.vec.Vec.{Vec}
use Rattle.std.specs.declared.alloc.Global.{Global}
use Rattle.herm_model.specs.Lists.{IsIn}
use Rattle.herm_model.specs.Statements.{Process}
use Rattle.herm_model.specs.MissingFacts.{IsAccepted}
use Rattle.herm_meaning.specs.Names.{NamedTable}
use Rattle.herm_syntax.specs.declared.modules.Module.{Module}
use Rattle.herm_typed.specs.View.{typed_process_view}
use Rattle.herm_resolve.specs.declared.program.Program.{Program}
use Rattle.herm_resolve.specs.Refused.{IsProgramOf}
use Rattle.herm_accept.specs.Accepted.{AreAccepted}
use Rattle.herm_accept.specs.declared.accepting.Accepted.{Accepted}
use Rattle.herm_compile.specs.FirstPhase.{HaveModules}
use Rattle.herm_compile.specs.SecondPhase.{AreTypesOf, AreMisdefined}
use Rattle.herm_compile.specs.ThirdPhase.{HaveProgram, AreMisnamed}
use Rattle.herm_compile.specs.FourthPhase.{AreUnaccepted}
use Rattle.herm_refusals.specs.declared.fault.Fault.{Fault}

-- the types that the definitions mean, or their faults
abbrev pub IsDefined : List (List ℕ) → List Module → Result NamedTable (Vec Fault Global) → Type 0
IsDefined files modules (Ok types) = AreTypesOf modules types
IsDefined files modules (Err faults) = AreMisdefined files faults.items

-- these are the processes and the number of main of the program that the files' modules mean
abbrev pub HaveThisProgram : List (List ℕ) → NamedTable → Program → Type 0
HaveThisProgram files types program = HaveProgram files types (map typed_process_view program.processes.items) program.main

-- The program is the one of the files' modules: its names, numbers and places are those of the text, and each path has its type
-- (Language reference, "Processes").
abbrev pub IsOfModules : List (List ℕ) → NamedTable → Program → Type 0
IsOfModules files types program = (modules : List Module) × (owners : List ℕ) × HaveModules 0 files modules owners × IsProgramOf types modules program

-- Each process of the program is accepted: each fact that a statement needs is held on every control path to it.
abbrev pub EachIsAccepted : NamedTable → Program → Type 0
EachIsAccepted types program = (p : Process) → IsIn p (map typed_process_view program.processes.items) → IsAccepted types.shapes p

-- the program that the modules mean, or their faults of names and types
abbrev pub IsResolution : List (List ℕ) → NamedTable → Result Program (Vec Fault Global) → Type 0
IsResolution files types (Ok program) = HaveThisProgram files types program
IsResolution files types (Err faults) = AreMisnamed files faults.items

-- the processes of the program are accepted, with their flows, labels and coercions, or what they lack
abbrev pub IsAcceptance : List (List ℕ) → NamedTable → Program → Result Accepted (Vec Fault Global) → Type 0
IsAcceptance files types program (Ok a) = AreAccepted types.shapes program.processes.items a.flows.items a.labels.items a.coercions.items
IsAcceptance files types program (Err faults) = AreUnaccepted files faults.items

-- each process of the program is accepted, or what they lack
abbrev pub IsSearch : List (List ℕ) → NamedTable → Program → Result ⊤ (Vec Fault Global) → Type 0
IsSearch files types program (Ok _) = EachIsAccepted types program
IsSearch files types program (Err faults) = AreUnaccepted files faults.items
