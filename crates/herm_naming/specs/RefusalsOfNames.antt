-- The list of refusals of names and types, at places that the text gives.
use Rattle.std.specs.Prelude.{suc, Bool, true, false, not, cond, ◌&&◌, nat_eq, is_some, List, [], ◌∷◌, ◌++◌, map, length, bytes_eq, Option, Some, None, ⊤, ◌≡◌}
use Rattle.herm_model.specs.Lists.{all_pass, any_pass}
use Rattle.herm_model.specs.Types.{TypeTable}
use Rattle.herm_model.specs.Statements.{Process, numbers_of_block}
use Rattle.herm_model.specs.TypedPrograms.{main_start}
use Rattle.herm_syntax.specs.Trees.{Letters, Module}
use Rattle.herm_meaning.specs.Names.{NamedTable}
use Rattle.herm_naming.specs.Numbers.{type_number}
use Rattle.herm_naming.specs.Meaning.{ProcessText, processes_in, process_meaning, main_name}
use Rattle.herm_naming.specs.StatementFaults.{Code, unreachable, no_main, process_codes}
use Rattle.herm_naming.specs.UnreachedStatements.{MarksUnreached}

-- The places of a process: its name, its port and its variables, its statements.
pub record Places (P : Type 0) : Type 0 where
  pub name : P
  pub declared : List P
  pub statements : List P

abbrev pub are_none : List (Option Code) → Bool
are_none codes = all_pass (λ (c : Option Code). not (is_some c)) codes

-- a process `main` whose port is of the type main_start
abbrev pub is_main : NamedTable → ProcessText → Bool
is_main known p = bytes_eq p.name main_name && nat_eq (type_number known p.port.1) main_start

module _ {P : Type 0} where
  -- the codes with their places, where there are codes
  abbrev pub at_places : List P → List (Option Code) → List (Code × P)
  at_places [] codes = []
  at_places (p ∷ places) [] = []
  at_places (p ∷ places) (None ∷ codes) = at_places places codes
  at_places (p ∷ places) (Some c ∷ codes) = (c, p) ∷ at_places places codes

  abbrev pub all_places : Places P → List P
  all_places x = x.name ∷ (x.declared ++ x.statements)

  -- The refusals of a process without another fault are its statements that control does not reach.
  abbrev pub RefusesUnreached : TypeTable → Process → Places P → List (Code × P) → Type 0
  RefusesUnreached table p places refusals =
      (marks : List Bool) × MarksUnreached table p marks × (refusals ≡ at_places places.statements (map (λ m. cond m (Some unreachable) None) marks))

  abbrev pub RefusesBy : (faultless : Bool) → TypeTable → Process → List (Option Code) → Places P → List (Code × P) → Type 0
  RefusesBy true table p codes places refusals = RefusesUnreached table p places refusals
  RefusesBy false table p codes places refusals = refusals ≡ at_places (all_places places) codes

  -- The refusals of a process, where these names are declared before. Language reference, "Refusals".
  abbrev pub RefusesProcess : NamedTable → (all : List ProcessText) → (before : List Letters) → ProcessText → Places P → List (Code × P) → Type 0
  RefusesProcess known all before p places refusals =
      RefusesBy (are_none (process_codes known all before p)) known.shapes (process_meaning known all p) (process_codes known all before p) places refusals

  abbrev pub RefusesProcesses : NamedTable → (all : List ProcessText) → (before : List Letters) → List ProcessText → List (Places P) → List (Code × P) → Type 0
  RefusesProcesses known all before [] places refusals = refusals ≡ []
  RefusesProcesses known all before (p ∷ ps) [] refusals = ⊥
  RefusesProcesses known all before (p ∷ ps) (x ∷ places) refusals =
      (first rest : List (Code × P)) × RefusesProcess known all before p x first × RefusesProcesses known all (before ++ (p.name ∷ [])) ps places rest × (refusals ≡ first ++ rest)

  abbrev pub main_refusals : NamedTable → List ProcessText → (nowhere : P) → List (Code × P)
  main_refusals known all nowhere = cond (any_pass (is_main known) all) [] ((no_main, nowhere) ∷ [])

  -- These are the refusals of the processes of these modules, in their order, and that there is no main behind them.
  -- Language reference, "Refusals".
  abbrev pub AreRefusals : NamedTable → List Module → List (Places P) → (nowhere : P) → List (Code × P) → Type 0
  AreRefusals known modules places nowhere refusals =
      (found : List (Code × P)) × RefusesProcesses known (processes_in modules) [] (processes_in modules) places found
      × (refusals ≡ found ++ main_refusals known (processes_in modules) nowhere)

  -- the places are as many as the declarations and the statements of each process
  abbrev pub IsPlaced : NamedTable → (all : List ProcessText) → ProcessText → Places P → Type 0
  IsPlaced known all p places = (length places.declared ≡ suc (length p.variables)) × (length places.statements ≡ numbers_of_block (process_meaning known all p).body)

  abbrev pub ArePlaced : NamedTable → (all : List ProcessText) → List ProcessText → List (Places P) → Type 0
  ArePlaced known all [] [] = ⊤
  ArePlaced known all [] (x ∷ places) = ⊥
  ArePlaced known all (p ∷ ps) [] = ⊥
  ArePlaced known all (p ∷ ps) (x ∷ places) = IsPlaced known all p x × ArePlaced known all ps places
