-- What is claimed of a run of accepted modules.
use Rattle.std.specs.Prelude.{ℕ, Bool, List, [], ◌∷◌, Some, None, ◌≡◌, ⊤, IsTrue}
use Rattle.herm_model.specs.Lists.{IsIn}
use Rattle.herm_model.specs.Paths.{Fact}
use Rattle.herm_model.specs.Statements.{Process}
use Rattle.herm_model.specs.Nodes.{Node}
use Rattle.herm_model.specs.FactsOfStatements.{needs}
use Rattle.herm_model.specs.ControlPaths.{flow_of}
use Rattle.herm_model.specs.Labels.{AreExact}
use Rattle.herm_model.specs.MissingFacts.{IsAccepted}
use Rattle.herm_model.specs.FactsOfValues.{satisfies}
use Rattle.herm_journal.specs.NextNumbers.{Limits}
use Rattle.herm_journal.specs.Entries.{Text}
use Rattle.herm_forms.specs.Frames.{Name}
use Rattle.herm_forms.specs.Modules.{Module, module_of}
use Rattle.herm_source.specs.States.{State, node_at}
use Rattle.herm_source.specs.Modules.{Program, Modules}
use Rattle.herm_system.specs.Systems.{System}
use Rattle.herm_system.specs.RunTexts.{Asked}
use Rattle.herm_source.specs.Instance.{code_at, source, IsSoundIn}
use Rattle.herm_system.specs.Reports.{IsSoOfAll, Report, DescribesRun}

-- a code is a process's, whose typestate is accepted, with the labels that hold in it
abbrev pub IsCodeOf : Program → Process → Module → Type 0
IsCodeOf program p c =
    (label : ℕ → Fact → Bool) × (c ≡ module_of program.types p label) × AreExact (flow_of program.types p) label × IsAccepted program.types p

abbrev pub AreCodesOf : Program → List Process → List Module → Type 0
AreCodesOf program [] [] = ⊤
AreCodesOf program [] (c ∷ cs) = ⊥
AreCodesOf program (p ∷ ps) [] = ⊥
AreCodesOf program (p ∷ ps) (c ∷ cs) = IsCodeOf program p c × AreCodesOf program ps cs

-- The modules are the accepted processes of a program, each with its labels. Language reference, "Refusals of typestate".
pub record AreAccepted (program : Program) (modules : Modules) : Type 0 where
  pub types : modules.types ≡ program.types
  pub codes : AreCodesOf program program.processes modules.codes
  pub main : modules.main ≡ program.main

-- Every statement that a process has reached finds the facts that it needs. Language reference, "Sound states".
abbrev pub FindsNeedsIn : Modules → State Name → Type 0
FindsNeedsIn modules state =
    (c : Module) (n : Node) (f : Fact) → code_at modules state ≡ Some c → node_at c state.point ≡ Some n → state.frame.call ≡ None → IsIn f (needs c.types c.variables n.form)
    → IsTrue (satisfies state.frame.variables f)

-- so of each process of a state
abbrev pub FindsNeeds : Modules → System (State Name) → Type 0
FindsNeeds modules s = IsSoOfAll (FindsNeedsIn modules) s

-- The report of a run of accepted modules, under these limits and with this argument, where this is asked for: what a report
-- says of a run of the source machine (`DescribesRun`), in which in every state along it each process is sound within itself,
-- and every statement finds the facts that it needs. Language reference, "Reports".
abbrev pub Describes : Modules → Limits → (argument : Text) → (names : List Text) → Asked → Report → Type 0
Describes modules limits argument names asked report = DescribesRun (source modules) (IsSoundIn modules) (FindsNeedsIn modules) limits argument names asked report
