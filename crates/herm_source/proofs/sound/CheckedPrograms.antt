-- A typed program whose processes are accepted has modules, since each flow has exact labels.
use Rattle.std.proofs.Common.{◌≡◌, ℕ, List, [], ◌∷◌, ◌++◌, true, refl}
use Rattle.std.specs.Prelude.{IsTrue, ⊤}
use Rattle.herm_model.specs.Types.{TypeTable, predefined}
use Rattle.herm_model.specs.Statements.{Process}
use Rattle.herm_model.specs.ControlPaths.{flow_of}
use Rattle.herm_model.specs.tests.BodyTests.{is_typed_program}
use Rattle.herm_model.proofs.DecidedPrograms.{test-programs}
use Rattle.herm_model.proofs.HeldDecided.{exact-labels}
use Rattle.herm_model.proofs.Labels.{confirms, labels_found}
use Rattle.herm_model.proofs.ExampleRefusals.{computed}
use Rattle.herm_forms.specs.Modules.{Module, module_of}
use Rattle.herm_source.specs.Modules.{Program}
use Rattle.herm_source.specs.AcceptedRuns.{AreCodesOf}
use Rattle.herm_source.specs.examples.CheckedExamples.{CanBeChecked}

-- each process is accepted
abbrev pub AllAccepted : TypeTable → List Process → Type 0
AllAccepted types [] = ⊤
AllAccepted types (p ∷ ps) = (confirms (flow_of types p) (labels_found (flow_of types p)) [] ≡ true) × AllAccepted types ps

codes-for : (program : Program) (ps : List Process) → AllAccepted program.types ps → (cs : List Module) × AreCodesOf program ps cs
codes-for program [] h = ([], tt)
codes-for program (p ∷ ps) h =
    let l = exact-labels (flow_of program.types p) in
    let more = codes-for program ps h.1 in
    (module_of program.types p l.0 ∷ more.0, ((l.0, refl, l.1, computed program.types p [] h.0), more.1))

pub checked-by : (exceptions : ℕ) (defined : TypeTable) (processes : List Process) (main : ℕ) → IsTrue (is_typed_program exceptions defined processes main) → AllAccepted (predefined ++ defined) processes
    → CanBeChecked exceptions (record { types = predefined ++ defined; processes = processes; main = main })
checked-by exceptions defined processes main typed accepted =
    let program : Program = record { types = predefined ++ defined; processes = processes; main = main } in
    let codes = codes-for program processes accepted in (
      record { types = predefined ++ defined; codes = codes.0; main = main },
      record {
        typed = (test-programs exceptions defined processes main).0 typed;
        accepted = record { types = refl; codes = codes.1; main = refl };
      },
    )
