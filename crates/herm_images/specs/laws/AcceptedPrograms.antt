-- What is claimed of accepted programs: what their check gives are checked modules.
use Rattle.std.specs.Prelude.{◌↔◌, ℕ, List, map, Bool, IsTrue}
use Rattle.herm_model.specs.Lists.{IsIn}
use Rattle.herm_model.specs.Paths.{Fact}
use Rattle.herm_model.specs.Types.{TypeTable, is_within_depth, greatest_depth}
use Rattle.herm_model.specs.Facts.{IsClosed, IsFactOf}
use Rattle.herm_model.specs.TypedPrograms.{IsTypedProgram}
use Rattle.herm_typed.specs.declared.statements.TypedProcess.{TypedProcess}
use Rattle.herm_typed.specs.View.{typed_process_view}
use Rattle.herm_typestate.specs.declared.labels.Labels.{Labels}
use Rattle.herm_flow.specs.declared.flow.Flow.{Flow}
use Rattle.herm_coerce.specs.declared.coercions.Coercions.{Coercions}
use Rattle.herm_accept.specs.Accepted.{AreAccepted}
use Rattle.herm_fronts.specs.Held.{held_facts}
use Rattle.herm_good_images.specs.CheckedModules.{AreCheckedModules}
use Rattle.herm_images.specs.CheckedPrograms.{checked_modules}

-- A closed set of facts of variables, whose types are within the depth, is listed whole, by variables and then by parts. Language reference, "Facts".
abbrev pub HeldFactsAreListed : Type 0
HeldFactsAreListed = (table : TypeTable) (variables : List ℕ) (has : Fact → Bool) → IsClosed table variables (λ f. IsTrue (has f)) → ((f : Fact) → IsTrue (has f) → IsFactOf table variables f)
    → ((t : ℕ) → IsIn t variables → IsTrue (is_within_depth greatest_depth table t)) → (f : Fact) → IsIn f (held_facts table has variables) ↔ IsTrue (has f)

-- The processes of a typed program that are accepted are checked modules, with the labels and the coercions that their check gives.
-- Language reference, "Refusals of typestate".
abbrev pub AcceptedProgramsAreChecked : Type 0
AcceptedProgramsAreChecked = (exceptions : ℕ) (table : TypeTable) (processes : List TypedProcess) (main : ℕ) (flows : List Flow) (labels : List Labels) (coercions : List Coercions)
    → IsTypedProgram exceptions table (map typed_process_view processes) main → AreAccepted table processes flows labels coercions
    → AreCheckedModules exceptions (record { types = table; processes = map typed_process_view processes; main = main }) (checked_modules table processes labels coercions)
