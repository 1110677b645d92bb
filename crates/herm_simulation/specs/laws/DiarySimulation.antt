-- What is claimed of single processes, without the names of their cells: a diary leads to the same in the source and in the code.
use Rattle.std.specs.Prelude.{ℕ, List, Some, ⊤, ◌≡◌}
use Rattle.herm_model.specs.Values.{an_inport, cell, no_parts}
use Rattle.herm_journal.specs.Entries.{Entry}
use Rattle.herm_system.specs.DiaryStates.{IsAfter}
use Rattle.herm_runs.specs.Joining.{AreJoined}
use Rattle.herm_source.specs.Instance.{nameless}
use Rattle.herm_source.specs.Modules.{Program, Modules}
use Rattle.herm_source.specs.States.{State}
use Rattle.herm_code_machine.specs.CodeInstance.{nameless_code}
use Rattle.herm_code_machine.specs.CodeStates.{CodeState}
use Rattle.herm_translated.specs.CodeBlocks.{CheckedModule}
use Rattle.herm_simulation.specs.Simulating.{ready_image}
use Rattle.herm_simulation.specs.SimulatingWithout.{SimulatesWithout}
use Rattle.herm_simulation.specs.laws.SimulationLaws.{OfTranslated}

module _ (program : Program) (modules : Modules) (checked : List CheckedModule) where
  -- The two machines without names are joined.
  abbrev pub IsJoinedWithoutNames : Type 0
  IsJoinedWithoutNames = AreJoined (nameless modules) (nameless_code (ready_image program modules checked)) (SimulatesWithout program modules checked)

  -- What the diary of a process leads to in the source, from its beginning in any module, with any number and at any port, it leads to in the code, whose process simulates
  -- it; and the other way round. Language reference, "Diaries".
  abbrev pub HasDiariesOfSource : Type 0
  HasDiariesOfSource = let code = nameless_code (ready_image program modules checked) in
      (module_number number port limit : ℕ) (x x' : State ⊤) (entries : List Entry) (n : ℕ) → (nameless modules).begin module_number number (cell tt (an_inport port) no_parts) ≡ Some x → IsAfter (nameless modules) limit x entries n x'
      → (y y' : CodeState ⊤) × (code.begin module_number number (cell tt (an_inport port) no_parts) ≡ Some y) × IsAfter code limit y entries n y' × SimulatesWithout program modules checked x' y'

  abbrev pub SourceHasDiaries : Type 0
  SourceHasDiaries = let code = nameless_code (ready_image program modules checked) in
      (module_number number port limit : ℕ) (y y' : CodeState ⊤) (entries : List Entry) (n : ℕ) → code.begin module_number number (cell tt (an_inport port) no_parts) ≡ Some y → IsAfter code limit y entries n y'
      → (x x' : State ⊤) × ((nameless modules).begin module_number number (cell tt (an_inport port) no_parts) ≡ Some x) × IsAfter (nameless modules) limit x entries n x' × SimulatesWithout program modules checked x' y'

abbrev pub NamelessCodeIsJoined : Type 0
NamelessCodeIsJoined = OfTranslated IsJoinedWithoutNames

abbrev pub DiariesForth : Type 0
DiariesForth = OfTranslated HasDiariesOfSource

abbrev pub DiariesBack : Type 0
DiariesBack = OfTranslated SourceHasDiaries
