-- What is claimed of instructions among sound values.
use Rattle.std.specs.Prelude.{List, Bool, IsTrue, ◌≡◌}
use Rattle.herm_model.specs.Lists.{IsIn}
use Rattle.herm_model.specs.Outcomes.{Outcome}
use Rattle.herm_model.specs.Paths.{Fact}
use Rattle.herm_model.specs.FactsOfStatements.{needs}
use Rattle.herm_model.specs.Statements.{Form}
use Rattle.herm_model.specs.Values.{Value}
use Rattle.herm_forms.specs.Frames.{Name, Frame, goes}
use Rattle.herm_forms.specs.laws.EdgeLaws.{AreSound, held_after}
use Rattle.herm_forms.specs.laws.FormLaws.{PreservesNeeds}
use Rattle.herm_instructions.specs.Instructions.{Instruction}
use Rattle.herm_code_machine.specs.ReadyCode.{ReadyCode}
use Rattle.herm_code_machine.specs.Effects.{effect}
use Rattle.herm_code_machine.specs.laws.InstructionLaws.{DoesForm}

-- An instruction that does a form keeps sound values that have what the form needs, with what is held behind its outcome, where the
-- form does. Code reference, "Sound states of code".
abbrev pub InstructionsKeepSound : Type 0
InstructionsKeepSound = (c : ReadyCode) (i : Instruction) (form : Form) → ((name : Name → Name) (b : Frame Name) → DoesForm name c 0 b i form) → PreservesNeeds c.scope form
    → (name : Name → Name) (has : Fact → Bool) (stack : List Value) (b b' : Frame Name) (o : Outcome) → AreSound c.scope has b.variables
    → ((f : Fact) → IsIn f (needs c.scope.types c.scope.variables form) → IsTrue (has f)) → (effect name c i stack b).completion ≡ goes o b'
    → AreSound c.scope (held_after c.scope.types c.scope.variables form o has) b'.variables
