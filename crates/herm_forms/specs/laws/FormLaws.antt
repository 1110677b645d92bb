-- What is claimed of a form that finds what it needs.
use Rattle.std.specs.Prelude.{ℕ, Bool, ◌≡◌, IsTrue}
use Rattle.herm_model.specs.Lists.{IsIn}
use Rattle.herm_model.specs.Paths.{Fact}
use Rattle.herm_model.specs.Statements.{Form}
use Rattle.herm_model.specs.Outcomes.{Outcome}
use Rattle.herm_model.specs.FactsOfStatements.{needs}
use Rattle.herm_forms.specs.Frames.{Name, Frame, goes}
use Rattle.herm_forms.specs.Modules.{Module}
use Rattle.herm_forms.specs.Acts.{act}
use Rattle.herm_forms.specs.laws.EdgeLaws.{AreSound, held_after}

-- A form does what the statement table says of it: sound values that have the facts that it needs stay sound, with what is held
-- behind the outcome. Language reference, "Sound states".
abbrev pub PreservesNeeds : Module → Form → Type 0
PreservesNeeds c form = (name : Name → Name) (statement : ℕ) (has : Fact → Bool) (b b' : Frame Name) (o : Outcome) → AreSound c has b.variables
    → ((f : Fact) → IsIn f (needs c.types c.variables form) → IsTrue (has f)) → act name c statement form b ≡ goes o b' → AreSound c (held_after c.types c.variables form o has) b'.variables
