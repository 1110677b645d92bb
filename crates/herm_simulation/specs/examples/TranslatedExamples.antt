-- Programs with their images, of which all is computed that the laws ask.
use Rattle.std.specs.Prelude.{ℕ}
use Rattle.herm_source.specs.Modules.{Program}
use Rattle.herm_source.specs.examples.RunExamples.{ready_program}
use Rattle.herm_translated.specs.examples.CheckedByRounds.{modules_by}
use Rattle.herm_simulation.specs.Simulating.{IsTranslated}

-- The program with the labels that three rounds find, what they give for each node and edge, and its image.
abbrev pub IsTranslatedByRounds : (exceptions : ℕ) → Program → Type 0
IsTranslatedByRounds exceptions program = IsTranslated exceptions program (ready_program program) (modules_by 3 program)
