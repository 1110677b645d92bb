use Rattle.std.proofs.Common.{refl}
use Rattle.herm_source.specs.examples.CallPrograms.{kept_parameter, calls_both_ways}
use Rattle.herm_source.specs.examples.Programs.{two_senders}
use Rattle.herm_source.specs.examples.RunExamples.{limited}
use Rattle.herm_checked.specs.examples.RunningPrograms.{ring_of_three}
use Rattle.herm_checked.proofs.ReadyPrograms.{sound-behind}
use Rattle.herm_checked.proofs.RunningPrograms.{ring-ready, senders-ready, both-ready, kept-ready}
use Rattle.herm_checked.proofs.running_programs.states_in_the_middle_are_sound.Goals as goal

pub returns : goal.returns
returns c = record {
  ring = sound-behind 7 ring_of_three ring-ready (limited 1000 4 8) 24 16 4 refl;
  senders = sound-behind 7 (two_senders 3) senders-ready (limited 1000 4 4) 24 13 1 refl;
  both = sound-behind 7 calls_both_ways both-ready (limited 1000 4 8) 8 5 1 refl;
  kept = sound-behind 8 kept_parameter kept-ready (limited 1000 4 4) 5 4 2 refl;
}
