-- Laws of runs of the source machine.
use Rattle.herm_runs.specs.laws.DiaryLaws.{DiariesTell}
use Rattle.herm_runs.specs.laws.SuitsLaws.{SoundStatesSuit, SoundStatesWouldSuit, SoundRunsSuit, SoundDiariesTell, DescribedDiariesTell}
use Rattle.herm_source.specs.Modules.{Program, Modules}
use Rattle.herm_source.specs.Renaming.{forget_state}
use Rattle.herm_source.specs.AcceptedRuns.{AreAccepted, FindsNeedsIn}
use Rattle.herm_source.specs.Instance.{source, nameless, IsSoundIn}
use Rattle.herm_source.specs.Sharing.{ShareTypes}

-- In a sound state what comes in with an event suits its process. Language reference, "Diaries".
abbrev pub SourceStatesSuit : Type 0
SourceStatesSuit = (modules : Modules) → ShareTypes modules → SoundStatesSuit (source modules) (IsSoundIn modules)

-- What can be done there would suit too, whether or not the process goes on from it. Language reference, "Diaries".
abbrev pub SourceStatesWouldSuit : Type 0
SourceStatesWouldSuit = (modules : Modules) → ShareTypes modules → SoundStatesWouldSuit (source modules) (IsSoundIn modules)

-- So what comes in suits along a run of sound states.
abbrev pub SourceRunsSuit : Type 0
SourceRunsSuit = (modules : Modules) → ShareTypes modules → SoundRunsSuit (source modules) (IsSoundIn modules)

-- Where what comes in suits, and so along a run of sound states, each process is what its diary says, but for names.
-- Language reference, "Diaries".
abbrev pub SourceDiariesTell : Type 0
SourceDiariesTell = (modules : Modules) → DiariesTell (source modules) (nameless modules) forget_state

abbrev pub SourceSoundDiariesTell : Type 0
SourceSoundDiariesTell = (modules : Modules) → ShareTypes modules → SoundDiariesTell (source modules) (nameless modules) forget_state (IsSoundIn modules)

-- So where a report describes a run of accepted modules, each process of its final state is what its diary says, but for
-- names. Language reference, "Diaries".
abbrev pub SourceDescribedDiariesTell : Type 0
SourceDescribedDiariesTell = (program : Program) (modules : Modules) → AreAccepted program modules → DescribedDiariesTell (source modules) (nameless modules) forget_state (IsSoundIn modules) (FindsNeedsIn modules)
