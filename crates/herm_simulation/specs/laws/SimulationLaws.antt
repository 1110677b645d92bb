-- What is claimed of a checked program and its image: the source machine and the machine of code do the same.
use Rattle.std.specs.Prelude.{ℕ, List, Some, IsTrue, ◌≡◌}
use Rattle.herm_model.specs.Typed.{is_text}
use Rattle.herm_model.specs.Values.{Name}
use Rattle.herm_journal.specs.Entries.{Text}
use Rattle.herm_journal.specs.NextNumbers.{Limits}
use Rattle.herm_system.specs.Systems.{Event, Run, run, start}
use Rattle.herm_system.specs.Rounds.{rounds}
use Rattle.herm_runs.specs.Joining.{AreJoined, LookAlike, turned}
use Rattle.herm_source.specs.Instance.{source}
use Rattle.herm_source.specs.Modules.{Program, Modules}
use Rattle.herm_source.specs.States.{State}
use Rattle.herm_code_machine.specs.CodeInstance.{code_machine}
use Rattle.herm_code_machine.specs.CodeStates.{CodeState}
use Rattle.herm_translated.specs.CodeBlocks.{CheckedModule}
use Rattle.herm_simulation.specs.Simulating.{IsTranslated, ready_image, Simulates}

-- it is so of each checked program with its good image
abbrev pub OfTranslated : (Program → Modules → List CheckedModule → Type 0) → Type 0
OfTranslated Is = (exceptions : ℕ) (program : Program) (modules : Modules) (checked : List CheckedModule) → IsTranslated exceptions program modules checked → Is program modules checked

module _ (program : Program) (modules : Modules) (checked : List CheckedModule) where
  -- The two machines are joined: each beginning, local step and answer of the source is exactly one of the code, between processes of which
  -- the one simulates the other; and these show the same. Code reference, "Standing for a process".
  abbrev pub IsJoinedToSource : Type 0
  IsJoinedToSource = AreJoined (source modules) (code_machine (ready_image program modules checked)) (Simulates program modules checked)

  -- What events lead to in the source, with a text as argument, they lead to in the code, and the runs look alike: equal journals, ports, replies and
  -- book, equal fates, queues, counts, status and text; the one is at its end exactly where the other is. Language reference, "Reports".
  abbrev pub RunsAsSource : Type 0
  RunsAsSource = let code = code_machine (ready_image program modules checked) in
      (limits : Limits) (argument : Text) (events : List Event) (r : Run (State Name)) → IsTrue (is_text argument) → run (source modules) events (start (source modules) limits argument) ≡ Some r
      → (q : Run (CodeState Name)) × (run code events (start code limits argument) ≡ Some q) × LookAlike (source modules) code (Simulates program modules checked) r q

  -- What they lead to in the code, they lead to in the source, and the runs look alike.
  abbrev pub SourceRunsAs : Type 0
  SourceRunsAs = let code = code_machine (ready_image program modules checked) in
      (limits : Limits) (argument : Text) (events : List Event) (q : Run (CodeState Name)) → IsTrue (is_text argument) → run code events (start code limits argument) ≡ Some q
      → (r : Run (State Name)) × (run (source modules) events (start (source modules) limits argument) ≡ Some r) × LookAlike code (source modules) (turned (Simulates program modules checked)) q r

  -- So the rounds of the one are those of the other, and look alike. Language reference, "Rounds".
  abbrev pub HasRoundsOfSource : Type 0
  HasRoundsOfSource = let code = code_machine (ready_image program modules checked) in
      (limits : Limits) (argument : Text) (most : ℕ) (r : Run (State Name)) → IsTrue (is_text argument) → rounds most (source modules) (start (source modules) limits argument) ≡ Some r
      → (q : Run (CodeState Name)) × (rounds most code (start code limits argument) ≡ Some q) × LookAlike (source modules) code (Simulates program modules checked) r q

  abbrev pub SourceHasRounds : Type 0
  SourceHasRounds = let code = code_machine (ready_image program modules checked) in
      (limits : Limits) (argument : Text) (most : ℕ) (q : Run (CodeState Name)) → IsTrue (is_text argument) → rounds most code (start code limits argument) ≡ Some q
      → (r : Run (State Name)) × (rounds most (source modules) (start (source modules) limits argument) ≡ Some r) × LookAlike code (source modules) (turned (Simulates program modules checked)) q r

abbrev pub CodeIsJoined : Type 0
CodeIsJoined = OfTranslated IsJoinedToSource

abbrev pub CodeRunsAsSource : Type 0
CodeRunsAsSource = OfTranslated RunsAsSource

abbrev pub SourceRunsAsCode : Type 0
SourceRunsAsCode = OfTranslated SourceRunsAs

abbrev pub CodeRoundsAsSource : Type 0
CodeRoundsAsSource = OfTranslated HasRoundsOfSource

abbrev pub SourceRoundsAsCode : Type 0
SourceRoundsAsCode = OfTranslated SourceHasRounds
