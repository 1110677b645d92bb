-- Runs of a checked program and of its image look alike.
use Rattle.std.proofs.Common.{◌≡◌, ℕ, List, Option, Some}
use Rattle.std.specs.Prelude.{IsTrue}
use Rattle.herm_model.specs.Typed.{is_text}
use Rattle.herm_model.specs.Values.{Name}
use Rattle.herm_journal.specs.Entries.{Text}
use Rattle.herm_journal.specs.NextNumbers.{Limits}
use Rattle.herm_system.specs.Machines.{Machine}
use Rattle.herm_system.specs.Systems.{Event, Run, run, start, main_port}
use Rattle.herm_runs.specs.Joining.{BothOrNone, AreJoined, turned}
use Rattle.herm_runs.specs.laws.DiaryLaws.{WouldSuit}
use Rattle.herm_runs.specs.laws.ProcessLaws.{KeepsNumbers}
use Rattle.herm_runs.proofs.SuitsRuns.{sound-states-would-suit}
use Rattle.herm_runs.proofs.joined.RoundsFollow.{rounds-follow}
use Rattle.herm_runs.proofs.joined.RunsFollow.{runs-follow}
use Rattle.herm_runs.proofs.joined.RunsTogether.{runs-together}
use Rattle.herm_runs.proofs.joined.StepsTogether.{there}
use Rattle.herm_runs.proofs.joined.Turned.{joined-turned}
use Rattle.herm_source.specs.Instance.{source, IsSoundIn}
use Rattle.herm_source.specs.Modules.{Program, Modules}
use Rattle.herm_source.specs.States.{State}
use Rattle.herm_source.proofs.instance.SourceLaws.{source-keeps-numbers}
use Rattle.herm_source.proofs.instance.SourceLooks.{source-looks-at-held, accepted-share-types}
use Rattle.herm_checked.proofs.CheckedRuns.{checked-runs, checked-runs-suit}
use Rattle.herm_checked.proofs.SourceBegins.{source-begins-sound}
use Rattle.herm_code_machine.specs.CodeInstance.{code_machine}
use Rattle.herm_code_machine.specs.CodeStates.{CodeState}
use Rattle.herm_code_machine.proofs.instance.CodeLaws.{code-keeps-numbers}
use Rattle.herm_translated.specs.CodeBlocks.{CheckedModule}
use Rattle.herm_simulation.specs.Simulating.{IsTranslated, ready_image, Simulates}
use Rattle.herm_simulation.specs.laws.SimulationLaws.{CodeRunsAsSource, SourceRunsAsCode, CodeRoundsAsSource, SourceRoundsAsCode}
use Rattle.herm_simulation.proofs.Simulated.{joined}

module _ (exceptions : ℕ) (program : Program) (modules : Modules) (checked : List CheckedModule) (is : IsTranslated exceptions program modules checked) where
  abbrev a : Machine Name (State Name)
  a = source modules

  abbrev b : Machine Name (CodeState Name)
  b = code_machine (ready_image program modules checked)

  abbrev R : State Name → CodeState Name → Type 0
  R = Simulates program modules checked

  both : AreJoined a b R
  both = joined exceptions program modules checked is

  keeps-source : KeepsNumbers a
  keeps-source = source-keeps-numbers modules

  keeps-code : KeepsNumbers b
  keeps-code = code-keeps-numbers (ready_image program modules checked)

  -- main is there on both sides
  main-there : (x : State Name) × (a.begin a.main 1 main_port ≡ Some x)
  main-there = (source-begins-sound exceptions program modules is.accepted).main

  main-there_too : (y : CodeState Name) × (b.begin b.main 1 main_port ≡ Some y)
  main-there_too = by (a.begin a.main 1 main_port) (b.begin b.main 1 main_port) (main-there).0 (main-there).1 (both.begins modules.main 1 1 _)
    where
      by : (o : Option (State Name)) (q : Option (CodeState Name)) (x : State Name) → o ≡ Some x → BothOrNone R o q → (y : CodeState Name) × (q ≡ Some y)
      by o q x e h = let t = there R o q x h e in (t.0, t.1)

  -- whatever can be done would suit
  would : (limits : Limits) (argument : Text) → IsTrue (is_text argument) → (events : List Event) (r : Run (State Name)) → run a events (start a limits argument) ≡ Some r → WouldSuit a r.system
  would limits argument texts events r e =
      sound-states-would-suit a (IsSoundIn modules) (source-looks-at-held modules (accepted-share-types program modules (is.accepted).accepted)) r.system
      (checked-runs exceptions program modules is.accepted limits argument events r texts e).0

  would-too : (limits : Limits) (argument : Text) → IsTrue (is_text argument) → (events : List Event) (q : Run (CodeState Name)) → run b events (start b limits argument) ≡ Some q → WouldSuit b q.system
  would-too limits argument texts events q e = (runs-follow a b R both keeps-code limits argument (main-there).0 (main-there).1 (would limits argument texts) events q e).5

pub code-runs_as_source : CodeRunsAsSource
code-runs_as_source exceptions program modules checked is limits argument events r texts e =
    let m = main-there exceptions program modules checked is in
    let q = runs-together (source modules) (code_machine (ready_image program modules checked)) (Simulates program modules checked) (both exceptions program modules checked is) (keeps-source exceptions program modules checked is)
    limits argument m.0 events r m.1 e (checked-runs-suit exceptions program modules is.accepted limits argument events texts) in
    (q.0, q.1, q.2)

pub source-runs_as_code : SourceRunsAsCode
source-runs_as_code exceptions program modules checked is limits argument events q texts e =
    let m = main-there exceptions program modules checked is in
    let r = runs-follow (source modules) (code_machine (ready_image program modules checked)) (Simulates program modules checked) (both exceptions program modules checked is) (keeps-code exceptions program modules checked is)
    limits argument m.0 m.1 (would exceptions program modules checked is limits argument texts) events q e in
    (r.0, r.1, r.2)

pub source-rounds_as_code : SourceRoundsAsCode
source-rounds_as_code exceptions program modules checked is limits argument most q texts e =
    let m = main-there exceptions program modules checked is in
    rounds-follow (source modules) (code_machine (ready_image program modules checked)) (Simulates program modules checked) (both exceptions program modules checked is) (keeps-code exceptions program modules checked is)
    limits argument m.0 m.1 (would exceptions program modules checked is limits argument texts) most q e

pub code-rounds_as_source : CodeRoundsAsSource
code-rounds_as_source exceptions program modules checked is limits argument most r texts e =
    let a = source modules in
    let b = code_machine (ready_image program modules checked) in
    let R = Simulates program modules checked in
    let m = main-there_too exceptions program modules checked is in
    rounds-follow b a (turned R) (joined-turned a b R (both exceptions program modules checked is)) (keeps-source exceptions program modules checked is)
    limits argument m.0 m.1 (would-too exceptions program modules checked is limits argument texts) most r e
