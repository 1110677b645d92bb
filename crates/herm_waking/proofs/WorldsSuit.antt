-- What can be done in a world suits, and so diaries tell.
use Rattle.std.specs.Prelude.{⊤}
use Rattle.herm_model.specs.Values.{Name}
use Rattle.herm_journal.specs.Actions.{to_take}
use Rattle.herm_system.specs.Machines.{Machine}
use Rattle.herm_system.specs.Systems.{start}
use Rattle.herm_runs.specs.laws.ProcessLaws.{ForgetsNames}
use Rattle.herm_runs.specs.laws.SuitsLaws.{LooksAtHeld}
use Rattle.herm_runs.proofs.SuitsRuns.{sound-states-would-suit, sound-diaries-tell}
use Rattle.herm_sound.specs.SoundMachines.{KeepsSound, BeginsSound}
use Rattle.herm_sound.proofs.OpeningSound.{opening-is-sound, runs-keep-sound}
use Rattle.herm_waking.specs.laws.RoundLaws.{WorldsWouldSuit, WorldDiariesTell}

module _ {P : Type 0} (machine : Machine Name P) (Is : P → Type 0) (keeps : KeepsSound machine Is) where
  looks-at-held : LooksAtHeld machine Is
  looks-at-held x ports n is wants member = keeps.wants x (to_take ports) is wants n member

  pub worlds-would-suit : WorldsWouldSuit machine Is keeps.beside
  worlds-would-suit w good = sound-states-would-suit machine Is looks-at-held w.run.system (good.sound.0, good.sound.1.sound)

  pub world-diaries-tell : BeginsSound machine keeps.first_type → {Q : Type 0} (nameless : Machine ⊤ Q) (without : P → Q) → ForgetsNames machine nameless without → WorldDiariesTell machine nameless without
  world-diaries-tell begins nameless without forgets limits argument main events r texts is runs =
      sound-diaries-tell machine Is looks-at-held nameless without forgets keeps.numbers limits argument main events r is runs
      (λ before rest t split leads.
      let sound = runs-keep-sound machine Is keeps before (start machine limits argument) t leads (opening-is-sound machine Is keeps begins limits argument texts) in
      (sound.0, sound.1.sound))
