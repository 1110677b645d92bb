-- What is claimed of a good image whose main has a port of the type main_start, in one record: it works as a world.
use Rattle.std.specs.Prelude.{ℕ}
use Rattle.herm_instructions.specs.Images.{Image}
use Rattle.herm_code_machine.specs.ReadyCode.{ReadyImage}
use Rattle.herm_code_machine.specs.laws.SoundImageLaws.{OfGoodImages, OfStartedImages}
use Rattle.herm_code_worlds.specs.CodeWorlds.{its_ready}
use Rattle.herm_code_worlds.specs.laws.BareLaws.{ReportsForgetNames, ShowsRuns}
use Rattle.herm_code_worlds.specs.laws.CodeLaws.{WorksWithoutNames, StaysAtDiary, RecordsRuns, WakesFew, GoesRounds, RunsFromStart}

-- of every image, whether it is good or not
abbrev pub OfEveryImage : (ReadyImage → Type 0) → Type 0
OfEveryImage Is = (image : ReadyImage) → Is image

-- In sound states events wake few, and rounds over who is kept are rounds; runs from the start are sound, end, and are reported; runs are recorded
-- by clocks, diaries and one journal; all is the same without names; and so a world as code holds it shows a run of the image, from its
-- opening to its report. Code reference, "Processes".
pub record WorksAsWorld (image : Image) (main : ℕ) : Type 0 where
  pub waking : WakesFew image main
  pub rounds : GoesRounds image main
  pub runs : RunsFromStart image main
  pub records : RecordsRuns (its_ready image main)
  pub diaries : StaysAtDiary (its_ready image main)
  pub without_names : WorksWithoutNames (its_ready image main)
  pub reports : ReportsForgetNames (its_ready image main)
  pub shown : ShowsRuns image main

abbrev pub ImagesWakeFew : Type 0
ImagesWakeFew = OfGoodImages WakesFew

abbrev pub ImagesGoRounds : Type 0
ImagesGoRounds = OfGoodImages GoesRounds

abbrev pub ImagesWorkAsWorlds : Type 0
ImagesWorkAsWorlds = OfStartedImages WorksAsWorld
