-- The laws of sound systems for the machine of a good image.
use Rattle.herm_sound.proofs.ActOnce.{closes-open, answers-open}
use Rattle.herm_sound.proofs.AnsweredOnce.{calls-are-answered-once}
use Rattle.herm_sound.proofs.ClosedOnce.{ports-close-once}
use Rattle.herm_sound.proofs.KeptSound.{steps-keep-sound, steps-keep-types}
use Rattle.herm_sound.proofs.NotStuck.{none-is-stuck}
use Rattle.herm_sound.proofs.OpeningSound.{opening-is-sound, runs-are-sound, runs-keep-sound, states-along}
use Rattle.herm_sound.proofs.RoundsReachEnd.{events-are-bounded, rounds-suffice}
use Rattle.herm_code_machine.specs.CodeInstance.{code_machine}
use Rattle.herm_code_machine.specs.CodeLocal.{IsSoundCodeIn}
use Rattle.herm_code_machine.specs.ReadyCode.{labelled_image}
use Rattle.herm_code_machine.specs.laws.SoundImageLaws.{ImagesKeepStanding, ImageStepsKeepSound, ImageStepsKeepTypes, ImageRunsKeepSound, ImageOpeningIsSound, ImageRunsAreSound, ImageStatesAlong, ImageNoneIsStuck, ImageProcessesHaveCode, ImageActionsAreDone, ImageActionsAreDoneOnce, ImageRunsEnd}
use Rattle.herm_code_machine.proofs.CodeCalls.{code-numbers-calls}
use Rattle.herm_code_machine.proofs.CodeLimits.{code-keeps-limits}
use Rattle.herm_code_machine.proofs.placed.ImageStanding.{image-keeps-standing, image-keeps-sound}
use Rattle.herm_code_machine.proofs.sound.CodeBegins.{begins-sound}
use Rattle.herm_code_machine.proofs.sound.SoundProcesses.{goes-on}

pub images-keep-standing : ImagesKeepStanding
images-keep-standing exceptions image main good ports calls = image-keeps-standing exceptions image main good ports calls

pub image-steps : ImageStepsKeepSound
unfolding image-keeps-sound
image-steps exceptions image main good = steps-keep-sound (code_machine (labelled_image image main)) (IsSoundCodeIn (labelled_image image main)) (image-keeps-sound exceptions image main good)

pub image-types : ImageStepsKeepTypes
unfolding image-keeps-sound
image-types exceptions image main good = steps-keep-types (code_machine (labelled_image image main)) (IsSoundCodeIn (labelled_image image main)) (image-keeps-sound exceptions image main good)

pub image-runs : ImageRunsKeepSound
unfolding image-keeps-sound
image-runs exceptions image main good = runs-keep-sound (code_machine (labelled_image image main)) (IsSoundCodeIn (labelled_image image main)) (image-keeps-sound exceptions image main good)

pub image-opening : ImageOpeningIsSound
unfolding image-keeps-sound
image-opening exceptions image main good begins =
    opening-is-sound (code_machine (labelled_image image main)) (IsSoundCodeIn (labelled_image image main)) (image-keeps-sound exceptions image main good) (begins-sound exceptions image main good begins)

pub image-runs-sound : ImageRunsAreSound
unfolding image-keeps-sound
image-runs-sound exceptions image main good begins =
    runs-are-sound (code_machine (labelled_image image main)) (IsSoundCodeIn (labelled_image image main)) (image-keeps-sound exceptions image main good) (begins-sound exceptions image main good begins)

pub image-along : ImageStatesAlong
unfolding image-keeps-sound
image-along exceptions image main good begins =
    states-along (code_machine (labelled_image image main)) (IsSoundCodeIn (labelled_image image main)) (image-keeps-sound exceptions image main good) (begins-sound exceptions image main good begins)

pub image-none : ImageNoneIsStuck
image-none exceptions image main good s p sound =
    none-is-stuck (code_machine (labelled_image image main)) (IsSoundCodeIn (labelled_image image main)) (image-keeps-sound exceptions image main good) (goes-on exceptions image main good) s p (sound.0, sound.1.sound)

pub image-coded : ImageProcessesHaveCode
image-coded exceptions image main good s p x sound there = (sound.1.sound).processes p x there

pub image-done : ImageActionsAreDone
image-done exceptions image main good =
    let keeps = image-keeps-sound exceptions image main good in (
      closes-open (code_machine (labelled_image image main)) (IsSoundCodeIn (labelled_image image main)) keeps,
      answers-open (code_machine (labelled_image image main)) (IsSoundCodeIn (labelled_image image main)) keeps,
    )

pub image-once : ImageActionsAreDoneOnce
unfolding image-keeps-sound
image-once exceptions image main good begins =
    let keeps = image-keeps-sound exceptions image main good in (
      ports-close-once (code_machine (labelled_image image main)) (IsSoundCodeIn (labelled_image image main)) keeps (begins-sound exceptions image main good begins),
      calls-are-answered-once (code_machine (labelled_image image main)) (IsSoundCodeIn (labelled_image image main)) keeps (code-numbers-calls (labelled_image image main)) (begins-sound exceptions image main good begins),
    )

pub image-end : ImageRunsEnd
unfolding image-keeps-sound
image-end exceptions image main good begins =
    let keeps = image-keeps-sound exceptions image main good in
    let start = begins-sound exceptions image main good begins in (
      events-are-bounded (code_machine (labelled_image image main)) (IsSoundCodeIn (labelled_image image main)) keeps start (code-keeps-limits (labelled_image image main)),
      rounds-suffice (code_machine (labelled_image image main)) (IsSoundCodeIn (labelled_image image main)) keeps start (code-keeps-limits (labelled_image image main)) (goes-on exceptions image main good),
    )
