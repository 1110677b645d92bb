-- What is claimed of sound states of images whose code is good over a well-formed table of types.
use Rattle.std.specs.Prelude.{◌≡◌, ◌++◌, ℕ, List, Option, Some, IsTrue}
use Rattle.herm_model.specs.Typed.{is_text}
use Rattle.herm_model.specs.TypedPrograms.{main_start}
use Rattle.herm_model.specs.Values.{Name}
use Rattle.herm_journal.specs.Entries.{Text, Entry}
use Rattle.herm_journal.specs.NextNumbers.{Limits}
use Rattle.herm_system.specs.Reports.{IsAlong}
use Rattle.herm_system.specs.Systems.{System, Moved, Event, step, Run, run, start, opening, numbered_from_one}
use Rattle.herm_sound.specs.SoundBeside.{IsSoundBesideWith}
use Rattle.herm_sound.specs.SoundMachines.{KeepsStanding}
use Rattle.herm_sound.specs.laws.SoundLaws.{GoOnFrom, ClosesOpenPorts, AnswersOpenCalls, PortsCloseOnce, CallsAreAnsweredOnce, EventsAreBounded, RoundsSuffice}
use Rattle.herm_instructions.specs.Images.{Image}
use Rattle.herm_code_machine.specs.CodeInstance.{code_at, code_machine}
use Rattle.herm_code_machine.specs.CodeLocal.{IsLocallySoundCode, IsSoundCodeIn, typed_stack, IsSoundCode}
use Rattle.herm_code_machine.specs.CodeStates.{CodeState}
use Rattle.herm_code_machine.specs.CodeTypes.{first_type, new_type}
use Rattle.herm_code_machine.specs.ReadyCode.{ReadyCode, labelled_image}
use Rattle.herm_code_machine.specs.laws.GoodImageLaws.{IsGoodOver}

-- it is so of every good image, whichever module is main
abbrev pub OfGoodImages : (Image → ℕ → Type 0) → Type 0
OfGoodImages Is = (exceptions : ℕ) (image : Image) (main : ℕ) → IsGoodOver exceptions image → Is image main

-- it is so of every good image whose main has a port of the type main_start
abbrev pub OfStartedImages : (Image → ℕ → Type 0) → Type 0
OfStartedImages Is = OfGoodImages (λ image main. first_type (labelled_image image main) main ≡ Some main_start → Is image main)

-- Inports, outports and callmessages stay at places of their types, with outports on stacks. Code reference, "Sound states of code".
abbrev pub ImagesKeepStanding : Type 0
ImagesKeepStanding = OfGoodImages (λ image main. let ready = labelled_image image main in (ports : List ℕ) (calls : ℕ → ℕ → Option ℕ) → KeepsStanding (code_machine ready) (first_type ready) (new_type ready) (IsSoundCodeIn ready) (typed_stack ready) ports calls)

-- What an event leaves of a sound image state is one, whatever the event; and the types of the ports stay, and those of new ports come
-- behind them. Code reference, "Sound states of code".
abbrev pub ImageStepsKeepSound : Type 0
ImageStepsKeepSound = OfGoodImages (λ image main. (e : Event) (s : System (CodeState Name)) (m : Moved (CodeState Name)) → step (code_machine (labelled_image image main)) e s ≡ Some m → IsSoundCode image main s → IsSoundCode image main m.system)

abbrev pub ImageStepsKeepTypes : Type 0
ImageStepsKeepTypes = OfGoodImages (λ image main. let ready = labelled_image image main in (e : Event) (s : System (CodeState Name)) (m : Moved (CodeState Name)) → step (code_machine ready) e s ≡ Some m
    → (types : List ℕ) → IsSoundBesideWith (code_machine ready) (IsSoundCodeIn ready) (typed_stack ready) types s → (new : List ℕ) × IsSoundBesideWith (code_machine ready) (IsSoundCodeIn ready) (typed_stack ready) (types ++ new) m.system)

-- So is what a list of events leaves.
abbrev pub ImageRunsKeepSound : Type 0
ImageRunsKeepSound = OfGoodImages (λ image main. (events : List Event) (r t : Run (CodeState Name)) → run (code_machine (labelled_image image main)) events r ≡ Some t → IsSoundCode image main r.system → IsSoundCode image main t.system)

-- The state at the start is one, with any text as the argument; so is each state of each run, whatever the schedule, and each along a
-- journal. Language reference, "Opening state".
abbrev pub ImageOpeningIsSound : Type 0
ImageOpeningIsSound = OfStartedImages (λ image main. (limits : Limits) (argument : Text) → IsTrue (is_text argument) → IsSoundCode image main (opening (code_machine (labelled_image image main)) limits argument))

abbrev pub ImageRunsAreSound : Type 0
ImageRunsAreSound = OfStartedImages (λ image main. (limits : Limits) (argument : Text) (events : List Event) (r : Run (CodeState Name)) → IsTrue (is_text argument)
    → run (code_machine (labelled_image image main)) events (start (code_machine (labelled_image image main)) limits argument) ≡ Some r → IsSoundCode image main r.system)

abbrev pub ImageStatesAlong : Type 0
ImageStatesAlong = OfStartedImages (λ image main. (limits : Limits) (argument : Text) (journal : List Entry) (s : System (CodeState Name)) → IsTrue (is_text argument)
    → IsAlong (code_machine (labelled_image image main)) (opening (code_machine (labelled_image image main)) limits argument) journal s → IsSoundCode image main s)

-- No process of such a state is stuck. Code reference, "Sound states of code".
abbrev pub ImageNoneIsStuck : Type 0
ImageNoneIsStuck = OfGoodImages (λ image main. (s : System (CodeState Name)) (p : ℕ) → IsSoundCode image main s → GoOnFrom (code_machine (labelled_image image main)) s p)

-- Each process of such a state has code, by which it is sound. Code reference, "Sound states of code".
abbrev pub ImageProcessesHaveCode : Type 0
ImageProcessesHaveCode = OfGoodImages (λ image main. (s : System (CodeState Name)) (p : ℕ) (x : CodeState Name) → IsSoundCode image main s → numbered_from_one p s.processes ≡ Some x
    → (c : ReadyCode) × (code_at (labelled_image image main) x ≡ Some c) × IsLocallySoundCode c x)

-- In such a state ports that are closed were open, and calls that are answered are open and have no answer yet; and along a run no port is
-- closed twice, and no call is answered twice. Language reference, "Ports" and "Calls".
abbrev pub ImageActionsAreDone : Type 0
ImageActionsAreDone = OfGoodImages (λ image main. let ready = labelled_image image main in ClosesOpenPorts (code_machine ready) (IsSoundCodeIn ready) × AnswersOpenCalls (code_machine ready) (IsSoundCodeIn ready))

abbrev pub ImageActionsAreDoneOnce : Type 0
ImageActionsAreDoneOnce = OfStartedImages (λ image main. PortsCloseOnce (code_machine (labelled_image image main)) × CallsAreAnsweredOnce (code_machine (labelled_image image main)))

-- The limits bound the events of a run, and so many rounds, and one more, reach its end. Language reference, "Rounds".
abbrev pub ImageRunsEnd : Type 0
ImageRunsEnd = OfStartedImages (λ image main. EventsAreBounded (code_machine (labelled_image image main)) × RoundsSuffice (code_machine (labelled_image image main)))
