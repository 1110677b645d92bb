-- The laws of sound states for the source machine of a checked program.
use Rattle.std.proofs.Common.{◌≡◌, ℕ, List, Some, refl, sym, subst}
use Rattle.herm_model.specs.Values.{Name, Kind}
use Rattle.herm_system.specs.Sound.{IsSoundWith, IsSoundFor}
use Rattle.herm_system.specs.Systems.{System, numbered_from_one, start}
use Rattle.herm_source.specs.Instance.{source, IsSoundIn}
use Rattle.herm_source.specs.Checked.{IsChecked}
use Rattle.herm_source.specs.Modules.{Program, Modules}
use Rattle.herm_source.specs.States.{State}
use Rattle.herm_source.specs.laws.SoundProcesses.{IsSoundProcess}
use Rattle.herm_runs.proofs.Events.{run-stamped}
use Rattle.herm_runs.proofs.SuitsRuns.{sound-states-suit, sound-runs-suit}
use Rattle.herm_source.proofs.instance.SourceLooks.{source-looks-at-held, accepted-share-types}
use Rattle.herm_source.proofs.reached.RunsReach.{IsAtReached, stays-reached, along-finds}
use Rattle.herm_sound.specs.SoundBeside.{IsSoundBesideWith, IsSoundBeside}
use Rattle.herm_sound.specs.SoundMachines.{KeepsSound}
use Rattle.herm_sound.proofs.KeptSound.{steps-keep-sound, steps-keep-types, cells-are-all}
use Rattle.herm_sound.proofs.StepsStaySo.{events-keep-all}
use Rattle.herm_sound.proofs.OpeningSound.{opening-is-sound, runs-are-sound, states-along}
use Rattle.herm_sound.proofs.NotStuck.{none-is-stuck}
use Rattle.herm_sound.proofs.ActOnce.{closes-open, answers-open}
use Rattle.herm_sound.proofs.AnsweredOnce.{calls-are-answered-once}
use Rattle.herm_sound.proofs.ClosedOnce.{ports-close-once}
use Rattle.herm_sound.proofs.RoundsReachEnd.{events-are-bounded, rounds-suffice}
use Rattle.herm_checked.specs.laws.CheckedRuns.{IsSoundAndReached, SoundWithReach, CheckedStepsKeepSound, CheckedStepsKeepTypes, AcceptedStepsReach, CheckedEventsSuit, CheckedRunsSuit, CheckedOpeningIsSound, CheckedRunsAreSound, CheckedStatesAlong, CheckedNoneIsStuck, CheckedActionsAreDoneOnce, CheckedRunsEnd, CheckedRunsAreDescribed, CheckedReportsDescribe}
use Rattle.herm_checked.proofs.CallNumbers.{source-numbers-calls}
use Rattle.herm_checked.proofs.SourceKeeps.{source-keeps-sound, none-beside}
use Rattle.herm_checked.proofs.SourceBegins.{source-begins-sound, source-goes-on, source-keeps-limits}

with-within : (modules : Modules) (Is Within : State Name → Type 0) (s : System (State Name)) (types : List ℕ) → ((p : ℕ) (x : State Name) → numbered_from_one p s.processes ≡ Some x → Within x)
    → IsSoundWith (source modules) Is types s → IsSoundWith (source modules) Within types s
with-within modules Is Within s types all sound = record {
  processes = all;
  messages = sound.messages;
  replies = sound.replies;
  ledger = sound.ledger;
  once = sound.once;
  ports = record {
    types = sound.ports.types;
    inport_types = sound.ports.inport_types;
    console = sound.ports.console;
    inports = sound.ports.inports;
    inports_stand = sound.ports.inports_stand;
    outports_stand = sound.ports.outports_stand;
  };
  calls = record { answers = sound.calls.answers; callmessages_stand = sound.calls.callmessages_stand };
  numbers = sound.numbers;
}

module _ (program : Program) (modules : Modules) (s : System (State Name)) where
  to-reached : IsSoundFor (source modules) (IsSoundProcess program modules) s → IsSoundAndReached program modules s
  to-reached sound = (
    (sound.0, with-within modules (IsSoundProcess program modules) (IsSoundIn modules) s sound.0 (λ p x is. (sound.1.processes p x is).sound) sound.1),
    λ p x process is at. (sound.1.processes p x is).reached process at,
  )

  from-reached : IsSoundAndReached program modules s → IsSoundFor (source modules) (IsSoundProcess program modules) s
  from-reached both = (
    both.0.0,
    with-within modules (IsSoundIn modules) (IsSoundProcess program modules) s both.0.0 (λ p x is. record { sound = both.0.1.processes p x is; reached = λ process at. both.1 p x process is at }) both.0.1,
  )

pub sound-with-reach : SoundWithReach
sound-with-reach program modules s = (to-reached program modules s, from-reached program modules s)

-- the source machine has no values but its cells
module _ (exceptions : ℕ) (program : Program) (modules : Modules) (checked : IsChecked exceptions program modules) where
  abbrev keeps : KeepsSound (source modules) (IsSoundProcess program modules)
  keeps = source-keeps-sound exceptions program modules checked

  abbrev WithBeside : (State Name → List (ℕ × Kind)) → List ℕ → System (State Name) → Type 0
  WithBeside beside types s = IsSoundBesideWith (source modules) (IsSoundProcess program modules) beside types s

  beside-types : (types : List ℕ) (s : System (State Name)) → IsSoundWith (source modules) (IsSoundProcess program modules) types s → WithBeside (keeps).beside types s
  beside-types types s sound =
      subst (λ beside. WithBeside beside types s) (sym (none-beside exceptions program modules checked)) ((cells-are-all (source modules) (IsSoundProcess program modules) types s).0 sound)

  to-beside : (s : System (State Name)) → IsSoundAndReached program modules s → IsSoundBeside (source modules) (IsSoundProcess program modules) (keeps).beside s
  to-beside s both = let sound = from-reached program modules s both in (sound.0, beside-types sound.0 s sound.1)

  from-beside : (s : System (State Name)) → IsSoundBeside (source modules) (IsSoundProcess program modules) (keeps).beside s → IsSoundAndReached program modules s
  from-beside s both = to-reached program modules s (both.0, both.1.sound)

pub checked-steps : CheckedStepsKeepSound
checked-steps exceptions program modules checked e s m is both =
    from-beside exceptions program modules checked m.system
    (steps-keep-sound (source modules) (IsSoundProcess program modules) (source-keeps-sound exceptions program modules checked) e s m is (to-beside exceptions program modules checked s both))

pub checked-types : CheckedStepsKeepTypes
checked-types exceptions program modules checked e s m is types sound =
    let kept = steps-keep-types (source modules) (IsSoundProcess program modules) (source-keeps-sound exceptions program modules checked) e s m is types (beside-types exceptions program modules checked types s sound) in
    (kept.0, kept.1.sound)

pub accepted-reach : AcceptedStepsReach
accepted-reach program modules accepted formed e s m is reached =
    let all = events-keep-all (source modules) (IsAtReached program modules accepted formed) (stays-reached program modules accepted formed) e s m is (λ p x at process here. reached p x process at here) in
    λ p x process at here. all p x at process here

pub checked-opening : CheckedOpeningIsSound
checked-opening exceptions program modules checked limits argument texts =
    from-beside exceptions program modules checked _ (opening-is-sound (source modules) (IsSoundProcess program modules) (source-keeps-sound exceptions program modules checked) (source-begins-sound exceptions program modules checked) limits argument texts)

pub checked-runs : CheckedRunsAreSound
checked-runs exceptions program modules checked limits argument events r texts e =
    from-beside exceptions program modules checked r.system (runs-are-sound (source modules) (IsSoundProcess program modules) (source-keeps-sound exceptions program modules checked) (source-begins-sound exceptions program modules checked) limits argument events r texts e)

pub checked-suit : CheckedEventsSuit
checked-suit exceptions program modules checked = sound-states-suit (source modules) (IsSoundIn modules) (source-looks-at-held modules (accepted-share-types program modules checked.accepted))

pub checked-runs-suit : CheckedRunsSuit
checked-runs-suit exceptions program modules checked limits argument events texts =
    sound-runs-suit (source modules) (IsSoundIn modules) (source-looks-at-held modules (accepted-share-types program modules checked.accepted)) events (start (source modules) limits argument)
    (λ before rest t same is. (checked-runs exceptions program modules checked limits argument before t texts is).0)

pub checked-along : CheckedStatesAlong
checked-along exceptions program modules checked limits argument journal s texts along =
    let both = from-beside exceptions program modules checked s (states-along (source modules) (IsSoundProcess program modules) (source-keeps-sound exceptions program modules checked) (source-begins-sound exceptions program modules checked) limits argument journal s texts along) in
    (both.0, along-finds program modules limits argument journal s checked.accepted (λ process h. ((checked.typed).modules process h).blocks) along both.0)

pub checked-none : CheckedNoneIsStuck
checked-none exceptions program modules checked s p both =
    none-is-stuck (source modules) (IsSoundProcess program modules) (source-keeps-sound exceptions program modules checked) (source-goes-on exceptions program modules checked) s p (from-reached program modules s both)

pub checked-once : CheckedActionsAreDoneOnce
checked-once exceptions program modules checked =
    let keeps = source-keeps-sound exceptions program modules checked in (
      closes-open (source modules) (IsSoundProcess program modules) keeps,
      answers-open (source modules) (IsSoundProcess program modules) keeps,
      ports-close-once (source modules) (IsSoundProcess program modules) keeps (source-begins-sound exceptions program modules checked),
      calls-are-answered-once (source modules) (IsSoundProcess program modules) keeps (source-numbers-calls modules) (source-begins-sound exceptions program modules checked),
    )

pub checked-end : CheckedRunsEnd
checked-end exceptions program modules checked =
    let keeps = source-keeps-sound exceptions program modules checked in
    let begins = source-begins-sound exceptions program modules checked in (
      events-are-bounded (source modules) (IsSoundProcess program modules) keeps begins (source-keeps-limits modules),
      rounds-suffice (source modules) (IsSoundProcess program modules) keeps begins (source-keeps-limits modules) (source-goes-on exceptions program modules checked),
    )

-- the report of a run of a checked program
pub checked-described : CheckedRunsAreDescribed
checked-described exceptions program modules checked limits argument names asked events r texts is rising final =
    record {
      final = r.system;
      is_ordered = rising;
      is_stamped = run-stamped (source modules) limits argument events r is;
      is_a_run = (events, is);
      is_final = final;
      finds_needs = λ s a. (checked-along exceptions program modules checked limits argument r.journal s texts a).1;
      is_sound = λ s a. (checked-along exceptions program modules checked limits argument r.journal s texts a).0;
      has_ledger = λ s a. let sound = (checked-along exceptions program modules checked limits argument r.journal s texts a).0 in (sound.1.ledger, sound.1.once);
      ends = refl;
      queued = refl;
      counts = refl;
      status = refl;
      text = refl;
    }

-- a report whose text is the same by all names
pub checked-reports : CheckedReportsDescribe
checked-reports exceptions program modules checked limits argument names report texts is =
    record {
      final = is.final;
      is_ordered = is.is_ordered;
      is_stamped = is.is_stamped;
      is_a_run = is.is_a_run;
      is_final = is.is_final;
      finds_needs = λ s a. (checked-along exceptions program modules checked limits argument report.journal s texts a).1;
      is_sound = λ s a. (checked-along exceptions program modules checked limits argument report.journal s texts a).0;
      has_ledger = is.has_ledger;
      ends = is.ends;
      queued = is.queued;
      counts = is.counts;
      status = is.status;
      text = is.text names;
    }
