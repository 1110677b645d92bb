-- What comes in suits along runs of sound states, and so diaries tell.
use Rattle.std.proofs.Common.{◌≡◌, List, [], ◌∷◌, ◌++◌, Option, Some, None, option_and_then, refl, sym, ap, ◌∙◌, append_assoc, append-nil}
use Rattle.std.specs.Prelude.{⊤}
use Rattle.herm_model.specs.Values.{Name}
use Rattle.herm_model.proofs.Options.{some-injective, chain-some, map-some}
use Rattle.herm_journal.specs.Entries.{Place, Entry, recorded}
use Rattle.herm_journal.specs.Stamps.{entry_behind}
use Rattle.herm_journal.specs.Messages.{CellAction}
use Rattle.herm_system.specs.Machines.{Machine}
use Rattle.herm_system.specs.Systems.{System, Moved, Event, steps, acts, Run, run, run_on, step, start, opening, with_entry}
use Rattle.herm_system.specs.Reports.{IsAlong}
use Rattle.herm_system.specs.Sound.{IsSoundFor}
use Rattle.herm_runs.specs.laws.ProcessLaws.{KeepsNumbers, ForgetsNames}
use Rattle.herm_runs.specs.laws.DiaryLaws.{EventSuits}
use Rattle.herm_runs.specs.laws.SuitsLaws.{LooksAtHeld, SoundStatesSuit, SoundStatesWouldSuit, AreSoundAlong, SoundRunsSuit, SoundDiariesTell, DescribedDiariesTell}
use Rattle.herm_runs.proofs.Events.{run-joined}
use Rattle.herm_runs.proofs.ActionParts.{action-parts}
use Rattle.herm_runs.proofs.DiariesTold.{diaries-tell}
use Rattle.herm_runs.proofs.SuitsStates.{done-suits}

-- what an event does that a process of this number does is done by this process
module _ {P : Type 0} (machine : Machine Name P) (IsSoundWithin : P → Type 0) (looks : LooksAtHeld machine IsSoundWithin) where
  action-suits : (p : _) (place : Place) (s : System P) → IsSoundFor machine IsSoundWithin s → EventSuits machine (acts p place) s
  action-suits p place s sound x m a is e done =
      let parts = action-parts machine p place s m e in
      let here : parts.state ≡ x = some-injective (sym parts.is ∙ is) in
      let same : parts.did.0 ≡ a = some-injective (ap (λ (x : Moved P). x.done) parts.moved ∙ done) in
      done-suits machine s p x is IsSoundWithin looks sound.0 sound.1 place parts.want.0 parts.at.0 a (ap machine.wanted (sym here) ∙ parts.want.1) parts.there parts.at.1 (parts.did.1 ∙ ap (λ x. Some x) same)

  pub sound-states-suit : SoundStatesSuit machine IsSoundWithin
  sound-states-suit (steps p) s sound = tt
  sound-states-suit (acts p place) s sound = action-suits p place s sound

  pub sound-states-would-suit : SoundStatesWouldSuit machine IsSoundWithin
  sound-states-would-suit s sound p x w place h a is wants among at does = done-suits machine s p x is IsSoundWithin looks sound.0 sound.1 place w h a wants among at does

  sound-behind : (e : Event) (events : List Event) (r t : Run P) → AreSoundAlong machine IsSoundWithin (e ∷ events) r → run_on machine e r ≡ Some t → AreSoundAlong machine IsSoundWithin events t
  sound-behind e events r t sound is before rest u split runs = sound (e ∷ before) rest u (ap (e ∷◌) split) (ap (option_and_then (run machine before)) is ∙ runs)

  pub sound-runs-suit : SoundRunsSuit machine IsSoundWithin
  sound-runs-suit [] r sound = tt
  sound-runs-suit (e ∷ events) r sound =
      (sound-states-suit e r.system (sound [] (e ∷ events) r refl refl), λ t is. sound-runs-suit events t (sound-behind e events r t sound is))

  pub sound-diaries-tell : {Q : Type 0} (nameless : Machine ⊤ Q) (without : P → Q) → ForgetsNames machine nameless without → KeepsNumbers machine → SoundDiariesTell machine nameless without IsSoundWithin
  sound-diaries-tell nameless without forgets keeps limits argument main events r is runs sound =
      diaries-tell machine nameless without forgets keeps limits argument main events r is runs (sound-runs-suit events (start machine limits argument) sound)

-- a run's journal begins with the journal that it began with
entry-grows : (journal : List Entry) (e : Event) (a : Option (CellAction Name)) → (more : List Entry) × (with_entry journal e a ≡ journal ++ more)
entry-grows journal (acts p place) (Some a) = (entry_behind journal p place (recorded a) ∷ [], refl)
entry-grows journal (acts p place) None = ([], sym (append-nil journal))
entry-grows journal (steps p) a = ([], sym (append-nil journal))

pub journal-grows : {P : Type 0} (machine : Machine Name P) (events : List Event) (r t : Run P) → run machine events r ≡ Some t → (more : List Entry) × (t.journal ≡ r.journal ++ more)
journal-grows machine [] r t e = ([], sym (ap (λ (x : Run _). x.journal) (some-injective e)) ∙ sym (append-nil r.journal))
journal-grows machine (e ∷ events) r t is =
    let b = chain-some (run machine events) (run_on machine e r) t is in
    let m = map-some (λ (m : Moved _). record { system = m.system; journal = with_entry r.journal e m.done }) (step machine e r.system) b.0 b.1 in
    let one = entry-grows r.journal e (m.0).done in
    let first : (b.0).journal ≡ r.journal ++ one.0 = sym (ap (λ (x : Run _). x.journal) m.2) ∙ one.1 in
    let rest = journal-grows machine events b.0 t b.2 in
    (one.0 ++ rest.0, rest.1 ∙ ap (λ es. es ++ rest.0) first ∙ append_assoc r.journal one.0 rest.0)

-- so the states of a run of a journal are those along it
along-run : {P : Type 0} (machine : Machine Name P) (s : System P) (events : List Event) (t : Run P) → run machine events (record { system = s; journal = [] }) ≡ Some t → (before rest : List Event) (u : Run P) → events ≡ before ++ rest
    → run machine before (record { system = s; journal = [] }) ≡ Some u → IsAlong machine s t.journal u.system
along-run machine s events t is before rest u split first =
    let r : Run _ = record { system = s; journal = [] } in
    let last : run machine rest u ≡ Some t = sym (run-joined machine before rest r u first) ∙ sym (ap (λ es. run machine es r) split) ∙ is in
    let more = journal-grows machine rest u t last in
    (u.journal, more.0, more.1, (before, first))

pub described-diaries-tell : {P Q : Type 0} (machine : Machine Name P) (nameless : Machine ⊤ Q) (without : P → Q) → ForgetsNames machine nameless without → KeepsNumbers machine → (IsSoundWithin FindsNeeds : P → Type 0) → LooksAtHeld machine IsSoundWithin
    → DescribedDiariesTell machine nameless without IsSoundWithin FindsNeeds
described-diaries-tell machine nameless without forgets keeps IsSoundWithin FindsNeeds looks limits argument names asked report main is d =
    let s = opening machine limits argument in
    let events = (d.is_a_run).0 in
    let end : Run _ = record { system = d.final; journal = report.journal } in
    sound-diaries-tell machine IsSoundWithin looks nameless without forgets keeps limits argument main events end is (d.is_a_run).1
    (λ before rest t split first. d.is_sound t.system (along-run machine s events end (d.is_a_run).1 before rest t split first))
