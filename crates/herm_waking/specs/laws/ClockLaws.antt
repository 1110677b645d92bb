-- What is claimed of clocks along a run: none is above the number of entries so far.
use Rattle.std.specs.Prelude.{ℕ, ◌≤◌, ◌<◌, ◌^◌, List, length, Some, ◌≡◌}
use Rattle.herm_model.specs.Lists.{IsIn}
use Rattle.herm_model.specs.Values.{Name}
use Rattle.herm_journal.specs.Entries.{Text, Place, Entry}
use Rattle.herm_journal.specs.NextNumbers.{Limits}
use Rattle.herm_journal.specs.Stamps.{clock_of_process, clock_of_place, IsStamped}
use Rattle.herm_system.specs.Machines.{Machine}
use Rattle.herm_system.specs.Systems.{Event, Run, run, start}

-- Of a journal with the stamps of the two clocks no entry and no clock is above the number of entries. Language reference, "Stamps".
pub record ClocksAreWithin (journal : List Entry) : Type 0 where
  pub stamps : (e : Entry) → IsIn e journal → e.stamp ≤ length journal
  pub processes : (p : ℕ) → clock_of_process p journal ≤ length journal
  pub places : (place : Place) → clock_of_place place journal ≤ length journal

abbrev pub StampedClocksAreWithin : Type 0
StampedClocksAreWithin = (journal : List Entry) → IsStamped journal → ClocksAreWithin journal

-- So it is along every run, which has no more entries than events. Language reference, "Stamps".
abbrev pub RunClocksAreWithin : {P : Type 0} → Machine Name P → Type 0
RunClocksAreWithin {P} machine = (limits : Limits) (argument : Text) (events : List Event) (r : Run P) → run machine events (start machine limits argument) ≡ Some r
    → ClocksAreWithin r.journal × (length r.journal ≤ length events)

-- Where the limits are in their ranges and bound the events, all clocks are below 2^63. Language reference, "Limits of a run".
abbrev pub RunClocksFit : {P : Type 0} → Machine Name P → Type 0
RunClocksFit {P} machine = (limits : Limits) (argument : Text) (events : List Event) (r : Run P) → limits.processes ≤ 1024 → limits.steps ≤ 1000000 → run machine events (start machine limits argument) ≡ Some r
    → ((p : ℕ) → clock_of_process p r.journal < 2 ^ 63) × ((place : Place) → clock_of_place place r.journal < 2 ^ 63)
