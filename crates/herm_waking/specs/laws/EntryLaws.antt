-- What is claimed of one entry more: whose diary and which history grow, and which clocks move.
use Rattle.std.specs.Prelude.{ℕ, List, [], ◌∷◌, ◌++◌, cond, ◌||◌, nat_eq, Some, None, ◌≡◌}
use Rattle.herm_model.specs.Values.{Name}
use Rattle.herm_journal.specs.Entries.{Text, Place, same_place, Entry}
use Rattle.herm_journal.specs.Journals.{part_of_process, part_of_place}
use Rattle.herm_journal.specs.NextNumbers.{Limits}
use Rattle.herm_journal.specs.Stamps.{is_maker_of, clock_of_process, clock_of_place}
use Rattle.herm_system.specs.Machines.{Machine}
use Rattle.herm_system.specs.Systems.{Event, Run, run, start, numbered_from_one, holding_at}

-- With one entry more the diary of its process and the history of its place have it at their end, and all others are as before; the
-- clocks of its process, of a process that it made and of its place are its stamp. Language reference, "Stamps" and "Diaries".
pub record GrowsBy (journal : List Entry) (e : Entry) : Type 0 where
  pub diaries : (q : ℕ) → part_of_process q (journal ++ e ∷ []) ≡ cond (nat_eq e.process q) (part_of_process q journal ++ e ∷ []) (part_of_process q journal)
  pub histories : (place : Place) → part_of_place place (journal ++ e ∷ []) ≡ cond (same_place e.place place) (part_of_place place journal ++ e ∷ []) (part_of_place place journal)
  pub process_clocks : (q : ℕ) → clock_of_process q (journal ++ e ∷ []) ≡ cond (nat_eq e.process q || is_maker_of q e.action) e.stamp (clock_of_process q journal)
  pub place_clocks : (place : Place) → clock_of_place place (journal ++ e ∷ []) ≡ cond (same_place e.place place) e.stamp (clock_of_place place journal)

abbrev pub JournalsGrow : Type 0
JournalsGrow = (journal : List Entry) (e : Entry) → GrowsBy journal e

-- Along a run, who is not there yet has no diary, and where nothing is yet there is no history, and its clock is 0. So a process, a port
-- and a reply cell that are made begin with empty ones. Language reference, "Diaries" and "Histories".
abbrev pub NothingIsRecordedYet : {P : Type 0} → Machine Name P → Type 0
NothingIsRecordedYet {P} machine = (limits : Limits) (argument : Text) (events : List Event) (r : Run P) → run machine events (start machine limits argument) ≡ Some r
    → ((q : ℕ) → numbered_from_one q r.system.processes ≡ None → part_of_process q r.journal ≡ [])
    × ((place : Place) → holding_at place r.system ≡ None → (part_of_place place r.journal ≡ []) × (clock_of_place place r.journal ≡ 0))
