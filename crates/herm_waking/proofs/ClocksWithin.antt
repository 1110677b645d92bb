-- No clock of a run is above the number of its entries.
use Rattle.std.proofs.Common.{◌≡◌, ℕ, suc, max, ◌+◌, ◌*◌, ◌^◌, ◌<◌, ◌≤◌, List, [], ◌∷◌, ◌++◌, length, Bool, true, false, cond, inl, inr, ◌⊎◌, Option, Some, None, refl, sym, ap, subst, arith, append_assoc, append-nil}
use Rattle.std.specs.Prelude.{nat_eq, ◌||◌}
use Rattle.std.proofs.lemmas.Nat.{mul-le}
use Rattle.herm_model.specs.Lists.{IsIn}
use Rattle.herm_model.specs.Values.{Name}
use Rattle.herm_model.proofs.Lists.{in-append_cases}
use Rattle.herm_model.proofs.Options.{some-injective, chain-some, map-some}
use Rattle.herm_journal.specs.Entries.{Text, Place, same_place, Entry}
use Rattle.herm_journal.specs.NextNumbers.{Limits}
use Rattle.herm_journal.specs.Messages.{CellAction}
use Rattle.herm_journal.specs.Stamps.{last_stamp, is_maker_of, clock_of_process, clock_of_place, IsStampedFrom, IsStamped}
use Rattle.herm_system.specs.Machines.{Machine, greatest_actions}
use Rattle.herm_system.specs.Systems.{Moved, Event, steps, acts, Run, run, run_on, step, start, with_entry}
use Rattle.herm_runs.proofs.Events.{run-stamped}
use Rattle.herm_runs.proofs.Numbered.{more-length}
use Rattle.herm_sound.specs.laws.SoundLaws.{most_events, EventsAreBounded}
use Rattle.herm_waking.specs.laws.ClockLaws.{StampedClocksAreWithin, RunClocksAreWithin, RunClocksFit}

-- the last stamp that passes is that of an entry, or the first one
last-within : (test : Entry → Bool) (s most : ℕ) (es : List Entry) → s ≤ most → ((e : Entry) → IsIn e es → e.stamp ≤ most) → last_stamp test s es ≤ most
last-within test s most [] le all = le
last-within test s most (e ∷ es) le all = last-within test (cond (test e) e.stamp s) most es (by (test e)) (λ f h. all f (inr h))
  where
    by : (b : Bool) → cond b e.stamp s ≤ most
    by true = all e (inl refl)
    by false = le

joined-length : (xs ys : List Entry) → length (xs ++ ys) ≡ length xs + length ys
joined-length [] ys = omega arith
joined-length (x ∷ xs) ys = omega (arith, joined-length xs ys)

-- the entries behind others, of which no stamp is above their number
stamps-within : (before es : List Entry) → IsStampedFrom before es → ((e : Entry) → IsIn e before → e.stamp ≤ length before) → (e : Entry) → IsIn e (before ++ es) → e.stamp ≤ length (before ++ es)
stamps-within before [] stamped all e h = subst (λ (l : List Entry). e.stamp ≤ length l) (sym (append-nil before)) (all e (subst (IsIn e) (append-nil before) h))
stamps-within before (x ∷ es) stamped all e h =
    subst (λ (l : List Entry). e.stamp ≤ length l) (append_assoc before (x ∷ []) es)
    (stamps-within (before ++ x ∷ []) es stamped.1 more e (subst (IsIn e) (sym (append_assoc before (x ∷ []) es)) h))
  where
    long : length (before ++ x ∷ []) ≡ suc (length before)
    long = more-length before x

    own : x.stamp ≤ suc (length before)
    own =
        let p = last-within (λ e. nat_eq e.process x.process || is_maker_of x.process e.action) 0 (length before) before (omega arith) all in
        let q = last-within (λ e. same_place e.place x.place) 0 (length before) before (omega arith) all in
        omega (arith, stamped.0, p, q)

    more : (f : Entry) → IsIn f (before ++ x ∷ []) → f.stamp ≤ length (before ++ x ∷ [])
    more f h = by (in-append_cases f before (x ∷ []) h)
      where
        by : IsIn f before ⊎ IsIn f (x ∷ []) → f.stamp ≤ length (before ++ x ∷ [])
        by (inl h) = omega (arith, all f h, long)
        by (inr (inl e)) = omega (arith, own, long, ap (λ (f : Entry). f.stamp) e)
        by (inr (inr h)) = absurd h

pub stamped-within : StampedClocksAreWithin
stamped-within journal stamped =
    let all = stamps-within [] journal stamped (λ e h. absurd h) in
    record {
      stamps = all;
      processes = λ p. last-within _ 0 (length journal) journal (omega arith) all;
      places = λ place. last-within _ 0 (length journal) journal (omega arith) all;
    }

-- an event adds one entry at most
entries-few : {P : Type 0} (machine : Machine Name P) (events : List Event) (r t : Run P) → run machine events r ≡ Some t → length t.journal ≤ length r.journal + length events
entries-few machine [] r t e = omega (arith, ap (λ (r : Run _). length r.journal) (some-injective e))
entries-few machine (x ∷ events) r t e =
    let u = chain-some (run machine events) (run_on machine x r) t e in
    let m = map-some (λ (m : Moved _). record { system = m.system; journal = with_entry r.journal x m.done }) (step machine x r.system) u.0 u.1 in
    omega (arith, entries-few machine events u.0 t u.2, ap (λ (r : Run _). length r.journal) m.2, one x r.journal m.0.done)
  where
    one : (x : Event) (journal : List Entry) (a : Option (CellAction Name)) → length (with_entry journal x a) ≤ suc (length journal)
    one (acts p place) journal (Some a) = omega (arith, more-length journal (Rattle.herm_journal.specs.Stamps.entry_behind journal p place (Rattle.herm_journal.specs.Entries.recorded a)))
    one (acts p place) journal None = omega arith
    one (steps p) journal a = omega arith

pub run-clocks : {P : Type 0} (machine : Machine Name P) → RunClocksAreWithin machine
run-clocks machine limits argument events r is = (stamped-within r.journal (run-stamped machine limits argument events r is), omega (arith, entries-few machine events (start machine limits argument) r is))

-- the events that limits in their ranges allow are fewer than 2^63
few-events : (limits : Limits) → limits.processes ≤ 1024 → limits.steps ≤ 1000000 → most_events limits ≤ 1024 * 1016384
few-events limits most each = mul-le (max 1 limits.processes) (limits.steps + greatest_actions) 1024 1016384 (omega (arith, most)) (omega (arith, each))

small : 1024 * 1016384 < 2 ^ 63
small = omega arith

pub run-clocks-fit : {P : Type 0} (machine : Machine Name P) → EventsAreBounded machine → RunClocksFit machine
run-clocks-fit machine bounded limits argument events r many each is =
    let within = run-clocks machine limits argument events r is in
    let most = few-events limits many each in
    let few = bounded limits argument events r is in
    let limit = small in
    (λ p. omega (arith, within.0.processes p, within.1, few, most, limit), λ place. omega (arith, within.0.places place, within.1, few, most, limit))
