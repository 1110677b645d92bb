-- So many rounds as there can be events, and one more, lead to a final state.
use Rattle.std.proofs.Common.{◌≡◌, ◌⊎◌, inl, inr, ℕ, zero, suc, ◌+◌, ◌≤◌, List, [], ◌∷◌, ◌++◌, length, Bool, true, false, cond, find, Option, Some, None, is_some, option_map, option_and_then, refl, sym, ap, subst, ◌∙◌, arith, true≢false}
use Rattle.herm_model.specs.Lists.{IsIn}
use Rattle.herm_model.specs.Values.{Name}
use Rattle.herm_model.proofs.Lists.{found-in}
use Rattle.herm_model.proofs.Options.{some-injective, none-not_some}
use Rattle.herm_system.specs.Machines.{Machine, is_local, is_acting}
use Rattle.herm_system.specs.Rounds.{Round, rounds, turns, turn, after_turn, first_place, place_or_book}
use Rattle.herm_system.specs.Systems.{System, Moved, Event, steps, acts, Run, run, run_on, step, start, places_for, done_in, stands, with_entry}
use Rattle.herm_runs.proofs.Events.{run-joined}
use Rattle.herm_runs.proofs.RoundsEnd.{rounds-final}
use Rattle.herm_sound.specs.SoundBeside.{IsSoundBeside}
use Rattle.herm_sound.specs.SoundMachines.{KeepsSound, BeginsSound, GoesOn, KeepsLimits}
use Rattle.herm_sound.specs.laws.SoundLaws.{most_events, EventsAreBounded, RoundsSuffice}
use Rattle.herm_sound.proofs.BoundedEvents.{events-bounded}
use Rattle.herm_sound.proofs.NotStuck.{among-places, steps-there, acts-there, wanted-there}
use Rattle.herm_sound.proofs.OpeningSound.{opening-is-sound, runs-keep-sound}

-- the first that passes is there where one passes
found-there : {X : Type 0} (test : X → Bool) (xs : List X) (x : X) → IsIn x xs → test x ≡ true → (y : X) × (find test xs ≡ Some y)
found-there test [] x h e = absurd h
found-there {X} test (z ∷ xs) x h e = by (test z) refl h (λ h. found-there test xs x h e)
  where
    rest : IsIn x (z ∷ xs) → test z ≡ false → (IsIn x xs → (y : X) × (find test xs ≡ Some y)) → (y : X) × (find test xs ≡ Some y)
    rest (inl same) f later = absurd (true≢false (sym e ∙ ap test same ∙ f))
    rest (inr h) f later = later h

    by : (b : Bool) → test z ≡ b → IsIn x (z ∷ xs) → (IsIn x xs → (y : X) × (find test xs ≡ Some y)) → (y : X) × (cond b (Some z) (find test xs) ≡ Some y)
    by true f h later = (z, refl)
    by false f h later = rest h f later

module _ {P : Type 0} (machine : Machine Name P) (Is : P → Type 0) (keeps : KeepsSound machine Is) (goes : GoesOn machine Is) where
  -- the next event of a process, if it has one, is there
  turn-there : (s : System P) (p : ℕ) (e : Event) → IsSoundBeside machine Is keeps.beside s → turn machine s p ≡ Some e → (m : Moved P) × (step machine e s ≡ Some m)
  turn-there s p e sound is = by (stands is_local machine s p) (stands is_acting machine s p) refl refl is
    where
      acting : stands is_acting machine s p ≡ true → (m : Moved P) × (step machine (acts p (place_or_book (first_place machine s p))) s ≡ Some m)
      acting stood =
          let w = wanted-there machine Is keeps goes s sound.0 sound.1.sound p stood in
          let found = found-there (λ place. is_some (done_in w.1 s place)) (places_for p w.1) w.2 w.5 w.6 in
          let first : first_place machine s p ≡ Some found.0 =
          ap (option_and_then (λ x. option_and_then (λ w. find (λ place. is_some (done_in w s place)) (places_for p w)) (machine.wanted x))) w.3
          ∙ ap (option_and_then (λ w. find (λ place. is_some (done_in w s place)) (places_for p w))) w.4
          ∙ found.1 in
          let passes = found-in (λ place. is_some (done_in w.1 s place)) found.0 (places_for p w.1) found.1 in
          let m = acts-there machine Is keeps goes s sound.0 sound.1.sound p stood w.0 w.1 found.0 w.3 w.4 (among-places found.0 (places_for p w.1) passes.0) passes.1 in
          (m.0, ap (λ o. step machine (acts p (place_or_book o)) s) first ∙ m.1)

      by : (a b : Bool) → stands is_local machine s p ≡ a → stands is_acting machine s p ≡ b → cond a (Some (steps p)) (cond b (Some (acts p (place_or_book (first_place machine s p)))) None) ≡ Some e → (m : Moved P) × (step machine e s ≡ Some m)
      by true b a-is b-is is = subst (λ e. (m : Moved P) × (step machine e s ≡ Some m)) (some-injective is) (steps-there machine Is keeps goes s sound.0 sound.1.sound p a-is)
      by false true a-is b-is is = subst (λ e. (m : Moved P) × (step machine e s ≡ Some m)) (some-injective is) (acting b-is)
      by false false a-is b-is is = none-not_some is

  -- what turns lead to is there, is sound, and is led to by events, of which there is one at least where it is said that one was made
  record IsTurned (r t : Round P) : Type 0 where
    events : List Event
    leads : run machine events r.run ≡ Some t.run
    moved : t.moved ≡ true → (r.moved ≡ true) ⊎ (1 ≤ length events)

  one-turn : (r : Round P) (p : ℕ) → IsSoundBeside machine Is keeps.beside r.run.system → (t : Round P) × (after_turn machine (turn machine r.run.system p) r ≡ Some t) × IsTurned r t
  one-turn r p sound = by (turn machine r.run.system p) refl
    where
      by : (o : Option Event) → turn machine r.run.system p ≡ o → (t : Round P) × (after_turn machine o r ≡ Some t) × IsTurned r t
      by None is = (r, refl, record { events = []; leads = refl; moved = λ e. inl e })
      by (Some e) is =
          let m = turn-there r.run.system p e sound is in
          let next : Run P = record { system = m.0.system; journal = with_entry r.run.journal e m.0.done } in
          let goes_on : run_on machine e r.run ≡ Some next = ap (option_map (λ (m : Moved P). record { system = m.system; journal = with_entry r.run.journal e m.done })) m.1 in (
            record { run = next; moved = true },
            ap (option_map (λ next. record { run = next; moved = true })) goes_on,
            record { events = e ∷ []; leads = ap (option_and_then (λ x. Some x)) goes_on; moved = λ f. inr (omega arith) },
          )

  joined-length : (xs ys : List Event) → length (xs ++ ys) ≡ length xs + length ys
  joined-length [] ys = omega arith
  joined-length (x ∷ xs) ys = omega (arith, joined-length xs ys)

  both-turned : (r s t : Round P) → IsTurned r s → IsTurned s t → IsTurned r t
  both-turned r s t a b = record {
    events = a.events ++ b.events;
    leads = run-joined machine a.events b.events r.run s.run a.leads ∙ b.leads;
    moved = λ e. later (b.moved e);
  }
    where
      first : (r.moved ≡ true) ⊎ (1 ≤ length a.events) → (r.moved ≡ true) ⊎ (1 ≤ length (a.events ++ b.events))
      first (inl e) = inl e
      first (inr h) = inr (omega (arith, h, joined-length a.events b.events))

      later : (s.moved ≡ true) ⊎ (1 ≤ length b.events) → (r.moved ≡ true) ⊎ (1 ≤ length (a.events ++ b.events))
      later (inl e) = first (a.moved e)
      later (inr h) = inr (omega (arith, h, joined-length a.events b.events))

  turns-there : (n p : ℕ) (r : Round P) → IsSoundBeside machine Is keeps.beside r.run.system → (t : Round P) × (turns n machine p r ≡ Some t) × IsTurned r t
  turns-there zero p r sound = (r, refl, record { events = []; leads = refl; moved = λ e. inl e })
  turns-there (suc n) p r sound =
      let one = one-turn r p sound in
      let rest = turns-there n (suc p) one.0 (runs-keep-sound machine Is keeps one.2.events r.run one.0.run one.2.leads sound) in
      (rest.0, ap (λ o. elim o [ None ↦ None | Some next ↦ turns n machine (suc p) next ]) one.1 ∙ rest.1, both-turned r one.0 rest.0 one.2 rest.2)

  module _ (most : ℕ) (first : Run P) (bounded : (events : List Event) (r : Run P) → run machine events first ≡ Some r → length events ≤ most) where
    rounds-there : (n : ℕ) (events : List Event) (r : Run P) → run machine events first ≡ Some r → suc most ≤ length events + n → IsSoundBeside machine Is keeps.beside r.system → (t : Run P) × (rounds n machine r ≡ Some t)
    rounds-there zero events r is enough sound = absurd (omega (arith, bounded events r is, enough))
    rounds-there (suc n) events r is enough sound =
        let round = turns-there r.system.book.limits.processes 1 (record { run = r; moved = false }) sound in
        let next = by (λ events u is enough sound. rounds-there n events u is enough sound) round.0 round.2 (round.0.moved) refl in
        (next.0, ap (λ o. elim o [ None ↦ None | Some round ↦ elim (round.moved) [ false ↦ Some round.run | true ↦ rounds n machine round.run ] ]) round.1 ∙ next.1)
      where
        some-made : (t : Round P) (k : IsTurned (record { run = r; moved = false }) t) → t.moved ≡ true → (false ≡ true) ⊎ (1 ≤ length k.events) → 1 ≤ length k.events
        some-made t k e (inl no_more) = absurd (true≢false (sym no_more))
        some-made t k e (inr h) = h

        by : ((events : List Event) (u : Run P) → run machine events first ≡ Some u → suc most ≤ length events + n → IsSoundBeside machine Is keeps.beside u.system → (t : Run P) × (rounds n machine u ≡ Some t))
            → (t : Round P) (k : IsTurned (record { run = r; moved = false }) t) → (b : Bool) → t.moved ≡ b → (u : Run P) × (elim (t.moved) [ false ↦ Some t.run | true ↦ rounds n machine t.run ] ≡ Some u)
        by next t k false e = (t.run, ap (λ b. elim b [ false ↦ Some t.run | true ↦ rounds n machine t.run ]) e)
        by next t k true e =
            let more = some-made t k e (k.moved e) in
            let rest = next (events ++ k.events) t.run (run-joined machine events k.events first r is ∙ k.leads) (omega (arith, enough, more, joined-length events k.events))
            (runs-keep-sound machine Is keeps k.events r t.run k.leads sound) in
            (rest.0, ap (λ b. elim b [ false ↦ Some t.run | true ↦ rounds n machine t.run ]) e ∙ rest.1)

module _ {P : Type 0} (machine : Machine Name P) (Is : P → Type 0) (keeps : KeepsSound machine Is) (begins : BeginsSound machine keeps.first_type) (counts : KeepsLimits machine) where
  pub events-are-bounded : EventsAreBounded machine
  events-are-bounded limits argument events r e = events-bounded machine keeps.numbers counts limits argument begins.main.0 events r begins.main.1 e

  pub rounds-suffice : GoesOn machine Is → RoundsSuffice machine
  rounds-suffice goes limits argument texts some =
      let from = start machine limits argument in
      let t = rounds-there machine Is keeps goes (most_events limits) from (λ events r e. events-are-bounded limits argument events r e) (suc (most_events limits)) [] from refl (omega arith) (opening-is-sound machine Is keeps begins limits argument texts) in
      (t.0, t.1, rounds-final machine keeps.numbers (suc (most_events limits)) limits argument begins.main.0 t.0 begins.main.1 some t.1)
