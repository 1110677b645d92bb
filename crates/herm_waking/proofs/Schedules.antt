-- Runs along a schedule; and so many rounds suffice.
use Rattle.std.proofs.Common.{◌≡◌, inl, inr, ℕ, zero, suc, ◌+◌, ◌≤◌, List, [], ◌∷◌, ◌++◌, length, Bool, true, false, cond, find, ◌||◌, Option, Some, None, is_some, option_map, option_and_then, refl, sym, ap, subst, ◌∙◌, arith, true≢false}
use Rattle.herm_model.specs.Lists.{IsIn}
use Rattle.herm_model.specs.Values.{Name}
use Rattle.herm_model.proofs.Lists.{found-in}
use Rattle.herm_model.proofs.Options.{some-injective, none-not_some, map-some}
use Rattle.herm_system.specs.Machines.{Machine, is_local, is_acting}
use Rattle.herm_system.specs.Rounds.{turn, first_place, place_or_book}
use Rattle.herm_system.specs.Systems.{System, Moved, Event, steps, acts, step, Run, run, start, with_entry, places_for, done_in, stands, can_step}
use Rattle.herm_runs.proofs.Events.{run-joined}
use Rattle.herm_runs.proofs.RoundsEnd.{elim-some}
use Rattle.herm_sound.specs.SoundMachines.{KeepsSound, BeginsSound, GoesOn, KeepsLimits}
use Rattle.herm_sound.specs.laws.SoundLaws.{most_events}
use Rattle.herm_sound.proofs.NotStuck.{among-places, steps-there, acts-there, wanted-there}
use Rattle.herm_sound.proofs.RoundsReachEnd.{events-are-bounded}
use Rattle.herm_waking.specs.Numbers.{has, next_from}
use Rattle.herm_waking.specs.Waking.{kept_behind}
use Rattle.herm_waking.proofs.KeptReady.{can_step-there}
use Rattle.herm_journal.proofs.Rising.{same-true}
use Rattle.std.specs.Prelude.{nat_lt}
use Rattle.std.proofs.lemmas.Bool.Decides.{nat_tests}
use Rattle.herm_waking.specs.KeptRounds.{Worked, made_turn, stepped, kept_turns, is_some_kept, kept_rounds, scheduled}
use Rattle.herm_waking.specs.laws.RoundLaws.{process_of, GoesAlong, at_end, passed, made, IsWorked, SchedulesAreGoneAlong, StepsCanBeMade, SchedulesAreThere, KeptRoundsSuffice}
use Rattle.herm_waking.proofs.RoundsKept.{some-turn, stepped-good, turns-good, kept-can}

-- the turn of a process is an event of its own
turn-own : {P : Type 0} (machine : Machine Name P) (s : System P) (p : ℕ) (e : Event) → turn machine s p ≡ Some e → (process_of e ≡ p) × (can_step machine s p ≡ true)
turn-own machine s p e is = by (stands is_local machine s p) (stands is_acting machine s p) is
  where
    by : (a b : Bool) → cond a (Some (steps p)) (cond b (Some (acts p (place_or_book (first_place machine s p)))) None) ≡ Some e → (process_of e ≡ p) × ((a || b) ≡ true)
    by true b is = (ap process_of (sym (some-injective is)), refl)
    by false true is = (ap process_of (sym (some-injective is)), refl)
    by false false is = none-not_some is

turn-none : {P : Type 0} (machine : Machine Name P) (s : System P) (p : ℕ) → turn machine s p ≡ None → can_step machine s p ≡ false
turn-none machine s p is = by (can_step machine s p) refl
  where
    by : (b : Bool) → can_step machine s p ≡ b → b ≡ false
    by false e = refl
    by true e = let x = some-turn machine s p e in none-not_some (sym is ∙ x.1)

-- the first that passes is there where one passes
found-there : {X : Type 0} (test : X → Bool) (xs : List X) (x : X) → IsIn x xs → test x ≡ true → (y : X) × (find test xs ≡ Some y)
found-there test [] x h e = absurd h
found-there {X} test (z ∷ xs) x h e = by (test z) refl h (λ h. found-there test xs x h e)
  where
    rest : IsIn x (z ∷ xs) → test z ≡ false → (IsIn x xs → (y : X) × (find test xs ≡ Some y)) → (y : X) × (find test xs ≡ Some y)
    rest (inl same) f later = absurd (true≢false (sym e ∙ ap test same ∙ f))
    rest (inr h) f later = later h

    by : (b : Bool) → test z ≡ b → IsIn x (z ∷ xs) → (IsIn x xs → (y : X) × (find test xs ≡ Some y)) → (y : X) × (cond b (Some z) (find test xs) ≡ Some y)
    by true f h later = (z, refl)
    by false f h later = rest h f later

module _ {P : Type 0} (machine : Machine Name P) (Is : P → Type 0) (keeps : KeepsSound machine Is) where
  abbrev behind : Worked P → Event → Moved P → Worked P
  behind w e m = record { run = record { system = m.system; journal = with_entry w.run.journal e m.done }; kept = kept_behind machine m.system e m.done w.kept }

  pub gone-along : SchedulesAreGoneAlong machine Is keeps.beside
  gone-along [] w t good e = subst (λ t. GoesAlong machine [] w.run t.run × IsWorked machine Is keeps.beside t) (some-injective e) (at_end w.run, good)
  gone-along (p ∷ ps) w t good e =
      let u = elim-some (stepped machine p w) (scheduled ps machine) t e in
      let rest = gone-along ps u.0 t (stepped-good machine Is keeps p w u.0 good u.1) u.2 in
      (by (turn machine w.run.system p) refl u.0 u.1 rest.0, rest.1)
    where
      by : (o : Option Event) → turn machine w.run.system p ≡ o → (u : Worked P) → made_turn machine o w ≡ Some u → GoesAlong machine ps u.run t.run → GoesAlong machine (p ∷ ps) w.run t.run
      by None is u does rest = passed p ps w.run t.run (turn-none machine w.run.system p is) (subst (λ (u : Worked P). GoesAlong machine ps u.run t.run) (sym (some-injective does)) rest)
      by (Some x) is u does rest =
          let m = map-some (behind w x) (step machine x w.run.system) u does in
          made p ps x w.run u.run t.run (turn-own machine w.run.system p x is).0
          (ap (option_map (λ (m : Moved P). record { system = m.system; journal = with_entry w.run.journal x m.done })) m.1 ∙ ap (λ (w : Worked P). Some w.run) m.2) rest

  module _ (goes : GoesOn machine Is) where
    -- the next event of a process, if it has one, is there
    turn-there : (w : Worked P) → IsWorked machine Is keeps.beside w → (p : ℕ) (e : Event) → turn machine w.run.system p ≡ Some e → (m : Moved P) × (step machine e w.run.system ≡ Some m)
    turn-there w good p e is = by (stands is_local machine s p) (stands is_acting machine s p) refl refl is
      where
        s : System P
        s = w.run.system

        acting : stands is_acting machine s p ≡ true → (m : Moved P) × (step machine (acts p (place_or_book (first_place machine s p))) s ≡ Some m)
        acting stood =
            let w0 = wanted-there machine Is keeps goes s good.sound.0 (good.sound.1.sound) p stood in
            let found = found-there (λ place. is_some (done_in w0.1 s place)) (places_for p w0.1) w0.2 w0.5 w0.6 in
            let first : first_place machine s p ≡ Some found.0 =
            ap (option_and_then (λ x. option_and_then (λ w. find (λ place. is_some (done_in w s place)) (places_for p w)) (machine.wanted x))) w0.3
            ∙ ap (option_and_then (λ w. find (λ place. is_some (done_in w s place)) (places_for p w))) w0.4
            ∙ found.1 in
            let passes = found-in (λ place. is_some (done_in w0.1 s place)) found.0 (places_for p w0.1) found.1 in
            let m = acts-there machine Is keeps goes s good.sound.0 (good.sound.1.sound) p stood w0.0 w0.1 found.0 w0.3 w0.4 (among-places found.0 (places_for p w0.1) passes.0) passes.1 in
            (m.0, ap (λ o. step machine (acts p (place_or_book o)) s) first ∙ m.1)

        by : (a b : Bool) → stands is_local machine s p ≡ a → stands is_acting machine s p ≡ b → cond a (Some (steps p)) (cond b (Some (acts p (place_or_book (first_place machine s p)))) None) ≡ Some e → (m : Moved P) × (step machine e s ≡ Some m)
        by true b a-is b-is is = subst (λ e. (m : Moved P) × (step machine e s ≡ Some m)) (some-injective is) (steps-there machine Is keeps goes s good.sound.0 (good.sound.1.sound) p a-is)
        by false true a-is b-is is = subst (λ e. (m : Moved P) × (step machine e s ≡ Some m)) (some-injective is) (acting b-is)
        by false false a-is b-is is = none-not_some is

    pub steps-made : StepsCanBeMade machine Is keeps.beside
    steps-made p w good = by (turn machine w.run.system p) refl
      where
        by : (o : Option Event) → turn machine w.run.system p ≡ o → (t : Worked P) × (made_turn machine o w ≡ Some t)
        by None is = (w, refl)
        by (Some e) is = let m = turn-there w good p e is in (behind w e m.0, ap (option_map (behind w e)) m.1)

    pub schedules-there : SchedulesAreThere machine Is keeps.beside
    schedules-there [] w good = (w, refl)
    schedules-there (p ∷ ps) w good =
        let u = steps-made p w good in
        let t = schedules-there ps u.0 (stepped-good machine Is keeps p w u.0 good u.1) in
        (t.0, ap (λ o. elim o [ None ↦ None | Some next ↦ scheduled ps machine next ]) u.1 ∙ t.1)

    -- the events of a step, one where the process can step
    step-events : (p : ℕ) (w t : Worked P) → stepped machine p w ≡ Some t → (events : List Event) × (run machine events w.run ≡ Some t.run) × (can_step machine w.run.system p ≡ true → 1 ≤ length events)
    step-events p w t e = by (turn machine w.run.system p) refl e
      where
        by : (o : Option Event) → turn machine w.run.system p ≡ o → made_turn machine o w ≡ Some t → (events : List Event) × (run machine events w.run ≡ Some t.run) × (can_step machine w.run.system p ≡ true → 1 ≤ length events)
        by None is does = ([], ap (λ (w : Worked P). Some w.run) (some-injective does), λ able. absurd (true≢false (sym able ∙ turn-none machine w.run.system p is)))
        by (Some x) is does =
            let m = map-some (behind w x) (step machine x w.run.system) t does in
            (x ∷ [], ap (option_and_then (λ r. Some r)) (ap (option_map (λ (m : Moved P). record { system = m.system; journal = with_entry w.run.journal x m.done })) m.1 ∙ ap (λ (w : Worked P). Some w.run) m.2), λ able. omega arith)

    joined-length : (xs ys : List Event) → length (xs ++ ys) ≡ length xs + length ys
    joined-length [] ys = omega arith
    joined-length (x ∷ xs) ys = omega (arith, joined-length xs ys)

    -- turns are there, and have an event where the first that is kept can step
    turns-there : (f p : ℕ) (w : Worked P) → IsWorked machine Is keeps.beside w
        → (t : Worked P) × (kept_turns f machine p w ≡ Some t) × (events : List Event) × (run machine events w.run ≡ Some t.run) × ((q : ℕ) → next_from p w.kept.ready ≡ Some q → can_step machine w.run.system q ≡ true → 1 ≤ f → 1 ≤ length events)
    turns-there zero p w good = (w, refl, [], refl, λ q e able some. absurd (omega (arith, some)))
    turns-there (suc f) p w good = by (next_from p w.kept.ready) refl (λ q u good. turns-there f q u good)
      where
        by : (o : Option ℕ) → next_from p w.kept.ready ≡ o
            → ((q : ℕ) (u : Worked P) → IsWorked machine Is keeps.beside u → (t : Worked P) × (kept_turns f machine q u ≡ Some t) × (events : List Event) × (run machine events u.run ≡ Some t.run) × ((r : ℕ) → next_from q u.kept.ready ≡ Some r → can_step machine u.run.system r ≡ true → 1 ≤ f → 1 ≤ length events))
            → (t : Worked P) × (kept_turns (suc f) machine p w ≡ Some t) × (events : List Event) × (run machine events w.run ≡ Some t.run) × ((q : ℕ) → next_from p w.kept.ready ≡ Some q → can_step machine w.run.system q ≡ true → 1 ≤ suc f → 1 ≤ length events)
        by None is again = (w, ap (λ o. elim o [ None ↦ Some w | Some q ↦ elim (stepped machine q w) [ None ↦ None | Some next ↦ kept_turns f machine (suc q) next ] ]) is, [], refl, λ q e able some. none-not_some (sym is ∙ e))
        by (Some q) is again =
            let u = steps-made q w good in
            let first = step-events q w u.0 u.1 in
            let rest = again (suc q) u.0 (stepped-good machine Is keeps q w u.0 good u.1) in (
              rest.0,
              ap (λ o. elim o [ None ↦ Some w | Some q ↦ elim (stepped machine q w) [ None ↦ None | Some next ↦ kept_turns f machine (suc q) next ] ]) is ∙ ap (λ o. elim o [ None ↦ None | Some next ↦ kept_turns f machine (suc q) next ]) u.1 ∙ rest.1,
              first.0 ++ rest.2,
              run-joined machine first.0 rest.2 w.run u.0.run first.1 ∙ rest.3,
              λ r e able some. let one = first.2 (ap (can_step machine w.run.system) (some-injective (sym is ∙ e)) ∙ able) in omega (arith, one, joined-length first.0 rest.2),
            )

    first-kept : (ps : List ℕ) → is_some_kept ps ≡ true → ((q : ℕ) → has q ps ≡ true → 1 ≤ q) → (q : ℕ) × (next_from 1 ps ≡ Some q) × (has q ps ≡ true)
    first-kept [] e all = absurd (true≢false (sym e))
    first-kept (q ∷ ps) e all =
        let own : has q (q ∷ ps) ≡ true = ap (λ b. b || has q ps) (same-true q) in
        (q, ap (λ b. cond b (next_from 1 ps) (Some q)) (least (nat_lt q 1) refl (all q own)), own)
      where
        least : (b : Bool) → nat_lt q 1 ≡ b → 1 ≤ q → nat_lt q 1 ≡ false
        least false e one = e
        least true e one = absurd (omega (arith, one, below e))
          where
            below : nat_lt q 1 ≡ true → q ≤ 0
            below e = grind (arith, nat_tests)

    module _ (most : ℕ) (from : Run P) (bounded : (events : List Event) (r : Run P) → run machine events from ≡ Some r → length events ≤ most) where
      rounds-there : (n : ℕ) (events : List Event) (w : Worked P) → IsWorked machine Is keeps.beside w → run machine events from ≡ Some w.run → suc most ≤ length events + n → (t : Worked P) × (kept_rounds n machine w ≡ Some t)
      rounds-there zero events w good is enough = absurd (omega (arith, bounded events w.run is, enough))
      rounds-there (suc n) events w good is enough = by (is_some_kept w.kept.ready) refl (λ more u good is enough. rounds-there n more u good is enough)
        where
          limit : ℕ
          limit = w.run.system.book.limits.processes

          by : (b : Bool) → is_some_kept w.kept.ready ≡ b → ((more : List Event) (u : Worked P) → IsWorked machine Is keeps.beside u → run machine more from ≡ Some u.run → suc most ≤ length more + n → (t : Worked P) × (kept_rounds n machine u ≡ Some t))
              → (t : Worked P) × (kept_rounds (suc n) machine w ≡ Some t)
          by false e again = (w, ap (λ b. elim b [ false ↦ Some w | true ↦ elim (kept_turns limit machine 1 w) [ None ↦ None | Some next ↦ kept_rounds n machine next ] ]) e)
          by true e again =
              let u = turns-there limit 1 w good in
              let q = first-kept w.kept.ready e (λ q h. (can_step-there machine w.run.system q (sym (kept-can machine Is keeps w good q) ∙ h)).0) in
              let able : can_step machine w.run.system q.0 ≡ true = sym (kept-can machine Is keeps w good q.0) ∙ q.2 in
              let there = can_step-there machine w.run.system q.0 able in
              let one = u.4 q.0 q.1 able (omega (arith, there.0, there.1, good.within)) in
              let rest = again (events ++ u.2) u.0 (turns-good machine Is keeps limit 1 w u.0 good u.1) (run-joined machine events u.2 from w.run is ∙ u.3) (omega (arith, enough, one, joined-length events u.2)) in (
                rest.0,
                ap (λ b. elim b [ false ↦ Some w | true ↦ elim (kept_turns limit machine 1 w) [ None ↦ None | Some next ↦ kept_rounds n machine next ] ]) e
                    ∙ ap (λ o. elim o [ None ↦ None | Some next ↦ kept_rounds n machine next ]) u.1
                    ∙ rest.1,
              )

    pub kept-rounds-suffice : BeginsSound machine keeps.first_type → KeepsLimits machine → KeptRoundsSuffice machine Is keeps.beside
    kept-rounds-suffice begins counts limits argument events w good is =
        rounds-there (most_events limits) (start machine limits argument) (λ events r e. events-are-bounded machine Is keeps begins counts limits argument events r e) (suc (most_events limits)) events w good is (omega arith)
