-- Rounds and schedules of worlds without names are those of the language, without names.
use Rattle.std.proofs.Common.{◌≡◌, ℕ, zero, suc, [], ◌∷◌, Bool, true, false, Option, Some, None, option_map, refl, ap, ◌∙◌, map}
use Rattle.std.specs.Prelude.{⊤}
use Rattle.herm_model.specs.Values.{Name}
use Rattle.herm_system.specs.Machines.{Machine}
use Rattle.herm_model.specs.Lists.{list_of}
use Rattle.herm_system.specs.Systems.{System, Moved, Event, step, with_entry, opening, main_port}
use Rattle.herm_system.specs.Rounds.{turn}
use Rattle.herm_runs.specs.laws.ProcessLaws.{ForgetsNames}
use Rattle.herm_waking.specs.KeptRounds.{Worked, worked_on, made_turn, stepped, kept_turns, is_some_kept, kept_rounds, scheduled}
use Rattle.herm_waking.specs.Numbers.{next_from}
use Rattle.herm_waking.specs.Unnamed.{unnamed, BareMoved, bare_kept}
use Rattle.herm_waking.specs.UnnamedRounds.{BareWorked, bare_opening, bare_first_kept, unnamed_worked, bare_worked_on, made_bare_turn, bare_stepped, bare_turns, bare_rounds, bare_scheduled}
use Rattle.herm_waking.specs.Waking.{kept_behind}
use Rattle.herm_waking.specs.laws.UnnamedLaws.{bare_moved, WorkForgetsNames, RoundsForgetNames, SchedulesForgetNames, OpeningsForgetNames}
use Rattle.herm_waking.proofs.NamesForgotten.{turns-forget, steps-forget, kept-forgets, looked-forgets}

module _ {P Q : Type 0} (machine : Machine Name P) (nameless : Machine ⊤ Q) (without : P → Q) (forgets : ForgetsNames machine nameless without) where
  abbrev bare : Worked P → BareWorked Q
  bare w = unnamed_worked without w

  on-same : (e : Event) (w : Worked P) → bare_worked_on nameless e (bare w) ≡ option_map bare (worked_on machine e w)
  on-same e w =
      ap (option_map (λ (m : BareMoved Q). record { system = m.system; kept = bare_kept nameless m.system e m.done w.kept })) (steps-forget machine nameless without forgets e w.run.system)
      ∙ by (step machine e w.run.system)
    where
      by : (o : Option (Moved P)) → option_map (λ (m : BareMoved Q). record { system = m.system; kept = bare_kept nameless m.system e m.done w.kept }) (option_map (bare_moved without) o)
          ≡ option_map bare (option_map (λ (m : Moved P). record { run = record { system = m.system; journal = with_entry w.run.journal e m.done }; kept = kept_behind machine m.system e m.done w.kept }) o)
      by None = refl
      by (Some m) = ap (λ k. Some (record { system = unnamed without m.system; kept = k })) (kept-forgets machine nameless without forgets e m.system m.done w.kept)

  pub work-forgets : WorkForgetsNames machine nameless without
  work-forgets p w = ap (λ o. made_bare_turn nameless o (bare w)) (turns-forget machine nameless without forgets w.run.system p) ∙ by (turn machine w.run.system p)
    where
      by : (o : Option Event) → made_bare_turn nameless o (bare w) ≡ option_map bare (made_turn machine o w)
      by None = refl
      by (Some e) = on-same e w

  turns-same : (n p : ℕ) (w : Worked P) → bare_turns n nameless p (bare w) ≡ option_map bare (kept_turns n machine p w)
  turns-same zero p w = refl
  turns-same (suc n) p w = by (next_from p w.kept.ready) (λ q u. turns-same n q u)
    where
      goes : (q : ℕ) (o : Option (Worked P)) → ((u : Worked P) → bare_turns n nameless q (bare u) ≡ option_map bare (kept_turns n machine q u))
          → elim (option_map bare o) [ None ↦ None | Some next ↦ bare_turns n nameless q next ] ≡ option_map bare (elim o [ None ↦ None | Some next ↦ kept_turns n machine q next ])
      goes q None again = refl
      goes q (Some u) again = again u

      by : (o : Option ℕ) → ((q : ℕ) (u : Worked P) → bare_turns n nameless q (bare u) ≡ option_map bare (kept_turns n machine q u))
          → elim o [ None ↦ Some (bare w) | Some q ↦ elim (bare_stepped nameless q (bare w)) [ None ↦ None | Some next ↦ bare_turns n nameless (suc q) next ] ]
          ≡ option_map bare (elim o [ None ↦ Some w | Some q ↦ elim (stepped machine q w) [ None ↦ None | Some next ↦ kept_turns n machine (suc q) next ] ])
      by None again = refl
      by (Some q) again = ap (λ o. elim o [ None ↦ None | Some next ↦ bare_turns n nameless (suc q) next ]) (work-forgets q w) ∙ goes (suc q) (stepped machine q w) (again (suc q))

  pub rounds-forget : RoundsForgetNames machine nameless without
  rounds-forget zero w = refl
  rounds-forget (suc n) w = by (is_some_kept w.kept.ready) (λ u. rounds-forget n u)
    where
      limit : ℕ
      limit = w.run.system.book.limits.processes

      goes : (o : Option (Worked P)) → ((u : Worked P) → bare_rounds n nameless (bare u) ≡ option_map bare (kept_rounds n machine u))
          → elim (option_map bare o) [ None ↦ None | Some next ↦ bare_rounds n nameless next ] ≡ option_map bare (elim o [ None ↦ None | Some next ↦ kept_rounds n machine next ])
      goes None again = refl
      goes (Some u) again = again u

      by : (b : Bool) → ((u : Worked P) → bare_rounds n nameless (bare u) ≡ option_map bare (kept_rounds n machine u))
          → elim b [ false ↦ Some (bare w) | true ↦ elim (bare_turns limit nameless 1 (bare w)) [ None ↦ None | Some next ↦ bare_rounds n nameless next ] ]
          ≡ option_map bare (elim b [ false ↦ Some w | true ↦ elim (kept_turns limit machine 1 w) [ None ↦ None | Some next ↦ kept_rounds n machine next ] ])
      by false again = refl
      by true again = ap (λ o. elim o [ None ↦ None | Some next ↦ bare_rounds n nameless next ]) (turns-same limit 1 w) ∙ goes (kept_turns limit machine 1 w) again

  pub schedules-forget : SchedulesForgetNames machine nameless without
  schedules-forget [] w = refl
  schedules-forget (p ∷ ps) w = ap (λ o. elim o [ None ↦ None | Some next ↦ bare_scheduled ps nameless next ]) (work-forgets p w) ∙ by (stepped machine p w) (λ u. schedules-forget ps u)
    where
      by : (o : Option (Worked P)) → ((u : Worked P) → bare_scheduled ps nameless (bare u) ≡ option_map bare (scheduled ps machine u))
          → elim (option_map bare o) [ None ↦ None | Some next ↦ bare_scheduled ps nameless next ] ≡ option_map bare (elim o [ None ↦ None | Some next ↦ scheduled ps machine next ])
      by None again = refl
      by (Some u) again = again u

  pub openings-forget : OpeningsForgetNames machine nameless without
  openings-forget limits argument =
      ap (λ v. record { system = v; kept = bare_first_kept nameless v }) begins
      ∙ ap (λ k. record { system = unnamed without s; kept = k }) (looked-forgets machine nameless without forgets s (1 ∷ []) (record { ready = []; waiters = None ∷ None ∷ [] }))
    where
      s : System P
      s = opening machine limits argument

      begins : bare_opening nameless machine.main limits argument ≡ unnamed without (opening machine limits argument)
      begins =
          ap (λ o. record (bare_opening nameless machine.main limits argument) { processes = list_of (λ x. x ∷ []) o }) (forgets.begins machine.main 1 main_port)
          ∙ by (machine.begin machine.main 1 main_port)
        where
          by : (o : Option P) → record (bare_opening nameless machine.main limits argument) { processes = list_of (λ x. x ∷ []) (option_map without o) } ≡ record (unnamed without (opening machine limits argument)) { processes = map without (list_of (λ x. x ∷ []) o) }
          by None = refl
          by (Some x) = refl
