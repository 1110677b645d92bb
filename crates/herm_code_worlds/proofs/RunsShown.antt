-- A world of code without names shows a run of the image, from its opening to its report.
use Rattle.std.proofs.Common.{◌≡◌, ◌++◌, ℕ, suc, List, [], ◌∷◌, Bool, true, false, cond, ◌||◌, Option, Some, None, option_map, option_and_then, refl, sym, ap, subst, ◌∙◌}
use Rattle.std.specs.Prelude.{⊤}
use Rattle.herm_model.specs.Lists.{any_pass, list_of}
use Rattle.herm_model.specs.TypedPrograms.{main_start}
use Rattle.herm_model.specs.Values.{Name}
use Rattle.herm_model.proofs.Options.{some-injective, none-not_some, map-some}
use Rattle.herm_journal.specs.Entries.{Text}
use Rattle.herm_journal.specs.Journals.{ordered}
use Rattle.herm_journal.specs.NextNumbers.{Limits}
use Rattle.herm_system.specs.Machines.{Machine, Standing, is_local, is_acting}
use Rattle.herm_system.specs.Reports.{DescribesRun}
use Rattle.herm_system.specs.Rounds.{turn, first_place, place_or_book}
use Rattle.herm_system.specs.Systems.{System, Event, steps, acts, Run, start, stands, can_step}
use Rattle.herm_runs.proofs.Events.{IsRunBetween, both-runs, one-run, run-joined, rounds-run}
use Rattle.herm_sound.specs.laws.SoundLaws.{most_events}
use Rattle.herm_instructions.specs.Images.{Image}
use Rattle.herm_code_machine.specs.CodeRenaming.{forget_code}
use Rattle.herm_code_machine.specs.CodeStates.{CodeState}
use Rattle.herm_code_machine.specs.CodeTypes.{first_type}
use Rattle.herm_code_machine.specs.laws.GoodImageLaws.{IsGoodOver}
use Rattle.herm_waking.specs.KeptRounds.{Worked, made_turn, kept_rounds}
use Rattle.herm_waking.specs.Numbers.{has}
use Rattle.herm_waking.specs.Unnamed.{unnamed, bare_can_step}
use Rattle.herm_waking.specs.UnnamedRounds.{BareWorked, unnamed_worked, made_bare_turn, bare_rounds}
use Rattle.herm_waking.specs.laws.RoundLaws.{process_of, GoesAlong, at_end, passed, made, IsWorked}
use Rattle.herm_waking.proofs.KeptReady.{has-able}
use Rattle.herm_waking.proofs.RoundsKept.{no-turn, some-turn}
use Rattle.herm_code_worlds.specs.BareReports.{bare_report}
use Rattle.herm_code_worlds.specs.CodeWorlds.{FindsItsOperands, its_ready, named, nameless, IsWithin, on_stack, Shows}
use Rattle.herm_code_worlds.specs.laws.BareLaws.{MakesEvent, MakesStep, LeadsToEnd, LeadsAlong, TellsOfActions, ShowsRuns}
use Rattle.herm_code_worlds.specs.laws.CodeLaws.{WorksWithoutNames, GoesRounds}
use Rattle.herm_code_worlds.proofs.ImageWorlds.{works-without-names, goes-rounds, runs-from-start}
use Rattle.herm_code_worlds.proofs.PlacesForgotten.{tells-of-actions}
use Rattle.herm_code_worlds.proofs.ReportsBare.{reports-bare}

-- a run along a schedule is a run
along-run : {P : Type 0} (machine : Machine Name P) (ps : List ℕ) (r t : Run P) → GoesAlong machine ps r t → IsRunBetween machine r t
along-run machine [] r t (at_end r') = ([], refl)
along-run machine (p ∷ ps) r t (passed p' ps' r' t' still rest) = along-run machine ps r t rest
along-run machine (p ∷ ps) r t (made p' ps' e r' u t' own does rest) = both-runs machine r u t (one-run machine e r u does) (along-run machine ps u t rest)

-- the turn of a process is an event of its own
turn-own : {P : Type 0} (machine : Machine Name P) (s : System P) (p : ℕ) (e : Event) → turn machine s p ≡ Some e → process_of e ≡ p
turn-own machine s p e is = by (stands is_local machine s p) (stands is_acting machine s p) is
  where
    by : (a b : Bool) → cond a (Some (steps p)) (cond b (Some (acts p (place_or_book (first_place machine s p)))) None) ≡ Some e → process_of e ≡ p
    by true b is = ap process_of (sym (some-injective is))
    by false true is = ap process_of (sym (some-injective is))
    by false false is = none-not_some is

module _ (image : Image) (main : ℕ) (names-off : WorksWithoutNames (its_ready image main)) (goes : GoesRounds image main) (limits : Limits) (argument : Text) (events : List Event) where
  -- without names
  abbrev bare : Worked (CodeState Name) → BareWorked (CodeState ⊤)
  bare w = unnamed_worked forget_code w

  abbrev Shown : List Event → Worked (CodeState Name) → BareWorked (CodeState ⊤) → Type 0
  Shown es w b = Shows image main limits argument es w b

  can-bare : (s : System (CodeState Name)) (p : ℕ) → bare_can_step (nameless image main) (unnamed forget_code s) p ≡ can_step (named image main) s p
  can-bare s p = ap (λ (o : Option Standing). any_pass is_local (list_of (λ x. x ∷ []) o) || any_pass is_acting (list_of (λ x. x ∷ []) o)) (names-off.standings s p)

  -- who is kept can step
  kept-can : (w : Worked (CodeState Name)) → IsWorked (named image main) (IsWithin image main) (on_stack image main) w → (p : ℕ) → has p w.kept.ready ≡ can_step (named image main) w.run.system p
  kept-can w good p = ap (has p) good.kept.ready ∙ has-able (named image main) w.run.system p

  behind-run : (w t : Worked (CodeState Name)) → Shown events w (bare w) → IsWorked (named image main) (IsWithin image main) (on_stack image main) t
      → (further : IsRunBetween (named image main) w.run t.run) → Shown (events ++ further.0) t (bare t)
  behind-run w t shows good further = record { comes = run-joined (named image main) events further.0 (start (named image main) limits argument) w.run shows.comes ∙ further.1; worked = good; seen = refl }

  makes-event : (w : Worked (CodeState Name)) (p : ℕ) → Shown events w (bare w) → can_step (named image main) w.run.system p ≡ true → MakesEvent image main limits argument events w (bare w) p
  makes-event w p shows can =
      let e = some-turn (named image main) w.run.system p can in
      let t = goes.steps p w shows.worked in
      let does = sym (ap (λ o. made_turn (named image main) o w) e.1) ∙ t.1 in
      let behind = goes.worked e.0 w t.0 shows.worked does in record {
        event = e.0;
        its_own = turn-own (named image main) w.run.system p e.0 e.1;
        next = names-off.turns w.run.system p ∙ e.1;
        run = t.0;
        goes_on = behind.1;
        world = bare t.0;
        stepped = names-off.stepped p w ∙ ap (option_map bare) t.1;
        shows = behind-run w t.0 shows behind.0 (e.0 ∷ [], ap (option_and_then (λ x. Some x)) behind.1);
      }

  makes-step : (w : Worked (CodeState Name)) (p : ℕ) → Shown events w (bare w) → MakesStep image main limits argument events w (bare w) p
  makes-step w p shows = record {
    kept = kept-can w shows.worked p ∙ sym (can-bare w.run.system p);
    steps = λ has. makes-event w p shows (sym (kept-can w shows.worked p) ∙ has);
    stays = λ has. ap (λ o. made_bare_turn (nameless image main) o (bare w)) (names-off.turns w.run.system p ∙ no-turn (named image main) w.run.system p (sym (kept-can w shows.worked p) ∙ has));
  }

  leads-along : (w : Worked (CodeState Name)) (ps : List ℕ) → Shown events w (bare w) → LeadsAlong image main limits argument events w (bare w) ps
  leads-along w ps shows =
      let t = goes.there ps w shows.worked in
      let along = goes.along ps w t.0 shows.worked t.1 in
      let further = along-run (named image main) ps w.run t.0.run along.0 in record {
        further = further.0;
        run = t.0;
        along = along.0;
        world = bare t.0;
        scheduled_to = names-off.schedules ps w ∙ ap (option_map bare) t.1;
        shows = behind-run w t.0 shows along.1 further;
      }

  leads-to-end : (w : Worked (CodeState Name)) (c : BareWorked (CodeState ⊤)) (most : ℕ) → Shown events w (bare w) → bare_rounds most (nameless image main) (bare w) ≡ Some c → LeadsToEnd image main limits argument events w most c
  leads-to-end w c most shows is =
      let t = map-some bare (kept_rounds most (named image main) w) c (sym (names-off.rounds most w) ∙ is) in
      let end_ = goes.end_ most w t.0 shows.worked t.1 in
      let same = sym (goes.rounds most w shows.worked) ∙ ap (option_map (λ (w : Worked (CodeState Name)). w.run)) t.1 in
      let further = rounds-run most (named image main) w.run t.0.run same in
      subst (LeadsToEnd image main limits argument events w most) t.2
      (record {
        further = further.0;
        run = t.0;
        rounds_to = same;
        shows = behind-run w t.0 shows end_.0 further;
        nobody = end_.1;
        final = end_.2;
      })

pub shows-runs : (exceptions : ℕ) (image : Image) (main : ℕ) → IsGoodOver exceptions image → first_type (its_ready image main) main ≡ Some main_start → ShowsRuns image main
shows-runs exceptions image main good starts =
    let names-off = works-without-names (its_ready image main) in
    let goes = goes-rounds exceptions image main good in
    let runs = runs-from-start exceptions image main good starts in record {
      opens = λ limits argument texts one. record { comes = refl; worked = runs.worked limits argument texts one; seen = sym (names-off.begins limits argument) };
      steps = λ limits argument events w b shows p. by limits argument events w b (λ b. MakesStep image main limits argument events w b p) shows (λ shows. makes-step image main names-off goes limits argument events w p shows);
      told = λ limits argument events w b shows. by limits argument events w b (TellsOfActions image main w) shows (λ shows. tells-of-actions image main names-off goes limits argument events w shows);
      schedules = λ limits argument events w b shows ps. by limits argument events w b (λ b. LeadsAlong image main limits argument events w b ps) shows (λ shows. leads-along image main names-off goes limits argument events w ps shows);
      rounds_end = λ limits argument events w b c most shows. by limits argument events w b (λ b. bare_rounds most (nameless image main) b ≡ Some c → LeadsToEnd image main limits argument events w most c) shows (λ shows is. leads-to-end image main names-off goes limits argument events w c most shows is);
      rounds_suffice = λ limits argument events w b shows. by limits argument events w b (λ b. (c : BareWorked (CodeState ⊤)) × (bare_rounds (suc (most_events limits)) (nameless image main) b ≡ Some c)) shows
          (λ shows. let t = runs.suffice limits argument events w shows.worked shows.comes in (unnamed_worked forget_code t.0, names-off.rounds (suc (most_events limits)) w ∙ ap (option_map (unnamed_worked forget_code)) t.1));
      report = λ limits argument events w b names asked texts shows.
          by limits argument events w b (λ b. b.kept.ready ≡ [] → DescribesRun (named image main) (IsWithin image main) (FindsItsOperands (its_ready image main)) limits argument names asked (bare_report names asked (nameless image main) b.system (ordered w.run.journal))) shows
          (λ shows none. subst (DescribesRun (named image main) (IsWithin image main) (FindsItsOperands (its_ready image main)) limits argument names asked) (sym (reports-bare (its_ready image main) names asked w.run))
          (runs.report limits argument events w names asked texts shows.comes shows.worked none));
    }
  where
    -- it is so of what a world shows where it is so of the state without names
    by : (limits : Limits) (argument : Text) (events : List Event) (w : Worked (CodeState Name)) (b : BareWorked (CodeState ⊤)) (Is : BareWorked (CodeState ⊤) → Type 0) → Shows image main limits argument events w b
        → (Shows image main limits argument events w (unnamed_worked forget_code w) → Is (unnamed_worked forget_code w)) → Is b
    by limits argument events w b Is shows is = subst Is shows.seen (is (record { comes = shows.comes; worked = shows.worked; seen = refl }))
