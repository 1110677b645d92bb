-- Turns, rounds and schedules, one by one, over the runs that a world shows.
use Rattle.std.proofs.Common.{◌≡◌, ◌≤◌, ◌+◌, ◌-◌, ◌*◌, ℕ, zero, suc, max, List, [], ◌∷◌, ◌++◌, Some, None, option_map, refl, sym, ap, subst, ◌∙◌, arith}
use Rattle.std.specs.Prelude.{⊤}
use Rattle.std.proofs.Math.Nat.{mul-le-mul_right}
use Rattle.herm_model.specs.Values.{Name}
use Rattle.herm_model.proofs.Options.{none-not_some}
use Rattle.herm_journal.specs.Entries.{Text}
use Rattle.herm_journal.specs.NextNumbers.{Limits}
use Rattle.herm_sound.specs.laws.SoundLaws.{most_events}
use Rattle.herm_system.specs.Systems.{Event}
use Rattle.herm_code_machine.specs.CodeRenaming.{forget_code}
use Rattle.herm_code_machine.specs.CodeStates.{CodeState}
use Rattle.herm_code_worlds.specs.CodeWorlds.{named, nameless}
use Rattle.herm_code_worlds.specs.laws.WorldOfCode.{WorksAsWorld}
use Rattle.herm_waking.specs.KeptRounds.{Worked, stepped, kept_turns, kept_rounds}
use Rattle.herm_waking.specs.Numbers.{next_from}
use Rattle.herm_waking.specs.UnnamedRounds.{BareWorked, bare_rounds, bare_scheduled, unnamed_worked}
use Rattle.herm_world.specs.Going.{GoesOn, IsStepped, IsAlong, IsARound, AreRounds, HasTurnsLeft, IsBehindRounds}
use Rattle.herm_world.specs.Worlds.{WorldState, IsWorld, LeadsAlong, LeadsToEnd, ShowsRun, IsOfSame}
use Rattle.herm_world.proofs.GoingOn.{goes-then, goes-so, goes-nowhere, its-limits, next-made, ready-shown}
use Rattle.herm_world.proofs.RunsOn.{turns-over, turns-next, rounds-over, rounds-next, rounds-more, scheduled-next}

-- a schedule
pub along-first : (world : WorldState) → GoesOn (IsAlong []) world world
along-first world = goes-nowhere (IsAlong []) world (λ limits argument events w b shows. refl)

pub along-next : (ps : List ℕ) (p : ℕ) (old mid new : WorldState) → IsOfSame old mid → GoesOn (IsAlong ps) old mid → GoesOn (IsStepped p) mid new → GoesOn (IsAlong (ps ++ p ∷ [])) old new
along-next ps p old mid new same first second =
    goes-then (IsAlong ps) (IsStepped p) (IsAlong (ps ++ p ∷ [])) old mid new same first second (λ limits argument events later w t u b c shows then_shows is does. scheduled-next (named old.image old.main) ps p w t u is does)

-- the turns of a round
pub turns-first : (world : WorldState) → GoesOn (HasTurnsLeft 1) world world
turns-first world = goes-nowhere (HasTurnsLeft 1) world (λ limits argument events w b shows. record { rest = w.run.system.book.limits.processes; enough = omega arith; same = refl })

module _ (old mid : WorldState) where
  -- limits are those of the run
  same-limits : (limits : Limits) (argument : Text) (events later : List Event) (w t : Worked (CodeState Name)) (b c : BareWorked (CodeState ⊤)) → ShowsRun limits argument events w b old → ShowsRun limits argument later t c mid
      → t.run.system.book.limits.processes ≡ w.run.system.book.limits.processes
  same-limits limits argument events later w t b c shows then_shows =
      ap (λ (l : Limits). l.processes) (its-limits mid limits argument later t c then_shows ∙ sym (its-limits old limits argument events w b shows))

  pub turns-step : (new : WorldState) (from q next : ℕ) → IsOfSame old mid → GoesOn (HasTurnsLeft from) old mid → next_from from mid.ready.members ≡ Some q → GoesOn (IsStepped q) mid new → next ≡ suc q
      → GoesOn (HasTurnsLeft next) old new
  turns-step new from q next same first is second at =
      subst (λ next. GoesOn (HasTurnsLeft next) old new) (sym at)
      (goes-then (HasTurnsLeft from) (IsStepped q) (HasTurnsLeft (suc q)) old mid new same first second
      (λ limits argument events later w t u b c shows then_shows left does.
      let made = next-made mid limits argument later t c then_shows from q is in
      let few : q ≤ w.run.system.book.limits.processes = subst (λ n. q ≤ n) (same-limits limits argument events later w t b c shows then_shows) made.2 in
      by w t u left.rest left.enough left.same made.0 few made.3 does))
    where
      by : (w t u : Worked (CodeState Name)) (rest : ℕ) → suc w.run.system.book.limits.processes ≤ from + rest
          → kept_turns w.run.system.book.limits.processes (named old.image old.main) 1 w ≡ kept_turns rest (named old.image old.main) from t → from ≤ q → q ≤ w.run.system.book.limits.processes
          → next_from from t.kept.ready ≡ Some q → stepped (named old.image old.main) q t ≡ Some u → HasTurnsLeft (suc q) (named old.image old.main) w u
      by w t u zero enough kept low few found does = absurd (omega (arith, enough, low, few))
      by w t u (suc rest) enough kept low few found does = record { rest = rest; enough = omega (arith, enough, low); same = kept ∙ turns-next (named old.image old.main) rest from q t u found does }

  pub turns-end : (from : ℕ) → next_from from mid.ready.members ≡ None → GoesOn (HasTurnsLeft from) old mid → GoesOn IsARound old mid
  turns-end from none goes =
      goes-so (HasTurnsLeft from) IsARound old mid goes
      (λ limits argument events later w t b c shows then_shows left.
      left.same ∙ turns-over (named old.image old.main) left.rest from t (sym (ap (next_from from) (ready-shown mid limits argument later t c then_shows)) ∙ none))

-- rounds
pub rounds-first : (world : WorldState) → GoesOn (IsBehindRounds 0) world world
rounds-first world = goes-nowhere (IsBehindRounds 0) world (λ limits argument events w b shows more. ap (λ n. kept_rounds n (named world.image world.main) w) (omega arith))

module _ (old mid : WorldState) where
  pub rounds-step : (new : WorldState) (count next : ℕ) → IsOfSame old mid → GoesOn (IsBehindRounds count) old mid → (mid.ready.members ≡ [] → ⊥) → GoesOn IsARound mid new → next ≡ suc count
      → GoesOn (IsBehindRounds next) old new
  rounds-step new count next same first some second at =
      goes-then (IsBehindRounds count) IsARound (IsBehindRounds next) old mid new same first second
      (λ limits argument events later w t u b c shows then_shows behind does more.
      ap (λ n. kept_rounds n (named old.image old.main) w) (let e : next + more ≡ count + suc more = omega (arith, at) in e)
      ∙ behind (suc more)
      ∙ rounds-next (named old.image old.main) more t u (λ none. some (ready-shown mid limits argument later t c then_shows ∙ none)) does)

  pub rounds-done : (count : ℕ) → mid.ready.members ≡ [] → GoesOn (IsBehindRounds count) old mid → GoesOn AreRounds old mid
  rounds-done count none goes =
      goes-so (IsBehindRounds count) AreRounds old mid goes
      (λ limits argument events later w t b c shows then_shows behind.
      (count + 1, behind 1 ∙ rounds-over (named old.image old.main) 0 t (sym (ready-shown mid limits argument later t c then_shows) ∙ none)))

  -- there are never so many rounds
  pub rounds-enough : IsWorld old → (count : ℕ) → 1024 * 1016384 + 1 ≤ count → GoesOn (IsBehindRounds count) old mid → ⊥
  rounds-enough is count many goes =
      let g = goes is.limits is.argument is.events is.run is.bare is.shows in
      let t = is.works.runs.suffice is.limits is.argument is.events is.run is.shows.shows.worked is.shows.shows.comes in
      let most : most_events is.limits ≤ 1024 * 1016384 =
      let one : max 1 is.limits.processes * (is.limits.steps + 16384) ≤ 1024 * (is.limits.steps + 16384) = mul-le-mul_right (is.limits.steps + 16384) (let e : max 1 is.limits.processes ≤ 1024 = omega (arith, is.few) in e) in
      omega (arith, one, is.short) in
      let long : suc (most_events is.limits) + (count - suc (most_events is.limits)) ≡ count + 0 = omega (arith, most, many) in
      none-not_some
      (sym (g.is_so 0) ∙ ap (λ n. kept_rounds n (named old.image old.main) is.run) (sym long) ∙ rounds-more (named old.image old.main) (suc (most_events is.limits)) (count - suc (most_events is.limits)) is.run t.0 t.1)

-- what is said of the calls
module _ (old new : WorldState) (works : WorksAsWorld old.image old.main) (limits : Limits) (argument : Text) (events : List Event) (w : Worked (CodeState Name)) (b : BareWorked (CodeState ⊤))
    (shows : ShowsRun limits argument events w b old) where
  pub led-along : (ps : List ℕ) → GoesOn (IsAlong ps) old new → LeadsAlong ps limits argument events w b old new
  led-along ps goes =
      let g = goes limits argument events w b shows in record {
        further = g.further;
        run = g.run;
        bare = g.bare;
        goes = (works.rounds.along ps w g.run shows.shows.worked g.is_so).0;
        along =
            ap (bare_scheduled ps (nameless old.image old.main)) (sym shows.shows.seen)
            ∙ works.without_names.schedules ps w
            ∙ ap (option_map (unnamed_worked forget_code)) g.is_so
            ∙ ap (λ (c : BareWorked (CodeState ⊤)). Some c) g.shows.shows.seen;
        shows = g.shows;
      }

  pub led-to-end : GoesOn AreRounds old new → LeadsToEnd limits argument events w b old new
  led-to-end goes =
      let g = goes limits argument events w b shows in
      let most = g.is_so.0 in
      let end_ = works.rounds.end_ most w g.run shows.shows.worked g.is_so.1 in record {
        further = g.further;
        run = g.run;
        bare = g.bare;
        most = most;
        goes = sym (works.rounds.rounds most w shows.shows.worked) ∙ ap (option_map (λ (w : Worked (CodeState Name)). w.run)) g.is_so.1;
        final = end_.2;
        rounds_to =
            ap (bare_rounds most (nameless old.image old.main)) (sym shows.shows.seen)
            ∙ works.without_names.rounds most w
            ∙ ap (option_map (unnamed_worked forget_code)) g.is_so.1
            ∙ ap (λ (c : BareWorked (CodeState ⊤)). Some c) g.shows.shows.seen;
        shows = g.shows;
        nobody = ready-shown new limits argument (events ++ g.further) g.run g.bare g.shows ∙ end_.1;
      }
