-- A world goes on: by one step, and by one way behind another.
use Rattle.std.proofs.Common.{◌≡◌, ◌≤◌, ℕ, suc, List, [], ◌∷◌, ◌++◌, length, Bool, true, false, Some, inl, inr, refl, sym, ap, subst, ◌∙◌, arith}
use Rattle.std.specs.Prelude.{⊤}
use Rattle.std.proofs.lemmas.List.{append_assoc, append-nil}
use Rattle.herm_model.proofs.Lists.{length-map}
use Rattle.herm_model.specs.Values.{Name}
use Rattle.herm_journal.specs.Entries.{Text}
use Rattle.herm_journal.specs.NextNumbers.{Limits}
use Rattle.herm_system.specs.Machines.{Machine, ended, out_of_steps, out_of_actions, waiting}
use Rattle.herm_system.specs.Systems.{Event, can_step}
use Rattle.herm_code_machine.specs.CodeStates.{CodeState}
use Rattle.herm_code_worlds.specs.CodeWorlds.{named, nameless, Shows}
use Rattle.herm_code_worlds.specs.laws.WorldOfCode.{WorksAsWorld}
use Rattle.herm_waking.specs.KeptRounds.{Worked, stepped, made_turn}
use Rattle.herm_waking.specs.Numbers.{has, next_from}
use Rattle.herm_waking.specs.Unnamed.{bare_standing}
use Rattle.herm_waking.specs.UnnamedRounds.{BareWorked}
use Rattle.herm_waking.proofs.KeptReady.{can_step-there, has-able}
use Rattle.herm_waking.proofs.RoundsKept.{no-turn}
use Rattle.herm_world.specs.Going.{GoesOn, IsStepped}
use Rattle.herm_world.specs.Worlds.{WorldState, AreAlike, IsStanding, IsWorld, Leads, ShowsRun, changes_nothing, IsOfSame}
use Rattle.herm_world.specs.declared.world.WorldStep.{WorldStep}
use Rattle.herm_world.specs.declared.world.WorldStep.TheVariants as results
use Rattle.herm_world.proofs.RunsOn.{next-there, run-limits}
use Rattle.herm_world.proofs.StepsShown.{stepped-named, stands-named}

pub same-again : (world : WorldState) → IsOfSame world world
same-again world = record { image = refl; main = refl }

pub same-twice : (old mid new : WorldState) → IsOfSame old mid → IsOfSame mid new → IsOfSame old new
same-twice old mid new a b = record { image = b.image ∙ a.image; main = b.main ∙ a.main }

-- one way, and then another
pub goes-then : (Is Then Both : Machine Name (CodeState Name) → Worked (CodeState Name) → Worked (CodeState Name) → Type 0) (old mid new : WorldState) → IsOfSame old mid → GoesOn Is old mid → GoesOn Then mid new
    → ((limits : Limits) (argument : Text) (events later : List Event) (w t u : Worked (CodeState Name)) (b c : BareWorked (CodeState ⊤)) → ShowsRun limits argument events w b old → ShowsRun limits argument later t c mid
    → Is (named old.image old.main) w t → Then (named old.image old.main) t u → Both (named old.image old.main) w u) → GoesOn Both old new
goes-then Is Then Both old mid new same first second both = λ limits argument events w b shows.
    let f = first limits argument events w b shows in
    let s = second limits argument (events ++ f.further) f.run f.bare f.shows in
    let more = subst (λ image. Then (named image old.main) f.run s.run) same.image (subst (λ main. Then (named mid.image main) f.run s.run) same.main s.is_so) in record {
      further = f.further ++ s.further;
      run = s.run;
      bare = s.bare;
      is_so = both limits argument events (events ++ f.further) w f.run s.run b f.bare shows f.shows f.is_so more;
      shows = subst (λ es. ShowsRun limits argument es s.run s.bare new) (append_assoc events f.further s.further) s.shows;
    }

-- what is so of a way, by what is shown at its ends
pub goes-so : (Is So : Machine Name (CodeState Name) → Worked (CodeState Name) → Worked (CodeState Name) → Type 0) (old new : WorldState) → GoesOn Is old new
    → ((limits : Limits) (argument : Text) (events later : List Event) (w t : Worked (CodeState Name)) (b c : BareWorked (CodeState ⊤)) → ShowsRun limits argument events w b old → ShowsRun limits argument later t c new
    → Is (named old.image old.main) w t → So (named old.image old.main) w t) → GoesOn So old new
goes-so Is So old new goes so = λ limits argument events w b shows.
    let g = goes limits argument events w b shows in
    record { further = g.further; run = g.run; bare = g.bare; is_so = so limits argument events (events ++ g.further) w g.run b g.bare shows g.shows g.is_so; shows = g.shows }

-- it is so where nothing is done
pub goes-nowhere : (Is : Machine Name (CodeState Name) → Worked (CodeState Name) → Worked (CodeState Name) → Type 0) (world : WorldState)
    → ((limits : Limits) (argument : Text) (events : List Event) (w : Worked (CodeState Name)) (b : BareWorked (CodeState ⊤)) → ShowsRun limits argument events w b world → Is (named world.image world.main) w w) → GoesOn Is world world
goes-nowhere Is world so = λ limits argument events w b shows. record {
  further = [];
  run = w;
  bare = b;
  is_so = so limits argument events w b shows;
  shows = subst (λ es. ShowsRun limits argument es w b world) (sym (append-nil events)) shows;
}

-- what a step gives
module _ (old new : WorldState) (same : IsOfSame old new) (p : ℕ) where
  abbrev pub Stands : WorldStep → Type 0
  Stands r = (limits : Limits) (argument : Text) (events : List Event) (w : Worked (CodeState Name)) (b : BareWorked (CodeState ⊤)) → ShowsRun limits argument events w b old → IsStanding r (bare_standing (nameless old.image old.main) b.system p)

  abbrev pub LeadsOn : WorldStep → Type 0
  LeadsOn r = (limits : Limits) (argument : Text) (events : List Event) (w : Worked (CodeState Name)) (b : BareWorked (CodeState ⊤)) → ShowsRun limits argument events w b old → Leads r limits argument events b p old new

  shown-before : (limits : Limits) (argument : Text) (events : List Event) (w : Worked (CodeState Name)) (b : BareWorked (CodeState ⊤)) → Shows new.image new.main limits argument events w b → Shows old.image old.main limits argument events w b
  shown-before limits argument events w b shows =
      subst (λ image. Shows image old.main limits argument events w b) same.image (subst (λ main. Shows new.image main limits argument events w b) same.main shows)

  module _ (works : WorksAsWorld old.image old.main) where
    still : new ≡ old → ((limits : Limits) (argument : Text) (events : List Event) (w : Worked (CodeState Name)) (b : BareWorked (CodeState ⊤)) → ShowsRun limits argument events w b old → stepped (named old.image old.main) p w ≡ Some w) → GoesOn (IsStepped p) old new
    still stays none = subst (GoesOn (IsStepped p) old) (sym stays) (goes-nowhere (IsStepped p) old none)

    pub step-goes : (r : WorldStep) → (r ≡ results.Memory → ⊥) → Stands r → LeadsOn r → (changes_nothing r ≡ true → new ≡ old) → GoesOn (IsStepped p) old new
    step-goes results.Stepped lives stands leads stays = λ limits argument events w b shows.
        let m = leads limits argument events w b shows in record {
          further = m.event ∷ [];
          run = m.run;
          bare = m.bare;
          is_so = stepped-named old.image old.main works limits argument events w b shows.shows p m.event m.run m.bare m.next m.stepped (shown-before limits argument (events ++ m.event ∷ []) m.run m.bare m.shows.shows);
          shows = m.shows;
        }
    step-goes results.Waiting lives stands leads stays =
        still (stays refl) (λ limits argument events w b shows. stands-named old.image old.main works limits argument events w b shows.shows p (Some waiting) (stands limits argument events w b shows) refl refl)
    step-goes results.Ended lives stands leads stays =
        still (stays refl) (λ limits argument events w b shows. stands-named old.image old.main works limits argument events w b shows.shows p (Some ended) (stands limits argument events w b shows) refl refl)
    step-goes results.Stopped lives stands leads stays =
        still (stays refl) (λ limits argument events w b shows. elim (stands limits argument events w b shows) [
          | inl h ↦ stands-named old.image old.main works limits argument events w b shows.shows p (Some out_of_steps) h refl refl
          | inr h ↦ stands-named old.image old.main works limits argument events w b shows.shows p (Some out_of_actions) h refl refl
        ])
    step-goes results.Memory lives stands leads stays = absurd (lives refl)

  pub step-alive : IsWorld old → (r : WorldStep) → (r ≡ results.Memory → ⊥) → LeadsOn r → (changes_nothing r ≡ true → new ≡ old) → new.is_dead ≡ false
  step-alive is results.Stepped lives leads stays = (leads is.limits is.argument is.events is.run is.bare is.shows).shows.alive
  step-alive is results.Waiting lives leads stays = ap (λ (w : WorldState). w.is_dead) (stays refl) ∙ is.shows.alive
  step-alive is results.Ended lives leads stays = ap (λ (w : WorldState). w.is_dead) (stays refl) ∙ is.shows.alive
  step-alive is results.Stopped lives leads stays = ap (λ (w : WorldState). w.is_dead) (stays refl) ∙ is.shows.alive
  step-alive is results.Memory lives leads stays = absurd (lives refl)

-- what is alike is as long
alike-long : {X Y : Type 0} (R : X → Y → Type 0) (xs : List X) (ys : List Y) → AreAlike R xs ys → length xs ≡ length ys
alike-long R [] [] h = refl
alike-long R [] (y ∷ ys) h = absurd h
alike-long R (x ∷ xs) [] h = absurd h
alike-long R (x ∷ xs) (y ∷ ys) h = ap suc (alike-long R xs ys h.1)

module _ (world : WorldState) (limits : Limits) (argument : Text) (events : List Event) (w : Worked (CodeState Name)) (b : BareWorked (CodeState ⊤)) (shows : ShowsRun limits argument events w b world) where
  as-many : length w.run.system.processes ≡ length world.processes
  as-many = sym (length-map _ w.run.system.processes) ∙ ap (λ (b : BareWorked (CodeState ⊤)). length b.system.processes) shows.shows.seen ∙ sym (alike-long _ world.processes b.system.processes shows.sees.processes)

  -- who was not made makes no step
  pub not-made : (p : ℕ) → ((1 ≤ p) × (p ≤ length world.processes) → ⊥) → stepped (named world.image world.main) p w ≡ Some w
  not-made p away = ap (λ o. made_turn (named world.image world.main) o w) (no-turn (named world.image world.main) w.run.system p (by (can_step (named world.image world.main) w.run.system p) refl))
    where
      by : (t : Bool) → can_step (named world.image world.main) w.run.system p ≡ t → t ≡ false
      by false e = refl
      by true e = let there = can_step-there (named world.image world.main) w.run.system p e in absurd (away (there.0, subst (λ n. p ≤ n) as-many there.1))

  -- who can step was made
  pub next-made : (from q : ℕ) → next_from from world.ready.members ≡ Some q → (from ≤ q) × (q ≤ length world.processes) × (q ≤ w.run.system.book.limits.processes) × (next_from from w.kept.ready ≡ Some q)
  next-made from q is =
      let ready : world.ready.members ≡ w.kept.ready = shows.sees.ready_is ∙ sym (ap (λ (b : BareWorked (CodeState ⊤)). b.kept.ready) shows.shows.seen) in
      let next : next_from from w.kept.ready ≡ Some q = sym (ap (next_from from) ready) ∙ is in
      let at = next-there from w.kept.ready q next in
      let can : can_step (named world.image world.main) w.run.system q ≡ true = sym (has-able (named world.image world.main) w.run.system q) ∙ sym (ap (has q) shows.shows.worked.kept.ready) ∙ at.1 in
      let there = can_step-there (named world.image world.main) w.run.system q can in
      (at.0, subst (λ n. q ≤ n) as-many there.1, omega (arith, there.1, shows.shows.worked.within), next)

  pub ready-shown : world.ready.members ≡ w.kept.ready
  ready-shown = shows.sees.ready_is ∙ sym (ap (λ (b : BareWorked (CodeState ⊤)). b.kept.ready) shows.shows.seen)

  pub its-limits : w.run.system.book.limits ≡ limits
  its-limits = run-limits (named world.image world.main) events _ w.run shows.shows.comes

-- the number of who can step is a small one
pub next-few : (world : WorldState) → IsWorld world → (from q : ℕ) → next_from from world.ready.members ≡ Some q → q ≤ 1024
next-few world is from q next =
    let made = next-made world is.limits is.argument is.events is.run is.bare is.shows from q next in
    let limits = ap (λ (l : Limits). l.processes) (its-limits world is.limits is.argument is.events is.run is.bare is.shows) in
    omega (arith, made.2, limits, is.few)
