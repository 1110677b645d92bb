-- How the process of a number stands in the runs that a world shows, by what it does at its turn.
use Rattle.std.proofs.Common.{◌≡◌, ◌≤◌, inl, inr, ℕ, zero, suc, List, [], ◌∷◌, length, Bool, true, false, ◌||◌, Option, Some, refl, sym, ap, ◌∙◌, arith, true≢false}
use Rattle.std.specs.Prelude.{slice_get, ⊤}
use Rattle.herm_model.specs.Values.{Name}
use Rattle.herm_journal.specs.Entries.{Text}
use Rattle.herm_journal.specs.NextNumbers.{Limits}
use Rattle.herm_system.specs.Machines.{Standing, is_local, is_acting}
use Rattle.herm_system.specs.Systems.{Event, numbered_from_one}
use Rattle.herm_code.specs.View.{CodeImage, image_view}
use Rattle.herm_code_machine.specs.CodeStates.{CodeState}
use Rattle.herm_code_worlds.specs.CodeWorlds.{nameless}
use Rattle.herm_code_worlds.specs.laws.WorldOfCode.{WorksAsWorld}
use Rattle.herm_waking.specs.KeptRounds.{Worked}
use Rattle.herm_waking.specs.Unnamed.{bare_standing}
use Rattle.herm_waking.specs.UnnamedRounds.{BareWorked, bare_stepped}
use Rattle.herm_process.specs.Processes.{ProcessState}
use Rattle.herm_world.specs.Places.{places_of}
use Rattle.herm_world.specs.Steps.{AreAlive, IsOf}
use Rattle.herm_world.specs.Turns.{TurnsAs}
use Rattle.herm_world.specs.Worlds.{ShowsRun, IsWorld, IsStanding, changes_nothing}
use Rattle.herm_world.specs.declared.parts.Parts.{Parts}
use Rattle.herm_world.specs.declared.turns.Turn.{Turn}
use Rattle.herm_world.specs.declared.turns.Turn.TheVariants as turns
use Rattle.herm_world.specs.declared.world.WorldStep.{WorldStep}
use Rattle.herm_world.specs.declared.world.WorldStep.TheVariants as results
use Rattle.herm_world.proofs.Led.{stays}
use Rattle.herm_world.proofs.ShownFacts.{alike-alive, limits-are, processes-few}
use Rattle.herm_world.proofs.TurnsSeen.{IsStandingAs, its-standing, can-as}
use Rattle.herm_world.proofs.WorldLeads.{world_at}

there : {X : Type 0} (xs : List X) (i : ℕ) → suc i ≤ length xs → (x : X) × (slice_get xs i ≡ Some x)
there [] i le = absurd (omega (arith, le))
there (x ∷ xs) zero le = (x, refl)
there (x ∷ xs) (suc i) le = there xs i (omega (arith, le))

pub one-there : {X : Type 0} (xs : List X) (p : ℕ) → 1 ≤ p → p ≤ length xs → (x : X) × (numbered_from_one p xs ≡ Some x)
one-there xs zero one le = absurd (omega (arith, one))
one-there xs (suc i) one le = there xs i le

-- what its step comes to
abbrev pub step_of : Turn → WorldStep
step_of turns.Local = results.Stepped
step_of turns.Act = results.Stepped
step_of turns.Waiting = results.Waiting
step_of turns.Ended = results.Ended
step_of turns.Stopped = results.Stopped

stands-for : (t : Turn) (st : Standing) (o : Option Standing) → IsStandingAs t st → o ≡ Some st → IsStanding (step_of t) o
stands-for turns.Local st o h e = inl (e ∙ ap (λ st. Some st) h)
stands-for turns.Act st o h e = inr (e ∙ ap (λ st. Some st) h)
stands-for turns.Waiting st o h e = e ∙ ap (λ st. Some st) h
stands-for turns.Ended st o h e = e ∙ ap (λ st. Some st) h
stands-for turns.Stopped st o (inl h) e = inl (e ∙ ap (λ st. Some st) h)
stands-for turns.Stopped st o (inr h) e = inr (e ∙ ap (λ st. Some st) h)

cannot : (t : Turn) (st : Standing) → IsStandingAs t st → changes_nothing (step_of t) ≡ true → (is_local st || is_acting st) ≡ false
cannot turns.Local st h e = absurd (true≢false (sym e))
cannot turns.Act st h e = absurd (true≢false (sym e))
cannot turns.Waiting st h e = ap (λ st. is_local st || is_acting st) h
cannot turns.Ended st h e = ap (λ st. is_local st || is_acting st) h
cannot turns.Stopped st (inl h) e = ap (λ st. is_local st || is_acting st) h
cannot turns.Stopped st (inr h) e = ap (λ st. is_local st || is_acting st) h

pub world-alive : (img : CodeImage) (main : ℕ) (P : Parts) (dead : Bool) → IsWorld (world_at img main P dead) → AreAlive P.processes.items
world-alive img main P dead is = alike-alive (image_view img) main P.processes.items _ ((is.shows).sees).processes

module _ (img : CodeImage) (main : ℕ) (P : Parts) (dead : Bool) (p : ℕ) (one : 1 ≤ p) (le : p ≤ length P.processes.items) (t : Turn) (turn : IsOf p P.processes.items (λ process. TurnsAs t process (places_of P.places) p)) (works : WorksAsWorld (image_view img) main)
    (limits : Limits) (argument : Text) (events : List Event) (w : Worked (CodeState Name)) (b : BareWorked (CodeState ⊤)) (shown : ShowsRun limits argument events w b (world_at img main P dead)) where
  its : (x : ProcessState) × (numbered_from_one p P.processes.items ≡ Some x)
  its = one-there P.processes.items p one le

  st : (st : Standing) × (bare_standing (nameless (image_view img) main) b.system p ≡ Some st) × IsStandingAs t st
  st =
      its-standing (image_view img) main P.processes.items (places_of P.places) P.ready.members b shown.sees p its.0 its.1
      (((shown.told).processes p its.0 its.1).limit_is ∙ sym (ap (λ (l : Limits). l.steps) (limits-are (image_view img) main works limits argument events w b shown.shows))) t (turn its.0 its.1)

  pub stands-as-told : IsStanding (step_of t) (bare_standing (nameless (image_view img) main) b.system p)
  stands-as-told = stands-for t st.0 (bare_standing (nameless (image_view img) main) b.system p) st.2 st.1

  pub stays-as-told : changes_nothing (step_of t) ≡ true → bare_stepped (nameless (image_view img) main) p b ≡ Some b
  stays-as-told still = stays (image_view img) main works limits argument events w b shown.shows p (can-as (nameless (image_view img) main) b.system p st.0 st.1 ∙ cannot t st.0 st.2 still)

-- it has at most 1,024 processes
pub world-few : (img : CodeImage) (main : ℕ) (P : Parts) (dead : Bool) → IsWorld (world_at img main P dead) → length P.processes.items ≤ 1024
world-few img main P dead is =
    let few = processes-few (image_view img) main is.works is.limits is.argument is.events is.run is.bare (is.shows).shows P.processes.items ((is.shows).sees).processes in
    omega (arith, few, is.few)
