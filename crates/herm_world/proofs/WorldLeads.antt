-- The step of a process that makes its next event, from the parts of a world to the world.
use Rattle.std.proofs.Common.{◌≡◌, ◌≤◌, ◌<◌, ◌++◌, ℕ, List, [], ◌∷◌, length, Bool, false, Option, Some, None, refl, sym, ap, subst, ◌∙◌, arith}
use Rattle.std.specs.Prelude.{⊤}
use Rattle.herm_model.proofs.Lists.{length-map}
use Rattle.herm_model.specs.Values.{Name}
use Rattle.herm_base.specs.declared.numbers.ProcNo.{ProcNo}
use Rattle.herm_events.specs.declared.entry.Stamp.{Stamp}
use Rattle.herm_journal.specs.Entries.{Text}
use Rattle.herm_journal.specs.NextNumbers.{Limits}
use Rattle.herm_system.specs.Systems.{Event}
use Rattle.herm_code.specs.View.{CodeImage, image_view, module_view}
use Rattle.herm_code_machine.specs.CodeStates.{CodeState}
use Rattle.herm_code_worlds.specs.laws.WorldOfCode.{WorksAsWorld}
use Rattle.herm_waking.specs.KeptRounds.{Worked}
use Rattle.herm_waking.specs.Unnamed.{Unnamed}
use Rattle.herm_waking.specs.UnnamedRounds.{BareWorked}
use Rattle.herm_process.specs.Processes.{ProcessState, IsProcess}
use Rattle.herm_ready.specs.Table.{ReadySet}
use Rattle.herm_world.specs.Kept.{world_of, IsKeptWorld}
use Rattle.herm_world.specs.Places.{places_of, ClocksFit, AreNumbered, AreOwned}
use Rattle.herm_world.specs.Steps.{AreAlive, IsOf, CanAct, IsModule, MadeLocal, MadeAction, BeginsMade, LookedAt, LookedAtEach}
use Rattle.herm_world.specs.Turns.{TurnsAs}
use Rattle.herm_world.specs.Worlds.{WorldState, ShowsRun, IsWorld, MakesNext}
use Rattle.herm_world.specs.declared.parts.Parts.{Parts}
use Rattle.herm_world.specs.declared.turns.Turn.TheVariants as turns
use Rattle.herm_world.proofs.ActionLeads as acting
use Rattle.herm_world.proofs.LocalLeads.{GoesOn, local-goes}
use Rattle.herm_world.proofs.ShownFacts.{alike-alive, alike-number, limits-are, processes-few, are-numbered, are-owned, clocks-fit, process-clock}

module _ (img : CodeImage) (main : ℕ) where
  abbrev pub world_at : Parts → Bool → WorldState
  world_at P dead = world_of img main P dead

  -- the book of a world has the limits of its runs
  pub book-limits : (limits : Limits) (argument : Text) (events : List Event) (w : Worked (CodeState Name)) (b : BareWorked (CodeState ⊤)) (P : Parts) (dead : Bool) → WorksAsWorld (image_view img) main → ShowsRun limits argument events w b (world_at P dead)
      → (places_of P.places).book.held.limits ≡ limits
  book-limits limits argument events w b P dead works shown =
      ap (λ (v : Unnamed (CodeState ⊤)). v.book.limits) (shown.sees).places ∙ limits-are (image_view img) main works limits argument events w b shown.shows

  -- what goes on is a next event of the world
  pub makes-next : (limits : Limits) (argument : Text) (events : List Event) (b : BareWorked (CodeState ⊤)) (p : ℕ) (P Q : Parts) (dead : Bool) → GoesOn (image_view img) main limits argument events b p Q.processes.items (places_of Q.places) Q.ready.members
      → MakesNext limits argument events b p (world_at P dead) (world_at Q false)
  makes-next limits argument events b p P Q dead goes = record {
    event = goes.event;
    next = goes.next;
    run = goes.run;
    bare = goes.bare;
    stepped = goes.stepped;
    shows = record { alive = refl; shows = goes.shows; sees = goes.sees; told = goes.told };
  }

  abbrev pub LeadsOn : ℕ → (P Q : Parts) → Bool → Type 0
  LeadsOn p P Q dead = (limits : Limits) (argument : Text) (events : List Event) (w : Worked (CodeState Name)) (b : BareWorked (CodeState ⊤)) → ShowsRun limits argument events w b (world_at P dead) → MakesNext limits argument events b p (world_at P dead) (world_at Q false)

  -- and the world stays one
  pub stays-world : (l : Limits) (p : ℕ) (P Q : Parts) (dead : Bool) → (places_of P.places).book.held.limits ≡ l → (is : IsWorld (world_at P dead)) → LeadsOn p P Q dead → Q.ready.limit ≡ P.ready.limit → IsKeptWorld l (world_at Q false)
  stays-world l p P Q dead same is leads room alive =
      let m = leads is.limits is.argument is.events is.run is.bare is.shows in (
        book-limits is.limits is.argument (is.events ++ m.event ∷ []) m.run m.bare Q false is.works m.shows ∙ sym (book-limits is.limits is.argument is.events is.run is.bare P dead is.works is.shows) ∙ same,
        record {
          works = is.works;
          limits = is.limits;
          few = is.few;
          short = is.short;
          argument = is.argument;
          text = is.text;
          events = is.events ++ m.event ∷ [];
          run = m.run;
          bare = m.bare;
          room = room ∙ is.room;
          shows = m.shows;
        },
      )

  -- who can step has room for all processes
  pub world-room : (P : Parts) (dead : Bool) → IsWorld (world_at P dead) → length P.processes.items ≤ P.ready.limit
  world-room P dead is =
      let few = processes-few (image_view img) main is.works is.limits is.argument is.events is.run is.bare (is.shows).shows P.processes.items ((is.shows).sees).processes in
      omega (arith, few, is.few, is.room)

  -- a local step
  pub local-leads : (p : ℕ) (P Q : Parts) (dead : Bool) → MadeLocal p P.processes.items Q.processes.items → IsOf p P.processes.items (λ process. TurnsAs turns.Local process (places_of P.places) p) → IsWorld (world_at P dead)
      → LookedAt p Q.processes.items (places_of P.places) P.ready.members (places_of Q.places) Q.ready.members → LeadsOn p P Q dead
  local-leads p P Q dead made turn is looked limits argument events w b shown =
      makes-next limits argument events b p P Q dead
      (local-goes (image_view img) main is.works limits argument events w b shown.shows P.processes.items Q.processes.items (places_of P.places) (places_of Q.places) P.ready.members Q.ready.members shown.sees shown.told p made (turn made.before made.there) looked)

  -- an action that can be done now
  module _ (p : ℕ) (P : Parts) (dead : Bool) (turn : IsOf p P.processes.items (λ process. TurnsAs turns.Act process (places_of P.places) p)) where
    pub can-act : IsWorld (world_at P dead) → IsOf p P.processes.items (λ process. CanAct process (places_of P.places) p)
    can-act is process there =
        let stands = alike-number (IsProcess (image_view img) main) P.processes.items _ ((is.shows).sees).processes p process there in
        let acts = turn process there (image_view img) main stands.0 stands.2 [] in
        let told = ((is.shows).told).processes p process there in
        record {
          alive = (stands.2).alive;
          free = told.free;
          own = told.number;
          next = λ image main x at. (turn process there image main x at []).0;
          can = record { image = image_view img; main = main; state = stands.0; stands = stands.2; next = acts.0; want = acts.1; wanted = acts.2; beside = []; can = acts.3 };
          clock = process-clock (image_view img) main is.works is.limits is.argument is.events is.run is.bare (is.shows).shows P.processes.items (places_of P.places) P.ready.members (is.shows).sees is.few is.short (is.shows).told p process there;
        }

    pub act-clocks : IsWorld (world_at P dead) → ClocksFit (places_of P.places)
    act-clocks is = clocks-fit (image_view img) main is.works is.limits is.argument is.events is.run is.bare (is.shows).shows P.processes.items (places_of P.places) P.ready.members (is.shows).sees is.few is.short (is.shows).told

    pub act-numbered : IsWorld (world_at P dead) → AreNumbered (places_of P.places)
    act-numbered is = are-numbered (image_view img) main is.works is.limits is.argument is.events is.run is.bare (is.shows).shows P.processes.items (places_of P.places) P.ready.members (is.shows).sees

    pub act-owned : IsWorld (world_at P dead) → AreOwned (places_of P.places)
    act-owned is = are-owned (image_view img) main is.works is.limits is.argument is.events is.run is.bare (is.shows).shows P.processes.items (places_of P.places) P.ready.members (is.shows).sees (is.shows).told

    -- and what it has made
    module _ (Q : Parts) (stamp : Stamp) (woken : List ℕ) (born : Option (ℕ × ℕ × ℕ)) (made : MadeAction p P.processes.items Q.processes.items (places_of P.places) (places_of Q.places) stamp.0 woken born) where
      pub its-module : IsWorld (world_at P dead) → (o : Option (ℕ × ℕ × ℕ)) → born ≡ o → IsModule (length img.modules) o
      its-module is None e = tt
      its-module is (Some m) e =
          subst (λ n. m.0 < n) (length-map module_view img.modules)
          (acting.its-module (image_view img) main is.works is.limits is.argument is.events is.run is.bare (is.shows).shows P.processes.items Q.processes.items (places_of P.places) (places_of Q.places) P.ready.members (is.shows).sees (is.shows).told p stamp.0 woken born made (turn made.before made.there) m e)

      module _ (l : Limits) (maker : ProcNo) (own_maker : maker.number ≡ p) (R : Parts) (same : (places_of P.places).book.held.limits ≡ l) (begins : BeginsMade (image_view img) l.steps maker stamp born Q.processes.items R.processes.items) (places : R.places ≡ Q.places) (ready : R.ready ≡ Q.ready) (ready_before : Q.ready ≡ P.ready) where
        -- what the world holds behind it, in each run that it shows
        module _ (works : WorksAsWorld (image_view img) main) (limits : Limits) (argument : Text) (events : List Event) (w : Worked (CodeState Name)) (b : BareWorked (CodeState ⊤)) (shown : ShowsRun limits argument events w b (world_at P dead)) where
          its-limits : l.steps ≡ limits.steps
          its-limits = ap (λ (l : Limits). l.steps) (sym same ∙ book-limits limits argument events w b P dead works shown)

          abbrev Holds : List ProcessState → Type 0
          Holds = acting.HoldsThen (image_view img) main works limits argument events w b shown.shows P.processes.items Q.processes.items (places_of P.places) (places_of Q.places) P.ready.members shown.sees shown.told p stamp.0 woken born made (turn made.before made.there)

          holds : Holds R.processes.items
          holds =
              acting.holds-then (image_view img) main works limits argument events w b shown.shows P.processes.items Q.processes.items (places_of P.places) (places_of Q.places) P.ready.members shown.sees shown.told p stamp.0 woken born made (turn made.before made.there)
              maker own_maker stamp refl R.processes.items born refl (subst (λ n. BeginsMade (image_view img) n maker stamp born Q.processes.items R.processes.items) its-limits begins)

          pub behind-alive : AreAlive R.processes.items
          behind-alive = alike-alive (image_view img) main R.processes.items _ (holds.sees_then).processes

          pub behind-few : length R.processes.items ≤ limits.processes
          behind-few =
              acting.few-then (image_view img) main works limits argument events w b shown.shows P.processes.items Q.processes.items (places_of P.places) (places_of Q.places) P.ready.members shown.sees shown.told p stamp.0 woken born made (turn made.before made.there)
              R.processes.items holds

          pub acts-on : (S : Parts) → S.processes.items ≡ R.processes.items → LookedAtEach (p ∷ woken) R.processes.items (places_of R.places) R.ready.members (places_of S.places) S.ready.members → MakesNext limits argument events b p (world_at P dead) (world_at S false)
          acts-on S processes looked =
              let at_places = subst (λ s. LookedAtEach (p ∷ woken) R.processes.items (places_of s) R.ready.members (places_of S.places) S.ready.members) places looked in
              let at_ready = subst (λ (r : ReadySet). LookedAtEach (p ∷ woken) R.processes.items (places_of Q.places) r.members (places_of S.places) S.ready.members) (ready ∙ ready_before) at_places in
              makes-next limits argument events b p P S dead
              (subst (λ ps. GoesOn (image_view img) main limits argument events b p ps (places_of S.places) S.ready.members) (sym processes)
              (acting.action-goes (image_view img) main works limits argument events w b shown.shows P.processes.items Q.processes.items (places_of P.places) (places_of Q.places) P.ready.members shown.sees shown.told p stamp.0 woken born made (turn made.before made.there)
              R.processes.items holds (places_of S.places) S.ready.members at_ready))

        pub acted-alive : IsWorld (world_at P dead) → AreAlive R.processes.items
        acted-alive is = behind-alive is.works is.limits is.argument is.events is.run is.bare is.shows

        pub acted-room : IsWorld (world_at P dead) → length R.processes.items ≤ R.ready.limit
        acted-room is =
            let few = behind-few is.works is.limits is.argument is.events is.run is.bare is.shows in
            let limit : R.ready.limit ≡ 1024 = ap (λ (r : ReadySet). r.limit) (ready ∙ ready_before) ∙ is.room in
            omega (arith, few, is.few, limit)

        pub action-leads : (S : Parts) → IsWorld (world_at P dead) → S.processes.items ≡ R.processes.items → LookedAtEach (p ∷ woken) R.processes.items (places_of R.places) R.ready.members (places_of S.places) S.ready.members → LeadsOn p P S dead
        action-leads S is processes looked limits argument events w b shown = acts-on is.works limits argument events w b shown S processes looked
