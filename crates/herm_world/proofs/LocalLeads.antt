-- A local step of a process, in the run that a world shows.
use Rattle.std.proofs.Common.{◌≡◌, ◌++◌, ℕ, List, [], ◌∷◌, ◌||◌, Some, inl, inr, sym, ap, subst, ◌∙◌}
use Rattle.std.specs.Prelude.{⊤}
use Rattle.std.proofs.lemmas.Bool.{eqb-true}
use Rattle.herm_model.specs.Values.{Name}
use Rattle.herm_journal.specs.Entries.{Text, Entry}
use Rattle.herm_journal.specs.NextNumbers.{Limits}
use Rattle.herm_system.specs.Machines.{local}
use Rattle.herm_system.specs.Systems.{Event, steps, numbered_from_one}
use Rattle.herm_instructions.specs.Images.{Image}
use Rattle.herm_code_machine.specs.CodeStates.{CodeState}
use Rattle.herm_code_worlds.specs.CodeWorlds.{Shows}
use Rattle.herm_code_worlds.specs.laws.WorldOfCode.{WorksAsWorld}
use Rattle.herm_machine.specs.Machines.{nameless}
use Rattle.herm_waking.specs.KeptRounds.{Worked}
use Rattle.herm_waking.specs.Unnamed.{Unnamed, bare_turn, bare_stands, set_bare_process}
use Rattle.herm_waking.specs.UnnamedRounds.{BareWorked, bare_stepped}
use Rattle.herm_process.specs.Processes.{ProcessState, IsProcess, Comes}
use Rattle.herm_world.specs.Acting.{StepsTo}
use Rattle.herm_world.specs.Births.{birth_view}
use Rattle.herm_world.specs.Places.{Places}
use Rattle.herm_world.specs.Steps.{MadeLocal, LookedAt}
use Rattle.herm_world.specs.Turns.{TurnsAs}
use Rattle.herm_world.specs.Worlds.{Sees, AreTold, IsToldOf}
use Rattle.herm_world.specs.declared.turns.Turn.TheVariants as turns
use Rattle.herm_world.proofs.ActedSees.{alike-one}
use Rattle.herm_world.proofs.DoesAtReplies.{number-cases, number-none}
use Rattle.herm_world.proofs.Led.{led, journal-steps}
use Rattle.herm_world.proofs.LookedWorlds.{AreLimited, kept_looked, one-looked}
use Rattle.herm_world.proofs.SameRecorded.{same-told}
use Rattle.herm_world.proofs.ShownFacts.{limits-are}
use Rattle.herm_world.proofs.Stepped.{steps-now, turn-steps, local-stepped}
use Rattle.herm_world.proofs.TurnsSeen.{its-state, its-turn}

-- an event that leads a world on: the run, the world without names, and what the processes and places of the world behind are
pub record GoesOn (image : Image) (main : ℕ) (limits : Limits) (argument : Text) (events : List Event) (b : BareWorked (CodeState ⊤)) (p : ℕ) (ps : List ProcessState) (s : Places) (ready : List ℕ) : Type 0 where
  pub event : Event
  pub next : bare_turn (nameless image main) b.system p ≡ Some event
  pub run : Worked (CodeState Name)
  pub bare : BareWorked (CodeState ⊤)
  pub stepped : bare_stepped (nameless image main) p b ≡ Some bare
  pub shows : Shows image main limits argument (events ++ event ∷ []) run bare
  pub sees : Sees image main ps s ready bare
  pub told : AreTold run.run.journal limits.steps ps s

pub all-limited : (journal : List Entry) (limit : ℕ) (ps : List ProcessState) (s : Places) → AreTold journal limit ps s → AreLimited ps limit
all-limited journal limit ps s told q x there = (told.processes q x there).limit_is

-- a local step leaves number, limit, birth, diary and clock
module _ (journal : List Entry) (limit p : ℕ) (old new : List ProcessState) (s : Places) (made : MadeLocal p old new) (told : AreTold journal limit old s) where
  of-after : IsToldOf journal limit p made.after
  of-after = let was = told.processes p made.before made.there in record {
    number = ap (λ (x : ProcessState). x.number) made.same ∙ was.number;
    limit_is = ap (λ (x : ProcessState). x.limit) made.same ∙ was.limit_is;
    born = ap (λ (x : ProcessState). birth_view x.birth) made.same ∙ was.born;
    diary = ap (λ (x : ProcessState). x.diary) made.same ∙ was.diary;
    clock = ap (λ (x : ProcessState). x.clock) made.same ∙ was.clock;
    free = ap (λ (x : ProcessState). x.ordered) made.same ∙ was.free;
  }

  pub local-told : AreTold journal limit new s
  local-told = subst (λ ps. AreTold journal limit ps s) (sym made.set) (record {
    processes = λ q x found. elim (number-cases old p q made.after x found) [ inl h ↦ subst (λ x. IsToldOf journal limit q x) h.1 (subst (λ q. IsToldOf journal limit q made.after) (eqb-true p q h.0) of-after) | inr h ↦ told.processes q x h.1 ];
    fresh = λ q nobody. told.fresh q (number-none old p q made.after nobody);
    cells = told.cells;
  })

module _ (image : Image) (main : ℕ) (works : WorksAsWorld image main) (limits : Limits) (argument : Text) (events : List Event) (w : Worked (CodeState Name)) (b : BareWorked (CodeState ⊤)) (shows : Shows image main limits argument events w b)
    (old new : List ProcessState) (s t : Places) (ready ready_then : List ℕ) (sees : Sees image main old s ready b) (told : AreTold w.run.journal limits.steps old s)
    (p : ℕ) (made : MadeLocal p old new) (turn : TurnsAs turns.Local made.before s p) where
  pub same-limit : limits.steps ≡ b.system.book.limits.steps
  same-limit = sym (ap (λ (l : Limits). l.steps) (limits-are image main works limits argument events w b shows))

  abbrev pub its-limit : made.before.limit ≡ b.system.book.limits.steps
  its-limit = (told.processes p made.before made.there).limit_is ∙ same-limit

  abbrev pub state : (x : CodeState ⊤) × (numbered_from_one p b.system.processes ≡ Some x) × IsProcess image main made.before x
  state = its-state image main old s ready b sees p made.before made.there its-limit turns.Local turn

  abbrev pub left : Comes image main made.after ((nameless image main).local_step state.0)
  left = made.comes image main state.0 state.2

  goes : StepsTo (nameless image main) p b.system state.0 left.0
  goes = record { its = state.1; next = its-turn image main old s ready b sees p made.before made.there its-limit turns.Local turn; left = left.1 }

  abbrev pub system_then : Unnamed (CodeState ⊤)
  system_then = set_bare_process p left.0 b.system

  pub sees-then : Sees image main new s ready (record b { system = system_then })
  sees-then = subst (λ ps. Sees image main ps s ready (record b { system = system_then })) (sym made.set) (record {
    processes = alike-one (IsProcess image main) old b.system.processes sees.processes p made.after left.0 left.2;
    places = ap (λ (v : Unnamed (CodeState ⊤)). record v { processes = system_then.processes }) sees.places;
    ready_is = sees.ready_is;
    waiters = sees.waiters;
  })

  pub told-then : AreTold w.run.journal limits.steps new s
  told-then = local-told w.run.journal limits.steps p old new s made told

  pub local-goes : LookedAt p new s ready t ready_then → GoesOn image main limits argument events b p new t ready_then
  local-goes looked =
      let bare : BareWorked (CodeState ⊤) = record { system = system_then; kept = kept_looked image main (p ∷ []) system_then b.kept } in
      let stepped : bare_stepped (nameless image main) p b ≡ Some bare = local-stepped (nameless image main) p b state.0 left.0 goes in
      let turned = turn-steps (nameless image main) p b state.0 left.0 goes in
      let can = ap (λ t. t || bare_stands Rattle.herm_system.specs.Machines.is_acting (nameless image main) b.system p) (steps-now (nameless image main) p b state.0 left.0 goes) in
      let next = led image main works limits argument events w b shows p (steps p) bare can turned stepped in
      record {
        event = steps p;
        next = turned;
        run = next.run;
        bare = bare;
        stepped = stepped;
        shows = next.shows;
        sees = one-looked image main new s t ready ready_then (record b { system = system_then }) sees-then p looked (subst (AreLimited new) same-limit (all-limited w.run.journal limits.steps new s told-then));
        told = subst (λ journal. AreTold journal limits.steps new t) (sym (journal-steps image main works limits argument events w b shows p next.run.run next.goes_on)) (same-told w.run.journal limits.steps new s t looked.same told-then);
      }
