-- An action of a process, in the run that a world shows.
use Rattle.std.proofs.Common.{◌≡◌, ◌<◌, ◌≤◌, ◌++◌, ℕ, suc, max, List, [], ◌∷◌, length, Bool, true, false, ◌||◌, nat_eq, Option, Some, None, option_map, refl, sym, ap, ap₂, subst, ◌∙◌}
use Rattle.std.specs.Prelude.{⊤}
use Rattle.herm_model.proofs.Options.{some-injective}
use Rattle.herm_model.specs.Values.{Name, Cell, cell, an_inport, no_parts}
use Rattle.herm_base.specs.declared.numbers.ProcNo.{ProcNo}
use Rattle.herm_events.specs.declared.entry.Stamp.{Stamp}
use Rattle.herm_journal.specs.Entries.{Text, Entry, recorded}
use Rattle.herm_journal.specs.Messages.{CellReply, CellWant, CellAction}
use Rattle.herm_journal.specs.NextNumbers.{Limits, Book}
use Rattle.herm_journal.specs.PlaceStates.{PlaceState, after}
use Rattle.herm_journal.specs.Stamps.{entry_behind, is_maker_of}
use Rattle.herm_system.specs.Machines.{is_local}
use Rattle.herm_system.specs.Suiting.{Suits}
use Rattle.herm_system.specs.Systems.{Event, acts, numbered_from_one, set_from_one, places_for, done_at, number_of}
use Rattle.herm_instructions.specs.Images.{Image}
use Rattle.herm_runs.proofs.Numbered.{set-length_from_one}
use Rattle.herm_code_machine.specs.CodeStates.{CodeState}
use Rattle.herm_code_worlds.specs.CodeWorlds.{Shows}
use Rattle.herm_code_worlds.specs.laws.WorldOfCode.{WorksAsWorld}
use Rattle.herm_machine.specs.Machines.{nameless}
use Rattle.herm_waking.specs.KeptRounds.{Worked}
use Rattle.herm_waking.specs.Unnamed.{Unnamed, bare_at, bare_turn, bare_can_step, bare_stands, set_bare, set_bare_process, with_bare}
use Rattle.herm_waking.specs.UnnamedRounds.{BareWorked, bare_stepped}
use Rattle.herm_waking.specs.Waking.{woken_by}
use Rattle.herm_process.specs.Entries.{place_of}
use Rattle.herm_process.specs.Processes.{ProcessState, IsProcess, IsSettled, Comes}
use Rattle.herm_queue.specs.CellStates.{CellState}
use Rattle.herm_queue.specs.SeenCells.{seen, seen_action}
use Rattle.herm_world.specs.Acting.{ActsAt, first_place_for}
use Rattle.herm_world.specs.Births.{birth_view}
use Rattle.herm_world.specs.Doing.{Does}
use Rattle.herm_world.specs.Orders.{made_in}
use Rattle.herm_world.specs.Places.{Places, seen_of}
use Rattle.herm_world.specs.Steps.{MadeAction, Begins, BeginsMade, LookedAtEach}
use Rattle.herm_world.specs.Turns.{TurnsAs}
use Rattle.herm_world.specs.Worlds.{Sees, AreTold}
use Rattle.herm_world.specs.declared.turns.Turn.TheVariants as turns
use Rattle.herm_world.proofs.ActedSees.{made_by, made-in, acts-at, acts-alone, acts-making}
use Rattle.herm_world.proofs.ActedWorlds.{world_behind, acted-sees, made-sees, entry_of, acted-told, no-maker}
use Rattle.herm_world.proofs.Led.{ShowsNext, led, journal-acts}
use Rattle.herm_world.proofs.LocalLeads.{GoesOn, all-limited}
use Rattle.herm_world.proofs.LookedWorlds.{AreLimited, kept_looked, all-looked, each-told}
use Rattle.herm_world.proofs.MadeBy.{make_of, made-is, made-number, book-there, maker-is, begins-there, module-there}
use Rattle.herm_world.proofs.MadeTold.{anybody, not-next, pushed-told, begun-told}
use Rattle.herm_world.proofs.PlacesSeen.{holds-seen}
use Rattle.herm_world.proofs.ShownFacts.{limits-are, processes-few, processes-many}
use Rattle.herm_world.proofs.Stepped.{found-among, acts-now, turn-acts, left-there, moved-acts, acts-stepped}
use Rattle.herm_world.proofs.TurnsSeen.{its-state, its-turn}

module _ (image : Image) (main : ℕ) (works : WorksAsWorld image main) (limits : Limits) (argument : Text) (events : List Event) (w : Worked (CodeState Name)) (b : BareWorked (CodeState ⊤)) (shows : Shows image main limits argument events w b)
    (old mid : List ProcessState) (s t : Places) (ready : List ℕ) (sees : Sees image main old s ready b) (told : AreTold w.run.journal limits.steps old s)
    (p : ℕ) (stamp : ℕ) (woken : List ℕ) (born : Option (ℕ × ℕ × ℕ)) (made : MadeAction p old mid s t stamp woken born) (turn : TurnsAs turns.Act made.before s p) where
  pub same-limit : limits.steps ≡ b.system.book.limits.steps
  same-limit = sym (ap (λ (l : Limits). l.steps) (limits-are image main works limits argument events w b shows))

  abbrev pub its-limit : made.before.limit ≡ b.system.book.limits.steps
  its-limit = (told.processes p made.before made.there).limit_is ∙ same-limit

  abbrev pub state : (x : CodeState ⊤) × (numbered_from_one p b.system.processes ≡ Some x) × IsProcess image main made.before x
  state = its-state image main old s ready b sees p made.before made.there its-limit turns.Act turn

  -- what it wants
  abbrev pub want : CellWant ⊤
  want = (its-turn image main old s ready b sees p made.before made.there its-limit turns.Act turn).1

  pub next : (nameless image main).ready b.system.book.limits.steps state.0 ≡ Rattle.herm_system.specs.Machines.acting
  next = (its-turn image main old s ready b sees p made.before made.there its-limit turns.Act turn).0

  pub wants : (nameless image main).wanted state.0 ≡ Some want
  wants = (its-turn image main old s ready b sees p made.before made.there its-limit turns.Act turn).2

  pub doing : Does p made.before.clock want s t made.acts.got stamp woken × (born ≡ made_in want made.acts.got)
  doing = (made.acts).does image main state.0 want state.2 wants

  abbrev pub does : Does p made.before.clock want s t made.acts.got stamp woken
  does = doing.0

  abbrev pub action : CellAction ⊤
  action = seen_action does.action

  abbrev pub holding : PlaceState (Cell ⊤) (CellReply ⊤)
  holding = seen does.cell.holding

  abbrev pub settled : IsSettled image main made.before made.after state.0 made.acts.got want stamp
  settled = (made.acts).settles image main state.0 want state.2 wants

  pub own : made.before.number ≡ p
  own = (told.processes p made.before made.there).number

  same-place : place_of made.before.number made.acts.got want ≡ does.place
  same-place = ap (λ n. place_of n made.acts.got want) own ∙ does.at

  same-action : settled.action ≡ action
  same-action = some-injective (sym settled.tells ∙ does.tells)

  -- it suits
  first : first_place_for b.system p want ≡ Some does.place
  first = ap (λ v. first_place_for v p want) (sym sees.places) ∙ does.first b.system.processes

  holds : bare_at does.place b.system ≡ Some holding
  holds = ap (bare_at does.place) (sym sees.places) ∙ holds-seen b.system.processes s does.place ∙ ap (option_map (λ (c : CellState). seen c.holding)) does.there

  suits : Suits (nameless image main) state.0 (number_of does.place) action
  suits =
      (works.shown.told limits argument events w b shows p state.0 want does.place holding action state.1 wants
      (found-among does.place (λ place. Rattle.std.specs.Prelude.is_some (Rattle.std.specs.Prelude.option_and_then (done_at want) (bare_at place b.system))) (places_for p want) first) holds does.does).suits

  pub left : Comes image main made.after ((nameless image main).answered state.0 (number_of does.place) action)
  left =
      subst (λ q. Suits (nameless image main) state.0 (number_of q) action → Comes image main made.after ((nameless image main).answered state.0 (number_of q) action)) same-place
      (subst (λ a. Suits (nameless image main) state.0 (number_of (place_of made.before.number made.acts.got want)) a → Comes image main made.after ((nameless image main).answered state.0 (number_of (place_of made.before.number made.acts.got want)) a)) same-action settled.takes)
      suits

  abbrev pub at : ActsAt (nameless image main) p b.system state.0 want does.place holding action left.0
  at = acts-at (nameless image main) p made.before.clock b.system s t sees.places want made.acts.got stamp woken does state.0 left.0 state.1 next wants left.1

  pub can : bare_can_step (nameless image main) b.system p ≡ true
  can = ap (λ t. bare_stands is_local (nameless image main) b.system p || t) (acts-now (nameless image main) p b state.0 want does.place holding action left.0 at) ∙ by (bare_stands is_local (nameless image main) b.system p)
    where
      by : (t : Bool) → (t || true) ≡ true
      by true = refl
      by false = refl

  born-is : born ≡ made_by action
  born-is = doing.1 ∙ made-in want holding made.acts.got action does.does does.tells

  -- the entry of the run
  abbrev pub entry : Entry
  entry = entry_of w.run.journal limits.steps old s t told p made.before.clock want made.acts.got stamp woken does made.before made.after made.there

  stamp-is : stamp ≡ (entry_behind w.run.journal p does.place (recorded action)).stamp
  stamp-is = does.stamped ∙ ap₂ (λ m n. suc (max m n)) (told.processes p made.before made.there).clock ((told.cells).cells does.place does.cell does.there).clock

  entry-is : entry ≡ entry_behind w.run.journal p does.place (recorded action)
  entry-is = ap (λ st. record { stamp = st; process = p; place = does.place; action = recorded action }) stamp-is

  diary-is : made.after.diary ≡ made.before.diary ++ entry ∷ []
  diary-is =
      settled.entry
      ∙ ap (λ n. made.before.diary ++ record { stamp = stamp; process = n; place = place_of made.before.number made.acts.got want; action = recorded settled.action } ∷ []) own
      ∙ ap (λ q. made.before.diary ++ record { stamp = stamp; process = p; place = q; action = recorded settled.action } ∷ []) same-place
      ∙ ap (λ a. made.before.diary ++ record { stamp = stamp; process = p; place = does.place; action = recorded a } ∷ []) same-action

  told-with : ((q : ℕ) (x : ProcessState) → numbered_from_one q old ≡ Some x → is_maker_of q (recorded action) ≡ false) → AreTold (w.run.journal ++ entry ∷ []) limits.steps (set_from_one p made.after old) t
  told-with makers =
      acted-told w.run.journal limits.steps old s t told p made.before.clock want made.acts.got stamp woken does made.before made.after made.there diary-is (ap (λ (x : ProcessState). x.clock) made.acts.same) (ap (λ (x : ProcessState). x.number) made.acts.same)
      (ap (λ (x : ProcessState). x.limit) made.acts.same) (ap (λ (x : ProcessState). x.birth) made.acts.same) (ap (λ (x : ProcessState). x.ordered) made.acts.same) makers

  abbrev pub qs_then : List (CodeState ⊤)
  qs_then = set_from_one p left.0 b.system.processes

  abbrev pub behind : List (CodeState ⊤) → BareWorked (CodeState ⊤)
  behind qs = world_behind image main old s t ready b sees p made.before.clock want made.acts.got stamp woken does made.after left.0 left.2 qs

  -- what the world holds behind the action, with a process if one was made
  pub record HoldsThen (new : List ProcessState) : Type 0 where
    pub states : List (CodeState ⊤)
    pub left_so : with_bare (nameless image main) action (set_bare_process p left.0 (set_bare does.place (after action holding) b.system)) ≡ Some (seen_of states t)
    pub sees_then : Sees image main new t ready (behind states)
    pub told_then : AreTold (w.run.journal ++ entry ∷ []) limits.steps new t

  alone : born ≡ None → HoldsThen mid
  alone none = record {
    states = qs_then;
    left_so = (acts-alone (nameless image main) p made.before.clock b.system s t sees.places want made.acts.got stamp woken does state.0 left.0 state.1 next wants left.1 (sym doing.1 ∙ none)).left;
    sees_then = subst (λ ps. Sees image main ps t ready (behind qs_then)) (sym made.set) (acted-sees image main old s t ready b sees p made.before.clock want made.acts.got stamp woken does made.after left.0 left.2);
    told_then = subst (λ ps. AreTold (w.run.journal ++ entry ∷ []) limits.steps ps t) (sym made.set) (told-with (λ q x found. no-maker q action (sym born-is ∙ none)));
  }

  module _ (m : ℕ × ℕ × ℕ) (some : born ≡ Some m) where
    action-is : action ≡ make_of m.0 (Some (m.1, m.2))
    action-is = made-is action m (sym born-is ∙ some)

    number-is : m.1 ≡ suc (length (set_from_one p made.after old))
    number-is =
        let n = made-number want holding action m does.does (sym born-is ∙ some) in
        n.2
        ∙ ap (λ (b : Book). suc b.processes) (sym (book-there does.place b.system holding n.0 holds n.1))
        ∙ ap (λ (v : Unnamed (CodeState ⊤)). suc v.book.processes) (sym sees.places)
        ∙ ap suc (sym (processes-many image main works limits argument events w b shows old s ready sees))
        ∙ ap suc (sym (set-length_from_one p made.after old))

    maker-of : (q : ℕ) → is_maker_of q (recorded action) ≡ nat_eq m.1 q
    maker-of q = ap (λ a. is_maker_of q (recorded a)) action-is

    makers : (q : ℕ) (x : ProcessState) → numbered_from_one q old ≡ Some x → is_maker_of q (recorded action) ≡ false
    makers q x found = maker-of q ∙ ap (λ n. nat_eq n q) (number-is ∙ ap suc (set-length_from_one p made.after old)) ∙ not-next old q x found

    module _ (maker : ProcNo) (own_maker : maker.number ≡ p) (at_stamp : Stamp) (stamp_of : at_stamp.0 ≡ stamp) (new : List ProcessState) (begins : Begins image limits.steps maker at_stamp m.0 m.1 m.2 mid new) where
      with-it : HoldsThen new
      with-it =
          let first_state = begins.comes main in
          let pushed : new ≡ set_from_one p made.after old ++ begins.begun ∷ [] = begins.pushed ∙ ap (λ ps. ps ++ begins.begun ∷ []) made.set in
          let told_set = told-with makers in
          let is_maker : is_maker_of (suc (length (set_from_one p made.after old))) (recorded action) ≡ true =
          ap (λ q. is_maker_of q (recorded action)) (sym number-is) ∙ ap (λ a. is_maker_of m.1 (recorded a)) action-is ∙ maker-is m.0 m.1 m.2 in
          let begun_told = begun-told w.run.journal limits.steps (set_from_one p made.after old) t begins.begun entry told_set is_maker (ap (λ (x : ProcessState). x.number) begins.parts ∙ number-is) (ap (λ (x : ProcessState). x.limit) begins.parts)
          (subst (λ n. 1 ≤ n) (sym (set-length_from_one p made.after old)) (anybody old p made.before made.there)) (ap (λ (x : ProcessState). birth_view x.birth) begins.parts ∙ ap₂ (λ m n. (m, n)) own_maker stamp_of)
          (ap (λ (x : ProcessState). x.diary) begins.parts) (ap (λ (x : ProcessState). x.clock) begins.parts ∙ stamp_of) (ap (λ (x : ProcessState). x.ordered) begins.parts) in
          record {
            states = qs_then ++ first_state.0 ∷ [];
            left_so = (acts-making (nameless image main) p made.before.clock b.system s t sees.places want made.acts.got stamp woken does state.0 left.0 state.1 next wants left.1 m.0 m.1 m.2 first_state.0 (sym doing.1 ∙ some) first_state.1).left;
            sees_then = subst (λ ps. Sees image main ps t ready (behind (qs_then ++ first_state.0 ∷ []))) (sym pushed) (made-sees image main old s t ready b sees p made.before.clock want made.acts.got stamp woken does made.after left.0 left.2 begins.begun first_state.0 first_state.2);
            told_then = subst (λ ps. AreTold (w.run.journal ++ entry ∷ []) limits.steps ps t) (sym pushed) (pushed-told (w.run.journal ++ entry ∷ []) limits.steps (set_from_one p made.after old) t begins.begun told_set begun_told);
          }

    -- the module of the process that is made is there
    pub its-module : m.0 < length image.modules
    its-module =
        let makes = works.shown.steps limits argument events w b shows p in
        let event = makes.steps (makes.kept ∙ can) in
        let u = left-there (nameless image main) p b state.0 want does.place holding action left.0 at event.world event.stepped in
        let z = begins-there (nameless image main) action (set_bare_process p left.0 (set_bare does.place (after action holding) b.system)) u.0 m (sym born-is ∙ some) u.1 in
        module-there image main m.0 m.1 (cell tt (an_inport m.2) no_parts) z.0 z.1

  pub holds-then : (maker : ProcNo) → maker.number ≡ p → (at_stamp : Stamp) → at_stamp.0 ≡ stamp → (new : List ProcessState) → (o : Option (ℕ × ℕ × ℕ)) → born ≡ o → BeginsMade image limits.steps maker at_stamp o mid new → HoldsThen new
  holds-then maker own_maker at_stamp stamp_of new None is begins = subst HoldsThen (sym begins) (alone is)
  holds-then maker own_maker at_stamp stamp_of new (Some m) is begins = with-it m is maker own_maker at_stamp stamp_of new begins

  -- and behind it those looked at again whom it wakes
  module _ (new : List ProcessState) (then_ : HoldsThen new) where
    wakes : woken ≡ woken_by does.place action b.kept.waiters
    wakes = does.wakes ∙ ap (woken_by does.place action) sees.waiters

    abbrev pub bare : BareWorked (CodeState ⊤)
    bare = record { system = seen_of then_.states t; kept = kept_looked image main (p ∷ woken_by does.place action b.kept.waiters) (seen_of then_.states t) (behind then_.states).kept }

    pub stepped : bare_stepped (nameless image main) p b ≡ Some bare
    stepped = acts-stepped (nameless image main) p b state.0 want does.place holding action left.0 at (seen_of then_.states t) then_.left_so

    pub turned : bare_turn (nameless image main) b.system p ≡ Some (acts p does.place)
    turned = turn-acts (nameless image main) p b state.0 want does.place holding action left.0 at

    abbrev pub goes : ShowsNext image main limits argument events w (acts p does.place) bare
    goes = led image main works limits argument events w b shows p (acts p does.place) bare can turned stepped

    pub few-then : length new ≤ limits.processes
    few-then = processes-few image main works limits argument (events ++ acts p does.place ∷ []) goes.run bare goes.shows new (then_.sees_then).processes

    pub action-goes : (u : Places) (ready_then : List ℕ) → LookedAtEach (p ∷ woken) new t ready u ready_then → GoesOn image main limits argument events b p new u ready_then
    action-goes u ready_then looked =
        let moved = moved-acts (nameless image main) p b state.0 want does.place holding action left.0 at (seen_of then_.states t) then_.left_so in
        let at_limits : (seen_of then_.states t).book.limits ≡ limits = limits-are image main works limits argument (events ++ acts p does.place ∷ []) goes.run bare goes.shows in
        let its_limits : AreLimited new (seen_of then_.states t).book.limits.steps = subst (AreLimited new) (ap (λ (l : Limits). l.steps) (sym at_limits)) (all-limited (w.run.journal ++ entry ∷ []) limits.steps new t then_.told_then) in
        let journal = journal-acts image main works limits argument events w b shows p does.place goes.run.run (seen_of then_.states t) action goes.goes_on moved in
        record {
          event = acts p does.place;
          next = turned;
          run = goes.run;
          bare = bare;
          stepped = stepped;
          shows = goes.shows;
          sees =
              subst (λ qs. Sees image main new u ready_then (record { system = seen_of then_.states t; kept = kept_looked image main (p ∷ qs) (seen_of then_.states t) (behind then_.states).kept })) wakes
              (all-looked image main (p ∷ woken) new t u ready ready_then (behind then_.states) then_.sees_then looked its_limits);
          told =
              subst (λ journal. AreTold journal limits.steps new u) (ap (λ e. w.run.journal ++ e ∷ []) entry-is ∙ sym journal)
              (each-told (w.run.journal ++ entry ∷ []) limits.steps (p ∷ woken) new t u ready ready_then looked then_.told_then);
        }
