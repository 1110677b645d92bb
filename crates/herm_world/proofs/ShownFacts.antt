-- What a world that shows a run keeps: its clocks are small, its cells are numbered, and its processes stand for states of the run.
use Rattle.std.proofs.Common.{◌≡◌, ◌≤◌, ◌<◌, ◌^◌, ℕ, zero, suc, List, [], ◌∷◌, length, Some, None, option_map, refl, sym, ap, subst, ◌∙◌, arith}
use Rattle.std.specs.Prelude.{slice_get, ⊤}
use Rattle.herm_model.proofs.Lists.{length-map}
use Rattle.herm_model.proofs.Options.{none-not_some}
use Rattle.herm_model.specs.Values.{Name}
use Rattle.herm_journal.specs.Entries.{Text, Place, port, reply_cell, book}
use Rattle.herm_journal.specs.NextNumbers.{Limits}
use Rattle.herm_system.specs.Sound.{IsNumbered}
use Rattle.herm_system.specs.Systems.{Event, numbered_from_one, start}
use Rattle.herm_instructions.specs.Images.{Image}
use Rattle.herm_code_machine.specs.CodeRenaming.{forget_code}
use Rattle.herm_code_machine.specs.CodeStates.{CodeState}
use Rattle.herm_code_worlds.specs.CodeWorlds.{named, Shows}
use Rattle.herm_code_worlds.specs.laws.WorldOfCode.{WorksAsWorld}
use Rattle.herm_waking.specs.KeptRounds.{Worked}
use Rattle.herm_waking.specs.Unnamed.{Unnamed, unnamed}
use Rattle.herm_waking.specs.UnnamedRounds.{BareWorked}
use Rattle.herm_queue.specs.ReplyStates.{reply_cell_of}
use Rattle.herm_process.specs.Processes.{ProcessState, IsProcess}
use Rattle.herm_world.specs.Places.{Places, port_seen, replies_seen, ClocksFit, AreNumbered, AreOwned}
use Rattle.herm_world.specs.Steps.{AreAlive}
use Rattle.herm_world.specs.Worlds.{AreAlike, Sees, AreTold}
use Rattle.herm_world.proofs.ActedSees.{alike-at}
use Rattle.herm_world.proofs.RunLimits.{run-limits}

pub alike-length : {X Y : Type 0} (R : X → Y → Type 0) (xs : List X) (ys : List Y) → AreAlike R xs ys → length xs ≡ length ys
alike-length R [] [] h = refl
alike-length R [] (y ∷ ys) h = absurd h
alike-length R (x ∷ xs) [] h = absurd h
alike-length R (x ∷ xs) (y ∷ ys) h = ap suc (alike-length R xs ys h.1)

pub alike-number : {X Y : Type 0} (R : X → Y → Type 0) (xs : List X) (ys : List Y) → AreAlike R xs ys → (p : ℕ) (x : X) → numbered_from_one p xs ≡ Some x → (y : Y) × (numbered_from_one p ys ≡ Some y) × R x y
alike-number R xs ys h zero x e = none-not_some e
alike-number R xs ys h (suc i) x e = alike-at R xs ys h i x e

alike-past : {X Y : Type 0} (R : X → Y → Type 0) (xs : List X) (ys : List Y) → AreAlike R xs ys → (i : ℕ) → slice_get xs i ≡ None → slice_get ys i ≡ None
alike-past R [] [] h i e = refl
alike-past R [] (y ∷ ys) h i e = absurd h
alike-past R (x ∷ xs) [] h i e = absurd h
alike-past R (x ∷ xs) (y ∷ ys) h zero e = none-not_some (sym e)
alike-past R (x ∷ xs) (y ∷ ys) h (suc i) e = alike-past R xs ys h.1 i e

pub alike-none : {X Y : Type 0} (R : X → Y → Type 0) (xs : List X) (ys : List Y) → AreAlike R xs ys → (p : ℕ) → numbered_from_one p xs ≡ None → numbered_from_one p ys ≡ None
alike-none R xs ys h zero e = refl
alike-none R xs ys h (suc i) e = alike-past R xs ys h i e

-- each process that stands for a state is alive
pub alike-alive : (image : Image) (main : ℕ) (ps : List ProcessState) (qs : List (CodeState ⊤)) → AreAlike (IsProcess image main) ps qs → AreAlive ps
alike-alive image main ps qs h q x there = let k = alike-number (IsProcess image main) ps qs h q x there in (k.2).alive

abbrev owner_of : Place → ℕ
owner_of (port n) = 0
owner_of (reply_cell p) = p
owner_of book = 0

abbrev cell_of : ℕ → Place
cell_of p = reply_cell p

module _ (image : Image) (main : ℕ) (works : WorksAsWorld image main) (limits : Limits) (argument : Text) (events : List Event) (w : Worked (CodeState Name)) (b : BareWorked (CodeState ⊤)) (shows : Shows image main limits argument events w b) where
  numbers : IsNumbered (named image main) w.run.system
  numbers = (shows.worked.sound.1.sound).numbers

  system-is : unnamed forget_code w.run.system ≡ b.system
  system-is = ap (λ (b : BareWorked (CodeState ⊤)). b.system) shows.seen

  pub limits-are : b.system.book.limits ≡ limits
  limits-are = ap (λ (v : Unnamed (CodeState ⊤)). v.book.limits) (sym system-is) ∙ run-limits (named image main) events (start (named image main) limits argument) w.run shows.comes

  same-many : length b.system.processes ≡ length w.run.system.processes
  same-many = ap (λ (v : Unnamed (CodeState ⊤)). length v.processes) (sym system-is) ∙ length-map forget_code w.run.system.processes

  made-many : length b.system.processes ≡ b.system.book.processes
  made-many = same-many ∙ numbers.book.0 ∙ ap (λ (v : Unnamed (CodeState ⊤)). v.book.processes) system-is

  made-few : length b.system.processes ≤ limits.processes
  made-few =
      let within : length w.run.system.processes ≤ w.run.system.book.limits.processes = shows.worked.within in
      let limited : w.run.system.book.limits.processes ≡ limits.processes = ap (λ (l : Limits). l.processes) (run-limits (named image main) events (start (named image main) limits argument) w.run shows.comes) in
      omega (arith, same-many, within, limited)

  pub processes-few : (ps : List ProcessState) → AreAlike (IsProcess image main) ps b.system.processes → length ps ≤ limits.processes
  processes-few ps alike = let long = alike-length (IsProcess image main) ps b.system.processes alike in omega (arith, made-few, long)

  module _ (ps : List ProcessState) (s : Places) (ready : List ℕ) (sees : Sees image main ps s ready b) where
    pub processes-many : length ps ≡ s.book.held.processes
    processes-many = alike-length (IsProcess image main) ps b.system.processes sees.processes ∙ made-many ∙ ap (λ (v : Unnamed (CodeState ⊤)). v.book.processes) (sym sees.places)

    pub are-numbered : AreNumbered s
    are-numbered = record {
      ports =
          sym (length-map port_seen s.ports)
          ∙ ap (λ (v : Unnamed (CodeState ⊤)). length v.ports) (sees.places ∙ sym system-is)
          ∙ length-map _ w.run.system.ports
          ∙ numbers.book.1
          ∙ ap (λ (v : Unnamed (CodeState ⊤)). suc v.book.ports) (system-is ∙ sym sees.places);
      replies =
          sym (length-map replies_seen s.replies)
          ∙ ap (λ (v : Unnamed (CodeState ⊤)). length v.replies) (sees.places ∙ sym system-is)
          ∙ length-map _ w.run.system.replies
          ∙ numbers.reply_cells
          ∙ numbers.book.0
          ∙ ap (λ (v : Unnamed (CodeState ⊤)). v.book.processes) (system-is ∙ sym sees.places);
    }

    pub are-alive : AreAlive ps
    are-alive = alike-alive image main ps b.system.processes sees.processes

    module _ (few : limits.processes ≤ 1024) (short : limits.steps ≤ 1000000) (told : AreTold w.run.journal limits.steps ps s) where
      pub clocks-fit : ClocksFit s
      clocks-fit place cell there = subst (λ n. n < 2 ^ 63) (sym (told.cells.cells place cell there).clock) ((works.runs.fit limits argument events w.run few short shows.comes).1 place)

      pub process-clock : (p : ℕ) (x : ProcessState) → numbered_from_one p ps ≡ Some x → x.clock < 2 ^ 63
      process-clock p x there = subst (λ n. n < 2 ^ 63) (sym (told.processes p x there).clock) ((works.runs.fit limits argument events w.run few short shows.comes).0 p)

    pub are-owned : AreTold w.run.journal limits.steps ps s → AreOwned s
    are-owned told p r there = ap owner_of ((told.cells).cells (reply_cell p) (reply_cell_of r) (ap (option_map reply_cell_of) there)).its
