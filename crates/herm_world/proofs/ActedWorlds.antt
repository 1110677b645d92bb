-- A world behind an action of a process, before anybody is looked at again: what it holds, and what its diaries and histories tell.
use Rattle.std.proofs.Common.{◌≡◌, ℕ, List, [], ◌∷◌, ◌++◌, Bool, true, false, cond, ◌||◌, nat_eq, Some, None, inl, inr, refl, sym, ap, ap₂, ◌∙◌}
use Rattle.std.specs.Prelude.{⊤}
use Rattle.std.proofs.lemmas.Bool.{eqb-true}
use Rattle.herm_model.proofs.Options.{none-not_some}
use Rattle.herm_journal.specs.Actions.{make_port, make_process, put, take, close, answer, hear}
use Rattle.herm_journal.specs.Entries.{Entry, recorded}
use Rattle.herm_journal.specs.Journals.{part_of_process}
use Rattle.herm_journal.specs.Messages.{CellAction, CellWant}
use Rattle.herm_journal.specs.Stamps.{clock_of_process, is_maker_of}
use Rattle.herm_instructions.specs.Images.{Image}
use Rattle.herm_system.specs.Systems.{numbered_from_one, set_from_one}
use Rattle.herm_code_machine.specs.CodeStates.{CodeState}
use Rattle.herm_waking.specs.UnnamedRounds.{BareWorked}
use Rattle.herm_waking.specs.Waking.{waiters_behind}
use Rattle.herm_waking.specs.laws.EntryLaws.{GrowsBy}
use Rattle.herm_waking.proofs.EntriesGrow.{journals-grow}
use Rattle.herm_machine.specs.declared.order.Got.{Got}
use Rattle.herm_process.specs.Processes.{ProcessState, IsProcess}
use Rattle.herm_queue.specs.SeenCells.{seen_action}
use Rattle.herm_world.specs.Births.{birth_of_process, birth_view}
use Rattle.herm_world.specs.Doing.{Does}
use Rattle.herm_world.specs.Places.{Places, seen_of}
use Rattle.herm_world.specs.Worlds.{Sees, AreTold, IsToldOf}
use Rattle.herm_world.proofs.BirthsGrow.{birth-stays}
use Rattle.herm_world.proofs.ActedSees.{alike-one, alike-push, made_by}
use Rattle.herm_world.proofs.DoesAtReplies.{number-cases, number-none}

module _ (image : Image) (main : ℕ) (ps : List ProcessState) (s new : Places) (ready : List ℕ) (b : BareWorked (CodeState ⊤)) (sees : Sees image main ps s ready b) (p clock : ℕ) (want : CellWant ⊤) (got : Got) (stamp : ℕ) (woken : List ℕ)
    (does : Does p clock want s new got stamp woken) (left : ProcessState) (y : CodeState ⊤) (stands : IsProcess image main left y) where
  -- the world with these states, as the action leaves it
  abbrev pub world_behind : List (CodeState ⊤) → BareWorked (CodeState ⊤)
  world_behind qs = record { system = seen_of qs new; kept = record { ready = b.kept.ready; waiters = waiters_behind does.place (seen_action does.action) b.kept.waiters } }

  pub acted-sees : Sees image main (set_from_one p left ps) new ready (world_behind (set_from_one p y b.system.processes))
  acted-sees = record {
    processes = alike-one (IsProcess image main) ps b.system.processes sees.processes p left y stands;
    places = refl;
    ready_is = sees.ready_is;
    waiters = does.noted ∙ ap (waiters_behind does.place (seen_action does.action)) sees.waiters;
  }

  -- and with the process that it made
  pub made-sees : (begun : ProcessState) (z : CodeState ⊤) → IsProcess image main begun z → Sees image main (set_from_one p left ps ++ begun ∷ []) new ready (world_behind (set_from_one p y b.system.processes ++ z ∷ []))
  made-sees begun z begins = record {
    processes = alike-push (IsProcess image main) (set_from_one p left ps) (set_from_one p y b.system.processes) acted-sees.processes begun z begins;
    places = refl;
    ready_is = sees.ready_is;
    waiters = does.noted ∙ ap (waiters_behind does.place (seen_action does.action)) sees.waiters;
  }

-- an action that makes no process makes none of any number
pub no-maker : (q : ℕ) (a : CellAction ⊤) → made_by a ≡ None → is_maker_of q (recorded a) ≡ false
no-maker q (make_port made) e = refl
no-maker q (make_process code None) e = refl
no-maker q (make_process code (Some made)) e = none-not_some (sym e)
no-maker q (put number m) e = refl
no-maker q (take number m) e = refl
no-maker q (close count left) e = refl
no-maker q (answer call r) e = refl
no-maker q (hear call r) e = refl

module _ (journal : List Entry) (limit : ℕ) (ps : List ProcessState) (s new : Places) (told : AreTold journal limit ps s) (p clock : ℕ) (want : CellWant ⊤) (got : Got) (stamp : ℕ) (woken : List ℕ) (does : Does p clock want s new got stamp woken)
    (before left : ProcessState) (there : numbered_from_one p ps ≡ Some before) where
  abbrev pub entry_of : Entry
  entry_of = record { stamp = stamp; process = p; place = does.place; action = recorded (seen_action does.action) }

  grows : GrowsBy journal entry_of
  grows = journals-grow journal entry_of

  -- the process has the entry at the end of its diary, and its stamp as its clock, and nothing else of it that is told changes
  module _ (diary : left.diary ≡ before.diary ++ entry_of ∷ []) (at_stamp : left.clock ≡ stamp) (number : left.number ≡ before.number) (its_limit : left.limit ≡ before.limit) (its_birth : left.birth ≡ before.birth) (free : left.ordered ≡ None) (makers : (q : ℕ) (x : ProcessState) → numbered_from_one q ps ≡ Some x → is_maker_of q (recorded (seen_action does.action)) ≡ false) where
    own : (q : ℕ) (x : ProcessState) → nat_eq p q ≡ true → left ≡ x → IsToldOf (journal ++ entry_of ∷ []) limit q x
    own q x same is =
        let was = told.processes p before there in
        let at = eqb-true p q same in
        record {
          number = ap (λ (x : ProcessState). x.number) (sym is) ∙ number ∙ was.number ∙ at;
          limit_is = ap (λ (x : ProcessState). x.limit) (sym is) ∙ its_limit ∙ was.limit_is;
          born =
              ap (λ (x : ProcessState). birth_view x.birth) (sym is) ∙ ap birth_view its_birth ∙ was.born ∙ ap (λ q. birth_of_process q journal) at
              ∙ sym (birth-stays q journal entry_of (makers q before (ap (λ q. numbered_from_one q ps) (sym at) ∙ there)));
          diary =
              ap (λ (x : ProcessState). x.diary) (sym is) ∙ diary ∙ ap (λ es. es ++ entry_of ∷ []) (was.diary ∙ ap (λ q. part_of_process q journal) at)
              ∙ sym (grows.diaries q ∙ ap (λ b. cond b (part_of_process q journal ++ entry_of ∷ []) (part_of_process q journal)) same);
          clock =
              ap (λ (x : ProcessState). x.clock) (sym is) ∙ at_stamp
              ∙ sym (grows.process_clocks q ∙ ap (λ b. cond (b || is_maker_of q entry_of.action) stamp (clock_of_process q journal)) same);
          free = ap (λ (x : ProcessState). x.ordered) (sym is) ∙ free;
        }

    other : (q : ℕ) (x : ProcessState) → nat_eq p q ≡ false → numbered_from_one q ps ≡ Some x → IsToldOf (journal ++ entry_of ∷ []) limit q x
    other q x apart found =
        let was = told.processes q x found in
        record {
          number = was.number;
          limit_is = was.limit_is;
          born = was.born ∙ sym (birth-stays q journal entry_of (makers q x found));
          diary = was.diary ∙ sym (grows.diaries q ∙ ap (λ b. cond b (part_of_process q journal ++ entry_of ∷ []) (part_of_process q journal)) apart);
          clock =
              was.clock
              ∙ sym (grows.process_clocks q ∙ ap₂ (λ b c. cond (b || c) stamp (clock_of_process q journal)) apart (makers q x found));
          free = was.free;
        }

    absent : (q : ℕ) → numbered_from_one q ps ≡ None → (b : Bool) → nat_eq p q ≡ b → b ≡ false
    absent q nobody true e = none-not_some (sym nobody ∙ ap (λ q. numbered_from_one q ps) (sym (eqb-true p q e)) ∙ there)
    absent q nobody false e = refl

    pub acted-told : AreTold (journal ++ entry_of ∷ []) limit (set_from_one p left ps) new
    acted-told = record {
      processes = λ q x found. elim (number-cases ps p q left x found) [ inl h ↦ own q x h.0 h.1 | inr h ↦ other q x h.0 h.1 ];
      fresh = λ q nobody.
          let before_none = number-none ps p q left nobody in
          grows.diaries q ∙ ap (λ b. cond b (part_of_process q journal ++ entry_of ∷ []) (part_of_process q journal)) (absent q before_none (nat_eq p q) refl) ∙ told.fresh q before_none;
      cells = does.records journal told.cells;
    }
