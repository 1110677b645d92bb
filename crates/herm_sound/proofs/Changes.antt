-- What an event changes, by one process: all that the law of a step reads of the systems before and behind it.
use Rattle.std.proofs.Common.{◌≡◌, ◌⊎◌, inl, inr, ℕ, ◌+◌, List, [], ◌∷◌, ◌++◌, length, Bool, true, Option, Some, None, slice_get, refl, ◌∙◌, arith}
use Rattle.std.specs.Prelude.{IsTrue}
use Rattle.herm_model.specs.Lists.{IsIn, list_of}
use Rattle.herm_model.specs.Values.{Name, Kind, Cell}
use Rattle.herm_model.proofs.Options.{none-not_some}
use Rattle.herm_journal.specs.Actions.{to_put, to_close, to_answer, make_port, make_process, put, answer}
use Rattle.herm_journal.specs.Messages.{CellReply, CellWant, CellAction, is_inport}
use Rattle.herm_system.specs.Machines.{Machine}
use Rattle.herm_system.specs.Summary.{how_many}
use Rattle.herm_system.specs.Systems.{System, numbered_from_one, set_process}
use Rattle.herm_system.specs.Kinds.{unfinalised, is_inport_of, is_callmessage_of}
use Rattle.herm_system.specs.Sound.{one_if, IsSoundWith}
use Rattle.herm_system.specs.Suiting.{Answers, Suits}
use Rattle.herm_runs.specs.Counting.{IsOfWaiting, kinds_made, kinds_ended}
use Rattle.herm_runs.proofs.Numbered.{set-found_from_one}
use Rattle.herm_runs.proofs.Stands.{IsNew}
use Rattle.herm_runs.proofs.SystemLedger.{total-from_one}
use Rattle.herm_sound.specs.Standing.{StandsAt, AllStand, OutportsStand, typed_places, typed_coming, typed_made, typed_going}
use Rattle.herm_sound.specs.SoundMachines.{CallMoves, HasFor, KeepsSound}
use Rattle.herm_sound.proofs.Places.{QueuedFrom, same-queued}
use Rattle.herm_sound.proofs.Counted.{of_process, unfinalised-parts}
use Rattle.herm_sound.proofs.ReplyCells.{own-from_one, other-from_one, RepliedFrom, same-replied, replied, heard_of}
use Rattle.herm_sound.proofs.OpenPorts.{open_at}
use Rattle.herm_sound.proofs.MadeSystems.{made_port}
use Rattle.herm_sound.proofs.TypedCells.{AllPlaced}

-- the kinds of what is finalised with what was wanted, if anything was
abbrev pub ended : Option (CellWant Name) → List Kind
ended None = []
ended (Some w) = kinds_ended w

-- a message went out to a port, a reply to a reply cell
abbrev pub WentTo : Option (CellWant Name) → CellAction Name → ℕ → Cell Name → Type 0
WentTo w a n m = (w ≡ Some (to_put n m)) × ((k : ℕ) × (a ≡ put (Some k) m))

abbrev pub AnsweredTo : Option (CellWant Name) → CellAction Name → ℕ → ℕ × CellReply Name → Type 0
AnsweredTo w a q r = (w ≡ Some (to_answer q r.0 r.1)) × (a ≡ answer r.0 r.1)

module _ {P : Type 0} (machine : Machine Name P) (Is : P → Type 0) (keeps : KeepsSound machine Is) where
  -- the type of the port that an action makes
  abbrev pub made_type : P → CellAction Name → Option ℕ
  made_type x (make_port (Some n)) = keeps.new_type x
  made_type x (make_process code (Some made)) = keeps.first_type code
  made_type x a = None

  abbrev pub new_types : P → CellAction Name → List ℕ
  new_types x a = list_of (λ t. t ∷ []) (made_type x a)

  -- the types of ports grow with the ports
  pub record Grows (x : P) (a : CellAction Name) (before behind : ℕ) : Type 0 where
    pub lengths : behind ≡ before + length (new_types x a)
    pub inports : (u : ℕ) → IsIn u (new_types x a) → IsTrue (is_inport (slice_get machine.types u))
    pub made : (ports : List ℕ) → length ports ≡ before → (u n : ℕ) → made_port a ≡ Some n → made_type x a ≡ Some u → slice_get (ports ++ new_types x a) n ≡ Some u

  -- One process changes from x to y. It wanted something or made a local step, which counts as a port that it was refused.
  pub record IsChange (ports : List ℕ) (s t : System P) (p : ℕ) (x y : P) (w : Option (CellWant Name)) (at : ℕ) (a : CellAction Name) : Type 0 where
    pub was : numbered_from_one p s.processes ≡ Some x
    pub now : numbered_from_one p t.processes ≡ Some y
    pub found : (q : ℕ) (z : P) → numbered_from_one q t.processes ≡ Some z → ((p ≡ q) × (y ≡ z)) ⊎ ((numbered_from_one q s.processes ≡ Some z) ⊎ IsNew machine x a s q z)
    pub stays : (q : ℕ) (z : P) → (p ≡ q → ⊥) → numbered_from_one q s.processes ≡ Some z → numbered_from_one q t.processes ≡ Some z
    pub number : (machine.number x ≡ p) × (machine.number y ≡ p)
    pub messages : QueuedFrom (WentTo w a) s.ports t.ports
    pub answers : RepliedFrom (AnsweredTo w a) s.replies t.replies
    pub replies : (q k : ℕ) → replied t.replies q k + heard_of p a q k ≡ replied s.replies q k + how_many (is_callmessage_of q k) (ended w)
    pub grows : Grows x a (length s.ports) (length t.ports)
    pub opens : ((n : ℕ) → w ≡ Some (to_close n) → open_at s.ports n ≡ true)
        → (n : ℕ) → one_if (open_at t.ports n) + how_many (is_inport_of n) (ended w) ≡ one_if (open_at s.ports n) + how_many (is_inport_of n) (kinds_made machine y a)
    pub counts : (test : Kind → Bool) → IsOfWaiting test → how_many test (unfinalised machine t) + how_many test (ended w) ≡ how_many test (unfinalised machine s) + how_many test (kinds_made machine y a)
    pub is : Is y
    pub calls : CallMoves machine x y a
    pub suits : Suits machine x at a
    pub has : (want : CellWant Name) → w ≡ Some want → HasFor machine keeps.first_type keeps.new_type x want × Answers want a
    pub comes : (more : List ℕ) (calls : ℕ → ℕ → Option ℕ) → AllPlaced machine ports (StandsAt machine.types more calls) s → AllStand machine.types more calls (typed_coming machine x at a)
    pub stands : (ports : List ℕ) (calls : ℕ → ℕ → Option ℕ) → AllStand machine.types ports calls (typed_places machine x) → OutportsStand machine.types ports (keeps.beside x)
        → AllStand machine.types ports calls (typed_coming machine x at a) → AllStand machine.types ports calls (typed_made machine keeps.first_type keeps.new_type x y a)
        → AllStand machine.types ports calls (typed_places machine y) × OutportsStand machine.types ports (keeps.beside y) × ((want : CellWant Name) → w ≡ Some want → AllStand machine.types ports calls (typed_going machine.types ports calls want a))

  -- a local step
  module _ (ports : List ℕ) (s : System P) (sound : IsSoundWith machine Is ports s) where
    pub local-change : (p : ℕ) (x y : P) → numbered_from_one p s.processes ≡ Some x → machine.local_step x ≡ Some y → IsChange ports s (set_process p y s) p x y None 0 (make_port None)
    local-change p x y is does =
        let before = sound.processes p x is in
        let number = (sound.numbers.processes p x is).0 in
        record {
          was = is;
          now = own-from_one s.processes p x y is;
          found = λ q z e. first q z (set-found_from_one s.processes p q y z e);
          stays = λ q z apart e. other-from_one s.processes p q y apart ∙ e;
          number = (number, (keeps.numbers.local_steps x y does).0 ∙ number);
          messages = same-queued (WentTo None (make_port None)) s.ports;
          answers = same-replied (AnsweredTo None (make_port None)) s.replies;
          replies = λ q k. refl;
          grows = record { lengths = omega arith; inports = λ u h. absurd h; made = λ ports e u n none. none-not_some none };
          opens = λ ready n. refl;
          counts = λ test of. omega (
            arith,
            unfinalised-parts test machine s,
            unfinalised-parts test machine (set_process p y s),
            total-from_one (of_process test machine) s.processes p x y is,
            keeps.counts.local_steps test of x y before does,
          );
          is = (keeps.processes.local_steps x y before does).0;
          calls = (keeps.processes.local_steps x y before does).1;
          suits = tt;
          has = λ want e. none-not_some e;
          comes = λ more calls all t k h. absurd h;
          stands = λ ports calls all beside comes makes.
              let both = (keeps.standing ports calls).local_steps x y before does all beside in
              (both.0, both.1, λ want e. none-not_some e);
        }
      where
        first : (q : ℕ) (z : P) → ((p ≡ q) × (y ≡ z)) ⊎ (numbered_from_one q s.processes ≡ Some z) → ((p ≡ q) × (y ≡ z)) ⊎ ((numbered_from_one q s.processes ≡ Some z) ⊎ IsNew machine x (make_port None) s q z)
        first q z (inl e) = inl e
        first q z (inr e) = inr (inl e)
