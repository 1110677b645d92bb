-- Two machines that do the same, where their states correspond.
use Rattle.std.specs.Prelude.{ℕ, List, [], ◌∷◌, true, Option, Some, None, ◌≡◌, ◌↔◌, ⊤}
use Rattle.herm_model.specs.Values.{Name, cell, an_inport, no_parts}
use Rattle.herm_journal.specs.NextNumbers.{Limits}
use Rattle.herm_journal.specs.Entries.{Text, Place, Entry}
use Rattle.herm_journal.specs.Messages.{CellAction}
use Rattle.herm_system.specs.Machines.{Machine, is_local}
use Rattle.herm_system.specs.Systems.{System, Event, Run, run, start, main_port, number_of, IsFinal}
use Rattle.herm_system.specs.Rounds.{rounds}
use Rattle.herm_system.specs.Ledger.{held_by, finalised_by}
use Rattle.herm_system.specs.Statuses.{status_of}
use Rattle.herm_system.specs.RunTexts.{queues, Asked, text_of_run}
use Rattle.herm_system.specs.Summary.{counts}
use Rattle.herm_system.specs.ProcessFates.{fates}
use Rattle.herm_system.specs.Suiting.{Fulfils, Suits}
use Rattle.herm_system.specs.DiaryStates.{IsAfter}
use Rattle.herm_runs.specs.laws.DiaryLaws.{SuitsAlong, WouldSuit}

-- both are none, or both are there and correspond
abbrev pub BothOrNone : {X Y : Type 0} → (X → Y → Type 0) → Option X → Option Y → Type 0
BothOrNone R None None = ⊤
BothOrNone R None (Some y) = ⊥
BothOrNone R (Some x) None = ⊥
BothOrNone R (Some x) (Some y) = R x y

-- Two states show the same: all that a system asks of them, and what they hold and have finalised by every weight of names.
pub record ShowTheSame {N P Q : Type 0} (a : Machine N P) (b : Machine N Q) (x : P) (y : Q) : Type 0 where
  pub module_number : a.module_number x ≡ b.module_number y
  pub number : a.number x ≡ b.number y
  pub serial : a.serial x ≡ b.serial y
  pub steps : a.steps x ≡ b.steps y
  pub actions : a.actions x ≡ b.actions y
  pub exception : a.exception x ≡ b.exception y
  pub held : (w : N → ℕ) → held_by w a x ≡ held_by w b y
  pub finalised : (w : N → ℕ) → finalised_by w a x ≡ finalised_by w b y
  pub port_types : (n : ℕ) → a.port_type x n ≡ b.port_type y n
  pub open_calls : a.open_call x ≡ b.open_call y
  pub ready : (limit : ℕ) → a.ready limit x ≡ b.ready limit y
  pub wanted : a.wanted x ≡ b.wanted y

-- Each local step of the one is exactly one of the other between states that correspond, and so is each beginning at a plain
-- inport, and each answer to what is wanted at a place where it may be done, where what comes in suits.
pub record AreJoined {N P Q : Type 0} (a : Machine N P) (b : Machine N Q) (R : P → Q → Type 0) : Type 0 where
  pub types : a.types ≡ b.types
  pub main : a.main ≡ b.main
  pub shows : (x : P) (y : Q) → R x y → ShowTheSame a b x y
  pub begins : (code number port : ℕ) (n : N) → BothOrNone R (a.begin code number (cell n (an_inport port) no_parts)) (b.begin code number (cell n (an_inport port) no_parts))
  pub local_steps : (limit : ℕ) (x : P) (y : Q) → R x y → is_local (a.ready limit x) ≡ true → BothOrNone R (a.local_step x) (b.local_step y)
  pub answers : (x : P) (y : Q) (place : Place) (action : CellAction N) → R x y → Fulfils a x place action → Suits a x (number_of place) action
      → BothOrNone R (a.answered x (number_of place) action) (b.answered y (number_of place) action)
  pub puts_aside : (x : P) (y : Q) → R x y → R (a.put_aside x) (b.put_aside y)

-- the processes of two systems correspond, one by one
abbrev pub EachOf : {P Q : Type 0} → (P → Q → Type 0) → List P → List Q → Type 0
EachOf R [] [] = ⊤
EachOf R [] (y ∷ ys) = ⊥
EachOf R (x ∷ xs) [] = ⊥
EachOf R (x ∷ xs) (y ∷ ys) = R x y × EachOf R xs ys

-- Two systems correspond: their processes do, and their ports, replies and books are equal.
pub record Correspond {P Q : Type 0} (R : P → Q → Type 0) (s : System P) (t : System Q) : Type 0 where
  pub processes : EachOf R s.processes t.processes
  pub ports : s.ports ≡ t.ports
  pub replies : s.replies ≡ t.replies
  pub book : s.book ≡ t.book

-- Two runs look alike from outside: their journals are equal, their systems correspond, and what became of the processes,
-- queues, numbers, status and text are equal; the one is at its end exactly where the other is.
pub record LookAlike {P Q : Type 0} (a : Machine Name P) (b : Machine Name Q) (R : P → Q → Type 0) (r : Run P) (q : Run Q) : Type 0 where
  pub journal : r.journal ≡ q.journal
  pub systems : Correspond R r.system q.system
  pub ends : fates a r.system ≡ fates b q.system
  pub queued : queues r.system ≡ queues q.system
  pub counts : counts a r.system ≡ counts b q.system
  pub status : status_of a r.system ≡ status_of b q.system
  pub text : (names : List Text) (asked : Asked) → text_of_run names asked a r ≡ text_of_run names asked b q
  pub final : IsFinal a r.system ↔ IsFinal b q.system

-- What events lead to in the one machine, which has a main, where what comes in suits, they lead to in the other: it looks alike, and what comes
-- in suits there.
abbrev pub RunTogether : {P Q : Type 0} → Machine Name P → Machine Name Q → (P → Q → Type 0) → Type 0
RunTogether {P} {Q} a b R = (limits : Limits) (argument : Text) (main : P) (events : List Event) (r : Run P) → a.begin a.main 1 main_port ≡ Some main → run a events (start a limits argument) ≡ Some r → SuitsAlong a events (start a limits argument)
    → (q : Run Q) × (run b events (start b limits argument) ≡ Some q) × LookAlike a b R r q × SuitsAlong b events (start b limits argument)

-- What a diary leads to in the one machine, it leads to in the other.
abbrev pub DiariesTogether : {P Q : Type 0} → Machine ⊤ P → Machine ⊤ Q → (P → Q → Type 0) → Type 0
DiariesTogether {P} {Q} a b R = (limit : ℕ) (entries : List Entry) (n : ℕ) (x x' : P) (y : Q) → R x y → IsAfter a limit x entries n x' → (y' : Q) × IsAfter b limit y entries n y' × R x' y'

-- the same relation seen from the other side
abbrev pub turned : {P Q : Type 0} → (P → Q → Type 0) → Q → P → Type 0
turned R y x = R x y

-- Let whatever can be done suit in every state that the one machine, which has a main, leads to. Then each run of the other is
-- one of the one and looks alike, what comes in suits in both, and whatever can be done would suit in the other too.
abbrev pub RunsFollow : {P Q : Type 0} → Machine Name P → Machine Name Q → (P → Q → Type 0) → Type 0
RunsFollow {P} {Q} a b R = (limits : Limits) (argument : Text) (main : P) → a.begin a.main 1 main_port ≡ Some main → ((events : List Event) (r : Run P) → run a events (start a limits argument) ≡ Some r → WouldSuit a r.system)
    → (events : List Event) (q : Run Q) → run b events (start b limits argument) ≡ Some q
    → (r : Run P) × (run a events (start a limits argument) ≡ Some r) × LookAlike b a (turned R) q r × SuitsAlong a events (start a limits argument) × SuitsAlong b events (start b limits argument) × WouldSuit b q.system

-- There the rounds of the other are the rounds of the one, and look alike.
abbrev pub RoundsFollow : {P Q : Type 0} → Machine Name P → Machine Name Q → (P → Q → Type 0) → Type 0
RoundsFollow {P} {Q} a b R = (limits : Limits) (argument : Text) (main : P) → a.begin a.main 1 main_port ≡ Some main → ((events : List Event) (r : Run P) → run a events (start a limits argument) ≡ Some r → WouldSuit a r.system)
    → (most : ℕ) (q : Run Q) → rounds most b (start b limits argument) ≡ Some q → (r : Run P) × (rounds most a (start a limits argument) ≡ Some r) × LookAlike b a (turned R) q r

-- Two states correspond where they are the two of a pair. So is said any relation, by the type of the pairs that it has.
abbrev pub ArePaired : {J P Q : Type 0} → (J → P) → (J → Q) → P → Q → Type 0
ArePaired {J} left right x y = (j : J) × (left j ≡ x) × (right j ≡ y)
