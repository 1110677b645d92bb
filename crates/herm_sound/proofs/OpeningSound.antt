-- The state at the start is sound, and so is each that events lead to from there.
use Rattle.std.proofs.Common.{◌≡◌, inl, inr, ℕ, zero, suc, ◌+◌, List, [], ◌∷◌, length, Bool, true, false, cond, Some, None, slice_get, refl, sym, ap, subst, ◌∙◌, arith}
use Rattle.std.proofs.lemmas.Bool.Decides.{nat_tests}
use Rattle.std.specs.Prelude.{nat_eq, IsTrue}
use Rattle.herm_model.specs.Lists.{IsIn, list_of}
use Rattle.herm_model.specs.Typed.{is_text}
use Rattle.herm_model.specs.Values.{Name, Kind, a_callmessage, an_inport, an_outport, Cell}
use Rattle.herm_model.proofs.Options.{some-injective, none-not_some, chain-some, map-some}
use Rattle.herm_journal.specs.NextNumbers.{Limits, first_book}
use Rattle.herm_journal.specs.Ports.{Port, empty_port, port_with, left_in}
use Rattle.herm_journal.specs.Entries.{Text}
use Rattle.herm_journal.specs.Messages.{CellReply, IsMessage, message_of_port, is_inport}
use Rattle.herm_system.specs.Machines.{Machine}
use Rattle.herm_system.specs.Ledger.{HasLedger}
use Rattle.herm_system.specs.Summary.{how_many}
use Rattle.herm_system.specs.Systems.{System, Run, run, run_on, step, start, opening, opening_name, main_port, console_port, first_message, numbered_from_one}
use Rattle.herm_system.specs.Kinds.{kinds_of, typed_of, replies_of, unfinalised, has_open, is_open_port, is_inport_of, is_callmessage_of}
use Rattle.herm_system.specs.Sound.{one_if, console_type, IsNumbered, IsSoundWith}
use Rattle.herm_runs.specs.Counting.{IsOfWaiting}
use Rattle.herm_runs.proofs.Numbered.{opening-numbered, numbered-once}
use Rattle.herm_runs.proofs.SystemLedger.{opening-balance}
use Rattle.herm_sound.specs.Standing.{at_type, StandsAt, AllStand, OutportsStand, typed_places}
use Rattle.herm_sound.specs.SoundBeside.{IsSoundBeside}
use Rattle.herm_sound.specs.SoundMachines.{KeepsSound, BeginsSound}
use Rattle.herm_sound.specs.laws.SoundLaws.{OpeningIsSound, RunsKeepSound, RunsAreSound, StatesAlongAreSound}
use Rattle.herm_sound.proofs.Counted.{unfinalised-parts}
use Rattle.herm_sound.proofs.TypedCells.{AllPlaced, placed-all}
use Rattle.herm_sound.proofs.OpenCalls.{open-with}
use Rattle.herm_sound.proofs.KeptSound.{inports-wait, callmessages-wait, steps-keep-sound}

one-is : (i n : ℕ) → (b : Bool) → nat_eq i n ≡ b → how_many (is_inport_of n) (an_inport i ∷ []) ≡ one_if b
one-is i n b e = ap (λ b. length (cond b (an_inport i ∷ []) [])) e ∙ by b
  where
    by : (b : Bool) → length (cond b (an_inport i ∷ []) []) ≡ one_if b
    by true = refl
    by false = refl

not-first : (n : ℕ) → nat_eq 0 (suc n) ≡ false
not-first n = grind (arith, nat_tests)

not-second : (n : ℕ) → nat_eq 1 (suc (suc n)) ≡ false
not-second n = grind (arith, nat_tests)

module _ {P : Type 0} (machine : Machine Name P) (Is : P → Type 0) (keeps : KeepsSound machine Is) (begins : BeginsSound machine keeps.first_type) where
  module _ (limits : Limits) (argument : Text) (texts : IsTrue (is_text argument)) where
    abbrev first : P
    first = begins.main.0

    is-first : machine.begin machine.main 1 main_port ≡ Some first
    is-first = begins.main.1

    closed : machine.open_call first ≡ None
    closed = (keeps.processes.begins machine.main 1 1 (opening_name 1) first is-first).1

    abbrev ports : List ℕ
    ports = console_type ∷ begins.port_type ∷ []

    -- the opening state, with main's process in place
    abbrev opened : System P
    opened = record { processes = first ∷ []; ports = empty_port ∷ port_with (first_message argument) ∷ []; replies = [] ∷ []; book = first_book limits }

    same-opening : opening machine limits argument ≡ opened
    same-opening = ap (λ o. record { processes = list_of (λ x. x ∷ []) o; ports = empty_port ∷ port_with (first_message argument) ∷ []; replies = [] ∷ []; book = first_book limits }) is-first

    of-first : (X : P → Type 0) → X first → (p : ℕ) (z : P) → numbered_from_one p opened.processes ≡ Some z → X z
    of-first X h zero z e = none-not_some e
    of-first X h (suc zero) z e = subst X (some-injective e) h
    of-first X h (suc (suc p)) z e = none-not_some e

    no-reply : (p : ℕ) (r : ℕ × CellReply Name) → IsIn r (replies_of opened p) → ⊥
    no-reply zero r h = absurd h
    no-reply (suc zero) r h = absurd h
    no-reply (suc (suc p)) r h = absurd h

    no-count : (p k : ℕ) → how_many (λ (r : ℕ × CellReply Name). nat_eq r.0 k) (replies_of opened p) ≡ 0
    no-count zero k = refl
    no-count (suc zero) k = refl
    no-count (suc (suc p)) k = refl

    messages : (n t : ℕ) (q : Port (Cell Name)) (m : Cell Name) → slice_get ports n ≡ Some t → slice_get opened.ports n ≡ Some q → IsIn m (left_in q) → IsMessage machine.types t m
    messages zero t q m types there member = absurd (subst (λ (q : Port (Cell Name)). IsIn m (left_in q)) (sym (some-injective there)) member)
    messages (suc zero) t q m types there member = by (subst (λ (q : Port (Cell Name)). IsIn m (left_in q)) (sym (some-injective there)) member)
      where
        by : IsIn m (first_message argument ∷ []) → IsMessage machine.types t m
        by (inl e) = subst (IsMessage machine.types t) (sym e) (subst (λ t. IsMessage machine.types t (first_message argument)) (some-injective types) (begins.message argument texts))
        by (inr h) = absurd h
    messages (suc (suc n)) t q m types there member = none-not_some types

    inport-types : (n t : ℕ) → slice_get ports n ≡ Some t → IsTrue (is_inport (slice_get machine.types t))
    inport-types zero t e = subst (λ t. IsTrue (is_inport (slice_get machine.types t))) (some-injective e) begins.console
    inport-types (suc zero) t e = subst (λ t. IsTrue (is_inport (slice_get machine.types t))) (some-injective e) begins.inport
    inport-types (suc (suc n)) t e = none-not_some e

    -- the two inports are those of the two ports
    own-kinds : (test : Kind → Bool) → IsOfWaiting test → how_many test (unfinalised machine opened) ≡ how_many test (kinds_of console_port) + (how_many test (kinds_of main_port) + 0) + (0 + (how_many test (kinds_of (first_message argument)) + 0 + 0) + (0 + 0))
    own-kinds test of =
        let all = unfinalised-parts test machine opened in
        let own = keeps.counts.begins test of machine.main 1 1 (opening_name 1) first is-first in
        omega (arith, all, own)

    inports : (n : ℕ) → how_many (is_inport_of n) (unfinalised machine opened) ≡ one_if (is_open_port opened n)
    inports n = omega (arith, own-kinds (is_inport_of n) (inports-wait n), by n)
      where
        by : (n : ℕ) → how_many (is_inport_of n) (an_inport 0 ∷ []) + (how_many (is_inport_of n) (an_inport 1 ∷ []) + 0) + (0 + (0 + 0 + 0) + (0 + 0)) ≡ one_if (is_open_port opened n)
        by zero = refl
        by (suc zero) = refl
        by (suc (suc n)) = omega (arith, one-is 0 (suc (suc n)) false (not-first (suc n)), one-is 1 (suc (suc n)) false (not-second n))

    no-call : (p k : ℕ) → has_open machine opened p k ≡ false
    no-call zero k = refl
    no-call (suc zero) k = open-with machine opened 1 first None k refl closed
    no-call (suc (suc p)) k = refl

    no-callmessages : (p k : ℕ) → how_many (is_callmessage_of p k) (unfinalised machine opened) ≡ 0
    no-callmessages p k = omega (arith, own-kinds (is_callmessage_of p k) (callmessages-wait p k))

    abbrev Stands : ℕ → Kind → Type 0
    Stands = StandsAt machine.types ports (λ caller call. None)

    first-stands : AllStand machine.types ports (λ caller call. None) (typed_places machine first) × OutportsStand machine.types ports (keeps.beside first)
    first-stands = (keeps.standing ports (λ caller call. None)).begins machine.main 1 1 (opening_name 1) first is-first
        (subst (λ o. AllStand machine.types ports (λ caller call. None) (at_type (an_inport 1) o)) (sym begins.types) one)
      where
        one : AllStand machine.types ports (λ caller call. None) ((begins.port_type, an_inport 1) ∷ [])
        one t k (inl e) = subst (λ (x : ℕ × Kind). Stands x.0 x.1) (sym e) refl
        one t k (inr h) = absurd h

    queued-stand : (n t u : ℕ) (q : Port (Cell Name)) (m : Cell Name) → slice_get ports n ≡ Some t → message_of_port machine.types t ≡ Some u → slice_get opened.ports n ≡ Some q → IsIn m (left_in q)
        → (t : ℕ) (k : Kind) → IsIn (t, k) (typed_of machine.types u m) → Stands t k
    queued-stand zero t u q m types of there member = absurd (subst (λ (q : Port (Cell Name)). IsIn m (left_in q)) (sym (some-injective there)) member)
    queued-stand (suc zero) t u q m types of there member = by (subst (λ (q : Port (Cell Name)). IsIn m (left_in q)) (sym (some-injective there)) member)
      where
        by : IsIn m (first_message argument ∷ []) → (t : ℕ) (k : Kind) → IsIn (t, k) (typed_of machine.types u m) → Stands t k
        by (inl e) j k h = begins.stands argument u (ap (message_of_port machine.types) (some-injective types) ∙ of) j k (subst (λ m. IsIn (j, k) (typed_of machine.types u m)) e h)
        by (inr h) j k i = absurd h
    queued-stand (suc (suc n)) t u q m types of there member = none-not_some types

    placed : AllPlaced machine ports Stands opened
    placed = record {
      held = λ q z is. of-first (λ z. (t : ℕ) (k : Kind) → IsIn (t, k) (typed_places machine z) → Stands t k) first-stands.0 q z is;
      waiting = λ q z call r is opens member t k h. absurd (no-reply q r member);
      queued = queued-stand;
    }

    opened-sound : IsSoundWith machine Is ports opened
    opened-sound =
        let numbers = subst (IsNumbered machine) same-opening (opening-numbered machine keeps.numbers limits argument first is-first) in
        record {
          processes = of-first Is (keeps.processes.begins machine.main 1 1 (opening_name 1) first is-first).0;
          messages = messages;
          replies = λ p x call r is opens member. absurd (no-reply p r member);
          ledger = subst (HasLedger machine) same-opening (λ w. opening-balance machine keeps.ledger w limits argument first is-first);
          once = numbered-once machine opened numbers;
          ports = record {
            types = refl;
            inport_types = inport-types;
            console = refl;
            inports = inports;
            inports_stand = λ t n h. placed-all machine ports opened Stands placed t (an_inport n) h;
            outports_stand = λ t n h. placed-all machine ports opened Stands placed t (an_outport n) h;
          };
          calls = record {
            answers = λ p k. omega (arith, no-callmessages p k, no-count p k, ap one_if (no-call p k));
            callmessages_stand = λ t p k h. none-not_some (placed-all machine ports opened Stands placed t (a_callmessage p k) h);
          };
          numbers = numbers;
        }

    sound-opening : IsSoundBeside machine Is keeps.beside (opening machine limits argument)
    sound-opening =
        subst (IsSoundBeside machine Is keeps.beside) (sym same-opening)
        (ports, record { sound = opened-sound; stands = of-first (λ z. OutportsStand machine.types ports (keeps.beside z)) first-stands.1 })

  pub opening-is-sound : OpeningIsSound machine Is keeps.beside
  opening-is-sound limits argument texts = sound-opening limits argument texts

pub runs-keep-sound : {P : Type 0} (machine : Machine Name P) (Is : P → Type 0) → (keeps : KeepsSound machine Is) → RunsKeepSound machine Is keeps.beside
runs-keep-sound machine Is keeps [] r t e sound = subst (λ (r : Run _). IsSoundBeside machine Is keeps.beside r.system) (some-injective e) sound
runs-keep-sound machine Is keeps (e ∷ events) r t is sound =
    let b = chain-some (run machine events) (run_on machine e r) t is in
    let m = map-some _ (step machine e r.system) b.0 b.1 in
    runs-keep-sound machine Is keeps events b.0 t b.2 (subst (λ (r : Run _). IsSoundBeside machine Is keeps.beside r.system) m.2 (steps-keep-sound machine Is keeps e r.system m.0 m.1 sound))

module _ {P : Type 0} (machine : Machine Name P) (Is : P → Type 0) (keeps : KeepsSound machine Is) (begins : BeginsSound machine keeps.first_type) where
  pub runs-are-sound : RunsAreSound machine Is keeps.beside
  runs-are-sound limits argument events r texts e = runs-keep-sound machine Is keeps events (start machine limits argument) r e (opening-is-sound machine Is keeps begins limits argument texts)

  pub states-along : StatesAlongAreSound machine Is keeps.beside
  states-along limits argument journal s texts along = runs-are-sound limits argument along.3.0 _ texts along.3.1
