-- Rounds end where no process can step.
use Rattle.std.proofs.Common.{◌≡◌, ℕ, zero, suc, ◌+◌, ◌<◌, ◌≤◌, List, [], ◌∷◌, Bool, true, false, cond, ◌||◌, Option, Some, None, slice_get, length, refl, sym, ap, subst, ◌∙◌, arith, true≢false, option_map}
use Rattle.std.specs.Prelude.{nat_lt, ◌&&◌}
use Rattle.std.proofs.lemmas.Bool.Decides.{nat_tests}
use Rattle.herm_model.specs.Lists.{any_pass, list_of}
use Rattle.herm_model.specs.Values.{Cell, Name}
use Rattle.herm_model.proofs.Options.{some-injective, none-not_some, chain-some, map-some}
use Rattle.herm_journal.specs.Actions.{make_port, make_process, put, take, close, answer, hear}
use Rattle.herm_journal.specs.Messages.{CellReply, CellAction}
use Rattle.herm_journal.specs.Entries.{Text, Place, port, reply_cell, book, same_place}
use Rattle.herm_system.specs.Machines.{Standing, is_local, is_acting, Machine, inport_of}
use Rattle.herm_journal.specs.NextNumbers.{Book, Limits}
use Rattle.herm_journal.specs.PlaceStates.{PlaceState, a_port, replies, a_book, after}
use Rattle.herm_system.specs.Systems.{System, Moved, Event, steps, acts, Run, run, run_on, step, start, can, holding_at, set_holding, set_process, with_made, with_entry, numbered_from_one, stands, can_step, IsFinal, main_port, standing}
use Rattle.herm_system.specs.Rounds.{Round, rounds, one_round, turns, turn, after_turn, first_place, place_or_book}
use Rattle.herm_system.specs.Sound.{IsNumbered}
use Rattle.herm_runs.proofs.Events.{rounds-run}
use Rattle.herm_runs.proofs.Numbered.{runs-numbered}
use Rattle.herm_runs.specs.laws.ProcessLaws.{KeepsNumbers}
use Rattle.herm_runs.proofs.ActionParts.{action-parts, step-parts}

-- a process without a turn cannot step
no-turn : {P : Type 0} (machine : Machine Name P) (s : System P) (p : ℕ) → turn machine s p ≡ None → can_step machine s p ≡ false
no-turn machine s p e = by_tests (stands is_local machine s p) (stands is_acting machine s p) e
  where
    by_tests : (a b : Bool) → cond a (Some (steps p)) (cond b (Some (acts p (place_or_book (first_place machine s p)))) None) ≡ None → (a || b) ≡ false
    by_tests true b e = none-not_some (sym e)
    by_tests false true e = none-not_some (sym e)
    by_tests false false e = refl

-- a turn that was made stays noted
moved-stays : {P : Type 0} (machine : Machine Name P) (o : Option Event) (r t : Round P) → after_turn machine o r ≡ Some t → r.moved ≡ true → t.moved ≡ true
moved-stays machine None r t e m = sym (ap (λ (x : Round _). x.moved) (some-injective e)) ∙ m
moved-stays machine (Some x) r t e m = let k = map-some _ (run_on machine x r.run) t e in sym (ap (λ (x : Round _). x.moved) k.2)

not-moved : {P : Type 0} (machine : Machine Name P) (o : Option Event) (r t : Round P) → after_turn machine o r ≡ Some t → t.moved ≡ false → (o ≡ None) × (r ≡ t)
not-moved machine None r t e m = (refl, some-injective e)
not-moved machine (Some x) r t e m = let k = map-some _ (run_on machine x r.run) t e in absurd (true≢false (ap (λ (x : Round _). x.moved) k.2 ∙ m))

-- of a round in which nothing was made, no process had a turn
abbrev NoTurns : {P : Type 0} → ℕ → Machine Name P → ℕ → System P → Type 0
NoTurns n machine p s = (i : ℕ) → i < n → turn machine s (p + i) ≡ None

pub elim-some : {X Y : Type 0} (o : Option X) (next : X → Option Y) (y : Y) → elim o [ None ↦ None | Some x ↦ next x ] ≡ Some y → (x : X) × (o ≡ Some x) × (next x ≡ Some y)
elim-some None next y e = none-not_some e
elim-some (Some x) next y e = (x, refl, e)

still-moved : {P : Type 0} (n : ℕ) (machine : Machine Name P) (p : ℕ) (r t : Round P) → turns n machine p r ≡ Some t → r.moved ≡ true → t.moved ≡ true
still-moved zero machine p r t e m = sym (ap (λ (x : Round _). x.moved) (some-injective e)) ∙ m
still-moved (suc n) machine p r t e m =
    let k = elim-some (after_turn machine (turn machine r.run.system p) r) (turns n machine (suc p)) t e in
    still-moved n machine (suc p) k.0 t k.2 (moved-stays machine (turn machine r.run.system p) r k.0 k.1 m)

bool-false : (b : Bool) → (b ≡ true → ⊥) → b ≡ false
bool-false true never = absurd (never refl)
bool-false false never = refl

no-turns : {P : Type 0} (n : ℕ) (machine : Machine Name P) (p : ℕ) (r t : Round P) → turns n machine p r ≡ Some t → t.moved ≡ false → (r ≡ t) × NoTurns n machine p r.run.system
no-turns zero machine p r t e m = (some-injective e, λ i lt. absurd (omega (arith, lt)))
no-turns (suc n) machine p r t e m =
    let k = elim-some (after_turn machine (turn machine r.run.system p) r) (turns n machine (suc p)) t e in
    let still = bool-false k.0.moved (λ x. true≢false (sym (still-moved n machine (suc p) k.0 t k.2 x) ∙ m)) in
    let first = not-moved machine (turn machine r.run.system p) r k.0 k.1 still in
    let rest = no-turns n machine (suc p) k.0 t k.2 m in
    (first.1 ∙ rest.0, by_place first.0 (subst (λ (x : Round _). NoTurns n machine (suc p) x.run.system) (sym first.1) rest.1))
  where
    by_place : turn machine r.run.system p ≡ None → NoTurns n machine (suc p) r.run.system → NoTurns (suc n) machine p r.run.system
    by_place none rest zero lt = ap (turn machine r.run.system) (omega arith) ∙ none
    by_place none rest (suc i) lt = ap (turn machine r.run.system) (omega arith) ∙ rest i (omega (arith, lt))

-- what rounds end with is what a round without a turn begins with
abbrev EndsAt : {P : Type 0} → Machine Name P → Run P → Type 0
EndsAt machine t = NoTurns t.system.book.limits.processes machine 1 t.system

if-ended : {P : Type 0} (machine : Machine Name P) (round : Round P) (r t : Run P) (next : Run P → Option (Run P)) → one_round machine r ≡ Some round → ((u : Run P) → next u ≡ Some t → EndsAt machine t) →
    elim (round.moved) [ false ↦ Some round.run | true ↦ next round.run ] ≡ Some t → EndsAt machine t
if-ended machine round r t next is rest e = by_test (round.moved) refl e
  where
    by_test : (b : Bool) → round.moved ≡ b → elim b [ false ↦ Some round.run | true ↦ next round.run ] ≡ Some t → EndsAt machine t
    by_test true m e = rest round.run e
    by_test false m e =
        let k = no-turns r.system.book.limits.processes machine 1 (record { run = r; moved = false }) round is m in
        let same : r ≡ t = ap (λ (x : Round _). x.run) k.0 ∙ some-injective e in
        subst (EndsAt machine) same k.1

pub rounds-end : {P : Type 0} (n : ℕ) (machine : Machine Name P) (r t : Run P) → rounds n machine r ≡ Some t → EndsAt machine t
rounds-end zero machine r t e = none-not_some e
rounds-end (suc n) machine r t e =
    let k = elim-some (one_round machine r) (λ round. elim (round.moved) [ false ↦ Some round.run | true ↦ rounds n machine round.run ]) t e in
    if-ended machine k.0 r t (rounds n machine) k.1 (λ u. rounds-end n machine u t) k.2

-- processes are at most as many as their limit
abbrev IsWithin : Book → Type 0
IsWithin b = b.processes ≤ b.limits.processes

less-by : (m n : ℕ) (b : Bool) → (nat_lt m n && b) ≡ true → m < n
less-by m n b e = by_test (nat_lt m n) refl e
  where
    by_test : (t : Bool) → nat_lt m n ≡ t → (t && b) ≡ true → m < n
    by_test true is e = grind (arith, nat_tests)
    by_test false is e = absurd (true≢false (sym e))

within-process : (b : Book) (t : Bool) → (t ≡ true → b.processes < b.limits.processes) → IsWithin b → IsWithin (cond t (record b { ports = suc b.ports; processes = suc b.processes }) b)
within-process b true less k = omega (arith, less refl)
within-process b false less k = k

within-port : (b : Book) (t : Bool) → IsWithin b → IsWithin (cond t (record b { ports = suc b.ports }) b)
within-port b true k = k
within-port b false k = k

book-within : {P : Type 0} → (a : CellAction Name) (b : Book) (s : System P) → s.book ≡ b → IsWithin b → IsWithin (set_holding book (after a (a_book b)) s).book
book-within (make_port made) b s is k = within-port b (nat_lt b.ports b.limits.ports) k
book-within (make_process code made) b s is k = within-process b (nat_lt b.processes b.limits.processes && nat_lt b.ports b.limits.ports) (less-by b.processes b.limits.processes (nat_lt b.ports b.limits.ports)) k
book-within (put number m) b s is k = k
book-within (take number m) b s is k = k
book-within (close count left) b s is k = k
book-within (answer call r) b s is k = k
book-within (hear call r) b s is k = k

pub other-within : {P : Type 0} → (place : Place) (h : PlaceState (Cell Name) (CellReply Name)) (s : System P) → same_place place book ≡ false → (set_holding place h s).book ≡ s.book
other-within (port n) (a_port p) s e = refl
other-within (reply_cell p) (replies rs) s e = refl
other-within book (a_book b) s e = absurd (true≢false e)
other-within place h s e = refl

place-within : {P : Type 0} → (place : Place) (h : PlaceState (Cell Name) (CellReply Name)) (a : CellAction Name) (s : System P) → holding_at place s ≡ Some h → IsWithin s.book → IsWithin (set_holding place (after a h) s).book
place-within (port n) h a s at k = subst IsWithin (sym (other-within (port n) (after a h) s refl)) k
place-within (reply_cell p) h a s at k = subst IsWithin (sym (other-within (reply_cell p) (after a h) s refl)) k
place-within book h a s at k = subst (λ x. IsWithin (set_holding book (after a x) s).book) (some-injective at) (book-within a s.book s refl k)

pub made-book : {P : Type 0} (machine : Machine Name P) (maker : P) (a : CellAction Name) (s t : System P) → with_made machine maker a s ≡ Some t → t.book ≡ s.book
made-book machine maker (make_port (Some n)) s t e = sym (ap (λ (x : System _). x.book) (some-injective e))
made-book machine maker (make_process code (Some made)) s t e = let m = map-some _ (machine.begin code made.0 (inport_of machine made.1 maker)) t e in sym (ap (λ (x : System _). x.book) m.2)
made-book machine maker a s t e = sym (ap (λ (x : System _). x.book) (some-injective e))

step-within : {P : Type 0} (machine : Machine Name P) (e : Event) (s : System P) (m : Moved P) → step machine e s ≡ Some m → IsWithin s.book → IsWithin m.system.book
step-within machine (steps p) s m e k =
    let parts = step-parts machine p s m e in
    subst (λ (m : Moved _). IsWithin m.system.book) parts.moved k
step-within machine (acts p place) s m e k =
    let parts = action-parts machine p place s m e in
    let u = set_process p parts.left.0 (set_holding place (after parts.did.0 parts.at.0) s) in
    subst (λ (m : Moved _). IsWithin m.system.book) parts.moved (subst IsWithin (sym (made-book machine parts.state parts.did.0 u parts.makes.0 parts.makes.1)) (place-within place parts.at.0 parts.did.0 s parts.at.1 k))

run-within : {P : Type 0} (machine : Machine Name P) (events : List Event) (r t : Run P) → run machine events r ≡ Some t → IsWithin r.system.book → IsWithin t.system.book
run-within machine [] r t e k = subst (λ (x : Run _). IsWithin x.system.book) (some-injective e) k
run-within machine (e ∷ events) r t is k =
    let b = chain-some (run machine events) (run_on machine e r) t is in
    let m = map-some (λ (m : Moved _). record { system = m.system; journal = with_entry r.journal e m.done }) (step machine e r.system) b.0 b.1 in
    run-within machine events b.0 t b.2 (subst (λ (x : Run _). IsWithin x.system.book) m.2 (step-within machine e r.system m.0 m.1 k))

-- past the end of a list nothing is found
pub get-past : {X : Type 0} (xs : List X) (i : ℕ) → length xs ≤ i → slice_get xs i ≡ None
get-past [] i le = refl
get-past (x ∷ xs) zero le = absurd (omega (arith, le))
get-past (x ∷ xs) (suc i) le = get-past xs i (omega (arith, le))

not-there : {P : Type 0} (machine : Machine Name P) (s : System P) (p : ℕ) → numbered_from_one p s.processes ≡ None → can_step machine s p ≡ false
not-there {P} machine s p e =
    ap (λ o. any_pass is_local (list_of (λ x. x ∷ []) (found o)) || any_pass is_acting (list_of (λ x. x ∷ []) (found o))) e
  where
    found : Option P → Option Standing
    found o = option_map (standing machine s.book.limits.steps (can s p)) o

past-limit : (i n l : ℕ) → nat_lt i n ≡ false → l ≤ n → l ≤ i
past-limit i n l e le = grind (arith, nat_tests)

final-at : {P : Type 0} (machine : Machine Name P) (t : Run P) → EndsAt machine t → IsNumbered machine t.system → IsWithin t.system.book → IsFinal machine t.system
final-at machine t ends numbered within zero = refl
final-at machine t ends numbered within (suc i) = by_test (nat_lt i t.system.book.limits.processes) refl
  where
    by_test : (b : Bool) → nat_lt i t.system.book.limits.processes ≡ b → can_step machine t.system (suc i) ≡ false
    by_test true e = let next : suc i ≡ 1 + i = omega arith in ap (can_step machine t.system) next ∙ no-turn machine t.system (1 + i) (ends i (grind (arith, nat_tests)))
    by_test false e = not-there machine t.system (suc i) (get-past t.system.processes i (past-limit i t.system.book.limits.processes (length t.system.processes) e (omega (arith, numbered.book.0, within))))

pub rounds-final : {P : Type 0} (machine : Machine Name P) (keeps : KeepsNumbers machine) (most : ℕ) (limits : Limits) (argument : Text) (first : P) (t : Run P) → machine.begin machine.main 1 main_port ≡ Some first → 1 ≤ limits.processes →
    rounds most machine (start machine limits argument) ≡ Some t → IsFinal machine t.system
rounds-final machine keeps most limits argument first t is some e =
    let events = rounds-run most machine (start machine limits argument) t e in
    final-at machine t (rounds-end most machine (start machine limits argument) t e)
    (runs-numbered machine keeps limits argument first events.0 t is events.1)
    (run-within machine events.0 (start machine limits argument) t events.1 some)
