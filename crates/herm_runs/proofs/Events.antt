-- Rounds are runs, and runs are stamped.
use Rattle.std.proofs.Common.{◌≡◌, ℕ, zero, suc, List, [], ◌∷◌, ◌++◌, map, filter, Bool, true, false, cond, Option, Some, None, option_map, option_and_then, refl, sym, ap, subst, ◌∙◌, append_assoc, append-nil}
use Rattle.herm_model.proofs.Lists.{length-map}
use Rattle.herm_model.proofs.Renaming.{map-append}
use Rattle.herm_journal.specs.Actions.{Want, new_port, new_process, to_put, to_take, to_close, to_answer, to_hear, Action, make_port, make_process, put, take, close, answer, hear}
use Rattle.herm_journal.specs.Ports.{Port, number_for, first_of, behind_first}
use Rattle.herm_journal.specs.PlaceStates.{PlaceState, a_port, replies, a_book, IsEnabled, after}
use Rattle.herm_journal.specs.NextNumbers.{Limits}
use Rattle.herm_journal.specs.Entries.{Text, Entry, map_port, map_action, map_holding}
use Rattle.herm_journal.specs.Stamps.{IsStampedFrom, IsStamped, next_stamp, entry_behind}
use Rattle.herm_journal.specs.Messages.{CellAction}
use Rattle.herm_system.specs.Systems.{Event, steps, acts, Moved, Run, run, run_on, step, with_entry, start, done_at}
use Rattle.herm_system.specs.Rounds.{Round, rounds, one_round, turns, turn, after_turn}
pub use Rattle.herm_model.proofs.Options.{some-injective, none-not_some, chain-some, map-some}
use Rattle.herm_model.specs.Values.{Name}
use Rattle.herm_system.specs.Machines.{Machine}

-- what a filter keeps of a list with one more
pub filter-kept : {X : Type 0} (test : X → Bool) (xs : List X) (x : X) → test x ≡ true → filter test (xs ++ x ∷ []) ≡ filter test xs ++ x ∷ []
filter-kept test [] x is = ap (λ b. cond b (x ∷ []) []) is
filter-kept test (y ∷ xs) x is = by_test (test y) (filter-kept test xs x is)
  where
    by_test : (b : Bool) → filter test (xs ++ x ∷ []) ≡ filter test xs ++ x ∷ [] → cond b (y ∷ filter test (xs ++ x ∷ [])) (filter test (xs ++ x ∷ [])) ≡ cond b (y ∷ filter test xs) (filter test xs) ++ x ∷ []
    by_test true h = ap (y ∷◌) h
    by_test false h = h

pub filter-passed : {X : Type 0} (test : X → Bool) (xs : List X) (x : X) → test x ≡ false → filter test (xs ++ x ∷ []) ≡ filter test xs
filter-passed test [] x is = ap (λ b. cond b (x ∷ []) []) is
filter-passed test (y ∷ xs) x is = ap (λ ys. cond (test y) (y ∷ ys) ys) (filter-passed test xs x is)

-- what is done at a place fits it
done-take : {M R : Type 0} (o : Option (ℕ × M)) (a : Action M R) (p : Port M) → first_of p.queue ≡ o → option_map (λ q. take q.0 q.1) o ≡ Some a → IsEnabled (a_port p) a
done-take None a p is e = none-not_some e
done-take (Some q) a p is e = subst (IsEnabled (a_port p)) (some-injective e) is

done-hear : {M R : Type 0} (o : Option (ℕ × R)) (a : Action M R) (rs : List (ℕ × R)) → first_of rs ≡ o → option_map (λ q. hear q.0 q.1) o ≡ Some a → IsEnabled (replies rs) a
done-hear None a rs is e = none-not_some e
done-hear (Some q) a rs is e = subst (IsEnabled (replies rs)) (some-injective e) is

pub done-fits : {M R : Type 0} (w : Want M R) (h : PlaceState M R) (a : Action M R) → done_at w h ≡ Some a → IsEnabled h a
done-fits new_port (a_book b) a e = subst (IsEnabled (a_book b)) (some-injective e) refl
done-fits (new_process code) (a_book b) a e = subst (IsEnabled (a_book b)) (some-injective e) refl
done-fits (to_put n m) (a_port p) a e = subst (IsEnabled (a_port p)) (some-injective e) refl
done-fits (to_take ports) (a_port p) a e = done-take (first_of p.queue) a p refl e
done-fits (to_close n) (a_port p) a e = subst (IsEnabled (a_port p)) (some-injective e) (length-map (λ q. q.1) p.queue, refl)
done-fits (to_answer caller call r) (replies rs) a e = subst (IsEnabled (replies rs)) (some-injective e) tt
done-fits to_hear (replies rs) a e = done-hear (first_of rs) a rs refl e
done-fits w h a e = none-not_some e

-- what is recorded fits what is told, and leads to what is told
first-map : {X Y : Type 0} (f : X → Y) (xs : List X) → first_of (map f xs) ≡ option_map f (first_of xs)
first-map f [] = refl
first-map f (x ∷ xs) = refl

behind-map : {X Y : Type 0} (f : X → Y) (xs : List X) → behind_first (map f xs) ≡ map f (behind_first xs)
behind-map f [] = refl
behind-map f (x ∷ xs) = refl

module _ {M N R S : Type 0} (f : M → N) (g : R → S) where
  left-map : (qs : List (ℕ × M)) → map (λ (q : ℕ × N). q.1) (map (λ (q : ℕ × M). (q.0, f q.1)) qs) ≡ map f (map (λ (q : ℕ × M). q.1) qs)
  left-map [] = refl
  left-map (q ∷ qs) = ap (f q.1 ∷◌) (left-map qs)

  number-map : (p : Port M) → number_for (map_port f p) ≡ number_for p
  number-map p = refl

  pub fits-map : (h : PlaceState M R) (a : Action M R) → IsEnabled h a → IsEnabled (map_holding f g h) (map_action f g a)
  fits-map (a_port p) (put number m) e = e
  fits-map (a_port p) (take number m) e = first-map (λ q. (q.0, f q.1)) p.queue ∙ ap (option_map (λ q. (q.0, f q.1))) e
  fits-map (a_port p) (close count left) e = (length-map f left ∙ e.0, left-map p.queue ∙ ap (map f) e.1)
  fits-map (replies rs) (answer call r) e = tt
  fits-map (replies rs) (hear call r) e = first-map (λ q. (q.0, g q.1)) rs ∙ ap (option_map (λ q. (q.0, g q.1))) e
  fits-map (a_book b) (make_port made) e = e
  fits-map (a_book b) (make_process code made) e = e
  fits-map h a e = absurd e

  port-after-put : (b : Bool) (m : M) (q : List (ℕ × M)) (n : ℕ) → map_port f (cond b (record { is_open = true; queue = q ++ (n, m) ∷ []; placed = suc n }) (record { is_open = b; queue = q; placed = n })) ≡ cond b (record { is_open = true; queue = map (λ x. (x.0, f x.1)) q ++ (n, f m) ∷ []; placed = suc n }) (record { is_open = b; queue = map (λ x. (x.0, f x.1)) q; placed = n })
  port-after-put true m q n = ap (λ xs. record { is_open = true; queue = xs; placed = suc n }) (map-append (λ x. (x.0, f x.1)) q ((n, m) ∷ []))
  port-after-put false m q n = refl

  pub after-map : (h : PlaceState M R) (a : Action M R) → map_holding f g (after a h) ≡ after (map_action f g a) (map_holding f g h)
  after-map (a_port p) (put number m) = ap a_port (port-after-put p.is_open m p.queue p.placed)
  after-map (a_port p) (take number m) = ap (λ xs. a_port (record { is_open = p.is_open; queue = xs; placed = p.placed })) (sym (behind-map (λ x. (x.0, f x.1)) p.queue))
  after-map (a_port p) (close count left) = refl
  after-map (replies rs) (answer call r) = ap replies (map-append (λ x. (x.0, g x.1)) rs ((call, r) ∷ []))
  after-map (replies rs) (hear call r) = ap replies (sym (behind-map (λ x. (x.0, g x.1)) rs))
  after-map (a_book b) (make_port made) = refl
  after-map (a_book b) (make_process code made) = refl
  after-map h a = refl

-- rounds are runs
abbrev pub IsRunBetween : {P : Type 0} → Machine Name P → Run P → Run P → Type 0
IsRunBetween machine r t = (events : List Event) × (run machine events r ≡ Some t)

-- a run goes on
pub run-joined : {P : Type 0} (machine : Machine Name P) (before rest : List Event) (r t : Run P) → run machine before r ≡ Some t → run machine (before ++ rest) r ≡ run machine rest t
run-joined machine [] rest r t e = ap (run machine rest) (some-injective e)
run-joined machine (x ∷ before) rest r t e =
    let b = chain-some (run machine before) (run_on machine x r) t e
    in ap (option_and_then (run machine (before ++ rest))) b.1 ∙ run-joined machine before rest b.0 t b.2

pub both-runs : {P : Type 0} (machine : Machine Name P) (r s t : Run P) → IsRunBetween machine r s → IsRunBetween machine s t → IsRunBetween machine r t
both-runs machine r s t a b = (a.0 ++ b.0, run-joined machine a.0 b.0 r s a.1 ∙ b.1)

pub one-run : {P : Type 0} (machine : Machine Name P) (e : Event) (r t : Run P) → run_on machine e r ≡ Some t → IsRunBetween machine r t
one-run machine e r t p = (e ∷ [], ap (option_and_then (λ x. Some x)) p)

turn-run : {P : Type 0} (machine : Machine Name P) (e : Option Event) (r t : Round P) → after_turn machine e r ≡ Some t → IsRunBetween machine r.run t.run
turn-run machine None r t p = ([], ap (λ o. option_map (λ (x : Round _). x.run) o) p)
turn-run machine (Some e) r t p =
    let m = map-some (λ next. record { run = next; moved = true }) (run_on machine e r.run) t p
    in subst (λ (x : Round _). IsRunBetween machine r.run x.run) m.2 (one-run machine e r.run m.0 m.1)

then-run : {P : Type 0} (machine : Machine Name P) (o : Option (Round P)) (next : Round P → Option (Round P)) (r t : Round P) →
    ((u : Round P) → o ≡ Some u → IsRunBetween machine r.run u.run) → ((u : Round P) → next u ≡ Some t → IsRunBetween machine u.run t.run) →
    elim o [ None ↦ None | Some u ↦ next u ] ≡ Some t → IsRunBetween machine r.run t.run
then-run machine None next r t first rest e = none-not_some e
then-run machine (Some u) next r t first rest e = both-runs machine r.run u.run t.run (first u refl) (rest u e)

pub turns-run : {P : Type 0} (n : ℕ) (machine : Machine Name P) (p : ℕ) (r t : Round P) → turns n machine p r ≡ Some t → IsRunBetween machine r.run t.run
turns-run zero machine p r t e = ([], ap (λ o. option_map (λ (x : Round _). x.run) o) e)
turns-run (suc n) machine p r t e =
    then-run machine (after_turn machine (turn machine r.run.system p) r) (turns n machine (suc p)) r t (turn-run machine (turn machine r.run.system p) r) (λ u. turns-run n machine (suc p) u t) e

if-moved : {P : Type 0} (machine : Machine Name P) (b : Bool) (r t : Run P) (next : Option (Run P)) → (next ≡ Some t → IsRunBetween machine r t) → elim b [ false ↦ Some r | true ↦ next ] ≡ Some t → IsRunBetween machine r t
if-moved machine false r t next rest e = ([], e)
if-moved machine true r t next rest e = rest e

then-rounds : {P : Type 0} (machine : Machine Name P) (o : Option (Round P)) (next : Run P → Option (Run P)) (r t : Run P) →
    ((u : Round P) → o ≡ Some u → IsRunBetween machine r u.run) → ((u : Run P) → next u ≡ Some t → IsRunBetween machine u t) →
    elim o [ None ↦ None | Some u ↦ elim (u.moved) [ false ↦ Some u.run | true ↦ next u.run ] ] ≡ Some t → IsRunBetween machine r t
then-rounds machine None next r t first rest e = none-not_some e
then-rounds machine (Some u) next r t first rest e = both-runs machine r u.run t (first u refl) (if-moved machine u.moved u.run t (next u.run) (rest u.run) e)

pub rounds-run : {P : Type 0} (n : ℕ) (machine : Machine Name P) (r t : Run P) → rounds n machine r ≡ Some t → IsRunBetween machine r t
rounds-run zero machine r t e = none-not_some e
rounds-run (suc n) machine r t e =
    then-rounds machine (one_round machine r) (rounds n machine) r t
    (λ u. turns-run r.system.book.limits.processes machine 1 (record { run = r; moved = false }) u) (λ u. rounds-run n machine u t) e

-- runs are stamped
stamped-more : (before journal : List Entry) (e : Entry) → IsStampedFrom before journal → e.stamp ≡ next_stamp (before ++ journal) e.process e.place → IsStampedFrom before (journal ++ e ∷ [])
stamped-more before [] e s is = (is ∙ ap (λ b. next_stamp b e.process e.place) (append-nil before), tt)
stamped-more before (x ∷ journal) e s is = (s.0, stamped-more (before ++ x ∷ []) journal e s.1 (is ∙ ap (λ b. next_stamp b e.process e.place) (sym (append_assoc before (x ∷ []) journal))))

stamped-entry : (journal : List Entry) (e : Event) (a : Option (CellAction Name)) → IsStamped journal → IsStamped (with_entry journal e a)
stamped-entry journal (acts p place) (Some a) s = stamped-more [] journal (entry_behind journal p place _) s refl
stamped-entry journal (acts p place) None s = s
stamped-entry journal (steps p) a s = s

pub stamped-on : {P : Type 0} (machine : Machine Name P) (e : Event) (r t : Run P) → IsStamped r.journal → run_on machine e r ≡ Some t → IsStamped t.journal
stamped-on machine e r t s is =
    let m = map-some (λ (m : Moved _). record { system = m.system; journal = with_entry r.journal e m.done }) (step machine e r.system) t is
    in subst (λ (x : Run _). IsStamped x.journal) m.2 (stamped-entry r.journal e m.0.done s)

stamped-run : {P : Type 0} (machine : Machine Name P) (events : List Event) (r t : Run P) → IsStamped r.journal → run machine events r ≡ Some t → IsStamped t.journal
stamped-run machine [] r t s is = subst (λ (x : Run _). IsStamped x.journal) (some-injective is) s
stamped-run machine (e ∷ events) r t s is =
    let b = chain-some (run machine events) (run_on machine e r) t is
    in stamped-run machine events b.0 t (stamped-on machine e r b.0 s b.1) b.2

pub run-stamped : {P : Type 0} (machine : Machine Name P) (limits : Limits) (argument : Text) (events : List Event) (r : Run P) → run machine events (start machine limits argument) ≡ Some r → IsStamped r.journal
run-stamped machine limits argument events r is = stamped-run machine events (start machine limits argument) r tt is
