-- Changes of a system at two processes and at two places commute.
use Rattle.std.proofs.Common.{◌≡◌, ℕ, zero, suc, List, [], ◌∷◌, ◌++◌, Bool, true, false, ◌⊎◌, inl, inr, Some, option_map, slice_get, slice_set, refl, sym, ap, ◌∙◌}
use Rattle.std.specs.Prelude.{nat_eq}
use Rattle.std.proofs.lemmas.Bool.{eqb-true}
use Rattle.herm_model.specs.Values.{Cell, Name}
use Rattle.herm_model.proofs.Options.{none-not_some, map-some}
use Rattle.herm_journal.specs.Ports.{empty_port}
use Rattle.herm_journal.specs.PlaceStates.{PlaceState, a_port, replies, a_book}
use Rattle.herm_journal.specs.Entries.{Place, port, reply_cell, book, same_place}
use Rattle.herm_journal.specs.Messages.{CellReply}
use Rattle.herm_system.specs.Systems.{System, holding_at, set_holding, numbered_from_one, set_from_one, set_process}
use Rattle.herm_runs.proofs.SystemLedger.{processes-stay}
use Rattle.herm_runs.proofs.Histories.{place-same, get-other_from_one, held-elsewhere, held-with_process}

-- tests on numbers and places that differ
pub unequal-numbers : (m n : ℕ) → (m ≡ n → ⊥) → nat_eq m n ≡ false
unequal-numbers m n d = by_test (nat_eq m n) refl
  where
    by_test : (t : Bool) → nat_eq m n ≡ t → t ≡ false
    by_test true is = absurd (d (eqb-true m n is))
    by_test false is = refl

pub unequal-places : (p q : Place) → (p ≡ q → ⊥) → same_place p q ≡ false
unequal-places p q d = by_test (same_place p q) refl
  where
    by_test : (t : Bool) → same_place p q ≡ t → t ≡ false
    by_test true is = absurd (d (place-same p q is))
    by_test false is = refl

-- lists with one element set, and with more behind
get-more : {X : Type 0} (xs ys : List X) (i : ℕ) (x : X) → slice_get xs i ≡ Some x → slice_get (xs ++ ys) i ≡ Some x
get-more [] ys i x e = none-not_some e
get-more (z ∷ xs) ys zero x e = e
get-more (z ∷ xs) ys (suc i) x e = get-more xs ys i x e

set-more : {X : Type 0} (xs ys : List X) (i : ℕ) (x y : X) → slice_get xs i ≡ Some x → slice_set (xs ++ ys) i y ≡ slice_set xs i y ++ ys
set-more [] ys i x y e = none-not_some e
set-more (z ∷ xs) ys zero x y e = refl
set-more (z ∷ xs) ys (suc i) x y e = ap (z ∷◌) (set-more xs ys i x y e)

set-other : {X : Type 0} (xs : List X) (i j : ℕ) (y z : X) → (i ≡ j → ⊥) → slice_set (slice_set xs i y) j z ≡ slice_set (slice_set xs j z) i y
set-other [] i j y z d = refl
set-other (x ∷ xs) zero zero y z d = absurd (d refl)
set-other (x ∷ xs) zero (suc j) y z d = refl
set-other (x ∷ xs) (suc i) zero y z d = refl
set-other (x ∷ xs) (suc i) (suc j) y z d = ap (x ∷◌) (set-other xs i j y z (λ e. d (ap suc e)))

set-again : {X : Type 0} (xs : List X) (i : ℕ) (y z : X) → slice_set (slice_set xs i y) i z ≡ slice_set xs i z
set-again [] i y z = refl
set-again (x ∷ xs) zero y z = refl
set-again (x ∷ xs) (suc i) y z = ap (x ∷◌) (set-again xs i y z)

-- the same of lists that begin with number 1
get-more_from_one : {X : Type 0} (xs ys : List X) (p : ℕ) (x : X) → numbered_from_one p xs ≡ Some x → numbered_from_one p (xs ++ ys) ≡ Some x
get-more_from_one xs ys zero x e = none-not_some e
get-more_from_one xs ys (suc i) x e = get-more xs ys i x e

set-more_from_one : {X : Type 0} (xs ys : List X) (p : ℕ) (x y : X) → numbered_from_one p xs ≡ Some x → set_from_one p y (xs ++ ys) ≡ set_from_one p y xs ++ ys
set-more_from_one xs ys zero x y e = none-not_some e
set-more_from_one xs ys (suc i) x y e = set-more xs ys i x y e

set-other_from_one : {X : Type 0} (xs : List X) (p q : ℕ) (y z : X) → (p ≡ q → ⊥) → set_from_one q z (set_from_one p y xs) ≡ set_from_one p y (set_from_one q z xs)
set-other_from_one xs zero q y z d = refl
set-other_from_one xs (suc i) zero y z d = refl
set-other_from_one xs (suc i) (suc j) y z d = set-other xs i j y z (λ e. d (ap suc e))

pub set-again_from_one : {X : Type 0} (xs : List X) (p : ℕ) (y z : X) → set_from_one p z (set_from_one p y xs) ≡ set_from_one p z xs
set-again_from_one xs zero y z = refl
set-again_from_one xs (suc i) y z = set-again xs i y z

-- what an action adds to a system: nothing, a port, or a process with its port and reply cell
pub data Growth (P : Type 0) : Type 0 where
  no_growth : Growth P
  one_port : Growth P
  one_process : P → Growth P

abbrev pub grown : {P : Type 0} → Growth P → System P → System P
grown no_growth s = s
grown one_port s = record s { ports = s.ports ++ empty_port ∷ [] }
grown (one_process x) s = record s { processes = s.processes ++ x ∷ []; ports = s.ports ++ empty_port ∷ []; replies = s.replies ++ [] ∷ [] }

-- a system with a process and a place changed, and with what was added
abbrev pub changed : {P : Type 0} → (process : ℕ) → P → Place → PlaceState (Cell Name) (CellReply Name) → Growth P → System P → System P
changed p y place h g s = grown g (set_process p y (set_holding place h s))

abbrev At : Type 0
At = PlaceState (Cell Name) (CellReply Name)

process-process : {P : Type 0} → (p q : ℕ) (y z : P) (s : System P) → (p ≡ q → ⊥) → set_process q z (set_process p y s) ≡ set_process p y (set_process q z s)
process-process p q y z s d = ap (λ xs. record s { processes = xs }) (set-other_from_one s.processes p q y z d)

holding-process : {P : Type 0} → (q : Place) (k : At) (p : ℕ) (y : P) (s : System P) → set_holding q k (set_process p y s) ≡ set_process p y (set_holding q k s)
holding-process (port n) (a_port r) p y s = refl
holding-process (reply_cell n) (replies rs) p y s = refl
holding-process book (a_book b) p y s = refl
holding-process q k p y s = refl

holding-holding : {P : Type 0} → (p q : Place) (h k : At) (s : System P) → (p ≡ q → ⊥) → set_holding q k (set_holding p h s) ≡ set_holding p h (set_holding q k s)
holding-holding (port m) (port n) (a_port a) (a_port b) s d = ap (λ xs. record s { ports = xs }) (set-other s.ports m n a b (λ e. d (ap port e)))
holding-holding (reply_cell m) (reply_cell n) (replies a) (replies b) s d = ap (λ xs. record s { replies = xs }) (set-other_from_one s.replies m n a b (λ e. d (ap reply_cell e)))
holding-holding book book (a_book a) (a_book b) s d = absurd (d refl)
holding-holding (port m) q (replies x) k s d = refl
holding-holding (port m) q (a_book x) k s d = refl
holding-holding (reply_cell m) q (a_port x) k s d = refl
holding-holding (reply_cell m) q (a_book x) k s d = refl
holding-holding book q (a_port x) k s d = refl
holding-holding book q (replies x) k s d = refl
holding-holding p (port m) h (replies x) s d = refl
holding-holding p (port m) h (a_book x) s d = refl
holding-holding p (reply_cell m) h (a_port x) s d = refl
holding-holding p (reply_cell m) h (a_book x) s d = refl
holding-holding p book h (a_port x) s d = refl
holding-holding p book h (replies x) s d = refl
holding-holding p q h k s d = refl

grown-process : {P : Type 0} → (g : Growth P) (q : ℕ) (x z : P) (s : System P) → numbered_from_one q s.processes ≡ Some x → set_process q z (grown g s) ≡ grown g (set_process q z s)
grown-process no_growth q x z s is = refl
grown-process one_port q x z s is = refl
grown-process (one_process y) q x z s is =
    ap (λ xs. record s { processes = xs; ports = s.ports ++ empty_port ∷ []; replies = s.replies ++ [] ∷ [] }) (set-more_from_one s.processes (y ∷ []) q x z is)

-- the port, or the replies, that are at a place
port-there : {P : Type 0} → (n : ℕ) (s : System P) (h : At) → holding_at (port n) s ≡ Some h → (p : _) × (slice_get s.ports n ≡ Some p)
port-there n s h at = let m = map-some a_port (slice_get s.ports n) h at in (m.0, m.1)

cell-there : {P : Type 0} → (p : ℕ) (s : System P) (h : At) → holding_at (reply_cell p) s ≡ Some h → (rs : _) × (numbered_from_one p s.replies ≡ Some rs)
cell-there p s h at = let m = map-some replies (numbered_from_one p s.replies) h at in (m.0, m.1)

grown-holding : {P : Type 0} → (g : Growth P) (q : Place) (h k : At) (s : System P) → holding_at q s ≡ Some h → set_holding q k (grown g s) ≡ grown g (set_holding q k s)
grown-holding one_port (port n) h (a_port r) s at =
    let t = port-there n s h at in ap (λ xs. record s { ports = xs }) (set-more s.ports (empty_port ∷ []) n t.0 r t.1)
grown-holding (one_process x) (port n) h (a_port r) s at =
    let t = port-there n s h at in
    ap (λ xs. record s { processes = s.processes ++ x ∷ []; ports = xs; replies = s.replies ++ [] ∷ [] }) (set-more s.ports (empty_port ∷ []) n t.0 r t.1)
grown-holding (one_process x) (reply_cell p) h (replies rs) s at =
    let t = cell-there p s h at in
    ap (λ xs. record s { processes = s.processes ++ x ∷ []; ports = s.ports ++ empty_port ∷ []; replies = xs }) (set-more_from_one s.replies ([] ∷ []) p t.0 rs t.1)
grown-holding no_growth q h k s at = refl
grown-holding g (port m) h (replies x) s at = refl
grown-holding g (port m) h (a_book x) s at = refl
grown-holding g (reply_cell m) h (a_port x) s at = refl
grown-holding g (reply_cell m) h (a_book x) s at = refl
grown-holding g book h (a_port x) s at = refl
grown-holding g book h (replies x) s at = refl
grown-holding g q h k s at = refl

-- what is there stays there
grown-process_there : {P : Type 0} → (g : Growth P) (q : ℕ) (x : P) (s : System P) → numbered_from_one q s.processes ≡ Some x → numbered_from_one q (grown g s).processes ≡ Some x
grown-process_there no_growth q x s is = is
grown-process_there one_port q x s is = is
grown-process_there (one_process y) q x s is = get-more_from_one s.processes (y ∷ []) q x is

grown-holding_there : {P : Type 0} → (g : Growth P) (q : Place) (k : At) (s : System P) → holding_at q s ≡ Some k → holding_at q (grown g s) ≡ Some k
grown-holding_there one_port (port n) k s at =
    let m = map-some a_port (slice_get s.ports n) k at in ap (option_map a_port) (get-more s.ports (empty_port ∷ []) n m.0 m.1) ∙ ap (λ h. Some h) m.2
grown-holding_there (one_process x) (port n) k s at =
    let m = map-some a_port (slice_get s.ports n) k at in ap (option_map a_port) (get-more s.ports (empty_port ∷ []) n m.0 m.1) ∙ ap (λ h. Some h) m.2
grown-holding_there (one_process x) (reply_cell p) k s at =
    let m = map-some replies (numbered_from_one p s.replies) k at in ap (option_map replies) (get-more_from_one s.replies ([] ∷ []) p m.0 m.1) ∙ ap (λ h. Some h) m.2
grown-holding_there g q k s at = at

pub process-still : {P : Type 0} → (p q : ℕ) (y x : P) (place : Place) (h : At) (g : Growth P) (s : System P) → (p ≡ q → ⊥) → numbered_from_one q s.processes ≡ Some x → numbered_from_one q (changed p y place h g s).processes ≡ Some x
process-still p q y x place h g s d is =
    grown-process_there g q x (set_process p y (set_holding place h s)) (get-other_from_one (set_holding place h s).processes p q y (unequal-numbers p q d) ∙ ap (numbered_from_one q) (processes-stay place h s) ∙ is)

pub holding-still : {P : Type 0} → (p : ℕ) (y : P) (place q : Place) (h k : At) (g : Growth P) (s : System P) → (place ≡ q → ⊥) → holding_at q s ≡ Some k → holding_at q (changed p y place h g s) ≡ Some k
holding-still p y place q h k g s d at =
    grown-holding_there g q k (set_process p y (set_holding place h s)) (held-with_process q p y (set_holding place h s) ∙ held-elsewhere place q h s (unequal-places place q d) ∙ at)

-- one of two actions at different places adds nothing
growths-commute : {P : Type 0} → (f g : Growth P) (s : System P) → (f ≡ no_growth) ⊎ (g ≡ no_growth) → grown g (grown f s) ≡ grown f (grown g s)
growths-commute f g s (inl e) = ap (λ x. grown g (grown x s)) e ∙ ap (λ x. grown x (grown g s)) (sym e)
growths-commute f g s (inr e) = ap (λ x. grown x (grown f s)) e ∙ ap (λ x. grown f (grown x s)) (sym e)

both-set : {P : Type 0} → (p q : ℕ) (y z : P) (a b : Place) (h k : At) (s : System P) → (p ≡ q → ⊥) → (a ≡ b → ⊥) →
    set_process q z (set_holding b k (set_process p y (set_holding a h s))) ≡ set_process p y (set_holding a h (set_process q z (set_holding b k s)))
both-set p q y z a b h k s d e =
    ap (set_process q z) (holding-process b k p y (set_holding a h s))
    ∙ process-process p q y z (set_holding b k (set_holding a h s)) d
    ∙ ap (λ t. set_process p y (set_process q z t)) (holding-holding a b h k s e)
    ∙ ap (set_process p y) (sym (holding-process a h q z (set_holding b k s)))

-- the growth of one change moves behind the other change
growth-last : {P : Type 0} → (f g : Growth P) (q : ℕ) (x z : P) (b : Place) (h k : At) (s : System P) → numbered_from_one q s.processes ≡ Some x → holding_at b s ≡ Some h →
    changed q z b k g (grown f s) ≡ grown g (grown f (set_process q z (set_holding b k s)))
growth-last f g q x z b h k s is at =
    ap (λ t. grown g (set_process q z t)) (grown-holding f b h k s at)
    ∙ ap (grown g) (grown-process f q x z (set_holding b k s) (ap (numbered_from_one q) (processes-stay b k s) ∙ is))

pub changes-commute : {P : Type 0} → (p q : ℕ) (y z x w : P) (a b : Place) (h k i j : At) (f g : Growth P) (s : System P) → (p ≡ q → ⊥) → (a ≡ b → ⊥) → (f ≡ no_growth) ⊎ (g ≡ no_growth) →
    numbered_from_one p s.processes ≡ Some x → numbered_from_one q s.processes ≡ Some w → holding_at a s ≡ Some i → holding_at b s ≡ Some j →
    changed q z b k g (changed p y a h f s) ≡ changed p y a h f (changed q z b k g s)
changes-commute p q y z x w a b h k i j f g s d e one is_p is_q at_a at_b =
    growth-last f g q w z b j k (set_process p y (set_holding a h s)) (process-still p q y w a h no_growth s d is_q) (holding-still p y a b h j no_growth s e at_b)
    ∙ growths-commute f g (set_process q z (set_holding b k (set_process p y (set_holding a h s)))) one
    ∙ ap (λ t. grown f (grown g t)) (both-set p q y z a b h k s d e)
    ∙ sym (growth-last g f p x y a i h (set_process q z (set_holding b k s)) (process-still q p z x b k no_growth s (λ r. d (sym r)) is_p) (holding-still q z b a k i no_growth s (λ r. e (sym r)) at_a))

-- a process's own change of its state moves behind the change by another process, and is lost in its own
pub change-behind : {P : Type 0} → (p q : ℕ) (y z x : P) (b : Place) (k : At) (g : Growth P) (s : System P) → (p ≡ q → ⊥) → numbered_from_one p s.processes ≡ Some x →
    changed q z b k g (set_process p y s) ≡ set_process p y (changed q z b k g s)
change-behind p q y z x b k g s d is =
    ap (λ t. grown g (set_process q z t)) (holding-process b k p y s)
    ∙ ap (grown g) (process-process p q y z (set_holding b k s) d)
    ∙ sym (grown-process g p x y (set_process q z (set_holding b k s)) (process-still q p z x b k no_growth s (λ r. d (sym r)) is))

pub change-lost : {P : Type 0} → (p : ℕ) (y z : P) (b : Place) (k : At) (g : Growth P) (s : System P) → changed p z b k g (set_process p y s) ≡ changed p z b k g s
change-lost p y z b k g s =
    ap (λ t. grown g (set_process p z t)) (holding-process b k p y s)
    ∙ ap (λ xs. grown g (record (set_holding b k s) { processes = xs })) (set-again_from_one (set_holding b k s).processes p y z)
