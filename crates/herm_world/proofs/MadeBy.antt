-- The process that an action has made: its number is the next one, and its module is there.
use Rattle.std.proofs.Common.{◌≡◌, ◌<◌, ℕ, zero, suc, List, [], ◌∷◌, length, Bool, true, false, cond, nat_lt, ◌&&◌, Option, Some, None, option_map, refl, sym, ap, subst, ◌∙◌, arith}
use Rattle.std.specs.Prelude.{slice_get, ⊤}
use Rattle.herm_model.proofs.Lists.{length-map}
use Rattle.herm_model.proofs.Options.{chain-some, map-some, none-not_some, some-injective}
use Rattle.herm_model.specs.Values.{Cell, cell, an_inport, no_parts}
use Rattle.herm_journal.proofs.Rising.{same-true}
use Rattle.herm_journal.specs.Actions.{new_port, new_process, to_put, to_take, to_close, to_answer, to_hear, make_port, make_process, put, take, close, answer, hear}
use Rattle.herm_journal.specs.Entries.{Place, port, reply_cell, book, recorded}
use Rattle.herm_journal.specs.Messages.{CellReply, CellWant, CellAction}
use Rattle.herm_journal.specs.NextNumbers.{Book}
use Rattle.herm_journal.specs.PlaceStates.{PlaceState, a_port, replies, a_book}
use Rattle.herm_journal.specs.Ports.{Port}
use Rattle.herm_journal.specs.PlaceStates.{Replies}
use Rattle.herm_journal.specs.Stamps.{is_maker_of}
use Rattle.herm_instructions.specs.Images.{Image}
use Rattle.herm_system.specs.Machines.{Machine}
use Rattle.herm_system.specs.Systems.{done_at, numbered_from_one}
use Rattle.herm_code_machine.specs.CodeStates.{CodeState}
use Rattle.herm_code_machine.specs.ReadyCode.{ready_code, labelled_image}
use Rattle.herm_instructions.specs.Places.{label_at}
use Rattle.herm_machine.specs.Machines.{nameless}
use Rattle.herm_waking.specs.Unnamed.{Unnamed, bare_at, with_bare}
use Rattle.herm_world.proofs.ActedSees.{made_by}

abbrev pub make_of : ℕ → Option (ℕ × ℕ) → CellAction ⊤
make_of code made = make_process code made

pub made-is : (a : CellAction ⊤) (m : ℕ × ℕ × ℕ) → made_by a ≡ Some m → a ≡ make_of m.0 (Some (m.1, m.2))
made-is (make_process code (Some made)) m e = ap (λ (m : ℕ × ℕ × ℕ). make_of m.0 (Some (m.1, m.2))) (some-injective e)
made-is (make_process code None) m e = none-not_some e
made-is (make_port made) m e = none-not_some e
made-is (put number v) m e = none-not_some e
made-is (take number v) m e = none-not_some e
made-is (close count left) m e = none-not_some e
made-is (answer call r) m e = none-not_some e
made-is (hear call r) m e = none-not_some e

-- the number of the process that is made is the next one of the book
next-number : (b : Book) (code : ℕ) (t : Bool) (m : ℕ × ℕ × ℕ) → made_by (make_of code (cond t (Some (suc b.processes, suc b.ports)) None)) ≡ Some m → m.1 ≡ suc b.processes
next-number b code true m e = ap (λ (m : ℕ × ℕ × ℕ). m.1) (sym (some-injective e))
next-number b code false m e = none-not_some e

abbrev pub book_in : PlaceState (Cell ⊤) (CellReply ⊤) → Option Book
book_in (a_book b) = Some b
book_in (a_port p) = None
book_in (replies rs) = None

pub made-number : (w : CellWant ⊤) (h : PlaceState (Cell ⊤) (CellReply ⊤)) (a : CellAction ⊤) (m : ℕ × ℕ × ℕ) → done_at w h ≡ Some a → made_by a ≡ Some m → (b : Book) × (book_in h ≡ Some b) × (m.1 ≡ suc b.processes)
made-number (new_process code) (a_book b) a m e made = (b, refl, next-number b code (nat_lt b.processes b.limits.processes && nat_lt b.ports b.limits.ports) m (ap made_by (some-injective e) ∙ made))
made-number (new_process code) (a_port p) a m e made = none-not_some e
made-number (new_process code) (replies rs) a m e made = none-not_some e
made-number new_port (a_book b) a m e made = none-not_some (ap made_by (some-injective e) ∙ made)
made-number new_port (a_port p) a m e made = none-not_some e
made-number new_port (replies rs) a m e made = none-not_some e
made-number (to_put n v) (a_port p) a m e made = none-not_some (ap made_by (some-injective e) ∙ made)
made-number (to_put n v) (a_book b) a m e made = none-not_some e
made-number (to_put n v) (replies rs) a m e made = none-not_some e
made-number (to_take ports) (a_port p) a m e made =
    let taken = map-some _ (Rattle.herm_journal.specs.Ports.first_of p.queue) a e in none-not_some (ap made_by taken.2 ∙ made)
made-number (to_take ports) (a_book b) a m e made = none-not_some e
made-number (to_take ports) (replies rs) a m e made = none-not_some e
made-number (to_close n) (a_port p) a m e made = none-not_some (ap made_by (some-injective e) ∙ made)
made-number (to_close n) (a_book b) a m e made = none-not_some e
made-number (to_close n) (replies rs) a m e made = none-not_some e
made-number (to_answer caller call r) (replies rs) a m e made = none-not_some (ap made_by (some-injective e) ∙ made)
made-number (to_answer caller call r) (a_port p) a m e made = none-not_some e
made-number (to_answer caller call r) (a_book b) a m e made = none-not_some e
made-number to_hear (replies rs) a m e made =
    let heard = map-some _ (Rattle.herm_journal.specs.Ports.first_of rs) a e in none-not_some (ap made_by heard.2 ∙ made)
made-number to_hear (a_port p) a m e made = none-not_some e
made-number to_hear (a_book b) a m e made = none-not_some e

-- the book of a system is at its place alone
no-book : {X : Type 0} (o : Option X) (f : X → PlaceState (Cell ⊤) (CellReply ⊤)) (h : PlaceState (Cell ⊤) (CellReply ⊤)) (b : Book) → ((x : X) → book_in (f x) ≡ None) → option_map f o ≡ Some h → book_in h ≡ Some b → ⊥
no-book o f h b none e is = let x = map-some f o h e in none-not_some (sym (none x.0) ∙ ap book_in x.2 ∙ is)

abbrev port_of : Port (Cell ⊤) → PlaceState (Cell ⊤) (CellReply ⊤)
port_of p = a_port p

abbrev replies_of : Replies (CellReply ⊤) → PlaceState (Cell ⊤) (CellReply ⊤)
replies_of rs = replies rs

pub book-there : {Q : Type 0} (place : Place) (v : Unnamed Q) (h : PlaceState (Cell ⊤) (CellReply ⊤)) (b : Book) → bare_at place v ≡ Some h → book_in h ≡ Some b → v.book ≡ b
book-there (port n) v h b at is = absurd (no-book (slice_get v.ports n) port_of h b (λ p. refl) at is)
book-there (reply_cell p) v h b at is = absurd (no-book (numbered_from_one p v.replies) replies_of h b (λ rs. refl) at is)
book-there book v h b at is = some-injective (ap book_in (some-injective at) ∙ is)

-- it makes the process of that number, and of no number below
pub maker-is : (code number n : ℕ) → is_maker_of number (recorded (make_of code (Some (number, n)))) ≡ true
maker-is code number n = same-true number

-- where the system behind is there, so is the first state of the process
pub begins-there : {Q : Type 0} (machine : Machine ⊤ Q) (a : CellAction ⊤) (v u : Unnamed Q) (m : ℕ × ℕ × ℕ) → made_by a ≡ Some m → with_bare machine a v ≡ Some u → (z : Q) × (machine.begin m.0 m.1 (cell tt (an_inport m.2) no_parts) ≡ Some z)
begins-there machine (make_process code (Some made)) v u m e left =
    let z = map-some _ (machine.begin code made.0 (cell tt (an_inport made.1) no_parts)) u left in
    (z.0, ap (λ (m : ℕ × ℕ × ℕ). machine.begin m.0 m.1 (cell tt (an_inport m.2) no_parts)) (sym (some-injective e)) ∙ z.1)
begins-there machine (make_process code None) v u m e left = none-not_some e
begins-there machine (make_port made) v u m e left = none-not_some e
begins-there machine (put number x) v u m e left = none-not_some e
begins-there machine (take number x) v u m e left = none-not_some e
begins-there machine (close count x) v u m e left = none-not_some e
begins-there machine (answer call r) v u m e left = none-not_some e
begins-there machine (hear call r) v u m e left = none-not_some e

within : {X : Type 0} (xs : List X) (i : ℕ) (x : X) → slice_get xs i ≡ Some x → i < length xs
within [] i x e = none-not_some e
within (y ∷ xs) zero x e = omega arith
within (y ∷ xs) (suc i) x e = let h = within xs i x e in omega (arith, h)

-- and so is its module
pub module-there : (image : Image) (main code number : ℕ) (c : Cell ⊤) (z : CodeState ⊤) → (nameless image main).begin code number c ≡ Some z → code < length image.modules
module-there image main code number c z e =
    let k = chain-some _ (slice_get (labelled_image image main).codes code) z e in
    let long = length-map (ready_code image (label_at image.types image.constants)) image.modules in
    let less : code < length (labelled_image image main).codes = within (labelled_image image main).codes code k.0 k.1 in
    subst (λ n. code < n) long less
