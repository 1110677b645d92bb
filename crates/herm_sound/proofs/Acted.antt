-- What is done at a place, in ten cases: what was wanted, what is there, and the action.
use Rattle.std.proofs.Common.{◌≡◌, ◌⊎◌, inl, inr, ℕ, List, [], ◌∷◌, map, length, Bool, true, false, cond, Option, Some, None, refl, sym, ap, subst, ◌∙◌}
use Rattle.std.proofs.lemmas.Bool.{eqb-true}
use Rattle.std.proofs.Math.Bool.{or-false}
use Rattle.std.specs.Prelude.{nat_eq}
use mathlib.Core.Bool.{false≢true}
use Rattle.herm_model.specs.Lists.{IsIn, any_pass}
use Rattle.herm_model.specs.Values.{Name, Cell}
use Rattle.herm_model.proofs.Lists.{or-either, length-map}
use Rattle.herm_model.proofs.Options.{some-injective, none-not_some}
use Rattle.herm_journal.specs.Actions.{new_port, new_process, to_put, to_take, to_close, to_answer, to_hear, make_port, make_process, put, take, close, answer, hear}
use Rattle.herm_journal.specs.NextNumbers.{Book, next_port, next_process}
use Rattle.herm_journal.specs.Ports.{Port, left_in}
use Rattle.herm_journal.specs.PlaceStates.{Replies, PlaceState, a_port, replies, a_book}
use Rattle.herm_journal.specs.Entries.{Place, port, reply_cell, book, same_place}
use Rattle.herm_journal.specs.Messages.{CellReply, CellWant, CellAction}
use Rattle.herm_system.specs.Suiting.{Answers}
use Rattle.herm_system.specs.Systems.{places_for, done_at}

abbrev pub Holding : Type 0
Holding = PlaceState (Cell Name) (CellReply Name)

-- a port with this queue
abbrev pub port_of : Bool → List (ℕ × Cell Name) → ℕ → Port (Cell Name)
port_of b q k = record { is_open = b; queue = q; placed = k }

-- process p does what it wants at a place that has this
pub data IsAct (p : ℕ) : CellWant Name → Place → Holding → CellAction Name → Type 0 where
  port_made : (b : Book) (n : ℕ) → next_port b ≡ Some n → IsAct p new_port book (a_book b) (make_port (Some n))
  port_refused : (b : Book) → next_port b ≡ None → IsAct p new_port book (a_book b) (make_port None)
  process_made : (code : ℕ) (b : Book) (made : ℕ × ℕ) → next_process b ≡ Some made → IsAct p (new_process code) book (a_book b) (make_process code (Some made))
  process_refused : (code : ℕ) (b : Book) → next_process b ≡ None → IsAct p (new_process code) book (a_book b) (make_process code None)
  placed : (n : ℕ) (m : Cell Name) (q : List (ℕ × Cell Name)) (k : ℕ) → IsAct p (to_put n m) (port n) (a_port (port_of true q k)) (put (Some k) m)
  came_back : (n : ℕ) (m : Cell Name) (q : List (ℕ × Cell Name)) (k : ℕ) → IsAct p (to_put n m) (port n) (a_port (port_of false q k)) (put None m)
  taken : (ports : List ℕ) (n : ℕ) → IsIn n ports → (b : Bool) (i : ℕ) (m : Cell Name) (q : List (ℕ × Cell Name)) (k : ℕ) → IsAct p (to_take ports) (port n) (a_port (port_of b ((i, m) ∷ q) k)) (take i m)
  closed : (n : ℕ) (b : Bool) (q : List (ℕ × Cell Name)) (k : ℕ) → IsAct p (to_close n) (port n) (a_port (port_of b q k)) (close (length q) (left_in (port_of b q k)))
  answered : (caller call : ℕ) (r : CellReply Name) (rs : Replies (CellReply Name)) → IsAct p (to_answer caller call r) (reply_cell caller) (replies rs) (answer call r)
  heard : (k : ℕ) (r : CellReply Name) (rs : Replies (CellReply Name)) → IsAct p to_hear (reply_cell p) (replies ((k, r) ∷ rs)) (hear k r)

-- a place among those of one port, of ports, and of one reply cell
same-place : (place other : Place) → any_pass (same_place place) (other ∷ []) ≡ true → place ≡ other
same-place (port m) (port n) e = ap port (eqb-true m n (sym (or-false (nat_eq m n)) ∙ e))
same-place (reply_cell m) (reply_cell n) e = ap reply_cell (eqb-true m n (sym (or-false (nat_eq m n)) ∙ e))
same-place book book e = refl
same-place (port m) (reply_cell n) e = absurd (false≢true e)
same-place (port m) book e = absurd (false≢true e)
same-place (reply_cell m) (port n) e = absurd (false≢true e)
same-place (reply_cell m) book e = absurd (false≢true e)
same-place book (port n) e = absurd (false≢true e)
same-place book (reply_cell n) e = absurd (false≢true e)

among : (place : Place) (ports : List ℕ) → any_pass (same_place place) (map port ports) ≡ true → (n : ℕ) × (place ≡ port n) × IsIn n ports
among place [] e = absurd (false≢true e)
among place (k ∷ ports) e = by (or-either (same_place place (port k)) (any_pass (same_place place) (map port ports)) e) (among place ports)
  where
    by : (same_place place (port k) ≡ true) ⊎ (any_pass (same_place place) (map port ports) ≡ true) → (any_pass (same_place place) (map port ports) ≡ true → (n : ℕ) × (place ≡ port n) × IsIn n ports)
        → (n : ℕ) × (place ≡ port n) × IsIn n (k ∷ ports)
    by (inl same) later = (k, same-place place (port k) (or-false (same_place place (port k)) ∙ same), inl refl)
    by (inr more) later = let r = later more in (r.0, r.1, inr r.2)

module _ (p : ℕ) where
  put-act : (n : ℕ) (m : Cell Name) (q : Port (Cell Name)) → (a : CellAction Name) → done_at {R = CellReply Name} (to_put n m) (a_port q) ≡ Some a → IsAct p (to_put n m) (port n) (a_port q) a
  put-act n m q a e = subst (IsAct p (to_put n m) (port n) (a_port q)) (some-injective e) (by q.is_open q.queue q.placed)
    where
      by : (b : Bool) (qs : List (ℕ × Cell Name)) (k : ℕ) → IsAct p (to_put n m) (port n) (a_port (port_of b qs k)) (put (cond b (Some k) None) m)
      by true qs k = placed n m qs k
      by false qs k = came_back n m qs k

  take-act : (ports : List ℕ) (n : ℕ) → IsIn n ports → (b : Bool) (q : List (ℕ × Cell Name)) (k : ℕ) (a : CellAction Name) → done_at {R = CellReply Name} (to_take ports) (a_port (port_of b q k)) ≡ Some a
      → IsAct p (to_take ports) (port n) (a_port (port_of b q k)) a
  take-act ports n member b [] k a e = none-not_some e
  take-act ports n member b (x ∷ q) k a e = subst (IsAct p (to_take ports) (port n) (a_port (port_of b (x ∷ q) k))) (some-injective e) (taken ports n member b x.0 x.1 q k)

  hear-act : (rs : Replies (CellReply Name)) (a : CellAction Name) → done_at {M = Cell Name} to_hear (replies rs) ≡ Some a → IsAct p to_hear (reply_cell p) (replies rs) a
  hear-act [] a e = none-not_some e
  hear-act (x ∷ rs) a e = subst (IsAct p to_hear (reply_cell p) (replies (x ∷ rs))) (some-injective e) (heard x.0 x.1 rs)

  port-act : (b : Book) (o : Option ℕ) → next_port b ≡ o → IsAct p new_port book (a_book b) (make_port o)
  port-act b None e = port_refused b e
  port-act b (Some n) e = port_made b n e

  process-act : (code : ℕ) (b : Book) (o : Option (ℕ × ℕ)) → next_process b ≡ o → IsAct p (new_process code) book (a_book b) (make_process code o)
  process-act code b None e = process_refused code b e
  process-act code b (Some made) e = process_made code b made e

  at-place : (w : CellWant Name) (h : Holding) (a : CellAction Name) (other place : Place) → place ≡ other → IsAct p w other h a → IsAct p w place h a
  at-place w h a other place same is = subst (λ place. IsAct p w place h a) (sym same) is

  pub acted : (w : CellWant Name) (place : Place) (h : Holding) (a : CellAction Name) → any_pass (same_place place) (places_for p w) ≡ true → done_at w h ≡ Some a → IsAct p w place h a
  acted new_port place (a_book b) a there e =
      at-place new_port (a_book b) a book place (same-place place book there) (subst (IsAct p new_port book (a_book b)) (some-injective e) (port-act b (next_port b) refl))
  acted (new_process code) place (a_book b) a there e =
      at-place (new_process code) (a_book b) a book place (same-place place book there) (subst (IsAct p (new_process code) book (a_book b)) (some-injective e) (process-act code b (next_process b) refl))
  acted (to_put n m) place (a_port q) a there e = at-place (to_put n m) (a_port q) a (port n) place (same-place place (port n) there) (put-act n m q a e)
  acted (to_take ports) place (a_port q) a there e =
      let k = among place ports there in at-place (to_take ports) (a_port q) a (port k.0) place k.1 (take-act ports k.0 k.2 q.is_open q.queue q.placed a e)
  acted (to_close n) place (a_port q) a there e =
      at-place (to_close n) (a_port q) a (port n) place (same-place place (port n) there) (subst (IsAct p (to_close n) (port n) (a_port q)) (some-injective e) (closed n q.is_open q.queue q.placed))
  acted (to_answer caller call r) place (replies rs) a there e =
      at-place (to_answer caller call r) (replies rs) a (reply_cell caller) place (same-place place (reply_cell caller) there)
      (subst (IsAct p (to_answer caller call r) (reply_cell caller) (replies rs)) (some-injective e) (answered caller call r rs))
  acted to_hear place (replies rs) a there e = at-place to_hear (replies rs) a (reply_cell p) place (same-place place (reply_cell p) there) (hear-act rs a e)
  acted w place h a there e = none-not_some e

-- the action answers what was wanted
pub act-answers : (p : ℕ) (w : CellWant Name) (place : Place) (h : Holding) (a : CellAction Name) → IsAct p w place h a → Answers w a
act-answers p w place h a (port_made b n e) = tt
act-answers p w place h a (port_refused b e) = tt
act-answers p w place h a (process_made code b made e) = refl
act-answers p w place h a (process_refused code b e) = refl
act-answers p w place h a (placed n m q k) = refl
act-answers p w place h a (came_back n m q k) = refl
act-answers p w place h a (taken ports n member b i m q k) = tt
act-answers p w place h a (closed n b q k) = length-map (λ (x : ℕ × Cell Name). x.1) q
act-answers p w place h a (answered caller call r rs) = (refl, refl)
act-answers p w place h a (heard k r rs) = tt
