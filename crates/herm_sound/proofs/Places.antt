-- What is at ports and in reply cells behind an action: what was there before, and what went out.
use Rattle.std.proofs.Common.{◌≡◌, ◌⊎◌, inl, inr, ℕ, suc, List, [], ◌∷◌, ◌++◌, map, length, true, false, Option, Some, None, slice_get, slice_set, sym, ap, subst, ◌∙◌}
use Rattle.herm_model.specs.Lists.{IsIn}
use Rattle.herm_model.specs.Values.{Name, Cell}
use Rattle.herm_model.proofs.Lists.{in-append_cases}
use Rattle.herm_model.proofs.Renaming.{map-append}
use Rattle.herm_model.proofs.Options.{some-injective, map-some}
use Rattle.herm_journal.specs.Actions.{to_put, to_answer, put, answer}
use Rattle.herm_journal.specs.NextNumbers.{Book}
use Rattle.herm_journal.specs.Ports.{Port, empty_port, left_in}
use Rattle.herm_journal.specs.PlaceStates.{Replies, a_port, replies, a_book, after}
use Rattle.herm_journal.specs.Entries.{Place, port, reply_cell, book}
use Rattle.herm_journal.specs.Messages.{CellReply, CellWant, CellAction}
use Rattle.herm_system.specs.Systems.{System, numbered_from_one, holding_at, set_holding}
use Rattle.herm_runs.proofs.Numbered.{set-found, more-found}
use Rattle.herm_sound.proofs.Acted.{Holding, port_of, IsAct, port_made, port_refused, process_made, process_refused, placed, came_back, taken, closed, answered, heard}

abbrev pub Ports : Type 0
Ports = List (Port (Cell Name))

abbrev pub Cells : Type 0
Cells = List (Replies (CellReply Name))

-- each message that is queued behind was so before, or is as said
abbrev pub QueuedFrom : (ℕ → Cell Name → Type 0) → Ports → Ports → Type 0
QueuedFrom X before behind = (n : ℕ) (q : Port (Cell Name)) (m : Cell Name) → slice_get behind n ≡ Some q → IsIn m (left_in q) → ((o : Port (Cell Name)) × (slice_get before n ≡ Some o) × IsIn m (left_in o)) ⊎ X n m

pub same-queued : (X : ℕ → Cell Name → Type 0) (ports : Ports) → QueuedFrom X ports ports
same-queued X ports n q m is member = inl (q, is, member)

pub more-queued : (X : ℕ → Cell Name → Type 0) (before behind : Ports) → QueuedFrom X before behind → QueuedFrom X before (behind ++ empty_port ∷ [])
more-queued X before behind from n q m is member = by (more-found behind n empty_port q is)
  where
    by : ((n ≡ length behind) × (empty_port ≡ q)) ⊎ (slice_get behind n ≡ Some q) → ((o : Port (Cell Name)) × (slice_get before n ≡ Some o) × IsIn m (left_in o)) ⊎ X n m
    by (inl e) = absurd (subst (λ (q : Port (Cell Name)). IsIn m (left_in q)) (sym e.1) member)
    by (inr e) = from n q m e member

set-queued : (X : ℕ → Cell Name → Type 0) (ports : Ports) (i : ℕ) (old new : Port (Cell Name)) → slice_get ports i ≡ Some old → ((m : Cell Name) → IsIn m (left_in new) → IsIn m (left_in old) ⊎ X i m)
    → QueuedFrom X ports (slice_set ports i new)
set-queued X ports i old new was from n q m is member = by (set-found ports i n new q is)
  where
    first : (i ≡ n) → IsIn m (left_in old) ⊎ X i m → ((o : Port (Cell Name)) × (slice_get ports n ≡ Some o) × IsIn m (left_in o)) ⊎ X n m
    first e (inl h) = inl (old, subst (λ j. slice_get ports j ≡ Some old) e was, h)
    first e (inr h) = inr (subst (λ j. X j m) e h)

    by : ((i ≡ n) × (new ≡ q)) ⊎ (slice_get ports n ≡ Some q) → ((o : Port (Cell Name)) × (slice_get ports n ≡ Some o) × IsIn m (left_in o)) ⊎ X n m
    by (inl e) = first e.0 (from m (subst (λ (q : Port (Cell Name)). IsIn m (left_in q)) (sym e.1) member))
    by (inr e) = inl (q, e, member)

-- the port, and the replies, at a place
abbrev port_at : Holding → Option (Port (Cell Name))
port_at (a_port p) = Some p
port_at h = None

abbrev cell_at : Holding → Option (Replies (CellReply Name))
cell_at (replies rs) = Some rs
cell_at h = None

pub port-there : {P : Type 0} (s : System P) (n : ℕ) (q : Port (Cell Name)) → holding_at (port n) s ≡ Some (a_port q) → slice_get s.ports n ≡ Some q
port-there s n q e = let x = map-some a_port (slice_get s.ports n) (a_port q) e in x.1 ∙ ap port_at x.2

pub cell-there : {P : Type 0} (s : System P) (p : ℕ) (rs : Replies (CellReply Name)) → holding_at (reply_cell p) s ≡ Some (replies rs) → numbered_from_one p s.replies ≡ Some rs
cell-there s p rs e = let x = map-some replies (numbered_from_one p s.replies) (replies rs) e in x.1 ∙ ap cell_at x.2

pub book-there : {P : Type 0} (s : System P) (b : Book) → holding_at book s ≡ Some (a_book b) → s.book ≡ b
book-there s b e = ap book_of (some-injective e)
  where
    book_of : Holding → Book
    book_of (a_book c) = c
    book_of (a_port p) = b
    book_of (replies rs) = b

-- one message more is that or was there before
one-more : (q : List (ℕ × Cell Name)) (k : ℕ) (d m : Cell Name) → IsIn m (map (λ (x : ℕ × Cell Name). x.1) (q ++ (k, d) ∷ [])) → IsIn m (map (λ (x : ℕ × Cell Name). x.1) q) ⊎ (m ≡ d)
one-more q k d m h =
    by (in-append_cases m (map (λ (x : ℕ × Cell Name). x.1) q) (d ∷ []) (subst (IsIn m) (map-append (λ (x : ℕ × Cell Name). x.1) q ((k, d) ∷ [])) h))
  where
    by : IsIn m (map (λ (x : ℕ × Cell Name). x.1) q) ⊎ IsIn m (d ∷ []) → IsIn m (map (λ (x : ℕ × Cell Name). x.1) q) ⊎ (m ≡ d)
    by (inl h) = inl h
    by (inr (inl e)) = inr e
    by (inr (inr h)) = absurd h

-- a message went out to a port, and a reply to a reply cell
abbrev pub IsPut : CellWant Name → CellAction Name → ℕ → Cell Name → Type 0
IsPut w a n m = (w ≡ to_put n m) × ((k : ℕ) × (a ≡ put (Some k) m))

abbrev pub IsAnswered : CellWant Name → CellAction Name → ℕ → ℕ × CellReply Name → Type 0
IsAnswered w a q r = (w ≡ to_answer q r.0 r.1) × (a ≡ answer r.0 r.1)

module _ {P : Type 0} (s : System P) (p : ℕ) where
  pub act-queued : (w : CellWant Name) (place : Place) (h : Holding) (a : CellAction Name) → IsAct p w place h a → holding_at place s ≡ Some h → QueuedFrom (IsPut w a) s.ports (set_holding place (after a h) s).ports
  act-queued w place h a (placed n d q k) at =
      set-queued (IsPut w a) s.ports n (port_of true q k) (port_of true (q ++ (k, d) ∷ []) (suc k)) (port-there s n (port_of true q k) at) (λ m member. by m (one-more q k d m member))
    where
      by : (m : Cell Name) → IsIn m (map (λ (x : ℕ × Cell Name). x.1) q) ⊎ (m ≡ d) → IsIn m (map (λ (x : ℕ × Cell Name). x.1) q) ⊎ IsPut (to_put n d) (put (Some k) d) n m
      by m (inl h) = inl h
      by m (inr e) = inr (ap (λ d. to_put n d) (sym e), (k, ap (λ d. put (Some k) d) (sym e)))
  act-queued w place h a (came_back n d q k) at = set-queued (IsPut w a) s.ports n (port_of false q k) (port_of false q k) (port-there s n (port_of false q k) at) (λ m member. inl member)
  act-queued w place h a (taken ports n among b i d q k) at =
      set-queued (IsPut w a) s.ports n (port_of b ((i, d) ∷ q) k) (port_of b q k) (port-there s n (port_of b ((i, d) ∷ q) k) at) (λ m member. inl (inr member))
  act-queued w place h a (closed n b q k) at = set-queued (IsPut w a) s.ports n (port_of b q k) (port_of false [] k) (port-there s n (port_of b q k) at) (λ m member. absurd member)
  act-queued w place h a (port_made b n e) at = same-queued (IsPut w a) s.ports
  act-queued w place h a (port_refused b e) at = same-queued (IsPut w a) s.ports
  act-queued w place h a (process_made code b made e) at = same-queued (IsPut w a) s.ports
  act-queued w place h a (process_refused code b e) at = same-queued (IsPut w a) s.ports
  act-queued w place h a (answered caller call r rs) at = same-queued (IsPut w a) s.ports
  act-queued w place h a (heard k r rs) at = same-queued (IsPut w a) s.ports
