-- Ports, reply cells and the book: what each holds, and what an action does there. Their messages and replies are of
-- any type: cells in the system, texts in a history.
use Rattle.std.specs.Prelude.{ℕ, List, [], ◌∷◌, ◌++◌, Some, length, ◌≡◌, ⊤}
use Rattle.herm_journal.specs.Actions.{Action, make_port, make_process, put, take, close, answer, hear}
use Rattle.herm_journal.specs.Ports.{Port, number_for, after_put, behind_first, first_of, after_take, after_close, left_in}
use Rattle.herm_journal.specs.NextNumbers.{Book, next_port, next_process, after_port, after_process}

-- replies, each with the number of its call, oldest first; a reply cell begins empty
abbrev pub Replies : Type 0 → Type 0
Replies R = List (ℕ × R)

-- what is at a place
pub data PlaceState (M R : Type 0) : Type 0 where
  a_port : Port M → PlaceState M R
  replies : Replies R → PlaceState M R
  a_book : Book → PlaceState M R

-- The action, with its answer, can be done there now. Language reference, "Actions".
abbrev pub IsEnabled : {M R : Type 0} → PlaceState M R → Action M R → Type 0
IsEnabled (a_port p) (put number m) = number_for p ≡ number
IsEnabled (a_port p) (take number m) = first_of p.queue ≡ Some (number, m)
IsEnabled (a_port p) (close count left) = (length left ≡ count) × (left_in p ≡ left)
IsEnabled (a_port p) a = ⊥
IsEnabled (replies rs) (answer call r) = ⊤
IsEnabled (replies rs) (hear call r) = first_of rs ≡ Some (call, r)
IsEnabled (replies rs) a = ⊥
IsEnabled (a_book b) (make_port made) = next_port b ≡ made
IsEnabled (a_book b) (make_process code made) = next_process b ≡ made
IsEnabled (a_book b) a = ⊥

-- What is there afterwards; an action that has no business there changes nothing. Language reference, "Actions".
abbrev pub after : {M R : Type 0} → Action M R → PlaceState M R → PlaceState M R
after (put number m) (a_port p) = a_port (after_put m p)
after (take number m) (a_port p) = a_port (after_take p)
after (close count left) (a_port p) = a_port (after_close p)
after (answer call r) (replies rs) = replies (rs ++ (call, r) ∷ [])
after (hear call r) (replies rs) = replies (behind_first rs)
after (make_port made) (a_book b) = a_book (after_port b)
after (make_process code made) (a_book b) = a_book (after_process b)
after a h = h
