-- Entries: what is recorded of an action, with values as their texts.
use Rattle.std.specs.Prelude.{ℕ, List, [], ◌∷◌, ◌++◌, map, Bool, true, false, nat_eq, codes}
use Rattle.herm_model.specs.Values.{Cell}
use Rattle.herm_model.specs.ValueTexts.{text_of}
use Rattle.herm_journal.specs.Actions.{Reply, values, raised, gone, Action, make_port, make_process, put, take, close, answer, hear}
use Rattle.herm_journal.specs.Ports.{Port}
use Rattle.herm_journal.specs.PlaceStates.{PlaceState, a_port, replies, a_book}

-- a text as its bytes
abbrev pub Text : Type 0
Text = List ℕ

-- where an action is done: a port, the reply cell of a process, or the book
pub data Place : Type 0 where
  port : ℕ → Place
  reply_cell : ℕ → Place
  book : Place

abbrev pub same_place : Place → Place → Bool
same_place (port m) (port n) = nat_eq m n
same_place (port m) (reply_cell n) = false
same_place (port m) book = false
same_place (reply_cell m) (port n) = false
same_place (reply_cell m) (reply_cell n) = nat_eq m n
same_place (reply_cell m) book = false
same_place book (port n) = false
same_place book (reply_cell n) = false
same_place book book = true

-- An action as it is recorded: values are their texts, and the values of a reply one text, joined by commas.
-- Language reference, "Entries".
abbrev pub Record : Type 0
Record = Action Text (Reply Text)

-- what a process did at a place, at a stamp
pub record Entry : Type 0 where
  pub stamp : ℕ
  pub process : ℕ
  pub place : Place
  pub action : Record

-- the same with other values
abbrev pub map_reply : {V W : Type 0} → (V → W) → Reply V → Reply W
map_reply f (values v) = values (f v)
map_reply f (raised e v) = raised e (f v)
map_reply f gone = gone

abbrev pub map_action : {M N R S : Type 0} → (M → N) → (R → S) → Action M R → Action N S
map_action f g (make_port made) = make_port made
map_action f g (make_process code made) = make_process code made
map_action f g (put number m) = put number (f m)
map_action f g (take number m) = take number (f m)
map_action f g (close count left) = close count (map f left)
map_action f g (answer call r) = answer call (g r)
map_action f g (hear call r) = hear call (g r)

abbrev pub map_port : {M N : Type 0} → (M → N) → Port M → Port N
map_port f p = record { is_open = p.is_open; queue = map (λ q. (q.0, f q.1)) p.queue; placed = p.placed }

abbrev pub map_holding : {M N R S : Type 0} → (M → N) → (R → S) → PlaceState M R → PlaceState N S
map_holding f g (a_port p) = a_port (map_port f p)
map_holding f g (replies rs) = replies (map (λ r. (r.0, g r.1)) rs)
map_holding f g (a_book b) = a_book b

-- the texts of values, joined by commas
abbrev pub more_texts_of : {N : Type 0} → List (Cell N) → Text
more_texts_of [] = []
more_texts_of (c ∷ cs) = codes "," ++ text_of c ++ more_texts_of cs

abbrev pub texts_of : {N : Type 0} → List (Cell N) → Text
texts_of [] = []
texts_of (c ∷ cs) = text_of c ++ more_texts_of cs

-- An action between cells, as it is recorded; and what a place holds, as its history tells it.
abbrev pub recorded : {N : Type 0} → Action (Cell N) (Reply (List (Cell N))) → Record
recorded a = map_action text_of (map_reply texts_of) a

abbrev pub recorded_state : {N : Type 0} → PlaceState (Cell N) (Reply (List (Cell N))) → PlaceState Text (Reply Text)
recorded_state h = map_holding text_of (map_reply texts_of) h
