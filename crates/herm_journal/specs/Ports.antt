-- Ports: what each holds, and what a put, a take and a close leave there.
use Rattle.std.specs.Prelude.{ℕ, suc, List, [], ◌∷◌, ◌++◌, map, Bool, true, false, cond, Option, Some, None}

-- a port: whether it is open, its messages with their numbers, and how many messages were placed there
pub record Port (M : Type 0) : Type 0 where
  pub is_open : Bool
  pub queue : List (ℕ × M)
  pub placed : ℕ

-- The state in which a port is made, and port 1's, with its first message. Language reference, "Ports".
abbrev pub empty_port : {M : Type 0} → Port M
empty_port = record { is_open = true; queue = []; placed = 0 }

abbrev pub port_with : {M : Type 0} → M → Port M
port_with m = record { is_open = true; queue = (0, m) ∷ []; placed = 1 }

-- the number that a message gets there; none where the port is closed
abbrev pub number_for : {M : Type 0} → Port M → Option ℕ
number_for p = cond p.is_open (Some p.placed) None

abbrev pub after_put : {M : Type 0} → M → Port M → Port M
after_put m p = cond p.is_open (record { is_open = true; queue = p.queue ++ (p.placed, m) ∷ []; placed = suc p.placed }) p

-- a list without its first element
abbrev pub behind_first : {X : Type 0} → List X → List X
behind_first [] = []
behind_first (x ∷ xs) = xs

abbrev pub first_of : {X : Type 0} → List X → Option X
first_of [] = None
first_of (x ∷ xs) = Some x

abbrev pub after_take : {M : Type 0} → Port M → Port M
after_take p = record p { queue = behind_first p.queue }

abbrev pub after_close : {M : Type 0} → Port M → Port M
after_close p = record p { is_open = false; queue = [] }

-- The messages that are left in the queue, oldest first.
abbrev pub left_in : {M : Type 0} → Port M → List M
left_in p = map (λ q. q.1) p.queue
