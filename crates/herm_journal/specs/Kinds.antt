-- Values, wants and actions whose cells are all of certain kinds.
use Rattle.std.specs.Prelude.{ℕ, List, [], ◌∷◌, Option, Some, None}
use Rattle.herm_model.specs.Values.{Kind, a_callmessage, an_inport, an_outport, Cell, cell, Parts, no_parts, gap, part}
use Rattle.herm_journal.specs.Actions.{values, raised, gone, new_port, new_process, to_put, to_take, to_close, to_answer, to_hear, make_port, make_process, put, take, close, answer, hear}
use Rattle.herm_journal.specs.Messages.{CellReply, CellWant, CellAction}

-- each cell of a value, and of parts, is of one of the kinds
abbrev mutual
  pub HasKinds : {N : Type 0} → (Kind → Type 0) → Cell N → Type 0
  HasKinds of (cell n k ps) = of k × HaveKinds of ps

  pub HaveKinds : {N : Type 0} → (Kind → Type 0) → Parts N → Type 0
  HaveKinds of no_parts = Unit {0}
  HaveKinds of (gap ps) = HaveKinds of ps
  HaveKinds of (part c ps) = HasKinds of c × HaveKinds of ps

-- the same of a list
abbrev pub AllKinds : {N : Type 0} → (Kind → Type 0) → List (Cell N) → Type 0
AllKinds of [] = Unit {0}
AllKinds of (c ∷ cs) = HasKinds of c × AllKinds of cs

-- the values of a reply
abbrev pub ReplyKinds : {N : Type 0} → (Kind → Type 0) → CellReply N → Type 0
ReplyKinds of (values cs) = AllKinds of cs
ReplyKinds of (raised e cs) = AllKinds of cs
ReplyKinds of gone = Unit {0}

-- inports to these ports are allowed
abbrev pub AllPorts : (Kind → Type 0) → List ℕ → Type 0
AllPorts of [] = Unit {0}
AllPorts of (n ∷ ports) = of (an_inport n) × AllPorts of ports

-- what goes to a place, and the places, are of the kinds
abbrev pub WantKinds : {N : Type 0} → (Kind → Type 0) → CellWant N → Type 0
WantKinds of new_port = Unit {0}
WantKinds of (new_process code) = Unit {0}
WantKinds of (to_put n m) = of (an_outport n) × HasKinds of m
WantKinds of (to_take ports) = AllPorts of ports
WantKinds of (to_close n) = of (an_inport n)
WantKinds of (to_answer caller call r) = of (a_callmessage caller call) × ReplyKinds of r
WantKinds of to_hear = Unit {0}

abbrev pub IfWant : {N : Type 0} → (Kind → Type 0) → Option (CellWant N) → Type 0
IfWant of None = Unit {0}
IfWant of (Some w) = WantKinds of w

-- what comes from a place is of the kinds
abbrev pub ActionKinds : {N : Type 0} → (Kind → Type 0) → CellAction N → Type 0
ActionKinds of (make_port None) = Unit {0}
ActionKinds of (make_port (Some n)) = of (an_inport n)
ActionKinds of (make_process code None) = Unit {0}
ActionKinds of (make_process code (Some made)) = of (an_inport made.1)
ActionKinds of (put number m) = HasKinds of m
ActionKinds of (take number m) = HasKinds of m
ActionKinds of (close count left) = AllKinds of left
ActionKinds of (answer call r) = ReplyKinds of r
ActionKinds of (hear call r) = ReplyKinds of r
