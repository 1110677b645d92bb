-- Two tiny machines that do the same: a process that counts down, sends each number to the console and closes its port. The
-- first counts what is left; the second counts what it has made.
use Rattle.std.specs.Prelude.{ℕ, zero, suc, ◌-◌, List, [], ◌∷◌, ◌++◌, flat_map, cond, nat_lt, Option, Some, None, option_map, ⊤, ◌≡◌}
use Rattle.herm_model.specs.Lists.{list_of}
use Rattle.herm_model.specs.Types.{predefined}
use Rattle.herm_model.specs.Values.{Name, a_scalar, a_text, an_inport, Cell, cell, no_parts}
use Rattle.herm_model.specs.Finalising.{finalised}
use Rattle.herm_model.specs.ValueTexts.{numeral}
use Rattle.herm_journal.specs.Actions.{to_put, to_close, put, close}
use Rattle.herm_journal.specs.Entries.{Text}
use Rattle.herm_journal.specs.Messages.{CellWant, CellAction}
use Rattle.herm_system.specs.Machines.{Held, Standing, ended, out_of_steps, local, to_act, greatest_actions, Machine}
use Rattle.herm_system.specs.Systems.{start}
use Rattle.herm_system.specs.Rounds.{rounds}
use Rattle.herm_system.specs.RunTexts.{Asked, text_of_run}

-- a number as a message
abbrev pub says : {N : Type 0} → (Name → N) → (number serial left : ℕ) → Cell N
says name number serial left = cell (name (number, serial)) (a_scalar (a_text (numeral left))) no_parts

-- its port, with the number by which it is closed
pub record OwnPort (N : Type 0) : Type 0 where
  pub name : N
  pub port : ℕ

abbrev pub port_cell : {N : Type 0} → OwnPort N → Cell N
port_cell p = cell p.name (an_inport p.port) no_parts

abbrev pub kept_value : {N : Type 0} → Cell N → Held N
kept_value c = record { place_type = None; value = c }

-- an action is next
abbrev pub acts_next : (actions : ℕ) → Standing
acts_next actions = to_act (nat_lt actions greatest_actions)

-- The first: how many are left, the message that waits to be sent, and the port until it is closed.
pub record Down (N : Type 0) : Type 0 where
  pub number : ℕ
  pub left : ℕ
  pub steps : ℕ
  pub actions : ℕ
  pub serial : ℕ
  pub message : Option (Cell N)
  pub inport : Option (OwnPort N)
  pub finalised : List N

module _ {N : Type 0} (name : Name → N) where
  abbrev pub begin_down : (code number : ℕ) → Cell N → Option (Down N)
  begin_down zero number (cell n (an_inport p) ps) =
      Some (record { number = number; left = 2; steps = 0; actions = 0; serial = 0; message = None; inport = Some (record { name = n; port = p }); finalised = [] })
  begin_down code number port = None

  -- what it does next, by what is left, the message and the port
  abbrev pub down_stands : (limit : ℕ) → Down N → (left : ℕ) → Option (Cell N) → Option (OwnPort N) → Standing
  down_stands limit x left message None = ended
  down_stands limit x left (Some m) (Some p) = acts_next x.actions
  down_stands limit x zero None (Some p) = acts_next x.actions
  down_stands limit x (suc left) None (Some p) = cond (nat_lt x.steps limit) local out_of_steps

  abbrev pub down_wants : (left : ℕ) → Option (Cell N) → Option (OwnPort N) → Option (CellWant N)
  down_wants left message None = None
  down_wants left (Some m) (Some p) = Some (to_put 0 m)
  down_wants zero None (Some p) = Some (to_close p.port)
  down_wants (suc left) None (Some p) = None

  abbrev pub down_steps : Down N → (left : ℕ) → Option (Cell N) → Option (OwnPort N) → Option (Down N)
  down_steps x left message None = None
  down_steps x left (Some m) (Some p) = None
  down_steps x zero None (Some p) = None
  down_steps x (suc left) None (Some p) = Some (record x { left = left; steps = suc x.steps; serial = suc x.serial; message = Some (says name x.number x.serial (suc left)) })

  abbrev pub down_behind : Down N → CellAction N → (left : ℕ) → Option (Cell N) → Option (OwnPort N) → Option (Down N)
  down_behind x (put (Some k) sent) left (Some m) (Some p) = Some (record x { actions = suc x.actions; message = None })
  down_behind x (put None sent) left (Some m) (Some p) = Some (record x { actions = suc x.actions; message = None; finalised = x.finalised ++ finalised sent })
  down_behind x (close count rest) zero None (Some p) = Some (record x { actions = suc x.actions; inport = None; finalised = x.finalised ++ flat_map finalised rest ++ p.name ∷ [] })
  down_behind x action left message inport = None

  abbrev pub counting_down : Machine N (Down N)
  counting_down = record {
    types = predefined;
    main = 0;
    begin = begin_down;
    module_number = λ x. 0;
    number = λ x. x.number;
    serial = λ x. x.serial;
    steps = λ x. x.steps;
    actions = λ x. x.actions;
    exception = λ x. None;
    held = λ x. list_of (λ m. kept_value m ∷ []) x.message ++ list_of (λ p. kept_value (port_cell p) ∷ []) x.inport;
    finalised = λ x. x.finalised;
    port_type = λ x n. None;
    open_call = λ x. None;
    put_aside = λ x. record x { actions = suc x.actions };
    ready = λ limit x. down_stands limit x x.left x.message x.inport;
    wanted = λ x. down_wants x.left x.message x.inport;
    local_step = λ x. down_steps x x.left x.message x.inport;
    answered = λ x at action. down_behind x action x.left x.message x.inport;
  }

-- The second: how many it has made, which are its steps and its cells, what it has to send, and what it has open.
pub record Up (N : Type 0) : Type 0 where
  pub number : ℕ
  pub made : ℕ
  pub actions : ℕ
  pub outbox : List (Cell N)
  pub unclosed : List (OwnPort N)
  pub finalised : List N

module _ {N : Type 0} (name : Name → N) where
  abbrev pub begin_up : (code number : ℕ) → Cell N → Option (Up N)
  begin_up zero number (cell n (an_inport p) ps) = Some (record { number = number; made = 0; actions = 0; outbox = []; unclosed = record { name = n; port = p } ∷ []; finalised = [] })
  begin_up code number port = None

  abbrev pub up_stands : (limit : ℕ) → Up N → List (Cell N) → List (OwnPort N) → Standing
  up_stands limit y outbox [] = ended
  up_stands limit y (m ∷ ms) (p ∷ ps) = acts_next y.actions
  up_stands limit y [] (p ∷ ps) = cond (nat_lt y.made 2) (cond (nat_lt y.made limit) local out_of_steps) (acts_next y.actions)

  abbrev pub up_wants : (made : ℕ) → List (Cell N) → List (OwnPort N) → Option (CellWant N)
  up_wants made outbox [] = None
  up_wants made (m ∷ ms) (p ∷ ps) = Some (to_put 0 m)
  up_wants made [] (p ∷ ps) = cond (nat_lt made 2) None (Some (to_close p.port))

  abbrev pub up_steps : Up N → List (Cell N) → List (OwnPort N) → Option (Up N)
  up_steps y outbox [] = None
  up_steps y (m ∷ ms) (p ∷ ps) = None
  up_steps y [] (p ∷ ps) = cond (nat_lt y.made 2) (Some (record y { made = suc y.made; outbox = says name y.number y.made (2 - y.made) ∷ [] })) None

  abbrev pub up_behind : Up N → CellAction N → List (Cell N) → List (OwnPort N) → Option (Up N)
  up_behind y (put (Some k) sent) (m ∷ ms) (p ∷ ps) = Some (record y { actions = suc y.actions; outbox = ms })
  up_behind y (put None sent) (m ∷ ms) (p ∷ ps) = Some (record y { actions = suc y.actions; outbox = ms; finalised = y.finalised ++ finalised sent })
  up_behind y (close count rest) [] (p ∷ ps) = cond (nat_lt y.made 2) None (Some (record y { actions = suc y.actions; unclosed = ps; finalised = y.finalised ++ flat_map finalised rest ++ p.name ∷ [] }))
  up_behind y action outbox unclosed = None

  abbrev pub counting_up : Machine N (Up N)
  counting_up = record {
    types = predefined;
    main = 0;
    begin = begin_up;
    module_number = λ y. 0;
    number = λ y. y.number;
    serial = λ y. y.made;
    steps = λ y. y.made;
    actions = λ y. y.actions;
    exception = λ y. None;
    held = λ y. flat_map (λ m. kept_value m ∷ []) y.outbox ++ flat_map (λ p. kept_value (port_cell p) ∷ []) y.unclosed;
    finalised = λ y. y.finalised;
    port_type = λ y n. None;
    open_call = λ y. None;
    put_aside = λ y. record y { actions = suc y.actions };
    ready = λ limit y. up_stands limit y y.outbox y.unclosed;
    wanted = λ y. up_wants y.made y.outbox y.unclosed;
    local_step = λ y. up_steps y y.outbox y.unclosed;
    answered = λ y at action. up_behind y action y.outbox y.unclosed;
  }

-- the first of a list, where there is one
abbrev pub first_if : {X : Type 0} → List X → Option X
first_if [] = None
first_if (x ∷ xs) = Some x

-- the state of the first machine that a state of the second stands for
abbrev pub as_down : {N : Type 0} → Up N → Down N
as_down y = record { number = y.number; left = 2 - y.made; steps = y.made; actions = y.actions; serial = y.made; message = first_if y.outbox; inport = first_if y.unclosed; finalised = y.finalised }

-- at most so many, and at most one
abbrev pub AtMostTwo : ℕ → Type 0
AtMostTwo zero = ⊤
AtMostTwo (suc zero) = ⊤
AtMostTwo (suc (suc zero)) = ⊤
AtMostTwo (suc (suc (suc n))) = ⊥

abbrev pub AtMostOne : {X : Type 0} → List X → Type 0
AtMostOne [] = ⊤
AtMostOne (x ∷ []) = ⊤
AtMostOne (x ∷ y ∷ xs) = ⊥

-- A state of the first corresponds to one of the second that it stands for, which is as a run leaves it.
abbrev pub CountTheSame : {N : Type 0} → Down N → Up N → Type 0
CountTheSame x y = (as_down y ≡ x) × AtMostTwo y.made × AtMostOne y.outbox × AtMostOne y.unclosed

-- what the rounds of a machine write, with an empty argument and the limits of a small run
abbrev pub written : {P : Type 0} → Asked → Machine Name P → Option Text
written asked machine = option_map (text_of_run [] asked machine) (rounds 10 machine (start machine (record { steps = 100; processes = 4; ports = 4 }) []))

abbrev pub as_named : Name → Name
as_named n = n
