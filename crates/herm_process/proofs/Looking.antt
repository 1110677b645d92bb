-- The port for which a process that wants a message has a type is among those at which it looks.
use Rattle.std.proofs.Common.{◌≡◌, ℕ, nat_eq, List, [], ◌∷◌, map, find, Bool, true, false, cond, ◌||◌, Option, Some, None, option_map, option_and_then, refl, sym, ap, subst, ◌∙◌, true≢false}
use Rattle.std.specs.Prelude.{IsTrue, ⊤}
use Rattle.herm_model.specs.Lists.{any_pass, list_of}
use Rattle.herm_model.specs.Paths.{Path}
use Rattle.herm_model.specs.Types.{type_at}
use Rattle.herm_model.specs.Values.{Cell, cell, an_inport, a_callmessage}
use Rattle.herm_model.proofs.Lists.{cons-not_nil}
use Rattle.herm_model.proofs.Options.{some-injective, none-not_some, chain-some}
use Rattle.herm_journal.specs.Actions.{to_put, to_take, to_answer}
use Rattle.herm_journal.specs.Entries.{port, same_place}
use Rattle.herm_journal.specs.Messages.{CellWant, CellReply}
use Rattle.herm_journal.specs.Renaming.{forget_name}
use Rattle.herm_forms.specs.Callmessages.{Composed}
use Rattle.herm_forms.specs.ClosesAndAnswers.{work_wants}
use Rattle.herm_forms.specs.Exchanges.{inport_at, ports_at}
use Rattle.herm_forms.specs.Frames.{Frame, Taken}
use Rattle.herm_forms.specs.Incoming.{leads_from}
use Rattle.herm_instructions.specs.TypedInstructions.{is_some_choice}
use Rattle.herm_instructions.specs.Instructions.{Instruction, New, Send, Receive, Select, Call, Return, ReturnBy, Create}
use Rattle.herm_code_machine.specs.CodeActions.{code_wants}
use Rattle.herm_code_machine.specs.CodeSeen.{action_at, code_port_type, ports_of}
use Rattle.herm_code_machine.specs.CodeStates.{CodeState}
use Rattle.herm_code_machine.specs.CodeSteps.{CodeNext, an_item, a_reply, an_action, a_local_piece, nothing, by_action, by_piece, by_met, call_or_piece, item_or, code_next, met_at, code_wanted, wanted_next}
use Rattle.herm_code_machine.specs.Pieces.{Met, Piece, piece_at, action_of, stack_before_action}
use Rattle.herm_code_machine.specs.ReadyCode.{ReadyCode}

abbrev some_take : List ℕ → Option (CellWant ⊤)
some_take ports = Some (to_take ports)

put-no_take : {A : Type 0} (o : Option ℕ) (x : Option (Cell ⊤)) (ports : List ℕ) → option_and_then (λ p. option_map (to_put p) x) o ≡ some_take ports → A
put-no_take None x ports e = cc
put-no_take (Some p) None ports e = cc
put-no_take (Some p) (Some m) ports e = cc

call-no_take : {A : Type 0} (o : Option ℕ) (x : Option (Composed ⊤)) (ports : List ℕ) → option_and_then (λ p. option_map (λ (c : Composed ⊤). to_put p c.message) x) o ≡ some_take ports → A
call-no_take None x ports e = cc
call-no_take (Some p) None ports e = cc
call-no_take (Some p) (Some m) ports e = cc

answer-no_take : {A : Type 0} (o : Option (ℕ × ℕ)) (reply : List (Cell ⊤) → CellReply ⊤) (x : Option (Taken ⊤)) (ports : List ℕ) → option_and_then (λ (c : ℕ × ℕ). option_map (λ (t : Taken ⊤). to_answer c.0 c.1 (reply t.cells)) x) o ≡ some_take ports → A
answer-no_take None reply x ports e = cc
answer-no_take (Some c) reply None ports e = cc
answer-no_take (Some c) reply (Some t) ports e = cc

-- the ports of the paths at which an instruction looks
one-port : (o : Option ℕ) (ports : List ℕ) → option_map (λ p. to_take (p ∷ [])) o ≡ some_take ports → option_and_then (λ p. option_map (p ∷◌) (Some [])) o ≡ Some ports
one-port None ports e = cc
one-port (Some p) ports e = ap (λ w. taken w) e
  where
    taken : Option (CellWant ⊤) → Option (List ℕ)
    taken (Some (to_take ports)) = Some ports
    taken w = None

all-ports : (o : Option (List ℕ)) (ports : List ℕ) → option_map to_take o ≡ some_take ports → o ≡ Some ports
all-ports None ports e = cc
all-ports (Some ps) ports e = ap (λ w. taken w) e
  where
    taken : Option (CellWant ⊤) → Option (List ℕ)
    taken (Some (to_take ports)) = Some ports
    taken w = None

takes-from : (c : ReadyCode) (i : Instruction) (stack : List (Cell ⊤)) (b : Frame ⊤) (ports : List ℕ) → code_wants forget_name c i stack b ≡ some_take ports → ports_at (ports_of i) b ≡ Some ports
takes-from c (Receive x i) stack b ports e = one-port (inport_at i b) ports e
takes-from c (Select choices) stack b ports e = all-ports _ ports e
takes-from c (New x t) stack b ports e = cc
takes-from c (Create o n) stack b ports e = cc
takes-from c (Send x o trim) stack b ports e = put-no_take _ _ ports e
takes-from c (Call o arguments keeps) stack b ports e = call-no_take _ _ ports e
takes-from c (Return m) stack b ports e = answer-no_take _ _ _ ports e
takes-from c (ReturnBy m x kept) stack b ports e = answer-no_take _ _ _ ports e
takes-from c i stack b ports e = none-not_some e

abbrev IsAmong : ℕ → List ℕ → Type 0
IsAmong n ports = any_pass (same_place (port n)) (map port ports) ≡ true

found-among : (n : ℕ) (b : Frame ⊤) (paths : List Path) (path : Path) (ports : List ℕ) → ports_at paths b ≡ Some ports → find (leads_from n b) paths ≡ Some path → IsAmong n ports
found-among n b [] path ports e f = none-not_some f
found-among n b (i ∷ paths) path ports e f = by (inport_at i b) (ports_at paths b) (λ qs g h. found-among n b paths path qs g h) e f
  where
    test : (p : ℕ) (qs : List ℕ) (same : Bool) → (find (leads_from n b) paths ≡ Some path → IsAmong n qs) → cond (same || false) (Some i) (find (leads_from n b) paths) ≡ Some path → same || any_pass (same_place (port n)) (map port qs) ≡ true
    test p qs true more f = refl
    test p qs false more f = more f

    by : (o : Option ℕ) (r : Option (List ℕ)) → ((qs : List ℕ) → r ≡ Some qs → find (leads_from n b) paths ≡ Some path → IsAmong n qs) → option_and_then (λ p. option_map (p ∷◌) r) o ≡ Some ports
        → cond (any_pass (nat_eq n) (list_of (λ k. k ∷ []) o)) (Some i) (find (leads_from n b) paths) ≡ Some path → IsAmong n ports
    by None r more e f = none-not_some e
    by (Some p) None more e f = none-not_some e
    by (Some p) (Some qs) more e f = subst (IsAmong n) (some-injective e) (test p qs (nat_eq n p) (more qs refl) f)

-- the action that comes next is that of the piece at the position
abbrev At : ReadyCode → CodeState ⊤ → CodeNext ⊤ → Type 0
At c s (an_action p m) = action_at c s.position ≡ Some m
At c s next = ⊤

at-next : (c : ReadyCode) (s : CodeState ⊤) → At c s (code_next c s)
at-next c s = of_work s.frame.work
  where
    of_action : (p : Piece) (o : Option Met) → action_of c p ≡ o → piece_at c s.position ≡ Some p → At c s (by_action p o)
    of_action p None found at = tt
    of_action p (Some m) found at = ap (option_and_then (action_of c)) at ∙ found

    of_piece : (o : Option Piece) → piece_at c s.position ≡ o → At c s (by_piece c o)
    of_piece None at = tt
    of_piece (Some p) at = of_action p (action_of c p) refl at

    of_met : (k : ℕ) (o : Option Met) → At c s (by_met k o)
    of_met k None = tt
    of_met k (Some m) = tt

    of_call : (o : Option ℕ) → At c s (call_or_piece c s.position o)
    of_call None = of_piece (piece_at c s.position) refl
    of_call (Some k) = of_met k (met_at c s.position)

    of_work : (work : List (Cell ⊤)) → At c s (item_or work (call_or_piece c s.position s.frame.call))
    of_work [] = of_call s.frame.call
    of_work (item ∷ work) = tt

pub item-no_take : {A : Type 0} (item : Cell ⊤) (ports : List ℕ) → work_wants item ≡ some_take ports → A
item-no_take (cell n (an_inport p) ps) ports e = cc
item-no_take (cell n (a_callmessage who call) ps) ports e = cc
item-no_take (cell n k ps) ports e = none-not_some e

pub looks-among : (c : ReadyCode) (s : CodeState ⊤) (ports : List ℕ) (n t : ℕ) → code_wanted forget_name c s ≡ Some (to_take ports) → code_port_type c s n ≡ Some t → IsAmong n ports
looks-among c s ports n t w typed = by (code_next c s) (at-next c s) w
  where
    looked : (m : Met) → action_at c s.position ≡ Some m → (path : Path) × (find (leads_from n s.frame) (ports_of m.instruction) ≡ Some path)
    looked m at =
        let x = chain-some (type_at c.scope.types c.scope.variables) (find (leads_from n s.frame) (ports_of m.instruction)) t
        (ap (option_and_then (λ (m : Met). option_and_then (type_at c.scope.types c.scope.variables) (find (leads_from n s.frame) (ports_of m.instruction)))) (sym at) ∙ typed) in
        (x.0, x.1)

    by : (next : CodeNext ⊤) → At c s next → wanted_next forget_name c s next ≡ Some (to_take ports) → IsAmong n ports
    by (an_item item work) at e = item-no_take item ports e
    by (a_reply call i instruction) at e = cc
    by (an_action p m) at e =
        let x = chain-some (λ stack. code_wants forget_name c m.instruction stack s.frame) (stack_before_action c p s.frame.variables s.stack) (to_take ports) e in
        let path = looked m at in
        found-among n s.frame (ports_of m.instruction) path.0 ports (takes-from c m.instruction x.0 s.frame ports x.2) path.1
    by (a_local_piece p) at e = none-not_some e
    by nothing at e = none-not_some e

-- an instruction of good code takes from some port
abbrev pub Chooses : Instruction → Type 0
Chooses (Select choices) = IsTrue (is_some_choice choices)
Chooses i = ⊤

some-port : {A : Type 0} (o : Option ℕ) (r : Option (List ℕ)) → option_and_then (λ p. option_map (p ∷◌) r) o ≡ Some [] → A
some-port None r e = none-not_some e
some-port (Some p) None e = none-not_some e
some-port (Some p) (Some qs) e = cons-not_nil p qs (some-injective e)

one-taken : {A : Type 0} (o : Option ℕ) → option_map (λ p. to_take (p ∷ [])) o ≡ some_take [] → A
one-taken None e = cc
one-taken (Some p) e = cc

pub takes-some : {A : Type 0} (c : ReadyCode) (i : Instruction) (stack : List (Cell ⊤)) (b : Frame ⊤) → Chooses i → code_wants forget_name c i stack b ≡ some_take [] → A
takes-some c (Receive x i) stack b h e = one-taken (inport_at i b) e
takes-some c (Select []) stack b h e = absurd (true≢false (sym h))
takes-some c (Select (a ∷ choices)) stack b h e = some-port (inport_at a.port b) _ (all-ports _ [] e)
takes-some c (New x t) stack b h e = cc
takes-some c (Create o n) stack b h e = cc
takes-some c (Send x o trim) stack b h e = put-no_take _ _ [] e
takes-some c (Call o arguments keeps) stack b h e = call-no_take _ _ [] e
takes-some c (Return m) stack b h e = answer-no_take _ _ _ [] e
takes-some c (ReturnBy m x kept) stack b h e = answer-no_take _ _ _ [] e
takes-some c i stack b h e = none-not_some e
