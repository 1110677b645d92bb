-- What comes next in a process of code, by its work list, its call and its position.
use Rattle.std.proofs.Common.{◌≡◌, ℕ, suc, ◌+◌, ◌-◌, ◌<◌, List, [], ◌∷◌, drop, length, Bool, true, false, cond, Option, Some, None, refl, sym, ap, ap₂, subst, ◌∙◌, arith}
use Rattle.std.proofs.lemmas.List.{length-drop}
use Rattle.std.proofs.lemmas.Option.{slice_get_within}
use Rattle.std.specs.Prelude.{⊤}
use Rattle.herm_model.specs.Types.{TypeTable}
use Rattle.herm_model.specs.Values.{Cell}
use Rattle.herm_model.proofs.Options.{none-not_some, some-injective}
use Rattle.herm_instructions.specs.Actions.{is_action}
use Rattle.herm_instructions.specs.Images.{instruction_at}
use Rattle.herm_instructions.specs.Instructions.{Instruction}
use Rattle.herm_instructions.specs.Pieces.{is_operand}
use Rattle.herm_code_machine.specs.ReadyCode.{ReadyCode}
use Rattle.herm_code_machine.specs.CodeStates.{Position, at_index, at_end, at_end_by, CodeState}
use Rattle.herm_code_machine.specs.CodeSteps.{CodeNext, an_item, a_reply, an_action, a_local_piece, nothing, by_action, by_piece, by_met, call_or_piece, item_or, code_next, met_at}
use Rattle.herm_code_machine.specs.Pieces.{Piece, Met, piece_at, action_from, action_of}
use Rattle.herm_steps.specs.Coming.{Coming, coming, coming_item, coming_reply, coming_action, coming_piece, coming_nothing}

pub data ComesNext (c : ReadyCode) (s : CodeState ⊤) : CodeNext ⊤ → Type 0 where
  by_work : (item : Cell ⊤) (work : List (Cell ⊤)) → s.frame.work ≡ item ∷ work → ComesNext c s (an_item item work)
  by_call : (k : ℕ) (met : Met) → s.frame.work ≡ [] → s.frame.call ≡ Some k → met_at c s.position ≡ Some met → ComesNext c s (a_reply k met.index met.instruction)
  by_act : (p : Piece) (met : Met) → s.frame.work ≡ [] → s.frame.call ≡ None → piece_at c s.position ≡ Some p → action_of c p ≡ Some met → ComesNext c s (an_action p met)
  by_local : (p : Piece) → ComesNext c s (a_local_piece p)
  by_none : ComesNext c s nothing

pub comes_next : (c : ReadyCode) (s : CodeState ⊤) → ComesNext c s (code_next c s)
comes_next c s = by s.frame.work refl
  where
    of_action : (p : Piece) → s.frame.work ≡ [] → s.frame.call ≡ None → piece_at c s.position ≡ Some p → (o : Option Met) → action_of c p ≡ o → ComesNext c s (by_action p o)
    of_action p idle closed at None e = by_local p
    of_action p idle closed at (Some met) e = by_act p met idle closed at e

    of_piece : s.frame.work ≡ [] → s.frame.call ≡ None → (o : Option Piece) → piece_at c s.position ≡ o → ComesNext c s (by_piece c o)
    of_piece idle closed None e = by_none
    of_piece idle closed (Some p) e = of_action p idle closed e (action_of c p) refl

    of_met : (k : ℕ) → s.frame.work ≡ [] → s.frame.call ≡ Some k → (o : Option Met) → met_at c s.position ≡ o → ComesNext c s (by_met k o)
    of_met k idle opened None e = by_none
    of_met k idle opened (Some met) e = by_call k met idle opened e

    of_call : s.frame.work ≡ [] → (o : Option ℕ) → s.frame.call ≡ o → ComesNext c s (call_or_piece c s.position o)
    of_call idle None e = of_piece idle e (piece_at c s.position) refl
    of_call idle (Some k) e = of_met k idle e (met_at c s.position) refl

    by : (work : List (Cell ⊤)) → s.frame.work ≡ work → ComesNext c s (item_or work (call_or_piece c s.position s.frame.call))
    by [] e = of_call e s.frame.call refl
    by (item ∷ work) e = by_work item work e

-- an action is found within the code
record IsWithin (first count index : ℕ) : Type 0 where
  some_code : 0 < count
  before : index < first + count

within_from : (types : TypeTable) (xs : List Instruction) (i : ℕ) (m : Met) → action_from types xs i ≡ Some m → IsWithin i (length xs) m.index
within_from types [] i m e = none-not_some e
within_from types (x ∷ xs) i m e = by (λ e. within_from types xs (suc i) m e) (is_operand x) e
  where
    more : IsWithin (suc i) (length xs) m.index → IsWithin i (suc (length xs)) m.index
    more h = let b : m.index < suc i + length xs = h.before in record { some_code = omega arith; before = omega (arith, b) }

    here : i ≡ m.index → IsWithin i (suc (length xs)) m.index
    here e = record { some_code = omega arith; before = omega (arith, e) }

    acts : (b : Bool) → cond b (Some (record { index = i; instruction = x })) None ≡ Some m → IsWithin i (suc (length xs)) m.index
    acts true e = here (ap (λ (k : Met). k.index) (some-injective e))
    acts false e = none-not_some e

    by : (action_from types xs (suc i) ≡ Some m → IsWithin (suc i) (length xs) m.index) → (b : Bool)
        → cond b (action_from types xs (suc i)) (cond (is_action types x) (Some (record { index = i; instruction = x })) None) ≡ Some m → IsWithin i (suc (length xs)) m.index
    by next true e = more (next e)
    by next false e = acts (is_action types x) e

pub action_within : (c : ReadyCode) (p : Piece) (m : Met) → action_of c p ≡ Some m → m.index < length c.code.code
action_within c p m e = by (within_from c.scope.types (drop p.first c.code.code) p.first m e)
  where
    by : IsWithin p.first (length (drop p.first c.code.code)) m.index → m.index < length c.code.code
    by h =
        let some : 0 < length c.code.code - p.first = subst (λ n. 0 < n) (length-drop p.first c.code.code) h.some_code in
        let before : m.index < p.first + (length c.code.code - p.first) = subst (λ n. m.index < p.first + n) (length-drop p.first c.code.code) h.before in
        omega (arith, some, before)

met_within : (c : ReadyCode) (p : Position) (m : Met) → met_at c p ≡ Some m → m.index < length c.code.code
met_within c at_end m e = none-not_some e
met_within c (at_end_by x) m e = none-not_some e
met_within c (at_index i) m e = by (instruction_at c.code i) refl e
  where
    by : (o : Option Instruction) → instruction_at c.code i ≡ o → elim o [ None ↦ None | Some instruction ↦ Some (record { index = i; instruction = instruction }) ] ≡ Some m → m.index < length c.code.code
    by None at e = none-not_some e
    by (Some x) at e = subst (λ k. k < length c.code.code) (ap (λ (k : Met). k.index) (some-injective e)) (slice_get_within c.code.code i x at)

-- what is told of what comes next is what comes next
abbrev piece_in : Piece → Coming → Piece
piece_in d coming_item = d
piece_in d (coming_reply i instruction) = d
piece_in d (coming_action p m) = p
piece_in d (coming_piece p) = d
piece_in d coming_nothing = d

abbrev met_in : Met → Coming → Met
met_in d coming_item = d
met_in d (coming_reply i instruction) = record { index = i; instruction = instruction }
met_in d (coming_action p m) = m
met_in d (coming_piece p) = d
met_in d coming_nothing = d

pub record AnActionComes (c : ReadyCode) (s : CodeState ⊤) (p : Piece) (m : Met) : Type 0 where
  pub idle : s.frame.work ≡ []
  pub closed : s.frame.call ≡ None
  pub is : code_next c s ≡ an_action p m
  pub piece : piece_at c s.position ≡ Some p
  pub found : action_of c p ≡ Some m
  pub within : m.index < length c.code.code

pub action_comes : (c : ReadyCode) (s : CodeState ⊤) (p : Piece) (m : Met) → coming_action p m ≡ coming (code_next c s) → AnActionComes c s p m
action_comes c s p m = by (code_next c s) refl (comes_next c s)
  where
    by : (n : CodeNext ⊤) → code_next c s ≡ n → ComesNext c s n → coming_action p m ≡ coming n → AnActionComes c s p m
    by (an_item item work) at here e = absurd (let k : ⊥ = cc in k)
    by (a_reply call i instruction) at here e = absurd (let k : ⊥ = cc in k)
    by (an_action q k) at (by_act q' k' idle closed piece found) e =
        let one : q ≡ p = ap (piece_in q) (sym e) in
        let two : k ≡ m = ap (met_in k) (sym e) in
        record {
          idle = idle;
          closed = closed;
          is = at ∙ ap₂ an_action one two;
          piece = piece ∙ ap (λ x. Some x) one;
          found = ap (action_of c) (sym one) ∙ found ∙ ap (λ x. Some x) two;
          within = subst (λ (k : Met). k.index < length c.code.code) two (action_within c q k found);
        }
    by (a_local_piece q) at here e = absurd (let k : ⊥ = cc in k)
    by nothing at here e = absurd (let k : ⊥ = cc in k)

pub record AReplyComes (c : ReadyCode) (s : CodeState ⊤) (m : Met) : Type 0 where
  pub call : ℕ
  pub idle : s.frame.work ≡ []
  pub opened : s.frame.call ≡ Some call
  pub is : code_next c s ≡ a_reply call m.index m.instruction
  pub within : m.index < length c.code.code

pub reply_comes : (c : ReadyCode) (s : CodeState ⊤) (m : Met) → coming_reply m.index m.instruction ≡ coming (code_next c s) → AReplyComes c s m
reply_comes c s m = by (code_next c s) refl (comes_next c s)
  where
    by : (n : CodeNext ⊤) → code_next c s ≡ n → ComesNext c s n → coming_reply m.index m.instruction ≡ coming n → AReplyComes c s m
    by (an_item item work) at here e = absurd (let k : ⊥ = cc in k)
    by (a_reply call i instruction) at (by_call call' k idle opened found) e =
        let same : k ≡ m = ap (met_in m) (sym e) in
        record { call = call; idle = idle; opened = opened; is = at ∙ ap (λ (k : Met). a_reply call k.index k.instruction) same; within = subst (λ (k : Met). k.index < length c.code.code) same (met_within c s.position k found) }
    by (an_action q k) at here e = absurd (let k : ⊥ = cc in k)
    by (a_local_piece q) at here e = absurd (let k : ⊥ = cc in k)
    by nothing at here e = absurd (let k : ⊥ = cc in k)

pub record AnItemComes (c : ReadyCode) (s : CodeState ⊤) : Type 0 where
  pub item : Cell ⊤
  pub work : List (Cell ⊤)
  pub front : s.frame.work ≡ item ∷ work
  pub is : code_next c s ≡ an_item item work

pub item_comes : (c : ReadyCode) (s : CodeState ⊤) → coming_item ≡ coming (code_next c s) → AnItemComes c s
item_comes c s = by (code_next c s) refl (comes_next c s)
  where
    by : (n : CodeNext ⊤) → code_next c s ≡ n → ComesNext c s n → coming_item ≡ coming n → AnItemComes c s
    by (an_item item work) at (by_work item' work' front) e = record { item = item; work = work; front = front; is = at }
    by (a_reply call i instruction) at here e = absurd (let k : ⊥ = cc in k)
    by (an_action q k) at here e = absurd (let k : ⊥ = cc in k)
    by (a_local_piece q) at here e = absurd (let k : ⊥ = cc in k)
    by nothing at here e = absurd (let k : ⊥ = cc in k)

-- the action of a process is the one of the piece at its position
pub action_is : (c : ReadyCode) (s : CodeState ⊤) (p : Piece) (m : Met) → code_next c s ≡ an_action p m → AnActionComes c s p m
action_is c s p m e = action_comes c s p m (sym (ap coming e))
