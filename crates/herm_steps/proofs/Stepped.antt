-- A step, and the state behind it.
use Rattle.std.proofs.Common.{◌≡◌, ℕ, List, [], ◌∷◌, Bool, true, false, Option, Some, None, sym, ap, ◌∙◌}
use Rattle.std.specs.Prelude.{⊤}
use Rattle.herm_journal.specs.Renaming.{forget_name}
use Rattle.herm_code_machine.specs.CodeStates.{CodeState, Position, to_next_piece}
use Rattle.herm_code_machine.specs.CodeSteps.{CodeNext, an_item, a_reply, an_action, a_local_piece, nothing, by_action, by_met, by_piece, call_or_piece, item_or, met_at, step_next}
use Rattle.herm_code_machine.specs.Pieces.{Met, Piece, action_of, piece_at}
use Rattle.herm_model.specs.Values.{Cell}
use Rattle.herm_code_machine.specs.ReadyCode.{ReadyCode}
use Rattle.herm_steps.specs.Behind.{IsBehind}
use Rattle.herm_steps.specs.Coming.{Coming, coming, coming_item, coming_reply, coming_action, coming_piece, coming_nothing}
use Rattle.herm_steps.specs.HeldStates.{HeldState}
use Rattle.herm_steps.specs.Stepped.{at_piece}

pub behind_same : (b : Bool) (p : HeldState) (s t : CodeState ⊤) (o : Option (CodeState ⊤)) → s.module_number ≡ t.module_number → IsBehind b p s o → IsBehind b p t o
behind_same true p s t o same h = (h.0, h.1, h.2 ∙ same, h.3)
behind_same false p s t o same h = h

-- the piece that comes, and any without it
abbrev piece_in : Piece → Coming → Piece
piece_in d coming_item = d
piece_in d (coming_reply i instruction) = d
piece_in d (coming_action p m) = d
piece_in d (coming_piece p) = p
piece_in d coming_nothing = d

pub local_next : (c : ReadyCode) (s : CodeState ⊤) (n : CodeNext ⊤) (p : Piece) → coming_piece p ≡ coming n → step_next forget_name c s n ≡ to_next_piece forget_name c (at_piece p s)
local_next c s (an_item item work) p is = absurd (let k : ⊥ = cc in k)
local_next c s (a_reply call i instruction) p is = absurd (let k : ⊥ = cc in k)
local_next c s (an_action q m) p is = absurd (let k : ⊥ = cc in k)
local_next c s (a_local_piece q) p is = ap (λ q. to_next_piece forget_name c (at_piece q s)) (sym (ap (piece_in p) is))
local_next c s nothing p is = absurd (let k : ⊥ = cc in k)

-- a piece without an action that comes next is the piece at the position
piece_by_piece : (c : ReadyCode) (o : Option Piece) (p : Piece) → coming (by_piece c o) ≡ coming_piece p → o ≡ Some p
piece_by_piece c None p e = absurd (let k : ⊥ = cc in k)
piece_by_piece c (Some q) p e = by (action_of c q) e
  where
    by : (m : Option Met) → coming (by_action q m) ≡ coming_piece p → Some q ≡ Some p
    by None e = ap (λ (q : Piece). Some q) (ap (piece_in p) e)
    by (Some m) e = absurd (let k : ⊥ = cc in k)

piece_by_call : (c : ReadyCode) (at : Position) (call : Option ℕ) (p : Piece) → coming (call_or_piece c at call) ≡ coming_piece p → piece_at c at ≡ Some p
piece_by_call c at None p e = piece_by_piece c (piece_at c at) p e
piece_by_call c at (Some call) p e = by (met_at c at) e
  where
    by : (m : Option Met) → coming (by_met call m) ≡ coming_piece p → piece_at c at ≡ Some p
    by None e = absurd (let k : ⊥ = cc in k)
    by (Some m) e = absurd (let k : ⊥ = cc in k)

pub piece_next : (c : ReadyCode) (work : List (Cell ⊤)) (at : Position) (call : Option ℕ) (p : Piece) → coming (item_or work (call_or_piece c at call)) ≡ coming_piece p → piece_at c at ≡ Some p
piece_next c [] at call p e = piece_by_call c at call p e
piece_next c (item ∷ work) at call p e = absurd (let k : ⊥ = cc in k)
