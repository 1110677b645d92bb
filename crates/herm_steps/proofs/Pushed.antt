-- Operands push what their instructions do.
use Rattle.std.proofs.Common.{◌≡◌, ℕ, suc, ◌<◌, List, [], ◌∷◌, map, drop, length, get_or, drop-cons, Bool, true, false, cond, Some, None, option_and_then, refl, sym, ap, ◌∙◌}
use Rattle.std.proofs.lemmas.List.{drop-map}
use Rattle.std.specs.Prelude.{⊤}
use Rattle.herm_model.specs.Outcomes.{ok, is_true, is_false, turn, done, component, arm, raised}
use Rattle.herm_model.specs.Values.{Parts, Value}
use Rattle.herm_forms.specs.Evaluate.{Evaluated, gives, raises, no_value}
use Rattle.herm_forms.specs.Frames.{Completion, Frame, goes, stays, stuck}
use Rattle.herm_instructions.specs.Instructions.{Instruction}
use Rattle.herm_instructions.specs.Pieces.{is_operand}
use Rattle.herm_code_machine.specs.Pieces.{behind_operands, operand, pushed, stack_before_action}
use Rattle.herm_code.specs.View.{instr_view}
use Rattle.herm_code.specs.declared.instr.Instr.{Instr}
use Rattle.herm_pieces.specs.View.{piece_view, ready_view}
use Rattle.herm_pieces.specs.declared.code.Code.{Code}
use Rattle.herm_pieces.specs.declared.pieces.Piece.{Piece}
use Rattle.herm_code_machine.specs.ReadyCode.{ReadyCode}
use Rattle.herm_code_machine.specs.Stacks.{Effect, leaving, no_effect, pushing}

-- whether a completion goes on without an exception
abbrev is_on : Completion ⊤ → Bool
is_on (goes ok b) = true
is_on (goes is_true b) = false
is_on (goes is_false b) = false
is_on (goes turn b) = false
is_on (goes done b) = false
is_on (goes (component k) b) = false
is_on (goes (arm n) b) = false
is_on (goes (raised e) b) = false
is_on (stays b) = false
is_on stuck = false

differ : false ≡ true → ⊥
differ e = let k : ⊥ = cc in k

pub on_pushing : (e : Evaluated) (stack new : List Value) (b : Frame ⊤) → pushing e stack b ≡ leaving new (goes ok b) → pushed e stack ≡ Some new
on_pushing (gives v) stack new b is = ap (λ (e : Effect ⊤). Some e.stack) is
on_pushing (raises x) stack new b is = absurd (differ (ap (λ (e : Effect ⊤). is_on e.completion) is))
on_pushing no_value stack new b is = absurd (differ (ap (λ (e : Effect ⊤). is_on e.completion) is))

pub off_pushing : (e : Evaluated) (stack new : List Value) (b : Frame ⊤) (c : Completion ⊤) → is_on c ≡ false → pushing e stack b ≡ leaving new c → pushed e stack ≡ None
off_pushing (gives v) stack new b c off is = absurd (differ (sym off ∙ sym (ap (λ (e : Effect ⊤). is_on e.completion) is)))
off_pushing (raises x) stack new b c off is = refl
off_pushing no_value stack new b c off is = refl

pub raised_pushing : (e : Evaluated) (stack new : List Value) (b : Frame ⊤) (x : ℕ) → pushing e stack b ≡ leaving new (goes (raised x) b) → pushed e stack ≡ None
raised_pushing e stack new b x is = off_pushing e stack new b (goes (raised x) b) refl is

pub stuck_pushing : (e : Evaluated) (stack : List Value) (b : Frame ⊤) → pushing e stack b ≡ no_effect → pushed e stack ≡ None
stuck_pushing e stack b is = off_pushing e stack [] b stuck refl is

-- one operand more, and what is none
pub behind_one : (c : ReadyCode) (ps : Parts ⊤) (i : Instruction) (more : List Instruction) (stack new : List Value) → is_operand i ≡ true → pushed (operand c i ps) stack ≡ Some new → behind_operands c ps (i ∷ more) stack ≡ behind_operands c ps more new
behind_one c ps i more stack new is so = ap (λ t. cond t (option_and_then (behind_operands c ps more) (pushed (operand c i ps) stack)) (Some stack)) is ∙ ap (option_and_then (behind_operands c ps more)) so

pub behind_none : (c : ReadyCode) (ps : Parts ⊤) (i : Instruction) (more : List Instruction) (stack : List Value) → is_operand i ≡ true → pushed (operand c i ps) stack ≡ None → behind_operands c ps (i ∷ more) stack ≡ None
behind_none c ps i more stack is so = ap (λ t. cond t (option_and_then (behind_operands c ps more) (pushed (operand c i ps) stack)) (Some stack)) is ∙ ap (option_and_then (behind_operands c ps more)) so

pub behind_other : (c : ReadyCode) (ps : Parts ⊤) (i : Instruction) (more : List Instruction) (stack : List Value) → is_operand i ≡ false → behind_operands c ps (i ∷ more) stack ≡ Some stack
behind_other c ps i more stack is = ap (λ t. cond t (option_and_then (behind_operands c ps more) (pushed (operand c i ps) stack)) (Some stack)) is

-- the operands of a piece's action stand from its first index on
pub from_first : (code : Code) (p : Piece) (ps : Parts ⊤) (items : List Instr) (stack : List Value) → items ≡ code.code.now.code.items
    → stack_before_action (ready_view code) (piece_view p) ps stack ≡ behind_operands (ready_view code) ps (map instr_view (drop p.first items)) stack
from_first code p ps items stack is =
    ap (λ xs. behind_operands (ready_view code) ps xs stack) (drop-map instr_view p.first code.code.now.code.items ∙ ap (λ xs. map instr_view (drop p.first xs)) (sym is))

pub at_item : (items : List Instr) (n : ℕ) (d : Instr) → n < length items → d ≡ get_or items n d → map instr_view (drop n items) ≡ instr_view d ∷ map instr_view (drop (suc n) items)
at_item items n d within is = ap (map instr_view) (drop-cons items n d within ∙ ap (λ x. x ∷ drop (suc n) items) (sym is))
