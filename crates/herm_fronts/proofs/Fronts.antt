-- Fronts as the code writes them: operands with their constants, and then the instructions behind them.
use Rattle.std.proofs.Common.{◌≡◌, ℕ, ◌+◌, List, [], ◌∷◌, ◌++◌, map, flat_map, length, refl, sym, ap, ap₂, ◌∙◌, append_assoc, length-append, arith}
use Rattle.std.proofs.lemmas.List.{map-append}
use Rattle.herm_model.specs.Paths.{Fact}
use Rattle.herm_model.specs.Types.{TypeTable, Mode, by_in, by_inout, by_out, Parameter}
use Rattle.herm_model.specs.Expressions.{Literal, Expression, literal, copy, negation, logical_not, operation, size_of, decimal, length_of, Atom}
use Rattle.herm_model.specs.Statements.{Form}
use Rattle.herm_model.specs.Calls.{call_parameters}
use Rattle.herm_model.specs.Outcomes.{Outcome}
use Rattle.herm_model.proofs.Lists.{length-map}
use Rattle.herm_instructions.specs.Instructions.{Instruction, Const, Load, Apply, Combine}
use Rattle.herm_translated.specs.Constants.{place_of}
use Rattle.herm_translated.specs.Fronts.{expression_code, atom_code, pushed_by, inputs_code, front, front_length}
use Rattle.herm_fronts.specs.Operands.{Operand, done_by, operands_of, instruction_of}
use Rattle.herm_fronts.specs.Forms.{atom_operand, input_operand, input_operands, front_operands, behind_operands, count_behind}
use Rattle.herm_fronts.specs.Lengths.{count_front}

module _ (constants : List Literal) where
  behind-keyed : (code : List Instruction) (ops more : List Operand) → code ≡ map (instruction_of constants) ops → code ++ map (instruction_of constants) more ≡ map (instruction_of constants) (ops ++ more)
  behind-keyed code ops more e = ap (λ c. c ++ map (instruction_of constants) more) e ∙ sym (map-append (instruction_of constants) ops more)

  pub expression-keyed : (e : Expression) → expression_code constants e ≡ map (instruction_of constants) (operands_of e)
  expression-keyed (literal l) = refl
  expression-keyed (copy p) = refl
  expression-keyed (negation e) = behind-keyed _ (operands_of e) _ (expression-keyed e)
  expression-keyed (logical_not e) = behind-keyed _ (operands_of e) _ (expression-keyed e)
  expression-keyed (operation o left right) =
      ap₂ (λ a b. a ++ b) (expression-keyed left) (behind-keyed _ (operands_of right) (done_by (Combine o) ∷ []) (expression-keyed right))
      ∙ sym (map-append (instruction_of constants) (operands_of left) (operands_of right ++ done_by (Combine o) ∷ []))
  expression-keyed (size_of p) = refl
  expression-keyed (decimal e) = behind-keyed _ (operands_of e) _ (expression-keyed e)
  expression-keyed (length_of e) = behind-keyed _ (operands_of e) _ (expression-keyed e)

  keys-keyed : (keys : List Atom) → flat_map (atom_code constants) keys ≡ map (instruction_of constants) (map atom_operand keys)
  keys-keyed [] = refl
  keys-keyed (Atom.literal l ∷ keys) = ap (Const (place_of constants l) ∷◌) (keys-keyed keys)
  keys-keyed (Atom.path p ∷ keys) = ap (Load p ∷◌) (keys-keyed keys)

  input-keyed : (mode : Mode) (a : Atom) → pushed_by mode (atom_code constants a) ≡ map (instruction_of constants) (input_operand mode a)
  input-keyed by_in (Atom.literal l) = refl
  input-keyed by_in (Atom.path p) = refl
  input-keyed by_inout a = refl
  input-keyed by_out a = refl

  inputs-keyed : (parameters : List Parameter) (atoms : List Atom) → inputs_code constants parameters atoms ≡ map (instruction_of constants) (input_operands parameters atoms)
  inputs-keyed [] atoms = refl
  inputs-keyed (p ∷ parameters) [] = refl
  inputs-keyed (p ∷ parameters) (a ∷ atoms) =
      ap₂ (λ x y. x ++ y) (input-keyed p.mode a) (inputs-keyed parameters atoms)
      ∙ sym (map-append (instruction_of constants) (input_operand p.mode a) (input_operands parameters atoms))

  module _ (types : TypeTable) (variables : List ℕ) (facts : List Fact) (number here : ℕ) (exit_at : Outcome → ℕ) where
    -- a front is its operands, and what stands behind them
    pub front-keyed : (form : Form) → front types variables constants facts number here exit_at form ≡ map (instruction_of constants) (front_operands types variables form) ++ behind_operands types variables facts number here exit_at form
    front-keyed (Form.Assign x e) = ap (λ c. c ++ behind_operands types variables facts number here exit_at (Form.Assign x e)) (expression-keyed e)
    front-keyed (Form.Remove r t keys) = ap (λ c. c ++ behind_operands types variables facts number here exit_at (Form.Remove r t keys)) (keys-keyed keys)
    front-keyed (Form.Get r t keys) = ap (λ c. c ++ behind_operands types variables facts number here exit_at (Form.Get r t keys)) (keys-keyed keys)
    front-keyed (Form.Call o arguments) = ap (λ c. c ++ behind_operands types variables facts number here exit_at (Form.Call o arguments)) (inputs-keyed (call_parameters types variables o) arguments)
    front-keyed (Form.If e) = ap (λ c. c ++ behind_operands types variables facts number here exit_at (Form.If e)) (expression-keyed e)
    front-keyed (Form.While e) = ap (λ c. c ++ behind_operands types variables facts number here exit_at (Form.While e)) (expression-keyed e)
    front-keyed form = refl

    behind-counted : (form : Form) → length (behind_operands types variables facts number here exit_at form) ≡ count_behind form
    behind-counted (Form.For r t) = refl
    behind-counted Form.Leave = refl
    behind-counted form = refl

-- how long a front is
pub front-counted : (types : TypeTable) (variables : List ℕ) (constants : List Literal) (form : Form) → count_front types variables form ≡ front_length types variables constants form
front-counted types variables constants form =
    sym (ap length (front-keyed constants types variables [] 0 0 (λ o. 0) form)
    ∙ (length-append (map (instruction_of constants) (front_operands types variables form)) (behind_operands types variables [] 0 0 (λ o. 0) form)
    ∙ ap₂ (λ m n. m + n) (length-map (instruction_of constants) (front_operands types variables form)) (behind-counted constants types variables [] 0 0 (λ o. 0) form)))
