-- What holds of each instruction of a front or of an edge; and the exceptions of each instruction differ.
use Rattle.std.proofs.Common.{◌≡◌, ℕ, List, [], ◌∷◌, ◌++◌, map, flat_map, Bool, true, false, ◌⊎◌, inl, inr, refl, sym, ap, subst, ◌∙◌, arith}
use Rattle.herm_model.specs.Lists.{IsIn}
use Rattle.herm_model.specs.Types.{TypeTable, Mode, by_in, by_inout, by_out, Parameter}
use Rattle.herm_model.specs.Expressions.{Literal, Expression, literal, copy, negation, logical_not, operation, size_of, decimal, length_of, Atom, Operator, is_arithmetic, is_joining}
use Rattle.herm_model.specs.Statements.{Form, Differ, Process, simple, no_statements, statement, branching_of, goes_on}
use Rattle.herm_model.specs.Outcomes.{Outcome, raised, overflow, depletion, listed_if, exceptions, normal_outcomes}
use Rattle.herm_model.specs.Targets.{end}
use Rattle.herm_model.specs.Handlers.{caught}
use Rattle.herm_model.specs.Exits.{Exit, paired}
use Rattle.herm_model.specs.ControlPaths.{Edge, edge}
use Rattle.herm_model.proofs.Lists.{in-append_cases, in-map, in-flat_map_from}
use Rattle.herm_model.proofs.DifferentOutcomes.{process-EdgesDiffer}
use Rattle.herm_instructions.specs.Instructions.{UnaryOperator, negative, complement, as_text, text_length, Instruction, Const, Load, Size, Apply, Combine, Store, Move, New, Reveal, Wrap, Unwrap, Insert, Remove, Get, Send, Call, Create, Raise}
use Rattle.herm_instructions.specs.Effects.{atom_of, exceptions_of}
use Rattle.herm_translated.specs.Fronts.{expression_code, atom_code, inputs_code, pushed_by}
use Rattle.herm_translated.proofs.Joined.{map-joined}

-- what holds of operands and operators holds of each instruction of an expression
module _ (constants : List Literal) (P : Instruction → Type 0) (on_const : (k : ℕ) → P (Const k)) (on_load : (p : List ℕ) → P (Load p)) where
  atom-each : (a : Atom) (i : Instruction) → IsIn i (atom_code constants a) → P i
  atom-each (Atom.literal l) i (inl e) = subst P (sym e) (on_const _)
  atom-each (Atom.literal l) i (inr m) = absurd m
  atom-each (Atom.path p) i (inl e) = subst P (sym e) (on_load p)
  atom-each (Atom.path p) i (inr m) = absurd m

  pub atoms-each : (keys : List Atom) (i : Instruction) → IsIn i (flat_map (atom_code constants) keys) → P i
  atoms-each keys i m = let r = in-flat_map_from (atom_code constants) i keys m in atom-each r.0 i r.2

  pub inputs-each : (ps : List Parameter) (atoms : List Atom) (i : Instruction) → IsIn i (inputs_code constants ps atoms) → P i
  inputs-each [] atoms i m = absurd m
  inputs-each (p ∷ ps) [] i m = absurd m
  inputs-each (p ∷ ps) (a ∷ atoms) i m = by (in-append_cases i (pushed_by p.mode (atom_code constants a)) (inputs_code constants ps atoms) m) (inputs-each ps atoms i)
    where
      first : (mode : Mode) → IsIn i (pushed_by mode (atom_code constants a)) → P i
      first by_in k = atom-each a i k
      first by_inout k = absurd k
      first by_out k = absurd k

      by : IsIn i (pushed_by p.mode (atom_code constants a)) ⊎ IsIn i (inputs_code constants ps atoms) → (IsIn i (inputs_code constants ps atoms) → P i) → P i
      by (inl k) again = first p.mode k
      by (inr k) again = again k

  module _ (on_size : (p : List ℕ) → P (Size p)) (on_apply : (o : UnaryOperator) → P (Apply o)) (on_combine : (o : Operator) → P (Combine o)) where
    last-each : (before : List Instruction) (last : Instruction) → ((i : Instruction) → IsIn i before → P i) → P last → (i : Instruction) → IsIn i (before ++ last ∷ []) → P i
    last-each before last h k i m = by (in-append_cases i before (last ∷ []) m)
      where
        by : IsIn i before ⊎ IsIn i (last ∷ []) → P i
        by (inl a) = h i a
        by (inr (inl e)) = subst P (sym e) k
        by (inr (inr a)) = absurd a

    pub expression-each : (e : Expression) (i : Instruction) → IsIn i (expression_code constants e) → P i
    expression-each (literal l) i (inl e) = subst P (sym e) (on_const _)
    expression-each (literal l) i (inr m) = absurd m
    expression-each (copy p) i (inl e) = subst P (sym e) (on_load p)
    expression-each (copy p) i (inr m) = absurd m
    expression-each (size_of p) i (inl e) = subst P (sym e) (on_size p)
    expression-each (size_of p) i (inr m) = absurd m
    expression-each (negation e) i m = last-each (expression_code constants e) (Apply negative) (expression-each e) (on_apply negative) i m
    expression-each (logical_not e) i m = last-each (expression_code constants e) (Apply complement) (expression-each e) (on_apply complement) i m
    expression-each (decimal e) i m = last-each (expression_code constants e) (Apply as_text) (expression-each e) (on_apply as_text) i m
    expression-each (length_of e) i m = last-each (expression_code constants e) (Apply text_length) (expression-each e) (on_apply text_length) i m
    expression-each (operation o left right) i m = by (in-append_cases i (expression_code constants left) _ m) (expression-each left i) (last-each (expression_code constants right) (Combine o) (expression-each right) (on_combine o) i)
      where
        by : IsIn i (expression_code constants left) ⊎ IsIn i (expression_code constants right ++ Combine o ∷ []) → (IsIn i (expression_code constants left) → P i) → (IsIn i (expression_code constants right ++ Combine o ∷ []) → P i) → P i
        by (inl a) f g = f a
        by (inr b) f g = g b

right-Differ : {X : Type 0} (xs ys : List X) → Differ (xs ++ ys) → Differ ys
right-Differ [] ys h = h
right-Differ (x ∷ xs) ys h = right-Differ xs ys h.1

unmapped-Differ : {X Y : Type 0} (f : X → Y) (xs : List X) → Differ (map f xs) → Differ xs
unmapped-Differ f [] h = tt
unmapped-Differ f (x ∷ xs) h = ((λ m. h.0 (in-map f x xs m)), unmapped-Differ f xs h.1)

module _ (types : TypeTable) (variables : List ℕ) where
  -- a process of one statement
  abbrev alone : Form → Process
  alone form = record { variables = variables; body = statement (simple form) no_statements }

  abbrev leads : Form → List Exit
  leads form = paired (normal_outcomes form) (map (λ (o : Outcome). end) (normal_outcomes form))

  abbrev landing_exit : ℕ → Exit
  landing_exit e = record { outcome = raised e; target = caught [] e }

  -- the exceptions of a form that goes on in one way differ, since the outcomes of its statement do
  one-Differ : (form : Form) → branching_of form ≡ goes_on → Differ (exceptions types variables form)
  one-Differ form simple_one =
      let all : Differ (map (λ (e : Edge). e.outcome) (map (edge types variables form) (leads form ++ map landing_exit (exceptions types variables form)))) = process-EdgesDiffer types (alone form) (simple_one, tt) _ (inl refl) in
      let split : map (λ (e : Edge). e.outcome) (map (edge types variables form) (leads form ++ map landing_exit (exceptions types variables form)))
      ≡ map (λ (e : Edge). e.outcome) (map (edge types variables form) (leads form)) ++ map (λ (e : Edge). e.outcome) (map (edge types variables form) (map landing_exit (exceptions types variables form)))
      = ap (map (λ (e : Edge). e.outcome)) (map-joined (edge types variables form) (leads form) _) ∙ map-joined (λ (e : Edge). e.outcome) (map (edge types variables form) (leads form)) _ in
      unmapped-Differ landing_exit (exceptions types variables form)
      (unmapped-Differ (edge types variables form) (map landing_exit (exceptions types variables form))
      (unmapped-Differ (λ (e : Edge). e.outcome) (map (edge types variables form) (map landing_exit (exceptions types variables form)))
      (right-Differ (map (λ (e : Edge). e.outcome) (map (edge types variables form) (leads form))) _ (subst Differ split all))))

  pub each-Differ : (i : Instruction) → Differ (exceptions_of types variables i)
  each-Differ (Apply negative) = ((λ k. absurd k), tt)
  each-Differ (Apply complement) = tt
  each-Differ (Apply as_text) = tt
  each-Differ (Apply text_length) = tt
  each-Differ (Combine o) = by (is_arithmetic o) (is_joining o)
    where
      apart : IsIn overflow (depletion ∷ []) → ⊥
      apart (inl e) = absurd (omega (arith, e))
      apart (inr k) = k

      by : (a b : Bool) → Differ (listed_if a overflow ++ listed_if b depletion)
      by true true = (apart, ((λ k. absurd k), tt))
      by true false = ((λ k. absurd k), tt)
      by false true = ((λ k. absurd k), tt)
      by false false = tt
  each-Differ (Store x) = tt
  each-Differ (Move y x) = tt
  each-Differ (New x t) = one-Differ (Form.New x) refl
  each-Differ (Reveal v c) = one-Differ (Form.Reveal v c) refl
  each-Differ (Wrap y t p) = one-Differ (Form.Wrap y p) refl
  each-Differ (Unwrap p t y) = one-Differ (Form.Unwrap p t y) refl
  each-Differ (Insert r t) = one-Differ (Form.Insert r t) refl
  each-Differ (Remove r t n) = one-Differ (Form.Remove r t []) refl
  each-Differ (Get r t n) = one-Differ (Form.Get r t []) refl
  each-Differ (Send x o trim) = one-Differ (Form.Send x o) refl
  each-Differ (Call o arguments keeps) = one-Differ (Form.Call o (map atom_of arguments)) refl
  each-Differ (Create o n) = one-Differ (Form.Create o n) refl
  each-Differ (Raise e) = one-Differ (Form.Raise e) refl
  each-Differ i = tt
