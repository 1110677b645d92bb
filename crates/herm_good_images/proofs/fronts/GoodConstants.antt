-- The literals of a typed form are each of the type of what it is.
use Rattle.std.proofs.Common.{◌≡◌, ℕ, List, [], ◌∷◌, ◌⊎◌, inl, inr, refl, sym, subst}
use Rattle.herm_model.specs.Lists.{IsIn}
use Rattle.herm_model.specs.Types.{TypeTable, names, Mode, by_in, by_inout, by_out, Parameter}
use Rattle.herm_model.specs.Expressions.{Literal, boolean, integer, text, tag, Expression, literal, copy, negation, logical_not, operation, size_of, decimal, length_of, Atom}
use Rattle.herm_model.specs.Statements.{Form, Process}
use Rattle.herm_model.specs.TypedExpressions.{HasShape, IsLiteralOf, IsTyped}
use Rattle.herm_model.specs.TypedStatements.{AreArguments, AreKeysOf, IsArgument, IsTypedForm}
use Rattle.herm_model.proofs.Lists.{in-append_cases}
use Rattle.herm_model.proofs.DecidedForms.{IsRegular}
use Rattle.herm_instructions.specs.Operands.{type_of_literal}
use Rattle.herm_translated.specs.Constants.{literals_of, literals_among, literals_in}

module _ (types : TypeTable) (regular : IsRegular types) where
  -- a literal of a type is of the type of what it is
  abbrev IsItself : Literal → Type 0
  IsItself l = IsLiteralOf types l (type_of_literal l)

  of-type : (l : Literal) (t : ℕ) → IsLiteralOf types l t → IsItself l
  of-type (boolean b) t h = regular.has_boolean
  of-type (integer z) t h = (regular.has_integer, h.1)
  of-type (text s) t h = (regular.has_text, h.1)
  of-type (tag u i) t h = (refl, h.1, subst (λ x. HasShape types x (names h.1)) h.0 h.2, h.3)

  module _ (variables : List ℕ) where
    in-expression : (e : Expression) (t : ℕ) → IsTyped types variables e t → (l : Literal) → IsIn l (literals_of e) → IsItself l
    in-expression (literal k) t h l (inl e) = subst IsItself (sym e) (of-type k t h)
    in-expression (literal k) t h l (inr m) = absurd m
    in-expression (copy p) t h l m = absurd m
    in-expression (size_of p) t h l m = absurd m
    in-expression (negation e) t h l m = in-expression e h.1 h.3 l m
    in-expression (logical_not e) t h l m = in-expression e h.1 h.3 l m
    in-expression (decimal e) t h l m = in-expression e h.1 h.3 l m
    in-expression (length_of e) t h l m = in-expression e h.1 h.3 l m
    in-expression (operation o left right) t h l m = by (in-append_cases l (literals_of left) _ m) (in-expression left h.1 h.5 l) (in-expression right h.1 h.6 l)
      where
        by : IsIn l (literals_of left) ⊎ IsIn l (literals_of right) → (IsIn l (literals_of left) → IsItself l) → (IsIn l (literals_of right) → IsItself l) → IsItself l
        by (inl a) f g = f a
        by (inr b) f g = g b

    in-keys : (ts key : List ℕ) (keys : List Atom) → AreKeysOf types variables ts key keys → (l : Literal) → IsIn l (literals_among keys) → IsItself l
    in-keys ts [] [] h l m = absurd m
    in-keys ts [] (a ∷ keys) h l m = absurd h
    in-keys ts (i ∷ key) [] h l m = absurd h
    in-keys ts (i ∷ key) (Atom.literal k ∷ keys) h l (inl e) = subst IsItself (sym e) (of-type k (h.0).0 (h.0).2)
    in-keys ts (i ∷ key) (Atom.literal k ∷ keys) h l (inr m) = in-keys ts key keys h.1 l m
    in-keys ts (i ∷ key) (Atom.path p ∷ keys) h l m = in-keys ts key keys h.1 l m

    in-arguments : (ps : List Parameter) (atoms : List Atom) → AreArguments types variables ps atoms → (l : Literal) → IsIn l (literals_among atoms) → IsItself l
    in-arguments [] [] h l m = absurd m
    in-arguments [] (a ∷ atoms) h l m = absurd h
    in-arguments (p ∷ ps) [] h l m = absurd h
    in-arguments (p ∷ ps) (Atom.path q ∷ atoms) h l m = in-arguments ps atoms h.1 l m
    in-arguments (p ∷ ps) (Atom.literal k ∷ atoms) h l (inr m) = in-arguments ps atoms h.1 l m
    in-arguments (p ∷ ps) (Atom.literal k ∷ atoms) h l (inl e) = subst IsItself (sym e) (by p.mode h.0)
      where
        by : (mode : Mode) → IsArgument types variables mode (Atom.literal k) p.content → IsItself k
        by by_in a = of-type k p.content a
        by by_inout a = absurd a
        by by_out a = absurd a

    -- each literal of a typed form is of the type of what it is
    pub literal-typed : (count : ℕ) (processes : List Process) (form : Form) → IsTypedForm types variables count processes form → (l : Literal) → IsIn l (literals_in form) → IsItself l
    literal-typed count processes (Form.Assign x e) h l m = in-expression e h.0 h.2 l m
    literal-typed count processes (Form.If e) h l m = in-expression e h.0 h.2 l m
    literal-typed count processes (Form.While e) h l m = in-expression e h.0 h.2 l m
    literal-typed count processes (Form.Remove r t keys) h l m = in-keys (h.1).1 (h.1).0 keys (h.1).5 l m
    literal-typed count processes (Form.Get r t keys) h l m = in-keys (h.1).1 (h.1).0 keys (h.1).5 l m
    literal-typed count processes (Form.Call o atoms) h l m = in-arguments h.1 atoms h.5 l m
    literal-typed count processes form h l m = absurd m
