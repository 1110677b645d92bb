-- The arguments of the code of a call are those of the call.
use Rattle.std.proofs.Common.{◌≡◌, inl, inr, ℕ, zero, suc, List, [], ◌∷◌, ◌++◌, map, length, Bool, false, cond, Option, Some, option_and_then, slice_get, refl, sym, ap, ap₂, subst, ◌∙◌, true≢false}
use Rattle.std.specs.Prelude.{⊤, flat_map, IsTrue}
use Rattle.herm_model.specs.Lists.{IsIn}
use Rattle.herm_model.specs.Paths.{Path}
use Rattle.herm_model.specs.Types.{TypeTable, Mode, by_in, by_inout, by_out, Parameter, Raised}
use Rattle.herm_model.specs.Calls.{arguments_by, argument_path, is_returned, kept_for}
use Rattle.herm_model.specs.Expressions.{Literal, Atom}
use Rattle.herm_model.specs.TypedStatements.{IsArgument, AreArguments}
use Rattle.herm_model.specs.Values.{Name, Parts, part, Value}
use Rattle.herm_model.proofs.Options.{none-not_some, some-injective, map-some}
use Rattle.herm_model.proofs.TypedCalls.{kept-declared}
use Rattle.herm_forms.specs.Acts.{input_of, inputs_of, value_before}
use Rattle.herm_forms.specs.Evaluate.{Evaluated, gives, raises, no_value, atom_value}
use Rattle.herm_instructions.specs.Effects.{atom_of}
use Rattle.herm_instructions.specs.Instructions.{Instruction}
use Rattle.herm_instructions.specs.Operands.{count_inputs}
use Rattle.herm_instructions.specs.Pieces.{is_operand}
use Rattle.herm_instructions.specs.TypedInstructions.{IsArgumentOf, AreArgumentsOf}
use Rattle.herm_code_machine.specs.Effects.{constant_value}
use Rattle.herm_code_machine.specs.Pieces.{behind_operands, pushed, operand}
use Rattle.herm_code_machine.specs.ReadyCode.{ReadyCode}
use Rattle.herm_code_machine.specs.Stacks.{parts_from}
use Rattle.herm_code_machine.specs.laws.StackLaws.{pushed_on}
use Rattle.herm_translated.specs.Constants.{literals_among}
use Rattle.herm_translated.specs.Fronts.{argument_by, arguments_of, pushed_by, atom_code, inputs_code}
use Rattle.herm_translated.proofs.FoundConstants.{constant-found}
use Rattle.herm_simulation.proofs.DoneFronts.{first-known, more-known}
use Rattle.herm_simulation.proofs.PiecesBegin.{again-joined}

-- one more argument among paths, by its mode
abbrev with_argument : (Mode → Bool) → Mode → Atom → List Path → List Path
with_argument test m (Atom.literal l) rest = rest
with_argument test m (Atom.path q) rest = cond (test m) (q ∷ rest) rest

argument-more : (test : Mode → Bool) (p : Parameter) (ps : List Parameter) (a : Atom) (atoms : List Atom) → arguments_by test (p ∷ ps) (a ∷ atoms) ≡ with_argument test p.mode a (arguments_by test ps atoms)
argument-more test p ps (Atom.literal l) atoms = refl
argument-more test p ps (Atom.path q) atoms = refl

-- elements that a function takes to the same
same-flat : {X Y : Type 0} (f g : X → List Y) (xs : List X) → ((x : X) → IsIn x xs → f x ≡ g x) → flat_map f xs ≡ flat_map g xs
same-flat f g [] h = refl
same-flat f g (x ∷ xs) h = ap₂ (λ a b. a ++ b) (h x (inl refl)) (same-flat f g xs (λ y m. h y (inr m)))

module _ (table : TypeTable) (variables : List ℕ) where
  argument-is : (m : Mode) (a : Atom) (t : ℕ) → IsArgument table variables m a t → IsArgumentOf table variables m (argument_by m a) t
  argument-is by_in a t h = tt
  argument-is by_inout (Atom.literal l) t h = absurd h
  argument-is by_inout (Atom.path p) t h = h
  argument-is by_out (Atom.literal l) t h = absurd h
  argument-is by_out (Atom.path p) t h = h

  pub arguments-are : (ps : List Parameter) (atoms : List Atom) → AreArguments table variables ps atoms → AreArgumentsOf table variables ps (arguments_of ps atoms)
  arguments-are [] [] h = tt
  arguments-are [] (a ∷ atoms) h = absurd h
  arguments-are (p ∷ ps) [] h = absurd h
  arguments-are (p ∷ ps) (a ∷ atoms) h = (argument-is p.mode a p.content h.0, arguments-are ps atoms h.1)

  -- paths of modes that are not in
  module _ (test : Mode → Bool) (none : test by_in ≡ false) where
    one-same : (m : Mode) (a : Atom) (t : ℕ) → IsArgument table variables m a t → (xs ys : List Path) → xs ≡ ys → with_argument test m (atom_of (argument_by m a)) xs ≡ with_argument test m a ys
    one-same by_in (Atom.literal l) t h xs ys e = e
    one-same by_in (Atom.path q) t h xs ys e = e ∙ sym (ap (λ b. cond b (q ∷ ys) ys) none)
    one-same by_inout (Atom.literal l) t h xs ys e = absurd h
    one-same by_inout (Atom.path q) t h xs ys e = ap (λ zs. cond (test by_inout) (q ∷ zs) zs) e
    one-same by_out (Atom.literal l) t h xs ys e = absurd h
    one-same by_out (Atom.path q) t h xs ys e = ap (λ zs. cond (test by_out) (q ∷ zs) zs) e

    pub paths-same : (ps : List Parameter) (atoms : List Atom) → AreArguments table variables ps atoms → arguments_by test ps (map atom_of (arguments_of ps atoms)) ≡ arguments_by test ps atoms
    paths-same [] [] h = refl
    paths-same [] (a ∷ atoms) h = absurd h
    paths-same (p ∷ ps) [] h = absurd h
    paths-same (p ∷ ps) (a ∷ atoms) h =
        argument-more test p ps (atom_of (argument_by p.mode a)) (map atom_of (arguments_of ps atoms))
        ∙ one-same p.mode a p.content h.0 (arguments_by test ps (map atom_of (arguments_of ps atoms))) (arguments_by test ps atoms) (paths-same ps atoms h.1)
        ∙ sym (argument-more test p ps a atoms)

  -- the path of an argument that comes back
  back-same : (m : Mode) (a : Atom) (t : ℕ) → IsArgument table variables m a t → IsTrue (is_returned m) → atom_of (argument_by m a) ≡ a
  back-same by_in a t h back = absurd (true≢false (sym back))
  back-same by_inout (Atom.literal l) t h back = absurd h
  back-same by_inout (Atom.path q) t h back = refl
  back-same by_out (Atom.literal l) t h back = absurd h
  back-same by_out (Atom.path q) t h back = refl

  path-same : (ps : List Parameter) (atoms : List Atom) (i : ℕ) (p : Parameter) → AreArguments table variables ps atoms → slice_get ps i ≡ Some p → IsTrue (is_returned p.mode)
      → argument_path (slice_get (map atom_of (arguments_of ps atoms)) i) ≡ argument_path (slice_get atoms i)
  path-same [] atoms i p h e back = none-not_some e
  path-same (q ∷ ps) [] i p h e back = absurd h
  path-same (q ∷ ps) (a ∷ atoms) zero p h e back = ap (λ a. argument_path (Some a)) (back-same q.mode a q.content h.0 (subst (λ (p : Parameter). IsTrue (is_returned p.mode)) (sym (some-injective e)) back))
  path-same (q ∷ ps) (a ∷ atoms) (suc i) p h e back = path-same ps atoms i p h.1 e back

  pub kept-same : (ps : List Parameter) (atoms : List Atom) (rs : List Raised) → AreArguments table variables ps atoms → ((r : Raised) → IsIn r rs → (i : ℕ) → IsIn i r.kept → (p : Parameter) × (slice_get ps i ≡ Some p) × IsTrue (is_returned p.mode)) → (e : ℕ)
      → flat_map (λ i. argument_path (slice_get (map atom_of (arguments_of ps atoms)) i)) (kept_for rs e) ≡ flat_map (λ i. argument_path (slice_get atoms i)) (kept_for rs e)
  kept-same ps atoms rs h returned e =
      same-flat (λ i. argument_path (slice_get (map atom_of (arguments_of ps atoms)) i)) (λ i. argument_path (slice_get atoms i)) (kept_for rs e)
      (λ i m. (let r = kept-declared rs e i m in let p = returned r.0 r.1 i r.2 in path-same ps atoms i p.0 h p.1 p.2))

  -- values of the parameters of mode in, as they are pushed
  module _ (c : ReadyCode) (vars : Parts Name) where
    pub record Inputs (ps : List Parameter) (atoms : List Atom) (inputs : Parts ⊤) (x : Instruction) (stack : List Value) : Type 0 where
      pub values : List Value
      pub row : behind_operands c vars (inputs_code c.constants ps atoms ++ (x ∷ [])) stack ≡ Some (pushed_on values stack)
      pub parts : parts_from values ≡ inputs
      pub many : count_inputs (arguments_of ps atoms) ≡ length values

    value-there : (v : Evaluated) (more : Option (Parts ⊤)) (inputs : Parts ⊤) → value_before v more ≡ Some inputs → (w : Value) × (rest : Parts ⊤) × (v ≡ gives w) × (more ≡ Some rest) × (part w rest ≡ inputs)
    value-there (gives w) more inputs e = let m = map-some (part w) more inputs e in (w, m.0, refl, m.1, m.2)
    value-there (raises x) more inputs e = none-not_some e
    value-there no_value more inputs e = none-not_some e

    atom-pushed : (a : Atom) → ((l : Literal) → IsIn l (literals_among (a ∷ [])) → IsIn l c.constants) → (w : Value) (stack : List Value) (more : List Instruction) → atom_value vars a ≡ gives w
        → behind_operands c vars (atom_code c.constants a ++ more) stack ≡ behind_operands c vars more (w ∷ stack)
    atom-pushed (Atom.literal l) known w stack more is =
        ap (λ x. option_and_then (behind_operands c vars more) (pushed (constant_value x) stack)) (constant-found c.constants l (known l (inl refl)))
        ∙ ap (λ v. option_and_then (behind_operands c vars more) (pushed v stack)) is
    atom-pushed (Atom.path p) known w stack more is = ap (λ v. option_and_then (behind_operands c vars more) (pushed v stack)) is

    pub inputs-pushed : (ps : List Parameter) (atoms : List Atom) → AreArguments table variables ps atoms → ((l : Literal) → IsIn l (literals_among atoms) → IsIn l c.constants) → (inputs : Parts ⊤) → inputs_of ps atoms vars ≡ Some inputs
        → (x : Instruction) → is_operand x ≡ false → (stack : List Value) → Inputs ps atoms inputs x stack
    inputs-pushed [] [] h known inputs is x other stack = record {
      values = [];
      row = ap (λ b. cond b (option_and_then (behind_operands c vars []) (pushed (operand c x vars) stack)) (Some stack)) other;
      parts = some-injective is;
      many = refl;
    }
    inputs-pushed [] (a ∷ atoms) h known inputs is x other stack = absurd h
    inputs-pushed (p ∷ ps) [] h known inputs is x other stack = absurd h
    inputs-pushed (p ∷ ps) (a ∷ atoms) h known inputs is x other stack =
        let f = found p.mode h.0 is (λ rest e s. inputs-pushed ps atoms h.1 (λ l m. known l (more-known a atoms l m)) rest e x other s) in record { values = f.0; row = f.1; parts = f.2; many = f.3 }
      where
        rest_code : List Instruction
        rest_code = inputs_code c.constants ps atoms

        Found : Mode → Type 0
        Found m = (values : List Value) × (behind_operands c vars ((pushed_by m (atom_code c.constants a) ++ rest_code) ++ (x ∷ [])) stack ≡ Some (pushed_on values stack)) × (parts_from values ≡ inputs) × (count_inputs (argument_by m a ∷ arguments_of ps atoms) ≡ length values)

        skipped : (m : Mode) → pushed_by m (atom_code c.constants a) ≡ [] → count_inputs (argument_by m a ∷ arguments_of ps atoms) ≡ count_inputs (arguments_of ps atoms) → Inputs ps atoms inputs x stack → Found m
        skipped m none same r = (
          r.values,
          ap (λ code. behind_operands c vars ((code ++ rest_code) ++ (x ∷ [])) stack) none ∙ r.row,
          r.parts,
          same ∙ r.many,
        )

        found : (m : Mode) → IsArgument table variables m a p.content → input_of m (atom_value vars a) (inputs_of ps atoms vars) ≡ Some inputs → ((rest : Parts ⊤) → inputs_of ps atoms vars ≡ Some rest → (s : List Value) → Inputs ps atoms rest x s) → Found m
        found by_in typed is again =
            let v = value-there (atom_value vars a) (inputs_of ps atoms vars) inputs is in
            let r = again v.1 v.3 (v.0 ∷ stack) in (
              v.0 ∷ r.values,
              ap (λ code. behind_operands c vars code stack) (again-joined (atom_code c.constants a) rest_code (x ∷ []))
                  ∙ atom-pushed a (λ l m. known l (first-known a atoms l m)) v.0 stack (rest_code ++ (x ∷ [])) v.2
                  ∙ r.row,
              ap (part v.0) r.parts ∙ v.4,
              ap suc r.many,
            )
        found by_inout typed is again = skipped by_inout refl (same a typed) (again inputs is stack)
          where
            same : (a : Atom) → IsArgument table variables by_inout a p.content → count_inputs (argument_by by_inout a ∷ arguments_of ps atoms) ≡ count_inputs (arguments_of ps atoms)
            same (Atom.literal l) h = absurd h
            same (Atom.path q) h = refl
        found by_out typed is again = skipped by_out refl (same a typed) (again inputs is stack)
          where
            same : (a : Atom) → IsArgument table variables by_out a p.content → count_inputs (argument_by by_out a ∷ arguments_of ps atoms) ≡ count_inputs (arguments_of ps atoms)
            same (Atom.literal l) h = absurd h
            same (Atom.path q) h = refl
