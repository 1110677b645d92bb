-- Operands keep the rules of good code, from left to right.
use Rattle.std.proofs.Common.{◌≡◌, ℕ, List, [], ◌∷◌, ◌++◌, flat_map, filter, reverse, true, Some, inl, inr, refl, sym, ap, subst, ◌∙◌, append_assoc}
use Rattle.std.proofs.lemmas.Grind.{reverse_onto}
use Rattle.herm_model.specs.Lists.{IsIn}
use Rattle.herm_model.specs.Paths.{Path, Fact}
use Rattle.herm_model.specs.Types.{TypeTable, Mode, by_in, by_inout, by_out, Parameter}
use Rattle.herm_model.specs.Expressions.{Literal, Expression, literal, copy, negation, logical_not, operation, size_of, decimal, length_of, Atom, paths_read, paths_among}
use Rattle.herm_model.specs.Statements.{Form, Process}
use Rattle.herm_model.specs.Outcomes.{Outcome, raised, exceptions, normal_outcomes, outcomes}
use Rattle.herm_model.specs.FactsOfStatements.{full, closed}
use Rattle.herm_model.specs.TypedExpressions.{IsTyped}
use Rattle.herm_model.specs.TypedStatements.{IsTypedAtom, AreArguments, AreKeysOf, IsArgument}
use Rattle.herm_model.proofs.Lists.{in-append_left, in-append_right, in-map}
use Rattle.herm_model.proofs.DecidedForms.{IsRegular}
use Rattle.herm_instructions.specs.Instructions.{negative, complement, as_text, text_length, Instruction, Const, Load, Size, Apply, Combine}
use Rattle.herm_instructions.specs.Labels.{Slot, Label}
use Rattle.herm_instructions.specs.Operands.{FindsOnStack}
use Rattle.herm_instructions.specs.Effects.{facts_needed, facts_behind, exceptions_of, label_behind}
use Rattle.herm_instructions.specs.Places.{Way, jumps}
use Rattle.herm_instructions.specs.TypedInstructions.{IsTypedInstruction}
use Rattle.herm_instructions.specs.GoodCode.{FindsSlots, TrimsExcess}
use Rattle.herm_translated.specs.Constants.{literals_of, literals_among, place_of}
use Rattle.herm_translated.specs.Fronts.{expression_code, atom_code, inputs_code, pushed_by}
use Rattle.herm_translated.specs.BlockLabels.{label_with, is_named, facts_after}
use Rattle.herm_translated.specs.laws.LabelsAlong.{handed_on}
use Rattle.herm_translated.proofs.FoundConstants.{constant-found}
use Rattle.herm_translated.proofs.FrontWays.{OnlyRaises}
use Rattle.herm_translated.proofs.Handing.{pushed_types, expression-on, atom-on}
use Rattle.herm_good_images.proofs.fronts.GoodInstructions.{AreGood, good-joined, good-one, IsGoodAt, landing-way}

-- types that are pushed one by one stand in the other order
pub pushed-reverse : (ts stack : List ℕ) → pushed_types ts stack ≡ reverse ts ++ stack
pushed-reverse [] stack = refl
pushed-reverse (t ∷ ts) stack = pushed-reverse ts (t ∷ stack) ∙ sym (append_assoc (reverse ts) (t ∷ []) stack) ∙ ap (λ xs. xs ++ stack) (sym (reverse_onto ts t []))

module _ (types : TypeTable) (variables : List ℕ) (constants : List Literal) (count : ℕ) (processes : List Process) (exit_at : Outcome → ℕ) (facts : List Fact) (slots : List Slot) (form : Form) where
  -- before an instruction of the form these types are on the stack
  abbrev pub at : List ℕ → Label
  at stack = record { stack = stack; facts = facts; slots = slots }

  -- a way of the form's front lands at the edge of its outcome, with what is held behind it
  abbrev pub LandsAtExit : Way → Label → Type 0
  LandsAtExit w after = IsIn w.outcome (outcomes types variables form) × (is_named w.outcome ≡ true) × (w.index ≡ exit_at w.outcome) × (after ≡ label_with (facts_after types variables form w.outcome facts) slots)

  abbrev pub IsGoodIn : Instruction → Label → Type 0
  IsGoodIn i l = IsGoodAt types variables constants count processes exit_at LandsAtExit i l

  -- an instruction that names no way but those of exceptions of the form
  pub raising : (i : Instruction) (stack : List ℕ) → jumps i ≡ [] → ((e : ℕ) → IsIn e (exceptions_of types variables i) → IsIn e (exceptions types variables form))
      → ((e : ℕ) → IsIn e (exceptions_of types variables i) → facts_behind types variables i (raised e) facts ≡ facts_after types variables form (raised e) facts)
      → IsTypedInstruction types variables count constants processes i → FindsOnStack types constants variables i stack → ((f : Fact) → IsIn f (facts_needed types variables i) → IsIn f facts)
      → FindsSlots types variables i slots → TrimsExcess types variables i facts → IsGoodIn i (at stack)
  raising i stack none known behind typed found needed has_slots trimmed = record {
    typed = typed;
    stack = found;
    facts = needed;
    slots = has_slots;
    trims = trimmed;
    leads = λ w m.
        (let r = landing-way types variables constants exit_at i none w m in
        subst (λ (w : Way). LandsAtExit w (label_behind types variables constants i w.outcome (at stack))) (sym r.2)
        (in-append_right (raised r.0) (normal_outcomes form) _ (in-map raised r.0 (exceptions types variables form) (known r.0 r.1)), refl, refl, ap (λ fs. label_with fs slots) (behind r.0 r.1)));
  }

  -- what is read has its facts
  abbrev pub HasRead : List Path → Type 0
  HasRead ps = (p : Path) → IsIn p ps → (f : Fact) → IsIn f (closed types variables (full types variables p)) → IsIn f facts

  constant-good : (l : Literal) (stack : List ℕ) → IsIn l constants → IsGoodIn (Const (place_of constants l)) (at stack)
  constant-good l stack known =
      raising (Const (place_of constants l)) stack refl (λ e m. absurd m) (λ e m. absurd m) (l, constant-found constants l known) (stack, refl) (λ f m. absurd m) tt tt

  load-good : (p : Path) (t : ℕ) (stack : List ℕ) → IsTypedAtom types variables (Atom.path p) t → HasRead (p ∷ []) → IsGoodIn (Load p) (at stack)
  load-good p t stack typed read = raising (Load p) stack refl (λ e m. absurd m) (λ e m. absurd m) (t, typed.0, typed.1) (stack, refl) (read p (inl refl)) tt tt

  atom-good : (a : Atom) (t : ℕ) (stack : List ℕ) → IsTypedAtom types variables a t → ((l : Literal) → IsIn l (literals_among (a ∷ [])) → IsIn l constants) → HasRead (paths_among (a ∷ [])) → AreGood types variables constants IsGoodIn (atom_code constants a) (Some (at stack))
  atom-good (Atom.literal l) t stack typed known read = good-one types variables constants IsGoodIn _ (at stack) (constant-good l stack (known l (inl refl)))
  atom-good (Atom.path p) t stack typed known read = good-one types variables constants IsGoodIn _ (at stack) (load-good p t stack typed read)

  module _ (regular : IsRegular types) (still : (e : ℕ) → facts_after types variables form (raised e) facts ≡ filter (λ f. true) facts) where
    abbrev RaisesIn : List Instruction → Type 0
    RaisesIn code = (i : Instruction) → IsIn i code → OnlyRaises types variables constants (exceptions types variables form) i

    operator-good : (before : List Instruction) (i : Instruction) (t : ℕ) (stack : List ℕ) → handed_on types variables constants before (Some (at stack)) ≡ Some (at (t ∷ stack)) → AreGood types variables constants IsGoodIn before (Some (at stack))
        → IsGoodIn i (at (t ∷ stack)) → AreGood types variables constants IsGoodIn (before ++ i ∷ []) (Some (at stack))
    operator-good before i t stack handed good h =
        good-joined types variables constants IsGoodIn before (i ∷ []) (Some (at stack)) good (subst (AreGood types variables constants IsGoodIn (i ∷ [])) (sym handed) (good-one types variables constants IsGoodIn i (at (t ∷ stack)) h))

    pub expression-good : (e : Expression) (t : ℕ) (stack : List ℕ) → IsTyped types variables e t → ((l : Literal) → IsIn l (literals_of e) → IsIn l constants) → HasRead (paths_read e) → RaisesIn (expression_code constants e)
        → AreGood types variables constants IsGoodIn (expression_code constants e) (Some (at stack))
    expression-good (literal l) t stack typed known read raises = good-one types variables constants IsGoodIn _ (at stack) (constant-good l stack (known l (inl refl)))
    expression-good (copy p) t stack typed known read raises = good-one types variables constants IsGoodIn _ (at stack) (load-good p t stack typed read)
    expression-good (size_of p) t stack typed known read raises =
        good-one types variables constants IsGoodIn _ (at stack)
        (raising (Size p) stack refl (λ e m. absurd m) (λ e m. absurd m) (typed.2, typed.3, (typed.1, typed.4, typed.5)) (stack, refl) (read p (inl refl)) tt tt)
    expression-good (negation e) t stack typed known read raises =
        operator-good (expression_code constants e) (Apply negative) typed.1 stack (expression-on types variables constants regular e typed.1 typed.3 known (at stack))
        (expression-good e typed.1 stack typed.3 known read (λ i m. raises i (in-append_left i (expression_code constants e) _ m)))
        (raising (Apply negative) (typed.1 ∷ stack) refl (raises (Apply negative) (in-append_right _ (expression_code constants e) _ (inl refl))).1 (λ x m. sym (still x)) tt (stack, ap (λ u. u ∷ stack) (regular.one_integer typed.1 typed.2)) (λ f m. absurd m) tt tt)
    expression-good (logical_not e) t stack typed known read raises =
        operator-good (expression_code constants e) (Apply complement) typed.1 stack (expression-on types variables constants regular e typed.1 typed.3 known (at stack))
        (expression-good e typed.1 stack typed.3 known read (λ i m. raises i (in-append_left i (expression_code constants e) _ m)))
        (raising (Apply complement) (typed.1 ∷ stack) refl (raises (Apply complement) (in-append_right _ (expression_code constants e) _ (inl refl))).1 (λ x m. sym (still x)) tt (stack, ap (λ u. u ∷ stack) (regular.one_boolean typed.1 typed.2)) (λ f m. absurd m) tt tt)
    expression-good (decimal e) t stack typed known read raises =
        operator-good (expression_code constants e) (Apply as_text) typed.1 stack (expression-on types variables constants regular e typed.1 typed.3 known (at stack))
        (expression-good e typed.1 stack typed.3 known read (λ i m. raises i (in-append_left i (expression_code constants e) _ m)))
        (raising (Apply as_text) (typed.1 ∷ stack) refl (raises (Apply as_text) (in-append_right _ (expression_code constants e) _ (inl refl))).1 (λ x m. sym (still x)) tt (stack, ap (λ u. u ∷ stack) (regular.one_integer typed.1 typed.2)) (λ f m. absurd m) tt tt)
    expression-good (length_of e) t stack typed known read raises =
        operator-good (expression_code constants e) (Apply text_length) typed.1 stack (expression-on types variables constants regular e typed.1 typed.3 known (at stack))
        (expression-good e typed.1 stack typed.3 known read (λ i m. raises i (in-append_left i (expression_code constants e) _ m)))
        (raising (Apply text_length) (typed.1 ∷ stack) refl (raises (Apply text_length) (in-append_right _ (expression_code constants e) _ (inl refl))).1 (λ x m. sym (still x)) tt (stack, ap (λ u. u ∷ stack) (regular.one_text typed.1 typed.2)) (λ f m. absurd m) tt tt)
    expression-good (operation o left right) t stack typed known read raises =
        good-joined types variables constants IsGoodIn (expression_code constants left) (expression_code constants right ++ Combine o ∷ []) (Some (at stack))
        (expression-good left typed.1 stack typed.5 (λ l m. known l (in-append_left l (literals_of left) _ m)) (λ p m. read p (in-append_left p (paths_read left) _ m)) (λ i m. raises i (in-append_left i (expression_code constants left) _ m)))
        (subst (AreGood types variables constants IsGoodIn (expression_code constants right ++ Combine o ∷ [])) (sym (expression-on types variables constants regular left typed.1 typed.5 (λ l m. known l (in-append_left l (literals_of left) _ m)) (at stack)))
        (operator-good (expression_code constants right) (Combine o) typed.1 (typed.1 ∷ stack) (expression-on types variables constants regular right typed.1 typed.6 (λ l m. known l (in-append_right l (literals_of left) _ m)) (at (typed.1 ∷ stack)))
        (expression-good right typed.1 (typed.1 ∷ stack) typed.6 (λ l m. known l (in-append_right l (literals_of left) _ m)) (λ p m. read p (in-append_right p (paths_read left) _ m)) (λ i m. raises i (in-append_right i (expression_code constants left) _ (in-append_left i (expression_code constants right) _ m))))
        (raising (Combine o) (typed.1 ∷ typed.1 ∷ stack) refl (raises (Combine o) (in-append_right _ (expression_code constants left) _ (in-append_right _ (expression_code constants right) _ (inl refl)))).1 (λ x m. sym (still x)) tt (typed.1, typed.2, typed.3, typed.4, (stack, refl)) (λ f m. absurd m) tt tt)))

  module _ (regular : IsRegular types) where
    first-among : (a : Atom) (atoms : List Atom) (l : Literal) → IsIn l (literals_among (a ∷ [])) → IsIn l (literals_among (a ∷ atoms))
    first-among (Atom.literal k) atoms l (inl e) = inl e
    first-among (Atom.literal k) atoms l (inr m) = absurd m
    first-among (Atom.path p) atoms l m = absurd m

    later-among : (a : Atom) (atoms : List Atom) (l : Literal) → IsIn l (literals_among atoms) → IsIn l (literals_among (a ∷ atoms))
    later-among (Atom.literal k) atoms l m = inr m
    later-among (Atom.path p) atoms l m = m

    first-path : (a : Atom) (atoms : List Atom) (p : Path) → IsIn p (paths_among (a ∷ [])) → IsIn p (paths_among (a ∷ atoms))
    first-path (Atom.literal k) atoms p m = absurd m
    first-path (Atom.path q) atoms p (inl e) = inl e
    first-path (Atom.path q) atoms p (inr m) = absurd m

    later-path : (a : Atom) (atoms : List Atom) (p : Path) → IsIn p (paths_among atoms) → IsIn p (paths_among (a ∷ atoms))
    later-path (Atom.literal k) atoms p m = m
    later-path (Atom.path q) atoms p m = inr m

    -- the keys of a row
    pub keys-good : (ts key : List ℕ) (keys : List Atom) (stack : List ℕ) → AreKeysOf types variables ts key keys → ((l : Literal) → IsIn l (literals_among keys) → IsIn l constants) → HasRead (paths_among keys)
        → AreGood types variables constants IsGoodIn (flat_map (atom_code constants) keys) (Some (at stack))
    keys-good ts [] [] stack h known read = tt
    keys-good ts [] (a ∷ keys) stack h known read = absurd h
    keys-good ts (i ∷ key) [] stack h known read = absurd h
    keys-good ts (i ∷ key) (a ∷ keys) stack h known read =
        good-joined types variables constants IsGoodIn (atom_code constants a) (flat_map (atom_code constants) keys) (Some (at stack))
        (atom-good a (h.0).0 stack (h.0).2 (λ l m. known l (first-among a keys l m)) (λ p m. read p (first-path a keys p m)))
        (subst (AreGood types variables constants IsGoodIn (flat_map (atom_code constants) keys)) (sym (atom-on types variables constants regular a (h.0).0 (h.0).2 (λ l m. known l (first-among a keys l m)) (at stack)))
        (keys-good ts key keys ((h.0).0 ∷ stack) h.1 (λ l m. known l (later-among a keys l m)) (λ p m. read p (later-path a keys p m))))

    -- the values of a call's parameters of mode `in`: only these atoms are read here
    abbrev pub HasReadInputs : List Parameter → List Atom → Type 0
    HasReadInputs [] atoms = Unit {0}
    HasReadInputs (p ∷ ps) [] = Unit {0}
    HasReadInputs (p ∷ ps) (a ∷ atoms) = (p.mode ≡ by_in → HasRead (paths_among (a ∷ []))) × HasReadInputs ps atoms

    pub inputs-good : (ps : List Parameter) (atoms : List Atom) (stack : List ℕ) → AreArguments types variables ps atoms → ((l : Literal) → IsIn l (literals_among atoms) → IsIn l constants) → HasReadInputs ps atoms
        → AreGood types variables constants IsGoodIn (inputs_code constants ps atoms) (Some (at stack))
    inputs-good [] [] stack h known read = tt
    inputs-good [] (a ∷ atoms) stack h known read = absurd h
    inputs-good (p ∷ ps) [] stack h known read = absurd h
    inputs-good (p ∷ ps) (a ∷ atoms) stack h known read =
        by p.mode h.0 read.0 (λ s. inputs-good ps atoms s h.1 (λ l m. known l (later-among a atoms l m)) read.1)
      where
        by : (mode : Mode) → IsArgument types variables mode a p.content → (mode ≡ by_in → HasRead (paths_among (a ∷ []))) → ((s : List ℕ) → AreGood types variables constants IsGoodIn (inputs_code constants ps atoms) (Some (at s)))
            → AreGood types variables constants IsGoodIn (pushed_by mode (atom_code constants a) ++ inputs_code constants ps atoms) (Some (at stack))
        by by_in k r again =
            good-joined types variables constants IsGoodIn (atom_code constants a) (inputs_code constants ps atoms) (Some (at stack))
            (atom-good a p.content stack k (λ l m. known l (first-among a atoms l m)) (r refl))
            (subst (AreGood types variables constants IsGoodIn (inputs_code constants ps atoms)) (sym (atom-on types variables constants regular a p.content k (λ l m. known l (first-among a atoms l m)) (at stack))) (again (p.content ∷ stack)))
        by by_inout k r again = again stack
        by by_out k r again = again stack
