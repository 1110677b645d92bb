-- What operands, fronts and edges hand on.
use Rattle.std.proofs.Common.{◌≡◌, ℕ, zero, suc, ◌+◌, length, List, [], ◌∷◌, ◌++◌, map, flat_map, filter, drop, true, false, not, Option, Some, ◌⊎◌, inl, inr, refl, sym, ap, ap₂, subst, ◌∙◌, append_assoc, true≢false, arith}
use Rattle.herm_model.specs.Lists.{IsIn, any_pass, list_of}
use Rattle.herm_model.specs.Paths.{Path, Fact, path_of, is_at_or_below}
use Rattle.herm_model.specs.Types.{TypeTable, type_at, Mode, by_in, by_inout, by_out, Parameter, fields}
use Rattle.herm_model.specs.Expressions.{Literal, boolean, integer, text, tag, Expression, literal, copy, negation, logical_not, operation, size_of, decimal, length_of, Atom, Operator, logical_or, logical_and, equal, unequal, less, at_most, greater, at_least, plus, minus, times, divided, modulo, concatenated}
use Rattle.herm_model.specs.Statements.{Form, Arm, Process}
use Rattle.herm_model.specs.Calls.{call_parameters, call_raises, arguments_by, is_returned}
use Rattle.herm_model.specs.Outcomes.{Outcome, ok, is_true, is_false, component, raised, exceptions, arms_from, outcomes}
use Rattle.herm_model.specs.FactsOfStatements.{full_of_each, closed}
use Rattle.herm_model.specs.TypedExpressions.{HasShape, IsLiteralOf, IsTyped, shape_given}
use Rattle.herm_model.specs.tests.TypingTests.{number_of_shape}
use Rattle.herm_model.specs.TypedStatements.{IsTypedAtom, AreArguments, AreKeysOf, IsArgument, IsFound, IsTypedForm}
use Rattle.herm_model.specs.WellFormedTables.{IsWellFormedTable}
use Rattle.herm_model.proofs.Lists.{in-append_left, in-append_right, in-append_cases, in-map_from}
use Rattle.herm_model.proofs.TypedCalls.{parameters-are}
use Rattle.herm_model.proofs.DecidedForms.{IsRegular, well_formed-regular}
use Rattle.herm_instructions.specs.Instructions.{negative, complement, as_text, text_length, Instruction, Const, Load, Apply, Combine, Store, JumpFalse, Remove, Get, Call, LoopDrop, Drop}
use Rattle.herm_instructions.specs.Labels.{Slot, Label}
use Rattle.herm_instructions.specs.Operands.{type_of_literal, if_in, input_types, count_inputs, types_of_key}
use Rattle.herm_instructions.specs.Effects.{atom_of}
use Rattle.herm_translated.specs.Constants.{place_of, literals_of, literals_among, literals_in}
use Rattle.herm_translated.specs.Fronts.{argument_by, arguments_of, pushed_by, expression_code, atom_code, inputs_code, front}
use Rattle.herm_translated.specs.Departures.{arrive_by}
use Rattle.herm_translated.specs.BlockLabels.{label_with, is_named, facts_after}
use Rattle.herm_translated.specs.laws.LabelsAlong.{without_paths, without_slots, handed_by, handed_on, ExpressionsPushTheirType, FrontsHandOn, EdgesHandOn}
use Rattle.herm_translated.proofs.FoundConstants.{constant-found}
use Rattle.herm_translated.proofs.Joined.{length-joined}

pub filter-all : {X : Type 0} (xs : List X) → filter (λ x. true) xs ≡ xs
filter-all [] = refl
filter-all (x ∷ xs) = ap (x ∷◌) (filter-all xs)

-- types pushed one by one
abbrev pub pushed_types : List ℕ → List ℕ → List ℕ
pushed_types [] stack = stack
pushed_types (t ∷ ts) stack = pushed_types ts (t ∷ stack)

-- they stand on the stack, as many
pub pushed-front : (ts stack : List ℕ) → (top : List ℕ) × (pushed_types ts stack ≡ top ++ stack) × (length top ≡ length ts)
pushed-front [] stack = ([], refl, refl)
pushed-front (t ∷ ts) stack = let r = pushed-front ts (t ∷ stack) in (r.0 ++ t ∷ [], r.1 ∙ sym (append_assoc r.0 (t ∷ []) stack), length-joined r.0 (t ∷ []) ∙ ap (λ n. n + 1) r.2 ∙ omega arith)

drop-front : (top stack : List ℕ) (n : ℕ) → length top ≡ n → drop n (top ++ stack) ≡ stack
drop-front [] stack zero e = refl
drop-front [] stack (suc n) e = absurd (omega (arith, e))
drop-front (t ∷ top) stack zero e = absurd (omega (arith, e))
drop-front (t ∷ top) stack (suc n) e = drop-front top stack n (omega (arith, e))

pub drop-pushed : (ts stack : List ℕ) (n : ℕ) → n ≡ length ts → drop n (pushed_types ts stack) ≡ stack
drop-pushed ts stack n e = let r = pushed-front ts stack in ap (drop n) r.1 ∙ drop-front r.0 stack n (r.2 ∙ sym e)

module _ (types : TypeTable) (variables : List ℕ) (constants : List Literal) where
  abbrev on : List Instruction → Option Label → Option Label
  on code here = handed_on types variables constants code here

  pub on-joined : (xs ys : List Instruction) (here : Option Label) → on (xs ++ ys) here ≡ on ys (on xs here)
  on-joined [] ys here = refl
  on-joined (x ∷ xs) ys here = on-joined xs ys (handed_by types variables constants x here)

  -- with another stack
  abbrev stacked : Label → List ℕ → Label
  stacked l stack = record l { stack = stack }

  same-label : (l : Label) (stack other : List ℕ) (facts : List Fact) → stack ≡ other → facts ≡ l.facts → record { stack = stack; facts = facts; slots = l.slots } ≡ stacked l other
  same-label l stack other facts e f = ap₂ (λ s g. record { stack = s; facts = g; slots = l.slots }) e f

  module _ (regular : IsRegular types) where
    literal-type : (l : Literal) (t : ℕ) → IsLiteralOf types l t → type_of_literal l ≡ t
    literal-type (boolean b) t h = sym (regular.one_boolean t h)
    literal-type (integer z) t h = sym (regular.one_integer t h.0)
    literal-type (text s) t h = sym (regular.one_text t h.0)
    literal-type (tag u i) t h = sym h.0

    given-number : (o : Operator) (t : ℕ) → HasShape types t (shape_given o) → t ≡ number_of_shape (shape_given o)
    given-number logical_or t h = regular.one_boolean t h
    given-number logical_and t h = regular.one_boolean t h
    given-number equal t h = regular.one_boolean t h
    given-number unequal t h = regular.one_boolean t h
    given-number less t h = regular.one_boolean t h
    given-number at_most t h = regular.one_boolean t h
    given-number greater t h = regular.one_boolean t h
    given-number at_least t h = regular.one_boolean t h
    given-number plus t h = regular.one_integer t h
    given-number minus t h = regular.one_integer t h
    given-number times t h = regular.one_integer t h
    given-number divided t h = regular.one_integer t h
    given-number modulo t h = regular.one_integer t h
    given-number concatenated t h = regular.one_text t h

    const-on : (l : Literal) (t : ℕ) → IsLiteralOf types l t → IsIn l constants → (b : Label) → on (Const (place_of constants l) ∷ []) (Some b) ≡ Some (stacked b (t ∷ b.stack))
    const-on l t typed known b =
        ap Some (same-label b _ (t ∷ b.stack) _ (ap (λ o. list_of (λ l. type_of_literal l ∷ []) o ++ b.stack) (constant-found constants l known) ∙ ap (λ u. u ∷ b.stack) (literal-type l t typed)) (filter-all b.facts))

    load-on : (p : Path) (t : ℕ) → type_at types variables p ≡ Some t → (b : Label) → on (Load p ∷ []) (Some b) ≡ Some (stacked b (t ∷ b.stack))
    load-on p t e b = ap Some (same-label b _ (t ∷ b.stack) _ (ap (λ o. list_of (λ t. t ∷ []) o ++ b.stack) e) (filter-all b.facts))

    pub expression-on : (e : Expression) (t : ℕ) → IsTyped types variables e t → ((l : Literal) → IsIn l (literals_of e) → IsIn l constants) → (b : Label) → on (expression_code constants e) (Some b) ≡ Some (stacked b (t ∷ b.stack))
    expression-on (literal l) t h known b = const-on l t h (known l (inl refl)) b
    expression-on (copy p) t h known b = load-on p t (h.0).0 b
    expression-on (size_of p) t h known b = ap Some (same-label b _ (t ∷ b.stack) _ (ap (λ u. u ∷ b.stack) (sym (regular.one_integer t h.0))) (filter-all b.facts))
    expression-on (negation e) t h known b =
        on-joined (expression_code constants e) _ (Some b) ∙ ap (on (Apply negative ∷ [])) (expression-on e h.1 h.3 known b)
        ∙ ap Some (same-label b _ (t ∷ b.stack) _ (ap (λ u. u ∷ b.stack) (sym (regular.one_integer t h.0))) (filter-all b.facts))
    expression-on (logical_not e) t h known b =
        on-joined (expression_code constants e) _ (Some b) ∙ ap (on (Apply complement ∷ [])) (expression-on e h.1 h.3 known b)
        ∙ ap Some (same-label b _ (t ∷ b.stack) _ (ap (λ u. u ∷ b.stack) (sym (regular.one_boolean t h.0))) (filter-all b.facts))
    expression-on (decimal e) t h known b =
        on-joined (expression_code constants e) _ (Some b) ∙ ap (on (Apply as_text ∷ [])) (expression-on e h.1 h.3 known b)
        ∙ ap Some (same-label b _ (t ∷ b.stack) _ (ap (λ u. u ∷ b.stack) (sym (regular.one_text t h.0))) (filter-all b.facts))
    expression-on (length_of e) t h known b =
        on-joined (expression_code constants e) _ (Some b) ∙ ap (on (Apply text_length ∷ [])) (expression-on e h.1 h.3 known b)
        ∙ ap Some (same-label b _ (t ∷ b.stack) _ (ap (λ u. u ∷ b.stack) (sym (regular.one_integer t h.0))) (filter-all b.facts))
    expression-on (operation o left right) t h known b =
        on-joined (expression_code constants left) _ (Some b)
        ∙ ap (on (expression_code constants right ++ Combine o ∷ [])) (expression-on left h.1 h.5 (λ l m. known l (in-append_left l (literals_of left) _ m)) b)
        ∙ on-joined (expression_code constants right) _ (Some (stacked b (h.1 ∷ b.stack)))
        ∙ ap (on (Combine o ∷ [])) (expression-on right h.1 h.6 (λ l m. known l (in-append_right l (literals_of left) _ m)) (stacked b (h.1 ∷ b.stack)))
        ∙ ap Some (same-label b _ (t ∷ b.stack) _ (ap (λ u. u ∷ b.stack) (sym (given-number o t h.0))) (filter-all b.facts))

    pub atom-on : (a : Atom) (t : ℕ) → IsTypedAtom types variables a t → ((l : Literal) → IsIn l (literals_among (a ∷ [])) → IsIn l constants) → (b : Label) → on (atom_code constants a) (Some b) ≡ Some (stacked b (t ∷ b.stack))
    atom-on (Atom.literal l) t h known b = const-on l t h (known l (inl refl)) b
    atom-on (Atom.path p) t h known b = load-on p t ((h.0).0) b

    -- the keys of a row
    pub keys-on : (ts key : List ℕ) (keys : List Atom) → AreKeysOf types variables ts key keys → ((l : Literal) → IsIn l (literals_among keys) → IsIn l constants) → (b : Label)
        → on (flat_map (atom_code constants) keys) (Some b) ≡ Some (stacked b (pushed_types (types_of_key key (fields ts)) b.stack))
    keys-on ts [] [] h known b = refl
    keys-on ts [] (a ∷ keys) h known b = absurd h
    keys-on ts (i ∷ key) [] h known b = absurd h
    keys-on ts (i ∷ key) (a ∷ keys) h known b =
        on-joined (atom_code constants a) (flat_map (atom_code constants) keys) (Some b)
        ∙ ap (on (flat_map (atom_code constants) keys)) (atom-on a (h.0).0 (h.0).2 (λ l m. known l (first-among a l m)) b)
        ∙ keys-on ts key keys h.1 (λ l m. known l (later-among a l m)) (stacked b ((h.0).0 ∷ b.stack))
        ∙ ap (λ o. Some (stacked b (pushed_types (list_of (λ t. t ∷ []) o ++ types_of_key key (fields ts)) b.stack))) (sym (h.0).1)
      where
        first-among : (a : Atom) (l : Literal) → IsIn l (literals_among (a ∷ [])) → IsIn l (literals_among (a ∷ keys))
        first-among (Atom.literal k) l (inl e) = inl e
        first-among (Atom.literal k) l (inr m) = absurd m
        first-among (Atom.path p) l m = absurd m

        later-among : (a : Atom) (l : Literal) → IsIn l (literals_among keys) → IsIn l (literals_among (a ∷ keys))
        later-among (Atom.literal k) l m = inr m
        later-among (Atom.path p) l m = m

    pub keys-many : (ts key : List ℕ) (keys : List Atom) → AreKeysOf types variables ts key keys → length keys ≡ length (types_of_key key (fields ts))
    keys-many ts [] [] h = refl
    keys-many ts [] (a ∷ keys) h = absurd h
    keys-many ts (i ∷ key) [] h = absurd h
    keys-many ts (i ∷ key) (a ∷ keys) h = ap suc (keys-many ts key keys h.1) ∙ ap (λ o. length (list_of (λ t. t ∷ []) o ++ types_of_key key (fields ts))) (sym (h.0).1)

    -- the arguments of a call
    pub inputs-on : (ps : List Parameter) (atoms : List Atom) → AreArguments types variables ps atoms → ((l : Literal) → IsIn l (literals_among atoms) → IsIn l constants) → (b : Label)
        → on (inputs_code constants ps atoms) (Some b) ≡ Some (stacked b (pushed_types (input_types ps) b.stack))
    inputs-on [] [] h known b = refl
    inputs-on [] (a ∷ atoms) h known b = absurd h
    inputs-on (p ∷ ps) [] h known b = absurd h
    inputs-on (p ∷ ps) (a ∷ atoms) h known b =
        on-joined (pushed_by p.mode (atom_code constants a)) (inputs_code constants ps atoms) (Some b)
        ∙ by p.mode h.0 (λ c. inputs-on ps atoms h.1 (λ l m. known l (later-among a l m)) c)
      where
        first-among : (a : Atom) (l : Literal) → IsIn l (literals_among (a ∷ [])) → IsIn l (literals_among (a ∷ atoms))
        first-among (Atom.literal k) l (inl e) = inl e
        first-among (Atom.literal k) l (inr m) = absurd m
        first-among (Atom.path q) l m = absurd m

        later-among : (a : Atom) (l : Literal) → IsIn l (literals_among atoms) → IsIn l (literals_among (a ∷ atoms))
        later-among (Atom.literal k) l m = inr m
        later-among (Atom.path q) l m = m

        by : (mode : Mode) → IsArgument types variables mode a p.content → ((c : Label) → on (inputs_code constants ps atoms) (Some c) ≡ Some (stacked c (pushed_types (input_types ps) c.stack)))
            → on (inputs_code constants ps atoms) (on (pushed_by mode (atom_code constants a)) (Some b)) ≡ Some (stacked b (pushed_types (if_in mode p.content (input_types ps)) b.stack))
        by by_in h again = ap (on (inputs_code constants ps atoms)) (atom-on a p.content h (λ l m. known l (first-among a l m)) b) ∙ again (stacked b (p.content ∷ b.stack))
        by by_inout h again = again b
        by by_out h again = again b

    pub inputs-many : (ps : List Parameter) (atoms : List Atom) → AreArguments types variables ps atoms → count_inputs (arguments_of ps atoms) ≡ length (input_types ps)
    inputs-many [] [] h = refl
    inputs-many [] (a ∷ atoms) h = absurd h
    inputs-many (p ∷ ps) [] h = absurd h
    inputs-many (p ∷ ps) (a ∷ atoms) h = by p.mode a h.0 (inputs-many ps atoms h.1)
      where
        by : (mode : Mode) (a : Atom) → IsArgument types variables mode a p.content → count_inputs (arguments_of ps atoms) ≡ length (input_types ps) → count_inputs (argument_by mode a ∷ arguments_of ps atoms) ≡ length (if_in mode p.content (input_types ps))
        by by_in a h again = ap suc again
        by by_inout (Atom.literal l) h again = absurd h
        by by_inout (Atom.path q) h again = again
        by by_out (Atom.literal l) h again = absurd h
        by by_out (Atom.path q) h again = again

  -- the arguments of `Call` come back at the same paths
  pub arguments-same : (ps : List Parameter) (atoms : List Atom) → arguments_by is_returned ps (map atom_of (arguments_of ps atoms)) ≡ arguments_by is_returned ps atoms
  arguments-same [] atoms = refl
  arguments-same (p ∷ ps) [] = refl
  arguments-same (p ∷ ps) (a ∷ atoms) = by p.mode a (arguments-same ps atoms)
    where
      by : (mode : Mode) (a : Atom) → arguments_by is_returned ps (map atom_of (arguments_of ps atoms)) ≡ arguments_by is_returned ps atoms
          → arguments_by is_returned (record p { mode = mode } ∷ ps) (atom_of (argument_by mode a) ∷ map atom_of (arguments_of ps atoms)) ≡ arguments_by is_returned (record p { mode = mode } ∷ ps) (a ∷ atoms)
      by by_in (Atom.literal l) again = again
      by by_in (Atom.path q) again = again
      by by_inout (Atom.literal l) again = again
      by by_inout (Atom.path q) again = ap (q ∷◌) again
      by by_out (Atom.literal l) again = again
      by by_out (Atom.path q) again = ap (q ∷◌) again

pub edges-hand_on : (types : TypeTable) (variables : List ℕ) (constants : List Literal) → EdgesHandOn types variables constants
edges-hand_on types variables constants start d facts slots = (
  map Drop d.drops ++ map LoopDrop d.slots,
  arrive_by start d.arrival,
  sym (append_assoc (map Drop d.drops) (map LoopDrop d.slots) _),
  on-joined types variables constants (map Drop d.drops) (map LoopDrop d.slots) (Some (label_with facts slots))
      ∙ ap (handed_on types variables constants (map LoopDrop d.slots)) (drops d.drops facts) ∙ loops d.slots (without_paths d.drops facts) slots,
)
  where
    drops : (ps : List Path) (facts : List Fact) → handed_on types variables constants (map Drop ps) (Some (label_with facts slots)) ≡ Some (label_with (without_paths ps facts) slots)
    drops [] facts = refl
    drops (p ∷ ps) facts = drops ps _

    loops : (ss : List ℕ) (facts : List Fact) (slots : List Slot) → handed_on types variables constants (map LoopDrop ss) (Some (label_with facts slots)) ≡ Some (label_with facts (without_slots ss slots))
    loops [] facts slots = refl
    loops (s ∷ ss) facts slots = ap (λ fs. handed_on types variables constants (map LoopDrop ss) (Some (label_with fs (without_slots (s ∷ []) slots)))) (filter-all facts) ∙ loops ss facts _

-- the unnamed outcome of a form that goes on in one way, and of a test
pub one-way : (es : List ℕ) (o : Outcome) → IsIn o (ok ∷ map raised es) → is_named o ≡ false → ok ≡ o
one-way es o (inl e) q = sym e
one-way es o (inr m) q = let r = in-map_from raised o es m in absurd (true≢false (ap is_named (sym r.2) ∙ q))

pub tested-way : (es : List ℕ) (o : Outcome) → IsIn o (is_true ∷ is_false ∷ map raised es) → is_named o ≡ false → is_true ≡ o
tested-way es o (inl e) q = sym e
tested-way es o (inr (inl e)) q = absurd (true≢false (ap is_named (sym e) ∙ q))
tested-way es o (inr (inr m)) q = let r = in-map_from raised o es m in absurd (true≢false (ap is_named (sym r.2) ∙ q))

module _ (types : TypeTable) (variables : List ℕ) (constants : List Literal) (many : ℕ) (processes : List Process) (formed : IsWellFormedTable many types) (facts : List Fact) (number here : ℕ) (exit_at : Outcome → ℕ) (slots : List Slot) (o : Outcome) where
  abbrev hand : List Instruction → Option Label → Option Label
  hand code l = handed_on types variables constants code l

  abbrev Hands : Form → Outcome → Type 0
  Hands form o = hand (front types variables constants facts number here exit_at form) (Some (label_with facts slots)) ≡ Some (label_with (facts_after types variables form o facts) slots)

  abbrev Given : Form → Type 0
  Given form = IsTypedForm types variables many processes form → ((l : Literal) → IsIn l (literals_in form) → IsIn l constants) → IsIn o (outcomes types variables form) → is_named o ≡ false → ((r t : Path) → form ≡ Form.For r t → ⊥) → Hands form o

  on-ok : (form : Form) (es : List ℕ) → Hands form ok → IsIn o (ok ∷ map raised es) → is_named o ≡ false → Hands form o
  on-ok form es h m q = subst (Hands form) (one-way es o m q) h

  on-true : (form : Form) (es : List ℕ) → Hands form is_true → IsIn o (is_true ∷ is_false ∷ map raised es) → is_named o ≡ false → Hands form o
  on-true form es h m q = subst (Hands form) (tested-way es o m q) h

  regular : IsRegular types
  regular = well_formed-regular many types formed

  -- a value on the stack, and then the instruction that takes it
  behind-value : (e : Expression) (t : ℕ) (i : Instruction) (l : Label) → IsTyped types variables e t → ((l : Literal) → IsIn l (literals_of e) → IsIn l constants)
      → hand (i ∷ []) (Some (record { stack = t ∷ []; facts = facts; slots = slots })) ≡ Some l → hand (expression_code constants e ++ i ∷ []) (Some (label_with facts slots)) ≡ Some l
  behind-value e t i l h known k =
      on-joined types variables constants (expression_code constants e) (i ∷ []) (Some (label_with facts slots)) ∙ ap (hand (i ∷ [])) (expression-on types variables constants regular e t h known (label_with facts slots)) ∙ k

  -- what an instruction hands on that takes so many from the stack
  taking-all : (stack : List ℕ) (after : List Fact) (n : ℕ) (ts : List ℕ) → stack ≡ pushed_types ts [] → n ≡ length ts → record { stack = drop n stack; facts = after; slots = slots } ≡ label_with after slots
  taking-all stack after n ts e m = ap (λ s. record { stack = s; facts = after; slots = slots }) (ap (drop n) e ∙ drop-pushed ts [] n m)

  behind-keys : (r t : Path) (keys : List Atom) (row : ℕ) → IsFound types variables r t keys row → ((l : Literal) → IsIn l (literals_among keys) → IsIn l constants) → (i : Instruction) (after : List Fact)
      → ((stack : List ℕ) → hand (i ∷ []) (Some (record { stack = stack; facts = facts; slots = slots })) ≡ Some (record { stack = drop (length keys) stack; facts = after; slots = slots })) → hand (flat_map (atom_code constants) keys ++ i ∷ []) (Some (label_with facts slots)) ≡ Some (label_with after slots)
  behind-keys r t keys row h known i after k =
      on-joined types variables constants (flat_map (atom_code constants) keys) (i ∷ []) (Some (label_with facts slots))
      ∙ ap (hand (i ∷ [])) (keys-on types variables constants regular h.1 h.0 keys h.5 known (label_with facts slots))
      ∙ k (pushed_types (types_of_key h.0 (fields h.1)) [])
      ∙ ap Some (taking-all _ after (length keys) (types_of_key h.0 (fields h.1)) refl (keys-many types variables constants regular h.1 h.0 keys h.5))

  -- what `Call` makes and takes away, by the paths that it sets
  after-call : List Path → List Fact
  after-call set = closed types variables (full_of_each types variables set ++ []) ++ filter (λ f. not (any_pass (λ p. is_at_or_below p (path_of f)) (set ++ []))) facts

  call-on : (p : Path) (atoms : List Atom) → IsTypedForm types variables many processes (Form.Call p atoms) → ((l : Literal) → IsIn l (literals_among atoms) → IsIn l constants) → Hands (Form.Call p atoms) ok
  call-on p atoms h known =
      on-joined types variables constants (inputs_code constants ps atoms) (the_call ∷ []) (Some (label_with facts slots))
      ∙ ap (hand (the_call ∷ [])) (inputs-on types variables constants regular ps atoms arguments known (label_with facts slots))
      ∙ ap (λ set. Some (record { stack = drop (count_inputs (arguments_of ps atoms)) (pushed_types (input_types ps) []); facts = set; slots = slots }))
      (ap (λ set. closed types variables (full_of_each types variables set ++ []) ++ filter (λ f. not (any_pass (λ p. is_at_or_below p (path_of f)) (set ++ []))) facts) (arguments-same types variables constants ps atoms))
      ∙ ap Some (taking-all _ _ (count_inputs (arguments_of ps atoms)) (input_types ps) refl (inputs-many types variables constants regular ps atoms arguments))
    where
      ps : List Parameter
      ps = call_parameters types variables p

      the_call : Instruction
      the_call = Call p (arguments_of (call_parameters types variables p) atoms) (call_raises types variables p)

      arguments : AreArguments types variables (call_parameters types variables p) atoms
      arguments = subst (λ qs. AreArguments types variables qs atoms) (sym (parameters-are types variables p h.0 h.3 h.1 h.2 h.4)) h.5

  by : (form : Form) → Given form
  by (Form.Assign x e) h known m q other = on-ok (Form.Assign x e) (exceptions types variables (Form.Assign x e)) (behind-value e h.0 (Store x) _ h.2 known refl) m q
  by (Form.Move y x) h known m q other = on-ok (Form.Move y x) (exceptions types variables (Form.Move y x)) refl m q
  by (Form.New x) h known m q other = on-ok (Form.New x) (exceptions types variables (Form.New x)) refl m q
  by (Form.Discard x) h known m q other = on-ok (Form.Discard x) (exceptions types variables (Form.Discard x)) refl m q
  by (Form.Unite v c y) h known m q other = on-ok (Form.Unite v c y) (exceptions types variables (Form.Unite v c y)) refl m q
  by (Form.Dissolve v c y) h known m q other = on-ok (Form.Dissolve v c y) (exceptions types variables (Form.Dissolve v c y)) refl m q
  by (Form.Reveal v c) h known m q other = on-ok (Form.Reveal v c) (exceptions types variables (Form.Reveal v c)) refl m q
  by (Form.Wrap y p) h known m q other = on-ok (Form.Wrap y p) (exceptions types variables (Form.Wrap y p)) refl m q
  by (Form.Unwrap p t y) h known m q other = on-ok (Form.Unwrap p t y) (exceptions types variables (Form.Unwrap p t y)) refl m q
  by (Form.Insert r t) h known m q other = on-ok (Form.Insert r t) (exceptions types variables (Form.Insert r t)) refl m q
  by (Form.Connect p i) h known m q other = on-ok (Form.Connect p i) (exceptions types variables (Form.Connect p i)) refl m q
  by (Form.Send x p) h known m q other = on-ok (Form.Send x p) (exceptions types variables (Form.Send x p)) refl m q
  by (Form.Receive x i) h known m q other = on-ok (Form.Receive x i) (exceptions types variables (Form.Receive x i)) refl m q
  by (Form.Return p) h known m q other = on-ok (Form.Return p) (exceptions types variables (Form.Return p)) refl m q
  by (Form.ReturnBy p e) h known m q other = on-ok (Form.ReturnBy p e) (exceptions types variables (Form.ReturnBy p e)) refl m q
  by (Form.Create p c) h known m q other = on-ok (Form.Create p c) (exceptions types variables (Form.Create p c)) refl m q
  by Form.Leave h known m q other = on-ok Form.Leave [] leave-on m q
    where
      leave-on : Hands Form.Leave ok
      leave-on = ap (λ fs. Some (label_with fs slots)) (sym (filter-all facts))
  by (Form.If e) h known m q other = on-true (Form.If e) (exceptions types variables (Form.If e)) (behind-value e h.0 (JumpFalse (exit_at is_false)) _ h.2 known refl) m q
  by (Form.While e) h known m q other = on-true (Form.While e) (exceptions types variables (Form.While e)) (behind-value e h.0 (JumpFalse (exit_at is_false)) _ h.2 known refl) m q
  by (Form.For r t) h known m q other = absurd (other r t refl)
  by (Form.Raise e) h known (inl m) q other = absurd (true≢false (ap is_named (sym m) ∙ q))
  by (Form.Raise e) h known (inr m) q other = absurd m
  by (Form.Case v cs) h known m q other = let r = in-map_from component o cs (left (in-append_cases o (map component cs) [] m)) in absurd (true≢false (ap is_named (sym r.2) ∙ q))
    where
      left : IsIn o (map component cs) ⊎ IsIn o [] → IsIn o (map component cs)
      left (inl a) = a
      left (inr b) = absurd b
  by (Form.Select arms) h known m q other = absurd (no-arm 0 arms (left (in-append_cases o (arms_from 0 arms) [] m)))
    where
      left : IsIn o (arms_from 0 arms) ⊎ IsIn o [] → IsIn o (arms_from 0 arms)
      left (inl a) = a
      left (inr b) = absurd b

      no-arm : (n : ℕ) (arms : List Arm) → IsIn o (arms_from n arms) → ⊥
      no-arm n [] k = k
      no-arm n (a ∷ arms) (inl e) = true≢false (ap is_named (sym e) ∙ q)
      no-arm n (a ∷ arms) (inr k) = no-arm (suc n) arms k
  by (Form.Remove r t keys) h known m q other = on-ok (Form.Remove r t keys) (exceptions types variables (Form.Remove r t keys)) (behind-keys r t keys h.0 h.1 known (Remove r t (length keys)) _ (λ stack. refl)) m q
  by (Form.Get r t keys) h known m q other = on-ok (Form.Get r t keys) (exceptions types variables (Form.Get r t keys)) (behind-keys r t keys h.0 h.1 known (Get r t (length keys)) _ (λ stack. refl)) m q
  by (Form.Call p atoms) h known m q other = on-ok (Form.Call p atoms) (exceptions types variables (Form.Call p atoms)) (call-on p atoms h known) m q

pub fronts-hand_on : (types : TypeTable) (variables : List ℕ) (constants : List Literal) → FrontsHandOn types variables constants
fronts-hand_on types variables constants exceptions processes formed facts number here exit_at slots form o =
    by types variables constants exceptions processes formed facts number here exit_at slots o form

pub expressions-push : (types : TypeTable) (variables : List ℕ) (constants : List Literal) → ExpressionsPushTheirType types variables constants
expressions-push types variables constants exceptions formed e t h known l = expression-on types variables constants (well_formed-regular exceptions types formed) e t h known l
