-- Each instruction of good code that is no action goes on where control goes, and leaves what the label behind it says.
use Rattle.std.proofs.Common.{◌≡◌, ◌⊎◌, inl, inr, ℕ, suc, ◌+◌, List, [], ◌∷◌, ◌++◌, map, drop, length, Bool, true, false, cond, ◌||◌, Option, Some, None, option_and_then, refl, sym, ap, ap₂, subst, ◌∙◌}
use Rattle.std.specs.Prelude.{slice_get, IsFalse}
use Rattle.herm_model.specs.Lists.{IsIn, map_or, list_of, range, numbered}
use Rattle.herm_model.specs.Paths.{Path, Fact}
use Rattle.herm_model.specs.Types.{Shape, boolean, integer, text, inport, TypeTable}
use Rattle.herm_model.specs.CellNames.{copy_from, count}
use Rattle.herm_model.specs.Calls.{shape_at}
use Rattle.herm_model.specs.ControlPaths.{held_after_edge}
use Rattle.herm_model.specs.Targets.{end}
use Rattle.herm_model.specs.Expressions.{Literal, Operator, logical_or, logical_and, equal, unequal, less, at_most, greater, at_least, plus, minus, times, divided, modulo, concatenated, Expression, is_arithmetic, is_joining}
use Rattle.herm_model.specs.Outcomes.{Outcome, ok, is_true, is_false, component, raised, exceptions, normal_outcomes, outcomes}
use Rattle.herm_model.specs.Statements.{Form, Differ, Process}
use Rattle.herm_model.specs.FactsOfStatements.{Row, row, closed, full, room_for}
use Rattle.herm_model.specs.Typed.{IsFull}
use Rattle.herm_model.specs.TypedExpressions.{HasShape, IsLiteralOf, shape_given}
use Rattle.herm_model.specs.TypedStatements.{IsTypedForm}
use Rattle.herm_model.specs.WellFormedTables.{IsType, IsWellFormedTable}
use Rattle.herm_model.specs.tests.TypingTests.{number_of_shape}
use Rattle.herm_model.specs.Values.{Scalar, a_boolean, an_integer, a_text, a_tag, a_scalar, Cell, cell, no_parts, read_at, cell_at, has_place, put_at, Value}
use Rattle.herm_model.proofs.FactTests.{IsIn-listed, got-IsIn}
use Rattle.herm_model.proofs.Lists.{in-append_cases, in-append_left, in-map, in-map_from}
use Rattle.herm_model.proofs.Options.{none-not_some}
use Rattle.herm_journal.specs.Messages.{AreFull, is_inport}
use Rattle.herm_forms.specs.Acts.{is_action, act}
use Rattle.herm_forms.specs.Evaluate.{gives, raises, no_value, scalar_value, scalar_of, gives_scalar, scalar_then, two_then, operate, evaluate, value_there, rows_there}
use Rattle.herm_forms.specs.Frames.{Name, Loop, Frame, goes, stuck, if_there, finalise, finalise_old, cleared, put}
use Rattle.herm_forms.specs.laws.EdgeLaws.{AreDeep, held_after}
use Rattle.herm_forms.specs.laws.ExpressionLaws.{ComesTo}
use Rattle.herm_forms.proofs.KeptBodies.{IsVisit}
use Rattle.herm_forms.proofs.evaluated.AssignedExpressions.{typed-comes}
use Rattle.herm_forms.proofs.evaluated.CopiedValues.{deep-at}
use Rattle.herm_forms.proofs.evaluated.RaisedExceptions.{raises-its}
use Rattle.herm_forms.proofs.evaluated.TypedExpressions.{FitsShape, full-scalar, negated-comes, inverted-comes, decimal-comes, length-comes, operation-comes, literal-comes}
use Rattle.herm_forms.proofs.forms.Assignments.{copied-full}
use Rattle.herm_forms.proofs.forms.PlainForms.{same_facts}
use Rattle.herm_forms.proofs.forms.SetTargets.{put-full}
use Rattle.herm_forms.proofs.forms.ToldFacts.{in-closed}
use Rattle.herm_forms.proofs.forms.VisitedRows.{old-loops}
use Rattle.herm_code_machine.specs.CodeLocal.{AreSlots}
use Rattle.herm_forms.proofs.typed.Room.{has-parent, place-there}
use Rattle.herm_instructions.specs.Instructions.{UnaryOperator, negative, complement, as_text, text_length, Instruction, Const, Load, Size, Apply, Combine, Store, Jump, JumpFalse, Move, New, Discard, Unite, Dissolve, Reveal, CaseOf, Wrap, Unwrap, Insert, Connect, Raise, Drop}
use Rattle.herm_instructions.specs.Labels.{Label}
use Rattle.herm_instructions.specs.Images.{CodeModule, Image}
use Rattle.herm_instructions.specs.Operands.{type_of_literal, boolean_type, integer_type, text_type, operand_type, result_type}
use Rattle.herm_instructions.specs.Effects.{row_of, exceptions_of, on_stack, slots_behind}
use Rattle.herm_instructions.specs.Actions.{is_inport_shape}
use Rattle.herm_instructions.specs.Places.{goes_on}
use Rattle.herm_instructions.specs.GoodCode.{processes_of}
use Rattle.herm_instructions.proofs.FactsBehind.{facts-held_behind}
use Rattle.herm_code_machine.specs.ReadyCode.{ReadyCode, ready_code}
use Rattle.herm_code_machine.specs.Stacks.{leaving, pushing}
use Rattle.herm_code_machine.specs.Effects.{effect, applied, constant_value}
use Rattle.herm_code_machine.specs.CodeStates.{begins_piece}
use Rattle.herm_code_machine.specs.laws.InstructionLaws.{DoForms}
use Rattle.herm_code_machine.proofs.DoneForms.{instructions-do-forms}
use Rattle.herm_code_machine.proofs.sound.AtLabels.{has_of, numbers, Holds, Finds, GoesWell, behind_stack, has_behind, holds-behind, stack-for, slots-for, by-form, pushes-well}

-- the value on top of a stack of full values
pub record Top (types : TypeTable) (t : ℕ) (ts : List ℕ) (stack : List Value) : Type 0 where
  pub value : Value
  pub rest : List Value
  pub is : stack ≡ value ∷ rest
  pub whole : IsFull types t value
  pub others : AreFull types ts rest

pub top-of : (types : TypeTable) (t : ℕ) (ts : List ℕ) (stack : List Value) → AreFull types (t ∷ ts) stack → Top types t ts stack
top-of types t ts [] h = absurd h
top-of types t ts (v ∷ rest) h = record { value = v; rest = rest; is = refl; whole = h.0; others = h.1 }

-- an operator on one operand as an expression
abbrev pub unary : UnaryOperator → Expression → Expression
unary negative e = Expression.negation e
unary complement e = Expression.logical_not e
unary as_text e = Expression.decimal e
unary text_length e = Expression.length_of e

-- each scalar is a literal's
pub literal-of : (s : Scalar) → (l : Literal) × (scalar_of l ≡ s)
literal-of (a_boolean b) = (Literal.boolean b, refl)
literal-of (an_integer z) = (Literal.integer z, refl)
literal-of (a_text bytes) = (Literal.text bytes, refl)
literal-of (a_tag i) = (Literal.tag 0 i, refl)

or-none : (b : Bool) → (b || false) ≡ b
or-none true = refl
or-none false = refl

no-raise : {A : Type 0} (x : ℕ) → no_value ≡ raises x → A
no-raise x e = cc

-- the exceptions of operators are those of their instructions
applied-raises : (image : Image) (m : CodeModule) (u : UnaryOperator) (v : Value) (x : ℕ) → scalar_then (applied u) v ≡ raises x → IsIn x (exceptions_of image.types m.variables (Apply u))
applied-raises image m u (cell n (a_scalar s) ps) x e = by u e (literal-of s)
  where
    of : (u : UnaryOperator) (l : Literal) → scalar_of l ≡ s → applied u s ≡ raises x → evaluate {N = Name} no_parts (unary u (Expression.literal l)) ≡ raises x
    of negative l same e = ap (λ s. applied negative s) same ∙ e
    of complement l same e = ap (λ s. applied complement s) same ∙ e
    of as_text l same e = ap (λ s. applied as_text s) same ∙ e
    of text_length l same e = ap (λ s. applied text_length s) same ∙ e

    by : (u : UnaryOperator) → applied u s ≡ raises x → (l : Literal) × (scalar_of l ≡ s) → IsIn x (exceptions_of image.types m.variables (Apply u))
    by negative e l = raises-its no_parts (unary negative (Expression.literal l.0)) x (of negative l.0 l.1 e)
    by complement e l = raises-its no_parts (unary complement (Expression.literal l.0)) x (of complement l.0 l.1 e)
    by as_text e l = raises-its no_parts (unary as_text (Expression.literal l.0)) x (of as_text l.0 l.1 e)
    by text_length e l = raises-its no_parts (unary text_length (Expression.literal l.0)) x (of text_length l.0 l.1 e)
applied-raises image m u (cell n k ps) x e = no-raise x e

combined-raises : (image : Image) (m : CodeModule) (o : Operator) (v w : Value) (x : ℕ) → two_then (operate o) (gives v) (gives w) ≡ raises x → IsIn x (exceptions_of image.types m.variables (Combine o))
combined-raises image m o (cell n (a_scalar s) ps) (cell n' (a_scalar s') ps') x e =
    let l = literal-of s in
    let r = literal-of s' in
    subst (IsIn x) (ap₂ (λ a b. cond a (0 ∷ []) [] ++ cond b (1 ∷ []) []) (or-none (is_arithmetic o)) (or-none (is_joining o)))
    (raises-its no_parts (Expression.operation o (Expression.literal l.0) (Expression.literal r.0)) x (ap₂ (operate o) l.1 r.1 ∙ e))
combined-raises image m o (cell n (a_scalar s) ps) (cell n' k ps') x e = no-raise x e
combined-raises image m o (cell n k ps) w x e = no-raise x e

-- the components in order have indices
ranged : (k : ℕ) (xs : List ℕ) (c : ℕ) → IsIn c (range k (length xs)) → (j : ℕ) × IsIn (c, j) (numbered k xs)
ranged k [] c h = absurd h
ranged k (x ∷ xs) c (inl e) = (x, inl (ap (λ c. (c, x)) e))
ranged k (x ∷ xs) c (inr h) = let r = ranged (suc k) xs c h in (r.0, inr r.1)

-- what is at a path is dropped as a discard does
drop-discards : (x : Option (Cell Name)) (cut b' : Frame Name) (o : Outcome) → if_there (λ d. goes ok (finalise d cut)) x ≡ goes o b' → goes ok (finalise_old x cut) ≡ goes o b'
drop-discards None cut b' o e = cc
drop-discards (Some d) cut b' o e = e

pub inport-same : (o : Option Shape) → map_or false is_inport_shape o ≡ is_inport o
inport-same None = refl
inport-same (Some (inport message declared)) = refl
inport-same (Some s) = refl

module _ (exceptions' : ℕ) (image : Image) (formed : IsWellFormedTable exceptions' image.types) (literals : (l : Literal) → IsIn l image.constants → IsLiteralOf image.types l (type_of_literal l))
    (m : CodeModule) (known : (t : ℕ) → IsIn t m.variables → IsType image.types t) (labels : CodeModule → ℕ → Option Label) (name : Name → Name) (HasWay : Outcome → Type 0) where
  abbrev pub ready : ReadyCode
  ready = ready_code image labels m

  abbrev pub processes : List Process
  processes = processes_of image.modules

  abbrev pub Goes : Instruction → Label → List Value → Frame Name → Type 0
  Goes i l stack b = GoesWell exceptions' image m HasWay ready i l (effect name ready i stack b)

  abbrev pub Found : Instruction → Label → Type 0
  Found i l = Finds exceptions' image m HasWay i l

  pub deep-variables : AreDeep ready.scope
  deep-variables t h = formed.shallow t (known t h)

  -- the predefined types
  pub has-boolean : HasShape image.types boolean_type boolean
  has-boolean = let d = formed.predefined_types in ap (λ ts. slice_get ts boolean_type) d.1

  pub has-integer : HasShape image.types integer_type integer
  has-integer = let d = formed.predefined_types in ap (λ ts. slice_get ts integer_type) d.1

  pub has-text : HasShape image.types text_type text
  has-text = let d = formed.predefined_types in ap (λ ts. slice_get ts text_type) d.1

  given-shape : (o : Operator) → HasShape image.types (number_of_shape (shape_given o)) (shape_given o)
  given-shape logical_or = has-boolean
  given-shape logical_and = has-boolean
  given-shape equal = has-boolean
  given-shape unequal = has-boolean
  given-shape less = has-boolean
  given-shape at_most = has-boolean
  given-shape greater = has-boolean
  given-shape at_least = has-boolean
  given-shape plus = has-integer
  given-shape minus = has-integer
  given-shape times = has-integer
  given-shape divided = has-integer
  given-shape modulo = has-integer
  given-shape concatenated = has-text

  module _ (l : Label) (stack : List Value) (b : Frame Name) (holds : Holds ready l stack b) where
    -- an instruction that does a form and leaves the stack
    pub form-goes : (i : Instruction) (form : Form) → Found i l → IsTypedForm image.types m.variables exceptions' processes form → IsFalse (is_action ready.scope form) → (IsVisit form → ⊥)
        → row_of image.types m.variables i ≡ row image.types m.variables form → slots_behind image.types m.variables i l.slots ≡ l.slots → (rest : List Value) → AreFull image.types (behind_stack image m ready i l) rest
        → ((o : Outcome) → IsIn o (outcomes image.types m.variables form) → HasWay o) → GoesWell exceptions' image m HasWay ready i l (leaving rest (act name ready.scope 0 form b))
    form-goes i form finds typed local plain rows' same_slots rest whole' ways =
        by-form exceptions' image m HasWay ready refl name i l form stack rest b holds (record {
          is = record { table = formed; variables = known; typed = typed };
          local = local;
          plain = plain;
          needed = λ f h. IsIn-listed f l.facts (finds.needs f (subst (λ (r : Row). IsIn f (closed image.types m.variables r.needed)) (sym rows') h));
          behind = λ o f. sym (facts-held_behind image.types m.variables i o l.facts f
              ∙ ap (λ (r : Row). held_after_edge (record { outcome = o; makes = closed image.types m.variables (r.made o); kills = r.gone o; target = end }) f (has_of l f)) rows');
          same_slots = same_slots;
          full = whole';
          ways = ways;
        })

    -- the outcomes of forms that go on in one way, or raise their exceptions
    pub one-way : (i : Instruction) (form : Form) → Found i l → goes_on i ≡ Some ok → normal_outcomes form ≡ ok ∷ [] → exceptions_of image.types m.variables i ≡ exceptions image.types m.variables form
        → (o : Outcome) → IsIn o (outcomes image.types m.variables form) → HasWay o
    one-way i form finds on normal same o h = by (in-append_cases o (ok ∷ []) (map raised (exceptions image.types m.variables form)) (subst (λ S. IsIn o (S ++ map raised (exceptions image.types m.variables form))) normal h))
      where
        by : IsIn o (ok ∷ []) ⊎ IsIn o (map raised (exceptions image.types m.variables form)) → HasWay o
        by (inl (inl e)) = subst HasWay (sym e) (finds.on ok on)
        by (inl (inr h)) = absurd h
        by (inr h) = let r = in-map_from raised o (exceptions image.types m.variables form) h in subst HasWay (sym r.2) (finds.raises r.0 (subst (IsIn r.0) (sym same) r.1))

    simple-goes : (i : Instruction) (form : Form) → Found i l → IsTypedForm image.types m.variables exceptions' processes form → IsFalse (is_action ready.scope form) → (IsVisit form → ⊥)
        → row_of image.types m.variables i ≡ row image.types m.variables form → behind_stack image m ready i l ≡ l.stack → slots_behind image.types m.variables i l.slots ≡ l.slots
        → effect name ready i stack b ≡ leaving stack (act name ready.scope 0 form b) → goes_on i ≡ Some ok → normal_outcomes form ≡ ok ∷ [] → exceptions_of image.types m.variables i ≡ exceptions image.types m.variables form → Goes i l stack b
    simple-goes i form finds typed local plain rows' same_stack same_slots does on normal same =
        subst (GoesWell exceptions' image m HasWay ready i l) (sym does)
        (form-goes i form finds typed local plain rows' same_slots stack (subst (λ ts. AreFull image.types ts stack) (sym same_stack) holds.stack) (one-way i form finds on normal same))

    abbrev does : DoForms name ready 0 b
    does = instructions-do-forms name ready 0 b

    pub move-goes : (y x : Path) → Found (Move y x) l → Goes (Move y x) l stack b
    move-goes y x finds = simple-goes (Move y x) (Form.Move y x) finds finds.typed refl (λ v. v) refl refl refl ((does).move y x stack) refl refl refl

    pub discard-goes : (x : Path) → Found (Discard x) l → Goes (Discard x) l stack b
    discard-goes x finds = simple-goes (Discard x) (Form.Discard x) finds finds.typed refl (λ v. v) refl refl refl ((does).discard x stack) refl refl refl

    pub unite-goes : (v : Path) (k : ℕ) (y : Path) → Found (Unite v k y) l → Goes (Unite v k y) l stack b
    unite-goes v k y finds = simple-goes (Unite v k y) (Form.Unite v k y) finds finds.typed refl (λ v. v) refl refl refl ((does).unite v k y stack) refl refl refl

    pub dissolve-goes : (v : Path) (k : ℕ) (y : Path) → Found (Dissolve v k y) l → Goes (Dissolve v k y) l stack b
    dissolve-goes v k y finds = simple-goes (Dissolve v k y) (Form.Dissolve v k y) finds finds.typed refl (λ v. v) refl refl refl ((does).dissolve v k y stack) refl refl refl

    pub reveal-goes : (v : Path) (k : ℕ) → Found (Reveal v k) l → Goes (Reveal v k) l stack b
    reveal-goes v k finds = simple-goes (Reveal v k) (Form.Reveal v k) finds finds.typed refl (λ v. v) refl refl refl ((does).reveal v k stack) refl refl refl

    pub wrap-goes : (y : Path) (t : ℕ) (p : Path) → Found (Wrap y t p) l → Goes (Wrap y t p) l stack b
    wrap-goes y t p finds = simple-goes (Wrap y t p) (Form.Wrap y p) finds finds.typed.0 refl (λ v. v) refl refl refl ((does).wrap y t p finds.typed.1 stack) refl refl refl

    pub unwrap-goes : (p : Path) (t : ℕ) (y : Path) → Found (Unwrap p t y) l → Goes (Unwrap p t y) l stack b
    unwrap-goes p t y finds = simple-goes (Unwrap p t y) (Form.Unwrap p t y) finds finds.typed refl (λ v. v) refl refl refl ((does).unwrap p t y stack) refl refl refl

    pub insert-goes : (r t : Path) → Found (Insert r t) l → Goes (Insert r t) l stack b
    insert-goes r t finds = simple-goes (Insert r t) (Form.Insert r t) finds finds.typed refl (λ v. v) refl refl refl ((does).insert r t stack) refl refl refl

    pub connect-goes : (o i : Path) → Found (Connect o i) l → Goes (Connect o i) l stack b
    connect-goes o i finds = simple-goes (Connect o i) (Form.Connect o i) finds finds.typed refl (λ v. v) refl refl refl ((does).connect o i stack) refl refl refl

    pub new-goes : (x : Path) (t : ℕ) → Found (New x t) l → begins_piece ready (New x t) ≡ false → Goes (New x t) l stack b
    new-goes x t finds other =
        simple-goes (New x t) (Form.New x) finds finds.typed.0 local (λ v. v) refl refl refl ((does).new x t finds.typed.1 stack) refl refl refl
      where
        local : is_inport (shape_at image.types m.variables x) ≡ false
        local = ap (λ o. is_inport (option_and_then (slice_get image.types) o)) finds.typed.1 ∙ sym (inport-same (slice_get image.types t)) ∙ other

    pub raise-goes : (e : ℕ) → Found (Raise e) l → Goes (Raise e) l stack b
    raise-goes e finds = form-goes (Raise e) (Form.Raise e) finds finds.typed refl (λ v. v) refl refl stack holds.stack ways
      where
        ways : (o : Outcome) → IsIn o (raised e ∷ []) → HasWay o
        ways o (inl h) = subst HasWay (sym h) (finds.raises e (inl refl))
        ways o (inr h) = absurd h

    pub case-goes : (v : Path) (indices : List ℕ) → Found (CaseOf v indices) l → Goes (CaseOf v indices) l stack b
    case-goes v indices finds = form-goes (CaseOf v indices) (Form.Case v (range 0 (length indices))) finds finds.typed refl (λ v. v) refl refl stack holds.stack ways
      where
        ways : (o : Outcome) → IsIn o (map component (range 0 (length indices)) ++ []) → HasWay o
        ways o h = by (in-append_cases o (map component (range 0 (length indices))) [] h)
          where
            by : IsIn o (map component (range 0 (length indices))) ⊎ IsIn o [] → HasWay o
            by (inl h) =
                let r = in-map_from component o (range 0 (length indices)) h in
                let j = ranged 0 indices r.0 r.1 in
                subst HasWay (sym r.2) (finds.jumps (record { outcome = component r.0; index = j.0 }) (in-map (λ (c : ℕ × ℕ). record { outcome = component c.0; index = c.1 }) (r.0, j.0) (numbered 0 indices) j.1))
            by (inr h) = absurd h

    -- what is at a path is dropped as a discard does
    pub drop-goes : (p : Path) → Found (Drop p) l → Goes (Drop p) l stack b
    drop-goes p finds = by (form-goes (Drop p) (Form.Discard p) finds finds.typed refl (λ v. v) refl refl stack holds.stack (one-way (Drop p) (Form.Discard p) finds refl refl refl))
      where
        by : GoesWell exceptions' image m HasWay ready (Drop p) l (leaving stack (act name ready.scope 0 (Form.Discard p) b)) → Goes (Drop p) l stack b
        by g = record {
          outcome = g.outcome;
          frame = g.frame;
          completes = drop-discards (cell_at p b.variables) (cleared p b) g.frame g.outcome g.completes;
          way = g.way;
          holds = g.holds;
        }

    -- where an instruction of an expression makes and takes no facts
    pub const-goes : (k : ℕ) → Found (Const k) l → Goes (Const k) l stack b
    const-goes k finds =
        let x = finds.typed in
        pushes-well exceptions' image m HasWay ready refl name (Const k) l (type_of_literal x.0) l.stack (gives_scalar (scalar_of x.0)) stack stack b holds
        (ap (λ o. pushing (constant_value o) stack b) x.1)
        (literal-comes ready.scope (type_of_literal x.0) x.0 (literals x.0 (got-IsIn image.constants k x.0 x.1)))
        (ap (λ o. list_of (λ l. type_of_literal l ∷ []) o ++ l.stack) x.1) holds.stack refl (λ o f. sym (facts-held_behind image.types m.variables (Const k) o l.facts f)) (finds.on ok refl) (λ x e. cc)

    pub load-goes : (p : Path) → Found (Load p) l → Goes (Load p) l stack b
    load-goes p finds =
        let x = finds.typed in
        pushes-well exceptions' image m HasWay ready refl name (Load p) l x.0 l.stack (value_there (read_at p b.variables)) stack stack b holds refl
        (typed-comes ready.scope deep-variables (has_of l) b.variables holds.sound (Expression.copy p) x.0 (x.1, x.2) (λ f h. IsIn-listed f l.facts (finds.needs f (in-closed image.types m.variables (full image.types m.variables p) f (one-path f h)))))
        (ap (λ o. list_of (λ t. t ∷ []) o ++ l.stack) x.1.0) holds.stack refl (λ o f. sym (facts-held_behind image.types m.variables (Load p) o l.facts f)) (finds.on ok refl)
        (λ x e. absurd (raises-its b.variables (Expression.copy p) x e))
      where
        one-path : (f : Fact) → IsIn f (full image.types m.variables p ++ []) → IsIn f (full image.types m.variables p)
        one-path f h = by (in-append_cases f (full image.types m.variables p) [] h)
          where
            by : IsIn f (full image.types m.variables p) ⊎ IsIn f [] → IsIn f (full image.types m.variables p)
            by (inl h) = h
            by (inr h) = absurd h

    pub size-goes : (p : Path) → Found (Size p) l → Goes (Size p) l stack b
    size-goes p finds =
        let x = finds.typed in
        pushes-well exceptions' image m HasWay ready refl name (Size p) l integer_type l.stack (rows_there (read_at p b.variables)) stack stack b holds refl
        (typed-comes ready.scope deep-variables (has_of l) b.variables holds.sound (Expression.size_of p) integer_type (has-integer, x.2.0, x.0, x.1, x.2.1, x.2.2)
        (λ f h. IsIn-listed f l.facts (finds.needs f (in-closed image.types m.variables (full image.types m.variables p) f (one-path f h)))))
        refl holds.stack refl (λ o f. sym (facts-held_behind image.types m.variables (Size p) o l.facts f)) (finds.on ok refl)
        (λ x e. absurd (raises-its b.variables (Expression.size_of p) x e))
      where
        one-path : (f : Fact) → IsIn f (full image.types m.variables p ++ []) → IsIn f (full image.types m.variables p)
        one-path f h = by (in-append_cases f (full image.types m.variables p) [] h)
          where
            by : IsIn f (full image.types m.variables p) ⊎ IsIn f [] → IsIn f (full image.types m.variables p)
            by (inl h) = h
            by (inr h) = absurd h

    applied-comes : (u : UnaryOperator) (v : Value) → IsFull image.types (operand_type u) v → ComesTo ready.scope (result_type u) (scalar_then (applied u) v)
    applied-comes negative v whole' = negated-comes ready.scope integer_type integer_type (gives v) has-integer has-integer whole'
    applied-comes complement v whole' = inverted-comes ready.scope boolean_type boolean_type (gives v) has-boolean has-boolean whole'
    applied-comes as_text v whole' = decimal-comes ready.scope text_type integer_type (gives v) has-text has-integer whole'
    applied-comes text_length v whole' = length-comes ready.scope integer_type text_type (gives v) has-integer has-text whole'

    pub apply-goes : (u : UnaryOperator) → Found (Apply u) l → Goes (Apply u) l stack b
    apply-goes u finds =
        let s = finds.stack in
        let top = top-of image.types (operand_type u) s.0 stack (subst (λ ts. AreFull image.types ts stack) s.1 holds.stack) in
        pushes-well exceptions' image m HasWay ready refl name (Apply u) l (result_type u) s.0 (scalar_then (applied u) top.value) stack top.rest b holds
        (ap (λ stack. effect name ready (Apply u) stack b) top.is)
        (applied-comes u top.value top.whole)
        (ap (λ ts. result_type u ∷ drop 1 ts) s.1) top.others refl (λ o f. sym (facts-held_behind image.types m.variables (Apply u) o l.facts f)) (finds.on ok refl)
        (λ x e. finds.raises x (applied-raises image m u top.value x e))

    pub combine-goes : (o : Operator) → Found (Combine o) l → Goes (Combine o) l stack b
    combine-goes o finds =
        let s = finds.stack in
        let right = top-of image.types s.0 (s.0 ∷ s.4.0) stack (subst (λ ts. AreFull image.types ts stack) s.4.1 holds.stack) in
        let left = top-of image.types s.0 s.4.0 right.rest right.others in
        pushes-well exceptions' image m HasWay ready refl name (Combine o) l (number_of_shape (shape_given o)) s.4.0 (two_then (operate o) (gives left.value) (gives right.value)) stack left.rest b holds
        (ap (λ stack. effect name ready (Combine o) stack b) (right.is ∙ ap (λ rest. right.value ∷ rest) left.is))
        (operation-comes ready.scope (number_of_shape (shape_given o)) s.0 s.1 o (gives left.value) (gives right.value) (given-shape o) s.2 s.3 left.whole right.whole)
        (ap (λ ts. number_of_shape (shape_given o) ∷ drop 2 ts) s.4.1) left.others refl (λ x f. sym (facts-held_behind image.types m.variables (Combine o) x l.facts f)) (finds.on ok refl)
        (λ x e. finds.raises x (combined-raises image m o left.value right.value x e))

    pub jump-goes : (j : ℕ) → Found (Jump j) l → Goes (Jump j) l stack b
    jump-goes j finds = record {
      outcome = ok;
      frame = b;
      completes = refl;
      way = finds.jumps (record { outcome = ok; index = j }) (inl refl);
      holds = holds-behind image m ready (Jump j) l ok stack b (same_facts ready.scope (has_of l) (has_behind image m ready (Jump j) l ok) b.variables (λ f. sym (facts-held_behind image.types m.variables (Jump j) ok l.facts f)) holds.sound)
          holds.stack holds.slots holds.differ;
    }

    pub test-goes : (j : ℕ) → Found (JumpFalse j) l → Goes (JumpFalse j) l stack b
    test-goes j finds =
        let s = finds.stack in
        let top = top-of image.types boolean_type s.0 stack (subst (λ ts. AreFull image.types ts stack) s.1 holds.stack) in
        let x = full-scalar image.types boolean_type boolean top.value has-boolean refl top.whole in
        subst (λ stack. Goes (JumpFalse j) l stack b) (sym (top.is ∙ ap (λ v. v ∷ top.rest) x.is)) (by x.scalar x.fits s.0 s.1 top.rest top.others)
      where
        after' : (o : Outcome) (rest : List Value) → HasWay o → (full' : AreFull image.types (behind_stack image m ready (JumpFalse j) l) rest) → GoesWell exceptions' image m HasWay ready (JumpFalse j) l (leaving rest (goes o b))
        after' o rest way full' = record {
          outcome = o;
          frame = b;
          completes = refl;
          way = way;
          holds = holds-behind image m ready (JumpFalse j) l o rest b (same_facts ready.scope (has_of l) (has_behind image m ready (JumpFalse j) l o) b.variables (λ f. sym (facts-held_behind image.types m.variables (JumpFalse j) o l.facts f)) holds.sound)
              (stack-for image m ready (JumpFalse j) l o rest full') (slots-for image m ready (JumpFalse j) l refl o b.loops holds.slots) holds.differ;
        }

        by : (x : Scalar) → FitsShape boolean x → (ts : List ℕ) → l.stack ≡ boolean_type ∷ ts → (rest : List Value) → AreFull image.types ts rest → Goes (JumpFalse j) l (scalar_value x ∷ rest) b
        by (a_boolean true) fits ts same rest others = after' is_true rest (finds.on is_true refl) (subst (λ ts. AreFull image.types ts rest) (sym (ap (drop 1) same)) others)
        by (a_boolean false) fits ts same rest others = after' is_false rest (finds.jumps (record { outcome = is_false; index = j }) (inl refl)) (subst (λ ts. AreFull image.types ts rest) (sym (ap (drop 1) same)) others)
        by x fits ts same rest others = absurd fits

    -- a full value is placed at the path
    pub store-goes : (x : Path) → Found (Store x) l → Goes (Store x) l stack b
    store-goes [] finds = none-not_some finds.typed.1.0.0
    store-goes (i ∷ q) finds =
        let t = finds.typed.0 in
        let target = finds.typed.1 in
        let s = finds.stack in
        let stacked : l.stack ≡ t ∷ s.0 = s.1 ∙ ap (λ o. list_of (λ t. t ∷ []) o ++ s.0) target.0.0 in
        let top = top-of image.types t s.0 stack (subst (λ ts. AreFull image.types ts stack) stacked holds.stack) in
        let x = i ∷ q in
        let parent' = has-parent ready.scope (has_of l) x t target.0.0 target.1
        (λ f h. IsIn-listed f l.facts (finds.needs f (in-closed image.types m.variables (room_for image.types m.variables x ++ []) f (in-append_left f (room_for image.types m.variables x) [] h)))) in
        let place = place-there ready.scope (has_of l) b.variables holds.sound x t target.0.0 target.1 parent' in
        let cut : Frame Name = record b { serial = b.serial + count top.value } in
        let d = copy_from (λ n. name (b.number, n)) b.serial top.value in
        let whole' = copied-full image.types t (λ n. name (b.number, n)) b.serial top.value top.whole in
        let completes : cond (has_place b.variables x) (goes ok (put x d cut)) stuck ≡ goes ok (put x d cut) = ap (λ p. cond p (goes ok (put x d cut)) stuck) place in
        let sound = put-full ready.scope i q t target.0.0 (deep-at ready.scope deep-variables i q t target.0.0) (Form.Assign x (Expression.literal on_stack)) ok (has_of l) (has_of l) d cut holds.sound whole' (λ f. refl) ok (put x d cut) (has_place b.variables x) refl completes in
        subst (λ stack. Goes (Store x) l stack b) (sym top.is)
        (record {
          outcome = ok;
          frame = put x d cut;
          completes = completes;
          way = finds.on ok refl;
          holds = holds-behind image m ready (Store x) l ok top.rest (put x d cut)
              (same_facts ready.scope (held_after image.types m.variables (Form.Assign x (Expression.literal on_stack)) ok (has_of l)) (has_behind image m ready (Store x) l ok) (put x d cut).variables
              (λ f. sym (facts-held_behind image.types m.variables (Store x) ok l.facts f)) sound)
              (subst (λ ts. AreFull image.types ts top.rest) (sym (ap (drop 1) stacked)) top.others)
              (subst (AreSlots' image.types l) (sym (old-loops (cell_at x b.variables) (record cut { variables = put_at x d b.variables }))) holds.slots)
              (subst (λ loops. Differ (numbers loops)) (sym (old-loops (cell_at x b.variables) (record cut { variables = put_at x d b.variables }))) holds.differ);
        })
      where
        AreSlots' : TypeTable → Label → List (Loop Name) → Type 0
        AreSlots' types l loops = AreSlots types l.slots loops
