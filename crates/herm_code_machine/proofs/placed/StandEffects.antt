-- Where inports, outports and callmessages at a label stand at places of their types, they do behind each instruction of good code that
-- is no action.
use Rattle.std.proofs.Common.{◌≡◌, ℕ, zero, suc, List, [], ◌∷◌, ◌++◌, map, filter, drop, Bool, true, false, not, nat_eq, Option, Some, None, option_and_then, refl, sym, ap, subst, ◌∙◌}
use Rattle.std.specs.Prelude.{length, slice_get, IsTrue}
use Rattle.herm_model.specs.Calls.{led_to}
use Rattle.herm_model.specs.CellNames.{copy_in}
use Rattle.herm_model.specs.Expressions.{Expression, Atom, Literal, Operator}
use Rattle.herm_model.specs.Lists.{IsIn, list_of, range}
use Rattle.herm_model.specs.Outcomes.{Outcome, ok, is_true, is_false, turn, done, component, arm, raised}
use Rattle.herm_model.specs.Paths.{Path}
use Rattle.herm_model.specs.Statements.{Form, Differ}
use Rattle.herm_model.specs.TypedExpressions.{is_scalar_shape, shape_given}
use Rattle.herm_model.specs.TypedStatements.{IsTypedForm}
use Rattle.herm_model.specs.Types.{TypeTable, Shape, boolean, integer, text}
use Rattle.herm_model.specs.Values.{Name, Kind, a_scalar, a_callmessage, an_inport, an_outport, Scalar, Cell, cell, no_parts, parts_of, read_at, Value}
use Rattle.herm_model.specs.WellFormedTables.{IsWellFormedTable, IsType}
use Rattle.herm_model.specs.tests.TypingTests.{number_of_shape}
use Rattle.herm_model.proofs.FactTests.{got-IsIn}
use Rattle.herm_model.proofs.Lists.{not_true}
use Rattle.herm_model.proofs.Options.{none-not_some, some-injective}
use Rattle.herm_journal.specs.PartTypes.{each, all_of, is_kind_at, has_no_number, IsPlaced, ArePlaced}
use Rattle.herm_forms.specs.Acts.{act}
use Rattle.herm_forms.specs.EdgeFinalising.{arrive}
use Rattle.herm_forms.specs.Evaluate.{Evaluated, gives, raises, no_value, scalar_then, two_then, operate, value_there, rows_there, scalar_value, scalar_of}
use Rattle.herm_forms.specs.Forms.{tested}
use Rattle.herm_forms.specs.Forms
use Rattle.herm_forms.specs.Frames.{Loop, Frame, Completion, goes, stuck, if_there, copying_parts}
use Rattle.herm_forms.specs.LoopForms.{next_row, rows_for}
use Rattle.herm_forms.proofs.KeptBodies.{IsVisit}
use Rattle.herm_forms.proofs.known.KindsKept.{Gives, value-given, two-then, operated, evaluate-from}
use Rattle.herm_forms.proofs.placed.PlacedForms as placed
use Rattle.herm_forms.proofs.placed.PlacedForms.{AllowsLocal, BodyIs, LoopsAre}
use Rattle.herm_forms.proofs.placed.PlacedParts.{copy-placed_in}
use Rattle.herm_forms.proofs.placed.PlacedWants.{AreListed}
use Rattle.herm_sound.specs.Standing.{StandsAt}
use Rattle.herm_instructions.specs.GoodCode.{IsGood, processes_of}
use Rattle.herm_instructions.specs.Images.{CodeModule, Image}
use Rattle.herm_instructions.specs.Instructions.{UnaryOperator, negative, complement, as_text, text_length, Instruction, Const, Load, Size, Apply, Combine, Store, Jump, JumpFalse, Move, New, Discard, Unite, Dissolve, Reveal, CaseOf, Wrap, Unwrap, Insert, Remove, Get, LoopStart, LoopNext, LoopDrop, Connect, Raise, Drop}
use Rattle.herm_instructions.specs.Effects.{row_type, slots_behind}
use Rattle.herm_instructions.specs.Labels.{Slot, Label}
use Rattle.herm_instructions.specs.Operands.{type_of_literal, integer_type, boolean_type, result_type}
use Rattle.herm_instructions.specs.Places.{label_at}
use Rattle.herm_instructions.proofs.KeysOnStack.{keys-are_typed}
use Rattle.herm_code_machine.specs.CodeInstance.{own_name}
use Rattle.herm_code_machine.specs.CodeStates.{stack_after}
use Rattle.herm_code_machine.specs.Effects.{applied, constant_value, effect, drop_loop}
use Rattle.herm_code_machine.specs.ReadyCode.{ReadyCode, ready_code}
use Rattle.herm_code_machine.specs.Stacks.{Effect, leaving, pushing, Popped, pop_onto}
use Rattle.herm_code_machine.specs.laws.InstructionLaws.{DoForms}
use Rattle.herm_code_machine.proofs.DoneForms.{instructions-do-forms}
use Rattle.herm_code_machine.proofs.placed.RowsOfSlots.{row_in, row-found, begun-stand, less-stand, none-stand}
use Rattle.herm_held.proofs.TypedPlaces.{With}
use Rattle.herm_code_machine.proofs.sound.AlongRuns.{FoundAt, KeepsAlong, behind}
use Rattle.herm_code_machine.proofs.sound.AtLabels.{Holds, behind_stack}
use Rattle.herm_code_machine.proofs.sound.Between as between
use Rattle.herm_code_machine.proofs.sound.EachEffect.{unary, literal-of}
use Rattle.herm_code_machine.proofs.sound.KeyEffects.{key-there}
use Rattle.herm_code_machine.proofs.sound.LoopEffects.{left-alone, slots-numbers}

-- the property of cells and the types of their places
module _ (types : TypeTable) (ports : List ℕ) (calls : ℕ → ℕ → Option ℕ) where
  abbrev pub Stands : ℕ → Kind → Type 0
  Stands t k = With types (StandsAt types ports calls) t k

  pub stands-agrees : (t : ℕ) (k : Kind) → Stands t k → IsTrue (is_kind_at (slice_get types t) k)
  stands-agrees t k h = h.1

  pub stands-allowed : AllowsLocal types Stands
  stands-allowed = record {
    portless = λ t k is plain. (has t k plain, is);
    connects = λ t port n shape h. ((port, ap (option_and_then led_to) shape, h.0), subst (λ o. IsTrue (is_kind_at o (an_outport n))) (sym shape) refl);
  }
    where
      has : (t : ℕ) (k : Kind) → IsTrue (has_no_number k) → StandsAt types ports calls t k
      has t (an_inport n) plain = not_true plain
      has t (an_outport n) plain = not_true plain
      has t (a_callmessage caller call) plain = not_true plain
      has t k plain = tt

-- what went on went on in one way
abbrev outcome_of : Completion Name → Outcome
outcome_of (goes o b) = o
outcome_of r = ok

abbrev frame_of : Frame Name → Completion Name → Frame Name
frame_of d (goes o b) = b
frame_of d r = d

abbrev goes_on : Completion Name → Bool
goes_on (goes o b) = true
goes_on r = false

never-goes : {A : Type 0} (r : Completion Name) (o : Outcome) (b : Frame Name) → goes_on r ≡ false → r ≡ goes o b → A
never-goes r o b h e = not_true (sym h ∙ ap goes_on e)

-- the values below those that are popped
pub listed-popped : (types : TypeTable) (P : ℕ → Kind → Type 0) (n : ℕ) (ts : List ℕ) (taken stack : List Value) (p : Popped) → pop_onto n taken stack ≡ Some p → AreListed types P ts stack → AreListed types P (drop n ts) p.rest
listed-popped types P zero ts taken stack p is h = subst (λ (p : Popped). AreListed types P ts p.rest) (some-injective is) h
listed-popped types P (suc n) [] taken stack p is h = tt
listed-popped types P (suc n) (t ∷ ts) taken [] p is h = none-not_some is
listed-popped types P (suc n) (t ∷ ts) taken (v ∷ stack) p is h = listed-popped types P n ts (v ∷ taken) stack p is h.1

module _ (exceptions' : ℕ) (image : Image) (good : IsGood exceptions' image) (formed : IsWellFormedTable exceptions' image.types) (m : CodeModule) (in-image : IsIn m image.modules) (ports : List ℕ) (calls : ℕ → ℕ → Option ℕ) where
  abbrev c : ReadyCode
  c = ready_code image (label_at image.types image.constants) m

  abbrev P : ℕ → Kind → Type 0
  P = Stands image.types ports calls

  abbrev agrees : (t : ℕ) (k : Kind) → Stands image.types ports calls t k → IsTrue (is_kind_at (slice_get image.types t) k)
  agrees = stands-agrees image.types ports calls

  abbrev allows : AllowsLocal image.types (Stands image.types ports calls)
  allows = stands-allowed image.types ports calls

  -- variables, and the rows of these slots
  abbrev pub BodyStands : List Slot → Frame Name → Type 0
  BodyStands slots b = BodyIs own_name (ready_code image (label_at image.types image.constants) m).scope (Stands image.types ports calls) (stands-agrees image.types ports calls) (row_in slots) b

  abbrev pub ValuesStand : List ℕ → List Value → Type 0
  ValuesStand ts stack = AreListed image.types (Stands image.types ports calls) ts stack

  -- at a label
  abbrev pub StandAt : Label → List Value → Frame Name → Type 0
  StandAt l stack b = BodyStands l.slots b × ValuesStand l.stack stack

  abbrev All : List Slot → Completion Name → Type 0
  All slots r = placed.AllAre own_name (ready_code image (label_at image.types image.constants) m).scope (Stands image.types ports calls) (stands-agrees image.types ports calls) (row_in slots) r

  abbrev Behind : Instruction → Label → Outcome → List Value → Frame Name → Type 0
  Behind i l o stack b = StandAt (behind exceptions' image good formed m in-image own_name i o l) (stack_after o stack) b

  pub stand-behind : (i : Instruction) (l : Label) (o : Outcome) (rest : List Value) (b : Frame Name) → slots_behind image.types m.variables i l.slots ≡ l.slots → BodyStands l.slots b → ValuesStand (behind_stack image m c i l) rest → Behind i l o rest b
  stand-behind i l (raised e) rest b same body listed = (body, tt)
  stand-behind i l ok rest b same body listed = (subst (λ slots. BodyStands slots b) (sym same) body, listed)
  stand-behind i l is_true rest b same body listed = (subst (λ slots. BodyStands slots b) (sym same) body, listed)
  stand-behind i l is_false rest b same body listed = (subst (λ slots. BodyStands slots b) (sym same) body, listed)
  stand-behind i l turn rest b same body listed = (subst (λ slots. BodyStands slots b) (sym same) body, listed)
  stand-behind i l done rest b same body listed = (subst (λ slots. BodyStands slots b) (sym same) body, listed)
  stand-behind i l (component k) rest b same body listed = (subst (λ slots. BodyStands slots b) (sym same) body, listed)
  stand-behind i l (arm n) rest b same body listed = (subst (λ slots. BodyStands slots b) (sym same) body, listed)

  module _ (i : Instruction) (l : Label) (same : slots_behind image.types m.variables i l.slots ≡ l.slots) (o : Outcome) (b' : Frame Name) where
    -- a completion that leaves these values
    pub stand-leaving : (e : Effect Name) (rest : List Value) (r : Completion Name) → e ≡ leaving rest r → All l.slots r → ValuesStand (behind_stack image m c i l) rest → e.completion ≡ goes o b' → Behind i l o e.stack b'
    stand-leaving e rest r is all listed goes' =
        subst (λ (e : Effect Name). e.completion ≡ goes o b' → Behind i l o e.stack b') (sym is) (λ h. stand-behind i l o rest b' same (subst (All l.slots) h all) listed) goes'

    -- a value that is pushed
    stand-pushing : (t : ℕ) (ts : List ℕ) (v : Evaluated) (rest : List Value) (b : Frame Name) → behind_stack image m c i l ≡ t ∷ ts → Gives (IsPlaced image.types P t) v → ValuesStand ts rest → BodyStands l.slots b
        → (pushing v rest b).completion ≡ goes o b' → Behind i l o (pushing v rest b).stack b'
    stand-pushing t ts (gives v) rest b is given listed body goes' =
        stand-behind i l o (v ∷ rest) b' same (subst (All l.slots) goes' body) (subst (λ ts. ValuesStand ts (v ∷ rest)) (sym is) (given, listed))
    stand-pushing t ts (raises x) rest b is given listed body goes' =
        subst (λ o. Behind i l o (pushing {N = Name} (raises x) rest b).stack b') (ap outcome_of goes') (subst (All l.slots) goes' body, tt)
    stand-pushing t ts no_value rest b is given listed body goes' = never-goes stuck o b' refl goes'

  -- scalars stand anywhere
  scalars-placed : (t : ℕ) (x : Scalar) (s : Shape) → slice_get image.types t ≡ Some s → IsTrue (is_scalar_shape s) → IsPlaced image.types P t (scalar_value x)
  scalars-placed t x s shape h = placed.scalar-is own_name (c).scope P agrees (λ n. None) allows t s shape h x

  applied-placed : (t : ℕ) → ((x : Scalar) → IsPlaced image.types P t (scalar_value x)) → (u : UnaryOperator) (v : Value) → Gives (IsPlaced image.types P t) (scalar_then (applied u) v)
  applied-placed t scalars u (cell n (a_scalar s) ps) = let l = literal-of s in subst (λ s. Gives (IsPlaced image.types P t) (applied u s)) l.1 (by u l.0)
    where
      by : (u : UnaryOperator) (l : Literal) → Gives (IsPlaced image.types P t) (applied u (scalar_of l))
      by negative l = evaluate-from (IsPlaced image.types P t) scalars {N = Name} no_parts (unary negative (Expression.literal l)) (λ p is. cc is)
      by complement l = evaluate-from (IsPlaced image.types P t) scalars {N = Name} no_parts (unary complement (Expression.literal l)) (λ p is. cc is)
      by as_text l = evaluate-from (IsPlaced image.types P t) scalars {N = Name} no_parts (unary as_text (Expression.literal l)) (λ p is. cc is)
      by text_length l = evaluate-from (IsPlaced image.types P t) scalars {N = Name} no_parts (unary text_length (Expression.literal l)) (λ p is. cc is)
  applied-placed t scalars u (cell n k ps) = tt

  module _ (j : ℕ) where
    abbrev W : Instruction → Label → Outcome → Type 0
    W i l = between.HasWay exceptions' image good formed m in-image j i l

    abbrev known : (t : ℕ) → IsIn t m.variables → IsType image.types t
    known = (between.good-module exceptions' image good formed m in-image).variables_known

    booleans : slice_get image.types boolean_type ≡ Some boolean
    booleans = let d = formed.predefined_types in ap (λ ts. slice_get ts boolean_type) d.1

    integers : slice_get image.types integer_type ≡ Some integer
    integers = let d = formed.predefined_types in ap (λ ts. slice_get ts integer_type) d.1

    texts : slice_get image.types (number_of_shape text) ≡ Some text
    texts = let d = formed.predefined_types in ap (λ ts. slice_get ts (number_of_shape text)) d.1

    unary-scalars : (u : UnaryOperator) (x : Scalar) → IsPlaced image.types P (result_type u) (scalar_value x)
    unary-scalars negative x = scalars-placed integer_type x integer integers refl
    unary-scalars complement x = scalars-placed boolean_type x boolean booleans refl
    unary-scalars as_text x = scalars-placed (number_of_shape text) x text texts refl
    unary-scalars text_length x = scalars-placed integer_type x integer integers refl

    operator-scalars : (o : Operator) (x : Scalar) → IsPlaced image.types P (number_of_shape (shape_given o)) (scalar_value x)
    operator-scalars o x = by o
      where
        by : (o : Operator) → IsPlaced image.types P (number_of_shape (shape_given o)) (scalar_value x)
        by Operator.logical_or = scalars-placed boolean_type x boolean booleans refl
        by Operator.logical_and = scalars-placed boolean_type x boolean booleans refl
        by Operator.equal = scalars-placed boolean_type x boolean booleans refl
        by Operator.unequal = scalars-placed boolean_type x boolean booleans refl
        by Operator.less = scalars-placed boolean_type x boolean booleans refl
        by Operator.at_most = scalars-placed boolean_type x boolean booleans refl
        by Operator.greater = scalars-placed boolean_type x boolean booleans refl
        by Operator.at_least = scalars-placed boolean_type x boolean booleans refl
        by Operator.plus = scalars-placed integer_type x integer integers refl
        by Operator.minus = scalars-placed integer_type x integer integers refl
        by Operator.times = scalars-placed integer_type x integer integers refl
        by Operator.divided = scalars-placed integer_type x integer integers refl
        by Operator.modulo = scalars-placed integer_type x integer integers refl
        by Operator.concatenated = scalars-placed (number_of_shape text) x text texts refl

    module _ (l : Label) (b : Frame Name) (body : BodyStands l.slots b) (o : Outcome) (b' : Frame Name) where
      abbrev BehindSo : Instruction → List Value → Type 0
      BehindSo i stack = (effect own_name c i stack b).completion ≡ goes o b' → Behind i l o (effect own_name c i stack b).stack b'

      -- an instruction that does a form, and leaves these values
      stand-form : (i : Instruction) (form : Form) (stack rest : List Value) → IsTypedForm image.types m.variables exceptions' (processes_of image.modules) form → (IsVisit form → ⊥) → slots_behind image.types m.variables i l.slots ≡ l.slots
          → effect own_name c i stack b ≡ leaving rest (act own_name (c).scope 0 form b) → ValuesStand (behind_stack image m c i l) rest → BehindSo i stack
      stand-form i form stack rest typed plain same does listed goes' =
          stand-leaving i l same o b' (effect own_name c i stack b) rest (act own_name (c).scope 0 form b) does
          (placed.act-is own_name (c).scope P agrees (row_in l.slots) allows exceptions' (processes_of image.modules) 0 form b typed (λ r t e. absurd (plain (subst IsVisit (sym e) tt))) body) listed goes'

      abbrev does : DoForms own_name (ready_code image (label_at image.types image.constants) m) 0 b
      does = instructions-do-forms own_name (ready_code image (label_at image.types image.constants) m) 0 b

      store-stands : (x : Path) (stack : List Value) → FoundAt exceptions' image good formed m in-image own_name j (Store x) l → ValuesStand l.stack stack → BehindSo (Store x) stack
      store-stands x [] finds listed goes' = never-goes stuck o b' refl goes'
      store-stands x (v ∷ rest) finds listed goes' =
          let t = finds.typed.0 in
          let target = finds.typed.1 in
          let s = finds.stack in
          let stacked : l.stack ≡ t ∷ s.0 = s.1 ∙ ap (λ o. list_of (λ t. t ∷ []) o ++ s.0) target.0.0 in
          let h : ValuesStand (t ∷ s.0) (v ∷ rest) = subst (λ ts. ValuesStand ts (v ∷ rest)) stacked listed in
          stand-leaving (Store x) l refl o b' (effect own_name c (Store x) (v ∷ rest) b) rest (Forms.assign own_name x v b) refl
          (placed.all-copying own_name (c).scope P agrees (row_in l.slots) allows v x t b target.0.0 h.0 body)
          (subst (λ ts. ValuesStand ts rest) (sym (ap (drop 1) stacked)) h.1) goes'

      test-stands : (k : ℕ) (stack : List Value) → FoundAt exceptions' image good formed m in-image own_name j (JumpFalse k) l → ValuesStand l.stack stack → BehindSo (JumpFalse k) stack
      test-stands k [] finds listed goes' = never-goes stuck o b' refl goes'
      test-stands k (v ∷ rest) finds listed goes' =
          let s = finds.stack in
          let h : ValuesStand (boolean_type ∷ s.0) (v ∷ rest) = subst (λ ts. ValuesStand ts (v ∷ rest)) s.1 listed in
          stand-leaving (JumpFalse k) l refl o b' (effect own_name c (JumpFalse k) (v ∷ rest) b) rest (tested v b) refl
          (placed.all-tested own_name (c).scope P agrees (row_in l.slots) allows v b body) (subst (λ ts. ValuesStand ts rest) (sym (ap (drop 1) s.1)) h.1) goes'

      apply-stands : (u : UnaryOperator) (stack : List Value) → FoundAt exceptions' image good formed m in-image own_name j (Apply u) l → ValuesStand l.stack stack → BehindSo (Apply u) stack
      apply-stands u [] finds listed goes' = never-goes stuck o b' refl goes'
      apply-stands u (v ∷ rest) finds listed goes' =
          let s = finds.stack in
          let h = subst (λ ts. ValuesStand ts (v ∷ rest)) s.1 listed in
          stand-pushing (Apply u) l refl o b' (result_type u) s.0 (scalar_then (applied u) v) rest b (ap (λ ts. result_type u ∷ drop 1 ts) s.1) (applied-placed (result_type u) (unary-scalars u) u v) h.1 body goes'

      combine-stands : (x : Operator) (stack : List Value) → FoundAt exceptions' image good formed m in-image own_name j (Combine x) l → ValuesStand l.stack stack → BehindSo (Combine x) stack
      combine-stands x [] finds listed goes' = never-goes stuck o b' refl goes'
      combine-stands x (v ∷ []) finds listed goes' = never-goes stuck o b' refl goes'
      combine-stands x (v ∷ w ∷ rest) finds listed goes' =
          let s = finds.stack in
          let t = number_of_shape (shape_given x) in
          let h = subst (λ ts. ValuesStand ts (v ∷ w ∷ rest)) s.4.1 listed in
          stand-pushing (Combine x) l refl o b' t s.4.0 (two_then (operate x) (gives w) (gives v)) rest b (ap (λ ts. t ∷ drop 2 ts) s.4.1)
          (two-then (IsPlaced image.types P t) (operator-scalars x) (operate x) (gives w) (gives v) (operated (IsPlaced image.types P t) (operator-scalars x) x)) h.1.1 body goes'

      load-stands : (p : Path) (stack : List Value) → FoundAt exceptions' image good formed m in-image own_name j (Load p) l → ValuesStand l.stack stack → BehindSo (Load p) stack
      load-stands p stack finds listed goes' =
          let x = finds.typed in
          stand-pushing (Load p) l refl o b' x.0 l.stack (value_there (read_at p b.variables)) stack b (ap (λ o. list_of (λ t. t ∷ []) o ++ l.stack) x.1.0)
          (value-given (IsPlaced image.types P x.0) (read_at p b.variables) (placed.read-copied own_name (c).scope P agrees (row_in l.slots) allows p x.0 b.variables body.0 x.1.0)) listed body goes'

      const-stands : (k : ℕ) (stack : List Value) → FoundAt exceptions' image good formed m in-image own_name j (Const k) l → ValuesStand l.stack stack → BehindSo (Const k) stack
      const-stands k stack finds listed goes' =
          let x = finds.typed in
          let t = type_of_literal x.0 in
          stand-pushing (Const k) l refl o b' t l.stack (constant_value (slice_get image.constants k)) stack b (ap (λ o. list_of (λ l. type_of_literal l ∷ []) o ++ l.stack) x.1)
          (subst (λ o. Gives (IsPlaced image.types P t) (constant_value o)) (sym x.1)
          (placed.literal-is own_name (c).scope P agrees (row_in l.slots) allows x.0 t (good.constants x.0 (got-IsIn image.constants k x.0 x.1)) (scalar_of x.0))) listed body goes'

      size-stands : (p : Path) (stack : List Value) → ValuesStand l.stack stack → BehindSo (Size p) stack
      size-stands p stack listed goes' =
          stand-pushing (Size p) l refl o b' integer_type l.stack (rows_there (read_at p b.variables)) stack b refl
          (evaluate-from (IsPlaced image.types P integer_type) (λ x. scalars-placed integer_type x integer integers refl) b.variables (Expression.size_of p) (λ p is. cc is)) listed body goes'

      -- with a key from the stack
      module _ (stack : List Value) (holds : Holds (ready_code image (label_at image.types image.constants) m) l stack b) (listed : ValuesStand l.stack stack) where
        remove-stands : (r t : Path) (n : ℕ) → FoundAt exceptions' image good formed m in-image own_name j (Remove r t n) l → BehindSo (Remove r t n) stack
        remove-stands r t n finds goes' =
            let x = finds.typed in
            let s = finds.stack in
            let k = key-there exceptions' image formed good.constants m known (label_at image.types image.constants) own_name (W (Remove r t n) l) l stack b holds t n x.0 x.1 x.2 x.4 s.0 s.1 in
            let ls = (k.key).literals in
            let form = Form.Remove r t (map Atom.literal ls) in
            let typed = (keys-are_typed exceptions' image.types m.variables image.constants (processes_of image.modules) formed).remove r t n ls finds.typed (k.key).typed in
            stand-form (Remove r t n) form stack k.rest typed (λ v. v) refl ((does).remove r t n (map Atom.literal ls) k.values stack k.rest (k.key).key k.popped (k.key).scalars ((k.key).are b.variables))
            (listed-popped image.types P n l.stack [] stack (record { values = k.values; rest = k.rest }) k.popped listed) goes'

        get-stands : (r t : Path) (n : ℕ) → FoundAt exceptions' image good formed m in-image own_name j (Get r t n) l → BehindSo (Get r t n) stack
        get-stands r t n finds goes' =
            let x = finds.typed in
            let s = finds.stack in
            let k = key-there exceptions' image formed good.constants m known (label_at image.types image.constants) own_name (W (Get r t n) l) l stack b holds t n x.0 x.1 x.2 x.4 s.0 s.1 in
            let ls = (k.key).literals in
            let form = Form.Get r t (map Atom.literal ls) in
            let typed = (keys-are_typed exceptions' image.types m.variables image.constants (processes_of image.modules) formed).get r t n ls finds.typed (k.key).typed in
            stand-form (Get r t n) form stack k.rest typed (λ v. v) refl ((does).get r t n (map Atom.literal ls) k.values stack k.rest (k.key).key k.popped (k.key).scalars ((k.key).are b.variables))
            (listed-popped image.types P n l.stack [] stack (record { values = k.values; rest = k.rest }) k.popped listed) goes'

        -- loops
        start-stands : (t : Path) (s : ℕ) → FoundAt exceptions' image good formed m in-image own_name j (LoopStart t s) l → BehindSo (LoopStart t s) stack
        start-stands t s finds goes' =
            let x = finds.typed in
            let of = x.2 in
            let slot : Slot = record { number = s; row = x.0 } in
            let shape : slots_behind image.types m.variables (LoopStart t s) l.slots ≡ slot ∷ l.slots =
            ap (λ o. map (λ u. record { number = s; row = u }) (list_of row_type (option_and_then (slice_get image.types) o)) ++ l.slots) (of.1).0
            ∙ ap (λ o. map (λ u. record { number = s; row = u }) (list_of row_type o) ++ l.slots) of.2 in
            let next = λ (table : Cell Name). copying_parts own_name (parts_of table) (λ rows b. goes ok (record b { loops = record { statement = s; rows = rows } ∷ b.loops })) b in
            let all : All (slot ∷ l.slots) (effect own_name c (LoopStart t s) stack b).completion =
            placed.all-there own_name (c).scope P agrees (row_in (slot ∷ l.slots)) next (read_at t b.variables) (λ d read.
            let copied = copy-placed_in image.types P agrees (λ n. own_name (b.number, n)) b.serial (all_of x.0) (parts_of d)
            (placed.rows-are own_name (c).scope P agrees (row_in l.slots) allows of.0 x.0 x.1 d of.2 (placed.read-is own_name (c).scope P agrees (row_in l.slots) t of.0 b.variables d body.0 read (of.1).0)) in
            (body.0, begun-stand own_name (c).scope P agrees slot l.slots (record { statement = s; rows = copy_in (λ n. own_name (b.number, n)) b.serial (parts_of d) }) b.loops refl (λ h. finds.slots (subst (IsIn s) (slots-numbers image.types l.slots b.loops holds.slots) h)) copied body.1)) in
            by o (subst (λ slots. BodyStands slots b') (sym shape) (subst (All (slot ∷ l.slots)) goes' all)) (starts (read_at t b.variables) goes')
          where
            starts : (table : Option (Cell Name)) → if_there (λ (table : Cell Name). copying_parts own_name (parts_of table) (λ rows b. goes ok (record b { loops = record { statement = s; rows = rows } ∷ b.loops })) b) table ≡ goes o b' → ok ≡ o
            starts None e = never-goes stuck o b' refl e
            starts (Some d) e = ap outcome_of e

            by : (o : Outcome) → BodyStands (slots_behind image.types m.variables (LoopStart t s) l.slots) b' → ok ≡ o → Behind (LoopStart t s) l o stack b'
            by o h e = subst (λ o. Behind (LoopStart t s) l o stack b') e (h, listed)

        next-stands : (r : Path) (s k : ℕ) → FoundAt exceptions' image good formed m in-image own_name j (LoopNext r s k) l → BehindSo (LoopNext r s k) stack
        next-stands r s k finds goes' =
            let f = finds.slots in
            let slot = f.0 in
            let row : row_in l.slots s ≡ Some slot.row = ap (row_in l.slots) (sym f.2) ∙ row-found l.slots (subst Differ (slots-numbers image.types l.slots b.loops holds.slots) holds.differ) slot f.1 in
            stand-leaving (LoopNext r s k) l refl o b' (effect own_name c (LoopNext r s k) stack b) stack (effect own_name c (LoopNext r s k) stack b).completion refl
            (placed.all-there own_name (c).scope P agrees (row_in l.slots) (λ rows. next_row s r rows b) (rows_for s b.loops)
            (λ rows there. placed.all-next own_name (c).scope P agrees (row_in l.slots) allows s r slot.row rows b row (f.3).0.0 (placed.found-rows own_name (c).scope P agrees (row_in l.slots) allows s slot.row rows b.loops row body.1 there) body))
            listed goes'

        drop-stands : (s : ℕ) → BehindSo (LoopDrop s) stack
        drop-stands s goes' =
            let kept : ℕ → Bool = λ n. not (nat_eq n s) in
            let alone = left-alone kept b.loops (record b { loops = filter (λ (l : Loop Name). kept l.statement) b.loops }) in
            let rows = subst (LoopsAre own_name (c).scope P agrees (row_in (slots_behind image.types m.variables (LoopDrop s) l.slots))) (sym alone.1) (less-stand own_name (c).scope P agrees s l.slots b.loops body.1) in
            let all : BodyStands (slots_behind image.types m.variables (LoopDrop s) l.slots) (drop_loop s b) = (subst (λ ps. ArePlaced image.types P (each m.variables) ps) (sym alone.0) body.0, rows) in
            subst (λ o. Behind (LoopDrop s) l o stack b') (ap outcome_of goes') (subst (All (slots_behind image.types m.variables (LoopDrop s) l.slots)) goes' all, listed)

        -- each instruction
        pub each-stands : (i : Instruction) → FoundAt exceptions' image good formed m in-image own_name j i l → BehindSo i stack
        each-stands (Const k) finds = const-stands k stack finds listed
        each-stands (Load p) finds = load-stands p stack finds listed
        each-stands (Size p) finds = size-stands p stack listed
        each-stands (Apply u) finds = apply-stands u stack finds listed
        each-stands (Combine x) finds = combine-stands x stack finds listed
        each-stands (Store x) finds = store-stands x stack finds listed
        each-stands (Jump k) finds = λ goes'. stand-behind (Jump k) l o stack b' refl (subst (All l.slots) goes' body) listed
        each-stands (JumpFalse k) finds = test-stands k stack finds listed
        each-stands (Move y x) finds = stand-form (Move y x) (Form.Move y x) stack stack finds.typed (λ v. v) refl ((does).move y x stack) listed
        each-stands (New x t) finds = stand-form (New x t) (Form.New x) stack stack finds.typed.0 (λ v. v) refl ((does).new x t finds.typed.1 stack) listed
        each-stands (Discard x) finds = stand-form (Discard x) (Form.Discard x) stack stack finds.typed (λ v. v) refl ((does).discard x stack) listed
        each-stands (Unite v k y) finds = stand-form (Unite v k y) (Form.Unite v k y) stack stack finds.typed (λ v. v) refl ((does).unite v k y stack) listed
        each-stands (Dissolve v k y) finds = stand-form (Dissolve v k y) (Form.Dissolve v k y) stack stack finds.typed (λ v. v) refl ((does).dissolve v k y stack) listed
        each-stands (Reveal v k) finds = stand-form (Reveal v k) (Form.Reveal v k) stack stack finds.typed (λ v. v) refl ((does).reveal v k stack) listed
        each-stands (CaseOf v indices) finds = stand-form (CaseOf v indices) (Form.Case v (range 0 (length indices))) stack stack finds.typed (λ v. v) refl ((does).choose v indices (range 0 (length indices)) stack) listed
        each-stands (Wrap y t p) finds = stand-form (Wrap y t p) (Form.Wrap y p) stack stack finds.typed.0 (λ v. v) refl ((does).wrap y t p finds.typed.1 stack) listed
        each-stands (Unwrap p t y) finds = stand-form (Unwrap p t y) (Form.Unwrap p t y) stack stack finds.typed (λ v. v) refl ((does).unwrap p t y stack) listed
        each-stands (Insert r t) finds = stand-form (Insert r t) (Form.Insert r t) stack stack finds.typed (λ v. v) refl ((does).insert r t stack) listed
        each-stands (Remove r t n) finds = remove-stands r t n finds
        each-stands (Get r t n) finds = get-stands r t n finds
        each-stands (LoopStart t s) finds = start-stands t s finds
        each-stands (LoopNext r s k) finds = next-stands r s k finds
        each-stands (LoopDrop s) finds = drop-stands s
        each-stands (Connect x i) finds = stand-form (Connect x i) (Form.Connect x i) stack stack finds.typed (λ v. v) refl ((does).connect x i stack) listed
        each-stands (Raise e) finds = stand-form (Raise e) (Form.Raise e) stack stack finds.typed (λ v. v) refl ((does).raise e stack) listed
        each-stands (Drop p) finds = λ goes'. stand-behind (Drop p) l o stack b' refl (subst (All l.slots) goes' (placed.drop-is own_name (c).scope P agrees (row_in l.slots) (p ∷ []) b body)) listed
        each-stands i finds = λ goes'. never-goes stuck o b' refl goes'

  pub keeps-standing : KeepsAlong exceptions' image good formed m in-image own_name (λ l stack b. StandAt l stack b) (λ b. BodyStands [] b)
  keeps-standing = record {
    effects = λ j i l stack b finds holds copied so o b' goes'. each-stands j l b so.0 o b' stack holds so.1 i finds goes';
    arrives = λ arriving listed stack b a so. (subst (λ slots. BodyStands slots b) (sym a.slots) so.0, subst (λ ts. ValuesStand ts stack) (sym a.stack) so.1);
    ends = λ l stack b t so. let h = placed.arrive-is own_name (c).scope P agrees (row_in l.slots) t b so.0 in (h.0, none-stand own_name (c).scope P agrees (arrive (c).scope t b).loops);
  }
