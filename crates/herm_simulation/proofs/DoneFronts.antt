-- Fronts do what their forms do.
use Rattle.std.proofs.Common.{◌≡◌, ◌⊎◌, inl, inr, ℕ, zero, suc, ◌+◌, List, [], ◌∷◌, ◌++◌, map, length, Bool, true, false, cond, Option, Some, None, option_map, slice_get, refl, sym, ap, subst, ◌∙◌, arith}
use Rattle.std.specs.Prelude.{⊤, flat_map}
use Rattle.herm_model.specs.Lists.{IsIn, map_or, range}
use Rattle.herm_model.specs.Paths.{Path, Fact}
use Rattle.herm_model.specs.Types.{TypeTable, Shape, fields, rows, type_at}
use Rattle.herm_model.specs.Calls.{shape_at}
use Rattle.herm_model.specs.Expressions.{Literal, Expression, literal, copy, negation, logical_not, operation, size_of, decimal, length_of, Atom}
use Rattle.herm_model.specs.Facts.{component_count}
use Rattle.herm_model.specs.Outcomes.{Outcome, ok, is_true, is_false, turn, done, component, arm, raised, raised_by_new, outcomes}
use Rattle.herm_model.specs.Statements.{Form, Assign, Move, New, Discard, Unite, Dissolve, Reveal, Case, Wrap, Unwrap, Insert, Remove, Get, For, Connect, If, While, Raise, Leave}
use Rattle.herm_model.specs.Values.{Name, Scalar, a_boolean, a_scalar, Cell, cell, Parts, parts_of, has_place, read_at, Value}
use Rattle.herm_model.specs.CellNames.{count_in, copy_in}
use Rattle.herm_model.proofs.Lists.{in-map_from, in-append_left, in-append_right, in-append_cases}
use Rattle.herm_model.proofs.Options.{none-not_some, some-injective, chain-some}
use Rattle.herm_forms.specs.Acts.{act, key_at, new_value}
use Rattle.herm_forms.specs.Evaluate.{Evaluated, gives, raises, no_value, evaluate, atom_value, key_of_value, key_values}
use Rattle.herm_forms.specs.Excess.{excess_over_full}
use Rattle.herm_forms.specs.RemoveAndGet
use Rattle.herm_forms.specs.LoopForms.{rows_for}
use Rattle.herm_forms.specs.Forms
use Rattle.herm_forms.specs.Frames.{Frame, Completion, goes, stays, stuck, if_there}
use Rattle.herm_instructions.specs.Actions.{is_inport_shape}
use Rattle.herm_instructions.specs.Effects.{exceptions_of}
use Rattle.herm_instructions.specs.Images.{instruction_at}
use Rattle.herm_instructions.specs.Instructions
use Rattle.herm_instructions.specs.Instructions.{Instruction, Const, Load, Store, JumpFalse}
use Rattle.herm_code_machine.specs.CodeStates.{leads, stack_after, begins_piece}
use Rattle.herm_code_machine.specs.Effects.{effect, constant_value, next_of_loop}
use Rattle.herm_code_machine.specs.ExpressionCode.{IsCodeOf, IsDefined, in_row, row_effect}
use Rattle.herm_code_machine.specs.ReadyCode.{ReadyCode}
use Rattle.herm_code_machine.specs.Stacks.{Effect, leaving, pushing, pop, scalars_of}
use Rattle.herm_code_machine.specs.laws.GoodImageLaws.{IsEnd}
use Rattle.herm_code_machine.specs.laws.InstructionLaws.{DoForms, after_ok}
use Rattle.herm_code_machine.specs.laws.StackLaws.{pushed_on}
use Rattle.herm_code_machine.proofs.DoneForms.{instructions-do-forms}
use Rattle.herm_code_machine.proofs.ExpressionValues.{code-gives_values}
use Rattle.herm_code_machine.proofs.Standing.{popped-as-pushed}
use Rattle.herm_translated.specs.Constants.{place_of, literals_of, literals_among}
use Rattle.herm_translated.specs.Fronts.{expression_code, atom_code, front, front_length, type_of}
use Rattle.herm_translated.proofs.FoundConstants.{constant-found}
use Rattle.herm_translated.proofs.Joined.{length-joined}
use Rattle.herm_simulation.specs.Leading.{StandFrom, state_at, LeadsTo}
use Rattle.herm_simulation.specs.FrontsInPlace.{LandFrom, IsFrontAt}
use Rattle.herm_simulation.specs.laws.FrontLaws.{FrontDoes, FrontsDoForms}
use Rattle.herm_simulation.proofs.Leading.{stand-first, stand-left, stand-right, leads-then, leads-from, effect-leads}
use Rattle.herm_simulation.proofs.Rows.{land-first, land-left, land-right, Led, expression-operands, atom-operands, row-leads}

-- completions taken apart
abbrev pub outcome_in : Completion Name → Option Outcome
outcome_in (goes o b) = Some o
outcome_in (stays b) = None
outcome_in stuck = None

abbrev pub frame_in : Completion Name → Option (Frame Name)
frame_in (goes o b) = Some b
frame_in (stays b) = Some b
frame_in stuck = None

pub same-outcome : (o q : Outcome) (b d : Frame Name) → goes o b ≡ goes q d → o ≡ q
same-outcome o q b d is = some-injective (ap outcome_in is)

pub same-frame : (o q : Outcome) (b d : Frame Name) → goes o b ≡ goes q d → b ≡ d
same-frame o q b d is = some-injective (ap frame_in is)

pub stuck-goes : {A : Type 0} (o : Outcome) (b : Frame Name) → stuck ≡ goes o b → A
stuck-goes o b is = none-not_some (ap outcome_in is)

pub after-none : (o : Outcome) → stack_after o [] ≡ []
after-none ok = refl
after-none is_true = refl
after-none is_false = refl
after-none turn = refl
after-none done = refl
after-none (component k) = refl
after-none (arm n) = refl
after-none (raised e) = refl

pub there-goes : {X : Type 0} (next : X → Completion Name) (x : Option X) (o : Outcome) (b : Frame Name) → if_there next x ≡ goes o b → (y : X) × (x ≡ Some y) × (next y ≡ goes o b)
there-goes next None o b is = stuck-goes o b is
there-goes next (Some y) o b is = (y, refl, is)

-- the code of an expression is its code
is-code : (c : ReadyCode) (e : Expression) → ((l : Literal) → IsIn l (literals_of e) → IsIn l c.constants) → IsCodeOf c e (expression_code c.constants e)
is-code c (literal l) known = (place_of c.constants l, constant-found c.constants l (known l (inl refl)), refl)
is-code c (copy p) known = refl
is-code c (size_of p) known = refl
is-code c (negation e) known = (expression_code c.constants e, is-code c e known, refl)
is-code c (logical_not e) known = (expression_code c.constants e, is-code c e known, refl)
is-code c (decimal e) known = (expression_code c.constants e, is-code c e known, refl)
is-code c (length_of e) known = (expression_code c.constants e, is-code c e known, refl)
is-code c (operation o left right) known = (
  expression_code c.constants left,
  expression_code c.constants right,
  is-code c left (λ l h. known l (in-append_left l (literals_of left) (literals_of right) h)),
  is-code c right (λ l h. known l (in-append_right l (literals_of left) (literals_of right) h)),
  refl,
)

-- a value in a range
in-range : {X : Type 0} (f : ℕ → X) (k n i : ℕ) → IsIn i (range k n) → (j : ℕ) × (i ≡ k + j) × (slice_get (map f (range k n)) j ≡ Some (f i))
in-range f k zero i h = absurd h
in-range f k (suc n) i (inl e) = (0, (let q = e in omega (arith, q)), ap (λ x. Some (f x)) (sym e))
in-range f k (suc n) i (inr h) = let r = in-range f (suc k) n i h in (suc r.0, (let q = r.1 in omega (arith, q)), r.2)

got-range : {X : Type 0} (f : ℕ → X) (n i : ℕ) → IsIn i (range 0 n) → slice_get (map f (range 0 n)) i ≡ Some (f i)
got-range f n i h = let r = in-range f 0 n i h in let same : r.0 ≡ i = (let q = r.1 in omega (arith, q)) in subst (λ j. slice_get (map f (range 0 n)) j ≡ Some (f i)) same r.2

-- the literals of atoms, one by one
pub first-known : (a : Atom) (keys : List Atom) (l : Literal) → IsIn l (literals_among (a ∷ [])) → IsIn l (literals_among (a ∷ keys))
first-known (Atom.literal m) keys l (inl e) = inl e
first-known (Atom.literal m) keys l (inr h) = absurd h
first-known (Atom.path p) keys l h = absurd h

pub more-known : (a : Atom) (keys : List Atom) (l : Literal) → IsIn l (literals_among keys) → IsIn l (literals_among (a ∷ keys))
more-known (Atom.literal m) keys l h = inr h
more-known (Atom.path p) keys l h = h

module _ (name : Name → Name) (c : ReadyCode) (number : ℕ) (facts : List Fact) (first : ℕ) (exit_at : Outcome → ℕ) where
  abbrev types : TypeTable
  types = c.scope.types

  abbrev variables : List ℕ
  variables = c.scope.variables

  abbrev the_front : Form → List Instruction
  the_front form = front types variables c.constants facts number first exit_at form

  abbrev At : Form → Type 0
  At form = IsFrontAt c facts number form first exit_at

  -- from an index to the edge of an outcome
  abbrev Out : ℕ → ℕ → List Value → Frame Name → Frame Name → Outcome → Type 0
  Out k i stack b b' o = LeadsTo name c (state_at k i stack b) (state_at k (exit_at o) [] b')

  abbrev Does : Form → Type 0
  Does form = At form → (k : ℕ) (b b' : Frame Name) (o : Outcome) → act name c.scope number form b ≡ goes o b' → IsIn o (outcomes types variables form) → Out k first [] b b' o

  -- an instruction that leads to the edge of its outcome
  out-by : (k i : ℕ) (x : Instruction) (stack : List Value) (b b' : Frame Name) (o : Outcome) → instruction_at c.code i ≡ Some x → begins_piece c x ≡ false → (IsEnd x → ⊥)
      → effect name c x stack b ≡ leaving [] (goes o b') → leads c i x o ≡ Some (exit_at o) → Out k i stack b b' o
  out-by k i x stack b b' o at other plain is led =
      leads-then name c (state_at k i stack b) (state_at k (exit_at o) (stack_after o []) b') (state_at k (exit_at o) [] b')
      (effect-leads name c k i (exit_at o) x stack [] b b' o at other plain is led)
      (leads-from name c _ _ (ap (λ s. state_at k (exit_at o) s b') (after-none o)))

  -- where an instruction goes on in one way, or raises what it lists
  pub ok-leads : (i : ℕ) (x : Instruction) → LandFrom c exit_at i (x ∷ []) → leads c i x ok ≡ Some (suc i) → exit_at ok ≡ suc i → (o : Outcome) → IsIn o (ok ∷ map raised (exceptions_of types variables x)) → leads c i x o ≡ Some (exit_at o)
  ok-leads i x lands onward behind o (inl e) = subst (λ o. leads c i x o ≡ Some (exit_at o)) (sym e) (onward ∙ ap Some (sym behind))
  ok-leads i x lands onward behind o (inr h) =
      let r = in-map_from raised o (exceptions_of types variables x) h in
      subst (λ o. leads c i x o ≡ Some (exit_at o)) (sym r.2) (land-first c exit_at i x [] lands r.0 r.1)

  -- a front of one instruction that goes on in one way
  one-does : (form : Form) (x : Instruction) → At form → the_front form ≡ x ∷ [] → front_length types variables c.constants form ≡ 1 → begins_piece c x ≡ false → (IsEnd x → ⊥) → leads c first x ok ≡ Some (suc first)
      → outcomes types variables form ≡ ok ∷ map raised (exceptions_of types variables x) → (k : ℕ) (b b' : Frame Name) (o : Outcome) → effect name c x [] b ≡ leaving [] (act name c.scope number form b)
      → act name c.scope number form b ≡ goes o b' → IsIn o (outcomes types variables form) → Out k first [] b b' o
  one-does form x at is long other plain onward outs k b b' o does goes' among =
      let behind : exit_at ok ≡ suc first = at.behind ok (map raised (exceptions_of types variables x)) outs ∙ ap (λ n. first + n) long ∙ omega arith in
      out-by k first x [] b b' o (stand-first c first x [] (subst (StandFrom c first) is at.stands)) other plain (does ∙ ap (leaving []) goes')
      (ok-leads first x (subst (LandFrom c exit_at first) is at.lands) onward behind o (subst (IsIn o) outs among))

  do-forms : (b : Frame Name) → DoForms name c number b
  do-forms b = instructions-do-forms name c number b

  -- an evaluation and then an instruction
  module _ (e : Expression) (main : Instruction) (known : (l : Literal) → IsIn l (literals_of e) → IsIn l c.constants) (stands : StandFrom c first (expression_code c.constants e ++ (main ∷ []))) (lands : LandFrom c exit_at first (expression_code c.constants e ++ (main ∷ []))) where
    abbrev code : List Instruction
    code = expression_code c.constants e

    abbrev main_at : ℕ
    main_at = first + length code

    main-stands : instruction_at c.code main_at ≡ Some main
    main-stands = stand-first c main_at main [] (stand-right c first code (main ∷ []) stands)

    evaluated : (k : ℕ) (b : Frame Name) (v : Evaluated) → evaluate b.variables e ≡ v → IsDefined v → Led name c exit_at k main_at (state_at k first [] b) (pushing v [] b).stack (pushing v [] b).completion
    evaluated k b v is defined =
        let row : row_effect name c code [] b ≡ pushing v [] b = code-gives_values name c e code (is-code c e known) [] b (subst IsDefined (sym is) defined) ∙ ap (λ v. pushing v [] b) is in
        subst (λ (x : Effect Name). Led name c exit_at k main_at (state_at k first [] b) x.stack x.completion) row
        (row-leads name c exit_at code k first [] b (stand-left c first code (main ∷ []) stands) (land-left c exit_at first code (main ∷ []) lands) (expression-operands name c exit_at c.constants e))

    -- the value goes on, and an exception lands
    valued : (next : Value → Frame Name → Completion Name) (k : ℕ) (b b' : Frame Name) (o : Outcome) → Forms.with_value next (evaluate b.variables e) b ≡ goes o b'
        → ((v : Value) → next v b ≡ goes o b' → Out k main_at (v ∷ []) b b' o) → Out k first [] b b' o
    valued next k b b' o is on = by (evaluate b.variables e) refl is
      where
        by : (v : Evaluated) → evaluate b.variables e ≡ v → Forms.with_value next v b ≡ goes o b' → Out k first [] b b' o
        by (gives v) same is = leads-then name c (state_at k first [] b) (state_at k main_at (v ∷ []) b) (state_at k (exit_at o) [] b') (evaluated k b (gives v) same tt) (on v is)
        by (raises x) same is =
            subst (λ (o : Outcome). Out k first [] b b' o) (same-outcome (raised x) o b b' is) (subst (λ b'. Out k first [] b b' (raised x)) (same-frame (raised x) o b b' is) (evaluated k b (raises x) same tt))
        by no_value same is = stuck-goes o b' is

  assign-does : (x : Path) (e : Expression) → Does (Assign x e)
  assign-does x e at k b b' o is among =
      valued e (Store x) at.known at.stands at.lands (Forms.assign name x) k b b' o is
      (λ v goes'.
      (let only : ok ≡ o = put-ok _ (has_place b.variables x) goes' in
      let long = length-joined (expression_code c.constants e) (Store x ∷ []) in
      let behind : exit_at ok ≡ suc (first + length (expression_code c.constants e)) = at.behind ok _ refl ∙ ap (λ n. first + n) long ∙ omega arith in
      out-by k (first + length (expression_code c.constants e)) (Store x) (v ∷ []) b b' o (main-stands e (Store x) at.known at.stands at.lands) refl (λ v. v) (ap (leaving []) goes')
      (subst (λ o. leads c (first + length (expression_code c.constants e)) (Store x) o ≡ Some (exit_at o)) only (ap Some (sym behind)))))
    where
      put-ok : (d : Frame Name) (t : Bool) → cond t (goes ok d) stuck ≡ goes o b' → ok ≡ o
      put-ok d true h = same-outcome ok o d b' h
      put-ok d false h = stuck-goes o b' h

  -- a test
  test-does : (form : Form) (e : Expression) → At form → the_front form ≡ expression_code c.constants e ++ (JumpFalse (exit_at is_false) ∷ []) → front_length types variables c.constants form ≡ length (expression_code c.constants e) + 1
      → ((l : Literal) → IsIn l (literals_of e) → IsIn l c.constants) → (more : List Outcome) → outcomes types variables form ≡ is_true ∷ more → (k : ℕ) (b b' : Frame Name) (o : Outcome) → Forms.with_value Forms.tested (evaluate b.variables e) b ≡ goes o b' → Out k first [] b b' o
  test-does form e at front' long known more outs k b b' o is =
      let stands = subst (StandFrom c first) front' at.stands in
      let lands = subst (LandFrom c exit_at first) front' at.lands in
      valued e main known stands lands Forms.tested k b b' o is
      (λ v goes'. out-by k main_at' main (v ∷ []) b b' o (main-stands e main known stands lands) refl (λ v. v) (ap (leaving []) goes') (by v goes'))
    where
      main : Instruction
      main = JumpFalse (exit_at is_false)

      main_at' : ℕ
      main_at' = first + length (expression_code c.constants e)

      behind : exit_at is_true ≡ suc (first + length (expression_code c.constants e))
      behind = at.behind is_true more outs ∙ ap (λ n. first + n) long ∙ omega arith

      by : (v : Value) → Forms.tested v b ≡ goes o b' → leads c (first + length (expression_code c.constants e)) (JumpFalse (exit_at is_false)) o ≡ Some (exit_at o)
      by (cell n (a_scalar (a_boolean true)) ps) h = subst (λ o. leads c (first + length (expression_code c.constants e)) (JumpFalse (exit_at is_false)) o ≡ Some (exit_at o)) (same-outcome is_true o b b' h) (ap Some (sym behind))
      by (cell n (a_scalar (a_boolean false)) ps) h = subst (λ o. leads c (first + length (expression_code c.constants e)) (JumpFalse (exit_at is_false)) o ≡ Some (exit_at o)) (same-outcome is_false o b b' h) refl
      by v h = stuck-goes o b' h

  if-does : (e : Expression) → Does (If e)
  if-does e at k b b' o is among = test-does (If e) e at refl (length-joined (expression_code c.constants e) (JumpFalse 0 ∷ [])) at.known _ refl k b b' o is

  while-does : (e : Expression) → Does (While e)
  while-does e at k b b' o is among = test-does (While e) e at refl (length-joined (expression_code c.constants e) (JumpFalse 0 ∷ [])) at.known _ refl k b b' o is

  raise-does : (e : ℕ) → Does (Raise e)
  raise-does e at k b b' o is among =
      out-by k first (Instructions.Raise e) [] b b' o (stand-first c first (Instructions.Raise e) [] at.stands) refl (λ v. v) (ap (leaving []) is)
      (subst (λ o. leads c first (Instructions.Raise e) o ≡ Some (exit_at o)) (same-outcome (raised e) o b b' is) (land-first c exit_at first (Instructions.Raise e) [] at.lands e (inl refl)))

  leave-does : Does Leave
  leave-does at k b b' o is among =
      let behind : exit_at ok ≡ first = at.behind ok [] refl ∙ omega arith in
      subst (λ o. Out k first [] b b' o) (same-outcome ok o b b' is) (subst (λ b'. Out k first [] b b' ok) (same-frame ok o b b' is) (leads-from name c (state_at k first [] b) (state_at k (exit_at ok) [] b) (ap (λ n. state_at k n [] b) (sym behind))))

  case-does : (v : Path) (ks : List ℕ) → Does (Case v ks)
  case-does v ks at k b b' o is among = by (in-append_cases o (map component ks) [] among)
    where
      count : ℕ
      count = map_or 0 component_count (shape_at types variables v)

      x : Instruction
      x = Instructions.CaseOf v (map (λ c. exit_at (component c)) (range 0 count))

      by : IsIn o (map component ks) ⊎ IsIn o [] → Out k first [] b b' o
      by (inl h) =
          let r = in-map_from component o ks h in
          out-by k first x [] b b' o (stand-first c first x [] at.stands) refl (λ v. v) ((do-forms b).choose v (map (λ c. exit_at (component c)) (range 0 count)) ks [] ∙ ap (leaving []) is)
          (subst (λ o. leads c first x o ≡ Some (exit_at o)) (sym r.2) (got-range (λ c. exit_at (component c)) count r.0 ((at.names r.0).1 r.1)))
      by (inr h) = absurd h

  -- of a value that is made, the type is that of its path
  new-does : (x : Path) → Does (New x)
  new-does x at k b b' o is among =
      by (shape_at types variables x) refl is
    where
      typed : (s : Shape) → shape_at types variables x ≡ Some s → (t : ℕ) × (type_at types variables x ≡ Some t) × (slice_get types t ≡ Some s)
      typed s e = chain-some (slice_get types) (type_at types variables x) s e

      plain : (s : Shape) → shape_at types variables x ≡ Some s → is_inport_shape s ≡ false → exceptions_of types variables (Instructions.New x (type_of types variables x)) ≡ [] → Out k first [] b b' o
      plain s e none quiet =
          let t = typed s e in
          let same : type_of types variables x ≡ t.0 = ap (map_or 0 (λ t. t)) t.1 in
          let other : begins_piece c (Instructions.New x (type_of types variables x)) ≡ false =
          ap (λ t. map_or false is_inport_shape (slice_get types t)) same ∙ ap (map_or false is_inport_shape) t.2 ∙ none in
          one-does (New x) (Instructions.New x (type_of types variables x)) at refl refl other (λ v. v) refl refl k b b' o
          ((do-forms b).new x (type_of types variables x) (t.1 ∙ ap Some (sym same)) []) is among

      by : (s : Option Shape) → shape_at types variables x ≡ s → new_value name s x b ≡ goes o b' → Out k first [] b b' o
      by (Some (fields ts)) e h = plain (fields ts) e refl (ap raised_by_new e)
      by (Some (rows row key)) e h = plain (rows row key) e refl (ap raised_by_new e)
      by s e h = stuck-goes o b' h

  wrap-does : (y p : Path) → Does (Wrap y p)
  wrap-does y p at k b b' o is among =
      let t = there-goes (λ t. Forms.wrap name t (excess_over_full c.scope y b) y p b) (type_at types variables y) o b' is in
      let same : type_of types variables y ≡ t.0 = ap (map_or 0 (λ t. t)) t.1 in
      one-does (Wrap y p) (Instructions.Wrap y (type_of types variables y) p) at refl refl refl (λ v. v) refl refl k b b' o ((do-forms b).wrap y (type_of types variables y) p (t.1 ∙ ap Some (sym same)) []) is among

  -- the values of keys, pushed one by one
  pub record Pushes (keys : List Atom) (stack : List Value) (b : Frame Name) (key : List Scalar) : Type 0 where
    pub values : List Value
    pub row : row_effect name c (flat_map (atom_code c.constants) keys) stack b ≡ leaving (pushed_on values stack) (goes ok b)
    pub scalars : scalars_of values ≡ Some key
    pub many : length values ≡ length keys

  key-there : (v : Evaluated) (more : Option (List Scalar)) (key : List Scalar) → key_of_value v more ≡ Some key
      → (n : ⊤) × (s : Scalar) × (ps : Parts ⊤) × (rest : List Scalar) × (v ≡ gives (cell n (a_scalar s) ps)) × (more ≡ Some rest) × (key ≡ s ∷ rest)
  key-there (gives (cell n (a_scalar s) ps)) (Some rest) key e = (n, s, ps, rest, refl, refl, sym (some-injective e))
  key-there (gives (cell n (a_scalar s) ps)) None key e = none-not_some e
  key-there (gives (cell n k ps)) more key e = none-not_some e
  key-there (raises x) more key e = none-not_some e
  key-there no_value more key e = none-not_some e

  -- one atom
  atom-row : (a : Atom) → ((l : Literal) → IsIn l (literals_among (a ∷ [])) → IsIn l c.constants) → (v : Value) (stack : List Value) (b : Frame Name) (more : List Instruction) → atom_value b.variables a ≡ gives v
      → row_effect name c (atom_code c.constants a ++ more) stack b ≡ row_effect name c more (v ∷ stack) b
  atom-row (Atom.literal l) known v stack b more is =
      ap (λ x. in_row (row_effect name c more) (pushing (constant_value x) stack b).stack (pushing (constant_value x) stack b).completion) (constant-found c.constants l (known l (inl refl)))
      ∙ ap (λ x. in_row (row_effect name c more) (pushing x stack b).stack (pushing x stack b).completion) is
  atom-row (Atom.path p) known v stack b more is = ap (λ x. in_row (row_effect name c more) (pushing x stack b).stack (pushing x stack b).completion) is

  pushes : (keys : List Atom) → ((l : Literal) → IsIn l (literals_among keys) → IsIn l c.constants) → (stack : List Value) (b : Frame Name) (key : List Scalar) → key_values b.variables keys ≡ Some key → Pushes keys stack b key
  pushes [] known stack b key is = record { values = []; row = refl; scalars = is; many = refl }
  pushes (a ∷ keys) known stack b key is =
      let h = key-there (atom_value b.variables a) (key_values b.variables keys) key is in
      let v : Value = cell h.0 (a_scalar h.1) h.2 in
      let rest = pushes keys (λ l m. known l (more-known a keys l m)) (v ∷ stack) b h.3 h.5 in
      record {
        values = v ∷ rest.values;
        row = atom-row a (λ l m. known l (first-known a keys l m)) v stack b (flat_map (atom_code c.constants) keys) h.4 ∙ rest.row;
        scalars = ap (option_map (h.1 ∷◌)) rest.scalars ∙ ap Some (sym h.6);
        many = ap suc rest.many;
      }

  -- keys and then an instruction
  keys-do : (form : Form) (keys : List Atom) (x : Instruction) (next : List Scalar → Completion Name) → At form → the_front form ≡ flat_map (atom_code c.constants) keys ++ (x ∷ []) → front_length types variables c.constants form ≡ length (flat_map (atom_code c.constants) keys) + 1
      → ((l : Literal) → IsIn l (literals_among keys) → IsIn l c.constants) → begins_piece c x ≡ false → (IsEnd x → ⊥) → ((i : ℕ) → leads c i x ok ≡ Some (suc i)) → outcomes types variables form ≡ ok ∷ map raised (exceptions_of types variables x)
      → (k : ℕ) (b b' : Frame Name) (o : Outcome) → act name c.scope number form b ≡ if_there next (key_values b.variables keys)
      → ((values stack : List Value) (key : List Scalar) → pop (length keys) stack ≡ Some (record { values = values; rest = [] }) → scalars_of values ≡ Some key → key_values b.variables keys ≡ Some key → effect name c x stack b ≡ leaving [] (act name c.scope number form b))
      → act name c.scope number form b ≡ goes o b' → IsIn o (outcomes types variables form) → Out k first [] b b' o
  keys-do form keys x next at front' long known other plain onward outs k b b' o acts does is among =
      let stands = subst (StandFrom c first) front' at.stands in
      let lands = subst (LandFrom c exit_at first) front' at.lands in
      let key = there-goes next (key_values b.variables keys) o b' (sym acts ∙ is) in
      let p = pushes keys known [] b key.0 key.1 in
      let popped : pop (length keys) (pushed_on p.values []) ≡ Some (record { values = p.values; rest = [] }) = ap (λ n. pop n (pushed_on p.values [])) (sym p.many) ∙ popped-as-pushed p.values [] in
      let before : LeadsTo name c (state_at k first [] b) (state_at k main_at' (pushed_on p.values []) b) =
      subst (λ (x : Effect Name). Led name c exit_at k main_at' (state_at k first [] b) x.stack x.completion) p.row
      (row-leads name c exit_at code' k first [] b (stand-left c first code' (x ∷ []) stands) (land-left c exit_at first code' (x ∷ []) lands) (atom-operands name c exit_at c.constants keys)) in
      leads-then name c (state_at k first [] b) (state_at k main_at' (pushed_on p.values []) b) (state_at k (exit_at o) [] b') before
      (out-by k main_at' x (pushed_on p.values []) b b' o (stand-first c main_at' x [] (stand-right c first code' (x ∷ []) stands)) other plain
      (does p.values (pushed_on p.values []) key.0 popped p.scalars key.1 ∙ ap (leaving []) is)
      (ok-leads main_at' x (land-right c exit_at first code' (x ∷ []) lands) (onward main_at') behind o (subst (IsIn o) outs among)))
    where
      code' : List Instruction
      code' = flat_map (atom_code c.constants) keys

      main_at' : ℕ
      main_at' = first + length (flat_map (atom_code c.constants) keys)

      behind : exit_at ok ≡ suc (first + length (flat_map (atom_code c.constants) keys))
      behind = at.behind ok (map raised (exceptions_of types variables x)) outs ∙ ap (λ n. first + n) long ∙ omega arith

  remove-does : (r t : Path) (keys : List Atom) → Does (Remove r t keys)
  remove-does r t keys at k b b' o is among =
      keys-do (Remove r t keys) keys (Instructions.Remove r t (length keys)) (λ key. RemoveAndGet.remove (key_at c.scope t) key r t b) at refl (length-joined (flat_map (atom_code c.constants) keys) _) at.known refl (λ v. v) (λ i. refl) refl k b b' o refl
      (λ values stack key popped scalars are. (do-forms b).remove r t (length keys) keys values stack [] key popped scalars are) is among

  get-does : (r t : Path) (keys : List Atom) → Does (Get r t keys)
  get-does r t keys at k b b' o is among =
      keys-do (Get r t keys) keys (Instructions.Get r t (length keys)) (λ key. RemoveAndGet.get name (key_at c.scope t) key r t b) at refl (length-joined (flat_map (atom_code c.constants) keys) _) at.known refl (λ v. v) (λ i. refl) refl k b b' o refl
      (λ values stack key popped scalars are. (do-forms b).get r t (length keys) keys values stack [] key popped scalars are) is among

  -- the test of a loop
  test-of_loop : (r t : Path) → At (For r t) → (k : ℕ) (b b' : Frame Name) (o : Outcome) → effect name c (Instructions.LoopNext r number (exit_at done)) [] b ≡ leaving [] (goes o b') → IsIn o (turn ∷ done ∷ []) → Out k (first + 3) [] b b' o
  test-of_loop r t at k b b' o is among =
      out-by k (first + 3) (Instructions.LoopNext r number (exit_at done)) [] b b' o (at.stands 3 (Instructions.LoopNext r number (exit_at done)) refl) refl (λ v. v) is (by among)
    where
      behind : exit_at turn ≡ suc (first + 3)
      behind = at.behind turn (done ∷ []) refl ∙ omega arith

      by : IsIn o (turn ∷ done ∷ []) → leads c (first + 3) (Instructions.LoopNext r number (exit_at done)) o ≡ Some (exit_at o)
      by (inl e) = subst (λ o. leads c (first + 3) (Instructions.LoopNext r number (exit_at done)) o ≡ Some (exit_at o)) (sym e) (ap Some (sym behind))
      by (inr (inl e)) = subst (λ o. leads c (first + 3) (Instructions.LoopNext r number (exit_at done)) o ≡ Some (exit_at o)) (sym e) refl
      by (inr (inr h)) = absurd h

  visit-does : (r t : Path) → At (For r t) → (k : ℕ) (b b' : Frame Name) (o : Outcome) (left : Parts Name) → rows_for number b.loops ≡ Some left → act name c.scope number (For r t) b ≡ goes o b' → IsIn o (turn ∷ done ∷ []) → Out k (first + 3) [] b b' o
  visit-does r t at k b b' o left there is among = test-of_loop r t at k b b' o ((do-forms b).visit r t (exit_at done) left there [] ∙ ap (leaving []) is) among

  -- the rows are copied first
  begun-does : (r t : Path) → At (For r t) → (k : ℕ) (b b' : Frame Name) (o : Outcome) → rows_for number b.loops ≡ None → act name c.scope number (For r t) b ≡ goes o b' → IsIn o (turn ∷ done ∷ []) → Out k first [] b b' o
  begun-does r t at k b b' o none is among = by (read_at t b.variables) refl (sym ((do-forms b).first_visit r t none) ∙ is)
    where
      left : Cell Name → Frame Name
      left table = record b { serial = b.serial + count_in (parts_of table); loops = record { statement = number; rows = copy_in (λ s. name (b.number, s)) b.serial (parts_of table) } ∷ b.loops }

      jump : Instruction
      jump = Instructions.Jump (first + 3)

      by : (x : Option (Cell Name)) → read_at t b.variables ≡ x → after_ok (next_of_loop number r) (if_there (λ table. goes ok (left table)) x) ≡ goes o b' → Out k first [] b b' o
      by None e h = stuck-goes o b' h
      by (Some table) e h =
          leads-then name c (state_at k first [] b) (state_at k (suc first) [] (left table)) (state_at k (exit_at o) [] b')
          (effect-leads name c k first (suc first) (Instructions.LoopStart t number) [] [] b (left table) ok (let same : first + 0 ≡ first = omega arith in subst (λ n. instruction_at c.code n ≡ Some (Instructions.LoopStart t number)) same (at.stands 0 (Instructions.LoopStart t number) refl)) refl (λ v. v)
          (ap (λ x. leaving [] (if_there (λ table. goes ok (left table)) x)) e) refl)
          (leads-then name c (state_at k (suc first) [] (left table)) (state_at k (first + 3) [] (left table)) (state_at k (exit_at o) [] b')
          (effect-leads name c k (suc first) (first + 3) jump [] [] (left table) (left table) ok (let same : first + 1 ≡ suc first = omega arith in subst (λ n. instruction_at c.code n ≡ Some jump) same (at.stands 1 jump refl)) refl (λ v. v) refl refl)
          (test-of_loop r t at k (left table) b' o (ap (leaving []) h) among))

  simple : (form : Form) (x : Instruction) → the_front form ≡ x ∷ [] → front_length types variables c.constants form ≡ 1 → begins_piece c x ≡ false → (IsEnd x → ⊥) → leads c first x ok ≡ Some (suc first)
      → outcomes types variables form ≡ ok ∷ map raised (exceptions_of types variables x) → ((b : Frame Name) → effect name c x [] b ≡ leaving [] (act name c.scope number form b)) → Does form
  simple form x is long other plain onward outs does at k b b' o goes' among = one-does form x at is long other plain onward outs k b b' o (does b) goes' among

-- from the first index of a front
at-first : (name : Name → Name) (c : ReadyCode) (number : ℕ) (form : Form) → ((facts : List Fact) (first : ℕ) (exit_at : Outcome → ℕ) → Does name c number facts first exit_at form) → FrontDoes name c number form
at-first name c number form does facts first exit_at at k b b' o where' is among =
    let same : first + 0 ≡ first = omega arith in subst (λ n. LeadsTo name c (state_at k n [] b) (state_at k (exit_at o) [] b')) (sym same) (does facts first exit_at at k b b' o is among)

pub fronts-do_forms : FrontsDoForms
fronts-do_forms name c number = record {
  assign = λ x e. at-first name c number (Assign x e) (λ facts first exit_at. assign-does name c number facts first exit_at x e);
  move = λ y x. at-first name c number (Move y x) (λ facts first exit_at. simple name c number facts first exit_at (Move y x) (Instructions.Move y x) refl refl refl (λ v. v) refl refl (λ b. (forms-of b).move y x []));
  new = λ x. at-first name c number (New x) (λ facts first exit_at. new-does name c number facts first exit_at x);
  discard = λ x. at-first name c number (Discard x) (λ facts first exit_at. simple name c number facts first exit_at (Discard x) (Instructions.Discard x) refl refl refl (λ v. v) refl refl (λ b. (forms-of b).discard x []));
  unite = λ v k y. at-first name c number (Unite v k y) (λ facts first exit_at. simple name c number facts first exit_at (Unite v k y) (Instructions.Unite v k y) refl refl refl (λ v. v) refl refl (λ b. (forms-of b).unite v k y []));
  dissolve = λ v k y. at-first name c number (Dissolve v k y) (λ facts first exit_at. simple name c number facts first exit_at (Dissolve v k y) (Instructions.Dissolve v k y) refl refl refl (λ v. v) refl refl (λ b. (forms-of b).dissolve v k y []));
  reveal = λ v k. at-first name c number (Reveal v k) (λ facts first exit_at. simple name c number facts first exit_at (Reveal v k) (Instructions.Reveal v k) refl refl refl (λ v. v) refl refl (λ b. (forms-of b).reveal v k []));
  choose = λ v ks. at-first name c number (Case v ks) (λ facts first exit_at. case-does name c number facts first exit_at v ks);
  wrap = λ y p. at-first name c number (Wrap y p) (λ facts first exit_at. wrap-does name c number facts first exit_at y p);
  unwrap = λ p t y. at-first name c number (Unwrap p t y) (λ facts first exit_at. simple name c number facts first exit_at (Unwrap p t y) (Instructions.Unwrap p t y) refl refl refl (λ v. v) refl refl (λ b. (forms-of b).unwrap p t y []));
  insert = λ r t. at-first name c number (Insert r t) (λ facts first exit_at. simple name c number facts first exit_at (Insert r t) (Instructions.Insert r t) refl refl refl (λ v. v) refl refl (λ b. (forms-of b).insert r t []));
  remove = λ r t keys. at-first name c number (Remove r t keys) (λ facts first exit_at. remove-does name c number facts first exit_at r t keys);
  get = λ r t keys. at-first name c number (Get r t keys) (λ facts first exit_at. get-does name c number facts first exit_at r t keys);
  first_visit = λ r t facts first exit_at at k b b' o none is among.
      (let same : first + 0 ≡ first = omega arith in subst (λ n. LeadsTo name c (state_at k n [] b) (state_at k (exit_at o) [] b')) (sym same) (begun-does name c number facts first exit_at r t at k b b' o none is among));
  visit = λ r t facts first exit_at at k b b' o there is among. visit-does name c number facts first exit_at r t at k b b' o there.0 there.1 is among;
  connect = λ o i. at-first name c number (Connect o i) (λ facts first exit_at. simple name c number facts first exit_at (Connect o i) (Instructions.Connect o i) refl refl refl (λ v. v) refl refl (λ b. (forms-of b).connect o i []));
  if_test = λ e. at-first name c number (If e) (λ facts first exit_at. if-does name c number facts first exit_at e);
  while_test = λ e. at-first name c number (While e) (λ facts first exit_at. while-does name c number facts first exit_at e);
  raise = λ e. at-first name c number (Raise e) (λ facts first exit_at. raise-does name c number facts first exit_at e);
  leave = at-first name c number Leave (λ facts first exit_at. leave-does name c number facts first exit_at);
}
  where
    forms-of : (b : Frame Name) → DoForms name c number b
    forms-of b = instructions-do-forms name c number b
