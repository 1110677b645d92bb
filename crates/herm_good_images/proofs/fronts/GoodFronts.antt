-- The front of each form but `for` keeps the rules of good code.
use Rattle.std.proofs.Common.{◌≡◌, ℕ, zero, suc, length, List, [], ◌∷◌, ◌++◌, map, flat_map, filter, reverse, Bool, true, false, cond, not, Option, Some, slice_get, IsTrue, ◌⊎◌, inl, inr, refl, sym, ap, ap₂, subst, ◌∙◌, arith}
use Rattle.std.proofs.lemmas.List.{append-nil}
use Rattle.herm_model.specs.Lists.{IsIn, any_pass, list_of, map_or, range, numbered}
use Rattle.herm_model.specs.Paths.{Path, Fact, path_of, is_at_or_below}
use Rattle.herm_model.specs.Types.{TypeTable, type_at, Mode, by_in, by_inout, by_out, Parameter, fields, cases, rows, callmessage}
use Rattle.herm_model.specs.Facts.{component_count}
use Rattle.herm_model.specs.Expressions.{Literal, Expression, Atom, paths_read, paths_among}
use Rattle.herm_model.specs.Statements.{Form, Arm, Process, Differ}
use Rattle.herm_model.specs.Calls.{shape_at, call_parameters, call_raises, kept_for, is_given, is_returned, arguments_by, argument_path}
use Rattle.herm_model.specs.Outcomes.{Outcome, is_false, component, arm, raised, exceptions, arms_from, outcomes}
use Rattle.herm_model.specs.FactsOfStatements.{present, full, full_of_each, room_for, set_by_call, given, kept_by_call, needs, closed}
use Rattle.herm_model.specs.TypedExpressions.{IsTyped}
use Rattle.herm_model.specs.TypedStatements.{AreApart, AreArguments, AreKeysOf, IsArgument, IsFound, IsTypedForm}
use Rattle.herm_model.specs.WellFormedTables.{IsWellFormedTable}
use Rattle.herm_model.proofs.Lists.{in-append_left, in-append_right, in-append_cases, in-map, in-flat_map, in-flat_map_from, length-map, not_true}
use Rattle.herm_model.proofs.Options.{some-injective, none-not_some}
use Rattle.herm_model.proofs.Deciding.{below-in}
use Rattle.herm_model.proofs.TypedCalls.{shape-is, parameters-are, raises-are, kept-declared}
use Rattle.herm_model.proofs.DecidedForms.{IsRegular, well_formed-regular}
use Rattle.herm_instructions.specs.Instructions.{Instruction, Store, JumpFalse, CaseOf, Remove, Get, Select, Call}
use Rattle.herm_instructions.specs.Labels.{Slot, Label}
use Rattle.herm_instructions.specs.Operands.{FindsOnStack, Begins, input_types, types_of_key, types_of_row_key}
use Rattle.herm_instructions.specs.Effects.{atom_of, arm_of, facts_needed, facts_behind, exceptions_of, label_behind}
use Rattle.herm_instructions.specs.Places.{Way, way_of_arm, jumps}
use Rattle.herm_instructions.specs.TypedInstructions.{AreArgumentsOf, IsArgumentOf, IsTypedInstruction, is_some_choice}
use Rattle.herm_instructions.specs.GoodCode.{FindsSlots, TrimsExcess}
use Rattle.herm_translated.specs.Constants.{literals_of, literals_among, literals_in}
use Rattle.herm_translated.specs.Fronts.{argument_by, arguments_of, choices_from, expression_code, atom_code, inputs_code, type_of, trimmed, front}
use Rattle.herm_translated.specs.BlockLabels.{label_with, facts_after}
use Rattle.herm_translated.specs.laws.LabelsAlong.{handed_on}
use Rattle.herm_translated.specs.laws.NamedComponents.{NamesAll}
use Rattle.herm_translated.proofs.FrontWays.{IsNoFor, OnlyRaises, expression-raises}
use Rattle.herm_translated.proofs.LinkedProcess.{in-below}
use Rattle.herm_translated.proofs.Handing.{pushed_types, expression-on, keys-on, inputs-on, arguments-same}
use Rattle.herm_good_images.proofs.fronts.GoodInstructions.{closed-more, AreGood, good-joined, good-one}
use Rattle.herm_good_images.proofs.fronts.GoodOperands.{pushed-reverse, LandsAtExit, IsGoodIn, raising, expression-good, keys-good, HasReadInputs, inputs-good}

range-Differ : (k n : ℕ) → Differ (range k n)
range-Differ k zero = tt
range-Differ k (suc n) = ((λ m. (let r = in-below (suc k) n k m in let a = r.0 in omega (arith, a))), range-Differ (suc k) n)

range-long : (k n : ℕ) → length (range k n) ≡ n
range-long k zero = refl
range-long k (suc n) = ap suc (range-long (suc k) n)

-- a `select` has an arm
abbrev pub HasArm : Form → Type 0
HasArm (Form.Select []) = ⊥
HasArm form = Unit {0}

module _ (exit_at : Outcome → ℕ) where
  -- the ways of `CaseOf` and of `Select`
  case-ways : (k n : ℕ) (w : Way) → IsIn w (map (λ (c : ℕ × ℕ). record { outcome = component c.0; index = c.1 }) (numbered k (map (λ c. exit_at (component c)) (range k n))))
      → (c : ℕ) × IsIn c (range k n) × (w ≡ record { outcome = component c; index = exit_at (component c) })
  case-ways k zero w m = absurd m
  case-ways k (suc n) w (inl e) = (k, inl refl, e)
  case-ways k (suc n) w (inr m) = let r = case-ways (suc k) n w m in (r.0, inr r.1, r.2)

  arm-ways : (arms : List Arm) (k : ℕ) (w : Way) → IsIn w (map way_of_arm (numbered k (choices_from exit_at k arms)))
      → (c : ℕ) × IsIn (arm c) (arms_from k arms) × (w ≡ record { outcome = arm c; index = exit_at (arm c) })
  arm-ways [] k w m = absurd m
  arm-ways (a ∷ arms) k w (inl e) = (k, inl refl, e)
  arm-ways (a ∷ arms) k w (inr m) = let r = arm-ways arms (suc k) w m in (r.0, inr r.1, r.2)

  arms-same : (arms : List Arm) (k : ℕ) → map arm_of (choices_from exit_at k arms) ≡ arms
  arms-same [] k = refl
  arms-same (a ∷ arms) k = ap (a ∷◌) (arms-same arms (suc k))

module _ (types : TypeTable) (variables : List ℕ) where
  -- arguments as their parameters' modes say
  arguments-typed : (ps : List Parameter) (atoms : List Atom) → AreArguments types variables ps atoms → AreArgumentsOf types variables ps (arguments_of ps atoms)
  arguments-typed [] [] h = tt
  arguments-typed [] (a ∷ atoms) h = absurd h
  arguments-typed (p ∷ ps) [] h = absurd h
  arguments-typed (p ∷ ps) (a ∷ atoms) h = (by p.mode a h.0, arguments-typed ps atoms h.1)
    where
      by : (mode : Mode) (a : Atom) → IsArgument types variables mode a p.content → IsArgumentOf types variables mode (argument_by mode a) p.content
      by by_in a h = tt
      by by_inout (Atom.literal l) h = absurd h
      by by_inout (Atom.path q) h = h
      by by_out (Atom.literal l) h = absurd h
      by by_out (Atom.path q) h = h

  -- of the arguments of `Call` no more goes to the callee than of the statement's
  given-fewer : (ps : List Parameter) (atoms : List Atom) (q : Path) → IsIn q (arguments_by is_given ps (map atom_of (arguments_of ps atoms))) → IsIn q (arguments_by is_given ps atoms)
  given-fewer [] atoms q m = m
  given-fewer (p ∷ ps) [] q m = m
  given-fewer (p ∷ ps) (a ∷ atoms) q m = by p.mode a m (given-fewer ps atoms q)
    where
      by : (mode : Mode) (a : Atom) → IsIn q (arguments_by is_given (record p { mode = mode } ∷ ps) (atom_of (argument_by mode a) ∷ map atom_of (arguments_of ps atoms)))
          → (IsIn q (arguments_by is_given ps (map atom_of (arguments_of ps atoms))) → IsIn q (arguments_by is_given ps atoms)) → IsIn q (arguments_by is_given (record p { mode = mode } ∷ ps) (a ∷ atoms))
      by by_in (Atom.literal l) m again = again m
      by by_in (Atom.path x) m again = inr (again m)
      by by_inout (Atom.literal l) m again = again m
      by by_inout (Atom.path x) (inl e) again = inl e
      by by_inout (Atom.path x) (inr m) again = inr (again m)
      by by_out (Atom.literal l) m again = again m
      by by_out (Atom.path x) m again = again m

  -- an argument that comes back is at the same place
  returned-same : (ps : List Parameter) (atoms : List Atom) (i : ℕ) (p : Parameter) → AreArguments types variables ps atoms → slice_get ps i ≡ Some p → IsTrue (is_returned p.mode)
      → argument_path (slice_get (map atom_of (arguments_of ps atoms)) i) ≡ argument_path (slice_get atoms i)
  returned-same [] atoms i p h e r = none-not_some e
  returned-same (x ∷ ps) [] i p h e r = absurd h
  returned-same (x ∷ ps) (a ∷ atoms) zero p h e r = by x.mode a h.0 (subst (λ (y : Parameter). IsTrue (is_returned y.mode)) (sym (some-injective e)) r)
    where
      by : (mode : Mode) (a : Atom) → IsArgument types variables mode a x.content → IsTrue (is_returned mode) → argument_path (Some (atom_of (argument_by mode a))) ≡ argument_path (Some a)
      by by_in a h r = not_true r
      by by_inout (Atom.literal l) h r = absurd h
      by by_inout (Atom.path q) h r = refl
      by by_out (Atom.literal l) h r = absurd h
      by by_out (Atom.path q) h r = refl
  returned-same (x ∷ ps) (a ∷ atoms) (suc i) p h e r = returned-same ps atoms i p h.1 e r

  flat-same : (f g : ℕ → List Path) (xs : List ℕ) → ((i : ℕ) → IsIn i xs → f i ≡ g i) → flat_map f xs ≡ flat_map g xs
  flat-same f g [] h = refl
  flat-same f g (x ∷ xs) h = ap₂ ◌++◌ (h x (inl refl)) (flat-same f g xs (λ i m. h i (inr m)))

  keys-length : (ts key : List ℕ) (keys : List Atom) → AreKeysOf types variables ts key keys → length keys ≡ length key
  keys-length ts [] [] h = refl
  keys-length ts [] (a ∷ keys) h = absurd h
  keys-length ts (i ∷ key) [] h = absurd h
  keys-length ts (i ∷ key) (a ∷ keys) h = ap suc (keys-length ts key keys h.1)

  -- only the atoms of parameters of mode `in` are read as operands; they are among those that are given
  inputs-read : (ps : List Parameter) (atoms : List Atom) (facts : List Fact) → ((q : Path) → IsIn q (arguments_by is_given ps atoms) → (f : Fact) → IsIn f (closed types variables (full types variables q)) → IsIn f facts)
      → (constants : List Literal) (count : ℕ) (processes : List Process) (exit_at : Outcome → ℕ) (slots : List Slot) (form : Form) (regular : IsRegular types) → HasReadInputs types variables constants count processes exit_at facts slots form regular ps atoms
  inputs-read [] atoms facts h constants count processes exit_at slots form regular = tt
  inputs-read (p ∷ ps) [] facts h constants count processes exit_at slots form regular = tt
  inputs-read (p ∷ ps) (Atom.literal l ∷ atoms) facts h constants count processes exit_at slots form regular = ((λ e q m. absurd m), inputs-read ps atoms facts h constants count processes exit_at slots form regular)
  inputs-read (p ∷ ps) (Atom.path x ∷ atoms) facts h constants count processes exit_at slots form regular = (
    first,
    inputs-read ps atoms facts (λ q m. h q (later (is_given p.mode) q m)) constants count processes exit_at slots form regular,
  )
    where
      later : (b : Bool) (q : Path) → IsIn q (arguments_by is_given ps atoms) → IsIn q (cond b (x ∷ arguments_by is_given ps atoms) (arguments_by is_given ps atoms))
      later true q m = inr m
      later false q m = m

      first : p.mode ≡ by_in → (q : Path) → IsIn q (x ∷ []) → (f : Fact) → IsIn f (closed types variables (full types variables q)) → IsIn f facts
      first e q (inl s) = h q (subst (λ mode. IsIn q (cond (is_given mode) (x ∷ arguments_by is_given ps atoms) (arguments_by is_given ps atoms))) (sym e) (inl s))
      first e q (inr m) = absurd m

module _ (types : TypeTable) (variables : List ℕ) (constants : List Literal) (count : ℕ) (processes : List Process) (formed : IsWellFormedTable count types) (facts : List Fact) (number here : ℕ) (exit_at : Outcome → ℕ) (slots : List Slot) where
  regular : IsRegular types
  regular = well_formed-regular count types formed

  -- before an instruction of a front, and what is asked of it
  abbrev before : List ℕ → Label
  before stack = record { stack = stack; facts = facts; slots = slots }

  abbrev pub Good : Form → Instruction → Label → Type 0
  Good form i l = IsGoodIn types variables constants count processes exit_at facts slots form i l

  abbrev pub AreGoodIn : Form → List Instruction → Option Label → Type 0
  AreGoodIn form code a = AreGood types variables constants (Good form) code a

  abbrev Needs : Form → Type 0
  Needs form = (f : Fact) → IsIn f (needs types variables form) → IsIn f facts

  abbrev Known : Form → Type 0
  Known form = (l : Literal) → IsIn l (literals_in form) → IsIn l constants

  one : (form : Form) (i : Instruction) → Good form i (before []) → AreGoodIn form (i ∷ []) (Some (before []))
  one form i h = good-one types variables constants (Good form) i (before []) h

  -- an instruction that does its form alone
  alone : (form : Form) (i : Instruction) → jumps i ≡ [] → exceptions_of types variables i ≡ exceptions types variables form → ((e : ℕ) → facts_behind types variables i (raised e) facts ≡ facts_after types variables form (raised e) facts)
      → IsTypedInstruction types variables count constants processes i → FindsOnStack types constants variables i [] → ((f : Fact) → IsIn f (facts_needed types variables i) → IsIn f facts) → FindsSlots types variables i slots → TrimsExcess types variables i facts
      → AreGoodIn form (i ∷ []) (Some (before []))
  alone form i none same behind typed found needed has_slots trimmed =
      one form i (raising types variables constants count processes exit_at facts slots form i [] none (λ e m. subst (IsIn e) same m) (λ e m. behind e) typed found needed has_slots trimmed)

  -- behind operands
  behind-operands : (form : Form) (operands : List Instruction) (i : Instruction) (stack : List ℕ) → handed_on types variables constants operands (Some (before [])) ≡ Some (before stack) → AreGoodIn form operands (Some (before [])) → Good form i (before stack)
      → AreGoodIn form (operands ++ i ∷ []) (Some (before []))
  behind-operands form operands i stack handed good h =
      good-joined types variables constants (Good form) operands (i ∷ []) (Some (before [])) good (subst (AreGoodIn form (i ∷ [])) (sym handed) (good-one types variables constants (Good form) i (before stack) h))

  -- what is read in a form has its facts
  read-in : (form : Form) (fs : List Fact) (ps : List Path) → Needs form → ((f : Fact) → IsIn f (closed types variables fs) → IsIn f (needs types variables form)) → ((f : Fact) → IsIn f (full_of_each types variables ps) → IsIn f fs) → (p : Path) → IsIn p ps → (f : Fact) → IsIn f (closed types variables (full types variables p)) → IsIn f facts
  read-in form fs ps h k among p m f i = h f (k f (closed-more types variables (full types variables p) fs (λ g j. among g (in-flat_map (full types variables) p g ps m j)) f i))

  value-good : (form : Form) (e : Expression) (t : ℕ) (i : Instruction) → ((x : ℕ) → facts_after types variables form (raised x) facts ≡ filter (λ f. true) facts) → IsTyped types variables e t → ((l : Literal) → IsIn l (literals_of e) → IsIn l constants)
      → ((p : Path) → IsIn p (paths_read e) → (f : Fact) → IsIn f (closed types variables (full types variables p)) → IsIn f facts) → ((j : Instruction) → IsIn j (expression_code constants e) → OnlyRaises types variables constants (exceptions types variables form) j)
      → Good form i (before (t ∷ [])) → AreGoodIn form (expression_code constants e ++ i ∷ []) (Some (before []))
  value-good form e t i still typed known read raises h =
      behind-operands form (expression_code constants e) i (t ∷ []) (expression-on types variables constants regular e t typed known (before []))
      (expression-good types variables constants count processes exit_at facts slots form regular still e t [] typed known read raises) h

  -- a test goes on where it is true, and else to its edge
  test-good : (form : Form) (t : ℕ) → t ≡ 0 → IsIn is_false (outcomes types variables form) → facts_after types variables form is_false facts ≡ filter (λ f. true) facts → Good form (JumpFalse (exit_at is_false)) (before (t ∷ []))
  test-good form t e within same = record {
    typed = tt;
    stack = ([], ap (λ u. u ∷ []) e);
    facts = λ f m. absurd m;
    slots = tt;
    trims = tt;
    leads = ways;
  }
    where
      ways : (w : Way) → IsIn w (record { outcome = is_false; index = exit_at is_false } ∷ []) → LandsAtExit types variables constants count processes exit_at facts slots form w (label_behind types variables constants (JumpFalse (exit_at is_false)) w.outcome (before (t ∷ [])))
      ways w (inl q) = subst (λ (w : Way). LandsAtExit types variables constants count processes exit_at facts slots form w (label_behind types variables constants (JumpFalse (exit_at is_false)) w.outcome (before (t ∷ [])))) (sym q) (within, refl, refl, ap (λ fs. label_with fs slots) (sym same))
      ways w (inr m) = absurd m

  -- the keys, and the instruction that takes them
  keys-before : (form : Form) (r t : Path) (keys : List Atom) (row : ℕ) (i : Instruction) → IsFound types variables r t keys row → ((l : Literal) → IsIn l (literals_among keys) → IsIn l constants)
      → ((p : Path) → IsIn p (paths_among keys) → (f : Fact) → IsIn f (closed types variables (full types variables p)) → IsIn f facts)
      → ((stack : List ℕ) → Begins stack (reverse (list_of (types_of_row_key types) (shape_at types variables t))) → Good form i (before stack)) → AreGoodIn form (flat_map (atom_code constants) keys ++ i ∷ []) (Some (before []))
  keys-before form r t keys row i h known read good =
      behind-operands form (flat_map (atom_code constants) keys) i (pushed_types (types_of_key h.0 (fields h.1)) []) (keys-on types variables constants regular h.1 h.0 keys h.5 known (before []))
      (keys-good types variables constants count processes exit_at facts slots form regular h.1 h.0 keys [] h.5 known read)
      (good (pushed_types (types_of_key h.0 (fields h.1)) []) ([], pushed-reverse (types_of_key h.0 (fields h.1)) [] ∙ ap (λ ts. reverse ts ++ []) (sym key-types)))
    where
      key-types : list_of (types_of_row_key types) (shape_at types variables t) ≡ types_of_key h.0 (fields h.1)
      key-types =
          ap (list_of (types_of_row_key types)) (shape-is types variables t ((h.2).0) (rows row h.0) (((h.2).1).0) ((h.2).2))
          ∙ ap (list_of (types_of_key h.0)) h.4

  call-good : (o : Path) (atoms : List Atom) → IsTypedForm types variables count processes (Form.Call o atoms) → ((l : Literal) → IsIn l (literals_among atoms) → IsIn l constants) → Needs (Form.Call o atoms)
      → AreGoodIn (Form.Call o atoms) (front types variables constants facts number here exit_at (Form.Call o atoms)) (Some (before []))
  call-good o atoms h known needed =
      behind-operands (Form.Call o atoms) (inputs_code constants ps atoms) the_call (pushed_types (input_types ps) []) (inputs-on types variables constants regular ps atoms arguments known (before []))
      (inputs-good types variables constants count processes exit_at facts slots (Form.Call o atoms) regular ps atoms [] arguments known
      (inputs-read types variables ps atoms facts given-read constants count processes exit_at slots (Form.Call o atoms) regular))
      (raising types variables constants count processes exit_at facts slots (Form.Call o atoms) the_call (pushed_types (input_types ps) []) refl (λ e m. m) (λ e m. behind e)
      (h.0, h.1, h.2, h.3, h.4, subst (λ qs. AreArgumentsOf types variables h.1 (arguments_of qs atoms)) (sym same-ps) (arguments-typed types variables h.1 atoms h.5), subst (AreApart) (sym set-same) h.6)
      ([], pushed-reverse (input_types ps) [])
      (λ f m. needed f (closed-more types variables _ _ fewer f m)) tt tt)
    where
      ps : List Parameter
      ps = call_parameters types variables o

      the_call : Instruction
      the_call = Call o (arguments_of ps atoms) (call_raises types variables o)

      same-ps : ps ≡ h.1
      same-ps = parameters-are types variables o h.0 h.3 h.1 h.2 h.4

      arguments : AreArguments types variables ps atoms
      arguments = subst (λ qs. AreArguments types variables qs atoms) (sym same-ps) h.5

      set-same : set_by_call types variables o (map atom_of (arguments_of ps atoms)) ≡ set_by_call types variables o atoms
      set-same = arguments-same types variables constants ps atoms

      given-read : (q : Path) → IsIn q (arguments_by is_given ps atoms) → (f : Fact) → IsIn f (closed types variables (full types variables q)) → IsIn f facts
      given-read q m f i =
          needed f (closed-more types variables (full types variables q) _
          (λ g j. in-append_right g (flat_map (room_for types variables) (set_by_call types variables o atoms) ++ present types variables o) _ (in-flat_map (full types variables) q g (given types variables o atoms) m j)) f i)

      fewer : (f : Fact) → IsIn f (flat_map (room_for types variables) (set_by_call types variables o (map atom_of (arguments_of ps atoms))) ++ present types variables o ++ full_of_each types variables (given types variables o (map atom_of (arguments_of ps atoms))))
          → IsIn f (flat_map (room_for types variables) (set_by_call types variables o atoms) ++ present types variables o ++ full_of_each types variables (given types variables o atoms))
      fewer f m = by (in-append_cases f (flat_map (room_for types variables) (set_by_call types variables o (map atom_of (arguments_of ps atoms))) ++ present types variables o) _ m)
        where
          first : List Fact
          first = flat_map (room_for types variables) (set_by_call types variables o atoms) ++ present types variables o

          by : IsIn f (flat_map (room_for types variables) (set_by_call types variables o (map atom_of (arguments_of ps atoms))) ++ present types variables o) ⊎ IsIn f (full_of_each types variables (given types variables o (map atom_of (arguments_of ps atoms))))
              → IsIn f (first ++ full_of_each types variables (given types variables o atoms))
          by (inl a) = in-append_left f first _ (subst (λ set. IsIn f (flat_map (room_for types variables) set ++ present types variables o)) set-same a)
          by (inr b) =
              let r = in-flat_map_from (full types variables) f (given types variables o (map atom_of (arguments_of ps atoms))) b in
              in-append_right f first _ (in-flat_map (full types variables) r.0 f (given types variables o atoms) (given-fewer types variables ps atoms r.0 r.1) r.2)

      kept-same : (e : ℕ) → kept_by_call types variables o (map atom_of (arguments_of ps atoms)) e ≡ kept_by_call types variables o atoms e
      kept-same e =
          flat-same types variables (λ i. argument_path (slice_get (map atom_of (arguments_of ps atoms)) i)) (λ i. argument_path (slice_get atoms i)) (kept_for (call_raises types variables o) e) each
        where
          each : (i : ℕ) → IsIn i (kept_for (call_raises types variables o) e) → argument_path (slice_get (map atom_of (arguments_of ps atoms)) i) ≡ argument_path (slice_get atoms i)
          each i m =
              let r = kept-declared h.2 e i (subst (λ rs. IsIn i (kept_for rs e)) (raises-are types variables o h.0 h.3 h.1 h.2 h.4) m) in
              let k = formed.kept_returned h.0 (callmessage h.1 h.2) h.4 r.0 r.1 i r.2 in
              returned-same types variables ps atoms i k.0 arguments (subst (λ qs. slice_get qs i ≡ Some k.0) (sym same-ps) k.1) k.2

      behind : (e : ℕ) → facts_behind types variables the_call (raised e) facts ≡ facts_after types variables (Form.Call o atoms) (raised e) facts
      behind e =
          ap₂ (λ kept set. closed types variables (full_of_each types variables kept) ++ filter (λ f. not (any_pass (λ p. is_at_or_below p (path_of f)) set)) facts) (kept-same e) set-same

  arms-named : (arms : List Arm) → IsTypedForm types variables count processes (Form.Select arms) → HasArm (Form.Select arms) → Needs (Form.Select arms) → Good (Form.Select arms) (Select (choices_from exit_at 0 arms)) (before [])
  arms-named arms h some needed = record {
    typed = (subst (λ xs. IsTypedForm types variables count processes (Form.Select xs)) (sym (arms-same exit_at arms 0)) h, some-choice arms some);
    stack = ([], refl);
    facts = λ f m. needed f (subst (λ xs. IsIn f (needs types variables (Form.Select xs))) (arms-same exit_at arms 0) m);
    slots = tt;
    trims = tt;
    leads = ways;
  }
    where
      some-choice : (arms : List Arm) → HasArm (Form.Select arms) → IsTrue (is_some_choice (choices_from exit_at 0 arms))
      some-choice [] k = absurd k
      some-choice (a ∷ arms) k = refl

      lands : Way → Type 0
      lands w = LandsAtExit types variables constants count processes exit_at facts slots (Form.Select arms) w (label_behind types variables constants (Select (choices_from exit_at 0 arms)) w.outcome (before []))

      ways : (w : Way) → IsIn w (map way_of_arm (numbered 0 (choices_from exit_at 0 arms)) ++ []) → lands w
      ways w m =
          let r = arm-ways exit_at arms 0 w (subst (IsIn w) (append-nil (map way_of_arm (numbered 0 (choices_from exit_at 0 arms)))) m) in
          subst lands (sym r.2) (in-append_left (arm r.0) (arms_from 0 arms) _ r.1, refl, refl, ap (λ xs. label_with (facts_after types variables (Form.Select xs) (arm r.0) facts) slots) (arms-same exit_at arms 0))

  components-named : (v : Path) (cs : List ℕ) → IsTypedForm types variables count processes (Form.Case v cs) → NamesAll types variables (Form.Case v cs) → Needs (Form.Case v cs)
      → Good (Form.Case v cs) (CaseOf v (map (λ c. exit_at (component c)) (range 0 (map_or 0 component_count (shape_at types variables v))))) (before [])
  components-named v cs h names needed = record {
    typed = (h.0, h.1, h.2, h.3, range-Differ 0 (length indices), λ c. ((λ m. (let r = in-below 0 (length indices) c m in let low = r.1 in let a = many in let b = long in omega (arith, low, a, b))), λ low. below-in 0 (length indices) c (omega arith) (let a = many in let b = long in omega (arith, low, a, b))));
    stack = ([], refl);
    facts = needed;
    slots = tt;
    trims = tt;
    leads = ways;
  }
    where
      size : ℕ
      size = map_or 0 component_count (shape_at types variables v)

      indices : List ℕ
      indices = map (λ c. exit_at (component c)) (range 0 size)

      long : length indices ≡ size
      long = length-map (λ c. exit_at (component c)) (range 0 size) ∙ range-long 0 size

      many : size ≡ length h.1
      many = ap (map_or 0 component_count) (shape-is types variables v h.0 (cases h.1) (h.2).0 h.3)

      lands : Way → Type 0
      lands w = LandsAtExit types variables constants count processes exit_at facts slots (Form.Case v cs) w (label_behind types variables constants (CaseOf v indices) w.outcome (before []))

      ways : (w : Way) → IsIn w (map (λ (c : ℕ × ℕ). record { outcome = component c.0; index = c.1 }) (numbered 0 indices) ++ []) → lands w
      ways w m =
          let r = case-ways exit_at 0 size w (subst (IsIn w) (append-nil (map (λ (c : ℕ × ℕ). record { outcome = component c.0; index = c.1 }) (numbered 0 indices))) m) in
          subst lands (sym r.2) (in-append_left (component r.0) (map component cs) _ (in-map component r.0 cs ((names r.0).0 r.1)), refl, refl, refl)

  without-keys : (r t : Path) (keys : List Atom) (f : Fact) → IsIn f (closed types variables (room_for types variables r ++ present types variables t ++ []))
      → IsIn f (closed types variables (room_for types variables r ++ present types variables t ++ full_of_each types variables (paths_among keys)))
  without-keys r t keys f m =
      closed-more types variables (room_for types variables r ++ present types variables t ++ []) _
      (λ g j. in-append_left g (room_for types variables r ++ present types variables t) _ (subst (IsIn g) (append-nil (room_for types variables r ++ present types variables t)) j)) f m

  abbrev Given : Form → Type 0
  Given form = IsTypedForm types variables count processes form → Known form → NamesAll types variables form → HasArm form → Needs form → IsNoFor form → AreGoodIn form (front types variables constants facts number here exit_at form) (Some (before []))

  typed-at : (x : Path) (t : ℕ) → type_at types variables x ≡ Some t → type_at types variables x ≡ Some (type_of types variables x)
  typed-at x t e = e ∙ ap Some (sym (ap (map_or 0 (λ t. t)) e))

  pub front-good : (form : Form) → Given form
  front-good (Form.Assign x e) h known names some needed plain =
      value-good (Form.Assign x e) e h.0 (Store x) (λ x. refl) h.2 known
      (read-in (Form.Assign x e) (room_for types variables x ++ full_of_each types variables (paths_read e)) (paths_read e) needed (λ f m. m) (λ f m. in-append_right f (room_for types variables x) _ m))
      (expression-raises types variables constants e)
      (raising types variables constants count processes exit_at facts slots (Form.Assign x e) (Store x) (h.0 ∷ []) refl (λ e m. absurd m) (λ e m. absurd m) (h.0, h.1) ([], ap (λ o. list_of (λ t. t ∷ []) o ++ []) (sym ((h.1).0).0))
      (λ f m. needed f (closed-more types variables (room_for types variables x ++ []) (room_for types variables x ++ full_of_each types variables (paths_read e)) (λ g j. in-append_left g (room_for types variables x) _ (subst (IsIn g) (append-nil (room_for types variables x)) j)) f m)) tt tt)
  front-good (Form.Move y x) h known names some needed plain = alone (Form.Move y x) _ refl refl (λ e. refl) h ([], refl) needed tt tt
  front-good (Form.New x) h known names some needed plain = alone (Form.New x) _ refl refl (λ e. refl) (h, typed-at x h.0 ((h.2).0).0) ([], refl) needed tt tt
  front-good (Form.Discard x) h known names some needed plain = alone (Form.Discard x) _ refl refl (λ e. refl) h ([], refl) needed tt tt
  front-good (Form.Unite v c y) h known names some needed plain = alone (Form.Unite v c y) _ refl refl (λ e. refl) h ([], refl) needed tt tt
  front-good (Form.Dissolve v c y) h known names some needed plain = alone (Form.Dissolve v c y) _ refl refl (λ e. refl) h ([], refl) needed tt tt
  front-good (Form.Reveal v c) h known names some needed plain = alone (Form.Reveal v c) _ refl refl (λ e. refl) h ([], refl) needed tt tt
  front-good (Form.Case v cs) h known names some needed plain = one (Form.Case v cs) _ (components-named v cs h names needed)
  front-good (Form.Wrap y p) h known names some needed plain = alone (Form.Wrap y p) _ refl refl (λ e. refl) (h, typed-at y h.0 ((h.2).0).0) ([], refl) needed tt tt
  front-good (Form.Unwrap p t y) h known names some needed plain = alone (Form.Unwrap p t y) _ refl refl (λ e. refl) h ([], refl) needed tt tt
  front-good (Form.Insert r t) h known names some needed plain = alone (Form.Insert r t) _ refl refl (λ e. refl) h ([], refl) needed tt tt
  front-good (Form.Remove r t keys) h known names some needed plain =
      keys-before (Form.Remove r t keys) r t keys h.0 (Remove r t (length keys)) h.1 known
      (read-in (Form.Remove r t keys) (room_for types variables r ++ present types variables t ++ full_of_each types variables (paths_among keys)) (paths_among keys) needed (λ f m. m) (λ f m. in-append_right f (room_for types variables r ++ present types variables t) _ m))
      (λ stack found. raising types variables constants count processes exit_at facts slots (Form.Remove r t keys) (Remove r t (length keys)) stack refl (λ e m. m) (λ e m. refl) (h.0, (h.1).0, (h.1).2, (h.1).3, keys-length types variables (h.1).1 (h.1).0 keys (h.1).5) found (λ f m. needed f (without-keys r t keys f m)) tt tt)
  front-good (Form.Get r t keys) h known names some needed plain =
      keys-before (Form.Get r t keys) r t keys h.0 (Get r t (length keys)) h.1 known
      (read-in (Form.Get r t keys) (room_for types variables r ++ present types variables t ++ full_of_each types variables (paths_among keys)) (paths_among keys) needed (λ f m. m) (λ f m. in-append_right f (room_for types variables r ++ present types variables t) _ m))
      (λ stack found. raising types variables constants count processes exit_at facts slots (Form.Get r t keys) (Get r t (length keys)) stack refl (λ e m. m) (λ e m. refl) (h.0, (h.1).0, (h.1).2, (h.1).3, keys-length types variables (h.1).1 (h.1).0 keys (h.1).5, h.2) found (λ f m. needed f (without-keys r t keys f m)) tt tt)
  front-good (Form.For r t) h known names some needed plain = absurd plain
  front-good (Form.Connect o i) h known names some needed plain = alone (Form.Connect o i) _ refl refl (λ e. refl) h ([], refl) needed tt tt
  front-good (Form.Send x o) h known names some needed plain = alone (Form.Send x o) _ refl refl (λ e. refl) h ([], refl) needed tt refl
  front-good (Form.Receive x i) h known names some needed plain = alone (Form.Receive x i) _ refl refl (λ e. refl) h ([], refl) needed tt tt
  front-good (Form.Select arms) h known names some needed plain = one (Form.Select arms) _ (arms-named arms h some needed)
  front-good (Form.Call o atoms) h known names some needed plain = call-good o atoms h known needed
  front-good (Form.Return m) h known names some needed plain = alone (Form.Return m) _ refl refl (λ e. refl) h ([], refl) needed tt tt
  front-good (Form.ReturnBy m e) h known names some needed plain = alone (Form.ReturnBy m e) _ refl refl (λ e. refl) h ([], refl) needed tt tt
  front-good (Form.Create o n) h known names some needed plain = alone (Form.Create o n) _ refl refl (λ e. refl) h ([], refl) needed tt tt
  front-good (Form.If e) h known names some needed plain =
      value-good (Form.If e) e h.0 (JumpFalse (exit_at is_false)) (λ x. refl) h.2 known (read-in (Form.If e) (full_of_each types variables (paths_read e)) (paths_read e) needed (λ f m. m) (λ f m. m)) (expression-raises types variables constants e)
      (test-good (Form.If e) h.0 (regular.one_boolean h.0 h.1) (inr (inl refl)) refl)
  front-good (Form.While e) h known names some needed plain =
      value-good (Form.While e) e h.0 (JumpFalse (exit_at is_false)) (λ x. refl) h.2 known (read-in (Form.While e) (full_of_each types variables (paths_read e)) (paths_read e) needed (λ f m. m) (λ f m. m)) (expression-raises types variables constants e)
      (test-good (Form.While e) h.0 (regular.one_boolean h.0 h.1) (inr (inl refl)) refl)
  front-good (Form.Raise e) h known names some needed plain = alone (Form.Raise e) _ refl refl (λ e. refl) h ([], refl) needed tt tt
  front-good Form.Leave h known names some needed plain = tt
