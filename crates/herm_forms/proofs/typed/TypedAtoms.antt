-- The keys and the arguments of typed forms come to full values of their types.
use Rattle.std.proofs.Common.{◌≡◌, inl, inr, ℕ, List, [], ◌∷◌, ◌++◌, Bool, true, false, cond, Option, Some, None, refl, sym, ap, ap₂, ◌∙◌, subst}
use Rattle.std.specs.Prelude.{slice_get, flat_map, IsTrue, ⊤}
use Rattle.herm_model.specs.Lists.{IsIn}
use Rattle.herm_model.specs.Paths.{Path, Fact}
use Rattle.herm_model.specs.Types.{TypeTable, fields, rows, Mode, by_in, by_inout, by_out, Parameter}
use Rattle.herm_model.specs.Expressions.{Atom, literal, path, copy, paths_among}
use Rattle.herm_model.specs.Calls.{call_parameters, is_given, arguments_by}
use Rattle.herm_model.specs.Statements.{Form, Process, Remove, Get, Call}
use Rattle.herm_model.specs.FactsOfStatements.{room_for, present, full, full_of_each, given, set_by_call}
use Rattle.herm_model.specs.Values.{Cell, Parts, part, read_at, Value}
use Rattle.herm_model.specs.CellNames.{forget}
use Rattle.herm_model.specs.Typed.{IsFull}
use Rattle.herm_model.specs.TypedExpressions.{HasShape}
use Rattle.herm_model.specs.WellFormedTables.{IsWellFormedTable, IsScalarField}
use Rattle.herm_model.specs.TypedStatements.{IsTypedAtom, IsArgument, AreArguments, AreKeysOf, IsFound}
use Rattle.herm_model.proofs.Lists.{in-flat_map, in-flat_map_from, in-append_right}
use Rattle.herm_model.proofs.Options.{some-injective}
use Rattle.herm_model.proofs.TypedCalls.{parameters-are}
use Rattle.herm_forms.specs.Frames.{Name}
use Rattle.herm_forms.specs.Modules.{Module}
use Rattle.herm_forms.specs.Evaluate.{Evaluated, gives, scalar_value, scalar_of, atom_value, value_there, key_of_value}
use Rattle.herm_forms.specs.Acts.{input_of, inputs_of, value_before}
use Rattle.herm_forms.specs.laws.EdgeLaws.{AreSound, AreDeep}
use Rattle.herm_forms.specs.laws.CallLaws.{AreFullInputs}
use Rattle.herm_forms.specs.laws.ExpressionLaws.{ComesTo, WhereFound}
use Rattle.herm_forms.specs.laws.TypedForms.{IsTypedIn}
use Rattle.herm_forms.specs.laws.TypedAtoms.{ComeToKey, ComeToInputs, TypedAtomsAreFull}
use Rattle.herm_forms.proofs.forms.ToldFacts.{in-closed}
use Rattle.herm_forms.proofs.evaluated.AssignedExpressions.{typed-comes}
use Rattle.herm_forms.proofs.evaluated.TypedExpressions.{literal-comes, full-scalar}

-- the types of variables in a well-formed table are within the depth
pub typed-deep : (exceptions : ℕ) (processes : List Process) (c : Module) (form : Form) → IsTypedIn exceptions processes c form → AreDeep c
typed-deep exceptions processes c form is t h = is.table.shallow t (is.variables t h)

-- it comes to a full value
record Full (c : Module) (t : ℕ) (v : Evaluated) : Type 0 where
  value : Value
  given : v ≡ gives value
  is_full : IsFull c.types t value

full-of : (c : Module) (t : ℕ) (v : Evaluated) → Full c t v → (value : Value) → v ≡ gives value → IsFull c.types t value
full-of c t v x value is = subst (ComesTo c t) (sym x.given ∙ is) x.is_full

module _ (c : Module) (deep : AreDeep c) (has : Fact → Bool) (ps : Parts Name) (sound : AreSound c has ps) where
  -- the full facts of each of these paths are held
  abbrev Holds : List Path → Type 0
  Holds paths = (p : Path) → IsIn p paths → (f : Fact) → IsIn f (full c.types c.variables p) → IsTrue (has f)

  of-each : (paths : List Path) → ((f : Fact) → IsIn f (full_of_each c.types c.variables paths) → IsTrue (has f)) → Holds paths
  of-each paths needed p h f m = needed f (in-flat_map (full c.types c.variables) p f paths h m)

  atom-full : (a : Atom) (t : ℕ) → IsTypedAtom c.types c.variables a t → Holds (paths_among (a ∷ [])) → Full c t (atom_value ps a)
  atom-full (literal l) t h held = record { value = scalar_value (scalar_of l); given = refl; is_full = literal-comes c t l h }
  atom-full (path p) t h held = by (read_at p ps) (typed-comes c deep has ps sound (copy p) t h (λ f m. let x = in-flat_map_from (full c.types c.variables) f (p ∷ []) m in held x.0 x.1 f x.2))
    where
      by : (o : Option (Cell Name)) → ComesTo c t (value_there o) → Full c t (value_there o)
      by None h = absurd h
      by (Some d) h = record { value = forget d; given = refl; is_full = h }

  first-held : (a : Atom) (atoms : List Atom) → Holds (paths_among (a ∷ atoms)) → Holds (paths_among (a ∷ []))
  first-held (literal l) atoms held p h = absurd h
  first-held (path q) atoms held p (inl e) = held p (inl e)
  first-held (path q) atoms held p (inr h) = absurd h

  rest-held : (a : Atom) (atoms : List Atom) → Holds (paths_among (a ∷ atoms)) → Holds (paths_among atoms)
  rest-held (literal l) atoms held p h = held p h
  rest-held (path q) atoms held p h = held p (inr h)

  keys-full : (ts key : List ℕ) (atoms : List Atom) → ((i : ℕ) → IsIn i key → IsScalarField c.types ts i) → AreKeysOf c.types c.variables ts key atoms → Holds (paths_among atoms) → ComeToKey c ts key atoms ps
  keys-full ts [] [] scalars h held = ([], refl, tt)
  keys-full ts [] (a ∷ atoms) scalars h held = absurd h
  keys-full ts (i ∷ key) [] scalars h held = absurd h
  keys-full ts (i ∷ key) (a ∷ atoms) scalars h held =
      let field = scalars i (inl refl) in
      let typed = h.0 in
      let same : field.0 ≡ typed.0 = some-injective (sym field.2 ∙ typed.1) in
      let v = atom-full a typed.0 typed.2 (first-held a atoms held) in
      let x = full-scalar c.types typed.0 field.1 v.value (subst (λ t. slice_get c.types t ≡ Some field.1) same field.3) field.4 v.is_full in
      let more = keys-full ts key atoms (λ j m. scalars j (inr m)) h.1 (rest-held a atoms held) in
      (x.scalar ∷ more.0, ap₂ key_of_value (v.given ∙ ap gives x.is) more.1, ((typed.0, typed.1, subst (IsFull c.types typed.0) x.is v.is_full), more.2))

  -- what is asked of the argument of a parameter of mode in
  record Input (m : Mode) (a : Atom) (u : ℕ) : Type 0 where
    is_full : m ≡ by_in → (value : Value) → atom_value ps a ≡ gives value → IsFull c.types u value
    there : (more : Option (Parts ⊤)) (x : Parts ⊤) → more ≡ Some x → (y : Parts ⊤) × (input_of m (atom_value ps a) more ≡ Some y)

  one-input : (m : Mode) (a : Atom) (u : ℕ) → IsArgument c.types c.variables m a u → (m ≡ by_in → Holds (paths_among (a ∷ []))) → Input m a u
  one-input by_in a u h held =
      let v = atom-full a u h (held refl) in
      record {
        is_full = λ _. full-of c u (atom_value ps a) v;
        there = λ more x e. (part v.value x, ap₂ value_before v.given e);
      }
  one-input by_inout a u h held = record { is_full = λ e. cc e; there = λ more x e. (x, e) }
  one-input by_out a u h held = record { is_full = λ e. cc e; there = λ more x e. (x, e) }

  given-first : (m : Mode) (q : Path) (paths : List Path) → m ≡ by_in → Holds (cond (is_given m) (q ∷ paths) paths) → Holds (q ∷ [])
  given-first by_in q paths e held p (inl h) = held p (inl h)
  given-first by_in q paths e held p (inr h) = absurd h
  given-first by_inout q paths e held p h = cc e
  given-first by_out q paths e held p h = cc e

  given-rest : (b : Bool) (q : Path) (paths : List Path) → Holds (cond b (q ∷ paths) paths) → Holds paths
  given-rest true q paths held p h = held p (inr h)
  given-rest false q paths held p h = held p h

  inputs-full : (params : List Parameter) (atoms : List Atom) → AreArguments c.types c.variables params atoms → Holds (arguments_by is_given params atoms)
      → AreFullInputs c ps params atoms × (inputs : Parts ⊤) × (inputs_of params atoms ps ≡ Some inputs)
  inputs-full [] [] h held = (tt, _, refl)
  inputs-full [] (a ∷ atoms) h held = absurd h
  inputs-full (p ∷ params) [] h held = absurd h
  inputs-full (p ∷ params) (literal l ∷ atoms) h held =
      let x = one-input p.mode (literal l) p.content h.0 (λ _ q m. absurd m) in
      let more = inputs-full params atoms h.1 held in
      let y = x.there (inputs_of params atoms ps) more.1 more.2 in
      ((x.is_full, more.0), y.0, y.1)
  inputs-full (p ∷ params) (path q ∷ atoms) h held =
      let x = one-input p.mode (path q) p.content h.0 (λ e. given-first p.mode q (arguments_by is_given params atoms) e held) in
      let more = inputs-full params atoms h.1 (given-rest (is_given p.mode) q (arguments_by is_given params atoms) held) in
      let y = x.there (inputs_of params atoms ps) more.1 more.2 in
      ((x.is_full, more.0), y.0, y.1)

-- the fields of a key are scalars
key-scalars : (exceptions : ℕ) (types : TypeTable) (u row : ℕ) (key ts : List ℕ) → IsWellFormedTable exceptions types → HasShape types u (rows row key) → HasShape types row (fields ts) → (i : ℕ) → IsIn i key → IsScalarField types ts i
key-scalars exceptions types u row key ts well shape fielded i h =
    let k = well.keys u (rows row key) shape in
    let same : k.0 ≡ ts = cc (sym k.1 ∙ fielded) in
    subst (λ ts. IsScalarField types ts i) same (k.3 i h)

module _ (exceptions : ℕ) (processes : List Process) (c : Module) where
  found-key : (r t : Path) (keys : List Atom) (row : ℕ) (found : IsFound c.types c.variables r t keys row) → IsWellFormedTable exceptions c.types → AreDeep c → WhereFound c (Remove r t keys) (ComeToKey c found.1 found.0 keys)
  found-key r t keys row found well deep has ps sound needed =
      let before = room_for c.types c.variables r ++ present c.types c.variables t in
      let paths = full_of_each c.types c.variables (paths_among keys) in
      keys-full c deep has ps sound found.1 found.0 keys (key-scalars exceptions c.types found.2.0 row found.0 found.1 well found.2.2 found.4)
      found.5 (of-each c deep has ps sound (paths_among keys) (λ f m. needed f (in-closed c.types c.variables (before ++ paths) f (in-append_right f before paths m))))

  called-inputs : (o : Path) (arguments : List Atom) → IsTypedIn exceptions processes c (Call o arguments) → WhereFound c (Call o arguments) (ComeToInputs c o arguments)
  called-inputs o arguments is has ps sound needed =
      let h = is.typed in
      let same = parameters-are c.types c.variables o h.0 h.3 h.1 h.2 h.4 in
      let before = flat_map (room_for c.types c.variables) (set_by_call c.types c.variables o arguments) ++ present c.types c.variables o in
      let paths = full_of_each c.types c.variables (given c.types c.variables o arguments) in
      inputs-full c (typed-deep exceptions processes c (Call o arguments) is) has ps sound (call_parameters c.types c.variables o) arguments
      (subst (λ params. AreArguments c.types c.variables params arguments) (sym same) h.5)
      (of-each c (typed-deep exceptions processes c (Call o arguments) is) has ps sound (given c.types c.variables o arguments) (λ f m. needed f (in-closed c.types c.variables (before ++ paths) f (in-append_right f before paths m))))

pub typed-atoms : (exceptions : ℕ) (processes : List Process) (c : Module) → TypedAtomsAreFull exceptions processes c
typed-atoms exceptions processes c = record {
  removed = λ r t keys is. found-key exceptions processes c r t keys is.typed.0 is.typed.1 is.table (typed-deep exceptions processes c (Remove r t keys) is);
  got = λ r t keys is. found-key exceptions processes c r t keys is.typed.0 is.typed.1 is.table (typed-deep exceptions processes c (Get r t keys) is);
  called = called-inputs exceptions processes c;
}
