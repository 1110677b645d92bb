-- A statement at which no code holds keeps the rules of typed programs.
use Rattle.std.proofs.Common.{◌≡◌, ℕ, List, [], ◌∷◌, ◌++◌, map, flat_map, length, Bool, true, false, not, cond, ◌&&◌, inl, inr, nat_lt, Some, None, is_some, slice_get, IsTrue, refl, sym, ap, subst, ◌∙◌, arith}
use Rattle.std.specs.Bool.{⊤}
use Rattle.std.specs.Str.{bytes_eq}
use Rattle.herm_model.specs.Lists.{IsIn, all_pass}
use Rattle.herm_model.specs.Paths.{are_apart}
use Rattle.herm_model.specs.Types.{Parameter, part_of}
use Rattle.herm_model.specs.Expressions.{paths_among}
use Rattle.herm_model.specs.Calls.{call_parameters, is_returned}
use Rattle.herm_model.specs.Statements as model
use Rattle.herm_model.specs.Statements.{Differ, IsWellFormed, IsWellFormedBlock, AreWellFormed, AreWellFormedHandlers, count_blocks}
use Rattle.herm_model.specs.TypedStatements.{AreApart, port_type, IsTypedForm}
use Rattle.herm_model.specs.TypedPrograms.{handled, HasArms, HasHandlers, HasDifferentHandlers, HandlesKnown, LeavesLoop}
use Rattle.herm_model.specs.tests.TableTests.{are_different}
use Rattle.herm_model.specs.WellFormedTables.{IsType}
use Rattle.herm_model.proofs.Lists.{not_true, and-both, every-in, in-map, in-append_left, in-append_right, length-map}
use Rattle.herm_model.proofs.Deciding.{below-decides}
use Rattle.herm_syntax.specs.Trees.{Letters, Path, Atom, Constant, Place, Move, Unite, Dissolve, Wrap, Insert, Connect, Send, Receive, New, Discard, Reveal, Remove, Get, Statement, Assign, Unwrap, Call, Return, ReturnBy, Create, Raise, Leave, Case, For, Select, If, While, Try, Statements, NoStatement, Further, Arms, NoArm, Arm, PortArms, NoPortArm, PortArm, Otherwise, NoElse, Else}
use Rattle.herm_meaning.specs.Names.{IsWellNamed}
use Rattle.herm_naming.specs.Numbers.{Scope, exception_number, type_number, part_names, part_number, path_number, type_seen, without_last, component_number, atom_number, expression_number}
use Rattle.herm_naming.specs.Meaning.{process_number, arm_names, arm_forms, statement_number, block_number, arm_blocks, port_arm_blocks, otherwise_number, handlers_number}
use Rattle.herm_naming.specs.UnknownNames.{paths_named, is_there, is_form_there, is_statement_there}
use Rattle.herm_naming.specs.Fits.{fits_form, fits_statement}
use Rattle.herm_naming.specs.Copies.{copies_form, copies_statement}
use Rattle.herm_naming.specs.StatementFaults.{part_ways, set_arguments, paths_part, ports_of, repeats, first_code, statement_code, within, in_body, in_arms, in_port_arms, in_otherwise}
use Rattle.herm_naming.proofs.Settled.{path-type}
use Rattle.herm_naming.proofs.TypedForms.{IsApartForm, at-more, form-typed}
use Rattle.herm_naming.proofs.Apart.{part-within, set-numbers, port-numbers, names-differ, paths-apart, all-apart, ports-differ}

-- what is known of a scope without faults of declarations, beside the processes that are meant
pub record IsSettled (s : Scope) (processes : List model.Process) : Type 0 where
  pub well : IsWellNamed s.known
  pub same : length s.variables ≡ length s.types
  pub known : (t : ℕ) → IsIn t s.types → IsType s.known.shapes t
  pub ports_are : (n : ℕ) → port_type processes n ≡ slice_get s.ports n
  pub ports_known : (t : ℕ) → IsIn t s.ports → IsType s.known.shapes t
  pub each_port : length s.processes ≡ length s.ports

-- no code holds at a statement
pub record IsFaultless (s : Scope) (l : Bool) (x : Statement) : Type 0 where
  pub there : IsTrue (is_statement_there s.known.shapes s.types (length s.known.exceptions) (length s.processes) l (statement_number s x))
  pub once : IsTrue (not (repeats x))
  pub fits : IsTrue (fits_statement s.known.shapes s.types s.ports (statement_number s x))
  pub parts : IsTrue (paths_part s x)
  pub copies : IsTrue (copies_statement s.known.shapes s.types (statement_number s x))

none-is : (a b c d e : Bool) → first_code (not a) b (not (c && d)) (not e) ≡ None → IsTrue a × IsTrue (not b) × IsTrue c × IsTrue d × IsTrue e
none-is false b c d e h = let k : ⊥ = cc h in absurd k
none-is true true c d e h = let k : ⊥ = cc h in absurd k
none-is true false false d e h = let k : ⊥ = cc h in absurd k
none-is true false true false e h = let k : ⊥ = cc h in absurd k
none-is true false true true false h = let k : ⊥ = cc h in absurd k
none-is true false true true true h = (refl, refl, refl, refl, refl)

pub faultless : (s : Scope) (l : Bool) (x : Statement) → statement_code s l x ≡ None → IsFaultless s l x
faultless s l x e =
    let h = none-is (is_statement_there s.known.shapes s.types (length s.known.exceptions) (length s.processes) l (statement_number s x)) (repeats x)
    (fits_statement s.known.shapes s.types s.ports (statement_number s x)) (paths_part s x) (copies_statement s.known.shapes s.types (statement_number s x)) e in
    record { there = h.0; once = h.1; fits = h.2; parts = h.3; copies = h.4 }

not-twice : (b : Bool) → IsTrue (not (not b)) → IsTrue b
not-twice true h = refl
not-twice false h = not_true h

-- it holds of the form of a statement
abbrev pub OfForm : (model.Form → Type 0) → model.Statement → Type 0
OfForm P (model.simple f) = P f
OfForm P (model.choosing f bs) = P f
OfForm P (model.repeating f b) = P f
OfForm P model.leaving = P model.Leave
OfForm P (model.trying b hs) = ⊤

handled-names : (s : Scope) (arms : Arms) → handled (handlers_number s arms) ≡ map (exception_number s.known) (arm_names arms)
handled-names s NoArm = refl
handled-names s (Arm name body rest) = ap (exception_number s.known name ∷◌) (handled-names s rest)

count-arms : (s : Scope) (arms : Arms) → length (arm_names arms) ≡ count_blocks (arm_blocks s arms)
count-arms s NoArm = refl
count-arms s (Arm name body rest) = let e = count-arms s rest in omega (arith, e)

count-ports : (s : Scope) (arms : PortArms) → length (arm_forms s arms) ≡ count_blocks (port_arm_blocks s arms)
count-ports s NoPortArm = refl
count-ports s (PortArm port target body rest) = let e = count-ports s rest in omega (arith, e)

-- the paths that a call sets are among its arguments
set-among : (s : Scope) (ps : List Parameter) (atoms : List Atom) (p : Path) → IsIn p (set_arguments ps atoms) → IsIn (path_number s p) (paths_among (map (atom_number s) atoms))
set-among s [] atoms p i = absurd i
set-among s (q ∷ ps) [] p i = absurd i
set-among s (q ∷ ps) (Constant l ∷ atoms) p i = set-among s ps atoms p i
set-among s (q ∷ ps) (Place r ∷ atoms) p i = by (is_returned q.mode) i (λ j. set-among s ps atoms p j)
  where
    by : (b : Bool) → IsIn p (cond b (r ∷ set_arguments ps atoms) (set_arguments ps atoms)) → (IsIn p (set_arguments ps atoms) → IsIn (path_number s p) (paths_among (map (atom_number s) atoms)))
        → IsIn (path_number s p) (path_number s r ∷ paths_among (map (atom_number s) atoms))
    by true (inl e) again = inl (ap (path_number s) e)
    by true (inr j) again = inr (again j)
    by false j again = inr (again j)

-- the ports of a `select` are among its paths
ports-among : (s : Scope) (arms : PortArms) (p : Path) → IsIn p (ports_of arms) → IsIn (path_number s p) (flat_map (λ (a : model.Arm). a.port ∷ a.target ∷ []) (arm_forms s arms))
ports-among s NoPortArm p i = absurd i
ports-among s (PortArm port target body rest) p (inl e) = inl (ap (path_number s) e)
ports-among s (PortArm port target body rest) p (inr i) = inr (inr (ports-among s rest p i))

module _ (s : Scope) (processes : List model.Process) (ok : IsSettled s processes) where
  abbrev pub IsRight : model.Form → Type 0
  IsRight f = IsTypedForm s.known.shapes s.types (length s.known.exceptions) processes f

  form-right : (f : model.Form) → IsTrue (is_form_there s.known.shapes s.types (length s.known.exceptions) (length s.processes) f) → IsTrue (fits_form s.known.shapes s.types s.ports f)
      → IsTrue (copies_form s.known.shapes s.types f) → IsApartForm s.known.shapes s.types f → IsRight f
  form-right f h k c a =
      form-typed (length s.known.exceptions) s.known.shapes ok.well.well_formed s.types ok.known processes s.ports ok.ports_are ok.ports_known f
      (record { there = subst (λ n. IsTrue (is_form_there s.known.shapes s.types (length s.known.exceptions) n f)) ok.each_port h; fits = k; copies = c; apart = a })

  named : (f : model.Form) → IsTrue (is_form_there s.known.shapes s.types (length s.known.exceptions) (length s.processes) f) → (p : List ℕ) → IsIn p (paths_named f) → IsTrue (is_there s.known.shapes s.types p)
  named f h p i = every-in (is_there s.known.shapes s.types) p (paths_named f) (and-both (all_pass (is_there s.known.shapes s.types) (paths_named f)) _ h).0 i

  part : (p q : Path) → IsTrue (is_there s.known.shapes s.types (path_number s p)) → IsTrue (is_there s.known.shapes s.types (path_number s q)) → IsTrue (part_ways p q) → IsTrue (are_apart (path_number s p) (path_number s q))
  part p q a b w = paths-apart s ok.well ok.same ok.known p q a b w

  -- the names of the arms of a `case` have different numbers
  case-differ : (v : List ℕ) (ns : List Letters) → IsTrue (is_there s.known.shapes s.types v) → ((n : Letters) → IsIn n ns → IsTrue (is_there s.known.shapes s.types (v ++ (part_number s.known (type_seen s v) n ∷ []))))
      → IsTrue (are_different bytes_eq ns) → Differ (map (part_number s.known (type_seen s v)) ns)
  case-differ v ns h each d =
      let t = path-type (length s.known.exceptions) s.known.shapes ok.well.well_formed s.types ok.known v h in
      subst (λ o. Differ (map (part_number s.known o) ns)) (sym t.1)
      (names-differ ns (part_names s.known (Some t.0))
      (λ n i. let g : IsTrue (is_there s.known.shapes s.types (v ++ (part_number s.known (Some t.0) n ∷ []))) =
      subst (λ o. IsTrue (is_there s.known.shapes s.types (v ++ (part_number s.known o n ∷ [])))) t.1 (each n i) in
      let w = path-type (length s.known.exceptions) s.known.shapes ok.well.well_formed s.types ok.known (v ++ (part_number s.known (Some t.0) n ∷ [])) g in
      let e : part_of s.known.shapes (Some t.0) (part_number s.known (Some t.0) n) ≡ Some w.0 = sym (at-more s.known.shapes s.types v (part_number s.known (Some t.0) n) t.0 t.1) ∙ w.1 in
      part-within s.known ok.well t.0 (part_number s.known (Some t.0) n) t.2 (subst (λ o. IsTrue (is_some o)) (sym e) refl)) d)

  -- a statement without a fault is typed
  pub statement-right : (l : Bool) (x : Statement) → IsFaultless s l x → OfForm IsRight (statement_number s x)
  statement-right l (Assign x e) h = form-right (model.Assign (path_number s x) (expression_number s e)) h.there h.fits h.copies tt
  statement-right l (Move y x) h =
      let f : model.Form = model.Move (path_number s y) (path_number s x) in
      form-right f h.there h.fits h.copies (part y x (named f h.there (path_number s y) (inl refl)) (named f h.there (path_number s x) (inr (inl refl))) h.parts)
  statement-right l (Unite v y) h =
      let f : model.Form = model.Unite (path_number s (without_last v)) (component_number s v) (path_number s y) in
      form-right f h.there h.fits h.copies (part y (without_last v) (named f h.there (path_number s y) (inr (inr (inl refl)))) (named f h.there (path_number s (without_last v)) (inl refl)) h.parts)
  statement-right l (Dissolve v y) h =
      let f : model.Form = model.Dissolve (path_number s (without_last v)) (component_number s v) (path_number s y) in
      form-right f h.there h.fits h.copies (part (without_last v) y (named f h.there (path_number s (without_last v)) (inl refl)) (named f h.there (path_number s y) (inr (inr (inl refl)))) h.parts)
  statement-right l (Wrap y p) h =
      let f : model.Form = model.Wrap (path_number s y) (path_number s p) in
      form-right f h.there h.fits h.copies (part y p (named f h.there (path_number s y) (inl refl)) (named f h.there (path_number s p) (inr (inl refl))) h.parts)
  statement-right l (Insert r t) h = form-right (model.Insert (path_number s r) (path_number s t)) h.there h.fits h.copies tt
  statement-right l (Connect o i) h = form-right (model.Connect (path_number s o) (path_number s i)) h.there h.fits h.copies tt
  statement-right l (Send x o) h = form-right (model.Send (path_number s x) (path_number s o)) h.there h.fits h.copies tt
  statement-right l (Receive x i) h = form-right (model.Receive (path_number s x) (path_number s i)) h.there h.fits h.copies tt
  statement-right l (New x) h = form-right (model.New (path_number s x)) h.there h.fits h.copies tt
  statement-right l (Discard x) h = form-right (model.Discard (path_number s x)) h.there h.fits h.copies tt
  statement-right l (Reveal v) h = form-right (model.Reveal (path_number s (without_last v)) (component_number s v)) h.there h.fits h.copies tt
  statement-right l (Remove r t keys) h = form-right (model.Remove (path_number s r) (path_number s t) (map (atom_number s) keys)) h.there h.fits h.copies tt
  statement-right l (Get r t keys) h = form-right (model.Get (path_number s r) (path_number s t) (map (atom_number s) keys)) h.there h.fits h.copies tt
  statement-right l (Unwrap p name y) h =
      let f : model.Form = model.Unwrap (path_number s p) (type_number s.known name) (path_number s y) in
      form-right f h.there h.fits h.copies (part p y (named f h.there (path_number s p) (inl refl)) (named f h.there (path_number s y) (inr (inl refl))) h.parts)
  statement-right l (Call o arguments) h =
      let f : model.Form = model.Call (path_number s o) (map (atom_number s) arguments) in
      let ps : List Parameter = call_parameters s.known.shapes s.types (path_number s o) in
      form-right f h.there h.fits h.copies
      (subst AreApart (sym (set-numbers s ps arguments))
      (all-apart s ok.well ok.same ok.known (set_arguments ps arguments) (λ p i. named f h.there (path_number s p) (inr (set-among s ps arguments p i))) h.parts))
  statement-right l (Return m) h = form-right (model.Return (path_number s m)) h.there h.fits h.copies tt
  statement-right l (ReturnBy m name) h = form-right (model.ReturnBy (path_number s m) (exception_number s.known name)) h.there h.fits h.copies tt
  statement-right l (Create o name) h = form-right (model.Create (path_number s o) (process_number s name)) h.there h.fits h.copies tt
  statement-right l (Raise name) h = form-right (model.Raise (exception_number s.known name)) h.there h.fits h.copies tt
  statement-right l Leave h = tt
  statement-right l (Case v arms) h =
      let cs : List ℕ = map (part_number s.known (type_seen s (path_number s v))) (arm_names arms) in
      let f : model.Form = model.Case (path_number s v) cs in
      form-right f h.there (and-both (fits_form s.known.shapes s.types s.ports f) _ h.fits).0 h.copies
      (case-differ (path_number s v) (arm_names arms) (named f h.there (path_number s v) (inl refl))
      (λ n i. named f h.there (path_number s v ++ (part_number s.known (type_seen s (path_number s v)) n ∷ [])) (inr (in-map (λ c. path_number s v ++ (c ∷ [])) _ cs (in-map (part_number s.known (type_seen s (path_number s v))) n (arm_names arms) i))))
      (not-twice _ h.once))
  statement-right l (For r t body) h = form-right (model.For (path_number s r) (path_number s t)) h.there h.fits h.copies tt
  statement-right l (Select arms) h =
      let f : model.Form = model.Select (arm_forms s arms) in
      form-right f h.there (and-both (fits_form s.known.shapes s.types s.ports f) _ h.fits).0 h.copies
      (subst Differ (sym (port-numbers s arms))
      (ports-differ s ok.well ok.same ok.known (ports_of arms) (λ p i. named f h.there (path_number s p) (ports-among s arms p i)) (not-twice _ h.once)))
  statement-right l (If e body other) h =
      let f : model.Form = model.If (expression_number s e) in
      form-right f h.there (and-both (fits_form s.known.shapes s.types s.ports f) _ h.fits).0 h.copies tt
  statement-right l (While e body) h = form-right (model.While (expression_number s e)) h.there h.fits h.copies tt
  statement-right l (Try body arms) h = tt

  pub keeps-arms : (l : Bool) (y : model.Statement) → IsTrue (fits_statement s.known.shapes s.types s.ports y) → HasArms y
  keeps-arms l (model.simple f) h = tt
  keeps-arms l (model.choosing f bs) h = (and-both (fits_form s.known.shapes s.types s.ports f) _ h).1
  keeps-arms l (model.repeating f b) h = tt
  keeps-arms l model.leaving h = tt
  keeps-arms l (model.trying b hs) h = tt

  pub keeps-handlers : (l : Bool) (y : model.Statement) → IsTrue (fits_statement s.known.shapes s.types s.ports y) → HasHandlers y
  keeps-handlers l (model.simple f) h = tt
  keeps-handlers l (model.choosing f bs) h = tt
  keeps-handlers l (model.repeating f b) h = tt
  keeps-handlers l model.leaving h = tt
  keeps-handlers l (model.trying b hs) h = h

  pub keeps-known : (l : Bool) (y : model.Statement) → IsTrue (is_statement_there s.known.shapes s.types (length s.known.exceptions) (length s.processes) l y) → HandlesKnown (length s.known.exceptions) y
  keeps-known l (model.simple f) h = tt
  keeps-known l (model.choosing f bs) h = tt
  keeps-known l (model.repeating f b) h = tt
  keeps-known l model.leaving h = tt
  keeps-known l (model.trying b hs) h = λ e i. (below-decides e _).0 (every-in (λ e. nat_lt e (length s.known.exceptions)) e (handled hs) h i)

  pub keeps-leaves : (l : Bool) (y : model.Statement) → IsTrue (is_statement_there s.known.shapes s.types (length s.known.exceptions) (length s.processes) l y) → LeavesLoop l y
  keeps-leaves l (model.simple f) h = tt
  keeps-leaves l (model.choosing f bs) h = tt
  keeps-leaves l (model.repeating f b) h = tt
  keeps-leaves l model.leaving h = h
  keeps-leaves l (model.trying b hs) h = tt

  pub keeps-different : (l : Bool) (x : Statement) → IsFaultless s l x → HasDifferentHandlers (statement_number s x)
  keeps-different l (Try body arms) h =
      let k = keeps-known l (statement_number s (Try body arms)) h.there in
      subst Differ (sym (handled-names s arms))
      (names-differ (arm_names arms) s.known.exceptions
      (λ n i. k (exception_number s.known n) (subst (λ es. IsIn (exception_number s.known n) es) (sym (handled-names s arms)) (in-map (exception_number s.known) n (arm_names arms) i)))
      (not-twice _ h.once))
  keeps-different l (Assign x e) h = tt
  keeps-different l (Move y x) h = tt
  keeps-different l (Unite v y) h = tt
  keeps-different l (Dissolve v y) h = tt
  keeps-different l (Wrap y p) h = tt
  keeps-different l (Insert r t) h = tt
  keeps-different l (Connect o i) h = tt
  keeps-different l (Send x o) h = tt
  keeps-different l (Receive x i) h = tt
  keeps-different l (New x) h = tt
  keeps-different l (Discard x) h = tt
  keeps-different l (Reveal v) h = tt
  keeps-different l (Remove r t keys) h = tt
  keeps-different l (Get r t keys) h = tt
  keeps-different l (Unwrap p name y) h = tt
  keeps-different l (Call o arguments) h = tt
  keeps-different l (Return m) h = tt
  keeps-different l (ReturnBy m name) h = tt
  keeps-different l (Create o name) h = tt
  keeps-different l (Raise name) h = tt
  keeps-different l Leave h = tt
  keeps-different l (Case v arms) h = tt
  keeps-different l (For r t body) h = tt
  keeps-different l (Select arms) h = tt
  keeps-different l (If e body other) h = tt
  keeps-different l (While e body) h = tt

  mutual
    well-formed : (l : Bool) (x : Statement) → IsFaultless s l x → ((y : Bool × Statement) → IsIn y (within l x) → IsFaultless s y.0 y.1) → IsWellFormed (statement_number s x)
    well-formed l (Assign x e) h each = refl
    well-formed l (Move y x) h each = refl
    well-formed l (Unite v y) h each = refl
    well-formed l (Dissolve v y) h each = refl
    well-formed l (Wrap y p) h each = refl
    well-formed l (Insert r t) h each = refl
    well-formed l (Connect o i) h each = refl
    well-formed l (Send x o) h each = refl
    well-formed l (Receive x i) h each = refl
    well-formed l (New x) h each = refl
    well-formed l (Discard x) h each = refl
    well-formed l (Reveal v) h each = refl
    well-formed l (Remove r t keys) h each = refl
    well-formed l (Get r t keys) h each = refl
    well-formed l (Unwrap p name y) h each = refl
    well-formed l (Call o arguments) h each = refl
    well-formed l (Return m) h each = refl
    well-formed l (ReturnBy m name) h each = refl
    well-formed l (Create o name) h each = refl
    well-formed l (Raise name) h each = refl
    well-formed l Leave h each = tt
    well-formed l (Case v arms) h each =
        let r = statement-right l (Case v arms) h in
        (ap model.chooses (length-map _ (arm_names arms) ∙ count-arms s arms), r.4, well-arms l arms each)
    well-formed l (For r t body) h each = (refl, well-body true body each)
    well-formed l (Select arms) h each = (ap model.chooses (count-ports s arms), tt, well-ports l arms each)
    well-formed l (If e body other) h each =
        (refl, tt, (well-body l body (λ y i. each y (in-append_left y (in_body l body) (in_otherwise l other) i)), (well-other l other (λ y i. each y (in-append_right y (in_body l body) (in_otherwise l other) i)), tt)))
    well-formed l (While e body) h each = (refl, well-body true body each)
    well-formed l (Try body arms) h each =
        (well-body l body (λ y i. each y (in-append_left y (in_body l body) (in_arms l arms) i)), well-handlers l arms (λ y i. each y (in-append_right y (in_body l body) (in_arms l arms) i)))

    pub well-body : (l : Bool) (body : Statements) → ((y : Bool × Statement) → IsIn y (in_body l body) → IsFaultless s y.0 y.1) → IsWellFormedBlock (block_number s body)
    well-body l NoStatement each = tt
    well-body l (Further x rest) each =
        (well-formed l x (each (l, x) (inl refl)) (λ y i. each y (inr (in-append_left y (within l x) (in_body l rest) i))), well-body l rest (λ y i. each y (inr (in-append_right y (within l x) (in_body l rest) i))))

    well-arms : (l : Bool) (arms : Arms) → ((y : Bool × Statement) → IsIn y (in_arms l arms) → IsFaultless s y.0 y.1) → AreWellFormed (arm_blocks s arms)
    well-arms l NoArm each = tt
    well-arms l (Arm name body rest) each =
        (well-body l body (λ y i. each y (in-append_left y (in_body l body) (in_arms l rest) i)), well-arms l rest (λ y i. each y (in-append_right y (in_body l body) (in_arms l rest) i)))

    well-ports : (l : Bool) (arms : PortArms) → ((y : Bool × Statement) → IsIn y (in_port_arms l arms) → IsFaultless s y.0 y.1) → AreWellFormed (port_arm_blocks s arms)
    well-ports l NoPortArm each = tt
    well-ports l (PortArm port target body rest) each =
        (well-body l body (λ y i. each y (in-append_left y (in_body l body) (in_port_arms l rest) i)), well-ports l rest (λ y i. each y (in-append_right y (in_body l body) (in_port_arms l rest) i)))

    well-other : (l : Bool) (other : Otherwise) → ((y : Bool × Statement) → IsIn y (in_otherwise l other) → IsFaultless s y.0 y.1) → IsWellFormedBlock (otherwise_number s other)
    well-other l NoElse each = tt
    well-other l (Else body) each = well-body l body each

    well-handlers : (l : Bool) (arms : Arms) → ((y : Bool × Statement) → IsIn y (in_arms l arms) → IsFaultless s y.0 y.1) → AreWellFormedHandlers (handlers_number s arms)
    well-handlers l NoArm each = tt
    well-handlers l (Arm name body rest) each =
        (well-body l body (λ y i. each y (in-append_left y (in_body l body) (in_arms l rest) i)), well-handlers l rest (λ y i. each y (in-append_right y (in_body l body) (in_arms l rest) i)))
