-- A process without a code at its declarations and statements has well-formed blocks, whatever the other processes are.
use Rattle.std.proofs.Common.{◌≡◌, ℕ, List, [], ◌∷◌, ◌++◌, map, take, length, Bool, true, false, not, cond, ◌&&◌, ◌||◌, inl, inr, Option, Some, None, is_some, slice_get, IsTrue, IsFalse, refl, sym, ap, subst, ◌∙◌, arith, true≢false}
use Rattle.std.specs.Bool.{⊤}
use Rattle.std.specs.Str.{bytes_eq}
use Rattle.herm_base.specs.declared.word.Name.{Name}
use Rattle.herm_model.specs.Lists.{IsIn, all_pass}
use Rattle.herm_model.specs.Types.{part_of}
use Rattle.herm_model.specs.Statements as model
use Rattle.herm_model.specs.Statements.{Differ, IsWellFormed, IsWellFormedBlock, AreWellFormed, AreWellFormedHandlers, count_blocks}
use Rattle.herm_model.specs.tests.TableTests.{are_different}
use Rattle.herm_model.specs.WellFormedTables.{IsType}
use Rattle.herm_model.proofs.Lists.{not_true, and-both, every-in, in-map, in-append_left, in-append_right, length-map}
use Rattle.herm_alphabet.specs.KeywordLetters.{keyword_of}
use Rattle.herm_syntax.specs.Trees.{Letters, Move, Unite, Dissolve, Wrap, Insert, Connect, Send, Receive, New, Discard, Reveal, Remove, Get, Statement, Assign, Unwrap, Call, Return, ReturnBy, Create, Raise, Leave, Case, For, Select, If, While, Try, Statements, NoStatement, Further, Arms, NoArm, Arm, PortArms, NoPortArm, PortArm, Otherwise, NoElse, Else, Field}
use Rattle.herm_syntax.specs.View.{name_view, field_view, stmts_view}
use Rattle.herm_syntax.specs.declared.definitions.Field.{Field as FieldForm}
use Rattle.herm_syntax.specs.declared.statements.Stmt.{Stmt}
use Rattle.herm_meaning.specs.Names.{NamedTable, IsWellNamed}
use Rattle.herm_naming.specs.Numbers.{Scope, type_number, part_names, part_number, path_number, type_seen}
use Rattle.herm_naming.specs.Meaning.{arm_names, arm_forms, statement_number, block_number, arm_blocks, port_arm_blocks, otherwise_number, handlers_number}
use Rattle.herm_naming.specs.UnknownNames.{is_type, paths_named, is_there, is_form_there}
use Rattle.herm_naming.specs.Fits.{may_be}
use Rattle.herm_naming.specs.StatementFaults.{Code, is_among, is_inport_shape, first_code, statement_code, declaration_code, variable_codes, statement_codes, name_code, within, in_body, in_arms, in_port_arms, in_otherwise}
use Rattle.herm_naming.specs.RefusalsOfNames.{are_none}
use Rattle.herm_naming.proofs.Settled.{path-type}
use Rattle.herm_naming.proofs.TypedForms.{at-more}
use Rattle.herm_naming.proofs.Apart.{part-within, names-differ}
use Rattle.herm_naming.proofs.KeptRules.{IsFaultless, faultless}
use Rattle.herm_numbers.specs.declared.known.Known.{Known}
use Rattle.herm_typed.specs.declared.statements.TypedStmt.{TypedStmt}
use Rattle.herm_typed.specs.Within.{all_statements}
use Rattle.herm_numbers.specs.Within.{all_written}
use Rattle.herm_resolve.specs.Entries.{typed_entry, written_entry}
use Rattle.herm_typed.specs.Beside.{HasTypes}
use Rattle.herm_resolve.proofs.KnownTypes.{types_known}
use Rattle.herm_resolve.specs.Judged.{scope_within, process_within, codes_within}

count-arms : (s : Scope) (arms : Arms) → length (arm_names arms) ≡ count_blocks (arm_blocks s arms)
count-arms s NoArm = refl
count-arms s (Arm name body rest) = let e = count-arms s rest in omega (arith, e)

count-ports : (s : Scope) (arms : PortArms) → length (arm_forms s arms) ≡ count_blocks (port_arm_blocks s arms)
count-ports s NoPortArm = refl
count-ports s (PortArm port target body rest) = let e = count-ports s rest in omega (arith, e)

not-twice : (b : Bool) → IsTrue (not (not b)) → IsTrue b
not-twice true h = refl
not-twice false h = not_true h

module _ (s : Scope) (well : IsWellNamed s.known) (known : (t : ℕ) → IsIn t s.types → IsType s.known.shapes t) where
  -- the names of the arms of a `case` have different numbers
  case-differ : (v : List ℕ) (ns : List Letters) → IsTrue (is_there s.known.shapes s.types v) → ((n : Letters) → IsIn n ns → IsTrue (is_there s.known.shapes s.types (v ++ (part_number s.known (type_seen s v) n ∷ []))))
      → IsTrue (are_different bytes_eq ns) → Differ (map (part_number s.known (type_seen s v)) ns)
  case-differ v ns h each d =
      let t = path-type (length s.known.exceptions) s.known.shapes well.well_formed s.types known v h in
      subst (λ o. Differ (map (part_number s.known o) ns)) (sym t.1)
      (names-differ ns (part_names s.known (Some t.0))
      (λ n i. let g : IsTrue (is_there s.known.shapes s.types (v ++ (part_number s.known (Some t.0) n ∷ []))) =
      subst (λ o. IsTrue (is_there s.known.shapes s.types (v ++ (part_number s.known o n ∷ [])))) t.1 (each n i) in
      let w = path-type (length s.known.exceptions) s.known.shapes well.well_formed s.types known (v ++ (part_number s.known (Some t.0) n ∷ [])) g in
      let e : part_of s.known.shapes (Some t.0) (part_number s.known (Some t.0) n) ≡ Some w.0 = sym (at-more s.known.shapes s.types v (part_number s.known (Some t.0) n) t.0 t.1) ∙ w.1 in
      part-within s.known well t.0 (part_number s.known (Some t.0) n) t.2 (subst (λ o. IsTrue (is_some o)) (sym e) refl)) d)

  named : (f : model.Form) → IsTrue (is_form_there s.known.shapes s.types (length s.known.exceptions) (length s.processes) f) → (p : List ℕ) → IsIn p (paths_named f) → IsTrue (is_there s.known.shapes s.types p)
  named f h p i = every-in (is_there s.known.shapes s.types) p (paths_named f) (and-both (all_pass (is_there s.known.shapes s.types) (paths_named f)) _ h).0 i

  arms-differ : (l : Bool) (v : List Letters) (arms : Arms) → IsFaultless s l (Case v arms) → Differ (map (part_number s.known (type_seen s (path_number s v))) (arm_names arms))
  arms-differ l v arms h =
      let cs : List ℕ = map (part_number s.known (type_seen s (path_number s v))) (arm_names arms) in
      let f : model.Form = model.Case (path_number s v) cs in
      case-differ (path_number s v) (arm_names arms) (named f h.there (path_number s v) (inl refl))
      (λ n i. named f h.there (path_number s v ++ (part_number s.known (type_seen s (path_number s v)) n ∷ [])) (inr (in-map (λ c. path_number s v ++ (c ∷ [])) _ cs (in-map (part_number s.known (type_seen s (path_number s v))) n (arm_names arms) i))))
      (not-twice _ h.once)

  mutual
    well-formed : (l : Bool) (x : Statement) → IsFaultless s l x → ((y : Bool × Statement) → IsIn y (within l x) → IsFaultless s y.0 y.1) → IsWellFormed (statement_number s x)
    well-formed l (Assign x e) h each = refl
    well-formed l (Move y x) h each = refl
    well-formed l (Unite v y) h each = refl
    well-formed l (Dissolve v y) h each = refl
    well-formed l (Wrap y p) h each = refl
    well-formed l (Insert r t) h each = refl
    well-formed l (Connect o i) h each = refl
    well-formed l (Send x o) h each = refl
    well-formed l (Receive x i) h each = refl
    well-formed l (New x) h each = refl
    well-formed l (Discard x) h each = refl
    well-formed l (Reveal v) h each = refl
    well-formed l (Remove r t keys) h each = refl
    well-formed l (Get r t keys) h each = refl
    well-formed l (Unwrap p name y) h each = refl
    well-formed l (Call o arguments) h each = refl
    well-formed l (Return m) h each = refl
    well-formed l (ReturnBy m name) h each = refl
    well-formed l (Create o name) h each = refl
    well-formed l (Raise name) h each = refl
    well-formed l Leave h each = tt
    well-formed l (Case v arms) h each = (ap model.chooses (length-map _ (arm_names arms) ∙ count-arms s arms), arms-differ l v arms h, well-arms l arms each)
    well-formed l (For r t body) h each = (refl, well-body true body each)
    well-formed l (Select arms) h each = (ap model.chooses (count-ports s arms), tt, well-ports l arms each)
    well-formed l (If e body other) h each =
        (refl, tt, (well-body l body (λ y i. each y (in-append_left y (in_body l body) (in_otherwise l other) i)), (well-other l other (λ y i. each y (in-append_right y (in_body l body) (in_otherwise l other) i)), tt)))
    well-formed l (While e body) h each = (refl, well-body true body each)
    well-formed l (Try body arms) h each =
        (well-body l body (λ y i. each y (in-append_left y (in_body l body) (in_arms l arms) i)), well-handlers l arms (λ y i. each y (in-append_right y (in_body l body) (in_arms l arms) i)))

    well-body : (l : Bool) (body : Statements) → ((y : Bool × Statement) → IsIn y (in_body l body) → IsFaultless s y.0 y.1) → IsWellFormedBlock (block_number s body)
    well-body l NoStatement each = tt
    well-body l (Further x rest) each =
        (well-formed l x (each (l, x) (inl refl)) (λ y i. each y (inr (in-append_left y (within l x) (in_body l rest) i))), well-body l rest (λ y i. each y (inr (in-append_right y (within l x) (in_body l rest) i))))

    well-arms : (l : Bool) (arms : Arms) → ((y : Bool × Statement) → IsIn y (in_arms l arms) → IsFaultless s y.0 y.1) → AreWellFormed (arm_blocks s arms)
    well-arms l NoArm each = tt
    well-arms l (Arm name body rest) each =
        (well-body l body (λ y i. each y (in-append_left y (in_body l body) (in_arms l rest) i)), well-arms l rest (λ y i. each y (in-append_right y (in_body l body) (in_arms l rest) i)))

    well-ports : (l : Bool) (arms : PortArms) → ((y : Bool × Statement) → IsIn y (in_port_arms l arms) → IsFaultless s y.0 y.1) → AreWellFormed (port_arm_blocks s arms)
    well-ports l NoPortArm each = tt
    well-ports l (PortArm port target body rest) each =
        (well-body l body (λ y i. each y (in-append_left y (in_body l body) (in_port_arms l rest) i)), well-ports l rest (λ y i. each y (in-append_right y (in_body l body) (in_port_arms l rest) i)))

    well-other : (l : Bool) (other : Otherwise) → ((y : Bool × Statement) → IsIn y (in_otherwise l other) → IsFaultless s y.0 y.1) → IsWellFormedBlock (otherwise_number s other)
    well-other l NoElse each = tt
    well-other l (Else body) each = well-body l body each

    well-handlers : (l : Bool) (arms : Arms) → ((y : Bool × Statement) → IsIn y (in_arms l arms) → IsFaultless s y.0 y.1) → AreWellFormedHandlers (handlers_number s arms)
    well-handlers l NoArm each = tt
    well-handlers l (Arm name body rest) each =
        (well-body l body (λ y i. each y (in-append_left y (in_body l body) (in_arms l rest) i)), well-handlers l rest (λ y i. each y (in-append_right y (in_body l body) (in_arms l rest) i)))

-- no code
none-in : (codes : List (Option Code)) → IsTrue (are_none codes) → (c : Option Code) → IsIn c codes → c ≡ None
none-in codes h c i = by c (every-in (λ (c : Option Code). not (is_some c)) c codes h i)
  where
    by : (c : Option Code) → IsTrue (not (is_some c)) → c ≡ None
    by None h = refl
    by (Some x) h = not_true h

first-none : (a b c d : Bool) → first_code (not a) b c d ≡ None → IsTrue a
first-none true b c d h = refl
first-none false b c d h = let k : ⊥ = cc h in absurd k

type-there : (known : NamedTable) (is_port : Bool) (before : List Letters) (d : Field) → declaration_code known is_port before d ≡ None → IsType known.shapes (type_number known d.1)
type-there known is_port before d e =
    first-none (is_type known.shapes (type_number known d.1)) (is_among d.0 before) (is_some (keyword_of d.0) || (is_port && not (may_be known.shapes is_inport_shape (Some (type_number known d.1))))) false e

variables-there : (known : NamedTable) (before : List Letters) (ds : List FieldForm) → ((c : Option Code) → IsIn c (variable_codes known before (map field_view ds)) → c ≡ None) → (t : ℕ) → IsIn t (map (λ d. type_number known (name_view d.of)) ds) → IsType known.shapes t
variables-there known before [] h t i = absurd i
variables-there known before (d ∷ ds) h t (inl e) = subst (IsType known.shapes) (sym e) (type-there known false before (field_view d) (h _ (inl refl)))
variables-there known before (d ∷ ds) h t (inr i) = variables-there known (before ++ (name_view d.name ∷ [])) ds (λ c j. h c (inr j)) t i

module _ (k : Known) (well : IsWellNamed k.types.now) (number : ℕ) (name : Name) (port : FieldForm) (vars : List FieldForm) (body : List Stmt) (none : IsTrue (are_none (codes_within k number name port vars body))) where
  each-none : (c : Option Code) → IsIn c (codes_within k number name port vars body) → c ≡ None
  each-none c i = none-in (codes_within k number name port vars body) none c i

  pub types_there : (t : ℕ) → IsIn t (scope_within k port vars).types → IsType k.types.now.shapes t
  types_there t (inl e) = subst (IsType k.types.now.shapes) (sym e) (type-there k.types.now true [] (field_view port) (each-none _ (inr (inl refl))))
  types_there t (inr i) =
      variables-there k.types.now (name_view port.name ∷ []) vars
      (λ c j. each-none c (inr (inr (in-append_left c (variable_codes k.types.now (name_view port.name ∷ []) (map field_view vars)) (statement_codes (scope_within k port vars) (stmts_view body)) j)))) t i

  pub each_faultless : (y : Bool × Statement) → IsIn y (in_body false (stmts_view body)) → IsFaultless (scope_within k port vars) y.0 y.1
  each_faultless y i =
      faultless (scope_within k port vars) y.0 y.1
      (each-none (statement_code (scope_within k port vars) y.0 y.1)
      (inr (inr (in-append_right (statement_code (scope_within k port vars) y.0 y.1) (variable_codes k.types.now (name_view port.name ∷ []) (map field_view vars)) (statement_codes (scope_within k port vars) (stmts_view body))
      (in-map (λ (y : Bool × Statement). statement_code (scope_within k port vars) y.0 y.1) y (in_body false (stmts_view body)) i)))))

  pub blocks_formed : IsWellFormedBlock (process_within k port vars body).body
  blocks_formed = well-body (scope_within k port vars) well types_there false (stmts_view body) each_faultless

  -- each path of its statements has its type
  pub kept_types : (s : Scope) → s ≡ scope_within k port vars → (ts : List TypedStmt) → map typed_entry (all_statements ts) ≡ map (written_entry s) (all_written body) → (variables : List ℕ) → variables ≡ (scope_within k port vars).types
      → (t : TypedStmt) → IsIn t (all_statements ts) → HasTypes k.types.now.shapes variables t.form
  kept_types s same ts e variables v t i =
      subst (λ vs. HasTypes k.types.now.shapes vs t.form) (sym v)
      (types_known (scope_within k port vars) well types_there ts body (subst (λ (s : Scope). map typed_entry (all_statements ts) ≡ map (written_entry s) (all_written body)) same e) each_faultless t i)
