-- In a process without a code, the types that its scope sees at the paths of its statements are those of the values at them.
use Rattle.std.proofs.Common.{◌≡◌, ℕ, List, [], ◌∷◌, ◌++◌, map, length, Bool, true, false, inl, inr, Option, Some, None, IsTrue, refl, sym, ap, ap₂, subst, ◌∙◌}
use Rattle.std.proofs.lemmas.List.{map-append}
use Rattle.herm_model.specs.Lists.{IsIn, all_pass}
use Rattle.herm_model.specs.Paths.{Path}
use Rattle.herm_model.specs.Types.{type_at}
use Rattle.herm_model.specs.Statements as model
use Rattle.herm_model.specs.WellFormedTables.{IsType}
use Rattle.herm_model.proofs.Lists.{and-both, every-in, in-map, in-map_from}
use Rattle.herm_syntax.specs.Trees.{Statement}
use Rattle.herm_syntax.specs.View.{stmt_form_view, stmt_rows_view, arms_view, port_arms_view, otherwise_view, stmts_view}
use Rattle.herm_syntax.specs.declared.statements.Stmt.{Stmt}
use Rattle.herm_syntax.specs.declared.statements.StmtForm.{StmtForm}
use Rattle.herm_syntax.specs.declared.statements.StmtForm.TheBlock as forms
use Rattle.herm_meaning.specs.Names.{NamedTable, IsWellNamed}
use Rattle.herm_naming.specs.Numbers.{Scope, type_seen}
use Rattle.herm_naming.specs.Meaning.{statement_number}
use Rattle.herm_naming.specs.UnknownNames.{paths_named, is_there, is_form_there, is_statement_there}
use Rattle.herm_naming.specs.StatementFaults.{within, in_body, in_arms, in_port_arms, in_otherwise}
use Rattle.herm_naming.proofs.Settled.{path-type}
use Rattle.herm_naming.proofs.KeptRules.{IsFaultless}
use Rattle.herm_typed.specs.View.{typed_form_view}
use Rattle.herm_typed.specs.declared.statements.TypedStmt.{TypedStmt}
use Rattle.herm_numbers.specs.View.{number_of}
use Rattle.herm_typed.specs.Within.{all_statements}
use Rattle.herm_numbers.specs.Within.{written_within, written_in, written_in_arms, written_in_port_arms, written_otherwise, all_written}
use Rattle.herm_typed.specs.Beside.{paths_written, own_paths, types_beside}
use Rattle.herm_numbers.specs.Beside.{seen_at, types_seen}
use Rattle.herm_resolve.specs.Entries.{Entry, typed_entry, written_entry}
use Rattle.herm_typed.specs.Beside.{HasTypes}

-- a path of a form is named by it
written-named : (f : model.Form) (p : Path) → IsIn p (paths_written f) → IsIn p (paths_named f)
written-named (model.Unite v c y) p (inl e) = inl e
written-named (model.Unite v c y) p (inr i) = inr (inr i)
written-named (model.Dissolve v c y) p (inl e) = inl e
written-named (model.Dissolve v c y) p (inr i) = inr (inr i)
written-named (model.Reveal v c) p (inl e) = inl e
written-named (model.Reveal v c) p (inr i) = absurd i
written-named (model.Case v cs) p (inl e) = inl e
written-named (model.Case v cs) p (inr i) = absurd i
written-named (model.Assign x e) p i = i
written-named (model.Move y x) p i = i
written-named (model.New x) p i = i
written-named (model.Discard x) p i = i
written-named (model.Wrap y q) p i = i
written-named (model.Unwrap q t y) p i = i
written-named (model.Insert r t) p i = i
written-named (model.Remove r t keys) p i = i
written-named (model.Get r t keys) p i = i
written-named (model.For r t) p i = i
written-named (model.Connect o q) p i = i
written-named (model.Send x o) p i = i
written-named (model.Receive x q) p i = i
written-named (model.Select arms) p i = i
written-named (model.Call o arguments) p i = i
written-named (model.Return m) p i = i
written-named (model.ReturnBy m e) p i = i
written-named (model.Create o n) p i = i
written-named (model.If e) p i = i
written-named (model.While e) p i = i
written-named (model.Raise e) p i = i
written-named model.Leave p i = i

-- the statements of a text, as the trees of the grammar
abbrev view : Stmt → Statement
view x = stmt_form_view x.form

abbrev trees : List (Bool × Statement) → List Statement
trees ys = map (λ (y : Bool × Statement). y.1) ys

both : (xs ys : List Stmt) (us vs : List (Bool × Statement)) → map view xs ≡ trees us → map view ys ≡ trees vs → map view (xs ++ ys) ≡ trees (us ++ vs)
both xs ys us vs e f = map-append view xs ys ∙ (ap₂ (λ a b. a ++ b) e f ∙ sym (map-append (λ (y : Bool × Statement). y.1) us vs))

mutual
  trees-within : (form : StmtForm) (l : Bool) → map view (written_within form) ≡ trees (within l (stmt_form_view form))
  trees-within (forms.Assign x e) l = refl
  trees-within (forms.Move y x) l = refl
  trees-within (forms.New x) l = refl
  trees-within (forms.Discard x) l = refl
  trees-within (forms.Unite v y) l = refl
  trees-within (forms.Dissolve v y) l = refl
  trees-within (forms.Reveal v) l = refl
  trees-within (forms.Case' v shape arms) l = trees-arms arms l
  trees-within (forms.Wrap y p) l = refl
  trees-within (forms.Unwrap p name y) l = refl
  trees-within (forms.Insert r t) l = refl
  trees-within (forms.Remove r t keys) l = refl
  trees-within (forms.Get r t keys) l = refl
  trees-within (forms.For' r t shape body) l = trees-in body true
  trees-within (forms.Connect o i) l = refl
  trees-within (forms.Send x o) l = refl
  trees-within (forms.Receive x i) l = refl
  trees-within (forms.Select' shape arms) l = trees-ports arms l
  trees-within (forms.Call o arguments) l = refl
  trees-within (forms.Return m) l = refl
  trees-within (forms.ReturnBy m name) l = refl
  trees-within (forms.Create o name) l = refl
  trees-within (forms.If' e shape body other) l = both (written_in body) (written_otherwise other) (in_body l (stmt_rows_view body)) (in_otherwise l (otherwise_view other)) (trees-in body l) (trees-otherwise other l)
  trees-within (forms.While' e shape body) l = trees-in body true
  trees-within (forms.Raise name) l = refl
  trees-within forms.Leave l = refl
  trees-within (forms.Try' shape body shape_of_handlers handled) l = both (written_in body) (written_in_arms handled) (in_body l (stmt_rows_view body)) (in_arms l (arms_view handled)) (trees-in body l) (trees-arms handled l)

  trees-in : {m : _} (rows : forms.Row_of-Stmt m) (l : Bool) → map view (written_in rows) ≡ trees (in_body l (stmt_rows_view rows))
  trees-in forms.end_of-Stmt l = refl
  trees-in (forms.more_of-Stmt number span form rest) l =
      ap (stmt_form_view form ∷◌) (both (written_within form) (written_in rest) (within l (stmt_form_view form)) (in_body l (stmt_rows_view rest)) (trees-within form l) (trees-in rest l))

  trees-arms : {m : _} (arms : forms.Row_of-StmtForm-Case-1-3 m) (l : Bool) → map view (written_in_arms arms) ≡ trees (in_arms l (arms_view arms))
  trees-arms forms.end_of-StmtForm-Case-1-3 l = refl
  trees-arms (forms.more_of-StmtForm-Case-1-3 name shape body rest) l = both (written_in body) (written_in_arms rest) (in_body l (stmt_rows_view body)) (in_arms l (arms_view rest)) (trees-in body l) (trees-arms rest l)

  trees-ports : {m : _} (arms : forms.Row_of-StmtForm-Select-0-4 m) (l : Bool) → map view (written_in_port_arms arms) ≡ trees (in_port_arms l (port_arms_view arms))
  trees-ports forms.end_of-StmtForm-Select-0-4 l = refl
  trees-ports (forms.more_of-StmtForm-Select-0-4 port target shape body rest) l = both (written_in body) (written_in_port_arms rest) (in_body l (stmt_rows_view body)) (in_port_arms l (port_arms_view rest)) (trees-in body l) (trees-ports rest l)

  trees-otherwise : (other : forms.Held-StmtForm-If-2) (l : Bool) → map view (written_otherwise other) ≡ trees (in_otherwise l (otherwise_view other))
  trees-otherwise forms.None' l = refl
  trees-otherwise (forms.Some' shape body) l = trees-in body l

trees-all : (xs : List Stmt) (l : Bool) → map view (all_written xs) ≡ trees (in_body l (stmts_view xs))
trees-all [] l = refl
trees-all (x ∷ xs) l =
    ap (stmt_form_view x.form ∷◌) (both (written_within x.form) (all_written xs) (within l (stmt_form_view x.form)) (in_body l (stmts_view xs)) (trees-within x.form l) (trees-all xs l))

-- a number that a known type has
known-number : (known : NamedTable) (o : Option ℕ) (t : ℕ) → o ≡ Some t → o ≡ Some (number_of known o)
known-number known None t e = let k : ⊥ = cc e in absurd k
known-number known (Some u) t e = refl

module _ (s : Scope) (well : IsWellNamed s.known) (known : (t : ℕ) → IsIn t s.types → IsType s.known.shapes t) where
  form-there : (f : model.Form) (e n : ℕ) → IsTrue (is_form_there s.known.shapes s.types e n f) → (p : Path) → IsIn p (paths_written f) → IsTrue (is_there s.known.shapes s.types p)
  form-there f e n h p i = every-in (is_there s.known.shapes s.types) p (paths_named f) (and-both (all_pass (is_there s.known.shapes s.types) (paths_named f)) _ h).0 (written-named f p i)

  own-there : (x : model.Statement) (l : Bool) (e n : ℕ) → IsTrue (is_statement_there s.known.shapes s.types e n l x) → (p : Path) → IsIn p (own_paths x) → IsTrue (is_there s.known.shapes s.types p)
  own-there (model.simple f) l e n h p i = form-there f e n h p i
  own-there (model.choosing f bs) l e n h p i = form-there f e n h p i
  own-there (model.repeating f b) l e n h p i = form-there f e n h p i
  own-there model.leaving l e n h p i = absurd i
  own-there (model.trying b hs) l e n h p i = absurd i

  types-known : (ps : List Path) → ((p : Path) → IsIn p ps → IsTrue (is_there s.known.shapes s.types p)) → map (type_at s.known.shapes s.types) ps ≡ map Some (map (seen_at s) ps)
  types-known [] h = refl
  types-known (p ∷ ps) h =
      let t = path-type (length s.known.exceptions) s.known.shapes well.well_formed s.types known p (h p (inl refl)) in
      ap₂ (λ (a : Option ℕ) (b : List (Option ℕ)). a ∷ b) (known-number s.known (type_seen s p) t.0 t.1) (types-known ps (λ q i. h q (inr i)))

  pub types_known : (ts : List TypedStmt) (body : List Stmt) → map typed_entry (all_statements ts) ≡ map (written_entry s) (all_written body) → ((y : Bool × Statement) → IsIn y (in_body false (stmts_view body)) → IsFaultless s y.0 y.1)
      → (t : TypedStmt) → IsIn t (all_statements ts) → HasTypes s.known.shapes s.types t.form
  types_known ts body e each t i =
      let x = in-map_from (written_entry s) (typed_entry t) (all_written body) (subst (λ (es : List Entry). IsIn (typed_entry t) es) e (in-map typed_entry t (all_statements ts) i)) in
      let y = in-map_from (λ (y : Bool × Statement). y.1) (view x.0) (in_body false (stmts_view body)) (subst (λ (xs : List Statement). IsIn (view x.0) xs) (trees-all body false) (in-map view x.0 (all_written body) x.1)) in
      let means : typed_form_view t.form ≡ statement_number s (view x.0) = ap (λ (a : Entry). a.1.1.0) x.2 in
      let types : types_beside t.form ≡ types_seen s (statement_number s (view x.0)) = ap (λ (a : Entry). a.1.1.1) x.2 in
      let there = own-there (statement_number s y.0.1) y.0.0 (length s.known.exceptions) (length s.processes) (each y.0 y.1).there in
      let there' : (p : Path) → IsIn p (own_paths (statement_number s (view x.0))) → IsTrue (is_there s.known.shapes s.types p) = subst (λ (z : Statement). (p : Path) → IsIn p (own_paths (statement_number s z)) → IsTrue (is_there s.known.shapes s.types p)) (sym y.2) there in
      ap (λ (z : model.Statement). map (type_at s.known.shapes s.types) (own_paths z)) means
      ∙ (types-known (own_paths (statement_number s (view x.0))) there' ∙ ap (map Some) (sym types))
