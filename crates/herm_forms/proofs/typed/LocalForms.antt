-- Typed forms that are local steps keep sound values.
use Rattle.std.proofs.Common.{◌≡◌, ℕ, List, [], ◌∷◌, Some, sym, ap, ◌∙◌}
use Rattle.std.specs.Prelude.{IsTrue}
use Rattle.herm_model.specs.Paths.{Path}
use Rattle.herm_model.specs.Types.{Shape, fields, rows, type_at, is_within_depth, greatest_depth}
use Rattle.herm_model.specs.Expressions.{Expression, Atom}
use Rattle.herm_model.specs.TypedExpressions.{HasShape}
use Rattle.herm_model.specs.Statements.{Form, Assign, Move, New, Discard, Unite, Dissolve, Wrap, Unwrap, Insert, Remove, Get, For, Connect, If, While, Raise, Leave, Process}
use Rattle.herm_model.proofs.Options.{none-not_some, some-injective}
use Rattle.herm_model.proofs.TypedCalls.{shape-is}
use Rattle.herm_forms.specs.Modules.{Module}
use Rattle.herm_forms.specs.Acts.{new_value}
use Rattle.herm_forms.specs.laws.EdgeLaws.{PreservesSoundness}
use Rattle.herm_forms.specs.laws.FormLaws.{PreservesNeeds}
use Rattle.herm_forms.specs.laws.TypedForms.{IsTypedIn}
use Rattle.herm_forms.specs.laws.FormsSound.{KeepsVisiting, LocalKeeps}
use Rattle.herm_forms.proofs.evaluated.CopiedValues.{deep-at}
use Rattle.herm_forms.proofs.evaluated.AssignedExpressions.{typed-assignments}
use Rattle.herm_forms.proofs.forms.PlainForms.{plain-forms-sound, never}
use Rattle.herm_forms.proofs.forms.MovesToTargets.{moves-keep}
use Rattle.herm_forms.proofs.forms.SetTargets.{new-values-keep}
use Rattle.herm_forms.proofs.forms.HeldContents.{contents-held}
use Rattle.herm_forms.proofs.forms.MovedContents.{contents-move}
use Rattle.herm_forms.proofs.forms.InsertedRows.{rows-inserted}
use Rattle.herm_forms.proofs.forms.RemovedRows.{rows-found}
use Rattle.herm_forms.proofs.forms.VisitedRows.{rows-visited}
use Rattle.herm_forms.proofs.forms.VisitedLoops.{visited-loops}
use Rattle.herm_forms.proofs.typed.TypedAtoms.{typed-deep}

-- a form that keeps sound values in any case does so where it finds what it needs
finding : (c : Module) (form : Form) → PreservesSoundness c form → PreservesNeeds c form
finding c form keeps name statement has b b' o sound needed is = keeps name statement has b b' o sound is

module _ (exceptions : ℕ) (processes : List Process) (c : Module) where
  -- the type at a path is within the depth
  pub path-deep : (form : Form) → IsTypedIn exceptions processes c form → (i : ℕ) (q : List ℕ) (t : ℕ) → type_at c.types c.variables (i ∷ q) ≡ Some t → IsTrue (is_within_depth greatest_depth c.types t)
  path-deep form is i q t e = deep-at c (typed-deep exceptions processes c form is) i q t e

  pub assign-keeps : (x : Path) (e : Expression) → LocalKeeps exceptions processes c (Assign x e)
  assign-keeps [] e is = none-not_some is.typed.1.0.0
  assign-keeps (i ∷ q) e is = typed-assignments c i q e is.typed.0 (typed-deep exceptions processes c (Assign (i ∷ q) e) is) is.typed.1.0.0 is.typed.2

  pub move-keeps : (y x : Path) → LocalKeeps exceptions processes c (Move y x)
  move-keeps [] x is = none-not_some is.typed.1.0.0
  move-keeps (i ∷ q) [] is = none-not_some is.typed.2.0.0
  move-keeps (i ∷ q) (j ∷ r) is = moves-keep c i q j r is.typed.0 is.typed.1.0.0 is.typed.2.0.0 (path-deep (Move (i ∷ q) (j ∷ r)) is i q is.typed.0 is.typed.1.0.0)

  new-by : (i : ℕ) (q : List ℕ) (t : ℕ) (s : Shape) → type_at c.types c.variables (i ∷ q) ≡ Some t → HasShape c.types t s → PreservesNeeds c (New (i ∷ q))
  new-by i q t (fields ts) type shape = (new-values-keep c).new i q t ts type shape
  new-by i q t (rows row key) type shape = (new-values-keep c).new_table i q t row key type shape
  new-by i q t s type shape = λ name statement has b b' o sound needed is. never o b' (ap (λ s. new_value name s (i ∷ q) b) (sym (shape-is c.types c.variables (i ∷ q) t _ type shape)) ∙ is)

  pub new-keeps : (x : Path) → LocalKeeps exceptions processes c (New x)
  new-keeps [] is = none-not_some is.typed.2.0.0
  new-keeps (i ∷ q) is = new-by i q is.typed.0 is.typed.1 is.typed.2.0.0 is.typed.3

  pub discard-keeps : (x : Path) → LocalKeeps exceptions processes c (Discard x)
  discard-keeps [] is = none-not_some is.typed.1.0.0
  discard-keeps (i ∷ q) is = finding c (Discard (i ∷ q)) ((plain-forms-sound c).discard i q)

  pub unite-keeps : (v : Path) (k : ℕ) (y : Path) → LocalKeeps exceptions processes c (Unite v k y)
  unite-keeps [] k y is = none-not_some is.typed.2.0.0
  unite-keeps (j ∷ r) k [] is = none-not_some is.typed.4.0.0
  unite-keeps (j ∷ r) k (i ∷ q) is =
      let h = is.typed in
      (contents-held c).unite i q k j r h.1 h.0 h.3.0 h.2.0.0 h.3.1 h.3.2 h.4.0.0 (path-deep (Unite (j ∷ r) k (i ∷ q)) is i q h.1 h.4.0.0)

  pub dissolve-keeps : (v : Path) (k : ℕ) (y : Path) → LocalKeeps exceptions processes c (Dissolve v k y)
  dissolve-keeps [] k y is = none-not_some is.typed.2.0.0
  dissolve-keeps (i ∷ q) k [] is = none-not_some is.typed.4.0.0
  dissolve-keeps (i ∷ q) k (j ∷ r) is =
      let h = is.typed in
      finding c (Dissolve (i ∷ q) k (j ∷ r)) ((contents-move c).dissolve i q k j r h.1 h.0 h.3.0 h.2.0.0 h.3.1 h.3.2 h.4.0.0 (path-deep (Dissolve (i ∷ q) k (j ∷ r)) is j r h.1 h.4.0.0))

  pub wrap-keeps : (y p : Path) → LocalKeeps exceptions processes c (Wrap y p)
  wrap-keeps [] p is = none-not_some is.typed.2.0.0
  wrap-keeps (i ∷ q) [] is = none-not_some is.typed.3.0.0
  wrap-keeps (i ∷ q) (j ∷ r) is =
      let h = is.typed in
      (contents-held c).wrap i q j r h.0 h.1 h.3.0.0 h.4 h.2.0.0 (path-deep (Wrap (i ∷ q) (j ∷ r)) is i q h.0 h.2.0.0)

  pub unwrap-keeps : (p : Path) (t : ℕ) (y : Path) → LocalKeeps exceptions processes c (Unwrap p t y)
  unwrap-keeps [] t y is = none-not_some is.typed.1.0.0
  unwrap-keeps (i ∷ q) t [] is = none-not_some is.typed.3.0.0
  unwrap-keeps (i ∷ q) t (j ∷ r) is =
      let h = is.typed in
      finding c (Unwrap (i ∷ q) t (j ∷ r)) ((contents-move c).unwrap i q j r t h.0 h.1.0.0 h.2 h.3.0.0 (path-deep (Unwrap (i ∷ q) t (j ∷ r)) is j r t h.3.0.0))

  pub insert-keeps : (r t : Path) → LocalKeeps exceptions processes c (Insert r t)
  insert-keeps [] t is = none-not_some is.typed.3.0.0
  insert-keeps (i ∷ q) [] is = none-not_some is.typed.2.1.0
  insert-keeps (i ∷ q) (j ∷ r) is =
      let h = is.typed in
      let k = is.table.keys h.2.0 (rows h.0 h.1) h.2.2 in
      rows-inserted c i q j r h.0 h.2.0 h.1 k.0 h.2.1.0 h.2.2 k.1 h.3.0.0 (path-deep (Insert (i ∷ q) (j ∷ r)) is i q h.0 h.3.0.0)

  pub remove-keeps : (r t : Path) (keys : List Atom) → LocalKeeps exceptions processes c (Remove r t keys)
  remove-keeps [] t keys is = none-not_some is.typed.1.3.0.0
  remove-keeps (j ∷ r) [] keys is = none-not_some is.typed.1.2.1.0
  remove-keeps (j ∷ r) (i ∷ q) keys is =
      let h = is.typed.1 in
      finding c (Remove (j ∷ r) (i ∷ q) keys) ((rows-found c).remove i q j r is.typed.0 h.2.0 h.0 keys h.2.1.0 h.2.2 h.3.0.0 (path-deep (Remove (j ∷ r) (i ∷ q) keys) is j r is.typed.0 h.3.0.0))

  pub get-keeps : (r t : Path) (keys : List Atom) → LocalKeeps exceptions processes c (Get r t keys)
  get-keeps [] t keys is = none-not_some is.typed.1.3.0.0
  get-keeps (j ∷ r) [] keys is = none-not_some is.typed.1.2.1.0
  get-keeps (j ∷ r) (i ∷ q) keys is =
      let h = is.typed.1 in
      finding c (Get (j ∷ r) (i ∷ q) keys) ((rows-found c).get i q j r is.typed.0 h.2.0 h.0 keys h.2.1.0 h.2.2 h.3.0.0 (path-deep (Get (j ∷ r) (i ∷ q) keys) is j r is.typed.0 h.3.0.0))

  pub visit-keeps : (r t : Path) → IsTypedIn exceptions processes c (For r t) → (row : ℕ) → type_at c.types c.variables r ≡ Some row → KeepsVisiting c row r t
  visit-keeps [] t is row e = none-not_some e
  visit-keeps (j ∷ r) [] is row e = none-not_some is.typed.2.1.0
  visit-keeps (j ∷ r) (i ∷ q) is row e =
      let h = is.typed in
      let same : h.0 ≡ row = some-injective (sym h.3.0.0 ∙ e) in
      let visited = rows-visited c i q j r row h.2.0 h.1 h.2.1.0 (h.2.2 ∙ ap (λ row. Some (rows row h.1)) same) e (path-deep (For (j ∷ r) (i ∷ q)) is j r row e) in
      λ name statement has b b' o sound left is. let v = visited name statement has b b' o sound left is in (v.0, v.1, visited-loops name statement (j ∷ r) (i ∷ q) o b' b is)

  pub connect-keeps : (o i : Path) → LocalKeeps exceptions processes c (Connect o i)
  connect-keeps [] from is = none-not_some is.typed.2.0.0
  connect-keeps (i ∷ q) from is = (new-values-keep c).connect i q is.typed.0 is.typed.1 from is.typed.2.0.0 is.typed.3

  pub if-keeps : (e : Expression) → LocalKeeps exceptions processes c (If e)
  if-keeps e is = finding c (If e) ((plain-forms-sound c).if_test e)

  pub while-keeps : (e : Expression) → LocalKeeps exceptions processes c (While e)
  while-keeps e is = finding c (While e) ((plain-forms-sound c).while_test e)

  pub raise-keeps : (e : ℕ) → LocalKeeps exceptions processes c (Raise e)
  raise-keeps e is = finding c (Raise e) ((plain-forms-sound c).raise e)

  pub leave-keeps : LocalKeeps exceptions processes c Leave
  leave-keeps is = finding c Leave (plain-forms-sound c).leave
