-- Typed forms that are local steps are not stuck.
use Rattle.std.proofs.Common.{◌≡◌, inl, ℕ, suc, List, [], ◌∷◌, ◌++◌, Bool, true, false, cond, Option, Some, None, option_map, refl, sym, ap, ◌∙◌, subst, true≢false}
use Rattle.std.specs.Prelude.{flat_map, IsTrue, IsFalse, nat_eq, nat_lt}
use Rattle.std.proofs.lemmas.Bool.{eqb-true}
use mathlib.Core.Bool.{false≢true}
use Rattle.herm_model.specs.Lists.{IsIn, map_or}
use Rattle.herm_model.specs.Paths.{Path, Fact, init, case, are_apart}
use Rattle.herm_model.specs.Types.{Shape, fields, rows, cases, outport, inport, type_at}
use Rattle.herm_model.specs.Facts.{facts_to, with_prefixes}
use Rattle.herm_model.specs.Expressions.{Expression, Atom}
use Rattle.herm_model.specs.TypedExpressions.{HasShape, IsPathOf}
use Rattle.herm_model.specs.Calls.{shape_at}
use Rattle.herm_model.specs.Statements.{Form, Assign, Move, New, Discard, Unite, Dissolve, Reveal, Case, Wrap, Unwrap, Remove, Get, For, Connect, If, While, Raise, Leave, Process}
use Rattle.herm_model.specs.FactsOfStatements.{room_for, present, full, full_of_each, needs, row}
use Rattle.herm_model.specs.Expressions.{paths_read, paths_among}
use Rattle.herm_model.specs.Tables.{same_key, key_of, place_of_key, without_part}
use Rattle.herm_model.specs.Outcomes.{Outcome, ok, is_true, is_false, component, raised, depletion, polymorph_mismatch, not_found, done, turn}
use Rattle.herm_model.specs.TypedStatements.{IsTarget, IsSource, can_be_new}
use Rattle.herm_model.specs.Values.{Scalar, a_boolean, a_table, gap, Kind, a_scalar, a_variant, a_polymorph, an_inport, Cell, cell, Parts, no_parts, part, part_at, parts_of, cell_at, read_at, has_place, polymorph_depth}
use Rattle.herm_model.specs.CellNames.{copy_in}
use Rattle.herm_model.specs.FactsOfValues.{is_component, satisfies}
use Rattle.herm_model.specs.Typed.{partly, unfit, layout, many, Fits, HasType, greatest_polymorph}
use Rattle.herm_model.proofs.Lists.{not_true, in-flat_map, in-append_left, in-append_right}
use Rattle.herm_model.proofs.Options.{none-not_some, some-injective, map-some}
use Rattle.herm_model.proofs.TypedCalls.{shape-is}
use Rattle.herm_forms.specs.Frames.{Name, Frame, Completion, goes, stuck, if_there, finalise, finalise_name, cleared, drop, put, taking, putting, making, copying_parts}
use Rattle.herm_forms.specs.Forms.{moving, moving_content, Opened, component_in, component_of, content_of, inport_number, with_value, tested}
use Rattle.herm_forms.specs.InsertForm.{change_rows}
use Rattle.herm_forms.specs.LoopForms.{rows_for, set_rows, next_row}
use Rattle.herm_forms.specs.RemoveAndGet.{finding}
use Rattle.herm_forms.specs.Forms
use Rattle.herm_forms.specs.Evaluate.{Evaluated, gives, raises, no_value, evaluate, key_values}
use Rattle.herm_forms.specs.Excess.{excess_over_full}
use Rattle.herm_forms.specs.Modules.{Module}
use Rattle.herm_forms.specs.Acts.{is_action, key_at, new_value, act}
use Rattle.herm_forms.specs.laws.EdgeLaws.{AreSound, without}
use Rattle.herm_forms.specs.laws.ExpressionLaws.{ComesTo, Decides}
use Rattle.herm_forms.specs.laws.TypedForms.{IsTypedIn}
use Rattle.herm_forms.specs.laws.FormsGoOn.{GoesOn, VisitGoesOn}
use Rattle.herm_journal.proofs.Rising.{same-true}
use Rattle.herm_journal.specs.Messages.{is_inport}
use Rattle.herm_forms.proofs.TypedReading.{typed-read}
use Rattle.herm_forms.proofs.SetValues.{clearing-sound}
use Rattle.herm_forms.proofs.evaluated.ReadValues.{read-there}
use Rattle.herm_forms.proofs.forms.ReadTypes.{read-typed, variant-component, is-table}
use Rattle.herm_forms.proofs.forms.RemovedRows.{less-sound}
use Rattle.herm_model.proofs.ClosedFacts.{IsIn-once}
use Rattle.herm_forms.proofs.Arrived.{to-direct}
use Rattle.herm_forms.proofs.evaluated.AssignedExpressions.{typed-values}
use Rattle.herm_forms.proofs.forms.ToldFacts.{in-closed, there-read}
use Rattle.herm_forms.proofs.forms.SetTargets.{in-full}
use Rattle.herm_forms.proofs.forms.ExcessDropped.{source-taken, below-source, source-full}
use Rattle.herm_forms.proofs.typed.TypedAtoms.{typed-deep, typed-atoms}
use Rattle.herm_forms.proofs.typed.LocalForms.{path-deep}
use Rattle.herm_forms.proofs.typed.Room.{HasParent, has-parent, parent-left, value-there, place-there}

-- a result that goes on
abbrev pub Comes : Completion Name → Type 0
Comes r = (o : Outcome) × (b' : Frame Name) × (r ≡ goes o b')

comes-by : (r s : Completion Name) → r ≡ s → Comes s → Comes r
comes-by r s e x = (x.0, x.1, e ∙ x.2)

-- the end of a statement with a target
set-comes : (x : Path) (o : Outcome) (d : Cell Name) (b : Frame Name) → IsTrue (has_place b.variables x) → Comes (putting x o d b)
set-comes x o d b place = (o, put x d b, ap (λ t. cond t (goes o (put x d b)) stuck) place)

pub there-comes : {X : Type 0} (next : X → Completion Name) (o : Option X) (x : X) → o ≡ Some x → Comes (next x) → Comes (if_there next o)
there-comes next o x e h = comes-by (if_there next o) (next x) (ap (if_there next) e) h

-- what stands at the place of a key is a row
part-found : (key : List ℕ) (k : List Scalar) (ps : Parts Name) (i : ℕ) → place_of_key key k ps ≡ Some i → (row : Cell Name) × (part_at i ps ≡ Some row)
part-found key k no_parts i e = none-not_some e
part-found key k (gap ps) i e =
    let n = map-some suc (place_of_key key k ps) i e in
    let row = part-found key k ps n.0 n.1 in
    (row.0, ap (λ i. part_at i (gap ps)) (sym n.2) ∙ row.1)
part-found key k (part d ps) i e = by (same_key (key_of key d) k) e (part-found key k ps)
  where
    by : (b : Bool) → cond b (Some 0) (option_map suc (place_of_key key k ps)) ≡ Some i → ((n : ℕ) → place_of_key key k ps ≡ Some n → (row : Cell Name) × (part_at n ps ≡ Some row)) → (row : Cell Name) × (part_at i (part d ps) ≡ Some row)
    by true e again = (d, ap (λ i. part_at i (part d ps)) (sym (some-injective e)))
    by false e again =
        let n = map-some suc (place_of_key key k ps) i e in
        let row = again n.0 n.1 in
        (row.0, ap (λ i. part_at i (part d ps)) (sym n.2) ∙ row.1)

module _ (exceptions : ℕ) (processes : List Process) (c : Module) where
  module _ (form : Form) (is : IsTypedIn exceptions processes c form) (has : Fact → Bool) (needed : (f : Fact) → IsIn f (needs c.types c.variables form) → IsTrue (has f)) where
    abbrev pub asks : List Fact
    asks = (row c.types c.variables form).needed

    pub asked : (f : Fact) → IsIn f asks → IsTrue (has f)
    asked f h = needed f (in-closed c.types c.variables asks f h)

    pub parent-of : (x : Path) (t : ℕ) → IsTarget c.types c.variables x t → ((f : Fact) → IsIn f (room_for c.types c.variables x) → IsIn f asks) → HasParent has x
    parent-of x t target among = has-parent c has x t target.0.0 target.1 (λ f h. asked f (among f h))

    module _ (b : Frame Name) (sound : AreSound c has b.variables) where
      pub place-of : (x : Path) (t : ℕ) → IsTarget c.types c.variables x t → ((f : Fact) → IsIn f (room_for c.types c.variables x) → IsIn f asks) → IsTrue (has_place b.variables x)
      place-of x t target among = place-there c has b.variables sound x t target.0.0 target.1 (parent-of x t target among)

      -- a source that is there leaves, and a target that is apart from it has still its place
      taken-comes : (i : ℕ) (q : List ℕ) (u : ℕ) → IsSource c.types c.variables (i ∷ q) u → ((f : Fact) → IsIn f (present c.types c.variables (i ∷ q)) → IsIn f asks) → (next : Cell Name → Frame Name → Completion Name)
          → ((d : Cell Name) → cell_at (i ∷ q) b.variables ≡ Some d → Comes (next d (cleared (i ∷ q) b))) → Comes (taking (i ∷ q) next b)
      taken-comes i q u source among next on =
          let d = value-there c has b.variables sound i q (asked (init (i ∷ q)) (among (init (i ∷ q)) (to-direct c.types c.variables i q source.1))) in
          there-comes (λ d. next d (cleared (i ∷ q) b)) (cell_at (i ∷ q) b.variables) d.0 d.1 (on d.0 d.1)

      pub moved-comes : (i : ℕ) (q : List ℕ) (u : ℕ) → IsSource c.types c.variables (i ∷ q) u → ((f : Fact) → IsIn f (full c.types c.variables (i ∷ q)) → IsIn f asks) → (next : Cell Name → Frame Name → Completion Name)
          → ((d : Cell Name) (b' : Frame Name) → AreSound c (without (i ∷ q) has) b'.variables → Comes (next d b')) → Comes (moving (excess_over_full c (i ∷ q) b) (i ∷ q) next b)
      moved-comes i q u source among next on =
          let type = source.0.0 in
          let own = value-there c has b.variables sound i q (asked (init (i ∷ q)) (among (init (i ∷ q)) (in-append_left (init (i ∷ q)) (facts_to c.types c.variables (i ∷ q)) _ (to-direct c.types c.variables i q source.1)))) in
          let s = source-full c i q has b sound u type (path-deep exceptions processes c form is i q u type) (λ f h. asked f (among f (in-full c i q u type source.1 f h))) own.0 own.1 in
          there-comes (λ d. next d (cleared (i ∷ q) (drop (excess_over_full c (i ∷ q) b) b))) (cell_at (i ∷ q) (drop (excess_over_full c (i ∷ q) b) b).variables) s.0 s.1
          (on s.0 (cleared (i ∷ q) (drop (excess_over_full c (i ∷ q) b) b)) (source-taken c i q has b sound (excess_over_full c (i ∷ q) b) (below-source c i q has b sound u type)))

      -- what moves is set, perhaps inside a cell that is made for it
      place-left : (y x : Path) (t : ℕ) → IsTarget c.types c.variables x t → IsTrue (are_apart y x) → ((f : Fact) → IsIn f (room_for c.types c.variables x) → IsIn f asks) → (b' : Frame Name) → AreSound c (without y has) b'.variables → IsTrue (has_place b'.variables x)
      place-left y x t target apart among b' left = place-there c (without y has) b'.variables left x t target.0.0 target.1 (parent-left c has y x apart (parent-of x t target among))

  -- the forms
  pub assign-comes : (x : Path) (e : Expression) → IsTypedIn exceptions processes c (Assign x e) → GoesOn c (Assign x e)
  assign-comes x e is name statement has b sound needed =
      by (evaluate b.variables e) ((typed-values c (typed-deep exceptions processes c (Assign x e) is)).assigned x e is.typed.0 is.typed.2 has b.variables sound needed)
    where
      by : (v : Evaluated) → ComesTo c is.typed.0 v → Comes (with_value (Forms.assign name x) v b)
      by (gives v) h = set-comes x ok _ _ (place-of (Assign x e) is has needed b sound x is.typed.0 is.typed.1 (λ f h. in-append_left f (room_for c.types c.variables x) (full_of_each c.types c.variables (paths_read e)) h))
      by (raises y) h = (raised y, b, refl)
      by no_value h = absurd h

  pub move-comes : (y x : Path) → IsTypedIn exceptions processes c (Move y x) → GoesOn c (Move y x)
  move-comes [] x is name statement has b sound needed = none-not_some is.typed.1.0.0
  move-comes (i ∷ q) x is name statement has b sound needed =
      let form = Move (i ∷ q) x in
      moved-comes form is has needed b sound i q is.typed.0 is.typed.1 (λ f h. in-append_right f (room_for c.types c.variables x) (full c.types c.variables (i ∷ q)) h) (putting x ok)
      (λ d b' left. set-comes x ok d b' (place-left form is has needed b sound (i ∷ q) x is.typed.0 is.typed.2 is.typed.3 (λ f h. in-append_left f (room_for c.types c.variables x) (full c.types c.variables (i ∷ q)) h) b' left))

  pub discard-comes : (x : Path) → IsTypedIn exceptions processes c (Discard x) → GoesOn c (Discard x)
  discard-comes [] is name statement has b sound needed = none-not_some is.typed.1.0.0
  discard-comes (i ∷ q) is name statement has b sound needed =
      taken-comes (Discard (i ∷ q)) is has needed b sound i q is.typed.0 is.typed.1 (λ f h. h) (λ d b. goes ok (finalise d b)) (λ d at. (ok, finalise d (cleared (i ∷ q) b), refl))

  pub unite-comes : (v : Path) (k : ℕ) (y : Path) → IsTypedIn exceptions processes c (Unite v k y) → GoesOn c (Unite v k y)
  unite-comes v k [] is name statement has b sound needed = none-not_some is.typed.4.0.0
  unite-comes v k (i ∷ q) is name statement has b sound needed =
      let form = Unite v k (i ∷ q) in
      moved-comes form is has needed b sound i q is.typed.1 is.typed.4 (λ f h. in-append_right f (room_for c.types c.variables v) (full c.types c.variables (i ∷ q)) h)
      (λ content b. making name (a_variant k) (part content no_parts) (putting v ok) b)
      (λ d b' left. set-comes v ok _ _ (place-left form is has needed b sound (i ∷ q) v is.typed.0 is.typed.2 is.typed.5 (λ f h. in-append_left f (room_for c.types c.variables v) (full c.types c.variables (i ∷ q)) h) b' left))

  pub wrap-comes : (y p : Path) → IsTypedIn exceptions processes c (Wrap y p) → GoesOn c (Wrap y p)
  wrap-comes [] p is name statement has b sound needed = none-not_some is.typed.2.0.0
  wrap-comes (i ∷ q) p is name statement has b sound needed =
      let form = Wrap (i ∷ q) p in
      let t = is.typed.0 in
      let among : (f : Fact) → IsIn f (full c.types c.variables (i ∷ q)) → IsIn f (asks form is has needed) = λ f h. in-append_right f (room_for c.types c.variables p) (full c.types c.variables (i ∷ q)) h in
      let type = is.typed.2.0.0 in
      let own = value-there c has b.variables sound i q (asked form is has needed (init (i ∷ q)) (among (init (i ∷ q)) (in-append_left (init (i ∷ q)) (facts_to c.types c.variables (i ∷ q)) _ (to-direct c.types c.variables i q is.typed.2.1)))) in
      let s = source-full c i q has b sound t type (path-deep exceptions processes c form is i q t type) (λ f h. asked form is has needed f (among f (in-full c i q t type is.typed.2.1 f h))) own.0 own.1 in
      there-comes (λ t. Forms.wrap name t (excess_over_full c (i ∷ q) b) (i ∷ q) p b) (type_at c.types c.variables (i ∷ q)) t type
      (there-comes _ (cell_at (i ∷ q) (drop (excess_over_full c (i ∷ q) b) b).variables) s.0 s.1 (by (nat_lt (polymorph_depth s.0) greatest_polymorph) t among))
    where
      by : (deep : Bool) (t : ℕ) → ((f : Fact) → IsIn f (full c.types c.variables (i ∷ q)) → IsIn f (asks (Wrap (i ∷ q) p) is has needed))
          → Comes (cond deep (moving (excess_over_full c (i ∷ q) b) (i ∷ q) (λ content b. making name (a_polymorph t) (part content no_parts) (putting p ok) b) b) (goes (raised depletion) b))
      by true t among =
          moved-comes (Wrap (i ∷ q) p) is has needed b sound i q is.typed.0 is.typed.2 among (λ content b. making name (a_polymorph t) (part content no_parts) (putting p ok) b)
          (λ d b' left. set-comes p ok _ _ (place-left (Wrap (i ∷ q) p) is has needed b sound (i ∷ q) p is.typed.1 is.typed.3 is.typed.5 (λ f h. in-append_left f (room_for c.types c.variables p) (full c.types c.variables (i ∷ q)) h) b' left))
      by false t among = (raised depletion, b, refl)

  decided-comes : (v : Evaluated) (b : Frame Name) → Decides v → Comes (with_value tested v b)
  decided-comes (gives (cell n (a_scalar (a_boolean true)) ps)) b h = (is_true, b, refl)
  decided-comes (gives (cell n (a_scalar (a_boolean false)) ps)) b h = (is_false, b, refl)
  decided-comes (gives v) b h = absurd h
  decided-comes (raises e) b h = (raised e, b, refl)
  decided-comes no_value b h = absurd h

  pub if-comes : (e : Expression) → IsTypedIn exceptions processes c (If e) → GoesOn c (If e)
  if-comes e is name statement has b sound needed = decided-comes (evaluate b.variables e) b ((typed-values c (typed-deep exceptions processes c (If e) is)).if_test e is.typed.0 is.typed.1 is.typed.2 has b.variables sound needed)

  pub while-comes : (e : Expression) → IsTypedIn exceptions processes c (While e) → GoesOn c (While e)
  while-comes e is name statement has b sound needed = decided-comes (evaluate b.variables e) b ((typed-values c (typed-deep exceptions processes c (While e) is)).while_test e is.typed.0 is.typed.1 is.typed.2 has b.variables sound needed)

  pub new-comes : (x : Path) → IsTypedIn exceptions processes c (New x) → IsFalse (is_action c (New x)) → GoesOn c (New x)
  new-comes x is local name statement has b sound needed =
      comes-by (act name c statement (New x) b) (new_value name (Some is.typed.1) x b) (ap (λ s. new_value name s x b) shape)
      (by is.typed.1 is.typed.4 (sym (ap is_inport shape) ∙ local))
    where
      shape : shape_at c.types c.variables x ≡ Some is.typed.1
      shape = shape-is c.types c.variables x is.typed.0 is.typed.1 is.typed.2.0.0 is.typed.3

      place : IsTrue (has_place b.variables x)
      place = place-of (New x) is has needed b sound x is.typed.0 is.typed.2 (λ f h. h)

      by : (s : Shape) → IsTrue (can_be_new s) → is_inport (Some s) ≡ false → Comes (new_value name (Some s) x b)
      by (fields ts) can local = set-comes x ok _ _ place
      by (rows row key) can local = set-comes x ok _ _ place
      by (inport message declared) can local = absurd (true≢false local)
      by s can local = not_true can

  -- what is only looked at is there, also behind components
  pub looked-there : (form : Form) → IsTypedIn exceptions processes c form → (has : Fact → Bool) (ps : Parts Name) → AreSound c has ps → (p : Path) (t : ℕ) → IsPathOf c.types c.variables p t → ((f : Fact) → IsIn f (facts_to c.types c.variables p) → IsTrue (has f))
      → (d : Cell Name) × (read_at p ps ≡ Some d) × HasType c.types t d
  looked-there form is has ps sound [] t h held = none-not_some h.0
  looked-there form is has ps sound (i ∷ q) t h held =
      let d = read-there c.types Name ps c.variables (typed-deep exceptions processes c form is) sound.types i q t h.0 h.1 (λ f m. told f (held f m)) in
      (d.0, d.1, read-typed Name c.types c.variables i q t ps d.0 sound.types h.0 d.1)
    where
      told : (f : Fact) → IsTrue (has f) → IsTrue (satisfies ps f)
      told (init p) h = (sound.facts.values p).1 h
      told (case p k) h = sound.facts.components p k h

  pub reveal-comes : (v : Path) (k : ℕ) → IsTypedIn exceptions processes c (Reveal v k) → GoesOn c (Reveal v k)
  reveal-comes v k is name statement has b sound needed =
      let d = looked-there (Reveal v k) is has b.variables sound v is.typed.0 is.typed.2 (asked (Reveal v k) is has needed) in
      there-comes _ (read_at v b.variables) d.0 d.1 (_, b, refl)

  -- a value of a type of components has one of them
  has-component : (t : ℕ) (ts : List ℕ) (d : Cell Name) → HasShape c.types t (cases ts) → HasType c.types t d → (k : ℕ) × (component_of d ≡ Some k)
  has-component t ts (cell n kind ps) shape h = by kind (subst (λ o. Fits c.types (map_or unfit (λ s. layout partly s kind) o) ps) shape h.0)
    where
      by : (kind : Kind) → Fits c.types (layout partly (cases ts) kind) ps → (k : ℕ) × (component_of (cell n kind ps) ≡ Some k)
      by (a_variant k) h = (k, refl)
      by kind h = absurd h

  pub choose-comes : (v : Path) (ks : List ℕ) → IsTypedIn exceptions processes c (Case v ks) → GoesOn c (Case v ks)
  choose-comes v ks is name statement has b sound needed =
      let d = looked-there (Case v ks) is has b.variables sound v is.typed.0 is.typed.2 (asked (Case v ks) is has needed) in
      let k = has-component is.typed.0 is.typed.1 d.0 is.typed.3 d.2 in
      there-comes _ (read_at v b.variables) d.0 d.1 (there-comes _ (component_of d.0) k.0 k.1 (component k.0, b, refl))

  -- a value of an inport type is an inport
  pub has-inport : (t message : ℕ) (declared : List Fact) (d : Cell Name) → HasShape c.types t (inport message declared) → HasType c.types t d → (k : ℕ) × (inport_number d ≡ Some k)
  has-inport t message declared (cell n kind ps) shape h = by kind (subst (λ o. Fits c.types (map_or unfit (λ s. layout partly s kind) o) ps) shape h.0)
    where
      by : (kind : Kind) → Fits c.types (layout partly (inport message declared) kind) ps → (k : ℕ) × (inport_number (cell n kind ps) ≡ Some k)
      by (an_inport k) h = (k, refl)
      by kind h = absurd h

  pub connect-comes : (o i : Path) → IsTypedIn exceptions processes c (Connect o i) → GoesOn c (Connect o i)
  connect-comes o i is name statement has b sound needed =
      let rooms = room_for c.types c.variables o in
      let from = is.table.outports is.typed.0 (outport is.typed.1) is.typed.3 in
      let d = looked-there (Connect o i) is has b.variables sound i is.typed.1 is.typed.4 (λ f h. asked (Connect o i) is has needed f (in-append_right f rooms (present c.types c.variables i) h)) in
      let k = has-inport is.typed.1 from.0 from.1 d.0 from.2 d.2 in
      there-comes _ (read_at i b.variables) d.0 d.1 (there-comes _ (inport_number d.0) k.0 k.1
      (set-comes o ok _ _ (place-of (Connect o i) is has needed b sound o is.typed.0 is.typed.2 (λ f h. in-append_left f rooms (present c.types c.variables i) h))))

  pub unwrap-comes : (p : Path) (t : ℕ) (y : Path) → IsTypedIn exceptions processes c (Unwrap p t y) → GoesOn c (Unwrap p t y)
  unwrap-comes [] t y is name statement has b sound needed = none-not_some is.typed.1.0.0
  unwrap-comes (i ∷ q) t y is name statement has b sound needed =
      let form = Unwrap (i ∷ q) t y in
      let rooms = room_for c.types c.variables y in
      let d = value-there c has b.variables sound i q (asked form is has needed (init (i ∷ q)) (in-append_right (init (i ∷ q)) rooms (present c.types c.variables (i ∷ q)) (to-direct c.types c.variables i q is.typed.1.1))) in
      there-comes _ (cell_at (i ∷ q) b.variables) d.0 d.1
      (by (content_of t d.0) (place-left form is has needed b sound (i ∷ q) y t is.typed.3 is.typed.4 (λ f h. in-append_left f rooms (present c.types c.variables (i ∷ q)) h) (cleared (i ∷ q) b) (clearing-sound c has i q b.variables sound)))
    where
      by : (x : Option (Opened Name)) → IsTrue (has_place (cleared (i ∷ q) b).variables y) → Comes (elim x [ None ↦ goes (raised polymorph_mismatch) b | Some o ↦ moving_content y o (cleared (i ∷ q) b) ])
      by None place = (raised polymorph_mismatch, b, refl)
      by (Some o) place = set-comes y ok o.content (finalise_name o.name (cleared (i ∷ q) b)) place

  -- the component of a variant that is known to have it
  component-there : (t k : ℕ) (d : Cell Name) → HasType c.types t d → IsTrue (is_component (Some d) k) → (o : Opened Name) × (component_in k d ≡ Some o)
  component-there t k (cell n (a_variant m) ps) h is =
      let x = variant-component Name c.types partly t m n ps h in
      (record { name = n; content = x.content }, ap (λ ps. component_in k (cell n (a_variant m) ps)) x.alone ∙ ap (λ b. cond b (Some (record { name = n; content = x.content })) None) (ap (nat_eq k) (eqb-true m k is) ∙ same-true k))
  component-there t k d h is = absurd (false≢true is)

  pub dissolve-comes : (v : Path) (k : ℕ) (y : Path) → IsTypedIn exceptions processes c (Dissolve v k y) → GoesOn c (Dissolve v k y)
  dissolve-comes [] k y is name statement has b sound needed = none-not_some is.typed.2.0.0
  dissolve-comes (i ∷ q) k y is name statement has b sound needed =
      let form = Dissolve (i ∷ q) k y in
      let v = i ∷ q in
      let rooms = room_for c.types c.variables y in
      let fact = in-append_right (case v k) rooms (case v k ∷ []) (inl refl) in
      let before : IsTrue (has (init v)) =
      needed (init v)
      (IsIn-once (init v) (flat_map (with_prefixes c.types c.variables) (rooms ++ case v k ∷ []))
      (in-flat_map (with_prefixes c.types c.variables) (case v k) (init v) (rooms ++ case v k ∷ []) fact
      (in-append_left (init v) (facts_to c.types c.variables v) (case v k ∷ []) (to-direct c.types c.variables i q is.typed.2.1)))) in
      let d = value-there c has b.variables sound i q before in
      let r = typed-read Name c.types c.variables i q b.variables d.0 sound.types d.1 in
      let told : IsTrue (is_component (Some d.0) k) =
      subst (λ o. IsTrue (is_component o k)) (there-read Name q i b.variables d.0 d.1) (sound.facts.components v k (asked form is has needed (case v k) fact)) in
      let o = component-there r.type k d.0 r.typed told in
      there-comes _ (cell_at v b.variables) d.0 d.1 (there-comes _ (component_in k d.0) o.0 o.1
      (set-comes y ok (o.0).content (finalise_name (o.0).name (cleared v b))
      (place-left form is has needed b sound v y is.typed.1 is.typed.4 is.typed.5 (λ f h. in-append_left f rooms (case v k ∷ []) h) (cleared v b) (clearing-sound c has i q b.variables sound))))

  -- a row that is found by its key is there
  finding-comes : (key : List ℕ) (k : List Scalar) (t : Path) (next : ℕ → Cell Name → Completion Name) (b : Frame Name) (d : Cell Name) → read_at t b.variables ≡ Some d
      → ((i : ℕ) (row : Cell Name) → Comes (next i row)) → Comes (finding key k t next b)
  finding-comes key k t next b d at on = there-comes _ (read_at t b.variables) d at (by (place_of_key key k (parts_of d)) refl)
    where
      by : (x : Option ℕ) → place_of_key key k (parts_of d) ≡ x → Comes (elim x [ None ↦ goes (raised not_found) b | Some i ↦ if_there (next i) (part_at i (parts_of d)) ])
      by None e = (raised not_found, b, refl)
      by (Some i) e = let row = part-found key k (parts_of d) i e in there-comes (next i) (part_at i (parts_of d)) row.0 row.1 (on i row.0)

  pub get-comes : (r t : Path) (keys : List Atom) → IsTypedIn exceptions processes c (Get r t keys) → GoesOn c (Get r t keys)
  get-comes r t keys is name statement has b sound needed =
      let form = Get r t keys in
      let h = is.typed.1 in
      let rooms = room_for c.types c.variables r in
      let there = present c.types c.variables t in
      let reads = full_of_each c.types c.variables (paths_among keys) in
      let k = (typed-atoms exceptions processes c).got r t keys is has b.variables sound needed in
      let d = looked-there form is has b.variables sound t h.2.0 h.2.1 (λ f m. asked form is has needed f (in-append_left f (rooms ++ there) reads (in-append_right f rooms there m))) in
      there-comes _ (key_values b.variables keys) k.0 k.1
      (finding-comes (key_at c t) k.0 t _ b d.0 d.1 (λ i row. set-comes r ok _ _ (place-of form is has needed b sound r is.typed.0 h.3 (λ f m. in-append_left f (rooms ++ there) reads (in-append_left f rooms there m)))))

  pub remove-comes : (r t : Path) (keys : List Atom) → IsTypedIn exceptions processes c (Remove r t keys) → GoesOn c (Remove r t keys)
  remove-comes [] t keys is name statement has b sound needed = none-not_some is.typed.1.3.0.0
  remove-comes (j ∷ r) [] keys is name statement has b sound needed = none-not_some is.typed.1.2.1.0
  remove-comes (j ∷ r) (i ∷ q) keys is name statement has b sound needed =
      let form = Remove (j ∷ r) (i ∷ q) keys in
      let h = is.typed.1 in
      let rooms = room_for c.types c.variables (j ∷ r) in
      let there = present c.types c.variables (i ∷ q) in
      let reads = full_of_each c.types c.variables (paths_among keys) in
      let k = (typed-atoms exceptions processes c).removed (j ∷ r) (i ∷ q) keys is has b.variables sound needed in
      let d = looked-there form is has b.variables sound (i ∷ q) h.2.0 h.2.1 (λ f m. asked form is has needed f (in-append_left f (rooms ++ there) reads (in-append_right f rooms there m))) in
      there-comes _ (key_values b.variables keys) k.0 k.1
      (finding-comes (key_at c (i ∷ q)) k.0 (i ∷ q) _ b d.0 d.1
      (λ n row. set-comes (j ∷ r) ok row (change_rows (i ∷ q) (without_part n) b)
      (place-there c has (change_rows (i ∷ q) (without_part n) b).variables
      (less-sound c i q j r is.typed.0 h.2.0 h.0 h.2.1.0 h.2.2 h.3.0.0 (path-deep exceptions processes c form is j r is.typed.0 h.3.0.0) keys has b sound d.0 d.1 n)
      (j ∷ r) is.typed.0 h.3.0.0 h.3.1 (parent-of form is has needed (j ∷ r) is.typed.0 h.3 (λ f m. in-append_left f (rooms ++ there) reads (in-append_left f rooms there m))))))

  -- rows without gaps have a next one, or there is none
  next-comes : (row s : ℕ) (r : Path) (ps : Parts Name) (b : Frame Name) → Fits c.types (many row) ps → IsTrue (has_place b.variables r) → Comes (next_row s r ps b)
  next-comes row s r no_parts b h place = (done, b, refl)
  next-comes row s r (gap ps) b h place = absurd h
  next-comes row s r (part d ps) b h place = set-comes r turn d (record b { loops = set_rows s ps b.loops }) place

  copied-comes : (row s : ℕ) (r : Path) (name : ℕ → Name) (n : ℕ) (ps : Parts Name) (b : Frame Name) → Fits c.types (many row) ps → IsTrue (has_place b.variables r) → Comes (next_row s r (copy_in name n ps) b)
  copied-comes row s r name n no_parts b h place = (done, b, refl)
  copied-comes row s r name n (gap ps) b h place = absurd h
  copied-comes row s r name n (part d ps) b h place = set-comes r turn _ _ place

  pub visit-comes : (r t : Path) → IsTypedIn exceptions processes c (For r t) → (row : ℕ) → type_at c.types c.variables r ≡ Some row → VisitGoesOn c row r t
  visit-comes r t is row type name statement has b sound needed rows_full =
      let h = is.typed in
      let same : h.0 ≡ row = some-injective (sym h.3.0.0 ∙ type) in
      let rooms = room_for c.types c.variables r in
      let there = present c.types c.variables t in
      let place = place-of (For r t) is has needed b sound r h.0 h.3 (λ f m. in-append_left f rooms there m) in
      let d = looked-there (For r t) is has b.variables sound t h.2.0 h.2.1 (λ f m. asked (For r t) is has needed f (in-append_right f rooms there m)) in
      let table = is-table Name c.types h.2.0 h.0 h.1 d.0 h.2.2 d.2 in
      by (rows_for statement b.loops) refl d.0 d.1 table.name table.rows' table.is (subst (λ row. Fits c.types (many row) table.rows') same table.fits) place
    where
      by : (x : Option (Parts Name)) → rows_for statement b.loops ≡ x → (d : Cell Name) → read_at t b.variables ≡ Some d → (n : Name) (rs : Parts Name) → d ≡ cell n a_table rs → Fits c.types (many row) rs → IsTrue (has_place b.variables r)
          → Comes (elim x [
            | None ↦ if_there (λ table. copying_parts name (parts_of table) (λ left b. next_row statement r left (record b { loops = record { statement = statement; rows = left } ∷ b.loops })) b) (read_at t b.variables)
            | Some left ↦ next_row statement r left b
          ])
      by None e d at n rs is_table fits place =
          there-comes _ (read_at t b.variables) (cell n a_table rs) (at ∙ ap Some is_table) (copied-comes row statement r (λ s. name (b.number, s)) b.serial rs _ fits place)
      by (Some rs') e d at n rs is_table fits place = next-comes row statement r rs' b (rows_full rs' e) place

  pub raise-comes : (e : ℕ) → GoesOn c (Raise e)
  raise-comes e name statement has b sound needed = (raised e, b, refl)

  pub leave-comes : GoesOn c Leave
  leave-comes name statement has b sound needed = (ok, b, refl)
