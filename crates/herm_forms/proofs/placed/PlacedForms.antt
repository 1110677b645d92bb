-- Local steps of typed forms keep a property of cells with the types of their places.
use Rattle.std.proofs.Common.{◌≡◌, ℕ, suc, ◌+◌, List, [], ◌∷◌, Bool, true, false, cond, Option, Some, None, refl, sym, ap, subst, ◌∙◌, nat_eq}
use Rattle.std.proofs.lemmas.Bool.{eqb-true}
use Rattle.std.specs.Prelude.{slice_get, length, nat_lt, filter, option_and_then, IsTrue, ⊤}
use Rattle.herm_model.specs.Lists.{list_of}
use Rattle.herm_model.specs.Paths.{Path}
use Rattle.herm_model.specs.Types.{TypeTable, Shape, boolean, integer, text, names, fields, cases, rows, polymorph, outport, type_at}
use Rattle.herm_model.specs.Outcomes.{Outcome, ok, turn, raised, depletion, duplicate_key, polymorph_mismatch, not_found}
use Rattle.herm_model.specs.Expressions.{Literal, Operator, logical_or, logical_and, equal, unequal, less, at_most, greater, at_least, plus, minus, times, divided, modulo, concatenated, Expression, literal, copy, negation, logical_not, operation, decimal, length_of}
use Rattle.herm_model.specs.Calls.{shape_at}
use Rattle.herm_model.specs.Statements.{Process, Form, Assign, Move, New, Discard, Unite, Dissolve, Reveal, Case, Wrap, Unwrap, Insert, Remove, Get, For, Connect, If, While, Raise, Leave}
use Rattle.herm_model.specs.TypedExpressions.{IsLiteralOf, IsTyped, is_scalar_shape, shape_given}
use Rattle.herm_model.specs.TypedStatements.{IsTypedForm}
use Rattle.herm_model.specs.Targets.{Target}
use Rattle.herm_model.specs.Finalising.{excess}
use Rattle.herm_model.specs.Values.{has_place, Scalar, a_boolean, Kind, a_scalar, a_record, a_variant, a_table, a_polymorph, an_outport, an_inport, Cell, cell, Parts, no_parts, gap, gaps, part, part_at, parts_of, size, has_value, cell_at, read_at, put_at, polymorph_depth, Value}
use Rattle.herm_model.specs.CellNames.{copy_from, copy_in, count, count_in, forget}
use Rattle.herm_model.specs.Tables.{has_key, key_of, place_of_key, without_part}
use Rattle.herm_model.specs.Typed.{greatest_rows, greatest_polymorph}
use Rattle.herm_model.proofs.Lists.{not_true}
use Rattle.herm_model.proofs.Options.{none-not_some, some-injective}
use Rattle.herm_journal.specs.PartTypes.{each, all_of, part_types_at, is_kind_at, has_no_number, IsPlaced, ArePlaced}
use Rattle.herm_forms.specs.Evaluate.{Evaluated, gives, raises, no_value, evaluate, key_values, scalar_value}
use Rattle.herm_forms.specs.Frames.{Name, Loop, Frame, Completion, goes, stays, stuck, if_there, finalise, finalise_parts, finalise_old, finalise_all, finalise_name, finalise_at_once, cleared, drop_at, drop, taking, put, putting, making, copying, copying_parts}
use Rattle.herm_forms.specs.Forms
use Rattle.herm_forms.specs.LoopForms
use Rattle.herm_forms.specs.RemoveAndGet
use Rattle.herm_forms.specs.Forms.{with_value, moving, moving_content, Opened, component_in, content_of, component_of, inport_number, tested}
use Rattle.herm_forms.specs.InsertForm.{change_rows, with_parts, add_row}
use Rattle.herm_forms.specs.RemoveAndGet.{finding}
use Rattle.herm_forms.specs.LoopForms.{rows_for, set_rows, next_row}
use Rattle.herm_forms.specs.EdgeFinalising.{arrive, keeps}
use Rattle.herm_forms.specs.LeavingLoops.{keeps_loop, finalise_loops}
use Rattle.herm_forms.specs.Excess.{excess_over_full}
use Rattle.herm_forms.specs.Modules.{Module}
use Rattle.herm_forms.specs.Acts.{key_at, new_value, act}
use Rattle.herm_forms.proofs.known.KindsKept.{Gives, value-given, evaluate-from}
use Rattle.herm_forms.proofs.placed.PlacedParts.{Agrees, WhereSet, part-placed, row-placed, cell-placed, read-placed, set-placed, clear-placed, change-placed, joined-placed, without-placed, gaps-placed, copy-placed, copy-placed_in, renamed-placed}

-- The property is had by cells without numbers of ports and processes at places of their types, and by an outport to where an
-- inport with the property is.
pub record AllowsLocal (types : TypeTable) (P : ℕ → Kind → Type 0) : Type 0 where
  pub portless : (t : ℕ) (k : Kind) → IsTrue (is_kind_at (slice_get types t) k) → IsTrue (has_no_number k) → P t k
  pub connects : (t port n : ℕ) → slice_get types t ≡ Some (outport port) → P port (an_inport n) → P t (an_outport n)

module _ {N : Type 0} (name : Name → N) (c : Module) (P : ℕ → Kind → Type 0) (agrees : Agrees c.types P) (row : ℕ → Option ℕ) where
  abbrev Is : ℕ → Cell N → Type 0
  Is t d = IsPlaced c.types P t d

  abbrev pub RowsAre : Option ℕ → Parts N → Type 0
  RowsAre None ps = ⊤
  RowsAre (Some t) ps = ArePlaced c.types P (all_of t) ps

  abbrev pub LoopsAre : List (Loop N) → Type 0
  LoopsAre [] = ⊤
  LoopsAre (l ∷ loops) = RowsAre (row l.statement) l.rows × LoopsAre loops

  -- so of the variables and of the rows of loops
  abbrev pub BodyIs : Frame N → Type 0
  BodyIs b = ArePlaced c.types P (each c.variables) b.variables × LoopsAre b.loops

  abbrev pub AllAre : Completion N → Type 0
  AllAre (goes o b) = BodyIs b
  AllAre (stays b) = BodyIs b
  AllAre stuck = ⊤

  -- the type at a path
  abbrev Typed : Path → ℕ → Type 0
  Typed p t = type_at c.types c.variables p ≡ Some t

  pub cell-is : (p : Path) (t : ℕ) (ps : Parts N) (d : Cell N) → ArePlaced c.types P (each c.variables) ps → cell_at p ps ≡ Some d → Typed p t → Is t d
  cell-is [] t ps d h at type = none-not_some at
  cell-is (i ∷ q) t ps d h at type = cell-placed c.types P agrees c.variables i q ps d t h at type

  pub read-is : (p : Path) (t : ℕ) (ps : Parts N) (d : Cell N) → ArePlaced c.types P (each c.variables) ps → read_at p ps ≡ Some d → Typed p t → Is t d
  read-is [] t ps d h at type = none-not_some at
  read-is (i ∷ q) t ps d h at type = read-placed c.types P agrees c.variables i q ps d t h at type

  old-is : (o : Option (Cell N)) (b : Frame N) → BodyIs b → BodyIs (finalise_old o b)
  old-is None b e = e
  old-is (Some d) b e = e

  pub all-is : (cs : List (Cell N)) (b : Frame N) → BodyIs b → BodyIs (finalise_all cs b)
  all-is [] b e = e
  all-is (d ∷ cs) b e = all-is cs (finalise d b) e

  pub end-is : (d : Cell N) (b : Frame N) → BodyIs b → BodyIs (finalise_at_once d b)
  end-is (cell n k ps) b e = e

  pub cleared-is : (p : Path) (b : Frame N) → BodyIs b → BodyIs (cleared p b)
  cleared-is p b e = (clear-placed c.types P agrees c.variables p b.variables e.0, e.1)

  pub drop-is : (paths : List Path) (b : Frame N) → BodyIs b → BodyIs (drop paths b)
  drop-is [] b e = e
  drop-is (p ∷ paths) b e = drop-is paths (drop_at p b) (old-is (cell_at p b.variables) (cleared p b) (cleared-is p b e))

  pub put-is : (p : Path) (t : ℕ) (d : Cell N) (b : Frame N) → Typed p t → Is t d → BodyIs b → BodyIs (put p d b)
  put-is [] t d b type h e = none-not_some type
  put-is (i ∷ q) t d b type h e =
      old-is (cell_at (i ∷ q) b.variables) (record b { variables = put_at (i ∷ q) d b.variables })
      (set-placed c.types P agrees c.variables i q (Some d) b.variables e.0 (subst (λ o. WhereSet c.types P agrees o (Some d)) (sym type) h), e.1)

  pub all-cond : (t : Bool) (r s : Completion N) → AllAre r → AllAre s → AllAre (cond t r s)
  all-cond true r s h k = h
  all-cond false r s h k = k

  pub all-there : {X : Type 0} (next : X → Completion N) (o : Option X) → ((x : X) → o ≡ Some x → AllAre (next x)) → AllAre (if_there next o)
  all-there next None on = tt
  all-there next (Some x) on = on x refl

  pub all-putting : (p : Path) (t : ℕ) (o : Outcome) (d : Cell N) (b : Frame N) → Typed p t → Is t d → BodyIs b → AllAre (putting p o d b)
  all-putting p t o d b type h e = all-cond (has_place b.variables p) (goes o (put p d b)) stuck (put-is p t d b type h e) tt

  pub all-taking : (p : Path) (t : ℕ) (next : Cell N → Frame N → Completion N) (b : Frame N) → Typed p t → BodyIs b → ((d : Cell N) → Is t d → BodyIs (cleared p b) → AllAre (next d (cleared p b))) → AllAre (taking p next b)
  all-taking p t next b type e on = all-there (λ d. next d (cleared p b)) (cell_at p b.variables) (λ d at. on d (cell-is p t b.variables d e.0 at type) (cleared-is p b e))

  pub all-moving : (lost : List Path) (p : Path) (t : ℕ) (next : Cell N → Frame N → Completion N) (b : Frame N) → Typed p t → BodyIs b → ((d : Cell N) (b' : Frame N) → Is t d → BodyIs b' → AllAre (next d b')) → AllAre (moving lost p next b)
  all-moving lost p t next b type e on = all-taking p t next (drop lost b) type (drop-is lost b e) (λ d h e'. on d (cleared p (drop lost b)) h e')

  -- edges
  one-is : (t : Bool) (l : Loop N) (b : Frame N) → BodyIs b → BodyIs (cond t b (finalise_parts l.rows b))
  one-is true l b e = e
  one-is false l b e = e

  loops-is : (stay : ℕ → Bool) (loops : List (Loop N)) (b : Frame N) → BodyIs b → BodyIs (finalise_loops stay loops b)
  loops-is stay [] b e = e
  loops-is stay (l ∷ loops) b e = loops-is stay loops (cond (stay l.statement) b (finalise_parts l.rows b)) (one-is (stay l.statement) l b e)

  first-kept : (t : Bool) (l : Loop N) (loops : List (Loop N)) → RowsAre (row l.statement) l.rows → LoopsAre loops → LoopsAre (cond t (l ∷ loops) loops)
  first-kept true l loops h k = (h, k)
  first-kept false l loops h k = k

  filtered : (stay : ℕ → Bool) (loops : List (Loop N)) → LoopsAre loops → LoopsAre (filter (λ (l : Loop N). stay l.statement) loops)
  filtered stay [] h = tt
  filtered stay (l ∷ loops) h = first-kept (stay l.statement) l (filter (λ (l : Loop N). stay l.statement) loops) h.0 (filtered stay loops h.1)

  pub arrive-is : (t : Target) (b : Frame N) → BodyIs b → BodyIs (arrive c t b)
  arrive-is t b e =
      let lost = excess c.types c.variables (has_value b.variables) (keeps c t) in
      let left = drop lost b in
      let h = drop-is lost b e in
      loops-is (keeps_loop c t) left.loops (record left { loops = filter (λ (l : Loop N). keeps_loop c t l.statement) left.loops }) (h.0, filtered (keeps_loop c t) left.loops h.1)

  -- local steps
  module _ (allows : AllowsLocal c.types P) where
    all-value : (next : Value → Frame N → Completion N) (v : Evaluated) (b : Frame N) → BodyIs b → ((w : Value) → v ≡ gives w → AllAre (next w b)) → AllAre (with_value next v b)
    all-value next (gives v) b e on = on v refl
    all-value next (raises x) b e on = e
    all-value next no_value b e on = tt

    portless-at : (t : ℕ) (s : Shape) (k : Kind) → slice_get c.types t ≡ Some s → IsTrue (is_kind_at (Some s) k) → IsTrue (has_no_number k) → P t k
    portless-at t s k shape is plain = allows.portless t k (subst (λ o. IsTrue (is_kind_at o k)) (sym shape) is) plain

    -- parts at places of a shape
    of-shape : (t : ℕ) (s : Shape) (k : Kind) (ps : Parts N) → slice_get c.types t ≡ Some s → ArePlaced c.types P (part_types_at (Some s) k) ps → ArePlaced c.types P (part_types_at (slice_get c.types t) k) ps
    of-shape t s k ps shape h = subst (λ o. ArePlaced c.types P (part_types_at o k) ps) (sym shape) h

    shape-of : (t : ℕ) (s : Shape) (k : Kind) (ps : Parts N) → slice_get c.types t ≡ Some s → ArePlaced c.types P (part_types_at (slice_get c.types t) k) ps → ArePlaced c.types P (part_types_at (Some s) k) ps
    shape-of t s k ps shape h = subst (λ o. ArePlaced c.types P (part_types_at o k) ps) shape h

    one-of : (ts : List ℕ) (m u : ℕ) (d : Cell N) → slice_get ts m ≡ Some u → Is u d → ArePlaced c.types P (each (list_of (λ t. t ∷ []) (slice_get ts m))) (part d no_parts)
    one-of ts m u d at h = subst (λ o. ArePlaced c.types P (each (list_of (λ t. t ∷ []) o)) (part d no_parts)) (sym at) (h, tt)

    all-new : (x : Path) (t : ℕ) (o : Option Shape) (b : Frame N) → Typed x t → slice_get c.types t ≡ o → BodyIs b → AllAre (new_value name o x b)
    all-new x t (Some (fields ts)) b type shape e =
        all-putting x t ok (cell (name (b.number, b.serial)) a_record (gaps (length ts))) (record b { serial = suc b.serial }) type
        (portless-at t (fields ts) a_record shape refl refl, of-shape t (fields ts) a_record (gaps (length ts)) shape (gaps-placed c.types P agrees N ts (length ts))) e
    all-new x t (Some (rows r key)) b type shape e =
        all-putting x t ok (cell (name (b.number, b.serial)) a_table no_parts) (record b { serial = suc b.serial }) type
        (portless-at t (rows r key) a_table shape refl refl, of-shape t (rows r key) a_table no_parts shape tt) e
    all-new x t (Some s) b type shape e = tt
    all-new x t None b type shape e = tt

    -- the component of a variant, and the content of a polymorph
    component-is : (t u m : ℕ) (ts : List ℕ) (d : Cell N) (o : Opened N) → slice_get c.types t ≡ Some (cases ts) → slice_get ts m ≡ Some u → Is t d → component_in m d ≡ Some o → Is u o.content
    component-is t u m ts (cell n (a_variant k) (part content no_parts)) o shape at h is = by (nat_eq m k) refl is
      where
        by : (b : Bool) → nat_eq m k ≡ b → cond b (Some (record { name = n; content = content })) None ≡ Some o → Is u o.content
        by false e is = none-not_some is
        by true e is =
            let same : m ≡ k = eqb-true m k e in
            subst (λ (o : Opened N). Is u o.content) (some-injective is) (part-placed c.types P agrees (list_of (λ t. t ∷ []) (slice_get ts k)) 0 (part content no_parts) content u (shape-of t (cases ts) (a_variant k) (part content no_parts) shape h.1) refl
            (ap (λ o. slice_get (list_of (λ (t : ℕ). t ∷ []) o) 0) (ap (slice_get ts) (sym same) ∙ at)))
    component-is t u m ts d o shape at h is = none-not_some is

    content-is : (t u : ℕ) (d : Cell N) (o : Opened N) → slice_get c.types u ≡ Some polymorph → Is u d → content_of t d ≡ Some o → Is t o.content
    content-is t u (cell n (a_polymorph k) (part content no_parts)) o shape h is = by (nat_eq t k) refl is
      where
        by : (b : Bool) → nat_eq t k ≡ b → cond b (Some (record { name = n; content = content })) None ≡ Some o → Is t o.content
        by false e is = none-not_some is
        by true e is =
            let same : t ≡ k = eqb-true t k e in
            subst (λ (o : Opened N). Is t o.content) (some-injective is) (subst (λ t. Is t content) (sym same) (shape-of u polymorph (a_polymorph k) (part content no_parts) shape h.1).0)
    content-is t u d o shape h is = none-not_some is

    all-content : (y : Path) (t : ℕ) (o : Opened N) (b : Frame N) → Typed y t → Is t o.content → BodyIs b → AllAre (moving_content y o b)
    all-content y t o b type h e = all-putting y t ok o.content (finalise_name o.name b) type h e

    -- the rows of a table
    pub rows-are : (u r : ℕ) (key : List ℕ) (d : Cell N) → slice_get c.types u ≡ Some (rows r key) → Is u d → ArePlaced c.types P (all_of r) (parts_of d)
    rows-are u r key (cell n k ps) shape h = subst (λ o. ArePlaced c.types P (part_types_at o k) ps) shape h.1

    with-rows : (u r : ℕ) (key : List ℕ) (f : Parts N → Parts N) (d : Cell N) → slice_get c.types u ≡ Some (rows r key) → ((ps : Parts N) → ArePlaced c.types P (all_of r) ps → ArePlaced c.types P (all_of r) (f ps)) → Is u d → Is u (with_parts f d)
    with-rows u r key f (cell n k ps) shape on h = (h.0, subst (λ o. ArePlaced c.types P (part_types_at o k) (f ps)) (sym shape) (on ps (subst (λ o. ArePlaced c.types P (part_types_at o k) ps) shape h.1)))

    pub change-is : (t : Path) (u r : ℕ) (key : List ℕ) (f : Parts N → Parts N) (b : Frame N) → Typed t u → slice_get c.types u ≡ Some (rows r key) → ((ps : Parts N) → ArePlaced c.types P (all_of r) ps → ArePlaced c.types P (all_of r) (f ps)) → BodyIs b → BodyIs (change_rows t f b)
    change-is [] u r key f b type shape on e = none-not_some type
    change-is (i ∷ q) u r key f b type shape on e = (change-placed c.types P agrees (with_parts f) u (λ d h. with-rows u r key f d shape on h) c.variables i q b.variables e.0 type, e.1)

    pub all-finding : (key : List ℕ) (k : List Scalar) (t : Path) (u r : ℕ) (key' : List ℕ) (next : ℕ → Cell N → Completion N) (b : Frame N) → Typed t u → slice_get c.types u ≡ Some (rows r key') → BodyIs b → ((i : ℕ) (d : Cell N) → Is r d → AllAre (next i d)) → AllAre (finding key k t next b)
    all-finding key k t u r key' next b type shape e on =
        all-there (λ table. elim (place_of_key key k (parts_of table)) [ None ↦ goes (raised not_found) b | Some i ↦ if_there (next i) (part_at i (parts_of table)) ]) (read_at t b.variables) (λ table at. by table (read-is t u b.variables table e.0 at type) (place_of_key key k (parts_of table)))
      where
        by : (table : Cell N) → Is u table → (o : Option ℕ) → AllAre (elim o [ None ↦ goes (raised not_found) b | Some i ↦ if_there (next i) (part_at i (parts_of table)) ])
        by table h None = e
        by table h (Some i) = all-there (next i) (part_at i (parts_of table)) (λ d at. on i d (row-placed c.types P agrees r i (parts_of table) d (rows-are u r key' table shape h) at))

    -- loops
    set-rows : (s : ℕ) (t : ℕ) (ps : Parts N) (loops : List (Loop N)) → row s ≡ Some t → ArePlaced c.types P (all_of t) ps → LoopsAre loops → LoopsAre (set_rows s ps loops)
    set-rows s t ps [] is h k = tt
    set-rows s t ps (l ∷ loops) is h k = by (nat_eq l.statement s) (set-rows s t ps loops is h k.1)
      where
        by : (b : Bool) → LoopsAre (set_rows s ps loops) → LoopsAre (cond b (record { statement = s; rows = ps } ∷ loops) (l ∷ set_rows s ps loops))
        by true more = (subst (λ o. RowsAre o ps) (sym is) h, k.1)
        by false more = (k.0, more)

    pub found-rows : (s t : ℕ) (ps : Parts N) (loops : List (Loop N)) → row s ≡ Some t → LoopsAre loops → rows_for s loops ≡ Some ps → ArePlaced c.types P (all_of t) ps
    found-rows s t ps [] is k e = none-not_some e
    found-rows s t ps (l ∷ loops) is k e = by (nat_eq l.statement s) refl e (found-rows s t ps loops is k.1)
      where
        by : (b : Bool) → nat_eq l.statement s ≡ b → cond b (Some l.rows) (rows_for s loops) ≡ Some ps → (rows_for s loops ≡ Some ps → ArePlaced c.types P (all_of t) ps) → ArePlaced c.types P (all_of t) ps
        by true same e more = subst (RowsAre (Some t)) (some-injective e) (subst (λ o. RowsAre o l.rows) (ap row (eqb-true l.statement s same) ∙ is) k.0)
        by false same e more = more e

    pub all-next : (s : ℕ) (r : Path) (t : ℕ) (ps : Parts N) (b : Frame N) → row s ≡ Some t → Typed r t → ArePlaced c.types P (all_of t) ps → BodyIs b → AllAre (next_row s r ps b)
    all-next s r t no_parts b is type h e = e
    all-next s r t (gap ps) b is type h e = tt
    all-next s r t (part d ps) b is type h e = all-putting r t turn d (record b { loops = set_rows s ps b.loops }) type h.0 (e.0, set-rows s t ps b.loops is h.1 e.1)

    all-visit : (s : ℕ) (r table : Path) (t u : ℕ) (key : List ℕ) (b : Frame N) → row s ≡ Some t → Typed r t → Typed table u → slice_get c.types u ≡ Some (rows t key) → BodyIs b → AllAre (LoopForms.visit name s r table b)
    all-visit s r table t u key b is type at shape e = by (rows_for s b.loops) refl
      where
        by : (o : Option (Parts N)) → rows_for s b.loops ≡ o → AllAre (elim o [
          | None ↦ if_there (λ table. copying_parts name (parts_of table) (λ rows b. next_row s r rows (record b { loops = record { statement = s; rows = rows } ∷ b.loops })) b) (read_at table b.variables)
          | Some left ↦ next_row s r left b
        ])
        by (Some left) there = all-next s r t left b is type (found-rows s t left b.loops is e.1 there) e
        by None there =
            all-there (λ table. copying_parts name (parts_of table) (λ rows b. next_row s r rows (record b { loops = record { statement = s; rows = rows } ∷ b.loops })) b) (read_at table b.variables)
            (λ d read. let copied = copy-placed_in c.types P agrees (λ s. name (b.number, s)) b.serial (all_of t) (parts_of d) (rows-are u t key d shape (read-is table u b.variables d e.0 read at)) in
            all-next s r t (copy_in (λ s. name (b.number, s)) b.serial (parts_of d)) (record b { serial = b.serial + count_in (parts_of d); loops = record { statement = s; rows = copy_in (λ s. name (b.number, s)) b.serial (parts_of d) } ∷ b.loops }) is type copied (e.0, (subst (λ o. RowsAre o (copy_in (λ s. name (b.number, s)) b.serial (parts_of d))) (sym is) copied, e.1)))

    -- what a typed expression gives
    given-scalar : (o : Operator) → IsTrue (is_scalar_shape (shape_given o))
    given-scalar logical_or = refl
    given-scalar logical_and = refl
    given-scalar equal = refl
    given-scalar unequal = refl
    given-scalar less = refl
    given-scalar at_most = refl
    given-scalar greater = refl
    given-scalar at_least = refl
    given-scalar plus = refl
    given-scalar minus = refl
    given-scalar times = refl
    given-scalar divided = refl
    given-scalar modulo = refl
    given-scalar concatenated = refl

    pub scalar-is : (t : ℕ) (s : Shape) → slice_get c.types t ≡ Some s → IsTrue (is_scalar_shape s) → (x : Scalar) → IsPlaced c.types P t (scalar_value x)
    scalar-is t boolean shape h x = (portless-at t boolean (a_scalar x) shape refl refl, subst (λ o. ArePlaced c.types P {N = ⊤} (part_types_at o (a_scalar x)) no_parts) (sym shape) tt)
    scalar-is t integer shape h x = (portless-at t integer (a_scalar x) shape refl refl, subst (λ o. ArePlaced c.types P {N = ⊤} (part_types_at o (a_scalar x)) no_parts) (sym shape) tt)
    scalar-is t text shape h x = (portless-at t text (a_scalar x) shape refl refl, subst (λ o. ArePlaced c.types P {N = ⊤} (part_types_at o (a_scalar x)) no_parts) (sym shape) tt)
    scalar-is t (names count) shape h x = (portless-at t (names count) (a_scalar x) shape refl refl, subst (λ o. ArePlaced c.types P {N = ⊤} (part_types_at o (a_scalar x)) no_parts) (sym shape) tt)
    scalar-is t s shape h x = not_true h

    pub literal-is : (l : Literal) (t : ℕ) → IsLiteralOf c.types l t → (x : Scalar) → IsPlaced c.types P t (scalar_value x)
    literal-is (Literal.boolean b) t h x = scalar-is t boolean h refl x
    literal-is (Literal.integer z) t h x = scalar-is t integer h.0 refl x
    literal-is (Literal.text bytes) t h x = scalar-is t text h.0 refl x
    literal-is (Literal.tag type place) t h x = scalar-is t (names h.1) h.2 refl x

    pub read-copied : (p : Path) (t : ℕ) (ps : Parts N) → ArePlaced c.types P (each c.variables) ps → Typed p t → (d : Cell N) → read_at p ps ≡ Some d → IsPlaced c.types P t (forget d)
    read-copied p t ps h type d at = renamed-placed c.types P agrees (λ n. tt) t d (read-is p t ps d h at type)

    value-is : (ps : Parts N) (e : Expression) (t : ℕ) → ArePlaced c.types P (each c.variables) ps → IsTyped c.types c.variables e t → Gives (IsPlaced c.types P t) (evaluate ps e)
    value-is ps (copy p) t h typed = value-given (IsPlaced c.types P t) (read_at p ps) (read-copied p t ps h typed.0.0)
    value-is ps (literal l) t h typed = evaluate-from (IsPlaced c.types P t) (literal-is l t typed) ps (literal l) (λ p is. cc is)
    value-is ps (negation e) t h typed = evaluate-from (IsPlaced c.types P t) (scalar-is t integer typed.0 refl) ps (negation e) (λ p is. cc is)
    value-is ps (logical_not e) t h typed = evaluate-from (IsPlaced c.types P t) (scalar-is t boolean typed.0 refl) ps (logical_not e) (λ p is. cc is)
    value-is ps (operation o left right) t h typed = evaluate-from (IsPlaced c.types P t) (scalar-is t (shape_given o) typed.0 (given-scalar o)) ps (operation o left right) (λ p is. cc is)
    value-is ps (Expression.size_of p) t h typed = evaluate-from (IsPlaced c.types P t) (scalar-is t integer typed.0 refl) ps (Expression.size_of p) (λ p is. cc is)
    value-is ps (decimal e) t h typed = evaluate-from (IsPlaced c.types P t) (scalar-is t text typed.0 refl) ps (decimal e) (λ p is. cc is)
    value-is ps (length_of e) t h typed = evaluate-from (IsPlaced c.types P t) (scalar-is t integer typed.0 refl) ps (length_of e) (λ p is. cc is)

    value-of : (v : Evaluated) (w : Value) (t : ℕ) → Gives (IsPlaced c.types P t) v → v ≡ gives w → IsPlaced c.types P t w
    value-of v w t h is = subst (Gives (IsPlaced c.types P t)) is h

    pub all-copying : (d : Value) (x : Path) (t : ℕ) (b : Frame N) → Typed x t → IsPlaced c.types P t d → BodyIs b → AllAre (copying name d (putting x ok) b)
    all-copying d x t b type h e = all-putting x t ok (copy_from (λ s. name (b.number, s)) b.serial d) (record b { serial = b.serial + count d }) type (copy-placed c.types P agrees (λ s. name (b.number, s)) b.serial t d h) e

    pub outport-is : (t port k : ℕ) (n : N) → slice_get c.types t ≡ Some (outport port) → P t (an_outport k) → Is t (cell n (an_outport k) no_parts)
    outport-is t port k n shape h = (h, of-shape t (outport port) (an_outport k) no_parts shape tt)

    inport-has : (t k : ℕ) (d : Cell N) → Is t d → inport_number d ≡ Some k → P t (an_inport k)
    inport-has t k (cell n (an_inport m) ps) h is = subst (λ m. P t (an_inport m)) (some-injective is) h.0
    inport-has t k (cell n kind ps) h is = none-not_some is

    pub all-tested : (v : Value) (b : Frame N) → BodyIs b → AllAre (tested v b)
    all-tested (cell m (a_scalar (a_boolean true)) ps) b e = e
    all-tested (cell m (a_scalar (a_boolean false)) ps) b e = e
    all-tested v b e = tt

    pub act-is : (exceptions : ℕ) (processes : List Process) (s : ℕ) (form : Form) (b : Frame N) → IsTypedForm c.types c.variables exceptions processes form
        → ((r table : Path) → form ≡ For r table → row s ≡ type_at c.types c.variables r) → BodyIs b → AllAre (act name c s form b)
    act-is exceptions processes s (Assign x v) b h loops e =
        all-value (Forms.assign name x) (evaluate b.variables v) b e (λ w is. all-copying w x h.0 b h.1.0.0 (value-of (evaluate b.variables v) w h.0 (value-is b.variables v h.0 e.0 h.2) is) e)
    act-is exceptions processes s (Move y x) b h loops e = all-moving (excess_over_full c y b) y h.0 (putting x ok) b h.1.0.0 e (λ d b' placed e'. all-putting x h.0 ok d b' h.2.0.0 placed e')
    act-is exceptions processes s (New x) b h loops e = all-new x h.0 (shape_at c.types c.variables x) b h.2.0.0 (sym (ap (option_and_then (slice_get c.types)) h.2.0.0)) e
    act-is exceptions processes s (Discard x) b h loops e = all-taking x h.0 (λ d b. goes ok (finalise d b)) b h.1.0.0 e (λ d placed e'. e')
    act-is exceptions processes s (Unite v k y) b h loops e =
        let shape = h.3.1 in
        all-moving (excess_over_full c y b) y h.1 (λ d b. making name (a_variant k) (part d no_parts) (putting v ok) b) b h.4.0.0 e
        (λ d b' placed e'. all-putting v h.0 ok (cell (name (b'.number, b'.serial)) (a_variant k) (part d no_parts)) (record b' { serial = suc b'.serial }) h.2.0.0
        (portless-at h.0 (cases h.3.0) (a_variant k) shape refl refl, of-shape h.0 (cases h.3.0) (a_variant k) (part d no_parts) shape (one-of h.3.0 k h.1 d h.3.2 placed)) e')
    act-is exceptions processes s (Dissolve v k y) b h loops e =
        all-taking v h.0 (λ cell b. if_there (λ o. moving_content y o b) (component_in k cell)) b h.2.0.0 e
        (λ d placed e'. all-there (λ o. moving_content y o (cleared v b)) (component_in k d) (λ o is. all-content y h.1 o (cleared v b) h.4.0.0 (component-is h.0 h.1 k h.3.0 d o h.3.1 h.3.2 placed is) e'))
    act-is exceptions processes s (Reveal v k) b h loops e = all-there _ (read_at v b.variables) (λ d is. e)
    act-is exceptions processes s (Case v ks) b h loops e = all-there _ (read_at v b.variables) (λ d is. all-there _ (component_of d) (λ k is. e))
    act-is exceptions processes s (Wrap y p) b h loops e =
        all-there (λ t. Forms.wrap name t (excess_over_full c y b) y p b) (type_at c.types c.variables y) (λ t is.
        let same : h.0 ≡ t = some-injective (sym h.2.0.0 ∙ is) in
        all-there _ (cell_at y (drop (excess_over_full c y b) b).variables) (λ d at. all-cond (nat_lt (polymorph_depth d) greatest_polymorph) _ _
        (all-moving (excess_over_full c y b) y h.0 (λ content b. making name (a_polymorph t) (part content no_parts) (putting p ok) b) b h.2.0.0 e
        (λ content b' placed e'. all-putting p h.1 ok (cell (name (b'.number, b'.serial)) (a_polymorph t) (part content no_parts)) (record b' { serial = suc b'.serial }) h.3.0.0
        (portless-at h.1 polymorph (a_polymorph t) h.4 refl refl, of-shape h.1 polymorph (a_polymorph t) (part content no_parts) h.4 (subst (λ t. Is t content) same placed, tt)) e')) e))
    act-is exceptions processes s (Unwrap p t y) b h loops e =
        all-there (λ d. elim (content_of t d) [ None ↦ goes (raised polymorph_mismatch) b | Some o ↦ moving_content y o (cleared p b) ]) (cell_at p b.variables)
        (λ d at. unwrapped d (cell-is p h.0 b.variables d e.0 at h.1.0.0) (content_of t d) refl)
      where
        unwrapped : (d : Cell N) → Is h.0 d → (o : Option (Opened N)) → content_of t d ≡ o → AllAre (elim o [ None ↦ goes (raised polymorph_mismatch) b | Some o ↦ moving_content y o (cleared p b) ])
        unwrapped d placed None is = e
        unwrapped d placed (Some o) is = all-content y t o (cleared p b) h.3.0.0 (content-is t h.0 d o h.2 placed is) (cleared-is p b e)
    act-is exceptions processes s (Insert r t) b h loops e =
        let table = h.2 in
        let moved = moving (excess_over_full c r b) r (λ d b. if_there (λ (table : Cell N). goes ok (change_rows t (add_row d) b)) (read_at t b.variables)) b in
        let full = goes (raised depletion) b in
        all-there _ (cell_at r b.variables) (λ d at. all-there _ (read_at t b.variables) (λ found is. all-cond (has_key (key_at c t) (key_of (key_at c t) d) (parts_of found)) (goes (raised duplicate_key) b) (cond (nat_lt (size (parts_of found)) greatest_rows) moved full) e
        (all-cond (nat_lt (size (parts_of found)) greatest_rows) moved full
        (all-moving (excess_over_full c r b) r h.0 (λ d b. if_there (λ (table : Cell N). goes ok (change_rows t (add_row d) b)) (read_at t b.variables)) b h.3.0.0 e
        (λ d' b' placed e'. all-there (λ (table : Cell N). goes ok (change_rows t (add_row d') b')) (read_at t b'.variables)
        (λ found' is'. change-is t table.0 h.0 h.1 (add_row d') b' table.1.0 table.2 (λ ps are. joined-placed c.types P agrees h.0 ps (part d' no_parts) are (placed, tt)) e'))) e)))
    act-is exceptions processes s (Remove r t keys) b h loops e =
        let table = h.1.2 in
        all-there (λ k. RemoveAndGet.remove (key_at c t) k r t b) (key_values b.variables keys) (λ k is. all-finding (key_at c t) k t table.0 h.0 h.1.0 (λ i d. putting r ok d (change_rows t (without_part i) b)) b table.1.0 table.2 e
        (λ i d placed. all-putting r h.0 ok d (change_rows t (without_part i) b) h.1.3.0.0 placed (change-is t table.0 h.0 h.1.0 (without_part i) b table.1.0 table.2 (λ ps are. without-placed c.types P agrees h.0 i ps are) e)))
    act-is exceptions processes s (Get r t keys) b h loops e =
        let table = h.1.2 in
        all-there (λ k. RemoveAndGet.get name (key_at c t) k r t b) (key_values b.variables keys) (λ k is. all-finding (key_at c t) k t table.0 h.0 h.1.0 (λ i d. copying name d (putting r ok) b) b table.1.0 table.2 e
        (λ i d placed. all-putting r h.0 ok (copy_from (λ s. name (b.number, s)) b.serial d) (record b { serial = b.serial + count d }) h.1.3.0.0 (copy-placed c.types P agrees (λ s. name (b.number, s)) b.serial h.0 d placed) e))
    act-is exceptions processes s (For r t) b h loops e =
        let table = h.2 in all-visit s r t h.0 table.0 h.1 b (loops r t refl ∙ h.3.0.0) h.3.0.0 table.1.0 table.2 e
    act-is exceptions processes s (Connect o i) b h loops e =
        all-there _ (read_at i b.variables) (λ d at. all-there _ (inport_number d) (λ k is. all-putting o h.0 ok (cell (name (b.number, b.serial)) (an_outport k) no_parts) (record b { serial = suc b.serial }) h.2.0.0
        (outport-is h.0 h.1 k (name (b.number, b.serial)) h.3 (allows.connects h.0 h.1 k h.3 (inport-has h.1 k d (read-is i h.1 b.variables d e.0 at h.4.0) is))) e))
    act-is exceptions processes s (If v) b h loops e = all-value tested (evaluate b.variables v) b e (λ w is. all-tested w b e)
    act-is exceptions processes s (While v) b h loops e = all-value tested (evaluate b.variables v) b e (λ w is. all-tested w b e)
    act-is exceptions processes s (Raise x) b h loops e = e
    act-is exceptions processes s Leave b h loops e = e
    act-is exceptions processes s form b h loops e = tt
