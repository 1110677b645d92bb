-- What the primitives keep of a body, edges, what a statement does and what an answer leaves keep too.
use Rattle.std.proofs.Common.{◌≡◌, ℕ, suc, ◌+◌, List, [], ◌∷◌, Bool, true, false, cond, Option, Some, None, option_and_then, refl, sym, ap, subst}
use Rattle.std.specs.Prelude.{⊤, nat_eq, nat_lt, filter, flat_map, map}
use Rattle.herm_model.specs.Paths.{Path}
use Rattle.herm_model.specs.Types.{Mode, Shape, fields, rows, type_at}
use Rattle.herm_model.specs.Outcomes.{Outcome, ok, arm, turn, raised, depletion, disconnected, duplicate_key, polymorph_mismatch}
use Rattle.herm_model.specs.Statements.{Form, Assign, Move, New, Discard, Unite, Dissolve, Reveal, Case, Wrap, Unwrap, Insert, Remove, Get, For, Connect, Send, Receive, Select, Call, Return, ReturnBy, Create, If, While, Raise, Leave}
use Rattle.herm_model.specs.Expressions.{Atom}
use Rattle.herm_model.specs.Calls.{shape_at, call_parameters}
use Rattle.herm_model.specs.FactsOfStatements.{set_by_call}
use Rattle.herm_model.specs.Targets.{Target}
use Rattle.herm_model.specs.Finalising.{excess}
use Rattle.herm_model.specs.Values.{has_place, Scalar, a_boolean, Kind, a_scalar, a_variant, a_polymorph, an_outport, an_inport, Cell, cell, Parts, no_parts, gap, part, part_at, parts_of, size, has_value, cell_at, read_at, put_at, clear_at, polymorph_depth, Value}
use Rattle.herm_model.specs.CellNames.{copy_from, copy_in, count, count_in}
use Rattle.herm_model.specs.Tables.{has_key, key_of, place_of_key, without_part}
use Rattle.herm_model.specs.Typed.{greatest_rows, greatest_polymorph}
use Rattle.herm_model.proofs.Options.{none-not_some, some-injective, chain-some, map-some}
use Rattle.herm_forms.specs.Evaluate.{Evaluated, gives, raises, no_value, evaluate, key_values}
use Rattle.herm_journal.specs.Actions.{values, gone, make_port, make_process, put, take, close, answer, hear}
use Rattle.herm_journal.specs.Actions
use Rattle.herm_forms.specs.Frames.{Name, Loop, Frame, Completion, goes, stays, stuck, if_there, finalise, finalise_parts, finalise_old, finalise_all, finalise_name, finalise_at_once, cleared, drop_at, drop, reading, taking, putting, putting_all, Taken, with_taken, take_all, making, copying, copying_parts, counted_step, counted_action}
use Rattle.herm_forms.specs.Frames
use Rattle.herm_forms.specs.Forms
use Rattle.herm_forms.specs.InsertForm
use Rattle.herm_forms.specs.Forms.{with_value, moving, moving_content, Opened, component_in, content_of, component_of, inport_number, tested}
use Rattle.herm_forms.specs.InsertForm.{change_rows, add_row}
use Rattle.herm_forms.specs.RemoveAndGet.{finding}
use Rattle.herm_forms.specs.LoopForms.{rows_for, set_rows, next_row}
use Rattle.herm_forms.specs.Exchanges
use Rattle.herm_forms.specs.ClosesAndAnswers
use Rattle.herm_forms.specs.Callmessages as callmessages
use Rattle.herm_forms.specs.ReturnForms
use Rattle.herm_forms.specs.HearReply
use Rattle.herm_journal.specs.Messages.{CellReply, CellAction}
use Rattle.herm_forms.specs.Exchanges.{receive_at, place_of_port, ports_at}
use Rattle.herm_forms.specs.Callmessages.{Composed, compose, assemble, with_message}
use Rattle.herm_forms.specs.EdgeFinalising.{arrive, keeps}
use Rattle.herm_forms.specs.LeavingLoops.{keeps_loop, finalise_loops, leave_loops}
use Rattle.herm_forms.specs.Excess.{excess_over_full, excess_over_declared}
use Rattle.herm_forms.specs.Modules.{Module}
use Rattle.herm_forms.specs.Acts.{key_at, new_value, act, arguments_at, is_inout, is_out, inputs_of, composed, kept_at, left_at, given_back, given_at, given_by, settle, settle_reply}

-- What stays so of a body as cells of it are finalised, as its variables and its serial change, and as it counts a call more.
pub record LetsGo {N : Type 0} (Is : Frame N → Type 0) : Type 0 where
  pub value : (c : Cell N) (b : Frame N) → Is b → Is (finalise c b)
  pub parts : (ps : Parts N) (b : Frame N) → Is b → Is (finalise_parts ps b)
  pub name : (m : N) (b : Frame N) → Is b → Is (finalise_name m b)

pub record IsKept {N : Type 0} (Is : Frame N → Type 0) : Type 0 where
  pub letting : LetsGo Is
  pub variables : (ps : Parts N) (b : Frame N) → Is b → Is (record b { variables = ps })
  pub serial : (s : ℕ) (b : Frame N) → Is b → Is (record b { serial = s })
  pub calls : (b : Frame N) → Is b → Is (record b { calls = suc b.calls })

-- as its lists of loops change in any way, and as some of them go
abbrev pub AnyLoops : {N : Type 0} → (Frame N → Type 0) → Type 0
AnyLoops {N} Is = (ls : List (Loop N)) (b : Frame N) → Is b → Is (record b { loops = ls })

abbrev pub FewerLoops : {N : Type 0} → (Frame N → Type 0) → Type 0
FewerLoops {N} Is = (stay : ℕ → Bool) (b : Frame N) → Is b → Is (record b { loops = filter (λ (l : Loop N). stay l.statement) b.loops })

-- what it is once a call is open
abbrev pub Opens : {N : Type 0} → (Is Stay : Frame N → Type 0) → Type 0
Opens {N} Is Stay = (k : ℕ) (b : Frame N) → Is b → Stay (record b { call = Some k })

abbrev pub IsVisit : Form → Type 0
IsVisit (For r t) = ⊤
IsVisit _ = ⊥

abbrev pub IsCall : Form → Type 0
IsCall (Call o arguments) = ⊤
IsCall _ = ⊥

-- the result's body is so, if it has a body: where it goes on, and where it stays
pub data All {N : Type 0} (Is Stay : Frame N → Type 0) : Completion N → Type 0 where
  went : (o : Outcome) (b : Frame N) → Is b → All Is Stay (goes o b)
  stayed : (b : Frame N) → Stay b → All Is Stay (stays b)
  never : All Is Stay stuck

module _ {N : Type 0} (Is : Frame N → Type 0) (lets : LetsGo Is) where
  is-all : (cs : List (Cell N)) (b : Frame N) → Is b → Is (finalise_all cs b)
  is-all [] b e = e
  is-all (c ∷ cs) b e = is-all cs (finalise c b) (lets.value c b e)

  pub is-end_at_once : (c : Cell N) (b : Frame N) → Is b → Is (finalise_at_once c b)
  is-end_at_once (cell m k ps) b e = lets.parts ps (finalise_name m b) (lets.name m b e)

  pub all-work : (item : Cell N) (a : CellAction N) (b : Frame N) → Is b → All Is Is (ClosesAndAnswers.work_done item a b)
  all-work item (close count left) b e = stayed (finalise_at_once item (finalise_all left b)) (is-end_at_once item (finalise_all left b) (is-all left b e))
  all-work item (answer k r) b e = stayed (finalise_at_once item b) (is-end_at_once item b e)
  all-work item _ b e = never

module _ {N : Type 0} (name : Name → N) (Is Stay : Frame N → Type 0) (keeps-it : IsKept Is) where
  is-old : (o : Option (Cell N)) (b : Frame N) → Is b → Is (finalise_old o b)
  is-old None b e = e
  is-old (Some c) b e = keeps-it.letting.value c b e

  pub is-drop : (paths : List Path) (b : Frame N) → Is b → Is (drop paths b)
  is-drop [] b e = e
  is-drop (p ∷ paths) b e = is-drop paths (drop_at p b) (is-old (cell_at p b.variables) (cleared p b) (keeps-it.variables (clear_at p b.variables) b e))

  is-put : (p : Path) (c : Cell N) (b : Frame N) → Is b → Is (Frames.put p c b)
  is-put p c b e = is-old (cell_at p b.variables) (record b { variables = put_at p c b.variables }) (keeps-it.variables (put_at p c b.variables) b e)

  all-cond : (t : Bool) (r s : Completion N) → All Is Stay r → All Is Stay s → All Is Stay (cond t r s)
  all-cond true r s a b = a
  all-cond false r s a b = b

  pub all-there : {X : Type 0} (next : X → Completion N) (o : Option X) → ((x : X) → All Is Stay (next x)) → All Is Stay (if_there next o)
  all-there next None on = never
  all-there next (Some x) on = on x

  pub all-putting : (p : Path) (o : Outcome) (c : Cell N) (b : Frame N) → Is b → All Is Stay (putting p o c b)
  all-putting p o c b e = all-cond (has_place b.variables p) (goes o (Frames.put p c b)) stuck (went o (Frames.put p c b) (is-put p c b e)) never

  all-putting_all : (paths : List Path) (o : Outcome) (cs : List (Cell N)) (b : Frame N) → Is b → All Is Stay (putting_all paths o cs b)
  all-putting_all [] o [] b e = went o b e
  all-putting_all [] o (c ∷ cs) b e = never
  all-putting_all (p ∷ paths) o [] b e = never
  all-putting_all (p ∷ paths) o (c ∷ cs) b e =
      all-cond (has_place b.variables p) (putting_all paths o cs (Frames.put p c b)) stuck (all-putting_all paths o cs (Frames.put p c b) (is-put p c b e)) never

  all-taking : (p : Path) (next : Cell N → Frame N → Completion N) (b : Frame N) → Is b → ((c : Cell N) (b' : Frame N) → Is b' → All Is Stay (next c b')) → All Is Stay (taking p next b)
  all-taking p next b e on = all-there (λ c. next c (cleared p b)) (cell_at p b.variables) (λ c. on c (cleared p b) (keeps-it.variables (clear_at p b.variables) b e))

  all-moving : (lost : List Path) (y : Path) (next : Cell N → Frame N → Completion N) (b : Frame N) → Is b → ((c : Cell N) (b' : Frame N) → Is b' → All Is Stay (next c b')) → All Is Stay (moving lost y next b)
  all-moving lost y next b e on = all-taking y next (drop lost b) (is-drop lost b e) on

  all-making : (k : Kind) (ps : Parts N) (next : Cell N → Frame N → Completion N) (b : Frame N) → Is b → ((c : Cell N) (b' : Frame N) → Is b' → All Is Stay (next c b')) → All Is Stay (making name k ps next b)
  all-making k ps next b e on = on (cell (name (b.number, b.serial)) k ps) (record b { serial = suc b.serial }) (keeps-it.serial (suc b.serial) b e)

  pub all-copying : {M : Type 0} (c : Cell M) (next : Cell N → Frame N → Completion N) (b : Frame N) → Is b → ((c : Cell N) (b' : Frame N) → Is b' → All Is Stay (next c b')) → All Is Stay (copying name c next b)
  all-copying c next b e on = on (copy_from (λ s. name (b.number, s)) b.serial c) (record b { serial = b.serial + count c }) (keeps-it.serial (b.serial + count c) b e)

  pub all-copying_parts : {M : Type 0} (ps : Parts M) (next : Parts N → Frame N → Completion N) (b : Frame N) → Is b → ((qs : Parts N) (b' : Frame N) → Is b' → All Is Stay (next qs b')) → All Is Stay (copying_parts name ps next b)
  all-copying_parts ps next b e on = on (copy_in (λ s. name (b.number, s)) b.serial ps) (record b { serial = b.serial + count_in ps }) (keeps-it.serial (b.serial + count_in ps) b e)

  all-value : (next : Value → Frame N → Completion N) (v : Evaluated) (b : Frame N) → Is b → ((v : Value) → All Is Stay (next v b)) → All Is Stay (with_value next v b)
  all-value next (gives v) b e on = on v
  all-value next (raises x) b e on = went (raised x) b e
  all-value next no_value b e on = never

  pub all-new_value : (s : Option Shape) (x : Path) (b : Frame N) → Is b → All Is Stay (new_value name s x b)
  all-new_value (Some (fields ts)) x b e = all-putting x ok _ (record b { serial = suc b.serial }) (keeps-it.serial (suc b.serial) b e)
  all-new_value (Some (rows row key)) x b e = all-putting x ok _ (record b { serial = suc b.serial }) (keeps-it.serial (suc b.serial) b e)
  all-new_value (Some s) x b e = never
  all-new_value None x b e = never

  all-content : (y : Path) (o : Opened N) (b : Frame N) → Is b → All Is Stay (moving_content y o b)
  all-content y o b e = all-putting y ok o.content (finalise_name o.name b) (keeps-it.letting.name o.name b e)

  all-option : {X : Type 0} (o : Option X) (none : Completion N) (some : X → Completion N) → All Is Stay none → ((x : X) → All Is Stay (some x)) → All Is Stay (elim o [ None ↦ none | Some x ↦ some x ])
  all-option None none some a on = a
  all-option (Some x) none some a on = on x

  pub all-wrap : (t : ℕ) (lost : List Path) (y p : Path) (b : Frame N) → Is b → All Is Stay (Forms.wrap name t lost y p b)
  all-wrap t lost y p b e =
      all-there _ (cell_at y (drop lost b).variables) (λ c. all-cond (nat_lt (polymorph_depth c) greatest_polymorph) _ _
      (all-moving lost y _ b e (λ content b' e'. all-making (a_polymorph t) (part content no_parts) (putting p ok) b' e' (λ d b'' e''. all-putting p ok d b'' e''))) (went (raised depletion) b e))

  all-unwrap : (t : ℕ) (p y : Path) (b : Frame N) → Is b → All Is Stay (Forms.unwrap t p y b)
  all-unwrap t p y b e =
      all-there _ (cell_at p b.variables) (λ c. all-option (content_of t c) _ _ (went (raised polymorph_mismatch) b e) (λ o. all-content y o (cleared p b) (keeps-it.variables (clear_at p b.variables) b e)))

  all-insert : (key : List ℕ) (lost : List Path) (r t : Path) (b : Frame N) → Is b → All Is Stay (InsertForm.insert key lost r t b)
  all-insert key lost r t b e =
      all-there _ (cell_at r b.variables) (λ row. all-there _ (read_at t b.variables) (λ table.
      all-cond (has_key key (key_of key row) (parts_of table)) _ _ (went (raised duplicate_key) b e) (all-cond (nat_lt (size (parts_of table)) greatest_rows) _ _
      (all-moving lost r _ b e (λ row' b' e'. all-there _ (read_at t b'.variables) (λ table'. went ok (change_rows t (add_row row') b') (keeps-it.variables _ b' e')))) (went (raised depletion) b e))))

  pub all-finding : (key : List ℕ) (k : List Scalar) (t : Path) (next : ℕ → Cell N → Completion N) (b : Frame N) → Is b → ((i : ℕ) (c : Cell N) → All Is Stay (next i c)) → All Is Stay (finding key k t next b)
  all-finding key k t next b e on =
      all-there _ (read_at t b.variables) (λ table. all-option (place_of_key key k (parts_of table)) _ _ (went _ b e) (λ i. all-there (next i) (part_at i (parts_of table)) (on i)))

  pub all-next_row : AnyLoops Is → (s : ℕ) (r : Path) (ps : Parts N) (b : Frame N) → Is b → All Is Stay (next_row s r ps b)
  all-next_row any s r no_parts b e = went _ b e
  all-next_row any s r (gap ps) b e = never
  all-next_row any s r (part row ps) b e = all-putting r turn row (record b { loops = set_rows s ps b.loops }) (any (set_rows s ps b.loops) b e)

  pub all-tested : (v : Value) (b : Frame N) → Is b → All Is Stay (tested v b)
  all-tested (cell m (a_scalar (a_boolean true)) ps) b e = went _ b e
  all-tested (cell m (a_scalar (a_boolean false)) ps) b e = went _ b e
  all-tested v b e = never

  -- what a local step does
  pub all-act : (c : Module) (s : ℕ) (form : Form) (b : Frame N) → Is b → (IsVisit form → AnyLoops Is) → All Is Stay (act name c s form b)
  all-act c s (Assign x v) b e any = all-value (Forms.assign name x) (evaluate b.variables v) b e (λ v. all-copying v (putting x ok) b e (λ d b' e'. all-putting x ok d b' e'))
  all-act c s (Move y x) b e any = all-moving (excess_over_full c y b) y (putting x ok) b e (λ d b' e'. all-putting x ok d b' e')
  all-act c s (New x) b e any = all-new_value (shape_at c.types c.variables x) x b e
  all-act c s (Discard x) b e any = all-taking x _ b e (λ d b' e'. went ok (finalise d b') (keeps-it.letting.value d b' e'))
  all-act c s (Unite v k y) b e any = all-moving (excess_over_full c y b) y _ b e (λ d b' e'. all-making (a_variant k) (part d no_parts) (putting v ok) b' e' (λ d' b'' e''. all-putting v ok d' b'' e''))
  all-act c s (Dissolve v k y) b e any = all-taking v _ b e (λ d b' e'. all-there _ (component_in k d) (λ o. all-content y o b' e'))
  all-act c s (Reveal v k) b e any = all-there _ (read_at v b.variables) (λ d. went _ b e)
  all-act c s (Case v ks) b e any = all-there _ (read_at v b.variables) (λ d. all-there _ (component_of d) (λ k. went _ b e))
  all-act c s (Wrap y p) b e any = all-there _ (type_at c.types c.variables y) (λ t. all-wrap t (excess_over_full c y b) y p b e)
  all-act c s (Unwrap p t y) b e any = all-unwrap t p y b e
  all-act c s (Insert r t) b e any = all-insert (key_at c t) (excess_over_full c r b) r t b e
  all-act c s (Remove r t keys) b e any = all-there _ (key_values b.variables keys) (λ k. all-finding (key_at c t) k t _ b e (λ i row. all-putting r ok row (change_rows t (without_part i) b) (keeps-it.variables _ b e)))
  all-act c s (Get r t keys) b e any = all-there _ (key_values b.variables keys) (λ k. all-finding (key_at c t) k t _ b e (λ i row. all-copying row (putting r ok) b e (λ d b' e'. all-putting r ok d b' e')))
  all-act c s (For r t) b e any = all-option (rows_for s b.loops) _ _ (all-there _ (read_at t b.variables) (λ table. all-copying_parts (parts_of table) _ b e (λ rows b' e'. all-next_row (any tt) s r rows (record b' { loops = record { statement = s; rows = rows } ∷ b'.loops }) (any tt _ b' e')))) (λ rows. all-next_row (any tt) s r rows b e)
  all-act c s (Connect o i) b e any = all-there _ (read_at i b.variables) (λ d. all-there _ (inport_number d) (λ k. all-making (an_outport k) no_parts (putting o ok) b e (λ d' b' e'. all-putting o ok d' b' e')))
  all-act c s (If v) b e any = all-value tested (evaluate b.variables v) b e (λ v. all-tested v b e)
  all-act c s (While v) b e any = all-value tested (evaluate b.variables v) b e (λ v. all-tested v b e)
  all-act c s (Raise x) b e any = went _ b e
  all-act c s Leave b e any = went _ b e
  all-act c s _ b e any = never

  -- what an edge leaves
  is-one : (t : Bool) (l : Loop N) (b : Frame N) → Is b → Is (cond t b (finalise_parts l.rows b))
  is-one true l b e = e
  is-one false l b e = keeps-it.letting.parts l.rows b e

  pub is-loops : (stay : ℕ → Bool) (loops : List (Loop N)) (b : Frame N) → Is b → Is (finalise_loops stay loops b)
  is-loops stay [] b e = e
  is-loops stay (l ∷ loops) b e = is-loops stay loops (cond (stay l.statement) b (finalise_parts l.rows b)) (is-one (stay l.statement) l b e)

  pub is-leave : FewerLoops Is → (stay : ℕ → Bool) (b : Frame N) → Is b → Is (leave_loops stay b)
  is-leave fewer stay b e = is-loops stay b.loops (record b { loops = filter (λ l. stay l.statement) b.loops }) (fewer stay b e)

  pub is-arrive : FewerLoops Is → (c : Module) (t : Target) (b : Frame N) → Is b → Is (arrive c t b)
  is-arrive fewer c t b e =
      let lost = excess c.types c.variables (has_value b.variables) (keeps c t) in
      is-leave fewer (keeps_loop c t) (drop lost b) (is-drop lost b e)

  -- what is taken out of several paths
  is-with : (c : Cell N) (o : Option (Taken N)) (t : Taken N) → ((u : Taken N) → o ≡ Some u → Is u.frame) → with_taken c o ≡ Some t → Is t.frame
  is-with c None t on is = none-not_some is
  is-with c (Some u) t on is = subst (λ (x : Taken N). Is x.frame) (some-injective is) (on u refl)

  is-took : (o : Option (Cell N)) (next : Option (Taken N)) (t : Taken N) → ((u : Taken N) → next ≡ Some u → Is u.frame) → elim o [ None ↦ None | Some c ↦ with_taken c next ] ≡ Some t → Is t.frame
  is-took None next t on is = none-not_some is
  is-took (Some c) next t on is = is-with c next t on is

  is-take_all : (paths : List Path) (b : Frame N) (t : Taken N) → Is b → take_all paths b ≡ Some t → Is t.frame
  is-take_all [] b t e is = subst (λ (x : Taken N). Is x.frame) (some-injective is) e
  is-take_all (p ∷ paths) b t e is = is-took (cell_at p b.variables) (take_all paths (cleared p b)) t (λ u. is-take_all paths (cleared p b) u (keeps-it.variables (clear_at p b.variables) b e)) is

  -- a call's number is that of the body from which its arguments were taken
  pub record ComposedFrom (k : Composed N) : Type 0 where
    pub taken : Frame N
    pub is : Is taken
    pub frame : k.frame ≡ record taken { serial = suc taken.serial; calls = suc taken.calls }
    pub call : k.call ≡ taken.calls

  pub from-compose : (modes : List Mode) (inputs : Parts ⊤) (lost moved : List Path) (b : Frame N) (k : Composed N) → Is b → compose name modes inputs lost moved b ≡ Some k → ComposedFrom k
  from-compose modes inputs lost moved b k e is =
      let took = chain-some _ (take_all moved (drop lost (record b { serial = b.serial + count_in inputs }))) k is in
      let made = map-some (with_message name took.0.frame) (assemble modes (copy_in (λ s. name (b.number, s)) b.serial inputs) took.0.cells) k took.2 in
      record {
        taken = took.0.frame;
        is = is-take_all moved (drop lost (record b { serial = b.serial + count_in inputs })) took.0 (is-drop lost (record b { serial = b.serial + count_in inputs }) (keeps-it.serial (b.serial + count_in inputs) b e)) took.1;
        frame = ap (λ (x : Composed N). x.frame) (sym made.2);
        call = ap (λ (x : Composed N). x.call) (sym made.2);
      }

  pub is-from : (k : Composed N) → ComposedFrom k → Is k.frame
  is-from k from = subst Is (sym from.frame) (keeps-it.calls (record from.taken { serial = suc from.taken.serial }) (keeps-it.serial (suc from.taken.serial) from.taken from.is))

  pub from-composed : (c : Module) (o : Path) (arguments : List Atom) (b : Frame N) (k : Composed N) → Is b → composed name c o arguments b ≡ Some k → ComposedFrom k
  from-composed c o arguments b k e is =
      let inputs = chain-some _ (inputs_of (call_parameters c.types c.variables o) arguments b.variables) k is in
      from-compose (map (λ p. p.mode) (call_parameters c.types c.variables o)) inputs.0 (flat_map (λ p. excess_over_full c p b) (arguments_at c is_inout o arguments)) (arguments_at c is_inout o arguments) b k e inputs.2

  pub is-composed : (c : Module) (o : Path) (arguments : List Atom) (b : Frame N) (k : Composed N) → Is b → composed name c o arguments b ≡ Some k → Is k.frame
  is-composed c o arguments b k e is = is-from k (from-composed c o arguments b k e is)

  -- what each answer leaves
  all-new_inport : (x : Path) (a : CellAction N) (b : Frame N) → Is b → All Is Stay (Exchanges.new_inport name x a b)
  all-new_inport x (make_port (Some k)) b e = all-making (an_inport k) no_parts (putting x ok) b e (λ d b' e'. all-putting x ok d b' e')
  all-new_inport x (make_port None) b e = went _ b e
  all-new_inport x _ b e = never

  all-create : (o : Path) (a : CellAction N) (b : Frame N) → Is b → All Is Stay (Exchanges.create name o a b)
  all-create o (make_process code (Some made)) b e = all-making (an_inport made.1) no_parts _ b e (λ d b' e'. all-making (an_outport made.1) no_parts (putting o ok) b' e' (λ d' b'' e''. all-putting o ok d' b'' e''))
  all-create o (make_process code None) b e = went _ b e
  all-create o _ b e = never

  pub all-send : (lost : List Path) (x : Path) (a : CellAction N) (b : Frame N) → Is b → All Is Stay (Exchanges.send lost x a b)
  all-send lost x (put (Some k) m) b e = all-moving lost x _ b e (λ d b' e'. went ok b' e')
  all-send lost x (put None m) b e = all-moving lost x _ b e (λ d b' e'. all-putting x (raised disconnected) m b' e')
  all-send lost x _ b e = never

  all-receive : (x : Path) (a : CellAction N) (b : Frame N) → Is b → All Is Stay (Exchanges.receive x a b)
  all-receive x (take k m) b e = all-putting x ok m b e
  all-receive x _ b e = never

  all-receive_at : (targets : List Path) (i place : ℕ) (m : Cell N) (b : Frame N) → Is b → All Is Stay (receive_at targets i place m b)
  all-receive_at [] i place m b e = never
  all-receive_at (x ∷ targets) i place m b e = all-cond (nat_eq i place) _ _ (all-putting x (arm place) m b e) (all-receive_at targets (suc i) place m b e)

  pub all-select : (targets ports : List Path) (from : ℕ) (a : CellAction N) (b : Frame N) → Is b → All Is Stay (Exchanges.select targets ports from a b)
  all-select targets ports from (take k m) b e = all-there _ (option_and_then (place_of_port 0 from) (ports_at ports b)) (λ place. all-receive_at targets 0 place m b e)
  all-select targets ports from _ b e = never

  all-there-is : {X : Type 0} (next : X → Completion N) (o : Option X) → ((x : X) → o ≡ Some x → All Is Stay (next x)) → All Is Stay (if_there next o)
  all-there-is next None on = never
  all-there-is next (Some x) on = on x refl

  pub all-call : Opens Is Stay → (k : Option (Composed N)) (outs : List Path) (a : CellAction N) → ((c : Composed N) → k ≡ Some c → Is c.frame) → All Is Stay (callmessages.call k outs a)
  all-call opens k outs (put (Some i) m) on = all-there-is _ k (λ c is. stayed (record c.frame { call = Some c.call }) (opens c.call c.frame (on c is)))
  all-call opens k outs (put None m) on = all-there-is _ k (λ c is. went (raised disconnected) (drop outs (finalise_at_once m c.frame)) (is-drop outs (finalise_at_once m c.frame) (is-end_at_once Is keeps-it.letting m c.frame (on c is))))
  all-call opens k outs _ on = never

  pub all-return : (taken : Option (Taken N)) (m : Path) (a : CellAction N) → ((t : Taken N) → taken ≡ Some t → Is t.frame) → All Is Stay (ReturnForms.return taken m a)
  all-return taken m (answer k r) on = all-there-is _ taken (λ t is. all-taking m _ t.frame (on t is) (λ d b' e'. went ok (finalise_at_once d b') (is-end_at_once Is keeps-it.letting d b' e')))
  all-return taken m _ on = never

  all-hear_reply : (back outs : List Path) (keep left : ℕ → List Path) (r : CellReply N) (b : Frame N) → Is b → All Is Stay (HearReply.hear_reply back outs keep left r b)
  all-hear_reply back outs keep left (values cs) b e = all-putting_all back ok cs b e
  all-hear_reply back outs keep left (Actions.raised x cs) b e = all-putting_all (keep x) (raised x) cs (drop (left x) b) (is-drop (left x) b e)
  all-hear_reply back outs keep left gone b e = went (raised disconnected) (drop outs b) (is-drop outs b e)

  pub all-hear_call : (back outs : List Path) (keep left : ℕ → List Path) (call : ℕ) (a : CellAction N) (b : Frame N) → Is (record b { call = None }) → All Is Stay (HearReply.hear_call back outs keep left call a b)
  all-hear_call back outs keep left call (hear k r) b e = all-cond (nat_eq k call) _ _ (all-hear_reply back outs keep left r (record b { call = None }) e) never
  all-hear_call back outs keep left call _ b e = never

  pub is-given : (c : Module) (paths : List Path) (b : Frame N) (t : Taken N) → Is b → given_back c paths b ≡ Some t → Is t.frame
  is-given c paths b t e is = is-take_all paths (drop (flat_map (λ p. excess_over_full c p b) paths) b) t (is-drop (flat_map (λ p. excess_over_full c p b) paths) b e) is

  pub all-settle : (c : Module) (form : Form) (at : ℕ) (a : CellAction N) (b : Frame N) → Is b → (IsCall form → Opens Is Stay) → All Is Stay (settle name c form at a b)
  all-settle c (New x) at a b e opens = all-new_inport x a b e
  all-settle c (Send x o) at a b e opens = all-send (excess_over_declared c o x b) x a b e
  all-settle c (Receive x i) at a b e opens = all-receive x a b e
  all-settle c (Select arms) at a b e opens = all-select (map (λ a. a.target) arms) (map (λ a. a.port) arms) at a b e
  all-settle c (Call o arguments) at a b e opens = all-call (opens tt) (composed name c o arguments b) (arguments_at c is_out o arguments) a (λ k. is-composed c o arguments b k e)
  all-settle c (Return m) at a b e opens = all-return (given_back c (given_at c m) b) m a (λ t. is-given c (given_at c m) b t e)
  all-settle c (ReturnBy m x) at a b e opens = all-return (given_back c (given_by c m x) b) m a (λ t. is-given c (given_by c m x) b t e)
  all-settle c (Create o process) at a b e opens = all-create o a b e
  all-settle c _ at a b e opens = never

  pub all-settle_reply : (c : Module) (form : Form) (call : ℕ) (a : CellAction N) (b : Frame N) → Is (record b { call = None }) → All Is Stay (settle_reply c form call a b)
  all-settle_reply c (Call o arguments) call a b e = all-hear_call (set_by_call c.types c.variables o arguments) (arguments_at c is_out o arguments) (kept_at c o arguments) (left_at c o arguments) call a b e
  all-settle_reply c _ call a b e = never
