-- The source machine keeps counts of inports and callmessages.
use Rattle.std.proofs.Common.{◌≡◌, ℕ, zero, suc, ◌+◌, List, [], ◌∷◌, Bool, true, false, cond, Option, Some, None, option_map, slice_get, refl, sym, ap, subst, ◌∙◌, arith, inl, inr}
use Rattle.std.specs.Prelude.{option_and_then, map}
use Rattle.herm_model.specs.Lists.{IsIn, list_of}
use Rattle.herm_model.specs.Paths.{Path}
use Rattle.herm_model.specs.Outcomes.{ok}
use Rattle.herm_model.specs.Expressions.{Atom}
use Rattle.herm_model.specs.Calls.{parameters_of, raises_of, shape_at, returned_places, kept_for}
use Rattle.herm_model.specs.Statements.{Process, Arm, Form, New, Send, Receive, Select, Call, Return, ReturnBy, Create}
use Rattle.herm_model.specs.Nodes.{Node, process_nodes}
use Rattle.herm_model.specs.Targets.{Target, node, end, end_by}
use Rattle.herm_model.specs.Values.{Name, Kind, kind_of, a_callmessage, Cell, cell_at}
use Rattle.herm_model.specs.TypedStatements.{IsTypedForm}
use Rattle.herm_model.specs.TypedPrograms.{IsTypedProgram}
use Rattle.herm_model.proofs.FactTests.{got-IsIn}
use Rattle.herm_model.proofs.Options.{some-injective, none-not_some, chain-some, map-some}
use Rattle.herm_journal.specs.Actions.{values, raised, to_put, to_take, put}
use Rattle.herm_journal.specs.Messages.{CellWant, CellAction}
use Rattle.herm_forms.specs.Frames.{counted_step, counted_action, Frame, goes, stays, cleared, drop, if_there}
use Rattle.herm_forms.specs.Exchanges
use Rattle.herm_forms.specs.Callmessages as callmessages
use Rattle.herm_forms.specs.ClosesAndAnswers.{work_wants}
use Rattle.herm_forms.specs.Callmessages.{Composed}
use Rattle.herm_forms.specs.EdgeFinalising.{arrive}
use Rattle.herm_forms.specs.Excess.{excess_over_declared}
use Rattle.herm_forms.specs.Modules.{Module}
use Rattle.herm_forms.specs.OpenCalls.{Calling, calling_form, call_type}
use Rattle.herm_forms.specs.Acts.{is_action, wants, settle, composed, arguments_at, is_out, leads_to}
use Rattle.herm_forms.specs.Weights.{weight_made}
use Rattle.herm_forms.proofs.Copies.{CopiesKinds, more-copies}
use Rattle.herm_model.proofs.Loads.{load}
use Rattle.herm_forms.proofs.Loads.{load_kept}
use Rattle.herm_forms.proofs.Weights.{Spares}
use Rattle.herm_forms.proofs.Begun.{begun, over, port_load, call_load, back_load}
use Rattle.herm_forms.proofs.KeptForms.{recount-composed}
use Rattle.herm_forms.proofs.Counting.{recount_composed}
use Rattle.herm_forms.proofs.PlainCopies.{IsPlainKind, typed-copies}
use Rattle.herm_forms.proofs.CountedCalls.{call-kind, return-ends, drop-call, arrive-call}
use Rattle.herm_system.specs.Machines.{OpenCall}
use Rattle.herm_system.specs.Summary.{how_many}
use Rattle.herm_system.specs.Kinds.{kinds_by, kinds_of}
use Rattle.herm_system.specs.Suiting.{Answers}
use Rattle.herm_runs.specs.Counting.{IsOfWaiting, kinds_coming, kinds_going, kinds_made, kinds_ended}
use Rattle.herm_source.specs.Modules.{Program, Modules}
use Rattle.herm_source.specs.States.{State, own_name, begin, Next, an_item, a_reply, a_statement, nothing, node_at, item_or, call_or_statement, next_of, wanted_next, wanted, settle_next, state_after}
use Rattle.herm_source.specs.AcceptedRuns.{AreAccepted, AreCodesOf}
use Rattle.herm_source.specs.SeenBySystem.{open_call}
use Rattle.herm_source.specs.Local.{calling}
use Rattle.herm_source.specs.Instance.{source, code_at}
use Rattle.herm_source.specs.laws.CountLaws.{HasTypesIn, TypedProgramsKeepCounts}
use Rattle.herm_source.proofs.KeptSteps.{CopiesNext, begun_next, over_next, balanced-step_next, balanced-settle_next, balanced-begin}
use Rattle.herm_source.proofs.Numbers.{local-stays, answer-stays}
use Rattle.herm_held.proofs.KindAgrees as held
use Rattle.herm_held.proofs.KindTotals.{nameless, one_of, spares, of-cell, of-coming, nothing-made}
use Rattle.herm_source.proofs.counted.KindTotals.{of-going, of-held}
use Rattle.herm_source.proofs.instance.SourceLaws.{local-code, answer-code, code-stays}

-- the nodes of the modules of a typed program are typed
abbrev pub AreTypedNodes : ℕ → Program → Module → Type 0
AreTypedNodes exceptions program c = (n : Node) → IsIn n c.nodes → IsTypedForm c.types c.variables exceptions program.processes n.form

pub node-there : (c : Module) (t : Target) (n : Node) → node_at c t ≡ Some n → IsIn n c.nodes
node-there c (node i) n is = got-IsIn c.nodes i n is
node-there c end n is = none-not_some is
node-there c (end_by e) n is = none-not_some is

code-typed : (exceptions : ℕ) (program : Program) (ps : List Process) (cs : List Module) (i : ℕ) (c : Module) → ((p : Process) → IsIn p ps → (n : Node) → IsIn n (process_nodes p) → IsTypedForm program.types p.variables exceptions program.processes n.form)
    → AreCodesOf program ps cs → slice_get cs i ≡ Some c → AreTypedNodes exceptions program c
code-typed exceptions program [] [] i c typed h e = none-not_some e
code-typed exceptions program [] (d ∷ cs) i c typed h e = absurd h
code-typed exceptions program (p ∷ ps) [] i c typed h e = absurd h
code-typed exceptions program (p ∷ ps) (d ∷ cs) zero c typed h e = subst (AreTypedNodes exceptions program) (sym h.0.1 ∙ some-injective e) (typed p (inl refl))
code-typed exceptions program (p ∷ ps) (d ∷ cs) (suc i) c typed h e = code-typed exceptions program ps cs i c (λ q m. typed q (inr m)) h.1 e

-- a statement is next where no call is open
pub record Stands (c : Module) (s : State Name) (n : Node) : Type 0 where
  pub closed : s.frame.call ≡ None
  pub at : node_at c s.point ≡ Some n

abbrev node_of : Next Name → Option Node
node_of (a_statement n) = Some n
node_of next = None

pub stands : (c : Module) (s : State Name) (n : Node) → next_of c s ≡ a_statement n → Stands c s n
stands c s n is = by s.frame.work s.frame.call (node_at c s.point) refl refl (ap node_of is)
  where
    by : (work : List (Cell Name)) (call : Option ℕ) (o : Option Node) → s.frame.call ≡ call → node_at c s.point ≡ o → node_of (item_or work (call_or_statement call o)) ≡ Some n → Stands c s n
    by (d ∷ work) call o closed at is = none-not_some is
    by [] call None closed at is = none-not_some is
    by [] None (Some m) closed at is = record { closed = closed; at = at ∙ is }
    by [] (Some k) (Some m) closed at is = none-not_some is

module _ (test : Kind → Bool) (of : IsOfWaiting test) (modules : Modules) (c : Module) where
  abbrev Agrees : State Name → CellWant Name → CellAction Name → (begun over : ℕ) → Type 0
  Agrees y want a begun over = held.Agrees (source modules) test y want a begun over

  abbrev Opens : State Name → Option ℕ → Type 0
  Opens y k = held.Opens (source modules) test y k

  -- a message that was sent leaves no call open
  sent-call : (s t : State Name) (n : Node) (lost : List Path) (x : Path) (b : Frame Name) (o : Option (Cell Name)) → b.call ≡ None
      → state_after c s (Some n) (if_there (λ (d : Cell Name). goes ok (cleared x (drop lost b))) o) ≡ Some t → t.frame.call ≡ None
  sent-call s t n lost x b None closed is = none-not_some is
  sent-call s t n lost x b (Some d) closed is =
      let m = map-some (λ (p : Target). record { module_number = s.module_number; point = p; frame = arrive c p (cleared x (drop lost b)) }) (leads_to c n ok) t is in
      ap (λ (t : State Name). t.frame.call) (sym m.2) ∙ arrive-call c m.0 (cleared x (drop lost b)) ∙ drop-call lost b ∙ closed

  no-call : (t : State Name) → code_at modules t ≡ Some c → t.frame.call ≡ None → Opens t None
  no-call t there closed =
      ap (λ (o : Option Module). option_map (λ (call : OpenCall). call.number) (option_and_then (λ c. open_call c t) o)) there
      ∙ ap (λ (k : Option ℕ). option_map (λ (call : OpenCall). call.number) (option_and_then (λ k. option_map (λ (call : Calling). record { number = k; call_type = call_type c call }) (calling c t)) k)) closed

  -- a callmessage that was placed leaves its call open
  one-call : (t : State Name) (k : ℕ) (call : Calling) → code_at modules t ≡ Some c → t.frame.call ≡ Some k → calling c t ≡ Some call → Opens t (Some k)
  one-call t k call there is calls =
      ap (λ (o : Option Module). option_map (λ (call : OpenCall). call.number) (option_and_then (λ c. open_call c t) o)) there
      ∙ ap (λ (k : Option ℕ). option_map (λ (call : OpenCall). call.number) (option_and_then (λ k. option_map (λ (call : Calling). record { number = k; call_type = call_type c call }) (calling c t)) k)) is
      ∙ ap (λ (o : Option Calling). option_map (λ (call : OpenCall). call.number) (option_map (λ (call : Calling). record { number = k; call_type = call_type c call }) o)) calls

  record Placed (s t : State Name) (k : ℕ) : Type 0 where
    point : t.point ≡ s.point
    call : t.frame.call ≡ Some k

  placed-call : (s t : State Name) (n : Node) (o : Option (Composed Name)) (x : Composed Name) → o ≡ Some x
      → state_after c s (Some n) (if_there (λ (x : Composed Name). stays (record (x.frame) { call = Some x.call })) o) ≡ Some t → Placed s t x.call
  placed-call s t n None x there is = none-not_some is
  placed-call s t n (Some z) x there is =
      let same : z ≡ x = some-injective there in
      let t' = some-injective is in
      record { point = ap (λ (t : State Name). t.point) (sym t'); call = ap (λ (t : State Name). t.frame.call) (sym t') ∙ ap (λ (x : Composed Name). Some x.call) same }

  module _ (x y : State Name) (there : code_at modules y ≡ Some c) (number : y.frame.number ≡ x.frame.number) (n : Node) (stood : Stands c x n) where
    abbrev counted : Frame Name
    counted = counted_action (counted_step x.frame)

    opens-none : (lost : List Path) (s : Path) (a : CellAction Name) → state_after c x (Some n) (Exchanges.send lost s a counted) ≡ Some y → (i : ℕ) (d : Cell Name) → a ≡ put (Some i) d → Opens y None
    opens-none lost s a is i d e =
        no-call y there (sent-call x y n lost s counted (cell_at s (drop lost counted).variables) stood.closed (subst (λ a. state_after c x (Some n) (Exchanges.send lost s a counted) ≡ Some y) e is))

    opens-one : (o : Path) (arguments : List Atom) (z : Composed Name) (a : CellAction Name) → n.form ≡ Call o arguments → composed own_name c o arguments x.frame ≡ Some z
        → state_after c x (Some n) (callmessages.call (composed own_name c o arguments counted) (arguments_at c is_out o arguments) a) ≡ Some y → (i : ℕ) (d : Cell Name) → a ≡ put (Some i) d → Opens y (Some z.call)
    opens-one o arguments z a form weight_made is i d e =
        let again = recount-composed nameless (one_of test) own_name (spares test of) 0 0 (suc x.frame.steps) (suc x.frame.actions) c o arguments x.frame ∙ ap (option_map (recount_composed (suc x.frame.steps) (suc x.frame.actions))) weight_made in
        let p = placed-call x y n (composed own_name c o arguments counted) (recount_composed (suc x.frame.steps) (suc x.frame.actions) z) again (subst (λ a. state_after c x (Some n) (callmessages.call (composed own_name c o arguments counted) (arguments_at c is_out o arguments) a) ≡ Some y) e is) in
        one-call y z.call (record { port = o; arguments = arguments }) there p.call
        (ap (λ (t : Target). option_and_then (λ (n : Node). calling_form n.form) (node_at c t)) p.point ∙ ap (option_and_then (λ (n : Node). calling_form n.form)) stood.at ∙ ap calling_form form)

    agrees-statement : (form : Form) (want : CellWant Name) (at : ℕ) (a : CellAction Name) → n.form ≡ form → wants own_name c form x.frame ≡ Some want → Answers want a
        → state_after c x (Some n) (settle own_name c form at a counted) ≡ Some y → Agrees y want a (begun (one_of test) own_name c form x.frame a) (over (one_of test) c form x.frame a)
    agrees-statement (New p) want at a form is answers does =
        subst (λ w. Answers w a → Agrees y w a (port_load (one_of test) a) 0) (some-injective is) (held.agrees-new (source modules) test y a) answers
    agrees-statement (Create o process) want at a form is answers does =
        subst (λ w. Answers w a → Agrees y w a (port_load (one_of test) a) 0) (some-injective is) (held.agrees-create (source modules) test y process a) answers
    agrees-statement (Receive p i) want at a form is answers does =
        let r = map-some (λ port. to_take (port ∷ [])) (Exchanges.inport_at i x.frame) want is in
        subst (λ w. Answers w a → Agrees y w a 0 0) r.2 (held.agrees-take (source modules) test y (r.0 ∷ []) a) answers
    agrees-statement (Select arms) want at a form is answers does =
        let r = map-some to_take (Exchanges.ports_at (map (λ (a : Arm). a.port) arms) x.frame) want is in
        subst (λ w. Answers w a → Agrees y w a 0 0) r.2 (held.agrees-take (source modules) test y r.0 a) answers
    agrees-statement (Send p o) want at a form is answers does =
        let lost = excess_over_declared c o p x.frame in
        let r = chain-some (λ port. option_map (to_put port) (cell_at p (drop lost x.frame).variables)) (Exchanges.outport_at o x.frame) want is in
        let q = map-some (to_put r.0) (cell_at p (drop lost x.frame).variables) want r.2 in
        subst (λ w. Answers w a → Agrees y w a 0 0) q.2 (λ h. held.agrees-send (source modules) test y r.0 q.0 a h (opens-none (excess_over_declared c o p counted) p a does)) answers
    agrees-statement (Call o arguments) want at a form is answers does =
        let r = chain-some (λ port. option_map (λ (z : Composed Name). to_put port z.message) (composed own_name c o arguments x.frame)) (Exchanges.outport_at o x.frame) want is in
        let q = map-some (λ (z : Composed Name). to_put r.0 z.message) (composed own_name c o arguments x.frame) want r.2 in
        let kind = call-kind own_name c o arguments x.frame q.0 q.1 ∙ ap (λ k. a_callmessage k q.0.call) (sym number) in
        subst (λ (z : Option (Composed Name)). Agrees y want a (call_load (one_of test) z) (back_load (one_of test) a)) (sym q.1)
        (subst (λ w. Answers w a → Agrees y w a (one_of test (kind_of q.0.message)) (back_load (one_of test) a)) q.2
        (λ h. held.agrees-call (source modules) test y r.0 q.0.call q.0.message a h kind (opens-one o arguments q.0 a form q.1 does)) answers)
    agrees-statement (Return m) want at a form is answers does =
        let r = return-ends (one_of test) c m (returned_places 0 (list_of parameters_of (shape_at c.types c.variables m))) values x.frame want is in
        subst (λ n. Agrees y want a 0 n) (sym r.ends) (subst (λ w. Answers w a → Agrees y w a 0 (one_of test (a_callmessage r.caller r.call))) (sym r.is) (held.agrees-answer (source modules) test y r.caller r.call r.reply a) answers)
    agrees-statement (ReturnBy m e) want at a form is answers does =
        let r = return-ends (one_of test) c m (kept_for (list_of raises_of (shape_at c.types c.variables m)) e) (raised e) x.frame want is in
        subst (λ n. Agrees y want a 0 n) (sym r.ends) (subst (λ w. Answers w a → Agrees y w a 0 (one_of test (a_callmessage r.caller r.call))) (sym r.is) (held.agrees-answer (source modules) test y r.caller r.call r.reply a) answers)
    agrees-statement form want at a same is answers does = none-not_some is

-- So the source machine keeps counts.
module _ (exceptions : ℕ) (program : Program) (modules : Modules) (accepted : AreAccepted program modules) (typed : IsTypedProgram exceptions program.types program.processes program.main) where
  pub typed-at : (x : State Name) (c : Module) → code_at modules x ≡ Some c → AreTypedNodes exceptions program c
  typed-at x c is = code-typed exceptions program program.processes modules.codes x.module_number c (λ p m. (typed.modules p m).typed) accepted.codes is

  module _ (test : Kind → Bool) (of : IsOfWaiting test) where
    form-copies : (x : State Name) (c : Module) → code_at modules x ≡ Some c → HasTypesIn modules x → (n : Node) → node_at c x.point ≡ Some n → CopiesKinds (Spares (one_of test)) c n.form x.frame.variables
    form-copies x c is has n at =
        more-copies IsPlainKind (Spares (one_of test)) (spares test of) c n.form x.frame.variables (typed-copies c x.frame.variables (has c is) exceptions program.processes n.form (typed-at x c is n (node-there c x.point n at)))

    next-copies : (x : State Name) (c : Module) → code_at modules x ≡ Some c → HasTypesIn modules x → (next : Next Name) → next_of c x ≡ next → CopiesNext (Spares (one_of test)) c x.frame next
    next-copies x c is has (a_statement n) next = form-copies x c is has n (stands c x n next).at
    next-copies x c is has (an_item item work) next = tt
    next-copies x c is has (a_reply call n) next = tt
    next-copies x c is has nothing next = tt

    begins-counted : (code number : ℕ) (port : Cell Name) (x : State Name) → (source modules).begin code number port ≡ Some x → how_many test (kinds_by (source modules) x) ≡ how_many test (kinds_of port)
    begins-counted code number port x e =
        let m = map-some (λ c. begin c code number port) (slice_get modules.codes code) x e in
        let is : code_at modules x ≡ Some m.0 = ap (λ (y : State Name). slice_get modules.codes y.module_number) (sym m.2) ∙ m.1 in
        let b : weight_made nameless own_name x.frame + load nameless (one_of test) port ≡ 0 + load_kept nameless (one_of test) x.frame + 0 =
        subst (λ (y : State Name). weight_made nameless own_name y.frame + load nameless (one_of test) port ≡ 0 + load_kept nameless (one_of test) y.frame + 0) m.2 (balanced-begin nameless (one_of test) own_name (spares test of) m.0 code number port) in
        omega (arith, b, nothing-made test (λ s. own_name (x.frame.number, s)) 0 x.frame.serial, of-held test modules x m.0 is, of-cell test port)

    steps-counted : (x y : State Name) → HasTypesIn modules x → (source modules).local_step x ≡ Some y → how_many test (kinds_by (source modules) y) ≡ how_many test (kinds_by (source modules) x)
    steps-counted x y has e =
        let c = local-code modules x y e in
        let there = code-stays modules x y c.0 c.1 (local-stays own_name c.0 x y c.2).1 in
        let b = balanced-step_next nameless (one_of test) own_name (spares test of) 0 (load_kept nameless (one_of test) x.frame) c.0 x y (next_of c.0 x) (next-copies x c.0 c.1 has (next_of c.0 x) refl)
        (omega (arith, nothing-made test (λ s. own_name (x.frame.number, s)) 0 x.frame.serial)) c.2 in
        omega (arith, b, nothing-made test (λ s. own_name (y.frame.number, s)) 0 y.frame.serial, of-held test modules x c.0 c.1, of-held test modules y c.0 there)

    agrees-item : (c : Module) (y : State Name) (item : Cell Name) (want : CellWant Name) (a : CellAction Name) → work_wants item ≡ Some want → Answers want a → Agrees test of modules c y want a 0 (one_of test (kind_of item))
    agrees-item c y item want a is answers = held.agrees-item (source modules) test y item want a is answers

    statement-wants : (c : Module) (n : Node) (b : Frame Name) (want : CellWant Name) (t : Bool) → cond t (wants own_name c n.form b) None ≡ Some want → wants own_name c n.form b ≡ Some want
    statement-wants c n b want true is = is
    statement-wants c n b want false is = none-not_some is

    agrees-next : (c : Module) (x y : State Name) (there : code_at modules y ≡ Some c) (number : y.frame.number ≡ x.frame.number) (want : CellWant Name) (at : ℕ) (a : CellAction Name) (next : Next Name) → next_of c x ≡ next
        → wanted_next own_name c x.frame next ≡ Some want → Answers want a → settle_next own_name c x at a next ≡ Some y
        → Agrees test of modules c y want a (begun_next (one_of test) own_name c x.frame a next) (over_next (one_of test) c x.frame a next)
    agrees-next c x y there number want at a (an_item item work) is wants' answers does = agrees-item c y item want a wants' answers
    agrees-next c x y there number want at a (a_reply call n) is wants' answers does = subst (λ w. Answers w a → Agrees test of modules c y w a 0 0) (some-injective wants') (held.agrees-hear (source modules) test y a) answers
    agrees-next c x y there number want at a (a_statement n) is wants' answers does =
        agrees-statement test of modules c x y there number n (stands c x n is) n.form want at a refl (statement-wants c n x.frame want (is_action c n.form) wants') answers does
    agrees-next c x y there number want at a nothing is wants' answers does = none-not_some wants'

    answers-counted : (x y : State Name) (want : CellWant Name) (at : ℕ) (a : CellAction Name) → HasTypesIn modules x → (source modules).wanted x ≡ Some want → Answers want a → (source modules).answered x at a ≡ Some y
        → how_many test (kinds_by (source modules) y) + how_many test (kinds_going (source modules) x want a) + how_many test (kinds_ended want)
        ≡ how_many test (kinds_by (source modules) x) + how_many test (kinds_coming a) + how_many test (kinds_made (source modules) y a)
    answers-counted x y want at a has wants' answers e =
        let c = answer-code modules x y at a e in
        let d = chain-some (λ c. wanted own_name c x) (code_at modules x) want wants' in
        let same : d.0 ≡ c.0 = some-injective (sym d.1 ∙ c.1) in
        let wants_it : wanted own_name c.0 x ≡ Some want = subst (λ (k : Module). wanted own_name k x ≡ Some want) same d.2 in
        let stay = answer-stays own_name c.0 x y at a c.2 in
        let there = code-stays modules x y c.0 c.1 stay.1 in
        let b = balanced-settle_next nameless (one_of test) own_name (spares test of) c.0 x y want at a (next_of c.0 x) refl wants_it c.2 (next-copies x c.0 c.1 has (next_of c.0 x) refl) in
        let agree = agrees-next c.0 x y there stay.0 want at a (next_of c.0 x) refl wants_it answers c.2 in
        omega (
          arith,
          b,
          agree,
          nothing-made test (λ s. own_name (x.frame.number, s)) 0 x.frame.serial,
          nothing-made test (λ s. own_name (y.frame.number, s)) 0 y.frame.serial,
          of-held test modules x c.0 c.1,
          of-held test modules y c.0 there,
          of-coming test a,
          of-going test modules x want a,
        )

pub typed-programs-keep-counts : TypedProgramsKeepCounts
typed-programs-keep-counts exceptions program modules accepted typed = record {
  begins = λ test of code number port x e. begins-counted exceptions program modules accepted typed test of code number port x e;
  local_steps = λ test of x y has e. steps-counted exceptions program modules accepted typed test of x y has e;
  answers = λ test of x y want at a has wants answers e. answers-counted exceptions program modules accepted typed test of x y want at a has wants answers e;
}
