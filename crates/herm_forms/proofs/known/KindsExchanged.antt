-- What a process wants of a place is of the kinds that its cells are of, and what comes in keeps them.
use Rattle.std.proofs.Common.{◌≡◌, refl, ℕ, suc, ◌+◌, List, [], ◌∷◌, Option, Some, None, option_map, option_and_then}
use Rattle.std.specs.Prelude.{⊤, nat_eq, flat_map, map}
use Rattle.herm_model.specs.Paths.{Path}
use Rattle.herm_model.specs.Types.{Mode, by_in, by_inout, by_out, Parameter}
use Rattle.herm_model.specs.Outcomes.{ok, arm, raised, disconnected}
use Rattle.herm_model.specs.Statements.{Form, New, Send, Receive, Select, Call, Return, ReturnBy, Create}
use Rattle.herm_model.specs.Expressions.{Atom}
use Rattle.herm_model.specs.Calls.{call_parameters}
use Rattle.herm_model.specs.FactsOfStatements.{set_by_call}
use Rattle.herm_model.specs.Values.{Kind, a_callmessage, an_outport, an_inport, Cell, cell, Parts, no_parts, gap, part, cell_at, read_at}
use Rattle.herm_model.specs.CellNames.{copy_in, count_in}
use Rattle.herm_forms.specs.Evaluate.{Evaluated, gives, raises, no_value, atom_value}
use Rattle.herm_journal.specs.Actions.{Reply, values, gone, new_port, new_process, to_put, to_take, to_close, to_answer, to_hear, make_port, make_process, put, take, close, answer, hear}
use Rattle.herm_journal.specs.Actions
use Rattle.herm_forms.specs.Frames.{Name, Frame, Completion, if_there, finalise_all, finalise_at_once, cleared, drop, putting, Taken, with_taken, take_all}
use Rattle.herm_forms.specs.Exchanges
use Rattle.herm_forms.specs.ClosesAndAnswers
use Rattle.herm_forms.specs.Callmessages as callmessages
use Rattle.herm_forms.specs.ReturnForms
use Rattle.herm_forms.specs.HearReply
use Rattle.herm_journal.specs.Messages.{CellReply, CellAction}
use Rattle.herm_forms.specs.Exchanges.{receive_at, place_of_port, ports_at, inport_at, outport_at}
use Rattle.herm_forms.specs.Callmessages.{Composed, compose, assemble, with_message}
use Rattle.herm_forms.specs.ReturnForms.{caller_of}
use Rattle.herm_forms.specs.Forms.{inport_number, outport_number}
use Rattle.herm_forms.specs.Excess.{excess_over_full, excess_over_declared}
use Rattle.herm_forms.specs.Modules.{Module}
use Rattle.herm_forms.specs.Acts.{wants, arguments_at, is_inout, is_out, input_of, inputs_of, composed, kept_at, left_at, given_back, given_at, given_by, settle, settle_reply}
use Rattle.herm_journal.specs.Kinds.{HasKinds, HaveKinds, AllKinds, IfWant, AllPorts, ReplyKinds, ActionKinds}
use Rattle.herm_forms.proofs.known.HeldKinds.{IfKinds, cell-kinds, read-kinds, copy-kinds_in}
use Rattle.herm_forms.proofs.known.KindsKept.{AllowsPlain, IfParts, GivesKinds, BodyKinds, atom-kinds, All, went, stayed, never, is-all, is-end, is-cleared, is-drop, all-cond, all-there, all-putting, all-putting_all, all-taking, all-moving, all-making, IfInport, inport-kinds}

-- an argument in front of more
module _ (of : Kind → Type 0) where
  map-inputs : (v : Cell ⊤) (o : Option (Parts ⊤)) → HasKinds of v → IfParts of o → IfParts of (option_map (part v) o)
  map-inputs v None h k = tt
  map-inputs v (Some ps) h k = (h, k)

  pub inputs-from : (mode : Mode) (v : Evaluated) (more : Option (Parts ⊤)) → (mode ≡ by_in → GivesKinds of v) → IfParts of more → IfParts of (input_of mode v more)
  inputs-from by_in (gives v) more h k = map-inputs v more (h refl) k
  inputs-from by_in (raises e) more h k = tt
  inputs-from by_in no_value more h k = tt
  inputs-from by_inout v more h k = k
  inputs-from by_out v more h k = k

module _ {N : Type 0} (name : Name → N) (of : Kind → Type 0) (allows : AllowsPlain of) where
  -- what was taken out of paths, and a composed callmessage
  abbrev pub IfTaken : Option (Taken N) → Type 0
  IfTaken None = Unit {0}
  IfTaken (Some t) = AllKinds of t.cells × BodyKinds of t.frame

  abbrev pub IfComposed : Option (Composed N) → Type 0
  IfComposed None = Unit {0}
  IfComposed (Some c) = HasKinds of c.message × BodyKinds of c.frame

  with-taken : (c : Cell N) (o : Option (Taken N)) → HasKinds of c → IfTaken o → IfTaken (with_taken c o)
  with-taken c None h k = tt
  with-taken c (Some t) h k = ((h, k.0), k.1)

  took : (o : Option (Cell N)) (next : Option (Taken N)) → IfKinds of o → IfTaken next → IfTaken (elim o [ None ↦ None | Some c ↦ with_taken c next ])
  took None next h k = tt
  took (Some c) next h k = with-taken c next h k

  take-all : (paths : List Path) (b : Frame N) → BodyKinds of b → IfTaken (take_all paths b)
  take-all [] b e = (tt, e)
  take-all (p ∷ paths) b e = took (cell_at p b.variables) (take_all paths (cleared p b)) (cell-kinds of p b.variables e.0) (take-all paths (cleared p b) (is-cleared name of allows p b e))

  map-parts : (f : Parts N → Parts N) (o : Option (Parts N)) → ((ps : Parts N) → HaveKinds of ps → HaveKinds of (f ps)) → IfParts of o → IfParts of (option_map f o)
  map-parts f None on h = tt
  map-parts f (Some ps) on h = on ps h

  assemble-kinds : (modes : List Mode) (copies : Parts N) (moved : List (Cell N)) → HaveKinds of copies → AllKinds of moved → IfParts of (assemble modes copies moved)
  assemble-kinds [] no_parts [] h k = tt
  assemble-kinds (by_in ∷ modes) (part c copies) moved h k = map-parts (part c) (assemble modes copies moved) (λ ps g. (h.0, g)) (assemble-kinds modes copies moved h.1 k)
  assemble-kinds (by_inout ∷ modes) copies (c ∷ moved) h k = map-parts (part c) (assemble modes copies moved) (λ ps g. (k.0, g)) (assemble-kinds modes copies moved h k.1)
  assemble-kinds (by_out ∷ modes) copies moved h k = map-parts gap (assemble modes copies moved) (λ ps g. g) (assemble-kinds modes copies moved h k)
  assemble-kinds modes copies moved h k = tt

  with-message : (b : Frame N) (o : Option (Parts N)) → BodyKinds of b → IfParts of o → IfComposed (option_map (with_message name b) o)
  with-message b None e h = tt
  with-message b (Some ps) e h = ((e.3 b.calls, h), e)

  compose-taken : (modes : List Mode) (copies : Parts N) (o : Option (Taken N)) → HaveKinds of copies → IfTaken o → IfComposed (option_and_then (λ taken. option_map (with_message name taken.frame) (assemble modes copies taken.cells)) o)
  compose-taken modes copies None h k = tt
  compose-taken modes copies (Some t) h k = with-message t.frame (assemble modes copies t.cells) k.1 (assemble-kinds modes copies t.cells h k.0)

  pub compose-kinds : (modes : List Mode) (inputs : Parts ⊤) (lost moved : List Path) (b : Frame N) → HaveKinds of inputs → BodyKinds of b → IfComposed (compose name modes inputs lost moved b)
  compose-kinds modes inputs lost moved b h e =
      compose-taken modes (copy_in (λ s. name (b.number, s)) b.serial inputs) (take_all moved (drop lost (record b { serial = b.serial + count_in inputs }))) (copy-kinds_in of (λ s. name (b.number, s)) b.serial inputs h)
      (take-all moved (drop lost (record b { serial = b.serial + count_in inputs })) (is-drop name of allows lost (record b { serial = b.serial + count_in inputs }) e))

  inputs-kinds : (parameters : List Parameter) (atoms : List Atom) (ps : Parts N) → HaveKinds of ps → IfParts of (inputs_of parameters atoms ps)
  inputs-kinds [] atoms ps h = tt
  inputs-kinds (p ∷ parameters) [] ps h = tt
  inputs-kinds (p ∷ parameters) (a ∷ atoms) ps h = inputs-from of p.mode (atom_value ps a) (inputs_of parameters atoms ps) (λ is. atom-kinds of allows ps a h) (inputs-kinds parameters atoms ps h)

  composed-inputs : (f : Parts ⊤ → Option (Composed N)) (o : Option (Parts ⊤)) → IfParts of o → ((ps : Parts ⊤) → HaveKinds of ps → IfComposed (f ps)) → IfComposed (option_and_then f o)
  composed-inputs f None h on = tt
  composed-inputs f (Some ps) h on = on ps h

  composed-kinds : (c : Module) (o : Path) (arguments : List Atom) (b : Frame N) → BodyKinds of b → IfComposed (composed name c o arguments b)
  composed-kinds c o arguments b e =
      composed-inputs _ (inputs_of (call_parameters c.types c.variables o) arguments b.variables) (inputs-kinds (call_parameters c.types c.variables o) arguments b.variables e.0)
      (λ inputs h. compose-kinds (map (λ p. p.mode) (call_parameters c.types c.variables o)) inputs (flat_map (λ p. excess_over_full c p b) (arguments_at c is_inout o arguments)) (arguments_at c is_inout o arguments) b h e)

  pub given-kinds : (c : Module) (paths : List Path) (b : Frame N) → BodyKinds of b → IfTaken (given_back c paths b)
  given-kinds c paths b e = take-all paths (drop (flat_map (λ p. excess_over_full c p b) paths) b) (is-drop name of allows (flat_map (λ p. excess_over_full c p b) paths) b e)

  -- the port that the outport at a path leads to, and that of an inport
  abbrev IfOutport : Option ℕ → Type 0
  IfOutport None = Unit {0}
  IfOutport (Some n) = of (an_outport n)

  outport-kinds : (c : Cell N) → HasKinds of c → IfOutport (outport_number c)
  outport-kinds (cell n (an_outport p) ps) h = h.0
  outport-kinds c h = tt

  outport-cell : (o : Option (Cell N)) → IfKinds of o → IfOutport (option_and_then outport_number o)
  outport-cell None h = tt
  outport-cell (Some c) h = outport-kinds c h

  inport-cell : (o : Option (Cell N)) → IfKinds of o → IfInport name of allows (option_and_then inport_number o)
  inport-cell None h = tt
  inport-cell (Some c) h = inport-kinds name of allows c h

  pub outport-path : (o : Path) (b : Frame N) → BodyKinds of b → IfOutport (outport_at o b)
  outport-path o b e = outport-cell (read_at o b.variables) (read-kinds of o b.variables e.0)

  pub inport-path : (i : Path) (b : Frame N) → BodyKinds of b → IfInport name of allows (inport_at i b)
  inport-path i b e = inport-cell (read_at i b.variables) (read-kinds of i b.variables e.0)

  -- what each form wants
  put-kinds : (n : ℕ) (o : Option (Cell N)) → of (an_outport n) → IfKinds of o → IfWant of (option_map (to_put n) o)
  put-kinds n None h k = tt
  put-kinds n (Some m) h k = (h, k)

  pub send-wants : (o : Option ℕ) (m : Option (Cell N)) → IfOutport o → IfKinds of m → IfWant of (option_and_then (λ port. option_map (to_put port) m) o)
  send-wants None m h k = tt
  send-wants (Some n) m h k = put-kinds n m h k

  call-put : (n : ℕ) (o : Option (Composed N)) → of (an_outport n) → IfComposed o → IfWant of (option_map (λ c. to_put n c.message) o)
  call-put n None h k = tt
  call-put n (Some c) h k = (h, k.0)

  pub call-wants : (o : Option ℕ) (k : Option (Composed N)) → IfOutport o → IfComposed k → IfWant of (option_and_then (λ port. option_map (λ c. to_put port c.message) k) o)
  call-wants None k h g = tt
  call-wants (Some n) k h g = call-put n k h g

  receive-wants : (o : Option ℕ) → IfInport name of allows o → IfWant {N = N} of (option_map (λ port. to_take (port ∷ [])) o)
  receive-wants None h = tt
  receive-wants (Some n) h = (h, tt)

  abbrev IfPorts : Option (List ℕ) → Type 0
  IfPorts None = Unit {0}
  IfPorts (Some ports) = AllPorts of ports

  port-before : (n : ℕ) (o : Option (List ℕ)) → of (an_inport n) → IfPorts o → IfPorts (option_map (n ∷◌) o)
  port-before n None h k = tt
  port-before n (Some ports) h k = (h, k)

  port-then : (o : Option ℕ) (more : Option (List ℕ)) → IfInport name of allows o → IfPorts more → IfPorts (option_and_then (λ port. option_map (port ∷◌) more) o)
  port-then None more h k = tt
  port-then (Some n) more h k = port-before n more h k

  pub ports-kinds : (paths : List Path) (b : Frame N) → BodyKinds of b → IfPorts (ports_at paths b)
  ports-kinds [] b e = tt
  ports-kinds (i ∷ paths) b e = port-then (inport_at i b) (ports_at paths b) (inport-path i b e) (ports-kinds paths b e)

  pub select-wants : (o : Option (List ℕ)) → IfPorts o → IfWant {N = N} of (option_map to_take o)
  select-wants None h = tt
  select-wants (Some ports) h = h

  abbrev IfCaller : Option (ℕ × ℕ) → Type 0
  IfCaller None = Unit {0}
  IfCaller (Some c) = of (a_callmessage c.0 c.1)

  caller-kinds : (c : Cell N) → HasKinds of c → IfCaller (caller_of c)
  caller-kinds (cell n (a_callmessage caller call) ps) h = h.0
  caller-kinds c h = tt

  pub caller-cell : (o : Option (Cell N)) → IfKinds of o → IfCaller (option_and_then caller_of o)
  caller-cell None h = tt
  caller-cell (Some c) h = caller-kinds c h

  answer-kinds : (reply : List (Cell N) → CellReply N) (c : ℕ × ℕ) (o : Option (Taken N)) → ((cs : List (Cell N)) → AllKinds of cs → ReplyKinds of (reply cs)) → of (a_callmessage c.0 c.1) → IfTaken o →
      IfWant of (option_map (λ t. to_answer c.0 c.1 (reply t.cells)) o)
  answer-kinds reply c None on h k = tt
  answer-kinds reply c (Some t) on h k = (h, on t.cells k.0)

  pub return-wants : (reply : List (Cell N) → CellReply N) (c : Option (ℕ × ℕ)) (o : Option (Taken N)) → ((cs : List (Cell N)) → AllKinds of cs → ReplyKinds of (reply cs)) → IfCaller c → IfTaken o →
      IfWant of (option_and_then (λ c. option_map (λ t. to_answer c.0 c.1 (reply t.cells)) o) c)
  return-wants reply None o on h k = tt
  return-wants reply (Some c) o on h k = answer-kinds reply c o on h k

  pub work-wants : (c : Cell N) → HasKinds of c → IfWant of (ClosesAndAnswers.work_wants c)
  work-wants (cell n (an_inport port) ps) h = h.0
  work-wants (cell n (a_callmessage caller call) ps) h = (h.0, tt)
  work-wants c h = tt

  pub wants-kinds : (c : Module) (form : Form) (b : Frame N) → BodyKinds of b → IfWant of (wants name c form b)
  wants-kinds c (New x) b e = tt
  wants-kinds c (Send x o) b e = send-wants (outport_at o b) (cell_at x (drop (excess_over_declared c o x b) b).variables) (outport-path o b e) (cell-kinds of x (drop (excess_over_declared c o x b) b).variables (is-drop name of allows (excess_over_declared c o x b) b e).0)
  wants-kinds c (Receive x i) b e = receive-wants (inport_at i b) (inport-path i b e)
  wants-kinds c (Select arms) b e = select-wants (ports_at (map (λ a. a.port) arms) b) (ports-kinds (map (λ a. a.port) arms) b e)
  wants-kinds c (Call o arguments) b e = call-wants (outport_at o b) (composed name c o arguments b) (outport-path o b e) (composed-kinds c o arguments b e)
  wants-kinds c (Return m) b e = return-wants values (option_and_then caller_of (cell_at m b.variables)) (given_back c (given_at c m) b) (λ cs h. h) (caller-cell (cell_at m b.variables) (cell-kinds of m b.variables e.0)) (given-kinds c (given_at c m) b e)
  wants-kinds c (ReturnBy m x) b e = return-wants (Actions.raised x) (option_and_then caller_of (cell_at m b.variables)) (given_back c (given_by c m x) b) (λ cs h. h) (caller-cell (cell_at m b.variables) (cell-kinds of m b.variables e.0)) (given-kinds c (given_by c m x) b e)
  wants-kinds c (Create o process) b e = tt
  wants-kinds c form b e = tt

  -- what each answer leaves
  all-new_inport : (x : Path) (a : CellAction N) (b : Frame N) → ActionKinds of a → BodyKinds of b → All name of allows (Exchanges.new_inport name x a b)
  all-new_inport x (make_port (Some k)) b h e = all-making name of allows (an_inport k) no_parts (putting x ok) b h tt e (λ d b' h' e'. all-putting name of allows x ok d b' h' e')
  all-new_inport x (make_port None) b h e = went _ b e
  all-new_inport x _ b h e = never

  all-create : (o : Path) (a : CellAction N) (b : Frame N) → ActionKinds of a → BodyKinds of b → All name of allows (Exchanges.create name o a b)
  all-create o (make_process code (Some made)) b h e =
      all-making name of allows (an_inport made.1) no_parts _ b h tt e (λ d b' h' e'. all-making name of allows (an_outport made.1) no_parts (putting o ok) b' (allows.outports made.1 h) tt e' (λ d' b'' h'' e''. all-putting name of allows o ok d' b'' h'' e''))
  all-create o (make_process code None) b h e = went _ b e
  all-create o _ b h e = never

  pub all-send : (lost : List Path) (x : Path) (a : CellAction N) (b : Frame N) → ActionKinds of a → BodyKinds of b → All name of allows (Exchanges.send lost x a b)
  all-send lost x (put (Some k) m) b h e = all-moving name of allows lost x _ b e (λ d b' h' e'. went ok b' e')
  all-send lost x (put None m) b h e = all-moving name of allows lost x _ b e (λ d b' h' e'. all-putting name of allows x (raised disconnected) m b' h e')
  all-send lost x _ b h e = never

  all-receive : (x : Path) (a : CellAction N) (b : Frame N) → ActionKinds of a → BodyKinds of b → All name of allows (Exchanges.receive x a b)
  all-receive x (take k m) b h e = all-putting name of allows x ok m b h e
  all-receive x _ b h e = never

  all-receive_at : (targets : List Path) (i place : ℕ) (m : Cell N) (b : Frame N) → HasKinds of m → BodyKinds of b → All name of allows (receive_at targets i place m b)
  all-receive_at [] i place m b h e = never
  all-receive_at (x ∷ targets) i place m b h e = all-cond name of allows (nat_eq i place) _ _ (all-putting name of allows x (arm place) m b h e) (all-receive_at targets (suc i) place m b h e)

  pub all-select : (targets ports : List Path) (from : ℕ) (a : CellAction N) (b : Frame N) → ActionKinds of a → BodyKinds of b → All name of allows (Exchanges.select targets ports from a b)
  all-select targets ports from (take k m) b h e = all-there name of allows _ (option_and_then (place_of_port 0 from) (ports_at ports b)) (λ place. all-receive_at targets 0 place m b h e)
  all-select targets ports from _ b h e = never

  all-composed : (next : Composed N → Completion N) (k : Option (Composed N)) → IfComposed k → ((c : Composed N) → BodyKinds of c.frame → All name of allows (next c)) → All name of allows (if_there next k)
  all-composed next None h on = never
  all-composed next (Some c) h on = on c h.1

  pub all-call : (k : Option (Composed N)) (outs : List Path) (a : CellAction N) → IfComposed k → ActionKinds of a → All name of allows (callmessages.call k outs a)
  all-call k outs (put (Some i) m) h g = all-composed _ k h (λ c e. stayed (record c.frame { call = Some c.call }) e)
  all-call k outs (put None m) h g = all-composed _ k h (λ c e. went (raised disconnected) (drop outs (finalise_at_once m c.frame)) (is-drop name of allows outs (finalise_at_once m c.frame) (is-end name of allows m c.frame g e)))
  all-call k outs _ h g = never

  all-taken : (next : Taken N → Completion N) (o : Option (Taken N)) → IfTaken o → ((t : Taken N) → BodyKinds of t.frame → All name of allows (next t)) → All name of allows (if_there next o)
  all-taken next None h on = never
  all-taken next (Some t) h on = on t h.1

  pub all-return : (taken : Option (Taken N)) (m : Path) (a : CellAction N) → IfTaken taken → All name of allows (ReturnForms.return taken m a)
  all-return taken m (answer k r) h = all-taken _ taken h (λ t e. all-taking name of allows m _ t.frame e (λ d b' g e'. went ok (finalise_at_once d b') (is-end name of allows d b' g e')))
  all-return taken m _ h = never

  all-hear_reply : (back outs : List Path) (keep left : ℕ → List Path) (r : CellReply N) (b : Frame N) → ReplyKinds of r → BodyKinds of b → All name of allows (HearReply.hear_reply back outs keep left r b)
  all-hear_reply back outs keep left (values cs) b h e = all-putting_all name of allows back ok cs b h e
  all-hear_reply back outs keep left (Actions.raised x cs) b h e = all-putting_all name of allows (keep x) (raised x) cs (drop (left x) b) h (is-drop name of allows (left x) b e)
  all-hear_reply back outs keep left gone b h e = went (raised disconnected) (drop outs b) (is-drop name of allows outs b e)

  pub all-hear_call : (back outs : List Path) (keep left : ℕ → List Path) (call : ℕ) (a : CellAction N) (b : Frame N) → ActionKinds of a → BodyKinds of b → All name of allows (HearReply.hear_call back outs keep left call a b)
  all-hear_call back outs keep left call (hear k r) b h e = all-cond name of allows (nat_eq k call) _ _ (all-hear_reply back outs keep left r (record b { call = None }) h e) never
  all-hear_call back outs keep left call _ b h e = never

  pub all-work : (item : Cell N) (a : CellAction N) (b : Frame N) → HasKinds of item → ActionKinds of a → BodyKinds of b → All name of allows (ClosesAndAnswers.work_done item a b)
  all-work item (close count left) b h g e = stayed (finalise_at_once item (finalise_all left b)) (is-end name of allows item (finalise_all left b) h (is-all name of allows left b g e))
  all-work item (answer k r) b h g e = stayed (finalise_at_once item b) (is-end name of allows item b h e)
  all-work item _ b h g e = never

  pub all-settle : (c : Module) (form : Form) (at : ℕ) (a : CellAction N) (b : Frame N) → ActionKinds of a → BodyKinds of b → All name of allows (settle name c form at a b)
  all-settle c (New x) at a b h e = all-new_inport x a b h e
  all-settle c (Send x o) at a b h e = all-send (excess_over_declared c o x b) x a b h e
  all-settle c (Receive x i) at a b h e = all-receive x a b h e
  all-settle c (Select arms) at a b h e = all-select (map (λ a. a.target) arms) (map (λ a. a.port) arms) at a b h e
  all-settle c (Call o arguments) at a b h e = all-call (composed name c o arguments b) (arguments_at c is_out o arguments) a (composed-kinds c o arguments b e) h
  all-settle c (Return m) at a b h e = all-return (given_back c (given_at c m) b) m a (given-kinds c (given_at c m) b e)
  all-settle c (ReturnBy m x) at a b h e = all-return (given_back c (given_by c m x) b) m a (given-kinds c (given_by c m x) b e)
  all-settle c (Create o process) at a b h e = all-create o a b h e
  all-settle c _ at a b h e = never

  pub all-settle_reply : (c : Module) (form : Form) (call : ℕ) (a : CellAction N) (b : Frame N) → ActionKinds of a → BodyKinds of b → All name of allows (settle_reply c form call a b)
  all-settle_reply c (Call o arguments) call a b h e = all-hear_call (set_by_call c.types c.variables o arguments) (arguments_at c is_out o arguments) (kept_at c o arguments) (left_at c o arguments) call a b h e
  all-settle_reply c _ call a b h e = never
