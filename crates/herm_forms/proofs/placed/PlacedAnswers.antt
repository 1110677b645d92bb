-- What is taken out of paths, composed and answered keeps a property of cells with the types of their places.
use Rattle.std.proofs.Common.{◌≡◌, ℕ, suc, ◌+◌, List, [], ◌∷◌, map, flat_map, find, Bool, true, false, cond, nat_eq, Option, Some, None, option_map, option_and_then, refl, sym, ap, subst, ◌∙◌, arith}
use Rattle.std.proofs.lemmas.Bool.{eqb-true}
use Rattle.std.specs.Prelude.{slice_get, IsTrue, ⊤}
use Rattle.herm_model.specs.Paths.{Path}
use Rattle.herm_model.specs.Types.{Shape, Mode, inport, type_at}
use Rattle.herm_model.specs.Expressions.{Atom}
use Rattle.herm_model.specs.Calls.{message_type, call_parameters}
use Rattle.herm_model.specs.FactsOfStatements.{set_by_call}
use Rattle.herm_model.specs.Statements.{Process, Arm, Form, New, Send, Receive, Select, Call, Return, ReturnBy, Create}
use Rattle.herm_model.specs.Outcomes.{ok, arm, raised}
use Rattle.herm_model.specs.Values.{Kind, an_inport, an_outport, Cell, cell, Parts, no_parts, cell_at}
use Rattle.herm_model.specs.CellNames.{count_in, copy_in}
use Rattle.herm_model.specs.TypedStatements.{IsTypedForm, IsReceived, port_type}
use Rattle.herm_model.specs.TypedExpressions.{HasShape}
use Rattle.herm_model.proofs.FactTests.{got-IsIn}
use Rattle.herm_model.proofs.Lists.{not_true}
use Rattle.herm_model.proofs.Options.{none-not_some, some-injective, chain-some}
use Rattle.herm_model.proofs.TypedCalls.{shape-is}
use Rattle.herm_journal.specs.Actions.{Reply, values, gone, make_port, make_process, put, take, close, answer, hear}
use Rattle.herm_journal.specs.Actions
use Rattle.herm_journal.specs.Messages.{CellAction, CellReply, is_inport, message_of_port}
use Rattle.herm_journal.specs.PartTypes.{IsPlaced}
use Rattle.herm_forms.specs.Frames.{Name, Frame, Completion, goes, stuck, if_there, finalise_at_once, drop, cleared, putting, Taken, with_taken, take_all}
use Rattle.herm_forms.specs.Exchanges
use Rattle.herm_forms.specs.Callmessages as callmessages
use Rattle.herm_forms.specs.ReturnForms
use Rattle.herm_forms.specs.HearReply
use Rattle.herm_forms.specs.Exchanges.{receive_at, place_of_port, ports_at}
use Rattle.herm_forms.specs.Callmessages.{Composed, compose, assemble, with_message}
use Rattle.herm_forms.specs.Excess.{excess_over_full, excess_over_declared}
use Rattle.herm_forms.specs.Modules.{Module}
use Rattle.herm_forms.specs.Acts.{is_action, is_inout, is_out, arguments_at, inputs_of, composed, given_back, given_at, given_by, kept_at, left_at, settle, settle_reply}
use Rattle.herm_forms.specs.Incoming.{leads_from, looked_at}
use Rattle.herm_forms.proofs.placed.PlacedParts.{Agrees, cell-typed}
use Rattle.herm_forms.proofs.placed.PlacedForms.{AllowsLocal, BodyIs, AllAre, cleared-is, drop-is, end-is, all-cond, all-there, all-putting, all-taking, outport-is}
use Rattle.herm_forms.proofs.placed.PlacedActions.{new-is, send-is, ArePlacedAt, putting-is}
use Rattle.herm_forms.proofs.typed.ActionForms.{arm-looked, found-only}

module _ (name : Name → Name) (c : Module) (P : ℕ → Kind → Type 0) (agrees : Agrees c.types P) (row : ℕ → Option ℕ) where
  abbrev Is : ℕ → Cell Name → Type 0
  Is t d = IsPlaced c.types P t d

  abbrev Typed : Path → ℕ → Type 0
  Typed p t = type_at c.types c.variables p ≡ Some t

  abbrev Own : Frame Name → Type 0
  Own b = BodyIs name c P agrees row b

  abbrev All : Completion Name → Type 0
  All r = AllAre name c P agrees row r

  -- each cell has the property at the type that its path has
  abbrev pub ArePlacedFor : List Path → List (Cell Name) → Type 0
  ArePlacedFor [] cs = ⊤
  ArePlacedFor (p ∷ paths) [] = ⊤
  ArePlacedFor (p ∷ paths) (d ∷ cs) = ((t : ℕ) × Typed p t × Is t d) × ArePlacedFor paths cs

  -- what was taken out of paths
  abbrev pub IfTaken : List Path → Option (Taken Name) → Type 0
  IfTaken paths None = ⊤
  IfTaken paths (Some t) = ArePlacedFor paths t.cells × Own t.frame

  with-taken : (p : Path) (paths : List Path) (d : Cell Name) (o : Option (Taken Name)) → (t : ℕ) × Typed p t × Is t d → IfTaken paths o → IfTaken (p ∷ paths) (with_taken d o)
  with-taken p paths d None h k = tt
  with-taken p paths d (Some t) h k = ((h, k.0), k.1)

  took : (p : Path) (paths : List Path) (o : Option (Cell Name)) (next : Option (Taken Name)) → ((d : Cell Name) → o ≡ Some d → (t : ℕ) × Typed p t × Is t d) → IfTaken paths next → IfTaken (p ∷ paths) (elim o [ None ↦ None | Some d ↦ with_taken d next ])
  took p paths None next h k = tt
  took p paths (Some d) next h k = with-taken p paths d next (h d refl) k

  there-typed : (p : Path) (b : Frame Name) → Own b → (d : Cell Name) → cell_at p b.variables ≡ Some d → (t : ℕ) × Typed p t × Is t d
  there-typed [] b e d at = none-not_some at
  there-typed (i ∷ q) b e d at = cell-typed c.types P agrees c.variables i q b.variables d e.0 at

  pub take-all : (paths : List Path) (b : Frame Name) → Own b → IfTaken paths (take_all paths b)
  take-all [] b e = (tt, e)
  take-all (p ∷ paths) b e =
      took p paths (cell_at p b.variables) (take_all paths (cleared p b)) (there-typed p b e) (take-all paths (cleared p b) (cleared-is name c P agrees row p b e))

  pub given-is : (paths : List Path) (b : Frame Name) → Own b → IfTaken paths (given_back c paths b)
  given-is paths b e = take-all paths (drop (flat_map (λ p. excess_over_full c p b) paths) b) (drop-is name c P agrees row (flat_map (λ p. excess_over_full c p b) paths) b e)

  -- the body behind a composed callmessage
  abbrev pub IfComposed : Option (Composed Name) → Type 0
  IfComposed None = ⊤
  IfComposed (Some x) = Own x.frame

  with-message : (b : Frame Name) (o : Option (Parts Name)) → Own b → IfComposed (option_map (with_message name b) o)
  with-message b None e = tt
  with-message b (Some ps) e = e

  compose-taken : (modes : List Mode) (copies : Parts Name) (paths : List Path) (o : Option (Taken Name)) → IfTaken paths o → IfComposed (option_and_then (λ taken. option_map (with_message name taken.frame) (assemble modes copies taken.cells)) o)
  compose-taken modes copies paths None h = tt
  compose-taken modes copies paths (Some t) h = with-message t.frame (assemble modes copies t.cells) h.1

  composed-inputs : (f : Parts ⊤ → Option (Composed Name)) (o : Option (Parts ⊤)) → ((ps : Parts ⊤) → IfComposed (f ps)) → IfComposed (option_and_then f o)
  composed-inputs f None on = tt
  composed-inputs f (Some ps) on = on ps

  pub composed-is : (o : Path) (arguments : List Atom) (b : Frame Name) → Own b → IfComposed (composed name c o arguments b)
  composed-is o arguments b e =
      let modes = map (λ p. p.mode) (call_parameters c.types c.variables o) in
      let moved = arguments_at c is_inout o arguments in
      let lost = flat_map (λ p. excess_over_full c p b) moved in
      composed-inputs _ (inputs_of (call_parameters c.types c.variables o) arguments b.variables)
      (λ inputs. let cut = record b { serial = b.serial + count_in inputs } in
      compose-taken modes (copy_in (λ s. name (b.number, s)) b.serial inputs) moved (take_all moved (drop lost cut)) (take-all moved (drop lost cut) (drop-is name c P agrees row lost cut e)))

  -- the message at the arm from whose port it came
  arms-is : (arms : List Arm) (n place : ℕ) (m : Cell Name) (b : Frame Name) → ((k : ℕ) (a : Arm) → slice_get arms k ≡ Some a → place ≡ n + k → (t : ℕ) × Typed a.target t × Is t m) → Own b
      → All (receive_at (map (λ a. a.target) arms) n place m b)
  arms-is [] n place m b on e = tt
  arms-is (a ∷ arms) n place m b on e = by (nat_eq n place) refl (arms-is arms (suc n) place m b (λ k x at same. on (suc k) x at (omega (arith, same))) e)
    where
      by : (t : Bool) → nat_eq n place ≡ t → All (receive_at (map (λ a. a.target) arms) (suc n) place m b) → All (cond t (putting a.target (arm place) m b) (receive_at (map (λ a. a.target) arms) (suc n) place m b))
      by true is more =
          let same = eqb-true n place is in
          let x = on 0 a refl (omega (arith, same)) in all-putting name c P agrees row a.target x.0 (arm place) m b x.1 x.2 e
      by false is more = more

  all-taken : (paths : List Path) (next : Taken Name → Completion Name) (o : Option (Taken Name)) → IfTaken paths o → ((t : Taken Name) → Own t.frame → All (next t)) → All (if_there next o)
  all-taken paths next None h on = tt
  all-taken paths next (Some t) h on = on t h.1

  all-composed : (next : Composed Name → Completion Name) (o : Option (Composed Name)) → IfComposed o → ((x : Composed Name) → Own x.frame → All (next x)) → All (if_there next o)
  all-composed next None h on = tt
  all-composed next (Some x) h on = on x h

  return-is : (paths : List Path) (taken : Option (Taken Name)) (m : Path) (t : ℕ) (a : CellAction Name) → Typed m t → IfTaken paths taken → All (ReturnForms.return taken m a)
  return-is paths taken m t (answer k r) type h = all-taken paths _ taken h (λ x e. all-taking name c P agrees row m t (λ d b. goes ok (finalise_at_once d b)) x.frame type e (λ d placed e'. end-is name c P agrees row d (cleared m x.frame) e'))
  return-is paths taken m t a type h = tt

  call-is : (x : Option (Composed Name)) (outs : List Path) (a : CellAction Name) → IfComposed x → All (callmessages.call x outs a)
  call-is x outs (put (Some i) m) h = all-composed _ x h (λ y e. e)
  call-is x outs (put None m) h = all-composed _ x h (λ y e. drop-is name c P agrees row outs (finalise_at_once m y.frame) (end-is name c P agrees row m y.frame e))
  call-is x outs a h = tt

  -- what comes in with the answer to a form's action has the property
  abbrev pub Arrives : List Process → (at : ℕ) → CellAction Name → Form → Frame Name → Type 0
  Arrives processes at (make_port (Some n)) (New x) b = (t : ℕ) → Typed x t → P t (an_inport n)
  Arrives processes at (make_process code (Some made)) (Create o process) b = (t : ℕ) → port_type processes process ≡ Some t → P t (an_inport made.1)
  Arrives processes at (put None m) (Send x o) b = (t : ℕ) → Typed x t → Is t m
  Arrives processes at (take k m) form b = (t : ℕ) × (looked_at c form b at ≡ Some t) × ((u : ℕ) → message_of_port c.types t ≡ Some u → Is u m)
  Arrives processes at a form b = ⊤

  received : (x i : Path) (m : Cell Name) (t : ℕ) → IsReceived c.types c.variables x i → Typed i t → ((u : ℕ) → message_of_port c.types t ≡ Some u → Is u m) → (u : ℕ) × Typed x u × Is u m
  received x i m t h type placed =
      let from = h.1 in
      let same : t ≡ from.0 = some-injective (sym type ∙ from.2.0) in
      (h.0, h.2.0.0, placed h.0 (ap (message_of_port c.types) same ∙ ap (option_and_then message_type) from.3))

  module _ (allows : AllowsLocal c.types P) (exceptions : ℕ) (processes : List Process) where
    new-answered : (x : Path) → IsTypedForm c.types c.variables exceptions processes (New x) → IsTrue (is_action c (New x)) → (at : ℕ) (a : CellAction Name) (b : Frame Name) → Arrives processes at a (New x) b → Own b → All (Exchanges.new_inport name x a b)
    new-answered x is acts at a b arrives e = by is.1 is.3 (subst (λ s. IsTrue (is_inport s)) (shape-is c.types c.variables x is.0 is.1 is.2.0.0 is.3) acts)
      where
        has : (a : CellAction Name) → Arrives processes at a (New x) b → (n : ℕ) → a ≡ make_port (Some n) → P is.0 (an_inport n)
        has a h n same = (subst (λ a. Arrives processes at a (New x) b) same h) is.0 is.2.0.0

        by : (s : Shape) → HasShape c.types is.0 s → IsTrue (is_inport (Some s)) → All (Exchanges.new_inport name x a b)
        by (inport message declared) shape acts = new-is name c P agrees row x is.0 message declared a b is.2.0.0 shape (has a arrives) e
        by s shape acts = not_true acts

    create-is : (o : Path) (process : ℕ) → IsTypedForm c.types c.variables exceptions processes (Create o process) → (at : ℕ) (a : CellAction Name) (b : Frame Name) → Arrives processes at a (Create o process) b → Own b → All (Exchanges.create name o a b)
    create-is o process is at (make_process code (Some made)) b arrives e =
        all-putting name c P agrees row o is.0 ok (cell (name (b.number, suc b.serial)) (an_outport made.1) no_parts) (record b { serial = suc (suc b.serial) }) is.2.0.0
        (outport-is name c P agrees row allows is.0 is.1 made.1 (name (b.number, suc b.serial)) is.3 (allows.connects is.0 is.1 made.1 is.3 (arrives is.1 is.4))) e
    create-is o process is at (make_process code None) b arrives e = e
    create-is o process is at a b arrives e = tt

    send-answered : (x o : Path) → IsTypedForm c.types c.variables exceptions processes (Send x o) → (at : ℕ) (a : CellAction Name) (b : Frame Name) → Arrives processes at a (Send x o) b → Own b → All (Exchanges.send (excess_over_declared c o x b) x a b)
    send-answered x o is at a b arrives e = send-is name c P agrees row (excess_over_declared c o x b) x is.0 a b is.2.0.0 (λ m same. (subst (λ a. Arrives processes at a (Send x o) b) same arrives) is.0 is.2.0.0) e

    receive-answered : (x i : Path) → IsTypedForm c.types c.variables exceptions processes (Receive x i) → (at : ℕ) (a : CellAction Name) (b : Frame Name) → Arrives processes at a (Receive x i) b → Own b → All (Exchanges.receive x a b)
    receive-answered x i is at (take k m) b arrives e =
        let found = chain-some (type_at c.types c.variables) (find (leads_from at b) (i ∷ [])) arrives.0 arrives.1 in
        let r = received x i m arrives.0 is (subst (λ i. Typed i arrives.0) (found-only at b i found.0 found.1) found.2) arrives.2 in
        all-putting name c P agrees row x r.0 ok m b r.1 r.2 e
    receive-answered x i is at a b arrives e = tt

    select-answered : (arms : List Arm) → IsTypedForm c.types c.variables exceptions processes (Select arms) → (at : ℕ) (a : CellAction Name) (b : Frame Name) → Arrives processes at a (Select arms) b → Own b
        → All (Exchanges.select (map (λ a. a.target) arms) (map (λ a. a.port) arms) at a b)
    select-answered arms is at (take k m) b arrives e =
        let ports = map (λ (a : Arm). a.port) arms in
        let found = chain-some (type_at c.types c.variables) (find (leads_from at b) ports) arrives.0 arrives.1 in
        all-there name c P agrees row _ (option_and_then (place_of_port 0 at) (ports_at ports b))
        (λ place there. arms-is arms 0 place m b
        (λ n a here same. received a.target a.port m arrives.0 (is.1 a (got-IsIn arms n a here))
        (ap (type_at c.types c.variables) (arm-looked arms b at 0 place found.0 found.1 there n a same here) ∙ found.2) arrives.2) e)
    select-answered arms is at a b arrives e = tt

    -- what an answer leaves
    pub settle-is : (form : Form) → IsTypedForm c.types c.variables exceptions processes form → IsTrue (is_action c form) → (at : ℕ) (a : CellAction Name) (b : Frame Name) → Arrives processes at a form b → Own b → All (settle name c form at a b)
    settle-is (New x) is acts at a b arrives e = new-answered x is acts at a b arrives e
    settle-is (Send x o) is acts at a b arrives e = send-answered x o is at a b arrives e
    settle-is (Receive x i) is acts at a b arrives e = receive-answered x i is at a b arrives e
    settle-is (Select arms) is acts at a b arrives e = select-answered arms is at a b arrives e
    settle-is (Call o arguments) is acts at a b arrives e = call-is (composed name c o arguments b) (arguments_at c is_out o arguments) a (composed-is o arguments b e)
    settle-is (Return m) is acts at a b arrives e = return-is (given_at c m) (given_back c (given_at c m) b) m is.1.0 a is.1.2.0.0 (given-is (given_at c m) b e)
    settle-is (ReturnBy m x) is acts at a b arrives e = return-is (given_by c m x) (given_back c (given_by c m x) b) m is.1.0 a is.1.2.0.0 (given-is (given_by c m x) b e)
    settle-is (Create o process) is acts at a b arrives e = create-is o process is at a b arrives e
    settle-is form is acts at a b arrives e = tt

  -- the reply's values are placed at the paths that they go to
  abbrev pub Replies : Path → List Atom → CellReply Name → Type 0
  Replies o arguments (values cs) = ArePlacedAt name c P agrees row (set_by_call c.types c.variables o arguments) cs
  Replies o arguments (Actions.raised x cs) = ArePlacedAt name c P agrees row (kept_at c o arguments x) cs
  Replies o arguments gone = ⊤

  heard-is : (o : Path) (arguments : List Atom) (r : CellReply Name) (b : Frame Name) → Replies o arguments r → Own b
      → All (HearReply.hear_reply (set_by_call c.types c.variables o arguments) (arguments_at c is_out o arguments) (kept_at c o arguments) (left_at c o arguments) r b)
  heard-is o arguments (values cs) b h e = putting-is name c P agrees row (set_by_call c.types c.variables o arguments) ok cs b h e
  heard-is o arguments (Actions.raised x cs) b h e = putting-is name c P agrees row (kept_at c o arguments x) (raised x) cs (drop (left_at c o arguments x) b) h (drop-is name c P agrees row (left_at c o arguments x) b e)
  heard-is o arguments gone b h e = drop-is name c P agrees row (arguments_at c is_out o arguments) b e

  -- what the reply to an open call leaves
  pub reply-is : (form : Form) (call : ℕ) (a : CellAction Name) (b : Frame Name) → ((o : Path) (arguments : List Atom) (n : ℕ) (r : CellReply Name) → form ≡ Call o arguments → a ≡ hear n r → Replies o arguments r) → Own b
      → All (settle_reply c form call a b)
  reply-is (Call o arguments) call (hear n r) b h e =
      all-cond name c P agrees row (nat_eq n call) _ stuck (heard-is o arguments r (record b { call = None }) (h o arguments n r refl refl) e) tt
  reply-is (Call o arguments) call a b h e = tt
  reply-is form call a b h e = tt
