-- What a typed form that is an action wants is there.
use Rattle.std.proofs.Common.{◌≡◌, ◌⊎◌, inl, inr, ℕ, ◌+◌, List, [], ◌∷◌, ◌++◌, map, flat_map, Bool, false, Option, Some, option_map, option_and_then, refl, sym, ap, ◌∙◌, subst, slice_get, arith}
use Rattle.std.specs.Prelude.{IsTrue, IsFalse}
use Rattle.herm_model.specs.Lists.{IsIn, list_of, map_or}
use Rattle.herm_model.specs.Paths.{Path, Fact, init}
use Rattle.herm_model.specs.Types.{Shape, outport, inport, callmessage, Parameter, Raised, type_at, passes_component, is_within_depth, greatest_depth}
use Rattle.herm_model.specs.Expressions.{Atom}
use Rattle.herm_model.specs.TypedExpressions.{HasShape}
use Rattle.herm_model.specs.Calls.{call_parameters, is_given, parameters_of, raises_of, shape_at, returned_places, kept_for}
use Rattle.herm_model.specs.Statements.{Form, Arm, New, Send, Receive, Select, Call, Return, ReturnBy, Create, Process, Differ}
use Rattle.herm_model.specs.FactsOfStatements.{sent_to, room_for, present, full, full_of_each, needs, given, set_by_call, returned, returned_by, parameters_at}
use Rattle.herm_model.specs.TypedStatements.{AreArguments, IsReceived, IsLookedAt, IsReturned}
use Rattle.herm_model.specs.Values.{Kind, a_callmessage, an_outport, Cell, cell, cell_at}
use Rattle.herm_model.specs.CellNames.{count_in, copy_in}
use Rattle.herm_model.specs.Typed.{partly, unfit, layout, Fits, HasType}
use Rattle.herm_model.proofs.FactTests.{got-IsIn}
use Rattle.herm_model.proofs.Lists.{not_true, in-map, in-map_from, in-flat_map, in-flat_map_from, in-append_left, in-append_right}
use Rattle.herm_model.proofs.Options.{none-not_some}
use Rattle.herm_model.proofs.TypedCalls.{shape-is, inport-is, parameters-are, parameter-path, returned-there, kept-declared}
use Rattle.herm_journal.specs.Actions.{values, to_put, to_take, to_answer, new_port, new_process}
use Rattle.herm_journal.specs.Actions
use Rattle.herm_journal.specs.Messages.{CellReply, CellWant}
use Rattle.herm_forms.specs.Frames.{Name, Frame, drop, Taken}
use Rattle.herm_forms.specs.Forms.{inport_number, outport_number}
use Rattle.herm_forms.specs.Exchanges.{inport_at, outport_at, ports_at}
use Rattle.herm_forms.specs.Callmessages.{Composed, with_message, compose, assemble}
use Rattle.herm_forms.specs.ReturnForms.{caller_of, return_wants}
use Rattle.herm_forms.specs.Excess.{excess_over_full, excess_over_declared}
use Rattle.herm_forms.specs.Modules.{Module}
use Rattle.herm_forms.specs.Acts.{is_action, is_inout, arguments_at, composed, given_back, wants}
use Rattle.herm_forms.specs.laws.EdgeLaws.{AreSound}
use Rattle.herm_forms.specs.laws.CallLaws.{HaveTypesAt}
use Rattle.herm_forms.specs.laws.TypedForms.{IsTypedIn}
use Rattle.herm_forms.proofs.Arrived.{to-direct}
use Rattle.herm_forms.proofs.forms.MovedContents.{typed-at}
use Rattle.herm_forms.proofs.forms.SentMessages.{source-held, rest-there}
use Rattle.herm_forms.proofs.called.OpenCalls.{arguments-split}
use Rattle.herm_forms.proofs.called.CallMessages.{given-mode}
use Rattle.herm_forms.proofs.called.TakenParts.{part_path, parts-AreApart}
use Rattle.herm_forms.proofs.typed.WantKinds.{put-in, put-message}
use Rattle.herm_forms.proofs.typed.TypedAtoms.{typed-atoms}
use Rattle.herm_forms.proofs.typed.LocalForms.{path-deep}
use Rattle.herm_model.proofs.ThereFacts.{listed-there}
use Rattle.herm_forms.proofs.typed.CalledForms.{lent-typed, lent-direct, lent-apart}
use Rattle.herm_forms.proofs.called.SetArguments.{typed-called}
use Rattle.herm_forms.proofs.typed.Room.{value-there}
use Rattle.herm_forms.proofs.typed.LocalGoes.{asked, looked-there, has-inport}
use Rattle.herm_forms.proofs.typed.TakesThere.{takes-there, fit-there, assembles-there, returned-differ}
use Rattle.herm_model.proofs.DifferentOutcomes.{Rise-Differ}
use Rattle.herm_model.proofs.TypedArguments.{kept-rise}

module _ (exceptions : ℕ) (processes : List Process) (c : Module) where
  -- a value of an outport type is an outport, and one of a callmessage type a callmessage
  has-outport : (t port : ℕ) (d : Cell Name) → HasShape c.types t (outport port) → HasType c.types t d → (k : ℕ) × (outport_number d ≡ Some k)
  has-outport t port (cell n kind ps) shape h = by kind (subst (λ o. Fits c.types (map_or unfit (λ s. layout partly s kind) o) ps) shape h.0)
    where
      by : (kind : Kind) → Fits c.types (layout partly (outport port) kind) ps → (k : ℕ) × (outport_number (cell n kind ps) ≡ Some k)
      by (an_outport k) h = (k, refl)
      by kind h = absurd h

  has-caller : (t : ℕ) (parameters : List Parameter) (raises : List Raised) (d : Cell Name) → HasShape c.types t (callmessage parameters raises) → HasType c.types t d → (k : ℕ × ℕ) × (caller_of d ≡ Some k)
  has-caller t parameters raises (cell n kind ps) shape h = by kind (subst (λ o. Fits c.types (map_or unfit (λ s. layout partly s kind) o) ps) shape h.0)
    where
      by : (kind : Kind) → Fits c.types (layout partly (callmessage parameters raises) kind) ps → (k : ℕ × ℕ) × (caller_of (cell n kind ps) ≡ Some k)
      by (a_callmessage caller call) h = ((caller, call), refl)
      by kind h = absurd h

  module _ (form : Form) (is : IsTypedIn exceptions processes c form) (has : Fact → Bool) (b : Frame Name) (sound : AreSound c has b.variables) where
    pub inport-there : (i : Path) (port message : ℕ) (declared : List Fact) → IsLookedAt c.types c.variables i port → HasShape c.types port (inport message declared) → ((f : Fact) → IsIn f (present c.types c.variables i) → IsTrue (has f)) → (k : ℕ) × (inport_at i b ≡ Some k)
    inport-there i port message declared at shape held =
        let d = looked-there exceptions processes c form is has b.variables sound i port at held in
        let k = has-inport exceptions processes c port message declared d.0 shape d.2 in
        (k.0, ap (option_and_then inport_number) d.1 ∙ k.1)

    pub outport-there : (o : Path) (t port : ℕ) → IsLookedAt c.types c.variables o t → HasShape c.types t (outport port) → ((f : Fact) → IsIn f (present c.types c.variables o) → IsTrue (has f)) → (k : ℕ) × (outport_at o b ≡ Some k)
    outport-there o t port at shape held =
        let d = looked-there exceptions processes c form is has b.variables sound o t at held in
        let k = has-outport t port d.0 shape d.2 in
        (k.0, ap (option_and_then outport_number) d.1 ∙ k.1)

    -- the ports of arms
    pub ports-there : (arms : List Arm) → ((a : Arm) → IsIn a arms → IsReceived c.types c.variables a.target a.port) → ((f : Fact) → IsIn f (flat_map (λ (a : Arm). present c.types c.variables a.port) arms) → IsTrue (has f))
        → (ports : List ℕ) × (ports_at (map (λ (a : Arm). a.port) arms) b ≡ Some ports)
    ports-there [] typed held = ([], refl)
    ports-there (a ∷ arms) typed held =
        let from = (typed a (inl refl)).1 in
        let k = inport-there a.port from.0 (typed a (inl refl)).0 from.1 from.2 from.3 (λ f h. held f (in-append_left f (present c.types c.variables a.port) (flat_map (λ (a : Arm). present c.types c.variables a.port) arms) h)) in
        let more = ports-there arms (λ x h. typed x (inr h)) (λ f h. held f (in-append_right f (present c.types c.variables a.port) (flat_map (λ (a : Arm). present c.types c.variables a.port) arms) h)) in
        (k.0 ∷ more.0, ap (option_and_then (λ port. option_map (port ∷◌) (ports_at (map (λ (a : Arm). a.port) arms) b))) k.1 ∙ ap (option_map (k.0 ∷◌)) more.1)

  -- the message of a `send`
  pub source-there : (x o : Path) (is : IsTypedIn exceptions processes c (Send x o)) (has : Fact → Bool) (needed : (f : Fact) → IsIn f (needs c.types c.variables (Send x o)) → IsTrue (has f)) (b : Frame Name) → AreSound c has b.variables
      → (d : Cell Name) × (cell_at x b.variables ≡ Some d) × (rest : Cell Name) × (cell_at x (drop (excess_over_declared c o x b) b).variables ≡ Some rest)
  source-there [] o is has needed b sound = none-not_some is.typed.2.0.0
  source-there (i ∷ q) o is has needed b sound =
      let h = is.typed in
      let leads = inport-is c.types c.variables o h.0 h.1 in
      let deep = path-deep exceptions processes c (Send (i ∷ q) o) is i q h.0 h.2.0.0 in
      let facts = listed-there exceptions c.types h.1.1 h.0 h.1.2 is.table h.1.5 in
      let d = value-there c has b.variables sound i q (source-held c i q has b sound h.0 h.1.1 h.1.2 o h.2.0.0 deep leads h.1.5 facts needed) in
      let r = rest-there c i q has b sound h.0 h.1.1 h.1.2 o h.2.0.0 deep leads h.1.5 facts needed d.0 d.1 in
      (d.0, d.1, r.0, r.1)

  -- the callmessage of a call
  pub composed-there : (name : Name → Name) (o : Path) (arguments : List Atom) (is : IsTypedIn exceptions processes c (Call o arguments)) (has : Fact → Bool) (needed : (f : Fact) → IsIn f (needs c.types c.variables (Call o arguments)) → IsTrue (has f)) (b : Frame Name)
      → AreSound c has b.variables → (x : Composed Name) × (composed name c o arguments b ≡ Some x)
  composed-there name o arguments is has needed b sound =
      let h = is.typed in
      let params = call_parameters c.types c.variables o in
      let same = parameters-are c.types c.variables o h.0 h.3 h.1 h.2 h.4 in
      let modes = map (λ (p : Parameter). p.mode) params in
      let inputs = (typed-atoms exceptions processes c).called o arguments is has b.variables sound needed in
      let moved = arguments_at c is_inout o arguments in
      let lost = flat_map (λ p. excess_over_full c p b) moved in
      let cut = record b { serial = b.serial + count_in inputs.1 } in
      let copies = copy_in (λ s. name (b.number, s)) b.serial inputs.1 in
      let before = flat_map (room_for c.types c.variables) (set_by_call c.types c.variables o arguments) ++ present c.types c.variables o in
      let fulls = full_of_each c.types c.variables (given c.types c.variables o arguments) in
      let held : (f : Fact) → IsIn f (full_of_each c.types c.variables moved) → IsTrue (has f) = λ f m.
      (let y = in-flat_map_from (full c.types c.variables) f moved m in
      asked exceptions processes c (Call o arguments) is has needed f (in-append_right f before fulls (in-flat_map (full c.types c.variables) y.0 f (given c.types c.variables o arguments) (among y.0 y.1) y.2))) in
      let there = fit-there c has b sound moved _ (lent-typed exceptions c o arguments (typed-called exceptions processes c o arguments is)) (lent-apart exceptions c o arguments (typed-called exceptions processes c o arguments is)) (lent-direct exceptions c o arguments (typed-called exceptions processes c o arguments is)) held cut refl in
      let t = takes-there moved (lent-apart exceptions c o arguments (typed-called exceptions processes c o arguments is)) (drop lost cut) there in
      let ps = assembles-there c (λ s. name (b.number, s)) b.variables params arguments (subst (λ params. AreArguments c.types c.variables params arguments) (sym same) h.5) inputs.1 b.serial t.0.cells inputs.2 t.2 in (
        with_message name t.0.frame ps.0,
        ap (option_and_then (λ inputs. compose name modes inputs lost moved b)) inputs.2
            ∙ ap (option_and_then (λ (taken : Taken Name). option_map (with_message name taken.frame) (assemble modes copies taken.cells))) t.1 ∙ ap (option_map (with_message name t.0.frame)) ps.1,
      )
    where
      among : (x : Path) → IsIn x (arguments_at c is_inout o arguments) → IsIn x (given c.types c.variables o arguments)
      among x h = by (arguments-split is_inout is_given is_given given-mode (call_parameters c.types c.variables o) arguments x h)
        where
          by : IsIn x (given c.types c.variables o arguments) ⊎ IsIn x (given c.types c.variables o arguments) → IsIn x (given c.types c.variables o arguments)
          by (inl h) = h
          by (inr h) = h

  -- the callmessage of a return, and what is given back of it
  module _ (i : ℕ) (q : List ℕ) (raises : List Raised) (of : IsReturned c.types c.variables (i ∷ q) raises) (form : Form) (is : IsTypedIn exceptions processes c form) (places : List ℕ) (differ : Differ places)
      (known : (n : ℕ) → IsIn n places → (p : Parameter) × (slice_get of.1 n ≡ Some p)) (has : Fact → Bool) (b : Frame Name) (sound : AreSound c has b.variables)
      (source : (f : Fact) → IsIn f (present c.types c.variables (i ∷ q)) → IsTrue (has f)) (held : (f : Fact) → IsIn f (full_of_each c.types c.variables (parameters_at c.types c.variables (i ∷ q) places)) → IsTrue (has f)) where
    abbrev paths : List Path
    paths = map (part_path i q) places

    part-at : (n : ℕ) → IsIn n places → (p : Parameter) × (slice_get of.1 n ≡ Some p) × (type_at c.types c.variables (part_path i q n) ≡ Some p.content) × IsFalse (passes_component c.types c.variables (part_path i q n))
    part-at n h =
        let p = known n h in
        let x = parameter-path c.types c.variables (i ∷ q) of.0 n of.1 raises p.0 of.2 of.3 p.1 in
        (p.0, p.1, x.0, x.1)

    content-deep : (p : Parameter) → IsIn p of.1 → IsTrue (is_within_depth greatest_depth c.types p.content)
    content-deep p h = is.table.shallow p.content (is.table.types_known of.0 (callmessage of.1 raises) of.3 p.content (in-map (λ (q : Parameter). q.content) p of.1 h))

    types-of : (ns : List ℕ) → ((n : ℕ) → IsIn n ns → IsIn n places) → (ts : List ℕ) × HaveTypesAt c (map (part_path i q) ns) ts
    types-of [] among = ([], tt)
    types-of (n ∷ ns) among =
        let p = part-at n (among n (inl refl)) in
        let more = types-of ns (λ k h. among k (inr h)) in
        (p.0.content ∷ more.0, (p.2, content-deep p.0 (got-IsIn of.1 n p.0 p.1), more.1))

    pub given-there : (t : Taken Name) × (given_back c (parameters_at c.types c.variables (i ∷ q) places) b ≡ Some t)
    given-there =
        let ts = types-of places (λ n h. h) in
        let apart = parts-AreApart i q places differ in
        let there = fit-there c has b sound paths ts.0 ts.1 apart (λ x h. let n = in-map_from (part_path i q) x places h in subst (λ x. passes_component c.types c.variables x ≡ false) (sym n.2) (part-at n.0 n.1).3) held b refl in
        let t = takes-there paths apart (drop (flat_map (λ p. excess_over_full c p b) paths) b) there in
        (t.0, t.1)

    pub callmessage-there : (d : Cell Name) × (cell_at (i ∷ q) b.variables ≡ Some d) × (to : ℕ × ℕ) × (caller_of d ≡ Some to)
    callmessage-there =
        let d = value-there c has b.variables sound i q (source (init (i ∷ q)) (to-direct c.types c.variables i q of.2.1)) in
        let to = has-caller of.0 of.1 raises d.0 of.3 (typed-at c has b.variables sound i q of.0 of.2.0.0 d.0 d.1) in
        (d.0, d.1, to.0, to.1)

    pub return-there : (reply : List (Cell Name) → CellReply Name) → (w : CellWant Name) × (return_wants reply (given_back c (parameters_at c.types c.variables (i ∷ q) places) b) (i ∷ q) b ≡ Some w)
    return-there reply =
        let t = given-there in
        let d = callmessage-there in
        let taken = given_back c (parameters_at c.types c.variables (i ∷ q) places) b in (
          to_answer d.2.0 d.2.1 (reply t.0.cells),
          ap (λ o. option_and_then (λ (to : ℕ × ℕ). option_map (λ (t : Taken Name). to_answer to.0 to.1 (reply t.cells)) taken) (option_and_then caller_of o)) d.1
              ∙ ap (option_and_then (λ (to : ℕ × ℕ). option_map (λ (t : Taken Name). to_answer to.0 to.1 (reply t.cells)) taken)) d.3
              ∙ ap (option_map (λ (t : Taken Name). to_answer d.2.0 d.2.1 (reply t.cells))) t.1,
        )

  -- the places of what a return gives back
  returned-known : (ps : List Parameter) (n : ℕ) → IsIn n (returned_places 0 ps) → (p : Parameter) × (slice_get ps n ≡ Some p)
  returned-known ps n h =
      let j = returned-there 0 n ps h in
      let same : n ≡ j.0 = j.1 ∙ zero-plus j.0 in
      (j.2.0, ap (slice_get ps) same ∙ j.2.1)
    where
      zero-plus : (j : ℕ) → 0 + j ≡ j
      zero-plus j = omega arith

  module _ (name : Name → Name) (has : Fact → Bool) (b : Frame Name) (sound : AreSound c has b.variables) where
    abbrev Found : Form → Type 0
    Found form = (f : Fact) → IsIn f (needs c.types c.variables form) → IsTrue (has f)

    send-there : (x o : Path) → IsTypedIn exceptions processes c (Send x o) → Found (Send x o) → (w : CellWant Name) × (wants name c (Send x o) b ≡ Some w)
    send-there x o is needed =
        let form = Send x o in
        let to = is.typed.1 in
        let d = source-there x o is has needed b sound in
        let k = outport-there form is has b sound o to.0 to.1 to.3 to.4 (λ f h. asked exceptions processes c form is has needed f (in-append_right f (sent_to c.types c.variables o x) (present c.types c.variables o) h)) in
        let left = cell_at x (drop (excess_over_declared c o x b) b).variables in
        (to_put k.0 d.2, ap (option_and_then (λ port. option_map (put-in port) left)) k.1 ∙ ap (option_map (put-in k.0)) d.3)

    call-there : (o : Path) (arguments : List Atom) → IsTypedIn exceptions processes c (Call o arguments) → Found (Call o arguments) → (w : CellWant Name) × (wants name c (Call o arguments) b ≡ Some w)
    call-there o arguments is needed =
        let form = Call o arguments in
        let to = is.typed.3 in
        let x = composed-there name o arguments is has needed b sound in
        let rooms = flat_map (room_for c.types c.variables) (set_by_call c.types c.variables o arguments) in
        let k = outport-there form is has b sound o to.0 to.1 to.3 to.4
        (λ f h. asked exceptions processes c form is has needed f
        (in-append_left f (rooms ++ present c.types c.variables o) (full_of_each c.types c.variables (given c.types c.variables o arguments)) (in-append_right f rooms (present c.types c.variables o) h))) in
        (to_put k.0 (x.0).message, ap (option_and_then (λ port. option_map (put-message port) (composed name c o arguments b))) k.1 ∙ ap (option_map (put-message k.0)) x.1)

    receive-there : (x i : Path) → IsTypedIn exceptions processes c (Receive x i) → Found (Receive x i) → (w : CellWant Name) × (wants name c (Receive x i) b ≡ Some w)
    receive-there x i is needed =
        let form = Receive x i in
        let from = is.typed.1 in
        let k = inport-there form is has b sound i from.0 is.typed.0 from.1 from.2 from.3 (λ f h. asked exceptions processes c form is has needed f (in-append_right f (room_for c.types c.variables x) (present c.types c.variables i) h)) in
        (to_take (k.0 ∷ []), ap (option_map (λ port. to_take (port ∷ []))) k.1)

    pub select-there : (arms : List Arm) → IsTypedIn exceptions processes c (Select arms) → Found (Select arms) → (ports : List ℕ) × (ports_at (map (λ (a : Arm). a.port) arms) b ≡ Some ports)
    select-there arms is needed =
        let form = Select arms in
        ports-there form is has b sound arms is.typed.1
        (λ f h. asked exceptions processes c form is has needed f (in-append_right f (flat_map (λ (a : Arm). room_for c.types c.variables a.target) arms) (flat_map (λ (a : Arm). present c.types c.variables a.port) arms) h))

    -- what a return gives back is there, with its callmessage
    module _ (i : ℕ) (q : List ℕ) where
      abbrev returned_at : List ℕ
      returned_at = returned_places 0 (list_of parameters_of (shape_at c.types c.variables (i ∷ q)))

      abbrev kept_places : ℕ → List ℕ
      kept_places e = kept_for (list_of raises_of (shape_at c.types c.variables (i ∷ q))) e

      module _ (is : IsTypedIn exceptions processes c (Return (i ∷ q))) (needed : Found (Return (i ∷ q))) where
        abbrev of : IsReturned c.types c.variables (i ∷ q) is.typed.0
        of = is.typed.1

        shape : shape_at c.types c.variables (i ∷ q) ≡ Some (callmessage of.1 is.typed.0)
        shape = shape-is c.types c.variables (i ∷ q) of.0 (callmessage of.1 is.typed.0) of.2.0.0 of.3

        returned-all : (n : ℕ) → IsIn n returned_at → (p : Parameter) × (slice_get of.1 n ≡ Some p)
        returned-all n h = returned-known of.1 n (subst (λ (s : Option Shape). IsIn n (returned_places 0 (list_of parameters_of s))) shape h)

        source : (f : Fact) → IsIn f (present c.types c.variables (i ∷ q)) → IsTrue (has f)
        source f h = asked exceptions processes c (Return (i ∷ q)) is has needed f (in-append_left f (present c.types c.variables (i ∷ q)) (full_of_each c.types c.variables (returned c.types c.variables (i ∷ q))) h)

        held : (f : Fact) → IsIn f (full_of_each c.types c.variables (returned c.types c.variables (i ∷ q))) → IsTrue (has f)
        held f h = asked exceptions processes c (Return (i ∷ q)) is has needed f (in-append_right f (present c.types c.variables (i ∷ q)) (full_of_each c.types c.variables (returned c.types c.variables (i ∷ q))) h)

        pub plain-given : (t : Taken Name) × (given_back c (returned c.types c.variables (i ∷ q)) b ≡ Some t)
        plain-given = given-there i q is.typed.0 of (Return (i ∷ q)) is returned_at (returned-differ 0 (list_of parameters_of (shape_at c.types c.variables (i ∷ q)))) returned-all has b sound source held

        pub plain-source : (d : Cell Name) × (cell_at (i ∷ q) b.variables ≡ Some d) × (to : ℕ × ℕ) × (caller_of d ≡ Some to)
        plain-source = callmessage-there i q is.typed.0 of (Return (i ∷ q)) is returned_at (returned-differ 0 (list_of parameters_of (shape_at c.types c.variables (i ∷ q)))) returned-all has b sound source held

        plain-there : (w : CellWant Name) × (wants name c (Return (i ∷ q)) b ≡ Some w)
        plain-there = return-there i q is.typed.0 of (Return (i ∷ q)) is returned_at (returned-differ 0 (list_of parameters_of (shape_at c.types c.variables (i ∷ q)))) returned-all has b sound source held values

      module _ (e : ℕ) (is : IsTypedIn exceptions processes c (ReturnBy (i ∷ q) e)) (needed : Found (ReturnBy (i ∷ q) e)) where
        abbrev of_kept : IsReturned c.types c.variables (i ∷ q) is.typed.0
        of_kept = is.typed.1

        shape_kept : shape_at c.types c.variables (i ∷ q) ≡ Some (callmessage of_kept.1 is.typed.0)
        shape_kept = shape-is c.types c.variables (i ∷ q) of_kept.0 (callmessage of_kept.1 is.typed.0) of_kept.2.0.0 of_kept.3

        kept-all : (n : ℕ) → IsIn n (kept_places e) → (p : Parameter) × (slice_get of_kept.1 n ≡ Some p)
        kept-all n h =
            let d = kept-declared is.typed.0 e n (subst (λ (s : Option Shape). IsIn n (kept_for (list_of raises_of s) e)) shape_kept h) in
            let p = is.table.kept_returned of_kept.0 (callmessage of_kept.1 is.typed.0) of_kept.3 d.0 d.1 n d.2 in
            (p.0, p.1)

        kept-differ : Differ (kept_places e)
        kept-differ = subst (λ (s : Option Shape). Differ (kept_for (list_of raises_of s) e)) (sym shape_kept) (Rise-Differ (kept_for is.typed.0 e) (kept-rise is.typed.0 e (λ r h. is.table.kept_rising of_kept.0 (callmessage of_kept.1 is.typed.0) of_kept.3 r h)))

        source_kept : (f : Fact) → IsIn f (present c.types c.variables (i ∷ q)) → IsTrue (has f)
        source_kept f h = asked exceptions processes c (ReturnBy (i ∷ q) e) is has needed f (in-append_left f (present c.types c.variables (i ∷ q)) (full_of_each c.types c.variables (returned_by c.types c.variables (i ∷ q) e)) h)

        held_kept : (f : Fact) → IsIn f (full_of_each c.types c.variables (returned_by c.types c.variables (i ∷ q) e)) → IsTrue (has f)
        held_kept f h = asked exceptions processes c (ReturnBy (i ∷ q) e) is has needed f (in-append_right f (present c.types c.variables (i ∷ q)) (full_of_each c.types c.variables (returned_by c.types c.variables (i ∷ q) e)) h)

        pub raised-given : (t : Taken Name) × (given_back c (returned_by c.types c.variables (i ∷ q) e) b ≡ Some t)
        raised-given = given-there i q is.typed.0 of_kept (ReturnBy (i ∷ q) e) is (kept_places e) kept-differ kept-all has b sound source_kept held_kept

        pub raised-source : (d : Cell Name) × (cell_at (i ∷ q) b.variables ≡ Some d) × (to : ℕ × ℕ) × (caller_of d ≡ Some to)
        raised-source = callmessage-there i q is.typed.0 of_kept (ReturnBy (i ∷ q) e) is (kept_places e) kept-differ kept-all has b sound source_kept held_kept

        raised-there : (w : CellWant Name) × (wants name c (ReturnBy (i ∷ q) e) b ≡ Some w)
        raised-there = return-there i q is.typed.0 of_kept (ReturnBy (i ∷ q) e) is (kept_places e) kept-differ kept-all has b sound source_kept held_kept (Actions.raised e)

    -- what a typed action wants
    pub want-there : (form : Form) → IsTypedIn exceptions processes c form → IsTrue (is_action c form) → Found form → (w : CellWant Name) × (wants name c form b ≡ Some w)
    want-there (New x) is acts needed = (new_port, refl)
    want-there (Create o process) is acts needed = (new_process process, refl)
    want-there (Send x o) is acts needed = send-there x o is needed
    want-there (Receive x i) is acts needed = receive-there x i is needed
    want-there (Select arms) is acts needed = let p = select-there arms is needed in (to_take p.0, ap (option_map to_take) p.1)
    want-there (Call o arguments) is acts needed = call-there o arguments is needed
    want-there (Return []) is acts needed = none-not_some is.typed.1.2.0.0
    want-there (Return (i ∷ q)) is acts needed = plain-there i q is needed
    want-there (ReturnBy [] e) is acts needed = none-not_some is.typed.1.2.0.0
    want-there (ReturnBy (i ∷ q) e) is acts needed = raised-there i q e is needed
    want-there form is acts needed = not_true acts
