-- What a process of a good image wants a place for is what it has.
use Rattle.std.proofs.Common.{◌≡◌, ◌⊎◌, inl, inr, ℕ, List, [], ◌∷◌, ◌++◌, flat_map, map, find, Bool, true, false, cond, Some, None, option_map, option_and_then, refl, sym, ap, subst, ◌∙◌}
use Rattle.std.proofs.Math.Bool.{or-false}
use Rattle.std.specs.Prelude.{nat_eq, slice_get}
use Rattle.herm_model.specs.Lists.{IsIn, any_pass, list_of}
use Rattle.herm_model.specs.Outcomes.{Outcome}
use Rattle.herm_model.specs.Paths.{Path}
use Rattle.herm_model.specs.Statements.{Process, no_statements}
use Rattle.herm_model.specs.TypedStatements
use Rattle.herm_model.specs.Types.{type_at}
use Rattle.herm_model.specs.Values.{Name, Kind, a_callmessage, an_inport, an_outport, Cell, cell, kind_of, no_parts, gap, part, read_at, cell_at, Value}
use Rattle.herm_model.proofs.FactTests.{got-IsIn}
use Rattle.herm_model.proofs.Lists.{found-in, in-append_left, in-append_right, in-flat_map, in-flat_map_from, not_true, slice_get-map}
use Rattle.herm_model.proofs.Options.{none-not_some, some-injective, chain-some, map-some}
use Rattle.herm_journal.specs.Actions.{values, gone, new_port, to_put, to_take, to_close, to_answer, to_hear}
use Rattle.herm_journal.specs.Actions
use Rattle.herm_journal.specs.Messages.{CellReply, CellWant, is_inport}
use Rattle.herm_journal.specs.PartTypes.{each}
use Rattle.herm_journal.proofs.Rising.{same-true}
use Rattle.herm_forms.specs.Acts.{given_back, given_at}
use Rattle.herm_forms.specs.ClosesAndAnswers.{work_wants}
use Rattle.herm_forms.specs.Exchanges
use Rattle.herm_forms.specs.Exchanges.{inport_at, ports_at}
use Rattle.herm_forms.specs.Forms.{inport_number}
use Rattle.herm_forms.specs.Frames.{Loop, Frame, drop}
use Rattle.herm_forms.specs.Incoming.{leads_from}
use Rattle.herm_forms.specs.OpenCalls.{call_type}
use Rattle.herm_forms.proofs.typed.WantKinds.{return-want}
use Rattle.herm_runs.proofs.HeldParts.{typed-variables, kinds-parts}
use Rattle.herm_runs.proofs.SuitsStates.{is-some_of}
use Rattle.herm_sound.specs.SoundMachines.{HasFor}
use Rattle.herm_sound.specs.Standing.{typed_places}
use Rattle.herm_system.specs.HeldParts.{in_variables, in_rows, untyped}
use Rattle.herm_system.specs.Kinds.{typed_in, typed_held, kinds_of, kinds_by}
use Rattle.herm_system.specs.Machines.{Held}
use Rattle.herm_instructions.specs.Actions as actions
use Rattle.herm_instructions.specs.GoodCode.{processes_of}
use Rattle.herm_instructions.specs.Images.{CodeModule, Image}
use Rattle.herm_instructions.specs.Instructions.{Instruction, New, Send, Receive, Select, Call, Return, ReturnBy, Create}
use Rattle.herm_instructions.specs.Labels.{Label}
use Rattle.herm_instructions.specs.Places.{label_at}
use Rattle.herm_code_machine.specs.CodeActions.{kept_parameters, ports_of_choices, code_wants}
use Rattle.herm_code_machine.specs.CodeInstance.{own_name, code_at, code_machine}
use Rattle.herm_code_machine.specs.CodeLocal.{WaitsAlone, IsCall, IsLocallySoundCode, IsSoundCodeIn}
use Rattle.herm_code_machine.specs.CodeSeen.{slot_row, code_held, ports_of, action_at, code_port_type, type_of_call, code_open_call}
use Rattle.herm_code_machine.specs.CodeStates.{CodeState}
use Rattle.herm_code_machine.specs.CodeSteps.{CodeNext, an_item, a_reply, an_action, a_local_piece, nothing, code_next, wanted_next, code_wanted}
use Rattle.herm_code_machine.specs.CodeTypes.{first_type, type_made, new_type}
use Rattle.herm_code_machine.specs.Pieces.{Piece, Met, piece_at, action_of}
use Rattle.herm_code_machine.specs.ReadyCode.{ReadyCode, ReadyImage, ready_code, labelled_image}
use Rattle.herm_code_machine.specs.laws.GoodImageLaws.{IsGoodOver, labelled_code}
use Rattle.herm_held.proofs.TypedReads.{type-read}
use Rattle.herm_code_machine.proofs.sound.ActionEffects.{Acts, each-action}
use Rattle.herm_code_machine.proofs.sound.ActionSteps.{Acting, acting-at}
use Rattle.herm_code_machine.proofs.sound.AtLabels.{has_of, Holds, Finds}
use Rattle.herm_code_machine.proofs.sound.Between as between
use Rattle.herm_code_machine.proofs.sound.CallSteps.{is-call, is-call-or, call-goes}
use Rattle.herm_code_machine.proofs.sound.EachEffect.{inport-same}
use Rattle.herm_code_machine.proofs.sound.ItemSteps.{call_there}
use Rattle.herm_code_machine.proofs.sound.LocalSteps.{ComesNext, by_work, by_call, by_act, comes-next}
use Rattle.herm_code_machine.proofs.sound.Processes.{module-of, steps-sound}
use Rattle.herm_held.proofs.WantsHeld.{SendsBy, RepliesFrom, by-outport, sends-by, replies-from}
use Rattle.herm_code_machine.proofs.sound.CodeThere.{sound-at}

-- what is found of a list that has such an element
find-some : {X : Type 0} (test : X → Bool) (x : X) (xs : List X) → IsIn x xs → test x ≡ true → (y : X) × (find test xs ≡ Some y)
find-some test x [] h e = absurd h
find-some test x (z ∷ xs) (inl is) e = (z, ap (λ b. cond b (Some z) (find test xs)) (subst (λ y. test y ≡ true) is e))
find-some {X} test x (z ∷ xs) (inr is) e = by_test (test z) (find-some test x xs is e)
  where
    by_test : (b : Bool) → (y : X) × (find test xs ≡ Some y) → (y : X) × (cond b (Some z) (find test xs) ≡ Some y)
    by_test true h = (z, refl)
    by_test false h = h

some-looked : (n : ℕ) (i : Path) (b : Frame Name) → inport_at i b ≡ Some n → leads_from n b i ≡ true
some-looked n i b e = ap (λ o. any_pass (nat_eq n) (list_of (λ k. k ∷ []) o)) e ∙ or-false (nat_eq n n) ∙ same-true n

-- a port of the list is that of an inport at one of the paths
port-looked : (paths : List Path) (b : Frame Name) (ports : List ℕ) (n : ℕ) → ports_at paths b ≡ Some ports → IsIn n ports → (i : Path) × IsIn i paths × (inport_at i b ≡ Some n)
port-looked [] b ports n e h = absurd (subst (IsIn n) (sym (some-injective e)) h)
port-looked (i ∷ paths) b ports n e h =
    let x = chain-some (λ port. option_map (port ∷◌) (ports_at paths b)) (inport_at i b) ports e in
    let y = map-some (x.0 ∷◌) (ports_at paths b) ports x.2 in
    by_place x.0 y.0 x.1 (port-looked paths b y.0 n y.1) (subst (IsIn n) (sym y.2) h)
  where
    by_place : (k : ℕ) (more : List ℕ) → inport_at i b ≡ Some k → (IsIn n more → (j : Path) × IsIn j paths × (inport_at j b ≡ Some n)) → IsIn n (k ∷ more) → (j : Path) × IsIn j (i ∷ paths) × (inport_at j b ≡ Some n)
    by_place k more at later (inl same) = (i, inl refl, at ∙ ap (λ m. Some m) (sym same))
    by_place k more at later (inr in_more) = let z = later in_more in (z.0, inr z.1, z.2)

inport-kind : (d : Cell Name) (n : ℕ) → inport_number d ≡ Some n → kind_of d ≡ an_inport n
inport-kind (cell m (an_inport port) qs) n e = ap an_inport (some-injective e)
inport-kind (cell m k qs) n e = none-not_some e

flat-more : {X Y : Type 0} (f : X → List Y) (y : Y) (xs ys : List X) → IsIn y (flat_map f xs) → IsIn y (flat_map f (xs ++ ys))
flat-more f y xs ys h = let k = in-flat_map_from f y xs h in in-flat_map f k.0 y (xs ++ ys) (in-append_left k.0 xs ys k.1) k.2

-- the process of a module's variables, by which its port is typed
abbrev pub process_of : CodeModule → Process
process_of m = record { variables = m.variables; body = no_statements }

module _ (exceptions' : ℕ) (image : Image) (main : ℕ) (good : IsGoodOver exceptions' image) where
  abbrev ready : ReadyImage
  ready = labelled_image image main

  -- the module that a `Create` names
  pub created : (n port : ℕ) → TypedStatements.port_type (processes_of image.modules) n ≡ Some port → (m : CodeModule) × (slice_get image.modules n ≡ Some m) × (slice_get m.variables 0 ≡ Some port)
  created n port e =
      let p = chain-some (λ (p : Process). slice_get p.variables 0) (slice_get (processes_of image.modules) n) port e in
      let m = map-some process_of (slice_get image.modules n) p.0 (sym (slice_get-map process_of image.modules n) ∙ p.1) in
      (m.0, m.1, ap (λ (p : Process). slice_get p.variables 0) m.2 ∙ p.2)

  module _ (m : CodeModule) (in-image : IsIn m image.modules) (s : CodeState Name) (coded : code_at (labelled_image image main) s ≡ Some (labelled_code image m)) (sound : IsLocallySoundCode (labelled_code image m) s) where
    abbrev c : ReadyCode
    c = labelled_code image m

    abbrev Has : CellWant Name → Type 0
    Has w = HasFor (code_machine ready) (first_type ready) (new_type ready) s w

    -- a typed cell of the variables is one of what it holds
    has-at : (t : ℕ) (k : Kind) → IsIn (t, k) (typed_in image.types (each m.variables) s.frame.variables) → IsIn (t, k) (typed_places (code_machine ready) s)
    has-at t k h =
        let variables = in_variables m.variables s.frame.variables in
        let loops = flat_map (λ (l : Loop Name). in_rows (slot_row c s.position l.statement) l.rows) s.frame.loops in
        let own : IsIn (t, k) (flat_map (typed_held image.types) variables) = subst (IsIn (t, k)) (sym (typed-variables image.types m.variables s.frame.variables)) h in
        subst (λ o. IsIn (t, k) (flat_map (typed_held image.types) (list_of (λ c. code_held c s) o))) (sym coded)
        (flat-more (typed_held image.types) (t, k) (variables ++ loops) (map untyped s.frame.work) (flat-more (typed_held image.types) (t, k) variables loops own))

    -- what waits to be finalised
    work-kind : (n : Name) (k : Kind) (work : List (Cell Name)) → s.frame.work ≡ cell n k no_parts ∷ work → IsIn k (kinds_by (code_machine ready) s)
    work-kind n k work front =
        let items = flat_map kinds_of s.frame.work in
        subst (λ o. IsIn k (flat_map (λ (h : Held Name). kinds_of h.value) (list_of (λ c. code_held c s) o))) (sym coded)
        (subst (IsIn k) (sym (kinds-parts m.variables s.frame.variables (λ (l : Loop Name). slot_row c s.position l.statement) (λ (l : Loop Name). l.rows) s.frame.loops s.frame.work))
        (in-append_right k _ items (subst (λ work. IsIn k (flat_map kinds_of work)) (sym front) (inl refl))))

    item-has : (item : Cell Name) (work : List (Cell Name)) (w : CellWant Name) → WaitsAlone item → s.frame.work ≡ item ∷ work → work_wants item ≡ Some w → Has w
    item-has (cell n (an_inport port) no_parts) work w is front e = subst Has (some-injective e) (work-kind n (an_inport port) work front)
    item-has (cell n (a_callmessage caller call) no_parts) work w is front e = subst Has (some-injective e) (inl (work-kind n (a_callmessage caller call) work front, refl))
    item-has (cell n k no_parts) work w is front e = not_true is
    item-has (cell n k (gap ps)) work w is front e = absurd is
    item-has (cell n k (part d ps)) work w is front e = absurd is

    -- the call that is open
    hear-has : (k : ℕ) → s.frame.call ≡ Some k → Has to_hear
    hear-has k opened =
        let n = sound.call k opened in
        let i = is-call (n.0).instruction n.2 in (
          record { number = k; call_type = call_type (c).scope (record { port = i.0; arguments = [] }) },
          ap (option_and_then (λ c. code_open_call c s)) coded ∙ ap (option_and_then (λ k. call_there exceptions' image main good m in-image k s.position)) opened
              ∙ ap (option_and_then (λ (m : Met). option_map (λ t. record { number = k; call_type = t }) (type_of_call c m.instruction))) n.1
              ∙ ap (λ i. option_map (λ t. record { number = k; call_type = t }) (type_of_call c i)) i.3,
        )

    sends-has : (n : ℕ) (d : Cell Name) → SendsBy (c).scope s.frame.variables n d → Has (to_put n d)
    sends-has n d r = (r.type, r.port, has-at r.type (an_outport n) r.held, r.leads, r.is_message)

    replies-has : (caller call : ℕ) (r : CellReply Name) → RepliesFrom (c).scope s.frame.variables caller call r → Has (to_answer caller call r)
    replies-has caller call reply r = inr (r.type, has-at r.type (a_callmessage caller call) r.held, r.is_reply)

    module _ (j : ℕ) (i : Instruction) (at : action_at (labelled_code image m) s.position ≡ Some (record { index = j; instruction = i })) where
      -- the inports at which it looks
      takes-has : (ports : List ℕ) → ports_at (ports_of i) s.frame ≡ Some ports → Has (to_take ports)
      takes-has ports looked n member =
          let b = s.frame in
          let path = port-looked (ports_of i) b ports n looked member in
          let first = find-some (leads_from n b) path.0 (ports_of i) path.1 (some-looked n path.0 b path.2) in
          let read = chain-some inport_number (read_at first.0 b.variables) n (is-some_of n (inport_at first.0 b) (found-in (leads_from n b) first.0 (ports_of i) first.1).1) in
          let t = type-read Name image.types m.variables first.0 b.variables read.0 sound.types read.1 in (
            t.type,
            ap (option_and_then (λ c. code_port_type c s n)) coded ∙ ap (option_and_then (λ (m' : Met). option_and_then (type_at image.types m.variables) (find (leads_from n b) (ports_of m'.instruction)))) at
                ∙ ap (option_and_then (type_at image.types m.variables)) first.1 ∙ t.at,
            has-at t.type (an_inport n) (subst (λ k. IsIn (t.type, k) (typed_in image.types (each m.variables) b.variables)) (inport-kind read.0 n read.2) t.typed),
          )

      new-has : (t : ℕ) → type_made i ≡ Some t → is_inport (slice_get image.types t) ≡ true → Has new_port
      new-has t made inport = (
        t,
        ap (option_and_then (λ (c : ReadyCode). option_and_then (λ (m : Met). type_made m.instruction) (action_at c s.position))) coded ∙ ap (option_and_then (λ (m : Met). type_made m.instruction)) at ∙ made,
        inport,
      )

    create-has : (n port : ℕ) → TypedStatements.port_type (processes_of image.modules) n ≡ Some port → Has (Actions.new_process n)
    create-has n port e =
        let r = created n port e in
        let code : slice_get (ready).codes n ≡ Some (labelled_code image r.0) = slice_get-map (ready_code image (label_at image.types image.constants)) image.modules n ∙ ap (option_map (ready_code image (label_at image.types image.constants))) r.1 in
        let first = (between.good-module exceptions' image good.good good.table r.0 (got-IsIn image.modules n r.0 r.1)).port in
        let same : first.0 ≡ port = some-injective (sym first.3 ∙ r.2) in (
          port,
          ap (option_and_then (λ (c : ReadyCode). slice_get c.scope.variables 0)) code ∙ r.2,
          ap is_inport (ap (slice_get image.types) (sym same) ∙ first.4),
          λ number place name. let z = (steps-sound exceptions' image main good).begins n number place name (labelled_code image r.0) code in (z.0, z.1),
        )

    -- any action but a call
    module _ (l : Label) (before : List Value) (W : Outcome → Type 0) (holds : Holds (labelled_code image m) l before s.frame) where
      abbrev Acts' : Instruction → Type 0
      Acts' i = Acts exceptions' image good.table (good.good).constants m (between.good-module exceptions' image good.good good.table m in-image).variables_known (label_at image.types image.constants) own_name W l before s.frame holds i

      instruction-has : (j : ℕ) (i : Instruction) → action_at (labelled_code image m) s.position ≡ Some (record { index = j; instruction = i }) → (IsCall i → ⊥) → actions.is_action image.types i ≡ true → Finds exceptions' image m W i l → Acts' i → (w : CellWant Name)
          → code_wants own_name c i before s.frame ≡ Some w → Has w
      instruction-has j (New p t) at other acts finds a w e = subst Has (some-injective e) (new-has j (New p t) at t refl (sym (inport-same (slice_get image.types t)) ∙ acts))
      instruction-has j (Create o n) at other acts finds a w e = subst Has (some-injective e) (create-has n (finds.typed).1 (finds.typed).4)
      instruction-has j (Send p o trim) at other acts finds a w e =
          let r = chain-some (λ port. option_map (to_put port) (cell_at p (drop trim s.frame).variables)) (Exchanges.outport_at o s.frame) w e in
          let q = map-some (to_put r.0) (cell_at p (drop trim s.frame).variables) w r.2 in
          subst Has q.2 (sends-has r.0 q.0 (sends-by exceptions' (processes_of image.modules) (c).scope own_name a.form a.is (has_of l) s.frame (holds.sound) a.needed r.0 q.0 (sym a.as_form ∙ e ∙ ap (λ w. Some w) (sym q.2))))
      instruction-has j (Receive p i) at other acts finds a w e =
          let r = map-some (λ port. to_take (port ∷ [])) (inport_at i s.frame) w e in
          subst Has r.2 (takes-has j (Receive p i) at (r.0 ∷ []) (ap (option_and_then (λ (port : ℕ). Some (port ∷ []))) r.1))
      instruction-has j (Select choices) at other acts finds a w e =
          let r = map-some to_take (ports_at (ports_of_choices choices) s.frame) w e in
          subst Has r.2 (takes-has j (Select choices) at r.0 r.1)
      instruction-has j (Call o arguments keep) at other acts finds a w e = absurd (other tt)
      instruction-has j (Return p) at other acts finds a w e =
          let k = return-want own_name (c).scope s.frame w values (given_back (c).scope (given_at (c).scope p) s.frame) p e in
          subst Has k.3 (replies-has k.0 k.1 k.2 (replies-from exceptions' (processes_of image.modules) (c).scope own_name a.form a.is (has_of l) s.frame (holds.sound) a.needed k.0 k.1 k.2 (sym a.as_form ∙ e ∙ ap (λ w. Some w) (sym k.3))))
      instruction-has j (ReturnBy p x kept) at other acts finds a w e =
          let k = return-want own_name (c).scope s.frame w (Actions.raised x) (given_back (c).scope (kept_parameters c p kept) s.frame) p e in
          subst Has k.3 (replies-has k.0 k.1 k.2 (replies-from exceptions' (processes_of image.modules) (c).scope own_name a.form a.is (has_of l) s.frame (holds.sound) a.needed k.0 k.1 k.2 (sym a.as_form ∙ e ∙ ap (λ w. Some w) (sym k.3))))
      instruction-has j i at other acts finds a w e = none-not_some e

    action-has : (p : Piece) (met : Met) → s.frame.work ≡ [] → s.frame.call ≡ None → piece_at c s.position ≡ Some p → action_of c p ≡ Some met → (w : CellWant Name) → wanted_next own_name c s (an_action p met) ≡ Some w → Has w
    action-has p met idle closed piece act w wanted = by (is-call-or met.instruction)
      where
        acting : Acting exceptions' image good.good good.table m in-image own_name s p met
        acting = acting-at exceptions' image good.good good.table m in-image own_name s p met sound idle closed piece act

        by : IsCall met.instruction ⊎ (IsCall met.instruction → ⊥) → Has w
        by (inl call) =
            let x = acting.there in
            let g = call-goes exceptions' image good.good good.table m in-image own_name s p met acting call in
            subst Has (some-injective (sym g.wanted ∙ wanted))
            (sends-has g.port g.message (by-outport exceptions' (processes_of image.modules) (c).scope own_name g.to (has_of x.label) s.frame (x.holds).sound g.port g.message g.outport (g.type, g.leads, g.is_message)))
        by (inr other) =
            let x = acting.there in
            let W = between.HasWay exceptions' image good.good good.table m in-image met.index met.instruction x.label in
            let finds = between.finds-there exceptions' image good.good good.table m in-image met.index met.instruction x.label x.at x.labelled in
            let a = each-action exceptions' image good.table (good.good).constants m (between.good-module exceptions' image good.good good.table m in-image).variables_known (label_at image.types image.constants) own_name W x.label x.before s.frame x.holds met.instruction x.acts other finds in
            instruction-has x.label x.before W x.holds met.index met.instruction (ap (option_and_then (action_of c)) piece ∙ act) other x.acts finds a w (sym (ap (option_and_then (λ stack. code_wants own_name c met.instruction stack s.frame)) x.operands) ∙ wanted)

    want-has : (w : CellWant Name) → code_wanted own_name c s ≡ Some w → Has w
    want-has w wanted = by (code_next c s) (comes-next c s) wanted
      where
        by : (next : CodeNext Name) → ComesNext c s next → wanted_next own_name c s next ≡ Some w → Has w
        by (an_item item work) (by_work i v front) wanted = item-has item work w (sound.work item (subst (IsIn item) (sym front) (inl refl))) front wanted
        by (an_action p met) (by_act p' met' idle closed piece act) wanted = action-has p met idle closed piece act w wanted
        by (a_reply k i instruction) (by_call k' met idle opened piece) wanted = subst Has (some-injective wanted) (hear-has k opened)
        by (a_local_piece p) next wanted = none-not_some wanted
        by nothing next wanted = none-not_some wanted

  pub wants-had : (x : CodeState Name) (w : CellWant Name) → IsSoundCodeIn ready x → (code_machine ready).wanted x ≡ Some w → HasFor (code_machine ready) (first_type ready) (new_type ready) x w
  wants-had x w sound wanted =
      let d = chain-some (λ c. code_wanted own_name c x) (code_at ready x) w wanted in
      let m = module-of exceptions' image main good x.module_number d.0 d.1 in
      let here : code_at ready x ≡ Some (labelled_code image m.0) = d.1 ∙ ap Some (sym m.2) in
      want-has m.0 m.1 x here (sound-at ready x (labelled_code image m.0) sound here) w (subst (λ c. code_wanted own_name c x ≡ Some w) (sym m.2) d.2)
