-- In a process of a checked program a want is there where an action is next, for what the process has; and what answers it is taken.
use Rattle.std.proofs.Common.{◌≡◌, inl, inr, ℕ, List, [], ◌∷◌, map, flat_map, Bool, true, false, cond, Option, Some, None, option_map, option_and_then, slice_get, refl, sym, ap, ◌∙◌, subst}
use Rattle.std.specs.Prelude.{nat_lt, IsTrue}
use Rattle.herm_model.specs.Lists.{IsIn, list_of}
use Rattle.herm_model.specs.Paths.{Path}
use Rattle.herm_model.specs.Types.{TypeTable}
use Rattle.herm_model.specs.Calls.{led_to}
use Rattle.herm_model.specs.Statements.{Process, Form, New, Send, Receive, Select, Arm, Call, Return, ReturnBy, Create}
use Rattle.herm_model.specs.Nodes.{Node}
use Rattle.herm_model.specs.Labels.{Labels}
use Rattle.herm_model.specs.Values.{Kind, a_callmessage, an_inport, an_outport, Cell, cell, no_parts, gap, part}
use Rattle.herm_model.proofs.Lists.{not_true, in-append_right}
use Rattle.herm_model.proofs.Options.{none-not_some, some-injective, chain-some, map-some}
use Rattle.herm_journal.specs.Actions.{values, gone, new_port, new_process, to_put, to_take, to_close, to_answer, to_hear, make_port, make_process, put, take, close, answer, hear}
use Rattle.herm_journal.specs.Actions
use Rattle.herm_journal.specs.Messages.{CellWant, CellAction, CellReply, is_inport, IsMessage, IsReplyTo}
use Rattle.herm_journal.specs.PartTypes.{each}
use Rattle.herm_forms.specs.Frames.{Name, Frame, counted_action}
use Rattle.herm_forms.specs.Exchanges
use Rattle.herm_forms.specs.ClosesAndAnswers
use Rattle.herm_forms.specs.ClosesAndAnswers.{work_wants}
use Rattle.herm_forms.specs.Exchanges.{inport_at, ports_at}
use Rattle.herm_forms.specs.Modules.{Module, module_of}
use Rattle.herm_forms.specs.Acts.{is_action, wants, given_back, given_at, given_by, settle_reply}
use Rattle.herm_forms.specs.OpenCalls.{Calling, call_type, IsReply}
use Rattle.herm_forms.specs.Incoming.{looked_at, ports_of}
use Rattle.herm_forms.specs.laws.TypedForms.{IsTypedIn}
use Rattle.herm_forms.specs.laws.FormsTakeAnswers.{Meets}
use Rattle.herm_forms.proofs.typed.WantKinds.{send-want, call-want, return-want, take-want, select-want}
use Rattle.herm_system.specs.Suiting.{Answers, Suits}
use Rattle.herm_system.specs.Kinds.{typed_in, typed_held, kinds_of, kinds_by}
use Rattle.herm_system.specs.Machines.{Held, OpenCall, is_acting, to_act, local, out_of_steps, greatest_actions}
use Rattle.herm_runs.proofs.ActionParts.{cond-both}
use Rattle.herm_source.specs.States.{State, own_name, item_or, call_or_statement, node_at, state_after, wanted_next, wanted, settle_next, answered}
use Rattle.herm_source.specs.StepLimit.{ready_for, ready_in}
use Rattle.herm_source.specs.Modules.{Program, Modules}
use Rattle.herm_source.specs.Instance.{source, code_at, ready_if}
use Rattle.herm_source.specs.Local.{calling, IsItem}
use Rattle.herm_source.specs.SeenBySystem.{values_held, open_call}
use Rattle.herm_source.specs.Checked.{IsChecked}
use Rattle.herm_source.specs.laws.SoundProcesses.{IsSoundProcess}
use Rattle.herm_source.specs.laws.Standing.{type_made}
use Rattle.herm_source.specs.laws.Wants.{HasAt, HasFor, CheckedProcessesGoOn}
use Rattle.herm_source.proofs.instance.SourceLooks.{held-typed, source-looks-at-held, accepted-share-types}
use Rattle.herm_source.proofs.instance.HeldValues.{kinds-values}
use Rattle.herm_source.proofs.placed.KeptStanding.{first-variables, ports-are}
use Rattle.herm_source.proofs.sound.OneModule.{IsGoodModule, StandsWell, typed-here, call-here, want-here, sent-here, replied-here, answer-here, reply-here}
use Rattle.herm_source.proofs.sound.SoundProcesses.{SuitsCode, suits-code, StandsInModule, module-at, WellIn, well-in}
use Rattle.herm_source.proofs.sound.Standings.{stands-as}

-- an action is next only where it is looked for
acting-at : (b : Bool) → IsTrue (is_acting (to_act b)) → b ≡ true
acting-at true h = refl
acting-at false h = not_true h

-- an inport or a callmessage wants something
item-wants : (item : Cell Name) → IsItem item → (w : CellWant Name) × (work_wants item ≡ Some w)
item-wants (cell n (an_inport port) no_parts) h = (to_close port, refl)
item-wants (cell n (a_callmessage caller call) no_parts) h = (to_answer caller call gone, refl)
item-wants (cell n k no_parts) h = not_true h
item-wants (cell n k (gap ps)) h = absurd h
item-wants (cell n k (part d ps)) h = absurd h

-- an answer to what a form wants is of a kind that it takes
meets-port : (x : Path) (a : CellAction Name) → Answers {M = Cell Name} {R = CellReply Name} new_port a → Meets a (New x)
meets-port x (make_port made) h = tt
meets-port x a h = absurd h

meets-process : (o : Path) (process : ℕ) (a : CellAction Name) → Answers {M = Cell Name} {R = CellReply Name} (new_process process) a → Meets a (Create o process)
meets-process o process (make_process code made) h = tt
meets-process o process a h = absurd h

meets-put : (n : ℕ) (m : Cell Name) (a : CellAction Name) → Answers {R = CellReply Name} (to_put n m) a → (k : Option ℕ) × (d : Cell Name) × (a ≡ put k d)
meets-put n m (put k d) h = (k, d, refl)
meets-put n m a h = absurd h

meets-take : (ports : List ℕ) (a : CellAction Name) → Answers {M = Cell Name} {R = CellReply Name} (to_take ports) a → (k : ℕ) × (d : Cell Name) × (a ≡ take k d)
meets-take ports (take k d) h = (k, d, refl)
meets-take ports a h = absurd h

meets-answer : (caller call : ℕ) (r : CellReply Name) (a : CellAction Name) → Answers (to_answer caller call r) a → (k : ℕ) × (s : CellReply Name) × (a ≡ answer k s)
meets-answer caller call r (answer k s) h = (k, s, refl)
meets-answer caller call r a h = absurd h

meets-hear : (a : CellAction Name) → Answers {M = Cell Name} {R = CellReply Name} to_hear a → (k : ℕ) × (r : CellReply Name) × (a ≡ hear k r)
meets-hear (hear k r) h = (k, r, refl)
meets-hear a h = absurd h

-- the ports of what is to be taken
abbrev ports_taken : CellWant Name → List ℕ
ports_taken (to_take ports) = ports
ports_taken w = []

abbrev to_take_of : List ℕ → CellWant Name
to_take_of ports = to_take ports

received-at : (i : Path) (b : Frame Name) (ports : List ℕ) → Exchanges.receive_wants i b ≡ Some (to_take ports) → ports_at (i ∷ []) b ≡ Some ports
received-at i b ports e =
    let p = map-some (λ (port : ℕ). to_take_of (port ∷ [])) (inport_at i b) (to_take ports) e in
    ap (option_and_then (λ (port : ℕ). Some (port ∷ []))) p.1 ∙ ap (λ ports. Some ports) (ap ports_taken p.2)

selected-at : (paths : List Path) (b : Frame Name) (ports : List ℕ) → Exchanges.select_wants paths b ≡ Some (to_take ports) → ports_at paths b ≡ Some ports
selected-at paths b ports e =
    let p = map-some to_take_of (ports_at paths b) (to_take ports) e in
    p.1 ∙ ap (λ ports. Some ports) (ap ports_taken p.2)

-- so of each form
module _ (c : Module) (b : Frame Name) (w : CellWant Name) where
  meets : (form : Form) → wants own_name c form b ≡ Some w → (a : CellAction Name) → Answers w a → Meets a form
  meets (New x) e a h = meets-port x a (subst (λ w. Answers w a) (sym (some-injective e)) h)
  meets (Create o process) e a h = meets-process o process a (subst (λ w. Answers w a) (sym (some-injective e)) h)
  meets (Send x o) e a h = let k = send-want own_name c b w x o e in let p = meets-put k.0 k.1 a (subst (λ w. Answers w a) (sym k.3) h) in subst (λ a. Meets a (Send x o)) (sym p.2) tt
  meets (Call o arguments) e a h = let k = call-want own_name c b w o arguments e in let p = meets-put k.0 k.1 a (subst (λ w. Answers w a) (sym k.3) h) in subst (λ a. Meets a (Call o arguments)) (sym p.2) tt
  meets (Receive x i) e a h = let k = take-want own_name c b w x i e in let p = meets-take k.0 a (subst (λ w. Answers w a) (sym k.1) h) in subst (λ a. Meets a (Receive x i)) (sym p.2) tt
  meets (Select arms) e a h = let k = select-want own_name c b w arms e in let p = meets-take k.0 a (subst (λ w. Answers w a) (sym k.1) h) in subst (λ a. Meets a (Select arms)) (sym p.2) tt
  meets (Return m) e a h = let k = return-want own_name c b w values (given_back c (given_at c m) b) m e in let p = meets-answer k.0 k.1 k.2 a (subst (λ w. Answers w a) (sym k.3) h) in subst (λ a. Meets a (Return m)) (sym p.2) tt
  meets (ReturnBy m x) e a h = let k = return-want own_name c b w (Actions.raised x) (given_back c (given_by c m x) b) m e in let p = meets-answer k.0 k.1 k.2 a (subst (λ w. Answers w a) (sym k.3) h) in subst (λ a. Meets a (ReturnBy m x)) (sym p.2) tt
  meets form e a h = none-not_some e

-- over one module
module _ (exceptions : ℕ) (types : TypeTable) (processes : List Process) (p : Process) (labels : Labels) (good : IsGoodModule exceptions types processes p labels) (s : State Name) (stands : StandsWell exceptions types processes p labels good s) where
  abbrev c : Module
  c = module_of types p labels

  want-by : (limit : ℕ) (work : List (Cell Name)) (call : Option ℕ) (o : Option Node) → s.frame.work ≡ work → s.frame.call ≡ call → node_at c s.point ≡ o → IsTrue (is_acting (ready_for c limit s.frame (item_or work (call_or_statement call o))))
      → (w : CellWant Name) × (wanted_next own_name c s.frame (item_or work (call_or_statement call o)) ≡ Some w)
  want-by limit (item ∷ work) call o front idle at h = item-wants item ((stands.0).work item (subst (IsIn item) (sym front) (inl refl)))
  want-by limit [] call None front idle at h = not_true h
  want-by limit [] (Some k) (Some n) front idle at h = (to_hear, refl)
  want-by limit [] None (Some n) front idle at h = by (nat_lt s.frame.steps limit) (is_action c n.form) refl h
    where
      by : (within acts : Bool) → is_action c n.form ≡ acts → IsTrue (is_acting (cond within (cond acts (to_act (nat_lt s.frame.actions greatest_actions)) local) out_of_steps)) → (w : CellWant Name) × (cond acts (wants own_name c n.form s.frame) None ≡ Some w)
      by false acts e h = not_true h
      by true false e h = not_true h
      by true true e h = want-here exceptions types processes p labels good s s stands n at idle e

  pub want-is : (limit : ℕ) → IsTrue (is_acting (ready_in c limit s)) → (w : CellWant Name) × (wanted own_name c s ≡ Some w)
  want-is limit h = want-by limit s.frame.work s.frame.call (node_at c s.point) refl refl refl h

  -- answers
  module _ (at : ℕ) (w : CellWant Name) where
    item-answered : (item : Cell Name) (work : List (Cell Name)) (a : CellAction Name) → work_wants item ≡ Some w → Answers w a → (y : State Name) × (state_after c s None (ClosesAndAnswers.work_done item a (counted_action (record (s.frame) { work = work }))) ≡ Some y)
    item-answered (cell n (an_inport port) ps) work a e h = by a (subst (λ w. Answers w a) (sym (some-injective e)) h)
      where
        by : (a : CellAction Name) → Answers {M = Cell Name} {R = CellReply Name} (to_close port) a → (y : State Name) × (state_after c s None (ClosesAndAnswers.work_done (cell n (an_inport port) ps) a (counted_action (record (s.frame) { work = work }))) ≡ Some y)
        by (close count left) h = (_, refl)
        by a h = absurd h
    item-answered (cell n (a_callmessage caller call) ps) work a e h = by a (subst (λ w. Answers w a) (sym (some-injective e)) h)
      where
        by : (a : CellAction Name) → Answers {M = Cell Name} {R = CellReply Name} (to_answer caller call gone) a → (y : State Name) × (state_after c s None (ClosesAndAnswers.work_done (cell n (a_callmessage caller call) ps) a (counted_action (record (s.frame) { work = work }))) ≡ Some y)
        by (answer k r) h = (_, refl)
        by a h = absurd h
    item-answered (cell n k ps) work a e h = none-not_some e

    -- the reply that comes in is one that the call waits for
    heard-reply : (k : Calling) (call : ℕ) → s.frame.call ≡ Some call → calling c s ≡ Some k → (i : ℕ) (r : CellReply Name) → SuitsCode types c s at (hear i r) → (i ≡ call) × IsReply c k r
    heard-reply k call open' is i r h =
        let there : open_call c s ≡ Some (record { number = call; call_type = call_type c k }) =
        ap (option_and_then (λ (n : ℕ). option_map (λ (k : Calling). record { number = n; call_type = call_type c k }) (calling c s))) open' ∙ ap (option_map (λ (k : Calling). record { number = call; call_type = call_type c k })) is in
        let same : h.0 ≡ record { number = call; call_type = call_type c k } = some-injective (sym h.1 ∙ there) in
        (sym h.2 ∙ ap (λ (x : OpenCall). x.number) same, subst (λ (x : OpenCall). IsReplyTo types x.call_type r) same h.3)

    answer-by : (work : List (Cell Name)) (call : Option ℕ) (o : Option Node) → s.frame.work ≡ work → s.frame.call ≡ call → node_at c s.point ≡ o → (a : CellAction Name) → Answers w a → SuitsCode types c s at a
        → wanted_next own_name c s.frame (item_or work (call_or_statement call o)) ≡ Some w → (y : State Name) × (settle_next own_name c s at a (item_or work (call_or_statement call o)) ≡ Some y)
    answer-by (item ∷ work) call o front idle node a h suits want = item-answered item work a want h
    answer-by [] call None front idle node a h suits want = none-not_some want
    answer-by [] (Some k) (Some n) front open' node a h suits want =
        let x = (stands.0).call k open' in
        let heard = meets-hear a (subst (λ w. Answers w a) (sym (some-injective want)) h) in
        let reply = heard-reply x.0 k open' x.1 heard.0 heard.1 (subst (SuitsCode types c s at) heard.2 suits) in
        let y = reply-here exceptions types processes p labels good s s stands n node k x.0 open' x.1 heard.0 heard.1 reply.0 reply.1 in
        (y.0, ap (λ a. state_after c s (Some n) (settle_reply c n.form k a (counted_action s.frame))) heard.2 ∙ y.1)
    answer-by [] None (Some n) front idle node a h suits want =
        let w' = cond-both (is_action c n.form) (wants own_name c n.form s.frame) w want in
        answer-here exceptions types processes p labels good s s stands n node idle w'.0 at a (meets c s.frame w n.form w'.1 a h)
        (λ k m e. let t = subst (SuitsCode types c s at) e suits in (t.0, sym (ap (option_and_then (λ (node : Node). looked_at c node.form s.frame at)) node) ∙ t.1))

    pub answer-is : (a : CellAction Name) → Answers w a → SuitsCode types c s at a → wanted own_name c s ≡ Some w → (y : State Name) × (answered own_name c s at a ≡ Some y)
    answer-is a h suits want = answer-by s.frame.work s.frame.call (node_at c s.point) refl refl refl a h suits want

module _ (exceptions : ℕ) (program : Program) (modules : Modules) (checked : IsChecked exceptions program modules) where
  -- what a process has of its code's kinds and places
  module _ (x : State Name) (c : Module) (coded : code_at modules x ≡ Some c) where
    share : c.types ≡ modules.types
    share = accepted-share-types program modules checked.accepted x.module_number c coded

    has-at : (t : ℕ) (k : Kind) → IsIn (t, k) (typed_in c.types (each c.variables) x.frame.variables) → HasAt modules x t k
    has-at t k h =
        subst (λ o. IsIn (t, k) (flat_map (typed_held modules.types) (list_of (λ c. values_held c x) o))) (sym coded)
        (held-typed modules.types c x (t, k) (subst (λ types. IsIn (t, k) (typed_in types (each c.variables) x.frame.variables)) share h))

    work-kind : (n : Name) (k : Kind) (work : List (Cell Name)) → x.frame.work ≡ cell n k no_parts ∷ work → IsIn k (kinds_by (source modules) x)
    work-kind n k work front =
        let items = flat_map kinds_of x.frame.work in
        subst (λ o. IsIn k (flat_map (λ (h : Held Name). kinds_of h.value) (list_of (λ c. values_held c x) o))) (sym coded)
        (subst (IsIn k) (sym (kinds-values c x)) (in-append_right k _ items (subst (λ work. IsIn k (flat_map kinds_of work)) (sym front) (inl refl))))

    item-has : (item : Cell Name) (work : List (Cell Name)) (w : CellWant Name) → IsItem item → x.frame.work ≡ item ∷ work → work_wants item ≡ Some w → HasFor modules x w
    item-has (cell n (an_inport port) no_parts) work w is front e = subst (HasFor modules x) (some-injective e) ((n, work, front), work-kind n (an_inport port) work front)
    item-has (cell n (a_callmessage caller call) no_parts) work w is front e = subst (HasFor modules x) (some-injective e) (inl ((n, work, front), work-kind n (a_callmessage caller call) work front, refl))
    item-has (cell n k no_parts) work w is front e = not_true is
    item-has (cell n k (gap ps)) work w is front e = absurd is
    item-has (cell n k (part d ps)) work w is front e = absurd is

  module _ (x : State Name) (m : StandsInModule exceptions program modules checked x) (is : IsSoundProcess program modules x) where
    abbrev d : Module
    d = module_of program.types m.process m.labels

    well : WellIn exceptions program modules checked x m x
    well = well-in exceptions program modules checked x m is

    same-types : program.types ≡ modules.types
    same-types = sym (checked.accepted).types

    module _ (n : Node) (at : node_at d x.point ≡ Some n) (idle : x.frame.call ≡ None) where
      sent-has : (to : ℕ) (v : Cell Name) → wants own_name d n.form x.frame ≡ Some (to_put to v) → HasFor modules x (to_put to v)
      sent-has to v want =
          let s = sent-here exceptions program.types program.processes m.process m.labels m.good x x well n at idle to v want in
          (s.type, s.port, has-at x d m.coded s.type (an_outport to) s.held, subst (λ types. option_and_then led_to (slice_get types s.type) ≡ Some s.port) same-types s.leads, subst (λ types. IsMessage types s.port v) same-types s.is_message)

      replied-has : (caller call : ℕ) (r : CellReply Name) → wants own_name d n.form x.frame ≡ Some (to_answer caller call r) → HasFor modules x (to_answer caller call r)
      replied-has caller call r want =
          let s = replied-here exceptions program.types program.processes m.process m.labels m.good x x well n at idle caller call r want in
          inr (s.type, has-at x d m.coded s.type (a_callmessage caller call) s.held, subst (λ types. IsReplyTo types (Some s.type) r) same-types s.is_reply)

      taken-has : (ports : List ℕ) → ports_at (ports_of n.form) x.frame ≡ Some ports → (source modules).wanted x ≡ Some (to_take ports) → HasFor modules x (to_take ports)
      taken-has ports looked want = (
        (d, n, m.coded, at, looked),
        (λ k member. source-looks-at-held modules (accepted-share-types program modules checked.accepted) x ports k is.sound want member),
      )

      looks-for : (form : Form) (ports : List ℕ) → n.form ≡ form → ports_at (ports_of form) x.frame ≡ Some ports → ports_at (ports_of n.form) x.frame ≡ Some ports
      looks-for form ports same looked = ap (λ form. ports_at (ports_of form) x.frame) same ∙ looked

      statement-has : (form : Form) → n.form ≡ form → IsTrue (is_action d form) → (w : CellWant Name) → wants own_name d form x.frame ≡ Some w → (source modules).wanted x ≡ Some w → HasFor modules x w
      statement-has (New q) same acts w e want =
          let typed = subst (IsTypedIn exceptions program.processes d) same (typed-here exceptions program.types program.processes m.process m.labels m.good x x well n at) in
          let type = (typed.typed).2.0.0 in
          subst (HasFor modules x) (some-injective e) (
            (typed.typed).0,
            ap (option_and_then (λ c. option_and_then (λ (n : Node). type_made c n.form) (node_at c x.point))) m.coded ∙ ap (option_and_then (λ (n : Node). type_made d n.form)) at ∙ ap (type_made d) same ∙ type,
            subst (λ types. IsTrue (is_inport (slice_get types (typed.typed).0))) same-types (subst (λ o. IsTrue (is_inport (option_and_then (slice_get program.types) o))) type acts),
          )
      statement-has (Create o process) same acts w e want =
          let typed = subst (IsTypedIn exceptions program.processes d) same (typed-here exceptions program.types program.processes m.process m.labels m.good x x well n at) in
          let h = typed.typed in
          subst (HasFor modules x) (some-injective e) (
            h.1,
            first-variables program program.processes modules.codes process (checked.accepted).codes ∙ h.4,
            subst (λ types. IsTrue (is_inport (slice_get types h.1))) same-types (ports-are exceptions program modules checked [] (λ _ _. None) h.1 process h.4),
          )
      statement-has (Send q o) same acts w e want = let k = send-want own_name d x.frame w q o e in subst (HasFor modules x) k.3 (sent-has k.0 k.1 (ap (λ f. wants own_name d f x.frame) same ∙ e ∙ ap (λ w. Some w) (sym k.3)))
      statement-has (Call o arguments) same acts w e want = let k = call-want own_name d x.frame w o arguments e in subst (HasFor modules x) k.3 (sent-has k.0 k.1 (ap (λ f. wants own_name d f x.frame) same ∙ e ∙ ap (λ w. Some w) (sym k.3)))
      statement-has (Receive q i) same acts w e want = let k = take-want own_name d x.frame w q i e in subst (HasFor modules x) k.1 (taken-has k.0 (looks-for (Receive q i) k.0 same (received-at i x.frame k.0 (e ∙ ap (λ w. Some w) (sym k.1)))) (want ∙ ap (λ w. Some w) (sym k.1)))
      statement-has (Select arms) same acts w e want = let k = select-want own_name d x.frame w arms e in subst (HasFor modules x) k.1 (taken-has k.0 (looks-for (Select arms) k.0 same (selected-at (map (λ (a : Arm). a.port) arms) x.frame k.0 (e ∙ ap (λ w. Some w) (sym k.1)))) (want ∙ ap (λ w. Some w) (sym k.1)))
      statement-has (Return q) same acts w e want =
          let k = return-want own_name d x.frame w values (given_back d (given_at d q) x.frame) q e in subst (HasFor modules x) k.3 (replied-has k.0 k.1 k.2 (ap (λ f. wants own_name d f x.frame) same ∙ e ∙ ap (λ w. Some w) (sym k.3)))
      statement-has (ReturnBy q y) same acts w e want =
          let k = return-want own_name d x.frame w (Actions.raised y) (given_back d (given_by d q y) x.frame) q e in subst (HasFor modules x) k.3 (replied-has k.0 k.1 k.2 (ap (λ f. wants own_name d f x.frame) same ∙ e ∙ ap (λ w. Some w) (sym k.3)))
      statement-has form same acts w e want = not_true acts

    -- the call that is open
    hear-has : (k : ℕ) (n : Node) → x.frame.call ≡ Some k → node_at d x.point ≡ Some n → HasFor modules x to_hear
    hear-has k n open' at =
        let y = (well.0).call k open' in
        let t = call-here exceptions program.types program.processes m.process m.labels m.good x x well n at y.0 y.1 in (
          record { number = k; call_type = call_type d y.0 },
          t.0,
          ap (option_and_then (λ c. open_call c x)) m.coded
              ∙ ap (option_and_then (λ (n : ℕ). option_map (λ (k : Calling). record { number = n; call_type = call_type d k }) (calling d x))) open' ∙ ap (option_map (λ (c : Calling). record { number = k; call_type = call_type d c })) y.1,
          t.1,
        )

    has-by : (work : List (Cell Name)) (call : Option ℕ) (o : Option Node) → x.frame.work ≡ work → x.frame.call ≡ call → node_at d x.point ≡ o → (w : CellWant Name) → wanted_next own_name d x.frame (item_or work (call_or_statement call o)) ≡ Some w
        → (source modules).wanted x ≡ Some w → HasFor modules x w
    has-by (item ∷ work) call o front open' at w e want = item-has x d m.coded item work w ((well.0).work item (subst (IsIn item) (sym front) (inl refl))) front e
    has-by [] call None front open' at w e want = none-not_some e
    has-by [] (Some k) (Some n) front open' at w e want = subst (HasFor modules x) (some-injective e) (hear-has k n open' at)
    has-by [] None (Some n) front open' at w e want =
        let w' = cond-both (is_action d n.form) (wants own_name d n.form x.frame) w e in statement-has n at open' n.form refl w'.0 w w'.1 want

  wants-there : (limit : ℕ) (x : State Name) → IsSoundProcess program modules x → IsTrue (is_acting ((source modules).ready limit x)) → (w : CellWant Name) × ((source modules).wanted x ≡ Some w)
  wants-there limit x is next = by (code_at modules x) refl next
    where
      by : (o : Option Module) → code_at modules x ≡ o → IsTrue (is_acting (ready_if limit x o)) → (w : CellWant Name) × ((source modules).wanted x ≡ Some w)
      by None e h = not_true h
      by (Some c) e h =
          let m = module-at exceptions program modules checked x c e in
          let same : c ≡ module_of program.types m.process m.labels = some-injective (sym e ∙ m.coded) in
          let w = want-is exceptions program.types program.processes m.process m.labels m.good x (well-in exceptions program modules checked x m is) limit (subst (λ c. IsTrue (is_acting (ready_in c limit x))) same h) in
          (w.0, ap (option_and_then (λ c. wanted own_name c x)) m.coded ∙ w.1)

  places : (x : State Name) (w : CellWant Name) → IsSoundProcess program modules x → (source modules).wanted x ≡ Some w → HasFor modules x w
  places x w is want =
      let k = chain-some (λ c. wanted own_name c x) (code_at modules x) w want in
      let m = module-at exceptions program modules checked x k.0 k.1 in
      let same : k.0 ≡ module_of program.types m.process m.labels = some-injective (sym k.1 ∙ m.coded) in
      has-by x m is x.frame.work x.frame.call (node_at (module_of program.types m.process m.labels) x.point) refl refl refl w (subst (λ c. wanted own_name c x ≡ Some w) same k.2) want

  answers : (x : State Name) (w : CellWant Name) (at : ℕ) (a : CellAction Name) → IsSoundProcess program modules x → (source modules).wanted x ≡ Some w → Answers w a → Suits (source modules) x at a → (y : State Name) × ((source modules).answered x at a ≡ Some y)
  answers x w at a is want h suits =
      let k = chain-some (λ c. wanted own_name c x) (code_at modules x) w want in
      let m = module-at exceptions program modules checked x k.0 k.1 in
      let same : k.0 ≡ module_of program.types m.process m.labels = some-injective (sym k.1 ∙ m.coded) in
      let y = answer-is exceptions program.types program.processes m.process m.labels m.good x (well-in exceptions program modules checked x m is) at w a h
      (suits-code exceptions program modules checked x (module_of program.types m.process m.labels) m.coded at a suits) (subst (λ c. wanted own_name c x ≡ Some w) same k.2) in
      (y.0, ap (option_and_then (λ c. answered own_name c x at a)) m.coded ∙ y.1)

pub checked-processes-go-on : CheckedProcessesGoOn
checked-processes-go-on exceptions program modules checked = record {
  stands = stands-as exceptions program modules checked;
  wants = wants-there exceptions program modules checked;
  places = places exceptions program modules checked;
  answers = answers exceptions program modules checked;
}
