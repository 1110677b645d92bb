-- Changing the names of cells commutes with what actions want and with what their answers leave.
use Rattle.std.proofs.Common.{◌≡◌, ℕ, suc, ◌+◌, List, [], ◌∷◌, map, cond, Option, Some, None, option_map, refl, sym, ap, ap₂, ◌∙◌, nat_eq}
use Rattle.std.specs.Prelude.{option_and_then, ⊤}
use Rattle.herm_model.specs.Paths.{Path}
use Rattle.herm_model.specs.Types.{Mode, by_in, by_inout, by_out}
use Rattle.herm_model.specs.Outcomes.{ok, arm, disconnected}
use Rattle.herm_model.specs.Outcomes
use Rattle.herm_model.specs.Values.{a_callmessage, an_inport, an_outport, Cell, cell, Parts, no_parts, gap, part, cell_at, read_at}
use Rattle.herm_model.specs.CellNames.{count_in, copy_in, rename, rename_in}
use Rattle.herm_model.proofs.Renaming.{cell_at-rename, read_at-rename, rename-copy_in}
use Rattle.herm_journal.specs.Actions.{values, raised, gone, to_put, to_take, to_answer, make_port, make_process, put, take, close, answer, hear}
use Rattle.herm_forms.specs.Frames.{Name, Frame, goes, stays, stuck, finalise_all, finalise_at_once, drop, taking, putting, putting_all, Taken, take_all, making}
use Rattle.herm_forms.specs.Forms.{inport_number, outport_number}
use Rattle.herm_forms.specs.Exchanges
use Rattle.herm_forms.specs.ClosesAndAnswers
use Rattle.herm_forms.specs.Callmessages as callmessages
use Rattle.herm_forms.specs.ReturnForms
use Rattle.herm_journal.specs.Messages.{CellReply, CellWant, CellAction}
use Rattle.herm_forms.specs.Exchanges.{inport_at, outport_at, ports_at, place_of_port, receive_at}
use Rattle.herm_forms.specs.Callmessages.{assemble, Composed, with_message, compose}
use Rattle.herm_forms.specs.HearReply.{hear_reply, hear_call}
use Rattle.herm_forms.specs.ReturnForms.{give_back, caller_of}
use Rattle.herm_forms.specs.Renaming.{rename_body}
use Rattle.herm_journal.specs.Renaming.{rename_reply, rename_action, rename_want}
use Rattle.herm_forms.proofs.renamed.RenamedBodies.{rename_result, rename_taken, finalise_all-renamed, end_cell-renamed, drop-renamed, if_there-renamed, cond-renamed, taking-renamed, putting-renamed, putting_all-renamed, take_all-renamed, making-renamed}
use Rattle.herm_forms.proofs.renamed.RenamedForms.{moving-renamed, number-renamed, inport_number-renamed, outport_number-renamed}

-- options
pub option_map-twice : {X Y Z : Type 0} (g : X → Y) (h : Y → Z) (o : Option X) → option_map h (option_map g o) ≡ option_map (λ x. h (g x)) o
option_map-twice g h None = refl
option_map-twice g h (Some x) = refl

pub and_then-map : {X X' Y Y' : Type 0} (g : X → X') (r : Y → Y') (next : X → Option Y) (next' : X' → Option Y') → ((x : X) → next' (g x) ≡ option_map r (next x)) → (o : Option X)
    → option_and_then next' (option_map g o) ≡ option_map r (option_and_then next o)
and_then-map g r next next' e None = refl
and_then-map g r next next' e (Some x) = e x

module _ {N M : Type 0} (f : N → M) where
  abbrev pub rename_composed : Composed N → Composed M
  rename_composed c = record { message = rename f c.message; call = c.call; frame = rename_body f c.frame }

  number_at : (g : Cell N → Option ℕ) (g' : Cell M → Option ℕ) → ((c : Cell N) → g' (rename f c) ≡ g c) → (o : Option (Cell N)) → option_and_then g' (option_map (rename f) o) ≡ option_and_then g o
  number_at g g' e None = refl
  number_at g g' e (Some c) = e c

  pub inport_at-renamed : (i : Path) (b : Frame N) → inport_at i (rename_body f b) ≡ inport_at i b
  inport_at-renamed i b = ap (option_and_then inport_number) (read_at-rename f i b.variables) ∙ number_at inport_number inport_number (inport_number-renamed f) (read_at i b.variables)

  pub outport_at-renamed : (o : Path) (b : Frame N) → outport_at o (rename_body f b) ≡ outport_at o b
  outport_at-renamed o b = ap (option_and_then outport_number) (read_at-rename f o b.variables) ∙ number_at outport_number outport_number (outport_number-renamed f) (read_at o b.variables)

  ports_at-renamed : (paths : List Path) (b : Frame N) → ports_at paths (rename_body f b) ≡ ports_at paths b
  ports_at-renamed [] b = refl
  ports_at-renamed (i ∷ paths) b = ap₂ (λ ps port. option_and_then (λ n. option_map (n ∷◌) ps) port) (ports_at-renamed paths b) (inport_at-renamed i b)

  -- what is wanted
  with_port : (g : ℕ → Option (CellWant N)) (g' : ℕ → Option (CellWant M)) → ((n : ℕ) → g' n ≡ option_map (rename_want f) (g n)) → (o : Option ℕ)
      → option_and_then g' o ≡ option_map (rename_want f) (option_and_then g o)
  with_port g g' e None = refl
  with_port g g' e (Some n) = e n

  mapped_want : {X Y : Type 0} (r : X → Y) (g : X → CellWant N) (g' : Y → CellWant M) → ((x : X) → g' (r x) ≡ rename_want f (g x)) → (o : Option X) → option_map g' (option_map r o) ≡ option_map (rename_want f) (option_map g o)
  mapped_want r g g' e None = refl
  mapped_want r g g' e (Some x) = ap Some (e x)

  pub send_wants-renamed : (lost : List Path) (x o : Path) (b : Frame N) → Exchanges.send_wants lost x o (rename_body f b) ≡ option_map (rename_want f) (Exchanges.send_wants lost x o b)
  send_wants-renamed lost x o b =
      ap₂ (λ c port. option_and_then (λ n. option_map (to_put n) c) port) (ap (λ (b : Frame M). cell_at x b.variables) (drop-renamed f lost b) ∙ cell_at-rename f x (drop lost b).variables) (outport_at-renamed o b)
      ∙ with_port (λ n. option_map (to_put n) (cell_at x (drop lost b).variables)) (λ n. option_map (to_put n) (option_map (rename f) (cell_at x (drop lost b).variables)))
      (λ n. mapped_want (rename f) (to_put n) (to_put n) (λ c. refl) (cell_at x (drop lost b).variables)) (outport_at o b)

  same_want : {X : Type 0} (g : X → CellWant N) (g' : X → CellWant M) → ((x : X) → g' x ≡ rename_want f (g x)) → (o : Option X) → option_map g' o ≡ option_map (rename_want f) (option_map g o)
  same_want g g' e None = refl
  same_want g g' e (Some x) = ap Some (e x)

  pub receive_wants-renamed : (i : Path) (b : Frame N) → Exchanges.receive_wants i (rename_body f b) ≡ option_map (rename_want f) (Exchanges.receive_wants i b)
  receive_wants-renamed i b = ap (option_map (λ n. to_take (n ∷ []))) (inport_at-renamed i b) ∙ same_want (λ n. to_take (n ∷ [])) (λ n. to_take (n ∷ [])) (λ n. refl) (inport_at i b)

  pub select_wants-renamed : (ports : List Path) (b : Frame N) → Exchanges.select_wants ports (rename_body f b) ≡ option_map (rename_want f) (Exchanges.select_wants ports b)
  select_wants-renamed ports b = ap (option_map to_take) (ports_at-renamed ports b) ∙ same_want to_take to_take (λ n. refl) (ports_at ports b)

  pub call_wants-renamed : (composed : Option (Composed N)) (o : Path) (b : Frame N) → callmessages.call_wants (option_map rename_composed composed) o (rename_body f b) ≡ option_map (rename_want f) (callmessages.call_wants composed o b)
  call_wants-renamed composed o b =
      ap (option_and_then (λ n. option_map (λ (c : Composed M). to_put n c.message) (option_map rename_composed composed))) (outport_at-renamed o b)
      ∙ with_port (λ n. option_map (λ (c : Composed N). to_put n c.message) composed) (λ n. option_map (λ (c : Composed M). to_put n c.message) (option_map rename_composed composed))
      (λ n. mapped_want rename_composed (λ (c : Composed N). to_put n c.message) (λ (c : Composed M). to_put n c.message) (λ c. refl) composed) (outport_at o b)

  caller_of-renamed : (c : Cell N) → caller_of (rename f c) ≡ caller_of c
  caller_of-renamed (cell n (a_callmessage caller call) ps) = refl
  caller_of-renamed (cell n k ps) = refl

  caller-renamed : (o : Option (Cell N)) → option_and_then caller_of (option_map (rename f) o) ≡ option_and_then caller_of o
  caller-renamed None = refl
  caller-renamed (Some c) = caller_of-renamed c

  with_caller : (g : ℕ × ℕ → Option (CellWant N)) (g' : ℕ × ℕ → Option (CellWant M)) → ((n : ℕ × ℕ) → g' n ≡ option_map (rename_want f) (g n)) → (o : Option (ℕ × ℕ))
      → option_and_then g' o ≡ option_map (rename_want f) (option_and_then g o)
  with_caller g g' e None = refl
  with_caller g g' e (Some n) = e n

  pub return_wants-renamed : (reply : List (Cell N) → CellReply N) (reply' : List (Cell M) → CellReply M) → ((cs : List (Cell N)) → reply' (map (rename f) cs) ≡ rename_reply f (reply cs)) → (taken : Option (Taken N)) (m : Path) (b : Frame N)
      → ReturnForms.return_wants reply' (option_map (rename_taken f) taken) m (rename_body f b) ≡ option_map (rename_want f) (ReturnForms.return_wants reply taken m b)
  return_wants-renamed reply reply' e taken m b =
      ap (option_and_then (λ c. option_map (λ (t : Taken M). to_answer c.0 c.1 (reply' t.cells)) (option_map (rename_taken f) taken))) (ap (option_and_then caller_of) (cell_at-rename f m b.variables) ∙ caller-renamed (cell_at m b.variables))
      ∙ with_caller (λ c. option_map (λ (t : Taken N). to_answer c.0 c.1 (reply t.cells)) taken) (λ c. option_map (λ (t : Taken M). to_answer c.0 c.1 (reply' t.cells)) (option_map (rename_taken f) taken))
      (λ c. mapped_want (rename_taken f) (λ (t : Taken N). to_answer c.0 c.1 (reply t.cells)) (λ (t : Taken M). to_answer c.0 c.1 (reply' t.cells)) (λ t. ap (to_answer c.0 c.1) (e t.cells)) taken)
      (option_and_then caller_of (cell_at m b.variables))

  pub work_wants-renamed : (item : Cell N) → ClosesAndAnswers.work_wants (rename f item) ≡ option_map (rename_want f) (ClosesAndAnswers.work_wants item)
  work_wants-renamed (cell n (an_inport port) ps) = refl
  work_wants-renamed (cell n (a_callmessage caller call) ps) = refl
  work_wants-renamed (cell n k ps) = refl

  -- what answers leave
  pub send-renamed : (lost : List Path) (x : Path) (action : CellAction N) (b : Frame N) → Exchanges.send lost x (rename_action f action) (rename_body f b) ≡ rename_result f (Exchanges.send lost x action b)
  send-renamed lost x (put (Some k) m) b = moving-renamed f lost x (λ sent b. goes ok b) (λ sent b. goes ok b) (λ c b. refl) b
  send-renamed lost x (put None m) b =
      moving-renamed f lost x (λ sent b. putting x (Outcomes.raised disconnected) m b) (λ sent b. putting x (Outcomes.raised disconnected) (rename f m) b) (λ c b. putting-renamed f x (Outcomes.raised disconnected) m b) b
  send-renamed lost x _ b = refl

  pub receive-renamed : (x : Path) (action : CellAction N) (b : Frame N) → Exchanges.receive x (rename_action f action) (rename_body f b) ≡ rename_result f (Exchanges.receive x action b)
  receive-renamed x (take k m) b = putting-renamed f x ok m b
  receive-renamed x _ b = refl

  receive_at-renamed : (targets : List Path) (n place : ℕ) (m : Cell N) (b : Frame N) → receive_at targets n place (rename f m) (rename_body f b) ≡ rename_result f (receive_at targets n place m b)
  receive_at-renamed [] n place m b = refl
  receive_at-renamed (x ∷ targets) n place m b =
      ap₂ (cond (nat_eq n place)) (putting-renamed f x (arm place) m b) (receive_at-renamed targets (suc n) place m b)
      ∙ cond-renamed f (nat_eq n place) (putting x (arm place) m b) (receive_at targets (suc n) place m b)

  pub select-renamed : (targets ports : List Path) (from : ℕ) (action : CellAction N) (b : Frame N) → Exchanges.select targets ports from (rename_action f action) (rename_body f b) ≡ rename_result f (Exchanges.select targets ports from action b)
  select-renamed targets ports from (take k m) b =
      number-renamed f (λ place. receive_at targets 0 place m b) (λ place. receive_at targets 0 place (rename f m) (rename_body f b)) (λ place. receive_at-renamed targets 0 place m b)
      (option_and_then (place_of_port 0 from) (ports_at ports b)) (option_and_then (place_of_port 0 from) (ports_at ports (rename_body f b))) (ap (option_and_then (place_of_port 0 from)) (ports_at-renamed ports b))
  select-renamed targets ports from _ b = refl

  pub work_done-renamed : (item : Cell N) (action : CellAction N) (b : Frame N) → ClosesAndAnswers.work_done (rename f item) (rename_action f action) (rename_body f b) ≡ rename_result f (ClosesAndAnswers.work_done item action b)
  work_done-renamed item (close n left) b = ap stays (ap (finalise_at_once (rename f item)) (finalise_all-renamed f left b) ∙ end_cell-renamed f item (finalise_all left b))
  work_done-renamed item (answer n r) b = ap stays (end_cell-renamed f item b)
  work_done-renamed item _ b = refl

  hear_reply-renamed : (back outs : List Path) (keep left : ℕ → List Path) (r : CellReply N) (b : Frame N) → hear_reply back outs keep left (rename_reply f r) (rename_body f b) ≡ rename_result f (hear_reply back outs keep left r b)
  hear_reply-renamed back outs keep left (values cs) b = putting_all-renamed f back ok cs b
  hear_reply-renamed back outs keep left (raised x cs) b =
      ap (putting_all (keep x) (Outcomes.raised x) (map (rename f) cs)) (drop-renamed f (left x) b) ∙ putting_all-renamed f (keep x) (Outcomes.raised x) cs (drop (left x) b)
  hear_reply-renamed back outs keep left gone b = ap (goes (Outcomes.raised disconnected)) (drop-renamed f outs b)

  pub hear_call-renamed : (back outs : List Path) (keep left : ℕ → List Path) (call : ℕ) (action : CellAction N) (b : Frame N)
      → hear_call back outs keep left call (rename_action f action) (rename_body f b) ≡ rename_result f (hear_call back outs keep left call action b)
  hear_call-renamed back outs keep left call (hear n r) b =
      ap (λ x. cond (nat_eq n call) x stuck) (hear_reply-renamed back outs keep left r (record b { call = None })) ∙ cond-renamed f (nat_eq n call) (hear_reply back outs keep left r (record b { call = None })) stuck
  hear_call-renamed back outs keep left call _ b = refl

  pub call-renamed : (composed : Option (Composed N)) (outs : List Path) (action : CellAction N) → callmessages.call (option_map rename_composed composed) outs (rename_action f action) ≡ rename_result f (callmessages.call composed outs action)
  call-renamed composed outs (put (Some k) m) = if_there-renamed f rename_composed (λ (c : Composed N). stays (record c.frame { call = Some c.call })) (λ (c : Composed M). stays (record c.frame { call = Some c.call })) (λ c. refl) composed
  call-renamed composed outs (put None m) =
      if_there-renamed f rename_composed (λ (c : Composed N). goes (Outcomes.raised disconnected) (drop outs (finalise_at_once m c.frame))) (λ (c : Composed M). goes (Outcomes.raised disconnected) (drop outs (finalise_at_once (rename f m) c.frame)))
      (λ c. ap (goes (Outcomes.raised disconnected)) (ap (drop outs) (end_cell-renamed f m c.frame) ∙ drop-renamed f outs (finalise_at_once m c.frame))) composed
  call-renamed composed outs _ = refl

  pub give_back-renamed : (lost given : List Path) (b : Frame N) → give_back lost given (rename_body f b) ≡ option_map (rename_taken f) (give_back lost given b)
  give_back-renamed lost given b = ap (take_all given) (drop-renamed f lost b) ∙ take_all-renamed f given (drop lost b)

  pub return-renamed : (taken : Option (Taken N)) (m : Path) (action : CellAction N) → ReturnForms.return (option_map (rename_taken f) taken) m (rename_action f action) ≡ rename_result f (ReturnForms.return taken m action)
  return-renamed taken m (answer k r) =
      if_there-renamed f (rename_taken f) (λ (t : Taken N). taking m (λ c b. goes ok (finalise_at_once c b)) t.frame) (λ (t : Taken M). taking m (λ c b. goes ok (finalise_at_once c b)) t.frame)
      (λ t. taking-renamed f m (λ c b. goes ok (finalise_at_once c b)) (λ c b. goes ok (finalise_at_once c b)) (λ c b. ap (goes ok) (end_cell-renamed f c b)) t.frame) taken
  return-renamed taken m _ = refl

  -- the callmessage of a call
  assemble-renamed : (modes : List Mode) (copies : Parts N) (moved : List (Cell N)) → assemble modes (rename_in f copies) (map (rename f) moved) ≡ option_map (rename_in f) (assemble modes copies moved)
  assemble-renamed [] no_parts [] = refl
  assemble-renamed (by_in ∷ modes) (part c copies) moved =
      ap (option_map (part (rename f c))) (assemble-renamed modes copies moved) ∙ option_map-twice (rename_in f) (part (rename f c)) (assemble modes copies moved) ∙ sym (option_map-twice (part c) (rename_in f) (assemble modes copies moved))
  assemble-renamed (by_inout ∷ modes) copies (c ∷ moved) =
      ap (option_map (part (rename f c))) (assemble-renamed modes copies moved) ∙ option_map-twice (rename_in f) (part (rename f c)) (assemble modes copies moved) ∙ sym (option_map-twice (part c) (rename_in f) (assemble modes copies moved))
  assemble-renamed (by_out ∷ modes) copies moved =
      ap (option_map gap) (assemble-renamed modes copies moved) ∙ option_map-twice (rename_in f) gap (assemble modes copies moved) ∙ sym (option_map-twice gap (rename_in f) (assemble modes copies moved))
  assemble-renamed _ _ _ = refl

  module _ (name : Name → N) where
    abbrev again : Name → M
    again n = f (name n)

    pub new_inport-renamed : (x : Path) (action : CellAction N) (b : Frame N) → Exchanges.new_inport again x (rename_action f action) (rename_body f b) ≡ rename_result f (Exchanges.new_inport name x action b)
    new_inport-renamed x (make_port (Some n)) b = making-renamed f name (an_inport n) no_parts (putting x ok) (putting x ok) (putting-renamed f x ok) b
    new_inport-renamed x (make_port None) b = refl
    new_inport-renamed x _ b = refl

    pub create-renamed : (o : Path) (action : CellAction N) (b : Frame N) → Exchanges.create again o (rename_action f action) (rename_body f b) ≡ rename_result f (Exchanges.create name o action b)
    create-renamed o (make_process code (Some made)) b =
        making-renamed f name (an_inport made.1) no_parts (λ inport b. making name (an_outport made.1) no_parts (putting o ok) b) (λ inport b. making again (an_outport made.1) no_parts (putting o ok) b)
        (λ c b. making-renamed f name (an_outport made.1) no_parts (putting o ok) (putting o ok) (putting-renamed f o ok) b) b
    create-renamed o (make_process code None) b = refl
    create-renamed o _ b = refl

    with_message-renamed : (b : Frame N) (o : Option (Parts N)) → option_map (with_message again (rename_body f b)) (option_map (rename_in f) o) ≡ option_map rename_composed (option_map (with_message name b) o)
    with_message-renamed b None = refl
    with_message-renamed b (Some ps) = refl

    pub compose-renamed : (modes : List Mode) (inputs : Parts ⊤) (lost moved : List Path) (b : Frame N)
        → compose again modes inputs lost moved (rename_body f b) ≡ option_map rename_composed (compose name modes inputs lost moved b)
    compose-renamed modes inputs lost moved b =
        let b' : Frame N = record b { serial = b.serial + count_in inputs } in
        let copies = copy_in (λ s. name (b.number, s)) b.serial inputs in
        ap₂ (λ t (copies : Parts M). option_and_then (λ (taken : Taken M). option_map (with_message again taken.frame) (assemble modes copies taken.cells)) t)
        (ap (take_all moved) (drop-renamed f lost b') ∙ take_all-renamed f moved (drop lost b'))
        (sym (rename-copy_in (λ s. name (b.number, s)) f b.serial inputs))
        ∙ and_then-map (rename_taken f) rename_composed
        (λ (taken : Taken N). option_map (with_message name taken.frame) (assemble modes copies taken.cells))
        (λ (taken : Taken M). option_map (with_message again taken.frame) (assemble modes (rename_in f copies) taken.cells))
        (λ taken. ap (option_map (with_message again (rename_body f taken.frame))) (assemble-renamed modes copies taken.cells) ∙ with_message-renamed taken.frame (assemble modes copies taken.cells))
        (take_all moved (drop lost b'))
