-- What the answer of each action leaves keeps the equation, with what went out and what came in, and with what the kinds of
-- inports and callmessages weigh that it makes or ends.
use Rattle.std.proofs.Common.{◌≡◌, ℕ, suc, ◌+◌, List, [], ◌∷◌, Option, Some, None, refl, sym, subst, arith}
use Rattle.std.specs.Prelude.{nat_eq, option_map, option_and_then, ⊤}
use Rattle.herm_model.specs.Paths.{Path}
use Rattle.herm_model.specs.Types.{Mode, by_in, by_inout, by_out}
use Rattle.herm_model.specs.Outcomes.{ok, arm, disconnected}
use Rattle.herm_model.specs.Outcomes
use Rattle.herm_model.specs.Values.{Kind, a_callmessage, an_inport, an_outport, kind_of, Cell, cell, Parts, no_parts, gap, part, cell_at}
use Rattle.herm_model.specs.CellNames.{count_in, copy_in}
use Rattle.herm_model.proofs.Options.{none-not_some}
use Rattle.herm_journal.specs.Actions.{values, raised, gone, new_process, make_port, make_process, put, take, close, answer, hear}
use Rattle.herm_forms.specs.Frames.{Name, Frame, goes, stuck, finalise_all, finalise_at_once, cleared, drop, putting, Taken, take_all}
use Rattle.herm_forms.specs.Exchanges
use Rattle.herm_forms.specs.ClosesAndAnswers
use Rattle.herm_forms.specs.Callmessages as callmessages
use Rattle.herm_forms.specs.ReturnForms
use Rattle.herm_journal.specs.Messages.{CellReply, CellAction}
use Rattle.herm_forms.specs.Exchanges.{place_of_port, ports_at, receive_at}
use Rattle.herm_forms.specs.Callmessages.{assemble, Composed, with_message, compose}
use Rattle.herm_forms.specs.HearReply.{hear_reply, hear_call}
use Rattle.herm_journal.specs.Kinds.{HaveKinds}
use Rattle.herm_model.proofs.Loads.{load, load_in, load_all}
use Rattle.herm_forms.proofs.Loads.{load_reply, load_coming, load_going}
use Rattle.herm_forms.proofs.Begun.{port_load, kind_load, back_load}
use Rattle.herm_model.proofs.Loads.{SparesPlain}
use Rattle.herm_forms.proofs.Weights.{Spares}
use Rattle.herm_forms.proofs.Balance.{Balanced, AllBalanced, balanced-finalise_all, balanced-end_cell, balanced-drop, balanced-if_there, balanced-cond, balanced-putting, balanced-putting_all, balanced-taking, balanced-made, balanced-making, balanced-copied_parts, balanced-take_all}

module _ {N : Type 0} (w : N → ℕ) (extra : Kind → ℕ) (name : Name → N) (spares : SparesPlain extra) (m k : ℕ) where
  pub kept-new_inport : (x : Path) (action : CellAction N) (b : Frame N) → Balanced w extra name m k (load_coming w extra action + port_load extra action) b → AllBalanced w extra name m k 0 (Exchanges.new_inport name x action b)
  kept-new_inport x (make_port (Some n)) b e = balanced-making w extra name spares m k 0 0 (an_inport n) no_parts (putting x ok) b (omega arith) (λ d b' e'. balanced-putting w extra name spares m k 0 x ok d b' e')
  kept-new_inport x (make_port None) b e = omega arith
  kept-new_inport x _ b e = tt

  -- the message is what is at x without its excess
  pub kept-send : (lost : List Path) (x : Path) (sent : Cell N) (action : CellAction N) (b : Frame N) → cell_at x (drop lost b).variables ≡ Some sent
      → Balanced w extra name m k (load_coming w extra action) b → AllBalanced w extra name m k (load w extra sent) (Exchanges.send lost x action b)
  kept-send lost x sent (put (Some n) back) b there e =
      balanced-taking w extra name spares m k 0 (load w extra sent) x (λ c b. goes ok b) (drop lost b) (balanced-drop w extra name spares m k 0 lost b e)
      (λ c is cut. let same : c ≡ sent = cc (is, there) in let cut' = rw same at cut in omega arith)
  kept-send lost x sent (put None back) b there e =
      balanced-taking w extra name spares m k (load w extra back) (load w extra sent) x (λ c b. putting x (Outcomes.raised disconnected) back b) (drop lost b) (balanced-drop w extra name spares m k (load w extra back) lost b e)
      (λ c is cut. balanced-putting w extra name spares m k (load w extra sent) x (Outcomes.raised disconnected) back (cleared x (drop lost b))
      (let same : c ≡ sent = cc (is, there) in let cut' = rw same at cut in omega arith))
  kept-send lost x sent _ b there e = tt

  pub kept-receive : (x : Path) (action : CellAction N) (b : Frame N) → Balanced w extra name m k (load_coming w extra action) b → AllBalanced w extra name m k 0 (Exchanges.receive x action b)
  kept-receive x (take n message) b e = balanced-putting w extra name spares m k 0 x ok message b (omega arith)
  kept-receive x _ b e = tt

  kept-receive_at : (targets : List Path) (n place : ℕ) (message : Cell N) (b : Frame N) → Balanced w extra name m k (load w extra message) b → AllBalanced w extra name m k 0 (receive_at targets n place message b)
  kept-receive_at [] n place message b e = tt
  kept-receive_at (x ∷ targets) n place message b e =
      balanced-cond w extra name spares m k 0 (nat_eq n place) (putting x (arm place) message b) (receive_at targets (suc n) place message b)
      (λ here. balanced-putting w extra name spares m k 0 x (arm place) message b (omega arith)) (λ on. kept-receive_at targets (suc n) place message b e)

  pub kept-select : (targets ports : List Path) (from : ℕ) (action : CellAction N) (b : Frame N) → Balanced w extra name m k (load_coming w extra action) b → AllBalanced w extra name m k 0 (Exchanges.select targets ports from action b)
  kept-select targets ports from (take n message) b e =
      balanced-if_there w extra name spares m k 0 (λ place. receive_at targets 0 place message b) (option_and_then (place_of_port 0 from) (ports_at ports b))
      (λ place is. kept-receive_at targets 0 place message b e)
  kept-select targets ports from _ b e = tt

  pub kept-work_done : (item : Cell N) (action : CellAction N) (b : Frame N) → Balanced w extra name m k (load w extra item + load_coming w extra action) b → AllBalanced w extra name m k (0 + extra (kind_of item)) (ClosesAndAnswers.work_done item action b)
  kept-work_done item (close n left) b e = balanced-end_cell w extra name spares m k 0 item (finalise_all left b) (balanced-finalise_all w extra name spares m k (0 + load w extra item) left b (omega arith))
  kept-work_done item (answer n r) b e = balanced-end_cell w extra name spares m k 0 item b (omega arith)
  kept-work_done item _ b e = tt

  -- what comes back of a call
  pub kept-hear_reply : (back outs : List Path) (keep left : ℕ → List Path) (r : CellReply N) (b : Frame N) → Balanced w extra name m k (load_reply w extra r) b
      → AllBalanced w extra name m k 0 (hear_reply back outs keep left r b)
  kept-hear_reply back outs keep left (values cs) b e = balanced-putting_all w extra name spares m k 0 back ok cs b (omega arith)
  kept-hear_reply back outs keep left (raised x cs) b e = balanced-putting_all w extra name spares m k 0 (keep x) (Outcomes.raised x) cs (drop (left x) b) (balanced-drop w extra name spares m k (0 + load_all w extra cs) (left x) b (omega arith))
  kept-hear_reply back outs keep left gone b e = balanced-drop w extra name spares m k 0 outs b e

  pub kept-hear_call : (back outs : List Path) (keep left : ℕ → List Path) (call : ℕ) (action : CellAction N) (b : Frame N) → Balanced w extra name m k (load_coming w extra action) b
      → AllBalanced w extra name m k 0 (hear_call back outs keep left call action b)
  kept-hear_call back outs keep left call (hear n r) b e =
      balanced-cond w extra name spares m k 0 (nat_eq n call) (hear_reply back outs keep left r (record b { call = None })) stuck
      (λ same. kept-hear_reply back outs keep left r (record b { call = None }) e) (λ other. tt)
  kept-hear_call back outs keep left call _ b e = tt

  -- the new process's inport goes to it
  pub kept-create : (o : Path) (action : CellAction N) (b : Frame N) (code : ℕ) → Balanced w extra name m k (load_coming w extra action + port_load extra action) b → AllBalanced w extra name m k (load_going w extra name b (new_process code) action) (Exchanges.create name o action b)
  kept-create o (make_process c (Some numbers)) b code e =
      let inport = cell (name (b.number, b.serial)) (an_inport numbers.1) no_parts in
      let b' : Frame N = record b { serial = suc b.serial } in
      balanced-making w extra name spares m k (load w extra inport) (load w extra inport) (an_outport numbers.1) no_parts (putting o ok) b'
      (let first = balanced-made w extra name spares m k 0 (an_inport numbers.1) no_parts b (omega arith) in omega (arith, spares (an_outport numbers.1) refl))
      (λ d b'' e''. balanced-putting w extra name spares m k (load w extra inport) o ok d b'' e'')
  kept-create o (make_process c None) b code e = omega arith
  kept-create o _ b code e = tt

  -- the parameters of a callmessage
  mapped : (f : Parts N → Parts N) (x : ℕ) (o : Option (Parts N)) (ps : Parts N) → ((qs : Parts N) → load_in w extra (f qs) ≡ x + load_in w extra qs) → option_map f o ≡ Some ps
      → (qs : Parts N) × (o ≡ Some qs) × (load_in w extra ps ≡ x + load_in w extra qs)
  mapped f x None ps more is = none-not_some is
  mapped f x (Some qs) ps more is = (qs, refl, let same : f qs ≡ ps = cc is in rw (sym same) (more qs))

  weigh-assemble : (modes : List Mode) (copies : Parts N) (moved : List (Cell N)) (ps : Parts N) → assemble modes copies moved ≡ Some ps → load_in w extra ps ≡ load_in w extra copies + load_all w extra moved
  weigh-assemble [] no_parts [] ps is = let same : no_parts ≡ ps = cc is in rw (sym same) refl
  weigh-assemble (by_in ∷ modes) (part c copies) moved ps is =
      let r = mapped (part c) (load w extra c) (assemble modes copies moved) ps (λ qs. refl) is in omega (arith, weigh-assemble modes copies moved r.0 r.1, r.2)
  weigh-assemble (by_inout ∷ modes) copies (c ∷ moved) ps is =
      let r = mapped (part c) (load w extra c) (assemble modes copies moved) ps (λ qs. refl) is in omega (arith, weigh-assemble modes copies moved r.0 r.1, r.2)
  weigh-assemble (by_out ∷ modes) copies moved ps is =
      let r = mapped gap 0 (assemble modes copies moved) ps (λ qs. omega arith) is in omega (arith, weigh-assemble modes copies moved r.0 r.1, r.2)
  weigh-assemble _ _ _ ps is = none-not_some is

  -- the callmessage of a call
  with_parts_of : (h : ℕ) (modes : List Mode) (copies : Parts N) (t : Taken N) (o : Option (Parts N)) (c : Composed N) → assemble modes copies t.cells ≡ o
      → Balanced w extra name m k (h + extra (kind_of c.message) + load_in w extra copies + load_all w extra t.cells) t.frame → option_map (with_message name t.frame) o ≡ Some c
      → Balanced w extra name m k (h + load w extra c.message) c.frame
  with_parts_of h modes copies t None c parts e is = none-not_some is
  with_parts_of h modes copies t (Some ps) c parts e is =
      let same : with_message name t.frame ps ≡ c = cc is in
      let e' = rw (sym same) at e in
      rw (sym same) (
      let made = balanced-made w extra name spares m k h (a_callmessage t.frame.number t.frame.calls) ps t.frame (omega (arith, e', weigh-assemble modes copies t.cells ps parts)) in omega arith)

  with_taken_of : (h : ℕ) (modes : List Mode) (copies : Parts N) (moved : List Path) (b : Frame N) (o : Option (Taken N)) (c : Composed N) → take_all moved b ≡ o
      → Balanced w extra name m k (h + extra (kind_of c.message) + load_in w extra copies) b
      → option_and_then (λ taken. option_map (with_message name taken.frame) (assemble modes copies taken.cells)) o ≡ Some c
      → Balanced w extra name m k (h + load w extra c.message) c.frame
  with_taken_of h modes copies moved b None c taken e is = none-not_some is
  with_taken_of h modes copies moved b (Some t) c taken e is =
      with_parts_of h modes copies t (assemble modes copies t.cells) c refl (balanced-take_all w extra name spares m k (h + extra (kind_of c.message) + load_in w extra copies) moved b t taken e) is

  pub balanced-compose : (h : ℕ) (modes : List Mode) (inputs : Parts ⊤) (lost moved : List Path) (b : Frame N) (c : Composed N) → compose name modes inputs lost moved b ≡ Some c
      → HaveKinds (Spares extra) inputs → Balanced w extra name m k (h + extra (kind_of c.message)) b → Balanced w extra name m k (h + load w extra c.message) c.frame
  balanced-compose h modes inputs lost moved b c is kinds e =
      let copies = copy_in (λ s. name (b.number, s)) b.serial inputs in
      let b' : Frame N = record b { serial = b.serial + count_in inputs } in
      with_taken_of h modes copies moved (drop lost b') (take_all moved (drop lost b')) c refl
      (balanced-drop w extra name spares m k (h + extra (kind_of c.message) + load_in w extra copies) lost b' (balanced-copied_parts w extra name spares m k (h + extra (kind_of c.message)) inputs b kinds e)) is

  pub kept-call : (outs : List Path) (action : CellAction N) (b : Frame N) (composed : Option (Composed N)) (message : Cell N)
      → ((c : Composed N) → composed ≡ Some c → Balanced w extra name m k (load_coming w extra action + load w extra c.message) c.frame)
      → option_map (λ c. c.message) composed ≡ Some message
      → AllBalanced w extra name m k (load w extra message + back_load extra action) (callmessages.call composed outs action)
  kept-call outs action b None message made is = none-not_some is
  kept-call outs (put (Some n) back) b (Some c) message made is = let same : c.message ≡ message = cc is in rw (sym same) (let e = made c refl in omega arith)
  kept-call outs (put None back) b (Some c) message made is =
      let same : c.message ≡ message = cc is in
      rw (sym same) (balanced-drop w extra name spares m k (load w extra c.message + extra (kind_of back)) outs (finalise_at_once back c.frame) (balanced-end_cell w extra name spares m k (load w extra c.message) back c.frame (let e = made c refl in omega arith)))
  kept-call outs _ b (Some c) message made is = tt

  -- what is given back of a callmessage
  pub kept-return : (source : Path) (action : CellAction N) (taken : Option (Taken N)) (t : Taken N) → taken ≡ Some t → Balanced w extra name m k (load_coming w extra action + load_all w extra t.cells) t.frame
      → AllBalanced w extra name m k (load_all w extra t.cells + kind_load extra (cell_at source t.frame.variables)) (ReturnForms.return taken source action)
  kept-return source action None t is e = none-not_some is
  kept-return source (answer n r) (Some t') t is e =
      let same : t' ≡ t = cc is in
      rw same (balanced-taking w extra name spares m k (load_all w extra t.cells) (load_all w extra t.cells + kind_load extra (cell_at source t.frame.variables)) source (λ c b. goes ok (finalise_at_once c b)) t.frame (omega arith)
      (λ c there cut. let end = balanced-end_cell w extra name spares m k (load_all w extra t.cells) c (cleared source t.frame) cut in
      subst (λ o. Balanced w extra name m k (load_all w extra t.cells + kind_load extra o) (finalise_at_once c (cleared source t.frame))) (sym there) end))
  kept-return source _ (Some t') t is e = tt
