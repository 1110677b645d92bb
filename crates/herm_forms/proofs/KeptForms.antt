-- Edges, what a statement does and what an answer leaves keep the equation of names and kinds; so edges keep the ledger's.
use Rattle.std.proofs.Common.{◌≡◌, ℕ, ◌+◌, List, [], ◌∷◌, Bool, true, false, cond, Option, Some, None, refl, ap, sym, subst, ◌∙◌, arith}
use Rattle.std.specs.Prelude.{filter, flat_map, map, option_map, option_and_then, ⊤}
use Rattle.herm_model.specs.Paths.{Path}
use Rattle.herm_model.specs.Types.{type_at, Parameter}
use Rattle.herm_model.specs.Expressions.{Atom}
use Rattle.herm_model.specs.Statements.{Form, Assign, Move, New, Discard, Unite, Dissolve, Reveal, Case, Wrap, Unwrap, Insert, Remove, Get, For, Connect, Send, Receive, Select, Call, Return, ReturnBy, Create, If, While, Raise, Leave, Arm}
use Rattle.herm_model.specs.Calls.{shape_at, call_parameters}
use Rattle.herm_model.specs.FactsOfStatements.{set_by_call}
use Rattle.herm_model.specs.Targets.{Target}
use Rattle.herm_model.specs.Finalising.{excess}
use Rattle.herm_model.specs.Values.{Kind, kind_of, a_callmessage, an_inport, Cell, cell, Parts, has_value, cell_at}
use Rattle.herm_model.proofs.Options.{none-not_some, some-injective, chain-some, map-some}
use Rattle.herm_forms.specs.Evaluate.{evaluate, key_values}
use Rattle.herm_journal.specs.Actions.{values, raised, new_process, to_put, to_take, to_answer}
use Rattle.herm_forms.specs.Frames.{Name, Loop, Frame, Completion, finalise_parts, drop, Taken, take_all}
use Rattle.herm_forms.specs.Forms
use Rattle.herm_forms.specs.RemoveAndGet
use Rattle.herm_forms.specs.Exchanges
use Rattle.herm_forms.specs.ClosesAndAnswers
use Rattle.herm_forms.specs.Callmessages as callmessages
use Rattle.herm_forms.specs.ReturnForms
use Rattle.herm_journal.specs.Messages.{CellReply, CellWant, CellAction}
use Rattle.herm_forms.specs.Callmessages.{Composed, compose}
use Rattle.herm_forms.specs.EdgeFinalising.{arrive, keeps}
use Rattle.herm_forms.specs.LeavingLoops.{keeps_loop, finalise_loops, leave_loops}
use Rattle.herm_forms.specs.Excess.{excess_over_full, excess_over_declared}
use Rattle.herm_forms.specs.Modules.{Module}
use Rattle.herm_forms.specs.Acts.{key_at, act, arguments_at, is_inout, is_out, inputs_of, composed, kept_at, left_at, given_back, given_at, given_by, wants, settle, settle_reply}
use Rattle.herm_forms.specs.Weights.{weight_accounted, weight_made}
use Rattle.herm_model.proofs.Loads.{load, load_in, load_all, weightless}
use Rattle.herm_forms.proofs.Loads.{load_reply, load_loops, load_coming, load_going, names-kept}
use Rattle.herm_forms.proofs.Begun.{call_load, back_load, source_load, begun, over}
use Rattle.herm_forms.proofs.Copies.{CopiesKinds}
use Rattle.herm_model.proofs.Loads.{SparesPlain}
use Rattle.herm_forms.proofs.Weights.{Spares}
use Rattle.herm_forms.specs.laws.LedgerLaws.{EdgesKeep}
use Rattle.herm_forms.proofs.Balance.{Balanced, AllBalanced, balanced-finalise_parts, balanced-drop, balanced-if_there, balanced-take_all}
use Rattle.herm_forms.proofs.KeptLocal.{balanced-with_value, kept-assign, kept-move, kept-new_value, kept-discard, kept-unite, kept-dissolve, kept-reveal, kept-choose, kept-wrap, kept-unwrap, kept-insert, kept-remove, kept-get, kept-visit, kept-connect, kept-tested}
use Rattle.herm_forms.proofs.KeptActions.{kept-new_inport, kept-send, kept-receive, kept-select, kept-hear_call, kept-create, balanced-compose, kept-call, kept-return}
use Rattle.herm_forms.proofs.Counting.{recount, recount_taken, recount_composed, recount-drop, recount-take_all, recount-compose}

module _ {N : Type 0} (w : N → ℕ) (extra : Kind → ℕ) (name : Name → N) (spares : SparesPlain extra) (m k : ℕ) where
  -- the rows of the loops that are left
  abbrev weigh_left : (ℕ → Bool) → List (Loop N) → ℕ
  weigh_left stay [] = 0
  weigh_left stay (l ∷ loops) = cond (stay l.statement) 0 (load_in w extra l.rows) + weigh_left stay loops

  left_or_kept : (b : Bool) (l : Loop N) (loops : List (Loop N)) → load_loops w extra (cond b (l ∷ loops) loops) + cond b 0 (load_in w extra l.rows) ≡ load_in w extra l.rows + load_loops w extra loops
  left_or_kept true l loops = omega arith
  left_or_kept false l loops = omega arith

  weigh-left : (stay : ℕ → Bool) (loops : List (Loop N)) → load_loops w extra (filter (λ l. stay l.statement) loops) + weigh_left stay loops ≡ load_loops w extra loops
  weigh-left stay [] = refl
  weigh-left stay (l ∷ loops) = omega (arith, left_or_kept (stay l.statement) l (filter (λ l. stay l.statement) loops), weigh-left stay loops)

  let_one_go : (h : ℕ) (b : Bool) (l : Loop N) (body : Frame N) → Balanced w extra name m k (h + cond b 0 (load_in w extra l.rows)) body → Balanced w extra name m k h (cond b body (finalise_parts l.rows body))
  let_one_go h true l body e = omega arith
  let_one_go h false l body e = balanced-finalise_parts w extra name spares m k h l.rows body e

  balanced-finalise_loops : (h : ℕ) (stay : ℕ → Bool) (loops : List (Loop N)) (b : Frame N) → Balanced w extra name m k (h + weigh_left stay loops) b → Balanced w extra name m k h (finalise_loops stay loops b)
  balanced-finalise_loops h stay [] b e = omega arith
  balanced-finalise_loops h stay (l ∷ loops) b e =
      balanced-finalise_loops h stay loops (cond (stay l.statement) b (finalise_parts l.rows b)) (let_one_go (h + weigh_left stay loops) (stay l.statement) l b (omega arith))

  pub balanced-leave_loops : (h : ℕ) (stay : ℕ → Bool) (b : Frame N) → Balanced w extra name m k h b → Balanced w extra name m k h (leave_loops stay b)
  balanced-leave_loops h stay b e =
      balanced-finalise_loops h stay b.loops (record b { loops = filter (λ l. stay l.statement) b.loops }) (omega (arith, weigh-left stay b.loops))

  pub balanced-arrive : (h : ℕ) (c : Module) (t : Target) (b : Frame N) → Balanced w extra name m k h b → Balanced w extra name m k h (arrive c t b)
  balanced-arrive h c t b e =
      let lost = excess c.types c.variables (has_value b.variables) (keeps c t) in
      balanced-leave_loops h (keeps_loop c t) (drop lost b) (balanced-drop w extra name spares m k h lost b e)

  -- what a local step does
  pub kept-act : (c : Module) (s : ℕ) (form : Form) (b : Frame N) → CopiesKinds (Spares extra) c form b.variables → Balanced w extra name m k 0 b → AllBalanced w extra name m k 0 (act name c s form b)
  kept-act c s (Assign x e) b kinds h = balanced-with_value w extra name spares m k 0 (Forms.assign name x) (evaluate b.variables e) b h (λ v is. kept-assign w extra name spares m k x v b (kinds v is) h)
  kept-act c s (Move y x) b kinds h = kept-move w extra name spares m k (excess_over_full c y b) y x b h
  kept-act c s (New x) b kinds h = kept-new_value w extra name spares m k (shape_at c.types c.variables x) x b h
  kept-act c s (Discard x) b kinds h = kept-discard w extra name spares m k x b h
  kept-act c s (Unite v i y) b kinds h = kept-unite w extra name spares m k i (excess_over_full c y b) y v b h
  kept-act c s (Dissolve v i y) b kinds h = kept-dissolve w extra name spares m k i v y b h
  kept-act c s (Reveal v i) b kinds h = kept-reveal w extra name spares m k i v b h
  kept-act c s (Case v is) b kinds h = kept-choose w extra name spares m k v b h
  kept-act c s (Wrap y p) b kinds h = balanced-if_there w extra name spares m k 0 (λ t. Forms.wrap name t (excess_over_full c y b) y p b) (type_at c.types c.variables y) (λ t there. kept-wrap w extra name spares m k t (excess_over_full c y b) y p b h)
  kept-act c s (Unwrap p t y) b kinds h = kept-unwrap w extra name spares m k t p y b h
  kept-act c s (Insert r t) b kinds h = kept-insert w extra name spares m k (key_at c t) (excess_over_full c r b) r t b h
  kept-act c s (Remove r t keys) b kinds h = balanced-if_there w extra name spares m k 0 (λ v. RemoveAndGet.remove (key_at c t) v r t b) (key_values b.variables keys) (λ v there. kept-remove w extra name spares m k (key_at c t) v r t b h)
  kept-act c s (Get r t keys) b kinds h = balanced-if_there w extra name spares m k 0 (λ v. RemoveAndGet.get name (key_at c t) v r t b) (key_values b.variables keys) (λ v there. kept-get w extra name spares m k (key_at c t) v r t b kinds h)
  kept-act c s (For r t) b kinds h = kept-visit w extra name spares m k s r t b kinds h
  kept-act c s (Connect o i) b kinds h = kept-connect w extra name spares m k o i b h
  kept-act c s (If e) b kinds h = balanced-with_value w extra name spares m k 0 Forms.tested (evaluate b.variables e) b h (λ v is. kept-tested w extra name spares m k v b h)
  kept-act c s (While e) b kinds h = balanced-with_value w extra name spares m k 0 Forms.tested (evaluate b.variables e) b h (λ v is. kept-tested w extra name spares m k v b h)
  kept-act c s (Raise e) b kinds h = h
  kept-act c s Leave b kinds h = h
  kept-act c s _ b kinds h = tt

-- what is wanted, taken apart
module _ {N : Type 0} (w : N → ℕ) (extra : Kind → ℕ) (name : Name → N) (spares : SparesPlain extra) (m k steps actions : ℕ) where
  pub settle-send : (lost : List Path) (x o : Path) (want : CellWant N) (action : CellAction N) (b : Frame N) → Exchanges.send_wants lost x o b ≡ Some want
      → Balanced w extra name m k (load_coming w extra action) b → AllBalanced w extra name m k (load_going w extra name b want action) (Exchanges.send lost x action (recount steps actions b))
  settle-send lost x o want action b is e =
      let r = chain-some (λ port. option_map (to_put port) (cell_at x (drop lost b).variables)) (Exchanges.outport_at o b) want is in
      let q = map-some (to_put r.0) (cell_at x (drop lost b).variables) want r.2 in
      let there : cell_at x (drop lost (recount steps actions b)).variables ≡ Some q.0 = ap (λ (b : Frame N). cell_at x b.variables) (recount-drop steps actions lost b) ∙ q.1 in
      rw (sym q.2) (kept-send w extra name spares m k lost x q.0 action (recount steps actions b) there e)

  made-composed : (c : Module) (o : Path) (arguments : List Atom) (h : ℕ) (b : Frame N) (x : Composed N) → composed name c o arguments b ≡ Some x
      → CopiesKinds (Spares extra) c (Call o arguments) b.variables → Balanced w extra name m k (h + extra (kind_of x.message)) b → Balanced w extra name m k (h + load w extra x.message) x.frame
  made-composed c o arguments h b x is kinds e =
      let modes = map (λ (p : Parameter). p.mode) (call_parameters c.types c.variables o) in
      let moved = arguments_at c is_inout o arguments in
      let lost = flat_map (λ (p : Path). excess_over_full c p b) moved in
      let r = chain-some (λ inputs. compose name modes inputs lost moved b) (inputs_of (call_parameters c.types c.variables o) arguments b.variables) x is in
      balanced-compose w extra name spares m k h modes r.0 lost moved b x r.2 (kinds r.0 r.1) e

  recounted : (c : Module) (o : Path) (arguments : List Atom) (b : Frame N) (inputs : Option (Parts ⊤))
      → (let modes = map (λ (p : Parameter). p.mode) (call_parameters c.types c.variables o) in
      let moved = arguments_at c is_inout o arguments in
      let lost = flat_map (λ (p : Path). excess_over_full c p b) moved in
      option_and_then (λ inputs. compose name modes inputs lost moved (recount steps actions b)) inputs
      ≡ option_map (recount_composed steps actions) (option_and_then (λ inputs. compose name modes inputs lost moved b) inputs))
  recounted c o arguments b None = refl
  recounted c o arguments b (Some inputs) =
      recount-compose steps actions name (map (λ (p : Parameter). p.mode) (call_parameters c.types c.variables o)) inputs
      (flat_map (λ (p : Path). excess_over_full c p b) (arguments_at c is_inout o arguments)) (arguments_at c is_inout o arguments) b

  pub recount-composed : (c : Module) (o : Path) (arguments : List Atom) (b : Frame N) → composed name c o arguments (recount steps actions b) ≡ option_map (recount_composed steps actions) (composed name c o arguments b)
  recount-composed c o arguments b = recounted c o arguments b (inputs_of (call_parameters c.types c.variables o) arguments b.variables)

  pub recount-load : (o : Option (Composed N)) → call_load extra (option_map (recount_composed steps actions) o) ≡ call_load extra o
  recount-load None = refl
  recount-load (Some x) = refl

  same-load : (c : Module) (o : Path) (arguments : List Atom) (b : Frame N) (x : Composed N) → composed name c o arguments (recount steps actions b) ≡ Some x → call_load extra (composed name c o arguments b) ≡ extra (kind_of x.message)
  same-load c o arguments b x is = sym (recount-load (composed name c o arguments b)) ∙ ap (call_load extra) (sym (recount-composed c o arguments b) ∙ is)

  -- a composed callmessage, which the counts of the body make no difference to
  pub settle-made : (o : Path) (outs : List Path) (want : CellWant N) (action : CellAction N) (b : Frame N) (made counted : Option (Composed N)) → counted ≡ option_map (recount_composed steps actions) made
      → ((x : Composed N) → counted ≡ Some x → Balanced w extra name m k (load_coming w extra action + load w extra x.message) x.frame)
      → callmessages.call_wants made o b ≡ Some want
      → AllBalanced w extra name m k (load_going w extra name b want action + back_load extra action) (callmessages.call counted outs action)
  settle-made o outs want action b made counted again on is =
      let r = chain-some (λ port. option_map (λ (x : Composed N). to_put port x.message) made) (Exchanges.outport_at o b) want is in
      let q = map-some (λ (x : Composed N). to_put r.0 x.message) made want r.2 in
      rw (sym q.2) (kept-call w extra name spares m k outs action b counted q.0.message on (ap (option_map (λ (x : Composed N). x.message)) (again ∙ ap (option_map (recount_composed steps actions)) q.1)))

  settle-call : (c : Module) (o : Path) (arguments : List Atom) (want : CellWant N) (action : CellAction N) (b : Frame N) → callmessages.call_wants (composed name c o arguments b) o b ≡ Some want
      → CopiesKinds (Spares extra) c (Call o arguments) b.variables
      → Balanced w extra name m k (load_coming w extra action + call_load extra (composed name c o arguments b)) b
      → AllBalanced w extra name m k (load_going w extra name b want action + back_load extra action) (callmessages.call (composed name c o arguments (recount steps actions b)) (arguments_at c is_out o arguments) action)
  settle-call c o arguments want action b is kinds e =
      settle-made o (arguments_at c is_out o arguments) want action b (composed name c o arguments b) (composed name c o arguments (recount steps actions b)) (recount-composed c o arguments b)
      (λ x is. made-composed c o arguments (load_coming w extra action) (recount steps actions b) x is kinds
      (subst (λ o. Balanced w extra name m k (load_coming w extra action + o) b) (same-load c o arguments b x is) e)) is

  pub settle-return : (c : Module) (given : List Path) (reply : List (Cell N) → CellReply N) → ((cs : List (Cell N)) → load_reply w extra (reply cs) ≡ load_all w extra cs)
      → (source : Path) (want : CellWant N) (action : CellAction N) (b : Frame N) → ReturnForms.return_wants reply (given_back c given b) source b ≡ Some want
      → Balanced w extra name m k (load_coming w extra action) b
      → AllBalanced w extra name m k (load_going w extra name b want action + source_load extra source (given_back c given b)) (ReturnForms.return (given_back c given (recount steps actions b)) source action)
  settle-return c given reply weighs source want action b is e =
      let lost = flat_map (λ (p : Path). excess_over_full c p b) given in
      let r = chain-some (λ (to : ℕ × ℕ). option_map (λ (t : Taken N). to_answer to.0 to.1 (reply t.cells)) (given_back c given b)) (option_and_then ReturnForms.caller_of (cell_at source b.variables)) want is in
      let q = map-some (λ (t : Taken N). to_answer r.0.0 r.0.1 (reply t.cells)) (given_back c given b) want r.2 in
      let again : take_all given (drop lost (recount steps actions b)) ≡ Some (recount_taken steps actions q.0)
      = ap (take_all given) (recount-drop steps actions lost b) ∙ recount-take_all steps actions given (drop lost b) ∙ ap (option_map (recount_taken steps actions)) q.1 in
      rw (sym q.2) (rw (weighs q.0.cells) (subst (λ o. AllBalanced w extra name m k (load_all w extra q.0.cells + source_load extra source o) (ReturnForms.return (given_back c given (recount steps actions b)) source action)) (sym q.1) (kept-return w extra name spares m k source action (given_back c given (recount steps actions b)) (recount_taken steps actions q.0) again
      (balanced-take_all w extra name spares m k (load_coming w extra action) given (drop lost (recount steps actions b)) (recount_taken steps actions q.0) again
      (balanced-drop w extra name spares m k (load_coming w extra action) lost (recount steps actions b) e)))))

  pub no-more : (a : ℕ) (r : Completion N) → AllBalanced w extra name m k a r → AllBalanced w extra name m k (a + 0) r
  no-more a r e = let z : a ≡ a + 0 = omega arith in subst (λ h. AllBalanced w extra name m k h r) z e

  pub kept-settle : (c : Module) (form : Form) (want : CellWant N) (at : ℕ) (action : CellAction N) (b : Frame N) → wants name c form b ≡ Some want → CopiesKinds (Spares extra) c form b.variables
      → Balanced w extra name m k (load_coming w extra action + begun extra name c form b action) b → AllBalanced w extra name m k (load_going w extra name b want action + over extra c form b action) (settle name c form at action (recount steps actions b))
  kept-settle c (New x) want at action b is kinds e = rw (sym (some-injective is)) (kept-new_inport w extra name spares m k x action (recount steps actions b) e)
  kept-settle c (Send x o) want at action b is kinds e = no-more (load_going w extra name b want action) _ (settle-send (excess_over_declared c o x b) x o want action b is (omega arith))
  kept-settle c (Receive x i) want at action b is kinds e =
      let r = map-some (λ port. to_take (port ∷ [])) (Exchanges.inport_at i b) want is in
      rw (sym r.2) (kept-receive w extra name spares m k x action (recount steps actions b) (omega arith))
  kept-settle c (Select arms) want at action b is kinds e =
      let ports = map (λ (a : Arm). a.port) arms in
      let r = map-some to_take (Exchanges.ports_at ports b) want is in
      rw (sym r.2) (kept-select w extra name spares m k (map (λ (a : Arm). a.target) arms) ports at action (recount steps actions b) (omega arith))
  kept-settle c (Call o arguments) want at action b is kinds e = settle-call c o arguments want action b is kinds e
  kept-settle c (Return x) want at action b is kinds e = settle-return c (given_at c x) values (λ cs. refl) x want action b is (omega arith)
  kept-settle c (ReturnBy x ex) want at action b is kinds e = settle-return c (given_by c x ex) (raised ex) (λ cs. refl) x want action b is (omega arith)
  kept-settle c (Create o process) want at action b is kinds e = rw (sym (some-injective is)) (no-more (load_going w extra name b (new_process process) action) _ (kept-create w extra name spares m k o action (recount steps actions b) process e))
  kept-settle c _ want at action b is kinds e = tt

  pub settle-reply : (c : Module) (form : Form) (call : ℕ) (action : CellAction N) (b : Frame N) → Balanced w extra name m k (load_coming w extra action) b
      → AllBalanced w extra name m k 0 (settle_reply c form call action b)
  settle-reply c (Call o arguments) call action b e =
      kept-hear_call w extra name spares m k (set_by_call c.types c.variables o arguments) (arguments_at c is_out o arguments) (kept_at c o arguments) (left_at c o arguments) call action b e
  settle-reply c _ call action b e = tt

module _ {N : Type 0} (w : N → ℕ) (extra : Kind → ℕ) (name : Name → N) where
  -- nothing goes out with an item of the work list
  pub item-goes : (item : Cell N) (b : Frame N) (want : CellWant N) (action : CellAction N) → ClosesAndAnswers.work_wants item ≡ Some want → load_going w extra name b want action ≡ 0
  item-goes (cell n (an_inport port) ps) b want action is = rw (sym (some-injective is)) refl
  item-goes (cell n (a_callmessage caller call) ps) b want action is = rw (sym (some-injective is)) refl
  item-goes (cell n k ps) b want action is = none-not_some is

pub edges-keep : EdgesKeep
edges-keep w name c t b = let e = balanced-arrive w weightless name (λ k is. refl) (weight_made w name b) (weight_accounted w b) 0 c t b (omega (arith, names-kept w b)) in omega (arith, names-kept w (arrive c t b))
