-- Processes beside each other stand alike, want the same, look at the same ports and have the same calls open.
use Rattle.std.proofs.Common.{◌≡◌, ◌⊎◌, inl, inr, ℕ, zero, suc, ◌+◌, [], ◌∷◌, Bool, true, false, cond, Option, Some, None, option_map, option_and_then, refl, sym, ap, ap₂, subst, ◌∙◌, arith, true≢false}
use Rattle.std.specs.Prelude.{drop, find, nat_lt}
use Rattle.herm_model.specs.Types.{type_at}
use Rattle.herm_model.specs.Nodes.{Node}
use Rattle.herm_model.specs.Statements.{Form, Receive, Select}
use Rattle.herm_model.specs.Targets.{Target, node, end, end_by}
use Rattle.herm_model.specs.Values.{Name}
use Rattle.herm_model.proofs.Options.{none-not_some}
use Rattle.herm_forms.specs.Acts.{is_action, wants}
use Rattle.herm_forms.specs.Frames.{Frame}
use Rattle.herm_forms.specs.Incoming.{leads_from, looked_at, ports_of as form_ports}
use Rattle.herm_forms.specs.OpenCalls.{Calling, calling_form, call_type}
use Rattle.herm_source.specs.States as states
use Rattle.herm_source.specs.States.{State, own_name, node_at, next_of, wanted}
use Rattle.herm_source.specs.StepLimit as limits
use Rattle.herm_source.specs.StepLimit.{ready_in}
use Rattle.herm_source.specs.SeenBySystem.{port_type, open_call}
use Rattle.herm_source.proofs.sound.OneModule.{StandsWell}
use Rattle.herm_system.specs.Machines.{Standing, local, out_of_steps, to_act, greatest_actions, OpenCall}
use Rattle.herm_instructions.specs.Images.{instruction_at}
use Rattle.herm_instructions.specs.Instructions.{Instruction, Step}
use Rattle.herm_code_machine.specs.CodeActions.{code_wants}
use Rattle.herm_code_machine.specs.CodeLocal.{IsLocallySoundCode}
use Rattle.herm_code_machine.specs.CodeSeen.{ports_of, action_at, code_port_type, type_of_call, code_open_call}
use Rattle.herm_code_machine.specs.CodeStates.{Position, at_index, at_end, at_end_by, CodeState}
use Rattle.herm_code_machine.specs.CodeSteps
use Rattle.herm_code_machine.specs.CodeSteps.{code_next, code_ready, code_wanted, met_at}
use Rattle.herm_code_machine.specs.Pieces.{Met, action_from, action_of, piece_by}
use Rattle.herm_simulation.specs.Leading.{StandFrom}
use Rattle.herm_simulation.specs.Standing.{IsAtPoint}
use Rattle.herm_simulation.proofs.ActingCalls.{main}
use Rattle.herm_simulation.proofs.Arrivals.{step-at}
use Rattle.herm_simulation.proofs.Beside.{Beside, at-node}
use Rattle.herm_simulation.proofs.InPlace.{Coded, types, variables, constants, source_code, checked_code, code, ready, begins_at, block, block-here, no-block}
use Rattle.herm_simulation.proofs.Nexts.{Nexts, on_item, on_reply, on_action, on_local, on_nothing, nexts, open-at, acting-here, action-at_first, action-met, local-piece, calls-or, same-call}
use Rattle.herm_simulation.proofs.PiecesBegin.{acts-first, stand-dropped}

module _ (k : Coded) (x : State Name) (y : CodeState Name) (stands : StandsWell k.exceptions (types k) k.processes k.process k.labels k.sound x) (beside : Beside k x y) (sound : IsLocallySoundCode (ready k) y) where
  pub ready-same : (limit : ℕ) → ready_in (source_code k) limit x ≡ code_ready (ready k) limit y
  ready-same limit = by (nexts k x y stands beside sound)
    where
      acts-within : Frame Name → Standing
      acts-within b = to_act (nat_lt b.actions greatest_actions)

      by : Nexts k x y → ready_in (source_code k) limit x ≡ code_ready (ready k) limit y
      by (on_item item work w s c) = ap (limits.ready_for (source_code k) limit x.frame) s ∙ ap acts-within (sym beside.frame) ∙ sym (ap (CodeSteps.ready_for limit y.frame) c)
      by (on_reply q n here o atoms same called s place c) = ap (limits.ready_for (source_code k) limit x.frame) s ∙ ap acts-within (sym beside.frame) ∙ sym (ap (CodeSteps.ready_for limit y.frame) c)
      by (on_action n here acting w called acts s position c stack) =
          ap (limits.ready_for (source_code k) limit x.frame) s
          ∙ ap (λ b. cond (nat_lt x.frame.steps limit) (cond b (acts-within x.frame) local) out_of_steps) acts
          ∙ ap (λ (b : Frame Name). cond (nat_lt b.steps limit) (acts-within b) out_of_steps) (sym beside.frame)
          ∙ sym (ap (CodeSteps.ready_for limit y.frame) c)
      by (on_local n here step called quiet s c position) =
          ap (limits.ready_for (source_code k) limit x.frame) s
          ∙ ap (λ b. cond (nat_lt x.frame.steps limit) (cond b (acts-within x.frame) local) out_of_steps) quiet
          ∙ ap (λ (b : Frame Name). cond (nat_lt b.steps limit) local out_of_steps) (sym beside.frame)
          ∙ sym (ap (CodeSteps.ready_for limit y.frame) c)
      by (on_nothing s c) = ap (limits.ready_for (source_code k) limit x.frame) s ∙ sym (ap (CodeSteps.ready_for limit y.frame) c)

  pub wanted-same : wanted own_name (source_code k) x ≡ code_wanted own_name (ready k) y
  wanted-same = by (nexts k x y stands beside sound)
    where
      by : Nexts k x y → wanted own_name (source_code k) x ≡ code_wanted own_name (ready k) y
      by (on_item item work w s c) = ap (states.wanted_next own_name (source_code k) x.frame) s ∙ sym (ap (CodeSteps.wanted_next own_name (ready k) y) c)
      by (on_reply q n here o atoms same called s place c) = ap (states.wanted_next own_name (source_code k) x.frame) s ∙ sym (ap (CodeSteps.wanted_next own_name (ready k) y) c)
      by (on_action n here acting w called acts s position c stack) =
          ap (states.wanted_next own_name (source_code k) x.frame) s
          ∙ ap (λ b. cond b (wants own_name (source_code k) n.form x.frame) None) acts
          ∙ sym acting.wanted
          ∙ ap (code_wants own_name (ready k) acting.main acting.stack) (sym beside.frame)
          ∙ sym (ap (option_and_then (λ stack. code_wants own_name (ready k) acting.main stack y.frame)) stack)
          ∙ sym (ap (CodeSteps.wanted_next own_name (ready k) y) c)
      by (on_local n here step called quiet s c position) =
          ap (states.wanted_next own_name (source_code k) x.frame) s
          ∙ ap (λ b. cond b (wants own_name (source_code k) n.form x.frame) None) quiet
          ∙ sym (ap (CodeSteps.wanted_next own_name (ready k) y) c)
      by (on_nothing s c) = ap (states.wanted_next own_name (source_code k) x.frame) s ∙ sym (ap (CodeSteps.wanted_next own_name (ready k) y) c)

  -- where no node is, the code is at an end
  at-an_end : node_at (source_code k) x.point ≡ None → (y.position ≡ at_end) ⊎ ((e : ℕ) × (y.position ≡ at_end_by e))
  at-an_end none = by y.position x.point refl beside.place none
    where
      by : (p : Position) (t : Target) → y.position ≡ p → IsAtPoint (constants k) (checked_code k) y.frame.call p t → node_at (source_code k) t ≡ None → (y.position ≡ at_end) ⊎ ((e : ℕ) × (y.position ≡ at_end_by e))
      by (at_index j) (node i) e h n = none-not_some (sym (no-block k i n) ∙ h.1)
      by (at_index j) end e h n = absurd h
      by (at_index j) (end_by z) e h n = absurd h
      by at_end t e h n = inl e
      by (at_end_by d) t e h n = inr (d, e)

  -- the ports that are looked at
  abbrev Looked : Option Met → ℕ → Option ℕ
  Looked o m = option_and_then (λ (a : Met). option_and_then (type_at (types k) (variables k)) (find (leads_from m y.frame) (ports_of a.instruction))) o

  source-looks : (m : ℕ) (o : Option Node) → node_at (source_code k) x.point ≡ o → port_type (source_code k) x m ≡ option_and_then (λ (n : Node). looked_at (source_code k) n.form x.frame m) o
  source-looks m o at = ap (option_and_then (λ (n : Node). looked_at (source_code k) n.form x.frame m)) at

  no-ports : (form : Form) → is_action (source_code k) form ≡ false → form_ports form ≡ []
  no-ports (Receive z i) e = absurd (true≢false e)
  no-ports (Select arms) e = absurd (true≢false e)
  no-ports form e = refl

  action-at : (j : ℕ) (o : Option Met) → y.position ≡ at_index j → instruction_at (code k) j ≡ Some Step → action_from (types k) (drop (suc j) (code k).code) (suc j) ≡ o → action_at (ready k) y.position ≡ o
  action-at j o position step acts = ap (action_at (ready k)) position ∙ ap (λ i. option_and_then (action_of (ready k)) (piece_by (types k) j i)) step ∙ acts

  pub ports-same : (m : ℕ) → port_type (source_code k) x m ≡ code_port_type (ready k) y m
  ports-same m = by x.frame.call (node_at (source_code k) x.point) refl refl
    where
      at-node_of : (n : Node) → looked_at (source_code k) n.form x.frame m ≡ option_and_then (type_at (types k) (variables k)) (find (leads_from m y.frame) (form_ports n.form))
      at-node_of n = ap (λ (b : Frame Name). option_and_then (type_at (types k) (variables k)) (find (leads_from m b) (form_ports n.form))) (sym beside.frame)

      by : (call : Option ℕ) (o : Option Node) → x.frame.call ≡ call → node_at (source_code k) x.point ≡ o → port_type (source_code k) x m ≡ code_port_type (ready k) y m
      by call None c at = source-looks m None at ∙ ended (at-an_end at)
        where
          ended : (y.position ≡ at_end) ⊎ ((e : ℕ) × (y.position ≡ at_end_by e)) → None ≡ code_port_type (ready k) y m
          ended (inl e) = sym (ap (λ p. Looked (action_at (ready k) p) m) e)
          ended (inr h) = sym (ap (λ p. Looked (action_at (ready k) p) m) h.1)
      by (Some q) (Some n) c at =
          let h = open-at k x y stands beside sound q n c at in
          let here = h.here in
          let x-main = main k here.place n here.there h.port h.atoms h.same in
          let met : action_at (ready k) y.position ≡ Some (record { index = here.index + 0; instruction = x-main }) =
          ap (action_at (ready k)) here.position
          ∙ ap (λ i. option_and_then (action_of (ready k)) (piece_by (types k) here.index i)) h.there
          ∙ acts-first (types k) [] x-main (drop here.index (code k).code) here.index (stand-dropped (ready k) here.index (x-main ∷ []) (only x-main here.index h.there)) (λ z m. absurd m) refl refl in
          source-looks m (Some n) at ∙ ap (λ f. looked_at (source_code k) f x.frame m) h.same ∙ sym (ap (λ o. Looked o m) met)
        where
          only : (z : Instruction) (j : ℕ) → instruction_at (code k) j ≡ Some z → StandFrom (ready k) j (z ∷ [])
          only z j e zero w is = let same : j + 0 ≡ j = omega arith in subst (λ a. instruction_at (code k) a ≡ Some w) (sym same) (e ∙ is)
          only z j e (suc m) w is = none-not_some is
      by None (Some n) c at = idle (is_action (source_code k) n.form) refl
        where
          idle : (b : Bool) → is_action (source_code k) n.form ≡ b → port_type (source_code k) x m ≡ code_port_type (ready k) y m
          idle true acts =
              let here = at-node k x y n beside at in
              let acting = acting-here k x y stands beside sound n here c acts (calls-or n.form) in
              let met = action-at (begins_at k here.place) _ (action-at_first k x y stands beside sound n here c acts) (step-at k here.place (block k here.place n) (block-here k here.place n here.there)) (action-met k x y stands beside sound n here acting) in
              source-looks m (Some n) at ∙ at-node_of n
              ∙ ap (λ ps. option_and_then (type_at (types k) (variables k)) (find (leads_from m y.frame) ps)) (sym acting.ports)
              ∙ sym (ap (λ o. Looked o m) met)
          idle false quiet =
              let here = at-node k x y n beside at in
              let p = local-piece k x y stands beside sound n here c at quiet in
              source-looks m (Some n) at ∙ ap (λ ps. option_and_then (type_at (types k) (variables k)) (find (leads_from m x.frame) ps)) (no-ports n.form quiet)
              ∙ sym (ap (λ o. Looked o m) (action-at p.0 None p.1 p.2 p.3))

  -- the call that is open
  abbrev Called : ℕ → Option Met → Option OpenCall
  Called q o = option_and_then (λ (m : Met). option_map (λ t. record { number = q; call_type = t }) (type_of_call (ready k) m.instruction)) o

  pub calls-same : open_call (source_code k) x ≡ code_open_call (ready k) y
  calls-same = by x.frame.call (node_at (source_code k) x.point) refl refl
    where
      source-calls : (call : Option ℕ) (o : Option Node) → x.frame.call ≡ call → node_at (source_code k) x.point ≡ o
          → open_call (source_code k) x ≡ option_and_then (λ q. option_map (λ (c : Calling). record { number = q; call_type = call_type (source_code k) c }) (option_and_then (λ (n : Node). calling_form n.form) o)) call
      source-calls call o c at =
          ap₂ (λ call o. option_and_then (λ q. option_map (λ (c : Calling). record { number = q; call_type = call_type (source_code k) c }) (option_and_then (λ (n : Node). calling_form n.form) o)) call) c at

      by : (call : Option ℕ) (o : Option Node) → x.frame.call ≡ call → node_at (source_code k) x.point ≡ o → open_call (source_code k) x ≡ code_open_call (ready k) y
      by None o c at = source-calls None o c at ∙ sym (ap (option_and_then (λ q. Called q (met_at (ready k) y.position))) (same-call k x y stands beside sound None c))
      by (Some q) None c at =
          source-calls (Some q) None c at ∙ ended (at-an_end at) ∙ sym (ap (option_and_then (λ q. Called q (met_at (ready k) y.position))) (same-call k x y stands beside sound (Some q) c))
        where
          ended : (y.position ≡ at_end) ⊎ ((e : ℕ) × (y.position ≡ at_end_by e)) → None ≡ Called q (met_at (ready k) y.position)
          ended (inl e) = sym (ap (λ p. Called q (met_at (ready k) p)) e)
          ended (inr h) = sym (ap (λ p. Called q (met_at (ready k) p)) h.1)
      by (Some q) (Some n) c at =
          let h = open-at k x y stands beside sound q n c at in
          let here = h.here in
          source-calls (Some q) (Some n) c at
          ∙ ap (λ f. option_map (λ (c : Calling). record { number = q; call_type = call_type (source_code k) c }) (calling_form f)) h.same
          ∙ sym (ap (λ i. Called q (elim i [ None ↦ None | Some instruction ↦ Some (record { index = here.index; instruction = instruction }) ])) h.there)
          ∙ sym (ap (λ p. Called q (met_at (ready k) p)) here.position)
          ∙ sym (ap (option_and_then (λ q. Called q (met_at (ready k) y.position))) (same-call k x y stands beside sound (Some q) c))
