-- The callmessage of a call whose order is out: it is what was wanted, its caller is known, and no call was open before it.
use Rattle.std.proofs.Common.{◌≡◌, ℕ, suc, ◌+◌, List, [], ◌∷◌, map, Bool, true, false, Option, Some, None, option_map, option_and_then, refl, sym, ap, subst, ◌∙◌}
use Rattle.std.specs.Prelude.{flat_map, ⊤}
use Rattle.herm_model.specs.CellNames.{count_in, copy_in}
use Rattle.herm_model.specs.Paths.{Path}
use Rattle.herm_model.specs.Types.{Mode, Raised}
use Rattle.herm_model.specs.Values.{Cell, Parts, Value, cell_at}
use Rattle.herm_model.proofs.Options.{none-not_some, some-injective, chain-some, map-some}
use Rattle.herm_journal.specs.Actions.{to_put}
use Rattle.herm_journal.specs.Messages.{CellWant}
use Rattle.herm_journal.specs.Renaming.{forget_name}
use Rattle.herm_forms.specs.Callmessages.{Composed, assemble, compose, with_message}
use Rattle.herm_forms.specs.Excess.{excess_over_full}
use Rattle.herm_forms.specs.Exchanges.{outport_at}
use Rattle.herm_forms.specs.Frames.{Frame, Taken, cleared, counted_action, drop, drop_at, finalise_old, take_all, with_taken}
use Rattle.herm_forms.specs.ReturnForms.{caller_of}
use Rattle.herm_forms.proofs.Counting.{recount_composed, recount-compose}
use Rattle.herm_instructions.specs.Instructions.{Argument, Call}
use Rattle.herm_instructions.specs.Operands.{count_inputs}
use Rattle.herm_code_machine.specs.CodeActions.{called, code_wants, composed_of, inouts, mode_of}
use Rattle.herm_code_machine.specs.CodeSteps.{counted_if}
use Rattle.herm_code_machine.specs.ReadyCode.{ReadyCode}
use Rattle.herm_code_machine.specs.Stacks.{Popped, parts_from, pop}
use Rattle.herm_answers.specs.Orders.{IsPutOf}

old_keeps : (o : Option (Cell ⊤)) (b : Frame ⊤) → (finalise_old o b).call ≡ b.call
old_keeps None b = refl
old_keeps (Some d) b = refl

drop_keeps : (paths : List Path) (b : Frame ⊤) → (drop paths b).call ≡ b.call
drop_keeps [] b = refl
drop_keeps (p ∷ paths) b = drop_keeps paths (drop_at p b) ∙ old_keeps (cell_at p b.variables) (cleared p b)

taken_keeps : (d : Cell ⊤) (b : Frame ⊤) (t : Taken ⊤) (x : Option (Taken ⊤)) → ((u : Taken ⊤) → x ≡ Some u → u.frame.call ≡ b.call) → with_taken d x ≡ Some t → t.frame.call ≡ b.call
taken_keeps d b t None on e = none-not_some e
taken_keeps d b t (Some u) on e = ap (λ (t : Taken ⊤). t.frame.call) (sym (some-injective e)) ∙ on u refl

take_keeps : (paths : List Path) (b : Frame ⊤) (t : Taken ⊤) → take_all paths b ≡ Some t → t.frame.call ≡ b.call
take_keeps [] b t e = ap (λ (t : Taken ⊤). t.frame.call) (sym (some-injective e))
take_keeps (p ∷ paths) b t e = by (cell_at p b.variables) (λ u at. take_keeps paths (cleared p b) u at) e
  where
    by : (o : Option (Cell ⊤)) → ((u : Taken ⊤) → take_all paths (cleared p b) ≡ Some u → u.frame.call ≡ b.call) → elim o [ None ↦ None | Some c ↦ with_taken c (take_all paths (cleared p b)) ] ≡ Some t → t.frame.call ≡ b.call
    by None on e = none-not_some e
    by (Some d) on e = taken_keeps d b t (take_all paths (cleared p b)) on e

-- the callmessage has a caller, and the open call is as before
pub record IsComposedFrom (b : Frame ⊤) (k : Composed ⊤) : Type 0 where
  pub call : k.frame.call ≡ b.call
  pub who : ℕ × ℕ
  pub caller : caller_of k.message ≡ Some who

pub composed_from : (modes : List Mode) (inputs : Parts ⊤) (lost moved : List Path) (b : Frame ⊤) (k : Composed ⊤) → compose forget_name modes inputs lost moved b ≡ Some k → IsComposedFrom b k
composed_from modes inputs lost moved b k is =
    let b' : Frame ⊤ = record b { serial = b.serial + count_in inputs } in
    let copies = copy_in (λ s. forget_name (b.number, s)) b.serial inputs in
    let t = chain-some (λ (taken : Taken ⊤). option_map (with_message forget_name taken.frame) (assemble modes copies taken.cells)) (take_all moved (drop lost b')) k is in
    let m = map-some (with_message forget_name t.0.frame) (assemble modes copies t.0.cells) k t.2 in
    let kept : t.0.frame.call ≡ b.call = take_keeps moved (drop lost b') t.0 t.1 ∙ drop_keeps lost b' in
    subst (IsComposedFrom b) m.2 (record { call = kept; who = (t.0.frame.number, t.0.frame.calls); caller = refl })

-- the counts of steps and actions make no difference to the callmessage
abbrev pub message_in : Composed ⊤ → Value
message_in k = k.message

recounted : (n m : ℕ) (x : Option (Composed ⊤)) → option_map message_in (option_map (recount_composed n m) x) ≡ option_map message_in x
recounted n m None = refl
recounted n m (Some k) = refl

by_counts : (c : ReadyCode) (arguments : List Argument) (values : List Value) (n m : ℕ) (s : Frame ⊤) → option_map message_in (composed_of forget_name c arguments values (record s { steps = n; actions = m })) ≡ option_map message_in (composed_of forget_name c arguments values s)
by_counts c arguments values n m s =
    ap (option_map message_in) (recount-compose n m forget_name (map mode_of arguments) (parts_from values) (flat_map (λ p. excess_over_full c.scope p s) (inouts arguments)) (inouts arguments) s) ∙ recounted n m (composed_of forget_name c arguments values s)

pub same_messages : (c : ReadyCode) (arguments : List Argument) (values : List Value) (has_step : Bool) (s : Frame ⊤)
    → option_map message_in (composed_of forget_name c arguments values (counted_action (counted_if has_step s))) ≡ option_map message_in (composed_of forget_name c arguments values s)
same_messages c arguments values true s = by_counts c arguments values (suc s.steps) (suc s.actions) s
same_messages c arguments values false s = by_counts c arguments values s.steps (suc s.actions) s

abbrev message_of : Value → CellWant ⊤ → Value
message_of d (to_put p v) = v
message_of d w = d

-- what comes back is the callmessage
pub put_is : (c : ReadyCode) (o : Path) (arguments : List Argument) (keeps : List Raised) (before : List Value) (has_step : Bool) (s : Frame ⊤) (p : Popped) (k : Composed ⊤) (w : CellWant ⊤) (v : Value) → pop (count_inputs arguments) before ≡ Some p
    → composed_of forget_name c arguments p.values (counted_action (counted_if has_step s)) ≡ Some k → code_wants forget_name c (Call o arguments keeps) before s ≡ Some w → IsPutOf v w → k.message ≡ v
put_is c o arguments keeps before has_step s p k w v popped composed wants put =
    let port = chain-some (λ (port : ℕ). option_map (λ (k : Composed ⊤). to_put port k.message) (called forget_name c arguments before s)) (outport_at o s) w wants in
    let x = map-some (λ (k : Composed ⊤). to_put port.0 k.message) (called forget_name c arguments before s) w port.2 in
    let there : composed_of forget_name c arguments p.values s ≡ Some x.0 = sym (ap (option_and_then (λ (p : Popped). composed_of forget_name c arguments p.values s)) popped) ∙ x.1 in
    let same : k.message ≡ x.0.message = some-injective (sym (ap (option_map message_in) composed) ∙ same_messages c arguments p.values has_step s ∙ ap (option_map message_in) there) in
    same ∙ ap (message_of v) (x.2 ∙ put.1)
