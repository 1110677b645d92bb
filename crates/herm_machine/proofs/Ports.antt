-- A sound process never wants to take a message from no port, so that something is told of each want.
use Rattle.std.proofs.Common.{◌≡◌, ◌⊎◌, inl, inr, ℕ, List, [], ◌∷◌, Bool, true, false, Option, Some, None, option_map, option_and_then, is_some, refl, sym, ap, subst, ◌∙◌, true≢false}
use Rattle.std.specs.Prelude.{IsTrue, slice_get, ⊤}
use Rattle.herm_model.specs.Lists.{IsIn}
use Rattle.herm_model.specs.Paths.{Path}
use Rattle.herm_model.specs.Values.{Name, a_scalar, a_record, a_variant, a_table, a_polymorph, a_callmessage, an_inport, an_outport, Cell, cell, Value}
use Rattle.herm_model.proofs.Lists.{not_true}
use Rattle.herm_model.proofs.Options.{none-not_some, some-injective, chain-some, map-some}
use Rattle.herm_journal.specs.Actions.{values, raised, gone, new_port, new_process, to_put, to_take, to_close, to_answer, to_hear}
use Rattle.herm_journal.specs.Messages.{CellReply, CellWant}
use Rattle.herm_journal.specs.Renaming.{forget_name, rename_want}
use Rattle.herm_forms.specs.Callmessages.{Composed}
use Rattle.herm_forms.specs.ClosesAndAnswers.{work_wants}
use Rattle.herm_forms.specs.Exchanges.{inport_at, outport_at, ports_at}
use Rattle.herm_forms.specs.Frames.{Frame, Taken}
use Rattle.herm_instructions.specs.GoodCode.{processes_of}
use Rattle.herm_instructions.specs.Images.{CodeModule, Image}
use Rattle.herm_instructions.specs.Instructions.{Choice, Instruction, New, Send, Receive, Select, Call, Return, ReturnBy, Create}
use Rattle.herm_instructions.specs.TypedInstructions.{IsTypedInstruction, is_some_choice}
use Rattle.herm_code_machine.specs.CodeActions.{code_wants, ports_of_choices}
use Rattle.herm_code_machine.specs.CodeInstance.{code_at, code_machine, own_name}
use Rattle.herm_code_machine.specs.CodeLocal.{IsLocallySoundCode}
use Rattle.herm_code_machine.specs.CodeRenaming.{forget_code}
use Rattle.herm_code_machine.specs.CodeStates.{CodeState}
use Rattle.herm_code_machine.specs.CodeSteps.{CodeNext, an_item, a_reply, an_action, a_local_piece, nothing, code_next, code_wanted, wanted_next}
use Rattle.herm_code_machine.specs.Pieces.{Met, Piece, stack_before_action}
use Rattle.herm_code_machine.specs.ReadyCode.{ReadyCode, labelled_image}
use Rattle.herm_code_machine.specs.laws.GoodImageLaws.{IsGoodOver, labelled_code}
use Rattle.herm_code_machine.proofs.instance.CodeForgets.{code-forgets-names}
use Rattle.herm_code_machine.proofs.sound.ActionSteps.{Acting, acting-at}
use Rattle.herm_code_machine.proofs.sound.Between.{finds-there}
use Rattle.herm_code_machine.proofs.sound.CodeThere.{sound-at}
use Rattle.herm_code_machine.proofs.sound.LocalSteps.{ComesNext, by_work, by_call, by_act, by_local, by_none, comes-next}
use Rattle.herm_code_machine.proofs.sound.Processes.{module-of}
use Rattle.herm_exchanges.specs.Told.{Told, a_port, a_process, a_put, a_take, a_close, an_answer, a_hearing, told, want_view}
use Rattle.herm_exchanges.specs.declared.wants.PortList.{PortList}
use Rattle.herm_exchanges.specs.declared.wants.Want.{Want}
use Rattle.herm_exchanges.specs.declared.wants.Want.TheVariants as wants
use Rattle.herm_machine.specs.Machines.{IsSoundState, nameless}

-- where a message is wanted, it is wanted from some port
abbrev HasPorts : {N : Type 0} → CellWant N → Type 0
HasPorts new_port = ⊤
HasPorts (new_process code) = ⊤
HasPorts (to_put port m) = ⊤
HasPorts (to_take []) = ⊥
HasPorts (to_take (port ∷ ports)) = ⊤
HasPorts (to_close port) = ⊤
HasPorts (to_answer caller call r) = ⊤
HasPorts to_hear = ⊤

item-ports : (item : Cell Name) (w : CellWant Name) → work_wants item ≡ Some w → HasPorts w
item-ports (cell n (a_scalar s) ps) w e = none-not_some e
item-ports (cell n a_record ps) w e = none-not_some e
item-ports (cell n (a_variant c) ps) w e = none-not_some e
item-ports (cell n a_table ps) w e = none-not_some e
item-ports (cell n (a_polymorph t) ps) w e = none-not_some e
item-ports (cell n (a_callmessage caller call) ps) w e = subst HasPorts (some-injective e) tt
item-ports (cell n (an_inport port) ps) w e = subst HasPorts (some-injective e) tt
item-ports (cell n (an_outport port) ps) w e = none-not_some e

chain-ports : {X Y : Type 0} (f : X → Y → CellWant Name) → ((x : X) (y : Y) → HasPorts (f x y)) → (o : Option X) (p : Option Y) (w : CellWant Name) → option_and_then (λ x. option_map (f x) p) o ≡ Some w → HasPorts w
chain-ports f is None p w e = none-not_some e
chain-ports f is (Some x) None w e = none-not_some e
chain-ports f is (Some x) (Some y) w e = subst HasPorts (some-injective e) (is x y)

map-ports : {X : Type 0} (f : X → CellWant Name) → ((x : X) → HasPorts (f x)) → (o : Option X) (w : CellWant Name) → option_map f o ≡ Some w → HasPorts w
map-ports f is None w e = none-not_some e
map-ports f is (Some x) w e = subst HasPorts (some-injective e) (is x)

-- the ports of some choices are some
chosen-ports : (choices : List Choice) (b : Frame Name) (w : CellWant Name) → IsTrue (is_some_choice choices) → option_map (λ (ports : List ℕ). to_take ports) (ports_at (ports_of_choices choices) b) ≡ Some w → HasPorts w
chosen-ports [] b w some e = not_true some
chosen-ports (choice ∷ choices) b w some e = by (inport_at choice.port b) (ports_at (ports_of_choices choices) b) e
  where
    by : (o : Option ℕ) (p : Option (List ℕ)) → option_map (λ (ports : List ℕ). to_take ports) (option_and_then (λ port. option_map (λ ports. port ∷ ports) p) o) ≡ Some w → HasPorts w
    by None p e = none-not_some e
    by (Some port) None e = none-not_some e
    by (Some port) (Some ports) e = subst HasPorts (some-injective e) tt

abbrev SomeChoice : Instruction → Type 0
SomeChoice (Select choices) = IsTrue (is_some_choice choices)
SomeChoice i = ⊤

instruction-ports : (c : ReadyCode) (i : Instruction) (stack : List Value) (b : Frame Name) (w : CellWant Name) → SomeChoice i → code_wants own_name c i stack b ≡ Some w → HasPorts w
instruction-ports c (New x t) stack b w some e = subst HasPorts (some-injective e) tt
instruction-ports c (Send x o trim) stack b w some e = chain-ports (λ port (m : Cell Name). to_put port m) (λ port m. tt) (outport_at o b) _ w e
instruction-ports c (Receive x i) stack b w some e = map-ports (λ port. to_take (port ∷ [])) (λ port. tt) (inport_at i b) w e
instruction-ports c (Select choices) stack b w some e = chosen-ports choices b w some e
instruction-ports c (Call o arguments keeps) stack b w some e = chain-ports (λ port (k : Composed Name). to_put port k.message) (λ port k. tt) (outport_at o b) _ w e
instruction-ports c (Return m) stack b w some e = chain-ports (λ (who : ℕ × ℕ) (t : Taken Name). to_answer who.0 who.1 (values t.cells)) (λ who t. tt) _ _ w e
instruction-ports c (ReturnBy m x kept) stack b w some e = chain-ports (λ (who : ℕ × ℕ) (t : Taken Name). to_answer who.0 who.1 (raised x t.cells)) (λ who t. tt) _ _ w e
instruction-ports c (Create o n) stack b w some e = subst HasPorts (some-injective e) tt
instruction-ports c i stack b w some e = none-not_some e

module _ (image : Image) (main : ℕ) where
  typed-choice : (exceptions : ℕ) (m : CodeModule) (i : Instruction) → IsTypedInstruction image.types m.variables exceptions image.constants (processes_of image.modules) i → SomeChoice i
  typed-choice exceptions m (Select choices) h = h.1
  typed-choice exceptions m i h = tt

  next-ports : (exceptions : ℕ) (good : IsGoodOver exceptions image) (m : CodeModule) (in-image : IsIn m image.modules) (x : CodeState Name) → IsLocallySoundCode (labelled_code image m) x → (n : CodeNext Name) → ComesNext (labelled_code image m) x n → (w : CellWant Name) → wanted_next own_name (labelled_code image m) x n ≡ Some w → HasPorts w
  next-ports exceptions good m in-image x sound (an_item item work) next w e = item-ports item w e
  next-ports exceptions good m in-image x sound (an_action p met) (by_act p' met' idle closed at is) w e =
      let acting = (acting-at exceptions image good.good good.table m in-image own_name x p met sound idle closed at is).there in
      let finds = finds-there exceptions image good.good good.table m in-image met.index met.instruction acting.label acting.at acting.labelled in
      let stack = chain-some (λ stack. code_wants own_name (labelled_code image m) met.instruction stack x.frame) (stack_before_action (labelled_code image m) p x.frame.variables x.stack) w e in
      instruction-ports (labelled_code image m) met.instruction stack.0 x.frame w (typed-choice exceptions m met.instruction finds.typed) stack.2
  next-ports exceptions good m in-image x sound (a_reply k i instruction) next w e = subst HasPorts (some-injective e) tt
  next-ports exceptions good m in-image x sound (a_local_piece p) next w e = none-not_some e
  next-ports exceptions good m in-image x sound nothing next w e = none-not_some e

  told-named : (want : CellWant Name) → HasPorts want → (t : Told) × (told (rename_want forget_name want) ≡ Some t)
  told-named new_port h = (_, refl)
  told-named (new_process code) h = (_, refl)
  told-named (to_put port m) h = (_, refl)
  told-named (to_take []) h = absurd h
  told-named (to_take (port ∷ ports)) h = (_, refl)
  told-named (to_close port) h = (_, refl)
  told-named (to_answer caller call r) h = (_, refl)
  told-named to_hear h = (_, refl)

  pub told-there : (c : ReadyCode) (s : CodeState ⊤) (w : CellWant ⊤) → IsSoundState image main c s → (nameless image main).wanted s ≡ Some w → (t : Told) × (told w ≡ Some t)
  told-there c s w h wanted =
      let x = h.named in
      let ready = labelled_image image main in
      let seen : (nameless image main).wanted (forget_code x) ≡ (nameless image main).wanted s = ap (λ s. (nameless image main).wanted s) h.same in
      let want = map-some (rename_want forget_name) ((code_machine ready).wanted x) w (sym ((code-forgets-names ready).wants x) ∙ seen ∙ wanted) in
      let m = module-of h.exceptions image main h.good x.module_number c h.code in
      let named : code_wanted own_name c x ≡ Some want.0 = sym (ap (option_and_then (λ c. code_wanted own_name c x)) h.code) ∙ want.1 in
      let has = subst (λ c. IsLocallySoundCode c x → code_wanted own_name c x ≡ Some want.0 → HasPorts want.0) m.2
      (λ sound e. next-ports h.exceptions h.good m.0 m.1 x sound (code_next (labelled_code image m.0) x) (comes-next (labelled_code image m.0) x) want.0 e) (sound-at ready x c h.sound h.code) named in
      let t = told-named want.0 has in
      (t.0, ap told (sym want.2) ∙ t.1)

  pub some-want : (c : ReadyCode) (s : CodeState ⊤) (o : Option Want) (w : CellWant ⊤) → IsSoundState image main c s → (nameless image main).wanted s ≡ Some w → option_map want_view o ≡ option_and_then told ((nameless image main).wanted s) → is_some o ≡ true
  some-want c s o w h wanted same =
      let t = told-there c s w h wanted in
      let want = map-some want_view o t.0 (same ∙ ap (option_and_then told) wanted ∙ t.1) in
      ap is_some want.1

-- the first of the ports that are told
pub first-told : (want : Want) (looked : PortList) → want ≡ wants.Take looked → (ports : List ℕ) → Some (want_view want) ≡ told (to_take ports) → slice_get ports 0 ≡ Some looked.first.number
first-told want looked is [] e = none-not_some (sym e)
first-told want looked is (port ∷ ports) e = ap (λ o. first_in o) (sym e ∙ ap (λ w. Some (want_view w)) is)
  where
    first_in : Option Told → Option ℕ
    first_in (Some (a_take first count)) = Some first
    first_in o = None
