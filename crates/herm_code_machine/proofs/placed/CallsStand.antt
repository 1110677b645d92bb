-- A call of good code among inports, outports and callmessages at places of their types: its callmessage stands so, and so does what each
-- answer leaves, and the reply.
use Rattle.std.proofs.Common.{◌≡◌, ℕ, List, [], ◌∷◌, ◌++◌, map, flat_map, reverse, drop, length, Option, Some, None, option_and_then, option_map, refl, sym, ap, subst, ◌∙◌}
use Rattle.std.proofs.lemmas.List.{reverse-reverse, length-reverse, append-nil}
use Rattle.std.specs.Prelude.{◌+◌, IsTrue}
use Rattle.herm_model.specs.Calls.{led_to, message_type}
use Rattle.herm_model.specs.CellNames.{count_in, copy_in}
use Rattle.herm_model.specs.Expressions.{Atom}
use Rattle.herm_model.specs.Lists.{IsIn}
use Rattle.herm_model.specs.Outcomes.{Outcome}
use Rattle.herm_model.specs.Paths.{Path}
use Rattle.herm_model.specs.Statements.{Form}
use Rattle.herm_model.specs.Types.{TypeTable, Mode, Parameter, Raised}
use Rattle.herm_model.specs.Values.{Name, Kind, kind_of, a_callmessage, an_outport, Cell, cell, Parts, read_at, Value}
use Rattle.herm_model.specs.WellFormedTables.{IsType, IsWellFormedTable}
use Rattle.herm_model.specs.laws.ArgumentLaws.{types_by}
use Rattle.herm_model.proofs.Options.{none-not_some, some-injective, chain-some, map-some}
use Rattle.herm_journal.specs.Actions.{values, gone, to_put, put, hear}
use Rattle.herm_journal.specs.Actions
use Rattle.herm_journal.specs.Messages.{CellReply, CellWant, CellAction, AreFull, IsReplyTo, types_of_reply, cells_in}
use Rattle.herm_journal.specs.PartTypes.{each, part_types_at, is_kind_at, IsPlaced, ArePlaced}
use Rattle.herm_forms.specs.Acts.{is_inout, arguments_at, settle_reply}
use Rattle.herm_forms.specs.Callmessages as callmessages
use Rattle.herm_forms.specs.Callmessages.{Composed, assemble, with_message}
use Rattle.herm_forms.specs.Excess.{excess_over_full}
use Rattle.herm_forms.specs.Exchanges.{outport_at}
use Rattle.herm_forms.specs.Forms.{outport_number}
use Rattle.herm_forms.specs.Frames
use Rattle.herm_forms.specs.Frames.{Frame, Completion, goes, Taken, take_all}
use Rattle.herm_forms.specs.OpenCalls.{call_type}
use Rattle.herm_forms.specs.laws.CallLaws.{HaveTypesAt}
use Rattle.herm_forms.specs.laws.EdgeLaws.{AreSound}
use Rattle.herm_forms.proofs.Counting.{recount, recount_composed, recount-compose}
use Rattle.herm_forms.proofs.CountedCalls.{composed-kind}
use Rattle.herm_forms.proofs.called.CallMessages.{composed-of}
use Rattle.herm_forms.proofs.called.GivenInputs.{modes_of, InputsAre, inputs-stand}
use Rattle.herm_forms.proofs.called.SetArguments.{IsCalled, parameters-of}
use Rattle.herm_forms.proofs.placed.PlacedActions.{ArePlacedAt}
use Rattle.herm_forms.proofs.placed.PlacedAnswers.{ArePlacedFor, IfTaken, take-all, Replies, reply-is}
use Rattle.herm_forms.proofs.placed.PlacedForms as placed
use Rattle.herm_forms.proofs.placed.PlacedForms.{LoopsAre}
use Rattle.herm_forms.proofs.placed.PlacedWants.{AreListed, listed-at}
use Rattle.herm_forms.proofs.typed.CalledForms.{lent-typed, returned-typed, kept-typed}
use Rattle.herm_sound.specs.Standing.{StandsAt, typed_going}
use Rattle.herm_system.specs.Kinds.{typed_list}
use Rattle.herm_instructions.specs.GoodCode.{IsGood}
use Rattle.herm_instructions.specs.Images.{CodeModule, Image}
use Rattle.herm_instructions.specs.Instructions.{Argument, Instruction, Call}
use Rattle.herm_instructions.specs.Labels.{Label}
use Rattle.herm_instructions.specs.Operands.{input_types, count_inputs}
use Rattle.herm_instructions.specs.Places.{label_at}
use Rattle.herm_code_machine.specs.CodeActions.{mode_of, inouts, outs, composed_of, called, code_wants, code_settles, code_hears}
use Rattle.herm_code_machine.specs.CodeInstance.{own_name}
use Rattle.herm_code_machine.specs.ReadyCode.{ReadyCode, ready_code}
use Rattle.herm_code_machine.specs.Stacks.{leaving, Popped, pop_onto, pop, parts_from, with_popped}
use Rattle.herm_code_machine.proofs.placed.ActionsStand.{StandsBehind, message-stands}
use Rattle.herm_code_machine.proofs.placed.RowsOfSlots.{row_in}
use Rattle.herm_code_machine.proofs.placed.StandEffects.{Stands, stands-agrees, stands-allowed, BodyStands, ValuesStand, stand-leaving, listed-popped}
use Rattle.herm_held.proofs.TypedPlaces.{AllAre, list-placed}
use Rattle.herm_code_machine.proofs.sound.AtLabels.{has_of, Finds}
use Rattle.herm_code_machine.proofs.sound.Between as between
use Rattle.herm_code_machine.proofs.sound.CallArguments.{inputs-many, AllAt, values-are, hears-same}
use Rattle.herm_code_machine.proofs.sound.CallEffects as calls
use Rattle.herm_code_machine.proofs.sound.KeyEffects.{turned, turned-reverse}

-- values that are popped, with a property at the types of a label
module _ (types : TypeTable) (P : ℕ → Kind → Type 0) where
  popped-all : (ts others acc : List ℕ) (taken stack : List Value) (p : Popped) → pop_onto (length ts) taken stack ≡ Some p → AreListed types P (ts ++ others) stack → AllAt (IsPlaced types P) acc taken → AllAt (IsPlaced types P) (turned ts acc) p.values
  popped-all [] others acc taken stack p is h k = subst (λ (p : Popped). AllAt (IsPlaced types P) acc p.values) (some-injective is) k
  popped-all (t ∷ ts) others acc taken [] p is h k = none-not_some is
  popped-all (t ∷ ts) others acc taken (v ∷ stack) p is h k = popped-all ts others (t ∷ acc) (v ∷ taken) stack p is h.1 (h.0, k)

  pops-all : (ts others : List ℕ) (stack : List Value) (p : Popped) → pop (length ts) stack ≡ Some p → AreListed types P (reverse ts ++ others) stack → AllAt (IsPlaced types P) ts p.values
  pops-all ts others stack p is h =
      let same : turned (reverse ts) [] ≡ ts = turned-reverse (reverse ts) [] ∙ append-nil (reverse (reverse ts)) ∙ reverse-reverse ts in
      subst (λ ts. AllAt (IsPlaced types P) ts p.values) same (popped-all (reverse ts) others [] [] stack p (ap (λ n. pop n stack) (length-reverse ts) ∙ is) h tt)

called-recounted : (steps actions : ℕ) (c : ReadyCode) (arguments : List Argument) (stack : List Value) (b : Frame Name) → called own_name c arguments stack (recount steps actions b) ≡ option_map (recount_composed steps actions) (called own_name c arguments stack b)
called-recounted steps actions c arguments stack b = by (pop (count_inputs arguments) stack)
  where
    by : (o : Option Popped) → option_and_then (λ (p : Popped). composed_of own_name c arguments p.values (recount steps actions b)) o ≡ option_map (recount_composed steps actions) (option_and_then (λ (p : Popped). composed_of own_name c arguments p.values b) o)
    by None = refl
    by (Some p) = recount-compose steps actions own_name (map mode_of arguments) (parts_from p.values) (flat_map (λ q. excess_over_full c.scope q b) (inouts arguments)) (inouts arguments) b

-- a composed callmessage's number is the same whatever is counted
pub same-number : (steps actions : ℕ) (c : ReadyCode) (arguments : List Argument) (stack : List Value) (b : Frame Name) (z z' : Composed Name) → called own_name c arguments stack b ≡ Some z → called own_name c arguments stack (recount steps actions b) ≡ Some z' → z'.call ≡ z.call
same-number steps actions c arguments stack b z z' is is' =
    ap (λ (z : Composed Name). z.call) (sym (some-injective (sym (ap (option_map (recount_composed steps actions)) is) ∙ sym (called-recounted steps actions c arguments stack b) ∙ is')))

module _ (exceptions' : ℕ) (image : Image) (good : IsGood exceptions' image) (formed : IsWellFormedTable exceptions' image.types) (m : CodeModule) (in-image : IsIn m image.modules) (ports : List ℕ) (calls' : ℕ → ℕ → Option ℕ) where
  abbrev c : ReadyCode
  c = ready_code image (label_at image.types image.constants) m

  abbrev P : ℕ → Kind → Type 0
  P = Stands image.types ports calls'

  abbrev At : ℕ → Kind → Type 0
  At = StandsAt image.types ports calls'

  abbrev All : List (ℕ × Kind) → Type 0
  All xs = AllAre image.types (StandsAt image.types ports calls') xs

  abbrev Body : Label → Frame Name → Type 0
  Body l b = BodyStands exceptions' image good formed m in-image ports calls' l.slots b

  abbrev Values : List ℕ → List Value → Type 0
  Values ts stack = ValuesStand exceptions' image good formed m in-image ports calls' ts stack

  abbrev AllOf' : Label → Completion Name → Type 0
  AllOf' l r = placed.AllAre own_name (ready_code image (label_at image.types image.constants) m).scope (Stands image.types ports calls') (stands-agrees image.types ports calls') (row_in l.slots) r

  abbrev known : (t : ℕ) → IsIn t m.variables → IsType image.types t
  known = (between.good-module exceptions' image good formed m in-image).variables_known

  outport-kind : (t n : ℕ) (d : Cell Name) → IsPlaced image.types P t d → outport_number d ≡ Some n → At t (an_outport n)
  outport-kind t n (cell x (an_outport k) ps) h e = subst (λ k. StandsAt image.types ports calls' t (an_outport k)) (some-injective e) h.0.0
  outport-kind t n (cell x k ps) h e = none-not_some e

  -- what moves is listed by the types of its paths
  moved-listed : (l : Label) (paths : List Path) (ts : List ℕ) (cells : List (Cell Name)) → ArePlacedFor own_name (c).scope P (stands-agrees image.types ports calls') (row_in l.slots) paths cells → HaveTypesAt (c).scope paths ts → AreListed image.types P ts cells
  moved-listed l [] [] cells h at = tt
  moved-listed l [] (t ∷ ts) cells h at = absurd at
  moved-listed l (p ∷ paths) [] cells h at = absurd at
  moved-listed l (p ∷ paths) (t ∷ ts) [] h at = tt
  moved-listed l (p ∷ paths) (t ∷ ts) (d ∷ cells) h at = (subst (λ t. IsPlaced image.types P t d) (some-injective (sym h.0.1 ∙ at.0)) h.0.2, moved-listed l paths ts cells h.1 at.2)

  -- the body behind what is composed
  composed-body : (l : Label) (modes : List Mode) (copies : Parts Name) (paths : List Path) (o : Option (Taken Name)) → IfTaken own_name (c).scope P (stands-agrees image.types ports calls') (row_in l.slots) paths o → (z : Composed Name)
      → option_and_then (λ (taken : Taken Name). option_map (with_message own_name taken.frame) (assemble modes copies taken.cells)) o ≡ Some z → Body l z.frame
  composed-body l modes copies paths None h z e = none-not_some e
  composed-body l modes copies paths (Some t) h z e =
      let x = map-some (with_message own_name t.frame) (assemble modes copies t.cells) z e in
      subst (λ (z : Composed Name). Body l z.frame) x.2 h.1

  module _ (W : Outcome → Type 0) (l : Label) (o : Path) (arguments : List Argument) (keeps : List Raised) (finds : Finds exceptions' image m W (Call o arguments keeps) l) where
    abbrev i : Instruction
    i = Call o arguments keeps

    abbrev atoms : List Atom
    atoms = calls.atoms exceptions' image formed good.constants m known (label_at image.types image.constants) own_name W l o arguments keeps finds

    abbrev params : List Parameter
    params = calls.params exceptions' image formed good.constants m known (label_at image.types image.constants) own_name W l o arguments keeps finds

    abbrev pub is_called : IsCalled exceptions' (ready_code image (label_at image.types image.constants) m).scope o (calls.atoms exceptions' image formed good.constants m known (label_at image.types image.constants) own_name W l o arguments keeps finds)
    is_called = calls.called exceptions' image formed good.constants m known (label_at image.types image.constants) own_name W l o arguments keeps finds

    -- the callmessage that is composed, and what it leaves
    pub record Calls (stack : List Value) (b : Frame Name) : Type 0 where
      pub composed : Composed Name
      pub rest : List Value
      pub is : called own_name c arguments stack b ≡ Some composed
      pub settles : (at : ℕ) (a : CellAction Name) → code_settles own_name c i stack at a b ≡ leaving rest (callmessages.call (Some composed) (outs arguments) a)
      pub wants : code_wants own_name c i stack b ≡ option_and_then (λ port. Some (to_put port composed.message)) (outport_at o b)
      pub body : Body l composed.frame
      pub values : Values (drop (count_inputs arguments) l.stack) rest
      pub kind : kind_of composed.message ≡ a_callmessage b.number composed.call
      pub message : At (is_called).message (a_callmessage b.number composed.call) → IsPlaced image.types P (is_called).message composed.message

    module _ (stack : List Value) (b : Frame Name) (sound : AreSound (c).scope (has_of l) b.variables) (full : AreFull image.types l.stack stack) (body : Body l b) (stands : Values l.stack stack) where
      pub calls-there : Calls stack b
      calls-there =
          let s = calls.inputs-there exceptions' image formed good.constants m known (label_at image.types image.constants) own_name W l o arguments keeps finds stack full in
          let x = calls.call-composes exceptions' image formed good.constants m known (label_at image.types image.constants) own_name W l o arguments keeps finds b sound s.values s.whole in
          let is = calls.composed-is exceptions' image formed good.constants m known (label_at image.types image.constants) own_name W l o arguments keeps finds b sound s.values s.whole in
          let are = calls.are exceptions' image formed good.constants m known (label_at image.types image.constants) own_name W l o arguments keeps finds in
          let same = calls.composed-same exceptions' image formed good.constants m known (label_at image.types image.constants) own_name W l o arguments keeps finds b sound s.values s.whole in
          let z = x.composed in
          let moved = arguments_at (c).scope is_inout o atoms in
          let lost = flat_map (λ p. excess_over_full (c).scope p b) moved in
          let made = composed-of own_name (modes_of params) lost moved b (Some (parts_from s.values)) z (sym same ∙ is) in
          let cut : Frame Name = record b { serial = b.serial + count_in (parts_from s.values) } in
          let dropped = placed.drop-is own_name (c).scope P (stands-agrees image.types ports calls') (row_in l.slots) lost cut body in
          let taken' = take-all own_name (c).scope P (stands-agrees image.types ports calls') (row_in l.slots) moved (Frames.drop lost cut) dropped in
          let dropped-made = placed.drop-is own_name (c).scope P (stands-agrees image.types ports calls') (row_in l.slots) lost made.cut
          (subst (λ ps. ArePlaced image.types P (each m.variables) ps) (sym made.before) body.0, subst (LoopsAre own_name (c).scope P (stands-agrees image.types ports calls') (row_in l.slots)) (sym made.loops_before) body.1) in
          let taken = subst (IfTaken own_name (c).scope P (stands-agrees image.types ports calls') (row_in l.slots) moved) made.at (take-all own_name (c).scope P (stands-agrees image.types ports calls') (row_in l.slots) moved (Frames.drop lost made.cut) dropped-made) in
          let many = inputs-many image.types m.variables params arguments are in
          let popped : Popped = record { values = s.values; rest = s.rest } in
          let all = pops-all image.types P (input_types params) (finds.stack).0 stack popped (ap (λ n. pop n stack) (sym many) ∙ s.popped) (subst (λ ts. AreListed image.types P ts stack) (finds.stack).1 stands) in
          let inputs : InputsAre (IsPlaced image.types P) params made.inputs = subst (InputsAre (IsPlaced image.types P) params) (some-injective made.given) (values-are (IsPlaced image.types P) params s.values all) in
          let listed = moved-listed l moved (types_by is_inout params) made.taken.cells taken.0 (lent-typed exceptions' (c).scope o atoms is_called) in
          let parts = inputs-stand image.types P (stands-agrees image.types ports calls') (λ s. own_name (b.number, s)) params made.inputs b.serial made.taken.cells made.parts inputs listed made.assembled in
          let kind = composed-kind own_name (modes_of params) (parts_from s.values) lost moved b z (sym same ∙ is) in
          record {
            composed = z;
            rest = s.rest;
            is = ap (option_and_then (λ (p : Popped). composed_of own_name c arguments p.values b)) s.popped ∙ is;
            settles = λ at a. ap (with_popped (λ (p : Popped). leaving p.rest (callmessages.call (composed_of own_name c arguments p.values b) (outs arguments) a))) s.popped
                ∙ ap (λ y. leaving s.rest (callmessages.call y (outs arguments) a)) is;
            wants = ap (λ p. callmessages.call_wants (option_and_then (λ (p : Popped). composed_of own_name c arguments p.values b) p) o b) s.popped ∙ ap (λ x. callmessages.call_wants x o b) is;
            body = composed-body l (modes_of params) (copy_in (λ s. own_name (b.number, s)) b.serial (parts_from s.values)) moved (take_all moved (Frames.drop lost cut)) taken' z (sym same ∙ is);
            values = listed-popped image.types P (count_inputs arguments) l.stack [] stack popped s.popped stands;
            kind = kind;
            message = λ own. subst (IsPlaced image.types P (is_called).message) (sym made.is) (
              subst (λ (d : Cell Name). P (is_called).message (kind_of d)) made.is (subst (P (is_called).message) (sym kind) (own, subst (λ s. IsTrue (is_kind_at s (a_callmessage b.number z.call))) (sym (is_called).shape) refl)),
              subst (λ o. ArePlaced image.types P (part_types_at o (a_callmessage made.caller made.call)) made.parts) (sym (is_called).shape)
                  (subst (λ params. ArePlaced image.types P (each (map (λ (p : Parameter). p.content) params)) made.parts) (parameters-of exceptions' (c).scope o atoms is_called) parts),
            );
          }

    -- what each answer leaves
    all-called : (z : Composed Name) → Body l z.frame → (a : CellAction Name) → AllOf' l (callmessages.call (Some z) (outs arguments) a)
    all-called z body (put (Some n) d) = body
    all-called z body (put None d) =
        placed.drop-is own_name (c).scope P (stands-agrees image.types ports calls') (row_in l.slots) (outs arguments) (Frames.finalise_at_once d z.frame) (placed.end-is own_name (c).scope P (stands-agrees image.types ports calls') (row_in l.slots) d z.frame body)
    all-called z body a = tt

    module _ (stack : List Value) (b : Frame Name) (k : Calls stack b) where
      pub call-stands : (at : ℕ) (a : CellAction Name) → StandsBehind exceptions' image good formed m in-image ports calls' i l (code_settles own_name c i stack at a b).stack (code_settles own_name c i stack at a b).completion
      call-stands at a o' b' goes' =
          stand-leaving exceptions' image good formed m in-image ports calls' i l refl o' b' (code_settles own_name c i stack at a b) k.rest (callmessages.call (Some k.composed) (outs arguments) a) (k.settles at a)
          (all-called k.composed k.body a) k.values goes'

      -- what goes out
      pub call-going : Body l b → At (is_called).message (a_callmessage b.number k.composed.call) → (want : CellWant Name) (n : ℕ) (d : Cell Name) → code_wants own_name c i stack b ≡ Some want → All (typed_going image.types ports calls' want (put (Some n) d))
      call-going body own want n d wanted =
          let g = (is_called).goes in
          let r = chain-some (λ port. Some (to_put port k.composed.message)) (outport_at o b) want (sym k.wants ∙ wanted) in
          let read = chain-some outport_number (read_at o b.variables) r.0 r.1 in
          let stood = placed.read-is own_name (c).scope P (stands-agrees image.types ports calls') (row_in l.slots) o g.0 b.variables read.0 body.0 read.1 g.3.0 in
          subst (λ w. All (typed_going image.types ports calls' w (put (Some n) d))) (some-injective r.2)
          (message-stands exceptions' image good formed m in-image ports calls' r.0 g.0 g.1 (is_called).message k.composed.message (outport-kind g.0 r.0 read.0 stood read.2) (ap (option_and_then led_to) g.4) (ap (option_and_then message_type) g.5) (k.message own))

    -- the reply
    listed-reply : (paths : List Path) (ts : List ℕ) (cs : List (Cell Name)) → HaveTypesAt (c).scope paths ts → AreFull image.types ts cs → All (typed_list image.types ts cs) → ArePlacedAt own_name (c).scope P (stands-agrees image.types ports calls') (row_in l.slots) paths cs
    listed-reply paths ts cs typed full all = listed-at own_name (c).scope P (stands-agrees image.types ports calls') (row_in l.slots) (stands-allowed image.types ports calls') paths ts cs typed (list-placed image.types At ts cs full all)

    abbrev type : Option ℕ
    type = call_type (c).scope (record { port = o; arguments = atoms })

    replies-with : (r : CellReply Name) → IsReplyTo image.types type r → All (typed_list image.types (types_of_reply image.types type r) (cells_in r)) → Replies own_name (c).scope P (stands-agrees image.types ports calls') (row_in l.slots) o atoms r
    replies-with (values cs) reply all = listed-reply _ _ cs (returned-typed exceptions' (c).scope o atoms is_called) reply all
    replies-with (Actions.raised e cs) reply all = listed-reply _ _ cs (kept-typed exceptions' (c).scope o atoms is_called e) reply.1 all
    replies-with gone reply all = tt

    pub reply-stands : (call : ℕ) (r : CellReply Name) (stack : List Value) (b : Frame Name) → IsReplyTo image.types type r → All (typed_list image.types (types_of_reply image.types type r) (cells_in r)) → Body l b → Values (drop (count_inputs arguments) l.stack) stack
        → StandsBehind exceptions' image good formed m in-image ports calls' i l stack (code_hears i call (hear call r) b)
    reply-stands call r stack b reply all body stands o' b' goes' =
        let are = calls.are exceptions' image formed good.constants m known (label_at image.types image.constants) own_name W l o arguments keeps finds in
        let heard = reply-is own_name (c).scope P (stands-agrees image.types ports calls') (row_in l.slots) (Form.Call o atoms) call (hear call r) b (λ o'' arguments' n r' form same. by o'' arguments' n r' form same) body in
        stand-leaving exceptions' image good formed m in-image ports calls' i l refl o' b' (leaving stack (code_hears i call (hear call r) b)) stack (settle_reply (c).scope (Form.Call o atoms) call (hear call r) b)
        (ap (leaving stack) (hears-same (c).scope o arguments keeps finds.keeps are call (hear call r) b)) heard stands goes'
      where
        reply_of : CellAction Name → CellReply Name
        reply_of (hear n r) = r
        reply_of a = gone

        port_of : Form → Path
        port_of (Form.Call o arguments) = o
        port_of form = []

        atoms_of : Form → List Atom
        atoms_of (Form.Call o arguments) = arguments
        atoms_of form = []

        by : (o'' : Path) (arguments' : List Atom) (n : ℕ) (r' : CellReply Name) → Form.Call o atoms ≡ Form.Call o'' arguments' → ◌≡◌ {A = CellAction Name} (hear call r) (hear n r') → Replies own_name (c).scope P (stands-agrees image.types ports calls') (row_in l.slots) o'' arguments' r'
        by o'' arguments' n r' form same =
            subst (λ o. Replies own_name (c).scope P (stands-agrees image.types ports calls') (row_in l.slots) o arguments' r') (ap port_of form)
            (subst (λ xs. Replies own_name (c).scope P (stands-agrees image.types ports calls') (row_in l.slots) o xs r') (ap atoms_of form)
            (subst (Replies own_name (c).scope P (stands-agrees image.types ports calls') (row_in l.slots) o atoms) (ap reply_of same) (replies-with r reply all)))
