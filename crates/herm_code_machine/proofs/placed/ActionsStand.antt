-- Where inports, outports and callmessages at a label stand at places of their types, they do behind the answer to each action of good
-- code but a call, and so does what goes out with it.
use Rattle.std.proofs.Common.{◌≡◌, inl, refl, ℕ, List, [], ◌∷◌, find, Option, Some, None, option_and_then, sym, ap, subst, ◌∙◌}
use Rattle.std.specs.Prelude.{slice_get, IsTrue, ⊤}
use Rattle.herm_model.specs.Calls.{led_to}
use Rattle.herm_model.specs.Lists.{IsIn, list_of}
use Rattle.herm_model.specs.Outcomes.{Outcome}
use Rattle.herm_model.specs.Paths.{Path}
use Rattle.herm_model.specs.Statements.{Form, New, Send, Create}
use Rattle.herm_model.specs.TypedStatements
use Rattle.herm_model.specs.Typed.{partly}
use Rattle.herm_model.specs.Types.{Shape, inport, type_at}
use Rattle.herm_model.specs.Values.{Name, Kind, an_inport, an_outport, Cell, Value}
use Rattle.herm_model.specs.WellFormedTables.{IsWellFormedTable}
use Rattle.herm_model.proofs.Lists.{not_true}
use Rattle.herm_model.proofs.Options.{some-injective}
use Rattle.herm_journal.specs.Actions.{gone, new_port, new_process, to_put, to_take, to_close, to_answer, to_hear, make_port, make_process, put, take, close, answer, hear}
use Rattle.herm_journal.specs.Messages.{CellReply, CellWant, CellAction, OfType, is_inport, message_of_port, types_of_reply, cells_in}
use Rattle.herm_journal.specs.PartTypes.{is_kind_at, IsPlaced}
use Rattle.herm_forms.specs.Acts.{is_action, wants, settle}
use Rattle.herm_forms.specs.Frames.{Frame, Completion, goes}
use Rattle.herm_forms.specs.Incoming.{leads_from}
use Rattle.herm_forms.specs.Incoming as incoming
use Rattle.herm_forms.proofs.Counting.{recount}
use Rattle.herm_forms.proofs.KeptBodies.{IsCall}
use Rattle.herm_forms.proofs.placed.PlacedAnswers.{Arrives, settle-is}
use Rattle.herm_forms.proofs.placed.PlacedGoing.{SentTo, sent-to, RepliedFrom, replied-from}
use Rattle.herm_forms.proofs.placed.PlacedWants.{sent-is}
use Rattle.herm_sound.specs.Standing.{StandsAt, at_type, typed_going}
use Rattle.herm_system.specs.Kinds.{typed_of, typed_list}
use Rattle.herm_system.specs.Suiting.{Answers}
use Rattle.herm_instructions.specs.GoodCode.{IsGood, processes_of}
use Rattle.herm_instructions.specs.Images.{CodeModule, Image}
use Rattle.herm_instructions.specs.Instructions.{Instruction}
use Rattle.herm_instructions.specs.Labels.{Label}
use Rattle.herm_instructions.specs.Places.{label_at}
use Rattle.herm_code_machine.specs.CodeActions.{code_wants, code_settles}
use Rattle.herm_code_machine.specs.CodeInstance.{own_name}
use Rattle.herm_code_machine.specs.CodeStates.{stack_after}
use Rattle.herm_code_machine.specs.CodeTypes.{type_made}
use Rattle.herm_code_machine.specs.ReadyCode.{ReadyCode, ready_code}
use Rattle.herm_code_machine.proofs.placed.RowsOfSlots.{row_in}
use Rattle.herm_code_machine.proofs.placed.StandEffects.{Stands, stands-agrees, stands-allowed, BodyStands, ValuesStand, StandAt, stand-leaving}
use Rattle.herm_held.proofs.TypedPlaces.{AllAre, typed-placed, placed-typed, list-typed}
use Rattle.herm_code_machine.proofs.sound.ActionEffects.{Acts, looked_by, made_by, TakesMessage}
use Rattle.herm_code_machine.proofs.sound.AlongRuns.{behind}
use Rattle.herm_code_machine.proofs.sound.AtLabels.{Holds}
use Rattle.herm_code_machine.proofs.sound.Between as between

-- what is listed where there is something
pub in-some : {X Y : Type 0} (f : X → List Y) (y : Y) (o : Option X) (x : X) → o ≡ Some x → IsIn y (f x) → IsIn y (list_of f o)
in-some f y o x is h = subst (λ o. IsIn y (list_of f o)) (sym is) h

pub at-type : (k : Kind) (o : Option ℕ) (t : ℕ) → o ≡ Some t → IsIn (t, k) (at_type k o)
at-type k o t is = in-some (λ t. (t, k) ∷ []) (t, k) o t is (inl refl)

pub inport-is_kind : (o : Option Shape) (n : ℕ) → IsTrue (is_inport o) → IsTrue (is_kind_at o (an_inport n))
inport-is_kind (Some (inport message declared)) n h = refl
inport-is_kind o n h = not_true h

-- a message that answers what is wanted to be placed
put-wanted : (want : CellWant Name) (n : Option ℕ) (m : Cell Name) → Answers {R = CellReply Name} want (put n m) → (port : ℕ) × (want ≡ to_put port m)
put-wanted (to_put port d) n m h = (port, ap (to_put port) h)
put-wanted want n m h = absurd h

module _ (exceptions' : ℕ) (image : Image) (good : IsGood exceptions' image) (formed : IsWellFormedTable exceptions' image.types) (m : CodeModule) (in-image : IsIn m image.modules) (ports : List ℕ) (calls : ℕ → ℕ → Option ℕ) where
  abbrev c : ReadyCode
  c = ready_code image (label_at image.types image.constants) m

  abbrev P : ℕ → Kind → Type 0
  P = Stands image.types ports calls

  abbrev At : ℕ → Kind → Type 0
  At = StandsAt image.types ports calls

  abbrev All : List (ℕ × Kind) → Type 0
  All xs = AllAre image.types (StandsAt image.types ports calls) xs

  abbrev Body : Label → Frame Name → Type 0
  Body l b = BodyStands exceptions' image good formed m in-image ports calls l.slots b

  abbrev Values : List ℕ → List Value → Type 0
  Values ts stack = ValuesStand exceptions' image good formed m in-image ports calls ts stack

  -- behind an outcome
  abbrev pub StandsBehind : Instruction → Label → List Value → Completion Name → Type 0
  StandsBehind i l stack r = (o : Outcome) (b : Frame Name) → r ≡ goes o b → StandAt exceptions' image good formed m in-image ports calls (behind exceptions' image good formed m in-image own_name i o l) (stack_after o stack) b

  -- a message that goes to a port, and a reply to a call, each by its type
  sent-stands : (row : ℕ → Option ℕ) (n : ℕ) (d : Cell Name) → SentTo own_name (c).scope P (stands-agrees image.types ports calls) row (stands-allowed image.types ports calls) n d
      → All (list_of (λ t. list_of (λ u. typed_of image.types u d) (message_of_port image.types t)) (slice_get ports n))
  sent-stands row n d s =
      let u = s.stands.0 in
      let same : u.0 ≡ s.port = some-injective (sym u.1 ∙ s.leads) in
      subst (λ o. All (list_of (λ t. list_of (λ u. typed_of image.types u d) (message_of_port image.types t)) o)) (sym (u.2 ∙ ap (λ t. Some t) same))
      (subst (λ o. All (list_of (λ u. typed_of image.types u d) o)) (sym s.takes) (placed-typed image.types At s.message d s.placed))

  pub message-stands : (n t port u : ℕ) (d : Cell Name) → StandsAt image.types ports calls t (an_outport n) → option_and_then led_to (slice_get image.types t) ≡ Some port → message_of_port image.types port ≡ Some u → IsPlaced image.types P u d
      → All (list_of (λ t. list_of (λ u. typed_of image.types u d) (message_of_port image.types t)) (slice_get ports n))
  message-stands n t port u d h leads takes placed =
      let same : h.0 ≡ port = some-injective (sym h.1 ∙ leads) in
      subst (λ o. All (list_of (λ t. list_of (λ u. typed_of image.types u d) (message_of_port image.types t)) o)) (sym (h.2 ∙ ap (λ t. Some t) same))
      (subst (λ o. All (list_of (λ u. typed_of image.types u d) o)) (sym takes) (placed-typed image.types At u d placed))

  replied-stands : (row : ℕ → Option ℕ) (caller call : ℕ) (r : CellReply Name) → RepliedFrom own_name (c).scope P (stands-agrees image.types ports calls) row (stands-allowed image.types ports calls) caller call r
      → All (list_of (λ t. typed_list image.types (types_of_reply image.types (Some t) r) (cells_in r)) (calls caller call))
  replied-stands row caller call r s =
      subst (λ o. All (list_of (λ t. typed_list image.types (types_of_reply image.types (Some t) r) (cells_in r)) o)) (sym s.stands.0) (list-typed image.types At (types_of_reply image.types (Some s.type) r) (cells_in r) s.listed)

  pub gone-stands : (o : Option ℕ) → All (list_of (λ t. typed_list image.types (types_of_reply {N = Name} image.types (Some t) gone) (cells_in {N = Name} gone)) o)
  gone-stands None t k i = absurd i
  gone-stands (Some u) t k i = absurd i

  -- what comes in with the answer to an instruction's action, and what is made with it
  abbrev pub Coming : Instruction → Frame Name → (at : ℕ) → CellAction Name → Type 0
  Coming i b at (take k d) = (t u : ℕ) → looked_by (c) i b at ≡ Some t → message_of_port image.types t ≡ Some u → All (typed_of image.types u d)
  Coming i b at (make_port (Some n)) = All (at_type (an_inport n) (type_made i))
  Coming i b at (make_process code (Some made)) = All (at_type (an_inport made.1) (TypedStatements.port_type (processes_of image.modules) code))
  Coming i b at a = ⊤

  -- a process that is made looks for messages at an inport
  abbrev pub ArePorts : Type 0
  ArePorts = (t process : ℕ) → TypedStatements.port_type (processes_of image.modules) process ≡ Some t → IsTrue (is_inport (slice_get image.types t))

  module _ (inports : ArePorts) (W : Outcome → Type 0) (i : Instruction) (l : Label) (stack : List Value) (b : Frame Name) (holds : Holds (ready_code image (label_at image.types image.constants) m) l stack b)
      (acts : Acts exceptions' image formed good.constants m (between.good-module exceptions' image good formed m in-image).variables_known (label_at image.types image.constants) own_name W l stack b holds i) (body : Body l b) (values : Values l.stack stack) where
    abbrev ArrivesAt : (steps actions at : ℕ) → CellAction Name → Form → Type 0
    ArrivesAt steps actions at a form = Arrives own_name (c).scope P (stands-agrees image.types ports calls) (row_in l.slots) (processes_of image.modules) at a form (recount steps actions b)

    created-code : (o : Path) (process code : ℕ) (born : Option (ℕ × ℕ)) (want : CellWant Name) → wants own_name (c).scope (Create o process) b ≡ Some want → Answers want (make_process code born) → process ≡ code
    created-code o process code born want is answers = subst (λ w. Answers w (make_process code born)) (sym (some-injective is)) answers

    taken-is : (steps actions : ℕ) (form : Form) → acts.form ≡ form → (at k : ℕ) (d : Cell Name) → TakesMessage (c) i b at (take k d) → Coming i b at (take k d) → ArrivesAt steps actions at (take k d) form
    taken-is steps actions form same at k d takes comes = (
      takes.0,
      sym (ap (λ ps. option_and_then (type_at image.types m.variables) (find (leads_from at b) ps)) (acts.ports ∙ ap incoming.ports_of same)) ∙ takes.1,
      (λ u is. typed-placed image.types At partly u d (subst (λ o. OfType image.types o d) is takes.2.0) (comes takes.0 u takes.1 is)),
    )

    -- what comes in with the answer to a form
    arrives : (steps actions : ℕ) (form : Form) → acts.form ≡ form → IsTrue (is_action (c).scope form) → (want : CellWant Name) → wants own_name (c).scope form b ≡ Some want → (at : ℕ) (a : CellAction Name) → Answers want a
        → TakesMessage (c) i b at a → Coming i b at a → ArrivesAt steps actions at a form
    arrives steps actions (New p) same is want want' at (make_port (Some k)) answers takes comes = λ t type. (
      comes t (an_inport k) (at-type (an_inport k) (type_made i) t (acts.makes ∙ ap (made_by image.types m.variables) same ∙ type)),
      inport-is_kind (slice_get image.types t) k (subst (λ o. IsTrue (is_inport (option_and_then (slice_get image.types) o))) type is),
    )
    arrives steps actions (Create o process) same is want want' at (make_process code (Some born)) answers takes comes = λ t type.
        let e = created-code o process code (Some born) want want' answers in
        (comes t (an_inport born.1) (at-type (an_inport born.1) (TypedStatements.port_type (processes_of image.modules) code) t (ap (TypedStatements.port_type (processes_of image.modules)) (sym e) ∙ type)), inport-is_kind (slice_get image.types t) born.1 (inports t process type))
    arrives steps actions (Send p o) same is want want' at (put None d) answers takes comes = λ t type.
        let w = put-wanted want None d answers in
        sent-is own_name (c).scope P (stands-agrees image.types ports calls) (row_in l.slots) (stands-allowed image.types ports calls) p o t w.0 d b type body (want' ∙ ap (λ w. Some w) w.1)
    arrives steps actions form same is want want' at (take k d) answers takes comes = taken-is steps actions form same at k d takes comes
    arrives steps actions form same is want want' at (make_port None) answers takes comes = tt
    arrives steps actions form same is want want' at (make_process code None) answers takes comes = tt
    arrives steps actions form same is want want' at (put (Some k) d) answers takes comes = tt
    arrives steps actions form same is want want' at (close count left) answers takes comes = tt
    arrives steps actions form same is want want' at (answer call r) answers takes comes = tt
    arrives steps actions form same is want want' at (hear call r) answers takes comes = tt
    arrives steps actions form same is want want' at a answers takes comes = tt

    -- behind the answer
    pub action-stands : (steps actions at : ℕ) (a : CellAction Name) (want : CellWant Name) → code_wants own_name (c) i stack b ≡ Some want → Answers want a → TakesMessage (c) i b at a → Coming i b at a
        → StandsBehind i l (code_settles own_name (c) i stack at a (recount steps actions b)).stack (code_settles own_name (c) i stack at a (recount steps actions b)).completion
    action-stands steps actions at a want wanted answers takes comes o b' goes' =
        stand-leaving exceptions' image good formed m in-image ports calls i l acts.same_slots o b' (code_settles own_name (c) i stack at a (recount steps actions b)) stack (settle own_name (c).scope acts.form at a (recount steps actions b)) (acts.settles steps actions at a)
        (settle-is own_name (c).scope P (stands-agrees image.types ports calls) (row_in l.slots) (stands-allowed image.types ports calls) exceptions' (processes_of image.modules) acts.form (acts.is).typed acts.acts at a (recount steps actions b)
        (arrives steps actions acts.form refl acts.acts want (sym acts.as_form ∙ wanted) at a answers takes comes) body)
        (subst (λ ts. Values ts stack) (sym acts.same_stack) values) goes'

    -- what goes out with it
    pub action-going : (want : CellWant Name) (a : CellAction Name) → code_wants own_name (c) i stack b ≡ Some want → Answers want a → All (typed_going image.types ports calls want a)
    action-going (to_put n d) (put (Some k) d') wanted answers =
        sent-stands (row_in l.slots) n d (sent-to own_name (c).scope P (stands-agrees image.types ports calls) (row_in l.slots) (stands-allowed image.types ports calls) exceptions' (processes_of image.modules) acts.form (acts.is).typed n d b body (sym acts.as_form ∙ wanted)
        (λ o arguments form is. absurd (acts.no_call (subst IsCall (sym form) tt))))
    action-going (to_put n d) (put None d') wanted answers = λ t i h. absurd h
    action-going (to_put n d) a wanted answers = absurd answers
    action-going (to_answer caller call r) a wanted answers =
        replied-stands (row_in l.slots) caller call r (replied-from own_name (c).scope P (stands-agrees image.types ports calls) (row_in l.slots) (stands-allowed image.types ports calls) exceptions' (processes_of image.modules) acts.form (acts.is).typed caller call r b body (sym acts.as_form ∙ wanted))
    action-going new_port a wanted answers = λ t i h. absurd h
    action-going (new_process code) a wanted answers = λ t i h. absurd h
    action-going (to_take ports') a wanted answers = λ t i h. absurd h
    action-going (to_close k) a wanted answers = λ t i h. absurd h
    action-going to_hear a wanted answers = λ t i h. absurd h
