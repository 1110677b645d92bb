-- Answers to processes of typed programs keep a property of cells with the types of their places.
use Rattle.std.proofs.Common.{◌≡◌, inl, ℕ, List, [], ◌∷◌, Option, Some, None, option_map, option_and_then, slice_get, refl, sym, ap, subst, ◌∙◌}
use Rattle.std.specs.Prelude.{IsTrue, pred, length}
use Rattle.herm_model.specs.Lists.{IsIn, list_of}
use Rattle.herm_model.specs.Paths.{Path}
use Rattle.herm_model.specs.Types.{Shape, inport}
use Rattle.herm_model.specs.Expressions.{Atom}
use Rattle.herm_model.specs.Statements.{Process, Form, New, Send, Call, Create}
use Rattle.herm_model.specs.Nodes.{Node}
use Rattle.herm_model.specs.Values.{Name, Kind, a_callmessage, an_inport, Cell, cell, no_parts, part, gaps}
use Rattle.herm_model.specs.Typed.{partly}
use Rattle.herm_model.specs.TypedStatements.{IsTypedForm}
use Rattle.herm_model.specs.TypedStatements
use Rattle.herm_model.proofs.Lists.{not_true}
use Rattle.herm_model.proofs.Options.{some-injective, none-not_some, map-some, chain-some}
use Rattle.herm_journal.specs.Actions.{values, gone, make_port, make_process, put, take, hear}
use Rattle.herm_journal.specs.Actions
use Rattle.herm_journal.specs.Messages.{CellReply, CellWant, CellAction, OfType, AreFull, is_inport, IsReplyTo, message_of_port, types_of_reply, cells_in}
use Rattle.herm_journal.specs.PartTypes.{PartTypes, each, all_of, part_types_at, is_kind_at, IsPlaced, ArePlaced}
use Rattle.herm_forms.specs.Frames.{Frame, counted_step, counted_action}
use Rattle.herm_forms.specs.ClosesAndAnswers
use Rattle.herm_forms.specs.Modules.{Module}
use Rattle.herm_forms.specs.Acts.{is_action, wants, settle, settle_reply}
use Rattle.herm_forms.specs.OpenCalls.{Calling, calling_form, call_type, returned_types, kept_types}
use Rattle.herm_forms.specs.laws.CallLaws.{HaveTypesAt}
use Rattle.herm_forms.specs.Incoming.{looked_at}
use Rattle.herm_forms.specs.laws.TypedForms.{IsTypedIn}
use Rattle.herm_forms.proofs.placed.PlacedParts.{gaps-placed}
use Rattle.herm_forms.proofs.placed.PlacedForms.{AllowsLocal, arrive-is}
use Rattle.herm_forms.proofs.placed.PlacedActions.{ArePlacedAt, work-is}
use Rattle.herm_forms.proofs.placed.PlacedAnswers.{Arrives, settle-is, Replies, reply-is}
use Rattle.herm_forms.proofs.placed.PlacedWants.{sent-is, listed-at}
use Rattle.herm_forms.proofs.typed.CallForms.{returned-typed, kept-typed}
use Rattle.herm_system.specs.Machines.{OpenCall}
use Rattle.herm_system.specs.Suiting.{Answers}
use Rattle.herm_system.specs.Kinds.{typed_of, typed_list}
use Rattle.herm_runs.proofs.ActionParts.{cond-both}
use Rattle.herm_source.specs.States.{State, own_name, begin, item_or, call_or_statement, Next, an_item, a_reply, a_statement, nothing, node_at, next_of, wanted_next, settle_next}
use Rattle.herm_source.specs.Local.{calling, row_type}
use Rattle.herm_source.specs.SeenBySystem.{port_type, open_call}
use Rattle.herm_source.specs.laws.Standing.{type_made, at_type}
use Rattle.herm_source.proofs.counted.CountedSteps.{node-there, stands}
use Rattle.herm_source.proofs.sound.SoundProcesses.{SuitsCode, put-wanted}
use Rattle.herm_held.proofs.TypedPlaces.{typed-placed, list-placed}
use Rattle.herm_source.proofs.placed.PlacedSteps.{Own, own-agrees, Body', All, behind-is}
use Rattle.herm_source.proofs.OpeningFrame.{opening_frame}

-- what is listed where there is something
pub in-some : {X Y : Type 0} (f : X → List Y) (y : Y) (o : Option X) (x : X) → o ≡ Some x → IsIn y (f x) → IsIn y (list_of f o)
in-some f y o x is h = subst (λ o. IsIn y (list_of f o)) (sym is) h

pub at-type : (k : Kind) (o : Option ℕ) (t : ℕ) → o ≡ Some t → IsIn (t, k) (at_type k o)
at-type k o t is = in-some (λ t. (t, k) ∷ []) (t, k) o t is (inl refl)

inport-kind : (o : Option Shape) (n : ℕ) → IsTrue (is_inport o) → IsTrue (is_kind_at o (an_inport n))
inport-kind (Some (inport message declared)) n h = refl
inport-kind o n h = not_true h

module _ (Is : ℕ → Kind → Type 0) (c : Module) where
  -- what comes in, and what is made, by the code
  abbrev pub coming : State Name → (at : ℕ) → CellAction Name → List (ℕ × Kind)
  coming x at (take number m) = list_of (λ t. typed_of c.types t m) (option_and_then (message_of_port c.types) (port_type c x at))
  coming x at (hear k r) = list_of (λ (call : OpenCall). typed_list c.types (types_of_reply c.types call.call_type r) (cells_in r)) (open_call c x)
  coming x at a = []

  abbrev pub made : List Process → (before behind : State Name) → CellAction Name → List (ℕ × Kind)
  made processes x y (make_port (Some n)) = at_type (an_inport n) (option_and_then (λ (n : Node). type_made c n.form) (node_at c x.point))
  made processes x y (make_process code (Some born)) = at_type (an_inport born.1) (TypedStatements.port_type processes code)
  made processes x y (put (Some number) m) = list_of (λ (call : OpenCall). at_type (a_callmessage y.frame.number call.number) call.call_type) (open_call c y)
  made processes x y a = []

  abbrev agrees' : (t : ℕ) (k : Kind) → Own Is c t k → IsTrue (is_kind_at (slice_get c.types t) k)
  agrees' = own-agrees Is c

  -- a process that is made looks for messages at an inport
  abbrev pub ArePorts : List Process → Type 0
  ArePorts processes = (t process : ℕ) → TypedStatements.port_type processes process ≡ Some t → IsTrue (is_inport (slice_get c.types t))

  module _ (exceptions : ℕ) (processes : List Process) (ports : ArePorts processes) (allows : AllowsLocal c.types (Own Is c)) where
    abbrev counted : State Name → Frame Name
    counted x = counted_action (counted_step x.frame)

    module _ (x y : State Name) (n : Node) (at : node_at c x.point ≡ Some n) (want : CellWant Name) (own : Body' Is c x.frame) where
      created-code : (o : Path) (process code : ℕ) (born : Option (ℕ × ℕ)) → wants own_name c (Create o process) x.frame ≡ Some want → Answers want (make_process code born) → process ≡ code
      created-code o process code born is answers = subst (λ w. Answers w (make_process code born)) (sym (some-injective is)) answers

      taken-is : (form : Form) → n.form ≡ form → (place k : ℕ) (m : Cell Name) → SuitsCode c.types c x place (take k m) → All Is c (coming x place (take k m)) → Arrives own_name c (Own Is c) agrees' (row_type c) processes place (take k m) form (counted x)
      taken-is form same place k m suits comes = (
        suits.0,
        sym (ap (option_and_then (λ (node : Node). looked_at c node.form x.frame place)) at ∙ ap (λ form. looked_at c form x.frame place) same) ∙ suits.1,
        (λ u takes. typed-placed c.types Is partly u m (subst (λ o. OfType c.types o m) takes suits.2.0)
            (λ v j i. comes v j (in-some (λ t. typed_of c.types t m) (v, j) (option_and_then (message_of_port c.types) (port_type c x place)) u (ap (option_and_then (message_of_port c.types)) suits.1 ∙ takes) i))),
      )

      -- what comes in with the answer to a statement
      arrives : (form : Form) → n.form ≡ form → IsTypedForm c.types c.variables exceptions processes form → IsTrue (is_action c form) → wants own_name c form x.frame ≡ Some want → (place : ℕ) (a : CellAction Name) → Answers want a
          → SuitsCode c.types c x place a → All Is c (coming x place a) → All Is c (made processes x y a) → Arrives own_name c (Own Is c) agrees' (row_type c) processes place a form (counted x)
      arrives (New p) same is acts want' place (make_port (Some k)) answers suits comes makes = λ t type. (
        makes t (an_inport k) (at-type (an_inport k) (option_and_then (λ (n : Node). type_made c n.form) (node_at c x.point)) t (ap (option_and_then (λ (n : Node). type_made c n.form)) at ∙ ap (type_made c) same ∙ type)),
        inport-kind (slice_get c.types t) k (subst (λ o. IsTrue (is_inport (option_and_then (slice_get c.types) o))) type acts),
      )
      arrives (Create o process) same is acts want' place (make_process code (Some born)) answers suits comes makes = λ t type.
          let e = created-code o process code (Some born) want' answers in
          (makes t (an_inport born.1) (at-type (an_inport born.1) (TypedStatements.port_type processes code) t (ap (TypedStatements.port_type processes) (sym e) ∙ type)), inport-kind (slice_get c.types t) born.1 (ports t process type))
      arrives (Send p o) same is acts want' place (put None m) answers suits comes makes = λ t type.
          let w = put-wanted want None m answers in
          sent-is own_name c (Own Is c) agrees' (row_type c) allows p o t w.0 m x.frame type own (want' ∙ ap (λ w. Some w) w.1)
      arrives form same is acts want' place (take k m) answers suits comes makes = taken-is form same place k m suits comes
      arrives form same is acts want' place (make_port None) answers suits comes makes = tt
      arrives form same is acts want' place (make_process code None) answers suits comes makes = tt
      arrives form same is acts want' place (put (Some k) m) answers suits comes makes = tt
      arrives form same is acts want' place (Actions.close count left) answers suits comes makes = tt
      arrives form same is acts want' place (Actions.answer call r) answers suits comes makes = tt
      arrives form same is acts want' place (hear call r) answers suits comes makes = tt
      arrives form same is acts want' place a answers suits comes makes = tt

    -- the reply that comes in
    module _ (x : State Name) (o : Path) (arguments : List Atom) (is : IsTypedIn exceptions processes c (Call o arguments)) (n : Node) (at : node_at c x.point ≡ Some n) (form : n.form ≡ Call o arguments) where
      abbrev k : Calling
      k = record { port = o; arguments = arguments }

      call-there : (call : OpenCall) → open_call c x ≡ Some call → call.call_type ≡ call_type c k
      call-there call e =
          let j = chain-some (λ k. option_map (λ (call : Calling). record { number = k; call_type = call_type c call }) (calling c x)) x.frame.call call e in
          let m = map-some (λ (call : Calling). record { number = j.0; call_type = call_type c call }) (calling c x) call j.2 in
          let same : m.0 ≡ k = some-injective (sym m.1 ∙ ap (option_and_then (λ (n : Node). calling_form n.form)) at ∙ ap calling_form form) in
          ap (λ (call : OpenCall). call.call_type) (sym m.2) ∙ ap (call_type c) same

      listed-reply : (ts : List ℕ) (paths : List Path) (cs : List (Cell Name)) → HaveTypesAt c paths ts → AreFull c.types ts cs → All Is c (typed_list c.types ts cs)
          → ArePlacedAt own_name c (Own Is c) agrees' (row_type c) paths cs
      listed-reply ts paths cs typed full all = listed-at own_name c (Own Is c) agrees' (row_type c) allows paths ts cs typed (list-placed c.types Is ts cs full all)

      replies-with : (r : CellReply Name) (type : Option ℕ) → type ≡ call_type c k → IsReplyTo c.types type r → All Is c (typed_list c.types (types_of_reply c.types type r) (cells_in r)) → Replies own_name c (Own Is c) agrees' (row_type c) o arguments r
      replies-with (values cs) type same reply all =
          listed-reply (returned_types c k) _ cs (returned-typed exceptions processes c k is) (subst (λ type. IsReplyTo c.types type (values cs)) same reply)
          (subst (λ type. All Is c (typed_list c.types (types_of_reply c.types type (values cs)) cs)) same all)
      replies-with (Actions.raised e cs) type same reply all =
          listed-reply (kept_types c k e) _ cs (kept-typed exceptions processes c k is e) (subst (λ type. IsReplyTo c.types type (Actions.raised e cs)) same reply).1
          (subst (λ type. All Is c (typed_list c.types (types_of_reply c.types type (Actions.raised e cs)) cs)) same all)
      replies-with gone type same reply all = tt

      replied : (place call : ℕ) (r : CellReply Name) → SuitsCode c.types c x place (hear call r) → All Is c (coming x place (hear call r)) → Replies own_name c (Own Is c) agrees' (row_type c) o arguments r
      replied place call r suits comes =
          replies-with r (suits.0).call_type (call-there suits.0 suits.1) suits.3
          (λ t j i. comes t j (in-some (λ (call : OpenCall). typed_list c.types (types_of_reply c.types call.call_type r) (cells_in r)) (t, j) (open_call c x) suits.0 suits.1 i))

    -- what an answer leaves
    module _ (typed : (n : Node) → IsIn n c.nodes → IsTypedIn exceptions processes c n.form) (x y : State Name) (want : CellWant Name) (place : ℕ) (a : CellAction Name) (answers : Answers want a) (suits : SuitsCode c.types c x place a)
        (own : Body' Is c x.frame) (comes : All Is c (coming x place a)) (makes : All Is c (made processes x y a)) where
      node-of_reply : (call : ℕ) (n : Node) → next_of c x ≡ a_reply call n → node_at c x.point ≡ Some n
      node-of_reply call n e = by x.frame.work x.frame.call (node_at c x.point) e
        where
          reply_node : Next Name → Option Node
          reply_node (a_reply call n) = Some n
          reply_node next = None

          by : (work : List (Cell Name)) (open' : Option ℕ) (o : Option Node) → item_or work (call_or_statement open' o) ≡ a_reply call n → o ≡ Some n
          by (item ∷ work) open' o e = none-not_some (ap reply_node e)
          by [] open' None e = none-not_some (ap reply_node e)
          by [] None (Some m) e = none-not_some (ap reply_node e)
          by [] (Some k) (Some m) e = ap reply_node e

      pub answer-is : (next : Next Name) → next_of c x ≡ next → wanted_next own_name c x.frame next ≡ Some want → settle_next own_name c x place a next ≡ Some y → Body' Is c y.frame
      answer-is (an_item item work) next wants' is =
          behind-is Is c x y None (ClosesAndAnswers.work_done item a (counted_action (record (x.frame) { work = work }))) (work-is own_name c (Own Is c) agrees' (row_type c) item a (counted_action (record (x.frame) { work = work })) own) is
      answer-is (a_reply call n) next wants' is =
          let at = node-of_reply call n next in
          behind-is Is c x y (Some n) (settle_reply c n.form call a (counted_action x.frame))
          (reply-is own_name c (Own Is c) agrees' (row_type c) n.form call a (counted_action x.frame)
          (λ o arguments k r form heard. replied x o arguments (subst (IsTypedIn exceptions processes c) form (typed n (node-there c x.point n at))) n at form place k r
          (subst (SuitsCode c.types c x place) heard suits) (subst (λ a. All Is c (coming x place a)) heard comes)) own) is
      answer-is (a_statement n) next wants' is =
          let at = (stands c x n next).at in
          let want' = cond-both (is_action c n.form) (wants own_name c n.form x.frame) want wants' in
          let of = (typed n (node-there c x.point n at)).typed in
          behind-is Is c x y (Some n) (settle own_name c n.form place a (counted x))
          (settle-is own_name c (Own Is c) agrees' (row_type c) allows exceptions processes n.form of want'.0 place a (counted x) (arrives x y n at want own n.form refl of want'.0 want'.1 place a answers suits comes makes) own) is
      answer-is nothing next wants' is = none-not_some is

  -- as it begins
  no-parts-placed : (ts : PartTypes) → ArePlaced c.types (Own Is c) {N = Name} ts no_parts
  no-parts-placed (each []) = tt
  no-parts-placed (each (t ∷ ts)) = tt
  no-parts-placed (all_of t) = tt

  pub begin-is : (code number port : ℕ) (n : Name) (t : ℕ) → slice_get c.variables 0 ≡ Some t → Own Is c t (an_inport port) → Body' Is c (begin c code number (cell n (an_inport port) no_parts)).frame
  begin-is code number port n t first h =
      arrive-is own_name c (Own Is c) agrees' (row_type c) c.entry
      (opening_frame c number (cell n (an_inport port) no_parts))
      (by c.variables first, tt)
    where
      by : (ts : List ℕ) → slice_get ts 0 ≡ Some t → ArePlaced c.types (Own Is c) (each ts) (part (cell n (an_inport port) no_parts) (gaps (pred (length ts))))
      by [] e = none-not_some e
      by (u ∷ ts) e = (subst (λ t. IsPlaced c.types (Own Is c) t (cell n (an_inport port) no_parts)) (sym (some-injective e)) (h, no-parts-placed (part_types_at (slice_get c.types t) (an_inport port))), gaps-placed c.types (Own Is c) agrees' Name ts (length ts))
