-- What a form puts goes to the type of its port, and what it answers to that of its callmessage, with a property of cells and the
-- types of their places.
use Rattle.std.proofs.Common.{◌≡◌, inl, inr, ℕ, List, [], ◌∷◌, map, flat_map, filter, Option, Some, option_and_then, refl, sym, ap, subst, ◌∙◌, ◌+◌, arith}
use Rattle.std.specs.Prelude.{slice_get}
use Rattle.herm_model.specs.Lists.{list_of}
use Rattle.herm_model.specs.Paths.{Path}
use Rattle.herm_model.specs.Types.{Shape, Parameter, Raised, callmessage, type_at}
use Rattle.herm_model.specs.Expressions.{Atom}
use Rattle.herm_model.specs.Calls.{led_to, message_type, parameters_of, raises_of, is_returned, returned_places, kept_for, shape_at}
use Rattle.herm_model.specs.Statements.{Process, Form, Call, Return, ReturnBy}
use Rattle.herm_model.specs.FactsOfStatements.{parameters_at}
use Rattle.herm_model.specs.Values.{Kind, an_outport, a_callmessage, Cell, cell, kind_of, read_at}
use Rattle.herm_model.specs.TypedStatements.{IsTypedForm, IsReturned, GoesTo}
use Rattle.herm_model.proofs.Options.{none-not_some, some-injective, chain-some}
use Rattle.herm_model.proofs.TypedCalls.{shape-is}
use Rattle.herm_journal.specs.Actions.{values, gone, new_port, new_process, to_put, to_take, to_answer}
use Rattle.herm_journal.specs.Actions
use Rattle.herm_journal.specs.Messages.{CellReply, cells_in, message_of_port, types_of_reply}
use Rattle.herm_journal.specs.PartTypes.{IsPlaced}
use Rattle.herm_forms.specs.Frames.{Name, Frame, Taken}
use Rattle.herm_forms.specs.Forms.{outport_number}
use Rattle.herm_forms.specs.Exchanges.{outport_at}
use Rattle.herm_forms.specs.ReturnForms.{caller_of, return_wants}
use Rattle.herm_forms.specs.Modules.{Module}
use Rattle.herm_forms.specs.Acts.{given_back, wants}
use Rattle.herm_forms.proofs.typed.WantKinds.{PutBy, puts-by, AnsweredBy, answers-by, answered-is}
use Rattle.herm_forms.proofs.called.GivenReplies.{returned-contents}
use Rattle.herm_forms.proofs.placed.PlacedParts.{Agrees}
use Rattle.herm_forms.proofs.placed.PlacedForms.{AllowsLocal, BodyIs, cell-is, read-is}
use Rattle.herm_forms.proofs.placed.PlacedAnswers.{ArePlacedFor, IfTaken, given-is}
use Rattle.herm_forms.proofs.placed.PlacedWants.{sent-is, called-is, AreListed, given-listed}

module _ (name : Name → Name) (c : Module) (P : ℕ → Kind → Type 0) (agrees : Agrees c.types P) (row : ℕ → Option ℕ) (allows : AllowsLocal c.types P) where
  -- a message that goes to a port by an outport at a path
  pub record SentTo (n : ℕ) (m : Cell Name) : Type 0 where
    pub to : Path
    pub type : ℕ
    pub port : ℕ
    pub message : ℕ
    pub at : type_at c.types c.variables to ≡ Some type
    pub stands : P type (an_outport n)
    pub leads : option_and_then led_to (slice_get c.types type) ≡ Some port
    pub takes : message_of_port c.types port ≡ Some message
    pub placed : IsPlaced c.types P message m

  outport-kind : (t n : ℕ) (d : Cell Name) → IsPlaced c.types P t d → outport_number d ≡ Some n → P t (an_outport n)
  outport-kind t n (cell x (an_outport k) ps) h e = subst (λ k. P t (an_outport k)) (some-injective e) h.0
  outport-kind t n (cell x k ps) h e = none-not_some e

  goes-to : (o : Path) (message n : ℕ) (m : Cell Name) (b : Frame Name) → GoesTo c.types c.variables o message → BodyIs name c P agrees row b → outport_at o b ≡ Some n → IsPlaced c.types P message m → SentTo n m
  goes-to o message n m b to e at placed =
      let d = chain-some outport_number (read_at o b.variables) n at in
      record {
        to = o;
        type = to.0;
        port = to.1;
        message = message;
        at = to.3.0;
        stands = outport-kind to.0 n d.0 (read-is name c P agrees row o to.0 b.variables d.0 e.0 d.1 to.3.0) d.2;
        leads = ap (option_and_then led_to) to.4;
        takes = ap (option_and_then message_type) to.5;
        placed = placed;
      }

  module _ (exceptions : ℕ) (processes : List Process) where
    -- what a form puts
    pub sent-to : (form : Form) (is : IsTypedForm c.types c.variables exceptions processes form) (n : ℕ) (m : Cell Name) (b : Frame Name) → BodyIs name c P agrees row b → wants name c form b ≡ Some (to_put n m)
        → ((o : Path) (arguments : List Atom) → form ≡ Call o arguments → (is : IsTypedForm c.types c.variables exceptions processes (Call o arguments)) → P is.0 (kind_of m)) → SentTo n m
    sent-to form is n m b e want own = by (puts-by name c b form n m want)
      where
        by : PutBy name c b form n → SentTo n m
        by (inl h) =
            let typed = subst (IsTypedForm c.types c.variables exceptions processes) h.2 is in
            goes-to h.1 typed.0 n m b typed.1 e h.3 (sent-is name c P agrees row allows h.0 h.1 typed.0 n m b typed.2.0.0 e (subst (λ form. wants name c form b ≡ Some (to_put n m)) h.2 want))
        by (inr h) =
            let typed = subst (IsTypedForm c.types c.variables exceptions processes) h.2 is in
            goes-to h.0 typed.0 n m b typed.3 e h.3
            (called-is name c P agrees row allows exceptions processes h.0 h.1 typed n m b e (subst (λ form. wants name c form b ≡ Some (to_put n m)) h.2 want) (own h.0 h.1 h.2 typed))

  -- a reply for the callmessage at a path
  pub record RepliedFrom (caller call : ℕ) (r : CellReply Name) : Type 0 where
    pub from : Path
    pub type : ℕ
    pub at : type_at c.types c.variables from ≡ Some type
    pub stands : P type (a_callmessage caller call)
    pub listed : AreListed c.types P (types_of_reply c.types (Some type) r) (cells_in r)

  caller-kind : (t caller call : ℕ) (d : Cell Name) → IsPlaced c.types P t d → caller_of d ≡ Some (caller, call) → P t (a_callmessage caller call)
  caller-kind t caller call (cell x (a_callmessage p k) ps) h e = subst (λ (to : ℕ × ℕ). P t (a_callmessage to.0 to.1)) (some-injective e) h.0
  caller-kind t caller call (cell x k ps) h e = none-not_some e

  abbrev contents : Option Parameter → List ℕ
  contents o = list_of (λ (p : Parameter). p.content ∷ []) o

  module _ (i : ℕ) (q : List ℕ) (raises : List Raised) (is : IsReturned c.types c.variables (i ∷ q) raises) (reply : List (Cell Name) → CellReply Name) (in-reply : (cs : List (Cell Name)) → cells_in (reply cs) ≡ cs)
      (places : List ℕ) (same : (cs : List (Cell Name)) → flat_map (λ n. contents (slice_get is.1 n)) places ≡ types_of_reply c.types (Some is.0) (reply cs)) (b : Frame Name) (e : BodyIs name c P agrees row b) (caller call : ℕ) (r : CellReply Name) where
    replied : return_wants reply (given_back c (parameters_at c.types c.variables (i ∷ q) places) b) (i ∷ q) b ≡ Some (to_answer caller call r) → RepliedFrom caller call r
    replied want =
        let m = i ∷ q in
        let paths = parameters_at c.types c.variables m places in
        let a = answered-is name c b reply (given_back c paths b) m caller call r want in
        let has : (z : Option (Taken Name)) → z ≡ Some a.given → IfTaken name c P agrees row paths z → ArePlacedFor name c P agrees row paths a.given.cells = λ z at h. (subst (IfTaken name c P agrees row paths) at h).0 in
        let cells = has (given_back c paths b) a.taken_is (given-is name c P agrees row paths b e) in
        let listed = given-listed name c P agrees row allows i q is.0 is.1 raises is.2.0.0 is.3 places a.given.cells cells in
        record {
          from = m;
          type = is.0;
          at = is.2.0.0;
          stands = caller-kind is.0 caller call a.message (cell-is name c P agrees row m is.0 b.variables a.message e.0 a.at is.2.0.0) a.called;
          listed = subst (λ r. AreListed c.types P (types_of_reply c.types (Some is.0) r) (cells_in r)) a.reply_is
              (subst (λ cs. AreListed c.types P (types_of_reply c.types (Some is.0) (reply a.given.cells)) cs) (sym (in-reply a.given.cells)) (subst (λ ts. AreListed c.types P ts a.given.cells) (same a.given.cells) listed));
        }

  module _ (exceptions : ℕ) (processes : List Process) where
    from : (j : ℕ) → 0 + j ≡ j
    from j = omega arith

    -- what a return answers
    plain-from : (m : Path) (is : IsTypedForm c.types c.variables exceptions processes (Return m)) (caller call : ℕ) (r : CellReply Name) (b : Frame Name) → BodyIs name c P agrees row b → wants name c (Return m) b ≡ Some (to_answer caller call r) → RepliedFrom caller call r
    plain-from [] is caller call r b e want = none-not_some is.1.2.0.0
    plain-from (i ∷ q) is caller call r b e want =
        let h = is.1 in
        let shape = shape-is c.types c.variables (i ∷ q) h.0 (callmessage h.1 is.0) h.2.0.0 h.3 in
        let own = ap (λ (s : Option Shape). returned_places 0 (list_of parameters_of s)) shape in
        replied i q is.0 h values (λ cs. refl) (returned_places 0 (list_of parameters_of (shape_at c.types c.variables (i ∷ q))))
        (λ cs. ap (flat_map (λ n. contents (slice_get h.1 n))) own ∙ returned-contents h.1 0 h.1 (λ j. ap (slice_get h.1) (from j))
        ∙ ap (λ (s : Option Shape). map (λ (p : Parameter). p.content) (filter (λ (p : Parameter). is_returned p.mode) (list_of parameters_of s))) (sym h.3)) b e caller call r want

    raised-from : (m : Path) (x : ℕ) (is : IsTypedForm c.types c.variables exceptions processes (ReturnBy m x)) (caller call : ℕ) (r : CellReply Name) (b : Frame Name) → BodyIs name c P agrees row b → wants name c (ReturnBy m x) b ≡ Some (to_answer caller call r) → RepliedFrom caller call r
    raised-from [] x is caller call r b e want = none-not_some is.1.2.0.0
    raised-from (i ∷ q) x is caller call r b e want =
        let h = is.1 in
        let shape = shape-is c.types c.variables (i ∷ q) h.0 (callmessage h.1 is.0) h.2.0.0 h.3 in
        replied i q is.0 h (Actions.raised x) (λ cs. refl) (kept_for (list_of raises_of (shape_at c.types c.variables (i ∷ q))) x)
        (λ cs. ap (λ (s : Option Shape). flat_map (λ n. contents (slice_get h.1 n)) (kept_for (list_of raises_of s) x)) shape
        ∙ ap (λ (s : Option Shape). flat_map (λ n. contents (slice_get (list_of parameters_of s) n)) (kept_for (list_of raises_of s) x)) (sym h.3)) b e caller call r want

    -- what a form answers
    pub replied-from : (form : Form) (is : IsTypedForm c.types c.variables exceptions processes form) (caller call : ℕ) (r : CellReply Name) (b : Frame Name) → BodyIs name c P agrees row b → wants name c form b ≡ Some (to_answer caller call r) → RepliedFrom caller call r
    replied-from form is caller call r b e want = by (answers-by name c b form caller call r want)
      where
        by : AnsweredBy name c b form → RepliedFrom caller call r
        by (inl h) = plain-from h.0 (subst (IsTypedForm c.types c.variables exceptions processes) h.1 is) caller call r b e (subst (λ form. wants name c form b ≡ Some (to_answer caller call r)) h.1 want)
        by (inr h) = raised-from h.0 h.1 (subst (IsTypedForm c.types c.variables exceptions processes) h.2 is) caller call r b e (subst (λ form. wants name c form b ≡ Some (to_answer caller call r)) h.2 want)
