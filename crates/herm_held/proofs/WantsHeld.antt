-- What a form sends goes to a port whose outport the process has, and what it answers to a call whose callmessage it has.
use Rattle.std.proofs.Common.{◌≡◌, inl, inr, ℕ, List, [], ◌∷◌, Option, Some, option_and_then, sym, ap, ◌∙◌, subst, slice_get}
use Rattle.std.specs.Prelude.{is_some, IsTrue, Bool}
use Rattle.herm_model.specs.Lists.{IsIn}
use Rattle.herm_model.specs.Paths.{Path, Fact}
use Rattle.herm_model.specs.Types.{type_at}
use Rattle.herm_model.specs.Calls.{led_to}
use Rattle.herm_model.specs.Calls
use Rattle.herm_model.specs.Statements.{Process, Form, Return, ReturnBy}
use Rattle.herm_model.specs.FactsOfStatements.{needs}
use Rattle.herm_model.specs.Values.{kind_of, a_callmessage, an_outport, Cell, cell, Parts, read_at}
use Rattle.herm_model.proofs.Options.{none-not_some, some-injective, chain-some}
use Rattle.herm_journal.specs.Actions.{values, new_port, new_process, to_put, to_take, to_answer}
use Rattle.herm_journal.specs.Actions
use Rattle.herm_journal.specs.Messages.{CellReply, IsMessage, IsReplyTo}
use Rattle.herm_journal.specs.PartTypes.{each}
use Rattle.herm_forms.specs.Frames.{Name, Frame, Taken}
use Rattle.herm_forms.specs.Forms.{outport_number}
use Rattle.herm_forms.specs.Exchanges.{outport_at}
use Rattle.herm_forms.specs.ReturnForms.{caller_of, return_wants}
use Rattle.herm_forms.specs.Modules.{Module}
use Rattle.herm_forms.specs.Acts.{given_back, given_at, given_by, wants}
use Rattle.herm_forms.specs.laws.EdgeLaws.{AreSound}
use Rattle.herm_forms.specs.laws.TypedForms.{IsTypedIn}
use Rattle.herm_forms.proofs.forms.ToldFacts.{there-read}
use Rattle.herm_forms.proofs.called.GivenReplies.{plain-reply, raised-reply}
use Rattle.herm_forms.proofs.typed.WantKinds.{PutBy, puts-by, AnsweredBy, answers-by, answered-is}
use Rattle.herm_forms.proofs.typed.ActionForms.{send-gives}
use Rattle.herm_forms.proofs.typed.CallForms.{call-gives, some-raised}
use Rattle.herm_system.specs.Kinds.{typed_in}
use Rattle.herm_held.proofs.TypedReads.{type-read}

-- a message of the port to which an outport of the variables leads
pub record SendsBy (c : Module) (ps : Parts Name) (to : ℕ) (m : Cell Name) : Type 0 where
  pub type : ℕ
  pub port : ℕ
  pub held : IsIn (type, an_outport to) (typed_in c.types (each c.variables) ps)
  pub leads : option_and_then led_to (slice_get c.types type) ≡ Some port
  pub is_message : IsMessage c.types port m

-- a reply to the call of a callmessage of the variables
pub record RepliesFrom (c : Module) (ps : Parts Name) (caller call : ℕ) (r : CellReply Name) : Type 0 where
  pub type : ℕ
  pub held : IsIn (type, a_callmessage caller call) (typed_in c.types (each c.variables) ps)
  pub is_reply : IsReplyTo c.types (Some type) r

outport-kind : (d : Cell Name) (n : ℕ) → outport_number d ≡ Some n → kind_of d ≡ an_outport n
outport-kind (cell m (an_outport port) qs) n e = ap an_outport (some-injective e)
outport-kind (cell m k qs) n e = none-not_some e

caller-kind : (d : Cell Name) (caller call : ℕ) → caller_of d ≡ Some (caller, call) → kind_of d ≡ a_callmessage caller call
caller-kind (cell m (a_callmessage p k) qs) caller call e = ap (λ (x : ℕ × ℕ). a_callmessage x.0 x.1) (some-injective e)
caller-kind (cell m k qs) caller call e = none-not_some e

module _ (exceptions : ℕ) (processes : List Process) (c : Module) (name : Name → Name) where
  pub by-outport : (o : Path) (has : Fact → Bool) (b : Frame Name) → AreSound c has b.variables → (to : ℕ) (m : Cell Name) → outport_at o b ≡ Some to
      → (t : ℕ) × (Calls.inport_at c.types c.variables o ≡ Some t) × IsMessage c.types t m → SendsBy c b.variables to m
  by-outport o has b sound to m at given =
      let d = chain-some outport_number (read_at o b.variables) to at in
      let r = type-read Name c.types c.variables o b.variables d.0 sound.types d.1 in
      record {
        type = r.type;
        port = given.0;
        held = subst (λ k. IsIn (r.type, k) (typed_in c.types (each c.variables) b.variables)) (outport-kind d.0 to d.2) r.typed;
        leads = sym (ap (λ t. option_and_then led_to (option_and_then (slice_get c.types) t)) r.at) ∙ given.1;
        is_message = given.2;
      }

  pub sends-by : (form : Form) → IsTypedIn exceptions processes c form → (has : Fact → Bool) (b : Frame Name) → AreSound c has b.variables → ((f : Fact) → IsIn f (needs c.types c.variables form) → IsTrue (has f)) → (to : ℕ) (m : Cell Name)
      → wants name c form b ≡ Some (to_put to m) → SendsBy c b.variables to m
  sends-by form is has b sound found to m want = by (puts-by name c b form to m want)
    where
      Gives : Form → Path → Type 0
      Gives form o = IsTypedIn exceptions processes c form → ((f : Fact) → IsIn f (needs c.types c.variables form) → IsTrue (has f)) → wants name c form b ≡ Some (to_put to m)
          → (t : ℕ) × (Calls.inport_at c.types c.variables o ≡ Some t) × IsMessage c.types t m

      given : (o : Path) → Gives form o → (t : ℕ) × (Calls.inport_at c.types c.variables o ≡ Some t) × IsMessage c.types t m
      given o gives = gives is found want

      by : PutBy name c b form to → SendsBy c b.variables to m
      by (inl h) = by-outport h.1 has b sound to m h.3 (given h.1 (subst (λ form. Gives form h.1) (sym h.2) (λ is found want. send-gives exceptions processes c h.0 h.1 is name has b to m sound found want)))
      by (inr h) = by-outport h.0 has b sound to m h.3 (given h.0 (subst (λ form. Gives form h.0) (sym h.2) (λ is found want. call-gives exceptions processes c h.0 h.1 is name has b to m sound found want)))

  -- the callmessage that is returned
  from-callmessage : (i : ℕ) (q : List ℕ) (has : Fact → Bool) (b : Frame Name) → AreSound c has b.variables → (t : ℕ) → type_at c.types c.variables (i ∷ q) ≡ Some t → (reply : List (Cell Name) → CellReply Name) (taken : Option (Taken Name)) (caller call : ℕ) (r : CellReply Name)
      → return_wants reply taken (i ∷ q) b ≡ Some (to_answer caller call r) → IsReplyTo c.types (Some t) r → RepliesFrom c b.variables caller call r
  from-callmessage i q has b sound t type reply taken caller call r want is =
      let a = answered-is name c b reply taken (i ∷ q) caller call r want in
      let read = type-read Name c.types c.variables (i ∷ q) b.variables a.message sound.types (there-read Name q i b.variables a.message a.at) in
      record {
        type = read.type;
        held = subst (λ k. IsIn (read.type, k) (typed_in c.types (each c.variables) b.variables)) (caller-kind a.message caller call a.called) read.typed;
        is_reply = subst (λ o. IsReplyTo c.types o r) (sym type ∙ read.at) is;
      }

  abbrev Replies : Form → Type 0
  Replies form = IsTypedIn exceptions processes c form → (has : Fact → Bool) (b : Frame Name) → AreSound c has b.variables → ((f : Fact) → IsIn f (needs c.types c.variables form) → IsTrue (has f)) → (caller call : ℕ) (r : CellReply Name)
      → wants name c form b ≡ Some (to_answer caller call r) → RepliesFrom c b.variables caller call r

  plain-from : (m : Path) → Replies (Return m)
  plain-from [] is has b sound found caller call r want = none-not_some is.typed.1.2.0.0
  plain-from (i ∷ q) is has b sound found caller call r want =
      let h = is.typed.1 in
      from-callmessage i q has b sound h.0 h.2.0.0 values (given_back c (given_at c (i ∷ q)) b) caller call r want
      (plain-reply c i q h.0 h.1 is.typed.0 h.2.0.0 h.3 (is.table.shallow h.0 (ap is_some h.3)) name has b sound caller call r found want)

  raised-from : (m : Path) (e : ℕ) → Replies (ReturnBy m e)
  raised-from [] e is has b sound found caller call r want = none-not_some is.typed.1.2.0.0
  raised-from (i ∷ q) e is has b sound found caller call r want =
      let h = is.typed.1 in
      from-callmessage i q has b sound h.0 h.2.0.0 (Actions.raised e) (given_back c (given_by c (i ∷ q) e) b) caller call r want
      (raised-reply c i q h.0 h.1 is.typed.0 h.2.0.0 h.3 (is.table.shallow h.0 (ap is_some h.3)) name has b sound caller call r e (some-raised e is.typed.0 is.typed.2) found want)

  pub replies-from : (form : Form) → Replies form
  replies-from form is has b sound found caller call r want = by (answers-by name c b form caller call r want) is has b sound found caller call r want
    where
      by : AnsweredBy name c b form → Replies form
      by (inl h) = subst Replies (sym h.1) (plain-from h.0)
      by (inr h) = subst Replies (sym h.2) (raised-from h.0 h.1)
