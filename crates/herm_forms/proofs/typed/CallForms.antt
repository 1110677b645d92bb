-- Typed calls and returns: values stay sound through the answers, calls are messages, and returns give replies.
use Rattle.std.proofs.Common.{◌≡◌, inl, inr, ℕ, List, [], ◌∷◌, map, Bool, true, false, ◌||◌, Option, Some, None, is_some, refl, sym, ap, ◌∙◌, subst}
use Rattle.std.specs.Prelude.{nat_eq, IsTrue}
use Rattle.herm_journal.proofs.Rising.{same-true}
use mathlib.Core.Bool.{false≢true}
use Rattle.herm_model.specs.Lists.{IsIn, any_pass}
use Rattle.herm_model.specs.Paths.{Path}
use Rattle.herm_model.specs.Types.{Raised, type_at}
use Rattle.herm_model.specs.Expressions.{Atom}
use Rattle.herm_model.specs.Statements.{Form, Call, Return, ReturnBy, Process}
use Rattle.herm_model.specs.FactsOfStatements.{set_by_call, kept_by_call}
use Rattle.herm_model.specs.TypedStatements.{IsReturned}
use Rattle.herm_model.proofs.Options.{none-not_some}
use Rattle.herm_journal.specs.Actions.{put}
use Rattle.herm_forms.specs.Frames.{Name, Completion, goes, stays, if_there}
use Rattle.herm_forms.specs.Modules.{Module}
use Rattle.herm_forms.specs.Callmessages.{Composed}
use Rattle.herm_forms.specs.Acts.{composed}
use Rattle.herm_forms.specs.OpenCalls.{Calling, call_type, returned_types, kept_types}
use Rattle.herm_forms.specs.laws.CallLaws.{CallsAreMessages, HaveTypesAt, AreFullInputs, IsCallAt, GivesReply}
use Rattle.herm_forms.specs.laws.TypedForms.{IsTypedIn}
use Rattle.herm_forms.specs.laws.FormsSound.{AnswerKeeps, OpenCallsKeepSound, GivesMessage}
use Rattle.herm_forms.proofs.forms.PlainForms.{never}
use Rattle.herm_forms.proofs.called.OpenCalls.{calls-keep}
use Rattle.herm_forms.proofs.called.CallMessages.{calls-messages}
use Rattle.herm_forms.proofs.called.GivenReplies.{returns-give}
use Rattle.herm_forms.proofs.typed.TypedAtoms.{typed-atoms}
use Rattle.herm_forms.proofs.called.SetArguments.{IsCalled, typed-called, parameters-of, disconnected-keeps}
use Rattle.herm_forms.proofs.typed.CalledForms.{takes, call-targets, replied-keeps}
use Rattle.herm_forms.proofs.typed.CalledForms as forms

abbrev is_staying : Completion Name → Bool
is_staying (stays b) = true
is_staying _ = false

-- an exception of the list is found in it
pub some-raised : (e : ℕ) (raises : List Raised) → IsIn e (map (λ (r : Raised). r.exception) raises) → IsTrue (any_pass (λ (r : Raised). nat_eq r.exception e) raises)
some-raised e [] h = absurd h
some-raised e (r ∷ raises) (inl is) = ap (λ t. t || any_pass (λ (r : Raised). nat_eq r.exception e) raises) (ap (nat_eq r.exception) is ∙ same-true r.exception)
some-raised e (r ∷ raises) (inr h) = by (nat_eq r.exception e) (some-raised e raises h)
  where
    by : (t : Bool) → IsTrue (any_pass (λ (r : Raised). nat_eq r.exception e) raises) → IsTrue (t || any_pass (λ (r : Raised). nat_eq r.exception e) raises)
    by true more = refl
    by false more = more

module _ (exceptions : ℕ) (processes : List Process) (c : Module) where
  abbrev called : (o : Path) (arguments : List Atom) → IsTypedIn exceptions processes c (Call o arguments) → IsCalled exceptions c o arguments
  called o arguments is = typed-called exceptions processes c o arguments is

  pub call-gives : (o : Path) (arguments : List Atom) → IsTypedIn exceptions processes c (Call o arguments) → GivesMessage exceptions processes c o (Call o arguments)
  call-gives o arguments is name has b n m sound needed wants =
      let t = takes exceptions c o arguments (called o arguments is) in
      let inputs = (typed-atoms exceptions processes c).called o arguments is has b.variables sound needed in
      (t.port, t.leads, calls-messages c (record { port = o; arguments = arguments }) t name has b n m sound (subst (λ params. AreFullInputs c b.variables params arguments) (parameters-of exceptions c o arguments (called o arguments is)) inputs.0) needed wants)

  pub call-keeps : (o : Path) (arguments : List Atom) → AnswerKeeps exceptions processes c (Call o arguments)
  call-keeps to arguments is acts name place (put (Some n) m) has b b' o sound needed comes at = by (composed name c to arguments b) at
    where
      by : {A : Type 0} (x : Option (Composed Name)) → if_there (λ (x : Composed Name). stays (record x.frame { call = Some x.call })) x ≡ goes o b' → A
      by None at = never o b' at
      by (Some x) at = absurd (false≢true (sym (ap is_staying at)))
  call-keeps to arguments is acts name place (put None m) has b b' o sound needed comes at =
      (calls-keep c (record { port = to; arguments = arguments })).came_back (call-targets exceptions c to arguments (called to arguments is)) (disconnected-keeps exceptions c to arguments (called to arguments is)) name place m has b b' o sound at
  call-keeps to arguments is acts name place action has b b' o sound needed comes at = never o b' at

  module _ (k : Calling) where
    -- the arguments that a reply sets have the types of its values
    pub returned-typed : IsTypedIn exceptions processes c (Call k.port k.arguments) → HaveTypesAt c (set_by_call c.types c.variables k.port k.arguments) (returned_types c k)
    returned-typed is = forms.returned-typed exceptions c k.port k.arguments (called k.port k.arguments is)

    pub kept-typed : IsTypedIn exceptions processes c (Call k.port k.arguments) → (e : ℕ) → HaveTypesAt c (kept_by_call c.types c.variables k.port k.arguments e) (kept_types c k e)
    kept-typed is e = forms.kept-typed exceptions c k.port k.arguments (called k.port k.arguments is) e

  pub open-calls : (k : Calling) → OpenCallsKeepSound exceptions processes c k
  open-calls k = record { placed = (calls-keep c k).placed; replied = λ is. replied-keeps exceptions c k.port k.arguments (called k.port k.arguments is) }

  abbrev call-at : (form : Form) (m : Path) (raises : List Raised) → IsTypedIn exceptions processes c form → IsReturned c.types c.variables m raises → (d : Module) (k : Calling) → d.types ≡ c.types
      → call_type d k ≡ type_at c.types c.variables m → IsCallAt c d k m
  call-at form m raises is h d k same type = record {
    types = same;
    type = h.0;
    parameters = h.1;
    raises = raises;
    at = h.2.0.0;
    shape = h.3;
    deep = is.table.shallow h.0 (ap is_some h.3);
    takes = type ∙ h.2.0.0;
  }

  pub return-gives : (m : Path) → IsTypedIn exceptions processes c (Return m) → (d : Module) (k : Calling) → d.types ≡ c.types → call_type d k ≡ type_at c.types c.variables m → GivesReply c d k (Return m)
  return-gives [] is d k same type = none-not_some is.typed.1.2.0.0
  return-gives (i ∷ q) is d k same type = (returns-give c d k).plain i q (call-at (Return (i ∷ q)) (i ∷ q) is.typed.0 is is.typed.1 d k same type)

  pub return-by-gives : (m : Path) (e : ℕ) → IsTypedIn exceptions processes c (ReturnBy m e) → (d : Module) (k : Calling) → d.types ≡ c.types → call_type d k ≡ type_at c.types c.variables m → GivesReply c d k (ReturnBy m e)
  return-by-gives [] e is d k same type = none-not_some is.typed.1.2.0.0
  return-by-gives (i ∷ q) e is d k same type =
      (returns-give c d k).by_exception i q e (call-at (ReturnBy (i ∷ q) e) (i ∷ q) is.typed.0 is is.typed.1 d k same type) (some-raised e is.typed.0 is.typed.2)

pub calls-are-messages : CallsAreMessages
calls-are-messages exceptions processes c k is name has b n message sound needed want = call-gives exceptions processes c k.port k.arguments is name has b n message sound needed want
