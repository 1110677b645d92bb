-- Calls whose arguments that come back are targets: what they take has its types, and replies leave values sound.
use Rattle.std.proofs.Common.{◌≡◌, inl, inr, ℕ, List, [], ◌∷◌, Bool, true, false, Some, is_some, ap, ◌∙◌, subst}
use mathlib.Core.Bool.{false≢true}
use Rattle.herm_model.specs.Lists.{IsIn}
use Rattle.herm_model.specs.Paths.{Path, Fact}
use Rattle.herm_model.specs.Types.{Mode, by_in, by_inout, by_out, inport, passes_component}
use Rattle.herm_model.specs.Expressions.{Atom}
use Rattle.herm_model.specs.Calls.{call_parameters, is_returned}
use Rattle.herm_model.specs.Statements.{Call}
use Rattle.herm_model.specs.FactsOfStatements.{set_by_call, kept_by_call}
use Rattle.herm_model.specs.Outcomes.{Outcome}
use Rattle.herm_model.specs.TypedStatements.{AreApart}
use Rattle.herm_model.specs.laws.ArgumentLaws.{AreTargetsOf, types_by}
use Rattle.herm_model.proofs.TypedCalls.{inport-is}
use Rattle.herm_model.proofs.ThereFacts.{travel-full}
use Rattle.herm_journal.specs.Actions.{values, gone, hear}
use Rattle.herm_journal.specs.Actions
use Rattle.herm_journal.specs.Messages.{CellReply}
use Rattle.herm_forms.specs.Frames.{Name, Frame, goes}
use Rattle.herm_forms.specs.Modules.{Module}
use Rattle.herm_forms.specs.Acts.{is_inout, settle_reply, arguments_at}
use Rattle.herm_forms.specs.laws.EdgeLaws.{AreSound, held_after}
use Rattle.herm_forms.specs.OpenCalls.{Calling, lent_paths, IsReply, returned_types, kept_types}
use Rattle.herm_forms.specs.laws.CallLaws.{HaveTypesAt, HasTargets, without_lent}
use Rattle.herm_forms.proofs.called.OpenCalls.{calls-keep}
use Rattle.herm_forms.proofs.called.HeardReplies.{replies-keep}
use Rattle.herm_forms.proofs.called.CallMessages.{TakesArguments}
use Rattle.herm_forms.proofs.called.SetArguments.{IsCalled, set-fit, parameters-of, set-target, kept-among, disconnected-keeps}

-- targets of these types have these types
targets-typed : (c : Module) (xs : List Path) (ts : List ℕ) → AreTargetsOf c.types c.variables xs ts → HaveTypesAt c xs ts
targets-typed c [] [] h = tt
targets-typed c [] (t ∷ ts) h = absurd h
targets-typed c (x ∷ xs) [] h = absurd h
targets-typed c (x ∷ xs) (t ∷ ts) h = (h.0.0.0, h.1, targets-typed c xs ts h.2)

-- targets pass through no component
targets-direct : (c : Module) (xs : List Path) (ts : List ℕ) → AreTargetsOf c.types c.variables xs ts → (x : Path) → IsIn x xs → passes_component c.types c.variables x ≡ false
targets-direct c [] ts h x m = absurd m
targets-direct c (y ∷ xs) [] h x m = absurd h
targets-direct c (y ∷ xs) (t ∷ ts) h x (inl e) = ap (passes_component c.types c.variables) e ∙ h.0.1
targets-direct c (y ∷ xs) (t ∷ ts) h x (inr m) = targets-direct c xs ts h.2 x m

inout-back : (m : Mode) → is_inout m ≡ true → is_returned m ≡ true
inout-back by_in e = e
inout-back by_inout e = e
inout-back by_out e = absurd (false≢true e)

module _ (exceptions : ℕ) (c : Module) (o : Path) (arguments : List Atom) (is : IsCalled exceptions c o arguments) where
  abbrev k : Calling
  k = record { port = o; arguments = arguments }

  -- the arguments of mode inout, and those that a call sets
  pub lent-typed : HaveTypesAt c (arguments_at c is_inout o arguments) (types_by is_inout (call_parameters c.types c.variables o))
  lent-typed = targets-typed c (arguments_at c is_inout o arguments) (types_by is_inout (call_parameters c.types c.variables o)) ((set-fit exceptions c o arguments is).types is_inout inout-back)

  pub lent-apart : AreApart (arguments_at c is_inout o arguments)
  lent-apart = (set-fit exceptions c o arguments is).apart is_inout inout-back

  pub lent-direct : (x : Path) → IsIn x (arguments_at c is_inout o arguments) → passes_component c.types c.variables x ≡ false
  lent-direct = targets-direct c (arguments_at c is_inout o arguments) (types_by is_inout (call_parameters c.types c.variables o)) ((set-fit exceptions c o arguments is).types is_inout inout-back)

  set-targets : AreTargetsOf c.types c.variables (set_by_call c.types c.variables o arguments) (types_by is_returned (call_parameters c.types c.variables o))
  set-targets = (set-fit exceptions c o arguments is).types is_returned (λ m e. e)

  pub set-apart : AreApart (set_by_call c.types c.variables o arguments)
  set-apart = (set-fit exceptions c o arguments is).apart is_returned (λ m e. e)

  pub set-direct : (x : Path) → IsIn x (set_by_call c.types c.variables o arguments) → passes_component c.types c.variables x ≡ false
  set-direct = targets-direct c (set_by_call c.types c.variables o arguments) (types_by is_returned (call_parameters c.types c.variables o)) set-targets

  pub kept-apart : (e : ℕ) → AreApart (kept_by_call c.types c.variables o arguments e)
  kept-apart = (set-fit exceptions c o arguments is).kept_apart

  pub call-targets : HasTargets c k
  call-targets p h = let t = set-target exceptions c o arguments is p h in (t.0, t.1.0.0)

  -- the arguments that a reply sets have the types of its values
  pub returned-typed : HaveTypesAt c (set_by_call c.types c.variables o arguments) (returned_types c k)
  returned-typed = targets-typed c (set_by_call c.types c.variables o arguments) (returned_types c k) set-targets

  pub kept-typed : (e : ℕ) → HaveTypesAt c (kept_by_call c.types c.variables o arguments e) (kept_types c k e)
  kept-typed e = targets-typed c (kept_by_call c.types c.variables o arguments e) _ ((set-fit exceptions c o arguments is).kept_types e)

  abbrev pub takes : TakesArguments c k
  takes =
      let g = is.goes in
      record {
        port = g.1;
        type = is.message;
        parameters = is.parameters;
        raises = is.raises;
        leads = inport-is c.types c.variables o is.message g;
        takes = g.5 ∙ ap (λ fs. Some (inport is.message fs)) (travel-full exceptions c.types g.1 is.message g.2 is.parameters is.raises is.table g.5 is.shape);
        shape = is.shape;
        deep = is.table.shallow is.message (ap is_some is.shape);
        lent = subst (λ params. HaveTypesAt c (lent_paths c k) (types_by is_inout params)) (parameters-of exceptions c o arguments is) lent-typed;
        apart = lent-apart;
      }

  -- what a reply that the open call waits for leaves
  pub replied-keeps : (n call : ℕ) (r : CellReply Name) (has : Fact → Bool) (b b' : Frame Name) (x : Outcome) → IsReply c k r → AreSound c (without_lent c k has) b.variables
      → settle_reply c (Call o arguments) call (hear n r) b ≡ goes x b' → AreSound c (held_after c.types c.variables (Call o arguments) x has) b'.variables
  replied-keeps n call (values cells) has b b' x reply sound at = (replies-keep c k).returned returned-typed set-apart n call cells has b b' x reply sound at
  replied-keeps n call (Actions.raised e cells) has b b' x reply sound at =
      (replies-keep c k).by_exception e call-targets (kept-typed e) (kept-apart e) (kept-among exceptions c o arguments is e) n call cells has b b' x reply sound at
  replied-keeps n call gone has b b' x reply sound at = (calls-keep c k).unanswered call-targets (disconnected-keeps exceptions c o arguments is) n call has b b' x sound at
