-- A call with the values of its parameters of mode in: its callmessage is composed, and is a message of the port; what is left is sound.
use Rattle.std.proofs.Common.{◌≡◌, ◌⊎◌, inl, inr, ℕ, ◌+◌, List, ◌++◌, map, flat_map, Bool, false, Option, Some, option_map, option_and_then, refl, sym, ap, ◌∙◌, subst}
use Rattle.std.specs.Prelude.{IsTrue, ⊤}
use Rattle.herm_model.specs.Lists.{IsIn, map_or}
use Rattle.herm_model.specs.Paths.{Path, Fact}
use Rattle.herm_model.specs.Types.{Shape, Parameter}
use Rattle.herm_model.specs.Expressions.{Atom}
use Rattle.herm_model.specs.Calls.{inport_at, call_parameters, is_given}
use Rattle.herm_model.specs.Statements.{Call}
use Rattle.herm_model.specs.FactsOfStatements.{needs, room_for, present, full, full_of_each, given, set_by_call}
use Rattle.herm_model.specs.Values.{a_callmessage, cell, Parts}
use Rattle.herm_model.specs.CellNames.{copy_in, count_in}
use Rattle.herm_model.specs.Typed.{whole, exactly, parameter_content, unfit, layout, is_bounded, Fits, IsFull}
use Rattle.herm_model.specs.laws.ArgumentLaws.{types_by}
use Rattle.herm_model.proofs.Lists.{in-flat_map, in-flat_map_from, in-append_right}
use Rattle.herm_journal.specs.Messages.{IsMessage}
use Rattle.herm_forms.specs.Frames.{Name, Frame, drop, Taken}
use Rattle.herm_forms.specs.Callmessages.{Composed, with_message, compose, assemble}
use Rattle.herm_forms.specs.Excess.{excess_over_full}
use Rattle.herm_forms.specs.Modules.{Module}
use Rattle.herm_forms.specs.Acts.{is_inout, arguments_at}
use Rattle.herm_forms.specs.laws.EdgeLaws.{AreSound}
use Rattle.herm_forms.specs.laws.CallLaws.{without_lent}
use Rattle.herm_forms.proofs.called.CallMessages.{TakesArguments, given-mode, full-message}
use Rattle.herm_forms.proofs.called.GivenInputs.{modes_of, InputsAre, assembled}
use Rattle.herm_forms.proofs.called.OpenCalls.{arguments-split, composed-left, left-sound}
use Rattle.herm_forms.proofs.called.SetArguments.{IsCalled, parameters-of}
use Rattle.herm_forms.proofs.called.TakenApart.{apart-full}
use Rattle.herm_forms.proofs.forms.ToldFacts.{in-closed}
use Rattle.herm_forms.proofs.typed.CalledForms.{lent-typed, lent-apart, lent-direct, takes}
use Rattle.herm_forms.proofs.typed.TakesThere.{takes-there, fit-there}

module _ (exceptions : ℕ) (c : Module) (o : Path) (arguments : List Atom) (is : IsCalled exceptions c o arguments) (name : Name → Name) (inputs : Parts ⊤) (b : Frame Name) where
  abbrev pub moved : List Path
  moved = arguments_at c is_inout o arguments

  abbrev pub lost : List Path
  lost = flat_map (λ p. excess_over_full c p b) moved

  -- the callmessage with these values
  abbrev pub composed_with : Option (Composed Name)
  composed_with = compose name (modes_of (call_parameters c.types c.variables o)) inputs lost moved b

  pub record Composes (has : Fact → Bool) : Type 0 where
    pub composed : Composed Name
    pub made : composed_with ≡ Some composed
    pub port : ℕ
    pub leads : inport_at c.types c.variables o ≡ Some port
    pub is_message : IsMessage c.types port composed.message
    pub left : AreSound c (without_lent c (record { port = o; arguments = arguments }) has) composed.frame.variables

  module _ (has : Fact → Bool) (sound : AreSound c has b.variables) (needed : (f : Fact) → IsIn f (needs c.types c.variables (Call o arguments)) → IsTrue (has f)) where
    among : (x : Path) → IsIn x moved → IsIn x (given c.types c.variables o arguments)
    among x h = by (arguments-split is_inout is_given is_given given-mode (call_parameters c.types c.variables o) arguments x h)
      where
        by : IsIn x (given c.types c.variables o arguments) ⊎ IsIn x (given c.types c.variables o arguments) → IsIn x (given c.types c.variables o arguments)
        by (inl h) = h
        by (inr h) = h

    -- what moves is full
    held : (f : Fact) → IsIn f (full_of_each c.types c.variables moved) → IsTrue (has f)
    held f h =
        let rooms = flat_map (room_for c.types c.variables) (set_by_call c.types c.variables o arguments) in
        let there = present c.types c.variables o in
        let fulls = full_of_each c.types c.variables (given c.types c.variables o arguments) in
        let x = in-flat_map_from (full c.types c.variables) f moved h in
        needed f (in-closed c.types c.variables (rooms ++ there ++ fulls) f (in-append_right f (rooms ++ there) fulls (in-flat_map (full c.types c.variables) x.0 f (given c.types c.variables o arguments) (among x.0 x.1) x.2)))

    message-full : (n : Name) (caller call : ℕ) (ps : Parts Name) → Fits c.types (exactly (map (λ (p : Parameter). parameter_content whole p.mode p.content) is.parameters)) ps → IsFull c.types is.message (cell n (a_callmessage caller call) ps)
    message-full n caller call ps fits =
        subst (λ (s : Option Shape). Fits c.types (map_or unfit (λ s. layout whole s (a_callmessage caller call)) s) ps × IsTrue (map_or false (λ s. is_bounded s ps) s)) (sym is.shape) (fits, refl)

    pub composes : InputsAre (IsFull c.types) (call_parameters c.types c.variables o) inputs → Composes has
    composes fit =
        let params = call_parameters c.types c.variables o in
        let cut : Frame Name = record b { serial = b.serial + count_in inputs } in
        let copy = λ (s : ℕ). name (b.number, s) in
        let typed = lent-typed exceptions c o arguments is in
        let apart = lent-apart exceptions c o arguments is in
        let t = takes-there moved apart (drop lost cut) (fit-there c has b sound moved (types_by is_inout params) typed apart (lent-direct exceptions c o arguments is) held cut refl) in
        let whole' = apart-full c has b sound moved (types_by is_inout params) typed apart held cut refl t.0 t.1 in
        let ps = assembled c.types copy params inputs b.serial t.0.cells fit whole' in
        let x = with_message name t.0.frame ps.parts in
        let made : composed_with ≡ Some x = ap (option_and_then (λ (taken : Taken Name). option_map (with_message name taken.frame) (assemble (modes_of params) (copy_in copy b.serial inputs) taken.cells))) t.1 ∙ ap (option_map (with_message name t.0.frame)) ps.is in
        let to : TakesArguments c (record { port = o; arguments = arguments }) = takes exceptions c o arguments is in
        record {
          composed = x;
          made = made;
          port = to.port;
          leads = to.leads;
          is_message = full-message c.types is.message to.port to.takes to.deep x.message (message-full (name (t.0.frame.number, t.0.frame.serial)) t.0.frame.number t.0.frame.calls ps.parts (subst (λ params. Fits c.types (exactly (map (λ (p : Parameter). parameter_content whole p.mode p.content) params)) ps.parts) (parameters-of exceptions c o arguments is) ps.fits));
          left = left-sound c (record { port = o; arguments = arguments }) has b sound x (composed-left name (modes_of params) lost moved b (Some inputs) x made);
        }
