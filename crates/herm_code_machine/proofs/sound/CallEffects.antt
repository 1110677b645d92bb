-- A call of good code: its callmessage is composed of the values on the stack, and what each answer leaves, and the reply, is as the label
-- behind it says.
use Rattle.std.proofs.Common.{◌≡◌, ◌⊎◌, inl, inr, ℕ, List, [], ◌∷◌, ◌++◌, map, flat_map, reverse, drop, length, Bool, Option, Some, None, option_and_then, option_map, refl, sym, ap, ap₂, subst, ◌∙◌}
use Rattle.std.proofs.lemmas.List.{length-reverse}
use Rattle.std.proofs.Math.Seq.{drop-append_seam}
use Rattle.std.specs.Prelude.{slice_get, IsTrue}
use Rattle.herm_model.specs.Calls.{inport_at, call_parameters}
use Rattle.herm_model.specs.ControlPaths.{held_after_edge}
use Rattle.herm_model.specs.Expressions.{Atom, Literal}
use Rattle.herm_model.specs.FactsOfStatements.{Row, closed, needs, present, room_for, full_of_each, given, set_by_call}
use Rattle.herm_model.specs.Lists.{IsIn}
use Rattle.herm_model.specs.Outcomes.{Outcome, ok, raised, disconnected, exceptions, outcomes}
use Rattle.herm_model.specs.Paths.{Path, Fact}
use Rattle.herm_model.specs.Statements.{Form, Differ}
use Rattle.herm_model.specs.Targets.{end}
use Rattle.herm_model.specs.Typed.{IsFull}
use Rattle.herm_model.specs.TypedExpressions.{IsLiteralOf}
use Rattle.herm_model.specs.Types.{Parameter, Raised}
use Rattle.herm_model.specs.Values.{Cell, Value}
use Rattle.herm_model.specs.WellFormedTables.{IsType, IsWellFormedTable}
use Rattle.herm_model.proofs.FactTests.{IsIn-listed}
use Rattle.herm_model.proofs.Lists.{in-append_cases, in-append_left, in-append_right, in-map_from}
use Rattle.herm_journal.specs.Actions.{to_put, put, hear}
use Rattle.herm_journal.specs.Messages.{CellWant, CellReply, AreFull, IsMessage}
use Rattle.herm_forms.specs.Acts.{is_inout, is_out, settle_reply, arguments_at}
use Rattle.herm_forms.specs.Callmessages as callmessages
use Rattle.herm_forms.specs.Callmessages.{Composed, compose}
use Rattle.herm_forms.specs.Excess.{excess_over_full}
use Rattle.herm_forms.specs.Exchanges.{outport_at}
use Rattle.herm_forms.specs.Frames
use Rattle.herm_forms.specs.Frames.{Name, Loop, Frame, Completion, goes, stays, if_there, finalise_at_once}
use Rattle.herm_forms.specs.OpenCalls.{Calling, IsReply}
use Rattle.herm_forms.specs.laws.CallLaws.{without_lent}
use Rattle.herm_forms.specs.laws.EdgeLaws.{AreSound, held_after}
use Rattle.herm_forms.specs.laws.TypedForms.{IsTypedIn}
use Rattle.herm_forms.proofs.Counting.{recount}
use Rattle.herm_forms.proofs.KeptBodies.{IsKept, All, went, all-settle_reply, is-from, from-compose, is-drop, is-end_at_once}
use Rattle.herm_forms.proofs.called.OpenCalls.{disconnected-sound}
use Rattle.herm_forms.proofs.called.Returns.{ended-variables}
use Rattle.herm_forms.proofs.called.SetArguments.{IsCalled, parameters-of, disconnected-keeps}
use Rattle.herm_forms.proofs.forms.PlainForms.{same_facts}
use Rattle.herm_forms.proofs.forms.ToldFacts.{in-closed}
use Rattle.herm_forms.proofs.typed.AnswersTaken.{raised-outcome, reply-taken}
use Rattle.herm_forms.proofs.typed.CalledForms.{call-targets, replied-keeps}
use Rattle.herm_forms.proofs.typed.ComposedCalls.{composed_with, Composes, composes}
use Rattle.herm_forms.proofs.typed.WantsThere.{outport-there}
use Rattle.herm_instructions.specs.Effects.{atom_of}
use Rattle.herm_instructions.specs.Images.{CodeModule, Image}
use Rattle.herm_instructions.specs.Instructions.{Argument, Instruction, Call}
use Rattle.herm_instructions.specs.Labels.{Label}
use Rattle.herm_instructions.specs.Operands.{type_of_literal, input_types, count_inputs}
use Rattle.herm_instructions.specs.TypedInstructions.{AreArgumentsOf}
use Rattle.herm_instructions.proofs.FactsBehind.{facts-held_behind}
use Rattle.herm_code_machine.specs.CodeActions.{inouts, outs, mode_of, composed_of, code_wants, code_settles, code_hears}
use Rattle.herm_code_machine.specs.CodeLocal.{AreSlots}
use Rattle.herm_code_machine.specs.ReadyCode.{ReadyCode}
use Rattle.herm_code_machine.specs.Stacks.{Popped, pop, parts_from, leaving, with_popped}
use Rattle.herm_code_machine.proofs.RunsKeep.{AllOf}
use Rattle.herm_code_machine.proofs.sound.ActionEffects.{loops-kept, went-taken}
use Rattle.herm_code_machine.proofs.sound.AtLabels.{has_of, numbers, GoesWell, has_behind, holds-behind, stack-for, slots-for}
use Rattle.herm_code_machine.proofs.sound.Between.{AreAlone, IsAtRest, rest-kept}
use Rattle.herm_code_machine.proofs.sound.CallArguments.{arguments-set, modes-same, inouts-same, outs-same, inputs-many, values-are, full-at, hears-same}
use Rattle.herm_code_machine.proofs.sound.EachEffect.{ready, processes, Found}
use Rattle.herm_code_machine.proofs.sound.KeyEffects.{Taken, pops}

module _ (x : ℕ) (image : Image) (formed : IsWellFormedTable x image.types) (ls : (l : Literal) → IsIn l image.constants → IsLiteralOf image.types l (type_of_literal l))
    (m : CodeModule) (known : (t : ℕ) → IsIn t m.variables → IsType image.types t) (labels : CodeModule → ℕ → Option Label) (name : Name → Name) (W : Outcome → Type 0)
    (l : Label) (o : Path) (arguments : List Argument) (keeps : List Raised) (finds : Found x image formed ls m known labels name W (Call o arguments keeps) l) where
  abbrev c : ReadyCode
  c = ready x image formed ls m known labels name W

  abbrev i : Instruction
  i = Call o arguments keeps

  abbrev pub atoms : List Atom
  atoms = map atom_of arguments

  abbrev pub form : Form
  form = Form.Call o atoms

  abbrev pub calling : Calling
  calling = record { port = o; arguments = atoms }

  abbrev pub params : List Parameter
  params = call_parameters image.types m.variables o

  abbrev pub called : IsCalled x (c).scope o atoms
  called =
      let h = finds.typed in
      record { table = formed; message = h.0; parameters = h.1; raises = h.2; goes = h.3; shape = h.4; set = arguments-set image.types m.variables h.1 arguments h.5; apart = h.6 }

  pub are : AreArgumentsOf image.types m.variables params arguments
  are = subst (λ ps. AreArgumentsOf image.types m.variables ps arguments) (sym (parameters-of x (c).scope o atoms called)) finds.typed.5

  pub needed : (f : Fact) → IsIn f (needs image.types m.variables form) → IsTrue (has_of l f)
  needed f h = IsIn-listed f l.facts (finds.needs f h)

  ways : (q : Outcome) → IsIn q (outcomes image.types m.variables form) → W q
  ways q h = by (in-append_cases q (ok ∷ []) (map raised (exceptions image.types m.variables form)) h)
    where
      by : IsIn q (ok ∷ []) ⊎ IsIn q (map raised (exceptions image.types m.variables form)) → W q
      by (inl (inl e)) = subst W (sym e) (finds.on ok refl)
      by (inl (inr h)) = absurd h
      by (inr h) = let r = in-map_from raised q (exceptions image.types m.variables form) h in subst W (sym r.2) (finds.raises r.0 r.1)

  -- the values on the stack, and what is left
  pub record Inputs (stack : List Value) : Type 0 where
    pub values : List Value
    pub rest : List Value
    pub popped : pop (count_inputs arguments) stack ≡ Some (record { values = values; rest = rest })
    pub whole : AreFull image.types (input_types params) values
    pub left : AreFull image.types (drop (count_inputs arguments) l.stack) rest

  pub inputs-there : (stack : List Value) → AreFull image.types l.stack stack → Inputs stack
  inputs-there stack h =
      let ts = input_types params in
      let s = finds.stack in
      let many = inputs-many image.types m.variables params arguments are in
      let r = pops image.types ts s.0 stack (subst (λ ts. AreFull image.types ts stack) s.1 h) in
      record {
        values = r.values;
        rest = r.rest;
        popped = ap (λ n. pop n stack) many ∙ r.is;
        whole = r.whole;
        left = subst (λ ts. AreFull image.types ts r.rest) (sym (ap₂ drop (many ∙ sym (length-reverse ts)) s.1 ∙ drop-append_seam (reverse ts) s.0)) r.left;
      }

  module _ (b : Frame Name) (sound : AreSound (c).scope (has_of l) b.variables) (values : List Value) (whole' : AreFull image.types (input_types params) values) where
    pub call-composes : Composes x (c).scope o atoms called name (parts_from values) b (has_of l)
    call-composes = composes x (c).scope o atoms called name (parts_from values) b (has_of l) sound needed (values-are (IsFull image.types) params values (full-at image.types (input_types params) values whole'))

    pub composed-same : composed_of name c arguments values b ≡ composed_with x (c).scope o atoms called name (parts_from values) b
    composed-same =
        ap₂ (λ modes moved. compose name modes (parts_from values) (flat_map (λ p. excess_over_full (c).scope p b) moved) moved b) (modes-same image.types m.variables params arguments are) (inouts-same image.types m.variables params arguments are)

    pub composed-is : composed_of name c arguments values b ≡ Some (call-composes).composed
    composed-is = composed-same ∙ (call-composes).made

    -- what is so of a frame in any of its parts that composing leaves
    pub composed-keeps : (Is : Frame Name → Type 0) → IsKept Is → Is b → Is ((call-composes).composed).frame
    composed-keeps Is kept is =
        is-from name Is Is kept (call-composes).composed
        (from-compose name Is Is kept (map (λ (p : Parameter). p.mode) params) (parts_from values) (flat_map (λ p. excess_over_full (c).scope p b) (arguments_at (c).scope is_inout o atoms)) (arguments_at (c).scope is_inout o atoms) b (call-composes).composed is (call-composes).made)

  -- its want
  pub record CallWants (stack : List Value) (b : Frame Name) : Type 0 where
    pub port : ℕ
    pub message : Cell Name
    pub wanted : code_wants name c i stack b ≡ Some (to_put port message)
    pub outport : outport_at o b ≡ Some port
    pub type : ℕ
    pub leads : inport_at image.types m.variables o ≡ Some type
    pub is_message : IsMessage image.types type message

  pub call-wants : (stack : List Value) (b : Frame Name) → AreSound (c).scope (has_of l) b.variables → AreFull image.types l.stack stack → CallWants stack b
  call-wants stack b sound full' =
      let s = inputs-there stack full' in
      let x' = call-composes b sound s.values s.whole in
      let to = (called).goes in
      let any : IsTypedIn x (processes x image formed ls m known labels name W) (c).scope Form.Leave = record { table = formed; variables = known; typed = tt } in
      let rooms = flat_map (room_for image.types m.variables) (set_by_call image.types m.variables o atoms) in
      let there = present image.types m.variables o in
      let fulls = full_of_each image.types m.variables (given image.types m.variables o atoms) in
      let n = outport-there x (processes x image formed ls m known labels name W) (c).scope Form.Leave any (has_of l) b sound o to.0 to.1 to.3 to.4
      (λ f h. needed f (in-closed image.types m.variables (rooms ++ there ++ fulls) f (in-append_left f (rooms ++ there) fulls (in-append_right f rooms there h)))) in
      record {
        port = n.0;
        message = (x'.composed).message;
        wanted = ap (λ p. callmessages.call_wants (option_and_then (λ (p : Popped). composed_of name c arguments p.values b) p) o b) s.popped
            ∙ ap (λ x. callmessages.call_wants x o b) (composed-is b sound s.values s.whole)
            ∙ ap (option_and_then (λ port. option_map (λ (c : Composed Name). to_put port c.message) (Some x'.composed))) n.1;
        outport = n.1;
        type = x'.port;
        leads = x'.leads;
        is_message = x'.is_message;
      }

  -- a callmessage that was placed leaves the call open, without what it lends and without the values on the stack
  pub record Placed (stack : List Value) (b : Frame Name) (at n : ℕ) (message : Cell Name) : Type 0 where
    pub rest : List Value
    pub number : ℕ
    pub frame : Frame Name
    pub completes : code_settles name c i stack at (put (Some n) message) b ≡ leaving rest (stays frame)
    pub sound : AreSound (c).scope (without_lent (c).scope calling (has_of l)) frame.variables
    pub stack_left : AreFull image.types (drop (count_inputs arguments) l.stack) rest
    pub loops : frame.loops ≡ b.loops
    pub opened : frame.call ≡ Some number
    pub alone : AreAlone b.work → AreAlone frame.work

  alone-kept : IsKept (λ (d : Frame Name). AreAlone d.work)
  alone-kept = record {
    letting = record { value = λ d b h. (rest-kept.letting.value d (record b { call = None }) (refl, h)).1; parts = λ ps b h. (rest-kept.letting.parts ps (record b { call = None }) (refl, h)).1; name = λ n b h. h };
    variables = λ ps b h. h;
    serial = λ s b h. h;
    calls = λ b h. h;
  }

  pub call-placed : (stack : List Value) (b : Frame Name) → AreSound (c).scope (has_of l) b.variables → AreFull image.types l.stack stack → (at n : ℕ) (message : Cell Name) → Placed stack b at n message
  call-placed stack b sound full' at n message =
      let s = inputs-there stack full' in
      let x' = call-composes b sound s.values s.whole in
      record {
        rest = s.rest;
        number = (x'.composed).call;
        frame = record (x'.composed.frame) { call = Some x'.composed.call };
        completes = ap (with_popped (λ (p : Popped). leaving p.rest (callmessages.call (composed_of name c arguments p.values b) (outs arguments) (put (Some n) message)))) s.popped
            ∙ ap (λ y. leaving s.rest (if_there (λ (c : Composed Name). stays (record c.frame { call = Some c.call })) y)) (composed-is b sound s.values s.whole);
        sound = x'.left;
        stack_left = s.left;
        loops = composed-keeps b sound s.values s.whole (λ d. d.loops ≡ b.loops) (loops-kept b.loops) refl;
        opened = refl;
        alone = λ h. composed-keeps b sound s.values s.whole (λ d. AreAlone d.work) alone-kept h;
      }

  -- what goes on with an outcome of the call
  after' : (q : Outcome) (rest : List Value) (b' : Frame Name) → IsIn q (outcomes image.types m.variables form) → AreSound (c).scope (held_after image.types m.variables form q (has_of l)) b'.variables
      → AreFull image.types (drop (count_inputs arguments) l.stack) rest → AreSlots image.types l.slots b'.loops → Differ (numbers b'.loops) → GoesWell x image m W c i l (leaving rest (goes q b'))
  after' q rest b' among sound full' slots differ = record {
    outcome = q;
    frame = b';
    completes = refl;
    way = ways q among;
    holds = holds-behind image m c i l q rest b'
        (same_facts (c).scope (held_after image.types m.variables form q (has_of l)) (has_behind image m c i l q) b'.variables (λ f. sym (facts-held_behind image.types m.variables i q l.facts f)) sound)
        (stack-for image m c i l q rest full') (slots-for image m c i l refl q b'.loops slots) differ;
  }

  -- what goes on with an outcome of the call, at rest
  pub record GoesOn (stack : List Value) (r : Completion Name) : Type 0 where
    pub goes : GoesWell x image m W c i l (leaving stack r)
    pub at_rest : AllOf IsAtRest r

  -- a callmessage that comes back
  pub record Back (stack : List Value) (b : Frame Name) (at : ℕ) (message : Cell Name) : Type 0 where
    pub rest : List Value
    pub completion : Completion Name
    pub settles : code_settles name c i stack at (put None message) b ≡ leaving rest completion
    pub on : GoesOn rest completion

  pub call-back : (stack : List Value) (b : Frame Name) → AreSound (c).scope (has_of l) b.variables → AreFull image.types l.stack stack → AreSlots image.types l.slots b.loops → Differ (numbers b.loops) → IsAtRest b → (at : ℕ) (message : Cell Name)
      → Back stack b at message
  call-back stack b sound full' slots differ at_rest at message =
      let s = inputs-there stack full' in
      let x' = call-composes b sound s.values s.whole in
      let ended = finalise_at_once message x'.composed.frame in
      let outs' = arguments_at (c).scope is_out o atoms in
      let left = Frames.drop outs' ended in
      let keeps-loops = λ (d : Frame Name). d.loops ≡ b.loops in
      let loops : left.loops ≡ b.loops =
      is-drop name keeps-loops keeps-loops (loops-kept b.loops) outs' ended (is-end_at_once keeps-loops ((loops-kept b.loops).letting) message x'.composed.frame (composed-keeps b sound s.values s.whole keeps-loops (loops-kept b.loops) refl)) in
      let behind = disconnected-sound (c).scope calling (has_of l) (call-targets x (c).scope o atoms called) (disconnected-keeps x (c).scope o atoms called) ended left (raised disconnected)
      (subst (AreSound (c).scope (without_lent (c).scope calling (has_of l))) (sym (ended-variables message x'.composed.frame)) x'.left) refl in
      record {
        rest = s.rest;
        completion = goes (raised disconnected) left;
        settles = ap (with_popped (λ (p : Popped). leaving p.rest (callmessages.call (composed_of name c arguments p.values b) (outs arguments) (put None message)))) s.popped
            ∙ ap₂ (λ y outs. leaving s.rest (if_there (λ (c : Composed Name). goes (raised disconnected) (Frames.drop outs (finalise_at_once message c.frame))) y)) (composed-is b sound s.values s.whole) (outs-same image.types m.variables params arguments are);
        on = record {
          goes = after' (raised disconnected) s.rest left (raised-outcome x (c).scope o atoms called (has_of l) needed disconnected (inl refl)) behind s.left (subst (AreSlots image.types l.slots) (sym loops) slots) (subst (λ loops. Differ (numbers loops)) (sym loops) differ);
          at_rest = is-drop name IsAtRest IsAtRest rest-kept outs' ended (is-end_at_once IsAtRest rest-kept.letting message x'.composed.frame (composed-keeps b sound s.values s.whole IsAtRest rest-kept at_rest));
        };
      }

  -- the reply to the open call
  pub reply-goes : (call : ℕ) (r : CellReply Name) (stack : List Value) (b : Frame Name) → IsReply (c).scope calling r → AreSound (c).scope (without_lent (c).scope calling (has_of l)) b.variables
      → AreFull image.types (drop (count_inputs arguments) l.stack) stack → AreSlots image.types l.slots b.loops → Differ (numbers b.loops) → AreAlone b.work → GoesOn stack (code_hears i call (hear call r) b)
  reply-goes call r stack b reply sound full' slots differ alone =
      let settled' = settle_reply (c).scope form call (hear call r) b in
      let g = went-taken (outcomes image.types m.variables form) settled' (reply-taken x (c).scope o atoms called (has_of l) needed call call r b refl reply sound) in
      let behind = replied-keeps x (c).scope o atoms called call call r (has_of l) b g.1 g.0 reply sound g.2 in
      let keeps-loops = λ (d : Frame Name). d.loops ≡ b.loops in
      let loops = by keeps-loops g.0 g.1 (subst (All keeps-loops keeps-loops) g.2 (all-settle_reply name keeps-loops keeps-loops (loops-kept b.loops) (c).scope form call (hear call r) b refl)) in
      let at_rest = by IsAtRest g.0 g.1 (subst (All IsAtRest IsAtRest) g.2 (all-settle_reply name IsAtRest IsAtRest rest-kept (c).scope form call (hear call r) b (refl, alone))) in
      subst (GoesOn stack) (sym (hears-same (c).scope o arguments keeps finds.keeps are call (hear call r) b ∙ g.2)) (record {
        goes = after' g.0 stack g.1 g.3 behind full' (subst (AreSlots image.types l.slots) (sym loops) slots) (subst (λ loops. Differ (numbers loops)) (sym loops) differ);
        at_rest = at_rest;
      })
    where
      by : (Is : Frame Name → Type 0) (q : Outcome) (b' : Frame Name) → All Is Is (goes q b') → Is b'
      by Is q b' (went q' b'' h) = h
