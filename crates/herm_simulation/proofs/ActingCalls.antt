-- A call: its piece, and the answer to it while it is open.
use Rattle.std.proofs.Common.{◌≡◌, ℕ, suc, ◌+◌, List, [], ◌∷◌, map, length, Bool, true, false, Some, option_and_then, slice_get, refl, sym, ap, ap₂, subst, ◌∙◌, arith}
use Rattle.std.specs.Prelude.{⊤, flat_map, filter, not}
use mathlib.Core.Path.{fun_ext}
use Rattle.herm_model.specs.Lists.{IsIn, any_pass}
use Rattle.herm_model.specs.Paths.{Path, same_path}
use Rattle.herm_model.specs.Types.{Mode, by_in, Parameter, Raised, callmessage}
use Rattle.herm_model.specs.Calls.{arguments_by, is_returned, call_parameters, call_raises}
use Rattle.herm_model.specs.Expressions.{Atom}
use Rattle.herm_model.specs.FactsOfStatements.{needs, set_by_call, kept_by_call}
use Rattle.herm_model.specs.Nodes.{Node}
use Rattle.herm_model.specs.Outcomes.{Outcome, ok, raised, outcomes}
use Rattle.herm_model.specs.Statements.{Call}
use Rattle.herm_model.specs.TypedStatements.{AreArguments}
use Rattle.herm_model.specs.Values.{Name, Parts, Value}
use Rattle.herm_model.proofs.TypedCalls.{parameters-are}
use Rattle.herm_journal.specs.Messages.{CellAction}
use Rattle.herm_forms.specs.Acts.{is_inout, is_out, composed, inputs_of, arguments_at, left_at, settle, settle_reply, wants}
use Rattle.herm_forms.specs.Callmessages as callmessages
use Rattle.herm_forms.specs.Callmessages.{Composed, compose}
use Rattle.herm_forms.specs.Excess.{excess_over_full}
use Rattle.herm_forms.specs.Frames.{Frame, counted_step, counted_action}
use Rattle.herm_forms.specs.HearReply
use Rattle.herm_forms.specs.Incoming.{ports_of as form_ports}
use Rattle.herm_forms.specs.laws.EdgeLaws.{AreSound}
use Rattle.herm_forms.specs.laws.TypedForms.{IsTypedIn}
use Rattle.herm_forms.proofs.called.SetArguments.{typed-called, parameters-of, raises-of}
use Rattle.herm_forms.proofs.typed.TypedAtoms.{typed-atoms}
use Rattle.herm_source.specs.States.{own_name}
use Rattle.herm_source.proofs.sound.OneForm.{Found}
use Rattle.herm_instructions.specs.Effects.{exceptions_of, atom_of}
use Rattle.herm_instructions.specs.Instructions
use Rattle.herm_instructions.specs.Instructions.{Argument, Instruction}
use Rattle.herm_instructions.specs.Operands.{count_inputs}
use Rattle.herm_instructions.specs.Pieces.{is_operand}
use Rattle.herm_code_machine.specs.CodeActions.{mode_of, inouts, outs, composed_of, code_hears}
use Rattle.herm_code_machine.specs.CodeStates.{leads}
use Rattle.herm_code_machine.specs.Stacks.{leaving, Popped, pop, parts_from, with_popped}
use Rattle.herm_code_machine.specs.laws.StackLaws.{pushed_on}
use Rattle.herm_code_machine.proofs.Standing.{popped-as-pushed}
use Rattle.herm_code_machine.proofs.sound.CallArguments.{modes-same, inouts-same, outs-same, hears-same}
use Rattle.herm_translated.specs.Fronts.{arguments_of, inputs_code, front}
use Rattle.herm_translated.proofs.EachInstruction.{inputs-each}
use Rattle.herm_translated.proofs.Joined.{length-joined}
use Rattle.herm_simulation.specs.Checks.{list_at}
use Rattle.herm_simulation.specs.FrontsInPlace.{IsFrontAt}
use Rattle.herm_simulation.proofs.ActingForms.{Acting}
use Rattle.herm_simulation.proofs.CalledArguments.{arguments-are, paths-same, kept-same, inputs-pushed}
use Rattle.herm_simulation.proofs.DoneFronts.{ok-leads}
use Rattle.herm_simulation.proofs.InPlace.{Coded, types, variables, constants, source_code, ready, nodes, begins_at, exit, front-stands}
use Rattle.herm_simulation.proofs.Rows.{land-right}
use Rattle.herm_simulation.proofs.SourceSide.{typed-here}

module _ (k : Coded) (i : ℕ) (n : Node) (at : slice_get (nodes k) i ≡ Some n) (o : Path) (atoms : List Atom) (same : n.form ≡ Call o atoms) where
  typed : IsTypedIn k.exceptions k.processes (source_code k) (Call o atoms)
  typed = subst (IsTypedIn k.exceptions k.processes (source_code k)) same (typed-here k i n at)

  abbrev parameters : List Parameter
  parameters = call_parameters (types k) (variables k) o

  abbrev arguments : List Argument
  arguments = arguments_of parameters atoms

  abbrev keeps : List Raised
  keeps = call_raises (types k) (variables k) o

  abbrev pub main : Instruction
  main = Instructions.Call o arguments keeps

  abbrev pub before : List Instruction
  before = inputs_code (constants k) parameters atoms

  abbrev first : ℕ
  first = suc (begins_at k i)

  are : AreArguments (types k) (variables k) parameters atoms
  are = (let h = typed.typed in subst (λ ps. AreArguments (types k) (variables k) ps atoms) (sym (parameters-are (types k) (variables k) o h.0 h.3 h.1 h.2 h.4)) h.5)

  paths-of : (test : Mode → Bool) → test by_in ≡ false → arguments_by test parameters (map atom_of arguments) ≡ arguments_by test parameters atoms
  paths-of test none = paths-same (types k) (variables k) test none parameters atoms are

  modes-of : map mode_of arguments ≡ map (λ (p : Parameter). p.mode) parameters
  modes-of = modes-same (types k) (variables k) parameters arguments (arguments-are (types k) (variables k) parameters atoms are)

  inouts-of : inouts arguments ≡ arguments_at (source_code k) is_inout o atoms
  inouts-of = inouts-same (types k) (variables k) parameters arguments (arguments-are (types k) (variables k) parameters atoms are) ∙ paths-of is_inout refl

  outs-of : outs arguments ≡ arguments_at (source_code k) is_out o atoms
  outs-of = outs-same (types k) (variables k) parameters arguments (arguments-are (types k) (variables k) parameters atoms are) ∙ paths-of is_out refl

  pub front-at : IsFrontAt (ready k) (list_at k.facts i) n.number (Call o atoms) first (exit k i n)
  front-at = subst (λ f. IsFrontAt (ready k) (list_at k.facts i) n.number f first (exit k i n)) same (front-stands k i n at)

  -- the callmessage
  composed-same : (values : List Value) (inputs : Parts ⊤) (b : Frame Name) → parts_from values ≡ inputs → inputs_of parameters atoms b.variables ≡ Some inputs → composed_of own_name (ready k) arguments values b ≡ composed own_name (source_code k) o atoms b
  composed-same values inputs b parts given =
      ap₂ (λ modes ps. compose own_name modes ps (flat_map (λ p. excess_over_full (ready k).scope p b) (inouts arguments)) (inouts arguments) b) modes-of parts
      ∙ ap (λ moved. compose own_name (map (λ (p : Parameter). p.mode) parameters) inputs (flat_map (λ p. excess_over_full (source_code k) p b) moved) moved b) inouts-of
      ∙ sym (ap (option_and_then (λ inputs. compose own_name (map (λ (p : Parameter). p.mode) parameters) inputs (flat_map (λ p. excess_over_full (source_code k) p b) (arguments_at (source_code k) is_inout o atoms)) (arguments_at (source_code k) is_inout o atoms) b)) given)

  -- each outcome leads to its edge
  pub call-out : (q : Outcome) → IsIn q (outcomes (types k) (variables k) n.form) → leads (ready k) (first + length before) main q ≡ Some (exit k i n q)
  call-out q m =
      let long = length-joined before (main ∷ []) in
      ok-leads own_name (ready k) n.number (list_at k.facts i) first (exit k i n) (first + length before) main (land-right (ready k) (exit k i n) first before (main ∷ []) front-at.lands) refl
      ((front-at).behind ok (map raised (exceptions_of (types k) (variables k) main)) refl ∙ ap (λ l. first + l) long ∙ omega arith) q
      (subst (λ f. IsIn q (outcomes (types k) (variables k) f)) same m)

  pub call-acts : (b : Frame Name) → AreSound (source_code k) (k.labels i) b.variables → Found (source_code k) n.form (k.labels i) → Acting k i n at b
  call-acts b sound found =
      let full = (typed-atoms k.exceptions k.processes (source_code k)).called o atoms typed (k.labels i) b.variables sound (λ f h. found f (subst (λ g. IsIn f (needs (types k) (variables k) g)) (sym same) h)) in
      let given = full.2 in
      let x = inputs-pushed (types k) (variables k) (ready k) b.variables parameters atoms are front-at.known full.1 given main refl [] in
      let popped : pop (count_inputs arguments) (pushed_on x.values []) ≡ Some (record { values = x.values; rest = [] }) = ap (λ m. pop m (pushed_on x.values [])) x.many ∙ popped-as-pushed x.values [] in
      let made : (d : Frame Name) → d.variables ≡ b.variables → composed_of own_name (ready k) arguments x.values d ≡ composed own_name (source_code k) o atoms d = λ d e. composed-same x.values full.1 d x.parts (ap (inputs_of parameters atoms) e ∙ given) in
      record {
        before = before;
        main = main;
        is = ap (front (types k) (variables k) (constants k) (list_at k.facts i) n.number first (exit k i n)) same;
        operands = inputs-each (constants k) (λ y. is_operand y ≡ true) (λ c. refl) (λ p. refl) parameters atoms;
        other = refl;
        action = refl;
        stack = pushed_on x.values [];
        row = x.row;
        wanted = ap (λ p. callmessages.call_wants (option_and_then (λ (p : Popped). composed_of own_name (ready k) arguments p.values b) p) o b) popped
            ∙ ap (λ m. callmessages.call_wants m o b) (made b refl)
            ∙ ap (λ f. wants own_name (source_code k) f b) (sym same);
        settles = λ from a.
            (let d = counted_action (counted_step b) in
            ap (with_popped (λ (p : Popped). leaving p.rest (callmessages.call (composed_of own_name (ready k) arguments p.values d) (outs arguments) a))) popped
            ∙ ap₂ (λ m out. leaving [] (callmessages.call m out a)) (made d refl) outs-of
            ∙ ap (λ f. leaving [] (settle own_name (source_code k) f from a d)) (sym same));
        ports = ap form_ports (sym same);
        out = call-out;
      }

  -- the answer to the open call
  kept-of : (e : ℕ) → kept_by_call (types k) (variables k) o (map atom_of arguments) e ≡ kept_by_call (types k) (variables k) o atoms e
  kept-of e =
      kept-same (types k) (variables k) parameters atoms keeps are
      (λ r m j in-kept.
      (let call = typed-called k.exceptions k.processes (source_code k) o atoms typed in
      let places = ((k.sound).well).kept_returned call.message (callmessage call.parameters call.raises) call.shape r (subst (IsIn r) (raises-of k.exceptions (source_code k) o atoms call) m) j in-kept in
      (places.0, ap (λ ps. slice_get ps j) (parameters-of k.exceptions (source_code k) o atoms call) ∙ places.1, places.2))) e

  left-of : (e : ℕ) → left_at (ready k).scope o (map atom_of arguments) e ≡ left_at (source_code k) o atoms e
  left-of e = ap₂ (λ kept xs. filter (λ p. not (any_pass (same_path p) kept)) xs) (kept-of e) (paths-of is_out refl)

  pub call-hears : (call : ℕ) (a : CellAction Name) (b : Frame Name) → code_hears main call a b ≡ settle_reply (source_code k) n.form call a b
  call-hears call a b =
      hears-same (ready k).scope o arguments keeps refl (arguments-are (types k) (variables k) parameters atoms are) call a b
      ∙ ap₂ (λ back out. HearReply.hear_call back out (kept_by_call (types k) (variables k) o (map atom_of arguments)) (left_at (ready k).scope o (map atom_of arguments)) call a b) (paths-of is_returned refl) (paths-of is_out refl)
      ∙ ap₂ (λ kept left. HearReply.hear_call (set_by_call (types k) (variables k) o atoms) (arguments_at (source_code k) is_out o atoms) kept left call a b) (fun_ext kept-of) (fun_ext left-of)
      ∙ ap (λ f. settle_reply (source_code k) f call a b) (sym same)
