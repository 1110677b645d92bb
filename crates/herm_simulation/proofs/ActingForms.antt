-- Statements that are actions: their pieces, what they want, and what their answers leave.
use Rattle.std.proofs.Common.{◌≡◌, ◌⊎◌, inl, inr, ℕ, suc, ◌+◌, List, [], ◌∷◌, ◌++◌, map, length, true, false, cond, Option, Some, None, option_map, option_and_then, slice_get, refl, sym, ap, subst, ◌∙◌, arith, true≢false}
use Rattle.std.specs.Prelude.{is_some}
use Rattle.herm_model.specs.Lists.{IsIn, map_or, list_of}
use Rattle.herm_model.specs.Paths.{Path, init, case}
use Rattle.herm_model.specs.Types.{Shape, inport, type_at}
use Rattle.herm_model.specs.Calls.{shape_at, raises_of, kept_for}
use Rattle.herm_model.specs.FactsOfStatements.{needs}
use Rattle.herm_model.specs.Outcomes.{Outcome, ok, arm, raised, outcomes, arms_from}
use Rattle.herm_model.specs.Nodes.{Node}
use Rattle.herm_model.specs.Statements.{Form, Arm, New, Send, Receive, Select, Call, Return, ReturnBy, Create}
use Rattle.herm_model.specs.Values.{Name, Parts, Value}
use Rattle.herm_model.specs.FactsOfValues.{HasExactly}
use Rattle.herm_model.proofs.Lists.{in-append_cases}
use Rattle.herm_model.proofs.Options.{none-not_some, some-injective, chain-some}
use Rattle.herm_journal.specs.Messages.{CellAction, is_inport}
use Rattle.herm_forms.specs.Acts.{is_action, wants, settle}
use Rattle.herm_forms.specs.Frames.{Frame, counted_step, counted_action}
use Rattle.herm_forms.specs.Incoming.{ports_of as form_ports}
use Rattle.herm_forms.specs.laws.EdgeLaws.{AreSound}
use Rattle.herm_forms.specs.laws.TypedForms.{IsTypedIn}
use Rattle.herm_forms.proofs.KeptBodies.{IsCall}
use Rattle.herm_forms.proofs.typed.WantsThere.{source-there}
use Rattle.herm_source.specs.States.{own_name}
use Rattle.herm_source.proofs.sound.OneForm.{Found}
use Rattle.herm_instructions.specs.Actions.{is_inport_shape, is_action as instruction_acts}
use Rattle.herm_instructions.specs.Effects.{exceptions_of, arm_of}
use Rattle.herm_instructions.specs.Instructions
use Rattle.herm_instructions.specs.Instructions.{Instruction, Choice}
use Rattle.herm_instructions.specs.Pieces.{is_operand}
use Rattle.herm_code_machine.specs.CodeActions.{code_wants, code_settles}
use Rattle.herm_code_machine.specs.CodeSeen.{ports_of}
use Rattle.herm_code_machine.specs.CodeStates.{leads}
use Rattle.herm_code_machine.specs.Pieces.{behind_operands, pushed, operand}
use Rattle.herm_code_machine.specs.ReadyCode.{ReadyCode}
use Rattle.herm_code_machine.specs.Stacks.{leaving}
use Rattle.herm_code_machine.specs.laws.InstructionLaws.{ActsAsForm, DoForms}
use Rattle.herm_code_machine.proofs.DoneForms.{instructions-do-forms, ports-same}
use Rattle.herm_code_machine.proofs.TrimmedExcess.{trims-are_excess}
use Rattle.herm_translated.specs.Fronts.{front, front_length, type_of, choices_from, trimmed}
use Rattle.herm_simulation.specs.Checks.{list_at}
use Rattle.herm_simulation.specs.FrontsInPlace.{LandFrom, IsFrontAt}
use Rattle.herm_simulation.proofs.DoneFronts.{ok-leads}
use Rattle.herm_simulation.proofs.InPlace.{Coded, types, variables, constants, source_code, ready, nodes, begins_at, exit, front_here, front-stands}
use Rattle.herm_simulation.proofs.PiecesBegin.{IsFirst}
use Rattle.herm_simulation.proofs.SourceSide.{typed-here}

-- what a form wants and settles depends on types and variables alone
pub wants-scope : (k : Coded) (form : Form) (b : Frame Name) → wants own_name (source_code k) form b ≡ wants own_name (ready k).scope form b
wants-scope k (New x) b = refl
wants-scope k form b = refl

pub settle-scope : (k : Coded) (form : Form) (at : ℕ) (a : CellAction Name) (b : Frame Name) → settle own_name (source_code k) form at a b ≡ settle own_name (ready k).scope form at a b
settle-scope k (New x) at a b = refl
settle-scope k form at a b = refl

-- the operands that come first in the code are those of the row
pub operands-first : (c : ReadyCode) (ps : Parts Name) (before : List Instruction) (x : Instruction) (code : List Instruction) (stack : List Value) → IsFirst (before ++ (x ∷ [])) code → is_operand x ≡ false
    → behind_operands c ps code stack ≡ behind_operands c ps (before ++ (x ∷ [])) stack
operands-first c ps [] x [] stack first other = none-not_some (first 0 x refl)
operands-first c ps [] x (z ∷ code) stack first other =
    let same : z ≡ x = some-injective (first 0 x refl) in
    ap (λ z. cond (is_operand z) (option_and_then (behind_operands c ps code) (pushed (operand c z ps) stack)) (Some stack)) same
    ∙ ap (λ b. cond b (option_and_then (behind_operands c ps code) (pushed (operand c x ps) stack)) (Some stack)) other
    ∙ sym (ap (λ b. cond b (option_and_then (behind_operands c ps []) (pushed (operand c x ps) stack)) (Some stack)) other)
operands-first c ps (y ∷ before) x [] stack first other = none-not_some (first 0 y refl)
operands-first c ps (y ∷ before) x (z ∷ code) stack first other =
    let same : z ≡ y = some-injective (first 0 y refl) in
    ap (λ z. cond (is_operand z) (option_and_then (behind_operands c ps code) (pushed (operand c z ps) stack)) (Some stack)) same
    ∙ ap (λ o. cond (is_operand y) o (Some stack)) (by (pushed (operand c y ps) stack) (λ s. operands-first c ps before x code s (λ n w e. first (suc n) w e) other))
  where
    by : (o : Option (List Value)) → ((s : List Value) → behind_operands c ps code s ≡ behind_operands c ps (before ++ (x ∷ [])) s) → option_and_then (behind_operands c ps code) o ≡ option_and_then (behind_operands c ps (before ++ (x ∷ []))) o
    by None again = refl
    by (Some s) again = again s

-- the index of an arm
arm-found : (f : Outcome → ℕ) (j : ℕ) (arms : List Arm) (m : ℕ) → IsIn (arm m) (arms_from j arms) → (q : ℕ) × (m ≡ j + q) × (option_map (λ (a : Choice). a.index) (slice_get (choices_from f j arms) q) ≡ Some (f (arm m)))
arm-found f j [] m h = absurd h
arm-found f j (a ∷ arms) m (inl e) = (0, (let q = arm-number m j e in omega (arith, q)), ap (λ o. Some (f o)) (sym e))
  where
    arm_in : Outcome → Option ℕ
    arm_in (arm n) = Some n
    arm_in o = None

    arm-number : (m j : ℕ) → arm m ≡ arm j → m ≡ j
    arm-number m j e = some-injective (ap arm_in e)
arm-found f j (a ∷ arms) m (inr h) = let r = arm-found f (suc j) arms m h in (suc r.0, (let q = r.1 in omega (arith, q)), r.2)

choices-arms : (f : Outcome → ℕ) (j : ℕ) (arms : List Arm) → map arm_of (choices_from f j arms) ≡ arms
choices-arms f j [] = refl
choices-arms f j (a ∷ arms) = ap (a ∷◌) (choices-arms f (suc j) arms)

arms-are : (j : ℕ) (arms : List Arm) (o : Outcome) → IsIn o (arms_from j arms) → (m : ℕ) × (o ≡ arm m)
arms-are j [] o h = absurd h
arms-are j (a ∷ arms) o (inl e) = (j, e)
arms-are j (a ∷ arms) o (inr h) = arms-are (suc j) arms o h

module _ (k : Coded) (i : ℕ) (n : Node) (at : slice_get (nodes k) i ≡ Some n) where
  -- What is so of the piece of a statement that is an action, from this frame on: its operands push a stack, and its last instruction wants what
  -- the form wants, leaves what the answer to the form leaves, and leads to the edges of the outcomes.
  pub record Acting (b : Frame Name) : Type 0 where
    pub before : List Instruction
    pub main : Instruction
    pub is : front_here k i n at ≡ before ++ (main ∷ [])
    pub operands : (y : Instruction) → IsIn y before → is_operand y ≡ true
    pub other : is_operand main ≡ false
    pub action : instruction_acts (types k) main ≡ true
    pub stack : List Value
    pub row : behind_operands (ready k) b.variables (before ++ (main ∷ [])) [] ≡ Some stack
    pub wanted : code_wants own_name (ready k) main stack b ≡ wants own_name (source_code k) n.form b
    pub settles : (from : ℕ) (a : CellAction Name) → code_settles own_name (ready k) main stack from a (counted_action (counted_step b)) ≡ leaving [] (settle own_name (source_code k) n.form from a (counted_action (counted_step b)))
    pub ports : ports_of main ≡ form_ports n.form
    pub out : (o : Outcome) → IsIn o (outcomes (types k) (variables k) n.form) → leads (ready k) (suc (begins_at k i) + length before) main o ≡ Some (exit k i n o)

  abbrev first : ℕ
  first = suc (begins_at k i)

  abbrev FrontOf : Form → List Instruction
  FrontOf form = front (types k) (variables k) (constants k) (list_at k.facts i) n.number first (exit k i n) form

  abbrev AtForm : Form → Type 0
  AtForm form = IsFrontAt (ready k) (list_at k.facts i) n.number form first (exit k i n)

  -- of one form, which is the node's
  module _ (b : Frame Name) (form : Form) (same : n.form ≡ form) where
    front-at : AtForm form
    front-at = subst AtForm same (front-stands k i n at)

    does : (steps : Frame Name) → DoForms own_name (ready k) n.number steps
    does steps = instructions-do-forms own_name (ready k) n.number steps

    -- an instruction alone
    alone : (main : Instruction) → FrontOf form ≡ main ∷ [] → is_operand main ≡ false → behind_operands (ready k) b.variables (main ∷ []) [] ≡ Some [] → instruction_acts (types k) main ≡ true → ports_of main ≡ form_ports form
        → ActsAsForm own_name (ready k) n.number b main form → ActsAsForm own_name (ready k) n.number (counted_action (counted_step b)) main form
        → ((o : Outcome) → IsIn o (outcomes (types k) (variables k) form) → leads (ready k) first main o ≡ Some (exit k i n o)) → Acting b
    alone main front' other row acts looks now then' led = record {
      before = [];
      main = main;
      is = ap FrontOf same ∙ front';
      operands = λ y m. absurd m;
      other = other;
      action = acts;
      stack = [];
      row = row;
      wanted = now.wanted [] ∙ sym (wants-scope k form b) ∙ ap (λ f. wants own_name (source_code k) f b) (sym same);
      settles = λ from a. then'.answers [] from a
          ∙ ap (leaving []) (sym (settle-scope k form from a (counted_action (counted_step b))) ∙ ap (λ f. settle own_name (source_code k) f from a (counted_action (counted_step b))) (sym same));
      ports = looks ∙ ap form_ports (sym same);
      out = λ o m.
          (let here : first + 0 ≡ first = omega arith in
          subst (λ j. leads (ready k) j main o ≡ Some (exit k i n o)) (sym here) (led o (subst (λ f. IsIn o (outcomes (types k) (variables k) f)) same m)));
    }

    -- one that goes on in one way
    one-way : (main : Instruction) → FrontOf form ≡ main ∷ [] → front_length (types k) (variables k) (constants k) form ≡ 1 → leads (ready k) first main ok ≡ Some (suc first)
        → outcomes (types k) (variables k) form ≡ ok ∷ map raised (exceptions_of (types k) (variables k) main) → (o : Outcome) → IsIn o (outcomes (types k) (variables k) form) → leads (ready k) first main o ≡ Some (exit k i n o)
    one-way main front' long onward outs o m =
        ok-leads own_name (ready k) n.number (list_at k.facts i) first (exit k i n) first main (subst (LandFrom (ready k) (exit k i n) first) front' front-at.lands) onward
        ((front-at).behind ok (map raised (exceptions_of (types k) (variables k) main)) outs ∙ ap (λ l. first + l) long ∙ omega arith) o (subst (IsIn o) outs m)

  new-acts : (b : Frame Name) (x : Path) → n.form ≡ New x → is_action (source_code k) (New x) ≡ true → Acting b
  new-acts b x same acts = by (shape_at (types k) (variables k) x) refl acts
    where
      main : Instruction
      main = Instructions.New x (type_of (types k) (variables k) x)

      by : (s : Option Shape) → shape_at (types k) (variables k) x ≡ s → is_inport s ≡ true → Acting b
      by (Some (inport message declared)) e h =
          let t = chain-some (slice_get (types k)) (type_at (types k) (variables k) x) (inport message declared) e in
          let type : type_of (types k) (variables k) x ≡ t.0 = ap (map_or 0 (λ t. t)) t.1 in
          let action : instruction_acts (types k) main ≡ true = ap (λ t. map_or false is_inport_shape (slice_get (types k) t)) type ∙ ap (map_or false is_inport_shape) t.2 in
          alone b (New x) same main refl refl refl action refl ((does b (New x) same b).new_inport x (type_of (types k) (variables k) x)) ((does b (New x) same (counted_action (counted_step b))).new_inport x (type_of (types k) (variables k) x))
          (one-way b (New x) same main refl refl refl refl)
      by s e h = absurd (true≢false (sym h))

  send-acts : (b : Frame Name) (x o : Path) → n.form ≡ Send x o → AreSound (source_code k) (k.labels i) b.variables → Found (source_code k) n.form (k.labels i) → Acting b
  send-acts b [] o same sound found = none-not_some (subst (IsTypedIn k.exceptions k.processes (source_code k)) same (typed-here k i n at)).typed.2.0.0
  send-acts b (j ∷ q) o same sound found =
      let typed : IsTypedIn k.exceptions k.processes (source_code k) (Send (j ∷ q) o) = subst (IsTypedIn k.exceptions k.processes (source_code k)) same (typed-here k i n at) in
      let there = source-there k.exceptions k.processes (source_code k) (j ∷ q) o typed (k.labels i) (λ f h. found f (subst (λ g. IsIn f (needs (types k) (variables k) g)) (sym same) h)) b sound in
      let facts = list_at k.facts i in
      let exact : HasExactly b.variables (λ f. IsIn f facts) = record {
        values = λ p. ((λ v. ((k.right).facts i n at (init p)).1 (((sound.facts).values p).0 v)), (λ h. ((sound.facts).values p).1 (((k.right).facts i n at (init p)).0 h)));
        components = λ p c h. (sound.facts).components p c (((k.right).facts i n at (case p c)).0 h);
      } in
      let trim = trimmed (types k) (variables k) facts (j ∷ q) o in
      let excess = trims-are_excess (ready k).scope j q o trim facts b refl exact (ap is_some there.1) in
      alone b (Send (j ∷ q) o) same (Instructions.Send (j ∷ q) o trim) refl refl refl refl refl ((does b (Send (j ∷ q) o) same b).send (j ∷ q) o trim excess) ((does b (Send (j ∷ q) o) same (counted_action (counted_step b))).send (j ∷ q) o trim excess)
      (one-way b (Send (j ∷ q) o) same (Instructions.Send (j ∷ q) o trim) refl refl refl refl)

  receive-acts : (b : Frame Name) (x p : Path) → n.form ≡ Receive x p → Acting b
  receive-acts b x p same =
      alone b (Receive x p) same (Instructions.Receive x p) refl refl refl refl refl ((does b (Receive x p) same b).receive x p) ((does b (Receive x p) same (counted_action (counted_step b))).receive x p)
      (one-way b (Receive x p) same (Instructions.Receive x p) refl refl refl refl)

  select-acts : (b : Frame Name) (arms : List Arm) → n.form ≡ Select arms → Acting b
  select-acts b arms same =
      alone b (Select arms) same main refl refl refl refl (ports-same choices ∙ ap (map (λ (a : Arm). a.port)) (choices-arms (exit k i n) 0 arms)) (chosen b) (chosen (counted_action (counted_step b))) led
    where
      choices : List Choice
      choices = choices_from (exit k i n) 0 arms

      main : Instruction
      main = Instructions.Select choices

      chosen : (d : Frame Name) → ActsAsForm own_name (ready k) n.number d main (Select arms)
      chosen d = subst (λ arms. ActsAsForm own_name (ready k) n.number d main (Select arms)) (choices-arms (exit k i n) 0 arms) ((instructions-do-forms own_name (ready k) n.number d).select choices)

      led : (o : Outcome) → IsIn o (arms_from 0 arms ++ []) → leads (ready k) first main o ≡ Some (exit k i n o)
      led o m = by (in-append_cases o (arms_from 0 arms) [] m)
        where
          by : IsIn o (arms_from 0 arms) ⊎ IsIn o [] → leads (ready k) first main o ≡ Some (exit k i n o)
          by (inl h) =
              let a = arms-are 0 arms o h in
              let r = arm-found (exit k i n) 0 arms a.0 (subst (λ o. IsIn o (arms_from 0 arms)) a.1 h) in
              let place : r.0 ≡ a.0 = (let q = r.1 in omega (arith, q)) in
              subst (λ o. leads (ready k) first main o ≡ Some (exit k i n o)) (sym a.1) (subst (λ j. option_map (λ (a : Choice). a.index) (slice_get choices j) ≡ Some (exit k i n (arm a.0))) place r.2)
          by (inr h) = absurd h

  return-acts : (b : Frame Name) (m : Path) → n.form ≡ Return m → Acting b
  return-acts b m same =
      alone b (Return m) same (Instructions.Return m) refl refl refl refl refl ((does b (Return m) same b).return m) ((does b (Return m) same (counted_action (counted_step b))).return m)
      (one-way b (Return m) same (Instructions.Return m) refl refl refl refl)

  return-by-acts : (b : Frame Name) (m : Path) (e : ℕ) → n.form ≡ ReturnBy m e → Acting b
  return-by-acts b m e same =
      let main = Instructions.ReturnBy m e (kept_for (list_of raises_of (shape_at (types k) (variables k) m)) e) in
      alone b (ReturnBy m e) same main refl refl refl refl refl ((does b (ReturnBy m e) same b).return_by m e _ refl) ((does b (ReturnBy m e) same (counted_action (counted_step b))).return_by m e _ refl)
      (one-way b (ReturnBy m e) same main refl refl refl refl)

  create-acts : (b : Frame Name) (o : Path) (p : ℕ) → n.form ≡ Create o p → Acting b
  create-acts b o p same =
      alone b (Create o p) same (Instructions.Create o p) refl refl refl refl refl ((does b (Create o p) same b).create o p) ((does b (Create o p) same (counted_action (counted_step b))).create o p)
      (one-way b (Create o p) same (Instructions.Create o p) refl refl refl refl)

  -- each action but a call
  pub each-acts : (b : Frame Name) → AreSound (source_code k) (k.labels i) b.variables → Found (source_code k) n.form (k.labels i) → (form : Form) → n.form ≡ form → (IsCall form → ⊥) → is_action (source_code k) form ≡ true → Acting b
  each-acts b sound found (New x) same no_call acts = new-acts b x same acts
  each-acts b sound found (Send x o) same no_call acts = send-acts b x o same sound found
  each-acts b sound found (Receive x p) same no_call acts = receive-acts b x p same
  each-acts b sound found (Select arms) same no_call acts = select-acts b arms same
  each-acts b sound found (Call o arguments) same no_call acts = absurd (no_call tt)
  each-acts b sound found (Return m) same no_call acts = return-acts b m same
  each-acts b sound found (ReturnBy m e) same no_call acts = return-by-acts b m e same
  each-acts b sound found (Create o p) same no_call acts = create-acts b o p same
  each-acts b sound found form same no_call acts = absurd (true≢false (sym acts))
