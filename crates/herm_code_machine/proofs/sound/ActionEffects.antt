-- Each action of good code but a call wants what is there, and each answer to it goes on where control goes, and leaves what the label
-- behind it says.
use Rattle.std.proofs.Common.{◌≡◌, ◌⊎◌, inl, inr, ℕ, suc, List, [], ◌∷◌, ◌++◌, map, true, Option, Some, None, option_and_then, refl, sym, ap, subst, ◌∙◌}
use Rattle.std.specs.Prelude.{slice_get, find, is_some, IsTrue, ⊤}
use mathlib.Core.Bool.{false≢true}
use Rattle.herm_model.specs.Lists.{IsIn, numbered}
use Rattle.herm_model.specs.Paths.{Path, Fact}
use Rattle.herm_model.specs.Types.{TypeTable, type_at}
use Rattle.herm_model.specs.ControlPaths.{held_after_edge}
use Rattle.herm_model.specs.Targets.{end}
use Rattle.herm_model.specs.Expressions.{Literal}
use Rattle.herm_model.specs.Outcomes.{Outcome, ok, arm, arms_from, exceptions, normal_outcomes, outcomes}
use Rattle.herm_model.specs.Statements.{Form, Arm, Differ}
use Rattle.herm_model.specs.FactsOfStatements.{Row, row, closed, needs}
use Rattle.herm_model.specs.TypedExpressions.{IsLiteralOf}
use Rattle.herm_model.specs.TypedStatements.{IsTypedForm}
use Rattle.herm_model.specs.Values.{Cell, Value}
use Rattle.herm_model.specs.WellFormedTables.{IsType, IsWellFormedTable}
use Rattle.herm_model.proofs.FactTests.{IsIn-listed}
use Rattle.herm_model.proofs.Lists.{in-append_cases, in-map}
use Rattle.herm_model.proofs.Options.{none-not_some, some-injective}
use Rattle.herm_journal.specs.Actions.{values, new_port, new_process, to_put, to_take, to_answer, make_port, make_process, put, take, close, answer, hear}
use Rattle.herm_journal.specs.Actions
use Rattle.herm_journal.specs.Messages.{CellWant, CellAction, CellReply, AreFull, is_inport, IsMessage}
use Rattle.herm_system.specs.Suiting.{Answers}
use Rattle.herm_forms.specs.Acts.{is_action, wants, settle, given_back, given_at, given_by}
use Rattle.herm_forms.specs.Frames.{Name, Loop, Frame, Completion, goes, stays, stuck}
use Rattle.herm_forms.specs.Incoming.{leads_from, looked_at, ComesIn}
use Rattle.herm_forms.specs.Incoming as incoming
use Rattle.herm_forms.specs.laws.EdgeLaws.{held_after}
use Rattle.herm_forms.specs.laws.FormsTakeAnswers.{IsTaken, IsTakenAt, Meets}
use Rattle.herm_forms.specs.laws.TypedForms.{IsTypedIn}
use Rattle.herm_forms.proofs.Counting.{recount}
use Rattle.herm_forms.proofs.KeptBodies.{IsKept, IsCall, All, went, all-settle}
use Rattle.herm_forms.proofs.forms.PlainForms.{same_facts}
use Rattle.herm_forms.proofs.typed.AnswersTaken.{answer-taken}
use Rattle.herm_forms.proofs.typed.EachForm.{each-answer, puts-same}
use Rattle.herm_forms.proofs.typed.WantKinds.{send-want, return-want, take-want, select-want}
use Rattle.herm_forms.proofs.typed.WantsThere.{want-there, source-there}
use Rattle.herm_instructions.specs.Instructions.{Choice, Instruction, New, Send, Receive, Select, Call, Return, ReturnBy, Create}
use Rattle.herm_instructions.specs.Labels.{Label}
use Rattle.herm_instructions.specs.Images.{CodeModule, Image}
use Rattle.herm_instructions.specs.Operands.{type_of_literal}
use Rattle.herm_instructions.specs.Effects.{arm_of, row_of, exceptions_of, slots_behind}
use Rattle.herm_instructions.specs.Actions as actions
use Rattle.herm_instructions.specs.Places.{way_of_arm, goes_on}
use Rattle.herm_instructions.proofs.FactsBehind.{facts-held_behind}
use Rattle.herm_code_machine.specs.ReadyCode.{ReadyCode}
use Rattle.herm_code_machine.specs.Stacks.{leaving}
use Rattle.herm_code_machine.specs.CodeActions.{code_wants, code_settles}
use Rattle.herm_code_machine.specs.CodeLocal.{AreSlots}
use Rattle.herm_code_machine.specs.CodeLocal
use Rattle.herm_code_machine.specs.CodeSeen.{ports_of}
use Rattle.herm_code_machine.specs.CodeTypes.{type_made}
use Rattle.herm_code_machine.specs.laws.InstructionLaws.{ActsAsForm, DoForms}
use Rattle.herm_code_machine.proofs.DoneForms.{instructions-do-forms, ports-same}
use Rattle.herm_code_machine.proofs.TrimmedExcess.{trims-are_excess}
use Rattle.herm_code_machine.proofs.sound.AtLabels.{has_of, numbers, Holds, GoesWell, behind_stack, has_behind, holds-behind, stack-for, slots-for}
use Rattle.herm_code_machine.proofs.sound.Between.{listed-exact}
use Rattle.herm_code_machine.proofs.sound.EachEffect.{ready, processes, Found, one-way, inport-same}

-- an answer to what a form wants is of a kind that it takes
meets-port : (x : Path) (a : CellAction Name) → Answers {M = Cell Name} {R = CellReply Name} new_port a → Meets a (Form.New x)
meets-port x (make_port made) h = tt
meets-port x a h = absurd h

meets-process : (o : Path) (process : ℕ) (a : CellAction Name) → Answers {M = Cell Name} {R = CellReply Name} (new_process process) a → Meets a (Form.Create o process)
meets-process o process (make_process code made) h = tt
meets-process o process a h = absurd h

meets-put : (n : ℕ) (m : Cell Name) (x o : Path) (a : CellAction Name) → Answers {R = CellReply Name} (to_put n m) a → Meets a (Form.Send x o)
meets-put n m x o (put k d) h = tt
meets-put n m x o a h = absurd h

meets-receive : (ports : List ℕ) (x i : Path) (a : CellAction Name) → Answers {M = Cell Name} {R = CellReply Name} (to_take ports) a → Meets a (Form.Receive x i)
meets-receive ports x i (take k d) h = tt
meets-receive ports x i a h = absurd h

meets-select : (ports : List ℕ) (arms : List Arm) (a : CellAction Name) → Answers {M = Cell Name} {R = CellReply Name} (to_take ports) a → Meets a (Form.Select arms)
meets-select ports arms (take k d) h = tt
meets-select ports arms a h = absurd h

meets-return : (caller call : ℕ) (r : CellReply Name) (m : Path) (a : CellAction Name) → Answers (to_answer caller call r) a → Meets a (Form.Return m)
meets-return caller call r m (answer k s) h = tt
meets-return caller call r m a h = absurd h

meets-return_by : (caller call : ℕ) (r : CellReply Name) (m : Path) (e : ℕ) (a : CellAction Name) → Answers (to_answer caller call r) a → Meets a (Form.ReturnBy m e)
meets-return_by caller call r m e (answer k s) h = tt
meets-return_by caller call r m e a h = absurd h

-- what stays is a call's alone
taken-plain : (S : List Outcome) (form : Form) (a : CellAction Name) (r : Completion Name) → (IsCall form → ⊥) → IsTakenAt S form a r → IsTaken S r
taken-plain S (Form.Call o arguments) a r none h = absurd (none tt)
taken-plain S form a r none h = h

pub went-taken : (S : List Outcome) (r : Completion Name) → IsTaken S r → (o : Outcome) × (b : Frame Name) × (r ≡ goes o b) × IsIn o S
went-taken S (goes o b) h = (o, b, refl, h)
went-taken S (stays b) h = absurd h
went-taken S stuck h = absurd h

-- the type of the port of this number that an instruction looks at
abbrev pub looked_by : ReadyCode → Instruction → Frame Name → ℕ → Option ℕ
looked_by c i b n = option_and_then (type_at c.scope.types c.scope.variables) (find (leads_from n b) (ports_of i))

-- what is taken with an action is a message of the port at which the instruction looks
abbrev pub TakesMessage : ReadyCode → Instruction → Frame Name → (at : ℕ) → CellAction Name → Type 0
TakesMessage c i b at (take k m) = (t : ℕ) × (looked_by c i b at ≡ Some t) × IsMessage c.scope.types t m
TakesMessage c i b at a = ⊤

-- the type of the value that a form makes
abbrev pub made_by : TypeTable → List ℕ → Form → Option ℕ
made_by types variables (Form.New x) = type_at types variables x
made_by types variables form = None

arms-numbered : (k : ℕ) (choices : List Choice) (o : Outcome) → IsIn o (arms_from k (map arm_of choices)) → (n : ℕ) × (x : Choice) × IsIn (n, x) (numbered k choices) × (o ≡ arm n)
arms-numbered k [] o h = absurd h
arms-numbered k (x ∷ choices) o (inl e) = (k, x, inl refl, e)
arms-numbered k (x ∷ choices) o (inr h) = let r = arms-numbered (suc k) choices o h in (r.0, r.1, inr r.2, r.3)

pub loops-kept : (loops : List (Loop Name)) → IsKept (λ (b : Frame Name). b.loops ≡ loops)
loops-kept loops = record { letting = record { value = λ d b h. h; parts = λ ps b h. h; name = λ n b h. h }; variables = λ ps b h. h; serial = λ s b h. h; calls = λ b h. h }

module _ (x : ℕ) (image : Image) (formed : IsWellFormedTable x image.types) (ls : (l : Literal) → IsIn l image.constants → IsLiteralOf image.types l (type_of_literal l))
    (m : CodeModule) (known : (t : ℕ) → IsIn t m.variables → IsType image.types t) (labels : CodeModule → ℕ → Option Label) (name : Name → Name) (W : Outcome → Type 0)
    (l : Label) (stack : List Value) (b : Frame Name) (holds : Holds (ready x image formed ls m known labels name W) l stack b) where
  abbrev c : ReadyCode
  c = ready x image formed ls m known labels name W

  abbrev Finds' : Instruction → Type 0
  Finds' i = Found x image formed ls m known labels name W i l

  -- what an action wants, and each answer to it, whatever was counted in between
  pub record Acts (i : Instruction) : Type 0 where
    pub want : CellWant Name
    pub wanted : code_wants name c i stack b ≡ Some want
    -- the form that the action does, and what it finds
    pub form : Form
    pub is : IsTypedIn x (processes x image formed ls m known labels name W) (c).scope form
    pub needed : (f : Fact) → IsIn f (needs image.types m.variables form) → IsTrue (has_of l f)
    pub as_form : code_wants name c i stack b ≡ wants name (c).scope form b
    pub acts : IsTrue (is_action (c).scope form)
    pub no_call : IsCall form → ⊥
    pub same_stack : behind_stack image m c i l ≡ l.stack
    pub same_slots : slots_behind image.types m.variables i l.slots ≡ l.slots
    pub ports : ports_of i ≡ incoming.ports_of form
    pub makes : type_made i ≡ made_by image.types m.variables form
    pub settles : (steps actions at : ℕ) (a : CellAction Name) → code_settles name c i stack at a (recount steps actions b) ≡ leaving stack (settle name (c).scope form at a (recount steps actions b))
    pub answers : (steps actions at : ℕ) (a : CellAction Name) → Answers want a → TakesMessage c i b at a → GoesWell x image m W c i l (code_settles name c i stack at a (recount steps actions b))

  -- the form that an action does, and what it finds
  record ActsBy (i : Instruction) (form : Form) : Type 0 where
    typed : IsTypedForm image.types m.variables x (processes x image formed ls m known labels name W) form
    acts : IsTrue (is_action (c).scope form)
    no_call : IsCall form → ⊥
    rows : row_of image.types m.variables i ≡ row image.types m.variables form
    same_stack : behind_stack image m c i l ≡ l.stack
    same_slots : slots_behind image.types m.variables i l.slots ≡ l.slots
    ports : ports_of i ≡ incoming.ports_of form
    makes : type_made i ≡ made_by image.types m.variables form
    same : (steps actions : ℕ) → ActsAsForm name c 0 (recount steps actions b) i form
    ways : (o : Outcome) → IsIn o (outcomes image.types m.variables form) → W o
    meets : (w : CellWant Name) → wants name (c).scope form b ≡ Some w → (a : CellAction Name) → Answers w a → Meets a form

  module _ (steps actions : ℕ) where
    abbrev counted : Frame Name
    counted = recount steps actions b

    counted-holds : Holds c l stack counted
    counted-holds = record { sound = record { types = (holds.sound).types; facts = (holds.sound).facts }; stack = holds.stack; slots = holds.slots; differ = holds.differ }

    comes : (i : Instruction) (form : Form) → ActsBy i form → (w : CellWant Name) → wants name (c).scope form b ≡ Some w → (at : ℕ) (a : CellAction Name) → Answers w a → TakesMessage c i b at a → ComesIn name (c).scope form counted at a
    comes i form d w wanted at (take k m') h takes = (takes.0, sym (ap (λ ps. option_and_then (type_at image.types m.variables) (find (leads_from at b) ps)) d.ports) ∙ takes.1, takes.2)
    comes i form d (to_put n m0) wanted at (put k m') h takes = (n, puts-same name (c).scope steps actions b n m' form (wanted ∙ ap (λ m. Some (to_put n m)) h))
    comes i form d w wanted at (put k m') h takes = absurd h
    comes i form d w wanted at (make_port made) h takes = tt
    comes i form d w wanted at (make_process code made) h takes = tt
    comes i form d w wanted at (close count left) h takes = tt
    comes i form d w wanted at (answer k r) h takes = tt
    comes i form d w wanted at (hear k r) h takes = tt

    looked : (form : Form) (at : ℕ) (a : CellAction Name) → ComesIn name (c).scope form counted at a → (k : ℕ) (m' : Cell Name) → a ≡ take k m' → (t : ℕ) × (looked_at (c).scope form counted at ≡ Some t)
    looked form at a h k m' e = let r = subst (ComesIn name (c).scope form counted at) e h in (r.0, r.1)

    settled-loops : (form : Form) → (IsCall form → ⊥) → (at : ℕ) (a : CellAction Name) (o : Outcome) (b' : Frame Name) → settle name (c).scope form at a counted ≡ goes o b' → b'.loops ≡ b.loops
    settled-loops form none at a o b' e =
        by (subst (All (λ d. d.loops ≡ b.loops) (λ d. d.loops ≡ b.loops)) e (all-settle name (λ d. d.loops ≡ b.loops) (λ d. d.loops ≡ b.loops) (loops-kept b.loops) (c).scope form at a counted refl (λ h. absurd (none h))))
      where
        by : All (λ d. d.loops ≡ b.loops) (λ d. d.loops ≡ b.loops) (goes o b') → b'.loops ≡ b.loops
        by (went o' b'' h) = h

    answered : (i : Instruction) (form : Form) → ActsBy i form → IsTypedIn x (processes x image formed ls m known labels name W) (c).scope form → ((f : Fact) → IsIn f (needs image.types m.variables form) → IsTrue (has_of l f)) → (w : CellWant Name)
        → wants name (c).scope form b ≡ Some w → (at : ℕ) (a : CellAction Name) → Answers w a → TakesMessage c i b at a → GoesWell x image m W c i l (leaving stack (settle name (c).scope form at a counted))
    answered i form d is needed w wanted at a h takes =
        let comes' = comes i form d w wanted at a h takes in
        let taken = taken-plain (outcomes image.types m.variables form) form a (settle name (c).scope form at a counted) d.no_call
        (answer-taken x (processes x image formed ls m known labels name W) (c).scope name (has_of l) counted (counted-holds).sound form is d.acts needed at a (d.meets w wanted a h) (looked form at a comes')) in
        let g = went-taken (outcomes image.types m.variables form) (settle name (c).scope form at a counted) taken in
        let sound = each-answer x (processes x image formed ls m known labels name W) (c).scope form is d.acts name at a (has_of l) counted g.1 g.0 (counted-holds).sound needed comes' g.2 in
        let loops = settled-loops form d.no_call at a g.0 g.1 g.2 in
        record {
          outcome = g.0;
          frame = g.1;
          completes = g.2;
          way = d.ways g.0 g.3;
          holds = holds-behind image m c i l g.0 stack g.1
              (same_facts (c).scope (held_after image.types m.variables form g.0 (has_of l)) (has_behind image m c i l g.0) (g.1).variables
              (λ f. sym (facts-held_behind image.types m.variables i g.0 l.facts f ∙ ap (λ (r : Row). held_after_edge (record { outcome = g.0; makes = closed image.types m.variables (r.made g.0); kills = r.gone g.0; target = end }) f (has_of l f)) d.rows)) sound)
              (stack-for image m c i l g.0 stack (subst (λ ts. AreFull image.types ts stack) (sym d.same_stack) holds.stack))
              (slots-for image m c i l d.same_slots g.0 (g.1).loops (subst (AreSlots image.types l.slots) (sym loops) holds.slots))
              (subst (λ loops. Differ (numbers loops)) (sym loops) holds.differ);
        }

  by-form : (i : Instruction) (form : Form) → Finds' i → ActsBy i form → Acts i
  by-form i form finds d =
      let is : IsTypedIn x (processes x image formed ls m known labels name W) (c).scope form = record { table = formed; variables = known; typed = d.typed } in
      let needed : (f : Fact) → IsIn f (needs image.types m.variables form) → IsTrue (has_of l f) = λ f h. IsIn-listed f l.facts (finds.needs f (subst (λ (r : Row). IsIn f (closed image.types m.variables r.needed)) (sym d.rows) h)) in
      let w = want-there x (processes x image formed ls m known labels name W) (c).scope name (has_of l) b holds.sound form is d.acts needed in
      record {
        want = w.0;
        wanted = (d.same b.steps b.actions).wanted stack ∙ w.1;
        form = form;
        is = is;
        needed = needed;
        as_form = (d.same b.steps b.actions).wanted stack;
        acts = d.acts;
        no_call = d.no_call;
        same_stack = d.same_stack;
        same_slots = d.same_slots;
        ports = d.ports;
        makes = d.makes;
        settles = λ steps actions at a. (d.same steps actions).answers stack at a;
        answers = λ steps actions at a h takes. subst (GoesWell x image m W c i l) (sym ((d.same steps actions).answers stack at a)) (answered steps actions i form d is needed w.0 w.1 at a h takes);
      }

  way-one : (i : Instruction) (form : Form) → Finds' i → goes_on i ≡ Some ok → normal_outcomes form ≡ ok ∷ [] → exceptions_of image.types m.variables i ≡ exceptions image.types m.variables form
      → (o : Outcome) → IsIn o (outcomes image.types m.variables form) → W o
  way-one i form finds on normal same = one-way x image formed ls m known labels name W l stack b holds i form finds on normal same

  abbrev does : (steps actions : ℕ) → DoForms name c 0 (recount steps actions b)
  does steps actions = instructions-do-forms name c 0 (recount steps actions b)

  pub new-acts : (p : Path) (t : ℕ) → Finds' (New p t) → is_inport (slice_get image.types t) ≡ true → Acts (New p t)
  new-acts p t finds inport = by-form (New p t) (Form.New p) finds (record {
    typed = finds.typed.0;
    acts = ap (λ o. is_inport (option_and_then (slice_get image.types) o)) finds.typed.1 ∙ inport;
    no_call = λ v. v;
    rows = refl;
    same_stack = refl;
    same_slots = refl;
    ports = refl;
    makes = sym finds.typed.1;
    same = λ steps actions. (does steps actions).new_inport p t;
    ways = way-one (New p t) (Form.New p) finds refl refl refl;
    meets = λ w e a h. meets-port p a (subst (λ w. Answers w a) (sym (some-injective e)) h);
  })

  pub create-acts : (o : Path) (n : ℕ) → Finds' (Create o n) → Acts (Create o n)
  create-acts o n finds = by-form (Create o n) (Form.Create o n) finds (record {
    typed = finds.typed;
    acts = refl;
    no_call = λ v. v;
    rows = refl;
    same_stack = refl;
    same_slots = refl;
    ports = refl;
    makes = refl;
    same = λ steps actions. (does steps actions).create o n;
    ways = way-one (Create o n) (Form.Create o n) finds refl refl refl;
    meets = λ w e a h. meets-process o n a (subst (λ w. Answers w a) (sym (some-injective e)) h);
  })

  pub receive-acts : (p i : Path) → Finds' (Receive p i) → Acts (Receive p i)
  receive-acts p i finds = by-form (Receive p i) (Form.Receive p i) finds (record {
    typed = finds.typed;
    acts = refl;
    no_call = λ v. v;
    rows = refl;
    same_stack = refl;
    same_slots = refl;
    ports = refl;
    makes = refl;
    same = λ steps actions. (does steps actions).receive p i;
    ways = way-one (Receive p i) (Form.Receive p i) finds refl refl refl;
    meets = λ w e a h. let k = take-want name (c).scope b w p i e in meets-receive k.0 p i a (subst (λ w. Answers w a) (sym k.1) h);
  })

  pub select-acts : (choices : List Choice) → Finds' (Select choices) → Acts (Select choices)
  select-acts choices finds = by-form (Select choices) (Form.Select (map arm_of choices)) finds (record {
    typed = finds.typed.0;
    acts = refl;
    no_call = λ v. v;
    rows = refl;
    same_stack = refl;
    same_slots = refl;
    ports = ports-same choices;
    makes = refl;
    same = λ steps actions. (does steps actions).select choices;
    ways = ways;
    meets = λ w e a h. let k = select-want name (c).scope b w (map arm_of choices) e in meets-select k.0 (map arm_of choices) a (subst (λ w. Answers w a) (sym k.1) h);
  })
    where
      ways : (o : Outcome) → IsIn o (arms_from 0 (map arm_of choices) ++ []) → W o
      ways o h = by (in-append_cases o (arms_from 0 (map arm_of choices)) [] h)
        where
          by : IsIn o (arms_from 0 (map arm_of choices)) ⊎ IsIn o [] → W o
          by (inl h) =
              let r = arms-numbered 0 choices o h in
              subst W (sym r.3) (finds.jumps (record { outcome = arm r.0; index = (r.1).index }) (in-map way_of_arm (r.0, r.1) (numbered 0 choices) r.2))
          by (inr h) = absurd h

  pub return-acts : (p : Path) → Finds' (Return p) → Acts (Return p)
  return-acts p finds = by-form (Return p) (Form.Return p) finds (record {
    typed = finds.typed;
    acts = refl;
    no_call = λ v. v;
    rows = refl;
    same_stack = refl;
    same_slots = refl;
    ports = refl;
    makes = refl;
    same = λ steps actions. (does steps actions).return p;
    ways = way-one (Return p) (Form.Return p) finds refl refl refl;
    meets = λ w e a h. let k = return-want name (c).scope b w values (given_back (c).scope (given_at (c).scope p) b) p e in meets-return k.0 k.1 k.2 p a (subst (λ w. Answers w a) (sym k.3) h);
  })

  pub return-by-acts : (p : Path) (e : ℕ) (kept : List ℕ) → Finds' (ReturnBy p e kept) → Acts (ReturnBy p e kept)
  return-by-acts p e kept finds = by-form (ReturnBy p e kept) (Form.ReturnBy p e) finds (record {
    typed = finds.typed;
    acts = refl;
    no_call = λ v. v;
    rows = refl;
    same_stack = refl;
    same_slots = refl;
    ports = refl;
    makes = refl;
    same = λ steps actions. (does steps actions).return_by p e kept finds.keeps;
    ways = way-one (ReturnBy p e kept) (Form.ReturnBy p e) finds refl refl refl;
    meets = λ w f a h. let k = return-want name (c).scope b w (Actions.raised e) (given_back (c).scope (given_by (c).scope p e) b) p f in meets-return_by k.0 k.1 k.2 p e a (subst (λ w. Answers w a) (sym k.3) h);
  })

  pub send-acts : (p o : Path) (trim : List Path) → Finds' (Send p o trim) → Acts (Send p o trim)
  send-acts [] o trim finds = none-not_some finds.typed.2.0.0
  send-acts (i ∷ q) o trim finds =
      let is : IsTypedIn x (processes x image formed ls m known labels name W) (c).scope (Form.Send (i ∷ q) o) = record { table = formed; variables = known; typed = finds.typed } in
      let d = source-there x (processes x image formed ls m known labels name W) (c).scope (i ∷ q) o is (has_of l) (λ f h. IsIn-listed f l.facts (finds.needs f h)) b holds.sound in
      let excess = trims-are_excess (c).scope i q o trim l.facts b finds.trims (listed-exact b.variables l.facts (holds.sound).facts) (ap is_some d.1) in
      by-form (Send (i ∷ q) o trim) (Form.Send (i ∷ q) o) finds (record {
        typed = finds.typed;
        acts = refl;
        no_call = λ v. v;
        rows = refl;
        same_stack = refl;
        same_slots = refl;
        ports = refl;
        makes = refl;
        same = λ steps actions. (does steps actions).send (i ∷ q) o trim excess;
        ways = way-one (Send (i ∷ q) o trim) (Form.Send (i ∷ q) o) finds refl refl refl;
        meets = λ w e a h. let k = send-want name (c).scope b w (i ∷ q) o e in meets-put k.0 k.1 (i ∷ q) o a (subst (λ w. Answers w a) (sym k.3) h);
      })

  -- any action but a call
  pub each-action : (i : Instruction) → actions.is_action (c).scope.types i ≡ true → (CodeLocal.IsCall i → ⊥) → Finds' i → Acts i
  each-action (New p t) acts no_call finds = new-acts p t finds (sym (inport-same (slice_get image.types t)) ∙ acts)
  each-action (Send p o trim) acts no_call finds = send-acts p o trim finds
  each-action (Receive p i) acts no_call finds = receive-acts p i finds
  each-action (Select choices) acts no_call finds = select-acts choices finds
  each-action (Call o arguments keeps) acts no_call finds = absurd (no_call tt)
  each-action (Return p) acts no_call finds = return-acts p finds
  each-action (ReturnBy p e kept) acts no_call finds = return-by-acts p e kept finds
  each-action (Create o n) acts no_call finds = create-acts o n finds
  each-action i acts no_call finds = absurd (false≢true acts)
