-- Calls of processes of good code: each is wanted, each answer leaves the process sound within itself, and so does the reply.
use Rattle.std.proofs.Common.{◌≡◌, ◌⊎◌, inl, inr, ℕ, suc, List, [], ◌∷◌, map, drop, length, Bool, true, false, cond, Option, Some, None, option_and_then, refl, sym, ap, subst, ◌∙◌}
use Rattle.std.specs.Prelude.{IsTrue, IsFalse}
use mathlib.Core.Bool.{false≢true}
use Rattle.herm_model.specs.Calls.{inport_at}
use Rattle.herm_model.specs.FactsOfValues.{HasExactly}
use Rattle.herm_model.specs.Lists.{IsIn, list_of, any_pass}
use Rattle.herm_model.specs.Outcomes.{Outcome, ok, is_true, is_false, turn, done, component, arm, raised}
use Rattle.herm_model.specs.Paths.{Path, Fact, init, case, path_of, is_at_or_below}
use Rattle.herm_model.specs.Statements.{Differ}
use Rattle.herm_model.specs.Types.{Raised}
use Rattle.herm_model.specs.Values.{Name, Cell, Value}
use Rattle.herm_model.specs.WellFormedTables.{IsType, IsWellFormedTable}
use Rattle.herm_model.proofs.FactTests.{IsIn-listed, listed-IsIn}
use Rattle.herm_model.proofs.Options.{none-not_some, some-injective}
use Rattle.herm_journal.specs.Actions.{to_put, to_hear, make_port, make_process, put, take, close, answer, hear}
use Rattle.herm_journal.specs.Messages.{CellWant, CellAction, CellReply, AreFull, IsMessage}
use Rattle.herm_system.specs.Suiting.{Answers}
use Rattle.herm_forms.specs.Exchanges.{outport_at}
use Rattle.herm_forms.specs.Frames.{Frame, Completion, goes, stays, counted_action}
use Rattle.herm_forms.specs.OpenCalls.{Calling, lent_paths, IsReply}
use Rattle.herm_forms.specs.laws.CallLaws.{without_lent}
use Rattle.herm_forms.specs.laws.EdgeLaws.{AreSound}
use Rattle.herm_forms.proofs.Counting.{recount}
use Rattle.herm_instructions.specs.Effects.{atom_of, label_behind}
use Rattle.herm_instructions.specs.GoodCode.{IsGood}
use Rattle.herm_instructions.specs.Images.{CodeModule, Image, instruction_at}
use Rattle.herm_instructions.specs.Instructions.{Argument, Instruction, Call}
use Rattle.herm_instructions.specs.Labels.{Label}
use Rattle.herm_instructions.specs.Operands.{count_inputs}
use Rattle.herm_instructions.specs.Places.{label_at}
use Rattle.herm_code_machine.specs.CodeActions.{inouts, code_wants, code_settles, code_hears}
use Rattle.herm_code_machine.specs.CodeLocal.{lent_by, IsCall, met_while_open, facts_at, stack_at, slots_at, AreSlots, inputs_of, IsLocallySoundCode}
use Rattle.herm_code_machine.specs.CodeSeen.{label_of}
use Rattle.herm_code_machine.specs.CodeStates.{Position, at_index, at_end, at_end_by, CodeState, on_by, run_on, state_behind, to_next_piece}
use Rattle.herm_code_machine.specs.CodeSteps.{an_action, a_reply, counted_if, met_at, settled, settled_action, settle_next, wanted_next}
use Rattle.herm_code_machine.specs.Pieces.{Piece, Met}
use Rattle.herm_code_machine.specs.ReadyCode.{ReadyCode, ready_code}
use Rattle.herm_code_machine.specs.Stacks.{Effect, leaving}
use Rattle.herm_code_machine.specs.laws.PieceLaws.{IsAtPiece}
use Rattle.herm_code_machine.proofs.RunsKeep.{AllOf}
use Rattle.herm_code_machine.proofs.sound.ActionSteps.{Acting, counted-is}
use Rattle.herm_code_machine.proofs.sound.AtLabels.{has_of, numbers, Finds, GoesWell}
use Rattle.herm_code_machine.proofs.sound.Between.{AreAlone, IsAtRest}
use Rattle.herm_code_machine.proofs.sound.Between as between
use Rattle.herm_code_machine.proofs.sound.CallArguments.{inouts-same}
use Rattle.herm_code_machine.proofs.sound.CallEffects as calls
use Rattle.herm_code_machine.proofs.sound.CopiedStacks.{AreCopied, copied-drop, label-copied}
use Rattle.herm_code_machine.proofs.sound.RunsThere as runs

split-cond : (t h : Bool) → IsTrue (cond t false h) → IsFalse t × IsTrue h
split-cond true h e = absurd (false≢true e)
split-cond false h e = (refl, e)

join-cond : (t h : Bool) → IsFalse t → IsTrue h → IsTrue (cond t false h)
join-cond true h e k = absurd (false≢true (sym e))
join-cond false h e k = k

pub is-call : (i : Instruction) → IsCall i → (o : Path) × (arguments : List Argument) × (keeps : List Raised) × (i ≡ Call o arguments keeps)
is-call (Call o arguments keeps) h = (o, arguments, keeps, refl)
is-call i h = absurd h

pub is-call-or : (i : Instruction) → IsCall i ⊎ (IsCall i → ⊥)
is-call-or (Call o arguments keeps) = inl tt
is-call-or i = inr (λ h. h)

module _ (exceptions' : ℕ) (image : Image) (good : IsGood exceptions' image) (formed : IsWellFormedTable exceptions' image.types) (m : CodeModule) (in-image : IsIn m image.modules) where
  abbrev pub code : ReadyCode
  code = ready_code image (label_at image.types image.constants) m

  abbrev Way : ℕ → Instruction → Label → Outcome → Type 0
  Way i instruction l q = between.HasWay exceptions' image good formed m in-image i instruction l q

  abbrev Reaches : CodeState Name → CodeState Name → Type 0
  Reaches s t = runs.Reaches exceptions' image good formed m in-image s t

  abbrev pub calling_of : Path → List Argument → Calling
  calling_of o arguments = record { port = o; arguments = map atom_of arguments }

  -- a process at a call, whose values are those of a process with the call open
  pub record IsOpenAt (s : CodeState Name) (i : ℕ) (o : Path) (arguments : List Argument) (keeps : List Raised) (l : Label) : Type 0 where
    pub position : s.position ≡ at_index i
    pub at : instruction_at m i ≡ Some (Call o arguments keeps)
    pub labelled : code.label i ≡ Some l
    pub sound : AreSound code.scope (without_lent code.scope (calling_of o arguments) (has_of l)) s.frame.variables
    pub stack : AreFull image.types (drop (count_inputs arguments) l.stack) s.stack
    pub copied : AreCopied image.types (drop (count_inputs arguments) l.stack)
    pub slots : AreSlots image.types l.slots s.frame.loops
    pub differ : Differ (numbers s.frame.loops)
    pub alone : AreAlone s.frame.work

  module _ (name : Name → Name) (i : ℕ) (o : Path) (arguments : List Argument) (keeps : List Raised) (l : Label) (at : instruction_at m i ≡ Some (Call o arguments keeps)) (labelled : code.label i ≡ Some l) where
    abbrev pub found : Finds exceptions' image m (Way i (Call o arguments keeps) l) (Call o arguments keeps) l
    found = between.finds-there exceptions' image good formed m in-image i (Call o arguments keeps) l at labelled

    lent-same : inouts arguments ≡ lent_paths code.scope (calling_of o arguments)
    lent-same = inouts-same image.types m.variables (calls.params exceptions' image formed good.constants m (between.good-module exceptions' image good formed m in-image).variables_known (label_at image.types image.constants) name (Way i (Call o arguments keeps) l) l o arguments keeps found) arguments
        (calls.are exceptions' image formed good.constants m (between.good-module exceptions' image good formed m in-image).variables_known (label_at image.types image.constants) name (Way i (Call o arguments keeps) l) l o arguments keeps found)

    -- while the call is open
    module _ (s : CodeState Name) (position : s.position ≡ at_index i) (k : ℕ) (opened : s.frame.call ≡ Some k) where
      met-open : met_while_open code s ≡ Some (record { index = i; instruction = Call o arguments keeps })
      met-open =
          ap (λ k. elim k [ None ↦ None | Some k ↦ met_at code s.position ]) opened ∙ ap (met_at code) position
          ∙ ap (λ (x : Option Instruction). elim x [ None ↦ None | Some instruction ↦ Some (record { index = i; instruction = instruction }) ]) at

      label-open : label_of code s.position ≡ Some l
      label-open = ap (label_of code) position ∙ labelled

      facts-open : facts_at code s ≡ l.facts
      facts-open = ap (list_of (λ (l : Label). l.facts)) label-open

      lent-open : (f : Fact) → any_pass (λ p. is_at_or_below p (path_of f)) (list_of (λ (m : Met). lent_by m.instruction) (met_while_open code s)) ≡ any_pass (λ p. is_at_or_below p (path_of f)) (lent_paths code.scope (calling_of o arguments))
      lent-open f = ap (λ (o : Option Met). any_pass (λ p. is_at_or_below p (path_of f)) (list_of (λ (m : Met). lent_by m.instruction) o)) met-open ∙ ap (any_pass (λ p. is_at_or_below p (path_of f))) lent-same

      abbrev left_of : Fact → Bool
      left_of f = without_lent code.scope (calling_of o arguments) (has_of l) f

      to-fact : (f : Fact) → IsTrue (left_of f) → IsIn f (facts_at code s) × IsFalse (any_pass (λ p. is_at_or_below p (path_of f)) (list_of (λ (m : Met). lent_by m.instruction) (met_while_open code s)))
      to-fact f h =
          let r = split-cond (any_pass (λ p. is_at_or_below p (path_of f)) (lent_paths code.scope (calling_of o arguments))) (has_of l f) h in
          (subst (IsIn f) (sym facts-open) (listed-IsIn f l.facts r.1), lent-open f ∙ r.0)

      from-fact : (f : Fact) → IsIn f (facts_at code s) → IsFalse (any_pass (λ p. is_at_or_below p (path_of f)) (list_of (λ (m : Met). lent_by m.instruction) (met_while_open code s))) → IsTrue (left_of f)
      from-fact f h k = join-cond (any_pass (λ p. is_at_or_below p (path_of f)) (lent_paths code.scope (calling_of o arguments))) (has_of l f) (sym (lent-open f) ∙ k) (IsIn-listed f l.facts (subst (IsIn f) facts-open h))

      pub sound-open : IsOpenAt s i o arguments keeps l → IsLocallySoundCode code s
      sound-open h = record {
        stands = subst (λ p. IsAtPiece code p) (sym position) (Call o arguments keeps, at, refl);
        label = λ j e. (l, ap code.label (same-index j e) ∙ labelled);
        values = record {
          values = λ p. ((λ v. to-fact (init p) ((h.sound.facts.values p).0 v)), (λ f. (h.sound.facts.values p).1 (from-fact (init p) f.0 f.1)));
          components = λ p c f. h.sound.facts.components p c (from-fact (case p c) f.0 f.1);
        };
        types = h.sound.types;
        stack = subst (λ (o : Option Met). AreFull image.types (elim o [ None ↦ stack_at code s | Some m ↦ drop (inputs_of m.instruction) (stack_at code s) ]) s.stack) (sym met-open)
            (subst (λ ts. AreFull image.types (drop (count_inputs arguments) ts) s.stack) (sym (ap (list_of (λ (l : Label). l.stack)) label-open)) h.stack);
        copies = subst (λ (o : Option Met). AreCopied image.types (elim o [ None ↦ stack_at code s | Some m ↦ drop (inputs_of m.instruction) (stack_at code s) ])) (sym met-open)
            (subst (λ ts. AreCopied image.types (drop (count_inputs arguments) ts)) (sym (ap (list_of (λ (l : Label). l.stack)) label-open)) h.copied);
        slots = subst (λ slots. AreSlots image.types slots s.frame.loops) (sym (ap (list_of (λ (l : Label). l.slots)) label-open)) h.slots;
        slots_differ = h.differ;
        call = λ k' e. (record { index = i; instruction = Call o arguments keeps }, ap (met_at code) position ∙ ap (λ (x : Option Instruction). elim x [ None ↦ None | Some instruction ↦ Some (record { index = i; instruction = instruction }) ]) at, tt);
        work = h.alone;
      }
        where
          index_in : Position → Option ℕ
          index_in (at_index j) = Some j
          index_in p = None

          same-index : (j : ℕ) → s.position ≡ at_index j → j ≡ i
          same-index j e = some-injective (ap index_in (sym e ∙ position))

      pub open-sound : IsLocallySoundCode code s → IsOpenAt s i o arguments keeps l
      open-sound h = record {
        position = position;
        at = at;
        labelled = labelled;
        sound = record {
          types = h.types;
          facts = record {
            values = λ p. ((λ v. let r = (h.values.values p).0 v in from-fact (init p) r.0 r.1), (λ f. (h.values.values p).1 (to-fact (init p) f)));
            components = λ p c f. h.values.components p c (to-fact (case p c) f);
          };
        };
        stack = subst (λ ts. AreFull image.types (drop (count_inputs arguments) ts) s.stack) (ap (list_of (λ (l : Label). l.stack)) label-open)
            (subst (λ (o : Option Met). AreFull image.types (elim o [ None ↦ stack_at code s | Some m ↦ drop (inputs_of m.instruction) (stack_at code s) ]) s.stack) met-open h.stack);
        copied = subst (λ ts. AreCopied image.types (drop (count_inputs arguments) ts)) (ap (list_of (λ (l : Label). l.stack)) label-open)
            (subst (λ (o : Option Met). AreCopied image.types (elim o [ None ↦ stack_at code s | Some m ↦ drop (inputs_of m.instruction) (stack_at code s) ])) met-open h.copies);
        slots = subst (λ slots. AreSlots image.types slots s.frame.loops) (ap (list_of (λ (l : Label). l.slots)) label-open) h.slots;
        differ = h.slots_differ;
        alone = h.work;
      }

  -- what goes on well from an instruction comes to the next piece
  settles-well : (name : Name → Name) (j : ℕ) (instruction : Instruction) (l : Label) (s : CodeState Name) (stack : List Value) (r : Completion Name) → GoesWell exceptions' image m (Way j instruction l) code instruction l (leaving stack r) → AllOf IsAtRest r → ((q : Outcome) → AreCopied image.types (label_behind image.types m.variables image.constants instruction q l).stack)
      → (t : CodeState Name) × (settled name code s j instruction stack r ≡ Some t) × Reaches s t
  settles-well name j instruction l s stack r g all copied =
      let rest = between.rest-of exceptions' image good formed m in-image r g.outcome g.frame g.completes all in
      let led = between.led-on exceptions' image good formed m in-image j instruction l s stack r g.outcome g.frame g.completes g.way g.holds (copied g.outcome) rest in
      let on = led.2 in
      let t = runs.next-there exceptions' image good formed m in-image name on.index on.label led.0 on.stands in
      (t.0, ap (option_and_then (to_next_piece name code)) led.1 ∙ t.1, (t.2.0, t.2.1, t.2.2 ∙ on.same))

  -- the stack behind the reply to a call
  pub behind-left : (o : Path) (arguments : List Argument) (keeps : List Raised) (l : Label) → AreCopied image.types (drop (count_inputs arguments) l.stack) → (q : Outcome) → AreCopied image.types (label_behind image.types m.variables image.constants (Call o arguments keeps) q l).stack
  behind-left o arguments keeps l h (raised e) = λ t k. absurd k
  behind-left o arguments keeps l h ok = h
  behind-left o arguments keeps l h is_true = h
  behind-left o arguments keeps l h is_false = h
  behind-left o arguments keeps l h turn = h
  behind-left o arguments keeps l h done = h
  behind-left o arguments keeps l h (component k) = h
  behind-left o arguments keeps l h (arm n) = h

  -- what an answer to a call leaves: the call open, or a process at rest
  abbrev pub LeftBy : CellAction Name → CodeState Name → Type 0
  LeftBy (put (Some n) message) t = (k : ℕ) × (t.frame.call ≡ Some k)
  LeftBy a t = IsAtRest t.frame

  pub record Answered (s : CodeState Name) (a : CellAction Name) (o : Option (CodeState Name)) : Type 0 where
    pub behind : CodeState Name
    pub is : o ≡ Some behind
    pub sound : IsLocallySoundCode code behind
    pub same : behind.module_number ≡ s.module_number
    pub left : LeftBy a behind

  module _ (name : Name → Name) where
    abbrev known : (t : ℕ) → IsIn t m.variables → IsType image.types t
    known = (between.good-module exceptions' image good formed m in-image).variables_known

    -- a call that is next: what it wants, and what each answer leaves
    pub record CallGoes (s : CodeState Name) (p : Piece) (met : Met) : Type 0 where
      pub port : ℕ
      pub message : Cell Name
      pub wanted : wanted_next name code s (an_action p met) ≡ Some (to_put port message)
      pub to : Path
      pub outport : outport_at to s.frame ≡ Some port
      pub type : ℕ
      pub leads : inport_at image.types m.variables to ≡ Some type
      pub is_message : IsMessage image.types type message
      pub answers : (at : ℕ) (a : CellAction Name) → Answers {R = CellReply Name} (to_put port message) a → Answered s a (settle_next name code s at a (an_action p met))

    module _ (s : CodeState Name) (p : Piece) (j : ℕ) (o : Path) (arguments : List Argument) (keeps : List Raised) (acting : Acting exceptions' image good formed m in-image name s p (record { index = j; instruction = Call o arguments keeps })) where
      abbrev i : Instruction
      i = Call o arguments keeps

      abbrev met_call : Met
      met_call = record { index = j; instruction = i }

      abbrev counted : Frame Name
      counted = recount (counted_if p.has_step s.frame).steps (suc s.frame.actions) s.frame

      abbrev l : Label
      l = (acting.there).label

      abbrev finds : Finds exceptions' image m (Way j i l) i l
      finds = found name j o arguments keeps l (acting.there).at (acting.there).labelled

      -- what settles from the values on the stack
      settles : (at : ℕ) (a : CellAction Name) (rest : List Value) (r : Completion Name) → code_settles name code i (acting.there).before at a counted ≡ leaving rest r → settle_next name code s at a (an_action p met_call) ≡ settled name code s j i rest r
      settles at a rest r is =
          ap (option_and_then (settled_action name code s p met_call at a)) (acting.there).operands
          ∙ ap (λ b. let e = code_settles name code i (acting.there).before at a b in settled name code s j i e.stack e.completion) (counted-is exceptions' image good formed m in-image name p.has_step s.frame)
          ∙ ap (λ (e : Effect Name). settled name code s j i e.stack e.completion) is

      placed : (at n : ℕ) (message : Cell Name) → Answered s (put (Some n) message) (settle_next name code s at (put (Some n) message) (an_action p met_call))
      placed at n message =
          let x = acting.there in
          let c = calls.call-placed exceptions' image formed good.constants m known (label_at image.types image.constants) name (Way j i l) l o arguments keeps finds x.before counted (x.holds).sound (x.holds).stack at n message in
          let t : CodeState Name = record { module_number = s.module_number; position = at_index j; stack = c.rest; frame = c.frame } in
          record {
            behind = t;
            is = settles at (put (Some n) message) c.rest (stays c.frame) c.completes ∙ ap (on_by name code (run_on name code (length m.code)) t j) x.at;
            sound = sound-open name j o arguments keeps l x.at x.labelled t refl c.number c.opened (record {
              position = refl;
              at = x.at;
              labelled = x.labelled;
              sound = c.sound;
              stack = c.stack_left;
              copied = copied-drop image.types (count_inputs arguments) l.stack x.copied;
              slots = subst (AreSlots image.types l.slots) (sym c.loops) (x.holds).slots;
              differ = subst (λ loops. Differ (numbers loops)) (sym c.loops) (x.holds).differ;
              alone = c.alone (acting.rest).1;
            });
            same = refl;
            left = (c.number, c.opened);
          }

      came-back : (at : ℕ) (message : Cell Name) → Answered s (put None message) (settle_next name code s at (put None message) (an_action p met_call))
      came-back at message =
          let x = acting.there in
          let c = calls.call-back exceptions' image formed good.constants m known (label_at image.types image.constants) name (Way j i l) l o arguments keeps finds x.before counted (x.holds).sound (x.holds).stack (x.holds).slots (x.holds).differ acting.rest at message in
          let on = c.on in
          let t = settles-well name j i l s c.rest c.completion on.goes on.at_rest (λ q. label-copied exceptions' image formed good.constants m (Way j i l) i q l finds x.copied) in
          record { behind = t.0; is = settles at (put None message) c.rest c.completion c.settles ∙ t.1; sound = t.2.0; same = t.2.2; left = t.2.1 }

      call-goes-at : CallGoes s p met_call
      call-goes-at =
          let x = acting.there in
          let w = calls.call-wants exceptions' image formed good.constants m known (label_at image.types image.constants) name (Way j i l) l o arguments keeps finds x.before s.frame (x.holds).sound (x.holds).stack in
          record {
            port = w.port;
            message = w.message;
            wanted = ap (option_and_then (λ stack. code_wants name code i stack s.frame)) x.operands ∙ w.wanted;
            to = o;
            outport = w.outport;
            type = w.type;
            leads = w.leads;
            is_message = w.is_message;
            answers = λ at a h. by w.port w.message at a h;
          }
        where
          by : (port : ℕ) (message : Cell Name) (at : ℕ) (a : CellAction Name) → Answers {R = CellReply Name} (to_put port message) a → Answered s a (settle_next name code s at a (an_action p met_call))
          by port message at (put (Some n) d) h = placed at n d
          by port message at (put None d) h = came-back at d
          by port message at a h = absurd h

    pub call-goes : (s : CodeState Name) (p : Piece) (met : Met) → Acting exceptions' image good formed m in-image name s p met → IsCall met.instruction → CallGoes s p met
    call-goes s p met acting h =
        let c = is-call met.instruction h in
        let same : record { index = met.index; instruction = Call c.0 c.1 c.2 } ≡ met = ap (λ (i : Instruction). record { index = met.index; instruction = i }) (sym c.3) in
        subst (CallGoes s p) same (call-goes-at s p met.index c.0 c.1 c.2 (subst (Acting exceptions' image good formed m in-image name s p) (sym same) acting))

    -- the reply to the open call
    heard-at : (s : CodeState Name) (k i : ℕ) (o : Path) (arguments : List Argument) (keeps : List Raised) (l : Label) → s.position ≡ at_index i → instruction_at m i ≡ Some (Call o arguments keeps) → code.label i ≡ Some l → s.frame.call ≡ Some k
        → IsLocallySoundCode code s → (r : CellReply Name) → IsReply code.scope (calling_of o arguments) r → (at : ℕ) → Answered s (hear k r) (settle_next name code s at (hear k r) (a_reply k i (Call o arguments keeps)))
    heard-at s k i o arguments keeps l position there labelled opened sound r reply at =
        let h = open-sound name i o arguments keeps l there labelled s position k opened sound in
        let g = calls.reply-goes exceptions' image formed good.constants m known (label_at image.types image.constants) name (Way i (Call o arguments keeps) l) l o arguments keeps (found name i o arguments keeps l there labelled) k r s.stack (counted_action s.frame) reply h.sound h.stack h.slots h.differ h.alone in
        let t = settles-well name i (Call o arguments keeps) l s s.stack (code_hears (Call o arguments keeps) k (hear k r) (counted_action s.frame)) g.goes g.at_rest (behind-left o arguments keeps l h.copied) in
        record { behind = t.0; is = t.1; sound = t.2.0; same = t.2.2; left = t.2.1 }

    -- the position of what is met
    pub met-index : (p : Position) (met : Met) → met_at code p ≡ Some met → (p ≡ at_index met.index) × (instruction_at m met.index ≡ Some met.instruction)
    met-index at_end met e = none-not_some e
    met-index (at_end_by x) met e = none-not_some e
    met-index (at_index i) met e = by (instruction_at m i) refl e
      where
        by : (o : Option Instruction) → instruction_at m i ≡ o → elim o [ None ↦ None | Some instruction ↦ Some (record { index = i; instruction = instruction }) ] ≡ Some met → (at_index i ≡ at_index met.index) × (instruction_at m met.index ≡ Some met.instruction)
        by None at e = none-not_some e
        by (Some instruction) at e =
            subst (λ (met : Met). (at_index i ≡ at_index met.index) × (instruction_at m met.index ≡ Some met.instruction)) (some-injective e) (refl, at)

    pub reply-heard : (s : CodeState Name) (k : ℕ) (met : Met) → IsLocallySoundCode code s → s.frame.call ≡ Some k → met_at code s.position ≡ Some met → (r : CellReply Name)
        → ((o : Path) (arguments : List Argument) (keeps : List Raised) → met.instruction ≡ Call o arguments keeps → IsReply code.scope (calling_of o arguments) r) → (at : ℕ) → Answered s (hear k r) (settle_next name code s at (hear k r) (a_reply k met.index met.instruction))
    reply-heard s k met sound opened there r reply at =
        let n = sound.call k opened in
        let same : n.0 ≡ met = some-injective (sym n.1 ∙ there) in
        let c = is-call met.instruction (subst (λ (met : Met). IsCall met.instruction) same n.2) in
        let p = met-index s.position met there in
        let l = sound.label met.index p.0 in
        subst (λ i. Answered s (hear k r) (settle_next name code s at (hear k r) (a_reply k met.index i))) (sym c.3)
        (heard-at s k met.index c.0 c.1 c.2 l.0 p.0 (p.1 ∙ ap Some c.3) l.1 opened sound r (reply c.0 c.1 c.2 c.3) at)
