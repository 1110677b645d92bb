-- What is so of a process at a label, what an instruction of good code finds there, and what it leaves.
use Rattle.std.proofs.Common.{◌≡◌, ℕ, List, [], ◌∷◌, map, Bool, Some, refl, sym, subst}
use Rattle.std.specs.Prelude.{IsTrue, IsFalse, ⊤}
use Rattle.herm_model.specs.Lists.{IsIn, any_pass}
use Rattle.herm_model.specs.Paths.{Fact, same_fact}
use Rattle.herm_model.specs.Outcomes.{Outcome, ok, is_true, is_false, turn, done, component, arm, raised, outcomes}
use Rattle.herm_model.specs.Statements.{Form, Differ}
use Rattle.herm_model.specs.FactsOfStatements.{needs}
use Rattle.herm_model.specs.Values.{Value}
use Rattle.herm_journal.specs.Messages.{AreFull}
use Rattle.herm_forms.specs.Acts.{is_action, act}
use Rattle.herm_forms.specs.Evaluate.{Evaluated, gives, raises, no_value}
use Rattle.herm_forms.specs.Frames.{Name, Loop, Frame, Completion, goes}
use Rattle.herm_forms.specs.laws.EdgeLaws.{AreSound, held_after}
use Rattle.herm_forms.specs.laws.ExpressionLaws.{ComesTo}
use Rattle.herm_forms.specs.laws.TypedForms.{IsTypedIn}
use Rattle.herm_forms.proofs.KeptBodies.{IsKept, IsVisit, All, went, all-act}
use Rattle.herm_forms.proofs.forms.PlainForms.{same_facts}
use Rattle.herm_forms.proofs.typed.EachForm.{each-local}
use Rattle.herm_forms.proofs.typed.EachGoes.{each-goes}
use Rattle.herm_instructions.specs.Instructions.{Instruction}
use Rattle.herm_instructions.specs.Labels.{Label}
use Rattle.herm_instructions.specs.Images.{CodeModule, Image}
use Rattle.herm_instructions.specs.Operands.{FindsOnStack}
use Rattle.herm_instructions.specs.Operands as operands
use Rattle.herm_instructions.specs.Effects.{facts_needed, facts_behind, exceptions_of, slots_behind, label_behind}
use Rattle.herm_instructions.specs.Places.{Way, goes_on, jumps}
use Rattle.herm_instructions.specs.GoodCode.{FindsSlots, TrimsExcess, KeepsAsDeclared, processes_of}
use Rattle.herm_instructions.specs.TypedInstructions.{IsTypedInstruction}
use Rattle.herm_code_machine.specs.ReadyCode.{ReadyCode}
use Rattle.herm_code_machine.specs.Stacks.{Effect, leaving, pushing}
use Rattle.herm_code_machine.specs.Effects.{effect}
use Rattle.herm_code_machine.specs.CodeStates.{stack_after}
use Rattle.herm_code_machine.specs.CodeLocal.{AreSlots}

-- the facts of a label, as a test
abbrev pub has_of : Label → Fact → Bool
has_of l f = any_pass (same_fact f) l.facts

abbrev pub numbers : List (Loop Name) → List ℕ
numbers loops = map (λ (l : Loop Name). l.statement) loops

-- values, stack and lists of rows are what a label says
pub record Holds (c : ReadyCode) (l : Label) (values : List Value) (b : Frame Name) : Type 0 where
  pub sound : AreSound c.scope (has_of l) b.variables
  pub stack : AreFull c.scope.types l.stack values
  pub slots : AreSlots c.scope.types l.slots b.loops
  pub differ : Differ (numbers b.loops)

module _ (exceptions : ℕ) (image : Image) (m : CodeModule) (HasWay : Outcome → Type 0) where
  -- what an instruction of good code finds at a label, where some outcomes have a way
  pub record Finds (i : Instruction) (l : Label) : Type 0 where
    pub typed : IsTypedInstruction image.types m.variables exceptions image.constants (processes_of image.modules) i
    pub stack : FindsOnStack image.types image.constants m.variables i l.stack
    pub needs : (f : Fact) → IsIn f (facts_needed image.types m.variables i) → IsIn f l.facts
    pub slots : FindsSlots image.types m.variables i l.slots
    pub trims : TrimsExcess image.types m.variables i l.facts
    pub keeps : KeepsAsDeclared image.types m.variables i
    pub on : (o : Outcome) → goes_on i ≡ Some o → HasWay o
    pub jumps : (w : Way) → IsIn w (jumps i) → HasWay w.outcome
    pub raises : (e : ℕ) → IsIn e (exceptions_of image.types m.variables i) → HasWay (raised e)

  -- an effect goes on with an outcome that has a way, and leaves what the label behind it says
  pub record GoesWell (c : ReadyCode) (i : Instruction) (l : Label) (e : Effect Name) : Type 0 where
    pub outcome : Outcome
    pub frame : Frame Name
    pub completes : e.completion ≡ goes outcome frame
    pub way : HasWay outcome
    pub holds : Holds c (label_behind image.types m.variables image.constants i outcome l) (stack_after outcome e.stack) frame

module _ (image : Image) (m : CodeModule) (c : ReadyCode) (i : Instruction) (l : Label) where
  abbrev pub behind_stack : List ℕ
  behind_stack = operands.stack_behind image.types image.constants m.variables i l.stack

  -- the stack and the lists of rows behind an outcome
  abbrev pub StackFor : Outcome → List Value → Type 0
  StackFor (raised e) stack = ⊤
  StackFor o stack = AreFull c.scope.types behind_stack stack

  abbrev pub SlotsFor : Outcome → List (Loop Name) → Type 0
  SlotsFor (raised e) loops = AreSlots c.scope.types l.slots loops
  SlotsFor o loops = AreSlots c.scope.types (slots_behind image.types m.variables i l.slots) loops

  abbrev pub has_behind : Outcome → Fact → Bool
  has_behind o f = any_pass (same_fact f) (facts_behind image.types m.variables i o l.facts)

  pub holds-behind : (o : Outcome) (stack : List Value) (b : Frame Name) → AreSound c.scope (has_behind o) b.variables → StackFor o stack → SlotsFor o b.loops → Differ (numbers b.loops)
      → Holds c (label_behind image.types m.variables image.constants i o l) (stack_after o stack) b
  holds-behind (raised e) stack b sound full slots differ = record { sound = sound; stack = tt; slots = slots; differ = differ }
  holds-behind ok stack b sound full slots differ = record { sound = sound; stack = full; slots = slots; differ = differ }
  holds-behind is_true stack b sound full slots differ = record { sound = sound; stack = full; slots = slots; differ = differ }
  holds-behind is_false stack b sound full slots differ = record { sound = sound; stack = full; slots = slots; differ = differ }
  holds-behind turn stack b sound full slots differ = record { sound = sound; stack = full; slots = slots; differ = differ }
  holds-behind done stack b sound full slots differ = record { sound = sound; stack = full; slots = slots; differ = differ }
  holds-behind (component k) stack b sound full slots differ = record { sound = sound; stack = full; slots = slots; differ = differ }
  holds-behind (arm n) stack b sound full slots differ = record { sound = sound; stack = full; slots = slots; differ = differ }

  -- where the instruction leaves the slots as they are, and this stack
  pub stack-for : (o : Outcome) (stack : List Value) → AreFull c.scope.types behind_stack stack → StackFor o stack
  stack-for (raised e) stack h = tt
  stack-for ok stack h = h
  stack-for is_true stack h = h
  stack-for is_false stack h = h
  stack-for turn stack h = h
  stack-for done stack h = h
  stack-for (component k) stack h = h
  stack-for (arm n) stack h = h

  pub slots-for : slots_behind image.types m.variables i l.slots ≡ l.slots → (o : Outcome) (loops : List (Loop Name)) → AreSlots c.scope.types l.slots loops → SlotsFor o loops
  slots-for same (raised e) loops h = h
  slots-for same ok loops h = subst (λ slots. AreSlots c.scope.types slots loops) (sym same) h
  slots-for same is_true loops h = subst (λ slots. AreSlots c.scope.types slots loops) (sym same) h
  slots-for same is_false loops h = subst (λ slots. AreSlots c.scope.types slots loops) (sym same) h
  slots-for same turn loops h = subst (λ slots. AreSlots c.scope.types slots loops) (sym same) h
  slots-for same done loops h = subst (λ slots. AreSlots c.scope.types slots loops) (sym same) h
  slots-for same (component k) loops h = subst (λ slots. AreSlots c.scope.types slots loops) (sym same) h
  slots-for same (arm n) loops h = subst (λ slots. AreSlots c.scope.types slots loops) (sym same) h

-- forms but tests of `for` leave the lists of rows
module _ (name : Name → Name) where
  loops-kept : (loops : List (Loop Name)) → IsKept (λ (b : Frame Name). b.loops ≡ loops)
  loops-kept loops = record { letting = record { value = λ d b h. h; parts = λ ps b h. h; name = λ n b h. h }; variables = λ ps b h. h; serial = λ s b h. h; calls = λ b h. h }

  went-on : (Is Stay : Frame Name → Type 0) (r : Completion Name) (o : Outcome) (b : Frame Name) → r ≡ goes o b → All Is Stay r → Is b
  went-on Is Stay r o b e h = by (subst (All Is Stay) e h)
    where
      by : All Is Stay (goes o b) → Is b
      by (went o' b' h) = h

  pub same-loops : (c : ReadyCode) (form : Form) → (IsVisit form → ⊥) → (b b' : Frame Name) (o : Outcome) → act name c.scope 0 form b ≡ goes o b' → b'.loops ≡ b.loops
  same-loops c form plain b b' o e =
      went-on (λ d. d.loops ≡ b.loops) (λ d. d.loops ≡ b.loops) (act name c.scope 0 form b) o b' e
      (all-act name (λ d. d.loops ≡ b.loops) (λ d. d.loops ≡ b.loops) (loops-kept b.loops) c.scope 0 form b refl (λ v. absurd (plain v)))

-- an instruction that does a form
module _ (exceptions : ℕ) (image : Image) (m : CodeModule) (HasWay : Outcome → Type 0) (c : ReadyCode) (types : c.scope.types ≡ image.types) (name : Name → Name) where
  -- the form finds what it needs, and does what the instruction does
  pub record DoneBy (i : Instruction) (l : Label) (form : Form) (rest : List Value) : Type 0 where
    pub is : IsTypedIn exceptions (processes_of image.modules) c.scope form
    pub local : IsFalse (is_action c.scope form)
    pub plain : IsVisit form → ⊥
    pub needed : (f : Fact) → IsIn f (needs c.scope.types c.scope.variables form) → IsTrue (has_of l f)
    pub behind : (o : Outcome) (f : Fact) → held_after c.scope.types c.scope.variables form o (has_of l) f ≡ has_behind image m c i l o f
    pub same_slots : slots_behind image.types m.variables i l.slots ≡ l.slots
    pub full : AreFull c.scope.types (behind_stack image m c i l) rest
    pub ways : (o : Outcome) → IsIn o (outcomes c.scope.types c.scope.variables form) → HasWay o

  pub by-form : (i : Instruction) (l : Label) (form : Form) (stack rest : List Value) (b : Frame Name) → Holds c l stack b → DoneBy i l form rest → GoesWell exceptions image m HasWay c i l (leaving rest (act name c.scope 0 form b))
  by-form i l form stack rest b holds d =
      let x = each-goes exceptions (processes_of image.modules) c.scope form d.is d.local name 0 (has_of l) b holds.sound d.needed (λ r t row e. absurd (d.plain (subst IsVisit (sym e) tt))) in
      let sound = each-local exceptions (processes_of image.modules) c.scope form d.plain d.is name 0 (has_of l) b x.1 x.0 holds.sound d.needed x.2 in
      let loops = same-loops name c form d.plain b x.1 x.0 x.2 in
      record {
        outcome = x.0;
        frame = x.1;
        completes = x.2;
        way = d.ways x.0 x.3;
        holds = holds-behind image m c i l x.0 rest x.1
            (same_facts c.scope (held_after c.scope.types c.scope.variables form x.0 (has_of l)) (has_behind image m c i l x.0) (x.1).variables (d.behind x.0) sound)
            (stack-for image m c i l x.0 rest d.full)
            (slots-for image m c i l d.same_slots x.0 (x.1).loops (subst (AreSlots c.scope.types l.slots) (sym loops) holds.slots))
            (subst (λ loops. Differ (numbers loops)) (sym loops) holds.differ);
      }

  -- an instruction that pushes what an evaluation gives
  pub pushes-well : (i : Instruction) (l : Label) (t : ℕ) (ts : List ℕ) (v : Evaluated) (stack rest : List Value) (b : Frame Name) → Holds c l stack b → effect name c i stack b ≡ pushing v rest b
      → ComesTo c.scope t v → behind_stack image m c i l ≡ t ∷ ts → AreFull c.scope.types ts rest → slots_behind image.types m.variables i l.slots ≡ l.slots → ((o : Outcome) (f : Fact) → has_of l f ≡ has_behind image m c i l o f)
      → HasWay ok → ((x : ℕ) → v ≡ raises x → HasWay (raised x)) → GoesWell exceptions image m HasWay c i l (effect name c i stack b)
  pushes-well i l t ts v stack rest b holds does comes same full slots facts way ways = subst (GoesWell exceptions image m HasWay c i l) (sym does) (by v comes ways)
    where
      by : (v : Evaluated) → ComesTo c.scope t v → ((x : ℕ) → v ≡ raises x → HasWay (raised x)) → GoesWell exceptions image m HasWay c i l (pushing v rest b)
      by (gives v) comes ways = record {
        outcome = ok;
        frame = b;
        completes = refl;
        way = way;
        holds = holds-behind image m c i l ok (v ∷ rest) b (same_facts c.scope (has_of l) (has_behind image m c i l ok) b.variables (facts ok) holds.sound) (subst (λ ts. AreFull c.scope.types ts (v ∷ rest)) (sym same) (comes, full))
            (slots-for image m c i l slots ok b.loops holds.slots) holds.differ;
      }
      by (raises x) comes ways = record {
        outcome = raised x;
        frame = b;
        completes = refl;
        way = ways x refl;
        holds = holds-behind image m c i l (raised x) [] b (same_facts c.scope (has_of l) (has_behind image m c i l (raised x)) b.variables (facts (raised x)) holds.sound) tt holds.slots holds.differ;
      }
      by no_value comes ways = absurd comes
