-- A process of good code between two of its instructions: what its index's label says, and where each instruction leads.
use Rattle.std.proofs.Common.{◌≡◌, ◌⊎◌, inl, inr, ℕ, suc, ◌<◌, ◌≤◌, List, [], ◌∷◌, ◌++◌, map, Bool, true, false, cond, Option, Some, None, option_map, refl, sym, ap, subst, ◌∙◌, arith}
use Rattle.std.specs.Prelude.{slice_get, IsTrue, IsFalse, nat_le, pred}
use Rattle.std.proofs.lemmas.Bool.Decides.{nat_tests}
use Rattle.herm_model.specs.Lists.{IsIn, any_pass, list_of}
use Rattle.herm_model.specs.Paths.{Fact, init, case, same_fact, path_of, is_at_or_below}
use Rattle.herm_model.specs.Outcomes.{Outcome}
use Rattle.herm_model.specs.Finalising.{waits, pending, pending_in}
use Rattle.herm_model.specs.FactsOfValues.{HasExactly}
use Rattle.herm_model.specs.Values.{Kind, Cell, cell, Parts, no_parts, gap, part, Value}
use Rattle.herm_model.specs.WellFormedTables.{IsWellFormedTable}
use Rattle.herm_model.proofs.FactTests.{IsIn-listed, listed-IsIn}
use Rattle.herm_model.proofs.Lists.{in-append_cases, in-append_left, in-append_right}
use Rattle.herm_model.proofs.Options.{none-not_some, some-injective}
use Rattle.herm_journal.specs.Messages.{AreFull}
use Rattle.herm_forms.specs.Frames.{Name, Frame, Completion, goes}
use Rattle.herm_forms.specs.laws.EdgeLaws.{AreDeep}
use Rattle.herm_forms.proofs.KeptBodies.{IsKept, AnyLoops}
use Rattle.herm_instructions.specs.Instructions.{Instruction, Step, End, EndBy}
use Rattle.herm_instructions.specs.Labels.{Label}
use Rattle.herm_instructions.specs.Images.{CodeModule, Image, instruction_at}
use Rattle.herm_instructions.specs.Effects.{label_behind}
use Rattle.herm_instructions.specs.Places.{Way, goes_on, jumps, landing_ways, Place, named_ways, ways, label_at}
use Rattle.herm_instructions.specs.GoodCode.{Arrives, module_places, IsGoodModule, IsGood}
use Rattle.herm_instructions.proofs.FactsBehind.{values-fit}
use Rattle.herm_instructions.proofs.LabelsOfCode.{instructions-have_places, ways-lead, exceptions-land}
use Rattle.herm_code_machine.specs.ReadyCode.{ReadyCode, ready_code}
use Rattle.herm_code_machine.specs.Effects.{effect}
use Rattle.herm_code_machine.specs.CodeStates.{Position, at_index, CodeState, leads, stack_after, state_behind, done_instruction, begins_piece}
use Rattle.herm_code_machine.specs.CodeLocal.{AreSlots, WaitsAlone, lent_by, met_while_open, facts_at, stack_at, inputs_of, IsLocallySoundCode}
use Rattle.herm_code_machine.specs.CodeSeen.{label_of}
use Rattle.herm_code_machine.specs.CodeSteps.{met_at}
use Rattle.herm_code_machine.specs.Pieces.{Met}
use Rattle.herm_code_machine.specs.laws.GoodImageLaws.{IsEnd}
use Rattle.herm_code_machine.specs.laws.PieceLaws.{IsAtPiece}
use Rattle.herm_code_machine.proofs.RunsKeep.{AllOf}
use Rattle.herm_code_machine.proofs.kept.KeptEffects.{keeps-effect}
use Rattle.herm_code_machine.proofs.sound.AtLabels.{Holds, Finds}
use Rattle.herm_code_machine.proofs.sound.CopiedStacks.{AreCopied, label-copied}
use Rattle.herm_code_machine.proofs.sound.EachInstruction.{each-instruction}
use Rattle.herm_code_machine.proofs.sound.Ways.{ways-lead_there}

-- the way of an outcome to an index
abbrev way_by : ℕ → Outcome → Way
way_by n o = record { outcome = o; index = n }

-- work lists of inports and callmessages alone
abbrev pub AreAlone : List (Cell Name) → Type 0
AreAlone cs = (item : Cell Name) → IsIn item cs → WaitsAlone item

pub both-alone : (cs ds : List (Cell Name)) → AreAlone cs → AreAlone ds → AreAlone (cs ++ ds)
both-alone cs ds a b item h = by (in-append_cases item cs ds h)
  where
    by : IsIn item cs ⊎ IsIn item ds → WaitsAlone item
    by (inl h) = a item h
    by (inr h) = b item h

own-alone : (n : Name) (k : Kind) (b : Bool) → waits k ≡ b → AreAlone (cond b (cell n k no_parts ∷ []) [])
own-alone n k true w item (inl is) = subst WaitsAlone (sym is) w
own-alone n k true w item (inr h) = absurd h
own-alone n k false w item h = absurd h

mutual
  pub pending-alone : (c : Cell Name) → AreAlone (pending c)
  pending-alone (cell n k ps) = both-alone (cond (waits k) (cell n k no_parts ∷ []) []) (pending_in ps) (own-alone n k (waits k) refl) (pending-alone-in ps)

  pub pending-alone-in : (ps : Parts Name) → AreAlone (pending_in ps)
  pending-alone-in no_parts = λ item h. absurd h
  pending-alone-in (gap ps) = pending-alone-in ps
  pending-alone-in (part c ps) = both-alone (pending c) (pending_in ps) (pending-alone c) (pending-alone-in ps)

-- no call is open, and what waits to be finalised waits alone
abbrev pub IsAtRest : Frame Name → Type 0
IsAtRest b = (b.call ≡ None) × AreAlone b.work

pub rest-kept : IsKept IsAtRest
rest-kept = record {
  letting = record {
    value = λ d b h. (h.0, both-alone b.work (pending d) h.1 (pending-alone d));
    parts = λ ps b h. (h.0, both-alone b.work (pending_in ps) h.1 (pending-alone-in ps));
    name = λ m b h. h;
  };
  variables = λ ps b h. h;
  serial = λ s b h. h;
  calls = λ b h. h;
}

pub any-rest : AnyLoops IsAtRest
any-rest ls b h = h

-- facts as a list and as a test
pub exact-listed : (ps : Parts Name) (fs : List Fact) → HasExactly ps (λ f. IsIn f fs) → HasExactly ps (λ f. IsTrue (any_pass (same_fact f) fs))
exact-listed ps fs h = record {
  values = λ p. ((λ v. IsIn-listed (init p) fs ((h.values p).0 v)), (λ t. (h.values p).1 (listed-IsIn (init p) fs t)));
  components = λ p c t. h.components p c (listed-IsIn (case p c) fs t);
}

pub listed-exact : (ps : Parts Name) (fs : List Fact) → HasExactly ps (λ f. IsTrue (any_pass (same_fact f) fs)) → HasExactly ps (λ f. IsIn f fs)
listed-exact ps fs h = record {
  values = λ p. ((λ v. listed-IsIn (init p) fs ((h.values p).0 v)), (λ i. (h.values p).1 (IsIn-listed (init p) fs i)));
  components = λ p c i. h.components p c (IsIn-listed (case p c) fs i);
}

-- what is so where a label arrives
pub arrived : (c : ReadyCode) (arriving listed : Label) (stack : List Value) (b : Frame Name) → Arrives arriving listed → Holds c arriving stack b → Holds c listed stack b
arrived c arriving listed stack b a h = record {
  sound = record { types = (h.sound).types; facts = exact-listed b.variables listed.facts (values-fit b.variables arriving listed a (listed-exact b.variables arriving.facts (h.sound).facts)) };
  stack = subst (λ ts. AreFull c.scope.types ts stack) (sym a.stack) h.stack;
  slots = subst (λ slots. AreSlots c.scope.types slots b.loops) (sym a.slots) h.slots;
  differ = h.differ;
}

-- With no call open, a process at a label is sound within itself where it stands at a piece.
pub sound-at : (c : ReadyCode) (s : CodeState Name) (i : ℕ) (l : Label) → s.position ≡ at_index i → c.label i ≡ Some l → IsAtPiece c s.position → Holds c l s.stack s.frame → AreCopied c.scope.types l.stack → IsAtRest s.frame → IsLocallySoundCode c s
sound-at c s i l at labelled piece h copied rest =
    let idle : met_while_open c s ≡ None = ap (λ k. elim k [ None ↦ None | Some k ↦ met_at c s.position ]) rest.0 in
    let label : label_of c s.position ≡ Some l = ap (label_of c) at ∙ labelled in
    let facts : facts_at c s ≡ l.facts = ap (list_of (λ (l : Label). l.facts)) label in
    let free : (f : Fact) → any_pass (λ p. is_at_or_below p (path_of f)) (list_of (λ (m : Met). lent_by m.instruction) (met_while_open c s)) ≡ false = λ f. ap (λ (o : Option Met). any_pass (λ p. is_at_or_below p (path_of f)) (list_of (λ (m : Met). lent_by m.instruction) o)) idle in
    let exact = listed-exact s.frame.variables l.facts (h.sound).facts in
    record {
      stands = piece;
      label = λ j e. (l, ap c.label (same-index j e) ∙ labelled);
      values = record {
        values = λ p. ((λ v. (subst (IsIn (init p)) (sym facts) ((exact.values p).0 v), free (init p))), (λ f. (exact.values p).1 (subst (IsIn (init p)) facts f.0)));
        components = λ p k f. exact.components p k (subst (IsIn (case p k)) facts f.0);
      };
      types = (h.sound).types;
      stack = subst (λ (o : Option Met). AreFull c.scope.types (elim o [ None ↦ stack_at c s | Some m ↦ Rattle.std.specs.Prelude.drop (inputs_of m.instruction) (stack_at c s) ]) s.stack) (sym idle)
          (subst (λ ts. AreFull c.scope.types ts s.stack) (sym (ap (list_of (λ (l : Label). l.stack)) label)) h.stack);
      copies = subst (λ (o : Option Met). AreCopied c.scope.types (elim o [ None ↦ stack_at c s | Some m ↦ Rattle.std.specs.Prelude.drop (inputs_of m.instruction) (stack_at c s) ])) (sym idle)
          (subst (AreCopied c.scope.types) (sym (ap (list_of (λ (l : Label). l.stack)) label)) copied);
      slots = subst (λ slots. AreSlots c.scope.types slots s.frame.loops) (sym (ap (list_of (λ (l : Label). l.slots)) label)) h.slots;
      slots_differ = h.differ;
      call = λ k e. none-not_some (sym rest.0 ∙ e);
      work = rest.1;
    }
  where
    index_in : Position → Option ℕ
    index_in (at_index j) = Some j
    index_in p = None

    same-index : (j : ℕ) → s.position ≡ at_index j → j ≡ i
    same-index j e = some-injective (ap index_in (sym e ∙ at))

-- and back: what is so of a process at an index with no call open
pub holds-at : (c : ReadyCode) (s : CodeState Name) (i : ℕ) → s.position ≡ at_index i → s.frame.call ≡ None → IsLocallySoundCode c s → (l : Label) × (c.label i ≡ Some l) × Holds c l s.stack s.frame × AreCopied c.scope.types l.stack
holds-at c s i at closed sound =
    let l = sound.label i at in
    let idle : met_while_open c s ≡ None = ap (λ k. elim k [ None ↦ None | Some k ↦ met_at c s.position ]) closed in
    let label : label_of c s.position ≡ Some l.0 = ap (label_of c) at ∙ l.1 in
    let facts : facts_at c s ≡ (l.0).facts = ap (list_of (λ (l : Label). l.facts)) label in
    let free : (f : Fact) → any_pass (λ p. is_at_or_below p (path_of f)) (list_of (λ (m : Met). lent_by m.instruction) (met_while_open c s)) ≡ false = λ f. ap (λ (o : Option Met). any_pass (λ p. is_at_or_below p (path_of f)) (list_of (λ (m : Met). lent_by m.instruction) o)) idle in (
      l.0,
      l.1,
      record {
        sound = record {
          types = sound.types;
          facts = exact-listed s.frame.variables (l.0).facts (record {
            values = λ p. ((λ v. subst (IsIn (init p)) facts ((sound.values.values p).0 v).0), (λ f. (sound.values.values p).1 (subst (IsIn (init p)) (sym facts) f, free (init p))));
            components = λ p k f. sound.values.components p k (subst (IsIn (case p k)) (sym facts) f, free (case p k));
          });
        };
        stack = subst (λ ts. AreFull c.scope.types ts s.stack) (ap (list_of (λ (l : Label). l.stack)) label)
            (subst (λ (o : Option Met). AreFull c.scope.types (elim o [ None ↦ stack_at c s | Some m ↦ Rattle.std.specs.Prelude.drop (inputs_of m.instruction) (stack_at c s) ]) s.stack) idle sound.stack);
        slots = subst (λ slots. AreSlots c.scope.types slots s.frame.loops) (ap (list_of (λ (l : Label). l.slots)) label) sound.slots;
        differ = sound.slots_differ;
      },
      subst (AreCopied c.scope.types) (ap (list_of (λ (l : Label). l.stack)) label)
          (subst (λ (o : Option Met). AreCopied c.scope.types (elim o [ None ↦ stack_at c s | Some m ↦ Rattle.std.specs.Prelude.drop (inputs_of m.instruction) (stack_at c s) ])) idle sound.copies),
    )

before-or-not : (i j : ℕ) → (i < j) ⊎ (j ≤ i)
before-or-not i j = by (nat_le j i) refl
  where
    by : (b : Bool) → nat_le j i ≡ b → (i < j) ⊎ (j ≤ i)
    by true e = inr (grind (arith, nat_tests))
    by false e = inl (grind (arith, nat_tests))

module _ (exceptions' : ℕ) (image : Image) (good : IsGood exceptions' image) (formed : IsWellFormedTable exceptions' image.types) (m : CodeModule) (in-image : IsIn m image.modules) where
  abbrev pub labels : CodeModule → ℕ → Option Label
  labels = label_at image.types image.constants

  abbrev pub code : ReadyCode
  code = ready_code image labels m

  pub good-module : IsGoodModule exceptions' image m
  good-module = good.modules m in-image

  pub deep : AreDeep code.scope
  deep t h = formed.shallow t ((good-module).variables_known t h)

  -- An outcome of the instruction at an index leads to a label at which what is behind it arrives, further on or at a step.
  pub record HasWay (i : ℕ) (instruction : Instruction) (l : Label) (o : Outcome) : Type 0 where
    pub index : ℕ
    pub next : Label
    pub leads_there : leads code i instruction o ≡ Some index
    pub labelled : code.label index ≡ Some next
    pub arrives : Arrives (label_behind image.types m.variables image.constants instruction o l) next
    pub onward : (i < index) ⊎ (instruction_at m index ≡ Some Step)

  on-way : (i : ℕ) (o : Outcome) (g : Option Outcome) → g ≡ Some o → IsIn (way_by i o) (map (way_by i) (list_of (λ o. o ∷ []) g))
  on-way i o g e = subst (λ g. IsIn {X = Way} (way_by i o) (map (way_by i) (list_of (λ o. o ∷ []) g))) (sym e) (inl refl)

  -- what an instruction finds at its label, where each way has what is asked of its outcome
  pub finds-at : (W : Outcome → Type 0) (p : Place) (l : Label) → IsIn p (module_places exceptions' image m) → p.label ≡ Some l → ((w : Way) → IsIn w (ways p) → W w.outcome) → Finds exceptions' image m W p.instruction l
  finds-at W p l there label by = record {
    typed = (good-module).typed p l there label;
    stack = (good-module).stack p l there label;
    needs = (good-module).facts p l there label;
    slots = (good-module).slots p l there label;
    trims = (good-module).trims p l there label;
    keeps = (good-module).keeps p there;
    on = λ o e. by (way_by (suc p.index) o) (in-append_left (way_by (suc p.index) o) (map (way_by (suc p.index)) (list_of (λ o. o ∷ []) (goes_on p.instruction))) (named_ways p) (on-way (suc p.index) o (goes_on p.instruction) e));
    jumps = λ w h. by w (in-append_right w (map (way_by (suc p.index)) (list_of (λ o. o ∷ []) (goes_on p.instruction))) (named_ways p) (in-append_left w (jumps p.instruction) (landing_ways p.landings) h));
    raises = λ e h. let r = exceptions-land exceptions' image m good-module p there e h in subst W r.2 (by r.0 r.1);
  }

  next-index : (n : ℕ) (w : Way) (g : Option Outcome) → IsIn w (map (way_by n) (list_of (λ o. o ∷ []) g)) → w.index ≡ n
  next-index n w None h = absurd h
  next-index n w (Some o) (inl e) = ap (λ (w : Way). w.index) e
  next-index n w (Some o) (inr h) = absurd h

  onward-of : (p : Place) → IsIn p (module_places exceptions' image m) → (w : Way) → IsIn w (map (way_by (suc p.index)) (list_of (λ o. o ∷ []) (goes_on p.instruction))) ⊎ IsIn w (named_ways p) → (p.index < w.index) ⊎ (instruction_at m w.index ≡ Some Step)
  onward-of p there w (inl h) = let e = next-index (suc p.index) w (goes_on p.instruction) h in inl (omega (arith, e))
  onward-of p there w (inr h) = named (before-or-not p.index w.index)
    where
      named : (p.index < w.index) ⊎ (w.index ≤ p.index) → (p.index < w.index) ⊎ (instruction_at m w.index ≡ Some Step)
      named (inl lt) = inl lt
      named (inr le) = inr ((good.modules m in-image).goes_back p there w h le).1

  way-has : (p : Place) (l : Label) → IsIn p (module_places exceptions' image m) → p.label ≡ Some l → (w : Way) → IsIn w (ways p) → HasWay p.index p.instruction l w.outcome
  way-has p l there label w h =
      let next = ways-lead exceptions' image m good-module p l there label w h in
      record {
        index = w.index;
        next = next.0;
        leads_there = ways-lead_there exceptions' image m good-module code refl p there w h;
        labelled = next.1;
        arrives = next.2;
        onward = onward-of p there w (in-append_cases w (map (way_by (suc p.index)) (list_of (λ o. o ∷ []) (goes_on p.instruction))) (named_ways p) h);
      }

  pub finds-there : (i : ℕ) (instruction : Instruction) (l : Label) → instruction_at m i ≡ Some instruction → code.label i ≡ Some l → Finds exceptions' image m (HasWay i instruction l) instruction l
  finds-there i instruction l at labelled =
      let p = instructions-have_places exceptions' image m i instruction at in
      let label : (p.0).label ≡ Some l = (p.2).label ∙ labelled in
      subst (λ j. Finds exceptions' image m (HasWay j instruction l) instruction l) (p.2).index
      (subst (λ k. Finds exceptions' image m (HasWay (p.0).index k l) k l) (p.2).instruction
      (finds-at (HasWay (p.0).index (p.0).instruction l) p.0 l p.1 label (way-has p.0 l p.1 label)))

  -- a process between two instructions
  pub record StandsAt (i : ℕ) (l : Label) (s : CodeState Name) : Type 0 where
    pub position : s.position ≡ at_index i
    pub labelled : code.label i ≡ Some l
    pub holds : Holds code l s.stack s.frame
    pub copied : AreCopied image.types l.stack
    pub rest : IsAtRest s.frame

  -- what an outcome leads to
  pub record LeadsOn (i : ℕ) (s t : CodeState Name) : Type 0 where
    pub index : ℕ
    pub label : Label
    pub stands : StandsAt index label t
    pub onward : (i < index) ⊎ (instruction_at m index ≡ Some Step)
    pub same : t.module_number ≡ s.module_number

  pub led-on : (i : ℕ) (instruction : Instruction) (l : Label) (s : CodeState Name) (stack : List Value) (r : Completion Name) (o : Outcome) (b : Frame Name) → r ≡ goes o b → HasWay i instruction l o
      → Holds code (label_behind image.types m.variables image.constants instruction o l) (stack_after o stack) b → AreCopied image.types (label_behind image.types m.variables image.constants instruction o l).stack → IsAtRest b → (t : CodeState Name) × (state_behind code s i instruction stack r ≡ Some t) × LeadsOn i s t
  led-on i instruction l s stack r o b completes way holds copied rest =
      let t : CodeState Name = record { module_number = s.module_number; position = at_index way.index; stack = stack_after o stack; frame = b } in (
        t,
        ap (state_behind code s i instruction stack) completes ∙ ap (option_map (λ j. record { module_number = s.module_number; position = at_index j; stack = stack_after o stack; frame = b })) way.leads_there,
        record {
          index = way.index;
          label = way.next;
          stands = record { position = refl; labelled = way.labelled; holds = arrived code (label_behind image.types m.variables image.constants instruction o l) way.next (stack_after o stack) b way.arrives holds; copied = subst (AreCopied image.types) (sym (way.arrives).stack) copied; rest = rest };
          onward = way.onward;
          same = refl;
        },
      )

  pub rest-of : (r : Completion Name) (o : Outcome) (b : Frame Name) → r ≡ goes o b → AllOf IsAtRest r → IsAtRest b
  rest-of r o b e h = subst (AllOf IsAtRest) e h

  -- one instruction of a run
  pub done-there : (name : Name → Name) (i : ℕ) (instruction : Instruction) (l : Label) (s : CodeState Name) → instruction_at m i ≡ Some instruction → StandsAt i l s → (IsEnd instruction → ⊥) → begins_piece code instruction ≡ false
      → (t : CodeState Name) × (done_instruction name code s i instruction ≡ Some t) × LeadsOn i s t
  done-there name i instruction l s at here no_end other =
      let finds = finds-there i instruction l at here.labelled in
      let g = each-instruction exceptions' image formed good.constants m (good-module).variables_known labels name (HasWay i instruction l) l s.stack s.frame here.holds instruction no_end other finds in
      let e = effect name code instruction s.stack s.frame in
      let rest = rest-of e.completion g.outcome g.frame g.completes (keeps-effect name IsAtRest rest-kept any-rest code instruction s.stack s.frame here.rest) in
      let t = led-on i instruction l s e.stack e.completion g.outcome g.frame g.completes g.way g.holds (label-copied exceptions' image formed good.constants m (HasWay i instruction l) instruction g.outcome l finds here.copied) rest in
      (t.0, by instruction no_end ∙ t.1, t.2)
    where
      by : (instruction : Instruction) → (IsEnd instruction → ⊥) → done_instruction name code s i instruction ≡ state_behind code s i instruction (effect name code instruction s.stack s.frame).stack (effect name code instruction s.stack s.frame).completion
      by End no_end = absurd (no_end tt)
      by (EndBy x) no_end = absurd (no_end tt)
      by instruction no_end = refl
