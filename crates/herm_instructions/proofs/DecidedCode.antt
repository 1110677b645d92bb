-- The tests of code modules and images decide which are good.
use Rattle.std.proofs.Common.{◌≡◌, ◌↔◌, ℕ, ◌<◌, ◌≤◌, List, [], ◌∷◌, map, length, Bool, true, false, not, ◌||◌, inl, inr, nat_eq, nat_lt, nat_le, Option, Some, None, is_some, slice_get, IsTrue, refl, sym, ap, subst, ◌∙◌, arith, true≢false}
use Rattle.herm_model.specs.Lists.{IsIn, all_pass, any_pass, map_or}
use Rattle.herm_model.specs.Paths.{Fact, init, case, same_fact}
use Rattle.herm_model.specs.Types.{inport, TypeTable}
use Rattle.herm_model.specs.Facts.{prefixes, IsClosed}
use Rattle.herm_model.specs.TypedExpressions.{HasShape, IsLiteralOf}
use Rattle.herm_model.specs.WellFormedTables.{IsType}
use Rattle.herm_model.specs.tests.TableTests.{on_inport}
use Rattle.herm_model.specs.tests.BodyTests.{is_empty}
use Rattle.herm_model.proofs.Lists.{not_true}
use Rattle.herm_model.proofs.Options.{some-injective, none-not_some}
use Rattle.herm_model.proofs.Deciding.{Decides, through, both-decide, true-decides, false-decides, numbers-decide, below-decides, at_most-decides, paths-decide, facts-decide, all-decide, chosen-decides, member-decides, rise-decides, itself}
use Rattle.herm_model.proofs.DecidedTables.{inport-decides, none-broken, all-kept}
use Rattle.herm_model.proofs.DecidedForms.{IsRegular, well_formed-regular}
use Rattle.herm_instructions.specs.Instructions.{Instruction, Step}
use Rattle.herm_instructions.specs.Actions.{is_step}
use Rattle.herm_instructions.specs.Labels.{Label, ListedLabel, listed_at}
use Rattle.herm_instructions.specs.Images.{Landing, CodeModule, Image}
use Rattle.herm_instructions.specs.Operands.{type_of_literal}
use Rattle.herm_instructions.specs.Effects.{facts_needed, exceptions_of}
use Rattle.herm_instructions.specs.Places.{Way, Place, named_ways, ways, label_at_start, targets}
use Rattle.herm_instructions.specs.GoodCode.{Arrives, processes_of, listed_indices, module_places, behind, GoesBackToStep, IsGoodModule}
use Rattle.herm_instructions.specs.tests.InstructionTests.{same_slot, are_among, is_constant}
use Rattle.herm_instructions.specs.tests.GoodTests.{is_case, fits, is_closed, is_listed_step, CodeRule, port, variables_known, code, landings_listed, labels_rise, labels_listed, labels_closed, typed, stack, facts, slots, trims, in_range, begins, arrives, goes_back, acts_at_once, keeps, landings, code_rules, of_each_labelled, arrives_fitting, keeps_code_rule, broken_code_rules}
use Rattle.herm_instructions.specs.laws.GoodLaws.{CodeKeeps, TestsDecideCode, NoneBrokenIsGood, TestDecidesImages}
use Rattle.herm_instructions.proofs.DecidedInstructions.{lists-decide, among-decides, same_members-decide, slot-decides, landings-decide, constant-decides, stack-decides, slots-decide, trims-decides, keeps-decides, instruction-decides}
use Rattle.herm_instructions.proofs.PlacesOfCode.{Follow, module-follows, instruction-there}
use Rattle.herm_instructions.proofs.ActingAtOnce.{GoesBack, HandedOn, pass-complete, pass-sound}

empty-decides : {X : Type 0} (xs : List X) → Decides (is_empty xs) (xs ≡ [])
empty-decides [] = true-decides refl
empty-decides (x ∷ xs) = false-decides (λ e. absurd (true≢false (sym (ap is_empty e))))

-- a test of what there is, where there is something
if-there-decides : {X : Type 0} (test : X → Bool) (P : X → Type 0) → ((x : X) → Decides (test x) (P x)) → (o : Option X) → Decides (map_or true test o) ((x : X) → o ≡ Some x → P x)
if-there-decides test P each None = true-decides (λ x e. none-not_some e)
if-there-decides test P each (Some y) = through _ (λ p x e. subst P (some-injective e) p) (λ h. h y refl) (each y)

-- a test that counts where another one holds
where-decides : {P Q : Type 0} (a b : Bool) → Decides a P → Decides b Q → Decides (not a || b) (P → Q)
where-decides true b d e = through _ (λ q p. q) (λ h. h (d.0 refl)) e
where-decides false b d e = true-decides (λ p. not_true (d.1 p))

-- the facts but those on components
abbrev IsInit : List Fact → Fact → Type 0
IsInit fs (init p) = IsIn (init p) fs
IsInit fs (case p c) = Unit {0}

fits-decides : (a l : Label) → Decides (fits a l) (Arrives a l)
fits-decides a l = through _ to from tests
  where
    init-decides : (f : Fact) → Decides (is_case f || any_pass (same_fact f) l.facts) (IsInit l.facts f)
    init-decides (init p) = member-decides same_fact facts-decide (init p) l.facts
    init-decides (case p c) = true-decides tt

    tests : Decides (fits a l) ((l.stack ≡ a.stack) × ((l.slots ≡ a.slots) × (((f : Fact) → IsIn f l.facts → IsIn f a.facts) × ((f : Fact) → IsIn f a.facts → IsInit l.facts f))))
    tests =
        both-decide _ _ (paths-decide l.stack a.stack)
        (both-decide _ _ (lists-decide same_slot slot-decides l.slots a.slots)
        (both-decide _ _ (among-decides same_fact facts-decide l.facts a.facts) (all-decide (λ f. is_case f || any_pass (same_fact f) l.facts) (IsInit l.facts) init-decides a.facts)))

    to : (l.stack ≡ a.stack) × ((l.slots ≡ a.slots) × (((f : Fact) → IsIn f l.facts → IsIn f a.facts) × ((f : Fact) → IsIn f a.facts → IsInit l.facts f))) → Arrives a l
    to h = record {
      stack = h.0;
      slots = h.1.0;
      values = λ p. (h.1.1.0 (init p), h.1.1.1 (init p));
      components = λ p c. h.1.1.0 (case p c);
    }

    from : Arrives a l → (l.stack ≡ a.stack) × ((l.slots ≡ a.slots) × (((f : Fact) → IsIn f l.facts → IsIn f a.facts) × ((f : Fact) → IsIn f a.facts → IsInit l.facts f)))
    from r = (r.stack, (r.slots, (known, back)))
      where
        known : (f : Fact) → IsIn f l.facts → IsIn f a.facts
        known (init p) i = (r.values p).0 i
        known (case p c) i = r.components p c i

        back : (f : Fact) → IsIn f a.facts → IsInit l.facts f
        back (init p) i = (r.values p).1 i
        back (case p c) i = tt

closed-decides : (table : TypeTable) (variables : List ℕ) (fs : List Fact) → Decides (is_closed table variables fs) (IsClosed table variables (λ f. IsIn f fs))
closed-decides table variables fs =
    through _ (λ h f g i j. h f i g j) (λ h f i g j. h f g i j)
    (all-decide (λ f. are_among same_fact (prefixes table variables f) fs) (λ f. (g : Fact) → IsIn g (prefixes table variables f) → IsIn g fs) (λ f. among-decides same_fact facts-decide (prefixes table variables f) fs) fs)

step-is : (i : Instruction) → Decides (is_step i) (i ≡ Step)
step-is Step = true-decides refl
step-is i = false-decides (λ e. let k : ⊥ = cc e in k)

step_there-decides : (o : Option Instruction) → Decides (map_or false is_step o) (o ≡ Some Step)
step_there-decides None = false-decides (λ e. none-not_some e)
step_there-decides (Some i) = through _ (λ e. ap Some e) (λ e. some-injective e) (step-is i)

listed_step-decides : (m : CodeModule) (n : ℕ) → Decides (is_listed_step m n) ((l : Label) × (slice_get m.code n ≡ Some Step) × (listed_at m.labels n ≡ Some l) × (l.stack ≡ []))
listed_step-decides m n =
    through _ (λ h. (h.1.0, h.0, h.1.1, h.1.2)) (λ h. (h.1, (h.0, h.2, h.3)))
    (both-decide _ _ (step_there-decides (slice_get m.code n)) (chosen-decides (λ (l : Label). is_empty l.stack) (λ (l : Label). l.stack ≡ []) (λ (l : Label). empty-decides l.stack) (listed_at m.labels n)))

rule-listed : (rule : CodeRule) → IsIn rule code_rules
rule-listed port = inl refl
rule-listed variables_known = inr (inl refl)
rule-listed code = inr (inr (inl refl))
rule-listed landings_listed = inr (inr (inr (inl refl)))
rule-listed labels_rise = inr (inr (inr (inr (inl refl))))
rule-listed labels_listed = inr (inr (inr (inr (inr (inl refl)))))
rule-listed labels_closed = inr (inr (inr (inr (inr (inr (inl refl))))))
rule-listed typed = inr (inr (inr (inr (inr (inr (inr (inl refl)))))))
rule-listed stack = inr (inr (inr (inr (inr (inr (inr (inr (inl refl))))))))
rule-listed facts = inr (inr (inr (inr (inr (inr (inr (inr (inr (inl refl)))))))))
rule-listed slots = inr (inr (inr (inr (inr (inr (inr (inr (inr (inr (inl refl))))))))))
rule-listed trims = inr (inr (inr (inr (inr (inr (inr (inr (inr (inr (inr (inl refl)))))))))))
rule-listed in_range = inr (inr (inr (inr (inr (inr (inr (inr (inr (inr (inr (inr (inl refl))))))))))))
rule-listed begins = inr (inr (inr (inr (inr (inr (inr (inr (inr (inr (inr (inr (inr (inl refl)))))))))))))
rule-listed arrives = inr (inr (inr (inr (inr (inr (inr (inr (inr (inr (inr (inr (inr (inr (inl refl))))))))))))))
rule-listed goes_back = inr (inr (inr (inr (inr (inr (inr (inr (inr (inr (inr (inr (inr (inr (inr (inl refl)))))))))))))))
rule-listed acts_at_once = inr (inr (inr (inr (inr (inr (inr (inr (inr (inr (inr (inr (inr (inr (inr (inr (inl refl))))))))))))))))
rule-listed keeps = inr (inr (inr (inr (inr (inr (inr (inr (inr (inr (inr (inr (inr (inr (inr (inr (inr (inl refl)))))))))))))))))
rule-listed landings = inr (inr (inr (inr (inr (inr (inr (inr (inr (inr (inr (inr (inr (inr (inr (inr (inr (inr (inl refl))))))))))))))))))

module _ (exceptions : ℕ) (image : Image) (m : CodeModule) where
  abbrev ps : List Place
  ps = module_places exceptions image m

  labelled-decides : (test : Place → Label → Bool) (P : Place → Label → Type 0) → ((p : Place) (l : Label) → Decides (test p l) (P p l)) → Decides (of_each_labelled exceptions image m test) ((p : Place) (l : Label) → IsIn p ps → p.label ≡ Some l → P p l)
  labelled-decides test P each =
      through _ (λ h p l i e. h p i l e) (λ h p i l e. h p l i e)
      (all-decide (λ (p : Place). map_or true (test p) p.label) (λ (p : Place). (l : Label) → p.label ≡ Some l → P p l) (λ (p : Place). if-there-decides (test p) (P p) (each p) p.label) ps)

  back-decides : (p : Place) → Decides (all_pass (λ (w : Way). not (nat_le w.index p.index) || is_listed_step m w.index) (named_ways p)) (GoesBackToStep exceptions image m p)
  back-decides p =
      all-decide (λ (w : Way). not (nat_le w.index p.index) || is_listed_step m w.index) (λ (w : Way). w.index ≤ p.index → (l : Label) × (slice_get m.code w.index ≡ Some Step) × (listed_at m.labels w.index ≡ Some l) × (l.stack ≡ []))
      (λ (w : Way). where-decides _ _ (at_most-decides w.index p.index) (listed_step-decides m w.index)) (named_ways p)

  goes_back-decides : Decides (keeps_code_rule exceptions image m goes_back) (CodeKeeps exceptions image m goes_back)
  goes_back-decides = all-decide _ (GoesBackToStep exceptions image m) back-decides ps

  back-to_steps : CodeKeeps exceptions image m goes_back → GoesBack image.types ps (module-follows image.types image.constants m)
  back-to_steps g p q w i j k e l =
      let found = g p i w k l in
      let same : q.instruction ≡ Step = some-injective (sym (instruction-there image.types image.constants m q j) ∙ ap (slice_get m.code) (sym e) ∙ found.1) in
      subst (λ x. IsTrue (is_step x)) (sym same) refl

  acts-decide : CodeKeeps exceptions image m goes_back → Decides (keeps_code_rule exceptions image m acts_at_once) (CodeKeeps exceptions image m acts_at_once)
  acts-decide g = (
    λ h. pass-sound image.types ps follow (back-to_steps g) ps 0 follow (λ p i. i) false [] begins_with_nothing h,
    λ acts. pass-complete image.types ps follow acts 0 ps follow (λ p i. i) false [] (λ e. absurd (true≢false (sym e))) (λ n i. absurd i),
  )
    where
      follow : Follow 0 ps
      follow = module-follows image.types image.constants m

      begins_with_nothing : HandedOn image.types ps follow 0 false []
      begins_with_nothing = record {
        by_step = λ p i e t. let k : ⊥ = omega (arith, e) in absurd k;
        by_operand = λ p i e t c. let k : ⊥ = omega (arith, e) in absurd k;
        by_operand_mixed = λ p i e t c. let k : ⊥ = omega (arith, e) in absurd k;
        by_other = λ p b w i l t c k u. let z : ⊥ = omega (arith, l) in absurd z;
      }

  module _ (regular : IsRegular image.types) where
    rule-decides : CodeKeeps exceptions image m goes_back → (rule : CodeRule) → Decides (keeps_code_rule exceptions image m rule) (CodeKeeps exceptions image m rule)
    rule-decides g port =
        through _ (λ h. (h.0, h.2.0, h.2.1, h.1, h.2.2)) (λ h. (h.0, h.3, (h.1, h.2, h.4, tt)))
        (chosen-decides (λ t. on_inport (λ message declared. true) (slice_get image.types t)) (λ t. (message : ℕ) × (declared : List Fact) × HasShape image.types t (inport message declared) × Unit {0})
        (λ t. inport-decides (λ message declared. true) (λ message declared. Unit {0}) (λ message declared. true-decides tt) (slice_get image.types t)) (slice_get m.variables 0))
    rule-decides g variables_known = all-decide (λ t. is_some (slice_get image.types t)) (IsType image.types) (λ t. itself (is_some (slice_get image.types t))) m.variables
    rule-decides g code = below-decides 0 (length m.code)
    rule-decides g landings_listed = numbers-decide (length m.landings) (length m.code)
    rule-decides g labels_rise = rise-decides (listed_indices m)
    rule-decides g labels_listed = same_members-decide nat_eq numbers-decide (listed_indices m) (targets ps)
    rule-decides g labels_closed =
        all-decide (λ (l : ListedLabel). is_closed image.types m.variables (l.label).facts) (λ (l : ListedLabel). IsClosed image.types m.variables (λ f. IsIn f (l.label).facts)) (λ (l : ListedLabel). closed-decides image.types m.variables (l.label).facts) m.labels
    rule-decides g typed = labelled-decides _ _ (λ p l. instruction-decides image.types regular m.variables exceptions image.constants (processes_of image.modules) p.instruction)
    rule-decides g stack = labelled-decides _ _ (λ p l. stack-decides image.types regular m.variables image.constants p.instruction l.stack)
    rule-decides g facts = labelled-decides _ _ (λ p l. among-decides same_fact facts-decide (facts_needed image.types m.variables p.instruction) l.facts)
    rule-decides g slots = labelled-decides _ _ (λ p l. slots-decide image.types regular m.variables p.instruction l.slots)
    rule-decides g trims = labelled-decides _ _ (λ p l. trims-decides image.types regular m.variables p.instruction l.facts)
    rule-decides g in_range = labelled-decides _ _ (λ p l. all-decide (λ (w : Way). nat_lt w.index (length m.code)) (λ (w : Way). w.index < length m.code) (λ (w : Way). below-decides w.index (length m.code)) (ways p))
    rule-decides g begins = if-there-decides (fits label_at_start) (Arrives label_at_start) (fits-decides label_at_start) (listed_at m.labels 0)
    rule-decides g arrives = labelled-decides _ _ (λ p l. through _ (λ h w listed i e. h w i listed e) (λ h w i listed e. h w listed i e)
        (all-decide (arrives_fitting exceptions image m p l) (λ (w : Way). (listed : Label) → listed_at m.labels w.index ≡ Some listed → Arrives (behind exceptions image m p w l) listed)
        (λ (w : Way). if-there-decides (fits (behind exceptions image m p w l)) (Arrives (behind exceptions image m p w l)) (fits-decides (behind exceptions image m p w l)) (listed_at m.labels w.index)) (ways p)))
    rule-decides g goes_back = goes_back-decides
    rule-decides g acts_at_once = acts-decide g
    rule-decides g keeps = all-decide _ _ (λ (p : Place). keeps-decides image.types regular m.variables p.instruction) ps
    rule-decides g landings = all-decide _ _ (λ (p : Place). landings-decide (exceptions_of image.types m.variables p.instruction) (map (λ (l : Landing). l.exception) p.landings)) ps

    none-good : (broken_code_rules exceptions image m ≡ []) ↔ IsGoodModule exceptions image m
    none-good = (to, from)
      where
        to : broken_code_rules exceptions image m ≡ [] → IsGoodModule exceptions image m
        to e =
            let kept : (rule : CodeRule) → IsTrue (keeps_code_rule exceptions image m rule) = λ rule. none-broken (keeps_code_rule exceptions image m) code_rules e rule (rule-listed rule) in
            let holds : (rule : CodeRule) → CodeKeeps exceptions image m rule = λ rule. (rule-decides (goes_back-decides.0 (kept goes_back)) rule).0 (kept rule) in
            record {
              port = holds port;
              variables_known = holds variables_known;
              code = holds code;
              landings_listed = holds landings_listed;
              labels_rise = holds labels_rise;
              labels_listed = holds labels_listed;
              labels_closed = holds labels_closed;
              typed = holds typed;
              stack = holds stack;
              facts = holds facts;
              slots = holds slots;
              trims = holds trims;
              in_range = holds in_range;
              begins = holds begins;
              arrives = holds arrives;
              goes_back = holds goes_back;
              acts_at_once = holds acts_at_once;
              keeps = holds keeps;
              landings = holds landings;
            }

        holds : IsGoodModule exceptions image m → (rule : CodeRule) → CodeKeeps exceptions image m rule
        holds w port = w.port
        holds w variables_known = w.variables_known
        holds w code = w.code
        holds w landings_listed = w.landings_listed
        holds w labels_rise = w.labels_rise
        holds w labels_listed = w.labels_listed
        holds w labels_closed = w.labels_closed
        holds w typed = w.typed
        holds w stack = w.stack
        holds w facts = w.facts
        holds w slots = w.slots
        holds w trims = w.trims
        holds w in_range = w.in_range
        holds w begins = w.begins
        holds w arrives = w.arrives
        holds w goes_back = w.goes_back
        holds w acts_at_once = w.acts_at_once
        holds w keeps = w.keeps
        holds w landings = w.landings

        from : IsGoodModule exceptions image m → broken_code_rules exceptions image m ≡ []
        from w = all-kept (keeps_code_rule exceptions image m) code_rules (λ rule i. (rule-decides w.goes_back rule).1 (holds w rule))

pub tests-code : TestsDecideCode
tests-code exceptions image m w g rule = rule-decides exceptions image m (well_formed-regular exceptions image.types w) ((goes_back-decides exceptions image m).0 g) rule

pub none-code : NoneBrokenIsGood
none-code exceptions image m w = none-good exceptions image m (well_formed-regular exceptions image.types w)

pub test-images : TestDecidesImages
test-images exceptions image w =
    through _ (λ h. record { constants = h.0; modules = h.1 }) (λ g. (g.constants, g.modules))
    (both-decide _ _
    (all-decide (is_constant image.types) (λ l. IsLiteralOf image.types l (type_of_literal l)) (constant-decides image.types (well_formed-regular exceptions image.types w)) image.constants)
    (all-decide (λ m. is_empty (broken_code_rules exceptions image m)) (IsGoodModule exceptions image) (λ m. through _ (none-code exceptions image m w).0 (none-code exceptions image m w).1 (empty-decides (broken_code_rules exceptions image m))) image.modules))
