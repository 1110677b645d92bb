-- What is proved of good code: tests decide it.
use Rattle.std.specs.Prelude.{ℕ, ◌<◌, ◌↔◌, List, [], map, length, Some, slice_get, IsTrue, ◌≡◌}
use Rattle.herm_model.specs.Lists.{IsIn}
use Rattle.herm_model.specs.Paths.{Fact}
use Rattle.herm_model.specs.Types.{inport}
use Rattle.herm_model.specs.Facts.{IsClosed}
use Rattle.herm_model.specs.laws.FlowLaws.{Rise}
use Rattle.herm_model.specs.TypedExpressions.{HasShape}
use Rattle.herm_model.specs.WellFormedTables.{IsType, IsWellFormedTable}
use Rattle.herm_instructions.specs.Labels.{Label, ListedLabel, listed_at}
use Rattle.herm_instructions.specs.Images.{Landing, CodeModule, Image}
use Rattle.herm_instructions.specs.Operands.{FindsOnStack}
use Rattle.herm_instructions.specs.Effects.{facts_needed, exceptions_of}
use Rattle.herm_instructions.specs.Places.{Way, ways, label_at_start, targets}
use Rattle.herm_instructions.specs.TypedInstructions.{IsTypedInstruction}
use Rattle.herm_instructions.specs.Pieces.{ActsAtOnce}
use Rattle.herm_instructions.specs.GoodCode.{Arrives, HasLandings, FindsSlots, TrimsExcess, KeepsAsDeclared, processes_of, listed_indices, module_places, OfEachInstruction, OfEachLabelled, behind, GoesBackToStep, IsGoodModule, IsGood}
use Rattle.herm_instructions.specs.tests.GoodTests.{CodeRule, port, variables_known, code, landings_listed, labels_rise, labels_listed, labels_closed, typed, stack, facts, slots, trims, in_range, begins, arrives, goes_back, acts_at_once, keeps, landings, keeps_code_rule, broken_code_rules, is_good}

module _ (exceptions : ℕ) (image : Image) (m : CodeModule) where
  -- what each rule of code modules says
  abbrev pub CodeKeeps : CodeRule → Type 0
  CodeKeeps port = (t message : ℕ) × (declared : List Fact) × (slice_get m.variables 0 ≡ Some t) × HasShape image.types t (inport message declared)
  CodeKeeps variables_known = (t : ℕ) → IsIn t m.variables → IsType image.types t
  CodeKeeps code = 0 < length m.code
  CodeKeeps landings_listed = length m.landings ≡ length m.code
  CodeKeeps labels_rise = Rise (listed_indices m)
  CodeKeeps labels_listed = (n : ℕ) → IsIn n (listed_indices m) ↔ IsIn n (targets (module_places exceptions image m))
  CodeKeeps labels_closed = (l : ListedLabel) → IsIn l m.labels → IsClosed image.types m.variables (λ f. IsIn f (l.label).facts)
  CodeKeeps typed = OfEachLabelled exceptions image m (λ p l. IsTypedInstruction image.types m.variables exceptions image.constants (processes_of image.modules) p.instruction)
  CodeKeeps stack = OfEachLabelled exceptions image m (λ p l. FindsOnStack image.types image.constants m.variables p.instruction l.stack)
  CodeKeeps facts = OfEachLabelled exceptions image m (λ p l. (f : Fact) → IsIn f (facts_needed image.types m.variables p.instruction) → IsIn f l.facts)
  CodeKeeps slots = OfEachLabelled exceptions image m (λ p l. FindsSlots image.types m.variables p.instruction l.slots)
  CodeKeeps trims = OfEachLabelled exceptions image m (λ p l. TrimsExcess image.types m.variables p.instruction l.facts)
  CodeKeeps in_range = OfEachLabelled exceptions image m (λ p l. (w : Way) → IsIn w (ways p) → w.index < length m.code)
  CodeKeeps begins = (l : Label) → listed_at m.labels 0 ≡ Some l → Arrives label_at_start l
  CodeKeeps arrives = OfEachLabelled exceptions image m (λ p l. (w : Way) (listed : Label) → IsIn w (ways p) → listed_at m.labels w.index ≡ Some listed → Arrives (behind exceptions image m p w l) listed)
  CodeKeeps goes_back = OfEachInstruction exceptions image m (GoesBackToStep exceptions image m)
  CodeKeeps acts_at_once = OfEachInstruction exceptions image m (ActsAtOnce image.types (module_places exceptions image m))
  CodeKeeps keeps = OfEachInstruction exceptions image m (λ p. KeepsAsDeclared image.types m.variables p.instruction)
  CodeKeeps landings = OfEachInstruction exceptions image m (λ p. HasLandings (exceptions_of image.types m.variables p.instruction) (map (λ (l : Landing). l.exception) p.landings))

-- The test of each rule of code modules decides it, over a well-formed table, where control goes back only to steps.
abbrev pub TestsDecideCode : Type 0
TestsDecideCode = (exceptions : ℕ) (image : Image) (m : CodeModule) → IsWellFormedTable exceptions image.types → IsTrue (keeps_code_rule exceptions image m goes_back)
    → (rule : CodeRule) → IsTrue (keeps_code_rule exceptions image m rule) ↔ CodeKeeps exceptions image m rule

-- A code module is good exactly where no test finds a broken rule.
abbrev pub NoneBrokenIsGood : Type 0
NoneBrokenIsGood = (exceptions : ℕ) (image : Image) (m : CodeModule) → IsWellFormedTable exceptions image.types → (broken_code_rules exceptions image m ≡ []) ↔ IsGoodModule exceptions image m

-- The test of images decides which are good.
abbrev pub TestDecidesImages : Type 0
TestDecidesImages = (exceptions : ℕ) (image : Image) → IsWellFormedTable exceptions image.types → IsTrue (is_good exceptions image) ↔ IsGood exceptions image
