-- What is said of the examples of code.
use Rattle.std.specs.Prelude.{◌↔◌, List, [], ◌∷◌, ◌≡◌}
use Rattle.herm_model.specs.Lists.{IsIn}
use Rattle.herm_model.specs.Expressions.{Literal}
use Rattle.herm_instructions.specs.Images.{CodeModule, Image}
use Rattle.herm_instructions.specs.GoodCode.{IsGoodModule, IsGood}
use Rattle.herm_instructions.specs.tests.GoodTests.{CodeRule, broken_code_rules}
use Rattle.herm_instructions.specs.examples.ExampleImages.{example_exceptions, example_types, image_of, denies}
use Rattle.herm_instructions.specs.examples.CodeExamples.{CodeExample}

-- an image of a module beside one that denies calls, and the rules that the module breaks there
abbrev pub example_image : CodeModule → Image
example_image m = image_of (denies ∷ m ∷ [])

abbrev pub broken_in_example : CodeModule → List CodeRule
broken_in_example m = broken_code_rules example_exceptions (example_image m) m

-- Each module breaks just these rules, and is good where there is none.
abbrev pub BreakTheseCodeRules : List CodeExample → Type 0
BreakTheseCodeRules examples = (e : CodeExample) → IsIn e examples → (broken_in_example e.example ≡ e.broken) × ((e.broken ≡ []) ↔ IsGoodModule example_exceptions (example_image e.example) e.example)

-- Each image without modules, of these constants, is not good.
abbrev pub AreOddConstants : List Literal → Type 0
AreOddConstants constants = (l : Literal) → IsIn l constants → IsGood example_exceptions (record { modules = []; constants = l ∷ []; types = example_types }) → ⊥
