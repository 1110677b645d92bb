-- The examples of code are judged by the tests.
use Rattle.std.proofs.Common.{◌≡◌, List, [], ◌∷◌, map, true, false, inl, inr, refl, sym, subst, ◌∙◌, true≢false}
use Rattle.herm_model.specs.Lists.{IsIn}
use Rattle.herm_model.specs.Expressions.{Literal}
use Rattle.herm_model.specs.WellFormedTables.{IsWellFormedTable}
use Rattle.herm_model.proofs.DecidedTables.{none-well_formed}
use Rattle.herm_instructions.specs.Images.{CodeModule, Image}
use Rattle.herm_instructions.specs.GoodCode.{IsGood}
use Rattle.herm_instructions.specs.tests.GoodTests.{is_good}
use Rattle.herm_instructions.specs.examples.ExampleImages.{example_exceptions, example_defined, example_types, image_of}
use Rattle.herm_instructions.specs.examples.CodeExamples.{CodeExample}
use Rattle.herm_instructions.specs.laws.CodeExampleLaws.{example_image, broken_in_example, BreakTheseCodeRules, AreOddConstants}
use Rattle.herm_instructions.proofs.DecidedCode.{none-code, test-images}

-- equal maps are equal at each element
map-same : {X Y : Type 0} (f g : X → Y) (xs : List X) → map f xs ≡ map g xs → (x : X) → IsIn x xs → f x ≡ g x
map-same f g [] e x i = absurd i
map-same f g (y ∷ ys) e x (inl k) = let h : f y ≡ g y = cc e in subst (λ z. f z ≡ g z) (sym k) h
map-same f g (y ∷ ys) e x (inr i) = map-same f g ys (cc e) x i

table-formed : IsWellFormedTable example_exceptions example_types
table-formed = (none-well_formed example_exceptions example_defined).0 refl

pub judge-code : (es : List CodeExample) → map (λ (e : CodeExample). broken_in_example e.example) es ≡ map (λ (e : CodeExample). e.broken) es → BreakTheseCodeRules es
judge-code es same e i =
    let broken = map-same (λ (d : CodeExample). broken_in_example d.example) (λ (d : CodeExample). d.broken) es same e i in
    let judged = none-code example_exceptions (example_image e.example) e.example table-formed in
    (broken, (λ n. judged.0 (broken ∙ n), λ g. sym broken ∙ judged.1 g))

pub judge-image : (modules : List CodeModule) → is_good example_exceptions (image_of modules) ≡ true → IsGood example_exceptions (image_of modules)
judge-image modules e = (test-images example_exceptions (image_of modules) table-formed).0 e

abbrev pub image_with : Literal → Image
image_with l = record { modules = []; constants = l ∷ []; types = example_types }

pub judge-constants : (ls : List Literal) → map (λ l. is_good example_exceptions (image_with l)) ls ≡ map (λ l. false) ls → AreOddConstants ls
judge-constants ls same l i g =
    true≢false (sym ((test-images example_exceptions (image_with l) table-formed).1 g) ∙ map-same (λ k. is_good example_exceptions (image_with k)) (λ k. false) ls same l i)
