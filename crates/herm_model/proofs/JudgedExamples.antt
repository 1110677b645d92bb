-- The examples are judged by the tests.
use Rattle.std.proofs.Common.{◌≡◌, ◌↔◌, List, [], ◌∷◌, map, inl, inr, refl, sym, subst, ◌∙◌}
use Rattle.herm_model.specs.Lists.{IsIn}
use Rattle.herm_model.specs.Statements.{Statement}
use Rattle.herm_model.specs.WellFormedTables.{IsWellFormedTable}
use Rattle.herm_model.specs.tests.TableTests.{broken_table_rules}
use Rattle.herm_model.specs.tests.BodyTests.{ProcessRule, typed}
use Rattle.herm_model.specs.examples.StatementTypes.{statement_types, helper, main_of}
use Rattle.herm_model.specs.examples.TableRuleExamples.{TableExample}
use Rattle.herm_model.specs.laws.TypedExampleLaws.{example_exceptions, example_table, broken_by, IsTypedBody, AreTyped, BreakTheirFormAlone, BreakTheseRules, BreakTheseTableRules}
use Rattle.herm_model.proofs.Lists.{cons-not_nil}
use Rattle.herm_model.proofs.DecidedTables.{none-well_formed}
use Rattle.herm_model.proofs.DecidedPrograms.{none-process}

-- equal maps are equal at each element
map-same : {X Y : Type 0} (f g : X → Y) (xs : List X) → map f xs ≡ map g xs → (x : X) → IsIn x xs → f x ≡ g x
map-same f g [] e x i = absurd i
map-same f g (y ∷ ys) e x (inl k) = let h : f y ≡ g y = cc e in subst (λ z. f z ≡ g z) (sym k) h
map-same f g (y ∷ ys) e x (inr i) = map-same f g ys (cc e) x i

table-formed : IsWellFormedTable example_exceptions example_table
table-formed = (none-well_formed example_exceptions statement_types).0 refl

body-judged : (body : List Statement) → (broken_by body ≡ []) ↔ IsTypedBody body
body-judged body = none-process example_exceptions example_table (helper ∷ main_of body ∷ []) (main_of body) table-formed

pub judge-typed : (ss : List Statement) → map (λ s. broken_by (s ∷ [])) ss ≡ map (λ s. []) ss → AreTyped ss
judge-typed ss e s i =
    (body-judged (s ∷ [])).0 (map-same (λ s. broken_by (s ∷ [])) (λ s. []) ss e s i)

pub judge-untyped : (ss : List Statement) → map (λ s. broken_by (s ∷ [])) ss ≡ map (λ s. typed ∷ []) ss → BreakTheirFormAlone ss
judge-untyped ss e s i =
    let broken = map-same (λ s. broken_by (s ∷ [])) (λ s. typed ∷ []) ss e s i in
    (broken, λ t. cons-not_nil typed [] (sym broken ∙ (body-judged (s ∷ [])).1 t))

pub judge-bodies : (bs : List (List Statement × List ProcessRule)) → map (λ (b : List Statement × List ProcessRule). broken_by b.0) bs ≡ map (λ (b : List Statement × List ProcessRule). b.1) bs → BreakTheseRules bs
judge-bodies bs e b i =
    let broken = map-same (λ (b : List Statement × List ProcessRule). broken_by b.0) (λ (b : List Statement × List ProcessRule). b.1) bs e b i in
    let judged = body-judged b.0 in
    (broken, (λ n. judged.0 (broken ∙ n), λ t. sym broken ∙ judged.1 t))

pub judge-tables : (ts : List TableExample) → map (λ (t : TableExample). broken_table_rules t.exceptions t.defined) ts ≡ map (λ (t : TableExample). t.broken) ts → BreakTheseTableRules ts
judge-tables ts e t i =
    let broken = map-same (λ (t : TableExample). broken_table_rules t.exceptions t.defined) (λ (t : TableExample). t.broken) ts e t i in
    let judged = none-well_formed t.exceptions t.defined in
    (broken, (λ n. judged.0 (broken ∙ n), λ w. sym broken ∙ judged.1 w))
