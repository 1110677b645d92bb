-- Readings of definitions, processes and files.
use Rattle.std.proofs.Common.{◌≡◌, ℕ, Bool, true, false, not, ◌&&◌, ◌⊎◌, inl, inr, if◌then◌else◌, List, [], ◌∷◌, ◌++◌, Option, Some, None, true≢false, refl, sym, ap, ◌∙◌}
use Rattle.std.proofs.lemmas.Bool.{and_parts, and_from}
use Rattle.std.proofs.Math.Bool.{and-true}
use Rattle.std.specs.Cmp.Derive.{both_true}
use Rattle.herm_readers.specs.Reader.{Rule, Reads, ahead}
use Rattle.herm_readers.specs.Combinators.{passes, one, one_rule, many_fits, separated_fits, separated_ends}
use Rattle.herm_readers.specs.laws.ReaderLaws.{IsWritten}
use Rattle.herm_readers.proofs.Simple.{one_reads}
use Rattle.herm_readers.proofs.Readings.{Reading, nothing_more, turned, refit, refit_reads, both, either_of, many_of, many_end, separated_by, separated_end}
use Rattle.herm_alphabet.specs.declared.keyword.Keyword.TheVariants.{KwCallmessage, KwCase, KwDefinitions, KwEnum, KwException, KwFull, KwIn, KwInit, KwInout, KwInport, KwKey, KwOf, KwOut, KwOutport, KwProcess, KwRaises, KwRecord, KwTable, KwType, KwVar, KwVariant}
use Rattle.herm_alphabet.specs.declared.sign.Mark.TheVariants.{ParenClose, Comma, Semicolon, Colon, Dot, Equal}
use Rattle.herm_syntax.specs.Symbols.{Symbol, Key, is, paren_close, brace_open, brace_close, comma, semicolon, dot}
use Rattle.herm_syntax.specs.KeywordSymbols.{kw_var}
use Rattle.herm_syntax.specs.Trees.{Letters, Statements, Field, Mode, In, Inout, Out, Param, Raising, DeclaredFact, InitFact, FullFact, CaseFact, Shape, Names, Fields, Cases, Rows, Inport, Outport, CallMessage, Item, TypeItem, ExceptionItem, Module, Definitions, Process}
use Rattle.herm_syntax.specs.Spelling.{mode, statements, declared_fact, declared_facts, kept, raising, raisings, shape, item, variables, module_symbols}
use Rattle.herm_syntax.specs.Fitting.{is_name, any_part, field_fits, param_fits, declared_fact_fits, raising_fits, shape_fits, item_fits, statements_fit, module_fits}
use Rattle.herm_syntax.specs.ReadStatements.{inside, statements_rule, read_statements}
use Rattle.herm_syntax.specs.ReadModules.{pick_mode, fact_of, written_of, ShapeParts, shape_of, item_of, module_of, anything, read_file, file_rule}
use Rattle.herm_syntax.proofs.Names.{sign_test}
use Rattle.herm_syntax.proofs.Paths.{all_parts}
use Rattle.herm_syntax.proofs.Plain.{keyword_then, sign_then, then_sign, in_braces_r, in_parens_r, name_r, part_r, picked_if, listed_r, listed_ends, listed_end}
use Rattle.herm_syntax.proofs.Firsts.{no_variables, statements_stop}
use Rattle.herm_syntax.proofs.Blocks.{statements_reads}

-- Fields and parameters.
abbrev pub field_r : Reading Symbol Field
field_r = both part_r (sign_then Colon name_r)

pub mode_from : (x : Symbol) (tree : Mode) → pick_mode x ≡ Some tree → x ≡ mode tree
mode_from x tree e =
    picked_if KwIn In mode refl x tree (if is (Key KwInout) x then Some Inout else (if is (Key KwOut) x then Some Out else None)) (is (Key KwIn) x) refl e (λ e0.
    picked_if KwInout Inout mode refl x tree (if is (Key KwOut) x then Some Out else None) (is (Key KwInout) x) refl e0 (λ e1.
    picked_if KwOut Out mode refl x tree None (is (Key KwOut) x) refl e1 (λ e2. absurd (cc))))

pub mode_back : (tree : Mode) → pick_mode (mode tree) ≡ Some tree
mode_back In = refl
mode_back Inout = refl
mode_back Out = refl

abbrev pub mode_r : Reading Symbol Mode
mode_r = record {
  rule = one_rule (λ tree. true) mode;
  read = one pick_mode;
  reads = one_reads (λ tree. true) mode pick_mode (record { example = In; example_fits = refl; from = λ x tree e. (refl, mode_from x tree e); back = λ tree f. mode_back tree });
}

abbrev pub param_r : Reading Symbol Param
param_r = both mode_r field_r

abbrev pub commas : {A : Type 0} → Reading Symbol A → Reading Symbol (List A)
commas r = separated_by comma (is comma) (sign_test Comma) r

abbrev pub fact_path_r : Reading Symbol (List Letters)
fact_path_r = separated_by dot (is dot) (sign_test Dot) part_r

-- What ends everywhere ends in a list in front of what is no separator.
pub commas_stop : {A : Type 0} → (r : Reading Symbol A) (beyond : Option Symbol) → passes (is comma) beyond ≡ false → ((a : A) (h : Option Symbol) → r.rule.fits a ≡ true → r.rule.ends a h ≡ true) →
    (list : List A) → separated_fits r.rule.fits list ≡ true → separated_ends comma (is comma) r.rule list beyond ≡ true
commas_stop r beyond other ends list f = separated_end comma (is comma) (sign_test Comma) r.rule beyond other (λ a g. ends a (Some comma) g) (λ a g. ends a beyond g) list f

pub dots_stop : (list : List Letters) (beyond : Option Symbol) → passes (is dot) beyond ≡ false → separated_fits any_part list ≡ true → separated_ends dot (is dot) part_r.rule list beyond ≡ true
dots_stop list beyond other f = separated_end dot (is dot) (sign_test Dot) part_r.rule beyond other (λ a g. refl) (λ a g. refl) list f

-- Declared facts.
abbrev pub fact_rule : Rule Symbol DeclaredFact
fact_rule = record { fits = declared_fact_fits; spelling = declared_fact; ends = λ f beyond. true }

abbrev pub fact_parts : Reading Symbol (List Letters ⊎ (List Letters ⊎ (List Letters × Letters)))
fact_parts = either_of (is (Key KwInit)) (keyword_then KwInit (in_parens_r fact_path_r))
    (either_of (is (Key KwFull)) (keyword_then KwFull (in_parens_r fact_path_r)) (keyword_then KwCase (in_parens_r (both fact_path_r (sign_then Comma part_r)))))

pub fact_fits_of : (found : List Letters ⊎ (List Letters ⊎ (List Letters × Letters))) → fact_parts.rule.fits found ≡ true → declared_fact_fits (fact_of found) ≡ true
fact_fits_of (inl p) f = f
fact_fits_of (inr (inl p)) f = f
fact_fits_of (inr (inr found)) f = (and_parts (separated_fits any_part found.0) true f).0

pub fact_spelled : (found : List Letters ⊎ (List Letters ⊎ (List Letters × Letters))) → fact_parts.rule.fits found ≡ true → declared_fact (fact_of found) ≡ fact_parts.rule.spelling found
fact_spelled (inl p) f = refl
fact_spelled (inr (inl p)) f = refl
fact_spelled (inr (inr found)) f = refl

pub fact_ended : (found : List Letters ⊎ (List Letters ⊎ (List Letters × Letters))) (beyond : Option Symbol) → fact_parts.rule.fits found ≡ true → true ≡ fact_parts.rule.ends found beyond
fact_ended (inl p) beyond f = sym (dots_stop p (Some paren_close) refl f)
fact_ended (inr (inl p)) beyond f = sym (dots_stop p (Some paren_close) refl f)
fact_ended (inr (inr found)) beyond f = sym (both_true (dots_stop found.0 (Some comma) refl (and_parts (separated_fits any_part found.0) true f).0) refl)

pub fact_back : (fact : DeclaredFact) → declared_fact_fits fact ≡ true → (found : List Letters ⊎ (List Letters ⊎ (List Letters × Letters))) × (fact_parts.rule.fits found ≡ true) × (fact_of found ≡ fact)
fact_back (InitFact p) f = (inl p, f, refl)
fact_back (FullFact p) f = (inr (inl p), f, refl)
fact_back (CaseFact p component) f = (inr (inr (p, component)), and_from (separated_fits any_part p) true f refl, refl)

abbrev pub fact_r : Reading Symbol DeclaredFact
fact_r = turned fact_of fact_rule fact_parts (record { fits = fact_fits_of; spelling = fact_spelled; ends = fact_ended; back = fact_back })

-- A list that may be left out, and that ends everywhere where it is written.
module _ {A : Type 0} (test : Symbol → Bool) (some : Reading Symbol (List A)) (fits : A → Bool) (spelling : List A → List Symbol)
    (empty : spelling [] ≡ []) (none_fits : some.rule.fits [] ≡ false) (some_fits_is : (a : A) (list : List A) → some.rule.fits (a ∷ list) ≡ many_fits fits (a ∷ list))
    (some_spelled_is : (a : A) (list : List A) → spelling (a ∷ list) ≡ some.rule.spelling (a ∷ list)) (leads : (a : A) (list : List A) (beyond : Option Symbol) → passes test (ahead (some.rule.spelling (a ∷ list)) beyond) ≡ true)
    (ends : (a : A) (list : List A) (beyond : Option Symbol) → many_fits fits (a ∷ list) ≡ true → some.rule.ends (a ∷ list) beyond ≡ true) where
  abbrev pub written_ends : List A → Option Symbol → Bool
  written_ends [] beyond = not (passes test beyond)
  written_ends (a ∷ list) beyond = true

  abbrev pub written_rule : Rule Symbol (List A)
  written_rule = record { fits = many_fits fits; spelling = spelling; ends = written_ends }

  abbrev pub written_parts : Reading Symbol (List A ⊎ Unit {0})
  written_parts = either_of test some nothing_more

  pub not_none : some.rule.fits [] ≡ true → ⊥
  not_none f = true≢false (sym f ∙ none_fits)

  pub written_fits : (found : List A ⊎ Unit {0}) → written_parts.rule.fits found ≡ true → many_fits fits (written_of found) ≡ true
  written_fits (inl []) f = absurd (not_none f)
  written_fits (inl (a ∷ list)) f = sym (some_fits_is a list) ∙ f
  written_fits (inr none) f = refl

  pub written_spelled : (found : List A ⊎ Unit {0}) → written_parts.rule.fits found ≡ true → spelling (written_of found) ≡ written_parts.rule.spelling found
  written_spelled (inl []) f = absurd (not_none f)
  written_spelled (inl (a ∷ list)) f = some_spelled_is a list
  written_spelled (inr none) f = empty

  pub written_ended : (found : List A ⊎ Unit {0}) (beyond : Option Symbol) → written_parts.rule.fits found ≡ true → written_ends (written_of found) beyond ≡ written_parts.rule.ends found beyond
  written_ended (inl []) beyond f = absurd (not_none f)
  written_ended (inl (a ∷ list)) beyond f = sym (both_true (leads a list beyond) (ends a list beyond (sym (some_fits_is a list) ∙ f)))
  written_ended (inr none) beyond f = sym (and-true (not (passes test beyond)))

  pub written_back : (list : List A) → many_fits fits list ≡ true → (found : List A ⊎ Unit {0}) × (written_parts.rule.fits found ≡ true) × (written_of found ≡ list)
  written_back [] f = (inr tt, refl, refl)
  written_back (a ∷ list) f = (inl (a ∷ list), some_fits_is a list ∙ f, refl)

  abbrev pub written_r : Reading Symbol (List A)
  written_r = turned written_of written_rule written_parts (record { fits = written_fits; spelling = written_spelled; ends = written_ended; back = written_back })

abbrev pub facts_r : Reading Symbol (List DeclaredFact)
facts_r = written_r (is brace_open) (in_braces_r (commas fact_r)) declared_fact_fits declared_facts refl refl (λ a list. refl) (λ a list. refl) (λ a list beyond. refl)
    (λ a list beyond f. commas_stop fact_r (Some brace_close) refl (λ x h g. refl) (a ∷ list) f)

-- Kept parameters and raised exceptions.
abbrev pub kept_item_r : Reading Symbol Letters
kept_item_r = keyword_then KwFull (in_parens_r part_r)

abbrev pub kept_r : Reading Symbol (List Letters)
kept_r = written_r (is brace_open) (in_braces_r (commas kept_item_r)) any_part kept refl refl (λ a list. refl) (λ a list. refl) (λ a list beyond. refl)
    (λ a list beyond f. commas_stop kept_item_r (Some brace_close) refl (λ x h g. refl) (a ∷ list) f)

abbrev pub raising_parts : Reading Symbol Raising
raising_parts = both name_r kept_r

pub raising_fits_more : (r : Raising) → raising_fits r ≡ true → raising_parts.rule.fits r ≡ true
raising_fits_more r f = and_from (is_name r.0) (many_fits any_part r.1) f (all_parts r.1)

abbrev pub raising_rule : Rule Symbol Raising
raising_rule = record { fits = raising_fits; spelling = raising; ends = raising_parts.rule.ends }

abbrev pub raising_r : Reading Symbol Raising
raising_r = refit raising_rule raising_parts (record { fits = λ r f. (and_parts (is_name r.0) (many_fits any_part r.1) f).0; spelling = λ r f. refl; ends = λ r beyond f. refl; back = λ r f. (r, raising_fits_more r f, refl) })

pub raising_stops : (r : Raising) (beyond : Option Symbol) → passes (is brace_open) beyond ≡ false → raising_r.rule.ends r beyond ≡ true
raising_stops (name, []) beyond e = ap not e
raising_stops (name, k ∷ keeps) beyond e = refl

abbrev pub raisings_r : Reading Symbol (List Raising)
raisings_r = written_r (is (Key KwRaises)) (keyword_then KwRaises (in_parens_r (commas raising_r))) raising_fits raisings refl refl (λ a list. refl) (λ a list. refl) (λ a list beyond. refl)
    (λ a list beyond f. separated_end comma (is comma) (sign_test Comma) raising_r.rule (Some paren_close) refl (λ r g. raising_stops r (Some comma) refl) (λ r g. raising_stops r (Some paren_close) refl) (a ∷ list) f)

-- Shapes.
abbrev pub shape_parts : Reading Symbol ShapeParts
shape_parts = either_of (is (Key KwEnum)) (keyword_then KwEnum (in_braces_r (commas part_r)))
    (either_of (is (Key KwRecord)) (keyword_then KwRecord (in_braces_r (commas field_r)))
    (either_of (is (Key KwVariant)) (keyword_then KwVariant (in_braces_r (commas field_r)))
    (either_of (is (Key KwTable)) (keyword_then KwTable (keyword_then KwOf (both name_r (keyword_then KwKey (in_parens_r (commas part_r))))))
    (either_of (is (Key KwInport)) (keyword_then KwInport (keyword_then KwOf (both name_r facts_r)))
    (either_of (is (Key KwOutport)) (keyword_then KwOutport (keyword_then KwOf name_r))
    (keyword_then KwCallmessage (both (in_parens_r (listed_r ParenClose param_r)) raisings_r)))))))

abbrev pub shape_ends : Shape → Option Symbol → Bool
shape_ends (Names names) beyond = true
shape_ends (Fields fs) beyond = true
shape_ends (Cases fs) beyond = true
shape_ends (Rows row keys) beyond = true
shape_ends (Inport message facts) beyond = facts_r.rule.ends facts beyond
shape_ends (Outport port) beyond = true
shape_ends (CallMessage params raises) beyond = raisings_r.rule.ends raises beyond

abbrev pub shape_rule : Rule Symbol Shape
shape_rule = record { fits = shape_fits; spelling = shape; ends = shape_ends }

pub shape_fits_of : (found : ShapeParts) → shape_parts.rule.fits found ≡ true → shape_fits (shape_of found) ≡ true
shape_fits_of (inl names) f = f
shape_fits_of (inr (inl fs)) f = f
shape_fits_of (inr (inr (inl fs))) f = f
shape_fits_of (inr (inr (inr (inl x)))) f = f
shape_fits_of (inr (inr (inr (inr (inl x))))) f = f
shape_fits_of (inr (inr (inr (inr (inr (inl port)))))) f = f
shape_fits_of (inr (inr (inr (inr (inr (inr x)))))) f = f

pub shape_spelled : (found : ShapeParts) → shape_parts.rule.fits found ≡ true → shape (shape_of found) ≡ shape_parts.rule.spelling found
shape_spelled (inl names) f = refl
shape_spelled (inr (inl fs)) f = refl
shape_spelled (inr (inr (inl fs))) f = refl
shape_spelled (inr (inr (inr (inl x)))) f = refl
shape_spelled (inr (inr (inr (inr (inl x))))) f = refl
shape_spelled (inr (inr (inr (inr (inr (inl port)))))) f = refl
shape_spelled (inr (inr (inr (inr (inr (inr x)))))) f = refl

pub param_leads : (p : Param) (more : List Symbol) (beyond : Option Symbol) → param_fits p ≡ true → passes (is paren_close) (ahead (param_r.rule.spelling p ++ more) beyond) ≡ false
param_leads (In, f) more beyond g = refl
param_leads (Inout, f) more beyond g = refl
param_leads (Out, f) more beyond g = refl

pub parts_stop : (names : List Letters) (beyond : Option Symbol) → passes (is comma) beyond ≡ false → separated_fits any_part names ≡ true → separated_ends comma (is comma) part_r.rule names beyond ≡ true
parts_stop names beyond other f = commas_stop part_r beyond other (λ a h g. refl) names f

pub fields_stop : (fs : List Field) (beyond : Option Symbol) → passes (is comma) beyond ≡ false → separated_fits field_fits fs ≡ true → separated_ends comma (is comma) field_r.rule fs beyond ≡ true
fields_stop fs beyond other f = commas_stop field_r beyond other (λ a h g. refl) fs f

pub params_stop : (params : List Param) → many_fits param_fits params ≡ true → listed_ends ParenClose param_r params (Some paren_close) ≡ true
params_stop params f = listed_end ParenClose param_r refl param_leads (λ a g. refl) (λ a g. refl) params f

pub with_params : {a b : Bool} → a ≡ true → b ≡ (a && b)
with_params {a} {b} e = sym (ap (λ c. c && b) e)

pub shape_ended : (found : ShapeParts) (beyond : Option Symbol) → shape_parts.rule.fits found ≡ true → shape_ends (shape_of found) beyond ≡ shape_parts.rule.ends found beyond
shape_ended (inl names) beyond f = sym (parts_stop names (Some brace_close) refl f)
shape_ended (inr (inl fs)) beyond f = sym (fields_stop fs (Some brace_close) refl f)
shape_ended (inr (inr (inl fs))) beyond f = sym (fields_stop fs (Some brace_close) refl f)
shape_ended (inr (inr (inr (inl x)))) beyond f = sym (parts_stop x.1 (Some paren_close) refl (and_parts (is_name x.0) (separated_fits any_part x.1) f).1)
shape_ended (inr (inr (inr (inr (inl x))))) beyond f = refl
shape_ended (inr (inr (inr (inr (inr (inl port)))))) beyond f = refl
shape_ended (inr (inr (inr (inr (inr (inr x)))))) beyond f = with_params (params_stop x.0 (and_parts (many_fits param_fits x.0) (many_fits raising_fits x.1) f).0)

pub shape_back : (s : Shape) → shape_fits s ≡ true → (found : ShapeParts) × (shape_parts.rule.fits found ≡ true) × (shape_of found ≡ s)
shape_back (Names names) f = (inl names, f, refl)
shape_back (Fields fs) f = (inr (inl fs), f, refl)
shape_back (Cases fs) f = (inr (inr (inl fs)), f, refl)
shape_back (Rows row keys) f = (inr (inr (inr (inl (row, keys)))), f, refl)
shape_back (Inport message facts) f = (inr (inr (inr (inr (inl (message, facts))))), f, refl)
shape_back (Outport port) f = (inr (inr (inr (inr (inr (inl port))))), f, refl)
shape_back (CallMessage params raises) f = (inr (inr (inr (inr (inr (inr (params, raises)))))), f, refl)

abbrev pub shape_r : Reading Symbol Shape
shape_r = turned shape_of shape_rule shape_parts (record { fits = shape_fits_of; spelling = shape_spelled; ends = shape_ended; back = shape_back })

pub facts_stop : (facts : List DeclaredFact) → facts_r.rule.ends facts (Some semicolon) ≡ true
facts_stop [] = refl
facts_stop (f ∷ facts) = refl

pub raisings_stop : (raises : List Raising) → raisings_r.rule.ends raises (Some semicolon) ≡ true
raisings_stop [] = refl
raisings_stop (r ∷ raises) = refl

pub shape_stops : (s : Shape) → shape_ends s (Some semicolon) ≡ true
shape_stops (Names names) = refl
shape_stops (Fields fs) = refl
shape_stops (Cases fs) = refl
shape_stops (Rows row keys) = refl
shape_stops (Inport message facts) = facts_stop facts
shape_stops (Outport port) = refl
shape_stops (CallMessage params raises) = raisings_stop raises

-- Items.
abbrev pub item_parts : Reading Symbol ((Letters × Shape) ⊎ Letters)
item_parts = either_of (is (Key KwType)) (keyword_then KwType (both name_r (sign_then Equal (then_sign Semicolon shape_r)))) (keyword_then KwException (then_sign Semicolon name_r))

abbrev pub item_rule : Rule Symbol Item
item_rule = record { fits = item_fits; spelling = item; ends = λ i beyond. true }

pub item_fits_of : (found : (Letters × Shape) ⊎ Letters) → item_parts.rule.fits found ≡ true → item_fits (item_of found) ≡ true
item_fits_of (inl x) f = f
item_fits_of (inr name) f = f

pub item_spelled : (found : (Letters × Shape) ⊎ Letters) → item_parts.rule.fits found ≡ true → item (item_of found) ≡ item_parts.rule.spelling found
item_spelled (inl x) f = refl
item_spelled (inr name) f = refl

pub item_ended : (found : (Letters × Shape) ⊎ Letters) (beyond : Option Symbol) → item_parts.rule.fits found ≡ true → true ≡ item_parts.rule.ends found beyond
item_ended (inl x) beyond f = sym (shape_stops x.1)
item_ended (inr name) beyond f = refl

pub item_back : (i : Item) → item_fits i ≡ true → (found : (Letters × Shape) ⊎ Letters) × (item_parts.rule.fits found ≡ true) × (item_of found ≡ i)
item_back (TypeItem name s) f = (inl (name, s), f, refl)
item_back (ExceptionItem name) f = (inr name, f, refl)

abbrev pub item_r : Reading Symbol Item
item_r = turned item_of item_rule item_parts (record { fits = item_fits_of; spelling = item_spelled; ends = item_ended; back = item_back })

pub item_written : IsWritten item_r.rule
item_written (TypeItem name s) f e = cc
item_written (ExceptionItem name) f e = cc

pub item_leads : (i : Item) → item_fits i ≡ true → passes inside (ahead (item i) None) ≡ true
item_leads (TypeItem name s) f = refl
item_leads (ExceptionItem name) f = refl

-- Variables.
abbrev pub variables_r : Reading Symbol (List Field)
variables_r = written_r (is (Key KwVar)) (keyword_then KwVar (then_sign Semicolon (commas field_r))) field_fits variables refl refl (λ a list. refl) (λ a list. refl) (λ a list beyond. refl)
    (λ a list beyond f. fields_stop (a ∷ list) (Some semicolon) refl f)

pub variables_stop : (vars : List Field) (beyond : Option Symbol) → passes (is kw_var) beyond ≡ false → variables_r.rule.ends vars beyond ≡ true
variables_stop [] beyond e = ap not e
variables_stop (v ∷ vars) beyond e = refl

-- Modules.
module _ (levels : ℕ) where
  abbrev pub process_body_r : Reading Symbol Statements
  process_body_r = record { rule = statements_rule levels; read = read_statements levels; reads = statements_reads levels }

  abbrev pub module_parts : Reading Symbol ((Letters × List Item) ⊎ (Letters × (Field × (List Field × Statements))))
  module_parts = either_of (is (Key KwDefinitions)) (keyword_then KwDefinitions (both name_r (in_braces_r (many_of inside item_r item_written))))
      (keyword_then KwProcess (both name_r (both (in_parens_r field_r) (in_braces_r (both variables_r process_body_r)))))

  abbrev pub module_rule : Rule Symbol Module
  module_rule = record { fits = module_fits levels; spelling = module_symbols; ends = λ m beyond. true }

  pub module_fits_of : (found : (Letters × List Item) ⊎ (Letters × (Field × (List Field × Statements)))) → module_parts.rule.fits found ≡ true → module_fits levels (module_of found) ≡ true
  module_fits_of (inl x) f = f
  module_fits_of (inr x) f = f

  pub module_spelled : (found : (Letters × List Item) ⊎ (Letters × (Field × (List Field × Statements)))) → module_parts.rule.fits found ≡ true → module_symbols (module_of found) ≡ module_parts.rule.spelling found
  module_spelled (inl x) f = refl
  module_spelled (inr x) f = refl

  pub module_ended : (found : (Letters × List Item) ⊎ (Letters × (Field × (List Field × Statements)))) (beyond : Option Symbol) → module_parts.rule.fits found ≡ true → true ≡ module_parts.rule.ends found beyond
  module_ended (inl x) beyond f = sym (many_end inside item_r.rule item_leads (λ i h g. refl) x.1 (Some brace_close) (and_parts (is_name x.0) (many_fits item_fits x.1) f).1)
  module_ended (inr (name, (port, (vars, body)))) beyond f =
      let fit = and_parts (is_name name) (field_fits port && (many_fits field_fits vars && statements_fit body levels)) f in
      let fit_port = and_parts (field_fits port) (many_fits field_fits vars && statements_fit body levels) fit.1 in
      let fit_body = and_parts (many_fits field_fits vars) (statements_fit body levels) fit_port.1 in
      sym (both_true (variables_stop vars (ahead (statements body) (Some brace_close)) (no_variables body levels fit_body.1)) (statements_stop body levels fit_body.1))

  pub module_back : (m : Module) → module_fits levels m ≡ true → (found : (Letters × List Item) ⊎ (Letters × (Field × (List Field × Statements)))) × (module_parts.rule.fits found ≡ true) × (module_of found ≡ m)
  module_back (Definitions name items) f = (inl (name, items), f, refl)
  module_back (Process name port vars body) f = (inr (name, (port, (vars, body))), f, refl)

  abbrev pub module_r : Reading Symbol Module
  module_r = turned module_of module_rule module_parts (record { fits = module_fits_of; spelling = module_spelled; ends = module_ended; back = module_back })

  pub module_written : IsWritten module_r.rule
  module_written (Definitions name items) f e = cc
  module_written (Process name port vars body) f e = cc

  pub module_leads : (m : Module) → module_fits levels m ≡ true → passes anything (ahead (module_symbols m) None) ≡ true
  module_leads (Definitions name items) f = refl
  module_leads (Process name port vars body) f = refl

  abbrev pub file_parts : Reading Symbol (List Module)
  file_parts = many_of anything module_r module_written

  pub file_reads : Reads (file_rule levels) (read_file levels)
  file_reads = refit_reads (file_rule levels) file_parts (record {
    fits = λ ms f. f;
    spelling = λ ms f. refl;
    ends = λ ms beyond f. sym (many_end anything module_r.rule module_leads (λ m h g. refl) ms beyond f);
    back = λ ms f. (ms, f, refl);
  })
