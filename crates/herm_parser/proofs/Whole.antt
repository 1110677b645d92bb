-- Files as a whole: what is parsed, and where a fault stands.
use Rattle.std.proofs.Common.{◌≡◌, ℕ, suc, List, [], ◌∷◌, Some, None, ◌⊎◌, inl, inr, Bool, true, false, map, refl, sym, ap, ◌∙◌, subst}
use mathlib.Core.Path.{fun_ext}
use Rattle.herm_readers.specs.Reader.{Answer, Read, Fault, Reader, ahead}
use Rattle.herm_readers.specs.Combinators.{onward, passes, mapped, chosen, choice, preceded, many, sequence}
use Rattle.herm_readers.specs.BracketBalance.{too_deep}
use Rattle.herm_readers.proofs.Nesting.{finds_too_deep}
use Rattle.herm_alphabet.specs.declared.token.Token.{Token}
use Rattle.herm_syntax.specs.declared.modules.Module.{Module as ModuleForm}
use Rattle.herm_syntax.specs.Symbols.{Symbol, is, side}
use Rattle.herm_syntax.specs.KeywordSymbols.{kw_definitions, kw_process}
use Rattle.herm_syntax.specs.Trees.{Module}
use Rattle.herm_syntax.specs.ReadExpressions.{read_name, in_parens}
use Rattle.herm_syntax.specs.ReadStatements.{inside, in_braces, read_statements}
use Rattle.herm_syntax.specs.ReadModules.{read_module, anything, module_of, read_field, read_item, read_variables}
use Rattle.herm_syntax.specs.View as views
use Rattle.herm_syntax.specs.laws.GrammarLaws.{read_within}
use Rattle.herm_syntax.proofs.Files.{module_r, module_written}
use Rattle.herm_syntax.proofs.MendedFits.{fault_begins_source}
use Rattle.herm_syntax.proofs.Places.{file_is_found, fault_begins, fault_is_first, fault_has_no_file}
use Rattle.herm_parser.specs.Along.{past_each}
use Rattle.herm_parser.specs.AlongDefinitions.{past_module}
use Rattle.herm_parser.specs.Blocks.{body_at}
use Rattle.herm_parser.specs.Modules.{either_module, definitions_at, process_at, module_at}
use Rattle.herm_parser.specs.Gives.{kinds}
use Rattle.herm_parser.specs.BracketDepth.{most_brackets, IsNested}
use Rattle.herm_parser.specs.Parsing.{IsParsed}
use Rattle.herm_parser.specs.TokenPlaces.{place_of}
use Rattle.herm_parser.specs.SyntaxFaults.{IsMisspelled}
use Rattle.herm_parser.proofs.Loops.{Goes, goes_by}
use Rattle.herm_parser.proofs.Numbered.{file_numbered}

module _ {A B : Type 0} (h : A ⊎ B → Module) (f : Reader Symbol A) (g : Reader Symbol B) where
  left : (answer : Answer Symbol A) → onward (onward answer (λ a rest. Read (inl a) rest)) (λ x rest. Read (h x) rest) ≡ onward (onward (onward answer (λ a rest. Read (h (inl a)) rest)) (λ s rest. Read (inl s) rest)) (λ x rest. Read (either_module x) rest)
  left (Read a rest) = refl
  left (Fault n) = refl

  right : (answer : Answer Symbol B) → onward (onward answer (λ b rest. Read (inr b) rest)) (λ x rest. Read (h x) rest) ≡ onward (onward (onward answer (λ b rest. Read (h (inr b)) rest)) (λ s rest. Read (inr s) rest)) (λ x rest. Read (either_module x) rest)
  right (Read b rest) = refl
  right (Fault n) = refl

  split_by : (passed : Bool) (s : List Symbol) → onward (chosen passed f g s) (λ x rest. Read (h x) rest) ≡ onward (chosen passed (mapped (λ a. h (inl a)) f) (mapped (λ b. h (inr b)) g) s) (λ x rest. Read (either_module x) rest)
  split_by true s = left (f s)
  split_by false s = right (g s)

  split : (test : Symbol → Bool) (s : List Symbol) → mapped h (choice test f g) s ≡ mapped either_module (choice test (mapped (λ a. h (inl a)) f) (mapped (λ b. h (inr b)) g)) s
  split test s = split_by (passes test (ahead s None)) s

module_is_at : (depth : ℕ) (s : List Symbol) → read_module depth s ≡ module_at depth s
unfolding module_at definitions_at process_at body_at
module_is_at depth s = split module_of (preceded (is kw_definitions) (sequence read_name (in_braces (many inside read_item))))
    (preceded (is kw_process) (sequence read_name (sequence (in_parens read_field) (in_braces (sequence read_variables (read_statements depth)))))) (is kw_definitions) s

module_is : (depth : ℕ) → read_module depth ≡ module_at depth
module_is depth = fun_ext (module_is_at depth)

pub module_goes : (depth : ℕ) → Goes anything (module_at depth)
module_goes depth = subst (λ (read : Reader Symbol Module). Goes anything read) (module_is depth)
    (goes_by anything (module_r depth).rule (read_module depth) (module_written depth) (module_r depth).reads)

file_is : (room : ℕ) (s : List Symbol) → read_within room s ≡ many anything (module_at (suc room)) s
file_is room s = ap (λ (read : Reader Symbol Module). many anything read s) (module_is (suc room))

no_kinds : (tokens : List Token) → kinds tokens ≡ [] → tokens ≡ []
no_kinds [] e = refl
no_kinds (t ∷ tokens) e = absurd (cc)

pub parsed : (tokens rest : List Token) (modules : List ModuleForm) (depth : ℕ) → depth ≡ suc most_brackets → too_deep side (kinds tokens) most_brackets ≡ None →
    many anything (module_at depth) (kinds tokens) ≡ Read (map views.module_view modules) (kinds rest) → past_each past_module modules tokens ≡ Some rest → IsParsed tokens modules
parsed tokens rest modules depth deep within read along =
    let whole : read_within most_brackets (kinds tokens) ≡ Read (map views.module_view modules) (kinds rest) = file_is most_brackets (kinds tokens) ∙ (ap (λ d. many anything (module_at d) (kinds tokens)) (sym deep) ∙ read) in
    let found = file_is_found most_brackets (kinds tokens) (kinds rest) (map views.module_view modules) whole in
    record {
      within = within;
      program = record { fits = found.0; numbered = file_numbered modules tokens rest along };
      spelled = found.1;
      along = along ∙ ap (λ (t : List Token). Some t) (no_kinds rest found.2);
    }

pub misspelled : (tokens : List Token) (left depth offset : ℕ) → depth ≡ suc most_brackets → too_deep side (kinds tokens) most_brackets ≡ None →
    many anything (module_at depth) (kinds tokens) ≡ Fault left → offset ≡ place_of tokens left → IsMisspelled tokens offset
misspelled tokens left depth offset deep within read place =
    let whole : read_within most_brackets (kinds tokens) ≡ Fault left = file_is most_brackets (kinds tokens) ∙ (ap (λ d. many anything (module_at d) (kinds tokens)) (sym deep) ∙ read) in
    record {
      within = within;
      left = left;
      begins = fault_begins most_brackets (kinds tokens) left whole;
      begins_source = λ each. fault_begins_source most_brackets (kinds tokens) left each whole;
      none = fault_has_no_file most_brackets (kinds tokens) left within whole;
      first = λ front x behind e count.
          fault_is_first most_brackets front x behind (ap (λ (s : List Symbol). too_deep side s most_brackets) (sym e) ∙ within) (ap (read_within most_brackets) (sym e) ∙ (whole ∙ ap Fault count));
      place = place;
    }

pub nested : (tokens : List Token) (left offset : ℕ) → too_deep side (kinds tokens) most_brackets ≡ Some left → offset ≡ place_of tokens left → IsNested tokens offset
nested tokens left offset deep place = record { left = left; deep = finds_too_deep Symbol side most_brackets (kinds tokens) left deep; place = place }
