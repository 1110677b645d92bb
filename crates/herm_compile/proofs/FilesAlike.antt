-- Modules that the same files have are alike in what is read off their tokens and views, and their files are the same.
use Rattle.std.proofs.Common.{◌≡◌, ℕ, suc, List, [], ◌∷◌, ◌++◌, map, length, replicate, sym, ap, ◌∙◌, subst}
use Rattle.std.proofs.lemmas.List.{map-append}
use Rattle.herm_alphabet.specs.declared.token.Token.{Token}
use Rattle.herm_model.proofs.Lists.{length-map}
use Rattle.herm_lexer.proofs.FileLaws.{one_token_list}
use Rattle.herm_syntax.specs.declared.modules.Module.{Module}
use Rattle.herm_syntax.specs.Trees.{Module as Tree}
use Rattle.herm_syntax.specs.View.{module_view}
use Rattle.herm_parser.specs.AlongDefinitions.{past_module}
use Rattle.herm_parser.specs.Parsing.{IsParsed}
use Rattle.herm_parser.proofs.OneAnswer.{one_parse}
use Rattle.herm_compile.specs.FirstPhase.{HasModules, HaveModules}
use Rattle.herm_compile.proofs.Leads.{Tokens}
use Rattle.herm_compile.proofs.NamedPlaces.{Reads, skip_module, read_alike}

-- A file's modules have this alike.
abbrev IsAlike : {Z : Type 0} → (Module → Z) → Type 0
IsAlike core = (bytes : List ℕ) (a b : List Module) → HasModules bytes a → HasModules bytes b → map core a ≡ map core b

parsed_again : (bytes : List ℕ) (a b : List Module) (of_a : HasModules bytes a) (of_b : HasModules bytes b) → IsParsed of_a.tokens b
parsed_again bytes a b of_a of_b = subst (λ (ts : List Token). IsParsed ts b) (one_token_list bytes of_b.tokens of_a.tokens of_b.read of_a.read) of_b.parsed

views_alike : IsAlike module_view
views_alike bytes a b of_a of_b = (one_parse of_a.tokens a b of_a.parsed (parsed_again bytes a b of_a of_b)).0

reads_alike : {Z : Type 0} → {core : Module → Z} → {at : Tree → Tokens → Z} → Reads past_module module_view core skip_module at → IsAlike core
reads_alike r bytes a b of_a of_b = read_alike r of_a.tokens [] [] a b (views_alike bytes a b of_a of_b) of_a.parsed.along (parsed_again bytes a b of_a of_b).along

-- the same over all files
all_alike : {Z : Type 0} → {core : Module → Z} → IsAlike core → (number : ℕ) (files : List (List ℕ)) (a b : List Module) (owners others : List ℕ) →
    HaveModules number files a owners → HaveModules number files b others → map core a ≡ map core b
all_alike {Z} {core} one number [] a b owners others of_a of_b = ap (map core) (of_a.0 ∙ sym of_b.0)
all_alike {Z} {core} one number (bytes ∷ files) a b owners others of_a of_b =
    ap (map core) of_a.4 ∙ (map-append core of_a.0 of_a.2
    ∙ (ap (λ cs. cs ++ map core of_a.2) (one bytes of_a.0 of_b.0 of_a.1 of_b.1)
    ∙ (ap (λ cs. map core of_b.0 ++ cs) (all_alike one (suc number) files of_a.2 of_b.2 of_a.3 of_b.3 of_a.6 of_b.6) ∙ (sym (map-append core of_b.0 of_b.2) ∙ ap (map core) (sym of_b.4)))))

pub same_views : (number : ℕ) (files : List (List ℕ)) (a b : List Module) (owners others : List ℕ) → HaveModules number files a owners → HaveModules number files b others → map module_view a ≡ map module_view b
same_views number files a b owners others of_a of_b = all_alike views_alike number files a b owners others of_a of_b

pub same_read : {Z : Type 0} → {core : Module → Z} → {at : Tree → Tokens → Z} → Reads past_module module_view core skip_module at → (number : ℕ) (files : List (List ℕ)) (a b : List Module) (owners others : List ℕ) →
    HaveModules number files a owners → HaveModules number files b others → map core a ≡ map core b
same_read r number files a b owners others of_a of_b = all_alike (reads_alike r) number files a b owners others of_a of_b

pub same_owners : (number : ℕ) (files : List (List ℕ)) (a b : List Module) (owners others : List ℕ) → HaveModules number files a owners → HaveModules number files b others → owners ≡ others
same_owners number [] a b owners others of_a of_b = of_a.1 ∙ sym of_b.1
same_owners number (bytes ∷ files) a b owners others of_a of_b =
    let count = sym (length-map module_view of_a.0) ∙ (ap length (views_alike bytes of_a.0 of_b.0 of_a.1 of_b.1) ∙ length-map module_view of_b.0) in
    of_a.5 ∙ (ap (λ n. replicate n number ++ of_a.3) count ∙ (ap (λ os. replicate (length of_b.0) number ++ os) (same_owners (suc number) files of_a.2 of_b.2 of_a.3 of_b.3 of_a.6 of_b.6) ∙ sym of_b.5))
