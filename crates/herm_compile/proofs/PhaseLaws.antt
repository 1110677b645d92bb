-- The first phase over the files.
use Rattle.std.proofs.Common.{◌≡◌, inl, inr, ℕ, zero, suc, List, [], ◌∷◌, ◌++◌, Option, Some, None, map, length, refl, sym, ap, subst, ◌∙◌, ◌<◌, ◌≤◌, ◌+◌, get_or, drop, replicate, arith, add-one, drop-cons, append_assoc, append-nil}
use Rattle.herm_lexer.specs.declared.fault.LexFault.TheVariants as lexical
use Rattle.herm_lexer.proofs.FileLaws.{one_token_list, tokens_or_fault}
use Rattle.herm_alphabet.specs.declared.token.Token.{Token}
use Rattle.herm_readers.specs.BracketBalance.{IsTooDeep}
use Rattle.herm_readers.proofs.Nesting.{finds_within}
use Rattle.herm_syntax.specs.Symbols.{Symbol, side}
use Rattle.herm_syntax.specs.View.{module_view}
use Rattle.herm_syntax.specs.laws.GrammarLaws.{IsWithinRoom}
use Rattle.herm_parser.specs.Gives.{kinds as symbols_of}
use Rattle.herm_parser.specs.BracketDepth.{most_brackets}
use Rattle.herm_syntax.specs.declared.modules.Module.{Module}
use Rattle.herm_compile.specs.View.{Seen, fault_view}
use Rattle.herm_compile.specs.FirstPhase.{HasTrees, HasModules, IsSaid, AreFirstFaults, HaveModules, file_fault, fault_list, TreesOrFault}
use Rattle.herm_compile.specs.Added.{IsAdded}
use Rattle.herm_compile.specs.declared.phase.ReadFiles.{ReadFiles}
use Rattle.herm_compile.specs.declared.phase.FileFault.{FileFault}
use Rattle.herm_compile.specs.declared.phase.FileFault.TheVariants as faults

-- What is found of the files so far, with what is found of the others, is what is found of all.
abbrev pub GoesOn : ℕ → List (List ℕ) → List (List ℕ) → List Seen → Type 0
GoesOn number all rest found = (others : List Seen) → AreFirstFaults number rest others → AreFirstFaults 0 all (found ++ others)

pub goes_next : (number : ℕ) (all : List (List ℕ)) (bytes : List ℕ) (rest : List (List ℕ)) (found after : List Seen) (said : Option FileFault) →
    GoesOn number all (bytes ∷ rest) found → IsSaid bytes said → after ≡ found ++ fault_list number bytes said → GoesOn (suc number) all rest after
goes_next number all bytes rest found after said goes is e others more =
    let whole = goes (fault_list number bytes said ++ others) (said, is, others, refl, more) in
    subst (λ (faults : List Seen). AreFirstFaults 0 all faults) (sym (ap (λ (f : List Seen). f ++ others) e ∙ append_assoc found (fault_list number bytes said) others)) whole

goes_end : (number : ℕ) (all rest : List (List ℕ)) (found : List Seen) → rest ≡ [] → GoesOn number all rest found → AreFirstFaults 0 all found
goes_end number all rest found e goes =
    subst (λ (faults : List Seen). AreFirstFaults 0 all faults) (append-nil found)
    (goes [] (subst (λ (files : List (List ℕ)). AreFirstFaults number files []) (sym e) refl))

-- what was read of all files
pub record ReadAll (all : List (List ℕ)) (read : ReadFiles) : Type 0 where
  pub found : AreFirstFaults 0 all (map fault_view read.faults.items)
  pub modules : read.faults.items ≡ [] → HaveModules 0 all read.modules.items read.owners.items

not_nil : (xs : List Seen) (x : Seen) → xs ++ x ∷ [] ≡ [] → ⊥
not_nil [] x e = cc
not_nil (y ∷ ys) x e = cc

-- the same of modules, where no fault was found
abbrev pub ModulesGoOn : ℕ → List (List ℕ) → List (List ℕ) → List Module → List ℕ → Type 0
ModulesGoOn number all rest modules owners = (others : List Module) (behind : List ℕ) → HaveModules number rest others behind → HaveModules 0 all (modules ++ others) (owners ++ behind)

pub record ReadOn (number : ℕ) (all rest : List (List ℕ)) (read : ReadFiles) : Type 0 where
  pub found : GoesOn number all rest (map fault_view read.faults.items)
  pub modules : read.faults.items ≡ [] → ModulesGoOn number all rest read.modules.items read.owners.items

pub read_first : (all : List (List ℕ)) (read : ReadFiles) → read.faults.items ≡ [] → read.modules.items ≡ [] → read.owners.items ≡ [] → ReadOn 0 all all read
read_first all read none no_modules no_owners = record {
  found = λ others more. subst (λ (faults : List Seen). AreFirstFaults 0 all (faults ++ others)) (sym (ap (map fault_view) none)) more;
  modules = λ e others behind more. subst (λ (ms : List Module). HaveModules 0 all (ms ++ others) (read.owners.items ++ behind)) (sym no_modules) (subst (λ (ns : List ℕ). HaveModules 0 all others (ns ++ behind)) (sym no_owners) more);
}

modules_next : (number : ℕ) (all : List (List ℕ)) (bytes : List ℕ) (rest : List (List ℕ)) (modules own after : List Module) (owners owners_after : List ℕ) →
    ModulesGoOn number all (bytes ∷ rest) modules owners → HasModules bytes own → after ≡ modules ++ own → owners_after ≡ owners ++ replicate (length own) number → ModulesGoOn (suc number) all rest after owners_after
modules_next number all bytes rest modules own after owners owners_after goes has e d others behind more =
    let whole = goes (own ++ others) (replicate (length own) number ++ behind) (own, has, others, behind, refl, refl, more) in
    let there = subst (λ (ms : List Module). HaveModules 0 all ms (owners ++ (replicate (length own) number ++ behind))) (sym (ap (λ (ms : List Module). ms ++ others) e ∙ append_assoc modules own others)) whole in
    subst (λ (ns : List ℕ). HaveModules 0 all (after ++ others) ns) (sym (ap (λ (ns : List ℕ). ns ++ behind) d ∙ append_assoc owners (replicate (length own) number) behind)) there

-- what a file adds
read_next : (number : ℕ) (all : List (List ℕ)) (bytes : List ℕ) (rest : List (List ℕ)) (before after : ReadFiles) → ReadOn number all (bytes ∷ rest) before → IsAdded number bytes before after → ReadOn (suc number) all rest after
read_next number all bytes rest before after on (inl added) = record {
  found = goes_next number all bytes rest (map fault_view before.faults.items) (map fault_view after.faults.items) None on.found (added.own, added.read)
      (ap (map fault_view) added.faults ∙ sym (append-nil (map fault_view before.faults.items)));
  modules = λ e. modules_next number all bytes rest before.modules.items added.own after.modules.items before.owners.items after.owners.items (on.modules (sym added.faults ∙ e)) added.read added.modules added.owners;
}
read_next number all bytes rest before after on (inr added) = record {
  found = goes_next number all bytes rest (map fault_view before.faults.items) (map fault_view after.faults.items) (Some added.fault) on.found added.has added.faults;
  modules = λ e. absurd (not_nil (map fault_view before.faults.items) (file_fault number bytes added.fault) (sym added.faults ∙ ap (map fault_view) e));
}

pub read_step : {X : Type 0} (f : X → List ℕ) (files : List X) (at number : ℕ) (file : X) (before after : ReadFiles) →
    at < length files → file ≡ get_or files at file → ReadOn number (map f files) (map f (drop at files)) before → IsAdded number (f file) before after →
    ReadOn (suc number) (map f files) (map f (drop (at + 1) files)) after
read_step {X} f files at number file before after l i on added =
    let d : drop at files ≡ file ∷ drop (suc at) files = drop-cons files at file l ∙ ap (λ (x : X). x ∷ drop (suc at) files) (sym i) in
    let here = subst (λ (fs : List X). ReadOn number (map f files) (map f fs) before) d on in
    rw add-one (read_next number (map f files) (f file) (map f (drop (suc at) files)) before after here added)

read_end : (number : ℕ) (all rest : List (List ℕ)) (read : ReadFiles) → rest ≡ [] → ReadOn number all rest read → ReadAll all read
read_end number all rest read e on = record {
  found = goes_end number all rest (map fault_view read.faults.items) e on.found;
  modules = λ none.
      let whole = on.modules none [] [] (subst (λ (files : List (List ℕ)). HaveModules number files [] []) (sym e) (refl, refl)) in
      subst (λ (ms : List Module). HaveModules 0 all ms read.owners.items) (append-nil read.modules.items) (subst (λ (ns : List ℕ). HaveModules 0 all (read.modules.items ++ []) ns) (append-nil read.owners.items) whole);
}

drop_end : {X : Type 0} (files : List X) (at : ℕ) → length files ≤ at → drop at files ≡ []
drop_end [] zero l = refl
drop_end [] (suc at) l = refl
drop_end (file ∷ files) zero l = absurd (omega arith)
drop_end (file ∷ files) (suc at) l = drop_end files at (omega arith)

pub read_past : {X : Type 0} (f : X → List ℕ) (files : List X) (at number : ℕ) (read : ReadFiles) →
    length files ≤ at → ReadOn number (map f files) (map f (drop at files)) read → ReadAll (map f files) read
read_past {X} f files at number read l on = read_end number (map f files) (map f (drop at files)) read (ap (λ (fs : List X). map f fs) (drop_end files at l)) on

-- a bracket is not open too many where none is
none_too_deep : (symbols : List Symbol) (count : ℕ) → IsWithinRoom most_brackets symbols → IsTooDeep side most_brackets symbols count → ⊥
none_too_deep symbols count within deep =
    let few = finds_within Symbol side most_brackets symbols within (deep.front ++ deep.x ∷ []) deep.behind (deep.whole ∙ sym (append_assoc deep.front (deep.x ∷ []) deep.behind)) in
    omega (arith, few, deep.reached)

pub trees_or_fault : TreesOrFault
trees_or_fault bytes (faults.Byte offset) trees has = tokens_or_fault bytes trees.1.tokens (lexical.Byte offset) trees.1.read has
trees_or_fault bytes (faults.Token offset) trees has = tokens_or_fault bytes trees.1.tokens (lexical.Token offset) trees.1.read has
trees_or_fault bytes (faults.TooLong offset) trees has = tokens_or_fault bytes trees.1.tokens (lexical.TooLong offset) trees.1.read has
trees_or_fault bytes (faults.Syntax offset) trees has =
    let same = ap (λ (ts : List Token). symbols_of ts) (one_token_list bytes trees.1.tokens has.0 trees.1.read has.1) in
    has.2.none (map module_view trees.0) trees.1.parsed.program.fits (sym trees.1.parsed.spelled ∙ same)
trees_or_fault bytes (faults.Nesting offset) trees has =
    let same = ap (λ (ts : List Token). symbols_of ts) (one_token_list bytes trees.1.tokens has.0 trees.1.read has.1) in
    none_too_deep (symbols_of has.0) has.2.left (subst (λ (s : List Symbol). IsWithinRoom most_brackets s) same trees.1.parsed.within) has.2.deep

-- files that have trees have no fault of the first phase
no_fault_said : (bytes : List ℕ) (said : Option FileFault) (number : ℕ) (others seen : List Seen) → HasTrees bytes → IsSaid bytes said → seen ≡ fault_list number bytes said ++ others → others ≡ [] → seen ≡ []
no_fault_said bytes None number others seen trees is e none = e ∙ none
no_fault_said bytes (Some fault) number others seen trees is e none = absurd (trees_or_fault bytes fault trees is)

pub no_first_faults : (number : ℕ) (files : List (List ℕ)) (modules : List Module) (owners : List ℕ) (seen : List Seen) → HaveModules number files modules owners → AreFirstFaults number files seen → seen ≡ []
no_first_faults number [] modules owners seen have are = are
no_first_faults number (bytes ∷ files) modules owners seen have are =
    no_fault_said bytes are.0 number are.2 seen (have.0, have.1) are.1 are.3 (no_first_faults (suc number) files have.2 have.3 are.2 have.6 are.4)
