-- Readers of paths and atoms, and what stops them.
use Rattle.std.proofs.Common.{◌≡◌, true, false, not, ◌⊎◌, inl, inr, List, [], ◌∷◌, Option, true≢false, refl, sym, ap, ◌∙◌}
use Rattle.std.proofs.lemmas.Bool.{and_parts, and_from}
use Rattle.herm_readers.specs.Reader.{Rule, Reads, ahead}
use Rattle.herm_readers.specs.Combinators.{passes, one, one_rule, sequence, sequence_rule, preceded, preceded_rule, choice, choice_rule, many_fits, separated, separated_rule}
use Rattle.herm_readers.specs.laws.ReaderLaws.{Changes}
use Rattle.herm_readers.proofs.Simple.{changed_reads}
use Rattle.herm_readers.proofs.Sequences.{sequence_reads}
use Rattle.herm_readers.proofs.Marks.{leading_reads}
use Rattle.herm_readers.proofs.Choices.{choice_reads}
use Rattle.herm_readers.proofs.Lists.{many_reads}
use Rattle.herm_readers.proofs.Separated.{leading_written, separated_reads}
use Rattle.herm_alphabet.specs.declared.sign.Mark.TheVariants.{Dot, Hash}
use Rattle.herm_syntax.specs.Symbols.{Symbol, is, dot, hash}
use Rattle.herm_syntax.specs.Trees.{Letters, Path, Literal, Integer, Text, Boolean, Tag, Atom, Constant, Place}
use Rattle.herm_syntax.specs.Spelling.{path, dotted, atom}
use Rattle.herm_syntax.specs.Fitting.{is_name, any_part, path_fits, component_path_fits, atom_fits}
use Rattle.herm_syntax.specs.ReadExpressions.{pick_constant, is_constant, read_name, read_part, name_rule, part_rule, read_dotted, dotted_rule, path_of, read_path, path_ends, path_rule, read_component_path, component_path_ends, component_path_rule, behind_name, behind_name_rule, atom_of, read_atom, atom_ends, atom_rule}
use Rattle.herm_syntax.proofs.Names.{sign_test, name_reads, part_reads, constant_fits, constant_symbol, constant_reads}

pub dotted_reads : Reads dotted_rule read_dotted
dotted_reads = many_reads (is dot) (preceded_rule dot part_rule) (preceded (is dot) read_part) (leading_written dot part_rule) (leading_reads dot (is dot) part_rule read_part (sign_test Dot) part_reads)

pub all_parts : (parts : List Letters) → many_fits any_part parts ≡ true
all_parts [] = refl
all_parts (p ∷ parts) = all_parts parts

path_back : (p : Path) → path_fits p ≡ true → (found : Letters × List Letters) × ((sequence_rule name_rule dotted_rule).fits found ≡ true) × (path_of found ≡ p)
path_back [] f = absurd (cc)
path_back (variable ∷ parts) f = ((variable, parts), and_from (is_name variable) (many_fits any_part parts) f (all_parts parts), refl)

path_changes : Changes path_of (sequence_rule name_rule dotted_rule) path_rule
path_changes = record {
  fits = λ found f. (and_parts (is_name found.0) (many_fits any_part found.1) f).0;
  spelling = λ found f. refl;
  ends = λ found beyond f. refl;
  back = path_back;
}

pub path_reads : Reads path_rule read_path
path_reads = changed_reads path_of (sequence_rule name_rule dotted_rule) path_rule (sequence read_name read_dotted) path_changes (sequence_reads name_rule dotted_rule read_name read_dotted name_reads dotted_reads)

abbrev component_path_parts : Rule Symbol (Letters × List Letters)
component_path_parts = sequence_rule name_rule (preceded_rule dot (separated_rule dot (is dot) part_rule))

component_path_fits_of : (found : Letters × List Letters) → component_path_parts.fits found ≡ true → component_path_fits (path_of found) ≡ true
component_path_fits_of (variable, []) f = absurd (true≢false (sym (and_parts (is_name variable) false f).1))
component_path_fits_of (variable, p ∷ parts) f = (and_parts (is_name variable) (many_fits any_part parts) f).0

component_path_spelled : (found : Letters × List Letters) → component_path_parts.fits found ≡ true → path (path_of found) ≡ component_path_parts.spelling found
component_path_spelled (variable, []) f = absurd (true≢false (sym (and_parts (is_name variable) false f).1))
component_path_spelled (variable, p ∷ parts) f = refl

component_path_ended : (found : Letters × List Letters) (beyond : Option Symbol) → component_path_parts.fits found ≡ true → component_path_ends (path_of found) beyond ≡ component_path_parts.ends found beyond
component_path_ended (variable, []) beyond f = absurd (true≢false (sym (and_parts (is_name variable) false f).1))
component_path_ended (variable, p ∷ parts) beyond f = refl

component_path_back : (p : Path) → component_path_fits p ≡ true → (found : Letters × List Letters) × (component_path_parts.fits found ≡ true) × (path_of found ≡ p)
component_path_back [] f = absurd (cc)
component_path_back (variable ∷ []) f = absurd (cc)
component_path_back (variable ∷ p ∷ parts) f = ((variable, p ∷ parts), and_from (is_name variable) (many_fits any_part parts) f (all_parts parts), refl)

component_path_changes : Changes path_of component_path_parts component_path_rule
component_path_changes = record { fits = component_path_fits_of; spelling = component_path_spelled; ends = component_path_ended; back = component_path_back }

pub component_path_reads : Reads component_path_rule read_component_path
component_path_reads = changed_reads path_of component_path_parts component_path_rule (sequence read_name (preceded (is dot) (separated (is dot) read_part))) component_path_changes
    (sequence_reads name_rule (preceded_rule dot (separated_rule dot (is dot) part_rule)) read_name (preceded (is dot) (separated (is dot) read_part)) name_reads
    (leading_reads dot (is dot) (separated_rule dot (is dot) part_rule) (separated (is dot) read_part) (sign_test Dot) (separated_reads dot (is dot) part_rule read_part (sign_test Dot) part_reads)))

-- Literals and paths.
behind_name_reads : Reads behind_name_rule behind_name
behind_name_reads = choice_reads (is hash) (preceded_rule hash part_rule) dotted_rule (preceded (is hash) read_part) read_dotted (leading_reads hash (is hash) part_rule read_part (sign_test Hash) part_reads) dotted_reads

abbrev atom_parts : Rule Symbol (Literal ⊎ (Letters × (Letters ⊎ List Letters)))
atom_parts = choice_rule is_constant (one_rule constant_fits constant_symbol) (sequence_rule name_rule behind_name_rule)

atom_fits_of : (found : Literal ⊎ (Letters × (Letters ⊎ List Letters))) → atom_parts.fits found ≡ true → atom_fits (atom_of found) ≡ true
atom_fits_of (inl (Integer n)) f = refl
atom_fits_of (inl (Text letters)) f = refl
atom_fits_of (inl (Boolean b)) f = refl
atom_fits_of (inl (Tag name value)) f = absurd (cc)
atom_fits_of (inr (name, inl value)) f = (and_parts (is_name name) true f).0
atom_fits_of (inr (name, inr parts)) f = (and_parts (is_name name) (many_fits any_part parts) f).0

atom_spelled : (found : Literal ⊎ (Letters × (Letters ⊎ List Letters))) → atom_parts.fits found ≡ true → atom (atom_of found) ≡ atom_parts.spelling found
atom_spelled (inl (Integer n)) f = refl
atom_spelled (inl (Text letters)) f = refl
atom_spelled (inl (Boolean true)) f = refl
atom_spelled (inl (Boolean false)) f = refl
atom_spelled (inl (Tag name value)) f = absurd (cc)
atom_spelled (inr (name, inl value)) f = refl
atom_spelled (inr (name, inr parts)) f = refl

atom_ended : (found : Literal ⊎ (Letters × (Letters ⊎ List Letters))) (beyond : Option Symbol) → atom_parts.fits found ≡ true → atom_ends (atom_of found) beyond ≡ atom_parts.ends found beyond
atom_ended (inl (Integer n)) beyond f = refl
atom_ended (inl (Text letters)) beyond f = refl
atom_ended (inl (Boolean true)) beyond f = refl
atom_ended (inl (Boolean false)) beyond f = refl
atom_ended (inl (Tag name value)) beyond f = absurd (cc)
atom_ended (inr (name, inl value)) beyond f = refl
atom_ended (inr (name, inr parts)) beyond f = refl

atom_back : (a : Atom) → atom_fits a ≡ true → (found : Literal ⊎ (Letters × (Letters ⊎ List Letters))) × (atom_parts.fits found ≡ true) × (atom_of found ≡ a)
atom_back (Constant (Integer n)) f = (inl (Integer n), refl, refl)
atom_back (Constant (Text letters)) f = (inl (Text letters), refl, refl)
atom_back (Constant (Boolean b)) f = (inl (Boolean b), refl, refl)
atom_back (Constant (Tag name value)) f = (inr (name, inl value), and_from (is_name name) true f refl, refl)
atom_back (Place []) f = absurd (cc)
atom_back (Place (variable ∷ parts)) f = (inr (variable, inr parts), and_from (is_name variable) (many_fits any_part parts) f (all_parts parts), refl)

atom_changes : Changes atom_of atom_parts atom_rule
atom_changes = record { fits = atom_fits_of; spelling = atom_spelled; ends = atom_ended; back = atom_back }

pub atom_reads : Reads atom_rule read_atom
atom_reads = changed_reads atom_of atom_parts atom_rule (choice is_constant (one pick_constant) (sequence read_name behind_name)) atom_changes
    (choice_reads is_constant (one_rule constant_fits constant_symbol) (sequence_rule name_rule behind_name_rule) (one pick_constant) (sequence read_name behind_name) constant_reads
    (sequence_reads name_rule behind_name_rule read_name behind_name name_reads behind_name_reads))

-- A path ends in front of what is no dot, and an atom in front of what is no dot and no `#`.
dotted_ended : (parts : List Letters) (beyond : Option Symbol) → dotted_rule.ends parts beyond ≡ not (passes (is dot) beyond)
dotted_ended [] beyond = refl
dotted_ended (p ∷ parts) beyond = dotted_ended parts beyond

pub path_stops : (p : Path) (beyond : Option Symbol) → passes (is dot) beyond ≡ false → path_ends p beyond ≡ true
path_stops [] beyond e = refl
path_stops (variable ∷ parts) beyond e = dotted_ended parts beyond ∙ ap not e

pub component_path_stops : (p : Path) (beyond : Option Symbol) → passes (is dot) beyond ≡ false → component_path_ends p beyond ≡ true
component_path_stops [] beyond e = refl
component_path_stops (variable ∷ []) beyond e = refl
component_path_stops (variable ∷ p ∷ parts) beyond e = dotted_ended parts beyond ∙ ap not e

hash_ahead : (parts : List Letters) (beyond : Option Symbol) → passes (is hash) beyond ≡ false → not (passes (is hash) (ahead (dotted parts) beyond)) ≡ true
hash_ahead [] beyond e = ap not e
hash_ahead (p ∷ parts) beyond e = refl

pub atom_stops : (a : Atom) (beyond : Option Symbol) → passes (is dot) beyond ≡ false → passes (is hash) beyond ≡ false → atom_ends a beyond ≡ true
atom_stops (Constant l) beyond e h = refl
atom_stops (Place []) beyond e h = refl
atom_stops (Place (variable ∷ parts)) beyond e h =
    and_from (not (passes (is hash) (ahead (dotted parts) beyond))) (dotted_rule.ends parts beyond) (hash_ahead parts beyond h) (dotted_ended parts beyond ∙ ap not e)
