-- The laws of the combinators, for any symbols.
use Rattle.std.specs.Prelude.{◌≡◌, ◌≢◌, ℕ, suc, Bool, true, List, [], ◌∷◌, ◌++◌, length, Option, Some, None}
use Rattle.herm_readers.specs.Reader.{Fault, Reader, Rule, Reads, ahead}
use Rattle.herm_readers.specs.Combinators.{nothing, nothing_rule, one, one_rule, mapped, and_then, and_then_rule, sequence, sequence_rule, preceded, preceded_rule, terminated, terminated_rule, choice, choice_rule, many, many_step, many_rule, passes, separated, separated_rule}

-- One symbol: `pick` has a value for exactly the symbols of the trees that fit.
pub record Picks {S A : Type 0} (fits : A → Bool) (symbol : A → S) (pick : S → Option A) : Type 0 where
  pub example : A
  pub example_fits : fits example ≡ true
  pub from : (x : S) (tree : A) → pick x ≡ Some tree → (fits tree ≡ true) × (x ≡ symbol tree)
  pub back : (tree : A) → fits tree ≡ true → pick (symbol tree) ≡ Some tree

-- The test is passed by one symbol alone.
pub record IsTestFor {S : Type 0} (x : S) (test : S → Bool) : Type 0 where
  pub passed : test x ≡ true
  pub alone : (y : S) → test y ≡ true → y ≡ x

-- The change leads from the trees of one rule onto those of another, with the same symbols and ends.
pub record Changes {S A B : Type 0} (change : A → B) (from : Rule S A) (to : Rule S B) : Type 0 where
  pub fits : (a : A) → from.fits a ≡ true → to.fits (change a) ≡ true
  pub spelling : (a : A) → from.fits a ≡ true → to.spelling (change a) ≡ from.spelling a
  pub ends : (a : A) (beyond : Option S) → from.fits a ≡ true → to.ends (change a) beyond ≡ from.ends a beyond
  pub back : (b : B) → to.fits b ≡ true → (a : A) × (from.fits a ≡ true) × (change a ≡ b)

-- Each tree of the rule spells a symbol.
abbrev pub IsWritten : {S A : Type 0} → Rule S A → Type 0
IsWritten {S} {A} rule = (tree : A) → rule.fits tree ≡ true → rule.spelling tree ≢ []

abbrev pub NothingIsRead : Type 0 → Type 0
NothingIsRead S = Reads (nothing_rule {S = S}) nothing

abbrev pub OneIsRead : Type 0 → Type 0 → Type 0
OneIsRead S A = (fits : A → Bool) (symbol : A → S) (pick : S → Option A) → Picks fits symbol pick → Reads (one_rule fits symbol) (one pick)

abbrev pub ChangedIsRead : Type 0 → Type 0 → Type 0 → Type 0
ChangedIsRead S A B = (change : A → B) (from : Rule S A) (to : Rule S B) (read : Reader S A) → Changes change from to → Reads from read → Reads to (mapped change read)

abbrev pub DependingIsRead : Type 0 → Type 0 → Type 0 → Type 0
DependingIsRead S A B = (first : Rule S A) (second : A → Rule S B) (read_first : Reader S A) (read_second : A → Reader S B) →
    Reads first read_first → ((a : A) → Reads (second a) (read_second a)) → Reads (and_then_rule first second) (and_then read_first read_second)

abbrev pub SequenceIsRead : Type 0 → Type 0 → Type 0 → Type 0
SequenceIsRead S A B = (first : Rule S A) (second : Rule S B) (read_first : Reader S A) (read_second : Reader S B) →
    Reads first read_first → Reads second read_second → Reads (sequence_rule first second) (sequence read_first read_second)

abbrev pub LeadingIsRead : Type 0 → Type 0 → Type 0
LeadingIsRead S A = (x : S) (test : S → Bool) (rule : Rule S A) (read : Reader S A) → IsTestFor x test → Reads rule read → Reads (preceded_rule x rule) (preceded test read)

abbrev pub ClosingIsRead : Type 0 → Type 0 → Type 0
ClosingIsRead S A = (x : S) (test : S → Bool) (rule : Rule S A) (read : Reader S A) → IsTestFor x test → Reads rule read → Reads (terminated_rule x rule) (terminated test read)

abbrev pub ChoiceIsRead : Type 0 → Type 0 → Type 0 → Type 0
ChoiceIsRead S A B = (test : S → Bool) (first : Rule S A) (second : Rule S B) (read_first : Reader S A) (read_second : Reader S B) →
    Reads first read_first → Reads second read_second → Reads (choice_rule test first second) (choice test read_first read_second)

abbrev pub ManyIsRead : Type 0 → Type 0 → Type 0
ManyIsRead S A = (test : S → Bool) (item : Rule S A) (read : Reader S A) → IsWritten item → Reads item read → Reads (many_rule test item) (many test read)

-- A list is read item by item: one, and then the others.
abbrev pub ManyUnrolls : Type 0 → Type 0 → Type 0
ManyUnrolls S A = (test : S → Bool) (item : Rule S A) (read : Reader S A) → IsWritten item → Reads item read →
    (symbols : List S) → many test read symbols ≡ many_step (passes test (ahead symbols None)) read (many test read) symbols

abbrev pub SeparatedIsRead : Type 0 → Type 0 → Type 0
SeparatedIsRead S A = (x : S) (test : S → Bool) (item : Rule S A) (read : Reader S A) → IsTestFor x test → Reads item read → Reads (separated_rule x test item) (separated test read)

-- Two trees that spell the same symbols, each up to where its reading ends, are one, and so is what follows them.
abbrev pub HasOneTree : Type 0 → Type 0 → Type 0
HasOneTree S A = (rule : Rule S A) (read : Reader S A) → Reads rule read → (a b : A) (rest last : List S) →
    rule.fits a ≡ true → rule.ends a (ahead rest None) ≡ true → rule.fits b ≡ true → rule.ends b (ahead last None) ≡ true →
    rule.spelling a ++ rest ≡ rule.spelling b ++ last → (a ≡ b) × (rest ≡ last)

-- The symbols up to a fault's, with it, begin no tree, whatever follows the tree.
abbrev pub HasFaultAt : Type 0 → Type 0 → Type 0
HasFaultAt S A = (rule : Rule S A) (read : Reader S A) → Reads rule read → (front : List S) (x : S) (behind : List S) →
    read (front ++ x ∷ behind) ≡ Fault (suc (length behind)) → (tree : A) (rest more : List S) →
    rule.fits tree ≡ true → rule.ends tree (ahead rest None) ≡ true → rule.spelling tree ++ rest ≢ front ++ x ∷ more

-- Where reading answers a fault, also one behind the last symbol, no tree has exactly these symbols.
abbrev pub HasNoTree : Type 0 → Type 0 → Type 0
HasNoTree S A = (rule : Rule S A) (read : Reader S A) → Reads rule read → (symbols : List S) (count : ℕ) → read symbols ≡ Fault count → (tree : A) →
    rule.fits tree ≡ true → rule.ends tree None ≡ true → rule.spelling tree ≢ symbols
