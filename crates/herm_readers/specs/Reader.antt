-- What a rule of a grammar is, what a reader is, and when a reader reads a rule.
use Rattle.std.specs.Prelude.{◌≡◌, ℕ, suc, Bool, true, List, [], ◌∷◌, ◌++◌, length, Option, Some, None}

-- What a reader answers: a tree and the symbols left, or a fault with the number of symbols left, those
-- from the faulty one on, 0 where the fault stands behind the last.
pub data Answer (S A : Type 0) : Type 0 where
  Read : A → List S → Answer S A
  Fault : ℕ → Answer S A

abbrev pub Reader : Type 0 → Type 0 → Type 0
Reader S A = List S → Answer S A

-- The first symbol of a list or, behind its end, what is ahead there.
abbrev pub ahead : {S : Type 0} → List S → Option S → Option S
ahead [] beyond = beyond
ahead (x ∷ xs) beyond = Some x

-- A rule of a grammar: the trees that it has, the symbols that a tree spells, and whether the reading
-- of a tree ends in front of a symbol, or at the end of the list.
pub record Rule (S A : Type 0) : Type 0 where
  pub fits : A → Bool
  pub spelling : A → List S
  pub ends : A → Option S → Bool

-- A tree of the rule stands at the front of the symbols, and its reading ends in front of the rest.
pub record Found {S A : Type 0} (rule : Rule S A) (symbols : List S) (tree : A) (rest : List S) : Type 0 where
  pub fits : rule.fits tree ≡ true
  pub ends : rule.ends tree (ahead rest None) ≡ true
  pub spelled : symbols ≡ rule.spelling tree ++ rest

-- The symbols before the last `count` ones begin the spelling of a tree of the rule.
pub record Begins {S A : Type 0} (rule : Rule S A) (symbols : List S) (count : ℕ) : Type 0 where
  pub front : List S
  pub left : List S
  pub whole : symbols ≡ front ++ left
  pub counted : length left ≡ count
  pub tree : A
  pub fits : rule.fits tree ≡ true
  pub completion : List S
  pub completed : rule.spelling tree ≡ front ++ completion

-- The reader reads the rule.
pub record Reads {S A : Type 0} (rule : Rule S A) (read : Reader S A) : Type 0 where
  -- the rule has a tree
  pub example : A
  pub example_fits : rule.fits example ≡ true
  -- what is read is spelled so
  pub found : (symbols rest : List S) (tree : A) → read symbols ≡ Read tree rest → Found rule symbols tree rest
  -- what is spelled so, and not gone on with, is read
  pub again : (tree : A) (rest : List S) → rule.fits tree ≡ true → rule.ends tree (ahead rest None) ≡ true → read (rule.spelling tree ++ rest) ≡ Read tree rest
  -- the symbols before a fault begin a tree
  pub begins : (symbols : List S) (count : ℕ) → read symbols ≡ Fault count → Begins rule symbols count
  -- a fault at a symbol depends on nothing behind that symbol
  pub settled : (front : List S) (x : S) (behind other : List S) → read (front ++ x ∷ behind) ≡ Fault (suc (length behind)) → read (front ++ x ∷ other) ≡ Fault (suc (length other))
