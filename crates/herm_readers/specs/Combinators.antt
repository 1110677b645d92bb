-- Readers and rules from smaller ones.
use Rattle.std.specs.Prelude.{ℕ, zero, suc, Bool, true, false, not, ◌&&◌, ◌⊎◌, List, [], ◌∷◌, ◌++◌, length, Option, Some, None}
use mathlib.Core.Logic.{inl, inr}
use Rattle.herm_readers.specs.Reader.{Answer, Read, Fault, Reader, Rule, ahead}

-- What follows from what was read; a fault stays.
abbrev pub onward : {S A B : Type 0} → Answer S A → (A → List S → Answer S B) → Answer S B
onward (Read tree rest) further = further tree rest
onward (Fault count) further = Fault count

-- Whether a symbol passes the test; the end of the list passes none.
abbrev pub passes : {S : Type 0} → (S → Bool) → Option S → Bool
passes test None = false
passes test (Some x) = test x

-- Nothing is read.
abbrev pub nothing : {S : Type 0} → Reader S (Unit {0})
nothing symbols = Read tt symbols

abbrev pub nothing_rule : {S : Type 0} → Rule S (Unit {0})
nothing_rule = record { fits = λ tree. true; spelling = λ tree. []; ends = λ tree beyond. true }

-- One symbol is read, where `pick` has a value for it.
abbrev pub picked : {S A : Type 0} → Option A → S → List S → Answer S A
picked None x rest = Fault (suc (length rest))
picked (Some tree) x rest = Read tree rest

abbrev pub one : {S A : Type 0} → (S → Option A) → Reader S A
one pick [] = Fault 0
one pick (x ∷ rest) = picked (pick x) x rest

abbrev pub one_rule : {S A : Type 0} → (A → Bool) → (A → S) → Rule S A
one_rule fits symbol = record { fits = fits; spelling = λ tree. symbol tree ∷ []; ends = λ tree beyond. true }

-- What was read, changed.
abbrev pub mapped : {S A B : Type 0} → (A → B) → Reader S A → Reader S B
mapped change read symbols = onward (read symbols) (λ tree rest. Read (change tree) rest)

-- One after the other, where what is read first says which reader comes second.
abbrev pub and_then : {S A B : Type 0} → Reader S A → (A → Reader S B) → Reader S (A × B)
and_then first second symbols = onward (first symbols) (λ a rest. onward (second a rest) (λ b last. Read (a, b) last))

abbrev pub and_then_rule : {S A B : Type 0} → Rule S A → (A → Rule S B) → Rule S (A × B)
and_then_rule first second = record {
  fits = λ tree. first.fits tree.0 && (second tree.0).fits tree.1;
  spelling = λ tree. first.spelling tree.0 ++ (second tree.0).spelling tree.1;
  ends = λ tree beyond. first.ends tree.0 (ahead ((second tree.0).spelling tree.1) beyond) && (second tree.0).ends tree.1 beyond;
}

-- One after the other.
abbrev pub sequence : {S A B : Type 0} → Reader S A → Reader S B → Reader S (A × B)
sequence first second = and_then first (λ a. second)

abbrev pub sequence_rule : {S A B : Type 0} → Rule S A → Rule S B → Rule S (A × B)
sequence_rule first second = and_then_rule first (λ a. second)

-- A symbol that passes the test is passed over.
abbrev pub skipped : {S : Type 0} → Bool → List S → Answer S (Unit {0})
skipped true rest = Read tt rest
skipped false rest = Fault (suc (length rest))

abbrev pub skip : {S : Type 0} → (S → Bool) → Reader S (Unit {0})
skip test [] = Fault 0
skip test (x ∷ rest) = skipped (test x) rest

-- A symbol that passes the test, and then what `read` reads.
abbrev pub preceded : {S A : Type 0} → (S → Bool) → Reader S A → Reader S A
preceded test read symbols = onward (skip test symbols) (λ none rest. read rest)

abbrev pub preceded_rule : {S A : Type 0} → S → Rule S A → Rule S A
preceded_rule x rule = record { fits = rule.fits; spelling = λ tree. x ∷ rule.spelling tree; ends = rule.ends }

-- What `read` reads, and then a symbol that passes the test.
abbrev pub then_terminator : {S A : Type 0} → (S → Bool) → A → List S → Answer S A
then_terminator test tree symbols = onward (skip test symbols) (λ none rest. Read tree rest)

abbrev pub terminated : {S A : Type 0} → (S → Bool) → Reader S A → Reader S A
terminated test read symbols = onward (read symbols) (then_terminator test)

abbrev pub terminated_rule : {S A : Type 0} → S → Rule S A → Rule S A
terminated_rule x rule = record { fits = rule.fits; spelling = λ tree. rule.spelling tree ++ x ∷ []; ends = λ tree beyond. rule.ends tree (Some x) }

-- The first reader where the symbol ahead passes the test, and else the second.
abbrev pub chosen : {S A B : Type 0} → Bool → Reader S A → Reader S B → Reader S (A ⊎ B)
chosen true first second symbols = onward (first symbols) (λ a rest. Read (inl a) rest)
chosen false first second symbols = onward (second symbols) (λ b rest. Read (inr b) rest)

abbrev pub choice : {S A B : Type 0} → (S → Bool) → Reader S A → Reader S B → Reader S (A ⊎ B)
choice test first second symbols = chosen (passes test (ahead symbols None)) first second symbols

abbrev pub choice_fits : {S A B : Type 0} → Rule S A → Rule S B → A ⊎ B → Bool
choice_fits first second (inl a) = first.fits a
choice_fits first second (inr b) = second.fits b

abbrev pub choice_spelling : {S A B : Type 0} → Rule S A → Rule S B → A ⊎ B → List S
choice_spelling first second (inl a) = first.spelling a
choice_spelling first second (inr b) = second.spelling b

abbrev pub choice_ends : {S A B : Type 0} → (S → Bool) → Rule S A → Rule S B → A ⊎ B → Option S → Bool
choice_ends test first second (inl a) beyond = passes test (ahead (first.spelling a) beyond) && first.ends a beyond
choice_ends test first second (inr b) beyond = not (passes test (ahead (second.spelling b) beyond)) && second.ends b beyond

abbrev pub choice_rule : {S A B : Type 0} → (S → Bool) → Rule S A → Rule S B → Rule S (A ⊎ B)
choice_rule test first second = record { fits = choice_fits first second; spelling = choice_spelling first second; ends = choice_ends test first second }

-- Items, as long as the symbol ahead passes the test. No more than `most` are read.
abbrev pub many_step : {S A : Type 0} → Bool → Reader S A → Reader S (List A) → Reader S (List A)
many_step true item others symbols = onward (item symbols) (λ a rest. onward (others rest) (λ found last. Read (a ∷ found) last))
many_step false item others symbols = Read [] symbols

abbrev pub many_at : {S A : Type 0} → (S → Bool) → Reader S A → ℕ → Reader S (List A)
many_at test item zero symbols = Read [] symbols
many_at test item (suc most) symbols = many_step (passes test (ahead symbols None)) item (many_at test item most) symbols

abbrev pub many : {S A : Type 0} → (S → Bool) → Reader S A → Reader S (List A)
many test item symbols = many_at test item (length symbols) symbols

abbrev pub many_fits : {A : Type 0} → (A → Bool) → List A → Bool
many_fits fits [] = true
many_fits fits (a ∷ others) = fits a && many_fits fits others

abbrev pub many_spelling : {S A : Type 0} → (A → List S) → List A → List S
many_spelling spelling [] = []
many_spelling spelling (a ∷ others) = spelling a ++ many_spelling spelling others

abbrev pub many_ends : {S A : Type 0} → (S → Bool) → Rule S A → List A → Option S → Bool
many_ends test item [] beyond = not (passes test beyond)
many_ends test item (a ∷ others) beyond = passes test (ahead (item.spelling a) None) && (item.ends a (ahead (many_spelling item.spelling others) beyond) && many_ends test item others beyond)

abbrev pub many_rule : {S A : Type 0} → (S → Bool) → Rule S A → Rule S (List A)
many_rule test item = record { fits = many_fits item.fits; spelling = many_spelling item.spelling; ends = many_ends test item }

-- An item, and further ones, each led by a symbol that passes the test.
abbrev pub separated : {S A : Type 0} → (S → Bool) → Reader S A → Reader S (List A)
separated test item = mapped (λ found. found.0 ∷ found.1) (sequence item (many test (preceded test item)))

abbrev pub separated_fits : {A : Type 0} → (A → Bool) → List A → Bool
separated_fits fits [] = false
separated_fits fits (a ∷ others) = fits a && many_fits fits others

abbrev pub separated_spelling : {S A : Type 0} → S → (A → List S) → List A → List S
separated_spelling x spelling [] = []
separated_spelling x spelling (a ∷ others) = spelling a ++ many_spelling (λ b. x ∷ spelling b) others

abbrev pub separated_ends : {S A : Type 0} → S → (S → Bool) → Rule S A → List A → Option S → Bool
separated_ends x test item [] beyond = true
separated_ends x test item (a ∷ others) beyond = (sequence_rule item (many_rule test (preceded_rule x item))).ends (a, others) beyond

abbrev pub separated_rule : {S A : Type 0} → S → (S → Bool) → Rule S A → Rule S (List A)
separated_rule x test item = record { fits = separated_fits item.fits; spelling = separated_spelling x item.spelling; ends = separated_ends x test item }
