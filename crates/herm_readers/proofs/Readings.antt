-- A rule, a reader, and that the one reads the other: closed under the combinators, so that a form of a
-- grammar is one term.
use Rattle.std.proofs.Common.{◌≡◌, Bool, true, false, not, ◌&&◌, ◌⊎◌, List, [], ◌∷◌, Option, Some, None, refl, ap, ◌∙◌}
use Rattle.std.proofs.lemmas.Bool.{and_parts, and_from}
use Rattle.herm_readers.specs.Reader.{Answer, Read, Fault, Reader, Rule, Reads, ahead}
use Rattle.herm_readers.specs.Combinators.{onward, passes, nothing, nothing_rule, mapped, and_then, and_then_rule, sequence, sequence_rule, preceded, preceded_rule, terminated, terminated_rule, choice, choice_rule, many, many_fits, many_spelling, many_ends, many_rule, separated, separated_fits, separated_ends, separated_rule}
use Rattle.herm_readers.specs.laws.ReaderLaws.{IsTestFor, IsWritten, Changes}
use Rattle.herm_readers.proofs.Simple.{nothing_reads, changed_reads, alike_reads}
use Rattle.herm_readers.proofs.Sequences.{depending_reads, sequence_reads}
use Rattle.herm_readers.proofs.Marks.{leading_reads, closing_reads}
use Rattle.herm_readers.proofs.Choices.{choice_reads}
use Rattle.herm_readers.proofs.Lists.{many_reads}
use Rattle.herm_readers.proofs.Separated.{separated_reads}

pub record Reading (S A : Type 0) : Type 0 where
  pub rule : Rule S A
  pub read : Reader S A
  pub reads : Reads rule read

abbrev pub nothing_more : {S : Type 0} → Reading S (Unit {0})
nothing_more {S} = record { rule = nothing_rule; read = nothing; reads = nothing_reads S }

abbrev pub turned : {S A B : Type 0} → (change : A → B) (to : Rule S B) (from : Reading S A) → Changes change from.rule to → Reading S B
turned change to from changes = record { rule = to; read = mapped change from.read; reads = changed_reads change from.rule to from.read changes from.reads }

-- The same reader, for a rule of the same trees.
unchanged : {S A : Type 0} → (answer : Answer S A) → answer ≡ onward answer (λ a rest. Read a rest)
unchanged (Read a rest) = refl
unchanged (Fault count) = refl

pub refit_reads : {S A : Type 0} → (to : Rule S A) (from : Reading S A) → Changes (λ a. a) from.rule to → Reads to from.read
refit_reads to from changes = alike_reads to (mapped (λ a. a) from.read) from.read (λ symbols. unchanged (from.read symbols)) (changed_reads (λ a. a) from.rule to from.read changes from.reads)

abbrev pub refit : {S A : Type 0} → (to : Rule S A) (from : Reading S A) → Changes (λ a. a) from.rule to → Reading S A
refit to from changes = record { rule = to; read = from.read; reads = refit_reads to from changes }

abbrev pub with_next : {S A B : Type 0} → Reading S A → (A → Reading S B) → Reading S (A × B)
with_next first second = record {
  rule = and_then_rule first.rule (λ a. (second a).rule);
  read = and_then first.read (λ a. (second a).read);
  reads = depending_reads first.rule (λ a. (second a).rule) first.read (λ a. (second a).read) first.reads (λ a. (second a).reads);
}

abbrev pub both : {S A B : Type 0} → Reading S A → Reading S B → Reading S (A × B)
both first second = record {
  rule = sequence_rule first.rule second.rule;
  read = sequence first.read second.read;
  reads = sequence_reads first.rule second.rule first.read second.read first.reads second.reads;
}

abbrev pub led_by : {S A : Type 0} → (x : S) (test : S → Bool) → IsTestFor x test → Reading S A → Reading S A
led_by x test is r = record { rule = preceded_rule x r.rule; read = preceded test r.read; reads = leading_reads x test r.rule r.read is r.reads }

abbrev pub closed_by : {S A : Type 0} → (x : S) (test : S → Bool) → IsTestFor x test → Reading S A → Reading S A
closed_by x test is r = record { rule = terminated_rule x r.rule; read = terminated test r.read; reads = closing_reads x test r.rule r.read is r.reads }

abbrev pub either_of : {S A B : Type 0} → (S → Bool) → Reading S A → Reading S B → Reading S (A ⊎ B)
either_of test first second = record {
  rule = choice_rule test first.rule second.rule;
  read = choice test first.read second.read;
  reads = choice_reads test first.rule second.rule first.read second.read first.reads second.reads;
}

abbrev pub many_of : {S A : Type 0} → (test : S → Bool) (item : Reading S A) → IsWritten item.rule → Reading S (List A)
many_of test item written = record { rule = many_rule test item.rule; read = many test item.read; reads = many_reads test item.rule item.read written item.reads }

abbrev pub separated_by : {S A : Type 0} → (x : S) (test : S → Bool) → IsTestFor x test → Reading S A → Reading S (List A)
separated_by x test is item = record { rule = separated_rule x test item.rule; read = separated test item.read; reads = separated_reads x test item.rule item.read is item.reads }

-- Where each item begins with a symbol that passes the test and ends everywhere, a list of them ends in front
-- of what does not pass.
pub many_end : {S A : Type 0} → (test : S → Bool) (item : Rule S A) → ((a : A) → item.fits a ≡ true → passes test (ahead (item.spelling a) None) ≡ true) → ((a : A) (h : Option S) → item.fits a ≡ true → item.ends a h ≡ true) →
    (list : List A) (beyond : Option S) → many_fits item.fits list ≡ true → many_ends test item list beyond ≡ not (passes test beyond)
many_end test item leads ends [] beyond f = refl
many_end test item leads ends (a ∷ list) beyond f =
    let fit = and_parts (item.fits a) (many_fits item.fits list) f in
    ap (λ b. b && (item.ends a (ahead (many_spelling item.spelling list) beyond) && many_ends test item list beyond)) (leads a fit.0)
    ∙ (ap (λ b. b && many_ends test item list beyond) (ends a (ahead (many_spelling item.spelling list) beyond) fit.0) ∙ many_end test item leads ends list beyond fit.1)

-- Where each item ends in front of the separator and of what is beyond, so does a list of them.
module _ {S A : Type 0} (x : S) (test : S → Bool) (is : IsTestFor x test) (item : Rule S A) (beyond : Option S) (fails : passes test beyond ≡ false)
    (before : (a : A) → item.fits a ≡ true → item.ends a (Some x) ≡ true) (last : (a : A) → item.fits a ≡ true → item.ends a beyond ≡ true) where
  end_ahead : (a : A) (list : List A) → item.fits a ≡ true → item.ends a (ahead (many_spelling (λ b. x ∷ item.spelling b) list) beyond) ≡ true
  end_ahead a [] f = last a f
  end_ahead a (b ∷ list) f = before a f

  further_ends : (list : List A) → many_fits item.fits list ≡ true → many_ends test (preceded_rule x item) list beyond ≡ true
  further_ends [] f = ap not fails
  further_ends (a ∷ list) f =
      let fit = and_parts (item.fits a) (many_fits item.fits list) f in
      and_from (test x) (item.ends a (ahead (many_spelling (λ b. x ∷ item.spelling b) list) beyond) && many_ends test (preceded_rule x item) list beyond) is.passed
      (and_from (item.ends a (ahead (many_spelling (λ b. x ∷ item.spelling b) list) beyond)) (many_ends test (preceded_rule x item) list beyond) (end_ahead a list fit.0) (further_ends list fit.1))

  pub separated_end : (list : List A) → separated_fits item.fits list ≡ true → separated_ends x test item list beyond ≡ true
  separated_end [] f = refl
  separated_end (a ∷ list) f =
      let fit = and_parts (item.fits a) (many_fits item.fits list) f in
      and_from (item.ends a (ahead (many_spelling (λ b. x ∷ item.spelling b) list) beyond)) (many_ends test (preceded_rule x item) list beyond) (end_ahead a list fit.0) (further_ends list fit.1)
