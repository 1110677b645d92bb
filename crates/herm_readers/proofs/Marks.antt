-- A symbol before or behind what a reader reads.
use Rattle.std.proofs.Common.{◌≡◌, Bool, true, false, ◌&&◌, List, [], ◌∷◌, Option, Some, None, refl, ap}
use Rattle.std.proofs.lemmas.Bool.{and_parts, and_from}
use Rattle.herm_readers.specs.Reader.{Answer, Read, Fault, Reader, Rule, Reads}
use Rattle.herm_readers.specs.Combinators.{onward, one, one_rule, picked, mapped, sequence, sequence_rule, skipped, preceded, preceded_rule, then_terminator, terminated, terminated_rule}
use Rattle.herm_readers.specs.laws.ReaderLaws.{Picks, IsTestFor, Changes}
use Rattle.herm_readers.proofs.Simple.{one_reads, changed_reads, alike_reads}
use Rattle.herm_readers.proofs.Sequences.{sequence_reads}

-- what follows where a symbol passed the test
abbrev pub led : {S A : Type 0} → Bool → Reader S A → List S → Answer S A
led passed read rest = onward (skipped passed rest) (λ none behind. read behind)

-- the mark alone
abbrev marked : Bool → Option (Unit {0})
marked true = Some tt
marked false = None

abbrev pub mark : {S : Type 0} → (S → Bool) → S → Option (Unit {0})
mark test x = marked (test x)

abbrev pub mark_rule : {S : Type 0} → S → Rule S (Unit {0})
mark_rule x = one_rule (λ tree. true) (λ tree. x)

module _ {S : Type 0} (x : S) (test : S → Bool) (is : IsTestFor x test) where
  mark_from : (y : S) (passed : Bool) → test y ≡ passed → (tree : Unit {0}) → marked passed ≡ Some tree → (true ≡ true) × (y ≡ x)
  mark_from y true p tree e = (refl, is.alone y p)
  mark_from y false p tree e = absurd (cc)

  pub mark_picks : Picks {S = S} {A = Unit {0}} (λ tree. true) (λ tree. x) (mark test)
  mark_picks = record {
    example = tt;
    example_fits = refl;
    from = λ y tree e. mark_from y (test y) refl tree e;
    back = λ tree fits. ap marked is.passed;
  }

  pub mark_reads : Reads (mark_rule x) (one (mark test))
  mark_reads = one_reads (λ tree. true) (λ tree. x) (mark test) mark_picks

module _ {S A : Type 0} (test : S → Bool) (read : Reader S A) where
  leading_on : (answer : Answer S A) → answer ≡ onward (onward {B = Unit {0} × A} answer (λ b last. Read (tt, b) last)) (λ tree rest. Read (tree.1) rest)
  leading_on (Read b last) = refl
  leading_on (Fault n) = refl

  leading_alike_at : (passed : Bool) (x : S) (rest : List S) →
      led passed read rest ≡ onward (onward {B = Unit {0} × A} (picked (marked passed) x rest) (λ a middle. onward (read middle) (λ b last. Read (a, b) last))) (λ tree last. Read (tree.1) last)
  leading_alike_at true x rest = leading_on (read rest)
  leading_alike_at false x rest = refl

  leading_alike : (symbols : List S) → preceded test read symbols ≡ mapped (λ tree. tree.1) (sequence (one (mark test)) read) symbols
  leading_alike [] = refl
  leading_alike (x ∷ rest) = leading_alike_at (test x) x rest

  closing_last_at : (a : A) (passed : Bool) (x : S) (rest : List S) →
      led passed (λ last. Read a last) rest ≡ onward (onward {B = A × Unit {0}} (picked (marked passed) x rest) (λ b last. Read (a, b) last)) (λ tree last. Read (tree.0) last)
  closing_last_at a true x rest = refl
  closing_last_at a false x rest = refl

  closing_last : (a : A) (symbols : List S) → then_terminator test a symbols ≡ onward (onward {B = A × Unit {0}} (one (mark test) symbols) (λ b last. Read (a, b) last)) (λ tree last. Read (tree.0) last)
  closing_last a [] = refl
  closing_last a (x ∷ rest) = closing_last_at a (test x) x rest

  closing_alike_at : (answer : Answer S A) →
      onward answer (then_terminator test) ≡ onward (onward answer (λ a middle. onward {B = A × Unit {0}} (one (mark test) middle) (λ b last. Read (a, b) last))) (λ tree last. Read (tree.0) last)
  closing_alike_at (Read a middle) = closing_last a middle
  closing_alike_at (Fault n) = refl

  closing_alike : (symbols : List S) → terminated test read symbols ≡ mapped (λ tree. tree.0) (sequence read (one (mark test))) symbols
  closing_alike symbols = closing_alike_at (read symbols)

module _ {S A : Type 0} (x : S) (test : S → Bool) (rule : Rule S A) (read : Reader S A) (is : IsTestFor x test) (reads : Reads rule read) where
  leading_changes : Changes (λ tree. tree.1) (sequence_rule (mark_rule x) rule) (preceded_rule x rule)
  leading_changes = record {
    fits = λ tree fits. fits;
    spelling = λ tree fits. refl;
    ends = λ tree beyond fits. refl;
    back = λ tree fits. ((tt, tree), fits, refl);
  }

  pub leading_reads : Reads (preceded_rule x rule) (preceded test read)
  leading_reads = alike_reads (preceded_rule x rule) (mapped (λ tree. tree.1) (sequence (one (mark test)) read)) (preceded test read) (leading_alike test read)
      (changed_reads (λ tree. tree.1) (sequence_rule (mark_rule x) rule) (preceded_rule x rule) (sequence (one (mark test)) read) leading_changes
      (sequence_reads (mark_rule x) rule (one (mark test)) read (mark_reads x test is) reads))

  and_end : (b : Bool) → b ≡ (b && true)
  and_end true = refl
  and_end false = refl

  closing_changes : Changes (λ tree. tree.0) (sequence_rule rule (mark_rule x)) (terminated_rule x rule)
  closing_changes = record {
    fits = λ tree fits. (and_parts (rule.fits tree.0) true fits).0;
    spelling = λ tree fits. refl;
    ends = λ tree beyond fits. and_end (rule.ends tree.0 (Some x));
    back = λ tree fits. ((tree, tt), and_from (rule.fits tree) true fits refl, refl);
  }

  pub closing_reads : Reads (terminated_rule x rule) (terminated test read)
  closing_reads = alike_reads (terminated_rule x rule) (mapped (λ tree. tree.0) (sequence read (one (mark test)))) (terminated test read) (closing_alike test read)
      (changed_reads (λ tree. tree.0) (sequence_rule rule (mark_rule x)) (terminated_rule x rule) (sequence read (one (mark test))) closing_changes
      (sequence_reads rule (mark_rule x) read (one (mark test)) reads (mark_reads x test is)))
