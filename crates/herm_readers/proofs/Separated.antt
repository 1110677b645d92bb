-- Items with a separator.
use Rattle.std.proofs.Common.{◌≡◌, Bool, true, List, [], ◌∷◌, refl}
use Rattle.herm_readers.specs.Reader.{Reader, Rule, Reads}
use Rattle.herm_readers.specs.Combinators.{sequence, sequence_rule, preceded, preceded_rule, many, many_rule, separated, separated_fits, separated_rule}
use Rattle.herm_readers.specs.laws.ReaderLaws.{IsTestFor, IsWritten, Changes}
use Rattle.herm_readers.proofs.Simple.{changed_reads}
use Rattle.herm_readers.proofs.Sequences.{sequence_reads}
use Rattle.herm_readers.proofs.Marks.{leading_reads}
use Rattle.herm_readers.proofs.Lists.{many_reads}

pub leading_written : {S A : Type 0} → (x : S) (rule : Rule S A) → IsWritten (preceded_rule x rule)
leading_written x rule tree fits e = cc

module _ {S A : Type 0} (x : S) (test : S → Bool) (item : Rule S A) (read : Reader S A) (is : IsTestFor x test) (reads : Reads item read) where
  separated_back : (tree : List A) → separated_fits item.fits tree ≡ true → (found : A × List A) × ((sequence_rule item (many_rule test (preceded_rule x item))).fits found ≡ true) × (found.0 ∷ found.1 ≡ tree)
  separated_back [] fits = absurd (cc)
  separated_back (a ∷ others) fits = ((a, others), fits, refl)

  separated_changes : Changes (λ found. found.0 ∷ found.1) (sequence_rule item (many_rule test (preceded_rule x item))) (separated_rule x test item)
  separated_changes = record {
    fits = λ found fits. fits;
    spelling = λ found fits. refl;
    ends = λ found beyond fits. refl;
    back = separated_back;
  }

  pub separated_reads : Reads (separated_rule x test item) (separated test read)
  separated_reads = changed_reads (λ found. found.0 ∷ found.1) (sequence_rule item (many_rule test (preceded_rule x item))) (separated_rule x test item)
      (sequence read (many test (preceded test read))) separated_changes
      (sequence_reads item (many_rule test (preceded_rule x item)) read (many test (preceded test read)) reads
      (many_reads test (preceded_rule x item) (preceded test read) (leading_written x item) (leading_reads x test item read is reads)))
