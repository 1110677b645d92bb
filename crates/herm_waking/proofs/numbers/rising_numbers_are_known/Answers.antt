use Rattle.herm_waking.proofs.NextNumbers.{inserted-there, removed-gone, next-first, none-next}
use Rattle.herm_waking.proofs.RisingNumbers.{same-members}
use Rattle.herm_waking.proofs.numbers.rising_numbers_are_known.Goals as goal

pub returns : goal.returns
returns g = record {
  known = λ xs ys a b same. same-members xs ys a b same;
  inserted = inserted-there;
  removed = removed-gone;
  next = next-first;
  none = none-next;
}
