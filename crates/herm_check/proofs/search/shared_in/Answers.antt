use Rattle.std.proofs.Common.{◌≡◌, ◌+◌, ◌*◌, ◌-◌, min, length, arith}
use Rattle.herm_check.proofs.Shares.{part-shared}
use Rattle.herm_check.proofs.search.shared_in.Goals as goal

pub returns-clause-facts : goal.returns-clause-facts
returns-clause-facts c =
    let lost = c.args.lost.now in
    let first = 64 * c.args.number in
    let end = first + c.min-count.result in
    part-shared lost first (end - first) (let same : end - first ≡ min 64 (length lost - first) = omega (arith, c.min-count.ensures, c.requires) in same)
