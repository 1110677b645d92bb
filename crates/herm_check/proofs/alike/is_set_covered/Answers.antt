use Rattle.std.proofs.Common.{◌≡◌, ℕ, ◌+◌, ◌*◌, ◌/◌, ◌%◌, ◌<◌, ◌||◌, true, ◌∙◌, sym, subst, arith, ap, mod-lt, div-add-mod'}
use Rattle.herm_facts.specs.NumberSets.{has_number}
use Rattle.herm_facts.specs.SparseSets.{has_sparse}
use Rattle.herm_check.specs.Alike.{IsCovered}
use Rattle.herm_check.proofs.Standing.{covered-same}
use Rattle.herm_check.proofs.alike.is_set_covered.Goals as goal

pub returns : goal.returns
returns c _ n below has =
    let dense = c.union.new.self in
    let parts : 64 * (n / 64) + n % 64 ≡ n = omega (arith, div-add-mod' n 64) in
    let less : n % 64 < 64 = (let some : 0 < 64 = omega arith in mod-lt n some) in
    let same : (m : ℕ) → has_number dense m ≡ has_sparse c.args.set.now m = λ m. c.in_ok-union.ensures.ok m ∙ ap (λ b. b || has_sparse c.args.set.now m) (c.none-dense.ensures m) in
    let h = c.loop-at.invariant (n / 64) (n % 64) (omega (arith, below, parts, less, c.loop-at-test.false)) less (subst (λ m. has_sparse c.args.set.now m ≡ true) (sym parts) has) in
    covered-same (has_sparse c.args.set.now) (has_number dense) c.args.firsts.now c.args.groups.now n (λ m k. sym (same m) ∙ k) (subst (IsCovered (has_number dense) c.args.firsts.now c.args.groups.now) parts h)
