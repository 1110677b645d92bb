use Rattle.std.proofs.Common.{◌≡◌, get_or, ◌∙◌, ℕ, Vec, Global}
use Rattle.herm_types.proofs.Indexed.{indexed-more}
use Rattle.herm_types.proofs.build.index_of.Goals as goal

pub loop-name-preserved : goal.loop-name-preserved
loop-name-preserved c =
    let is : c.in_ok-bytes.bytes.items ≡ get_or c.args.names.now c.loop-name.name-index c.name-item.result = c.in_ok-bytes.ensures.items ∙ (c.bytes.ensures.bytes ∙ c.name-item.is) in
    rw c.in_ok-insert.ensures.keys
    (indexed-more (λ (k : Vec ℕ Global). k.items) c.loop-name.index.keys c.args.names.now c.loop-name.name-index c.in_ok-bytes.bytes c.name-item.result c.requires c.loop-name-test.true c.loop-name.invariant is)
