use Rattle.std.proofs.Common.{refl, arith}
use Rattle.herm_check.specs.Searched.{leads}
use Rattle.herm_check.proofs.Following.{seen-many}
use Rattle.herm_check.proofs.search.follow.Goals as goal

pub add-requires-2-clause-within : goal.add-requires-2-clause-within
add-requires-2-clause-within c =
    let many = seen-many _ _ _ _ _ _ _ c.in_ok-add.ensures in
    omega (arith, c.requires.within, many)

pub returns : goal.returns
returns c p = leads _ _ c.held_beyond-held.result c.without-lost.result _ _ _ _ _ _ refl refl refl c.held_beyond-held.ensures c.without-lost.ensures c.in_ok-add.ensures c.in_ok-add-2.ensures
