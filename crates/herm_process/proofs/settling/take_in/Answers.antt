use Rattle.std.proofs.Common.{inl, inr, refl, sym, true≢false}
use Rattle.herm_machine.specs.Machines.{nameless}
use Rattle.herm_process.proofs.GotTold.{aside-comes_in}
use Rattle.herm_process.proofs.settling.take_in.Goals as goal

pub took-requires-clause-suits : goal.took-requires-clause-suits
took-requires-clause-suits c image main s at a h t = (c.if-goes_on_with.ensures.suits image main s at a h t).0 refl

pub returns-then-goes_on_with : goal.returns-then-goes_on_with
returns-then-goes_on_with c = record {
  taken = λ image main s w at a h wanted answers tells. inl ((c.if-goes_on_with.ensures.suits image main s at a h tells).0 refl, c.in_ok-took.ensures.answered image main s w at a h wanted answers tells);
}

pub put_aside-requires-clause-inside : goal.put_aside-requires-clause-inside
put_aside-requires-clause-inside c =
    let r = c.requires.fits c.requires.alive in
    c.requires.inside (aside-comes_in (nameless r.0 r.1) r.2 c.args.got r.3 c.requires.whole r.6 (λ at a t suits. true≢false (sym ((c.if-goes_on_with.ensures.suits r.0 r.1 r.2 at a r.4 t).1 suits))))

pub put_aside-requires-clause-few : goal.put_aside-requires-clause-few
put_aside-requires-clause-few c =
    let r = c.requires.fits c.requires.alive in
    c.requires.few (aside-comes_in (nameless r.0 r.1) r.2 c.args.got r.3 c.requires.whole r.6 (λ at a t suits. true≢false (sym ((c.if-goes_on_with.ensures.suits r.0 r.1 r.2 at a r.4 t).1 suits))))

pub returns : goal.returns
returns c = record {
  taken = λ image main s w at a h wanted answers tells. inr ((λ suits. true≢false (sym ((c.if-goes_on_with.ensures.suits image main s at a h tells).1 suits))), c.put_aside.ensures.aside image main s h);
}
