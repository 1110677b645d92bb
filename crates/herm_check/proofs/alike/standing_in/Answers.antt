use Rattle.std.proofs.Common.{length, map, sym, ◌∙◌, subst, arith, ap}
use Rattle.herm_types.specs.View.{fact_view}
use Rattle.herm_flow.specs.OnwardView.{onward_flow_view}
use Rattle.herm_check.specs.Lists.{AreListsIn}
use Rattle.herm_check.specs.Alike.{StartAlike, AreListsAlike, AreNumbered}
use Rattle.herm_check.proofs.Standing.{stood-for, behind-alike, behind-own, start-own, some-numbered}
use Rattle.herm_check.proofs.alike.standing_in.Goals as goal

pub returns-then-branch-clause-stood : goal.returns-then-branch-clause-stood
returns-then-branch-clause-stood c =
    let facts = c.facts-facts.result.now in
    let firsts = c.as_slice-then-facts-gt-SHARED-3.result.now in
    let lists = c.as_slice-then-facts-gt-SHARED-2.result.now in
    let lost = c.args.lost.now in
    let standing = c.in_ok-standing.standing in
    stood-for (onward_flow_view c.args.flow.now) lost standing.numbers facts firsts standing.by.items c.facts-facts.ensures
    (omega (arith, ap length c.as_slice-then-facts-gt-SHARED-3.ensures.value, c.in_ok-firsts.ensures, c.in_ok-keys.ensures, ap length c.as_slice-then-facts-gt-SHARED.ensures.value))
    (c.in_ok-are_alike.ensures.start c.if-branch.true)
    (subst (λ xs. AreNumbered facts xs standing.numbers standing.by.items) (c.as_slice-then-branch.ensures.value ∙ sym c.as_slice-then-facts-gt-SHARED-3.ensures.value) c.in_ok-standing.ensures.numbered)
    (behind-alike c.args.flow.now lost (map fact_view facts) c.facts-facts.ensures lists (subst (AreListsIn lost c.args.flow.now) (sym c.as_slice-then-facts-gt-SHARED-2.ensures.value) c.in_ok-lists.ensures) firsts (c.in_ok-are_alike.ensures.lists c.if-branch.true))

pub returns-then-branch-clause-some : goal.returns-then-branch-clause-some
returns-then-branch-clause-some c f n h = some-numbered c.args.lost.now c.facts-facts.result.now c.facts-facts.ensures (c.in_ok-standing.ensures.some f n h)

pub stand_for-requires-2-clause-start : goal.stand_for-requires-2-clause-start
stand_for-requires-2-clause-start c = subst (StartAlike c.facts-facts.result.now) (sym c.as_slice-2.ensures.value) (start-own c.facts-facts.result.now c.in_ok-own.own.items c.in_ok-own.ensures.many c.in_ok-own.ensures.own)

pub returns-clause-stood : goal.returns-clause-stood
returns-clause-stood c =
    let facts = c.facts-facts.result.now in
    let own = c.in_ok-own.own.items in
    let lost = c.args.lost.now in
    let standing = c.in_ok-standing-2.standing in
    stood-for (onward_flow_view c.args.flow.now) lost standing.numbers facts own standing.by.items c.facts-facts.ensures c.in_ok-own.ensures.many
    (start-own facts own c.in_ok-own.ensures.many c.in_ok-own.ensures.own)
    (subst (λ xs. AreNumbered facts xs standing.numbers standing.by.items) c.as_slice-2.ensures.value c.in_ok-standing-2.ensures.numbered)
    (behind-own (onward_flow_view c.args.flow.now) lost (map fact_view facts) own c.facts-facts.ensures c.in_ok-own.ensures.own)

pub returns-clause-some : goal.returns-clause-some
returns-clause-some c f n h = some-numbered c.args.lost.now c.facts-facts.result.now c.facts-facts.ensures (c.in_ok-standing-2.ensures.some f n h)
