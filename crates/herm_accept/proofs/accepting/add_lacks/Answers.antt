use Rattle.std.proofs.Common.{List, sym, ap, subst, ◌∙◌, append-nil, arith, length, Global}
use Rattle.std.specs.declared.rc.Rc.{Rc}
use Rattle.herm_words.specs.declared.sites.Site.{Site}
use Rattle.herm_words.specs.declared.lost.LostFact.{LostFact}
use Rattle.herm_words.specs.declared.paths.Paths.{Paths}
use Rattle.herm_accept.specs.Lacking.{EachOf, IsLost, IsTold}
use Rattle.herm_accept.proofs.Telling.{values, values-many, next-in, lacks-more}
use Rattle.herm_accept.proofs.accepting.add_lacks.Goals as goal

pub missing-init : goal.missing-init
missing-init c = sym (append-nil _)

pub lack_of-requires-clause-fact : goal.lack_of-requires-clause-fact
lack_of-requires-clause-fact c =
    let member = next-in c.args.all.facts.items c.into_iter-missing-iterator.result c.missing.missing-iterator c.next.new.self c.missing.yielded c.in-Some.missing c.into_iter-missing-iterator.ensures.into_iter_gives.0 c.missing.yielded_by c.in-Some.ensures.steps in
    omega (arith, (c.requires c.in-Some.missing member).0, values-many (IsLost c.args.types.now c.args.p.now) c.args.all.lost.items c.in_ok-facts.facts.items c.in_ok-facts.ensures, ap length c.as_slice-in-missing-2.ensures.value)

pub lack_of-requires-clause-search : goal.lack_of-requires-clause-search
lack_of-requires-clause-search c =
    let member = next-in c.args.all.facts.items c.into_iter-missing-iterator.result c.missing.missing-iterator c.next.new.self c.missing.yielded c.in-Some.missing c.into_iter-missing-iterator.ensures.into_iter_gives.0 c.missing.yielded_by c.in-Some.ensures.steps in
    omega (arith, (c.requires c.in-Some.missing member).1, values-many (IsTold c.args.types.now c.as_slice.result.now) c.args.all.searches.items c.in_ok-searches.searches.items c.in_ok-searches.ensures, ap length c.as_slice-in-missing-3.ensures.value)

pub missing-preserved : goal.missing-preserved
missing-preserved c =
    let types = c.args.types.now in
    let p = c.args.p.now in
    let lost = c.args.all.lost.items in
    let searches = c.args.all.searches.items in
    let sites = c.as_slice-in-missing.result.now in
    lacks-more types c.args.number p lost searches c.missing.yielded c.in-Some.missing c.args.lacks.now.items c.missing.lacks.items c.push.new.self.items c.in_ok-lack.lack c.missing.invariant c.in_ok-push.ensures.items
    (c.in_ok-lack.ensures types p lost searches (c.as_slice-in-missing.ensures.value ∙ c.in_ok-sites.ensures)
    (subst (λ (rs : List (Rc LostFact Global)). EachOf (IsLost types p) lost (values rs)) (sym c.as_slice-in-missing-2.ensures.value) c.in_ok-facts.ensures)
    (subst (λ (all : List Site). EachOf (IsTold types all) searches (values c.as_slice-in-missing-3.result.now)) (c.as_slice.ensures.value ∙ sym c.as_slice-in-missing.ensures.value)
    (subst (λ (rs : List (Rc Paths Global)). EachOf (IsTold types c.as_slice.result.now) searches (values rs)) (sym c.as_slice-in-missing-3.ensures.value) c.in_ok-searches.ensures)))
