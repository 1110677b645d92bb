use Rattle.std.proofs.Common.{◌≡◌, ◌++◌, ◌∷◌, [], false, sym, ap, subst, ◌∙◌}
use Rattle.herm_code.specs.View.{image_view}
use Rattle.std.specs.Prelude.{⊤}
use Rattle.herm_code_machine.specs.CodeStates.{CodeState}
use Rattle.herm_queue.specs.BookStates.{BookState}
use Rattle.herm_code_worlds.specs.CodeWorlds.{named, nameless}
use Rattle.herm_queue.specs.BookStates.{limits_view}
use Rattle.herm_waking.specs.KeptRounds.{first_worked}
use Rattle.herm_waking.specs.Unnamed.{Unnamed, bare_can}
use Rattle.herm_waking.specs.UnnamedRounds.{bare_first}
use Rattle.herm_world.specs.Places.{places_of, seen_of}
use Rattle.herm_world.specs.Waits.{IsLookedAt}
use Rattle.herm_world.specs.Worlds.{ShowsRun}
use Rattle.herm_world.proofs.Opened.{opened-shows}
use Rattle.herm_world.proofs.beginning.first_parts.Goals as goal

pub returns-clause-begins : goal.returns-clause-begins
returns-clause-begins c =
    let image = image_view c.args.image.now in
    let limits = limits_view c.args.limits.now in
    let p = c.in_ok-process.process in
    let s = places_of c.in_ok-places.places in
    let new = places_of c.look_again.new.places in
    let items : c.push.new.self.items ≡ p ∷ [] = c.in_ok-push.ensures.items ∙ ap (λ xs. xs ++ p ∷ []) c.new-processes.ensures.items in
    subst
    (λ ps. ShowsRun limits c.args.arg.now [] (first_worked (named image c.args.main) limits c.args.arg.now) (bare_first (nameless image c.args.main) c.args.main limits c.args.arg.now) (record { image = image; main = c.args.main; processes = ps; places = new; ready = c.look_again.new.ready; is_dead = false }))
    (sym items)
    (opened-shows image c.args.main c.works.ensures.works limits c.args.arg.now p s new c.look_again.new.ready c.in_ok-process.ensures.first c.in_ok-places.ensures.opens c.in_ok-look_again.ensures.same
    (λ x is qs.
    subst (λ ms. IsLookedAt (nameless image c.args.main) p.limit (bare_can (seen_of qs s) 1) x 1 s ms new c.look_again.new.ready.members) c.in_ok-ready.ensures.none
    (c.in_ok-look_again.ensures.kept image c.args.main x is qs)) c.requires.text c.args.limits.now.some_process)

pub returns-clause-limits : goal.returns-clause-limits
returns-clause-limits c = ap (λ (b : BookState). b.held.limits) c.in_ok-look_again.ensures.same.book ∙ ap (λ (v : Unnamed (CodeState ⊤)). v.book.limits) (c.in_ok-places.ensures.opens.seen [])
