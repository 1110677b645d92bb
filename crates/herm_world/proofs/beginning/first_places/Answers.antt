use Rattle.std.proofs.Common.{◌≡◌, ◌++◌, ◌∷◌, [], List, sym, ap, subst, ◌∙◌}
use Rattle.herm_queue.specs.BookStates.{limits_view}
use Rattle.herm_queue.specs.PortStates.{PortState}
use Rattle.herm_queue.specs.ReplyStates.{ReplyState}
use Rattle.herm_world.specs.Opening.{AreOpening}
use Rattle.herm_world.proofs.OpenPlaces.{are-opening}
use Rattle.herm_world.proofs.beginning.first_places.Goals as goal

pub returns : goal.returns
returns c =
    let zeroth = c.new.result in
    let first = c.in_ok-main_port.main_port in
    let own = c.new-2.result in
    let b = c.new-3.result in
    let limits = limits_view c.args.limits.now in
    let ports : c.push-2.new.self.items ≡ zeroth ∷ first ∷ [] =
    c.in_ok-push-2.ensures.items ∙ ap (λ (xs : List PortState). xs ++ first ∷ []) (c.in_ok-push.ensures.items ∙ ap (λ (xs : List PortState). xs ++ zeroth ∷ []) c.new-ports.ensures.items) in
    let replies : c.push-3.new.self.items ≡ own ∷ [] = c.in_ok-push-3.ensures.items ∙ ap (λ (xs : List ReplyState). xs ++ own ∷ []) c.new-replies.ensures.items in
    let console = c.new.ensures in
    let mains = c.in_ok-main_port.ensures in
    let cell = c.new-2.ensures in
    let held = c.new-3.ensures in record {
      opens =
          subst (λ (ps : List PortState). AreOpening limits c.args.arg.now (record { ports = ps; replies = c.push-3.new.self.items; book = b })) (sym ports)
          (subst (λ (rs : List ReplyState). AreOpening limits c.args.arg.now (record { ports = zeroth ∷ first ∷ []; replies = rs; book = b })) (sym replies)
          (are-opening limits c.args.arg.now c.in_ok-letter.letter zeroth first own b
          (record { number = console.number; held_is = console.held; waiter = console.waiter; clock = console.clock; entries = console.entries })
          (record { number = mains.number; held_is = mains.held; waiter = mains.waiter; clock = mains.clock; entries = mains.entries })
          cell.owner cell.waiting cell.clock cell.entries held.held held.clock held.entries c.in_ok-letter.ensures.letter));
    }
