use Rattle.std.proofs.Common.{cond, sym, ap, ◌∙◌}
use Rattle.herm_system.specs.Systems.{standing}
use Rattle.herm_waking.specs.Numbers.{inserted, removed}
use Rattle.herm_waking.specs.Unnamed.{bare_can, ports_of_want}
use Rattle.herm_waking.specs.Waking.{noted_at}
use Rattle.herm_machine.specs.Machines.{nameless}
use Rattle.herm_ready.specs.Table.{ReadySet}
use Rattle.herm_world.specs.Places.{places_of, seen_of, waiters_of}
use Rattle.herm_world.specs.Waits.{opened}
use Rattle.herm_world.proofs.Awaiting.{able-waits_nowhere, stuck-waits}
use Rattle.herm_world.proofs.Noting.{same-self}
use Rattle.herm_world.proofs.StandingSo.{acting-can}
use Rattle.herm_world.proofs.waits.look_at_want.Goals as goal

pub can_do-requires-clause-wants : goal.can_do-requires-clause-wants
can_do-requires-clause-wants c image main x is = let h = c.requires.next image main x is in (h.1, h.2, h.3)

pub wait_for-requires-clause-wants : goal.wait_for-requires-clause-wants
wait_for-requires-clause-wants c image main x is = let h = c.requires.next image main x is in (h.1, h.2, h.3)

pub returns-then-can_do : goal.returns-then-can_do
returns-then-can_do c =
    record {
      same = same-self (places_of c.args.places.now);
      limit = ap (λ (r : ReadySet). r.limit) c.insert.ensures.inserted;
      kept = λ image main x is qs.
          let h = c.requires.next image main x is in
          let e = sym (c.can_do.ensures.can image main x h.1 is h.2 qs ∙ acting-can (nameless image main) c.args.process.now.limit (bare_can (seen_of qs (places_of c.args.places.now)) c.args.who.number) x h.1 h.0 h.2) ∙ c.if-can_do.true in
          record {
            kept = ap (λ (r : ReadySet). r.members) c.insert.ensures.inserted ∙ sym (ap (λ b. cond b (inserted c.args.who.number c.args.ready.now.members) (removed c.args.who.number c.args.ready.now.members)) e);
            noted =
                sym
                (ap (λ ports. noted_at (opened (places_of c.args.places.now)) c.args.who.number ports (waiters_of (places_of c.args.places.now)))
                (able-waits_nowhere (standing (nameless image main) c.args.process.now.limit (bare_can (seen_of qs (places_of c.args.places.now)) c.args.who.number) x) (ports_of_want ((nameless image main).wanted x)) e));
          };
    }

pub returns : goal.returns
returns c =
    record {
      same = c.in_ok-wait_for.ensures.same;
      limit = ap (λ (r : ReadySet). r.limit) c.remove.ensures.removed;
      kept = λ image main x is qs.
          let h = c.requires.next image main x is in
          let e = sym (c.can_do.ensures.can image main x h.1 is h.2 qs ∙ acting-can (nameless image main) c.args.process.now.limit (bare_can (seen_of qs (places_of c.args.places.now)) c.args.who.number) x h.1 h.0 h.2) ∙ c.if-can_do.false in
          record {
            kept = ap (λ (r : ReadySet). r.members) c.remove.ensures.removed ∙ sym (ap (λ b. cond b (inserted c.args.who.number c.args.ready.now.members) (removed c.args.who.number c.args.ready.now.members)) e);
            noted =
                c.in_ok-wait_for.ensures.noted image main x is
                ∙ ap (λ ports. noted_at (opened (places_of c.args.places.now)) c.args.who.number ports (waiters_of (places_of c.args.places.now)))
                (sym (stuck-waits (nameless image main) c.args.process.now.limit (bare_can (seen_of qs (places_of c.args.places.now)) c.args.who.number) x h.1 h.0 h.2 e));
          };
    }
