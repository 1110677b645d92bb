use Rattle.std.proofs.Common.{List, sym, ap, subst}
use Rattle.std.specs.Prelude.{ℕ}
use Rattle.herm_ready.specs.Table.{ReadySet}
use Rattle.herm_process.specs.declared.next.Next.TheVariants as nexts
use Rattle.herm_world.specs.Places.{places_of}
use Rattle.herm_world.proofs.LookedByNext.{looks-local, looks-ended, looks-stopped}
use Rattle.herm_world.proofs.LookedOne.{LooksSo}
use Rattle.herm_world.proofs.Noting.{same-self}
use Rattle.herm_world.proofs.TakenFrom.{IsNextFor}
use Rattle.herm_world.proofs.waits.look_again.Goals as goal

pub look_at_want-requires-clause-next : goal.look_at_want-requires-clause-next
look_at_want-requires-clause-next c = subst (IsNextFor c.args.process.now) c.in-Act.is c.next.ensures.next

pub returns-in-Local : goal.returns-in-Local
returns-in-Local c =
    record {
      same = same-self (places_of c.args.places.now);
      limit = ap (λ (r : ReadySet). r.limit) c.insert.ensures.inserted;
      kept = subst (λ (r : List ℕ). LooksSo c.args.who.number c.args.process.now (places_of c.args.places.now) c.args.ready.now.members (places_of c.args.places.now) r) (sym (ap (λ (r : ReadySet). r.members) c.insert.ensures.inserted))
          (looks-local c.args.process.now (places_of c.args.places.now) c.args.who.number c.args.ready.now.members (subst (IsNextFor c.args.process.now) c.in-Local.is c.next.ensures.next));
    }

pub returns-in-Ended : goal.returns-in-Ended
returns-in-Ended c =
    record {
      same = same-self (places_of c.args.places.now);
      limit = ap (λ (r : ReadySet). r.limit) c.remove.ensures.removed;
      kept = subst (λ (r : List ℕ). LooksSo c.args.who.number c.args.process.now (places_of c.args.places.now) c.args.ready.now.members (places_of c.args.places.now) r) (sym (ap (λ (r : ReadySet). r.members) c.remove.ensures.removed))
          (looks-ended c.args.process.now (places_of c.args.places.now) c.args.who.number c.args.ready.now.members c.in-Ended.field-0 (subst (IsNextFor c.args.process.now) c.in-Ended.is c.next.ensures.next));
    }

pub returns-in-Stopped : goal.returns-in-Stopped
returns-in-Stopped c =
    record {
      same = same-self (places_of c.args.places.now);
      limit = ap (λ (r : ReadySet). r.limit) c.remove-in-Stopped.ensures.removed;
      kept = subst (λ (r : List ℕ). LooksSo c.args.who.number c.args.process.now (places_of c.args.places.now) c.args.ready.now.members (places_of c.args.places.now) r) (sym (ap (λ (r : ReadySet). r.members) c.remove-in-Stopped.ensures.removed))
          (looks-stopped c.args.process.now (places_of c.args.places.now) c.args.who.number c.args.ready.now.members c.in-Stopped.field-0 (subst (IsNextFor c.args.process.now) c.in-Stopped.is c.next.ensures.next));
    }
