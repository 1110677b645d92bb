use Rattle.std.proofs.Common.{sym, ap, ◌∙◌}
use Rattle.herm_machine.specs.Machines.{nameless}
use Rattle.herm_waking.specs.Waking.{noted_at}
use Rattle.herm_world.specs.Places.{places_of, waiters_of}
use Rattle.herm_world.specs.Waits.{opened}
use Rattle.herm_world.proofs.Looking.{one-port, told-takes}
use Rattle.herm_world.proofs.waits.note.Goals as goal

pub note_each-requires-clause-takes : goal.note_each-requires-clause-takes
note_each-requires-clause-takes c image main x is = told-takes ((nameless image main).wanted x) c.args.ports (c.requires.takes image main x is)

pub returns-then-ports-eq1 : goal.returns-then-ports-eq1
returns-then-ports-eq1 c =
    record {
      same = c.in_ok-note_at.ensures.same;
      noted = λ image main x ports is wants.
          c.in_ok-note_at.ensures.noted
          ∙ ap (λ ns. noted_at (opened (places_of c.args.places.now)) c.args.who.number ns (waiters_of (places_of c.args.places.now)))
          (sym (one-port ((nameless image main).wanted x) c.args.ports ports (c.requires.takes image main x is) wants c.if-ports-eq1.true));
    }
