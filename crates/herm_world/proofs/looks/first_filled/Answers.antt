use Rattle.std.proofs.Common.{◌≡◌, ℕ, List, ◌∷◌, [], Bool, true, false, cond, find, Option, Some, None, sym, ap, ◌∙◌}
use Rattle.herm_machine.specs.Machines.{nameless}
use Rattle.herm_world.specs.Places.{places_of, is_filled}
use Rattle.herm_world.proofs.Looking.{one-port, told-takes}
use Rattle.herm_world.proofs.looks.first_filled.Goals as goal

pub first_among-port-requires-clause-takes : goal.first_among-port-requires-clause-takes
first_among-port-requires-clause-takes c image main x is = told-takes ((nameless image main).wanted x) c.args.ports (c.requires.takes image main x is)

-- among one port
found-one : (test : ℕ → Bool) (ns : List ℕ) (n : ℕ) (b : Bool) → ns ≡ n ∷ [] → test n ≡ b → cond b (Some n) None ≡ find test ns
found-one test ns n b one is = sym (ap (find test) one ∙ ap (λ b. cond b (Some n) None) is)

pub returns-then-is_filled : goal.returns-then-is_filled
returns-then-is_filled c =
    record {
      first = λ image main x ports is wants.
          found-one (is_filled (places_of c.args.places.now)) ports c.args.ports.first.number true (one-port ((nameless image main).wanted x) c.args.ports ports (c.requires.takes image main x is) wants c.if-ports-eq1.true) (sym c.is_filled.ensures.filled ∙ c.if-is_filled.true);
    }

pub returns-then-ports-eq1 : goal.returns-then-ports-eq1
returns-then-ports-eq1 c =
    record {
      first = λ image main x ports is wants.
          found-one (is_filled (places_of c.args.places.now)) ports c.args.ports.first.number false (one-port ((nameless image main).wanted x) c.args.ports ports (c.requires.takes image main x is) wants c.if-ports-eq1.true) (sym c.is_filled.ensures.filled ∙ c.if-is_filled.false);
    }
