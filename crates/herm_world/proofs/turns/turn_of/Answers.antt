use Rattle.std.proofs.Common.{inl, inr, ℕ, sym, subst, ◌∙◌}
use Rattle.herm_process.specs.Processes.{ProcessState}
use Rattle.herm_process.specs.declared.next.Next.TheVariants as nexts
use Rattle.herm_process.specs.declared.next.Spent.{Spent}
use Rattle.herm_process.specs.declared.next.Spent.TheVariants as spent
use Rattle.herm_world.specs.Places.{Places, places_of}
use Rattle.herm_world.specs.Turns.{TurnsAs}
use Rattle.herm_world.specs.declared.turns.Turn.TheVariants as turns
use Rattle.herm_world.proofs.TakenFrom.{IsNextFor}
use Rattle.herm_world.proofs.turns.turn_of.Goals as goal

local-turns : (p : ProcessState) (s : Places) (who : ℕ) → IsNextFor p nexts.Local → TurnsAs turns.Local p s who
local-turns p s who is image main x stands qs = is image main x stands

ended-turns : (p : ProcessState) (s : Places) (who : ℕ) (end : Rattle.herm_steps.specs.declared.running.End.End) → IsNextFor p (nexts.Ended end) → TurnsAs turns.Ended p s who
ended-turns p s who end is image main x stands qs = (is image main x stands).0

stopped-turns : (p : ProcessState) (s : Places) (who : ℕ) (why : Spent) → IsNextFor p (nexts.Stopped why) → TurnsAs turns.Stopped p s who
stopped-turns p s who (spent.Steps n) is image main x stands qs = inl (is image main x stands).0
stopped-turns p s who (spent.Actions n) is image main x stands qs = inr (is image main x stands).0

pub returns-in-Local : goal.returns-in-Local
returns-in-Local c = record { turn = local-turns c.args.process.now (places_of c.args.places.now) c.args.who.number (subst (IsNextFor c.args.process.now) c.in-Local.is c.next.ensures.next) }

pub returns-then-can_do : goal.returns-then-can_do
returns-then-can_do c =
    record {
      turn = λ image main x is qs.
          let h = subst (IsNextFor c.args.process.now) c.in-Act.is c.next.ensures.next image main x is in
          (h.0, h.1, h.2, sym (c.can_do.ensures.can image main x h.1 is h.2 qs) ∙ c.if-can_do.true);
    }

pub returns-else-can_do : goal.returns-else-can_do
returns-else-can_do c =
    record {
      turn = λ image main x is qs.
          let h = subst (IsNextFor c.args.process.now) c.in-Act.is c.next.ensures.next image main x is in
          (h.0, h.1, h.2, sym (c.can_do.ensures.can image main x h.1 is h.2 qs) ∙ c.if-can_do.false);
    }

pub returns-in-Ended : goal.returns-in-Ended
returns-in-Ended c = record { turn = ended-turns c.args.process.now (places_of c.args.places.now) c.args.who.number c.in-Ended.field-0 (subst (IsNextFor c.args.process.now) c.in-Ended.is c.next.ensures.next) }

pub returns-in-Stopped : goal.returns-in-Stopped
returns-in-Stopped c = record { turn = stopped-turns c.args.process.now (places_of c.args.places.now) c.args.who.number c.in-Stopped.field-0 (subst (IsNextFor c.args.process.now) c.in-Stopped.is c.next.ensures.next) }

pub can_do-requires-clause-wants : goal.can_do-requires-clause-wants
can_do-requires-clause-wants c image main x is = let h = subst (IsNextFor c.args.process.now) c.in-Act.is c.next.ensures.next image main x is in (h.1, h.2, h.3)
