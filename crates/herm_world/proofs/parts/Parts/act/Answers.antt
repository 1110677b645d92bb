use Rattle.std.proofs.Common.{sym}
use Rattle.herm_world.proofs.ReadPlaces.{read-from-one, set-from-one}
use Rattle.herm_world.proofs.parts.Parts.act.Goals as goal

pub act_on-requires-clause-acts : goal.act_on-requires-clause-acts
act_on-requires-clause-acts c = c.requires.acts c.index_mut.result.now (read-from-one c.args.self.now.processes.items c.args.who.number c.index_mut.result.now c.requires.from_one c.requires.there c.index_mut.ensures.value)

pub returns-clause-made : goal.returns-clause-made
returns-clause-made c =
    record {
      before = c.index_mut.result.now;
      after = c.act_on.new.process;
      there = read-from-one c.args.self.now.processes.items c.args.who.number c.index_mut.result.now c.requires.from_one c.requires.there c.index_mut.ensures.value;
      set = sym (set-from-one c.args.self.now.processes.items c.args.who.number c.act_on.new.process c.requires.from_one);
      acts = c.in_ok-acted.ensures.made;
    }
