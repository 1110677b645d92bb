use Rattle.std.proofs.Common.{ap}
use Rattle.herm_process.specs.Processes.{ProcessState}
use Rattle.herm_world.specs.Births.{birth_view}
use Rattle.herm_world.proofs.beginning.first_process.Goals as goal

pub returns : goal.returns
returns c =
    let comes = c.in_ok-process.ensures.begins c.args.main in
    let parts = c.in_ok-process.ensures.parts in record {
      first = record {
        state = comes.0;
        begins = comes.1;
        stands = comes.2;
        number = ap (λ (p : ProcessState). p.number) parts;
        its_limit = ap (λ (p : ProcessState). p.limit) parts;
        born = ap (λ (p : ProcessState). birth_view p.birth) parts;
        diary = ap (λ (p : ProcessState). p.diary) parts;
        clock = ap (λ (p : ProcessState). p.clock) parts;
        free = ap (λ (p : ProcessState). p.ordered) parts;
      };
    }
