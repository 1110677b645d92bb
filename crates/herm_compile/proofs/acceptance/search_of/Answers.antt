use Rattle.std.proofs.Common.{map, arith}
use Rattle.std.proofs.lemmas.List.{nil_from_length}
use Rattle.herm_accept.specs.Lacking.{lack_view}
use Rattle.herm_accept.proofs.Judging.{some_lack}
use Rattle.herm_compile.proofs.acceptance.search_of.Goals as goal

pub lacks_of-requires-clause-typed : goal.lacks_of-requires-clause-typed
lacks_of-requires-clause-typed c = rw c.as_slice.ensures.value c.requires.meant.typed.modules

pub returns-then-count-eq0 : goal.returns-then-count-eq0
returns-then-count-eq0 c = rw c.as_slice.ensures.value at (c.in_ok-lacks.ensures.accepted (nil_from_length c.in_ok-lacks.lacks.items (omega (arith, c.len-count.ensures, c.in_ok-lacks.lacks.ok))))

pub returns : goal.returns
returns c = record {
  modules = c.args.read.now.modules.items;
  owners = c.args.read.now.owners.items;
  read = c.requires.read;
  table = c.args.types.now;
  program = c.args.program.now;
  meant = c.requires.meant;
  list = map lack_view c.in_ok-lacks.lacks.items;
  are = rw c.as_slice.ensures.value at c.in_ok-lacks.ensures.lacking;
  some = some_lack c.in_ok-lacks.lacks.items (λ none. absurd (omega (arith, none, c.len-count.ensures, c.in_ok-lacks.lacks.ok)));
  each = c.in_ok-faults.ensures;
}
