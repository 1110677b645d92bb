-- A state as the set of its facts.
use Rattle.std.specs.Prelude.{List, Bool}
use Rattle.herm_model.specs.Paths.{Fact, init, case, path_of}
use Rattle.herm_typestate.specs.declared.state.State.{State}
use Rattle.herm_typestate.specs.declared.tree.Mark.{Mark}
use Rattle.herm_typestate.specs.declared.tree.Mark.TheVariants.{Here, Component}
use Rattle.herm_typestate.specs.declared.tree.Tree.{Tree}
use Rattle.herm_typestate.specs.Trees.{has_mark}

-- what the fact says of its path
abbrev pub mark_of : Fact → Mark
mark_of (init p) = Here
mark_of (case p c) = Component c

-- the trees of the variables have the fact
abbrev pub facts_of : List Tree → Fact → Bool
facts_of ts f = has_mark ts (mark_of f) (path_of f)

-- the fact is in the set
unfoldable pub has_fact : State → Fact → Bool
has_fact s f = facts_of s.vars.items f
