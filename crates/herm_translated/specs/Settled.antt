-- Settled facts: what is held at the first step of each block.
use Rattle.std.specs.Prelude.{ℕ, suc, List, [], ◌∷◌, Bool, ◌||◌, cond}
use Rattle.herm_model.specs.Paths.{Fact}
use Rattle.herm_model.specs.Types.{TypeTable}
use Rattle.herm_model.specs.Nodes.{Node}
use Rattle.herm_model.specs.Outcomes.{ok}
use Rattle.herm_translated.specs.CodeBlocks.{CheckedModule, is_for, first_list, further_lists, blocks_of, entry_edge}
use Rattle.herm_translated.specs.BlockLabels.{facts_after, comes_first}

-- The facts of the blocks of nodes from a place on. Where an edge leads to the first step, and at a `for`, they are those of the node; at any other
-- what the form before hands on. Code reference, "Blocks".
abbrev pub settled_from : TypeTable → (variables : List ℕ) → (led : ℕ → Bool) → (place : ℕ) → (handed : List Fact) → List Node → List (List Fact) → List (List Fact)
settled_from types variables led i handed [] facts = []
settled_from types variables led i handed (n ∷ ns) facts =
    cond (led i || is_for n.form) (first_list facts) handed
    ∷ settled_from types variables led (suc i) (facts_after types variables n.form ok (cond (led i || is_for n.form) (first_list facts) handed)) ns (further_lists facts)

abbrev pub settled : CheckedModule → CheckedModule
settled m = record m { facts = settled_from m.code.types m.code.variables (comes_first (entry_edge m) (blocks_of m)) 0 [] m.code.nodes m.facts }
