-- What is claimed of how long code is, and of when its indices have 32 bits.
use Rattle.std.specs.Prelude.{ℕ, ◌+◌, ◌*◌, ◌<◌, ◌≤◌, List, length}
use Rattle.herm_model.specs.Lists.{IsIn, total}
use Rattle.herm_model.specs.Paths.{Path}
use Rattle.herm_model.specs.Expressions.{Literal}
use Rattle.herm_model.specs.Nodes.{Node}
use Rattle.herm_model.specs.Exits.{exits}
use Rattle.herm_translated.specs.Fronts.{front_length}
use Rattle.herm_translated.specs.Departures.{Departure, edge_length}
use Rattle.herm_translated.specs.CodeBlocks.{CheckedModule, CodeBlock, blocks_of, entry_edge}
use Rattle.herm_translated.specs.Settled.{settled}
use Rattle.herm_translated.specs.Translated.{code_of}

-- how many exits the nodes of a process have together
abbrev pub exits_in : CheckedModule → ℕ
exits_in m = total (λ (n : Node). length (exits m.code.types m.code.variables n)) m.code.nodes

-- how many instructions their fronts have together, over these constants
abbrev pub fronts_in : List Literal → CheckedModule → ℕ
fronts_in constants m = total (λ (n : Node). front_length m.code.types m.code.variables constants n.form) m.code.nodes

-- no edge has more instructions
pub record HasShortEdges (most : ℕ) (m : CheckedModule) : Type 0 where
  pub entry : edge_length (entry_edge m) ≤ most
  pub edges : (b : CodeBlock) (d : Departure) → IsIn b (blocks_of (settled m)) → IsIn d b.departures → edge_length d ≤ most

-- Code has at most an edge for each exit, a step and a front for each node, and the edge to where the process begins.
-- Code reference, "Blocks".
abbrev pub CodeIsBounded : Type 0
CodeIsBounded = (constants : List Literal) (most : ℕ) (m : CheckedModule) → HasShortEdges most m
    → length (code_of constants m).code ≤ most + (length m.code.nodes + (fronts_in constants m + exits_in m * most))

-- The most paths that an edge drops are those of all variables of a process; it leaves the loops around its node, and the node's own. So long is
-- an edge at most, with its last instruction. Language reference, "Limits".
abbrev pub longest_edge : ℕ
longest_edge = 4096 + (1025 + 1)

-- What bounds the code of a process: nodes and dropped paths are so few by the limits of the language, fronts are so short by those of a file. That the
-- nodes have so few exits together no limit of the language says: a call has one for each exception that its callmessage declares.
pub record HasFewExits (constants : List Literal) (m : CheckedModule) : Type 0 where
  pub nodes : length m.code.nodes ≤ 1024
  pub entry_drops : length m.entry_drops ≤ 4096
  pub drops : (edges : List (List Path)) (paths : List Path) → IsIn edges m.drops → IsIn paths edges → length paths ≤ 4096
  pub fronts : fronts_in constants m ≤ 1048576
  pub exits : exits_in m ≤ 524288

-- Each index of such code has 32 bits.
abbrev pub IndicesFit : Type 0
IndicesFit = (constants : List Literal) (m : CheckedModule) → HasFewExits constants m → length (code_of constants m).code < 4294967296
