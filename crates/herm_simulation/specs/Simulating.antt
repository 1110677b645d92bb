-- When the code of an image simulates a checked program.
use Rattle.std.specs.Prelude.{ℕ, suc, ◌+◌, List, [], ◌∷◌, map, cond, nat_lt, Option, Some, None, option_and_then, slice_get, ◌≡◌}
use Rattle.herm_model.specs.Lists.{IsIn}
use Rattle.herm_model.specs.Types.{TypeTable}
use Rattle.herm_model.specs.Expressions.{Literal}
use Rattle.herm_model.specs.Targets.{node}
use Rattle.herm_model.specs.Values.{Name}
use Rattle.herm_source.specs.Checked.{IsChecked}
use Rattle.herm_source.specs.Modules.{Program, Modules}
use Rattle.herm_source.specs.States.{State}
use Rattle.herm_source.specs.laws.SoundProcesses.{IsSoundProcess}
use Rattle.herm_code_machine.specs.CodeLocal.{IsSoundCodeIn}
use Rattle.herm_code_machine.specs.CodeStates.{CodeState}
use Rattle.herm_code_machine.specs.ReadyCode.{ReadyImage, labelled_image}
use Rattle.herm_code_machine.specs.laws.GoodImageLaws.{IsGoodOver}
use Rattle.herm_translation.specs.StandsFor.{NodesOfIndices, StandsFor}
use Rattle.herm_translated.specs.CodeBlocks.{CheckedModule, CodeBlock, blocks_of, entry_edge, slots_around}
use Rattle.herm_translated.specs.Constants.{constants_of}
use Rattle.herm_translated.specs.Departures.{edge_length}
use Rattle.herm_translated.specs.Layout.{block_length}
use Rattle.herm_translated.specs.Settled.{settled}
use Rattle.herm_translated.specs.Translated.{forms_in, image_for}
use Rattle.herm_simulation.specs.Checks.{IsRight}
use Rattle.herm_simulation.specs.Standing.{IsAtPoint}
use Rattle.herm_simulation.specs.laws.EdgeLaws.{AreListsOf}

-- A checked program with what its check gives, which is right, and its image, which is good. Code reference, "Blocks".
pub record IsTranslated (exceptions : ℕ) (program : Program) (modules : Modules) (checked : List CheckedModule) : Type 0 where
  pub accepted : IsChecked exceptions program modules
  pub codes : map (λ (m : CheckedModule). m.code) checked ≡ modules.codes
  pub right : (m : CheckedModule) → IsIn m checked → IsRight m
  pub good : IsGoodOver exceptions (image_for program.types checked)

-- The node to whose block an index belongs, among blocks from a node on, of which the first begins at an index.
-- Code reference, "Blocks".
abbrev pub node_among : TypeTable → (variables : List ℕ) → List Literal → (node first : ℕ) → List CodeBlock → (index : ℕ) → Option ℕ
node_among types variables constants n first [] i = None
node_among types variables constants n first (b ∷ bs) i =
    cond (nat_lt i (first + block_length types variables constants b)) (Some n) (node_among types variables constants (suc n) (first + block_length types variables constants b) bs i)

-- The edge to where a process begins belongs to no node.
abbrev pub node_at_index : List Literal → CheckedModule → (index : ℕ) → Option ℕ
node_at_index constants m i = cond (nat_lt i (edge_length (entry_edge m))) None (node_among m.code.types m.code.variables constants 0 (edge_length (entry_edge m)) (blocks_of m) i)

module _ (program : Program) (modules : Modules) (checked : List CheckedModule) where
  abbrev pub its_constants : List Literal
  its_constants = constants_of (forms_in checked)

  -- the image made ready to run, with the labels of good code
  abbrev pub ready_image : ReadyImage
  ready_image = labelled_image (image_for program.types checked) modules.main

  -- the nodes of the indices of each module
  abbrev pub nodes_of_indices : NodesOfIndices
  nodes_of_indices k i = option_and_then (λ m. node_at_index its_constants (settled m) i) (slice_get checked k)

  -- A process of code simulates one of the source where it stands for it, both are sound within themselves, and it is within the block of the
  -- point's node; in an open call the lists of rows are those of the slots around the call. Code reference, "Standing for a process".
  pub record Simulates (x : State Name) (y : CodeState Name) : Type 0 where
    pub coded : CheckedModule
    pub found : slice_get checked x.module_number ≡ Some coded
    pub stands : StandsFor ready_image nodes_of_indices x y
    pub place : IsAtPoint its_constants (settled coded) y.frame.call y.position x.point
    pub lists : (call i : ℕ) → x.frame.call ≡ Some call → x.point ≡ node i → AreListsOf (slots_around coded.code i) x.frame.loops
    pub sound : IsSoundProcess program modules x
    pub code_sound : IsSoundCodeIn ready_image y
