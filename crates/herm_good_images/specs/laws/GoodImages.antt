-- What is claimed of the images of checked programs.
use Rattle.std.specs.Prelude.{ℕ, List, Some, ◌≡◌}
use Rattle.herm_model.specs.Paths.{Path, Fact}
use Rattle.herm_model.specs.Types.{TypeTable}
use Rattle.herm_model.specs.Statements.{Process}
use Rattle.herm_model.specs.Labels.{Labels}
use Rattle.herm_model.specs.TypedPrograms.{main_start, IsTypedProcess}
use Rattle.herm_source.specs.Modules.{Program}
use Rattle.herm_code_machine.specs.CodeTypes.{first_type}
use Rattle.herm_code_machine.specs.ReadyCode.{labelled_image}
use Rattle.herm_code_machine.specs.laws.GoodImageLaws.{IsGoodOver}
use Rattle.herm_translated.specs.CodeBlocks.{CheckedModule, blocks_of, entry_edge}
use Rattle.herm_translated.specs.Settled.{settled}
use Rattle.herm_translated.specs.Translated.{image_for}
use Rattle.herm_translated.specs.laws.CheckedBlocks.{checked}
use Rattle.herm_translated.specs.laws.GoodStructure.{AreComplete}
use Rattle.herm_good_images.specs.CheckedModules.{AreCheckedModules}

-- Each block of a typed process is led to by an edge to its first step, or stands behind one that goes on to it and has what that one hands on, and has an edge for each outcome, or goes on
-- by its only one. Code reference, "Blocks".
abbrev pub TypedBlocksAreComplete : Type 0
TypedBlocksAreComplete = (exceptions : ℕ) (table : TypeTable) (processes : List Process) (p : Process) (labels : Labels) (facts : List (List Fact)) (entry_drops : List Path) (drops : List (List (List Path)))
    → IsTypedProcess exceptions table processes p → AreComplete table p.variables (entry_edge (checked table p labels facts entry_drops drops)) (blocks_of (settled (checked table p labels facts entry_drops drops)))

-- The image of each checked program is good over its types. Code reference, "Good code".
abbrev pub ImagesAreGood : Type 0
ImagesAreGood = (exceptions : ℕ) (program : Program) (modules : List CheckedModule) → AreCheckedModules exceptions program modules → IsGoodOver exceptions (image_for program.types modules)

-- Its main has a port of the type main_start; so what is said of the runs of good images is so of the runs of each checked program's image. Language reference, "Typed programs".
abbrev pub MainsBegin : Type 0
MainsBegin = (exceptions : ℕ) (program : Program) (modules : List CheckedModule) → AreCheckedModules exceptions program modules → first_type (labelled_image (image_for program.types modules) program.main) program.main ≡ Some main_start
