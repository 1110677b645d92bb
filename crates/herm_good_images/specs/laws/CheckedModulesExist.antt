-- What is claimed of checked programs: each has such modules.
use Rattle.std.specs.Prelude.{ℕ, List, map, ◌≡◌}
use Rattle.herm_source.specs.Modules.{Program, Modules}
use Rattle.herm_source.specs.Checked.{IsChecked}
use Rattle.herm_translated.specs.CodeBlocks.{CheckedModule}
use Rattle.herm_good_images.specs.CheckedModules.{AreCheckedModules}

-- Each checked program has the facts of its labels as lists, and what is dropped along its edges; so it has an image.
abbrev pub CheckedProgramsHaveModules : Type 0
CheckedProgramsHaveModules = (exceptions : ℕ) (program : Program) (made : Modules) → IsChecked exceptions program made
    → (modules : List CheckedModule) × (map (λ (m : CheckedModule). m.code) modules ≡ made.codes) × AreCheckedModules exceptions program modules
