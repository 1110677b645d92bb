-- One list of symbols has one file.
use Rattle.std.proofs.Common.{max, ◌≤◌, List, [], ◌++◌, refl, ap, arith}
use Rattle.herm_readers.proofs.Consequences.{one_tree}
use Rattle.herm_syntax.specs.Symbols.{Symbol}
use Rattle.herm_syntax.specs.Trees.{Module}
use Rattle.herm_syntax.specs.ReadModules.{file_rule, read_file}
use Rattle.herm_syntax.specs.laws.GrammarLaws.{HasOneFile}
use Rattle.herm_syntax.proofs.Deeper.{file_deeper}
use Rattle.herm_syntax.proofs.Files.{file_reads}

pub one_file : HasOneFile
one_file a b is_a is_b e =
    let levels = max is_a.0 is_b.0 in
    let first : is_a.0 ≤ levels = omega arith in
    let second : is_b.0 ≤ levels = omega arith in
    (one_tree Symbol (List Module) (file_rule levels) (read_file levels) (file_reads levels) a b [] []
    (file_deeper a is_a.0 levels first is_a.1) refl (file_deeper b is_b.0 levels second is_b.1) refl (ap (λ t. t ++ []) e)).0
