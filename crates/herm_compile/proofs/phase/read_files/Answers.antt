use Rattle.herm_compile.proofs.PhaseLaws.{read_step, read_past}
use Rattle.herm_compile.proofs.phase.read_files.Goals as goal

pub files-preserved : goal.files-preserved
files-preserved c =
    rw c.in_ok-number.ensures
    (read_step (λ file. file.1.items) c.args.files.now c.files.file-index c.files.number c.file-item.result c.files.read c.read_file.new.read c.files-test.true c.file-item.is c.files.invariant
    (rw c.as_slice.ensures.value at c.in_ok-read_file.ensures))

pub returns : goal.returns
returns c =
    let all = read_past (λ file. file.1.items) c.args.files.now c.files.file-index c.files.number c.files.read c.files-test.false c.files.invariant in
    record { faults = all.found; modules = all.modules }
