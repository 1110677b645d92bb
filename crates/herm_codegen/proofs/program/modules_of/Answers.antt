use Rattle.std.proofs.Common.{List, map, ◌++◌, ap}
use Rattle.herm_translated.specs.Translated.{code_of}
use Rattle.herm_code.specs.declared.modules.CodeModule.{CodeModule}
use Rattle.herm_code.specs.View.{module_view}
use Rattle.herm_fronts.specs.View.{key_view}
use Rattle.herm_blocks.specs.declared.checked.CheckedProcess.{CheckedProcess}
use Rattle.herm_blocks.specs.CheckedProcesses.{checked_view}
use Rattle.herm_codegen.proofs.ProgramCode.{item_in}
use Rattle.herm_codegen.proofs.Steps.{left_more, pushed_more}
use Rattle.herm_codegen.proofs.program.modules_of.Goals as goal

pub code_of-requires : goal.code_of-requires
code_of-requires c = record { flow = c.requires _ (item_in c.args.processes.now c.processes.checked-index _ c.processes-test.true c.checked-item.is) }

pub processes-init : goal.processes-init
processes-init c = record {
  code = ap (λ (vs : List CodeModule). map module_view vs ++ map (code_of (map key_view c.args.keys.now.keys)) (map (checked_view c.args.types.now.shapes) c.args.processes.now)) c.in_ok-found.ensures.items;
  names = ap (λ (vs : List CodeModule). map (λ m. m.name) vs ++ map (λ p. p.process.now.name.text) c.args.processes.now) c.in_ok-found.ensures.items;
}

pub processes-preserved : goal.processes-preserved
processes-preserved c =
    let constants = map key_view c.args.keys.now.keys in
    let types = c.args.types.now.shapes in
    let checked = c.checked-item.result in
    record {
      code =
          pushed_more module_view c.processes.found.items c.push.new.self.items c.in_ok-code.code (code_of constants (checked_view types checked)) _ _ _ c.in_ok-push.ensures.items c.in_ok-code.ensures.code
          (ap (map (code_of constants)) (left_more c.args.processes.now (checked_view types) c.processes.checked-index checked c.processes-test.true c.checked-item.is)) c.processes.invariant.code;
      names =
          pushed_more (λ (m : CodeModule). m.name) c.processes.found.items c.push.new.self.items c.in_ok-code.code checked.process.now.name.text _ _ _ c.in_ok-push.ensures.items c.in_ok-code.ensures.name
          (left_more c.args.processes.now (λ (p : CheckedProcess). p.process.now.name.text) c.processes.checked-index checked c.processes-test.true c.checked-item.is) c.processes.invariant.names;
    }
