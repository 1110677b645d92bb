-- How many cells of certain kinds a process holds, and gives away, is what it weighs by their kinds.
use Rattle.std.proofs.Common.{◌≡◌, ◌++◌, flat_map, Bool, Some, refl, ap, ◌∙◌, arith}
use Rattle.herm_model.specs.Lists.{list_of}
use Rattle.herm_model.specs.Values.{Name, Kind}
use Rattle.herm_model.proofs.Lists.{total-append}
use Rattle.herm_journal.specs.Actions.{new_process, to_put, to_answer, make_process}
use Rattle.herm_journal.specs.Messages.{CellWant, CellAction}
use Rattle.herm_forms.specs.Frames.{Loop}
use Rattle.herm_forms.specs.Weights.{weight_made}
use Rattle.herm_forms.proofs.Loads.{load_going, load_kept}
use Rattle.herm_system.specs.Machines.{Held, inport_of}
use Rattle.herm_system.specs.Summary.{how_many}
use Rattle.herm_system.specs.Kinds.{kinds_of, kinds_in, kinds_by}
use Rattle.herm_runs.specs.Counting.{kinds_going}
use Rattle.herm_runs.proofs.HeldParts.{kinds-parts}
use Rattle.herm_code_machine.specs.ReadyCode.{ReadyCode, ReadyImage}
use Rattle.herm_code_machine.specs.CodeStates.{CodeState}
use Rattle.herm_code_machine.specs.CodeSeen.{slot_row, code_held}
use Rattle.herm_code_machine.specs.CodeInstance.{own_name, code_at, code_machine}
use Rattle.herm_held.proofs.KindTotals.{nameless, one_of, many, kinds-load_all, kinds-load_in, kinds-load_loops, of-cell, of-reply, nothing-finalised}

module _ (test : Kind → Bool) where
  pub of-going : (image : ReadyImage) (x : CodeState Name) (want : CellWant Name) (a : CellAction Name) → how_many test (kinds_going (code_machine image) x want a) ≡ load_going nameless (one_of test) own_name x.frame want a
  of-going image x (to_put port m) a = of-cell test m
  of-going image x (to_answer caller call r) a = of-reply test r
  of-going image x (new_process code) (make_process code' (Some weight_made)) = of-cell test (inport_of (code_machine image) weight_made.1 x)
  of-going image x want a = refl

  -- of all that a process holds
  pub of-held : (image : ReadyImage) (x : CodeState Name) (c : ReadyCode) → code_at image x ≡ Some c → how_many test (kinds_by (code_machine image) x) ≡ load_kept nameless (one_of test) x.frame
  of-held image x c is =
      let variables = kinds_in x.frame.variables in
      let loops = flat_map (λ (l : Loop Name). kinds_in l.rows) x.frame.loops in
      let items = flat_map kinds_of x.frame.work in
      ap (λ o. how_many test (flat_map (λ (h : Held Name). kinds_of h.value) (list_of (λ c. code_held c x) o))) is
      ∙ ap (how_many test) (kinds-parts c.scope.variables x.frame.variables (λ (l : Loop Name). slot_row c x.position l.statement) (λ (l : Loop Name). l.rows) x.frame.loops x.frame.work)
      ∙ many test (variables ++ loops ++ items)
      ∙ omega (
        arith,
        total-append (one_of test) (variables ++ loops) items,
        total-append (one_of test) variables loops,
        kinds-load_in test x.frame.variables,
        kinds-load_loops test x.frame.loops,
        kinds-load_all test x.frame.work,
        nothing-finalised test x.frame.finalised,
      )
