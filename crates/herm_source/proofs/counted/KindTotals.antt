-- How many cells of certain kinds a process holds, and gives away, is what it weighs by their kinds.
use Rattle.std.proofs.Common.{◌≡◌, ◌++◌, flat_map, Bool, Some, refl, ap, ◌∙◌, arith}
use Rattle.herm_model.specs.Lists.{list_of}
use Rattle.herm_model.specs.Values.{Name, Kind}
use Rattle.herm_model.proofs.Lists.{total-append}
use Rattle.herm_journal.specs.Actions.{new_process, to_put, to_answer, make_process}
use Rattle.herm_journal.specs.Messages.{CellWant, CellAction}
use Rattle.herm_forms.specs.Frames.{Loop}
use Rattle.herm_forms.specs.Weights.{weight_made}
use Rattle.herm_forms.specs.Modules.{Module}
use Rattle.herm_forms.proofs.Loads.{load_going, load_kept}
use Rattle.herm_system.specs.Machines.{Held, inport_of}
use Rattle.herm_system.specs.Summary.{how_many}
use Rattle.herm_system.specs.Kinds.{kinds_of, kinds_in, kinds_by}
use Rattle.herm_runs.specs.Counting.{kinds_going}
use Rattle.herm_source.specs.Modules.{Modules}
use Rattle.herm_source.specs.States.{State, own_name}
use Rattle.herm_source.specs.SeenBySystem.{values_held}
use Rattle.herm_source.specs.Instance.{source, code_at}
use Rattle.herm_source.proofs.instance.HeldValues.{kinds-values}
use Rattle.herm_held.proofs.KindTotals.{nameless, one_of, many, kinds-load_all, kinds-load_in, kinds-load_loops, of-cell, of-reply, nothing-finalised}

module _ (test : Kind → Bool) where
  pub of-going : (modules : Modules) (x : State Name) (want : CellWant Name) (a : CellAction Name) → how_many test (kinds_going (source modules) x want a) ≡ load_going nameless (one_of test) own_name x.frame want a
  of-going modules x (to_put port m) a = of-cell test m
  of-going modules x (to_answer caller call r) a = of-reply test r
  of-going modules x (new_process code) (make_process code' (Some weight_made)) = of-cell test (inport_of (source modules) weight_made.1 x)
  of-going modules x want a = refl

  -- of all that a process holds
  pub of-held : (modules : Modules) (x : State Name) (c : Module) → code_at modules x ≡ Some c → how_many test (kinds_by (source modules) x) ≡ load_kept nameless (one_of test) x.frame
  of-held modules x c is =
      let variables = kinds_in x.frame.variables in
      let loops = flat_map (λ (l : Loop Name). kinds_in l.rows) x.frame.loops in
      let items = flat_map kinds_of x.frame.work in
      ap (λ o. how_many test (flat_map (λ (h : Held Name). kinds_of h.value) (list_of (λ c. values_held c x) o))) is
      ∙ ap (how_many test) (kinds-values c x)
      ∙ many test (variables ++ loops ++ items)
      ∙ omega (
        arith,
        total-append (one_of test) (variables ++ loops) items,
        total-append (one_of test) variables loops,
        kinds-load_in test x.frame.variables,
        kinds-load_loops test x.frame.loops,
        kinds-load_all test x.frame.work,
        nothing-finalised test x.frame.finalised,
      )
