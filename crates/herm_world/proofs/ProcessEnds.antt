-- What became of a process, by what comes next.
use Rattle.std.proofs.Common.{◌≡◌, ℕ, List, Bool, true, false, cond, Some, map, refl, sym, ap, ◌∙◌, true≢false}
use Rattle.std.specs.Prelude.{⊤}
use Rattle.herm_base.specs.declared.numbers.PortNo.{PortNo}
use Rattle.herm_journal.specs.Messages.{CellWant}
use Rattle.herm_instructions.specs.Images.{Image}
use Rattle.herm_system.specs.Machines.{Standing, acting, ended, out_of_actions, out_of_steps, waiting}
use Rattle.herm_system.specs.ProcessFates.{Fate, end_as, spent_actions, spent_steps, waits}
use Rattle.herm_system.specs.Systems.{standing}
use Rattle.herm_code_machine.specs.CodeStates.{CodeState}
use Rattle.herm_waking.specs.Unnamed.{ports_of_want}
use Rattle.herm_waking.specs.UnnamedReport.{bare_fate_as}
use Rattle.herm_exchanges.specs.declared.wants.Want.{Want}
use Rattle.herm_machine.specs.Machines.{nameless}
use Rattle.herm_steps.specs.Coming.{end_view as stop_view}
use Rattle.herm_steps.specs.declared.running.End.{End as Stop}
use Rattle.herm_process.specs.Nexts.{IsNext}
use Rattle.herm_process.specs.Processes.{ProcessState, IsProcess}
use Rattle.herm_process.specs.declared.next.Next.{Next}
use Rattle.herm_process.specs.declared.next.Next.TheVariants as nexts
use Rattle.herm_process.specs.declared.next.Spent.{Spent as Reached}
use Rattle.herm_process.specs.declared.next.Spent.TheVariants as reached
use Rattle.herm_report.specs.View.{end_view, proc_end_view, spent_view}
use Rattle.herm_report.specs.declared.report.End.{End}
use Rattle.herm_report.specs.declared.report.ProcEnd.{ProcEnd}
use Rattle.herm_report.specs.declared.report.ProcEnd.TheVariants.{Ended, Waiting, Stopped}
use Rattle.herm_report.specs.declared.report.Spent.{Spent}
use Rattle.herm_world.specs.Looks.{can_so}
use Rattle.herm_world.specs.Reported.{IsAtRest, IsEndOf, reached_view}
use Rattle.herm_world.proofs.StandingSo.{acting-as, local-can, stands-as}

abbrev pub IsNextFor : ProcessState → Next → Type 0
IsNextFor p next = (image : Image) (main : ℕ) (x : CodeState ⊤) → IsProcess image main p x → IsNext (nameless image main) p.limit x next

-- a process that stands so, whatever its exception and its ports
abbrev fate_so : ProcessState → (image : Image) → (main : ℕ) → CodeState ⊤ → Standing → Fate
fate_so p image main x s = bare_fate_as s p.limit ((nameless image main).exception x) (ports_of_want ((nameless image main).wanted x))

pub ended-end : (p : ProcessState) (stop : Stop) (e : End) → IsNextFor p (nexts.Ended stop) → end_view e ≡ end_as (stop_view stop) → IsEndOf p (Ended e)
ended-end p stop e next is image main x can stands cannot =
    let h = next image main x stands in
    is ∙ ap end_as (sym h.1) ∙ sym (ap (fate_so p image main x) (stands-as (nameless image main) p.limit can x ended h.0))

pub stopped-end : (p : ProcessState) (r : Reached) (e : Spent) → IsNextFor p (nexts.Stopped r) → spent_view e ≡ reached_view r → IsEndOf p (Stopped e)
stopped-end p (reached.Steps n) e next is image main x can stands cannot =
    let h = next image main x stands in
    is ∙ ap spent_steps h.1 ∙ sym (ap (fate_so p image main x) (stands-as (nameless image main) p.limit can x out_of_steps h.0))
stopped-end p (reached.Actions n) e next is image main x can stands cannot =
    let h = next image main x stands in
    is ∙ ap spent_actions h.1 ∙ sym (ap (fate_so p image main x) (stands-as (nameless image main) p.limit can x out_of_actions h.0))

waits-so : (b : Bool) (f : Standing → Fate) (ports : List ℕ) → f waiting ≡ waits ports → can_so (cond b acting waiting) ≡ false → waits ports ≡ f (cond b acting waiting)
waits-so true f ports is cannot = absurd (true≢false cannot)
waits-so false f ports is cannot = sym is

pub waiting-end : (p : ProcessState) (want : Want) (e : ProcEnd) → IsNextFor p (nexts.Act want)
    → ((image : Image) (main : ℕ) (x : CodeState ⊤) → IsProcess image main p x → proc_end_view e ≡ waits (ports_of_want ((nameless image main).wanted x))) → IsEndOf p e
waiting-end p want e next found image main x can stands cannot =
    let h = next image main x stands in
    let so = acting-as (nameless image main) p.limit can x h.1 h.0 h.2 in
    found image main x stands
    ∙ waits-so (can h.1) (fate_so p image main x) (ports_of_want ((nameless image main).wanted x)) refl (sym (ap can_so so) ∙ cannot)
    ∙ sym (ap (fate_so p image main x) so)

pub local-never : {A : Type 0} (p : ProcessState) → IsAtRest p → IsNextFor p nexts.Local → A
local-never p rest next = absurd (true≢false (local-can (nameless rest.0 rest.1) p.limit rest.3 rest.2 (next rest.0 rest.1 rest.2 rest.4) ∙ rest.5))
