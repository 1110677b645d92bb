-- A process that orders, gets and settles makes its action.
use Rattle.std.proofs.Common.{◌≡◌, ◌<◌, ℕ, suc, max, List, Option, Some, None, false, sym, ap, subst, ◌∙◌, arith}
use Rattle.std.specs.Prelude.{⊤}
use Rattle.herm_model.proofs.Options.{some-injective}
use Rattle.herm_journal.specs.Messages.{CellWant}
use Rattle.herm_instructions.specs.Images.{Image}
use Rattle.herm_code_machine.specs.CodeStates.{CodeState}
use Rattle.herm_machine.specs.Gots.{FitsWant, IsWholeGot}
use Rattle.herm_machine.specs.Machines.{nameless}
use Rattle.herm_machine.specs.declared.order.Got.{Got}
use Rattle.herm_machine.specs.declared.order.Order.{Order}
use Rattle.herm_process.specs.Entries.{IsOrderOf}
use Rattle.herm_process.specs.Processes.{ProcessState, IsProcess, IsSettled, FitsProcess}
use Rattle.herm_world.specs.Doing.{Does}
use Rattle.herm_world.specs.Orders.{CanBeServed, made_in}
use Rattle.herm_world.specs.Places.{Places}
use Rattle.herm_world.specs.Steps.{Acts, CanAct}

-- the process while its order is out
abbrev pub IsOutOf : (before mid : ProcessState) → Type 0
IsOutOf before mid = mid ≡ record before { machine = mid.machine; ordered = mid.ordered }

abbrev pub OrdersOf : ProcessState → Order → Type 0
OrdersOf p order = (image : Image) (main : ℕ) (x : CodeState ⊤) → IsProcess image main p x → (w : CellWant ⊤) × ((nameless image main).wanted x ≡ Some w) × IsOrderOf order w

abbrev pub StandsToo : (before mid : ProcessState) → Type 0
StandsToo before mid = (image : Image) (main : ℕ) (x : CodeState ⊤) → IsProcess image main before x → IsProcess image main mid x

abbrev pub DoesOrder : ProcessState → (who clock : ℕ) → (s t : Places) → Order → Got → (stamp : ℕ) → List ℕ → Option (ℕ × ℕ × ℕ) → Type 0
DoesOrder p who clock s t order got stamp woken made = (image : Image) (main : ℕ) (x : CodeState ⊤) (w : CellWant ⊤) → IsProcess image main p x → (nameless image main).wanted x ≡ Some w → IsOrderOf order w → Does who clock w s t got stamp woken × (made ≡ made_in w got)

abbrev pub SettlesOrder : (mid after : ProcessState) → Got → (stamp : ℕ) → Type 0
SettlesOrder mid after got stamp = (image : Image) (main : ℕ) (x : CodeState ⊤) (w : CellWant ⊤) → IsProcess image main mid x → (nameless image main).wanted x ≡ Some w → FitsWant got w → IsSettled image main mid after x got w stamp

module _ (before mid : ProcessState) (s : Places) (who : ℕ) (acts : CanAct before s who) (order : Order) (same : IsOutOf before mid) (out : StandsToo before mid) (orders : OrdersOf before order) where
  order-for : (image : Image) (main : ℕ) (x : CodeState ⊤) (w : CellWant ⊤) → IsProcess image main before x → (nameless image main).wanted x ≡ Some w → IsOrderOf order w
  order-for image main x w stands wanted = let o = orders image main x stands in subst (IsOrderOf order) (some-injective (sym o.1 ∙ wanted)) o.2

  pub served : CanBeServed mid s who order
  served =
      let can = acts.can in (
        record {
          image = can.image;
          main = can.main;
          state = can.state;
          stands = out can.image can.main can.state can.stands;
          next = ap (λ n. (nameless can.image can.main).ready n can.state) (ap (λ (p : ProcessState). p.limit) same) ∙ can.next;
          want = can.want;
          wanted = can.wanted;
          beside = can.beside;
          can = can.can;
        },
        order-for can.image can.main can.state can.want can.stands can.wanted,
      )

  pub still-alive : mid.is_dead ≡ false
  still-alive = ap (λ (p : ProcessState). p.is_dead) same ∙ acts.alive

  module _ (t : Places) (got : Got) (stamp : ℕ) (woken : List ℕ) (made : Option (ℕ × ℕ × ℕ)) (does : DoesOrder mid who before.clock s t order got stamp woken made) where
    does-it : Does who before.clock acts.can.want s t got stamp woken
    does-it = (does acts.can.image acts.can.main acts.can.state acts.can.want (out acts.can.image acts.can.main acts.can.state acts.can.stands) acts.can.wanted (order-for acts.can.image acts.can.main acts.can.state acts.can.want acts.can.stands acts.can.wanted)).0

    pub got-whole : IsWholeGot got
    got-whole = does-it.whole

    pub got-fits : FitsProcess mid got
    got-fits alive = (acts.can.image, acts.can.main, acts.can.state, acts.can.want, out acts.can.image acts.can.main acts.can.state acts.can.stands, acts.can.wanted, does-it.fits)

    pub got-later : mid.clock < stamp
    got-later = let clock : mid.clock ≡ before.clock = ap (λ (p : ProcessState). p.clock) same in let late : stamp ≡ suc (max before.clock does-it.cell.clock) = does-it.stamped in omega (arith, clock, late)

    pub makes-action : (after : ProcessState) → after ≡ record mid { machine = after.machine; clock = stamp; diary = after.diary; ordered = None } → SettlesOrder mid after got stamp → Acts who before after s t stamp woken made
    makes-action after settled_same settles = record {
      got = got;
      same = settled_same ∙ ap (λ (p : ProcessState). record p { machine = after.machine; clock = stamp; diary = after.diary; ordered = None }) same;
      does = λ image main x w stands wanted. does image main x w (out image main x stands) wanted (order-for image main x w stands wanted);
      settles = λ image main x w stands wanted.
          let done = (does image main x w (out image main x stands) wanted (order-for image main x w stands wanted)).0 in
          subst (λ p. IsSettled image main p after x got w stamp → IsSettled image main before after x got w stamp) (sym same)
          (λ k. record { action = k.action; tells = k.tells; entry = k.entry; takes = k.takes; aside = k.aside })
          (settles image main x w (out image main x stands) wanted done.fits);
    }
