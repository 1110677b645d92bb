-- From which ports a message is wanted, by what is told.
use Rattle.std.proofs.Common.{◌≡◌, ℕ, suc, List, [], ◌∷◌, length, Some, refl, sym, ap, subst, ◌∙◌}
use Rattle.std.specs.Prelude.{⊤}
use Rattle.herm_model.proofs.Options.{none-not_some, some-injective}
use Rattle.herm_journal.specs.Actions.{to_take}
use Rattle.herm_journal.specs.Messages.{CellWant}
use Rattle.herm_instructions.specs.Images.{Image}
use Rattle.herm_code_machine.specs.CodeStates.{CodeState}
use Rattle.herm_system.specs.Machines.{Standing, ended, out_of_steps, out_of_actions, local, acting}
use Rattle.herm_exchanges.specs.Told.{Told, a_take, told, want_view}
use Rattle.herm_exchanges.specs.declared.wants.PortList.{PortList}
use Rattle.herm_exchanges.specs.declared.wants.Want.{Want}
use Rattle.herm_exchanges.specs.declared.wants.Want.TheVariants as wants
use Rattle.herm_machine.specs.Machines.{nameless}
use Rattle.herm_process.specs.Nexts.{IsNext}
use Rattle.herm_process.specs.Processes.{ProcessState, IsProcess}
use Rattle.herm_process.specs.declared.next.Next.{Next}
use Rattle.herm_process.specs.declared.next.Next.TheVariants as nexts
use Rattle.herm_process.specs.declared.next.Spent.TheVariants as spent
use Rattle.herm_world.specs.Looks.{IsToldWant}
use Rattle.herm_world.specs.Orders.{IsTaking}

abbrev want_take : List ℕ → CellWant ⊤
want_take ports = to_take ports

pub take-view : (ports : List ℕ) (t : Told) → told (want_take ports) ≡ Some t → (first count : ℕ) × (t ≡ a_take first count)
take-view [] t e = none-not_some e
take-view (n ∷ ports) t e = (n, suc (length ports), sym (some-injective e))

abbrev pub IsNextFor : ProcessState → Next → Type 0
IsNextFor p next = (image : Image) (main : ℕ) (x : CodeState ⊤) → IsProcess image main p x → IsNext (nameless image main) p.limit x next

abbrev is_acting_number : Standing → ℕ
is_acting_number acting = 1
is_acting_number ended = 0
is_acting_number out_of_steps = 0
is_acting_number out_of_actions = 0
is_acting_number local = 0
is_acting_number Rattle.herm_system.specs.Machines.waiting = 0

apart : {A : Type 0} (s : Standing) → s ≡ acting → is_acting_number s ≡ 0 → A
apart s e none = absurd (omega (Rattle.std.proofs.Common.arith, ap is_acting_number e, none))

abbrev IsStill : Next → Type 0
IsStill nexts.Local = ⊤
IsStill (nexts.Act want) = ⊥
IsStill (nexts.Ended end) = ⊤
IsStill (nexts.Stopped s) = ⊤

-- who wants messages acts
pub taking-acts : {A : Type 0} (p : ProcessState) (next : Next) → IsTaking p → IsNextFor p next → IsStill next → A
taking-acts p nexts.Local t is still = let h = is t.0 t.1 t.2 t.4 in apart _ (sym h ∙ t.5) refl
taking-acts p (nexts.Act want) t is still = absurd still
taking-acts p (nexts.Ended end) t is still = let h = is t.0 t.1 t.2 t.4 in apart _ (sym h.0 ∙ t.5) refl
taking-acts p (nexts.Stopped (spent.Steps n)) t is still = let h = is t.0 t.1 t.2 t.4 in apart _ (sym h.0 ∙ t.5) refl
taking-acts p (nexts.Stopped (spent.Actions n)) t is still = let h = is t.0 t.1 t.2 t.4 in apart _ (sym h.0 ∙ t.5) refl

pub taken-ports : (p : ProcessState) (want : Want) (ports : PortList) → IsTaking p → IsNextFor p (nexts.Act want) → ((first count : ℕ) → want_view want ≡ a_take first count → want ≡ wants.Take ports)
    → (image : Image) (main : ℕ) (x : CodeState ⊤) → IsProcess image main p x → IsToldWant (wants.Take ports) ((nameless image main).wanted x)
taken-ports p want ports t is takes image main x stands =
    let h = is t.0 t.1 t.2 t.4 in
    let v = take-view t.3 (want_view want) (ap told (some-injective (sym t.6 ∙ h.2)) ∙ h.3) in
    let k = is image main x stands in
    subst (λ want. IsToldWant want ((nameless image main).wanted x)) (takes v.0 v.1 v.2) (k.1, k.2, k.3)
