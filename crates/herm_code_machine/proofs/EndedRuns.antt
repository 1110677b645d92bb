-- Runs go on by instructions, and ends are those of their instructions.
use Rattle.std.proofs.Common.{◌≡◌, ℕ, zero, suc, List, Bool, true, false, cond, Option, Some, None, option_and_then, refl, sym, ap, subst}
use Rattle.std.specs.Prelude.{length}
use Rattle.herm_model.specs.Values.{Value}
use Rattle.herm_model.proofs.Options.{none-not_some, some-injective, chain-some, map-some}
use Rattle.herm_forms.specs.Frames.{Name, Completion, goes, stays, stuck}
use Rattle.herm_instructions.specs.Images.{instruction_at}
use Rattle.herm_instructions.specs.Instructions.{Instruction, End, EndBy}
use Rattle.herm_code_machine.specs.CodeInstance.{own_name}
use Rattle.herm_code_machine.specs.CodeSeen.{exception_of}
use Rattle.herm_code_machine.specs.CodeStates.{Position, at_index, at_end, at_end_by, CodeState, leads, stack_after, state_behind, done_instruction, begins_piece, on_by, on_from, run_on}
use Rattle.herm_code_machine.specs.Effects.{effect}
use Rattle.herm_code_machine.specs.ReadyCode.{ReadyCode}
use Rattle.herm_code_machine.specs.laws.EndLaws.{IsOnTheWay, as_it_begins, by_instruction, RunsGoOn, ExceptionsAreTold, EndsAreTold}
use Rattle.herm_code_machine.specs.laws.GoodImageLaws.{IsEnd}
use Rattle.herm_code_machine.specs.laws.PieceLaws.{IsAtPiece}
use Rattle.herm_code_machine.specs.laws.StandingLaws.{IsAtEnd}

module _ (name : Name → Name) (c : ReadyCode) (s : CodeState Name) where
  abbrev Goes : CodeState Name → Type 0
  Goes t = IsOnTheWay name c s t × IsAtPiece c t.position

  abbrev Again : ℕ → Type 0
  Again n = (u t : CodeState Name) → IsOnTheWay name c s u → run_on name c n u ≡ Some t → Goes t

  goes-cond : (n : ℕ) → Again n → (u t : CodeState Name) → IsOnTheWay name c s u → (i : ℕ) → u.position ≡ at_index i → (instruction : Instruction) → instruction_at c.code i ≡ Some instruction → (b : Bool) → begins_piece c instruction ≡ b
      → cond b (Some u) (option_and_then (run_on name c n) (done_instruction name c u i instruction)) ≡ Some t → Goes t
  goes-cond n again u t way i position instruction at true begins is = subst Goes (some-injective is) (way, subst (IsAtPiece c) (sym position) (instruction, at, begins))
  goes-cond n again u t way i position instruction at false begins is =
      let v = chain-some (run_on name c n) (done_instruction name c u i instruction) t is in
      again v.0 t (by_instruction u v.0 i instruction way position at begins v.1) v.2

  goes-by : (n : ℕ) → Again n → (u t : CodeState Name) → IsOnTheWay name c s u → (i : ℕ) → u.position ≡ at_index i → (o : Option Instruction) → instruction_at c.code i ≡ o → on_by name c (run_on name c n) u i o ≡ Some t → Goes t
  goes-by n again u t way i position None at is = none-not_some is
  goes-by n again u t way i position (Some instruction) at is = goes-cond n again u t way i position instruction at (begins_piece c instruction) refl is

  goes-from : (n : ℕ) → Again n → (u t : CodeState Name) → IsOnTheWay name c s u → (p : Position) → u.position ≡ p → on_from name c (run_on name c n) u p ≡ Some t → Goes t
  goes-from n again u t way (at_index i) position is = goes-by n again u t way i position (instruction_at c.code i) refl is
  goes-from n again u t way at_end position is = subst Goes (some-injective is) (way, subst (IsAtPiece c) (sym position) tt)
  goes-from n again u t way (at_end_by e) position is = subst Goes (some-injective is) (way, subst (IsAtPiece c) (sym position) tt)

  goes-on : (n : ℕ) → Again n
  goes-on zero u t way is = none-not_some is
  goes-on (suc n) u t way is = goes-from n (goes-on n) u t way u.position refl is

pub runs-go_on : RunsGoOn
runs-go_on name c s t is = goes-on name c s (suc (length c.code.code)) s t as_it_begins is

module _ (c : ReadyCode) where
  abbrev StandsOn : CodeState Name → Type 0
  StandsOn t = (IsAtEnd t.position → ⊥) × (exception_of t.position ≡ None)

  -- what is behind an instruction that is no end stands at an index
  behind-on : (s t : CodeState Name) (i : ℕ) (instruction : Instruction) (stack : List Value) (r : Completion Name) → state_behind c s i instruction stack r ≡ Some t → StandsOn t
  behind-on s t i instruction stack (goes o b) is =
      let m = map-some (λ j. record { module_number = s.module_number; position = at_index j; stack = stack_after o stack; frame = b }) (leads c i instruction o) t is in
      subst StandsOn m.2 ((λ h. h), refl)
  behind-on s t i instruction stack (stays b) is = subst StandsOn (some-injective is) ((λ h. h), refl)
  behind-on s t i instruction stack stuck is = none-not_some is

  goes-no_end : (s t : CodeState Name) (i : ℕ) (instruction : Instruction) → (IsEnd instruction → ⊥) → done_instruction own_name c s i instruction ≡ Some t → StandsOn t
  goes-no_end s t i End no_end is = absurd (no_end tt)
  goes-no_end s t i (EndBy e) no_end is = absurd (no_end tt)
  goes-no_end s t i instruction no_end is = let e = effect own_name c instruction s.stack s.frame in behind-on s t i instruction e.stack e.completion is

pub ends-told : EndsAreTold
ends-told image c = record {
  ends = λ s t i is. let e = ap (λ (u : CodeState Name). u.position) (sym (some-injective is)) in (e, ap exception_of e);
  ends_by = λ s t i e is. let p = ap (λ (u : CodeState Name). u.position) (sym (some-injective is)) in (p, ap exception_of p);
  finalises = λ s t i is. let e = sym (some-injective is) in (ap (λ (u : CodeState Name). u.frame) e, ap (λ (u : CodeState Name). u.stack) e);
  finalises_by = λ s t i e is. let u = sym (some-injective is) in (ap (λ (u : CodeState Name). u.frame) u, ap (λ (u : CodeState Name). u.stack) u);
  goes_on = λ s t i instruction no_end is. goes-no_end c s t i instruction no_end is;
}

pub exceptions-told : ExceptionsAreTold
exceptions-told image x e = ((λ h. by x.position h), (λ h. ap exception_of h))
  where
    by : (p : Position) → exception_of p ≡ Some e → p ≡ at_end_by e
    by (at_index i) h = none-not_some h
    by at_end h = none-not_some h
    by (at_end_by y) h = ap at_end_by (some-injective h)
