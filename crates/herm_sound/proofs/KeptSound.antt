-- A change of a sound state leaves a sound state, and so does each event.
use Rattle.std.proofs.Common.{◌≡◌, ◌⊎◌, inl, inr, ℕ, suc, ◌+◌, List, [], ◌∷◌, ◌++◌, length, Bool, true, false, Option, Some, None, slice_get, refl, sym, ap, subst, ◌∙◌, arith}
use Rattle.std.proofs.lemmas.Bool.{eqb-true, eqb-false}
use Rattle.std.specs.Prelude.{nat_eq, IsTrue, ◌&&◌}
use mathlib.Core.Bool.{false≢true}
use Rattle.herm_model.specs.Lists.{IsIn}
use Rattle.herm_model.specs.Values.{Name, a_callmessage, an_inport, an_outport, Cell}
use Rattle.herm_model.proofs.Lists.{not_true}
use Rattle.herm_model.proofs.Options.{some-injective, none-not_some}
use Rattle.herm_journal.proofs.Rising.{same-true}
use Rattle.herm_journal.specs.Actions.{gone, to_close, to_put, make_port, put, hear}
use Rattle.herm_journal.specs.Ports.{Port, left_in}
use Rattle.herm_journal.specs.Messages.{CellReply, CellWant, CellAction, is_inport, IsMessage, IsReplyTo}
use Rattle.herm_system.specs.Machines.{OpenCall, Machine}
use Rattle.herm_system.specs.Ledger.{HasLedger}
use Rattle.herm_system.specs.Summary.{how_many}
use Rattle.herm_system.specs.Systems.{System, Moved, steps, acts, numbered_from_one, set_process, number_of}
use Rattle.herm_system.specs.Kinds.{typed_cells, replies_of, unfinalised, has_open, is_open_port, is_inport_of, is_callmessage_of}
use Rattle.herm_system.specs.Sound.{one_if, console_type, IsNumbered, IsSoundWith, HasPorts}
use Rattle.herm_runs.specs.Counting.{IsOfWaiting}
use Rattle.herm_runs.proofs.ActionParts.{action-parts, step-parts}
use Rattle.herm_runs.proofs.Numbered.{step-numbered, numbered-once}
use Rattle.herm_runs.proofs.Stands.{IsNew}
use Rattle.herm_runs.proofs.SystemLedger.{event-balance, Balance}
use Rattle.herm_sound.specs.Standing.{OutportsStand}
use Rattle.herm_sound.specs.SoundBeside.{IsSoundBesideWith}
use Rattle.herm_sound.specs.laws.SoundLaws.{StepsKeepSound, StepsKeepTypes, CellsAreAll}
use Rattle.herm_sound.specs.SoundMachines.{CallMoves, KeepsSound}
use Rattle.herm_sound.proofs.OpenPorts.{open_at}
use Rattle.herm_sound.proofs.Changes.{IsChange, new_types, WentTo, AnsweredTo, local-change}
use Rattle.herm_sound.proofs.ActionChanges.{action-change}
use Rattle.herm_sound.proofs.TypedCells.{in-held, in-places, typed-unfinalised}
use Rattle.herm_sound.proofs.OpenCalls.{counted, only-one, CallOf, call-of, open-with}
use Rattle.herm_sound.proofs.KeptCalls.{WasOpen, no-replies, calls-before, opens-move}
use Rattle.herm_sound.proofs.KeptStanding.{got-more, got-either, there-too, calls_of, all-behind, beside-stand, or_else, more, calls_by, answered-call}

pub inports-wait : (n : ℕ) → IsOfWaiting (is_inport_of n)
inports-wait n (an_inport m) h = refl
inports-wait n k h = not_true h

pub callmessages-wait : (q i : ℕ) → IsOfWaiting (is_callmessage_of q i)
callmessages-wait q i (a_callmessage p k) h = refl
callmessages-wait q i k h = not_true h

open-if : (n : ℕ) (b : Bool) → suc n ≡ one_if b → b ≡ true
open-if n true e = refl
open-if n false e = let no_more : ⊥ = omega (arith, e) in absurd no_more

same-one : (b c : Bool) → one_if b ≡ one_if c → IsTrue b → IsTrue c
same-one b true e h = refl
same-one true false e h = let no_more : ⊥ = omega (arith, e) in absurd no_more
same-one false false e h = h

module _ {P : Type 0} (machine : Machine Name P) (Is : P → Type 0) (keeps : KeepsSound machine Is) (ports : List ℕ) (s : System P) (sound : IsSoundWith machine Is ports s) where
  module _ (u : System P) (p : ℕ) (x y : P) (w : Option (CellWant Name)) (at : ℕ) (a : CellAction Name) (change : IsChange machine Is keeps ports s u p x y w at a) where
    abbrev ports_behind : List ℕ
    ports_behind = more machine Is keeps ports s sound u p x y w at a change

    abbrev calls_known : ℕ → ℕ → Option ℕ
    calls_known = calls_by machine Is keeps ports s sound u p x y w at a change

    processes-kept : (q : ℕ) (z : P) → numbered_from_one q u.processes ≡ Some z → Is z
    processes-kept q z is = by (change.found q z is)
      where
        by : ((p ≡ q) × (y ≡ z)) ⊎ ((numbered_from_one q s.processes ≡ Some z) ⊎ IsNew machine x a s q z) → Is z
        by (inl e) = subst Is e.1 change.is
        by (inr (inl e)) = sound.processes q z e
        by (inr (inr new)) = (keeps.processes.begins new.module_number (new.made).0 (new.made).1 (machine.number x, machine.serial x) z new.is).0

    messages-kept : (n t : ℕ) (q : Port (Cell Name)) (m : Cell Name) → slice_get ports_behind n ≡ Some t → slice_get u.ports n ≡ Some q → IsIn m (left_in q) → IsMessage machine.types t m
    messages-kept n t q m types there member = by (change.messages n q m there member)
      where
        same-type : (t0 : ℕ) → slice_get ports n ≡ Some t0 → t0 ≡ t
        same-type t0 e = some-injective (sym (got-more ports (new_types machine Is keeps x a) n t0 e) ∙ types)

        by : ((o : Port (Cell Name)) × (slice_get s.ports n ≡ Some o) × IsIn m (left_in o)) ⊎ WentTo w a n m → IsMessage machine.types t m
        by (inl o) =
            let t0 = there-too ports s.ports n o.0 sound.ports.types o.1 in
            sound.messages n t o.0 m (t0.1 ∙ ap (λ t. Some t) (same-type t0.0 t0.1)) o.1 o.2
        by (inr e) =
            let has = (change.has (to_put n m) e.0).0 in
            let leads = sound.ports.outports_stand has.0 n (in-places machine ports s p x has.0 (an_outport n) change.was has.2) in
            let same : has.1 ≡ t = some-injective (sym has.3 ∙ leads.1) ∙ same-type leads.0 leads.2 in
            subst (λ t. IsMessage machine.types t m) same has.4

    replies-kept : (q : ℕ) (z : P) (call : OpenCall) (r : ℕ × CellReply Name) → numbered_from_one q u.processes ≡ Some z → machine.open_call z ≡ Some call → IsIn r (replies_of u q) → IsReplyTo machine.types call.call_type r.1
    replies-kept q z call r is opened member = by (calls-before machine Is keeps ports s sound u p x y w at a change q z call is opened) (change.answers q r member)
      where
        going : (z' : P) → numbered_from_one q s.processes ≡ Some z' → machine.open_call z' ≡ Some call
            → (r.1 ≡ gone) ⊎ ((t : ℕ) × (call.call_type ≡ Some t) × (calls_known q r.0 ≡ Some t) × IsReplyTo machine.types (Some t) r.1) → IsReplyTo machine.types call.call_type r.1
        going z' is opened (inl e) = subst (IsReplyTo machine.types call.call_type) (sym e) tt
        going z' is opened (inr h) = subst (λ o. IsReplyTo machine.types o r.1) (sym h.1) h.3

        by : WasOpen machine Is keeps ports s sound u p x y w at a change q z call → IsIn r (replies_of s q) ⊎ AnsweredTo w a q r → IsReplyTo machine.types call.call_type r.1
        by (inl h) (inl before) = sound.replies q h.0 call r h.1 h.2 before
        by (inl h) (inr e) = going h.0 h.1 h.2 (answered-call machine Is keeps ports s sound u p x y w at a change q h.0 call r h.1 h.2 e.0)
        by (inr h) (inl before) = absurd (no-replies machine Is keeps ports s sound p x change.was h.2 r (subst (λ q. IsIn r (replies_of s q)) (sym h.0) before))
        by (inr h) (inr e) = none-not_some (ap is_put (sym e.1 ∙ h.3.2))
          where
            is_put : CellAction Name → Option ℕ
            is_put (put k m) = Some 0
            is_put a = None

    -- a port that is to be closed is open
    pub to-close-open : (n : ℕ) → w ≡ Some (to_close n) → open_at s.ports n ≡ true
    to-close-open n e =
        let there = in-held machine ports s (an_inport n) p x change.was (change.has (to_close n) e).0 in
        let some = counted (is_inport_of n) (an_inport n) (unfinalised machine s) there (same-true n) in
        open-if some.0 (is_open_port s n) (sym some.1 ∙ sound.ports.inports n)

    pub answers-kept : (q k : ℕ) → how_many (is_callmessage_of q k) (unfinalised machine u) + how_many (λ (r : ℕ × CellReply Name). nat_eq r.0 k) (replies_of u q) ≡ one_if (has_open machine u q k)
    answers-kept q k =
        omega (
          arith,
          change.counts (is_callmessage_of q k) (callmessages-wait q k),
          change.replies q k,
          sound.calls.answers q k,
          opens-move machine Is keeps ports s sound u p x y w at a change q k,
        )

    module _ (beside : (q : ℕ) (z : P) → numbered_from_one q s.processes ≡ Some z → OutportsStand machine.types ports (keeps.beside z)) where
      ports-kept : HasPorts machine ports_behind u
      ports-kept = record {
        types = joined-length ports (new_types machine Is keeps x a) ∙ ap (λ n. n + length (new_types machine Is keeps x a)) sound.ports.types ∙ sym change.grows.lengths;
        inport_types = λ n t e. by t (got-either ports (new_types machine Is keeps x a) n t e) (λ e. sound.ports.inport_types n t e);
        console = got-more ports (new_types machine Is keeps x a) 0 console_type sound.ports.console;
        inports = λ n. omega (arith, change.counts (is_inport_of n) (inports-wait n), change.opens to-close-open n, sound.ports.inports n);
        inports_stand = λ t n h. all-behind machine Is keeps ports s sound u p x y w at a change beside t (an_inport n) h;
        outports_stand = λ t n h. all-behind machine Is keeps ports s sound u p x y w at a change beside t (an_outport n) h;
      }
        where
          joined-length : (xs ys : List ℕ) → length (xs ++ ys) ≡ length xs + length ys
          joined-length [] ys = omega arith
          joined-length (x ∷ xs) ys = omega (arith, joined-length xs ys)

          by : {A : Type 0} (t : ℕ) → A ⊎ IsIn t (new_types machine Is keeps x a) → (A → IsTrue (is_inport (slice_get machine.types t))) → IsTrue (is_inport (slice_get machine.types t))
          by t (inl e) before = before e
          by t (inr h) before = change.grows.inports t h

      abbrev CallThere : ℕ → ℕ → ℕ → Type 0
      CallThere t q k = (z : P) × (call : OpenCall) × (numbered_from_one q u.processes ≡ Some z) × (machine.open_call z ≡ Some call) × (call.number ≡ k) × (call.call_type ≡ Some t)

      -- a callmessage behind is of a call that is open there
      callmessages-kept : (t q k : ℕ) → IsIn (t, a_callmessage q k) (typed_cells machine ports_behind u) → CallThere t q k
      callmessages-kept t q k member =
          by (calls_of machine Is keeps ports s sound s q k) refl (all-behind machine Is keeps ports s sound u p x y w at a change beside t (a_callmessage q k) member)
        where
          opened : has_open machine u q k ≡ true
          opened =
              let there = typed-unfinalised machine ports_behind u t (a_callmessage q k) member in
              let some = counted (is_callmessage_of q k) (a_callmessage q k) (unfinalised machine u) there (ap (λ b. b && nat_eq k k) (same-true q) ∙ same-true k) in
              let r = how_many (λ (r : ℕ × CellReply Name). nat_eq r.0 k) (replies_of u q) in
              let all : r + how_many (is_callmessage_of q k) (unfinalised machine u) ≡ one_if (has_open machine u q k) = omega (arith, answers-kept q k) in
              only-one r some.0 (how_many (is_callmessage_of q k) (unfinalised machine u)) (has_open machine u q k) some.1 all

          own : (a : CellAction Name) → CallMoves machine x y a → (call : OpenCall) → p ≡ q → machine.open_call x ≡ Some call → machine.open_call y ≡ Some call
          own (put (Some i) m) moves call e was = none-not_some (sym moves ∙ was)
          own (hear i r) moves call e was =
              let shut : has_open machine u q k ≡ false = open-with machine u q y None k (subst (λ q. numbered_from_one q u.processes ≡ Some y) e change.now) moves in
              absurd (false≢true (sym shut ∙ opened))
          own a moves call e was = moves ∙ was

          before : CallOf machine s q k t → (b : Bool) → nat_eq p q ≡ b → CallThere t q k
          before c true e =
              let same = eqb-true p q e in
              let mine : c.caller ≡ x = some-injective (sym c.is ∙ sym (ap (λ q. numbered_from_one q s.processes) same) ∙ change.was) in
              (y, c.call, subst (λ q. numbered_from_one q u.processes ≡ Some y) same change.now, own a change.calls c.call same (ap machine.open_call (sym mine) ∙ c.opened), c.number, c.type)
          before c false e = (c.caller, c.call, change.stays q c.caller (eqb-false p q e) c.is, c.opened, c.number, c.type)

          by : (o : Option ℕ) → calls_of machine Is keeps ports s sound s q k ≡ o → calls_known q k ≡ Some t → CallThere t q k
          by (Some t0) e h =
              let same : t0 ≡ t = some-injective (ap (λ o. or_else o (calls_of machine Is keeps ports s sound u q k)) (sym e) ∙ h) in
              before (call-of machine s q k t (e ∙ ap (λ t. Some t) same)) (nat_eq p q) refl
          by None e h =
              let c = call-of machine u q k t (ap (λ o. or_else o (calls_of machine Is keeps ports s sound u q k)) (sym e) ∙ h) in
              (c.caller, c.call, c.is, c.opened, c.number, c.type)

      pub change-sound : HasLedger machine u → IsNumbered machine u → IsSoundBesideWith machine Is keeps.beside ports_behind u
      change-sound ledger numbers = record {
        sound = record {
          processes = processes-kept;
          messages = messages-kept;
          replies = replies-kept;
          ledger = ledger;
          once = numbered-once machine u numbers;
          ports = ports-kept;
          calls = record { answers = answers-kept; callmessages_stand = callmessages-kept };
          numbers = numbers;
        };
        stands = beside-stand machine Is keeps ports s sound u p x y w at a change beside;
      }

-- each event keeps a sound state, with the types of its ports
pub steps-keep-types : {P : Type 0} (machine : Machine Name P) (Is : P → Type 0) → (keeps : KeepsSound machine Is) → StepsKeepTypes machine Is keeps.beside
steps-keep-types {P} machine Is keeps (steps p) s m e types sound =
    let parts = step-parts machine p s m e in
    let change = local-change machine Is keeps types s sound.sound p parts.state parts.left.0 parts.is parts.left.1 in
    let u = set_process p parts.left.0 s in
    let same : record { system = u; done = None } ≡ m = parts.moved in
    subst (λ (m : Moved P). (new : List ℕ) × IsSoundBesideWith machine Is keeps.beside (types ++ new) m.system) same (
      _,
      change-sound machine Is keeps types s sound.sound u p parts.state parts.left.0 None 0 (make_port None) change sound.stands
          (λ w. subst (λ (m : Moved P). Balance machine w m.system) (sym same) (event-balance machine keeps.ledger w (steps p) s m e (sound.sound.ledger w)))
          (subst (λ (m : Moved P). IsNumbered machine m.system) (sym same) (step-numbered machine keeps.numbers (steps p) s m e sound.sound.numbers)),
    )
steps-keep-types {P} machine Is keeps (acts p place) s m e types sound =
    let parts = action-parts machine p place s m e in
    let change = action-change machine Is keeps types s sound.sound p place m parts in
    let u = parts.makes.0 in
    let same : record { system = u; done = Some parts.did.0 } ≡ m = parts.moved in
    subst (λ (m : Moved P). (new : List ℕ) × IsSoundBesideWith machine Is keeps.beside (types ++ new) m.system) same (
      _,
      change-sound machine Is keeps types s sound.sound u p parts.state parts.left.0 (Some parts.want.0) (number_of place) parts.did.0 change sound.stands
          (λ w. subst (λ (m : Moved P). Balance machine w m.system) (sym same) (event-balance machine keeps.ledger w (acts p place) s m e (sound.sound.ledger w)))
          (subst (λ (m : Moved P). IsNumbered machine m.system) (sym same) (step-numbered machine keeps.numbers (acts p place) s m e sound.sound.numbers)),
    )

pub steps-keep-sound : {P : Type 0} (machine : Machine Name P) (Is : P → Type 0) → (keeps : KeepsSound machine Is) → StepsKeepSound machine Is keeps.beside
steps-keep-sound machine Is keeps e s m is sound =
    let kept = steps-keep-types machine Is keeps e s m is sound.0 sound.1 in (sound.0 ++ kept.0, kept.1)

-- where processes have no values but their cells nothing is asked of others
pub cells-are-all : {P : Type 0} (machine : Machine Name P) (Is : P → Type 0) → CellsAreAll machine Is
cells-are-all machine Is types s = ((λ sound. record { sound = sound; stands = λ p x is t n h. absurd h }), (λ both. both.sound))
