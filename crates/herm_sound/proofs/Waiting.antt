-- What can be done at no place, where a state is sound, is to take a message at open ports or to hear the reply to an open call.
use Rattle.std.proofs.Common.{◌≡◌, ℕ, zero, suc, ◌+◌, List, [], ◌∷◌, true, false, Option, Some, None, is_some, slice_get, option_map, option_and_then, refl, sym, ap, ◌∙◌, arith, true≢false}
use Rattle.std.specs.Prelude.{nat_eq, ◌&&◌, ◌||◌}
use Rattle.herm_model.specs.Lists.{IsIn, list_of, any_pass}
use Rattle.herm_model.specs.Values.{Name, a_callmessage, an_inport, an_outport, Cell}
use Rattle.herm_model.proofs.Options.{none-not_some}
use Rattle.herm_journal.proofs.Rising.{same-true}
use Rattle.herm_journal.specs.Actions.{new_port, new_process, to_put, to_take, to_close, to_answer, to_hear}
use Rattle.herm_journal.specs.Ports.{Port}
use Rattle.herm_journal.specs.PlaceStates.{Replies, a_port, replies}
use Rattle.herm_journal.specs.Messages.{CellReply, CellWant}
use Rattle.herm_system.specs.Kinds.{unfinalised, is_inport_of, is_callmessage_of, has_open, is_open_port, replies_of}
use Rattle.herm_system.specs.Machines.{Machine}
use Rattle.herm_system.specs.Sound.{one_if, IsSoundWith}
use Rattle.herm_system.specs.Summary.{how_many}
use Rattle.herm_system.specs.Systems.{System, numbered_from_one, done_at, can}
use Rattle.herm_sound.specs.SoundMachines.{HasFor, KeepsSound}
use Rattle.herm_sound.specs.laws.SoundLaws.{WaitsFor}
use Rattle.herm_sound.proofs.ActOnce.{held}
use Rattle.herm_sound.proofs.KeptStanding.{there-too}
use Rattle.herm_sound.proofs.OpenCalls.{counted, only-one, open-with, open-none}
use Rattle.herm_sound.proofs.TypedCells.{in-held, in-places, typed-unfinalised}

-- of a process's own reply cell nothing can be heard where it is empty
none-heard : (o : Option (Replies (CellReply Name))) → (is_some (option_and_then (done_at {M = Cell Name} to_hear) (option_map replies o)) || false) ≡ false → (k : ℕ) → how_many (λ (r : ℕ × CellReply Name). nat_eq r.0 k) (list_of (λ rs. rs) o) ≡ 0
none-heard None e k = refl
none-heard (Some []) e k = refl
none-heard (Some (r ∷ rs)) e k = absurd (true≢false e)

module _ {P : Type 0} (machine : Machine Name P) (Is : P → Type 0) (keeps : KeepsSound machine Is) (types : List ℕ) (s : System P) (sound : IsSoundWith machine Is types s) where
  -- a port whose inport is not finalised is open, and is there
  inport-open : (n : ℕ) → IsIn (an_inport n) (unfinalised machine s) → is_open_port s n ≡ true
  inport-open n there =
      let some = counted (is_inport_of n) (an_inport n) (unfinalised machine s) there (same-true n) in
      only-one 0 some.0 (how_many (is_inport_of n) (unfinalised machine s)) (is_open_port s n) some.1 (omega (arith, sound.ports.inports n))

  open-port : (n : ℕ) → is_open_port s n ≡ true → (q : Port (Cell Name)) × (slice_get s.ports n ≡ Some q)
  open-port n e = by (slice_get s.ports n) refl
    where
      by : (o : Option (Port (Cell Name))) → slice_get s.ports n ≡ o → (q : Port (Cell Name)) × (slice_get s.ports n ≡ Some q)
      by None is = absurd (true≢false (sym e ∙ ap (λ o. any_pass (λ (p : Port (Cell Name)). p.is_open) (list_of (λ p. p ∷ []) o)) is))
      by (Some q) is = (q, is)

  -- the caller of a call whose callmessage is not finalised has a reply cell
  caller-there : (q k : ℕ) → IsIn (a_callmessage q k) (unfinalised machine s) → (rs : Replies (CellReply Name)) × (numbered_from_one q s.replies ≡ Some rs)
  caller-there q k there = by (numbered_from_one q s.processes) refl
    where
      opened : has_open machine s q k ≡ true
      opened =
          let some = counted (is_callmessage_of q k) (a_callmessage q k) (unfinalised machine s) there (ap (λ b. b && nat_eq k k) (same-true q) ∙ same-true k) in
          let waiting = how_many (λ (r : ℕ × CellReply Name). nat_eq r.0 k) (replies_of s q) in
          let all : waiting + how_many (is_callmessage_of q k) (unfinalised machine s) ≡ one_if (has_open machine s q k) = omega (arith, sound.calls.answers q k) in
          only-one waiting some.0 (how_many (is_callmessage_of q k) (unfinalised machine s)) (has_open machine s q k) some.1 all

      cell-of : (q : ℕ) (z : P) → numbered_from_one q s.processes ≡ Some z → (rs : Replies (CellReply Name)) × (numbered_from_one q s.replies ≡ Some rs)
      cell-of zero z is = none-not_some is
      cell-of (suc i) z is = there-too s.replies s.processes i z sound.numbers.reply_cells is

      by : (o : Option P) → numbered_from_one q s.processes ≡ o → (rs : Replies (CellReply Name)) × (numbered_from_one q s.replies ≡ Some rs)
      by None is = absurd (true≢false (sym opened ∙ open-none machine s q k is))
      by (Some z) is = cell-of q z is

  module _ (p : ℕ) (x : P) (is : numbered_from_one p s.processes ≡ Some x) where
    waits-for : (w : CellWant Name) → HasFor machine keeps.first_type keeps.new_type x w → can s p w ≡ false → WaitsFor machine s p x w
    waits-for new_port has cannot = true≢false cannot
    waits-for (new_process code) has cannot = true≢false cannot
    waits-for (to_put n m) has cannot =
        let leads = sound.ports.outports_stand has.0 n (in-places machine types s p x has.0 (an_outport n) is has.2) in
        let q = there-too s.ports types n leads.0 (sym sound.ports.types) leads.2 in
        true≢false (sym (ap (λ o. is_some (option_and_then (done_at {M = Cell Name} {R = CellReply Name} (to_put n m)) (option_map a_port o)) || false) q.1) ∙ cannot)
    waits-for (to_take ports) has cannot = λ n member.
        let h = has n member in
        inport-open n (typed-unfinalised machine types s h.0 (an_inport n) (in-places machine types s p x h.0 (an_inport n) is h.2))
    waits-for (to_close n) has cannot =
        let q = open-port n (inport-open n (in-held machine types s (an_inport n) p x is has)) in
        true≢false (sym (ap (λ o. is_some (option_and_then (done_at {M = Cell Name} {R = CellReply Name} (to_close n)) (option_map a_port o)) || false) q.1) ∙ cannot)
    waits-for (to_answer caller call r) has cannot =
        let rs = caller-there caller call (held machine Is keeps types s p x is caller call r has) in
        true≢false (sym (ap (λ o. is_some (option_and_then (done_at {M = Cell Name} (to_answer caller call r)) (option_map replies o)) || false) rs.1) ∙ cannot)
    waits-for to_hear has cannot =
        let k = has.0.number in
        let opened : has_open machine s p k ≡ true = open-with machine s p x (Some has.0) k is has.1 ∙ ap (λ b. b || false) (same-true k) in
        let none : how_many (λ (r : ℕ × CellReply Name). nat_eq r.0 k) (replies_of s p) ≡ 0 = none-heard (numbered_from_one p s.replies) cannot k in
        (has.0, has.1, omega (arith, sound.calls.answers p k, none, ap one_if opened))

    pub wants-wait : (w : CellWant Name) → machine.wanted x ≡ Some w → can s p w ≡ false → WaitsFor machine s p x w
    wants-wait w wants cannot = waits-for w (keeps.wants x w (sound.processes p x is) wants) cannot
