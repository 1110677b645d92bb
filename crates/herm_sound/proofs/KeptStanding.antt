-- Behind a change each inport, outport and callmessage at a place with a type stands at one of its own.
use Rattle.std.proofs.Common.{◌≡◌, ◌⊎◌, inl, inr, ℕ, zero, suc, List, [], ◌∷◌, ◌++◌, length, Option, Some, None, slice_get, refl, sym, ap, subst, ◌∙◌, arith}
use Rattle.herm_model.specs.Lists.{IsIn, list_of}
use Rattle.herm_model.specs.Values.{Name, Kind, a_callmessage, an_inport, an_outport, Cell}
use Rattle.herm_model.proofs.Options.{some-injective, none-not_some}
use Rattle.herm_journal.specs.Actions.{gone, to_put, to_answer, make_port, make_process, put}
use Rattle.herm_journal.specs.Ports.{Port, left_in}
use Rattle.herm_journal.specs.Messages.{CellReply, CellWant, CellAction, cells_in, message_of_port, types_of_reply, IsReplyTo}
use Rattle.herm_system.specs.Machines.{OpenCall, Machine}
use Rattle.herm_system.specs.Systems.{System, numbered_from_one}
use Rattle.herm_system.specs.Kinds.{kinds_by, typed_of, typed_list, typed_cells, replies_of}
use Rattle.herm_system.specs.Sound.{IsSoundWith}
use Rattle.herm_runs.proofs.Stands.{IsNew}
use Rattle.herm_sound.specs.Standing.{at_type, StandsAt, AllStand, OutportsStand, typed_places, typed_made, typed_going}
use Rattle.herm_sound.specs.SoundMachines.{CallMoves, KeepsSound}
use Rattle.herm_sound.proofs.MadeSystems.{made_port}
use Rattle.herm_sound.proofs.Changes.{IsChange, made_type, new_types, WentTo, AnsweredTo}
use Rattle.herm_sound.proofs.TypedCells.{AllPlaced, all-placed, placed-all, in-places, in-list_of, in-some}
use Rattle.herm_sound.proofs.OpenCalls.{type_of_call, of-call, of-none}
use Rattle.herm_sound.proofs.KeptCalls.{no-replies, WasOpen, calls-before}

-- what is found in a list stays there in a longer one
pub got-more : {X : Type 0} (xs ys : List X) (n : ℕ) (x : X) → slice_get xs n ≡ Some x → slice_get (xs ++ ys) n ≡ Some x
got-more [] ys n x e = none-not_some e
got-more (z ∷ xs) ys zero x e = e
got-more (z ∷ xs) ys (suc n) x e = got-more xs ys n x e

pub got-either : {X : Type 0} (xs ys : List X) (n : ℕ) (x : X) → slice_get (xs ++ ys) n ≡ Some x → (slice_get xs n ≡ Some x) ⊎ IsIn x ys
got-either [] ys n x e = inr (got ys n x e)
  where
    got : {X : Type 0} (ys : List X) (n : ℕ) (x : X) → slice_get ys n ≡ Some x → IsIn x ys
    got [] n x e = none-not_some e
    got (y ∷ ys) zero x e = inl (sym (some-injective e))
    got (y ∷ ys) (suc n) x e = inr (got ys n x e)
got-either (z ∷ xs) ys zero x e = inl e
got-either (z ∷ xs) ys (suc n) x e = got-either xs ys n x e

-- an element is there where a list of the same length has one
pub there-too : {X Y : Type 0} (xs : List X) (ys : List Y) (n : ℕ) (y : Y) → length xs ≡ length ys → slice_get ys n ≡ Some y → (x : X) × (slice_get xs n ≡ Some x)
there-too xs [] n y same e = none-not_some e
there-too [] (z ∷ ys) n y same e = let no_more : ⊥ = omega (arith, same) in absurd no_more
there-too (x ∷ xs) (z ∷ ys) zero y same e = (x, refl)
there-too (x ∷ xs) (z ∷ ys) (suc n) y same e = there-too xs ys n y (let p : length xs ≡ length ys = omega (arith, same) in p) e

-- a number, or else another
abbrev pub or_else : Option ℕ → Option ℕ → Option ℕ
or_else (Some n) o = Some n
or_else None o = o

-- whether an action placed a message, as a test
abbrev is_put : CellAction Name → Option ℕ
is_put (put k m) = Some 0
is_put a = None

module _ {P : Type 0} (machine : Machine Name P) (Is : P → Type 0) (keeps : KeepsSound machine Is) (ports : List ℕ) (s : System P) (sound : IsSoundWith machine Is ports s) where
  abbrev pub calls_of : System P → ℕ → ℕ → Option ℕ
  calls_of s q k = type_of_call machine s q k

  -- in a sound state all cells stand so
  pub all-stand : (t : ℕ) (k : Kind) → IsIn (t, k) (typed_cells machine ports s) → StandsAt machine.types ports (calls_of s) t k
  all-stand t (an_inport n) h = sound.ports.inports_stand t n h
  all-stand t (an_outport n) h = sound.ports.outports_stand t n h
  all-stand t (a_callmessage q k) h = let c = sound.calls.callmessages_stand t q k h in of-call machine s q c.0 c.1 k t c.2 c.3 c.4 c.5
  all-stand t k h = tt

  module _ (u : System P) (p : ℕ) (x y : P) (w : Option (CellWant Name)) (at : ℕ) (a : CellAction Name) (change : IsChange machine Is keeps ports s u p x y w at a) where
    -- the types of ports, and of the calls that are open before or behind
    abbrev pub more : List ℕ
    more = ports ++ new_types machine Is keeps x a

    abbrev pub calls_by : ℕ → ℕ → Option ℕ
    calls_by q k = or_else (calls_of s q k) (calls_of u q k)

    abbrev pub Stands : ℕ → Kind → Type 0
    Stands = StandsAt machine.types more calls_by

    lifted : (t : ℕ) (k : Kind) → StandsAt machine.types ports (calls_of s) t k → Stands t k
    lifted t (an_inport n) h = got-more ports (new_types machine Is keeps x a) n t h
    lifted t (an_outport n) h = (h.0, h.1, got-more ports (new_types machine Is keeps x a) n h.0 h.2)
    lifted t (a_callmessage q k) h = ap (λ o. or_else o (calls_of u q k)) h
    lifted t k h = tt

    pub placed-before : AllPlaced machine ports Stands s
    placed-before = all-placed machine ports s Stands (λ t k h. lifted t k (all-stand t k h))

    -- the type of a port that is made
    port-stands : (t n : ℕ) → made_port a ≡ Some n → made_type machine Is keeps x a ≡ Some t → slice_get more n ≡ Some t
    port-stands t n makes types = change.grows.made ports sound.ports.types t n makes types

    one-stands : (k : Kind) (o : Option ℕ) → ((t : ℕ) → o ≡ Some t → Stands t k) → AllStand machine.types more calls_by (at_type k o)
    one-stands k None h t j member = absurd member
    one-stands k (Some u) h t j (inl e) = subst (λ (x : ℕ × Kind). Stands x.0 x.1) (sym e) (h u refl)
    one-stands k (Some u) h t j (inr member) = absurd member

    own-stands : (call : OpenCall) → machine.open_call x ≡ None → machine.open_call y ≡ Some call → AllStand machine.types more calls_by (at_type (a_callmessage (machine.number y) call.number) call.call_type)
    own-stands call closed opened =
        one-stands (a_callmessage (machine.number y) call.number) call.call_type
        (λ t types. subst (λ q. calls_by q call.number ≡ Some t) (sym (change.number).1)
        (ap (λ o. or_else o (calls_of u p call.number)) (of-none machine s p x call.number change.was closed) ∙ of-call machine u p y call call.number t change.now opened refl types))

    made-stand : AllStand machine.types more calls_by (typed_made machine keeps.first_type keeps.new_type x y a)
    made-stand = by a port-stands change.calls
      where
        by : (a : CellAction Name) → ((t n : ℕ) → made_port a ≡ Some n → made_type machine Is keeps x a ≡ Some t → slice_get more n ≡ Some t) → CallMoves machine x y a
            → AllStand machine.types more calls_by (typed_made machine keeps.first_type keeps.new_type x y a)
        by (make_port (Some n)) made moves = one-stands (an_inport n) (keeps.new_type x) (λ t types. made t n refl types)
        by (make_process code (Some born)) made moves = one-stands (an_inport born.1) (keeps.first_type code) (λ t types. made t born.1 refl types)
        by (put (Some i) m) made moves = λ t k member.
            let c = in-list_of (λ (call : OpenCall). at_type (a_callmessage (machine.number y) call.number) call.call_type) (t, k) (machine.open_call y) member in
            own-stands c.0 moves c.1 t k c.2
        by a made moves = λ t k member. absurd member

    -- a reply that goes out to a call that is open
    pub answered-call : (q : ℕ) (z : P) (call : OpenCall) (r : ℕ × CellReply Name) → numbered_from_one q s.processes ≡ Some z → machine.open_call z ≡ Some call → w ≡ Some (to_answer q r.0 r.1)
        → (r.1 ≡ gone) ⊎ ((t : ℕ) × (call.call_type ≡ Some t) × (calls_by q r.0 ≡ Some t) × IsReplyTo machine.types (Some t) r.1)
    answered-call q z call r is opened wants = by (change.has (to_answer q r.0 r.1) wants).0
      where
        by : (IsIn (a_callmessage q r.0) (kinds_by machine x) × (r.1 ≡ gone)) ⊎ ((t : ℕ) × IsIn (t, a_callmessage q r.0) (typed_places machine x) × IsReplyTo machine.types (Some t) r.1)
            → (r.1 ≡ gone) ⊎ ((t : ℕ) × (call.call_type ≡ Some t) × (calls_by q r.0 ≡ Some t) × IsReplyTo machine.types (Some t) r.1)
        by (inl h) = inl h.1
        by (inr h) =
            let c = sound.calls.callmessages_stand h.0 q r.0 (in-places machine ports s p x h.0 (a_callmessage q r.0) change.was h.1) in
            let same : c.0 ≡ z = some-injective (sym c.2 ∙ is) in
            let one : c.1 ≡ call = some-injective (sym c.3 ∙ ap machine.open_call same ∙ opened) in
            inr (h.0, ap (λ (call : OpenCall). call.call_type) (sym one) ∙ c.5, lifted h.0 (a_callmessage q r.0) (of-call machine s q c.0 c.1 r.0 h.0 c.2 c.3 c.4 c.5), h.2)

    -- in a sound state the outports beside cells stand too
    module _ (beside : (q : ℕ) (z : P) → numbered_from_one q s.processes ≡ Some z → OutportsStand machine.types ports (keeps.beside z)) where
      beside-before : (q : ℕ) (z : P) → numbered_from_one q s.processes ≡ Some z → OutportsStand machine.types more (keeps.beside z)
      beside-before q z is t n member = let h = beside q z is t n member in (h.0, h.1, got-more ports (new_types machine Is keeps x a) n h.0 h.2)

      -- the process itself, and what goes out
      own : AllStand machine.types more calls_by (typed_places machine y) × OutportsStand machine.types more (keeps.beside y) × ((want : CellWant Name) → w ≡ Some want → AllStand machine.types more calls_by (typed_going machine.types more calls_by want a))
      own = change.stands more calls_by (placed-before.held p x change.was) (beside-before p x change.was) (change.comes more calls_by placed-before) made-stand

      born-stands : (q : ℕ) (z : P) → IsNew machine x a s q z → AllStand machine.types more calls_by (typed_places machine z) × OutportsStand machine.types more (keeps.beside z)
      born-stands q z new =
          (keeps.standing more calls_by).begins new.module_number (new.made).0 (new.made).1 (machine.number x, machine.serial x) z new.is
          (one-stands (an_inport (new.made).1) (keeps.first_type new.module_number)
          (λ t types. port-stands t (new.made).1 (ap made_port new.does) (ap (made_type machine Is keeps x) new.does ∙ types)))

      held-stand : (q : ℕ) (z : P) → numbered_from_one q u.processes ≡ Some z → AllStand machine.types more calls_by (typed_places machine z)
      held-stand q z is = by (change.found q z is)
        where
          by : ((p ≡ q) × (y ≡ z)) ⊎ ((numbered_from_one q s.processes ≡ Some z) ⊎ IsNew machine x a s q z) → AllStand machine.types more calls_by (typed_places machine z)
          by (inl e) = subst (λ z. AllStand machine.types more calls_by (typed_places machine z)) e.1 own.0
          by (inr (inl e)) = placed-before.held q z e
          by (inr (inr new)) = (born-stands q z new).0

      pub beside-stand : (q : ℕ) (z : P) → numbered_from_one q u.processes ≡ Some z → OutportsStand machine.types more (keeps.beside z)
      beside-stand q z is = by (change.found q z is)
        where
          by : ((p ≡ q) × (y ≡ z)) ⊎ ((numbered_from_one q s.processes ≡ Some z) ⊎ IsNew machine x a s q z) → OutportsStand machine.types more (keeps.beside z)
          by (inl e) = subst (λ z. OutportsStand machine.types more (keeps.beside z)) e.1 own.1
          by (inr (inl e)) = beside-before q z e
          by (inr (inr new)) = (born-stands q z new).1

      reply-stands : (q : ℕ) (z : P) (call : OpenCall) (r : ℕ × CellReply Name) → numbered_from_one q s.processes ≡ Some z → machine.open_call z ≡ Some call → w ≡ Some (to_answer q r.0 r.1)
          → AllStand machine.types more calls_by (typed_list machine.types (types_of_reply machine.types call.call_type r.1) (cells_in r.1))
      reply-stands q z call r is opened wants t k member = by (answered-call q z call r is opened wants)
        where
          by : (r.1 ≡ gone) ⊎ ((t : ℕ) × (call.call_type ≡ Some t) × (calls_by q r.0 ≡ Some t) × IsReplyTo machine.types (Some t) r.1) → Stands t k
          by (inl e) = absurd (subst (λ (v : CellReply Name). IsIn (t, k) (typed_list machine.types (types_of_reply machine.types call.call_type v) (cells_in v))) e member)
          by (inr h) =
              own.2 (to_answer q r.0 r.1) wants t k
              (in-some (λ t. typed_list machine.types (types_of_reply machine.types (Some t) r.1) (cells_in r.1)) (t, k) (calls_by q r.0) h.0 h.2
              (subst (λ o. IsIn (t, k) (typed_list machine.types (types_of_reply machine.types o r.1) (cells_in r.1))) h.1 member))

      waiting-stand : (q : ℕ) (z : P) (call : OpenCall) (r : ℕ × CellReply Name) → numbered_from_one q u.processes ≡ Some z → machine.open_call z ≡ Some call → IsIn r (replies_of u q)
          → AllStand machine.types more calls_by (typed_list machine.types (types_of_reply machine.types call.call_type r.1) (cells_in r.1))
      waiting-stand q z call r is opened member = by (calls-before machine Is keeps ports s sound u p x y w at a change q z call is opened) (change.answers q r member)
        where
          by : WasOpen machine Is keeps ports s sound u p x y w at a change q z call → IsIn r (replies_of s q) ⊎ AnsweredTo w a q r
              → AllStand machine.types more calls_by (typed_list machine.types (types_of_reply machine.types call.call_type r.1) (cells_in r.1))
          by (inl h) (inl before) = placed-before.waiting q h.0 call r h.1 h.2 before
          by (inl h) (inr e) = reply-stands q h.0 call r h.1 h.2 e.0
          by (inr h) (inl before) = absurd (no-replies machine Is keeps ports s sound p x change.was h.2 r (subst (λ q. IsIn r (replies_of s q)) (sym h.0) before))
          by (inr h) (inr e) = none-not_some (ap is_put (sym e.1 ∙ h.3.2))

      queued-stand : (n t v : ℕ) (q : Port (Cell Name)) (m : Cell Name) → slice_get more n ≡ Some t → message_of_port machine.types t ≡ Some v → slice_get u.ports n ≡ Some q → IsIn m (left_in q)
          → AllStand machine.types more calls_by (typed_of machine.types v m)
      queued-stand n t v q m types of there member = by (change.messages n q m there member)
        where
          by : ((o : Port (Cell Name)) × (slice_get s.ports n ≡ Some o) × IsIn m (left_in o)) ⊎ WentTo w a n m → AllStand machine.types more calls_by (typed_of machine.types v m)
          by (inl o) =
              let t0 = there-too ports s.ports n o.0 sound.ports.types o.1 in
              let same : t0.0 ≡ t = some-injective (sym (got-more ports (new_types machine Is keeps x a) n t0.0 t0.1) ∙ types) in
              placed-before.queued n t v o.0 m (t0.1 ∙ ap (λ t. Some t) same) of o.1 o.2
          by (inr e) = λ j k h.
              let going = subst (λ a. AllStand machine.types more calls_by (typed_going machine.types more calls_by (to_put n m) a)) e.1.1 (own.2 (to_put n m) e.0) in
              going j k
              (in-some (λ t. list_of (λ v. typed_of machine.types v m) (message_of_port machine.types t)) (j, k) (slice_get more n) t types
              (in-some (λ v. typed_of machine.types v m) (j, k) (message_of_port machine.types t) v of h))

      pub placed-behind : AllPlaced machine more Stands u
      placed-behind = record { held = held-stand; waiting = waiting-stand; queued = queued-stand }

      pub all-behind : (t : ℕ) (k : Kind) → IsIn (t, k) (typed_cells machine more u) → Stands t k
      all-behind = placed-all machine more u Stands placed-behind
