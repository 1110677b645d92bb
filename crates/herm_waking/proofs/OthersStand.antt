-- All whom an event may not wake stand as before.
use Rattle.std.proofs.Common.{◌≡◌, ◌⊎◌, inl, inr, ℕ, zero, suc, List, [], ◌∷◌, map, length, Bool, true, false, ◌||◌, Option, Some, None, is_some, option_map, option_and_then, slice_get, refl, sym, ap, subst, ◌∙◌, true≢false}
use Rattle.std.specs.Prelude.{nat_lt, ◌&&◌}
use Rattle.herm_model.specs.Lists.{IsIn, any_pass, list_of}
use Rattle.herm_model.specs.Values.{Name, an_inport, Cell}
use Rattle.herm_model.proofs.Options.{some-injective, none-not_some, map-some}
use Rattle.herm_model.proofs.Lists.{in-map_from}
use Rattle.herm_journal.specs.Actions.{new_port, new_process, to_put, to_take, to_close, to_answer, to_hear, make_port, make_process}
use Rattle.herm_journal.specs.Ports.{Port, empty_port}
use Rattle.herm_journal.specs.PlaceStates.{a_port, replies, after}
use Rattle.herm_journal.specs.Entries.{Place, port, reply_cell, book, same_place}
use Rattle.herm_journal.specs.Messages.{CellWant, CellAction}
use Rattle.herm_system.specs.Machines.{Machine, inport_of}
use Rattle.herm_system.specs.Sound.{IsSoundWith}
use Rattle.herm_system.specs.Kinds.{is_open_port, kinds_by}
use Rattle.herm_system.specs.Systems.{System, Moved, numbered_from_one, done_at, done_in, holding_at, set_holding, set_process, with_made, can, can_be_done, seen_as, standing, standing_of, places_for}
use Rattle.herm_runs.proofs.ActionParts.{ActionParts}
use Rattle.herm_runs.proofs.Histories.{place-same, held-elsewhere, held-with_process}
use Rattle.herm_runs.proofs.Numbered.{more-found_from_one, set-found_from_one, set-length_from_one, process-counts}
use Rattle.herm_runs.proofs.RoundsEnd.{made-book}
use Rattle.herm_runs.proofs.Stands.{place-limits}
use Rattle.herm_runs.proofs.SystemLedger.{processes-stay}
use Rattle.herm_sound.specs.SoundMachines.{HasFor, KeepsSound}
use Rattle.herm_sound.proofs.Acted.{Holding, port_of, IsAct, port_made, port_refused, process_made, process_refused, placed, came_back, taken, closed, answered, heard, acted}
use Rattle.herm_sound.proofs.Places.{port-there, book-there}
use Rattle.herm_sound.proofs.ReplyCells.{other-from_one}
use Rattle.herm_sound.proofs.KeptStanding.{got-more, there-too}
use Rattle.herm_sound.proofs.MadeSystems.{made-stays}
use Rattle.herm_sound.proofs.Waiting.{wants-wait}
use Rattle.herm_waking.specs.laws.WakingLaws.{MayWake}
use Rattle.herm_waking.proofs.HeldKinds.{held-kinds}
use Rattle.herm_waking.proofs.OneOwner.{one-owner, inport-open}

-- a process that is there before and behind is the same, and the same can be done of what it wants
pub record StandsSo {P : Type 0} (machine : Machine Name P) (s t : System P) (q : ℕ) : Type 0 where
  pub same : numbered_from_one q t.processes ≡ numbered_from_one q s.processes
  pub able : (x : P) → numbered_from_one q s.processes ≡ Some x → can_be_done (can t q) (machine.wanted x) ≡ can_be_done (can s q) (machine.wanted x)

-- so it stands as before, where the limits are the same
pub stands-so : {P : Type 0} (machine : Machine Name P) (s t : System P) (q : ℕ) → t.book.limits ≡ s.book.limits → StandsSo machine s t q → standing_of machine t q ≡ standing_of machine s q
stands-so machine s t q limits so = by (numbered_from_one q s.processes) refl
  where
    by : (o : Option _) → numbered_from_one q s.processes ≡ o → standing_of machine t q ≡ standing_of machine s q
    by None is = ap (option_map (standing machine t.book.limits.steps (can t q))) (so.same ∙ is) ∙ sym (ap (option_map (standing machine s.book.limits.steps (can s q))) is)
    by (Some x) is =
        ap (option_map (standing machine t.book.limits.steps (can t q))) (so.same ∙ is)
        ∙ ap (λ (b : Bool). Some (seen_as (machine.ready t.book.limits.steps x) b)) (so.able x is)
        ∙ ap (λ (l : Rattle.herm_journal.specs.NextNumbers.Limits). Some (seen_as (machine.ready l.steps x) (can_be_done (can s q) (machine.wanted x)))) limits
        ∙ sym (ap (option_map (standing machine s.book.limits.steps (can s q))) is)

-- two tests that agree on the elements of a list
pub any-same : {X : Type 0} (f g : X → Bool) (xs : List X) → ((x : X) → IsIn x xs → f x ≡ g x) → any_pass f xs ≡ any_pass g xs
any-same f g [] all = refl
any-same f g (x ∷ xs) all = ap (λ b. b || any_pass f xs) (all x (inl refl)) ∙ ap (λ b. g x || b) (any-same f g xs (λ y h. all y (inr h)))

-- what is at a place stays there when something is made
pub made-holding : {P : Type 0} (machine : Machine Name P) (maker : P) (a : CellAction Name) (u t : System P) (place : Place) (h : Holding) → with_made machine maker a u ≡ Some t → holding_at place u ≡ Some h → holding_at place t ≡ Some h
made-holding machine maker (make_port (Some i)) u t (port n) h e at =
    let k = map-some a_port (slice_get u.ports n) h at in
    sym (ap (λ (x : System _). holding_at (port n) x) (some-injective e)) ∙ ap (option_map a_port) (got-more u.ports (empty_port ∷ []) n k.0 k.1) ∙ ap (λ h. Some h) k.2
made-holding machine maker (make_port (Some i)) u t (reply_cell c) h e at = sym (ap (λ (x : System _). holding_at (reply_cell c) x) (some-injective e)) ∙ at
made-holding machine maker (make_port (Some i)) u t book h e at = sym (ap (λ (x : System _). holding_at book x) (some-injective e)) ∙ at
made-holding machine maker (make_process code (Some made)) u t (port n) h e at =
    let m = map-some _ (machine.begin code made.0 (inport_of machine made.1 maker)) t e in
    let k = map-some a_port (slice_get u.ports n) h at in
    sym (ap (λ (x : System _). holding_at (port n) x) m.2) ∙ ap (option_map a_port) (got-more u.ports (empty_port ∷ []) n k.0 k.1) ∙ ap (λ h. Some h) k.2
made-holding machine maker (make_process code (Some made)) u t (reply_cell zero) h e at = none-not_some at
made-holding machine maker (make_process code (Some made)) u t (reply_cell (suc i)) h e at =
    let m = map-some _ (machine.begin code made.0 (inport_of machine made.1 maker)) t e in
    let k = map-some replies (slice_get u.replies i) h at in
    sym (ap (λ (x : System _). holding_at (reply_cell (suc i)) x) m.2) ∙ ap (option_map replies) (got-more u.replies ([] ∷ []) i k.0 k.1) ∙ ap (λ h. Some h) k.2
made-holding machine maker (make_process code (Some made)) u t book h e at =
    let m = map-some _ (machine.begin code made.0 (inport_of machine made.1 maker)) t e in sym (ap (λ (x : System _). holding_at book x) m.2) ∙ at
made-holding machine maker a u t place h e at = sym (ap (λ (x : System _). holding_at place x) (some-injective e)) ∙ at

last-or-there : {P : Type 0} (code : ℕ) (made : ℕ × ℕ) (a : CellAction Name) → a ≡ make_process code (Some made) → (u : System P) (q : ℕ) (y z : P) → ((q ≡ suc (length u.processes)) × (y ≡ z)) ⊎ (numbered_from_one q u.processes ≡ Some z)
    → (numbered_from_one q u.processes ≡ Some z) ⊎ ((code : ℕ) × (made : ℕ × ℕ) × (a ≡ make_process code (Some made)) × (q ≡ suc (length u.processes)))
last-or-there code made a is u q y z (inl e) = inr (code, made, is, e.0)
last-or-there code made a is u q y z (inr e) = inl e

-- a process that is behind was there before, or was made and has the last number
pub made-last : {P : Type 0} (machine : Machine Name P) (maker : P) (a : CellAction Name) (u t : System P) (q : ℕ) (z : P) → with_made machine maker a u ≡ Some t → numbered_from_one q t.processes ≡ Some z
    → (numbered_from_one q u.processes ≡ Some z) ⊎ ((code : ℕ) × (made : ℕ × ℕ) × (a ≡ make_process code (Some made)) × (q ≡ suc (length u.processes)))
made-last machine maker (make_process code (Some made)) u t q z e found =
    let m = map-some _ (machine.begin code made.0 (inport_of machine made.1 maker)) t e in
    last-or-there code made (make_process code (Some made)) refl u q m.0 z (more-found_from_one u.processes q m.0 z (ap (λ (x : System _). numbered_from_one q x.processes) m.2 ∙ found))
made-last machine maker (make_port (Some n)) u t q z e found = inl (ap (λ (x : System _). numbered_from_one q x.processes) (some-injective e) ∙ found)
made-last machine maker a u t q z e found = inl (ap (λ (x : System _). numbered_from_one q x.processes) (some-injective e) ∙ found)

-- a local step changes nothing for others
pub local-others : {P : Type 0} (machine : Machine Name P) (s : System P) (p : ℕ) (y : P) (q : ℕ) → (p ≡ q → ⊥) → StandsSo machine s (set_process p y s) q
local-others machine s p y q apart = record {
  same = other-from_one s.processes p q y apart;
  able = λ x is. by (machine.wanted x);
}
  where
    by : (o : Option (CellWant Name)) → can_be_done (can (set_process p y s) q) o ≡ can_be_done (can s q) o
    by None = refl
    by (Some w) = any-same _ _ (places_for q w) (λ place member. ap (λ o. is_some (option_and_then (done_at w) o)) (held-with_process place p y s))

abbrev port_number : Place → Option ℕ
port_number (port n) = Some n
port_number place = None

abbrev cell_number : Place → Option ℕ
cell_number (reply_cell q) = Some q
cell_number place = None

abbrev made_of : CellAction Name → Option (ℕ × ℕ)
made_of (make_process code made) = made
made_of a = None

-- two tests that are not false are equal
both-true : (b c : Bool) → (b ≡ false → ⊥) → (c ≡ false → ⊥) → b ≡ c
both-true true true f g = refl
both-true false c f g = absurd (f refl)
both-true true false f g = absurd (g refl)

pub open-there : {P : Type 0} (s : System P) (n : ℕ) → is_open_port s n ≡ true → (o : Port (Cell Name)) × (slice_get s.ports n ≡ Some o) × (o.is_open ≡ true)
open-there s n e = by (slice_get s.ports n) refl
  where
    first : (b : Bool) → (b || false) ≡ true → b ≡ true
    first true e = refl
    first false e = absurd (true≢false (sym e))

    by : (o : Option (Port (Cell Name))) → slice_get s.ports n ≡ o → (o : Port (Cell Name)) × (slice_get s.ports n ≡ Some o) × (o.is_open ≡ true)
    by None is = absurd (true≢false (sym e ∙ ap (λ o. any_pass (λ (p : Port (Cell Name)). p.is_open) (list_of (λ p. p ∷ []) o)) is))
    by (Some o) is = (o, is, first o.is_open (sym (ap (λ o. any_pass (λ (p : Port (Cell Name)). p.is_open) (list_of (λ p. p ∷ []) o)) is) ∙ e))

module _ {P : Type 0} (machine : Machine Name P) (Is : P → Type 0) (keeps : KeepsSound machine Is) (types : List ℕ) (s : System P) (sound : IsSoundWith machine Is types s) where
  -- what another process looks at is not the place of an action that may not wake it
  not-looked : (p : ℕ) (x : P) → numbered_from_one p s.processes ≡ Some x → (q : ℕ) (z : P) (ports : List ℕ) (n : ℕ) → numbered_from_one q s.processes ≡ Some z → machine.wanted z ≡ Some (to_take ports) → IsIn n ports → (p ≡ q → ⊥)
      → (w : CellWant Name) (place : Place) (h : Holding) (a : CellAction Name) → IsAct p w place h a → holding_at place s ≡ Some h → HasFor machine keeps.first_type keeps.new_type x w → port_number place ≡ Some n → (MayWake machine s place a q → ⊥) → ⊥
  not-looked p x was q z ports n is wants member apart w place h a (placed i m qs k) at has same wakes = wakes (z, ports, is, wants, subst (λ i. IsIn i ports) (sym (some-injective same)) member)
  not-looked p x was q z ports n is wants member apart w place h a (came_back i m qs k) at has same wakes =
      let mine = (keeps.wants z (to_take ports) (sound.processes q z is) wants) n member in
      let o = open-there s n (inport-open machine Is types s sound n q z is (held-kinds machine z mine.0 (an_inport n) mine.2)) in
      let there : slice_get s.ports n ≡ Some (port_of false qs k) = ap (slice_get s.ports) (sym (some-injective same)) ∙ port-there s i (port_of false qs k) at in
      true≢false (sym o.2 ∙ sym (ap (λ (p : Port (Cell Name)). p.is_open) (some-injective (sym there ∙ o.1))))
  not-looked p x was q z ports n is wants member apart w place h a (taken looked i among b j m qs k) at has same wakes =
      let mine = (keeps.wants z (to_take ports) (sound.processes q z is) wants) n member in
      let its = has n (subst (λ i. IsIn i looked) (some-injective same) among) in
      one-owner machine Is types s sound n p q x z was is (held-kinds machine x its.0 (an_inport n) its.2) (held-kinds machine z mine.0 (an_inport n) mine.2) apart
  not-looked p x was q z ports n is wants member apart w place h a (closed i b qs k) at has same wakes =
      let mine = (keeps.wants z (to_take ports) (sound.processes q z is) wants) n member in
      one-owner machine Is types s sound n p q x z was is (subst (λ i. IsIn (an_inport i) (kinds_by machine x)) (some-injective same) has) (held-kinds machine z mine.0 (an_inport n) mine.2) apart
  not-looked p x was q z ports n is wants member apart w place h a (port_made b i e) at has same wakes = none-not_some same
  not-looked p x was q z ports n is wants member apart w place h a (port_refused b e) at has same wakes = none-not_some same
  not-looked p x was q z ports n is wants member apart w place h a (process_made code b made e) at has same wakes = none-not_some same
  not-looked p x was q z ports n is wants member apart w place h a (process_refused code b e) at has same wakes = none-not_some same
  not-looked p x was q z ports n is wants member apart w place h a (answered caller call r rs) at has same wakes = none-not_some same
  not-looked p x was q z ports n is wants member apart w place h a (heard k r rs) at has same wakes = none-not_some same

  -- nor is its reply cell
  not-heard : (p q : ℕ) → (p ≡ q → ⊥) → (w : CellWant Name) (place : Place) (h : Holding) (a : CellAction Name) → IsAct p w place h a → cell_number place ≡ Some q → (MayWake machine s place a q → ⊥) → ⊥
  not-heard p q apart w place h a (answered caller call r rs) same wakes = wakes (sym (some-injective same))
  not-heard p q apart w place h a (heard k r rs) same wakes = apart (some-injective same)
  not-heard p q apart w place h a (placed i m qs k) same wakes = none-not_some same
  not-heard p q apart w place h a (came_back i m qs k) same wakes = none-not_some same
  not-heard p q apart w place h a (taken looked i among b j m qs k) same wakes = none-not_some same
  not-heard p q apart w place h a (closed i b qs k) same wakes = none-not_some same
  not-heard p q apart w place h a (port_made b i e) same wakes = none-not_some same
  not-heard p q apart w place h a (port_refused b e) same wakes = none-not_some same
  not-heard p q apart w place h a (process_made code b made e) same wakes = none-not_some same
  not-heard p q apart w place h a (process_refused code b e) same wakes = none-not_some same

  -- the number of the process that is made
  pub made-wakes : (p q : ℕ) (w : CellWant Name) (place : Place) (h : Holding) (a : CellAction Name) → IsAct p w place h a → holding_at place s ≡ Some h → (made : ℕ × ℕ) → made_of a ≡ Some made → q ≡ suc (length s.processes) → MayWake machine s place a q
  made-wakes p q w place h a (process_made code b next e) at made is last =
      let counts = process-counts b (nat_lt b.processes b.limits.processes && nat_lt b.ports b.limits.ports) next e in
      last ∙ ap suc (sound.numbers.book.0) ∙ ap (λ (b : Rattle.herm_journal.specs.NextNumbers.Book). suc b.processes) (book-there s b at) ∙ sym counts.0
  made-wakes p q w place h a (process_refused code b e) at made is last = none-not_some is
  made-wakes p q w place h a (answered caller call r rs) at made is last = none-not_some is
  made-wakes p q w place h a (heard k r rs) at made is last = none-not_some is
  made-wakes p q w place h a (placed i m qs k) at made is last = none-not_some is
  made-wakes p q w place h a (came_back i m qs k) at made is last = none-not_some is
  made-wakes p q w place h a (taken looked i among b j m qs k) at made is last = none-not_some is
  made-wakes p q w place h a (closed i b qs k) at made is last = none-not_some is
  made-wakes p q w place h a (port_made b i e) at made is last = none-not_some is
  made-wakes p q w place h a (port_refused b e) at made is last = none-not_some is

  module _ (p : ℕ) (place : Place) (m : Moved P) (parts : ActionParts machine p place s m) (types' : List ℕ) (sound' : IsSoundWith machine Is types' parts.makes.0) (q : ℕ) (apart : p ≡ q → ⊥) (wakes : MayWake machine s place parts.did.0 q → ⊥) where
    abbrev behind : System P
    behind = parts.makes.0

    act : IsAct p parts.want.0 place parts.at.0 parts.did.0
    act = acted p parts.want.0 place parts.at.0 parts.did.0 parts.there parts.did.1

    has : HasFor machine keeps.first_type keeps.new_type parts.state parts.want.0
    has = keeps.wants parts.state parts.want.0 (sound.processes p parts.state parts.is) parts.want.1

    elsewhere : (other : Place) (k : Holding) → same_place place other ≡ false → holding_at other s ≡ Some k → holding_at other behind ≡ Some k
    elsewhere other k differs at =
        made-holding machine parts.state parts.did.0 (set_process p parts.left.0 (set_holding place (after parts.did.0 parts.at.0) s)) behind other k parts.makes.1
        (held-with_process other p parts.left.0 (set_holding place (after parts.did.0 parts.at.0) s) ∙ held-elsewhere place other (after parts.did.0 parts.at.0) s differs ∙ at)

    stays : (z : P) → numbered_from_one q s.processes ≡ Some z → numbered_from_one q behind.processes ≡ Some z
    stays z is =
        made-stays machine parts.state parts.did.0 (set_process p parts.left.0 (set_holding place (after parts.did.0 parts.at.0) s)) behind parts.makes.1 q z
        (other-from_one (set_holding place (after parts.did.0 parts.at.0) s).processes p q parts.left.0 apart ∙ ap (numbered_from_one q) (processes-stay place (after parts.did.0 parts.at.0) s) ∙ is)

    same-port : (z : P) (ports : List ℕ) → numbered_from_one q s.processes ≡ Some z → machine.wanted z ≡ Some (to_take ports) → (n : ℕ) → IsIn n ports → is_some (done_in (to_take ports) behind (port n)) ≡ is_some (done_in (to_take ports) s (port n))
    same-port z ports is wants n member = by (same_place place (port n)) refl
      where
        mine : IsIn (an_inport n) (kinds_by machine z)
        mine = let h = (keeps.wants z (to_take ports) (sound.processes q z is) wants) n member in held-kinds machine z h.0 (an_inport n) h.2

        by : (b : Bool) → same_place place (port n) ≡ b → is_some (done_in (to_take ports) behind (port n)) ≡ is_some (done_in (to_take ports) s (port n))
        by true e = absurd (not-looked p parts.state parts.is q z ports n is wants member apart parts.want.0 place parts.at.0 parts.did.0 act parts.at.1 has (ap port_number (place-same place (port n) e)) wakes)
        by false e =
            let o = open-there s n (inport-open machine Is types s sound n q z is mine) in
            let at : holding_at (port n) s ≡ Some (a_port o.0) = ap (option_map a_port) o.1 in
            ap (λ o. is_some (option_and_then (done_at (to_take ports)) o)) (elsewhere (port n) (a_port o.0) e at ∙ sym at)

    same-cell : (z : P) → numbered_from_one q s.processes ≡ Some z → is_some (done_in to_hear behind (reply_cell q)) ≡ is_some (done_in to_hear s (reply_cell q))
    same-cell z is = by (same_place place (reply_cell q)) refl
      where
        there : (q : ℕ) → numbered_from_one q s.processes ≡ Some z → (rs : _) × (numbered_from_one q s.replies ≡ Some rs)
        there zero is = none-not_some is
        there (suc i) is = there-too s.replies s.processes i z sound.numbers.reply_cells is

        by : (b : Bool) → same_place place (reply_cell q) ≡ b → is_some (done_in to_hear behind (reply_cell q)) ≡ is_some (done_in to_hear s (reply_cell q))
        by true e = absurd (not-heard p q apart parts.want.0 place parts.at.0 parts.did.0 act (ap cell_number (place-same place (reply_cell q) e)) wakes)
        by false e =
            let rs = there q is in
            let at : holding_at (reply_cell q) s ≡ Some (replies rs.0) = ap (option_map replies) rs.1 in
            ap (λ o. is_some (option_and_then (done_at to_hear) o)) (elsewhere (reply_cell q) (replies rs.0) e at ∙ sym at)

    same-want : (z : P) → numbered_from_one q s.processes ≡ Some z → (w : CellWant Name) → machine.wanted z ≡ Some w → can behind q w ≡ can s q w
    same-want z is new_port wants = refl
    same-want z is (new_process code) wants = refl
    same-want z is (to_put n d) wants = both-true _ _ (λ e. wants-wait machine Is keeps types' behind sound' q z (stays z is) (to_put n d) wants e) (λ e. wants-wait machine Is keeps types s sound q z is (to_put n d) wants e)
    same-want z is (to_close n) wants = both-true _ _ (λ e. wants-wait machine Is keeps types' behind sound' q z (stays z is) (to_close n) wants e) (λ e. wants-wait machine Is keeps types s sound q z is (to_close n) wants e)
    same-want z is (to_answer caller call r) wants = both-true _ _ (λ e. wants-wait machine Is keeps types' behind sound' q z (stays z is) (to_answer caller call r) wants e) (λ e. wants-wait machine Is keeps types s sound q z is (to_answer caller call r) wants e)
    same-want z is (to_take ports) wants = any-same _ _ (map port ports) (λ other member. by other (in-map_from port other ports member))
      where
        by : (other : Place) → (n : ℕ) × IsIn n ports × (other ≡ port n) → is_some (done_in (to_take ports) behind other) ≡ is_some (done_in (to_take ports) s other)
        by other at = subst (λ other. is_some (done_in (to_take ports) behind other) ≡ is_some (done_in (to_take ports) s other)) (sym at.2) (same-port z ports is wants at.0 at.1)
    same-want z is to_hear wants = ap (λ b. b || false) (same-cell z is)

    pub action-others : StandsSo machine s behind q
    action-others = record {
      same = found (numbered_from_one q s.processes) refl;
      able = λ z is. of-want z is (machine.wanted z) refl;
    }
      where
        of-want : (z : P) → numbered_from_one q s.processes ≡ Some z → (o : Option (CellWant Name)) → machine.wanted z ≡ o → can_be_done (can behind q) o ≡ can_be_done (can s q) o
        of-want z is None wants = refl
        of-want z is (Some w) wants = same-want z is w wants

        before : (z : P) → numbered_from_one q s.processes ≡ None → numbered_from_one q (set_process p parts.left.0 (set_holding place (after parts.did.0 parts.at.0) s)).processes ≡ Some z → ⊥
        before z none e = by (set-found_from_one (set_holding place (after parts.did.0 parts.at.0) s).processes p q parts.left.0 z e)
          where
            by : ((p ≡ q) × (parts.left.0 ≡ z)) ⊎ (numbered_from_one q (set_holding place (after parts.did.0 parts.at.0) s).processes ≡ Some z) → ⊥
            by (inl e) = apart e.0
            by (inr e) = none-not_some (sym none ∙ sym (ap (numbered_from_one q) (processes-stay place (after parts.did.0 parts.at.0) s)) ∙ e)

        long : length (set_process p parts.left.0 (set_holding place (after parts.did.0 parts.at.0) s)).processes ≡ length s.processes
        long = set-length_from_one p parts.left.0 (set_holding place (after parts.did.0 parts.at.0) s).processes ∙ ap length (processes-stay place (after parts.did.0 parts.at.0) s)

        absent : numbered_from_one q s.processes ≡ None → (o : Option P) → numbered_from_one q behind.processes ≡ o → o ≡ None
        absent none None e = refl
        absent none (Some z) e = by (made-last machine parts.state parts.did.0 (set_process p parts.left.0 (set_holding place (after parts.did.0 parts.at.0) s)) behind q z parts.makes.1 e)
          where
            by : (numbered_from_one q (set_process p parts.left.0 (set_holding place (after parts.did.0 parts.at.0) s)).processes ≡ Some z)
                ⊎ ((code : ℕ) × (made : ℕ × ℕ) × (parts.did.0 ≡ make_process code (Some made)) × (q ≡ suc (length (set_process p parts.left.0 (set_holding place (after parts.did.0 parts.at.0) s)).processes))) → Some z ≡ None
            by (inl e) = absurd (before z none e)
            by (inr e) = absurd (wakes (made-wakes p q parts.want.0 place parts.at.0 parts.did.0 act parts.at.1 e.1 (ap made_of e.2) (e.3 ∙ ap suc long)))

        found : (o : Option P) → numbered_from_one q s.processes ≡ o → numbered_from_one q behind.processes ≡ numbered_from_one q s.processes
        found None is = absent is (numbered_from_one q behind.processes) refl ∙ sym is
        found (Some z) is = stays z is ∙ sym is

  -- and its limits stay
  pub action-limits : (p : ℕ) (place : Place) (m : Moved P) (parts : ActionParts machine p place s m) → (parts.makes.0).book.limits ≡ s.book.limits
  action-limits p place m parts =
      ap (λ (b : Rattle.herm_journal.specs.NextNumbers.Book). b.limits) (made-book machine parts.state parts.did.0 (set_process p parts.left.0 (set_holding place (after parts.did.0 parts.at.0) s)) parts.makes.0 parts.makes.1)
      ∙ place-limits place parts.at.0 parts.did.0 s parts.at.1
