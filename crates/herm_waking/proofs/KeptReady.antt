-- What is kept right stays right.
use Rattle.std.proofs.Common.{◌≡◌, ◌⊎◌, inl, inr, ℕ, zero, suc, ◌+◌, ◌≤◌, List, [], ◌∷◌, ◌++◌, map, length, Bool, true, false, ◌||◌, Option, Some, None, is_some, option_map, option_and_then, slice_get, refl, sym, ap, subst, ◌∙◌, arith, true≢false}
use Rattle.herm_model.specs.Lists.{IsIn, any_pass, list_of}
use Rattle.herm_model.specs.Values.{Name, an_inport, Cell}
use Rattle.herm_model.proofs.Options.{some-injective, none-not_some}
use Rattle.herm_model.proofs.Lists.{in-map}
use Rattle.herm_journal.specs.Actions.{to_take, put}
use Rattle.herm_journal.specs.NextNumbers.{Limits}
use Rattle.herm_journal.specs.PlaceStates.{a_port, after}
use Rattle.herm_journal.specs.Entries.{Place, port}
use Rattle.herm_journal.specs.Messages.{CellReply, CellWant, CellAction}
use Rattle.herm_system.specs.Machines.{Machine, Standing, ended, out_of_steps, out_of_actions, waiting, local, acting, is_local, is_acting}
use Rattle.herm_system.specs.Kinds.{kinds_by}
use Rattle.herm_system.specs.ProcessFates.{fate_as, fate_of}
use Rattle.herm_system.specs.Sound.{IsSoundWith}
use Rattle.herm_system.specs.Systems.{System, Moved, steps, acts, numbered_from_one, done_at, done_in, holding_at, set_holding, set_process, with_made, can, can_be_done, seen_as, standing, standing_of, can_step, opening, main_port}
use Rattle.herm_runs.proofs.ActionParts.{ActionParts, action-parts, step-parts}
use Rattle.herm_runs.proofs.Histories.{get-other}
use Rattle.herm_runs.proofs.Numbered.{set-length, more-length, lengths-stay}
use Rattle.herm_runs.proofs.order.EntryPaths.{same-or_not}
use Rattle.herm_runs.proofs.order.Commuting.{unequal-numbers}
use Rattle.herm_runs.proofs.SystemLedger.{processes-stay}
use Rattle.herm_sound.specs.SoundMachines.{HasFor, KeepsSound, BeginsSound}
use Rattle.herm_sound.proofs.Acted.{Holding, port_of, IsAct, port_made, port_refused, process_made, process_refused, placed, came_back, taken, closed, answered, heard, acted}
use Rattle.herm_sound.proofs.Places.{port-there}
use Rattle.herm_sound.proofs.ReplyCells.{set-own, other-from_one}
use Rattle.herm_sound.proofs.KeptSound.{steps-keep-sound}
use Rattle.herm_sound.proofs.KeptStanding.{got-more}
use Rattle.herm_sound.proofs.MadeSystems.{new_ports, made-length, made-stays}
use Rattle.herm_sound.proofs.OpeningSound.{opening-is-sound}
use Rattle.herm_waking.specs.Numbers.{has, AreRising}
use Rattle.herm_waking.specs.Waking.{able, ports_of_wait, awaited, Kept, all_looked_at, waiter_at, woken_by, waiters_behind, kept_behind, IsKept}
use Rattle.herm_waking.specs.laws.WakingLaws.{LooksAt, MayWake, OneLooksAtAPort, LocalStepsWakeNobody, OthersStandAsBefore, EventsKeepReady, FirstIsKept}
use Rattle.herm_waking.proofs.HeldKinds.{held-kinds}
use Rattle.herm_waking.proofs.OneOwner.{one-owner}
use Rattle.herm_waking.proofs.OthersStand.{StandsSo, stands-so, made-holding, local-others, action-others, action-limits}
use Rattle.herm_waking.proofs.Noted.{awaits-looks, one-looks, is-in_or_not, all-length, all-rising, all-has, all-noted}
use Rattle.herm_waking.proofs.RisingNumbers.{same-members, rising-filter, has-filter}

-- a process that is there before and behind, and stands the same
record SeenSo {P : Type 0} (machine : Machine Name P) (s t : System P) (q : ℕ) : Type 0 where
  same : numbered_from_one q t.processes ≡ numbered_from_one q s.processes
  stood : (x : P) → numbered_from_one q s.processes ≡ Some x → standing machine t.book.limits.steps (can t q) x ≡ standing machine s.book.limits.steps (can s q) x

seen-so : {P : Type 0} (machine : Machine Name P) (s t : System P) (q : ℕ) → t.book.limits ≡ s.book.limits → StandsSo machine s t q → SeenSo machine s t q
seen-so machine s t q limits so = record {
  same = so.same;
  stood = λ x is. ap (λ (l : Limits). seen_as (machine.ready l.steps x) (can_be_done (can t q) (machine.wanted x))) limits ∙ ap (seen_as (machine.ready s.book.limits.steps x)) (so.able x is);
}

module _ {P : Type 0} (machine : Machine Name P) (s t : System P) (q : ℕ) (limits : t.book.limits ≡ s.book.limits) (so : SeenSo machine s t q) where
  same-standing : standing_of machine t q ≡ standing_of machine s q
  same-standing = by (numbered_from_one q s.processes) refl
    where
      by : (o : Option P) → numbered_from_one q s.processes ≡ o → standing_of machine t q ≡ standing_of machine s q
      by None is = ap (option_map (standing machine t.book.limits.steps (can t q))) (so.same ∙ is) ∙ sym (ap (option_map (standing machine s.book.limits.steps (can s q))) is)
      by (Some x) is =
          ap (option_map (standing machine t.book.limits.steps (can t q))) (so.same ∙ is)
          ∙ ap (λ (r : Standing). Some r) (so.stood x is)
          ∙ sym (ap (option_map (standing machine s.book.limits.steps (can s q))) is)

  same-awaited : awaited machine t q ≡ awaited machine s q
  same-awaited = by (numbered_from_one q s.processes) refl
    where
      by : (o : Option P) → numbered_from_one q s.processes ≡ o → awaited machine t q ≡ awaited machine s q
      by None is = ap (list_of (λ x. ports_of_wait (fate_of machine t (q, x)))) (so.same ∙ is) ∙ sym (ap (list_of (λ x. ports_of_wait (fate_of machine s (q, x)))) is)
      by (Some x) is =
          ap (list_of (λ x. ports_of_wait (fate_of machine t (q, x)))) (so.same ∙ is)
          ∙ ap (λ (r : Standing). ports_of_wait (fate_as r t.book.limits.steps (machine.exception x) (machine.wanted x))) (so.stood x is)
          ∙ ap (λ (l : Limits). ports_of_wait (fate_as (standing machine s.book.limits.steps (can s q) x) l.steps (machine.exception x) (machine.wanted x))) limits
          ∙ sym (ap (list_of (λ x. ports_of_wait (fate_of machine s (q, x)))) is)

-- who can step is read off how they stand
step-by : Option Standing → Bool
step-by o = any_pass is_local (list_of (λ x. x ∷ []) o) || any_pass is_acting (list_of (λ x. x ∷ []) o)

pub same-can_step : {P : Type 0} (machine : Machine Name P) (s t : System P) (q : ℕ) → standing_of machine t q ≡ standing_of machine s q → can_step machine t q ≡ can_step machine s q
same-can_step machine s t q e = ap (λ (o : Option Standing). any_pass is_local (list_of (λ x. x ∷ []) o) || any_pass is_acting (list_of (λ x. x ∷ []) o)) e

-- only processes that are there can step
pub can_step-there : {P : Type 0} (machine : Machine Name P) (s : System P) (q : ℕ) → can_step machine s q ≡ true → (1 ≤ q) × (q ≤ length s.processes)
can_step-there machine s zero e = absurd (true≢false (sym e))
can_step-there {P} machine s (suc i) e = (omega arith, by (slice_get s.processes i) refl)
  where
    inside : (xs : List P) (i : ℕ) (x : P) → slice_get xs i ≡ Some x → suc i ≤ length xs
    inside [] i x e = none-not_some e
    inside (z ∷ xs) zero x e = omega arith
    inside (z ∷ xs) (suc i) x e = omega (arith, inside xs i x e)

    by : (o : Option P) → slice_get s.processes i ≡ o → suc i ≤ length s.processes
    by (Some x) is = inside s.processes i x is
    by None is = absurd (true≢false (sym e ∙ ap (λ o. any_pass is_local (list_of (λ x. x ∷ []) (option_map (standing machine s.book.limits.steps (can s (suc i))) o)) || any_pass is_acting (list_of (λ x. x ∷ []) (option_map (standing machine s.book.limits.steps (can s (suc i))) o))) is))

pub has-able : {P : Type 0} (machine : Machine Name P) (s : System P) (q : ℕ) → has q (able machine s) ≡ can_step machine s q
has-able machine s q = has-filter (can_step machine s) (length s.processes) (λ q e. can_step-there machine s q e) q

pub rising-able : {P : Type 0} (machine : Machine Name P) (s : System P) → AreRising (able machine s)
rising-able machine s = rising-filter (can_step machine s) 1 (length s.processes)

-- looking again at all that stand otherwise, and at all that may have lost their note, keeps what is kept right
kept-again : {P : Type 0} (machine : Machine Name P) (Is : P → Type 0) (keeps : KeepsSound machine Is) (types : List ℕ) (t : System P) → IsSoundWith machine Is types t → (qs : List ℕ) (k : Kept) → AreRising k.ready → length k.waiters ≡ length t.ports
    → ((q : ℕ) → IsIn q qs ⊎ ((has q k.ready ≡ can_step machine t q) × ((n : ℕ) → IsIn n (awaited machine t q) → slice_get k.waiters n ≡ Some (Some q)))) → IsKept machine t (all_looked_at machine t qs k)
kept-again machine Is keeps types t sound qs k rising long all = record {
  ready = same-members _ _ (all-rising machine t qs k rising) (rising-able machine t) (λ q. all-has machine t qs k q (ready q (all q)) ∙ sym (has-able machine t q));
  ports = all-length machine t qs k ∙ long;
  noted = λ q n waits. all-noted machine t Is keeps types sound qs k long q n waits (noted q n waits (all q));
}
  where
    ready : (q : ℕ) → IsIn q qs ⊎ ((has q k.ready ≡ can_step machine t q) × ((n : ℕ) → IsIn n (awaited machine t q) → slice_get k.waiters n ≡ Some (Some q))) → IsIn q qs ⊎ (has q k.ready ≡ can_step machine t q)
    ready q (inl h) = inl h
    ready q (inr e) = inr e.0

    noted : (q n : ℕ) → IsIn n (awaited machine t q) → IsIn q qs ⊎ ((has q k.ready ≡ can_step machine t q) × ((n : ℕ) → IsIn n (awaited machine t q) → slice_get k.waiters n ≡ Some (Some q))) → IsIn q qs ⊎ (slice_get k.waiters n ≡ Some (Some q))
    noted q n waits (inl h) = inl h
    noted q n waits (inr e) = inr (e.1 n waits)

-- a test that one element passes
pub in-any : {X : Type 0} (f : X → Bool) (xs : List X) (x : X) → IsIn x xs → f x ≡ true → any_pass f xs ≡ true
in-any f [] x h e = absurd h
in-any f (y ∷ xs) x (inl same) e = ap (λ b. b || any_pass f xs) (sym (ap f same) ∙ e)
in-any f (y ∷ xs) x (inr h) e = ap (λ b. f y || b) (in-any f xs x h e) ∙ or-true (f y)
  where
    or-true : (b : Bool) → (b || true) ≡ true
    or-true true = refl
    or-true false = refl

last-first : (ports : List ℕ) (qs : List (ℕ × Cell Name)) (x : ℕ × Cell Name) (k : ℕ) → is_some (done_at {M = Cell Name} {R = CellReply Name} (to_take ports) (a_port (port_of true (qs ++ x ∷ []) k))) ≡ true
last-first ports [] x k = refl
last-first ports (q ∷ qs) x k = refl

module _ {P : Type 0} (machine : Machine Name P) (s : System P) (q : ℕ) where
  -- whether a process looks at a port
  looks-or_not : (n : ℕ) → LooksAt machine s n q ⊎ (LooksAt machine s n q → ⊥)
  looks-or_not n = by (numbered_from_one q s.processes) refl
    where
      ports_in : CellWant Name → Option (List ℕ)
      ports_in (to_take ports) = Some ports
      ports_in w = None

      of-ports : (z : P) (ports : List ℕ) → numbered_from_one q s.processes ≡ Some z → machine.wanted z ≡ Some (to_take ports) → IsIn n ports ⊎ (IsIn n ports → ⊥) → LooksAt machine s n q ⊎ (LooksAt machine s n q → ⊥)
      of-ports z ports is wants (inl h) = inl (z, ports, is, wants, h)
      of-ports z ports is wants (inr none) = inr (λ look.
          let same : look.0 ≡ z = some-injective (sym look.2 ∙ is) in
          let want : to_take look.1 ≡ to_take ports = some-injective (sym look.3 ∙ ap machine.wanted same ∙ wants) in
          none (subst (IsIn n) (some-injective (ap ports_in want)) look.4))

      of-want : (z : P) → numbered_from_one q s.processes ≡ Some z → (o : Option (CellWant Name)) → machine.wanted z ≡ o → LooksAt machine s n q ⊎ (LooksAt machine s n q → ⊥)
      of-want z is (Some (to_take ports)) wants = of-ports z ports is wants (is-in_or_not n ports)
      of-want z is None wants = inr (λ look. none-not_some (sym wants ∙ sym (ap machine.wanted (some-injective (sym look.2 ∙ is))) ∙ look.3))
      of-want z is (Some w) wants = other w wants
        where
          other : (w : CellWant Name) → machine.wanted z ≡ Some w → LooksAt machine s n q ⊎ (LooksAt machine s n q → ⊥)
          other (to_take ports) wants = of-ports z ports is wants (is-in_or_not n ports)
          other w wants = inr (λ look. none-not_some (sym (ap (option_and_then ports_in) (sym (sym (ap machine.wanted (some-injective (sym look.2 ∙ is))) ∙ look.3) ∙ wants))))

      by : (o : Option P) → numbered_from_one q s.processes ≡ o → LooksAt machine s n q ⊎ (LooksAt machine s n q → ⊥)
      by None is = inr (λ look. none-not_some (sym is ∙ look.2))
      by (Some z) is = of-want z is (machine.wanted z) refl

-- a standing that does not act is the same whatever can be done
seen-still : (r : Standing) (b c : Bool) → (r ≡ acting → ⊥) → seen_as r b ≡ seen_as r c
seen-still ended b c never = refl
seen-still out_of_steps b c never = refl
seen-still out_of_actions b c never = refl
seen-still waiting b c never = refl
seen-still local b c never = refl
seen-still acting b c never = absurd (never refl)

acts-or_not : (r : Standing) → (r ≡ acting) ⊎ (r ≡ acting → ⊥)
acts-or_not acting = inl refl
acts-or_not ended = inr (λ e. true≢false (sym (ap is_acting e)))
acts-or_not out_of_steps = inr (λ e. true≢false (sym (ap is_acting e)))
acts-or_not out_of_actions = inr (λ e. true≢false (sym (ap is_acting e)))
acts-or_not waiting = inr (λ e. true≢false (sym (ap is_acting e)))
acts-or_not local = inr (λ e. true≢false (sym (ap is_acting e)))

module _ {P : Type 0} (machine : Machine Name P) (Is : P → Type 0) (keeps : KeepsSound machine Is) (types : List ℕ) (s : System P) (sound : IsSoundWith machine Is types s) where
  -- behind a put a message can be taken at its port
  pub put-there : (x y : P) (p : ℕ) (t : System P) (n : ℕ) (d : Cell Name) (qs : List (ℕ × Cell Name)) (k : ℕ) → holding_at (port n) s ≡ Some (a_port (port_of true qs k))
      → with_made machine x (put (Some k) d) (set_process p y (set_holding (port n) (after (put (Some k) d) (a_port (port_of true qs k))) s)) ≡ Some t → (ports : List ℕ) → is_some (done_in (to_take ports) t (port n)) ≡ true
  put-there x y p t n d qs k at makes ports =
      let now : holding_at (port n) (set_process p y (set_holding (port n) (after (put (Some k) d) (a_port (port_of true qs k))) s)) ≡ Some (a_port (port_of true (qs ++ (k, d) ∷ []) (suc k))) =
      ap (option_map a_port) (set-own s.ports n (port_of true qs k) (port_of true (qs ++ (k, d) ∷ []) (suc k)) (port-there s n (port_of true qs k) at)) in
      let behind = made-holding machine x (put (Some k) d) (set_process p y (set_holding (port n) (after (put (Some k) d) (a_port (port_of true qs k))) s)) t (port n) (a_port (port_of true (qs ++ (k, d) ∷ []) (suc k))) makes now in
      ap (λ o. is_some (option_and_then (done_at {M = Cell Name} {R = CellReply Name} (to_take ports)) o)) behind ∙ last-first ports qs (k, d) (suc k)

  -- who looks at a port where a message is placed is noted there, or stands as before
  put-seen : (t : System P) (q n : ℕ) (k : Kept) → IsKept machine s k → t.book.limits ≡ s.book.limits → (look : LooksAt machine s n q) → numbered_from_one q t.processes ≡ Some look.0 → ((ports : List ℕ) → is_some (done_in (to_take ports) t (port n)) ≡ true)
      → IsIn q (waiter_at n k.waiters) ⊎ SeenSo machine s t q
  put-seen t q n k kept limits look stays there = by (can s q (to_take look.1)) (acts-or_not (machine.ready s.book.limits.steps look.0)) refl
    where
      limit : ℕ
      limit = s.book.limits.steps

      able-now : can t q (to_take look.1) ≡ true
      able-now = in-any (λ place. is_some (done_in (to_take look.1) t place)) (map port look.1) (port n) (in-map port n look.1 look.4) (there look.1)

      waits : can s q (to_take look.1) ≡ false → machine.ready limit look.0 ≡ acting → IsIn n (awaited machine s q)
      waits none next =
          let stood : standing machine limit (can s q) look.0 ≡ waiting = ap (λ r. seen_as r (can_be_done (can s q) (machine.wanted look.0))) next ∙ ap (λ o. seen_as acting (can_be_done (can s q) o)) look.3 ∙ ap (seen_as acting) none in
          let all : awaited machine s q ≡ look.1 =
          ap (list_of (λ x. ports_of_wait (fate_of machine s (q, x)))) look.2
          ∙ ap (λ r. ports_of_wait (fate_as r limit (machine.exception look.0) (machine.wanted look.0))) stood
          ∙ ap (λ o. ports_of_wait (fate_as waiting limit (machine.exception look.0) o)) look.3 in
          subst (IsIn n) (sym all) look.4

      so-seen : seen_as (machine.ready limit look.0) (can_be_done (can t q) (machine.wanted look.0)) ≡ seen_as (machine.ready limit look.0) (can_be_done (can s q) (machine.wanted look.0)) → SeenSo machine s t q
      so-seen e = record {
        same = stays ∙ sym look.2;
        stood = λ x is.
            let its : look.0 ≡ x = some-injective (sym look.2 ∙ is) in
            ap (λ (l : Limits). seen_as (machine.ready l.steps x) (can_be_done (can t q) (machine.wanted x))) limits
            ∙ subst (λ x. seen_as (machine.ready limit x) (can_be_done (can t q) (machine.wanted x)) ≡ seen_as (machine.ready limit x) (can_be_done (can s q) (machine.wanted x))) its e;
      }

      by : (b : Bool) → (machine.ready limit look.0 ≡ acting) ⊎ (machine.ready limit look.0 ≡ acting → ⊥) → can s q (to_take look.1) ≡ b → IsIn q (waiter_at n k.waiters) ⊎ SeenSo machine s t q
      by true which e = inr (so-seen (ap (seen_as (machine.ready limit look.0)) (ap (can_be_done (can t q)) look.3 ∙ able-now ∙ sym e ∙ sym (ap (can_be_done (can s q)) look.3))))
      by false (inr never) e = inr (so-seen (seen-still (machine.ready limit look.0) _ _ never))
      by false (inl next) e =
          inl (subst (IsIn q) (sym (ap (list_of (λ o. list_of (λ q. q ∷ []) o)) (kept.noted q n (waits e next)))) (inl refl))

  module _ (p : ℕ) (q : ℕ) (apart : p ≡ q → ⊥) (x y : P) (t : System P) (k : Kept) (kept : IsKept machine s k) (limits : t.book.limits ≡ s.book.limits) (stays : (z : P) → numbered_from_one q s.processes ≡ Some z → numbered_from_one q t.processes ≡ Some z) where
    -- another process is woken, or stands as before
    woken-or-so : (w : CellWant Name) (place : Place) (h : Holding) (a : CellAction Name) → IsAct p w place h a → holding_at place s ≡ Some h → with_made machine x a (set_process p y (set_holding place (after a h) s)) ≡ Some t
        → ((MayWake machine s place a q → ⊥) → SeenSo machine s t q) → IsIn q (woken_by place a k.waiters) ⊎ SeenSo machine s t q
    woken-or-so w place h a (placed n d qs i) at makes others = by (looks-or_not machine s q n)
      where
        by : LooksAt machine s n q ⊎ (LooksAt machine s n q → ⊥) → IsIn q (waiter_at n k.waiters) ⊎ SeenSo machine s t q
        by (inr none) = inr (others none)
        by (inl look) = put-seen t q n k kept limits look (stays look.0 look.2) (λ ports. put-there x y p t n d qs i at makes ports)
    woken-or-so w place h a (answered caller call r rs) at makes others = same-or_not q caller (λ e. inl (inl e)) (λ differs. inr (others differs))
    woken-or-so w place h a (process_made code b made e) at makes others = same-or_not q made.0 (λ e. inl (inl e)) (λ differs. inr (others differs))
    woken-or-so w place h a (process_refused code b e) at makes others = inr (others (λ h. absurd h))
    woken-or-so w place h a (port_made b n e) at makes others = inr (others (λ h. absurd h))
    woken-or-so w place h a (port_refused b e) at makes others = inr (others (λ h. absurd h))
    woken-or-so w place h a (came_back n d qs i) at makes others = inr (others (λ h. absurd h))
    woken-or-so w place h a (taken looked n among b j d qs i) at makes others = inr (others (λ h. absurd h))
    woken-or-so w place h a (closed n b qs i) at makes others = inr (others (λ h. absurd h))
    woken-or-so w place h a (heard i r rs) at makes others = inr (others (λ h. absurd h))

    -- who waits at a port is woken, or still noted there
    still-noted : numbered_from_one p s.processes ≡ Some x → (w : CellWant Name) (place : Place) (h : Holding) (a : CellAction Name) → IsAct p w place h a → HasFor machine keeps.first_type keeps.new_type x w → (n : ℕ) → IsIn n (awaited machine s q)
        → IsIn q (woken_by place a k.waiters) ⊎ (slice_get (waiters_behind place a k.waiters) n ≡ Some (Some q))
    still-noted was w place h a (placed i d qs j) has n waits =
        same-or_not i n
        (λ same. inl (subst (λ i. IsIn q (waiter_at i k.waiters)) (sym same) (subst (IsIn q) (sym (ap (list_of (λ o. list_of (λ q. q ∷ []) o)) (kept.noted q n waits))) (inl refl))))
        (λ differs. inr (get-other k.waiters i n None (unequal-numbers i n differs) ∙ kept.noted q n waits))
    still-noted was w place h a (closed i b qs j) has n waits =
        same-or_not i n
        (λ same.
        let look = awaits-looks machine s n q waits in
        let its = (keeps.wants look.0 (to_take look.1) (sound.processes q look.0 look.2) look.3) n look.4 in
        absurd (one-owner machine Is types s sound n p q x look.0 was look.2 (subst (λ i. IsIn (an_inport i) (kinds_by machine x)) same has) (held-kinds machine look.0 its.0 (an_inport n) its.2) apart))
        (λ differs. inr (get-other k.waiters i n None (unequal-numbers i n differs) ∙ kept.noted q n waits))
    still-noted was w place h a (port_made b i e) has n waits = inr (got-more k.waiters (None ∷ []) n (Some q) (kept.noted q n waits))
    still-noted was w place h a (process_made code b made e) has n waits = inr (got-more k.waiters (None ∷ []) n (Some q) (kept.noted q n waits))
    still-noted was w place h a (port_refused b e) has n waits = inr (kept.noted q n waits)
    still-noted was w place h a (process_refused code b e) has n waits = inr (kept.noted q n waits)
    still-noted was w place h a (came_back i d qs j) has n waits = inr (kept.noted q n waits)
    still-noted was w place h a (taken looked i among b j d qs l) has n waits = inr (kept.noted q n waits)
    still-noted was w place h a (answered caller call r rs) has n waits = inr (kept.noted q n waits)
    still-noted was w place h a (heard i r rs) has n waits = inr (kept.noted q n waits)

-- as many are noted as there are ports
waiters-long : (p : ℕ) (w : CellWant Name) (place : Place) (h : Holding) (a : CellAction Name) → IsAct p w place h a → (ws : List (Option ℕ)) → length (waiters_behind place a ws) ≡ length ws + length (new_ports a)
waiters-long p w place h a (placed n d qs i) ws = set-length ws n None ∙ omega arith
waiters-long p w place h a (closed n b qs i) ws = set-length ws n None ∙ omega arith
waiters-long p w place h a (port_made b n e) ws = omega (arith, more-length ws None)
waiters-long p w place h a (process_made code b made e) ws = omega (arith, more-length ws None)
waiters-long p w place h a (port_refused b e) ws = omega arith
waiters-long p w place h a (process_refused code b e) ws = omega arith
waiters-long p w place h a (came_back n d qs i) ws = omega arith
waiters-long p w place h a (taken looked n among b j d qs i) ws = omega arith
waiters-long p w place h a (answered caller call r rs) ws = omega arith
waiters-long p w place h a (heard i r rs) ws = omega arith

abbrev nobody : List (Option ℕ)
nobody = None ∷ None ∷ []

module _ {P : Type 0} (machine : Machine Name P) (Is : P → Type 0) (keeps : KeepsSound machine Is) where
  -- an action of a sound state, taken apart
  action-kept : (types : List ℕ) (s : System P) → IsSoundWith machine Is types s → (p : ℕ) (place : Place) (m : Moved P) (parts : ActionParts machine p place s m) (types' : List ℕ) → IsSoundWith machine Is types' parts.makes.0
      → (k : Kept) → IsKept machine s k → IsKept machine parts.makes.0 (kept_behind machine parts.makes.0 (acts p place) (Some parts.did.0) k)
  action-kept types s sound p place m parts types' sound' k kept =
      kept-again machine Is keeps types' t sound' (p ∷ woken_by place a k.waiters) (record { ready = k.ready; waiters = waiters_behind place a k.waiters }) (subst AreRising (sym kept.ready) (rising-able machine s)) long each
    where
      x : P
      x = parts.state

      y : P
      y = parts.left.0

      t : System P
      t = parts.makes.0

      a : CellAction Name
      a = parts.did.0

      act : IsAct p parts.want.0 place parts.at.0 a
      act = acted p parts.want.0 place parts.at.0 a parts.there parts.did.1

      limits : t.book.limits ≡ s.book.limits
      limits = action-limits machine Is keeps types s sound p place m parts

      long : length (waiters_behind place a k.waiters) ≡ length t.ports
      long = omega (
        arith,
        waiters-long p parts.want.0 place parts.at.0 a act k.waiters,
        kept.ports,
        made-length machine x a (set_process p y (set_holding place (after a parts.at.0) s)) t parts.makes.1,
        (lengths-stay place (after a parts.at.0) s).1,
      )

      stays : (q : ℕ) → (p ≡ q → ⊥) → (z : P) → numbered_from_one q s.processes ≡ Some z → numbered_from_one q t.processes ≡ Some z
      stays q apart z is =
          made-stays machine x a (set_process p y (set_holding place (after a parts.at.0) s)) t parts.makes.1 q z
          (other-from_one (set_holding place (after a parts.at.0) s).processes p q y apart ∙ ap (numbered_from_one q) (processes-stay place (after a parts.at.0) s) ∙ is)

      noted : (q : ℕ) → (p ≡ q → ⊥) → SeenSo machine s t q → (n : ℕ) → IsIn n (awaited machine t q) → IsIn q (woken_by place a k.waiters) ⊎ (slice_get (waiters_behind place a k.waiters) n ≡ Some (Some q))
      noted q apart so n waits =
          still-noted machine Is keeps types s sound p q apart x y t k kept limits (stays q apart) parts.is parts.want.0 place parts.at.0 a act (keeps.wants x parts.want.0 (sound.processes p x parts.is) parts.want.1) n
          (subst (IsIn n) (same-awaited machine s t q limits so) waits)

      ready : (q : ℕ) → SeenSo machine s t q → has q k.ready ≡ can_step machine t q
      ready q so = ap (has q) kept.ready ∙ has-able machine s q ∙ sym (same-can_step machine s t q (same-standing machine s t q limits so))

      -- where it is not woken
      all-noted-or : (q : ℕ) → (p ≡ q → ⊥) → SeenSo machine s t q → IsIn q (woken_by place a k.waiters) ⊎ (IsIn q (woken_by place a k.waiters) → ⊥)
          → IsIn q (p ∷ woken_by place a k.waiters) ⊎ ((has q k.ready ≡ can_step machine t q) × ((n : ℕ) → IsIn n (awaited machine t q) → slice_get (waiters_behind place a k.waiters) n ≡ Some (Some q)))
      all-noted-or q apart so (inl h) = inl (inr h)
      all-noted-or q apart so (inr none) = inr (ready q so, λ n waits. by n (noted q apart so n waits))
        where
          by : (n : ℕ) → IsIn q (woken_by place a k.waiters) ⊎ (slice_get (waiters_behind place a k.waiters) n ≡ Some (Some q)) → slice_get (waiters_behind place a k.waiters) n ≡ Some (Some q)
          by n (inl h) = absurd (none h)
          by n (inr e) = e

      other : (q : ℕ) → (p ≡ q → ⊥) → IsIn q (woken_by place a k.waiters) ⊎ SeenSo machine s t q
          → IsIn q (p ∷ woken_by place a k.waiters) ⊎ ((has q k.ready ≡ can_step machine t q) × ((n : ℕ) → IsIn n (awaited machine t q) → slice_get (waiters_behind place a k.waiters) n ≡ Some (Some q)))
      other q apart (inl h) = inl (inr h)
      other q apart (inr so) = all-noted-or q apart so (is-in_or_not q (woken_by place a k.waiters))

      each : (q : ℕ) → IsIn q (p ∷ woken_by place a k.waiters) ⊎ ((has q k.ready ≡ can_step machine t q) × ((n : ℕ) → IsIn n (awaited machine t q) → slice_get (waiters_behind place a k.waiters) n ≡ Some (Some q)))
      each q =
          same-or_not p q (λ e. inl (inl (sym e)))
          (λ apart. other q apart (woken-or-so machine Is keeps types s sound p q apart x y t k kept limits (stays q apart) parts.want.0 place parts.at.0 a act parts.at.1 parts.makes.1
          (λ wakes. seen-so machine s t q limits (action-others machine Is keeps types s sound p place m parts types' sound' q apart wakes))))

  local-kept : (types : List ℕ) (s : System P) (p : ℕ) (y : P) → IsSoundWith machine Is types (set_process p y s) → (k : Kept) → IsKept machine s k → IsKept machine (set_process p y s) (all_looked_at machine (set_process p y s) (p ∷ []) k)
  local-kept types s p y sound' k kept =
      kept-again machine Is keeps types (set_process p y s) sound' (p ∷ []) k (subst AreRising (sym kept.ready) (rising-able machine s)) kept.ports
      (λ q. same-or_not p q (λ e. inl (inl (sym e))) (λ apart. inr (other q (seen-so machine s (set_process p y s) q refl (local-others machine s p y q apart)))))
    where
      other : (q : ℕ) → SeenSo machine s (set_process p y s) q → (has q k.ready ≡ can_step machine (set_process p y s) q) × ((n : ℕ) → IsIn n (awaited machine (set_process p y s) q) → slice_get k.waiters n ≡ Some (Some q))
      other q so = (
        ap (has q) kept.ready ∙ has-able machine s q ∙ sym (same-can_step machine s (set_process p y s) q (same-standing machine s (set_process p y s) q refl so)),
        λ n waits. kept.noted q n (subst (IsIn n) (same-awaited machine s (set_process p y s) q refl so) waits),
      )

  pub events-keep-ready : EventsKeepReady machine Is keeps.beside
  events-keep-ready (steps p) s m k sound e kept =
      let parts = step-parts machine p s m e in
      let sound' = steps-keep-sound machine Is keeps (steps p) s m e sound in
      subst (λ (m : Moved P). IsKept machine m.system (kept_behind machine m.system (steps p) m.done k)) parts.moved
      (local-kept sound'.0 s p parts.left.0 (subst (λ (m : Moved P). IsSoundWith machine Is sound'.0 m.system) (sym parts.moved) sound'.1.sound) k kept)
  events-keep-ready (acts p place) s m k sound e kept =
      let parts = action-parts machine p place s m e in
      let sound' = steps-keep-sound machine Is keeps (acts p place) s m e sound in
      subst (λ (m : Moved P). IsKept machine m.system (kept_behind machine m.system (acts p place) m.done k)) parts.moved
      (action-kept sound.0 s sound.1.sound p place m parts sound'.0 (subst (λ (m : Moved P). IsSoundWith machine Is sound'.0 m.system) (sym parts.moved) sound'.1.sound) k kept)

  pub one-looks-at : OneLooksAtAPort machine Is keeps.beside
  one-looks-at s sound n p q a b = one-looks machine Is keeps sound.0 s sound.1.sound n p q a b

  pub local-steps-wake : LocalStepsWakeNobody machine Is keeps.beside
  local-steps-wake s p m sound e q apart =
      let parts = step-parts machine p s m e in
      subst (λ (m : Moved P). standing_of machine m.system q ≡ standing_of machine s q) parts.moved (stands-so machine s (set_process p parts.left.0 s) q refl (local-others machine s p parts.left.0 q apart))

  pub others-stand : OthersStandAsBefore machine Is keeps.beside
  others-stand s p place m a sound e done q apart wakes =
      let parts = action-parts machine p place s m e in
      let sound' = steps-keep-sound machine Is keeps (acts p place) s m e sound in
      let did : parts.did.0 ≡ a = some-injective (ap (λ (m : Moved P). m.done) parts.moved ∙ done) in
      subst (λ (m : Moved P). standing_of machine m.system q ≡ standing_of machine s q) parts.moved
      (stands-so machine s parts.makes.0 q (action-limits machine Is keeps sound.0 s sound.1.sound p place m parts)
      (action-others machine Is keeps sound.0 s sound.1.sound p place m parts sound'.0 (subst (λ (m : Moved P). IsSoundWith machine Is sound'.0 m.system) (sym parts.moved) sound'.1.sound) q apart
      (subst (λ a. MayWake machine s place a q → ⊥) (sym did) wakes)))

  pub first-is-kept : BeginsSound machine keeps.first_type → FirstIsKept machine Is keeps.beside
  first-is-kept begins limits argument texts =
      let sound = opening-is-sound machine Is keeps begins limits argument texts in
      kept-again machine Is keeps sound.0 s sound.1.sound (1 ∷ []) (record { ready = []; waiters = None ∷ None ∷ [] }) tt refl each
    where
      s : System P
      s = opening machine limits argument

      first : (o : Option P) (q : ℕ) (x : P) → numbered_from_one q (list_of (λ x. x ∷ []) o) ≡ Some x → 1 ≡ q
      first o zero x e = none-not_some e
      first None (suc i) x e = none-not_some e
      first (Some y) (suc zero) x e = refl
      first (Some y) (suc (suc i)) x e = none-not_some e

      few : (o : Option P) → length (list_of (λ x. x ∷ []) o) ≤ 1
      few None = omega arith
      few (Some x) = omega arith

      alone : (q : ℕ) → (1 ≡ q → ⊥) → (b : Bool) → can_step machine s q ≡ b → false ≡ b
      alone q apart false e = refl
      alone q apart true e = let there = can_step-there machine s q e in absurd (apart (omega (arith, there.0, there.1, few (machine.begin machine.main 1 main_port))))

      each : (q : ℕ) → IsIn q (1 ∷ []) ⊎ ((false ≡ can_step machine s q) × ((n : ℕ) → IsIn n (awaited machine s q) → slice_get nobody n ≡ Some (Some q)))
      each q = same-or_not 1 q (λ e. inl (inl (sym e))) (λ apart. inr (
        alone q apart (can_step machine s q) refl,
        λ n waits. let look = awaits-looks machine s n q waits in absurd (apart (first (machine.begin machine.main 1 main_port) q look.0 look.2)),
      ))
