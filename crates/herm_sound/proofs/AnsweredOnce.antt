-- Along a run no call is answered twice, and each that is open was answered or has its callmessage.
use Rattle.std.proofs.Common.{◌≡◌, ◌⊎◌, inl, inr, ℕ, zero, suc, ◌+◌, ◌≤◌, ◌<◌, List, [], ◌∷◌, ◌++◌, length, Bool, true, false, cond, Option, Some, None, refl, sym, ap, subst, ◌∙◌, arith, true≢false}
use Rattle.std.proofs.lemmas.Bool.{eqb-true, eqb-false}
use Rattle.std.proofs.Math.Bool.{or-false}
use Rattle.std.specs.Prelude.{nat_eq, ◌&&◌}
use Rattle.herm_journal.proofs.Rising.{same-true}
use Rattle.herm_model.specs.Lists.{IsIn, list_of}
use Rattle.herm_model.specs.Values.{Name, a_callmessage, Cell}
use Rattle.herm_model.proofs.Lists.{and-both}
use Rattle.herm_model.proofs.Options.{some-injective, none-not_some, chain-some, map-some}
use Rattle.herm_journal.specs.Actions.{new_port, new_process, to_put, to_take, to_close, to_answer, to_hear, make_port, make_process, put, take, close, answer, hear}
use Rattle.herm_journal.specs.NextNumbers.{Limits}
use Rattle.herm_journal.specs.Entries.{Text, Place, reply_cell, same_place, Entry, recorded}
use Rattle.herm_journal.specs.Stamps.{entry_behind}
use Rattle.herm_journal.specs.Messages.{CellReply, CellWant, CellAction}
use Rattle.herm_system.specs.Machines.{OpenCall, Machine}
use Rattle.herm_system.specs.Kinds.{unfinalised, has_open, replies_of, is_callmessage_of}
use Rattle.herm_system.specs.Sound.{one_if, IsSoundWith}
use Rattle.herm_system.specs.Summary.{how_many}
use Rattle.herm_system.specs.Systems.{System, Moved, Event, steps, acts, Run, run, run_on, step, start, opening, with_entry, set_process, number_of, numbered_from_one, main_port, opening_name}
use Rattle.herm_runs.specs.Counting.{kinds_made, kinds_ended}
use Rattle.herm_runs.proofs.ActionParts.{action-parts, step-parts}
use Rattle.herm_runs.proofs.Stands.{IsNew}
use Rattle.herm_sound.specs.SoundBeside.{IsSoundBeside}
use Rattle.herm_sound.specs.SoundMachines.{CallMoves, KeepsSound, BeginsSound, NumbersCalls}
use Rattle.herm_sound.specs.laws.SoundLaws.{is_answer_to, answers_call, is_hear_of, hears_call, replies_to, CallsAreAnsweredOnce}
use Rattle.herm_sound.proofs.Acted.{Holding, IsAct, port_made, port_refused, process_made, process_refused, placed, came_back, taken, closed, answered, heard, acted}
use Rattle.herm_sound.proofs.ActionChanges.{action-change}
use Rattle.herm_sound.proofs.ActOnce.{held}
use Rattle.herm_sound.proofs.Changes.{IsChange, ended, local-change}
use Rattle.herm_sound.proofs.ClosedOnce.{and-none}
use Rattle.herm_sound.proofs.Counted.{many-append}
use Rattle.herm_sound.proofs.KeptCalls.{IsPlaced, WasOpen, calls-before, opens-move}
use Rattle.herm_sound.proofs.KeptSound.{callmessages-wait, steps-keep-sound}
use Rattle.herm_sound.proofs.ReplyCells.{heard_of}
use Rattle.herm_sound.proofs.OpenCalls.{counted, only-one, open-with, open-none}
use Rattle.herm_sound.proofs.OpeningSound.{opening-is-sound}

-- an entry is of an answer as its action is
recorded-answer : (k : ℕ) (a : CellAction Name) → is_answer_to k (recorded a) ≡ is_answer_to k a
recorded-answer k (make_port made) = refl
recorded-answer k (make_process code made) = refl
recorded-answer k (put i m) = refl
recorded-answer k (take i m) = refl
recorded-answer k (close count left) = refl
recorded-answer k (answer i r) = refl
recorded-answer k (hear i r) = refl

abbrev answering : (q k : ℕ) → Place → CellAction Name → ℕ
answering q k place a = one_if (same_place place (reply_cell q) && is_answer_to k a)

one-long : {X : Type 0} (b : Bool) (x : X) → one_if b ≡ length (cond b (x ∷ []) [])
one-long true x = refl
one-long false x = refl

act-answering : (p q k : ℕ) (w : CellWant Name) (place : Place) (h : Holding) (a : CellAction Name) → IsAct p w place h a → answering q k place a ≡ how_many (is_callmessage_of q k) (kinds_ended w)
act-answering p q k w place h a (answered caller call r rs) = one-long (nat_eq caller q && nat_eq call k) (a_callmessage caller call)
act-answering p q k w place h a (heard i r rs) = and-none (nat_eq p q)
act-answering p q k w place h a (port_made b i e) = refl
act-answering p q k w place h a (port_refused b e) = refl
act-answering p q k w place h a (process_made code b made e) = refl
act-answering p q k w place h a (process_refused code b e) = refl
act-answering p q k w place h a (placed i m qs j) = refl
act-answering p q k w place h a (came_back i m qs j) = refl
act-answering p q k w place h a (taken ports i among b j m qs l) = refl
act-answering p q k w place h a (closed i b qs j) = refl

-- an entry is of hearing as its action is, and its place and process are those that heard
recorded-hear : (k : ℕ) (a : CellAction Name) → is_hear_of k (recorded a) ≡ is_hear_of k a
recorded-hear k (make_port made) = refl
recorded-hear k (make_process code made) = refl
recorded-hear k (put i m) = refl
recorded-hear k (take i m) = refl
recorded-hear k (close count left) = refl
recorded-hear k (answer i r) = refl
recorded-hear k (hear i r) = refl

act-hearing : (p q k : ℕ) (w : CellWant Name) (place : Place) (h : Holding) (a : CellAction Name) → IsAct p w place h a → one_if (same_place place (reply_cell q) && is_hear_of k a) ≡ heard_of p a q k
act-hearing p q k w place h a (answered caller call r rs) = and-none (nat_eq caller q)
act-hearing p q k w place h a (heard i r rs) = refl
act-hearing p q k w place h a (port_made b i e) = refl
act-hearing p q k w place h a (port_refused b e) = refl
act-hearing p q k w place h a (process_made code b made e) = refl
act-hearing p q k w place h a (process_refused code b e) = refl
act-hearing p q k w place h a (placed i m qs j) = refl
act-hearing p q k w place h a (came_back i m qs j) = refl
act-hearing p q k w place h a (taken ports i among b j m qs l) = refl
act-hearing p q k w place h a (closed i b qs j) = refl

-- one entry more counts as it passes
one-more : (test : Entry → Bool) (journal : List Entry) (e : Entry) → how_many test (journal ++ e ∷ []) ≡ how_many test journal + one_if (test e)
one-more test journal e = omega (arith, many-append test journal (e ∷ []), one-long (test e) e)

one-entry : (journal : List Entry) (q k p : ℕ) (place : Place) (a : CellAction Name) → how_many (answers_call q k) (journal ++ entry_behind journal p place (recorded a) ∷ []) ≡ how_many (answers_call q k) journal + answering q k place a
one-entry journal q k p place a =
    omega (arith, one-more (answers_call q k) journal (entry_behind journal p place (recorded a)), ap (λ c. one_if (same_place place (reply_cell q) && c)) (recorded-answer k a))

one-heard : (journal : List Entry) (q k p : ℕ) (place : Place) (a : CellAction Name)
    → how_many (hears_call q k) (journal ++ entry_behind journal p place (recorded a) ∷ []) ≡ how_many (hears_call q k) journal + one_if (same_place place (reply_cell q) && is_hear_of k a)
one-heard journal q k p place a =
    omega (arith, one-more (hears_call q k) journal (entry_behind journal p place (recorded a)), ap (λ c. one_if (same_place place (reply_cell q) && c)) (recorded-hear k a))

zero-or_more : (n : ℕ) → (n ≡ 0) ⊎ ((m : ℕ) × (n ≡ suc m))
zero-or_more zero = inl refl
zero-or_more (suc m) = inr (m, refl)

module _ {P : Type 0} (machine : Machine Name P) (Is : P → Type 0) (keeps : KeepsSound machine Is) (numbers : NumbersCalls machine) where
  abbrev answers_so : Run P → ℕ → ℕ → ℕ
  answers_so r q k = how_many (answers_call q k) r.journal

  abbrev callmessages : System P → ℕ → ℕ → ℕ
  callmessages s q k = how_many (is_callmessage_of q k) (unfinalised machine s)

  -- Calls have been answered once at most, and a call that can be answered has not been; each that is open was answered or can be; numbers that
  -- are not used yet have no answers.
  record AreOnce (r : Run P) : Type 0 where
    once : (q k : ℕ) → answers_so r q k + callmessages r.system q k ≤ 1
    opened : (q k : ℕ) → one_if (has_open machine r.system q k) ≤ answers_so r q k + callmessages r.system q k
    heard : (q k : ℕ) → how_many (hears_call q k) r.journal + replies_to r.system q k ≡ answers_so r q k
    fresh : (q k : ℕ) (z : P) → numbered_from_one q r.system.processes ≡ Some z → numbers.calls z ≤ k → answers_so r q k ≡ 0
    absent : (q k : ℕ) → numbered_from_one q r.system.processes ≡ None → answers_so r q k ≡ 0
    below : (q : ℕ) (z : P) (call : OpenCall) → numbered_from_one q r.system.processes ≡ Some z → machine.open_call z ≡ Some call → call.number < numbers.calls z

  -- a call that is open is some process's
  open-there : (s : System P) (q k : ℕ) → has_open machine s q k ≡ true → (z : P) × (call : OpenCall) × (numbered_from_one q s.processes ≡ Some z) × (machine.open_call z ≡ Some call) × (call.number ≡ k)
  open-there s q k e = by (numbered_from_one q s.processes) refl
    where
      of : (z : P) (o : Option OpenCall) → numbered_from_one q s.processes ≡ Some z → machine.open_call z ≡ o → (z : P) × (call : OpenCall) × (numbered_from_one q s.processes ≡ Some z) × (machine.open_call z ≡ Some call) × (call.number ≡ k)
      of z None is opened = absurd (true≢false (sym e ∙ open-with machine s q z None k is opened))
      of z (Some call) is opened =
          let same : nat_eq k call.number ≡ true = sym (or-false (nat_eq k call.number)) ∙ sym (open-with machine s q z (Some call) k is opened) ∙ e in
          (z, call, is, opened, sym (eqb-true k call.number same))

      by : (o : Option P) → numbered_from_one q s.processes ≡ o → (z : P) × (call : OpenCall) × (numbered_from_one q s.processes ≡ Some z) × (machine.open_call z ≡ Some call) × (call.number ≡ k)
      by None is = absurd (true≢false (sym e ∙ open-none machine s q k is))
      by (Some z) is = of z (machine.open_call z) is refl

  module _ (ports : List ℕ) (r : Run P) (sound : IsSoundWith machine Is ports r.system) (so : AreOnce r) (t : System P) (p : ℕ) (x y : P) (w : Option (CellWant Name)) (at : ℕ) (a : CellAction Name)
      (change : IsChange machine Is keeps ports r.system t p x y w at a) (rises : numbers.calls x ≤ numbers.calls y)
      (opens : (k : ℕ) (m : Cell Name) (call : OpenCall) → a ≡ put (Some k) m → machine.open_call y ≡ Some call → (numbers.calls x ≤ call.number) × (call.number < numbers.calls y))
      (journal : List Entry) (more : (q k : ℕ) → how_many (answers_call q k) journal ≡ how_many (answers_call q k) r.journal + how_many (is_callmessage_of q k) (ended w))
      (more_heard : (q k : ℕ) → how_many (hears_call q k) journal ≡ how_many (hears_call q k) r.journal + heard_of p a q k) where
    -- the callmessage of a call that was opened
    abbrev Opened : ℕ → ℕ → Type 0
    Opened q k = (p ≡ q) × (machine.open_call x ≡ None) × ((call : OpenCall) × (machine.open_call y ≡ Some call) × (call.number ≡ k) × IsPlaced a)

    made-cases : (q k : ℕ) → (how_many (is_callmessage_of q k) (kinds_made machine y a) ≡ 0) ⊎ ((how_many (is_callmessage_of q k) (kinds_made machine y a) ≡ 1) × Opened q k)
    made-cases q k = by a change.calls refl
      where
        of : (i : ℕ) (m : Cell Name) → a ≡ put (Some i) m → machine.open_call x ≡ None → (o : Option OpenCall) → machine.open_call y ≡ o
            → (how_many (is_callmessage_of q k) (list_of (λ (call : OpenCall). a_callmessage (machine.number y) call.number ∷ []) o) ≡ 0)
            ⊎ ((how_many (is_callmessage_of q k) (list_of (λ (call : OpenCall). a_callmessage (machine.number y) call.number ∷ []) o) ≡ 1) × Opened q k)
        of i m does idle None opened = inl refl
        of i m does idle (Some call) opened = test (nat_eq (machine.number y) q && nat_eq call.number k) refl
          where
            test : (b : Bool) → (nat_eq (machine.number y) q && nat_eq call.number k) ≡ b
                → (length (cond b (a_callmessage (machine.number y) call.number ∷ []) []) ≡ 0) ⊎ ((length (cond b (a_callmessage (machine.number y) call.number ∷ []) []) ≡ 1) × Opened q k)
            test false e = inl refl
            test true e =
                let both = and-both (nat_eq (machine.number y) q) (nat_eq call.number k) e in
                inr (refl, (sym (change.number).1 ∙ eqb-true (machine.number y) q both.0, idle, (call, opened, eqb-true call.number k both.1, (i, m, does))))

        by : (b : CellAction Name) → CallMoves machine x y b → a ≡ b → (how_many (is_callmessage_of q k) (kinds_made machine y b) ≡ 0) ⊎ ((how_many (is_callmessage_of q k) (kinds_made machine y b) ≡ 1) × Opened q k)
        by (put (Some i) m) moves does = of i m does moves (machine.open_call y) refl
        by (make_port (Some n)) moves does = inl refl
        by (make_process code (Some made)) moves does = inl refl
        by b moves does = inl refl

    opened-fresh : (q k : ℕ) → Opened q k → (answers_so r q k ≡ 0) × (callmessages r.system q k ≡ 0)
    opened-fresh q k h =
        let o = opens h.2.3.0 h.2.3.1 h.2.0 h.2.3.2 h.2.1 in
        let there = subst (λ q. numbered_from_one q r.system.processes ≡ Some x) h.0 change.was in
        let shut : has_open machine r.system q k ≡ false = open-with machine r.system q x None k there h.1 in
        (so.fresh q k x there (omega (arith, o.0, h.2.2)), omega (arith, sound.calls.answers q k, ap one_if shut))

    once-kept : (q k : ℕ) → how_many (answers_call q k) journal + callmessages t q k ≤ 1
    once-kept q k = by (made-cases q k)
      where
        by : (how_many (is_callmessage_of q k) (kinds_made machine y a) ≡ 0) ⊎ ((how_many (is_callmessage_of q k) (kinds_made machine y a) ≡ 1) × Opened q k) → how_many (answers_call q k) journal + callmessages t q k ≤ 1
        by (inl none) = omega (arith, more q k, change.counts (is_callmessage_of q k) (callmessages-wait q k), none, so.once q k)
        by (inr one) =
            let f = opened-fresh q k one.1 in
            omega (arith, more q k, change.counts (is_callmessage_of q k) (callmessages-wait q k), one.0, f.0, f.1)

    opened-kept : (q k : ℕ) → one_if (has_open machine t q k) ≤ how_many (answers_call q k) journal + callmessages t q k
    opened-kept q k =
        omega (
          arith,
          more q k,
          change.counts (is_callmessage_of q k) (callmessages-wait q k),
          opens-move machine Is keeps ports r.system sound t p x y w at a change q k,
          so.opened q k,
        )

    heard-kept : (q k : ℕ) → how_many (hears_call q k) journal + replies_to t q k ≡ how_many (answers_call q k) journal
    heard-kept q k = omega (arith, more q k, more_heard q k, change.replies q k, so.heard q k)

    -- a callmessage that is ended was there
    ends-there : (q k n : ℕ) → how_many (is_callmessage_of q k) (ended w) ≡ suc n → IsIn (a_callmessage q k) (unfinalised machine r.system)
    ends-there q k n e = by w refl e
      where
        none : (want : CellWant Name) → kinds_ended want ≡ [] → how_many (is_callmessage_of q k) (kinds_ended want) ≡ suc n → IsIn (a_callmessage q k) (unfinalised machine r.system)
        none want is e = let no_more : ⊥ = omega (arith, ap (how_many (is_callmessage_of q k)) is, e) in absurd no_more

        of : (want : CellWant Name) → w ≡ Some want → how_many (is_callmessage_of q k) (kinds_ended want) ≡ suc n → IsIn (a_callmessage q k) (unfinalised machine r.system)
        of (to_answer caller call v) is e = test (nat_eq caller q && nat_eq call k) refl e
          where
            test : (b : Bool) → (nat_eq caller q && nat_eq call k) ≡ b → length (cond b (a_callmessage caller call ∷ []) []) ≡ suc n → IsIn (a_callmessage q k) (unfinalised machine r.system)
            test false same e = let no_more : ⊥ = omega (arith, e) in absurd no_more
            test true same e =
                let both = and-both (nat_eq caller q) (nat_eq call k) same in
                let there = held machine Is keeps ports r.system p x change.was caller call v (change.has (to_answer caller call v) is).0 in
                subst (λ q. IsIn (a_callmessage q k) (unfinalised machine r.system)) (eqb-true caller q both.0)
                (subst (λ k. IsIn (a_callmessage caller k) (unfinalised machine r.system)) (eqb-true call k both.1) there)
        of (to_close i) is e = let no_more : ⊥ = omega (arith, e) in absurd no_more
        of new_port is e = none new_port refl e
        of (new_process code) is e = none (new_process code) refl e
        of (to_put i m) is e = none (to_put i m) refl e
        of (to_take looked) is e = none (to_take looked) refl e
        of to_hear is e = none to_hear refl e

        by : (w' : Option (CellWant Name)) → w ≡ w' → how_many (is_callmessage_of q k) (ended w') ≡ suc n → IsIn (a_callmessage q k) (unfinalised machine r.system)
        by None is e = let no_more : ⊥ = omega (arith, e) in absurd no_more
        by (Some want) is e = of want is e

    ended-open : (q k n : ℕ) → how_many (is_callmessage_of q k) (ended w) ≡ suc n → has_open machine r.system q k ≡ true
    ended-open q k n e =
        let self : is_callmessage_of q k (a_callmessage q k) ≡ true = ap (λ b. b && nat_eq k k) (same-true q) ∙ same-true k in
        let some = counted (is_callmessage_of q k) (a_callmessage q k) (unfinalised machine r.system) (ends-there q k n e) self in
        let waiting = how_many (λ (v : ℕ × CellReply Name). nat_eq v.0 k) (replies_of r.system q) in
        let all : waiting + callmessages r.system q k ≡ one_if (has_open machine r.system q k) = omega (arith, sound.calls.answers q k) in
        only-one waiting some.0 (callmessages r.system q k) (has_open machine r.system q k) some.1 all

    -- no answer comes to a number that no open call has
    none-ended : (q k : ℕ) → ((z : P) (call : OpenCall) → numbered_from_one q r.system.processes ≡ Some z → machine.open_call z ≡ Some call → call.number ≡ k → ⊥) → how_many (is_callmessage_of q k) (ended w) ≡ 0
    none-ended q k never = by (zero-or_more (how_many (is_callmessage_of q k) (ended w)))
      where
        by : (how_many (is_callmessage_of q k) (ended w) ≡ 0) ⊎ ((n : ℕ) × (how_many (is_callmessage_of q k) (ended w) ≡ suc n)) → how_many (is_callmessage_of q k) (ended w) ≡ 0
        by (inl e) = e
        by (inr h) = let c = open-there r.system q k (ended-open q k h.0 h.1) in absurd (never c.0 c.1 c.2 c.3 c.4)

    fresh-kept : (q k : ℕ) (z : P) → numbered_from_one q t.processes ≡ Some z → numbers.calls z ≤ k → how_many (answers_call q k) journal ≡ 0
    fresh-kept q k z is le = by (change.found q z is)
      where
        all : answers_so r q k ≡ 0 → how_many (is_callmessage_of q k) (ended w) ≡ 0 → how_many (answers_call q k) journal ≡ 0
        all before ends = omega (arith, more q k, before, ends)

        at-most : (z' : P) → numbered_from_one q r.system.processes ≡ Some z' → numbers.calls z' ≤ k → how_many (answers_call q k) journal ≡ 0
        at-most z' is le =
            all (so.fresh q k z' is le) (none-ended q k (λ v call is' opened number.
            let same : z' ≡ v = some-injective (sym is ∙ is') in
            let less = so.below q v call is' opened in
            let same_calls : numbers.calls z' ≡ numbers.calls v = ap numbers.calls same in
            omega (arith, le, less, number, same_calls)))

        by : ((p ≡ q) × (y ≡ z)) ⊎ ((numbered_from_one q r.system.processes ≡ Some z) ⊎ IsNew machine x a r.system q z) → how_many (answers_call q k) journal ≡ 0
        by (inl e) = at-most x (subst (λ q. numbered_from_one q r.system.processes ≡ Some x) e.0 change.was) (omega (arith, rises, le, ap numbers.calls e.1))
        by (inr (inl e)) = at-most z e le
        by (inr (inr new)) = all (so.absent q k new.at) (none-ended q k (λ v call is' opened number. none-not_some (sym new.at ∙ is')))

    absent-kept : (q k : ℕ) → numbered_from_one q t.processes ≡ None → how_many (answers_call q k) journal ≡ 0
    absent-kept q k is =
        let before = was-absent (numbered_from_one q r.system.processes) refl in
        omega (arith, more q k, so.absent q k before, none-ended q k (λ v call is' opened number. none-not_some (sym before ∙ is')))
      where
        was-absent : (o : Option P) → numbered_from_one q r.system.processes ≡ o → numbered_from_one q r.system.processes ≡ None
        was-absent None e = e
        was-absent (Some z) e = by (nat_eq p q) refl
          where
            by : (b : Bool) → nat_eq p q ≡ b → numbered_from_one q r.system.processes ≡ None
            by true same = none-not_some (sym is ∙ subst (λ q. numbered_from_one q t.processes ≡ Some y) (eqb-true p q same) change.now)
            by false same = none-not_some (sym is ∙ change.stays q z (eqb-false p q same) e)

    below-kept : (q : ℕ) (z : P) (call : OpenCall) → numbered_from_one q t.processes ≡ Some z → machine.open_call z ≡ Some call → call.number < numbers.calls z
    below-kept q z call is opened = by (calls-before machine Is keeps ports r.system sound t p x y w at a change q z call is opened) (change.found q z is)
      where
        by : WasOpen machine Is keeps ports r.system sound t p x y w at a change q z call → ((p ≡ q) × (y ≡ z)) ⊎ ((numbered_from_one q r.system.processes ≡ Some z) ⊎ IsNew machine x a r.system q z) → call.number < numbers.calls z
        by (inr h) found =
            let o = opens h.3.0 h.3.1 call h.3.2 (ap machine.open_call h.1 ∙ opened) in
            subst (λ z. call.number < numbers.calls z) h.1 o.1
        by (inl h) (inl e) =
            let mine : x ≡ h.0 = some-injective (sym (subst (λ q. numbered_from_one q r.system.processes ≡ Some x) e.0 change.was) ∙ h.1) in
            let less = so.below q h.0 call h.1 h.2 in
            omega (arith, less, rises, ap numbers.calls mine, ap numbers.calls e.1)
        by (inl h) (inr (inl e)) = so.below q z call e opened
        by (inl h) (inr (inr new)) = none-not_some (sym new.at ∙ h.1)

    change-once : AreOnce (record { system = t; journal = journal })
    change-once = record { once = once-kept; opened = opened-kept; heard = heard-kept; fresh = fresh-kept; absent = absent-kept; below = below-kept }

  event-once : (e : Event) (r : Run P) (m : Moved P) → step machine e r.system ≡ Some m → IsSoundBeside machine Is keeps.beside r.system → AreOnce r → AreOnce (record { system = m.system; journal = with_entry r.journal e m.done })
  event-once (steps p) r m e sound so =
      let parts = step-parts machine p r.system m e in
      let change = local-change machine Is keeps sound.0 r.system sound.1.sound p parts.state parts.left.0 parts.is parts.left.1 in
      subst (λ (m : Moved P). AreOnce (record { system = m.system; journal = with_entry r.journal (steps p) m.done })) parts.moved
      (change-once sound.0 r sound.1.sound so (set_process p parts.left.0 r.system) p parts.state parts.left.0 None 0 (make_port None) change (numbers.local_steps parts.state parts.left.0 parts.left.1)
      (λ k m call does opened. none-not_some (ap placed_of does)) r.journal (λ q k. omega arith) (λ q k. omega arith))
    where
      placed_of : CellAction Name → Option ℕ
      placed_of (put k m) = Some 0
      placed_of a = None
  event-once (acts p place) r m e sound so =
      let s = r.system in
      let parts = action-parts machine p place s m e in
      let a = parts.did.0 in
      let change = action-change machine Is keeps sound.0 s sound.1.sound p place m parts in
      let act = acted p parts.want.0 place parts.at.0 a parts.there parts.did.1 in
      subst (λ (m : Moved P). AreOnce (record { system = m.system; journal = with_entry r.journal (acts p place) m.done })) parts.moved
      (change-once sound.0 r sound.1.sound so parts.makes.0 p parts.state parts.left.0 (Some parts.want.0) (number_of place) a change (numbers.answers parts.state parts.left.0 (number_of place) a parts.left.1)
      (λ k m call does opened. numbers.opens parts.state parts.left.0 (number_of place) k m call (ap (machine.answered parts.state (number_of place)) (sym does) ∙ parts.left.1) opened)
      (r.journal ++ entry_behind r.journal p place (recorded a) ∷ [])
      (λ q k. omega (arith, one-entry r.journal q k p place a, act-answering p q k parts.want.0 place parts.at.0 a act))
      (λ q k. omega (arith, one-heard r.journal q k p place a, act-hearing p q k parts.want.0 place parts.at.0 a act)))

  once-along : (events : List Event) (r t : Run P) → run machine events r ≡ Some t → IsSoundBeside machine Is keeps.beside r.system → AreOnce r → AreOnce t
  once-along [] r t e sound so = subst AreOnce (some-injective e) so
  once-along (e ∷ events) r t is sound so =
      let b = chain-some (run machine events) (run_on machine e r) t is in
      let m = map-some _ (step machine e r.system) b.0 b.1 in
      once-along events b.0 t b.2 (subst (λ (r : Run P). IsSoundBeside machine Is keeps.beside r.system) m.2 (steps-keep-sound machine Is keeps e r.system m.0 m.1 sound)) (subst AreOnce m.2 (event-once e r m.0 m.1 sound so))

  first-once : (limits : Limits) (argument : Text) (first : P) → machine.begin machine.main 1 main_port ≡ Some first → IsSoundBeside machine Is keeps.beside (opening machine limits argument) → AreOnce (start machine limits argument)
  first-once limits argument first is sound = record {
    once = λ q k. no-calls q k;
    opened = λ q k. omega (arith, ap one_if (none-open q k (numbered_from_one q (opening machine limits argument).processes) refl));
    heard = λ q k. omega (arith, sound.1.sound.calls.answers q k, ap one_if (none-open q k (numbered_from_one q (opening machine limits argument).processes) refl));
    fresh = λ q k z is' le. refl;
    absent = λ q k is'. refl;
    below = λ q z call is' opened. none-not_some (sym (closed-first q z is') ∙ opened);
  }
    where
      only : (q : ℕ) (z : P) → numbered_from_one q (first ∷ []) ≡ Some z → first ≡ z
      only zero z e = none-not_some e
      only (suc zero) z e = some-injective e
      only (suc (suc q)) z e = none-not_some e

      closed-first : (q : ℕ) (z : P) → numbered_from_one q (opening machine limits argument).processes ≡ Some z → machine.open_call z ≡ None
      closed-first q z e =
          let same = only q z (sym (ap (λ o. numbered_from_one q (list_of (λ x. x ∷ []) o)) is) ∙ e) in
          subst (λ z. machine.open_call z ≡ None) same (keeps.processes.begins machine.main 1 1 (opening_name 1) first is).1

      none-open : (q k : ℕ) (o : Option P) → numbered_from_one q (opening machine limits argument).processes ≡ o → has_open machine (opening machine limits argument) q k ≡ false
      none-open q k None e = open-none machine (opening machine limits argument) q k e
      none-open q k (Some z) e = open-with machine (opening machine limits argument) q z None k e (closed-first q z e)

      no-calls : (q k : ℕ) → 0 + callmessages (opening machine limits argument) q k ≤ 1
      no-calls q k = omega (arith, sound.1.sound.calls.answers q k, at-most-one (has_open machine (opening machine limits argument) q k))
        where
          at-most-one : (b : Bool) → one_if b ≤ 1
          at-most-one true = omega arith
          at-most-one false = omega arith

  pub calls-are-answered-once : BeginsSound machine keeps.first_type → CallsAreAnsweredOnce machine
  calls-are-answered-once begins limits argument events r texts e q k =
      let sound = opening-is-sound machine Is keeps begins limits argument texts in
      let all = once-along events (start machine limits argument) r e sound (first-once limits argument begins.main.0 begins.main.1 sound) in
      (omega (arith, all.once q k), λ opened. omega (arith, all.once q k, all.opened q k, ap one_if opened), all.heard q k)
