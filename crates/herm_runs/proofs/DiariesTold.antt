-- Each process is what its diary says, where what comes in suits it.
use Rattle.std.proofs.Common.{◌≡◌, ℕ, zero, suc, List, [], ◌∷◌, ◌++◌, map, Bool, true, false, cond, ◌⊎◌, inl, inr, Option, Some, None, option_map, option_and_then, refl, sym, ap, ap₂, subst, ◌∙◌}
use Rattle.std.proofs.lemmas.Bool.{eqb-true}
use Rattle.std.specs.Prelude.{nat_eq, IsFalse, ⊤}
use Rattle.herm_model.specs.Lists.{IsIn, any_pass, list_of}
use Rattle.herm_model.specs.Values.{Cell, Name}
use Rattle.herm_model.specs.CellNames.{rename}
use Rattle.herm_model.specs.ValueTexts.{text_of}
use Rattle.herm_model.proofs.Lists.{length-map}
use Rattle.herm_model.proofs.Renaming.{text_of-rename}
use Rattle.herm_model.proofs.Options.{some-injective, none-not_some, chain-some, map-some}
use Rattle.herm_journal.specs.NextNumbers.{Limits, Book}
use Rattle.herm_journal.specs.PlaceStates.{after, PlaceState, a_port, replies, a_book}
use Rattle.herm_journal.specs.Ports.{first_of, left_in}
use Rattle.herm_journal.specs.Entries.{Text, Place, same_place, Entry, map_reply, texts_of, more_texts_of, recorded}
use Rattle.herm_journal.specs.Journals.{part_of_process}
use Rattle.herm_journal.specs.Stamps.{entry_behind}
use Rattle.herm_journal.specs.Messages.{CellReply, CellWant, CellAction}
use Rattle.herm_journal.specs.Renaming.{rename_reply, rename_action, rename_want, forget_name}
use Rattle.herm_system.specs.Sound.{IsNumbered}
use Rattle.herm_journal.proofs.Rising.{same-true}
use Rattle.herm_runs.proofs.Histories.{get-set_from_one, get-other_from_one}
use Rattle.herm_runs.proofs.Events.{filter-kept, filter-passed}
use Rattle.herm_journal.specs.Actions.{values, raised, gone, Want, new_port, new_process, to_put, to_take, to_close, to_answer, to_hear, Action, make_port, make_process, put, take, close, answer, hear}
use Rattle.herm_journal.specs.Messages.{IsMessage, IsReplyTo}
use Rattle.herm_model.specs.Values.{cell, an_inport, no_parts}
use Rattle.herm_system.specs.Machines.{Machine, is_local, is_acting, inport_of}
use Rattle.herm_system.specs.Systems.{System, Moved, Event, steps, acts, Run, run, run_on, step, start, opening, main_port, with_entry, with_made, set_process, set_holding, local_event, action_event, can, can_be_done, standing, stands, numbered_from_one, places_for, done_at, number_of}
use Rattle.herm_system.specs.Suiting.{Suits, has_local_step, local_steps, Answers}
use Rattle.herm_system.specs.PutAside.{IsToldBy, IsBehind}
use Rattle.herm_system.specs.DiaryStates.{IsAfter, after_steps, after_entry}
use Rattle.herm_runs.specs.laws.ProcessLaws.{KeepsNumbers, ForgetsNames}
use Rattle.herm_runs.specs.laws.DiaryLaws.{EventSuits, SuitsAlong, IsBorn, IsToldByDiary, DiariesTell}
use Rattle.herm_runs.proofs.Numbered.{set-found_from_one, step-numbered, opening-numbered}
use Rattle.herm_runs.proofs.RoundsEnd.{made-book}
use Rattle.herm_runs.proofs.SystemLedger.{processes-stay}
use Rattle.herm_runs.proofs.Stands.{seen-local, seen-acting, stands-as, set-absent_from_one, IsNew, made-found, made-absent, place-limits, unmoved-absent}
use Rattle.herm_runs.proofs.ActionParts.{cond-both, action-parts, step-parts}
use Rattle.herm_runs.proofs.SuitsMessages.{message-renamed, renamed-message, reply-renamed, renamed-reply, well_made-forgotten}

-- what is recorded does not depend on names
texts-forget : (cs : List (Cell Name)) → more_texts_of (map (rename forget_name) cs) ≡ more_texts_of cs
texts-forget [] = refl
texts-forget (c ∷ cs) = ap₂ (λ t u. 44 ∷ (t ++ u)) (text_of-rename forget_name c) (texts-forget cs)

all_texts-forget : (cs : List (Cell Name)) → texts_of (map (rename forget_name) cs) ≡ texts_of cs
all_texts-forget [] = refl
all_texts-forget (c ∷ cs) = ap₂ (λ t u. t ++ u) (text_of-rename forget_name c) (texts-forget cs)

reply-forget : (r : CellReply Name) → map_reply texts_of (rename_reply forget_name r) ≡ map_reply texts_of r
reply-forget (values cs) = ap values (all_texts-forget cs)
reply-forget (raised e cs) = ap (raised e) (all_texts-forget cs)
reply-forget gone = refl

left-forget : (cs : List (Cell Name)) → map text_of (map (rename forget_name) cs) ≡ map text_of cs
left-forget [] = refl
left-forget (c ∷ cs) = ap₂ (λ t u. t ∷ u) (text_of-rename forget_name c) (left-forget cs)

recorded-forget : (a : CellAction Name) → recorded (rename_action forget_name a) ≡ recorded a
recorded-forget (make_port made) = refl
recorded-forget (make_process code made) = refl
recorded-forget (put number m) = ap (put number) (text_of-rename forget_name m)
recorded-forget (take number m) = ap (take number) (text_of-rename forget_name m)
recorded-forget (close count left) = ap (close count) (left-forget left)
recorded-forget (answer call r) = ap (answer call) (reply-forget r)
recorded-forget (hear call r) = ap (hear call) (reply-forget r)

places-forget : (p : ℕ) (w : CellWant Name) → places_for p (rename_want forget_name w) ≡ places_for p w
places-forget p new_port = refl
places-forget p (new_process code) = refl
places-forget p (to_put n m) = refl
places-forget p (to_take ports) = refl
places-forget p (to_close n) = refl
places-forget p (to_answer caller call r) = refl
places-forget p to_hear = refl

-- what is done answers what was wanted, also without names
abbrev Answered : CellWant Name → CellAction Name → Type 0
Answered w a = Answers (rename_want forget_name w) (rename_action forget_name a)

take-answers : (ports : List ℕ) (o : Option (ℕ × Cell Name)) (a : CellAction Name) → option_map (λ x. take x.0 x.1) o ≡ Some a → Answered (to_take ports) a
take-answers ports None a e = none-not_some e
take-answers ports (Some x) a e = subst (Answered (to_take ports)) (some-injective e) tt

hear-answers : (o : Option (ℕ × CellReply Name)) (a : CellAction Name) → option_map (λ x. hear x.0 x.1) o ≡ Some a → Answered to_hear a
hear-answers None a e = none-not_some e
hear-answers (Some x) a e = subst (Answered to_hear) (some-injective e) tt

done-answers : (w : CellWant Name) (h : PlaceState (Cell Name) (CellReply Name)) (a : CellAction Name) → done_at w h ≡ Some a → Answered w a
done-answers new_port (a_book b) a e = subst (Answered new_port) (some-injective e) tt
done-answers (new_process code) (a_book b) a e = subst (Answered (new_process code)) (some-injective e) refl
done-answers (to_put n m) (a_port p) a e = subst (Answered (to_put n m)) (some-injective e) refl
done-answers (to_take ports) (a_port p) a e = take-answers ports (first_of p.queue) a e
done-answers (to_close n) (a_port p) a e = subst (Answered (to_close n)) (some-injective e) (length-map (rename forget_name) (left_in p) ∙ length-map (λ q. q.1) p.queue)
done-answers (to_answer caller call r) (replies rs) a e = subst (Answered (to_answer caller call r)) (some-injective e) (refl, refl)
done-answers to_hear (replies rs) a e = hear-answers (first_of rs) a e
done-answers w h a e = none-not_some e

-- what is done answers what was wanted
take-fulfils : {M R : Type 0} (ports : List ℕ) (o : Option (ℕ × M)) (a : Action M R) → option_map (λ x. take x.0 x.1) o ≡ Some a → Answers (to_take ports) a
take-fulfils ports None a e = none-not_some e
take-fulfils ports (Some x) a e = subst (Answers (to_take ports)) (some-injective e) tt

hear-fulfils : {M R : Type 0} (o : Option (ℕ × R)) (a : Action M R) → option_map (λ x. hear x.0 x.1) o ≡ Some a → Answers to_hear a
hear-fulfils None a e = none-not_some e
hear-fulfils (Some x) a e = subst (Answers to_hear) (some-injective e) tt

pub done-fulfils : {M R : Type 0} (w : Want M R) (h : PlaceState M R) (a : Action M R) → done_at w h ≡ Some a → Answers w a
done-fulfils new_port (a_book b) a e = subst (Answers new_port) (some-injective e) tt
done-fulfils (new_process code) (a_book b) a e = subst (Answers (new_process code)) (some-injective e) refl
done-fulfils (to_put n m) (a_port p) a e = subst (Answers (to_put n m)) (some-injective e) refl
done-fulfils (to_take ports) (a_port p) a e = take-fulfils ports (first_of p.queue) a e
done-fulfils (to_close n) (a_port p) a e = subst (Answers (to_close n)) (some-injective e) (length-map (λ q. q.1) p.queue)
done-fulfils (to_answer caller call r) (replies rs) a e = subst (Answers (to_answer caller call r)) (some-injective e) (refl, refl)
done-fulfils to_hear (replies rs) a e = hear-fulfils (first_of rs) a e
done-fulfils w h a e = none-not_some e

-- one local step more, and one entry more
module _ {Q : Type 0} (machine : Machine ⊤ Q) (limit : ℕ) where
  more-steps : (n : ℕ) (s t u : Q) → local_steps machine limit n s ≡ Some t → has_local_step machine limit t ≡ true → machine.local_step t ≡ Some u → local_steps machine limit (suc n) s ≡ Some u
  more-steps zero s t u e has next =
      let first : has_local_step machine limit s ≡ true = ap (has_local_step machine limit) (some-injective e) ∙ has in
      ap (λ b. cond b (option_and_then (local_steps machine limit zero) (machine.local_step s)) None) first
      ∙ ap (option_and_then (local_steps machine limit zero)) (ap machine.local_step (some-injective e) ∙ next)
  more-steps (suc n) s t u e has next =
      let k = cond-both (has_local_step machine limit s) _ t e in
      let m = chain-some (local_steps machine limit n) (machine.local_step s) t k.1 in
      ap (λ b. cond b (option_and_then (local_steps machine limit (suc n)) (machine.local_step s)) None) k.0
      ∙ ap (option_and_then (local_steps machine limit (suc n))) m.1 ∙ more-steps n m.0 t u m.2 has next

  after-step : (n : ℕ) (s t u : Q) (es : List Entry) → IsAfter machine limit s es n t → has_local_step machine limit t ≡ true → machine.local_step t ≡ Some u → IsAfter machine limit s es (suc n) u
  after-step n s t u es (after_steps s' t' n' e) has next = after_steps s u (suc n) (more-steps n s t u e has next)
  after-step n s t u es (after_entry s' x v t' e rest k n' before still behind after) has next = after_entry s x v u e rest k (suc n) before still behind (after-step n v t u rest after has next)

  after-more : (n : ℕ) (s t u : Q) (es : List Entry) (e : Entry) → IsAfter machine limit s es n t → IsFalse (has_local_step machine limit t) → IsBehind machine t e u → IsAfter machine limit s (es ++ e ∷ []) 0 u
  after-more n s t u es e (after_steps s' t' n' made) still behind = after_entry s t u u e [] n 0 made still behind (after_steps u u 0 refl)
  after-more n s t u es e (after_entry s' x v t' f rest k n' before stays tells after) still behind = after_entry s x v u f (rest ++ e ∷ []) k 0 before stays tells (after-more n v t u rest e after still behind)

-- an entry is still there with one more, and the last one is there
in-more : {X : Type 0} (x y : X) (xs : List X) → IsIn x xs → IsIn x (xs ++ y ∷ [])
in-more x y [] i = absurd i
in-more x y (z ∷ xs) (inl e) = inl e
in-more x y (z ∷ xs) (inr i) = inr (in-more x y xs i)

in-last : {X : Type 0} (x : X) (xs : List X) → IsIn x (xs ++ x ∷ [])
in-last x [] = inl refl
in-last x (z ∷ xs) = inr (in-last x xs)

-- what suits does not depend on names
module _ {P Q : Type 0} (machine : Machine Name P) (nameless : Machine ⊤ Q) (without : P → Q) (forgets : ForgetsNames machine nameless without) where
  pub suits-nameless : (x : P) (at : ℕ) (a : CellAction Name) → Suits machine x at a → Suits nameless (without x) at (rename_action forget_name a)
  suits-nameless x at (take k m) h =
      (h.0, forgets.port_types x at ∙ h.1, message-renamed forget_name nameless.types h.0 m (subst (λ types. IsMessage types h.0 m) (sym forgets.types) h.2))
  suits-nameless x at (hear k r) h =
      (h.0, forgets.open_calls x ∙ h.1, h.2, reply-renamed forget_name nameless.types (h.0).call_type r (subst (λ types. IsReplyTo types (h.0).call_type r) (sym forgets.types) h.3))
  suits-nameless x at (make_port made) h = tt
  suits-nameless x at (make_process code made) h = tt
  suits-nameless x at (put number m) h = tt
  suits-nameless x at (close count left) h = well_made-forgotten forget_name left ∙ h
  suits-nameless x at (answer call r) h = tt

  pub nameless-suits : (x : P) (at : ℕ) (a : CellAction Name) → Suits nameless (without x) at (rename_action forget_name a) → Suits machine x at a
  nameless-suits x at (take k m) h =
      (h.0, sym (forgets.port_types x at) ∙ h.1, subst (λ types. IsMessage types h.0 m) forgets.types (renamed-message forget_name nameless.types h.0 m h.2))
  nameless-suits x at (hear k r) h =
      (h.0, sym (forgets.open_calls x) ∙ h.1, h.2, subst (λ types. IsReplyTo types (h.0).call_type r) forgets.types (renamed-reply forget_name nameless.types (h.0).call_type r h.3))
  nameless-suits x at (make_port made) h = tt
  nameless-suits x at (make_process code made) h = tt
  nameless-suits x at (put number m) h = tt
  nameless-suits x at (close count left) h = sym (well_made-forgotten forget_name left) ∙ h
  nameless-suits x at (answer call r) h = tt

  module _ (keeps : KeepsNumbers machine) (limits : Limits) where
    -- the process is what its diary says
    abbrev TellsOf : ℕ → P → List Entry → Type 0
    TellsOf p x journal = IsToldByDiary nameless machine.main limits journal p (machine.module_number x) (without x)

    record AreTelling (s : System P) (journal : List Entry) : Type 0 where
      tells : (p : ℕ) (x : P) → numbered_from_one p s.processes ≡ Some x → TellsOf p x journal
      absent : (p : ℕ) → numbered_from_one p s.processes ≡ None → part_of_process p journal ≡ []
      same_limits : s.book.limits ≡ limits
      numbered : IsNumbered machine s

    born-more : (journal : List Entry) (e : Entry) (p code k : ℕ) → IsBorn machine.main journal p code k → IsBorn machine.main (journal ++ e ∷ []) p code k
    born-more journal e p code k (inl b) = inl b
    born-more journal e p code k (inr b) = inr (b.0, in-more b.0 e journal b.1, b.2)

    -- a local step
    step-tells : (p : ℕ) (x y : P) (journal : List Entry) (limit : ℕ) (can : CellWant Name → Bool) → limit ≡ limits.steps → is_local (standing machine limit can x) ≡ true → machine.local_step x ≡ Some y →
        TellsOf p x journal → TellsOf p y journal
    step-tells p x y journal limit can same stands next k =
        let has : has_local_step nameless limits.steps (without x) ≡ true
        = ap is_local (forgets.ready limits.steps x) ∙ sym (seen-local (machine.ready limits.steps x) (can_be_done can (machine.wanted x))) ∙ ap (λ l. is_local (standing machine l can x)) (sym same) ∙ stands in
        let code = sym (keeps.local_steps x y next).1 in
        record {
          port = k.port;
          first = k.first;
          local_steps = suc k.local_steps;
          born = subst (λ i. IsBorn machine.main journal p i k.port) code k.born;
          begins = ap (λ i. nameless.begin i p (cell tt (an_inport k.port) no_parts)) (sym code) ∙ k.begins;
          comes = after-step nameless limits.steps k.local_steps k.first (without x) (without y) (part_of_process p journal) k.comes has (forgets.local_steps x ∙ ap (option_map without) next);
        }

    -- an action
    action-tells : (p : ℕ) (place : Place) (x y : P) (journal : List Entry) (limit : ℕ) (may : CellWant Name → Bool) (want : CellWant Name) (h : PlaceState (Cell Name) (CellReply Name)) (a : CellAction Name) →
        limit ≡ limits.steps → is_acting (standing machine limit may x) ≡ true → machine.number x ≡ p → machine.wanted x ≡ Some want → any_pass (same_place place) (places_for p want) ≡ true →
        done_at want h ≡ Some a → machine.answered x (number_of place) a ≡ Some y → Suits machine x (number_of place) a →
        TellsOf p x journal → TellsOf p y (journal ++ entry_behind journal p place (recorded a) ∷ [])
    action-tells p place x y journal limit may want h a same stands number wants_it at does leaves suits k =
        let e = entry_behind journal p place (recorded a) in
        let ready = (seen-acting (machine.ready limit x) (can_be_done may (machine.wanted x)) stands).0 in
        let still : IsFalse (has_local_step nameless limits.steps (without x)) = ap is_local (forgets.ready limits.steps x ∙ ap (λ l. machine.ready l x) (sym same) ∙ ready) in
        let want_told = forgets.wants x ∙ ap (option_map (rename_want forget_name)) wants_it in
        let places = ap (any_pass (same_place place)) (ap (λ q. places_for q (rename_want forget_name want)) (forgets.number x ∙ number) ∙ places-forget p want) ∙ at in
        let told : IsToldBy nameless (without x) e (rename_action forget_name a)
        = record { text = recorded-forget a; answers = (rename_want forget_name want, want_told, places, done-answers want h a does); suits = suits-nameless x (number_of place) a suits } in
        let behind : IsBehind nameless (without x) e (without y) = IsBehind.told (rename_action forget_name a) (without y) told (forgets.answers x (number_of place) a ∙ ap (option_map without) leaves) in
        let code = sym (keeps.answers x y (number_of place) a leaves).1 in
        let part = filter-kept (λ (f : Entry). nat_eq f.process p) journal e (same-true p) in
        record {
          port = k.port;
          first = k.first;
          local_steps = 0;
          born = subst (λ i. IsBorn machine.main (journal ++ e ∷ []) p i k.port) code (born-more journal e p (machine.module_number x) k.port k.born);
          begins = ap (λ i. nameless.begin i p (cell tt (an_inport k.port) no_parts)) (sym code) ∙ k.begins;
          comes = subst (λ es. IsAfter nameless limits.steps k.first es 0 (without y)) (sym part)
              (after-more nameless limits.steps k.local_steps k.first (without x) (without y) (part_of_process p journal) e k.comes still behind);
        }

    -- another process
    other-tells : (p q : ℕ) (x : P) (journal : List Entry) (e : Entry) → e.process ≡ p → nat_eq p q ≡ false → TellsOf q x journal → TellsOf q x (journal ++ e ∷ [])
    other-tells p q x journal e by differs k =
        let part = filter-passed (λ (f : Entry). nat_eq f.process q) journal e (ap (λ i. nat_eq i q) by ∙ differs) in
        record {
          port = k.port;
          first = k.first;
          local_steps = k.local_steps;
          born = born-more journal e q (machine.module_number x) k.port k.born;
          begins = k.begins;
          comes = subst (λ es. IsAfter nameless limits.steps k.first es k.local_steps (without x)) (sym part) k.comes;
        }

    -- what is found of the process that has moved
    found-tells : (p q : ℕ) (y z : P) (journal : List Entry) → TellsOf p y journal → p ≡ q → y ≡ z → TellsOf q z journal
    found-tells p q y z journal told at same = subst (λ i. TellsOf i z journal) at (subst (λ v. TellsOf p v journal) same told)

    local-event-tells : (p : ℕ) (s : System P) (m : Moved P) (journal : List Entry) → local_event machine p s ≡ Some m → IsNumbered machine m.system → AreTelling s journal → AreTelling m.system (with_entry journal (steps p) m.done)
    local-event-tells p s m journal e numbered k =
        let parts = step-parts machine p s m e in
        let local_now = sym (stands-as is_local machine s p parts.state parts.is) ∙ parts.stands in
        let same = ap (λ (l : Limits). l.steps) k.same_limits in
        let told : TellsOf p parts.left.0 journal = step-tells p parts.state parts.left.0 journal s.book.limits.steps (can s p) same local_now parts.left.1 (k.tells p parts.state parts.is) in
        subst (λ (m : Moved P). AreTelling m.system (with_entry journal (steps p) m.done)) parts.moved (record {
          tells = λ q z found. by_place parts.left.0 q z told (set-found_from_one s.processes p q parts.left.0 z found) (k.tells q z);
          absent = λ q none. k.absent q (set-absent_from_one s.processes p q parts.left.0 none);
          same_limits = k.same_limits;
          numbered = subst (λ (m : Moved P). IsNumbered machine m.system) (sym parts.moved) numbered;
        })
      where
        by_place : (y : P) (q : ℕ) (z : P) → TellsOf p y journal → ((p ≡ q) × (y ≡ z)) ⊎ (numbered_from_one q s.processes ≡ Some z) → (numbered_from_one q s.processes ≡ Some z → TellsOf q z journal) → TellsOf q z journal
        by_place y q z told (inr found) before = before found
        by_place y q z told (inl e) before = found-tells p q y z journal told e.0 e.1

    -- a process that was made
    new-tells : (maker : P) (a : CellAction Name) (u : System P) (p q : ℕ) (z : P) (journal : List Entry) (place : Place) → IsNew machine maker a u q z → machine.number z ≡ q →
        part_of_process q (journal ++ entry_behind journal p place (recorded a) ∷ []) ≡ [] → TellsOf q z (journal ++ entry_behind journal p place (recorded a) ∷ [])
    new-tells maker a u p q z journal place new number none =
        let n = new.made.1 in
        let inport = inport_of machine n maker in
        let began = keeps.begins new.module_number new.made.0 inport z new.is in
        let q_is : new.made.0 ≡ q = sym began.0 ∙ number in
        let action : recorded a ≡ make_process (machine.module_number z) (Some (q, n)) = ap recorded new.does ∙ ap (λ i. make_process new.module_number (Some (i, n))) q_is ∙ ap (λ i. make_process i (Some (q, n))) (sym began.1) in
        record {
          port = n;
          first = without z;
          local_steps = 0;
          born = inr (entry_behind journal p place (recorded a), in-last (entry_behind journal p place (recorded a)) journal, action);
          begins = ap (λ i. nameless.begin i q (cell tt (an_inport n) no_parts)) began.1 ∙ ap (λ i. nameless.begin new.module_number i (cell tt (an_inport n) no_parts)) (sym q_is)
              ∙ forgets.begins new.module_number new.made.0 inport ∙ ap (option_map without) new.is;
          comes = subst (λ es. IsAfter nameless limits.steps (without z) es 0 (without z)) (sym none) (after_steps (without z) (without z) 0 refl);
        }

    moved-tells : (s : System P) (place : Place) (h : PlaceState (Cell Name) (CellReply Name)) (p q : ℕ) (x y z : P) (journal : List Entry) (e : Entry) → AreTelling s journal → e.process ≡ p →
        numbered_from_one p s.processes ≡ Some x → TellsOf p y (journal ++ e ∷ []) →
        numbered_from_one q (set_process p y (set_holding place h s)).processes ≡ Some z → TellsOf q z (journal ++ e ∷ [])
    moved-tells s place h p q x y z journal e k by is told found = by_test (nat_eq p q) refl
      where
        stay : (set_holding place h s).processes ≡ s.processes
        stay = processes-stay place h s

        by_test : (b : Bool) → nat_eq p q ≡ b → TellsOf q z (journal ++ e ∷ [])
        by_test true same =
            let at : p ≡ q = eqb-true p q same in
            let mine = get-set_from_one (set_holding place h s).processes p x y (ap (numbered_from_one p) stay ∙ is) in
            found-tells p q y z (journal ++ e ∷ []) told at (some-injective (sym mine ∙ ap (λ i. numbered_from_one i (set_process p y (set_holding place h s)).processes) at ∙ found))
        by_test false differs =
            other-tells p q z journal e by differs
            (k.tells q z (sym (ap (numbered_from_one q) stay) ∙ sym (get-other_from_one (set_holding place h s).processes p q y differs) ∙ found))

    absent-part : (s : System P) (p q : ℕ) (x : P) (journal : List Entry) (e : Entry) → AreTelling s journal → e.process ≡ p → numbered_from_one p s.processes ≡ Some x → numbered_from_one q s.processes ≡ None → part_of_process q (journal ++ e ∷ []) ≡ []
    absent-part s p q x journal e k by is none = by_test (nat_eq p q) refl
      where
        by_test : (b : Bool) → nat_eq p q ≡ b → part_of_process q (journal ++ e ∷ []) ≡ []
        by_test true same = none-not_some (sym none ∙ sym (ap (λ i. numbered_from_one i s.processes) (eqb-true p q same)) ∙ is)
        by_test false differs = filter-passed (λ (f : Entry). nat_eq f.process q) journal e (ap (λ i. nat_eq i q) by ∙ differs) ∙ k.absent q none

    -- behind an action of a process at a place
    module _ (s t : System P) (p : ℕ) (place : Place) (x y : P) (h : PlaceState (Cell Name) (CellReply Name)) (a : CellAction Name) (journal : List Entry)
        (k : AreTelling s journal) (is : numbered_from_one p s.processes ≡ Some x)
        (told : TellsOf p y (journal ++ entry_behind journal p place (recorded a) ∷ [])) (makes : with_made machine x a (set_process p y (set_holding place h s)) ≡ Some t) (numbered : IsNumbered machine t) where
      found-in : (q : ℕ) (z : P) → numbered_from_one q t.processes ≡ Some z →
          (numbered_from_one q (set_process p y (set_holding place h s)).processes ≡ Some z) ⊎ IsNew machine x a (set_process p y (set_holding place h s)) q z → TellsOf q z (journal ++ entry_behind journal p place (recorded a) ∷ [])
      found-in q z found (inl before) = moved-tells s place h p q x y z journal (entry_behind journal p place (recorded a)) k refl is told before
      found-in q z found (inr new) =
          new-tells x a (set_process p y (set_holding place h s)) p q z journal place new (numbered.processes q z found).0
          (absent-part s p q x journal (entry_behind journal p place (recorded a)) k refl is (unmoved-absent s place h p q y new.at))

      action-all : (q : ℕ) (z : P) → numbered_from_one q t.processes ≡ Some z → TellsOf q z (journal ++ entry_behind journal p place (recorded a) ∷ [])
      action-all q z found = found-in q z found (made-found machine x a (set_process p y (set_holding place h s)) t q z makes found)

      action-absent : (q : ℕ) → numbered_from_one q t.processes ≡ None → part_of_process q (journal ++ entry_behind journal p place (recorded a) ∷ []) ≡ []
      action-absent q none = absent-part s p q x journal (entry_behind journal p place (recorded a)) k refl is (unmoved-absent s place h p q y (made-absent machine x a (set_process p y (set_holding place h s)) t q makes none))

    action-event-tells : (p : ℕ) (place : Place) (s : System P) (m : Moved P) (journal : List Entry) → action_event machine p place s ≡ Some m → EventSuits machine (acts p place) s → IsNumbered machine m.system → AreTelling s journal → AreTelling m.system (with_entry journal (acts p place) m.done)
    action-event-tells p place s m journal e suits numbered k =
        let parts = action-parts machine p place s m e in
        let acting_now = sym (stands-as is_acting machine s p parts.state parts.is) ∙ parts.stands in
        let same = ap (λ (l : Limits). l.steps) k.same_limits in
        let suit = suits parts.state m parts.did.0 parts.is e (sym (ap (λ (m : Moved P). m.done) parts.moved)) in
        let told : TellsOf p parts.left.0 (journal ++ entry_behind journal p place (recorded parts.did.0) ∷ []) =
        action-tells p place parts.state parts.left.0 journal s.book.limits.steps (can s p) parts.want.0 parts.at.0 parts.did.0 same acting_now (k.numbered.processes p parts.state parts.is).0 parts.want.1 parts.there parts.did.1 parts.left.1 suit (k.tells p parts.state parts.is) in
        let now : IsNumbered machine parts.makes.0 = subst (λ (m : Moved P). IsNumbered machine m.system) (sym parts.moved) numbered in
        subst (λ (m : Moved P). AreTelling m.system (with_entry journal (acts p place) m.done)) parts.moved (record {
          tells = action-all s parts.makes.0 p place parts.state parts.left.0 (after parts.did.0 parts.at.0) parts.did.0 journal k parts.is told parts.makes.1 now;
          absent = action-absent s parts.makes.0 p place parts.state parts.left.0 (after parts.did.0 parts.at.0) parts.did.0 journal k parts.is told parts.makes.1 now;
          same_limits = ap (λ (b : Book). b.limits) (made-book machine parts.state parts.did.0 (set_process p parts.left.0 (set_holding place (after parts.did.0 parts.at.0) s)) parts.makes.0 parts.makes.1) ∙ place-limits place parts.at.0 parts.did.0 s parts.at.1 ∙ k.same_limits;
          numbered = now;
        })

    step-tells-all : (e : Event) (s : System P) (m : Moved P) (journal : List Entry) → step machine e s ≡ Some m → EventSuits machine e s → AreTelling s journal → AreTelling m.system (with_entry journal e m.done)
    step-tells-all (steps p) s m journal is suits k = local-event-tells p s m journal is (step-numbered machine keeps (steps p) s m is k.numbered) k
    step-tells-all (acts p place) s m journal is suits k = action-event-tells p place s m journal is suits (step-numbered machine keeps (acts p place) s m is k.numbered) k

    run-tells : (events : List Event) (r t : Run P) → run machine events r ≡ Some t → SuitsAlong machine events r → AreTelling r.system r.journal → AreTelling t.system t.journal
    run-tells [] r t is suits k = subst (λ (x : Run P). AreTelling x.system x.journal) (some-injective is) k
    run-tells (e ∷ events) r t is suits k =
        let b = chain-some (run machine events) (run_on machine e r) t is in
        let m = map-some (λ (m : Moved P). record { system = m.system; journal = with_entry r.journal e m.done }) (step machine e r.system) b.0 b.1 in
        run-tells events b.0 t b.2 (suits.1 b.0 b.1) (subst (λ (x : Run P). AreTelling x.system x.journal) m.2 (step-tells-all e r.system m.0 r.journal m.1 suits.0 k))

    first-tells : (main : P) (p : ℕ) (x : P) → machine.begin machine.main 1 main_port ≡ Some main → numbered_from_one p (main ∷ []) ≡ Some x → TellsOf p x []
    first-tells main zero x is found = none-not_some found
    first-tells main (suc (suc p)) x is found = none-not_some found
    first-tells main (suc zero) x is found =
        let began = keeps.begins machine.main 1 main_port main is in
        subst (λ v. TellsOf 1 v []) (some-injective found) (record {
          port = 1;
          first = without main;
          local_steps = 0;
          born = inl (refl, began.1, refl);
          begins = ap (λ i. nameless.begin i 1 (cell tt (an_inport 1) no_parts)) began.1 ∙ forgets.begins machine.main 1 main_port ∙ ap (option_map without) is;
          comes = after_steps (without main) (without main) 0 refl;
        })

    opening-tells : (argument : Text) (main : P) → machine.begin machine.main 1 main_port ≡ Some main → AreTelling (opening machine limits argument) []
    opening-tells argument main is =
        let alone : (opening machine limits argument).processes ≡ main ∷ [] = ap (list_of (λ x. x ∷ [])) is in
        record {
          tells = λ p x found. first-tells main p x is (sym (ap (numbered_from_one p) alone) ∙ found);
          absent = λ p none. refl;
          same_limits = refl;
          numbered = opening-numbered machine keeps limits argument main is;
        }

pub diaries-tell : {P Q : Type 0} (machine : Machine Name P) (nameless : Machine ⊤ Q) (without : P → Q) → ForgetsNames machine nameless without → KeepsNumbers machine → DiariesTell machine nameless without
diaries-tell machine nameless without forgets keeps limits argument main events r is runs suits p x =
    (run-tells machine nameless without forgets keeps limits events (start machine limits argument) r runs suits (opening-tells machine nameless without forgets keeps limits argument main is)).tells p x
