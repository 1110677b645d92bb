-- A diary leads to one state.
use Rattle.std.proofs.Common.{◌≡◌, ℕ, zero, suc, List, [], ◌∷◌, ◌++◌, Option, Some, None, refl, sym, ap, ap₂, subst, ◌∙◌, true≢false}
use Rattle.std.specs.Prelude.{IsFalse, ⊤}
use Rattle.herm_model.specs.Types.{TypeTable}
use Rattle.herm_model.specs.Values.{Value}
use Rattle.herm_model.specs.ValueTexts.{text_of, begins_with_digit}
use Rattle.herm_model.specs.Typed.{whole, partly}
use Rattle.herm_model.proofs.Options.{some-injective, none-not_some, chain-some}
use Rattle.herm_model.proofs.Spelling.{text-split}
use Rattle.herm_model.proofs.UntypedSpelling.{lists-split}
use Rattle.herm_journal.specs.Actions.{Reply, values, raised, gone, new_port, new_process, to_put, to_take, to_close, to_answer, to_hear, make_port, make_process, put, take, close, answer, hear}
use Rattle.herm_journal.specs.Entries.{Text, Entry, Record, map_reply, texts_of, more_texts_of, recorded}
use Rattle.herm_journal.specs.Messages.{CellReply, CellWant, CellAction, OfType, message_of_port, IsMessage, AreFull, types_back, types_kept, IsReplyTo}
use Rattle.herm_system.specs.Machines.{Machine, OpenCall}
use Rattle.herm_system.specs.Systems.{number_of}
use Rattle.herm_system.specs.Suiting.{has_local_step, local_steps, Answers, Suits}
use Rattle.herm_system.specs.PutAside.{IsBehind}
use Rattle.herm_system.specs.DiaryStates.{IsAfter, after_steps, after_entry}
use Rattle.herm_runs.specs.laws.DiaryLaws.{EntriesTellOneAction, DiariesLeadToOneState}
use Rattle.herm_runs.proofs.ActionParts.{cond-both}

-- what a recorded action has, by its kind
abbrev port_made : Record → Option (Option ℕ)
port_made (make_port made) = Some made
port_made a = None

abbrev process_made : Record → Option (Option (ℕ × ℕ))
process_made (make_process code made) = Some made
process_made a = None

abbrev number_put : Record → Option (Option ℕ)
number_put (put number m) = Some number
number_put a = None

abbrev text_taken : Record → Option (ℕ × Text)
text_taken (take number m) = Some (number, m)
text_taken a = None

abbrev pub texts_left : Record → Option (ℕ × List Text)
texts_left (close count left) = Some (count, left)
texts_left a = None

abbrev text_heard : Record → Option (ℕ × Reply Text)
text_heard (hear call r) = Some (call, r)
text_heard a = None

abbrev text_back : Reply Text → Option Text
text_back (values t) = Some t
text_back r = None

abbrev text_kept : Reply Text → Option (ℕ × Text)
text_kept (raised e t) = Some (e, t)
text_kept r = None

-- a list without its first byte
abbrev rest_of : Text → Text
rest_of [] = []
rest_of (b ∷ bytes) = bytes

more-no_digit : (cs : List Value) → IsFalse (begins_with_digit (more_texts_of cs))
more-no_digit [] = refl
more-no_digit (c ∷ cs) = refl

module _ (types : TypeTable) where
  -- a message is told by its text
  typed-told : (o : Option ℕ) (a b : Value) → OfType types o a → OfType types o b → text_of a ≡ text_of b → a ≡ b
  typed-told None a b h g e = absurd h
  typed-told (Some t) a b h g e = (text-split types a partly t b [] [] h g refl refl (ap (λ t. t ++ []) e)).0

  message-told : (t u : ℕ) (a b : Value) → t ≡ u → IsMessage types t a → IsMessage types u b → text_of a ≡ text_of b → a ≡ b
  message-told t u a b same h g e = typed-told (message_of_port types t) a b h.0 (subst (λ i. IsMessage types i b) (sym same) g).0 e

  -- full values of a list of types are told by their text
  more-told : (ts : List ℕ) (cs ds : List Value) → AreFull types ts cs → AreFull types ts ds → more_texts_of cs ≡ more_texts_of ds → cs ≡ ds
  more-told [] [] [] h g e = refl
  more-told [] [] (d ∷ ds) h g e = absurd g
  more-told [] (c ∷ cs) ds h g e = absurd h
  more-told (t ∷ ts) [] ds h g e = absurd h
  more-told (t ∷ ts) (c ∷ cs) [] h g e = absurd g
  more-told (t ∷ ts) (c ∷ cs) (d ∷ ds) h g e =
      let x = text-split types c whole t d (more_texts_of cs) (more_texts_of ds) h.0 g.0 (more-no_digit cs) (more-no_digit ds) (ap rest_of e) in
      ap₂ (λ c cs. c ∷ cs) x.0 (more-told ts cs ds h.1 g.1 x.1)

  full-told : (ts : List ℕ) (cs ds : List Value) → AreFull types ts cs → AreFull types ts ds → texts_of cs ≡ texts_of ds → cs ≡ ds
  full-told [] [] [] h g e = refl
  full-told [] [] (d ∷ ds) h g e = absurd g
  full-told [] (c ∷ cs) ds h g e = absurd h
  full-told (t ∷ ts) [] ds h g e = absurd h
  full-told (t ∷ ts) (c ∷ cs) [] h g e = absurd g
  full-told (t ∷ ts) (c ∷ cs) (d ∷ ds) h g e =
      let x = text-split types c whole t d (more_texts_of cs) (more_texts_of ds) h.0 g.0 (more-no_digit cs) (more-no_digit ds) e in
      ap₂ (λ c cs. c ∷ cs) x.0 (more-told ts cs ds h.1 g.1 x.1)

  -- a reply is told by its text and the call
  kept-told : (call : Option ℕ) (i j : ℕ) (cs ds : List Value) → i ≡ j → AreFull types (types_kept types call i) cs → AreFull types (types_kept types call j) ds → texts_of cs ≡ texts_of ds → raised i cs ≡ raised j ds
  kept-told call i j cs ds same h g e = ap₂ raised same (full-told (types_kept types call i) cs ds h (subst (λ k. AreFull types (types_kept types call k) ds) (sym same) g) e)

  reply-told : (call : Option ℕ) (a b : CellReply ⊤) → IsReplyTo types call a → IsReplyTo types call b → map_reply texts_of a ≡ map_reply texts_of b → a ≡ b
  reply-told call (values cs) (values ds) h g e = ap values (full-told (types_back types call) cs ds h g (some-injective (ap text_back e)))
  reply-told call (raised i cs) (raised j ds) h g e =
      let x = some-injective (ap text_kept e) in kept-told call i j cs ds (ap (λ y. y.0) x) h.1 g.1 (ap (λ y. y.1) x)
  reply-told call gone gone h g e = refl
  reply-told call (values cs) (raised j ds) h g e = none-not_some (sym (ap text_back e))
  reply-told call (values cs) gone h g e = none-not_some (sym (ap text_back e))
  reply-told call (raised i cs) (values ds) h g e = none-not_some (ap text_back e)
  reply-told call (raised i cs) gone h g e = none-not_some (sym (ap text_kept e))
  reply-told call gone (values ds) h g e = none-not_some (ap text_back e)
  reply-told call gone (raised j ds) h g e = none-not_some (ap text_kept e)

  reply-same : (c d : OpenCall) (a b : CellReply ⊤) → c ≡ d → IsReplyTo types c.call_type a → IsReplyTo types d.call_type b → map_reply texts_of a ≡ map_reply texts_of b → a ≡ b
  reply-same c d a b same h g e = reply-told c.call_type a b h (subst (λ (k : OpenCall). IsReplyTo types k.call_type b) (sym same) g) e

module _ {P : Type 0} (machine : Machine ⊤ P) where
  -- what answers one want at one place, suits and has the same texts is one action
  action-told : (x : P) (at : ℕ) (w : CellWant ⊤) (a b : CellAction ⊤) → Answers w a → Answers w b → Suits machine x at a → Suits machine x at b → recorded a ≡ recorded b → a ≡ b
  action-told x at new_port (make_port m) (make_port n) f g h k e = ap make_port (some-injective (ap port_made e))
  action-told x at new_port (make_port m) b f g h k e = absurd g
  action-told x at new_port a b f g h k e = absurd f
  action-told x at (new_process code) (make_process c m) (make_process d n) f g h k e = ap₂ make_process (sym f ∙ g) (some-injective (ap process_made e))
  action-told x at (new_process code) (make_process c m) b f g h k e = absurd g
  action-told x at (new_process code) a b f g h k e = absurd f
  action-told x at (to_put p s) (put i m) (put j n) f g h k e = ap₂ put (some-injective (ap number_put e)) (sym f ∙ g)
  action-told x at (to_put p s) (put i m) b f g h k e = absurd g
  action-told x at (to_put p s) a b f g h k e = absurd f
  action-told x at (to_take ports) (take i m) (take j n) f g h k e =
      let t = some-injective (ap text_taken e) in
      ap₂ take (ap (λ y. y.0) t) (message-told machine.types h.0 k.0 m n (some-injective (sym h.1 ∙ k.1)) h.2 k.2 (ap (λ y. y.1) t))
  action-told x at (to_take ports) (take i m) b f g h k e = absurd g
  action-told x at (to_take ports) a b f g h k e = absurd f
  action-told x at (to_close p) (close i ms) (close j ns) f g h k e =
      let t = some-injective (ap texts_left e) in ap₂ close (ap (λ y. y.0) t) (lists-split ms ns h k (ap (λ y. y.1) t))
  action-told x at (to_close p) (close i ms) b f g h k e = absurd g
  action-told x at (to_close p) a b f g h k e = absurd f
  action-told x at (to_answer caller call r) (answer i m) (answer j n) f g h k e = ap₂ answer (sym f.0 ∙ g.0) (sym f.1 ∙ g.1)
  action-told x at (to_answer caller call r) (answer i m) b f g h k e = absurd g
  action-told x at (to_answer caller call r) a b f g h k e = absurd f
  action-told x at to_hear (hear i m) (hear j n) f g h k e =
      let t = some-injective (ap text_heard e) in
      ap₂ hear (ap (λ y. y.0) t) (reply-same machine.types h.0 k.0 m n (some-injective (sym h.1 ∙ k.1)) h.3 k.3 (ap (λ y. y.1) t))
  action-told x at to_hear (hear i m) b f g h k e = absurd g
  action-told x at to_hear a b f g h k e = absurd f

  pub one-action : EntriesTellOneAction machine
  one-action x e a b h k =
      let same : (h.answers).0 ≡ (k.answers).0 = some-injective (sym (h.answers).1 ∙ (k.answers).1) in
      action-told x (number_of e.place) (h.answers).0 a b (h.answers).3 (subst (λ w. Answers w b) (sym same) (k.answers).3) h.suits k.suits (h.text ∙ sym k.text)

  -- behind an entry there is one state
  one-behind : (x v w : P) (e : Entry) → IsBehind machine x e v → IsBehind machine x e w → v ≡ w
  one-behind x v w e (IsBehind.told a v' h f) (IsBehind.told b w' k g) =
      some-injective (sym f ∙ ap (machine.answered x (number_of e.place)) (one-action x e a b h k) ∙ g)
  one-behind x v w e (IsBehind.told a v' h f) (IsBehind.aside none) = absurd (none a h)
  one-behind x v w e (IsBehind.aside none) (IsBehind.told b w' k g) = absurd (none b k)
  one-behind x v w e (IsBehind.aside none) (IsBehind.aside none') = refl

  -- behind all local steps that there are, there is one state
  no-step : {A : Type 0} (limit n : ℕ) (s t u : P) → Some s ≡ Some t → IsFalse (has_local_step machine limit t) → local_steps machine limit (suc n) s ≡ Some u → A
  no-step limit n s t u e still f =
      let has = cond-both (has_local_step machine limit s) _ u f in
      absurd (true≢false (sym has.0 ∙ ap (has_local_step machine limit) (some-injective e) ∙ still))

  one-still : (limit k n : ℕ) (s t u : P) → local_steps machine limit k s ≡ Some t → IsFalse (has_local_step machine limit t) → local_steps machine limit n s ≡ Some u → IsFalse (has_local_step machine limit u) → t ≡ u
  one-still limit zero zero s t u e still f rest = some-injective (sym e ∙ f)
  one-still limit zero (suc n) s t u e still f rest = no-step limit n s t u e still f
  one-still limit (suc k) zero s t u e still f rest = no-step limit k s u t f rest e
  one-still limit (suc k) (suc n) s t u e still f rest =
      let a = cond-both (has_local_step machine limit s) _ t e in
      let b = cond-both (has_local_step machine limit s) _ u f in
      let x = chain-some (local_steps machine limit k) (machine.local_step s) t a.1 in
      let y = chain-some (local_steps machine limit n) (machine.local_step s) u b.1 in
      let same : y.0 ≡ x.0 = some-injective (sym y.1 ∙ x.1) in
      one-still limit k n x.0 t u x.2 still (ap (local_steps machine limit n) (sym same) ∙ y.2) rest

  pub one-state : DiariesLeadToOneState machine
  one-state limit s t u entries n (after_steps s' t' n' e) (after_steps s'' u' n'' f) = some-injective (sym e ∙ f)
  one-state limit s t u entries n (after_entry s' v w t' e es k n' a still b rest) (after_entry s'' v' w' u' e' es' k' n'' a' still' b' rest') =
      let v_same : v' ≡ v = one-still limit k' k s v' v a' still' a still in
      let w_same : w' ≡ w = one-behind v w' w e (subst (λ x. IsBehind machine x e w') v_same b') b in
      one-state limit w t u es n rest (subst (λ x. IsAfter machine limit x es n u) w_same rest')
