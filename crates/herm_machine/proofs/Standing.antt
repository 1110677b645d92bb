-- What a machine stands for, behind what was done.
use Rattle.std.proofs.Common.{◌≡◌, ◌⊎◌, ◌↔◌, inl, inr, ℕ, zero, suc, arith, List, [], ◌∷◌, map, length, Bool, true, false, Option, Some, None, option_map, option_and_then, refl, sym, ap, ap₂, subst, ◌∙◌, true≢false}
use Rattle.std.proofs.lemmas.Option.{slice_get-get_or, slice_get-map}
use Rattle.std.specs.Prelude.{slice_get, ◌<◌, ⊤}
use Rattle.herm_model.specs.Values.{Name, Value, an_inport}
use Rattle.herm_model.specs.ValueTexts.{text_of}
use Rattle.herm_model.proofs.Lists.{length-map}
use Rattle.herm_model.proofs.Options.{none-not_some, some-injective, chain-some, map-some}
use Rattle.herm_journal.specs.Actions.{new_port, new_process, to_put, to_take, to_close, to_answer, to_hear, put, close, answer, hear}
use Rattle.herm_journal.specs.Messages.{CellAction, CellReply, CellWant}
use Rattle.herm_journal.specs.Renaming.{forget_name}
use Rattle.herm_model.specs.Lists.{list_of, total}
use Rattle.herm_journal.specs.Weights.{weigh}
use Rattle.herm_forms.specs.Weights.{weight_held}
use Rattle.herm_system.specs.Ledger.{held_by}
use Rattle.herm_system.specs.Machines.{Held, OpenCall, ended}
use Rattle.herm_system.specs.Suiting.{Answers, Suits}
use Rattle.herm_instructions.specs.Images.{Image}
use Rattle.herm_code_machine.specs.CodeInstance.{code_at, code_machine, own_name, ready_if}
use Rattle.herm_code_machine.specs.CodeSeen.{code_held, code_open_call, type_of_call}
use Rattle.herm_code_machine.specs.CodeStates.{CodeState, Position, at_index, at_end, at_end_by, code_begin}
use Rattle.herm_code_machine.specs.CodeSteps.{CodeNext, an_item, a_reply, an_action, a_local_piece, nothing, call_or_piece, code_answered, code_local_step, code_next, code_wanted, item_or, met_at, ready_for}
use Rattle.herm_code_machine.specs.Pieces.{Met, Piece}
use Rattle.herm_code_machine.specs.ReadyCode.{ReadyCode, labelled_image, ready_code}
use Rattle.herm_code_machine.specs.laws.GoodImageLaws.{IsGoodOver}
use Rattle.herm_code_machine.specs.laws.StandingLaws.{IsAtEnd}
use Rattle.herm_code_machine.proofs.instance.CodeHeld.{weigh-held}
use Rattle.herm_code_machine.proofs.ReadyProcesses.{processes-stand_so}
use Rattle.herm_code_machine.proofs.renamed.CodeRenamed.{code_next-renamed, rename_next}
use Rattle.herm_code.specs.View.{CodeImage, image_view, module_view}
use Rattle.herm_instructions.specs.Places.{label_at}
use Rattle.herm_values.specs.View.{leaf, value_view}
use Rattle.herm_letters.specs.View.{reply_view}
use Rattle.herm_exchanges.specs.Told.{Told, a_port, a_process, a_put, a_take, a_close, an_answer, a_hearing, told, want_view}
use Rattle.herm_exchanges.specs.declared.wants.Want.{Want}
use Rattle.herm_exchanges.specs.declared.wants.Want.TheVariants as wants
use Rattle.herm_steps.specs.Behind.{IsBehind}
use Rattle.herm_steps.specs.Coming.{Coming, coming, coming_item, coming_reply, coming_action, coming_piece, coming_nothing, end_at, ended_at, wants_nothing}
use Rattle.herm_steps.specs.HeldStates.{HeldState}
use Rattle.herm_steps.specs.SoundSteps.{SoundStepsAreMade}
use Rattle.herm_steps.specs.StandingAt.{StandsAt}
use Rattle.herm_answers.specs.Incomings.{message_taken, port_made, process_made}
use Rattle.herm_answers.specs.Orders.{HoldsOrder}
use Rattle.herm_machine.specs.Gots.{Fits, FitsWant, HearsOpen, IsFrom, IsOrdered, IsSuiting, TellsGot}
use Rattle.herm_letters.specs.LettersInOrder.{QueueState}
use Rattle.herm_machine.specs.Kinds.{IsClosing}
use Rattle.herm_machine.specs.Machines.{HasOut, IsAt, IsOut, IsSoundState, IsTakeWanted, MachineState, Reaches, StandsFor, code_of, end_of, gives_away, nameless}
use Rattle.herm_machine.specs.declared.order.Got.{Got}
use Rattle.herm_machine.specs.declared.order.Got.TheVariants as gots
use Rattle.herm_machine.proofs.SoundStates.{GoesTo, answer-here, aside-sound, answer-sound, begun-sound, code-here, step-here, step-sound, wanted-here, wants-there}
use Rattle.herm_machine.proofs.Wanted.{nothing-wanted, want-at, IsWantOf}

-- all states at which a process stands have the same next
pub next-same : (c : ReadyCode) (p : HeldState) (s t : CodeState ⊤) → StandsAt p s → StandsAt p t → code_next c s ≡ code_next c t
next-same c p s t h k = ap₂ item_or (h.frame.work ∙ sym k.frame.work) (ap₂ (call_or_piece c) (h.position ∙ sym k.position) (h.frame.call ∙ sym k.frame.call))

module _ (image : Image) (main : ℕ) where
  -- the process was led to a sound state behind
  pub record Moved (c : ReadyCode) (r : Bool) (new : HeldState) (o : Option (CodeState ⊤)) : Type 0 where
    pub goes : r ≡ true
    pub behind : CodeState ⊤
    pub is : o ≡ Some behind
    pub sound : IsSoundState image main c behind
    pub stands : StandsAt new behind

  pub moved : (c : ReadyCode) (r : Bool) (new : HeldState) (s : CodeState ⊤) (o o' : Option (CodeState ⊤)) → GoesTo image main c o → o ≡ o' → IsBehind r new s o' → Moved c r new o
  moved c false new s o o' g same h = none-not_some (sym h ∙ sym same ∙ g.is)
  moved c true new s o o' g same h =
      record { goes = refl; behind = g.behind; is = g.is; sound = g.sound; stands = subst (StandsAt new) (some-injective (sym h.1 ∙ sym same ∙ g.is)) h.3 }

  -- the state that is made of one that was led behind
  pub stands-moved : (m : MachineState) (c : ReadyCode) (r : Bool) (o : Option (CodeState ⊤)) → Moved c r m.held o → m.is_dead ≡ false → m.order ≡ None → code_of m ≡ c → Reaches image main m o
  stands-moved m c r o h alive inside same =
      (h.behind, h.is, record { alive = alive; inside = inside; sound = subst (λ c. IsSoundState image main c h.behind) (sym same) h.sound; stands = h.stands })

  -- a process begins
  pub process-begun : (exceptions : ℕ) → IsGoodOver exceptions image → (c : ReadyCode) (code number port : ℕ) (new : HeldState) (s : CodeState ⊤) → slice_get (labelled_image image main).codes code ≡ Some c → IsBehind true new s (code_begin forget_name c code number (leaf (an_inport port)))
      → Moved c true new ((nameless image main).begin code number (leaf (an_inport port)))
  process-begun exceptions good c code number port new s there h =
      moved c true new s _ (code_begin forget_name c code number (leaf (an_inport port))) (begun-sound image main exceptions good c code number port there)
      (ap (option_and_then (λ c. code_begin forget_name c code number (leaf (an_inport port)))) there) h

  pub not-begun : {A : Type 0} (exceptions : ℕ) → IsGoodOver exceptions image → (c : ReadyCode) (code number port : ℕ) → slice_get (labelled_image image main).codes code ≡ Some c → code_begin forget_name c code number (leaf (an_inport port)) ≡ None → A
  not-begun exceptions good c code number port there none =
      let g = begun-sound image main exceptions good c code number port there in
      none-not_some (sym none ∙ sym (ap (option_and_then (λ c. code_begin forget_name c code number (leaf (an_inport port)))) there) ∙ g.is)

  -- a sound process at which nothing comes next is at an end
  no-next : (n : CodeNext Name) → coming (rename_next forget_name own_name n) ≡ coming_nothing → n ≡ nothing
  no-next (an_item item work) e = absurd (let k : ⊥ = cc in k)
  no-next (a_reply call i instruction) e = absurd (let k : ⊥ = cc in k)
  no-next (an_action p m) e = absurd (let k : ⊥ = cc in k)
  no-next (a_local_piece p) e = absurd (let k : ⊥ = cc in k)
  no-next nothing e = refl

  at-an_end : {A : Type 0} (p : Position) → IsAtEnd p → end_at p ≡ None → A
  at-an_end (at_index i) h e = absurd h
  at-an_end at_end h e = none-not_some (sym e)
  at-an_end (at_end_by x) h e = none-not_some (sym e)

  ends-there : {A : Type 0} (c : ReadyCode) (s : CodeState ⊤) → IsSoundState image main c s → coming (code_next c s) ≡ coming_nothing → end_of c s ≡ None → A
  ends-there c s h next end =
      let x = h.named in
      let none = no-next (code_next c x) (ap coming (sym (code_next-renamed forget_name own_name c x)) ∙ ap (λ s. coming (code_next c s)) h.same ∙ next) in
      let stands = (processes-stand_so (labelled_image image main) 0 x h.sound c h.code ended).0 (ap (ready_if 0 x) h.code ∙ ap (ready_for 0 x.frame) none) in
      let here : IsAtEnd s.position = subst (λ (s : CodeState ⊤). IsAtEnd s.position) h.same stands.2 in
      at-an_end s.position here (sym (ap (λ k. ended_at k s.position) next) ∙ end)

  -- where nothing is wanted and the process has not ended, a local piece is next
  by-coming : (c : ReadyCode) (s : CodeState ⊤) → IsSoundState image main c s → (nameless image main).wanted s ≡ None → end_of c s ≡ None → (k : Coming) → coming (code_next c s) ≡ k → (p : Piece) × (coming (code_next c s) ≡ coming_piece p)
  by-coming c s h none end coming_item e = let w = wants-there image main c s h (ap wants_nothing e) in none-not_some (sym none ∙ w.1)
  by-coming c s h none end (coming_reply i instruction) e = let w = wants-there image main c s h (ap wants_nothing e) in none-not_some (sym none ∙ w.1)
  by-coming c s h none end (coming_action p m) e = let w = wants-there image main c s h (ap wants_nothing e) in none-not_some (sym none ∙ w.1)
  by-coming c s h none end (coming_piece p) e = (p, e)
  by-coming c s h none end coming_nothing e = ends-there c s h e end

  -- then one is next at every state at which it stands
  pub local-known : (m : MachineState) (s : CodeState ⊤) → IsAt image main m s → (nameless image main).wanted s ≡ None → end_of (code_of m) s ≡ None → (t : CodeState ⊤) → StandsAt m.held t → (p : Piece) × (coming (code_next (code_of m) t) ≡ coming_piece p)
  local-known m s (inl h) none end t at = let p = by-coming (code_of m) s h.sound none end (coming (code_next (code_of m) s)) refl in (p.0, ap coming (next-same (code_of m) m.held t s at h.stands) ∙ p.1)
  local-known m s (inr h) none end t at = none-not_some (ap (option_and_then told) (sym none) ∙ h.wanted)

  pub record Stepped (m : MachineState) (r : Bool) (new : HeldState) (o : Option (CodeState ⊤)) : Type 0 where
    pub goes : r ≡ true
    pub behind : CodeState ⊤
    pub is : o ≡ Some behind
    pub sound : IsSoundState image main (code_of m) behind
    pub stands : StandsAt new behind
    pub inside : m.order ≡ None

  pub stepped : SoundStepsAreMade → (m : MachineState) (s : CodeState ⊤) (r : Bool) (new : HeldState) → IsAt image main m s → (nameless image main).wanted s ≡ None → end_of (code_of m) s ≡ None
      → (StandsAt m.held s → IsBehind r new s (code_local_step forget_name (code_of m) s)) → Stepped m r new ((nameless image main).local_step s)
  stepped made m s r new (inl h) none end behind =
      let p = by-coming (code_of m) s h.sound none end (coming (code_next (code_of m) s)) refl in
      let g = moved (code_of m) r new s _ (code_local_step forget_name (code_of m) s) (step-sound image main made (code_of m) s p.0 h.sound p.1) (step-here image main (code_of m) s h.sound) (behind h.stands) in
      record { goes = g.goes; behind = g.behind; is = g.is; sound = g.sound; stands = g.stands; inside = h.inside }
  stepped made m s r new (inr h) none end behind = none-not_some (ap (option_and_then told) (sym none) ∙ h.wanted)

  -- what is told of what is wanted
  pub told-want : (c : ReadyCode) (s : CodeState ⊤) (o : Option Want) → IsSoundState image main c s → ((w : CellWant ⊤) → code_wanted forget_name c s ≡ Some w → option_map want_view o ≡ told w) → (wants_nothing (coming (code_next c s)) ≡ true → o ≡ None)
      → option_map want_view o ≡ option_and_then told ((nameless image main).wanted s)
  told-want c s o h want none = by (wants_nothing (coming (code_next c s))) refl
    where
      by : (b : Bool) → wants_nothing (coming (code_next c s)) ≡ b → option_map want_view o ≡ option_and_then told ((nameless image main).wanted s)
      by true e = ap (option_map want_view) (none e) ∙ sym (ap (option_and_then told) (wanted-here image main c s h ∙ nothing-wanted c s e))
      by false e = let w = wants-there image main c s h e in want w.0 (sym (wanted-here image main c s h) ∙ w.1) ∙ sym (ap (option_and_then told) w.1)

  -- by whether an order is out
  pub inside-at : {A : Type 0} (m : MachineState) (s : CodeState ⊤) → m.order ≡ None → IsAt image main m s → (StandsFor image main m s → A) → A
  inside-at m s none (inl h) f = f h
  inside-at m s none (inr h) f = none-not_some (sym none ∙ h.order)

  pub out-at : {A : Type 0} (m : MachineState) (s : CodeState ⊤) (want : Want) → m.order ≡ Some want → IsAt image main m s → (HasOut image main m s → A) → A
  out-at m s want some (inl h) f = none-not_some (sym h.inside ∙ some)
  out-at m s want some (inr h) f = f h

  pub alive-at : {A : Type 0} (m : MachineState) (s : CodeState ⊤) → m.is_dead ≡ true → IsAt image main m s → A
  alive-at m s dead (inl h) = absurd (true≢false (sym dead ∙ h.alive))
  alive-at m s dead (inr h) = absurd (true≢false (sym dead ∙ h.alive))

  pub alive-of : (m : MachineState) (s : CodeState ⊤) → IsAt image main m s → m.is_dead ≡ false
  alive-of m s (inl h) = h.alive
  alive-of m s (inr h) = h.alive

  pub sound-at_it : (m : MachineState) (s : CodeState ⊤) → IsAt image main m s → IsSoundState image main (code_of m) s
  sound-at_it m s (inl h) = h.sound
  sound-at_it m s (inr h) = h.sound

-- a want that gives something away, by what is told of it
abbrev Given : Told → Type 0
Given a_port = ⊥
Given (a_process code) = ⊥
Given (a_put port) = ⊤
Given (a_take first count) = ⊥
Given (a_close port) = ⊥
Given (an_answer caller call) = ⊤
Given a_hearing = ⊥

abbrev pub IsGiven : CellWant ⊤ → Type 0
IsGiven new_port = ⊥
IsGiven (new_process code) = ⊥
IsGiven (to_put port m) = ⊤
IsGiven (to_take ports) = ⊥
IsGiven (to_close port) = ⊥
IsGiven (to_answer caller call r) = ⊤
IsGiven to_hear = ⊥

gives-given : (want : Want) → gives_away want ≡ true → Given (want_view want)
gives-given wants.MakePort e = absurd (true≢false (sym e))
gives-given (wants.MakeProcess code) e = absurd (true≢false (sym e))
gives-given (wants.Put port) e = tt
gives-given (wants.Take ports) e = absurd (true≢false (sym e))
gives-given (wants.Close port) e = absurd (true≢false (sym e))
gives-given (wants.Answer caller call) e = tt
gives-given wants.Hear e = absurd (true≢false (sym e))

told-given : (w : CellWant ⊤) (t : Told) → told w ≡ Some t → Given t → IsGiven w
told-given new_port t e g = subst Given (sym (some-injective e)) g
told-given (new_process code) t e g = subst Given (sym (some-injective e)) g
told-given (to_put port m) t e g = tt
told-given (to_take []) t e g = none-not_some e
told-given (to_take (port ∷ ports)) t e g = subst Given (sym (some-injective e)) g
told-given (to_close port) t e g = subst Given (sym (some-injective e)) g
told-given (to_answer caller call r) t e g = tt
told-given to_hear t e g = subst Given (sym (some-injective e)) g

-- a want that gives something away is told of as one
given-gives : (w : CellWant ⊤) (want : Want) → told w ≡ Some (want_view want) → IsGiven w → gives_away want ≡ true
given-gives w want e g = by want (told-told w (want_view want) e g)
  where
    told-told : (w : CellWant ⊤) (t : Told) → told w ≡ Some t → IsGiven w → Given t
    told-told new_port t e g = absurd g
    told-told (new_process code) t e g = absurd g
    told-told (to_put port m) t e g = subst Given (some-injective e) tt
    told-told (to_take ports) t e g = absurd g
    told-told (to_close port) t e g = absurd g
    told-told (to_answer caller call r) t e g = subst Given (some-injective e) tt
    told-told to_hear t e g = absurd g

    by : (want : Want) → Given (want_view want) → gives_away want ≡ true
    by wants.MakePort h = absurd h
    by (wants.MakeProcess code) h = absurd h
    by (wants.Put port) h = refl
    by (wants.Take ports) h = absurd h
    by (wants.Close port) h = absurd h
    by (wants.Answer caller call) h = refl
    by wants.Hear h = absurd h

given-told : (w : CellWant ⊤) → IsGiven w → (t : Told) × (told w ≡ Some t)
given-told new_port g = absurd g
given-told (new_process code) g = absurd g
given-told (to_put port m) g = (a_put port, refl)
given-told (to_take ports) g = absurd g
given-told (to_close port) g = absurd g
given-told (to_answer caller call r) g = (an_answer caller call, refl)
given-told to_hear g = absurd g

-- the order is out behind what was taken out
pub gone-out : (image : Image) (main : ℕ) (m : MachineState) (new : HeldState) (o : Option Want) (front : Bool) (s : CodeState ⊤) (w : CellWant ⊤) → StandsFor image main m s → (nameless image main).wanted s ≡ Some w → IsGiven w → option_map want_view o ≡ told w → IsOut front (code_of m) new s
    → HasOut image main (record { code = m.code; held = new; order = o; is_front = front; is_dead = false }) s
gone-out image main m new o front s w h wanted given same out =
    let t = given-told w given in
    let want = map-some want_view o t.0 (same ∙ t.1) in
    let told-it : told w ≡ Some (want_view want.0) = t.1 ∙ ap (λ t. Some t) (sym want.2) in
    record {
      alive = refl;
      want = want.0;
      order = want.1;
      gives = given-gives w want.0 told-it given;
      wanted = ap (option_and_then told) wanted ∙ told-it;
      sound = h.sound;
      out = out;
    }

pub taken-out : (image : Image) (main : ℕ) (m : MachineState) (s : CodeState ⊤) (w : CellWant ⊤) (new : HeldState) (o : Option Want) (front : Bool) → IsAt image main m s → m.order ≡ None → (nameless image main).wanted s ≡ Some w → IsGiven w
    → ((w : CellWant ⊤) → StandsAt m.held s → code_wanted forget_name (code_of m) s ≡ Some w → option_map want_view o ≡ told w) → ((w : CellWant ⊤) → StandsAt m.held s → code_wanted forget_name (code_of m) s ≡ Some w → IsOut front (code_of m) new s)
    → HasOut image main (record { code = m.code; held = new; order = o; is_front = front; is_dead = false }) s
taken-out image main m s w new o front at none wanted given same out =
    inside-at image main m s none at (λ h. let e = sym (wanted-here image main (code_of m) s h.sound) ∙ wanted in gone-out image main m new o front s w h wanted given (same w h.stands e) (out w h.stands e))

-- what is wanted of a state at which no order is out, as the code says it
pub inside-wanted : {A : Type 0} (image : Image) (main : ℕ) (m : MachineState) (s : CodeState ⊤) (w : CellWant ⊤) → IsAt image main m s → m.order ≡ None → (nameless image main).wanted s ≡ Some w → (StandsAt m.held s → code_wanted forget_name (code_of m) s ≡ Some w → A) → A
inside-wanted image main m s w at none wanted f = inside-at image main m s none at (λ h. f h.stands (sym (wanted-here image main (code_of m) s h.sound) ∙ wanted))

-- one action more
pub aside-at : (image : Image) (main : ℕ) (m : MachineState) (s : CodeState ⊤) (new : HeldState) → IsAt image main m s → m.order ≡ None → (StandsAt m.held s → StandsAt new ((nameless image main).put_aside s)) → StandsFor image main (record { code = m.code; held = new; order = m.order; is_front = m.is_front; is_dead = m.is_dead }) ((nameless image main).put_aside s)
aside-at image main m s new at none stands =
    inside-at image main m s none at (λ h. record { alive = h.alive; inside = h.inside; sound = aside-sound image main (code_of m) s h.sound; stands = stands h.stands })

slice_get_some : {X : Type 0} (xs : List X) (n : ℕ) → n < length xs → (x : X) × (slice_get xs n ≡ Some x)
slice_get_some [] n h = absurd (omega (arith, h))
slice_get_some (x ∷ xs) zero h = (x, refl)
slice_get_some (x ∷ xs) (suc n) h = slice_get_some xs n (omega (arith, h))

-- the code of a module that is there
pub code-there : {A : Type 0} (image : CodeImage) (main n : ℕ) → n < length image.modules → None ≡ slice_get (labelled_image (image_view image) main).codes n → A
code-there image main n within none =
    let shown = slice_get-map module_view image.modules n ∙ ap (option_map module_view) (slice_get_some image.modules n within).1 in
    none-not_some (none ∙ slice_get-map (ready_code (image_view image) (label_at (image_view image).types (image_view image).constants)) (image_view image).modules n ∙ ap (option_map (ready_code (image_view image) (label_at (image_view image).types (image_view image).constants))) shown)

-- the action that is done where something fits what is wanted
record IsAnswerOf (got : Got) (w : CellWant ⊤) : Type 0 where
  at : ℕ
  action : CellAction ⊤
  tells : TellsGot got at action
  answers : Answers w action

answer-of : (got : Got) (w : CellWant ⊤) → FitsWant got w → IsAnswerOf got w
answer-of (gots.Port made) new_port h = record { at = 0; action = port_made made; tells = refl; answers = tt }
answer-of (gots.Process made) (new_process code) h = record { at = 0; action = process_made code made; tells = (code, refl); answers = refl }
answer-of (gots.Placed number trace) (to_put port m) h = record { at = 0; action = put (Some number) m; tells = (m, refl, h); answers = refl }
answer-of (gots.Back value trace) (to_put port m) h = record { at = 0; action = put None (value_view value); tells = refl; answers = sym h.0 }
answer-of (gots.Message port parcel) (to_take ports) h = record { at = port.number; action = message_taken parcel; tells = (refl, refl); answers = tt }
answer-of (gots.Left left) (to_close port) h = record { at = 0; action = close (length left.parcels) (map (λ p. value_view p.value) left.parcels); tells = refl; answers = length-map (λ p. value_view p.value) left.parcels }
answer-of gots.Answered (to_answer caller call r) h = record { at = 0; action = answer call r; tells = (call, r, refl); answers = (refl, refl) }
answer-of (gots.Heard call reply trace) to_hear h = record { at = 0; action = hear call (reply_view reply); tells = refl; answers = tt }
answer-of got w h = absurd h

-- what is wanted, by what it got for it
abbrev pub IsFor : Got → CellWant ⊤ → Type 0
IsFor (gots.Port made) new_port = ⊤
IsFor (gots.Process made) (new_process code) = ⊤
IsFor (gots.Placed number trace) (to_put port m) = ⊤
IsFor (gots.Back value trace) (to_put port m) = m ≡ value_view value
IsFor (gots.Message port parcel) (to_take ports) = ⊤
IsFor (gots.Left left) (to_close port) = ⊤
IsFor gots.Answered (to_answer caller call r) = ⊤
IsFor (gots.Heard call reply trace) to_hear = ⊤
IsFor got w = ⊥

pub is-for : (got : Got) (w : CellWant ⊤) (at : ℕ) (a : CellAction ⊤) → TellsGot got at a → Answers w a → IsFor got w
is-for (gots.Port made) new_port at a t h = tt
is-for (gots.Port made) w at a t h = absurd (subst (Answers w) t h)
is-for (gots.Process made) (new_process code) at a t h = tt
is-for (gots.Process made) w at a t h = absurd (subst (Answers w) t.1 h)
is-for (gots.Placed number trace) (to_put port m) at a t h = tt
is-for (gots.Placed number trace) w at a t h = absurd (subst (Answers w) t.1 h)
is-for (gots.Back value trace) (to_put port m) at a t h = subst (Answers (to_put port m)) t h
is-for (gots.Back value trace) w at a t h = absurd (subst (Answers w) t h)
is-for (gots.Message port parcel) (to_take ports) at a t h = tt
is-for (gots.Message port parcel) w at a t h = absurd (subst (Answers w) t.1 h)
is-for (gots.Left left) (to_close port) at a t h = tt
is-for (gots.Left left) w at a t h = absurd (subst (Answers w) t h)
is-for gots.Answered (to_answer caller call r) at a t h = tt
is-for gots.Answered w at a t h = absurd (subst (Answers w) t.2 h)
is-for (gots.Heard call reply trace) to_hear at a t h = tt
is-for (gots.Heard call reply trace) w at a t h = absurd (subst (Answers w) t h)

-- behind what it got
abbrev pub Settled : (got : Got) (m : MachineState) (r : Bool) (new : HeldState) → Type 0
Settled got m r new = (s : CodeState ⊤) (w : CellWant ⊤) (at : ℕ) (a : CellAction ⊤) → IsFrom got m.is_front (code_of m) m.held s → code_wanted forget_name (code_of m) s ≡ Some w → Answers w a → HearsOpen got s → TellsGot got at a → IsBehind r new s (code_answered forget_name (code_of m) s at a)

module _ (image : Image) (main : ℕ) where
  -- what was given away is not inside, and all else is
  inside-from : {A : Type 0} (m : MachineState) (s : CodeState ⊤) (w : CellWant ⊤) → IsAt image main m s → (nameless image main).wanted s ≡ Some w → (IsGiven w → A) → (StandsAt m.held s → A) → A
  inside-from m s w (inl h) e out inside = inside h.stands
  inside-from m s w (inr h) e out inside = out (told-given w (want_view h.want) (sym (ap (option_and_then told) e) ∙ h.wanted) (gives-given h.want h.gives))

  ordered-from : (m : MachineState) (s : CodeState ⊤) → IsAt image main m s → (m.is_dead ≡ false → (want : Want) × (m.order ≡ Some want)) → IsOut m.is_front (code_of m) m.held s
  ordered-from m s (inl h) order = none-not_some (sym h.inside ∙ (order h.alive).1)
  ordered-from m s (inr h) order = h.out

  from-at : (got : Got) (m : MachineState) (s : CodeState ⊤) (w : CellWant ⊤) → IsAt image main m s → (nameless image main).wanted s ≡ Some w → IsFor got w → IsOrdered m got → IsFrom got m.is_front (code_of m) m.held s
  from-at (gots.Port made) m s new_port at e h order = inside-from m s new_port at e (λ g. absurd g) (λ h. h)
  from-at (gots.Process made) m s (new_process code) at e h order = inside-from m s (new_process code) at e (λ g. absurd g) (λ h. h)
  from-at (gots.Placed number trace) m s w at e h order = ordered-from m s at order
  from-at (gots.Back value trace) m s w at e h order = ordered-from m s at order
  from-at (gots.Message port parcel) m s (to_take ports) at e h order = inside-from m s (to_take ports) at e (λ g. absurd g) (λ h. h)
  from-at (gots.Left left) m s (to_close port) at e h order = inside-from m s (to_close port) at e (λ g. absurd g) (λ h. h)
  from-at gots.Answered m s w at e h order = ordered-from m s at order
  from-at (gots.Heard call reply trace) m s to_hear at e h order = inside-from m s to_hear at e (λ g. absurd g) (λ h. h)
  from-at got m s w at e h order = absurd h

  -- a reply that suits is that of the open call
  hears-open : (got : Got) (c : ReadyCode) (s : CodeState ⊤) (at : ℕ) (a : CellAction ⊤) → IsSoundState image main c s → TellsGot got at a → Suits (nameless image main) s at a → HearsOpen got s
  hears-open (gots.Port made) c s at a h tells suits = tt
  hears-open (gots.Process made) c s at a h tells suits = tt
  hears-open (gots.Placed number trace) c s at a h tells suits = tt
  hears-open (gots.Back value trace) c s at a h tells suits = tt
  hears-open (gots.Message port parcel) c s at a h tells suits = tt
  hears-open (gots.Left left) c s at a h tells suits = tt
  hears-open gots.Answered c s at a h tells suits = tt
  hears-open (gots.Heard call reply trace) c s at a h tells suits =
      let heard : Suits (nameless image main) s at (hear call (reply_view reply)) = subst (Suits (nameless image main) s at) tells suits in
      let is : code_open_call c s ≡ Some heard.0 = sym (ap (option_and_then (λ c. code_open_call c s)) (code-here image main c s h)) ∙ heard.1 in
      let k = chain-some (λ k. option_and_then (λ (m : Met). option_map (λ t. record { number = k; call_type = t }) (type_of_call c m.instruction)) (met_at c s.position)) s.frame.call heard.0 is in
      let m = chain-some (λ (m : Met). option_map (λ t. record { number = k.0; call_type = t }) (type_of_call c m.instruction)) (met_at c s.position) heard.0 k.2 in
      let t = map-some (λ t. record { number = k.0; call_type = t }) (type_of_call c (m.0).instruction) heard.0 m.2 in
      let number : k.0 ≡ call = ap (λ (x : OpenCall). x.number) t.2 ∙ heard.2 in
      k.1 ∙ ap (λ k. Some k) number

  pub took-moves : (got : Got) (m : MachineState) (s : CodeState ⊤) (w : CellWant ⊤) (at : ℕ) (a : CellAction ⊤) (r : Bool) (new : HeldState) → Settled got m r new → IsAt image main m s → (nameless image main).wanted s ≡ Some w → IsOrdered m got
      → TellsGot got at a → Answers w a → Suits (nameless image main) s at a → Moved image main (code_of m) r new ((nameless image main).answered s at a)
  took-moves got m s w at a r new settled here wanted order tells answers suits =
      let c = code_of m in
      let sound = sound-at_it image main m s here in
      let behind = settled s w at a (from-at got m s w here wanted (is-for got w at a tells answers) order) (sym (wanted-here image main c s sound) ∙ wanted) answers (hears-open got c s at a sound tells suits) tells in
      moved image main c r new s _ (code_answered forget_name c s at a) (answer-sound image main c s w at a sound wanted answers suits) (answer-here image main c s at a sound) behind

  pub took-each : (got : Got) (m : MachineState) (s : CodeState ⊤) (w : CellWant ⊤) (at : ℕ) (a : CellAction ⊤) (r : Bool) (new : HeldState) → Settled got m r new → IsAt image main m s → IsSuiting m got → IsOrdered m got → (nameless image main).wanted s ≡ Some w → Answers w a → TellsGot got at a
      → Moved image main (code_of m) r new ((nameless image main).answered s at a)
  took-each got m s w at a r new settled here suits order wanted answers tells =
      took-moves got m s w at a r new settled here wanted order tells answers (suits image main s at a here tells)

-- what it got leads it to some state behind
pub record TookOne (m : MachineState) (r : Bool) (new : HeldState) : Type 0 where
  pub image : Image
  pub main : ℕ
  pub o : Option (CodeState ⊤)
  pub behind : Moved image main (code_of m) r new o

pub took-one : (got : Got) (m : MachineState) (r : Bool) (new : HeldState) → Settled got m r new → m.is_dead ≡ false → Fits m got → IsSuiting m got → IsOrdered m got → TookOne m r new
took-one got m r new settled alive fits suits order =
    let f = fits alive in
    let x = answer-of got f.3 f.6 in
    record { image = f.0; main = f.1; o = (nameless f.0 f.1).answered f.2 x.at x.action; behind = took-moves f.0 f.1 got m f.2 f.3 x.at x.action r new settled f.4 f.5 order x.tells x.answers (suits f.0 f.1 f.2 x.at x.action f.4 x.tells) }

-- a port that is looked at is there
pub looked-there : {A : Type 0} (image : Image) (main : ℕ) (m : MachineState) (s : CodeState ⊤) (place : ℕ) (o : Option ℕ) → IsAt image main m s → IsTakeWanted place ((nameless image main).wanted s) → ((ports : List ℕ) → StandsAt m.held s → code_wanted forget_name (code_of m) s ≡ Some (to_take ports) → o ≡ slice_get ports place) → None ≡ o → A
looked-there image main m s place o at take looks none =
    inside-from image main m s (to_take take.0) at take.1 (λ g. absurd g)
    (λ h. none-not_some (none ∙ looks take.0 h (sym (wanted-here image main (code_of m) s (sound-at_it image main m s at)) ∙ take.1) ∙ slice_get-get_or take.0 place 0 take.2))

-- what a closed port left
left-closes : (left : QueueState) (w : CellWant ⊤) → IsFor (gots.Left left) w → IsClosing w
left-closes left new_port h = absurd h
left-closes left (new_process code) h = absurd h
left-closes left (to_put port m) h = absurd h
left-closes left (to_take ports) h = absurd h
left-closes left (to_close port) h = tt
left-closes left (to_answer caller call r) h = absurd h
left-closes left to_hear h = absurd h

pub left-settles : (got : Got) (left : QueueState) → got ≡ gots.Left left → (front : Bool) (c : ReadyCode) (p new : HeldState) (r : Bool) (s : CodeState ⊤) (w : CellWant ⊤) (at : ℕ) (a : CellAction ⊤) → IsFrom got front c p s → Answers w a → TellsGot got at a
    → ((count : ℕ) → StandsAt p s → IsClosing w → IsBehind r new s (code_answered forget_name c s at (close count (map (λ q. value_view q.value) left.parcels)))) → IsBehind r new s (code_answered forget_name c s at a)
left-settles got left is front c p new r s w at a from answers tells f =
    let told : a ≡ close (length left.parcels) (map (λ q. value_view q.value) left.parcels) = subst (λ g. TellsGot g at a) is tells in
    subst (λ a. IsBehind r new s (code_answered forget_name c s at a)) (sym told)
    (f (length left.parcels) (subst (λ g. IsFrom g front c p s) is from) (left-closes left w (is-for (gots.Left left) w at a told answers)))

-- the cells that a process holds are those of its frame
pub held-cells : (image : Image) (main : ℕ) (c : ReadyCode) (s : CodeState ⊤) → IsSoundState image main c s → held_by (λ n. 1) (nameless image main) s ≡ weight_held (λ n. 1) s.frame
held-cells image main c s h = ap (λ o. total (λ (x : Held ⊤). weigh (λ n. 1) x.value) (list_of (λ c. code_held c s) o)) (code-here image main c s h) ∙ weigh-held (λ n. 1) c s
