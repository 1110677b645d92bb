-- A process that goes on: what it gets for what it wants fits, and behind that it goes on.
use Rattle.std.proofs.Common.{◌≡◌, inl, inr, ℕ, suc, List, [], ◌∷◌, Bool, true, false, Option, Some, None, option_and_then, length, refl, sym, ap, subst, ◌∙◌, true≢false, arith, ◌<◌}
use Rattle.std.specs.Prelude.{IfSome, ⊤}
use Rattle.herm_model.proofs.Options.{none-not_some}
use Rattle.herm_model.proofs.Lists.{length-map}
use Rattle.herm_values.specs.View.{value_view}
use Rattle.herm_values.specs.declared.value.Value.{Value}
use Rattle.herm_letters.specs.View.{reply_view}
use Rattle.herm_letters.specs.declared.parcel.Parcel.{Parcel}
use Rattle.herm_letters.specs.declared.reply.Reply.{Reply}
use Rattle.herm_journal.specs.Actions.{new_port, new_process, to_put, to_take, to_close, to_answer, to_hear}
use Rattle.herm_journal.specs.Messages.{CellAction, CellReply, CellWant}
use Rattle.herm_model.specs.Values as model
use Rattle.herm_system.specs.Suiting.{Answers, Suits}
use Rattle.herm_instructions.specs.Images.{Image}
use Rattle.herm_code_machine.specs.CodeStates.{CodeState}
use Rattle.herm_exchanges.specs.Told.{Told, a_port, a_process, a_put, a_take, a_close, an_answer, a_hearing, told, want_view}
use Rattle.herm_exchanges.specs.declared.wants.Want.{Want}
use Rattle.herm_machine.specs.Gots.{Fits, FitsWant, IsSuiting, TellsGot}
use Rattle.herm_machine.specs.Machines.{MachineState, IsAt, IsInside, Reaches, StandsFor, HasOut, IsPutWanted, IsTakeWanted, IsAnswerWanted, IsOrderOut, nameless}
use Rattle.herm_machine.specs.declared.order.Got.{Got}
use Rattle.herm_machine.specs.declared.order.Got.TheVariants as gots
use Rattle.herm_machine_tests.specs.Going.{HasSent, IsGoing}

-- a process that is dead, and one that stands for a state
pub dead_goes : (m : MachineState) → m.is_dead ≡ true → IsGoing m
dead_goes m dead = λ alive. absurd (true≢false (sym dead ∙ alive))

pub reached-goes : (image : Image) (main : ℕ) (m : MachineState) (o : Option (CodeState ⊤)) → Reaches image main m o → IsGoing m
reached-goes image main m o r = λ alive. (image, main, r.0, r.2)

pub alive-by : (b : Bool) → (b ≡ true → false ≡ true) → b ≡ false
alive-by true h = sym (h refl)
alive-by false h = refl

pub inside : (m : MachineState) → IsGoing m → IsInside m
inside m h = λ alive. (h alive).3.inside

-- behind what was put aside
pub aside-goes : (old new : MachineState) → IsGoing old → new.is_dead ≡ old.is_dead
    → ((image : Image) (main : ℕ) (s : CodeState ⊤) → IsAt image main old s → StandsFor image main new ((nameless image main).put_aside s)) → IsGoing new
aside-goes old new going dead aside = λ alive. let g = going (sym dead ∙ alive) in (g.0, g.1, (nameless g.0 g.1).put_aside g.2, aside g.0 g.1 g.2 (inl g.3))

-- the action of which what is got for what is wanted tells
record GotAction (got : Got) (w : CellWant ⊤) : Type 0 where
  pub at : ℕ
  pub action : CellAction ⊤
  pub answers : Answers w action
  pub tells : TellsGot got at action

got-action : (got : Got) (w : CellWant ⊤) → FitsWant got w → GotAction got w
got-action (gots.Port made) new_port h = record { at = 0; action = _; answers = tt; tells = refl }
got-action (gots.Process made) (new_process code) h = record { at = 0; action = _; answers = refl; tells = (code, refl) }
got-action (gots.Placed number trace) (to_put n m) h = record { at = 0; action = _; answers = refl; tells = (m, refl, h) }
got-action (gots.Back value trace) (to_put n m) h = record { at = 0; action = _; answers = sym h.0; tells = refl }
got-action (gots.Message n parcel) (to_take ports) h = record { at = n.number; action = _; answers = tt; tells = (refl, refl) }
got-action (gots.Left left) (to_close n) h = record { at = 0; action = _; answers = length-map (λ (p : Parcel). value_view p.value) left.parcels; tells = refl }
got-action gots.Answered (to_answer caller call r) h = record { at = 0; action = _; answers = (refl, refl); tells = (call, r, refl) }
got-action (gots.Heard call reply trace) to_hear h = record { at = 0; action = _; answers = tt; tells = refl }
got-action got w h = absurd h

-- behind what it got
pub behind : (old new : MachineState) (got : Got) → Fits old got → old.is_dead ≡ false
    → ((image : Image) (main : ℕ) (s : CodeState ⊤) (w : CellWant ⊤) (at : ℕ) (a : CellAction ⊤) → IsAt image main old s → (nameless image main).wanted s ≡ Some w → Answers w a → TellsGot got at a → Reaches image main new ((nameless image main).answered s at a)) → IsGoing new
behind old new got fits alive answered =
    let f = fits alive in
    let g = got-action got f.3 f.6 in
    reached-goes f.0 f.1 new _ (answered f.0 f.1 f.2 f.3 g.at g.action f.4 f.5 g.answers g.tells)

-- where nothing is told, nothing is wanted
pub unwanted : (o : Option (CellWant ⊤)) → ((w : CellWant ⊤) → o ≡ Some w → false ≡ true) → o ≡ None
unwanted None h = refl
unwanted (Some w) h = absurd (true≢false (sym (h w refl)))

pub some_of : {X : Type 0} (P : X → Type 0) (o : Option X) (x : X) → o ≡ Some x → IfSome o P → P x
some_of P o x e h = subst (λ o. IfSome o P) e h

told-want : (o : Option (CellWant ⊤)) (t : Told) → Some t ≡ option_and_then told o → (w : CellWant ⊤) × (o ≡ Some w) × (told w ≡ Some t)
told-want None t e = none-not_some (sym e)
told-want (Some w) t e = (w, refl, sym e)

-- each state at which it is wants what is told so
abbrev pub Tells : MachineState → Told → Type 0
Tells m t = (image : Image) (main : ℕ) (s : CodeState ⊤) → IsAt image main m s → Some t ≡ option_and_then told ((nameless image main).wanted s)

abbrev count-in : Option Told → ℕ
count-in (Some (a_take first count)) = count
count-in _ = 0

abbrev some_want : CellWant ⊤ → Option (CellWant ⊤)
some_want w = Some w

fits-told : (m : MachineState) (got : Got) (t : Told) → IsGoing m → Tells m t → ((w : CellWant ⊤) → told w ≡ Some t → FitsWant got w) → Fits m got
fits-told m got t going tells fits = λ alive.
    let g = going alive in
    let w = told-want ((nameless g.0 g.1).wanted g.2) t (tells g.0 g.1 g.2 (inl g.3)) in
    (g.0, g.1, g.2, w.0, inl g.3, w.1, fits w.0 w.2)

-- what fits each want
port-fits : (got : Got) (w : CellWant ⊤) → FitsWant got new_port → told w ≡ Some a_port → FitsWant got w
port-fits got new_port h e = h
port-fits got (new_process code) h e = cc
port-fits got (to_put n m) h e = cc
port-fits got (to_take []) h e = cc
port-fits got (to_take (n ∷ ns)) h e = cc
port-fits got (to_close n) h e = cc
port-fits got (to_answer caller call r) h e = cc
port-fits got to_hear h e = cc

process-fits : (got : Got) (code : ℕ) (w : CellWant ⊤) → ((code : ℕ) → FitsWant got (new_process code)) → told w ≡ Some (a_process code) → FitsWant got w
process-fits got code new_port h e = cc
process-fits got code (new_process wanted) h e = h wanted
process-fits got code (to_put n m) h e = cc
process-fits got code (to_take []) h e = cc
process-fits got code (to_take (n ∷ ns)) h e = cc
process-fits got code (to_close n) h e = cc
process-fits got code (to_answer caller call r) h e = cc
process-fits got code to_hear h e = cc

take-fits : (got : Got) (first count : ℕ) (w : CellWant ⊤) → ((ports : List ℕ) → FitsWant got (to_take ports)) → told w ≡ Some (a_take first count) → FitsWant got w
take-fits got first count new_port h e = cc
take-fits got first count (new_process code) h e = cc
take-fits got first count (to_put n m) h e = cc
take-fits got first count (to_take ns) h e = h ns
take-fits got first count (to_close n) h e = cc
take-fits got first count (to_answer caller call r) h e = cc
take-fits got first count to_hear h e = cc

close-fits : (got : Got) (p : ℕ) (w : CellWant ⊤) → ((n : ℕ) → FitsWant got (to_close n)) → told w ≡ Some (a_close p) → FitsWant got w
close-fits got p new_port h e = cc
close-fits got p (new_process code) h e = cc
close-fits got p (to_put n m) h e = cc
close-fits got p (to_take []) h e = cc
close-fits got p (to_take (n ∷ ns)) h e = cc
close-fits got p (to_close n) h e = h n
close-fits got p (to_answer caller call r) h e = cc
close-fits got p to_hear h e = cc

hear-fits : (got : Got) (w : CellWant ⊤) → FitsWant got to_hear → told w ≡ Some a_hearing → FitsWant got w
hear-fits got new_port h e = cc
hear-fits got (new_process code) h e = cc
hear-fits got (to_put n m) h e = cc
hear-fits got (to_take []) h e = cc
hear-fits got (to_take (n ∷ ns)) h e = cc
hear-fits got (to_close n) h e = cc
hear-fits got (to_answer caller call r) h e = cc
hear-fits got to_hear h e = h

put-told : (w : CellWant ⊤) (p : ℕ) → told w ≡ Some (a_put p) → (n : ℕ) × (m : model.Value) × (w ≡ to_put n m)
put-told new_port p e = cc
put-told (new_process code) p e = cc
put-told (to_put n m) p e = (n, m, refl)
put-told (to_take []) p e = cc
put-told (to_take (n ∷ ns)) p e = cc
put-told (to_close n) p e = cc
put-told (to_answer caller call r) p e = cc
put-told to_hear p e = cc

answer-told : (w : CellWant ⊤) (p k : ℕ) → told w ≡ Some (an_answer p k) → (caller call : ℕ) × (r : CellReply ⊤) × (w ≡ to_answer caller call r)
answer-told new_port p k e = cc
answer-told (new_process code) p k e = cc
answer-told (to_put n m) p k e = cc
answer-told (to_take []) p k e = cc
answer-told (to_take (n ∷ ns)) p k e = cc
answer-told (to_close n) p k e = cc
answer-told (to_answer caller call r) p k e = (caller, call, r, refl)
answer-told to_hear p k e = cc

take-told : (place : ℕ) (w : CellWant ⊤) (first count : ℕ) → place < count → told w ≡ Some (a_take first count) → (ports : List ℕ) × (w ≡ to_take ports) × (place < length ports)
take-told place new_port first count h e = cc
take-told place (new_process code) first count h e = cc
take-told place (to_put n m) first count h e = cc
take-told place (to_take []) first count h e = cc
take-told place (to_take (n ∷ ns)) first count h e = let k : suc (length ns) ≡ count = ap count-in e in (n ∷ ns, refl, omega (arith, h, k))
take-told place (to_close n) first count h e = cc
take-told place (to_answer caller call r) first count h e = cc
take-told place to_hear first count h e = cc

module _ (m : MachineState) (going : IsGoing m) where
  pub fits-port : (got : Got) → FitsWant got new_port → Tells m a_port → Fits m got
  fits-port got h tells = fits-told m got a_port going tells (λ w e. port-fits got w h e)

  pub fits-process : (got : Got) (code : ℕ) → ((code : ℕ) → FitsWant got (new_process code)) → Tells m (a_process code) → Fits m got
  fits-process got code h tells = fits-told m got (a_process code) going tells (λ w e. process-fits got code w h e)

  pub fits-take : (got : Got) (first count : ℕ) → ((ports : List ℕ) → FitsWant got (to_take ports)) → Tells m (a_take first count) → Fits m got
  fits-take got first count h tells = fits-told m got (a_take first count) going tells (λ w e. take-fits got first count w h e)

  pub fits-close : (got : Got) (p : ℕ) → ((n : ℕ) → FitsWant got (to_close n)) → Tells m (a_close p) → Fits m got
  fits-close got p h tells = fits-told m got (a_close p) going tells (λ w e. close-fits got p w h e)

  pub fits-hear : (got : Got) → FitsWant got to_hear → Tells m a_hearing → Fits m got
  fits-hear got h tells = fits-told m got a_hearing going tells (λ w e. hear-fits got w h e)

-- what is told of a want says what is wanted
pub put-wanted : (o : Option (CellWant ⊤)) (p : ℕ) → Some (a_put p) ≡ option_and_then told o → IsPutWanted o
put-wanted o p e = let w = told-want o (a_put p) e in let t = put-told w.0 p w.2 in (t.0, t.1, w.1 ∙ ap some_want t.2)

pub answer-wanted : (o : Option (CellWant ⊤)) (p k : ℕ) → Some (an_answer p k) ≡ option_and_then told o → IsAnswerWanted o
answer-wanted o p k e = let w = told-want o (an_answer p k) e in let t = answer-told w.0 p k w.2 in (t.0, t.1, t.2, w.1 ∙ ap some_want t.3)

pub take-wanted : (o : Option (CellWant ⊤)) (place first count : ℕ) → place < count → Some (a_take first count) ≡ option_and_then told o → IsTakeWanted place o
take-wanted o place first count h e = let w = told-want o (a_take first count) e in let t = take-told place w.0 first count h w.2 in (t.0, w.1 ∙ ap some_want t.1, t.2)

-- what was sent is placed, or comes back
pub fits-placed : (m : MachineState) (v : Value) (got : Got) → HasSent m v → ((port : ℕ) → FitsWant got (to_put port (value_view v))) → Fits m got
fits-placed m v got h fits = λ alive. (h.image, h.main, h.state, to_put h.port (value_view v), inr h.out, h.wanted, fits h.port)

pub order-out : (m : MachineState) (v : Value) → HasSent m v → IsOrderOut m
order-out m v h = λ alive. ((h.out).want, (h.out).order)

pub placed-suits : (m : MachineState) (number : ℕ) (trace : List ℕ) → IsSuiting m (gots.Placed number trace)
placed-suits m number trace image main s at a h tells = subst (λ (a : CellAction ⊤). Suits (nameless image main) s at a) (sym tells.1) tt

pub back-suits : (m : MachineState) (v : Value) (trace : List ℕ) → IsSuiting m (gots.Back v trace)
back-suits m v trace image main s at a h tells = subst (λ (a : CellAction ⊤). Suits (nameless image main) s at a) (sym tells) tt

pub answered-suits : (m : MachineState) → IsSuiting m gots.Answered
answered-suits m image main s at a h tells = subst (λ (a : CellAction ⊤). Suits (nameless image main) s at a) (sym tells.2) tt

abbrev pub telling : Want → Option Told
telling w = Some (want_view w)

-- behind a local step, and with a message or a reply out
module _ (old new : MachineState) (going : IsGoing old) (alive : old.is_dead ≡ false) where
  pub stepped : ((image : Image) (main : ℕ) (s : CodeState ⊤) → IsAt image main old s → Reaches image main new ((nameless image main).local_step s)) → IsGoing new
  stepped step = let g = going alive in reached-goes g.0 g.1 new _ (step g.0 g.1 g.2 (inl g.3))

  pub sent : (v : Value) → ((image : Image) (main : ℕ) (s : CodeState ⊤) → IsAt image main old s → (port : ℕ) × ((nameless image main).wanted s ≡ Some (to_put port (value_view v)))) → ((image : Image) (main : ℕ) (s : CodeState ⊤) → IsAt image main old s → HasOut image main new s) → HasSent new v
  sent v letter out =
      let g = going alive in
      let w = letter g.0 g.1 g.2 (inl g.3) in
      record { image = g.0; main = g.1; state = g.2; port = w.0; wanted = w.1; out = out g.0 g.1 g.2 (inl g.3) }

  pub fits-answered : (r : Reply) → ((image : Image) (main : ℕ) (s : CodeState ⊤) → IsAt image main old s → (caller call : ℕ) × ((nameless image main).wanted s ≡ Some (to_answer caller call (reply_view r)))) → ((image : Image) (main : ℕ) (s : CodeState ⊤) → IsAt image main old s → HasOut image main new s) → Fits new gots.Answered
  fits-answered r reply out = λ _.
      let g = going alive in
      let w = reply g.0 g.1 g.2 (inl g.3) in
      (g.0, g.1, g.2, to_answer w.0 w.1 (reply_view r), inr (out g.0 g.1 g.2 (inl g.3)), w.2, tt)

  pub answer-out : ((image : Image) (main : ℕ) (s : CodeState ⊤) → IsAt image main old s → HasOut image main new s) → IsOrderOut new
  answer-out out = λ _. let g = going alive in let o = out g.0 g.1 g.2 (inl g.3) in (o.want, o.order)
