-- What an answer makes of inports and callmessages, and what it ends, by the two ways to count them.
use Rattle.std.proofs.Common.{◌≡◌, ℕ, ◌+◌, List, [], ◌∷◌, Bool, Option, Some, None, option_map, refl, sym, ap, subst, ◌∙◌, arith}
use Rattle.herm_model.specs.Lists.{list_of}
use Rattle.herm_model.specs.Values.{Name, Kind, kind_of, a_callmessage, an_inport, Cell, cell}
use Rattle.herm_model.proofs.Options.{some-injective, none-not_some}
use Rattle.herm_journal.specs.Actions.{gone, new_port, new_process, to_put, to_take, to_close, to_answer, to_hear, make_port, make_process, put, take, close, answer, hear}
use Rattle.herm_journal.specs.Messages.{CellReply, CellWant, CellAction}
use Rattle.herm_forms.specs.ClosesAndAnswers.{work_wants}
use Rattle.herm_forms.proofs.Begun.{port_load, back_load}
use Rattle.herm_system.specs.Machines.{OpenCall, Machine}
use Rattle.herm_system.specs.Suiting.{Answers}
use Rattle.herm_system.specs.Summary.{how_many}
use Rattle.herm_runs.specs.Counting.{kinds_made, kinds_ended}
use Rattle.herm_held.proofs.KindTotals.{one_of, many}

module _ {P : Type 0} (machine : Machine Name P) (test : Kind → Bool) where
  pub one-kind : (k : Kind) → how_many test (k ∷ []) ≡ one_of test k
  one-kind k = omega (arith, many test (k ∷ []))

  -- what was made and what was ended, by the two ways to count them
  abbrev pub Agrees : P → CellWant Name → CellAction Name → (begun over : ℕ) → Type 0
  Agrees y want a begun over = how_many test (kinds_ended want) + begun ≡ over + how_many test (kinds_made machine y a)

  pub agrees-new : (y : P) (a : CellAction Name) → Answers {M = Cell Name} {R = CellReply Name} new_port a → Agrees y new_port a (port_load (one_of test) a) 0
  agrees-new y (make_port (Some n)) h = omega (arith, one-kind (an_inport n))
  agrees-new y (make_port None) h = refl
  agrees-new y a h = absurd h

  pub agrees-create : (y : P) (code : ℕ) (a : CellAction Name) → Answers {M = Cell Name} {R = CellReply Name} (new_process code) a → Agrees y (new_process code) a (port_load (one_of test) a) 0
  agrees-create y code (make_process code' (Some made)) h = omega (arith, one-kind (an_inport made.1))
  agrees-create y code (make_process code' None) h = refl
  agrees-create y code a h = absurd h

  pub agrees-take : (y : P) (ports : List ℕ) (a : CellAction Name) → Answers {M = Cell Name} {R = CellReply Name} (to_take ports) a → Agrees y (to_take ports) a 0 0
  agrees-take y ports (take number m) h = refl
  agrees-take y ports a h = absurd h

  pub agrees-hear : (y : P) (a : CellAction Name) → Answers {M = Cell Name} {R = CellReply Name} to_hear a → Agrees y to_hear a 0 0
  agrees-hear y (hear call r) h = refl
  agrees-hear y a h = absurd h

  pub agrees-close : (y : P) (n : ℕ) (a : CellAction Name) → Answers {M = Cell Name} {R = CellReply Name} (to_close n) a → Agrees y (to_close n) a 0 (one_of test (an_inport n))
  agrees-close y n (close count left) h = omega (arith, one-kind (an_inport n))
  agrees-close y n a h = absurd h

  pub agrees-answer : (y : P) (caller call : ℕ) (reply : CellReply Name) (a : CellAction Name) → Answers (to_answer caller call reply) a → Agrees y (to_answer caller call reply) a 0 (one_of test (a_callmessage caller call))
  agrees-answer y caller call reply (answer k r) h = omega (arith, one-kind (a_callmessage caller call))
  agrees-answer y caller call reply a h = absurd h

  -- the front of a work list
  pub agrees-item : (y : P) (item : Cell Name) (want : CellWant Name) (a : CellAction Name) → work_wants item ≡ Some want → Answers want a → Agrees y want a 0 (one_of test (kind_of item))
  agrees-item y (cell n (an_inport port) ps) want a is answers = subst (λ w. Answers w a → Agrees y w a 0 (one_of test (an_inport port))) (some-injective is) (agrees-close y port a) answers
  agrees-item y (cell n (a_callmessage caller call) ps) want a is answers =
      subst (λ w. Answers w a → Agrees y w a 0 (one_of test (a_callmessage caller call))) (some-injective is) (agrees-answer y caller call gone a) answers
  agrees-item y (cell n k ps) want a is answers = none-not_some is

  -- the call that a process has open then
  abbrev pub Opens : P → Option ℕ → Type 0
  Opens y k = option_map (λ (call : OpenCall). call.number) (machine.open_call y) ≡ k

  made-none : (o : Option OpenCall) (n : ℕ) → option_map (λ (call : OpenCall). call.number) o ≡ None → how_many test (list_of (λ (call : OpenCall). a_callmessage n call.number ∷ []) o) ≡ 0
  made-none None n is = refl
  made-none (Some call) n is = none-not_some (sym is)

  made-one : (o : Option OpenCall) (n k : ℕ) → option_map (λ (call : OpenCall). call.number) o ≡ Some k → how_many test (list_of (λ (call : OpenCall). a_callmessage n call.number ∷ []) o) ≡ one_of test (a_callmessage n k)
  made-one None n k is = none-not_some is
  made-one (Some call) n k is = one-kind (a_callmessage n call.number) ∙ ap (λ k. one_of test (a_callmessage n k)) (some-injective is)

  pub agrees-send : (y : P) (port : ℕ) (m : Cell Name) (a : CellAction Name) → Answers {R = CellReply Name} (to_put port m) a → ((i : ℕ) (d : Cell Name) → a ≡ put (Some i) d → Opens y None) → Agrees y (to_put port m) a 0 0
  agrees-send y port m (put (Some i) d) h opens = omega (arith, made-none (machine.open_call y) (machine.number y) (opens i d refl))
  agrees-send y port m (put None d) h opens = refl
  agrees-send y port m a h opens = absurd h

  pub agrees-call : (y : P) (port k : ℕ) (m : Cell Name) (a : CellAction Name) → Answers {R = CellReply Name} (to_put port m) a → kind_of m ≡ a_callmessage (machine.number y) k → ((i : ℕ) (d : Cell Name) → a ≡ put (Some i) d → Opens y (Some k))
      → Agrees y (to_put port m) a (one_of test (kind_of m)) (back_load (one_of test) a)
  agrees-call y port k m (put (Some i) d) h kind opens = omega (arith, ap (one_of test) kind, made-one (machine.open_call y) (machine.number y) k (opens i d refl))
  agrees-call y port k m (put None d) h kind opens = omega (arith, ap (λ (m : Cell Name). one_of test (kind_of m)) h)
  agrees-call y port k m a h kind opens = absurd h
