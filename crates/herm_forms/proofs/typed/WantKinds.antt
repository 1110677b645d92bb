-- Which forms want to put a message, and which to answer a call.
use Rattle.std.proofs.Common.{◌≡◌, ◌⊎◌, inl, inr, ℕ, List, [], ◌∷◌, map, Option, Some, None, option_map, option_and_then, refl, sym, ap, ◌∙◌}
use Rattle.herm_model.specs.Paths.{Path}
use Rattle.herm_model.specs.Expressions.{Atom}
use Rattle.herm_model.specs.Statements.{Arm, Form, New, Send, Receive, Select, Call, Return, ReturnBy, Create}
use Rattle.herm_model.specs.Values.{Cell, cell_at}
use Rattle.herm_model.proofs.Options.{none-not_some, some-injective, map-some, chain-some}
use Rattle.herm_journal.specs.Actions.{values, new_port, new_process, to_put, to_take, to_answer}
use Rattle.herm_journal.specs.Actions
use Rattle.herm_journal.specs.Messages.{CellReply, CellWant}
use Rattle.herm_forms.specs.Frames.{Name, Frame, Taken, drop}
use Rattle.herm_forms.specs.Exchanges.{inport_at, outport_at, ports_at}
use Rattle.herm_forms.specs.Callmessages.{Composed}
use Rattle.herm_forms.specs.ReturnForms.{caller_of, return_wants}
use Rattle.herm_forms.specs.Excess.{excess_over_declared}
use Rattle.herm_forms.specs.Modules.{Module}
use Rattle.herm_forms.specs.Acts.{composed, given_back, given_at, given_by, wants}

-- what a want puts, and what it answers
abbrev pub put_by : CellWant Name → Option (ℕ × Cell Name)
put_by (to_put n m) = Some (n, m)
put_by w = None

abbrev pub answer_by : CellWant Name → Option ((ℕ × ℕ) × CellReply Name)
answer_by (to_answer caller call r) = Some ((caller, call), r)
answer_by w = None

abbrev pub put-in : ℕ → Cell Name → CellWant Name
put-in n m = to_put n m

abbrev pub put-message : ℕ → Composed Name → CellWant Name
put-message n x = to_put n x.message

abbrev pub answer-with : (List (Cell Name) → CellReply Name) → ℕ × ℕ → Taken Name → CellWant Name
answer-with reply to t = to_answer to.0 to.1 (reply t.cells)

-- the want of each form that has one
module _ (name : Name → Name) (c : Module) (b : Frame Name) (w : CellWant Name) where
  pub send-want : (x o : Path) → wants name c (Send x o) b ≡ Some w → (n : ℕ) × (m : Cell Name) × (outport_at o b ≡ Some n) × (to_put n m ≡ w)
  send-want x o e =
      let left = cell_at x (drop (excess_over_declared c o x b) b).variables in
      let k = chain-some (λ port. option_map (put-in port) left) (outport_at o b) w e in
      let d = map-some (put-in k.0) left w k.2 in
      (k.0, d.0, k.1, d.2)

  pub call-want : (o : Path) (arguments : List Atom) → wants name c (Call o arguments) b ≡ Some w → (n : ℕ) × (m : Cell Name) × (outport_at o b ≡ Some n) × (to_put n m ≡ w)
  call-want o arguments e =
      let k = chain-some (λ port. option_map (put-message port) (composed name c o arguments b)) (outport_at o b) w e in
      let d = map-some (put-message k.0) (composed name c o arguments b) w k.2 in
      (k.0, (d.0).message, k.1, d.2)

  pub return-want : (reply : List (Cell Name) → CellReply Name) (taken : Option (Taken Name)) (m : Path) → return_wants reply taken m b ≡ Some w → (caller call : ℕ) × (r : CellReply Name) × (to_answer caller call r ≡ w)
  return-want reply taken m e =
      let to = chain-some (λ (to : ℕ × ℕ). option_map (answer-with reply to) taken) (option_and_then caller_of (cell_at m b.variables)) w e in
      let t = map-some (answer-with reply to.0) taken w to.2 in
      (to.0.0, to.0.1, reply (t.0).cells, t.2)

  pub take-want : (x i : Path) → wants name c (Receive x i) b ≡ Some w → (ports : List ℕ) × (to_take ports ≡ w)
  take-want x i e = let k = map-some (λ port. to_take (port ∷ [])) (inport_at i b) w e in (k.0 ∷ [], k.2)

  pub select-want : (arms : List Arm) → wants name c (Select arms) b ≡ Some w → (ports : List ℕ) × (to_take ports ≡ w)
  select-want arms e = let k = map-some to_take (ports_at (map (λ (a : Arm). a.port) arms) b) w e in (k.0, k.2)

module _ (name : Name → Name) (c : Module) (b : Frame Name) where
  -- a message is put by a `send` or a `call`, to the port of its outport
  abbrev pub PutBy : Form → ℕ → Type 0
  PutBy form n = ((x o : Path) × (form ≡ Send x o) × (outport_at o b ≡ Some n)) ⊎ ((o : Path) × (arguments : List Atom) × (form ≡ Call o arguments) × (outport_at o b ≡ Some n))

  not-put : {A : Type 0} (w : CellWant Name) (n : ℕ) (m : Cell Name) → put_by w ≡ None → w ≡ to_put n m → A
  not-put w n m none e = none-not_some (sym none ∙ ap put_by e)

  same-port : (k n : ℕ) (d m : Cell Name) → put-in k d ≡ to_put n m → k ≡ n
  same-port k n d m e = ap (λ (x : ℕ × Cell Name). x.0) (some-injective (ap put_by e))

  pub puts-by : (form : Form) (n : ℕ) (m : Cell Name) → wants name c form b ≡ Some (to_put n m) → PutBy form n
  puts-by (Send x o) n m e = let k = send-want name c b (to_put n m) x o e in inl (x, o, refl, k.2 ∙ ap (λ k. Some k) (same-port k.0 n k.1 m k.3))
  puts-by (Call o arguments) n m e = let k = call-want name c b (to_put n m) o arguments e in inr (o, arguments, refl, k.2 ∙ ap (λ k. Some k) (same-port k.0 n k.1 m k.3))
  puts-by (New x) n m e = not-put new_port n m refl (some-injective e)
  puts-by (Create o process) n m e = not-put (new_process process) n m refl (some-injective e)
  puts-by (Receive x i) n m e = let k = take-want name c b (to_put n m) x i e in not-put (to_take k.0) n m refl k.1
  puts-by (Select arms) n m e = let k = select-want name c b (to_put n m) arms e in not-put (to_take k.0) n m refl k.1
  puts-by (Return x) n m e = let k = return-want name c b (to_put n m) values (given_back c (given_at c x) b) x e in not-put (to_answer k.0 k.1 k.2) n m refl k.3
  puts-by (ReturnBy x y) n m e = let k = return-want name c b (to_put n m) (Actions.raised y) (given_back c (given_by c x y) b) x e in not-put (to_answer k.0 k.1 k.2) n m refl k.3
  puts-by form n m e = none-not_some e

  -- a reply is given by a return
  abbrev pub AnsweredBy : Form → Type 0
  AnsweredBy form = ((m : Path) × (form ≡ Return m)) ⊎ ((m : Path) × (e : ℕ) × (form ≡ ReturnBy m e))

  not-answer : {A : Type 0} (w : CellWant Name) (caller call : ℕ) (r : CellReply Name) → answer_by w ≡ None → w ≡ to_answer caller call r → A
  not-answer w caller call r none e = none-not_some (sym none ∙ ap answer_by e)

  pub answers-by : (form : Form) (caller call : ℕ) (r : CellReply Name) → wants name c form b ≡ Some (to_answer caller call r) → AnsweredBy form
  answers-by (Return m) caller call r e = inl (m, refl)
  answers-by (ReturnBy m x) caller call r e = inr (m, x, refl)
  answers-by (Send x o) caller call r e = let k = send-want name c b (to_answer caller call r) x o e in not-answer (to_put k.0 k.1) caller call r refl k.3
  answers-by (Call o arguments) caller call r e = let k = call-want name c b (to_answer caller call r) o arguments e in not-answer (to_put k.0 k.1) caller call r refl k.3
  answers-by (New x) caller call r e = not-answer new_port caller call r refl (some-injective e)
  answers-by (Create o process) caller call r e = not-answer (new_process process) caller call r refl (some-injective e)
  answers-by (Receive x i) caller call r e = let k = take-want name c b (to_answer caller call r) x i e in not-answer (to_take k.0) caller call r refl k.1
  answers-by (Select arms) caller call r e = let k = select-want name c b (to_answer caller call r) arms e in not-answer (to_take k.0) caller call r refl k.1
  answers-by form caller call r e = none-not_some e

  -- what a return answers: the caller of its callmessage, with what was taken
  pub record Answered (reply : List (Cell Name) → CellReply Name) (taken : Option (Taken Name)) (m : Path) (caller call : ℕ) (r : CellReply Name) : Type 0 where
    pub message : Cell Name
    pub at : cell_at m b.variables ≡ Some message
    pub called : caller_of message ≡ Some (caller, call)
    pub given : Taken Name
    pub taken_is : taken ≡ Some given
    pub reply_is : reply given.cells ≡ r

  pub answered-is : (reply : List (Cell Name) → CellReply Name) (taken : Option (Taken Name)) (m : Path) (caller call : ℕ) (r : CellReply Name) → return_wants reply taken m b ≡ Some (to_answer caller call r) → Answered reply taken m caller call r
  answered-is reply taken m caller call r e =
      let to = chain-some (λ (to : ℕ × ℕ). option_map (answer-with reply to) taken) (option_and_then caller_of (cell_at m b.variables)) (to_answer caller call r) e in
      let t = map-some (answer-with reply to.0) taken (to_answer caller call r) to.2 in
      let x : ◌≡◌ {A = (ℕ × ℕ) × CellReply Name} (to.0, reply t.0.cells) ((caller, call), r) = some-injective (ap answer_by t.2) in
      let d = chain-some caller_of (cell_at m b.variables) to.0 to.1 in
      record {
        message = d.0;
        at = d.1;
        called = d.2 ∙ ap (λ (x : (ℕ × ℕ) × CellReply Name). Some x.0) x;
        given = t.0;
        taken_is = t.1;
        reply_is = ap (λ (x : (ℕ × ℕ) × CellReply Name). x.1) x;
      }
