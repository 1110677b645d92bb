-- Systems with what an action makes: a port, or a process with its port and its reply cell.
use Rattle.std.proofs.Common.{◌≡◌, ℕ, zero, suc, ◌+◌, List, [], ◌∷◌, ◌++◌, length, Bool, true, false, cond, Option, Some, None, slice_get, refl, sym, ap, subst, ◌∙◌, arith}
use Rattle.std.specs.Prelude.{◌&&◌, nat_lt, nat_eq}
use Rattle.std.proofs.lemmas.Bool.{eqb-true, eqb-false}
use Rattle.herm_model.specs.Lists.{list_of}
use Rattle.herm_model.specs.Values.{Name, a_callmessage, an_inport, Cell}
use Rattle.herm_model.proofs.Options.{some-injective, none-not_some, map-some}
use Rattle.herm_journal.specs.Actions.{make_port, make_process, put}
use Rattle.herm_journal.specs.NextNumbers.{Book}
use Rattle.herm_journal.specs.Ports.{empty_port}
use Rattle.herm_journal.specs.Entries.{Place}
use Rattle.herm_journal.specs.Messages.{CellReply, CellWant, CellAction}
use Rattle.herm_system.specs.Machines.{OpenCall, Machine, inport_of}
use Rattle.herm_system.specs.Summary.{how_many}
use Rattle.herm_system.specs.Systems.{System, numbered_from_one, holding_at, with_made}
use Rattle.herm_system.specs.Kinds.{is_inport_of}
use Rattle.herm_system.specs.Sound.{one_if, IsNumbered}
use Rattle.herm_runs.specs.Counting.{kinds_made}
use Rattle.herm_runs.proofs.Numbered.{more-length}
use Rattle.herm_sound.proofs.Acted.{Holding, IsAct, port_made, port_refused, process_made, process_refused, placed, came_back, taken, closed, answered, heard}
use Rattle.herm_sound.proofs.Places.{Ports, Cells, QueuedFrom, more-queued, book-there}
use Rattle.herm_sound.proofs.ReplyCells.{RepliedFrom, more-replied, replied, more-count}
use Rattle.herm_sound.proofs.OpenPorts.{open_at, more-open, more-others, none-past}

-- the ports that an action makes, and the number of its port
abbrev pub new_ports : CellAction Name → Ports
new_ports (make_port (Some n)) = empty_port ∷ []
new_ports (make_process code (Some made)) = empty_port ∷ []
new_ports a = []

abbrev pub made_port : CellAction Name → Option ℕ
made_port (make_port (Some n)) = Some n
made_port (make_process code (Some made)) = Some made.1
made_port a = None

-- a callmessage that is made is no inport
pub no-inports : (n number : ℕ) (o : Option OpenCall) → how_many (is_inport_of n) (list_of (λ (call : OpenCall). a_callmessage number call.number ∷ []) o) ≡ 0
no-inports n number None = refl
no-inports n number (Some call) = refl

-- with what an action makes
module _ {P : Type 0} (machine : Machine Name P) (x : P) (a : CellAction Name) (s t : System P) (makes : with_made machine x a s ≡ Some t) where
  pub made-messages : (X : ℕ → Cell Name → Type 0) (before : Ports) → QueuedFrom X before s.ports → QueuedFrom X before t.ports
  made-messages X before from = by a makes
    where
      by : (a : CellAction Name) → with_made machine x a s ≡ Some t → QueuedFrom X before t.ports
      by (make_port (Some n)) e = subst (λ (t : System P). QueuedFrom X before t.ports) (some-injective e) (more-queued X before s.ports from)
      by (make_process code (Some made)) e =
          let m = map-some _ (machine.begin code made.0 (inport_of machine made.1 x)) t e in subst (λ (t : System P). QueuedFrom X before t.ports) m.2 (more-queued X before s.ports from)
      by a e = subst (λ (t : System P). QueuedFrom X before t.ports) (some-injective e) from

  pub made-answers : (X : ℕ → ℕ × CellReply Name → Type 0) (before : Cells) → RepliedFrom X before s.replies → RepliedFrom X before t.replies
  made-answers X before from = by a makes
    where
      by : (a : CellAction Name) → with_made machine x a s ≡ Some t → RepliedFrom X before t.replies
      by (make_port (Some n)) e = subst (λ (t : System P). RepliedFrom X before t.replies) (some-injective e) from
      by (make_process code (Some made)) e =
          let m = map-some _ (machine.begin code made.0 (inport_of machine made.1 x)) t e in subst (λ (t : System P). RepliedFrom X before t.replies) m.2 (more-replied X before s.replies from)
      by a e = subst (λ (t : System P). RepliedFrom X before t.replies) (some-injective e) from

  pub made-replies : (q k : ℕ) → replied t.replies q k ≡ replied s.replies q k
  made-replies q k = by a makes
    where
      by : (a : CellAction Name) → with_made machine x a s ≡ Some t → replied t.replies q k ≡ replied s.replies q k
      by (make_port (Some n)) e = subst (λ (t : System P). replied t.replies q k ≡ replied s.replies q k) (some-injective e) refl
      by (make_process code (Some made)) e =
          let m = map-some _ (machine.begin code made.0 (inport_of machine made.1 x)) t e in subst (λ (t : System P). replied t.replies q k ≡ replied s.replies q k) m.2 (more-count s.replies q k)
      by a e = subst (λ (t : System P). replied t.replies q k ≡ replied s.replies q k) (some-injective e) refl

  pub made-stays : (q : ℕ) (z : P) → numbered_from_one q s.processes ≡ Some z → numbered_from_one q t.processes ≡ Some z
  made-stays q z is = by a makes
    where
      more : (xs : List P) (i : ℕ) (y : P) → slice_get xs i ≡ Some z → slice_get (xs ++ y ∷ []) i ≡ Some z
      more [] i y e = none-not_some e
      more (w ∷ xs) zero y e = e
      more (w ∷ xs) (suc i) y e = more xs i y e

      more-from_one : (q : ℕ) (xs : List P) (y : P) → numbered_from_one q xs ≡ Some z → numbered_from_one q (xs ++ y ∷ []) ≡ Some z
      more-from_one zero xs y e = none-not_some e
      more-from_one (suc i) xs y e = more xs i y e

      by : (a : CellAction Name) → with_made machine x a s ≡ Some t → numbered_from_one q t.processes ≡ Some z
      by (make_port (Some n)) e = subst (λ (t : System P). numbered_from_one q t.processes ≡ Some z) (some-injective e) is
      by (make_process code (Some made)) e =
          let m = map-some _ (machine.begin code made.0 (inport_of machine made.1 x)) t e in subst (λ (t : System P). numbered_from_one q t.processes ≡ Some z) m.2 (more-from_one q s.processes m.0 is)
      by a e = subst (λ (t : System P). numbered_from_one q t.processes ≡ Some z) (some-injective e) is

  pub made-length : length t.ports ≡ length s.ports + length (new_ports a)
  made-length = by a makes
    where
      by : (a : CellAction Name) → with_made machine x a s ≡ Some t → length t.ports ≡ length s.ports + length (new_ports a)
      by (make_port (Some n)) e = subst (λ (t : System P). length t.ports ≡ length s.ports + 1) (some-injective e) (omega (arith, more-length s.ports empty_port))
      by (make_process code (Some made)) e =
          let m = map-some _ (machine.begin code made.0 (inport_of machine made.1 x)) t e in subst (λ (t : System P). length t.ports ≡ length s.ports + 1) m.2 (omega (arith, more-length s.ports empty_port))
      by a e = subst (λ (t : System P). length t.ports ≡ length s.ports + 0) (some-injective e) (omega arith)

  one-port : (ports : Ports) (n i : ℕ) → i ≡ length ports → one_if (open_at (ports ++ empty_port ∷ []) n) ≡ one_if (open_at ports n) + how_many (is_inport_of n) (an_inport i ∷ [])
  one-port ports n i last = by (nat_eq i n) refl
    where
      by : (b : Bool) → nat_eq i n ≡ b → one_if (open_at (ports ++ empty_port ∷ []) n) ≡ one_if (open_at ports n) + length (cond b (an_inport i ∷ []) [])
      by true e =
          let same : length ports ≡ n = sym last ∙ eqb-true i n e in
          subst (λ n. one_if (open_at (ports ++ empty_port ∷ []) n) ≡ one_if (open_at ports n) + 1) same (omega (arith, ap one_if (more-open ports), ap one_if (none-past ports)))
      by false e = omega (arith, ap one_if (more-others ports n (λ same. eqb-false i n e (last ∙ same))))

  pub made-opens : (y : P) → ((i : ℕ) → made_port a ≡ Some i → i ≡ length s.ports) → (n : ℕ) → one_if (open_at t.ports n) ≡ one_if (open_at s.ports n) + how_many (is_inport_of n) (kinds_made machine y a)
  made-opens y last n = by a makes last
    where
      by : (a : CellAction Name) → with_made machine x a s ≡ Some t → ((i : ℕ) → made_port a ≡ Some i → i ≡ length s.ports) → one_if (open_at t.ports n) ≡ one_if (open_at s.ports n) + how_many (is_inport_of n) (kinds_made machine y a)
      by (make_port (Some i)) e last =
          subst (λ (t : System P). one_if (open_at t.ports n) ≡ one_if (open_at s.ports n) + how_many (is_inport_of n) (an_inport i ∷ [])) (some-injective e) (one-port s.ports n i (last i refl))
      by (make_process code (Some made)) e last =
          let m = map-some _ (machine.begin code made.0 (inport_of machine made.1 x)) t e in
          subst (λ (t : System P). one_if (open_at t.ports n) ≡ one_if (open_at s.ports n) + how_many (is_inport_of n) (an_inport made.1 ∷ [])) m.2 (one-port s.ports n made.1 (last made.1 refl))
      by (put (Some k) m) e last =
          subst (λ (t : System P). one_if (open_at t.ports n) ≡ one_if (open_at s.ports n) + how_many (is_inport_of n) (list_of (λ (call : OpenCall). a_callmessage (machine.number y) call.number ∷ []) (machine.open_call y))) (some-injective e)
          (omega (arith, no-inports n (machine.number y) (machine.open_call y)))
      by a e last = subst (λ (t : System P). one_if (open_at t.ports n) ≡ one_if (open_at s.ports n) + 0) (some-injective e) (omega arith)

-- the number of a port that is made
next-number : (b : Book) (t : Bool) (n : ℕ) → cond t (Some (suc b.ports)) None ≡ Some n → n ≡ suc b.ports
next-number b true n e = sym (some-injective e)
next-number b false n e = none-not_some e

next-numbers : (b : Book) (t : Bool) (made : ℕ × ℕ) → cond {A = Option (ℕ × ℕ)} t (Some (suc b.processes, suc b.ports)) None ≡ Some made → made.1 ≡ suc b.ports
next-numbers b true made e = sym (ap (λ (x : ℕ × ℕ). x.1) (some-injective e))
next-numbers b false made e = none-not_some e

pub act-number : {P : Type 0} (machine : Machine Name P) (s : System P) → IsNumbered machine s → (p : ℕ) (w : CellWant Name) (place : Place) (h : Holding) (a : CellAction Name) → IsAct p w place h a → holding_at place s ≡ Some h
    → (i : ℕ) → made_port a ≡ Some i → i ≡ length s.ports
act-number machine s numbered p w place h a (port_made b n e) at i is =
    let same = book-there s b at in
    sym (some-injective is) ∙ next-number b (nat_lt b.ports b.limits.ports) n e ∙ ap (λ (b : Book). suc b.ports) (sym same) ∙ sym (numbered.book).1
act-number machine s numbered p w place h a (process_made code b made e) at i is =
    let same = book-there s b at in
    sym (some-injective is) ∙ next-numbers b (nat_lt b.processes b.limits.processes && nat_lt b.ports b.limits.ports) made e ∙ ap (λ (b : Book). suc b.ports) (sym same) ∙ sym (numbered.book).1
act-number machine s numbered p w place h a (port_refused b e) at i is = none-not_some is
act-number machine s numbered p w place h a (process_refused code b e) at i is = none-not_some is
act-number machine s numbered p w place h a (placed n m q k) at i is = none-not_some is
act-number machine s numbered p w place h a (came_back n m q k) at i is = none-not_some is
act-number machine s numbered p w place h a (taken ports n among b j m q k) at i is = none-not_some is
act-number machine s numbered p w place h a (closed n b q k) at i is = none-not_some is
act-number machine s numbered p w place h a (answered caller call r rs) at i is = none-not_some is
act-number machine s numbered p w place h a (heard k r rs) at i is = none-not_some is
