-- What a process keeps at the end of each call.
use Rattle.std.proofs.Common.{◌≡◌, ℕ, suc, ◌<◌, ◌≤◌, List, [], ◌∷◌, ◌++◌, Bool, true, false, Option, Some, None, option_and_then, refl, sym, ap, subst, ◌∙◌, arith, true≢false}
use Rattle.std.specs.Prelude.{length, ⊤}
use Rattle.herm_model.specs.Values.{an_inport}
use Rattle.herm_model.proofs.Options.{some-injective, none-not_some}
use Rattle.herm_base.specs.declared.numbers.PortNo.{PortNo}
use Rattle.herm_base.specs.declared.numbers.ProcNo.{ProcNo}
use Rattle.herm_journal.specs.Actions.{new_port, new_process, to_put, to_take, to_close, to_answer, to_hear}
use Rattle.herm_journal.specs.Entries.{Entry}
use Rattle.herm_journal.specs.Messages.{CellWant}
use Rattle.herm_system.specs.Machines.{Standing, local, acting, greatest_actions}
use Rattle.herm_waking.specs.DiaryKept.{AreLater, clock_behind}
use Rattle.herm_events.specs.Rising.{DiaryState}
use Rattle.herm_events.specs.declared.entry.Stamp.{Stamp}
use Rattle.herm_instructions.specs.Images.{Image}
use Rattle.herm_code_machine.specs.CodeStates.{CodeState}
use Rattle.herm_values.specs.View.{leaf}
use Rattle.herm_exchanges.specs.Told.{Told, a_take, told}
use Rattle.herm_exchanges.specs.declared.wants.Want.{Want}
use Rattle.herm_machine.specs.Gots.{FitsWant, IsOrdered}
use Rattle.herm_machine.specs.Machines.{MachineState, IsAt, IsTakeWanted, Reaches, StandsFor, code_of, nameless}
use Rattle.herm_machine.specs.declared.order.Got.{Got}
use Rattle.herm_machine.specs.declared.order.Got.TheVariants as gots
use Rattle.herm_machine.specs.declared.order.Order.{Order}
use Rattle.herm_process.specs.Entries.{IsFor, comes_in}
use Rattle.herm_process.specs.Kept.{AreKept, process_state}
use Rattle.herm_process.specs.Processes.{ProcessState, Comes, IsKept, IsOutAs, IsPrepared, IsProcess, IsStepping, IsWanting, Orders}
use Rattle.herm_process.specs.Sums.{AreSums, sums_in}
use Rattle.herm_process.specs.declared.birth.Birth.{Birth}
use Rattle.herm_process.specs.declared.ordered.Ordered.{Ordered}
use Rattle.herm_process.specs.declared.ordered.Ordered.TheVariants as ordered
use Rattle.herm_process.specs.declared.ordered.Sums.{Sums}
use Rattle.herm_process.proofs.DiaryGrown.{later-more, clock-more}
use Rattle.herm_process.proofs.Standings.{acting-left, at-inside, at-sound, some_want, told-want}
use Rattle.herm_process.proofs.NextStands.{acting-wants}
use Rattle.herm_process.proofs.Went.{begun, given, stepped}

-- with no order prepared the machine stands for the state
pub standing : (image : Image) (main : ℕ) (p : ProcessState) (x : CodeState ⊤) → p.ordered ≡ None → IsProcess image main p x → StandsFor image main p.machine x
standing image main p x none h = at-inside image main p.machine x h.at (subst (λ o. IsOutAs o p.machine.order) none h.out)

-- the sums of a process that remembers none, and of one that does
none-given : (o : Option Ordered) (order : Option Want) → sums_in o ≡ None → IsOutAs o order → order ≡ None
none-given None order e out = out
none-given (Some (ordered.Put p sums)) order e out = none-not_some (sym e)
none-given (Some (ordered.Answer p k text sums)) order e out = none-not_some (sym e)
none-given (Some o) order e out = out

pub inside-standing : (image : Image) (main : ℕ) (p : ProcessState) (x : CodeState ⊤) → sums_in p.ordered ≡ None → IsProcess image main p x → StandsFor image main p.machine x
inside-standing image main p x none h = at-inside image main p.machine x h.at (none-given p.ordered p.machine.order none h.out)

pub remembered-sums : (image : Image) (main limit : ℕ) (x : CodeState ⊤) (o : Option Ordered) (sums : Sums) → Some sums ≡ sums_in o → IsPrepared image main o limit x → AreSums (nameless image main) x sums
remembered-sums image main limit x None sums e h = none-not_some (sym e)
remembered-sums image main limit x (Some (ordered.Put p kept)) sums e h = subst (AreSums (nameless image main) x) (sym (some-injective e)) h.4
remembered-sums image main limit x (Some (ordered.Answer p k text kept)) sums e h = subst (AreSums (nameless image main) x) (sym (some-injective e)) h.4
remembered-sums image main limit x (Some o) sums e h = none-not_some (sym e)

-- a process that begins
pub begun-kept : (image : Image) (m : MachineState) (number : ProcNo) (code : ℕ) (first : PortNo) (birth : Birth) (limit : ℕ) (diary : DiaryState) → diary.entries ≡ [] → diary.process ≡ number.number → limit ≤ 1000000
    → ((main : ℕ) → Reaches image main m ((nameless image main).begin code number.number (leaf (an_inport first.number)))) → AreKept m number code first birth limit birth.stamp diary None false
begun-kept image m number code first birth limit diary none own few r = record {
  kept = subst (λ es. IsKept (record { machine = m; number = number.number; module_number = code; first = first.number; birth = birth; limit = limit; clock = birth.stamp.0; diary = es; ordered = None; is_dead = false })) (sym none)
      (record { stands = λ alive. let b = begun image 0 m number.number code first.number limit birth (r 0) in (image, 0, b.0, b.2); later = tt; at_clock = refl });
  own = own;
  room = λ some. absurd (true≢false (sym some));
  few = few;
}

pub begun-comes : (image : Image) (main : ℕ) (m : MachineState) (number : ProcNo) (code : ℕ) (first : PortNo) (birth : Birth) (limit : ℕ) (es : List Entry) → es ≡ []
    → Reaches image main m ((nameless image main).begin code number.number (leaf (an_inport first.number)))
    → Comes image main (record { machine = m; number = number.number; module_number = code; first = first.number; birth = birth; limit = limit; clock = birth.stamp.0; diary = es; ordered = None; is_dead = false })
    ((nameless image main).begin code number.number (leaf (an_inport first.number)))
begun-comes image main m number code first birth limit es none r =
    subst (λ es. Comes image main (record { machine = m; number = number.number; module_number = code; first = first.number; birth = birth; limit = limit; clock = birth.stamp.0; diary = es; ordered = None; is_dead = false })
    ((nameless image main).begin code number.number (leaf (an_inport first.number)))) (sym none) (begun image main m number.number code first.number limit birth r)

-- a dead process keeps its diary, and one entry more
pub grown-later : (birth clock stamp : ℕ) (es more : List Entry) (e : Entry) → AreLater birth es → clock_behind birth es ≡ clock → clock < stamp → e.stamp ≡ stamp → more ≡ es ++ e ∷ [] → AreLater birth more × (clock_behind birth more ≡ stamp)
grown-later birth clock stamp es more e later at lt same is =
    subst (λ xs. AreLater birth xs × (clock_behind birth xs ≡ stamp)) (sym is) (later-more birth es e later (omega (arith, at, lt, same)), clock-more birth es e ∙ same)

-- what is told of one want that takes is told of another
abbrev count-in : Option Told → ℕ
count-in (Some (a_take n count)) = count
count-in o = 0

take-told : (w : CellWant ⊤) (n count : ℕ) → told w ≡ Some (a_take n count) → (ports : List ℕ) × (w ≡ to_take ports) × (length ports ≡ count)
take-told new_port n count e = cc
take-told (new_process code) n count e = cc
take-told (to_put p m) n count e = cc
take-told (to_take []) n count e = cc
take-told (to_take (k ∷ ks)) n count e = (k ∷ ks, refl, ap count-in e)
take-told (to_close p) n count e = cc
take-told (to_answer caller call r) n count e = cc
take-told to_hear n count e = cc

pub take-same : (o q : Option (CellWant ⊤)) (place : ℕ) (t : Option Told) → t ≡ option_and_then told o → t ≡ option_and_then told q → IsTakeWanted place o → IsTakeWanted place q
take-same o q place t a b h = by h.0 h.1 h.2
  where
    by : (ports : List ℕ) → o ≡ some_want (to_take ports) → place < length ports → IsTakeWanted place q
    by [] is lt = absurd (let k : ⊥ = omega (arith, lt) in k)
    by (n ∷ ns) is lt =
        let w = told-want q (a_take n (suc (length ns))) (sym (ap (option_and_then told) is) ∙ sym a ∙ b) in
        let r = take-told w.0 n (suc (length ns)) w.2 in
        (r.0, w.1 ∙ ap some_want r.1, subst (λ k. place < k) (sym r.2) lt)

-- what is got for what was given away has its order out
order-out : (o : Ordered) (got : Got) (w : CellWant ⊤) (m : MachineState) → IsFor o w → FitsWant got w → IsOutAs (Some o) m.order → IsOrdered m got
order-out (ordered.Put p sums) (gots.Placed number trace) (to_put n v) m f h out = λ alive. out
order-out o (gots.Placed number trace) (to_put n v) m f h out = absurd f
order-out o (gots.Placed number trace) w m f h out = absurd h
order-out (ordered.Put p sums) (gots.Back value trace) (to_put n v) m f h out = λ alive. out
order-out o (gots.Back value trace) (to_put n v) m f h out = absurd f
order-out o (gots.Back value trace) w m f h out = absurd h
order-out (ordered.Answer p k text sums) gots.Answered (to_answer caller call r) m f h out = λ alive. out
order-out o gots.Answered (to_answer caller call r) m f h out = absurd f
order-out o gots.Answered w m f h out = absurd h
order-out o (gots.Port made) w m f h out = tt
order-out o (gots.Process made) w m f h out = tt
order-out o (gots.Message n parcel) w m f h out = tt
order-out o (gots.Left left) w m f h out = tt
order-out o (gots.Heard call reply trace) w m f h out = tt

-- a message or a reply comes in where no order is out
none-out : (o : Ordered) (got : Got) (w : CellWant ⊤) (m : MachineState) → IsFor o w → FitsWant got w → IsOutAs (Some o) m.order → comes_in got ≡ true → m.order ≡ None
none-out ordered.Take (gots.Message n parcel) (to_take ports) m f h out e = out
none-out o (gots.Message n parcel) (to_take ports) m f h out e = absurd f
none-out o (gots.Message n parcel) w m f h out e = absurd h
none-out ordered.Hear (gots.Heard call reply trace) to_hear m f h out e = out
none-out o (gots.Heard call reply trace) to_hear m f h out e = absurd f
none-out o (gots.Heard call reply trace) w m f h out e = absurd h
none-out o got w m f h out e = absurd (true≢false (sym e))

module _ (image : Image) (main : ℕ) (p : ProcessState) (x : CodeState ⊤) (h : IsProcess image main p x) (got : Got) (w : CellWant ⊤) (wanted : (nameless image main).wanted x ≡ Some w) (fits : FitsWant got w) (o : Ordered) (prepared : p.ordered ≡ Some o) where
  out-as : IsOutAs (Some o) p.machine.order
  out-as = subst (λ o. IsOutAs o p.machine.order) prepared h.out

  ready : IsPrepared image main (Some o) p.limit x
  ready = subst (λ o. IsPrepared image main o p.limit x) prepared h.prepared

  pub for-want : IsFor o w
  for-want = subst (IsFor o) (some-injective (sym (ready).2 ∙ wanted)) (ready).3

  pub its-out : IsOrdered p.machine got
  its-out = order-out o got w p.machine for-want fits out-as

  pub its-inside : comes_in got ≡ true → p.machine.order ≡ None
  its-inside = none-out o got w p.machine for-want fits out-as

  pub its-few : comes_in got ≡ true → p.machine.held.frame.actions < greatest_actions
  its-few comes =
      let s = at-inside image main p.machine x h.at (its-inside comes) in
      subst (λ n. n < greatest_actions) (((s.stands).frame).actions) (acting-left image main p.limit (code_of p.machine) x s.sound (ready).0)

-- a call of a process that is not dead keeps it so
module _ (machine : MachineState) (number : ProcNo) (code : ℕ) (first : PortNo) (birth : Birth) (limit : ℕ) (clock : Stamp) (diary : DiaryState) (o : Option Ordered) (is_dead : Bool) (k : AreKept machine number code first birth limit clock diary o is_dead) (alive : is_dead ≡ false) where
  abbrev old : ProcessState
  old = process_state machine number code first birth limit clock diary o is_dead

  abbrev Each : Standing → Type 0
  Each s = (image : Image) (main : ℕ) (x : CodeState ⊤) → IsProcess image main old x → (nameless image main).ready limit x ≡ s

  pub stepping : Each local → IsStepping machine
  stepping each = let r = (k.kept).stands alive in (r.0, r.1, limit, r.2, (r.3).at, each r.0 r.1 r.2 r.3)

  pub stepped-kept : Each local → (m : MachineState) → ((image : Image) (main : ℕ) (s : CodeState ⊤) → IsAt image main machine s → Reaches image main m ((nameless image main).local_step s)) → AreKept m number code first birth limit clock diary o false
  stepped-kept each m reaches = record {
    kept = record {
      stands = λ e.
          let r = (k.kept).stands alive in let s = stepped r.0 r.1 old m r.2 r.3 (each r.0 r.1 r.2 r.3) (reaches r.0 r.1 r.2 (r.3).at) in (r.0, r.1, s.0, s.2);
      later = (k.kept).later;
      at_clock = (k.kept).at_clock;
    };
    own = k.own;
    room = k.room;
    few = k.few;
  }

  pub wanting : Each acting → IsWanting machine
  wanting each =
      let r = (k.kept).stands alive in
      let w = acting-wants r.0 r.1 limit (code_of machine) r.2 (at-sound r.0 r.1 machine r.2 (r.3).at) (each r.0 r.1 r.2 r.3) in
      (r.0, r.1, r.2, w.0, (r.3).at, w.1)

  pub given-process : (m : MachineState) (order : Order) (q : Ordered) (d : DiaryState) → d.entries ≡ diary.entries → (image : Image) (main : ℕ) (x : CodeState ⊤) → IsProcess image main old x → (nameless image main).ready limit x ≡ acting
      → Orders image main m order q x → IsProcess image main (process_state m number code first birth limit clock d (Some q) false) x
  given-process m order q d same image main x h next r =
      subst (λ es. IsProcess image main (record { machine = m; number = number.number; module_number = code; first = first.number; birth = birth; limit = limit; clock = clock.0; diary = es; ordered = Some q; is_dead = false }) x) (sym same)
      (given image main old m order q x h next r)

  pub given-kept : Each acting → (m : MachineState) (order : Order) (q : Ordered) (d : DiaryState) → d.entries ≡ diary.entries → d.process ≡ diary.process → 1 ≤ d.room
      → ((image : Image) (main : ℕ) (s : CodeState ⊤) → IsAt image main machine s → Orders image main m order q s) → AreKept m number code first birth limit clock d (Some q) false
  given-kept each m order q d same process room orders = record {
    kept = record {
      stands = λ e.
          let r = (k.kept).stands alive in (r.0, r.1, r.2, given-process m order q d same r.0 r.1 r.2 r.3 (each r.0 r.1 r.2 r.3) (orders r.0 r.1 r.2 (r.3).at));
      later = subst (AreLater birth.stamp.0) (sym same) (k.kept).later;
      at_clock = ap (clock_behind birth.stamp.0) same ∙ (k.kept).at_clock;
    };
    own = process ∙ k.own;
    room = λ some. room;
    few = k.few;
  }

-- with an entry more, and no order out
pub entered-kept : (machine m : MachineState) (number : ProcNo) (code : ℕ) (first : PortNo) (birth : Birth) (limit : ℕ) (clock stamp : Stamp) (diary d : DiaryState) (o q : Option Ordered) (was is_dead : Bool) (e : Entry) → AreKept machine number code first birth limit clock diary o was
    → q ≡ None → e.stamp ≡ stamp.0 → clock.0 < stamp.0 → d.entries ≡ diary.entries ++ e ∷ [] → d.process ≡ diary.process
    → (is_dead ≡ false → (image : Image) × (main : ℕ) × (x : CodeState ⊤) × IsProcess image main (process_state m number code first birth limit stamp d None is_dead) x) → AreKept m number code first birth limit stamp d q is_dead
entered-kept machine m number code first birth limit clock stamp diary d o q was is_dead e k none same late is process stands =
    let later = grown-later birth.stamp.0 clock.0 stamp.0 diary.entries d.entries e (k.kept).later (k.kept).at_clock late same is in
    subst (λ q. AreKept m number code first birth limit stamp d q is_dead) (sym none)
    (record { kept = record { stands = stands; later = later.0; at_clock = later.1 }; own = process ∙ k.own; room = λ some. absurd (true≢false (sym some)); few = k.few })
