-- What an action changes in a sound state.
use Rattle.std.proofs.Common.{◌≡◌, ◌⊎◌, inl, inr, ℕ, ◌+◌, List, [], ◌∷◌, ◌++◌, length, Option, Some, None, option_and_then, slice_get, refl, sym, ap, subst, ◌∙◌, arith}
use Rattle.std.specs.Prelude.{IsTrue}
use Rattle.herm_model.specs.Lists.{IsIn, list_of, total}
use Rattle.herm_model.specs.Values.{Name, an_inport, Cell}
use Rattle.herm_model.proofs.Options.{some-injective, none-not_some, chain-some}
use Rattle.herm_journal.specs.Actions.{to_take}
use Rattle.herm_journal.specs.Ports.{Port, left_in}
use Rattle.herm_journal.specs.PlaceStates.{after}
use Rattle.herm_journal.specs.Entries.{Place}
use Rattle.herm_journal.specs.Messages.{CellReply, CellWant, CellAction, cells_in, is_inport, message_of_port, types_of_reply}
use Rattle.herm_system.specs.Machines.{OpenCall, Machine}
use Rattle.herm_system.specs.Summary.{how_many}
use Rattle.herm_system.specs.Systems.{System, Moved, numbered_from_one, holding_at, set_holding, set_process, number_of}
use Rattle.herm_system.specs.Kinds.{unfinalised, typed_of, typed_list, replies_of}
use Rattle.herm_system.specs.Sound.{IsSoundWith}
use Rattle.herm_system.specs.Suiting.{Answers}
use Rattle.herm_runs.proofs.ActionParts.{ActionParts}
use Rattle.herm_runs.proofs.Numbered.{set-found_from_one, lengths-stay}
use Rattle.herm_runs.proofs.Stands.{IsNew, made-found, unmoved-absent}
use Rattle.herm_runs.proofs.SuitsStates.{done-suits}
use Rattle.herm_runs.proofs.SystemLedger.{processes-stay, total-from_one}
use Rattle.herm_sound.specs.Standing.{StandsAt, AllStand, typed_coming, typed_going}
use Rattle.herm_sound.specs.SoundMachines.{HasFor, KeepsSound}
use Rattle.herm_sound.proofs.Acted.{Holding, port_of, IsAct, port_made, port_refused, process_made, process_refused, placed, came_back, taken, closed, answered, heard, acted, act-answers}
use Rattle.herm_sound.proofs.Places.{act-queued, IsPut, IsAnswered, port-there, cell-there, Cells}
use Rattle.herm_sound.proofs.Counted.{of_process, unfinalised-parts, act-moves, made-counts}
use Rattle.herm_sound.proofs.ReplyCells.{own-from_one, other-from_one, act-replied, act-replies, in_cell}
use Rattle.herm_sound.proofs.OpenPorts.{act-open}
use Rattle.herm_sound.proofs.TypedCells.{AllPlaced, in-places, in-list_of}
use Rattle.herm_sound.proofs.MadeSystems.{new_ports, made_port, made-messages, made-answers, made-replies, made-stays, made-length, made-opens, act-number}
use Rattle.herm_sound.proofs.Changes.{WentTo, AnsweredTo, made_type, new_types, Grows, IsChange}

module _ {P : Type 0} (machine : Machine Name P) (Is : P → Type 0) (keeps : KeepsSound machine Is) where
  -- a port with one type more is one port more
  one-type : (x : P) (a : CellAction Name) (t i before behind : ℕ) → made_type machine Is keeps x a ≡ Some t → IsTrue (is_inport (slice_get machine.types t)) → made_port a ≡ Some i → i ≡ before → behind ≡ before + 1
      → Grows machine Is keeps x a before behind
  one-type x a t i before behind types is_port makes last more =
      let one : new_types machine Is keeps x a ≡ t ∷ [] = ap (list_of (λ t. t ∷ [])) types in
      record {
        lengths = more ∙ ap (λ (us : List ℕ). before + length us) (sym one);
        inports = λ u h. by u (subst (IsIn u) one h);
        made = λ ports e u n makes' types'.
            let number : n ≡ length ports = some-injective (sym makes' ∙ makes) ∙ last ∙ sym e in
            ap (λ (us : List ℕ). slice_get (ports ++ us) n) one ∙ ap (slice_get (ports ++ t ∷ [])) number ∙ last-got ports t ∙ sym types ∙ types';
      }
    where
      by : (u : ℕ) → IsIn u (t ∷ []) → IsTrue (is_inport (slice_get machine.types u))
      by u (inl e) = subst (λ u. IsTrue (is_inport (slice_get machine.types u))) (sym e) is_port
      by u (inr h) = absurd h

      last-got : (ports : List ℕ) (t : ℕ) → slice_get (ports ++ t ∷ []) (length ports) ≡ Some t
      last-got [] t = refl
      last-got (p ∷ ports) t = last-got ports t

  no-type : (x : P) (a : CellAction Name) (before behind : ℕ) → made_type machine Is keeps x a ≡ None → made_port a ≡ None → behind ≡ before + 0 → Grows machine Is keeps x a before behind
  no-type x a before behind types makes same =
      let none : new_types machine Is keeps x a ≡ [] = ap (list_of (λ t. t ∷ [])) types in
      record {
        lengths = same ∙ ap (λ (us : List ℕ). before + length us) (sym none);
        inports = λ u h. absurd (subst (IsIn u) none h);
        made = λ ports e u n makes' types'. none-not_some (sym makes ∙ makes');
      }

  act-grows : (x : P) (p : ℕ) (w : CellWant Name) (place : Place) (h : Holding) (a : CellAction Name) → IsAct p w place h a → HasFor machine keeps.first_type keeps.new_type x w → (before behind : ℕ)
      → ((i : ℕ) → made_port a ≡ Some i → i ≡ before) → behind ≡ before + length (new_ports a) → Grows machine Is keeps x a before behind
  act-grows x p w place h a (port_made b n e) has before behind last more = one-type x a has.0 n before behind has.1 has.2 refl (last n refl) more
  act-grows x p w place h a (process_made code b made e) has before behind last more = one-type x a has.0 made.1 before behind has.1 has.2 refl (last made.1 refl) more
  act-grows x p w place h a (port_refused b e) has before behind last more = no-type x a before behind refl refl more
  act-grows x p w place h a (process_refused code b e) has before behind last more = no-type x a before behind refl refl more
  act-grows x p w place h a (placed n m q k) has before behind last more = no-type x a before behind refl refl more
  act-grows x p w place h a (came_back n m q k) has before behind last more = no-type x a before behind refl refl more
  act-grows x p w place h a (taken ports n among b j m q k) has before behind last more = no-type x a before behind refl refl more
  act-grows x p w place h a (closed n b q k) has before behind last more = no-type x a before behind refl refl more
  act-grows x p w place h a (answered caller call r rs) has before behind last more = no-type x a before behind refl refl more
  act-grows x p w place h a (heard k r rs) has before behind last more = no-type x a before behind refl refl more

  module _ (ports : List ℕ) (s : System P) (sound : IsSoundWith machine Is ports s) (p : ℕ) (x : P) (is : numbered_from_one p s.processes ≡ Some x) where
    -- what comes in was at a place with a type
    act-comes : (more : List ℕ) (calls : ℕ → ℕ → Option ℕ) (w : CellWant Name) (place : Place) (h : Holding) (a : CellAction Name) → IsAct p w place h a → holding_at place s ≡ Some h → HasFor machine keeps.first_type keeps.new_type x w
        → AllPlaced machine ports (StandsAt machine.types more calls) s → AllStand machine.types more calls (typed_coming machine x (number_of place) a)
    act-comes more calls w place h a (taken looked n among b i m q k) at has all t j member =
        let u = in-list_of (λ t. typed_of machine.types t m) (t, j) (option_and_then (message_of_port machine.types) (machine.port_type x n)) member in
        let t0 = chain-some (message_of_port machine.types) (machine.port_type x n) u.0 u.1 in
        let held = has n among in
        let same : held.0 ≡ t0.0 = some-injective (sym held.1 ∙ t0.1) in
        let type = sound.ports.inports_stand held.0 n (in-places machine ports s p x held.0 (an_inport n) is held.2) in
        all.queued n held.0 u.0 (port_of b ((i, m) ∷ q) k) m type (ap (message_of_port machine.types) same ∙ t0.2) (port-there s n (port_of b ((i, m) ∷ q) k) at) (inl refl) t j u.2
    act-comes more calls w place h a (heard k r rs) at has all t j member =
        let call = in-list_of (λ (call : OpenCall). typed_list machine.types (types_of_reply machine.types call.call_type r) (cells_in r)) (t, j) (machine.open_call x) member in
        let there : IsIn (k, r) (replies_of s p) = subst (IsIn (k, r)) (sym (ap (list_of (λ rs. rs)) (cell-there s p ((k, r) ∷ rs) at))) (inl refl) in
        all.waiting p x call.0 (k, r) is call.1 there t j call.2
    act-comes more calls w place h a (port_made b n e) at has all t j member = absurd member
    act-comes more calls w place h a (port_refused b e) at has all t j member = absurd member
    act-comes more calls w place h a (process_made code b made e) at has all t j member = absurd member
    act-comes more calls w place h a (process_refused code b e) at has all t j member = absurd member
    act-comes more calls w place h a (placed n m q k) at has all t j member = absurd member
    act-comes more calls w place h a (came_back n m q k) at has all t j member = absurd member
    act-comes more calls w place h a (closed n b q k) at has all t j member = absurd member
    act-comes more calls w place h a (answered caller call r rs) at has all t j member = absurd member

  -- an action that can be, taken apart
  pub action-change : (ports : List ℕ) (s : System P) → IsSoundWith machine Is ports s → (p : ℕ) (place : Place) (m : Moved P) (parts : ActionParts machine p place s m)
      → IsChange machine Is keeps ports s parts.makes.0 p parts.state parts.left.0 (Some parts.want.0) (number_of place) parts.did.0
  action-change ports s sound p place m parts =
      let x = parts.state in
      let y = parts.left.0 in
      let w = parts.want.0 in
      let h = parts.at.0 in
      let a = parts.did.0 in
      let t = parts.makes.0 in
      let s0 = set_holding place (after a h) s in
      let s1 = set_process p y s0 in
      let act = acted p w place h a parts.there parts.did.1 in
      let before = sound.processes p x parts.is in
      let does = parts.left.1 in
      let same = processes-stay place (after a h) s in
      let is0 : numbered_from_one p s0.processes ≡ Some x = ap (numbered_from_one p) same ∙ parts.is in
      let number = (sound.numbers.processes p x parts.is).0 in
      let answers = act-answers p w place h a act in
      let suits = done-suits machine s p x parts.is Is (λ x looked n i wants member. keeps.wants x (to_take looked) i wants n member) ports sound place w h a parts.want.1 parts.there parts.at.1 parts.did.1 in
      let has = keeps.wants x w before parts.want.1 in
      let last = act-number machine s sound.numbers p w place h a act parts.at.1 in
      let lengths = (lengths-stay place (after a h) s).1 in
      let stay = keeps.processes.answers x y w (number_of place) a before parts.want.1 answers suits does in
      record {
        was = parts.is;
        now = made-stays machine x a s1 t parts.makes.1 p y (own-from_one s0.processes p x y is0);
        found = λ q z e. first s s0 x y a place h p q z same refl (made-found machine x a s1 t q z parts.makes.1 e);
        stays = λ q z apart e. made-stays machine x a s1 t parts.makes.1 q z (other-from_one s0.processes p q y apart ∙ ap (numbered_from_one q) same ∙ e);
        number = (number, (keeps.numbers.answers x y (number_of place) a does).0 ∙ number);
        messages = made-messages machine x a s1 t parts.makes.1 (WentTo (Some w) a) s.ports (λ n q d e member. went w a s.ports n d (act-queued s p w place h a act parts.at.1 n q d e member));
        answers = made-answers machine x a s1 t parts.makes.1 (AnsweredTo (Some w) a) s.replies (λ q r member. replied-to w a s.replies q r (act-replied s p w place h a act parts.at.1 q r member));
        replies = λ q k. omega (arith, made-replies machine x a s1 t parts.makes.1 q k, act-replies s p w place h a act parts.at.1 q k);
        grows = act-grows x p w place h a act has (length s.ports) (length t.ports) last (omega (arith, made-length machine x a s1 t parts.makes.1, lengths));
        opens = λ ready n. omega (
          arith,
          made-opens machine x a s1 t parts.makes.1 y (λ i e. last i e ∙ sym lengths) n,
          act-open s p w place h a act parts.at.1 (λ n e. ready n (ap (λ w. Some w) e)) n,
        );
        counts = λ test of.
            let u : how_many test (unfinalised machine s) ≡ _ = unfinalised-parts test machine s in
            let v = unfinalised-parts test machine t in
            let made = made-counts test machine Is keeps.counts of x a s1 t parts.makes.1 in
            let moves = act-moves test machine s x p w place h a act parts.at.1 in
            let set = total-from_one (of_process test machine) s0.processes p x y is0 in
            let held = ap (total (of_process test machine)) same in
            let own = keeps.counts.answers test of x y w (number_of place) a before parts.want.1 answers suits does in
            omega (arith, u, v, made.0, made.1, moves, set, held, own);
        is = stay.0;
        calls = stay.1;
        suits = suits;
        has = λ want e. subst (λ w. HasFor machine keeps.first_type keeps.new_type x w × Answers w a) (some-injective e) (has, answers);
        comes = λ more calls all. act-comes ports s sound p x parts.is more calls w place h a act parts.at.1 has all;
        stands = λ more calls all beside comes makes.
            let both = (keeps.standing more calls).answers x y w (number_of place) a before parts.want.1 answers suits does all beside comes makes in
            (both.0, both.1, λ want e. subst (λ w. AllStand machine.types more calls (typed_going machine.types more calls w a)) (some-injective e) both.2);
      }
    where
      went : (w : CellWant Name) (a : CellAction Name) (before : List (Port (Cell Name))) (n : ℕ) (d : Cell Name) → ((o : Port (Cell Name)) × (slice_get before n ≡ Some o) × IsIn d (left_in o)) ⊎ IsPut w a n d
          → ((o : Port (Cell Name)) × (slice_get before n ≡ Some o) × IsIn d (left_in o)) ⊎ WentTo (Some w) a n d
      went w a before n d (inl e) = inl e
      went w a before n d (inr e) = inr (ap (λ w. Some w) e.0, e.1)

      replied-to : (w : CellWant Name) (a : CellAction Name) (before : Cells) (q : ℕ) (r : ℕ × CellReply Name) → IsIn r (in_cell before q) ⊎ IsAnswered w a q r
          → IsIn r (in_cell before q) ⊎ AnsweredTo (Some w) a q r
      replied-to w a before q r (inl e) = inl e
      replied-to w a before q r (inr e) = inr (ap (λ w. Some w) e.0, e.1)

      among : (s s0 : System P) (y : P) (p q : ℕ) (z : P) → s0.processes ≡ s.processes → ((p ≡ q) × (y ≡ z)) ⊎ (numbered_from_one q s0.processes ≡ Some z) → ((p ≡ q) × (y ≡ z)) ⊎ (numbered_from_one q s.processes ≡ Some z)
      among s s0 y p q z same (inl e) = inl e
      among s s0 y p q z same (inr e) = inr (sym (ap (numbered_from_one q) same) ∙ e)

      joined : {A B C : Type 0} → A ⊎ B → A ⊎ (B ⊎ C)
      joined (inl a) = inl a
      joined (inr b) = inr (inl b)

      first : (s s0 : System P) (x y : P) (a : CellAction Name) (place : Place) (h : Holding) (p q : ℕ) (z : P) → s0.processes ≡ s.processes → s0 ≡ set_holding place (after a h) s
          → (numbered_from_one q (set_process p y s0).processes ≡ Some z) ⊎ IsNew machine x a (set_process p y s0) q z → ((p ≡ q) × (y ≡ z)) ⊎ ((numbered_from_one q s.processes ≡ Some z) ⊎ IsNew machine x a s q z)
      first s s0 x y a place h p q z same which (inl e) = joined (among s s0 y p q z same (set-found_from_one s0.processes p q y z e))
      first s s0 x y a place h p q z same which (inr new) =
          inr (inr (record {
            module_number = new.module_number;
            made = new.made;
            does = new.does;
            at = unmoved-absent s place (after a h) p q y (subst (λ (s0 : System P). numbered_from_one q (set_process p y s0).processes ≡ None) which new.at);
            is = new.is;
          }))
