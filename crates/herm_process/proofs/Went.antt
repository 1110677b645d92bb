-- For what a process stands as it begins, behind a local step, with an order out and behind what it got.
use Rattle.std.proofs.Common.{◌≡◌, inl, inr, ℕ, ◌<◌, nat_eq, List, [], ◌∷◌, ◌++◌, true, false, ◌||◌, Option, Some, None, option_and_then, refl, sym, ap, subst, ◌∙◌, arith}
use Rattle.std.proofs.lemmas.Bool.Decides.{nat_tests}
use Rattle.std.specs.Prelude.{IsTrue, IsFalse, ⊤}
use Rattle.herm_model.specs.Lists.{any_pass}
use Rattle.herm_model.specs.Values.{an_inport}
use Rattle.herm_model.proofs.Options.{some-injective, none-not_some}
use Rattle.herm_journal.specs.Actions.{new_port, new_process, to_put, to_take, to_close, to_answer, to_hear}
use Rattle.herm_journal.specs.Entries.{Entry, recorded, same_place}
use Rattle.herm_journal.specs.Messages.{CellAction, CellWant}
use Rattle.herm_journal.specs.Renaming.{forget_name}
use Rattle.herm_system.specs.Machines.{Standing, local, acting, is_local, is_acting}
use Rattle.herm_system.specs.PutAside.{IsBehind, told, aside}
use Rattle.herm_system.specs.Suiting.{Answers, Suits}
use Rattle.herm_system.specs.Systems.{number_of, places_for}
use Rattle.herm_waking.specs.DiaryKept.{IsAtDiary}
use Rattle.herm_waking.proofs.DiariesKept.{begins-at, steps-keep}
use Rattle.herm_instructions.specs.Images.{Image}
use Rattle.herm_code_machine.specs.CodeSeen.{code_port_type}
use Rattle.herm_code_machine.specs.CodeStates.{CodeState}
use Rattle.herm_code_machine.specs.CodeSteps.{code_wanted}
use Rattle.herm_code_machine.specs.ReadyCode.{labelled_image}
use Rattle.herm_events.specs.View.{action_view, place_view}
use Rattle.herm_events.specs.declared.entry.Action as code_action
use Rattle.herm_events.specs.declared.entry.Place as code_place
use Rattle.herm_values.specs.View.{leaf}
use Rattle.herm_machine.specs.Gots.{FitsWant, IsWholeGot, TellsGot}
use Rattle.herm_machine.specs.Machines.{MachineState, Reaches, StandsFor, code_of, nameless}
use Rattle.herm_machine.specs.declared.order.Got.{Got}
use Rattle.herm_machine.specs.declared.order.Got.TheVariants as gots
use Rattle.herm_machine.specs.declared.order.Order.{Order}
use Rattle.herm_process.specs.Entries.{IsEntryOf, IsFor, action_of, place_of}
use Rattle.herm_process.specs.Processes.{ProcessState, Comes, IsPrepared, IsOutAs, IsProcess, IsSettled, IsTakenIn, Orders}
use Rattle.herm_process.specs.declared.birth.Birth.{Birth}
use Rattle.herm_process.specs.declared.ordered.Ordered.{Ordered}
use Rattle.herm_process.proofs.Counted.{IsAnswered, first-counts, step-counts, answer-counts}
use Rattle.herm_process.proofs.DiaryGrown.{grown}
use Rattle.herm_process.proofs.GotTold.{GotAction, got-action}
use Rattle.herm_process.proofs.Looking.{looks-among}
use Rattle.herm_process.proofs.SameTexts.{suits-same}
use Rattle.herm_process.proofs.Standings.{acting-left, at-sound, coded}

-- what is acting is not local
not-local : (s : Standing) → s ≡ acting → IsFalse (is_local s)
not-local s e = ap is_local e

acts : (s : Standing) → s ≡ acting → IsTrue (is_acting s)
acts s e = ap is_acting e

steps : (s : Standing) → s ≡ local → IsTrue (is_local s)
steps s e = ap is_local e

same-number : (n : ℕ) → nat_eq n n || false ≡ true
same-number n = grind (arith, nat_tests)

module _ (image : Image) (main : ℕ) where
  pub begun : (m : MachineState) (number code first limit : ℕ) (birth : Birth) → Reaches image main m ((nameless image main).begin code number (leaf (an_inport first)))
      → Comes image main (record { machine = m; number = number; module_number = code; first = first; birth = birth; limit = limit; clock = birth.stamp.0; diary = []; ordered = None; is_dead = false })
      ((nameless image main).begin code number (leaf (an_inport first)))
  begun m number code first limit birth r =
      let n = first-counts (labelled_image image main) code number first r.0 r.1 in (
        r.0,
        r.1,
        record {
          alive = refl;
          at = inl r.2;
          first = r.0;
          begins = r.1;
          diary = begins-at (nameless image main) limit number birth.stamp.0 r.0;
          number = n.number;
          steps = omega (arith, n.steps);
          actions = omega (arith, n.actions);
          prepared = tt;
          out = (r.2).inside;
        },
      )

  -- where a local step is next no order was prepared
  unprepared : (o : Option Ordered) (limit : ℕ) (x : CodeState ⊤) → (nameless image main).ready limit x ≡ local → IsPrepared image main o limit x → o ≡ None
  unprepared None limit x next h = refl
  unprepared (Some o) limit x next h = let e = sym (h.0) ∙ next in absurd (let k : ⊥ = cc in k)

  pub stepped : (p : ProcessState) (m : MachineState) (x : CodeState ⊤) → IsProcess image main p x → (nameless image main).ready p.limit x ≡ local → Reaches image main m ((nameless image main).local_step x)
      → Comes image main (record p { machine = m; is_dead = false }) ((nameless image main).local_step x)
  stepped p m x h next r =
      let sound = at-sound image main p.machine x h.at in
      let n = step-counts (labelled_image image main) p.limit sound.named x r.0 sound.same (steps ((nameless image main).ready p.limit x) next) r.1 in
      let none = unprepared p.ordered p.limit x next h.prepared in (
        r.0,
        r.1,
        record {
          alive = refl;
          at = inl r.2;
          first = h.first;
          begins = h.begins;
          diary = steps-keep (nameless image main) p.limit p.number p.birth.stamp.0 p.clock h.first x r.0 p.diary h.diary (steps ((nameless image main).ready p.limit x) next) r.1;
          number = n.number ∙ h.number;
          steps = n.steps;
          actions = omega (arith, n.actions, h.actions);
          prepared = subst (λ o. IsPrepared image main o p.limit r.0) (sym none) tt;
          out = subst (λ o. IsOutAs o m.order) (sym none) (r.2).inside;
        },
      )

  pub given : (p : ProcessState) (m : MachineState) (order : Order) (o : Ordered) (x : CodeState ⊤) → IsProcess image main p x → (nameless image main).ready p.limit x ≡ acting → Orders image main m order o x
      → IsProcess image main (record p { machine = m; ordered = Some o; is_dead = false }) x
  given p m order o x h next r = record {
    alive = refl;
    at = r.at;
    first = h.first;
    begins = h.begins;
    diary = h.diary;
    number = h.number;
    steps = h.steps;
    actions = h.actions;
    prepared = (next, r.want, r.wanted, r.remembered, r.sums);
    out = r.out;
  }

  -- the place is one where what is wanted may be done
  is-place : (p : ProcessState) (x : CodeState ⊤) (got : Got) (w : CellWant ⊤) (a : CellAction ⊤) → IsProcess image main p x → (nameless image main).wanted x ≡ Some w → FitsWant got w → action_of got w ≡ Some a
      → Suits (nameless image main) x (number_of (place_of p.number got w)) a → IsTrue (any_pass (same_place (place_of p.number got w)) (places_for ((nameless image main).number x) w))
  is-place p x got new_port a h wanted fits is suits = refl
  is-place p x got (new_process code) a h wanted fits is suits = refl
  is-place p x got (to_put n m) a h wanted fits is suits = same-number n
  is-place p x (gots.Message n parcel) (to_take ports) a h wanted fits is suits =
      let c = code_of p.machine in
      let at = coded image main c x (at-sound image main p.machine x h.at) in
      let s = subst (λ a. Suits (nameless image main) x n.number a) (sym (some-injective is)) suits in
      looks-among c x ports n.number s.0 (sym (ap (option_and_then (λ c. code_wanted forget_name c x)) at) ∙ wanted) (sym (ap (option_and_then (λ c. code_port_type c x n.number)) at) ∙ s.1)
  is-place p x got (to_take ports) a h wanted fits is suits = none-not_some is
  is-place p x got (to_close n) a h wanted fits is suits = same-number n
  is-place p x got (to_answer caller call r) a h wanted fits is suits = same-number caller
  is-place p x got to_hear a h wanted fits is suits = subst (λ n. nat_eq p.number n || false ≡ true) (sym h.number) (same-number p.number)

  -- behind an entry, from where an action was next
  went : (p : ProcessState) (m : MachineState) (x y : CodeState ⊤) (e : Entry) (diary : List Entry) → IsProcess image main p x → (nameless image main).ready p.limit x ≡ acting → StandsFor image main m y → e.process ≡ p.number → p.clock < e.stamp
      → IsBehind (nameless image main) x e y → IsAnswered p.limit x y → diary ≡ p.diary ++ e ∷ [] → IsProcess image main (record p { machine = m; clock = e.stamp; diary = diary; ordered = None; is_dead = false }) y
  went p m x y e diary h next stands own late behind n is = record {
    alive = refl;
    at = inl stands;
    first = h.first;
    begins = h.begins;
    diary = subst (λ es. IsAtDiary (nameless image main) p.limit p.number p.birth.stamp.0 h.first y es e.stamp) (sym is)
        (grown (nameless image main) p.limit p.number p.birth.stamp.0 p.clock h.first x y p.diary e h.diary (not-local ((nameless image main).ready p.limit x) next) own late behind);
    number = n.number ∙ h.number;
    steps = n.steps h.steps;
    actions = n.actions;
    prepared = tt;
    out = stands.inside;
  }

  module _ (p : ProcessState) (m : MachineState) (o : Ordered) (x : CodeState ⊤) (got : Got) (w : CellWant ⊤) (stamp : ℕ) (place : code_place.Place) (action : code_action.Action) (diary : List Entry) (prepared : p.ordered ≡ Some o) (h : IsProcess image main p x)
      (wanted : (nameless image main).wanted x ≡ Some w) (whole : IsWholeGot got) (fits : FitsWant got w) (late : p.clock < stamp) (entry : (w : CellWant ⊤) → IsFor o w → FitsWant got w → IsEntryOf p.number place action got w)
      (is : diary ≡ p.diary ++ record { stamp = stamp; process = p.number; place = place_view place; action = action_view action } ∷ [])
      (taken : (w : CellWant ⊤) (at : ℕ) (a : CellAction ⊤) → (nameless image main).wanted x ≡ Some w → Answers w a → TellsGot got at a → IsTakenIn image main m x at a) where
    abbrev its : GotAction p.number got w
    its = got-action p.number got w whole fits

    abbrev at_place : ℕ
    at_place = number_of (place_of p.number got w)

    abbrev its_entry : Entry
    its_entry = record { stamp = stamp; process = p.number; place = place_of p.number got w; action = recorded (its).action }

    abbrev new_process' : ProcessState
    new_process' = record p { machine = m; clock = stamp; diary = diary; ordered = None; is_dead = false }

    ready : IsPrepared image main (Some o) p.limit x
    ready = subst (λ o. IsPrepared image main o p.limit x) prepared h.prepared

    for-it : IsFor o w
    for-it = subst (IsFor o) (some-injective (sym (ready).2 ∙ wanted)) (ready).3

    its-diary : diary ≡ p.diary ++ its_entry ∷ []
    its-diary =
        let e = entry w for-it fits in
        is ∙ ap (λ s. p.diary ++ record { stamp = stamp; process = p.number; place = s; action = action_view action } ∷ []) e.0
        ∙ ap (λ r. p.diary ++ record { stamp = stamp; process = p.number; place = place_of p.number got w; action = r } ∷ []) (e.1 (its).action (its).is)

    suited : Suits (nameless image main) x at_place (its).action → Reaches image main m ((nameless image main).answered x at_place (its).action) → Comes image main new_process' ((nameless image main).answered x at_place (its).action)
    suited suits r =
        let sound = at-sound image main p.machine x h.at in
        let n = answer-counts (labelled_image image main) p.limit sound.named x r.0 at_place (its).action sound.same (acts ((nameless image main).ready p.limit x) (ready).0) r.1 in (
          r.0,
          r.1,
          went p m x r.0 its_entry diary h (ready).0 r.2 refl late
              (told (its).action r.0 (record { text = refl; answers = (w, wanted, is-place p x got w (its).action h wanted fits (its).is suits, (its).answers); suits = suits }) r.1) n its-diary,
        )

    unsuited : (Suits (nameless image main) x at_place (its).action → ⊥) → StandsFor image main m ((nameless image main).put_aside x) → IsProcess image main new_process' ((nameless image main).put_aside x)
    unsuited never stands =
        went p m x ((nameless image main).put_aside x) its_entry diary h (ready).0 stands refl late
        (aside (λ b t. never (suits-same (nameless image main) x at_place b (its).action t.suits (its).made t.text)))
        (record { number = refl; steps = λ le. le; actions = omega (arith, acting-left image main p.limit (code_of p.machine) x (at-sound image main p.machine x h.at) (ready).0) }) its-diary

    pub settled : IsSettled image main p new_process' x got w stamp
    settled = record {
      action = (its).action;
      tells = (its).is;
      entry = its-diary;
      takes = λ suits. by suits (taken w at_place (its).action wanted (its).answers (its).tells);
      aside = λ never. otherwise never (taken w at_place (its).action wanted (its).answers (its).tells);
    }
      where
        by : Suits (nameless image main) x at_place (its).action → IsTakenIn image main m x at_place (its).action → Comes image main new_process' ((nameless image main).answered x at_place (its).action)
        by suits (inl r) = suited suits r.1
        by suits (inr r) = absurd (r.0 suits)

        otherwise : (Suits (nameless image main) x at_place (its).action → ⊥) → IsTakenIn image main m x at_place (its).action → IsProcess image main new_process' ((nameless image main).put_aside x)
        otherwise never (inl r) = absurd (never r.0)
        otherwise never (inr r) = unsuited never r.1

    pub settled-there : (y : CodeState ⊤) × IsProcess image main new_process' y
    settled-there = by (taken w at_place (its).action wanted (its).answers (its).tells)
      where
        by : IsTakenIn image main m x at_place (its).action → (y : CodeState ⊤) × IsProcess image main new_process' y
        by (inl r) = let s = suited r.0 r.1 in (s.0, s.2)
        by (inr r) = ((nameless image main).put_aside x, unsuited r.0 r.1)
