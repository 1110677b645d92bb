-- The two machines are joined without the names of cells too.
use Rattle.std.proofs.Common.{◌≡◌, ℕ, List, [], ◌∷◌, map, true, Option, Some, None, option_map, refl, sym, ap, ap₂, subst, ◌∙◌}
use Rattle.std.specs.Prelude.{⊤}
use Rattle.herm_model.specs.CellNames.{rename, rename_in}
use Rattle.herm_model.specs.Lists.{total, list_of, any_pass}
use Rattle.herm_model.specs.Values.{Name, an_inport, Cell, cell, Parts, no_parts, gap, part}
use Rattle.herm_model.proofs.Lists.{length-map}
use Rattle.herm_model.proofs.Options.{map-some}
use Rattle.herm_journal.specs.Actions.{values, raised, gone, new_port, new_process, to_put, to_take, to_close, to_answer, to_hear, make_port, make_process, put, take, close, answer, hear}
use Rattle.herm_journal.specs.Entries.{Place, same_place}
use Rattle.herm_journal.specs.Messages.{CellWant, CellAction, CellReply}
use Rattle.herm_journal.specs.Renaming.{forget_name, rename_reply, rename_action, rename_want}
use Rattle.herm_journal.specs.Weights.{weigh}
use Rattle.herm_forms.specs.Frames.{Frame}
use Rattle.herm_forms.specs.Renaming.{rename_body}
use Rattle.herm_forms.specs.Weights.{weight_held}
use Rattle.herm_source.specs.Instance.{source, nameless}
use Rattle.herm_source.specs.Modules.{Program, Modules}
use Rattle.herm_source.specs.Renaming.{forget_state}
use Rattle.herm_source.specs.SeenBySystem.{values_held}
use Rattle.herm_source.specs.States.{State}
use Rattle.herm_source.proofs.instance.HeldValues.{weigh-values}
use Rattle.herm_source.proofs.instance.SourceForgets.{source-forgets-names}
use Rattle.herm_system.specs.Machines.{Held, is_local}
use Rattle.herm_system.specs.Suiting.{Answers, Fulfils, Suits}
use Rattle.herm_system.specs.Systems.{number_of, places_for}
use Rattle.herm_runs.specs.Joining.{BothOrNone, ShowTheSame, AreJoined, turned}
use Rattle.herm_runs.specs.laws.ProcessLaws.{ForgetsNames}
use Rattle.herm_runs.proofs.DiariesTold.{nameless-suits}
use Rattle.herm_runs.proofs.joined.DiariesJoined.{diaries-together}
use Rattle.herm_runs.proofs.joined.StepsTogether.{there}
use Rattle.herm_runs.proofs.joined.Turned.{joined-turned}
use Rattle.herm_code_machine.specs.CodeInstance.{code_machine, nameless_code}
use Rattle.herm_code_machine.specs.CodeRenaming.{forget_code}
use Rattle.herm_code_machine.specs.CodeSeen.{code_held}
use Rattle.herm_code_machine.specs.CodeStates.{CodeState}
use Rattle.herm_code_machine.specs.ReadyCode.{ReadyImage}
use Rattle.herm_code_machine.proofs.instance.CodeForgets.{code-forgets-names}
use Rattle.herm_code_machine.proofs.instance.CodeHeld.{weigh-held}
use Rattle.herm_translated.specs.CodeBlocks.{CheckedModule}
use Rattle.herm_simulation.specs.Simulating.{IsTranslated, ready_image, Simulates}
use Rattle.herm_simulation.specs.SimulatingWithout.{SimulatesWithout}
use Rattle.herm_simulation.specs.laws.DiarySimulation.{NamelessCodeIsJoined, DiariesForth, DiariesBack}
use Rattle.herm_simulation.proofs.InPlace.{source_code, ready}
use Rattle.herm_simulation.proofs.Simulated.{its, source-at, code-at, joined}

-- a name for cells that have none
abbrev given_name : ⊤ → Name
given_name n = (0, 0)

mutual
  named-cell : (c : Cell ⊤) → rename forget_name (rename given_name c) ≡ c
  named-cell (cell n k ps) = ap (cell tt k) (named-parts ps)

  named-parts : (ps : Parts ⊤) → rename_in forget_name (rename_in given_name ps) ≡ ps
  named-parts no_parts = refl
  named-parts (gap ps) = ap gap (named-parts ps)
  named-parts (part c ps) = ap₂ part (named-cell c) (named-parts ps)

named-cells : (cs : List (Cell ⊤)) → map (rename forget_name) (map (rename given_name) cs) ≡ cs
named-cells [] = refl
named-cells (c ∷ cs) = ap₂ (λ c cs. c ∷ cs) (named-cell c) (named-cells cs)

named-reply : (r : CellReply ⊤) → rename_reply forget_name (rename_reply given_name r) ≡ r
named-reply (values cs) = ap values (named-cells cs)
named-reply (raised e cs) = ap (raised e) (named-cells cs)
named-reply gone = refl

-- the action with names that answers a want with names, where the one without names answers it without
named-answer : (w : CellWant Name) (a : CellAction ⊤) → Answers (rename_want forget_name w) a → (b : CellAction Name) × (rename_action forget_name b ≡ a) × Answers w b
named-answer new_port (make_port made) h = (make_port made, refl, tt)
named-answer new_port a h = absurd h
named-answer (new_process code) (make_process code' made) h = (make_process code' made, refl, h)
named-answer (new_process code) a h = absurd h
named-answer (to_put n m) (put number m') h = (put number m, ap (put number) h, refl)
named-answer (to_put n m) a h = absurd h
named-answer (to_take ports) (take number m') h = (take number (rename given_name m'), ap (take number) (named-cell m'), tt)
named-answer (to_take ports) a h = absurd h
named-answer (to_close n) (close count left) h = (close count (map (rename given_name) left), ap (close count) (named-cells left), length-map (rename given_name) left ∙ h)
named-answer (to_close n) a h = absurd h
named-answer (to_answer caller call r) (answer call' r') h = (answer call' r, ap (answer call') h.1, (h.0, refl))
named-answer (to_answer caller call r) a h = absurd h
named-answer to_hear (hear call r') h = (hear call (rename_reply given_name r'), ap (hear call) (named-reply r'), tt)
named-answer to_hear a h = absurd h

same-places : (p : ℕ) (w : CellWant Name) → places_for p (rename_want forget_name w) ≡ places_for p w
same-places p new_port = refl
same-places p (new_process code) = refl
same-places p (to_put n m) = refl
same-places p (to_take ports) = refl
same-places p (to_close n) = refl
same-places p (to_answer caller call r) = refl
same-places p to_hear = refl

-- options behind maps
both-mapped : {X Y X' Y' : Type 0} (R : X → Y → Type 0) (S : X' → Y' → Type 0) (f : X → X') (g : Y → Y') → ((x : X) (y : Y) → R x y → S (f x) (g y)) → (o : Option X) (q : Option Y) → BothOrNone R o q → BothOrNone S (option_map f o) (option_map g q)
both-mapped R S f g on None None h = tt
both-mapped R S f g on None (Some y) h = absurd h
both-mapped R S f g on (Some x) None h = absurd h
both-mapped R S f g on (Some x) (Some y) h = on x y h

module _ (exceptions : ℕ) (program : Program) (modules : Modules) (checked : List CheckedModule) (is : IsTranslated exceptions program modules checked) where
  abbrev image : ReadyImage
  image = ready_image program modules checked

  abbrev R : State Name → CodeState Name → Type 0
  R = Simulates program modules checked

  abbrev S : State ⊤ → CodeState ⊤ → Type 0
  S = SimulatesWithout program modules checked

  forgets : ForgetsNames (source modules) (nameless modules) forget_state
  forgets = source-forgets-names modules

  code-forgets : ForgetsNames (code_machine image) (nameless_code image) forget_code
  code-forgets = code-forgets-names image

  both : AreJoined (source modules) (code_machine image) R
  both = joined exceptions program modules checked is

  without : (x : State Name) (y : CodeState Name) → R x y → S (forget_state x) (forget_code y)
  without x y r = record { named = x; named_code = y; simulates = r; source = refl; code = refl }

  -- what processes with names show, they show without
  shows-without : (x : State Name) (y : CodeState Name) → R x y → ShowTheSame (nameless modules) (nameless_code image) (forget_state x) (forget_code y)
  shows-without x y r =
      let s = both.shows x y r in
      let frames : rename_body forget_name x.frame ≡ rename_body forget_name y.frame = ap (rename_body forget_name) (sym (r.stands).frame) in
      record {
        module_number = s.module_number;
        number = s.number;
        serial = s.serial;
        steps = s.steps;
        actions = s.actions;
        exception = s.exception;
        held = λ w.
            ap (λ c. total (λ (h : Held ⊤). weigh w h.value) (list_of (λ c. values_held c (forget_state x)) c)) (source-at exceptions program modules checked is x y r)
            ∙ weigh-values w (source_code (its exceptions program modules checked is x y r)) (forget_state x)
            ∙ ap (weight_held w) frames
            ∙ sym (weigh-held w (ready (its exceptions program modules checked is x y r)) (forget_code y))
            ∙ sym (ap (λ c. total (λ (h : Held ⊤). weigh w h.value) (list_of (λ c. code_held c (forget_code y)) c)) (code-at exceptions program modules checked is x y r));
        finalised = λ w. ap (λ (b : Frame ⊤). total w b.finalised) frames;
        port_types = λ n. forgets.port_types x n ∙ s.port_types n ∙ sym (code-forgets.port_types y n);
        open_calls = forgets.open_calls x ∙ s.open_calls ∙ sym (code-forgets.open_calls y);
        ready = λ limit. forgets.ready limit x ∙ s.ready limit ∙ sym (code-forgets.ready limit y);
        wanted = forgets.wants x ∙ ap (option_map (rename_want forget_name)) s.wanted ∙ sym (code-forgets.wants y);
      }

  begins-without : (number' number port : ℕ) → BothOrNone S ((nameless modules).begin number' number (cell tt (an_inport port) no_parts)) ((nameless_code image).begin number' number (cell tt (an_inport port) no_parts))
  begins-without number' number port =
      let first : Cell Name = cell (0, 0) (an_inport port) no_parts in
      subst (λ o. BothOrNone S o ((nameless_code image).begin number' number (cell tt (an_inport port) no_parts))) (sym (forgets.begins number' number first))
      (subst (λ q. BothOrNone S (option_map forget_state ((source modules).begin number' number first)) q) (sym (code-forgets.begins number' number first))
      (both-mapped R S forget_state forget_code without ((source modules).begin number' number first) ((code_machine image).begin number' number first) (both.begins number' number port (0, 0))))

  steps-without : (limit : ℕ) (x : State Name) (y : CodeState Name) → R x y → is_local ((nameless modules).ready limit (forget_state x)) ≡ true → BothOrNone S ((nameless modules).local_step (forget_state x)) ((nameless_code image).local_step (forget_code y))
  steps-without limit x y r next =
      subst (λ o. BothOrNone S o ((nameless_code image).local_step (forget_code y))) (sym (forgets.local_steps x))
      (subst (λ q. BothOrNone S (option_map forget_state ((source modules).local_step x)) q) (sym (code-forgets.local_steps y))
      (both-mapped R S forget_state forget_code without ((source modules).local_step x) ((code_machine image).local_step y) (both.local_steps limit x y r (ap is_local (sym (forgets.ready limit x)) ∙ next))))

  answers-without : (x : State Name) (y : CodeState Name) (place : Place) (a : CellAction ⊤) → R x y → Fulfils (nameless modules) (forget_state x) place a → Suits (nameless modules) (forget_state x) (number_of place) a
      → BothOrNone S ((nameless modules).answered (forget_state x) (number_of place) a) ((nameless_code image).answered (forget_code y) (number_of place) a)
  answers-without x y place a r fulfils suits =
      let at = number_of place in
      let m = map-some (rename_want forget_name) ((source modules).wanted x) fulfils.0 (sym (forgets.wants x) ∙ fulfils.1) in
      let b = named-answer m.0 a (subst (λ w. Answers w a) (sym m.2) fulfils.3) in
      let named-fulfils : Fulfils (source modules) x place b.0 = (
        m.0,
        m.1,
        ap (any_pass (same_place place)) (sym (same-places x.frame.number m.0) ∙ ap (places_for x.frame.number) m.2) ∙ fulfils.2,
        b.2,
      ) in
      let named-suits : Suits (source modules) x at b.0 = nameless-suits (source modules) (nameless modules) forget_state forgets x at b.0 (subst (Suits (nameless modules) (forget_state x) at) (sym b.1) suits) in
      let mapped = both-mapped R S forget_state forget_code without ((source modules).answered x at b.0) ((code_machine image).answered y at b.0) (both.answers x y place b.0 r named-fulfils named-suits) in
      subst (λ a. BothOrNone S ((nameless modules).answered (forget_state x) at a) ((nameless_code image).answered (forget_code y) at a)) b.1
      (subst (λ o. BothOrNone S o ((nameless_code image).answered (forget_code y) at (rename_action forget_name b.0))) (sym (forgets.answers x at b.0))
      (subst (λ q. BothOrNone S (option_map forget_state ((source modules).answered x at b.0)) q) (sym (code-forgets.answers y at b.0)) mapped))

  pub joined-without : AreJoined (nameless modules) (nameless_code image) S
  joined-without = record {
    types = both.types;
    main = refl;
    shows = λ x y s. subst (λ x. ShowTheSame (nameless modules) (nameless_code image) x y) s.source (subst (λ y. ShowTheSame (nameless modules) (nameless_code image) (forget_state s.named) y) s.code (shows-without s.named s.named_code s.simulates));
    begins = λ number' number port n. begins-without number' number port;
    local_steps = λ limit x y s.
        subst (λ x. is_local ((nameless modules).ready limit x) ≡ true → BothOrNone S ((nameless modules).local_step x) ((nameless_code image).local_step y)) s.source
        (subst (λ y. is_local ((nameless modules).ready limit (forget_state s.named)) ≡ true → BothOrNone S ((nameless modules).local_step (forget_state s.named)) ((nameless_code image).local_step y)) s.code
        (steps-without limit s.named s.named_code s.simulates));
    answers = λ x y place a s.
        subst (λ x. Fulfils (nameless modules) x place a → Suits (nameless modules) x (number_of place) a → BothOrNone S ((nameless modules).answered x (number_of place) a) ((nameless_code image).answered y (number_of place) a)) s.source
        (subst (λ y. Fulfils (nameless modules) (forget_state s.named) place a → Suits (nameless modules) (forget_state s.named) (number_of place) a → BothOrNone S ((nameless modules).answered (forget_state s.named) (number_of place) a) ((nameless_code image).answered y (number_of place) a)) s.code
        (answers-without s.named s.named_code place a s.simulates));
    puts_aside = λ x y s.
        subst (λ x. S ((nameless modules).put_aside x) ((nameless_code image).put_aside y)) s.source
        (subst (λ y. S ((nameless modules).put_aside (forget_state s.named)) ((nameless_code image).put_aside y)) s.code
        (without ((source modules).put_aside s.named) ((code_machine image).put_aside s.named_code) (both.puts_aside s.named s.named_code s.simulates)));
  }

pub nameless-code-joined : NamelessCodeIsJoined
nameless-code-joined = joined-without

pub diaries-forth : DiariesForth
diaries-forth exceptions program modules checked is number' number port limit x x' entries n begun after =
    let S = SimulatesWithout program modules checked in
    let a = nameless modules in
    let b = nameless_code (ready_image program modules checked) in
    let j = joined-without exceptions program modules checked is in
    let y = there S (a.begin number' number (cell tt (an_inport port) no_parts)) (b.begin number' number (cell tt (an_inport port) no_parts)) x (j.begins number' number port tt) begun in
    let z = diaries-together a b S j limit entries n x x' y.0 y.2 after in
    (y.0, z.0, y.1, z.1, z.2)

pub diaries-back : DiariesBack
diaries-back exceptions program modules checked is number' number port limit y y' entries n begun after =
    let S = SimulatesWithout program modules checked in
    let a = nameless modules in
    let b = nameless_code (ready_image program modules checked) in
    let j = joined-turned a b S (joined-without exceptions program modules checked is) in
    let x = there (turned S) (b.begin number' number (cell tt (an_inport port) no_parts)) (a.begin number' number (cell tt (an_inport port) no_parts)) y (j.begins number' number port tt) begun in
    let z = diaries-together b a (turned S) j limit entries n y y' x.0 x.2 after in
    (x.0, z.0, x.1, z.1, z.2)
