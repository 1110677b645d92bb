-- The source machine of a checked program and the machine of its image are joined.
use Rattle.std.proofs.Common.{◌≡◌, ℕ, List, [], ◌∷◌, map, length, true, Option, Some, None, option_map, option_and_then, slice_get, refl, sym, ap, subst, ◌∙◌}
use Rattle.herm_model.specs.Lists.{IsIn}
use Rattle.herm_model.specs.Paths.{Fact}
use Rattle.herm_model.specs.Expressions.{Literal}
use Rattle.herm_model.specs.Nodes.{Node, process_nodes}
use Rattle.herm_model.specs.Values.{Name, an_inport, Cell, cell, no_parts}
use Rattle.herm_model.proofs.FactTests.{got-IsIn}
use Rattle.herm_model.proofs.Lists.{in-map, in-flat_map, slice_get-map, length-map}
use Rattle.herm_model.proofs.Options.{none-not_some, some-injective}
use Rattle.herm_journal.specs.Entries.{Place}
use Rattle.herm_journal.specs.Messages.{CellAction}
use Rattle.herm_forms.specs.Frames.{counted_action}
use Rattle.herm_forms.specs.Modules.{Module, module_of}
use Rattle.herm_source.specs.Instance.{source, code_at as source_code_at, ready_if as source_ready_if}
use Rattle.herm_source.specs.Local.{IsLocallySound}
use Rattle.herm_source.specs.Modules.{Program, Modules}
use Rattle.herm_source.specs.SeenBySystem.{port_type, open_call}
use Rattle.herm_source.specs.States.{State, own_name, begin, local_step, answered, wanted}
use Rattle.herm_source.specs.laws.SoundProcesses.{IsSoundProcess}
use Rattle.herm_source.proofs.Numbers.{local-stays, answer-stays}
use Rattle.herm_source.proofs.sound.GoingOn.{checked-processes-go-on}
use Rattle.herm_source.proofs.sound.OneModule.{StandsWell}
use Rattle.herm_source.proofs.sound.SoundProcesses.{StandsInModule, module-at, suits-code, stay-sound, steps-there}
use Rattle.herm_system.specs.Machines.{is_local}
use Rattle.herm_system.specs.Suiting.{Fulfils, Suits}
use Rattle.herm_system.specs.Systems.{number_of}
use Rattle.herm_runs.specs.Joining.{BothOrNone, ShowTheSame, AreJoined}
use Rattle.herm_runs.proofs.joined.Turned.{suits-same}
use Rattle.herm_instructions.specs.Images.{Image}
use Rattle.herm_instructions.specs.Places.{label_at}
use Rattle.herm_code_machine.specs.CodeInstance.{code_at, ready_if, code_machine}
use Rattle.herm_code_machine.specs.CodeLocal.{IsLocallySoundCode, IsSoundCodeIn}
use Rattle.herm_code_machine.specs.CodeSeen.{code_port_type, code_open_call}
use Rattle.herm_code_machine.specs.CodeStates.{CodeState, code_begin}
use Rattle.herm_code_machine.specs.CodeSteps.{code_wanted, code_local_step, code_answered}
use Rattle.herm_code_machine.specs.ReadyCode.{ReadyCode, ReadyImage, ready_code}
use Rattle.herm_code_machine.specs.laws.GoodImageLaws.{StepsAreSound, ActionsAreSound}
use Rattle.herm_code_machine.proofs.sound.ItemSteps.{answers-sound}
use Rattle.herm_code_machine.proofs.sound.Processes.{steps-sound}
use Rattle.herm_translation.specs.StandsFor.{BelongsTo, MayStandAt, AreCodesFor}
use Rattle.herm_translation.proofs.Looks.{standing-looks}
use Rattle.herm_translated.specs.BlockLabels.{comes_first}
use Rattle.herm_translated.specs.CodeBlocks.{CheckedModule, slots_around, blocks_of, entry_edge}
use Rattle.herm_translated.specs.Settled.{settled_from, settled}
use Rattle.herm_translated.specs.Constants.{literals_in}
use Rattle.herm_translated.specs.Translated.{code_of, forms_in, image_for}
use Rattle.herm_translated.specs.laws.CheckedBlocks.{checked as checked_by}
use Rattle.herm_translated.proofs.ConstantsOnce.{constant-known}
use Rattle.herm_translated.proofs.SettledFacts.{settled-listed_all}
use Rattle.herm_good_images.proofs.blocks.BlocksReached.{blocks-complete}
use Rattle.herm_simulation.specs.Checks.{IsRight}
use Rattle.herm_simulation.specs.Simulating.{IsTranslated, node_at_index, its_constants, ready_image, nodes_of_indices, Simulates}
use Rattle.herm_simulation.specs.Standing.{IsAtPoint}
use Rattle.herm_simulation.specs.laws.EdgeLaws.{AreListsOf}
use Rattle.herm_simulation.specs.laws.SimulationLaws.{CodeIsJoined}
use Rattle.herm_simulation.proofs.Answers.{answers-beside}
use Rattle.herm_simulation.proofs.Begun.{begins-beside}
use Rattle.herm_simulation.proofs.Beside.{Beside}
use Rattle.herm_simulation.proofs.InPlace.{Coded, source_code, ready}
use Rattle.herm_simulation.proofs.Indices.{belongs, stands-there}
use Rattle.herm_simulation.proofs.LocalSteps.{steps-beside}
use Rattle.herm_simulation.proofs.Looks.{ready-same, wanted-same, ports-same, calls-same}
use Rattle.herm_code_machine.proofs.sound.CodeThere.{sound-at}

-- both are there
both-there : {X Y : Type 0} (R : X → Y → Type 0) (o : Option X) (q : Option Y) (x : X) (y : Y) → o ≡ Some x → q ≡ Some y → R x y → BothOrNone R o q
both-there R None q x y e f h = none-not_some e
both-there R (Some u) None x y e f h = none-not_some f
both-there {X} {Y} R (Some u) (Some v) x y e f h = subst (λ u. R u v) (sym (some-injective e)) (subst (λ v. R x v) (sym (some-injective f)) h)

both-none : {X Y : Type 0} (R : X → Y → Type 0) (o : Option X) (q : Option Y) → o ≡ None → q ≡ None → BothOrNone R o q
both-none R None None e f = tt
both-none R None (Some v) e f = none-not_some (sym f)
both-none R (Some u) q e f = none-not_some (sym e)

module _ (exceptions : ℕ) (program : Program) (modules : Modules) (checked : List CheckedModule) (is : IsTranslated exceptions program modules checked) where
  abbrev image : Image
  image = image_for program.types checked

  abbrev its_ready : ReadyImage
  its_ready = ready_image program modules checked

  abbrev constants : List Literal
  constants = its_constants program modules checked

  abbrev R : State Name → CodeState Name → Type 0
  R = Simulates program modules checked

  code-found : (j : ℕ) (m : CheckedModule) → slice_get checked j ≡ Some m → slice_get modules.codes j ≡ Some m.code
  code-found j m e = ap (λ codes. slice_get codes j) (sym is.codes) ∙ slice_get-map (λ (m : CheckedModule). m.code) checked j ∙ ap (option_map (λ (m : CheckedModule). m.code)) e

  code-missing : (j : ℕ) → slice_get checked j ≡ None → slice_get modules.codes j ≡ None
  code-missing j e = ap (λ codes. slice_get codes j) (sym is.codes) ∙ slice_get-map (λ (m : CheckedModule). m.code) checked j ∙ ap (option_map (λ (m : CheckedModule). m.code)) e

  ready-at : (j : ℕ) (o : Option CheckedModule) → slice_get checked j ≡ o → slice_get its_ready.codes j ≡ option_map (λ m. ready_code image (label_at image.types image.constants) (code_of constants m)) o
  ready-at j o e =
      slice_get-map (ready_code image (label_at image.types image.constants)) image.modules j
      ∙ ap (option_map (ready_code image (label_at image.types image.constants))) (slice_get-map (code_of constants) checked j)
      ∙ ap (λ o. option_map (ready_code image (label_at image.types image.constants)) (option_map (code_of constants) o)) e
      ∙ twice o
    where
      twice : (o : Option CheckedModule) → option_map (ready_code image (label_at image.types image.constants)) (option_map (code_of constants) o) ≡ option_map (λ m. ready_code image (label_at image.types image.constants) (code_of constants m)) o
      twice None = refl
      twice (Some m) = refl

  -- a process in its module, which has code
  module _ (x : State Name) (m : CheckedModule) (found : slice_get checked x.module_number ≡ Some m) where
    pub in-module : StandsInModule exceptions program modules is.accepted x
    in-module = module-at exceptions program modules is.accepted x m.code (code-found x.module_number m found)

    same-code : m.code ≡ module_of program.types in-module.process in-module.labels
    same-code = some-injective (sym (code-found x.module_number m found) ∙ in-module.coded)

    abbrev pub raw_in : CheckedModule
    raw_in = checked_by program.types in-module.process in-module.labels m.facts m.entry_drops m.drops

    pub same-module : m ≡ raw_in
    same-module = ap (λ c. record { code = c; facts = m.facts; entry_drops = m.entry_drops; drops = m.drops }) same-code

    pub in-checked : IsIn m checked
    in-checked = got-IsIn checked x.module_number m found

    pub its-known : (n : Node) → IsIn n (process_nodes in-module.process) → (l : Literal) → IsIn l (literals_in n.form) → IsIn l constants
    its-known n h l literal =
        let nodes : IsIn n m.code.nodes = subst (λ (c : Module). IsIn n c.nodes) (sym same-code) h in
        let form : IsIn n.form (forms_in checked) = in-flat_map (λ (m : CheckedModule). map (λ (n : Node). n.form) m.code.nodes) m n.form checked in-checked (in-map (λ (n : Node). n.form) n m.code.nodes nodes) in
        constant-known (forms_in checked) n.form l form literal

    abbrev pub new_facts : List (List Fact)
    new_facts = settled_from program.types in-module.process.variables (comes_first (entry_edge raw_in) (blocks_of raw_in)) 0 [] (process_nodes in-module.process) m.facts

    -- what its check gives is right also of the settled facts
    pub settled-right : IsRight (checked_by program.types in-module.process in-module.labels new_facts m.entry_drops m.drops)
    settled-right =
        let right : IsRight raw_in = subst IsRight same-module (is.right m in-checked) in
        record {
          facts = λ i n at f. settled-listed_all exceptions program.types program.processes in-module.process in-module.labels m.facts m.entry_drops m.drops in-module.good.typed in-module.good.exact (λ i n f at. right.facts i n at f) i n f at;
          drops = right.drops;
          entry = right.entry;
        }

    abbrev pub k : Coded
    k = record {
      exceptions = exceptions;
      image = image;
      processes = program.processes;
      process = in-module.process;
      labels = in-module.labels;
      facts = new_facts;
      entry_drops = m.entry_drops;
      drops = m.drops;
      sound = in-module.good;
      right = settled-right;
      known = its-known;
      good = is.good;
      reached = (blocks-complete exceptions program.types program.processes in-module.process in-module.labels m.facts m.entry_drops m.drops in-module.good.typed).reached;
      in_image = subst (λ m. IsIn (code_of constants m) image.modules) same-module (in-map (code_of constants) m checked in-checked);
    }

    ready-found : (j : ℕ) → j ≡ x.module_number → slice_get its_ready.codes j ≡ Some (ready k)
    ready-found j same = ap (slice_get its_ready.codes) same ∙ ready-at x.module_number (Some m) found ∙ ap (λ m. Some (ready_code image (label_at image.types image.constants) (code_of constants m))) same-module

    -- a sound process of the module
    well-of : (z : State Name) → z.module_number ≡ x.module_number → IsSoundProcess program modules z → StandsWell exceptions program.types program.processes in-module.process in-module.labels in-module.good z
    well-of z same sound = (sound.sound (module_of program.types in-module.process in-module.labels) (ap (slice_get modules.codes) same ∙ in-module.coded), sound.reached in-module.process (ap (slice_get program.processes) same ∙ in-module.at))

    code-of : (y : CodeState Name) → y.module_number ≡ x.module_number → IsSoundCodeIn its_ready y → IsLocallySoundCode (ready k) y
    code-of y same sound = sound-at its_ready y (ready k) sound (ready-found y.module_number same)

    -- what simulates stands beside, and back
    from-beside : (z : State Name) (y : CodeState Name) → z.module_number ≡ x.module_number → Beside k z y → IsSoundProcess program modules z → IsSoundCodeIn its_ready y → R z y
    from-beside z y same b sound code = record {
      coded = m;
      found = there;
      stands = record {
        module_number = b.module_number;
        position = subst (λ o. BelongsTo (λ i. option_and_then (λ m. node_at_index constants (settled m) i) o) y.position z.point) (sym there)
            (subst (λ m. BelongsTo (λ i. node_at_index constants (settled m) i) y.position z.point) (sym same-module) (belongs k y.frame.call y.position z.point b.place));
        stands = λ c at. subst (λ c. MayStandAt c y.frame.call y.position) (some-injective (sym (ready-found y.module_number (b.module_number ∙ same)) ∙ at))
            (stands-there k z y (well-of z same sound) b (code-of y (b.module_number ∙ same) code));
        stack = b.stack;
        frame = b.frame;
      };
      place = subst (λ m. IsAtPoint constants (settled m) y.frame.call y.position z.point) (sym same-module) b.place;
      lists = λ q i called here. subst (λ c. AreListsOf (slots_around c i) z.frame.loops) (sym same-code) (b.lists q i called here);
      sound = sound;
      code_sound = code;
    }
      where
        there : slice_get checked z.module_number ≡ Some m
        there = ap (slice_get checked) same ∙ found

  module _ (x : State Name) (y : CodeState Name) (r : R x y) where
    abbrev pub its : Coded
    its = k x r.coded r.found

    to-beside : Beside its x y
    to-beside = record {
      module_number = (r.stands).module_number;
      place = subst (λ m. IsAtPoint constants (settled m) y.frame.call y.position x.point) (same-module x r.coded r.found) r.place;
      stack = (r.stands).stack;
      frame = (r.stands).frame;
      lists = λ q i called here. subst (λ c. AreListsOf (slots_around c i) x.frame.loops) (same-code x r.coded r.found) (r.lists q i called here);
    }

    its-module : StandsInModule exceptions program modules is.accepted x
    its-module = in-module x r.coded r.found

    its-well : StandsWell exceptions program.types program.processes (in-module x r.coded r.found).process (in-module x r.coded r.found).labels (in-module x r.coded r.found).good x
    its-well = well-of x r.coded r.found x refl r.sound

    its-code : IsLocallySoundCode (ready its) y
    its-code = code-of x r.coded r.found y (r.stands).module_number r.code_sound

    pub source-at : source_code_at modules x ≡ Some (source_code its)
    source-at = (in-module x r.coded r.found).coded

    pub code-at : code_at its_ready y ≡ Some (ready its)
    code-at = ready-found x r.coded r.found y.module_number (r.stands).module_number

    as-many : AreCodesFor modules its_ready
    as-many = record {
      types = sym ((is.accepted).accepted).types;
      main = refl;
      codes = length-map (ready_code image (label_at image.types image.constants)) image.modules ∙ length-map (code_of constants) checked ∙ sym (length-map (λ (m : CheckedModule). m.code) checked) ∙ ap length is.codes;
    }

    pub shows : ShowTheSame (source modules) (code_machine its_ready) x y
    shows =
        let looks = (standing-looks modules its_ready (nodes_of_indices program modules checked) as-many).looks x y r.stands in
        record {
          module_number = looks.module_number;
          number = looks.number;
          serial = looks.serial;
          steps = looks.steps;
          actions = looks.actions;
          exception = looks.exception;
          held = looks.held;
          finalised = looks.finalised;
          port_types = λ n. ap (option_and_then (λ c. port_type c x n)) source-at ∙ ports-same its x y its-well to-beside its-code n ∙ sym (ap (option_and_then (λ c. code_port_type c y n)) code-at);
          open_calls = ap (option_and_then (λ c. open_call c x)) source-at ∙ calls-same its x y its-well to-beside its-code ∙ sym (ap (option_and_then (λ c. code_open_call c y)) code-at);
          ready = λ limit. ap (source_ready_if limit x) source-at ∙ ready-same its x y its-well to-beside its-code limit ∙ sym (ap (ready_if limit y) code-at);
          wanted = ap (option_and_then (λ c. wanted own_name c x)) source-at ∙ wanted-same its x y its-well to-beside its-code ∙ sym (ap (option_and_then (λ c. code_wanted own_name c y)) code-at);
        }

    steps-of-code : StepsAreSound its_ready
    steps-of-code = steps-sound exceptions image modules.main is.good

    actions-of-code : ActionsAreSound its_ready
    actions-of-code = answers-sound exceptions image modules.main is.good

    -- a local step
    steps : (limit : ℕ) → is_local ((source modules).ready limit x) ≡ true → BothOrNone R ((source modules).local_step x) ((code_machine its_ready).local_step y)
    steps limit next =
        let s = steps-there exceptions program modules is.accepted limit x r.sound next in
        let c = steps-of-code.steps_there limit y r.code_sound (ap is_local (sym (shows.ready limit)) ∙ next) in
        let step : local_step own_name (source_code its) x ≡ Some s.0 = sym (ap (option_and_then (λ c. local_step own_name c x)) source-at) ∙ s.1 in
        let code-step : code_local_step own_name (ready its) y ≡ Some c.0 = sym (ap (option_and_then (λ d. code_local_step own_name d y)) code-at) ∙ c.1 in
        both-there R ((source modules).local_step x) ((code_machine its_ready).local_step y) s.0 c.0 s.1 c.1
        (from-beside x r.coded r.found s.0 c.0 (local-stays own_name (source_code its) x s.0 step).1 (steps-beside its x s.0 y c.0 its-well to-beside its-code step code-step)
        ((stay-sound exceptions program modules is.accepted).local_steps x s.0 s.1 r.sound) (steps-of-code.steps y c.0 r.code_sound c.1).0)

    -- an answer
    answers : (place : Place) (action : CellAction Name) → Fulfils (source modules) x place action → Suits (source modules) x (number_of place) action
        → BothOrNone R ((source modules).answered x (number_of place) action) ((code_machine its_ready).answered y (number_of place) action)
    answers place action fulfils suits =
        let at = number_of place in
        let w = fulfils.0 in
        let s = (checked-processes-go-on exceptions program modules is.accepted).answers x w at action r.sound fulfils.1 fulfils.3 suits in
        let c = actions-of-code.answers y w at action r.code_sound (sym shows.wanted ∙ fulfils.1) fulfils.3 (suits-same (source modules) (code_machine its_ready) ((is.accepted).accepted).types x y shows at action suits) in
        let answer : answered own_name (source_code its) x at action ≡ Some s.0 = sym (ap (option_and_then (λ c. answered own_name c x at action)) source-at) ∙ s.1 in
        let code-answer : code_answered own_name (ready its) y at action ≡ Some c.0 = sym (ap (option_and_then (λ d. code_answered own_name d y at action)) code-at) ∙ c.1 in
        both-there R ((source modules).answered x at action) ((code_machine its_ready).answered y at action) s.0 c.0 s.1 c.1
        (from-beside x r.coded r.found s.0 c.0 (answer-stays own_name (source_code its) x s.0 at action answer).1
        (answers-beside its x s.0 y c.0 its-well to-beside its-code at action w fulfils.3 (suits-code exceptions program modules is.accepted x (source_code its) source-at at action suits)
        (sym (ap (option_and_then (λ c. wanted own_name c x)) source-at) ∙ fulfils.1) answer code-answer)
        ((stay-sound exceptions program modules is.accepted).answers x s.0 at action (w, fulfils.1, fulfils.3) suits s.1 r.sound) c.2)

    -- an entry that both put aside
    aside : R ((source modules).put_aside x) ((code_machine its_ready).put_aside y)
    aside =
        let b = to-beside in
        from-beside x r.coded r.found (record x { frame = counted_action x.frame }) (record y { frame = counted_action y.frame }) refl
        (record { module_number = b.module_number; place = b.place; stack = b.stack; frame = ap counted_action b.frame; lists = b.lists })
        (record { sound = λ c at. source-aside c ((r.sound).sound c at); reached = (r.sound).reached })
        ((r.code_sound).0, (r.code_sound).1, code-aside (r.code_sound).0 (r.code_sound).2)
      where
        source-aside : (c : Module) → IsLocallySound c x → IsLocallySound c (record x { frame = counted_action x.frame })
        source-aside c h = record { values = h.values; types = h.types; loops = h.loops; call = h.call; work = h.work }

        code-aside : (c : ReadyCode) → IsLocallySoundCode c y → IsLocallySoundCode c (record y { frame = counted_action y.frame })
        code-aside c h = record { stands = h.stands; label = h.label; values = h.values; types = h.types; stack = h.stack; copies = h.copies; slots = h.slots; slots_differ = h.slots_differ; call = h.call; work = h.work }

  -- a process begins
  begins : (number' number port : ℕ) (n : Name) → BothOrNone R ((source modules).begin number' number (cell n (an_inport port) no_parts)) ((code_machine its_ready).begin number' number (cell n (an_inport port) no_parts))
  begins number' number port n = by (slice_get checked number') refl
    where
      first : Cell Name
      first = cell n (an_inport port) no_parts

      by : (o : Option CheckedModule) → slice_get checked number' ≡ o → BothOrNone R ((source modules).begin number' number first) ((code_machine its_ready).begin number' number first)
      by None e =
          both-none R ((source modules).begin number' number first) ((code_machine its_ready).begin number' number first)
          (ap (option_map (λ c. begin c number' number first)) (code-missing number' e)) (ap (option_and_then (λ c. code_begin own_name c number' number first)) (ready-at number' None e))
      by (Some m) e =
          let x : State Name = begin m.code number' number first in
          let at : (source modules).begin number' number first ≡ Some x = ap (option_map (λ c. begin c number' number first)) (code-found number' m e) in
          let its = k x m e in
          let there = ready-found x m e number' refl in
          let y = (steps-sound exceptions image modules.main is.good).begins number' number port n (ready its) there in
          let begun : code_begin own_name (ready its) number' number first ≡ Some y.0 = sym (ap (option_and_then (λ c. code_begin own_name c number' number first)) there) ∙ y.1 in
          both-there R ((source modules).begin number' number first) ((code_machine its_ready).begin number' number first) x y.0 at y.1
          (from-beside x m e x y.0 refl
          (subst (λ c. Beside its (begin c number' number first) y.0) (sym (same-code x m e)) (begins-beside its number' number port n y.0 begun))
          ((stay-sound exceptions program modules is.accepted).begins number' number port n x at) y.2)

  pub joined : AreJoined (source modules) (code_machine its_ready) R
  joined = record {
    types = ((is.accepted).accepted).types;
    main = refl;
    shows = shows;
    begins = begins;
    local_steps = λ limit x y r next. steps x y r limit next;
    answers = λ x y place action r fulfils suits. answers x y r place action fulfils suits;
    puts_aside = aside;
  }

pub code-is-joined : CodeIsJoined
code-is-joined = joined
