-- The machine of a good image keeps inports, outports and callmessages at places of their types, and so the sound states of its systems.
use Rattle.std.proofs.Common.{◌≡◌, ℕ, List, Option, Some, None, option_and_then, option_map, refl, sym, ap, subst, ◌∙◌}
use Rattle.std.specs.Prelude.{slice_get, IsTrue}
use Rattle.herm_model.specs.Lists.{IsIn, list_of}
use Rattle.herm_model.specs.Statements.{Process}
use Rattle.herm_model.specs.TypedStatements
use Rattle.herm_model.specs.Values.{Name, Kind, a_callmessage, an_inport, cell, no_parts}
use Rattle.herm_model.proofs.FactTests.{got-IsIn}
use Rattle.herm_model.proofs.Lists.{slice_get-map}
use Rattle.herm_model.proofs.Options.{some-injective, chain-some}
use Rattle.herm_journal.specs.Actions.{make_port, make_process, put, take, close, answer, hear}
use Rattle.herm_journal.specs.Messages.{CellWant, CellAction, is_inport, message_of_port, types_of_reply, cells_in}
use Rattle.herm_sound.specs.SoundMachines.{KeepsStanding, KeepsSound}
use Rattle.herm_sound.specs.Standing.{at_type, AllStand, OutportsStand, typed_places, typed_coming, typed_made, typed_going}
use Rattle.herm_system.specs.Kinds.{typed_of, typed_list}
use Rattle.herm_system.specs.Machines.{OpenCall}
use Rattle.herm_system.specs.Suiting.{Answers, Suits}
use Rattle.herm_instructions.specs.GoodCode.{processes_of}
use Rattle.herm_instructions.specs.Images.{CodeModule, Image}
use Rattle.herm_instructions.specs.Places.{label_at}
use Rattle.herm_code_machine.specs.CodeInstance.{own_name, code_at, code_machine}
use Rattle.herm_code_machine.specs.CodeLocal.{IsSoundCodeIn, typed_stack}
use Rattle.herm_code_machine.specs.CodeSeen.{code_open_call, code_port_type, action_at}
use Rattle.herm_code_machine.specs.CodeStates.{CodeState, code_begin}
use Rattle.herm_code_machine.specs.CodeSteps.{code_wanted, code_local_step, code_answered}
use Rattle.herm_code_machine.specs.CodeTypes.{first_type, type_made, new_type}
use Rattle.herm_code_machine.specs.Pieces.{Met}
use Rattle.herm_code_machine.specs.ReadyCode.{ReadyCode, ReadyImage, ready_code, labelled_image}
use Rattle.herm_code_machine.specs.laws.GoodImageLaws.{IsGoodOver, labelled_code}
use Rattle.herm_code_machine.proofs.counted.CodeCounts.{keeps-waiting}
use Rattle.herm_code_machine.proofs.instance.CodeLaws.{begun-code, begun-at, local-code, code-stays, code-keeps-numbers, code-keeps-ledger}
use Rattle.herm_code_machine.proofs.kept.CodeNumbers.{code-begins, code-local-stays, code-answer-stays}
use Rattle.herm_code_machine.proofs.placed.CodeStanding.{begins-stand, step-stands, answer-stood, CameIn, WasMade}
use Rattle.herm_code_machine.proofs.placed.HeldPlaces.{to-stand, from-stand}
use Rattle.herm_code_machine.proofs.sound.Between as between
use Rattle.herm_code_machine.proofs.sound.CodeWants.{process_of, created, wants-had}
use Rattle.herm_code_machine.proofs.sound.ItemSteps.{suits-in}
use Rattle.herm_code_machine.proofs.sound.Processes.{module-of}
use Rattle.herm_code_machine.proofs.sound.SoundProcesses.{stays-sound}
use Rattle.herm_code_machine.proofs.sound.CodeThere.{sound-at}

module _ (exceptions' : ℕ) (image : Image) (main : ℕ) (good : IsGoodOver exceptions' image) where
  abbrev ready : ReadyImage
  ready = labelled_image image main

  -- a process that is made looks for messages at an inport
  inports : (t process : ℕ) → TypedStatements.port_type (processes_of image.modules) process ≡ Some t → IsTrue (is_inport (slice_get image.types t))
  inports t process e =
      let r = created exceptions' image main good process t e in
      let first = (between.good-module exceptions' image good.good good.table r.0 (got-IsIn image.modules process r.0 r.1)).port in
      let same : first.0 ≡ t = some-injective (sym first.3 ∙ r.2) in
      ap is_inport (ap (slice_get image.types) (sym same) ∙ first.4)

  -- the types of the ports of modules are those of processes
  first-same : (n : ℕ) → first_type ready n ≡ TypedStatements.port_type (processes_of image.modules) n
  first-same n =
      ap (option_and_then (λ (c : ReadyCode). slice_get c.scope.variables 0)) (slice_get-map (ready_code image (label_at image.types image.constants)) image.modules n)
      ∙ by (slice_get image.modules n) ∙ ap (option_and_then (λ (p : Process). slice_get p.variables 0)) (sym (slice_get-map process_of image.modules n))
    where
      by : (o : Option CodeModule) → option_and_then (λ (c : ReadyCode). slice_get c.scope.variables 0) (option_map (ready_code image (label_at image.types image.constants)) o) ≡ option_and_then (λ (p : Process). slice_get p.variables 0) (option_map process_of o)
      by None = refl
      by (Some m) = refl

  module _ (ports : List ℕ) (calls : ℕ → ℕ → Option ℕ) where
    abbrev All : List (ℕ × Kind) → Type 0
    All xs = AllStand image.types ports calls xs

    abbrev Outs : CodeState Name → Type 0
    Outs x = OutportsStand image.types ports (typed_stack (labelled_image image main) x)

    abbrev Placed : CodeState Name → Type 0
    Placed x = AllStand image.types ports calls (typed_places (code_machine (labelled_image image main)) x)

    begins : (code number port : ℕ) (n : Name) (x : CodeState Name) → (code_machine ready).begin code number (cell n (an_inport port) no_parts) ≡ Some x → All (at_type (an_inport port) (first_type ready code)) → Placed x × Outs x
    begins code number port n x is all =
        let c = begun-code ready code number (cell n (an_inport port) no_parts) x is in
        let m = module-of exceptions' image main good code c.0 c.1 in
        let there : slice_get (ready).codes code ≡ Some (labelled_code image m.0) = c.1 ∙ ap Some (sym m.2) in
        let begun : code_begin own_name (labelled_code image m.0) code number (cell n (an_inport port) no_parts) ≡ Some x = subst (λ c. code_begin own_name c code number (cell n (an_inport port) no_parts) ≡ Some x) (sym m.2) c.2 in
        let at = begun-at ready code x (labelled_code image m.0) there (code-begins own_name (labelled_code image m.0) code number (cell n (an_inport port) no_parts) x begun).1 in
        from-stand exceptions' image main good.good good.table m.0 m.1 ports calls x at
        (begins-stand exceptions' image main good m.0 m.1 ports calls code number port n x begun (subst (λ o. All (at_type (an_inport port) o)) (ap (option_and_then (λ (c : ReadyCode). slice_get c.scope.variables 0)) there) all))

    steps : (x y : CodeState Name) → IsSoundCodeIn ready x → (code_machine ready).local_step x ≡ Some y → Placed x → Outs x → Placed y × Outs y
    steps x y sound is all outs =
        let d = local-code ready x y is in
        let m = module-of exceptions' image main good x.module_number d.0 d.1 in
        let c = labelled_code image m.0 in
        let here : code_at ready x ≡ Some c = d.1 ∙ ap Some (sym m.2) in
        let is' : code_local_step own_name c x ≡ Some y = subst (λ c. code_local_step own_name c x ≡ Some y) (sym m.2) d.2 in
        let there = code-stays ready x y c here (code-local-stays own_name c x y is').1 in
        from-stand exceptions' image main good.good good.table m.0 m.1 ports calls y there
        (step-stands exceptions' image main good m.0 m.1 ports calls x y (sound-at ready x c sound here) (to-stand exceptions' image main good.good good.table m.0 m.1 ports calls x here (sound-at ready x c sound here) all outs) is')

    module _ (m : CodeModule) (in-image : IsIn m image.modules) (x y : CodeState Name) (here : code_at (labelled_image image main) x ≡ Some (labelled_code image m)) (there : code_at (labelled_image image main) y ≡ Some (labelled_code image m)) where
      came-in : (at : ℕ) (a : CellAction Name) → All (typed_coming (code_machine ready) x at a) → CameIn exceptions' image main good m in-image ports calls x at a
      came-in at (take k d) all = subst (λ o. All (list_of (λ t. typed_of image.types t d) (option_and_then (message_of_port image.types) (option_and_then (λ c. code_port_type c x at) o)))) here all
      came-in at (hear k r) all = subst (λ o. All (list_of (λ (call : OpenCall). typed_list image.types (types_of_reply image.types call.call_type r) (cells_in r)) (option_and_then (λ c. code_open_call c x) o))) here all
      came-in at (make_port made) all = tt
      came-in at (make_process code made) all = tt
      came-in at (put n d) all = tt
      came-in at (close count left) all = tt
      came-in at (answer call r) all = tt

      was-made : (a : CellAction Name) → All (typed_made (code_machine ready) (first_type ready) (new_type ready) x y a) → WasMade exceptions' image main good m in-image ports calls x y a
      was-made (make_port (Some n)) all = subst (λ o. All (at_type (an_inport n) (option_and_then (λ (c : ReadyCode). option_and_then (λ (met : Met). type_made met.instruction) (action_at c x.position)) o))) here all
      was-made (make_port None) all = tt
      was-made (make_process code (Some born)) all = subst (λ o. All (at_type (an_inport born.1) o)) (first-same code) all
      was-made (make_process code None) all = tt
      was-made (put (Some n) d) all = subst (λ o. All (list_of (λ (call : OpenCall). at_type (a_callmessage y.frame.number call.number) call.call_type) (option_and_then (λ c. code_open_call c y) o))) there all
      was-made (put None d) all = tt
      was-made (take k d) all = tt
      was-made (close count left) all = tt
      was-made (answer call r) all = tt
      was-made (hear call r) all = tt

    answers : (x y : CodeState Name) (want : CellWant Name) (at : ℕ) (a : CellAction Name) → IsSoundCodeIn ready x → (code_machine ready).wanted x ≡ Some want → Answers want a → Suits (code_machine ready) x at a → (code_machine ready).answered x at a ≡ Some y
        → Placed x → Outs x → All (typed_coming (code_machine ready) x at a) → All (typed_made (code_machine ready) (first_type ready) (new_type ready) x y a)
        → Placed y × Outs y × All (typed_going image.types ports calls want a)
    answers x y want at a sound wanted h suits is all outs comes makes =
        let d = chain-some (λ c. code_wanted own_name c x) (code_at ready x) want wanted in
        let m = module-of exceptions' image main good x.module_number d.0 d.1 in
        let c = labelled_code image m.0 in
        let here : code_at ready x ≡ Some c = d.1 ∙ ap Some (sym m.2) in
        let wanted' : code_wanted own_name c x ≡ Some want = subst (λ c. code_wanted own_name c x ≡ Some want) (sym m.2) d.2 in
        let is' : code_answered own_name c x at a ≡ Some y = sym (ap (option_and_then (λ c. code_answered own_name c x at a)) here) ∙ is in
        let there = code-stays ready x y c here (code-answer-stays own_name c x y at a is').1 in
        let now = to-stand exceptions' image main good.good good.table m.0 m.1 ports calls x here (sound-at ready x c sound here) all outs in
        let r = answer-stood exceptions' image main good m.0 m.1 ports calls inports x y want at a (sound-at ready x c sound here) now wanted' h (suits-in exceptions' image main good x c here refl at a suits)
        (came-in m.0 m.1 x y here there at a comes) (was-made m.0 m.1 x y here there a makes) is' in
        let stands = from-stand exceptions' image main good.good good.table m.0 m.1 ports calls y there r.0 in
        (stands.0, stands.1, r.1)

    pub image-keeps-standing : KeepsStanding (code_machine ready) (first_type ready) (new_type ready) (IsSoundCodeIn ready) (typed_stack ready) ports calls
    image-keeps-standing = record { begins = begins; local_steps = steps; answers = answers }

  -- so each step of a system keeps a sound state sound
  unfoldable pub image-keeps-sound : KeepsSound (code_machine ready) (IsSoundCodeIn ready)
  image-keeps-sound = record {
    first_type = first_type ready;
    new_type = new_type ready;
    beside = typed_stack ready;
    numbers = code-keeps-numbers ready;
    ledger = code-keeps-ledger ready;
    counts = keeps-waiting exceptions' image main good;
    processes = stays-sound exceptions' image main good;
    wants = wants-had exceptions' image main good;
    standing = image-keeps-standing;
  }
