-- A system of a good image whose main has a port of the type main_start begins as a sound state needs.
use Rattle.std.proofs.Common.{◌≡◌, ℕ, [], ◌∷◌, Some, None, option_and_then, refl, sym, ap, subst, ◌∙◌}
use Rattle.std.specs.Prelude.{slice_get, IsTrue}
use Rattle.herm_model.specs.TypedPrograms.{main_start}
use Rattle.herm_model.specs.Types.{TypeTable}
use Rattle.herm_model.specs.Values.{Name}
use Rattle.herm_model.proofs.Options.{chain-some}
use Rattle.herm_journal.specs.Entries.{Text}
use Rattle.herm_journal.specs.Messages.{is_inport, message_of_port, IsMessage}
use Rattle.herm_system.specs.Kinds.{typed_of}
use Rattle.herm_system.specs.Sound.{console_type}
use Rattle.herm_system.specs.Systems.{opening_name, first_message}
use Rattle.herm_sound.specs.SoundMachines.{BeginsSound}
use Rattle.herm_sound.specs.Standing.{AllStand}
use Rattle.herm_sound.proofs.FirstMessages.{types, first-message, first-stands}
use Rattle.herm_instructions.specs.Images.{Image}
use Rattle.herm_code_machine.specs.CodeInstance.{code_machine}
use Rattle.herm_code_machine.specs.CodeTypes.{first_type}
use Rattle.herm_code_machine.specs.ReadyCode.{ReadyCode, labelled_image}
use Rattle.herm_code_machine.specs.laws.GoodImageLaws.{IsGoodOver}
use Rattle.herm_code_machine.proofs.sound.Processes.{steps-sound}

stands : (table more : TypeTable) → table ≡ types more → (argument : Text) (u : ℕ) → message_of_port table main_start ≡ Some u → AllStand table (console_type ∷ main_start ∷ []) (λ caller call. None) (typed_of table u (first_message argument))
stands table more same argument u is =
    subst (λ ts. AllStand ts (console_type ∷ main_start ∷ []) (λ caller call. None) (typed_of ts u (first_message argument))) (sym same)
    (first-stands more argument u (ap (λ ts. message_of_port ts main_start) (sym same) ∙ is))

pub begins-sound : (exceptions : ℕ) (image : Image) (main : ℕ) → IsGoodOver exceptions image → first_type (labelled_image image main) main ≡ Some main_start → BeginsSound (code_machine (labelled_image image main)) (first_type (labelled_image image main))
begins-sound exceptions image main good begins =
    let d = (good.table).predefined_types in
    let c = chain-some (λ (c : ReadyCode). slice_get c.scope.variables 0) (slice_get (labelled_image image main).codes main) main_start begins in
    let x = (steps-sound exceptions image main good).begins main 1 1 (opening_name 1) c.0 c.1 in
    record {
      main = (x.0, x.1);
      port_type = main_start;
      types = begins;
      inport = subst (λ ts. IsTrue (is_inport (slice_get ts main_start))) (sym d.1) refl;
      console = subst (λ ts. IsTrue (is_inport (slice_get ts console_type))) (sym d.1) refl;
      message = λ argument texts. subst (λ ts. IsMessage ts main_start (first_message argument)) (sym d.1) (first-message d.0 argument texts);
      stands = λ argument u is. stands image.types d.0 d.1 argument u is;
    }
