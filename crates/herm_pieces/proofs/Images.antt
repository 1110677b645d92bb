-- The code modules of an image made ready are those of the image.
use Rattle.std.proofs.Common.{◌≡◌, ℕ, map, Option, Some, None, option_map, slice_get, refl, sym, ap, ◌∙◌}
use Rattle.std.proofs.lemmas.List.{drop-map}
use Rattle.herm_model.proofs.Lists.{slice_get-map}
use Rattle.herm_instructions.specs.Places.{label_at}
use Rattle.herm_code.specs.declared.modules.CodeModule.{CodeModule}
use Rattle.herm_code.specs.View.{CodeImage, image_view, module_view}
use Rattle.herm_code_machine.specs.ReadyCode.{ReadyCode, ready_code, labelled_image}

abbrev pub ready_module : CodeImage → CodeModule → ReadyCode
ready_module i m = ready_code (image_view i) (label_at (image_view i).types (image_view i).constants) (module_view m)

pub codes_made : (i : CodeImage) (n main : ℕ) → slice_get (labelled_image (image_view i) main).codes n ≡ option_map (λ (m : CodeModule). ready_module i m) (slice_get i.modules n)
codes_made i n main =
    slice_get-map (ready_code (image_view i) (label_at (image_view i).types (image_view i).constants)) (map module_view i.modules) n
    ∙ ap (option_map (ready_code (image_view i) (label_at (image_view i).types (image_view i).constants))) (slice_get-map module_view i.modules n)
    ∙ by_option (slice_get i.modules n)
  where
    by_option : (o : Option CodeModule) → option_map (ready_code (image_view i) (label_at (image_view i).types (image_view i).constants)) (option_map module_view o) ≡ option_map (λ (m : CodeModule). ready_module i m) o
    by_option None = refl
    by_option (Some m) = refl

pub code_there : (i : CodeImage) (n main : ℕ) (m : CodeModule) → Some m ≡ slice_get i.modules n → Some (ready_module i m) ≡ slice_get (labelled_image (image_view i) main).codes n
code_there i n main m is = ap (option_map (λ (m : CodeModule). ready_module i m)) is ∙ sym (codes_made i n main)

pub no_code : (i : CodeImage) (n main : ℕ) → None ≡ slice_get i.modules n → None ≡ slice_get (labelled_image (image_view i) main).codes n
no_code i n main is = ap (option_map (λ (m : CodeModule). ready_module i m)) is ∙ sym (codes_made i n main)

pub ruleset dropped = (drop-map)
