-- The type of the port of a module, as code reads it.
use Rattle.std.proofs.Common.{◌≡◌, ◌≤◌, ◌<◌, ℕ, suc, List, [], ◌∷◌, map, length, get_or, arith, Option, Some, None, option_map, option_and_then, refl, sym, ap, subst, ◌∙◌}
use Rattle.std.specs.Prelude.{slice_get}
use Rattle.herm_base.specs.declared.numbers.TypeNo.{TypeNo}
use Rattle.herm_instructions.specs.Images as images
use Rattle.herm_code.specs.View.{CodeImage, image_view, module_view}
use Rattle.herm_code.specs.declared.modules.CodeModule.{CodeModule}
use Rattle.herm_code_machine.specs.CodeTypes.{first_type}
use Rattle.herm_code_machine.specs.ReadyCode.{ReadyCode, labelled_image, ready_code}
use Rattle.herm_instructions.specs.Places.{label_at}
use Rattle.herm_world.proofs.PlacesSeen.{get-map}
use Rattle.herm_world.proofs.ReadPlaces.{read-there}

port-type : (image : images.Image) (main : ℕ) → first_type (labelled_image image main) main ≡ option_and_then (λ (m : images.CodeModule). slice_get m.variables 0) (slice_get image.modules main)
port-type image main =
    ap (option_and_then (λ (c : ReadyCode). slice_get c.scope.variables 0)) (get-map (ready_code image (label_at image.types image.constants)) image.modules main)
    ∙ by (slice_get image.modules main)
  where
    by : (o : Option images.CodeModule) → option_and_then (λ (c : ReadyCode). slice_get c.scope.variables 0) (option_map (ready_code image (label_at image.types image.constants)) o) ≡ option_and_then (λ (m : images.CodeModule). slice_get m.variables 0) o
    by None = refl
    by (Some m) = refl

main-first : (image : CodeImage) (main : ℕ) → first_type (labelled_image (image_view image) main) main ≡ option_and_then (λ (m : CodeModule). option_map (λ (t : TypeNo). t.0) (slice_get m.vars.items 0)) (slice_get image.modules main)
main-first image main = port-type (image_view image) main ∙ ap (option_and_then (λ (m : images.CodeModule). slice_get m.variables 0)) (get-map module_view image.modules main) ∙ by (slice_get image.modules main)
  where
    by : (o : Option CodeModule) → option_and_then (λ (m : images.CodeModule). slice_get m.variables 0) (option_map module_view o) ≡ option_and_then (λ (m : CodeModule). option_map (λ (t : TypeNo). t.0) (slice_get m.vars.items 0)) o
    by None = refl
    by (Some m) = get-map (λ (t : TypeNo). t.0) m.vars.items 0

-- by the module that is read, and by its first variable
type-at : (image : CodeImage) (main : ℕ) (m : CodeModule) (ts : List TypeNo) → slice_get image.modules main ≡ Some m → m.vars.items ≡ ts → first_type (labelled_image (image_view image) main) main ≡ option_map (λ (t : TypeNo). t.0) (slice_get ts 0)
type-at image main m ts is vars =
    main-first image main
    ∙ ap (option_and_then (λ (m : CodeModule). option_map (λ (t : TypeNo). t.0) (slice_get m.vars.items 0))) is
    ∙ ap (λ ts. option_map (λ (t : TypeNo). t.0) (slice_get ts 0)) vars

pub first-read : (ts : List TypeNo) (d : TypeNo) → 1 ≤ length ts → slice_get ts 0 ≡ Some (get_or ts 0 d)
first-read [] d long = absurd (omega (arith, long))
first-read (t ∷ ts) d long = refl

pub first-none : (ts : List TypeNo) → length ts ≡ 0 → slice_get ts 0 ≡ None
first-none [] e = refl
first-none (t ∷ ts) e = absurd (let f : suc (length ts) ≡ 0 = e in omega (arith, f))

pub type-read : (image : CodeImage) (main : ℕ) (ms : List CodeModule) (m : CodeModule) (ts : List TypeNo) → ms ≡ image.modules → main < length ms → m ≡ get_or ms main m → ts ≡ (get_or ms main m).vars.items
    → first_type (labelled_image (image_view image) main) main ≡ option_map (λ (t : TypeNo). t.0) (slice_get ts 0)
type-read image main ms m ts same there is vars = type-at image main m ts (subst (λ ms. slice_get ms main ≡ Some m) same (read-there ms main m there is)) (ap (λ (m : CodeModule). m.vars.items) is ∙ sym vars)
