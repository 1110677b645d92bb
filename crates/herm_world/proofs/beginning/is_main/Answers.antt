use Rattle.std.proofs.Common.{◌≡◌, ◌≤◌, ℕ, false, true, Some, None, option_map, length, get_or, sym, ap, ◌∙◌, arith, true≢false}
use Rattle.std.specs.Prelude.{nat_eq}
use Rattle.std.proofs.lemmas.Bool.Decides.{nat_tests}
use Rattle.herm_base.specs.declared.numbers.TypeNo.{TypeNo}
use Rattle.herm_model.proofs.Options.{none-not_some, some-injective}
use Rattle.herm_code.specs.View.{image_view}
use Rattle.herm_code_machine.specs.CodeTypes.{first_type}
use Rattle.herm_code_machine.specs.ReadyCode.{labelled_image}
use Rattle.herm_world.proofs.MainFirst.{type-read, first-read, first-none}
use Rattle.herm_world.proofs.beginning.is_main.Goals as goal

seven : (x : ℕ) → nat_eq x 7 ≡ true → x ≡ 7
seven x e = grind (arith, nat_tests)

same-seven : (x : ℕ) → x ≡ 7 → nat_eq x 7 ≡ true
same-seven x e = grind (arith, nat_tests)

empty : (n : ℕ) → nat_eq n 0 ≡ true → n ≡ 0
empty n e = grind (arith, nat_tests)

some : (n : ℕ) → nat_eq n 0 ≡ false → 1 ≤ n
some n e = grind (arith, nat_tests)

pub returns-then-is_empty : goal.returns-then-is_empty
returns-then-is_empty c =
    let ts = c.as_slice-vars.result.now in
    let none = empty (length ts) (sym c.is_empty.ensures ∙ c.if-is_empty.true) in
    let type = type-read c.args.image.now c.args.main c.modules-modules.result.now c.index-modules-place.result ts c.modules-modules.ensures.modules c.if-place-modules.false c.index-modules-place.is c.as_slice-vars.ensures.value in record {
      starts = (λ e. absurd (true≢false (sym e)), λ e. none-not_some (sym (type ∙ ap (option_map (λ (t : TypeNo). t.0)) (first-none ts none)) ∙ e));
    }

pub returns : goal.returns
returns c =
    let ts = c.as_slice-vars.result.now in
    let d : TypeNo = record { 0 = 0 } in
    let long = some (length ts) (sym c.is_empty.ensures ∙ c.if-is_empty.false) in
    let type = type-read c.args.image.now c.args.main c.modules-modules.result.now c.index-modules-place.result ts c.modules-modules.ensures.modules c.if-place-modules.false c.index-modules-place.is c.as_slice-vars.ensures.value in
    let at : first_type (labelled_image (image_view c.args.image.now) c.args.main) c.args.main ≡ Some (get_or ts 0 d).0 = type ∙ ap (option_map (λ (t : TypeNo). t.0)) (first-read ts d long) in record {
      starts = (λ e. at ∙ ap (λ (n : ℕ). Some n) (seven (get_or ts 0 d).0 e), λ e. same-seven (get_or ts 0 d).0 (some-injective (sym at ∙ e)));
    }
