use Rattle.std.proofs.Common.{◌≡◌, map, flat_map, drop}
use Rattle.herm_translated.specs.Constants.{literals_in}
use Rattle.herm_fronts.specs.Forms.{form_seen}
use Rattle.herm_fronts.specs.Shared.{shared}
use Rattle.herm_fronts.specs.View.{key_view}
use Rattle.herm_codegen.proofs.program.add_forms.Given as goal

abbrev pub invariant-forms : goal.invariant-forms
invariant-forms l = shared (map key_view l.keys.keys) (flat_map literals_in (map form_seen (map (λ f. f.now) (drop l.form-index l.forms)))) ≡ shared (map key_view l.fn.keys.keys) (flat_map literals_in (map form_seen (map (λ f. f.now) l.forms)))
