-- A process of code counts the same without the names of its cells, and ends the same.
use Rattle.std.proofs.Common.{◌≡◌, ◌+◌, List, [], ◌∷◌, map, Option, Some, None, refl, sym, ap, ◌∙◌, arith}
use Rattle.herm_model.specs.CellNames.{rename, rename_in}
use Rattle.herm_model.specs.Lists.{total, list_of}
use Rattle.herm_model.specs.Values.{Name, Cell, cell, Parts, no_parts, gap, part}
use Rattle.herm_model.proofs.Lists.{length-map}
use Rattle.herm_journal.specs.Renaming.{forget_name}
use Rattle.herm_journal.specs.Weights.{weigh, weigh_in, weigh_all}
use Rattle.herm_forms.specs.Frames.{Loop, Frame}
use Rattle.herm_forms.specs.Renaming.{rename_loop, rename_body}
use Rattle.herm_forms.specs.Weights.{weigh_loops, weight_held}
use Rattle.herm_system.specs.Machines.{Held}
use Rattle.herm_system.specs.Summary.{one}
use Rattle.herm_code_machine.specs.CodeInstance.{code_at, code_machine, nameless_code}
use Rattle.herm_code_machine.specs.CodeRenaming.{forget_code}
use Rattle.herm_code_machine.specs.CodeSeen.{code_held}
use Rattle.herm_code_machine.specs.CodeStates.{CodeState}
use Rattle.herm_code_machine.specs.ReadyCode.{ReadyCode, ReadyImage}
use Rattle.herm_code_machine.proofs.instance.CodeHeld.{weigh-held}
use Rattle.herm_waking.specs.UnnamedReport.{each_one, CountsWithoutNames}

-- each cell weighs one, with its name and without
mutual
  weigh-bare : (c : Cell Name) → weigh each_one (rename forget_name c) ≡ weigh one c
  weigh-bare (cell n k ps) = ap (λ i. 1 + i) (weigh-bare_in ps)

  weigh-bare_in : (ps : Parts Name) → weigh_in each_one (rename_in forget_name ps) ≡ weigh_in one ps
  weigh-bare_in no_parts = refl
  weigh-bare_in (gap ps) = weigh-bare_in ps
  weigh-bare_in (part c ps) = omega (arith, weigh-bare c, weigh-bare_in ps)

loops-bare : (ls : List (Loop Name)) → weigh_loops each_one (map (rename_loop forget_name) ls) ≡ weigh_loops one ls
loops-bare [] = refl
loops-bare (l ∷ ls) = omega (arith, weigh-bare_in l.rows, loops-bare ls)

work-bare : (cs : List (Cell Name)) → weigh_all each_one (map (rename forget_name) cs) ≡ weigh_all one cs
work-bare [] = refl
work-bare (c ∷ cs) = omega (arith, weigh-bare c, work-bare cs)

frame-bare : (b : Frame Name) → weight_held each_one (rename_body forget_name b) ≡ weight_held one b
frame-bare b = omega (arith, weigh-bare_in b.variables, loops-bare b.loops, work-bare b.work)

held-bare : (c : ReadyCode) (x : CodeState Name) → total (λ (h : Held _). weigh each_one h.value) (code_held c (forget_code x)) ≡ total (λ (h : Held _). weigh one h.value) (code_held c x)
held-bare c x = weigh-held each_one c (forget_code x) ∙ frame-bare x.frame ∙ sym (weigh-held one c x)

pub counts-without-names : (image : ReadyImage) → CountsWithoutNames (code_machine image) (nameless_code image) forget_code
counts-without-names image = record {
  exceptions = λ x. refl;
  steps = λ x. refl;
  actions = λ x. refl;
  serials = λ x. refl;
  held = λ x. held x (code_at image x);
  finalised = λ x. length-map forget_name x.frame.finalised;
}
  where
    held : (x : CodeState Name) (o : Option ReadyCode) → total (λ (h : Held _). weigh each_one h.value) (list_of (λ c. code_held c (forget_code x)) o) ≡ total (λ (h : Held _). weigh one h.value) (list_of (λ c. code_held c x) o)
    held x None = refl
    held x (Some c) = held-bare c x
