-- What is generated of a program is its image.
use Rattle.std.proofs.Common.{◌≡◌, ℕ, zero, suc, ◌<◌, List, [], ◌∷◌, map, flat_map, length, get_or, refl, sym, ap, ap₂, ◌∙◌, inl, inr, arith}
use Rattle.herm_model.specs.Lists.{IsIn}
use Rattle.herm_model.specs.Types.{TypeTable}
use Rattle.herm_model.specs.Expressions.{Literal}
use Rattle.herm_model.specs.Statements.{Process}
use Rattle.herm_model.specs.Targets.{end}
use Rattle.herm_model.specs.Nodes.{Node, process_nodes}
use Rattle.herm_instructions.specs.Images.{CodeModule, Image}
use Rattle.herm_translated.specs.Constants.{literals_in}
use Rattle.herm_translated.specs.Translated.{code_of, image_for}
use Rattle.herm_blocks.specs.declared.checked.CheckedProcess.{CheckedProcess}
use Rattle.herm_fronts.specs.declared.nodes.Found.{Found}
use Rattle.herm_blocks.specs.CheckedProcesses.{checked_view}
use Rattle.herm_fronts.specs.Forms.{form_seen}
use Rattle.herm_fronts.specs.Shared.{shared}
use Rattle.herm_fronts.specs.Walked.{Nodes as Walk, found_view, no_nodes, walk_block}
use Rattle.herm_codegen.proofs.Literals.{forms_of, program_constants}
use Rattle.herm_fronts.proofs.WalkedNodes.{block-walked}

mapped-twice : {X Y Z : Type 0} (g : Y → Z) (f : X → Y) (xs : List X) → map g (map f xs) ≡ map (λ x. g (f x)) xs
mapped-twice g f [] = refl
mapped-twice g f (x ∷ xs) = ap (g (f x) ∷◌) (mapped-twice g f xs)

-- the forms that are found are those of the nodes
pub found_forms : (p : Process) (found : Found) → found_view found ≡ walk_block p.body no_nodes → map form_seen (map (λ f. f.now) found.forms.items) ≡ map (λ (n : Node). n.form) (process_nodes p)
found_forms p found walked = mapped-twice form_seen (λ f. f.now) found.forms.items ∙ (ap (λ (w : Walk). w.forms) walked ∙ block-walked p.body no_nodes 1 0 (record { behind = end; catches = []; exit = end }))

abbrev pub an_image : TypeTable → List CodeModule → List Literal → Image
an_image types modules constants = record { modules = modules; constants = constants; types = types }

pub image_same : (types : TypeTable) (cs : List CheckedProcess) (ks constants : List Literal) (modules : List CodeModule) → ks ≡ shared [] (flat_map literals_in (flat_map forms_of cs)) → constants ≡ ks → modules ≡ map (code_of ks) (map (checked_view types) cs)
    → an_image types modules constants ≡ image_for types (map (checked_view types) cs)
image_same types cs ks constants modules k e m =
    ap₂ (an_image types) m e ∙ ap (λ l. an_image types (map (code_of l) (map (checked_view types) cs)) l) (k ∙ program_constants types cs)

pub item_in : {X : Type 0} (xs : List X) (i : ℕ) (x : X) → i < length xs → x ≡ get_or xs i x → IsIn x xs
item_in [] i x h e = absurd (omega (arith, h))
item_in (y ∷ xs) zero x h e = inl e
item_in (y ∷ xs) (suc i) x h e = inr (item_in xs i x (omega (arith, h)) e)
