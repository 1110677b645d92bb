-- The value of the first message.
use Rattle.std.proofs.Common.{◌≡◌, ℕ, List, [], ◌∷◌, ◌++◌, Option, Some, refl, sym, ap, subst, ◌∙◌, Vec, Global}
use Rattle.std.specs.Prelude.{IfSome, ⊤}
use Rattle.std.proofs.lemmas.List.Elements.{All-cons, All-nil}
use Rattle.herm_base.specs.declared.numbers.PortNo.{PortNo}
use Rattle.herm_model.specs.Values.{Cell, a_record, a_scalar, a_text, an_outport, cell, no_parts, part}
use Rattle.herm_values.specs.Parts.{parts_from}
use Rattle.herm_values.specs.View.{value_view, views_of}
use Rattle.herm_values.specs.Whole.{AllWhole, IsWhole}
use Rattle.herm_values.specs.declared.value.Value.{Value, Fields, Outport, Text}
use Rattle.herm_values.proofs.Seen.{fields_view}
use Rattle.herm_values.proofs.Wholes.{whole-fields}
use Rattle.herm_world.specs.Opening.{first_message}

-- a record of a text and an outport
abbrev with_port : List ℕ → ℕ → Cell ⊤
with_port bytes n = cell tt a_record (part (cell tt (a_scalar (a_text bytes)) no_parts) (part (cell tt (an_outport n) no_parts) no_parts))

module _ (fields : Vec (Option Value) Global) (before : List (Option Value)) (bytes argument : List ℕ) (port : PortNo) (first : before ≡ [] ++ Some (Text bytes) ∷ []) (then_port : fields.items ≡ before ++ Some (Outport port) ∷ []) where
  both : fields.items ≡ Some (Text bytes) ∷ Some (Outport port) ∷ []
  both = then_port ∙ ap (λ xs. xs ++ Some (Outport port) ∷ []) first

  pub first-viewed : bytes ≡ argument → port.number ≡ 0 → value_view (Fields fields) ≡ first_message argument
  first-viewed same console =
      fields_view (Fields fields) fields refl
      ∙ ap (λ xs. cell tt a_record (parts_from (views_of xs))) both
      ∙ ap (λ n. with_port bytes n) console
      ∙ ap first_message same

  pub first-whole : IsWhole (Fields fields)
  first-whole =
      whole-fields fields
      (subst AllWhole (sym both)
      (All-cons (λ o. IfSome o IsWhole) (Some (Text bytes)) (Some (Outport port) ∷ []) (tt {0}) (All-cons (λ o. IfSome o IsWhole) (Some (Outport port)) [] (tt {0}) (All-nil (λ o. IfSome o IsWhole)))))
