-- On the way of a sound process each table can have the fields of its type as its key.
use Rattle.std.proofs.Common.{◌≡◌, ℕ, List, [], ◌∷◌, map, Bool, true, false, ◌&&◌, Option, Some, None, option_and_then, refl, sym, ap, subst, ◌∙◌}
use Rattle.std.specs.Prelude.{nat_le, slice_get, IsTrue, ⊤}
use Rattle.herm_model.specs.Calls.{shape_at}
use Rattle.herm_model.specs.Lists.{IsIn, map_or}
use Rattle.herm_model.specs.Paths.{Path}
use Rattle.herm_model.specs.Tables.{has_distinct_keys}
use Rattle.herm_model.specs.TypedExpressions.{HasShape}
use Rattle.herm_model.specs.Typed.{a_value, exactly, greatest_rows, HaveTypes, HasType, is_bounded, partly}
use Rattle.herm_model.specs.TypedStatements.{IsSource, IsTableOf}
use Rattle.herm_model.specs.Types.{TypeTable, Shape, rows, fields, type_at}
use Rattle.herm_model.specs.Values.{Name, a_table, cell, Kind, kind_of, Parts, read_at, size, Value, an_inport, no_parts}
use Rattle.herm_model.proofs.Options.{none-not_some, some-injective}
use Rattle.herm_model.proofs.Typing.{Fits-renamed}
use Rattle.herm_journal.specs.Renaming.{forget_name}
use Rattle.herm_forms.specs.Acts.{key_at, key_fields}
use Rattle.herm_forms.proofs.forms.ReadTypes.{is-table, read-typed}
use Rattle.herm_instructions.specs.Images.{CodeModule, Image, instruction_at}
use Rattle.herm_instructions.specs.Instructions.{Instruction, Insert, Remove, Get}
use Rattle.herm_code_machine.specs.CodeRenaming.{forget_code}
use Rattle.herm_code_machine.specs.CodeStates.{begins_piece, CodeState}
use Rattle.herm_code_machine.specs.ReadyCode.{ReadyCode}
use Rattle.herm_code_machine.specs.laws.GoodImageLaws.{IsGoodOver, labelled_code}
use Rattle.herm_code_machine.specs.laws.OperandLaws.{as_begun, behind_step, FindsOperands, IsNowhereStuck}
use Rattle.herm_code_machine.proofs.sound.Between as between
use Rattle.herm_code_machine.proofs.sound.Processes.{module-of}
use Rattle.herm_code_machine.proofs.sound.StuckNowhere.{runs-find_operands}
use Rattle.herm_frames.specs.KeyedTables.{HasKeyFields}
use Rattle.herm_frames.specs.Keyings.{CanHaveKey, DiffersBy}
use Rattle.herm_steps.specs.KeysThere.{CanBeKeyed, IsKeyedOnTheWay, RunsAreKeyed}

both : (a b : Bool) → a && b ≡ true → (a ≡ true) × (b ≡ true)
both true b e = (refl, e)
both false b e = absurd (let k : ⊥ = cc in k)

module _ (types : TypeTable) (variables : List ℕ) where
  -- a value of a table's type has rows that differ by the fields of the type's key, and not too many
  table-differs : (u row : ℕ) (key : List ℕ) (n : ⊤) (k : Kind) (ps : Parts ⊤) → HasShape types u (rows row key) → HasType types u (cell n k ps) → (k ≡ a_table) × DiffersBy key ps
  table-differs u row key n k ps shape h =
      let d = is-table ⊤ types u row key (cell n k ps) shape h in
      let bounded : IsTrue (nat_le (size ps) greatest_rows && has_distinct_keys key ps) = subst (λ (o : Option Shape). IsTrue (map_or false (λ s. is_bounded s ps) o)) shape h.1 in
      let two = both (nat_le (size ps) greatest_rows) (has_distinct_keys key ps) bounded in
      (ap kind_of d.is, (two.1, two.0))

  can-have-key : (t : Path) (u row : ℕ) (key : List ℕ) (ps : Parts ⊤) → HaveTypes types variables ps → type_at types variables t ≡ Some u → HasShape types u (rows row key) → CanHaveKey key (read_at t ps)
  can-have-key [] u row key ps h at shape = none-not_some at
  can-have-key (i ∷ q) u row key ps h at shape = by (read_at (i ∷ q) ps) refl
    where
      by : (o : Option Value) → read_at (i ∷ q) ps ≡ o → CanHaveKey key o
      by None e = tt
      by (Some (cell n k qs)) e = table-differs u row key n k qs shape (read-typed ⊤ types variables i q u ps (cell n k qs) h at e)

  shape-there : (p : Path) (u : ℕ) (s : Shape) → type_at types variables p ≡ Some u → HasShape types u s → shape_at types variables p ≡ Some s
  shape-there p u s at shape = ap (option_and_then (slice_get types)) at ∙ shape

module _ (exceptions : ℕ) (image : Image) (main : ℕ) (good : IsGoodOver exceptions image) (m : CodeModule) (in-image : IsIn m image.modules) where
  abbrev c : ReadyCode
  c = labelled_code image m

  key-is : (t : Path) (u row : ℕ) (key : List ℕ) → type_at image.types m.variables t ≡ Some u → HasShape image.types u (rows row key) → key_at c.scope t ≡ key
  key-is t u row key at shape = ap key_fields (shape-there image.types m.variables t u (rows row key) at shape)

  -- a row's type is that of the table's rows
  fields-there : (r : Path) (u row : ℕ) (key : List ℕ) → type_at image.types m.variables r ≡ Some row → HasShape image.types u (rows row key) → HasKeyFields c.scope key r
  fields-there r u row key at shape =
      let k = good.table.keys u (rows row key) shape in
      record { types = k.0; shape = shape-there image.types m.variables r row (fields k.0) at k.1; scalars = k.3 }

  can-be_keyed : (t : Path) (row : ℕ) (key : List ℕ) (s : CodeState Name) → HaveTypes image.types m.variables s.frame.variables → IsTableOf image.types m.variables t row key → CanHaveKey (key_at c.scope t) (read_at t (forget_code s).frame.variables)
  can-be_keyed t row key s h is =
      subst (λ key. CanHaveKey key (read_at t (forget_code s).frame.variables)) (sym (key-is t is.0 row key is.1.0 is.2))
      (can-have-key image.types m.variables t is.0 row key (forget_code s).frame.variables (Fits-renamed forget_name image.types (exactly (map (a_value partly) m.variables)) s.frame.variables h) is.1.0 is.2)

  keyed : (s : CodeState Name) → IsNowhereStuck c s → IsKeyedOnTheWay c s
  keyed s none t way i x position there = by x there (none t way i position)
    where
      finds : (x : Instruction) → instruction_at m i ≡ Some x → begins_piece c x ≡ false → ((y : Instruction) × (instruction_at m i ≡ Some y) × (begins_piece c y ≡ false → FindsOperands c t i y)) → FindsOperands c t i x
      finds x there other f = subst (λ y. begins_piece c y ≡ false → FindsOperands c t i y) (some-injective (sym f.1 ∙ there)) f.2 other

      by : (x : Instruction) → instruction_at m i ≡ Some x → ((y : Instruction) × (instruction_at m i ≡ Some y) × (begins_piece c y ≡ false → FindsOperands c t i y)) → CanBeKeyed c x (forget_code t).frame
      by (Insert r tb) there f =
          let o = finds (Insert r tb) there refl f in
          let typed = (between.finds-there exceptions image good.good good.table m in-image i (Insert r tb) o.label there o.labelled).typed in
          let table : IsTableOf image.types m.variables tb typed.0 typed.1 = typed.2 in
          let source : IsSource image.types m.variables r typed.0 = typed.3 in (
            subst (λ key. HasKeyFields c.scope key r) (sym (key-is tb table.0 typed.0 typed.1 table.1.0 table.2)) (fields-there r table.0 typed.0 typed.1 source.0.0 table.2),
            can-be_keyed tb typed.0 typed.1 t o.as_labelled.types table,
          )
      by (Remove r tb n) there f =
          let o = finds (Remove r tb n) there refl f in
          let typed = (between.finds-there exceptions image good.good good.table m in-image i (Remove r tb n) o.label there o.labelled).typed in
          can-be_keyed tb typed.0 typed.1 t o.as_labelled.types typed.2
      by (Get r tb n) there f =
          let o = finds (Get r tb n) there refl f in
          let typed = (between.finds-there exceptions image good.good good.table m in-image i (Get r tb n) o.label there o.labelled).typed in
          can-be_keyed tb typed.0 typed.1 t o.as_labelled.types typed.2
      by x there f = tt

pub runs-keyed : RunsAreKeyed
runs-keyed exceptions image main good c = record {
  begins = λ code number port n e.
      let s = as_begun c code number (cell n (an_inport port) no_parts) in
      let m = module-of exceptions image main good code c e in
      subst (λ c. IsNowhereStuck c s → IsKeyedOnTheWay c s) m.2 (keyed exceptions image main good m.0 m.1 s) ((runs-find_operands exceptions image main good c).begins code number port n e);
  steps = λ x sound coded i here.
      let s = behind_step x i in
      let m = module-of exceptions image main good x.module_number c coded in
      subst (λ c. IsNowhereStuck c s → IsKeyedOnTheWay c s) m.2 (keyed exceptions image main good m.0 m.1 s) ((runs-find_operands exceptions image main good c).steps x sound coded i here);
  answers = λ x sound coded want at a wanted h suits u left.
      let m = module-of exceptions image main good x.module_number c coded in
      subst (λ c. IsNowhereStuck c u → IsKeyedOnTheWay c u) m.2 (keyed exceptions image main good m.0 m.1 u) ((runs-find_operands exceptions image main good c).answers x sound coded want at a wanted h suits u left);
}
