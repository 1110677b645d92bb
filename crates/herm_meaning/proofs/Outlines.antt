-- A table without its keys, declared facts and kept parameters keeps the rules where the table does.
use Rattle.std.proofs.Common.{◌≤◌, ◌<◌, ℕ, List, [], ◌∷◌, map, length, IsTrue, refl, sym, ◌∙◌, ap, subst}
use Rattle.herm_model.specs.Lists.{IsIn, all_pass}
use Rattle.herm_model.specs.Statements.{Differ}
use Rattle.herm_model.specs.laws.FlowLaws.{Rise}
use Rattle.herm_model.specs.Types as types
use Rattle.herm_model.specs.Types.{TypeTable, predefined, named_types, is_within_depth, all_parts, part_paths, greatest_depth}
use Rattle.herm_model.specs.TypedExpressions.{HasShape}
use Rattle.herm_model.specs.WellFormedTables.{IsWellFormedTable, NamesTypes, RaisesKnown, RaisesDifferent, HasKey, LeadsToInport, CopiesInputs, DeclaresFields, DeclaresOneCase, KeepsReturned, KeepsRising, KeepsNoneDisconnected, greatest_paths, is_definable}
use Rattle.herm_model.proofs.Lists.{and-both, both-and, in-map_from, length-map}
use Rattle.herm_meaning.specs.Names.{IsWellNamed}
use Rattle.herm_meaning.specs.Items.{Placed, types_in, exceptions_in}
use Rattle.herm_meaning.specs.Meaning.{part_names, numbered_shape, type_names, exception_names, outline, meaning}
use Rattle.herm_meaning.specs.DefinitionFaults.{AreFaultsOf}
use Rattle.herm_meaning.proofs.Forgotten.{bare, unkept, bare-of, of-bare, bare-type, reached-bare, bare-copyable, within-bare, steps-bare, bare-all, type-bare}
use Rattle.herm_meaning.proofs.NameRules.{map-map}
use Rattle.herm_meaning.proofs.WellNamed.{same, part_each, well-named}

bare-definable : (ss : List types.Shape) → IsTrue (all_pass is_definable ss) → IsTrue (all_pass is_definable (map bare ss))
bare-definable [] h = refl
bare-definable (s ∷ ss) h = let r = and-both (is_definable s) _ h in both-and (is_definable (bare s)) _ (one s r.0) (bare-definable ss r.1)
  where
    one : (s : types.Shape) → IsTrue (is_definable s) → IsTrue (is_definable (bare s))
    one types.boolean h = h
    one types.integer h = h
    one types.text h = h
    one types.polymorph h = h
    one (types.names n) h = h
    one (types.fields ts) h = h
    one (types.cases ts) h = h
    one (types.rows row key) h = refl
    one (types.inport message declared) h = refl
    one (types.outport port) h = h
    one (types.callmessage ps rs) h = h

module _ (exceptions : ℕ) (full : TypeTable) (good : IsWellFormedTable exceptions full) where
  abbrev lean : TypeTable
  lean = map bare full

  -- what is so of the bare shape of each shape
  each-bare : (P : types.Shape → Type 0) → ((t : ℕ) (s : types.Shape) → HasShape full t s → P (bare s)) → (t : ℕ) (s : types.Shape) → HasShape lean t s → P s
  each-bare P by t s e = let r = of-bare full t s e in subst P r.2 (by t r.0 r.1)

  named : (s : types.Shape) → NamesTypes full s → NamesTypes lean (bare s)
  named types.boolean h u i = absurd i
  named types.integer h u i = absurd i
  named types.text h u i = absurd i
  named types.polymorph h u i = absurd i
  named (types.names n) h u i = absurd i
  named (types.fields ts) h u i = bare-type full u (h u i)
  named (types.cases ts) h u i = bare-type full u (h u i)
  named (types.rows row key) h u i = bare-type full u (h u i)
  named (types.inport message declared) h u i = bare-type full u (h u i)
  named (types.outport port) h u i = bare-type full u (h u i)
  named (types.callmessage ps rs) h u i = bare-type full u (h u i)

  raised : (s : types.Shape) → RaisesKnown exceptions s → RaisesKnown exceptions (bare s)
  raised types.boolean h = tt
  raised types.integer h = tt
  raised types.text h = tt
  raised types.polymorph h = tt
  raised (types.names n) h = tt
  raised (types.fields ts) h = tt
  raised (types.cases ts) h = tt
  raised (types.rows row key) h = tt
  raised (types.inport message declared) h = tt
  raised (types.outport port) h = tt
  raised (types.callmessage ps rs) h = λ r i. let from = in-map_from unkept r rs i in subst (λ (s : types.Raised). s.exception < exceptions) (sym from.2) (h from.0 from.1)

  raised-apart : (s : types.Shape) → RaisesDifferent s → RaisesDifferent (bare s)
  raised-apart types.boolean h = tt
  raised-apart types.integer h = tt
  raised-apart types.text h = tt
  raised-apart types.polymorph h = tt
  raised-apart (types.names n) h = tt
  raised-apart (types.fields ts) h = tt
  raised-apart (types.cases ts) h = tt
  raised-apart (types.rows row key) h = tt
  raised-apart (types.inport message declared) h = tt
  raised-apart (types.outport port) h = tt
  raised-apart (types.callmessage ps rs) h = subst (λ ns. Differ ns) (sym (map-map (λ (r : types.Raised). r.exception) unkept (λ (r : types.Raised). r.exception) rs (λ r. refl))) h

  keyed : (s : types.Shape) → HasKey full s → HasKey lean (bare s)
  keyed types.boolean h = tt
  keyed types.integer h = tt
  keyed types.text h = tt
  keyed types.polymorph h = tt
  keyed (types.names n) h = tt
  keyed (types.fields ts) h = tt
  keyed (types.cases ts) h = tt
  keyed (types.rows row key) h = (h.0, bare-of full row (types.fields h.0) h.1, tt, λ i k. absurd k)
  keyed (types.inport message declared) h = tt
  keyed (types.outport port) h = tt
  keyed (types.callmessage ps rs) h = tt

  leading : (s : types.Shape) → LeadsToInport full s → LeadsToInport lean (bare s)
  leading types.boolean h = tt
  leading types.integer h = tt
  leading types.text h = tt
  leading types.polymorph h = tt
  leading (types.names n) h = tt
  leading (types.fields ts) h = tt
  leading (types.cases ts) h = tt
  leading (types.rows row key) h = tt
  leading (types.inport message declared) h = tt
  leading (types.outport port) h = (h.0, [], bare-of full port (types.inport h.0 h.1) h.2)
  leading (types.callmessage ps rs) h = tt

  copying : (s : types.Shape) → CopiesInputs full s → CopiesInputs lean (bare s)
  copying types.boolean h = tt
  copying types.integer h = tt
  copying types.text h = tt
  copying types.polymorph h = tt
  copying (types.names n) h = tt
  copying (types.fields ts) h = tt
  copying (types.cases ts) h = tt
  copying (types.rows row key) h = tt
  copying (types.inport message declared) h = tt
  copying (types.outport port) h = tt
  copying (types.callmessage ps rs) h = λ p i m. bare-copyable full p.content (h p i m)

  declaring : (s : types.Shape) → DeclaresFields lean (bare s)
  declaring types.boolean = tt
  declaring types.integer = tt
  declaring types.text = tt
  declaring types.polymorph = tt
  declaring (types.names n) = tt
  declaring (types.fields ts) = tt
  declaring (types.cases ts) = tt
  declaring (types.rows row key) = tt
  declaring (types.inport message declared) = λ f i. absurd i
  declaring (types.outport port) = tt
  declaring (types.callmessage ps rs) = tt

  one-case : (s : types.Shape) → DeclaresOneCase (bare s)
  one-case types.boolean = tt
  one-case types.integer = tt
  one-case types.text = tt
  one-case types.polymorph = tt
  one-case (types.names n) = tt
  one-case (types.fields ts) = tt
  one-case (types.cases ts) = tt
  one-case (types.rows row key) = tt
  one-case (types.inport message declared) = λ p c d i j. absurd i
  one-case (types.outport port) = tt
  one-case (types.callmessage ps rs) = tt

  keeping : (s : types.Shape) → KeepsReturned s × KeepsRising s × KeepsNoneDisconnected s → KeepsReturned (bare s) × KeepsRising (bare s) × KeepsNoneDisconnected (bare s)
  keeping types.boolean h = (tt, tt, tt)
  keeping types.integer h = (tt, tt, tt)
  keeping types.text h = (tt, tt, tt)
  keeping types.polymorph h = (tt, tt, tt)
  keeping (types.names n) h = (tt, tt, tt)
  keeping (types.fields ts) h = (tt, tt, tt)
  keeping (types.cases ts) h = (tt, tt, tt)
  keeping (types.rows row key) h = (tt, tt, tt)
  keeping (types.inport message declared) h = (tt, tt, tt)
  keeping (types.outport port) h = (tt, tt, tt)
  keeping (types.callmessage ps rs) h = (returned, rising, λ r i e. let from = in-map_from unkept r rs i in ap (λ (s : types.Raised). s.kept) from.2)
    where
      returned : KeepsReturned (types.callmessage ps (map unkept rs))
      returned r i k j = let from = in-map_from unkept r rs i in absurd (subst (λ (s : types.Raised). IsIn k s.kept) from.2 j)

      rising : KeepsRising (types.callmessage ps (map unkept rs))
      rising r i = let from = in-map_from unkept r rs i in subst (λ (s : types.Raised). Rise s.kept) (sym from.2) tt

  all-keeping : (t : ℕ) (s : types.Shape) → HasShape lean t s → KeepsReturned s × KeepsRising s × KeepsNoneDisconnected s
  all-keeping = each-bare (λ s. KeepsReturned s × KeepsRising s × KeepsNoneDisconnected s) (λ t s e. keeping s (good.kept_returned t s e, good.kept_rising t s e, good.kept_disconnected t s e))

  pub bare-well_formed : IsWellFormedTable exceptions lean
  bare-well_formed = record {
    predefined_types = (map bare good.predefined_types.0, ap (map bare) good.predefined_types.1, bare-definable good.predefined_types.0 good.predefined_types.2);
    enough_exceptions = good.enough_exceptions;
    types_known = each-bare (NamesTypes lean) (λ t s e. named s (good.types_known t s e));
    exceptions_known = each-bare (RaisesKnown exceptions) (λ t s e. raised s (good.exceptions_known t s e));
    exceptions_differ = each-bare RaisesDifferent (λ t s e. raised-apart s (good.exceptions_differ t s e));
    acyclic = λ t r. good.acyclic t (reached-bare full t t r);
    shallow = λ t h. within-bare full greatest_depth t ∙ good.shallow t (type-bare full t h);
    few_paths = λ t h. subst (λ ps. length ps ≤ greatest_paths) (sym (steps-bare full all_parts bare-all greatest_depth t)) (good.few_paths t (type-bare full t h));
    keys = each-bare (HasKey lean) (λ t s e. keyed s (good.keys t s e));
    outports = each-bare (LeadsToInport lean) (λ t s e. leading s (good.outports t s e));
    inputs_copyable = each-bare (CopiesInputs lean) (λ t s e. copying s (good.inputs_copyable t s e));
    facts_of_fields = each-bare (DeclaresFields lean) (λ t s e. declaring s);
    one_case = each-bare DeclaresOneCase (λ t s e. one-case s);
    kept_returned = λ t s e. (all-keeping t s e).0;
    kept_rising = λ t s e. (all-keeping t s e).1;
    kept_disconnected = λ t s e. (all-keeping t s e).2;
  }

pub outline-well_named : (items : List Placed) → AreFaultsOf items [] → IsWellNamed (outline items)
outline-well_named items faultless =
    let full = well-named items faultless in
    let shapes = same items faultless in
    record {
      begins = (
        record {
          names = map (λ d. d.0) (types_in items);
          shapes = map (λ d. numbered_shape (type_names items) (exception_names items) d.1) (types_in items);
          parts = map (λ d. part_names d.1) (types_in items);
          exceptions = exceptions_in items;
        },
        refl,
      );
      well_formed = subst (IsWellFormedTable (length (meaning items).exceptions)) (sym shapes) (bare-well_formed (length (meaning items).exceptions) (meaning items).shapes full.well_formed);
      name_each = full.name_each ∙ sym (ap length shapes ∙ length-map bare (meaning items).shapes);
      part_each = part_each items faultless;
      names_differ = full.names_differ;
      exceptions_differ = full.exceptions_differ;
      parts_differ = full.parts_differ;
    }
