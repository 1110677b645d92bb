-- Tests of tables of types, rule by rule. A law says that they decide which tables are well formed.
use Rattle.std.specs.Prelude.{ℕ, List, [], ◌∷◌, ◌++◌, map, filter, length, Bool, true, false, not, cond, ◌&&◌, ◌||◌, nat_eq, nat_lt, nat_le, Option, Some, None, is_some, slice_get, option_and_then}
use Rattle.herm_model.specs.Lists.{map_or, all_pass, any_pass, range}
use Rattle.herm_model.specs.Paths.{Path, Fact, init, case, path_of, same_path, same_fact}
use Rattle.herm_model.specs.Types.{Mode, by_in, by_inout, by_out, Parameter, Raised, Shape, fields, cases, rows, inport, outport, callmessage, TypeTable, predefined, named_types, is_within_depth, greatest_depth, all_parts, part_paths}
use Rattle.herm_model.specs.Copyable.{is_copyable_within}
use Rattle.herm_model.specs.Facts.{full_facts}
use Rattle.herm_model.specs.Calls.{is_returned}
use Rattle.herm_model.specs.Outcomes.{disconnected}
use Rattle.herm_model.specs.TypedExpressions.{is_scalar_shape}
use Rattle.herm_model.specs.WellFormedTables.{predefined_exceptions, greatest_paths, is_definable, field_below}

-- no element comes again, by a test of equality
abbrev pub are_different : {X : Type 0} → (X → X → Bool) → List X → Bool
are_different same [] = true
are_different same (x ∷ xs) = not (any_pass (same x) xs) && are_different same xs

abbrev pub do_rise : List ℕ → Bool
do_rise [] = true
do_rise (n ∷ ns) = all_pass (nat_lt n) ns && do_rise ns

-- a test of what a shape has, which fails at all other shapes and where there is none
abbrev pub on_fields : (List ℕ → Bool) → Option Shape → Bool
on_fields test (Some (fields ts)) = test ts
on_fields test o = false

abbrev pub on_cases : (List ℕ → Bool) → Option Shape → Bool
on_cases test (Some (cases ts)) = test ts
on_cases test o = false

abbrev pub on_rows : (ℕ → List ℕ → Bool) → Option Shape → Bool
on_rows test (Some (rows row key)) = test row key
on_rows test o = false

abbrev pub on_inport : (ℕ → List Fact → Bool) → Option Shape → Bool
on_inport test (Some (inport message declared)) = test message declared
on_inport test o = false

abbrev pub on_outport : (ℕ → Bool) → Option Shape → Bool
on_outport test (Some (outport port)) = test port
on_outport test o = false

abbrev pub on_callmessage : (List Parameter → List Raised → Bool) → Option Shape → Bool
on_callmessage test (Some (callmessage parameters raises)) = test parameters raises
on_callmessage test o = false

abbrev pub if_input : Mode → Bool → Bool
if_input by_in b = b
if_input by_inout b = true
if_input by_out b = true

module _ (table : TypeTable) where
  abbrev pub names_types : Shape → Bool
  names_types s = all_pass (λ t. is_some (slice_get table t)) (named_types s)

  abbrev pub is_scalar_field : List ℕ → ℕ → Bool
  is_scalar_field ts i = map_or false (λ t. map_or false is_scalar_shape (slice_get table t)) (slice_get ts i)

  abbrev pub has_keys : Shape → Bool
  has_keys (rows row key) = on_fields (λ ts. are_different nat_eq key && all_pass (is_scalar_field ts) key) (slice_get table row)
  has_keys s = true

  abbrev pub leads_to_inport : Shape → Bool
  leads_to_inport (outport port) = on_inport (λ message declared. true) (slice_get table port)
  leads_to_inport s = true

  abbrev pub copies_inputs : Shape → Bool
  copies_inputs (callmessage parameters raises) = all_pass (λ (p : Parameter). if_input p.mode (is_copyable_within greatest_depth table p.content)) parameters
  copies_inputs s = true

  module _ (message : ℕ) where
    abbrev pub field_path_type : Path → Option ℕ
    field_path_type [] = None
    field_path_type (v ∷ []) = None
    field_path_type (v ∷ i ∷ q) = cond (nat_eq v 0) (field_below table (Some message) (i ∷ q)) None

    abbrev pub is_of_field : Fact → Bool
    is_of_field (init p) = is_some (field_path_type p)
    is_of_field (case p c) = on_cases (λ ts. nat_lt c (length ts)) (option_and_then (slice_get table) (field_path_type p))

    abbrev pub is_of_full_at : List Fact → Fact → Path → Bool
    is_of_full_at declared f p = map_or false (λ t. any_pass (same_fact f) (full_facts table t p) && all_pass (λ g. any_pass (same_fact g) declared) (full_facts table t p)) (field_path_type p)

    abbrev pub is_of_full_field : List Fact → Fact → Bool
    is_of_full_field declared f = any_pass (λ g. is_of_full_at declared f (path_of g)) declared

  abbrev pub declares_fields : Shape → Bool
  declares_fields (inport message declared) = all_pass (λ f. is_of_field message f || is_of_full_field message declared f) declared
  declares_fields s = true

-- the two facts are no different cases of one path
abbrev pub agree : Fact → Fact → Bool
agree (case p c) (case q d) = not (same_path p q) || nat_eq c d
agree f g = true

abbrev pub declares_one_case : Shape → Bool
declares_one_case (inport message declared) = all_pass (λ f. all_pass (agree f) declared) declared
declares_one_case s = true

abbrev pub raises_known : (exceptions : ℕ) → Shape → Bool
raises_known exceptions (callmessage parameters raises) = all_pass (λ (r : Raised). nat_lt r.exception exceptions) raises
raises_known exceptions s = true

abbrev pub raises_different : Shape → Bool
raises_different (callmessage parameters raises) = are_different nat_eq (map (λ (r : Raised). r.exception) raises)
raises_different s = true

abbrev pub keeps_returned : Shape → Bool
keeps_returned (callmessage parameters raises) = all_pass (λ (r : Raised). all_pass (λ i. map_or false (λ (p : Parameter). is_returned p.mode) (slice_get parameters i)) r.kept) raises
keeps_returned s = true

abbrev pub keeps_rising : Shape → Bool
keeps_rising (callmessage parameters raises) = all_pass (λ (r : Raised). do_rise r.kept) raises
keeps_rising s = true

abbrev pub is_none_kept : List ℕ → Bool
is_none_kept [] = true
is_none_kept (i ∷ kept) = false

abbrev pub keeps_none_disconnected : Shape → Bool
keeps_none_disconnected (callmessage parameters raises) = all_pass (λ (r : Raised). not (nat_eq r.exception disconnected) || is_none_kept r.kept) raises
keeps_none_disconnected s = true

-- The rules, by the names of the parts of a well-formed table; that no type reaches itself is part of `shallow`.
pub data TableRule : Type 0 where
  predefined_types enough_exceptions types_known exceptions_known exceptions_differ shallow few_paths : TableRule
  keys outports inputs_copyable facts_of_fields one_case kept_returned kept_rising kept_disconnected : TableRule

abbrev pub table_rules : List TableRule
table_rules = predefined_types ∷ enough_exceptions ∷ types_known ∷ exceptions_known ∷ exceptions_differ ∷ shallow ∷ few_paths ∷ keys ∷ outports ∷ inputs_copyable ∷ facts_of_fields ∷ one_case ∷ kept_returned ∷ kept_rising ∷ kept_disconnected ∷ []

-- the test of each type's number, and of each shape
abbrev pub of_each_type : TypeTable → (ℕ → Bool) → Bool
of_each_type table test = all_pass test (range 0 (length table))

-- whether the predefined types with these behind them keep a rule, beside so many exceptions
abbrev pub keeps_table_rule : (exceptions : ℕ) → (defined : TypeTable) → TableRule → Bool
keeps_table_rule exceptions defined predefined_types = all_pass is_definable defined
keeps_table_rule exceptions defined enough_exceptions = nat_le predefined_exceptions exceptions
keeps_table_rule exceptions defined types_known = all_pass (names_types (predefined ++ defined)) (predefined ++ defined)
keeps_table_rule exceptions defined exceptions_known = all_pass (raises_known exceptions) (predefined ++ defined)
keeps_table_rule exceptions defined exceptions_differ = all_pass raises_different (predefined ++ defined)
keeps_table_rule exceptions defined shallow = of_each_type (predefined ++ defined) (is_within_depth greatest_depth (predefined ++ defined))
keeps_table_rule exceptions defined few_paths = of_each_type (predefined ++ defined) (λ t. nat_le (length (part_paths all_parts (predefined ++ defined) t)) greatest_paths)
keeps_table_rule exceptions defined keys = all_pass (has_keys (predefined ++ defined)) (predefined ++ defined)
keeps_table_rule exceptions defined outports = all_pass (leads_to_inport (predefined ++ defined)) (predefined ++ defined)
keeps_table_rule exceptions defined inputs_copyable = all_pass (copies_inputs (predefined ++ defined)) (predefined ++ defined)
keeps_table_rule exceptions defined facts_of_fields = all_pass (declares_fields (predefined ++ defined)) (predefined ++ defined)
keeps_table_rule exceptions defined one_case = all_pass declares_one_case (predefined ++ defined)
keeps_table_rule exceptions defined kept_returned = all_pass keeps_returned (predefined ++ defined)
keeps_table_rule exceptions defined kept_rising = all_pass keeps_rising (predefined ++ defined)
keeps_table_rule exceptions defined kept_disconnected = all_pass keeps_none_disconnected (predefined ++ defined)

-- the rules that are broken
abbrev pub broken_table_rules : (exceptions : ℕ) → (defined : TypeTable) → List TableRule
broken_table_rules exceptions defined = filter (λ rule. not (keeps_table_rule exceptions defined rule)) table_rules
