-- Definitions and modules go along tokens (language reference, "Places of names and statements").
use Rattle.std.specs.Prelude.{List, [], ◌∷◌, Option, Some}
use Rattle.herm_base.specs.declared.word.Name.{Name}
use Rattle.herm_alphabet.specs.declared.token.Token.{Token}
use Rattle.herm_syntax.specs.declared.definitions.DFact.{DFact}
use Rattle.herm_syntax.specs.declared.definitions.DFact.TheVariants as facts
use Rattle.herm_syntax.specs.declared.definitions.DefForm.{DefForm}
use Rattle.herm_syntax.specs.declared.definitions.DefForm.TheVariants as items
use Rattle.herm_syntax.specs.declared.definitions.DefItem.{DefItem}
use Rattle.herm_syntax.specs.declared.definitions.Field.{Field}
use Rattle.herm_syntax.specs.declared.definitions.ParamForm.{ParamForm}
use Rattle.herm_syntax.specs.declared.definitions.RaiseForm.{RaiseForm}
use Rattle.herm_syntax.specs.declared.definitions.ShapeForm.{ShapeForm}
use Rattle.herm_syntax.specs.declared.definitions.ShapeForm.TheVariants as shapes
use Rattle.herm_syntax.specs.declared.modules.Module.{Module}
use Rattle.herm_syntax.specs.declared.modules.Module.TheVariants as modules
use Rattle.herm_parser.specs.Along.{◌>>=◌, past_token, past_name, past_each, past_list}
use Rattle.herm_parser.specs.Walk.{walk_body}

-- What stands between an opening and a closing sign.
abbrev pub past_enclosed : (List Token → Option (List Token)) → List Token → Option (List Token)
past_enclosed inner tokens = past_token tokens >>= λ a. inner a >>= λ b. past_token b

abbrev pub past_field : Field → List Token → Option (List Token)
past_field f tokens = past_name f.name tokens >>= λ a. past_token a >>= λ b. past_name f.of b

abbrev pub past_param : ParamForm → List Token → Option (List Token)
past_param p tokens = past_token tokens >>= λ a. past_field p.field a

abbrev pub past_names : List Name → List Token → Option (List Token)
past_names names tokens = past_list past_name names tokens

abbrev pub past_fact : DFact → List Token → Option (List Token)
past_fact (facts.Init p) tokens = past_token tokens >>= λ a. past_enclosed (past_names p.items) a
past_fact (facts.Full p) tokens = past_token tokens >>= λ a. past_enclosed (past_names p.items) a
past_fact (facts.Case p component) tokens = past_token tokens >>= λ a. past_enclosed (λ b. past_names p.items b >>= λ c. past_token c >>= λ d. past_name component d) a

-- A list that is left out where it is empty.
abbrev pub past_facts : List DFact → List Token → Option (List Token)
past_facts [] tokens = Some tokens
past_facts (f ∷ fs) tokens = past_enclosed (past_list past_fact (f ∷ fs)) tokens

abbrev pub past_keep : Name → List Token → Option (List Token)
past_keep name tokens = past_token tokens >>= λ a. past_enclosed (past_name name) a

abbrev pub past_kept : List Name → List Token → Option (List Token)
past_kept [] tokens = Some tokens
past_kept (n ∷ ns) tokens = past_enclosed (past_list past_keep (n ∷ ns)) tokens

abbrev pub past_raising : RaiseForm → List Token → Option (List Token)
past_raising r tokens = past_name r.name tokens >>= λ a. past_kept r.keeps.items a

abbrev pub past_raisings : List RaiseForm → List Token → Option (List Token)
past_raisings [] tokens = Some tokens
past_raisings (r ∷ rs) tokens = past_token tokens >>= λ a. past_enclosed (past_list past_raising (r ∷ rs)) a

abbrev pub past_shape : ShapeForm → List Token → Option (List Token)
past_shape (shapes.Names names) tokens = past_token tokens >>= λ a. past_enclosed (past_names names.items) a
past_shape (shapes.Fields fs) tokens = past_token tokens >>= λ a. past_enclosed (past_list past_field fs.items) a
past_shape (shapes.Cases fs) tokens = past_token tokens >>= λ a. past_enclosed (past_list past_field fs.items) a
past_shape (shapes.Rows row keys) tokens = past_token tokens >>= λ a. past_token a >>= λ b. past_name row b >>= λ c. past_token c >>= λ d. past_enclosed (past_names keys.items) d
past_shape (shapes.Inport message fs) tokens = past_token tokens >>= λ a. past_token a >>= λ b. past_name message b >>= λ c. past_facts fs.items c
past_shape (shapes.Outport port) tokens = past_token tokens >>= λ a. past_token a >>= λ b. past_name port b
past_shape (shapes.CallMessage params raises) tokens = past_token tokens >>= λ a. past_enclosed (past_list past_param params.items) a >>= λ b. past_raisings raises.items b

abbrev pub past_definition : Name → DefForm → List Token → Option (List Token)
past_definition name (items.Shaped shape) tokens = past_token tokens >>= λ a. past_name name a >>= λ b. past_token b >>= λ c. past_shape shape c >>= λ d. past_token d
past_definition name items.Exception tokens = past_token tokens >>= λ a. past_name name a >>= λ b. past_token b

abbrev pub past_item : DefItem → List Token → Option (List Token)
past_item i tokens = past_definition i.name i.form tokens

abbrev pub past_variables : List Field → List Token → Option (List Token)
past_variables [] tokens = Some tokens
past_variables (v ∷ vs) tokens = past_token tokens >>= λ a. past_list past_field (v ∷ vs) a >>= λ b. past_token b

-- The statements of a process are numbered from 1 on.
abbrev pub past_module : Module → List Token → Option (List Token)
past_module (modules.Definitions name list) tokens = past_token tokens >>= λ a. past_name name a >>= λ b. past_enclosed (past_each past_item list.items) b
past_module (modules.Process name port vars body) tokens =
    past_token tokens >>= λ a. past_name name a >>= λ b. past_enclosed (past_field port) b >>= λ c. past_enclosed (λ d. past_variables vars.items d >>= λ e. walk_body body.items 1 e >>= λ w. Some w.1) c
