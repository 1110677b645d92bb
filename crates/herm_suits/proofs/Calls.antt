-- What a call's type says, and whether a reply is one to it.
use Rattle.std.proofs.Common.{◌≡◌, ◌↔◌, ℕ, List, [], Bool, false, ◌&&◌, Option, Some, None, slice_get, IsTrue, refl, sym, ap, ◌∙◌}
use Rattle.herm_model.specs.Lists.{list_of}
use Rattle.herm_model.specs.Types.{Shape, TypeTable}
use Rattle.herm_model.specs.Calls.{parameters_of, raises_of, kept_for}
use Rattle.herm_model.specs.Values.{Cell}
use Rattle.herm_journal.specs.Actions.{values, raised, gone}
use Rattle.herm_journal.specs.Messages.{CellReply, IsReplyTo, types_back, types_kept, raises_for}
use Rattle.herm_model.proofs.Lists.{and-both, both-and}
use Rattle.herm_suits.specs.Decided.{are_full, returned_types, types_at, is_declared, is_reply}
use Rattle.herm_suits.proofs.Decides.{decided-full, full-decided}

module _ {N : Type 0} (table : TypeTable) where
  pub decided-reply : (call : Option ℕ) (r : CellReply N) → IsTrue (is_reply table call r) → IsReplyTo table call r
  decided-reply call (values cs) h = decided-full table (types_back table call) cs h
  decided-reply call (raised e cs) h = let b = and-both (is_declared (raises_for table call) e) (are_full table (types_kept table call e) cs) h in (b.0, decided-full table (types_kept table call e) cs b.1)
  decided-reply call gone h = tt

  pub reply-decided : (call : Option ℕ) (r : CellReply N) → IsReplyTo table call r → IsTrue (is_reply table call r)
  reply-decided call (values cs) h = full-decided table (types_back table call) cs h
  reply-decided call (raised e cs) h = both-and (is_declared (raises_for table call) e) (are_full table (types_kept table call e) cs) h.0 (full-decided table (types_kept table call e) cs h.1)
  reply-decided call gone h = refl

  pub replies : (call : Option ℕ) (r : CellReply N) (b : Bool) → b ≡ is_reply table call r → IsTrue b ↔ IsReplyTo table call r
  replies call r b e = (λ h. decided-reply call r (sym e ∙ h), λ h. e ∙ reply-decided call r h)

  -- a call's type, and a type that is none
  pub back-is : (t : ℕ) (s : Shape) (cs : List (Cell N)) (b : Bool) → slice_get table t ≡ Some s → b ≡ are_full table (returned_types (parameters_of s)) cs → b ≡ is_reply table (Some t) (values cs)
  back-is t s cs b e h = h ∙ ap (λ o. are_full table (returned_types (list_of parameters_of o)) cs) (sym e)

  pub raised-is : (t : ℕ) (s : Shape) (x : ℕ) (cs : List (Cell N)) (b : Bool) → slice_get table t ≡ Some s → b ≡ (is_declared (raises_of s) x && are_full table (types_at (parameters_of s) (kept_for (raises_of s) x)) cs) → b ≡ is_reply table (Some t) (raised x cs)
  raised-is t s x cs b e h = h ∙ ap (λ o. is_declared (list_of raises_of o) x && are_full table (types_at (list_of parameters_of o) (kept_for (list_of raises_of o) x)) cs) (sym e)

  pub no-call : (t : ℕ) (cs : List (Cell N)) (b : Bool) → slice_get table t ≡ None → b ≡ are_full table [] cs → b ≡ is_reply table (Some t) (values cs)
  no-call t cs b e h = h ∙ ap (λ o. are_full table (returned_types (list_of parameters_of o)) cs) (sym e)

  pub none-raised : (t x : ℕ) (cs : List (Cell N)) → slice_get table t ≡ None → false ≡ is_reply table (Some t) (raised x cs)
  none-raised t x cs e = ap (λ o. is_declared (list_of raises_of o) x && are_full table (types_at (list_of parameters_of o) (kept_for (list_of raises_of o) x)) cs) (sym e)

pub ruleset calls = (back-is, raised-is, no-call, none-raised)
