-- Which messages a port takes and which replies a call does not depend on the names of cells.
use Rattle.std.proofs.Common.{◌≡◌, inl, inr, ℕ, List, [], ◌∷◌, map, ◌&&◌, Option, Some, None, refl, sym, ap₂, subst}
use Rattle.std.specs.Prelude.{IsTrue, ◌↔◌}
use Rattle.herm_model.specs.Lists.{IsIn, all_pass}
use Rattle.herm_model.specs.Paths.{Fact, init, case}
use Rattle.herm_model.specs.Types.{TypeTable}
use Rattle.herm_model.specs.Facts.{declared_facts}
use Rattle.herm_model.specs.Values.{Cell, Parts, no_parts, part}
use Rattle.herm_model.specs.CellNames.{rename, rename_in}
use Rattle.herm_model.specs.FactsOfValues.{HasExactly}
use Rattle.herm_model.specs.Typed.{whole, partly}
use Rattle.herm_model.specs.WellMade.{is_well_made}
use Rattle.herm_model.proofs.Lists.{both-and}
use Rattle.herm_model.proofs.WellMadeValues.{typed-well_made, well_made-rename}
use Rattle.herm_model.proofs.Renaming.{has_value-rename, tells-rename}
use Rattle.herm_model.proofs.Typing.{IsOf-renamed, renamed-IsOf}
use Rattle.herm_journal.specs.Actions.{values, raised, gone}
use Rattle.herm_journal.specs.Messages.{CellReply, message_of_port, OfType, IsMessage, AreFull, types_back, types_kept, IsReplyTo}
use Rattle.herm_journal.specs.Renaming.{rename_reply}

module _ {N M : Type 0} (f : N → M) where
  exactly-renamed : (ps : Parts N) (facts : Fact → Type 0) → HasExactly ps facts → HasExactly (rename_in f ps) facts
  exactly-renamed ps facts h = record {
    values = λ p. subst (λ b. IsTrue b ↔ facts (init p)) (sym (has_value-rename f ps p)) (h.values p);
    components = λ p c is. subst IsTrue (sym (tells-rename f ps (case p c))) (h.components p c is);
  }

  renamed-exactly : (ps : Parts N) (facts : Fact → Type 0) → HasExactly (rename_in f ps) facts → HasExactly ps facts
  renamed-exactly ps facts h = record {
    values = λ p. subst (λ b. IsTrue b ↔ facts (init p)) (has_value-rename f ps p) (h.values p);
    components = λ p c is. subst IsTrue (tells-rename f ps (case p c)) (h.components p c is);
  }

  of_type-renamed : (types : TypeTable) (o : Option ℕ) (m : Cell N) → OfType types o m → OfType types o (rename f m)
  of_type-renamed types None m h = h
  of_type-renamed types (Some t) m h = IsOf-renamed f types partly t m h

  renamed-of_type : (types : TypeTable) (o : Option ℕ) (m : Cell N) → OfType types o (rename f m) → OfType types o m
  renamed-of_type types None m h = h
  renamed-of_type types (Some t) m h = renamed-IsOf f types partly t m h

  pub message-renamed : (types : TypeTable) (port : ℕ) (m : Cell N) → IsMessage types port m → IsMessage types port (rename f m)
  message-renamed types port m h =
      (of_type-renamed types (message_of_port types port) m h.0, exactly-renamed (part m no_parts) (λ g. IsIn g (declared_facts types port (0 ∷ []))) h.1)

  pub renamed-message : (types : TypeTable) (port : ℕ) (m : Cell N) → IsMessage types port (rename f m) → IsMessage types port m
  renamed-message types port m h =
      (renamed-of_type types (message_of_port types port) m h.0, renamed-exactly (part m no_parts) (λ g. IsIn g (declared_facts types port (0 ∷ []))) h.1)

  full-renamed : (types : TypeTable) (ts : List ℕ) (cs : List (Cell N)) → AreFull types ts cs → AreFull types ts (map (rename f) cs)
  full-renamed types [] [] h = h
  full-renamed types [] (c ∷ cs) h = h
  full-renamed types (t ∷ ts) [] h = h
  full-renamed types (t ∷ ts) (c ∷ cs) h = (IsOf-renamed f types whole t c h.0, full-renamed types ts cs h.1)

  renamed-full : (types : TypeTable) (ts : List ℕ) (cs : List (Cell N)) → AreFull types ts (map (rename f) cs) → AreFull types ts cs
  renamed-full types [] [] h = h
  renamed-full types [] (c ∷ cs) h = h
  renamed-full types (t ∷ ts) [] h = h
  renamed-full types (t ∷ ts) (c ∷ cs) h = (renamed-IsOf f types whole t c h.0, renamed-full types ts cs h.1)

  pub reply-renamed : (types : TypeTable) (call : Option ℕ) (r : CellReply N) → IsReplyTo types call r → IsReplyTo types call (rename_reply f r)
  reply-renamed types call (values cs) h = full-renamed types (types_back types call) cs h
  reply-renamed types call (raised e cs) h = (h.0, full-renamed types (types_kept types call e) cs h.1)
  reply-renamed types call gone h = h

  pub renamed-reply : (types : TypeTable) (call : Option ℕ) (r : CellReply N) → IsReplyTo types call (rename_reply f r) → IsReplyTo types call r
  renamed-reply types call (values cs) h = renamed-full types (types_back types call) cs h
  renamed-reply types call (raised e cs) h = (h.0, renamed-full types (types_kept types call e) cs h.1)
  renamed-reply types call gone h = h

  -- and which values are well made
  pub well_made-forgotten : (cs : List (Cell N)) → all_pass is_well_made (map (rename f) cs) ≡ all_pass is_well_made cs
  well_made-forgotten [] = refl
  well_made-forgotten (c ∷ cs) = ap₂ ◌&&◌ (well_made-rename f c) (well_made-forgotten cs)

-- messages of a port are well made
module _ {N : Type 0} (types : TypeTable) where
  of_type-well_made : (o : Option ℕ) (m : Cell N) → OfType types o m → IsTrue (is_well_made m)
  of_type-well_made None m h = absurd h
  of_type-well_made (Some t) m h = typed-well_made types partly t m h

  pub messages-well_made : (t : ℕ) (ms : List (Cell N)) → ((m : Cell N) → IsIn m ms → IsMessage types t m) → IsTrue (all_pass is_well_made ms)
  messages-well_made t [] h = refl
  messages-well_made t (m ∷ ms) h =
      both-and (is_well_made m) _ (of_type-well_made (message_of_port types t) m (h m (inl refl)).0) (messages-well_made t ms (λ n member. h n (inr member)))
