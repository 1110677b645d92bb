-- What comes in well made, and does not suit, is told of by no entry: another action of the same texts that suits would be the same.
use Rattle.std.proofs.Common.{◌≡◌, ℕ, List, [], ◌∷◌, ◌++◌, Option, Some, None, true, refl, sym, ap, ap₂, subst, ◌∙◌}
use Rattle.std.specs.Prelude.{IsTrue, IsFalse, ⊤}
use Rattle.herm_model.specs.Lists.{all_pass}
use Rattle.herm_model.specs.Types.{TypeTable}
use Rattle.herm_model.specs.Typed.{whole, partly}
use Rattle.herm_model.specs.Values.{Value, cell, a_scalar, a_boolean, no_parts}
use Rattle.herm_model.specs.ValueTexts.{text_of}
use Rattle.herm_model.specs.WellMade.{is_well_made, may_go_on}
use Rattle.herm_model.proofs.Lists.{and-both, both-and, cons-not_nil}
use Rattle.herm_model.proofs.Options.{some-injective, none-not_some}
use Rattle.herm_model.proofs.UntypedSpelling.{value-split}
use Rattle.herm_model.proofs.WellMadeValues.{typed-well_made}
use Rattle.herm_journal.specs.Actions.{Reply, values, raised, gone, make_port, make_process, put, take, close, answer, hear}
use Rattle.herm_journal.specs.Entries.{Text, Record, map_reply, texts_of, more_texts_of, recorded}
use Rattle.herm_journal.specs.Messages.{CellReply, CellAction, OfType, message_of_port, IsMessage, AreFull, types_back, types_kept, IsReplyTo, cells_in}
use Rattle.herm_system.specs.Machines.{Machine}
use Rattle.herm_system.specs.Suiting.{Suits}
use Rattle.herm_process.specs.Entries.{ComesWellMade}

abbrev text_taken : Record → Option (ℕ × Text)
text_taken (take number m) = Some (number, m)
text_taken a = None

abbrev text_heard : Record → Option (ℕ × Reply Text)
text_heard (hear call r) = Some (call, r)
text_heard a = None

abbrev text_back : Reply Text → Option Text
text_back (values t) = Some t
text_back r = None

abbrev text_kept : Reply Text → Option (ℕ × Text)
text_kept (raised e t) = Some (e, t)
text_kept r = None

abbrev rest_of : Text → Text
rest_of [] = []
rest_of (b ∷ bytes) = bytes

abbrev a_true : Value
a_true = cell tt (a_scalar (a_boolean true)) no_parts

-- no well made value has an empty text
not-empty : {A : Type 0} (c : Value) → IsTrue (is_well_made c) → text_of c ≡ [] → A
not-empty c h e = let s = value-split c a_true (text_of a_true) [] h refl refl refl (ap (λ t. t ++ text_of a_true) e) in cons-not_nil _ _ s.1

more-ends : (cs : List Value) → IsFalse (may_go_on (more_texts_of cs))
more-ends [] = refl
more-ends (c ∷ cs) = refl

more-split : (cs ds : List Value) → IsTrue (all_pass is_well_made cs) → IsTrue (all_pass is_well_made ds) → more_texts_of cs ≡ more_texts_of ds → cs ≡ ds
more-split [] [] h g e = refl
more-split [] (d ∷ ds) h g e = cons-not_nil _ _ (sym e)
more-split (c ∷ cs) [] h g e = cons-not_nil _ _ e
more-split (c ∷ cs) (d ∷ ds) h g e =
    let i = and-both (is_well_made c) _ h in
    let j = and-both (is_well_made d) _ g in
    let s = value-split c d (more_texts_of cs) (more_texts_of ds) i.0 j.0 (more-ends cs) (more-ends ds) (ap rest_of e) in
    ap₂ ◌∷◌ s.0 (more-split cs ds i.1 j.1 s.1)

empty-alone : {A : Type 0} (c : Value) (t : Text) → IsTrue (is_well_made c) → text_of c ++ t ≡ [] → A
empty-alone c t h e = not-empty c h (front-empty (text_of c) e)
  where
    front-empty : (s : Text) → s ++ t ≡ [] → s ≡ []
    front-empty [] e = refl
    front-empty (b ∷ s) e = cons-not_nil b (s ++ t) e

texts-split : (cs ds : List Value) → IsTrue (all_pass is_well_made cs) → IsTrue (all_pass is_well_made ds) → texts_of cs ≡ texts_of ds → cs ≡ ds
texts-split [] [] h g e = refl
texts-split [] (d ∷ ds) h g e = empty-alone d (more_texts_of ds) (and-both (is_well_made d) _ g).0 (sym e)
texts-split (c ∷ cs) [] h g e = empty-alone c (more_texts_of cs) (and-both (is_well_made c) _ h).0 e
texts-split (c ∷ cs) (d ∷ ds) h g e =
    let i = and-both (is_well_made c) _ h in
    let j = and-both (is_well_made d) _ g in
    let s = value-split c d (more_texts_of cs) (more_texts_of ds) i.0 j.0 (more-ends cs) (more-ends ds) e in
    ap₂ ◌∷◌ s.0 (more-split cs ds i.1 j.1 s.1)

reply-split : (a b : CellReply ⊤) → IsTrue (all_pass is_well_made (cells_in a)) → IsTrue (all_pass is_well_made (cells_in b)) → map_reply texts_of a ≡ map_reply texts_of b → a ≡ b
reply-split (values cs) (values ds) h g e = ap values (texts-split cs ds h g (some-injective (ap text_back e)))
reply-split (raised i cs) (raised j ds) h g e =
    let x = some-injective (ap text_kept e) in ap₂ raised (ap (λ y. y.0) x) (texts-split cs ds h g (ap (λ y. y.1) x))
reply-split gone gone h g e = refl
reply-split (values cs) (raised j ds) h g e = none-not_some (sym (ap text_back e))
reply-split (values cs) gone h g e = none-not_some (sym (ap text_back e))
reply-split (raised i cs) (values ds) h g e = none-not_some (ap text_back e)
reply-split (raised i cs) gone h g e = none-not_some (sym (ap text_kept e))
reply-split gone (values ds) h g e = none-not_some (ap text_back e)
reply-split gone (raised j ds) h g e = none-not_some (ap text_kept e)

module _ (types : TypeTable) where
  message-well_made : (t : ℕ) (m : Value) → IsMessage types t m → IsTrue (is_well_made m)
  message-well_made t m h = by (message_of_port types t) h.0
    where
      by : (o : Option ℕ) → OfType types o m → IsTrue (is_well_made m)
      by None h = absurd h
      by (Some u) h = typed-well_made types partly u m h

  full-well_made : (ts : List ℕ) (cs : List Value) → AreFull types ts cs → IsTrue (all_pass is_well_made cs)
  full-well_made [] [] h = refl
  full-well_made [] (c ∷ cs) h = absurd h
  full-well_made (t ∷ ts) [] h = absurd h
  full-well_made (t ∷ ts) (c ∷ cs) h = both-and (is_well_made c) _ (typed-well_made types whole t c h.0) (full-well_made ts cs h.1)

  reply-well_made : (call : Option ℕ) (r : CellReply ⊤) → IsReplyTo types call r → IsTrue (all_pass is_well_made (cells_in r))
  reply-well_made call (values cs) h = full-well_made (types_back types call) cs h
  reply-well_made call (raised e cs) h = full-well_made (types_kept types call e) cs h.1
  reply-well_made call gone h = refl

module _ {P : Type 0} (machine : Machine ⊤ P) where
  -- what suits comes well made
  pub suits-same : (x : P) (at : ℕ) (a b : CellAction ⊤) → Suits machine x at a → ComesWellMade b → recorded a ≡ recorded b → Suits machine x at b
  suits-same x at a (make_port made) h w e = tt
  suits-same x at a (make_process code made) h w e = tt
  suits-same x at a (put number m) h w e = tt
  suits-same x at a (close count left) h w e = w
  suits-same x at a (answer call r) h w e = tt
  suits-same x at (take i m) (take j n) h w e =
      let t = some-injective (ap text_taken e) in
      let same = (value-split m n [] [] (message-well_made machine.types h.0 m h.2) w refl refl (ap (λ t. t ++ []) (ap (λ y. y.1) t))).0 in
      (h.0, h.1, subst (λ v. IsMessage machine.types h.0 v) same h.2)
  suits-same x at a (take j n) h w e = none-not_some (ap text_taken e)
  suits-same x at (hear i m) (hear j n) h w e =
      let t = some-injective (ap text_heard e) in
      let same = reply-split m n (reply-well_made machine.types (h.0).call_type m h.3) w (ap (λ y. y.1) t) in
      (h.0, h.1, h.2 ∙ ap (λ y. y.0) t, subst (λ r. IsReplyTo machine.types (h.0).call_type r) same h.3)
  suits-same x at a (hear j n) h w e = none-not_some (ap text_heard e)
