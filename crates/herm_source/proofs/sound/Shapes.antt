-- Work lists have inports and callmessages alone, loops have full rows, and whether a call is open: what forms and edges keep.
use Rattle.std.proofs.Common.{◌≡◌, inl, inr, ◌⊎◌, ℕ, List, [], ◌∷◌, ◌++◌, Bool, true, false, cond, Option, Some, refl, sym, subst}
use Rattle.herm_model.specs.Lists.{IsIn}
use Rattle.herm_model.specs.Values.{Kind, Cell, cell, Parts, no_parts, gap, part}
use Rattle.herm_model.specs.Typed.{Fits, many}
use Rattle.herm_model.specs.Finalising.{waits, pending, pending_in}
use Rattle.herm_model.proofs.Lists.{in-append_cases, in-filter_from}
use Rattle.herm_forms.specs.Frames.{Name, Loop, Frame}
use Rattle.herm_forms.specs.Modules.{Module}
use Rattle.herm_forms.proofs.KeptBodies.{LetsGo, IsKept, AnyLoops, FewerLoops}
use Rattle.herm_source.specs.Local.{row_type, IsItem}
use Rattle.herm_model.specs.Statements.{Differ}
use Rattle.herm_source.proofs.sound.LoopLists.{numbers, fewer-differ}

abbrev pub AreItems : List (Cell Name) → Type 0
AreItems cs = (item : Cell Name) → IsIn item cs → IsItem item

both-items : (cs ds : List (Cell Name)) → AreItems cs → AreItems ds → AreItems (cs ++ ds)
both-items cs ds a b item h = by (in-append_cases item cs ds h)
  where
    by : IsIn item cs ⊎ IsIn item ds → IsItem item
    by (inl h) = a item h
    by (inr h) = b item h

own-item : (n : Name) (k : Kind) (b : Bool) → waits k ≡ b → AreItems (cond b (cell n k no_parts ∷ []) [])
own-item n k true w item (inl is) = subst IsItem (sym is) w
own-item n k true w item (inr h) = absurd h
own-item n k false w item h = absurd h

mutual
  pending-items : (c : Cell Name) → AreItems (pending c)
  pending-items (cell n k ps) = both-items (cond (waits k) (cell n k no_parts ∷ []) []) (pending_in ps) (own-item n k (waits k) refl) (pending-items-in ps)

  pending-items-in : (ps : Parts Name) → AreItems (pending_in ps)
  pending-items-in no_parts = λ item h. absurd h
  pending-items-in (gap ps) = pending-items-in ps
  pending-items-in (part c ps) = both-items (pending c) (pending_in ps) (pending-items c) (pending-items-in ps)

module _ (c : Module) where
  -- the rows that the loops have yet to visit are full
  abbrev pub LoopsFit : List (Loop Name) → Type 0
  LoopsFit loops = (l : Loop Name) → IsIn l loops → (t : ℕ) × (row_type c l.statement ≡ Some t) × Fits c.types (many t) l.rows

  -- and no two are of one loop
  abbrev pub AreLists : List (Loop Name) → Type 0
  AreLists loops = LoopsFit loops × Differ (numbers loops)

  module _ (call : Option ℕ) where
    -- what is so but of the loops, and with them
    abbrev pub IsAtWork : Frame Name → Type 0
    IsAtWork b = AreItems b.work × (b.call ≡ call)

    abbrev pub IsShaped : Frame Name → Type 0
    IsShaped b = AreLists b.loops × AreItems b.work × (b.call ≡ call)

    pub work-kept : IsKept IsAtWork
    work-kept = record {
      letting = record {
        value = λ d b h. (both-items b.work (pending d) h.0 (pending-items d), h.1);
        parts = λ ps b h. (both-items b.work (pending_in ps) h.0 (pending-items-in ps), h.1);
        name = λ m b h. h;
      };
      variables = λ ps b h. h;
      serial = λ s b h. h;
      calls = λ b h. h;
    }

    pub any-work : AnyLoops IsAtWork
    any-work ls b h = h

    pub shape-kept : IsKept IsShaped
    shape-kept = record {
      letting = record {
        value = λ d b h. (h.0, both-items b.work (pending d) h.1 (pending-items d), h.2);
        parts = λ ps b h. (h.0, both-items b.work (pending_in ps) h.1 (pending-items-in ps), h.2);
        name = λ m b h. h;
      };
      variables = λ ps b h. h;
      serial = λ s b h. h;
      calls = λ b h. h;
    }

    pub fewer-shape : FewerLoops IsShaped
    fewer-shape stay b h = (((λ l m. h.0.0 l (in-filter_from (λ (l : Loop Name). stay l.statement) l b.loops m).0), fewer-differ stay b.loops h.0.1), h.1, h.2)

    -- with these loops
    module _ (loops : List (Loop Name)) where
      abbrev pub HasLoops : Frame Name → Type 0
      HasLoops b = IsAtWork b × (b.loops ≡ loops)

      pub loops-kept : IsKept HasLoops
      loops-kept = record {
        letting = record {
          value = λ d b h. (work-kept.letting.value d b h.0, h.1);
          parts = λ ps b h. (work-kept.letting.parts ps b h.0, h.1);
          name = λ m b h. h;
        };
        variables = λ ps b h. h;
        serial = λ s b h. h;
        calls = λ b h. h;
      }

  -- a body whose variables, loops and call are these, and what is let go of it
  module _ (variables : Parts Name) (loops : List (Loop Name)) (call : Option ℕ) where
    abbrev pub OnlyWorks : Frame Name → Type 0
    OnlyWorks b = AreItems b.work × (b.variables ≡ variables) × (b.loops ≡ loops) × (b.call ≡ call)

    pub only-lets : LetsGo OnlyWorks
    only-lets = record {
      value = λ d b h. (both-items b.work (pending d) h.0 (pending-items d), h.1, h.2, h.3);
      parts = λ ps b h. (both-items b.work (pending_in ps) h.0 (pending-items-in ps), h.1, h.2, h.3);
      name = λ m b h. h;
    }
