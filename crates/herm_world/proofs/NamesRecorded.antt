-- What is recorded does not depend on names.
use Rattle.std.proofs.Common.{◌≡◌, List, [], ◌∷◌, ◌++◌, map, refl, ap, ap₂}
use Rattle.herm_model.specs.CellNames.{rename}
use Rattle.herm_model.specs.ValueTexts.{text_of}
use Rattle.herm_model.specs.Values.{Cell, Name}
use Rattle.herm_model.proofs.Renaming.{text_of-rename}
use Rattle.herm_journal.specs.Actions.{values, raised, gone, make_port, make_process, put, take, close, answer, hear}
use Rattle.herm_journal.specs.Entries.{map_reply, texts_of, more_texts_of, recorded}
use Rattle.herm_journal.specs.Messages.{CellReply, CellAction}
use Rattle.herm_journal.specs.Renaming.{rename_reply, rename_action, forget_name}

texts-forget : (cs : List (Cell Name)) → more_texts_of (map (rename forget_name) cs) ≡ more_texts_of cs
texts-forget [] = refl
texts-forget (c ∷ cs) = ap₂ (λ t u. 44 ∷ (t ++ u)) (text_of-rename forget_name c) (texts-forget cs)

all_texts-forget : (cs : List (Cell Name)) → texts_of (map (rename forget_name) cs) ≡ texts_of cs
all_texts-forget [] = refl
all_texts-forget (c ∷ cs) = ap₂ (λ t u. t ++ u) (text_of-rename forget_name c) (texts-forget cs)

reply-forget : (r : CellReply Name) → map_reply texts_of (rename_reply forget_name r) ≡ map_reply texts_of r
reply-forget (values cs) = ap values (all_texts-forget cs)
reply-forget (raised e cs) = ap (raised e) (all_texts-forget cs)
reply-forget gone = refl

left-forget : (cs : List (Cell Name)) → map text_of (map (rename forget_name) cs) ≡ map text_of cs
left-forget [] = refl
left-forget (c ∷ cs) = ap₂ (λ t u. t ∷ u) (text_of-rename forget_name c) (left-forget cs)

pub recorded-forget : (a : CellAction Name) → recorded (rename_action forget_name a) ≡ recorded a
recorded-forget (make_port made) = refl
recorded-forget (make_process code made) = refl
recorded-forget (put number m) = ap (put number) (text_of-rename forget_name m)
recorded-forget (take number m) = ap (take number) (text_of-rename forget_name m)
recorded-forget (close count left) = ap (close count) (left-forget left)
recorded-forget (answer call r) = ap (answer call) (reply-forget r)
recorded-forget (hear call r) = ap (hear call) (reply-forget r)
