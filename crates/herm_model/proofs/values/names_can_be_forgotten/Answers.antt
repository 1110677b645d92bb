use Rattle.std.proofs.Common.{ap, ◌∙◌, length}
use Rattle.herm_model.specs.Finalising.{finalised}
use Rattle.herm_model.proofs.Lists.{length-map}
use Rattle.herm_model.proofs.Renaming.{cell_at-rename, read_at-rename, tells-rename, set_at-rename, change_at-rename, cells_at-rename, clear_all-rename, joined-rename, without_part-rename, has_key-rename, place_of_key-rename, finalised-rename, pending-rename, count-rename, copy_from-rename, polymorph_depth-rename, key_of-rename, text_of-rename}
use Rattle.herm_model.proofs.Typing.{IsOf-renamed, renamed-IsOf}
use Rattle.herm_model.proofs.values.names_can_be_forgotten.Goals as goal

pub returns-clause-parts : goal.returns-clause-parts
returns-clause-parts c = λ ps. record { cells = λ p. cell_at-rename (λ n. tt) p ps; read = λ p. read_at-rename (λ n. tt) p ps; facts = λ f. tells-rename (λ n. tt) ps f; changes = λ p o. set_at-rename (λ n. tt) p o ps; through = λ p f g e. change_at-rename (λ n. tt) p f g e ps; several = λ paths. cells_at-rename (λ n. tt) paths ps; cleared = λ paths. clear_all-rename (λ n. tt) paths ps; added = λ qs. joined-rename (λ n. tt) ps qs; removed = λ i. without_part-rename (λ n. tt) i ps; keys = λ key k. has_key-rename (λ n. tt) key k ps; places = λ key k. place_of_key-rename (λ n. tt) key k ps }

pub returns-clause-cells : goal.returns-clause-cells
returns-clause-cells c = λ x. record { finalised_names = ap length (finalised-rename (λ n. tt) x) ∙ length-map (λ n. tt) (finalised x); waiting = pending-rename (λ n. tt) x; cells = count-rename (λ n. tt) x; copies = λ name s. copy_from-rename (λ n. tt) name s x; depth = polymorph_depth-rename (λ n. tt) x; key = λ key. key_of-rename (λ n. tt) key x; types = λ d table t. (IsOf-renamed (λ n. tt) table d t x, renamed-IsOf (λ n. tt) table d t x); text = text_of-rename (λ n. tt) x }
