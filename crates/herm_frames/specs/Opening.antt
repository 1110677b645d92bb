-- What a variant or a polymorph holds.
use Rattle.std.specs.Prelude.{ℕ, Bool, true, false, nat_eq, Option, option_map, ⊤}
use Rattle.herm_model.specs.Values.{a_polymorph, Cell, cell, no_parts, part, Value}
use Rattle.herm_forms.specs.Forms.{Opened, content_of}
use Rattle.std.specs.Option.{is_some}

-- a content with the name of the cell that it was in
abbrev pub opened : Option Value → Option (Opened ⊤)
opened o = option_map (λ v. record { name = tt; content = v }) o

-- whether a polymorph has a content of this type
abbrev pub has_content : {N : Type 0} → ℕ → Cell N → Bool
has_content t c = is_some (content_of t c)
