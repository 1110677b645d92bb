-- What the degrees and contents of the code stand for.
use Rattle.herm_model.specs.Typed as typed
use Rattle.herm_suits.specs.declared.layouts.Degree.{Degree}
use Rattle.herm_suits.specs.declared.layouts.Degree.TheVariants.{Whole, Partly}
use Rattle.herm_suits.specs.declared.layouts.Content.{Content}
use Rattle.herm_suits.specs.declared.layouts.Content.TheVariants.{Value, Nothing}

abbrev pub degree_view : Degree → typed.Degree
degree_view Whole = typed.whole
degree_view Partly = typed.partly

abbrev pub content_view : Content → typed.Content
content_view (Value d t) = typed.a_value (degree_view d) t.0
content_view Nothing = typed.nothing
