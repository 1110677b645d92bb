-- What is asked for besides the text of a run.
use Rattle.herm_system.specs.RunTexts as language
use Rattle.herm_system.specs.RunTexts.{plainly, with_summary, the_journal}
use Rattle.herm_text.specs.declared.run_texts.Asked.{Asked}
use Rattle.herm_text.specs.declared.run_texts.Asked.TheVariants.{Plain, WithSummary, Journal}

abbrev pub asked_view : Asked → language.Asked
asked_view Plain = plainly
asked_view WithSummary = with_summary
asked_view Journal = the_journal
