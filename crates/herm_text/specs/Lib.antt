pub mod AskedView
pub mod NamelessEntries
pub mod ReportTexts
pub mod StringsReadBack
