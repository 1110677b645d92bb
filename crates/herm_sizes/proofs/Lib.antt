-- How many statements stand within a part of the text, as the code counts them.
pub mod CountedForms
