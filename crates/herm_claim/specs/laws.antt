pub mod ClaimLaws
