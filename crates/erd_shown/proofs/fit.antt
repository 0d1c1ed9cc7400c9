pub mod ExactTexts
pub mod FitMembers
