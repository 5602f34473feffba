pub mod Reports
pub mod Drafts
