pub mod MembersMore
pub mod Membership
