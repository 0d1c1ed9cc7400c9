-- What says the same as an accepted report is accepted, where its envelope is sound and no two of its objects have one `@id`.
pub mod RequiredMembers
pub mod AcceptedShape
pub mod Accepted
