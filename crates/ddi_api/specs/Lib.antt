pub mod Routes
pub mod Credentials
pub mod FeedbackBodies
pub mod ConfigBodies
pub mod Reading
pub mod Objects
pub mod Replies
pub mod Letters
